-- What the refusals of entries for missing rights name, by what the ledger says that their processes hold.
--     named_by_word, need_by_word      a wake's call names and needs what the call does that its thread waits in
--     refusals_are_exact      the refusals of an entry of a legal history are exact
use Rattle.std.proofs.Common.{◌≡◌, ◌≢◌, inl, inr, ℕ, true, List, [], ◌∷◌, ◌++◌, Option, Some, IsSome, refl, sym, ap, subst, ◌∙◌}
use Rattle.std.specs.FinMap.{get}
use Rattle.abi_base.specs.declared.errno.Errno.TheVariants.{Fault, Notcapable}
use Rattle.abi_structures.specs.declared.events.What.{What}
use Rattle.abi_structures.specs.declared.events.What.TheVariants.{Condvar, LockRdlock, LockWrlock}
use Rattle.tree_model.specs.Grants.{MayBegin}
use Rattle.abi_types.specs.declared.call.Call.{Call}
use Rattle.abi_types.specs.declared.call.Call.TheVariants.{Poll}
use Rattle.abi_types.specs.declared.constants.Constants.{Constants}
use Rattle.abi_types.specs.declared.descriptor.Denial.{Denial}
use Rattle.abi_types.specs.declared.descriptor.Descriptor.{Descriptor}
use Rattle.abi_types.specs.declared.needed.Needed.{Needed}
use Rattle.abi_types.specs.declared.reply.Answer.{Answer}
use Rattle.abi_types.specs.declared.reply.Answer.TheVariants as answer
use Rattle.abi_types.specs.declared.reply.Reply.{Reply}
use Rattle.abi_types.specs.declared.wake.WakeIn.{WakeIn}
use Rattle.abi_types.specs.declared.wake.WakeIn.TheVariants as wake
use Rattle.abi_types.specs.declared.who.Who.{Who}
use Rattle.run_types.specs.declared.history.Act.{Act}
use Rattle.run_types.specs.declared.history.Act.TheVariants as act
use Rattle.run_types.specs.declared.history.Entry.{Entry}
use Rattle.run_types.specs.declared.launch.Launch.{Launch}
use Rattle.kernel_model.specs.Calls.{named, need}
use Rattle.kernel_model.specs.Families.Locks.{with_lock_word, with_word}
use Rattle.kernel_model.specs.Families.WaitCalls.{fds_of, wait_row, wait_rows}
use Rattle.kernel_model.specs.Laws.{HasAll, IsFirstLack, IsMet, IsOfFirstLack, IsOfPath}
use Rattle.kernel_model.specs.Need.{missing}
use Rattle.kernel_model.specs.Reply.{denied, refused}
use Rattle.kernel_model.specs.State.{State, Table}
use Rattle.kernel_model.specs.Waits.{resumed}
use Rattle.kernel_model.proofs.Lists.{all_weaker}
use Rattle.kernel_model.proofs.Refusals.{same_reply}
use Rattle.kernel_model.proofs.Tests.{none_is_no, not_true}
use Rattle.run_model.specs.Confined.{ActIsConfined, CallIsConfined, EntryIsConfined, WakeIsConfined}
use Rattle.run_model.specs.Legal.{Legal}
use Rattle.run_model.specs.World.{apply, who_of, world}
use Rattle.run_model.proofs.Confinements.{legal_is_confined}
use Rattle.run_model.proofs.Histories.{legal_front}
use Rattle.authority_laws.specs.Laws.{Reports}
use Rattle.authority_laws.specs.Ledger.{Row}
use Rattle.authority_laws.specs.Recorded.{Replies, held_before, ledger}
use Rattle.authority_laws.proofs.Histories.{ledger_reports}
use Rattle.confinement_laws.specs.Headline.{Answers, HoldsAll, IsFirstUnmet, IsMetBy, LacksExactly, NamesFirstUnmet, RefusalsAreExact, is_of_rights}
use Rattle.confinement_laws.proofs.HeldRights.{held_lacks_exactly}

-- ---- the word of a lock

row_by_word : (word : ℕ) (what : What) (rows : List Needed) → wait_row (with_lock_word word what) rows ≡ wait_row what rows
row_by_word word (Condvar condvar condvar_word lock lock_word condvar_scope lock_scope) rows = refl
row_by_word word (LockRdlock lock old scope) rows = refl
row_by_word word (LockWrlock lock old scope) rows = refl
row_by_word word _ rows = refl

-- another word of its lock changes nothing of what a call needs
pub need_by_word : (word : ℕ) (call : Call) → need (with_word word call) ≡ need call
need_by_word word (Poll []) = refl
need_by_word word (Poll (first ∷ rest)) = row_by_word word first.what (wait_rows rest)
need_by_word word _ = refl

-- and nothing of the descriptors that it names
pub named_by_word : (word : ℕ) (call : Call) → named (with_word word call) ≡ named call
named_by_word word (Poll []) = refl
named_by_word word (Poll (first ∷ rest)) = ap fds_of (row_by_word word first.what (wait_rows rest))
named_by_word word _ = refl

unworded : (held : Row) (word : ℕ) (call : Call) (denial : Denial) → NamesFirstUnmet held (with_word word call) denial → NamesFirstUnmet held call denial
unworded held word call denial unmet = record {
  row = unmet.row;
  d = unmet.d;
  all = subst (HoldsAll held) (named_by_word word call) unmet.all;
  first = subst (λ rows. IsFirstUnmet held rows unmet.row unmet.d) (need_by_word word call) unmet.first;
  names = unmet.names;
  lacks = unmet.lacks;
}

-- ---- what is held is what the table has

module _ (table : Table) (held : Row) (same : (n : ℕ) → get table n ≡ held n) where
  all_held : (fds : List ℕ) → HasAll table fds → HoldsAll held fds
  all_held fds all =
      all_weaker (λ fd. IsSome (get table fd)) (λ fd. IsSome (held fd)) (λ fd there. subst (λ (o : Option Descriptor). IsSome o) (same fd) there) fds all

  all_there : (fds : List ℕ) → HoldsAll held fds → HasAll table fds
  all_there fds all =
      all_weaker (λ fd. IsSome (held fd)) (λ fd. IsSome (get table fd)) (λ fd there. subst (λ (o : Option Descriptor). IsSome o) (sym (same fd)) there) fds all

  first_held : (rows : List Needed) (row : Needed) (d : Descriptor) → IsFirstLack table rows row d → IsFirstUnmet held rows row d
  first_held rows row d first = record {
    before = first.before;
    after = first.after;
    splits = first.splits;
    met = all_weaker (IsMet table) (IsMetBy held) (λ one met. (met.0, sym (same one.fd) ∙ met.1, met.2)) first.before first.met;
    there = sym (same row.fd) ∙ first.there;
    lacks = first.lacks;
  }

  first_there : (rows : List Needed) (row : Needed) (d : Descriptor) → IsFirstUnmet held rows row d → IsFirstLack table rows row d
  first_there rows row d first = record {
    before = first.before;
    after = first.after;
    splits = first.splits;
    met = all_weaker (IsMetBy held) (IsMet table) (λ one met. (met.0, same one.fd ∙ met.1, met.2)) first.before first.met;
    there = same row.fd ∙ first.there;
    lacks = first.lacks;
  }

-- ---- a call that is confined

module _ (constants : Constants) (S : State) (who : Who) (call : Call) (given : Answer) (U : State) (confined : CallIsConfined constants S who call given U)
    (held : Row) (same : (table : Table) → get S.tables who.pid ≡ Some table → (n : ℕ) → get table n ≡ held n)
    (exactly : (n : ℕ) (d : Descriptor) → held n ≡ Some d → (row : Needed) → LacksExactly d row) where
  lack_unmet : (denial : Denial) → IsOfFirstLack S who call denial → NamesFirstUnmet held call denial
  lack_unmet denial lack = record {
    row = lack.row;
    d = lack.d;
    all = all_held lack.table held (same lack.table lack.own) (named call) lack.all;
    first = first_held lack.table held (same lack.table lack.own) (need call) lack.row lack.d lack.first;
    names = lack.names;
    lacks = exactly lack.row.fd lack.d (sym (same lack.table lack.own lack.row.fd) ∙ lack.first.there) lack.row;
  }

  -- a denial of a path is of no right
  path_of_rights : {X : Type 0} (denial : Denial) → IsOfPath S who call denial → is_of_rights denial ≡ true → X
  path_of_rights denial path rights = absurd (not_true (sym (ap is_of_rights path.2) ∙ rights))

  names_unmet : (reply : Reply) (denial : Denial) → given ≡ answer.Reply reply → reply.denial ≡ Some denial → is_of_rights denial ≡ true
      → NamesFirstUnmet held call denial
  names_unmet reply denial is denies rights =
      elim (confined.only reply denial is denies) [
        | inl lack ↦ lack_unmet denial lack
        | inr path ↦ path_of_rights denial path rights
      ]

  unmet_refused : (table : Table) → get S.tables who.pid ≡ Some table → (row : Needed) (d : Descriptor) → HoldsAll held (named call)
      → IsFirstUnmet held (need call) row d → given ≡ answer.Reply (denied (missing d row))
  unmet_refused table own row d all first =
      confined.lacking table row d own (all_there table held (same table own) (named call) all) (first_there table held (same table own) (need call) row d first)

-- ---- an entry of a legal history

fault_is_other : Fault ≢ Notcapable
fault_is_other e = cc

module _ (launch : Launch) (front : List Entry) (e : Entry) (rest : List Entry) (begins : MayBegin launch.tree launch.grants)
    (legal : Legal launch (front ++ e ∷ rest)) where
  abbrev constants : Constants
  constants = (world launch front).constants

  abbrev S : State
  S = (world launch front).state

  abbrev who : Who
  who = who_of (world launch front).state e

  abbrev U : State
  U = (apply (world launch front) e).state

  abbrev held : Row
  held = held_before launch front e

  reports : Reports S (ledger launch front)
  reports = ledger_reports launch front begins (legal_front launch front (e ∷ rest) legal)

  same : (table : Table) → get S.tables e.pid ≡ Some table → (n : ℕ) → get table n ≡ held n
  same table own n = reports.tables e.pid table own n

  exactly : (n : ℕ) (d : Descriptor) → held n ≡ Some d → (row : Needed) → LacksExactly d row
  exactly n d here row = held_lacks_exactly launch front begins (legal_front launch front (e ∷ rest) legal) e.pid n d here row

  confined : EntryIsConfined (world launch front) e
  confined = legal_is_confined launch (front ++ e ∷ rest) legal begins front e rest refl

  abbrev Confined : Act → Type 0
  Confined a = ActIsConfined constants S who a U

  call_confined : (call : Call) (given : Answer) → e.act ≡ act.Call call given → CallIsConfined constants S who call given U
  call_confined call given is = subst Confined is confined

  wake_confined : (call : Call) (given : WakeIn) (answered : Answer) → e.act ≡ act.Wake call given answered
      → WakeIsConfined constants S who call given answered U
  wake_confined call given answered is = subst Confined is confined

  -- the call of a wake is, with the word that its lock has now
  woken_confined : (word : ℕ) (call : Call) (answered : Answer) → e.act ≡ act.Wake call (wake.Plain word) answered
      → CallIsConfined constants (resumed S who) who (with_word word call) answered U
  woken_confined word call answered is = (wake_confined call (wake.Plain word) answered is).done word refl

  -- where it can't be done its reply is of the fault
  fault_reply : (call : Call) (reply : Reply) → e.act ≡ act.Wake call wake.Fault (answer.Reply reply) → reply ≡ refused Fault
  fault_reply call reply is = same_reply reply (refused Fault) ((wake_confined call wake.Fault (answer.Reply reply) is).faults refl).0

  -- ---- what a refusal names

  woken_names : (call : Call) (given : WakeIn) (reply : Reply) (denial : Denial) → e.act ≡ act.Wake call given (answer.Reply reply)
      → reply.denial ≡ Some denial → is_of_rights denial ≡ true → NamesFirstUnmet held call denial
  woken_names call (wake.Plain word) reply denial is denies rights =
      unworded held word call denial
      (names_unmet constants (resumed S who) who (with_word word call) (answer.Reply reply) U (woken_confined word call (answer.Reply reply) is) held same
      exactly reply denial refl denies rights)
  woken_names call wake.Fault reply denial is denies rights =
      absurd (none_is_no denial (sym (ap (λ (r : Reply). r.denial) (fault_reply call reply is)) ∙ denies))

  names : (call : Call) (reply : Reply) (denial : Denial) → Replies e call reply → reply.denial ≡ Some denial → is_of_rights denial ≡ true
      → NamesFirstUnmet held call denial
  names call reply denial replies denies rights =
      elim replies [
        | inl called ↦ names_unmet constants S who call (answer.Reply reply) U (call_confined call (answer.Reply reply) called) held same exactly reply denial
            refl denies rights
        | inr woken ↦ woken_names call woken.0 reply denial woken.1 denies rights
      ]

  -- ---- what is refused

  refuses : (call : Call) (given : Answer) (row : Needed) (d : Descriptor) → Answers e call given → HoldsAll held (named call)
      → IsFirstUnmet held (need call) row d → given ≡ answer.Reply (denied (missing d row))
  refuses call given row d answers all first =
      let at = reports.held e.pid row.fd d first.there in
      elim answers [
        | inl called ↦ unmet_refused constants S who call given U (call_confined call given called) held same exactly at.1 at.2 row d all first
        | inr woken ↦ unmet_refused constants (resumed S who) who (with_word woken.0 call) given U (woken_confined woken.0 call given woken.1) held same
            exactly at.1 at.2 row d (subst (HoldsAll held) (sym (named_by_word woken.0 call)) all)
            (subst (λ rows. IsFirstUnmet held rows row d) (sym (need_by_word woken.0 call)) first)
      ]

  -- ---- what NOTCAPABLE tells

  woken_tells : (call : Call) (given : WakeIn) (reply : Reply) → e.act ≡ act.Wake call given (answer.Reply reply) → reply.errno ≡ Notcapable
      → IsSome reply.denial
  woken_tells call (wake.Plain word) reply is lacks = (woken_confined word call (answer.Reply reply) is).reported reply refl lacks
  woken_tells call wake.Fault reply is lacks = absurd (fault_is_other (sym (ap (λ (r : Reply). r.errno) (fault_reply call reply is)) ∙ lacks))

  tells : (call : Call) (reply : Reply) → Replies e call reply → reply.errno ≡ Notcapable → IsSome reply.denial
  tells call reply replies lacks =
      elim replies [
        | inl called ↦ (call_confined call (answer.Reply reply) called).reported reply refl lacks
        | inr woken ↦ woken_tells call woken.0 reply woken.1 lacks
      ]

pub refusals_are_exact : (launch : Launch) (front : List Entry) (e : Entry) (rest : List Entry) → MayBegin launch.tree launch.grants
    → Legal launch (front ++ e ∷ rest) → RefusalsAreExact launch front e
refusals_are_exact launch front e rest begins legal = record {
  exact = names launch front e rest begins legal;
  refused = refuses launch front e rest begins legal;
  told = tells launch front e rest begins legal;
}
