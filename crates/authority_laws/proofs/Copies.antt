-- What a call that succeeded leaves of its process's descriptors, against what they were at that entry.
use Rattle.std.proofs.Common.{◌≡◌, ◌≢◌, inl, inr, ℕ, ◌==◌, true, false, cond, List, [], ◌∷◌, ◌++◌, Option, Some, None, is_some, refl, sym, ap, subst, ◌∙◌}
use Rattle.std.proofs.lemmas.Bool.Decides.{eqb_tells}
use Rattle.std.specs.Prelude.{bit_and, option_map}
use Rattle.std.specs.FinMap.{get}
use Rattle.abi_base.proofs.Bits.{has-meet}
use Rattle.abi_base.specs.declared.errno.Errno.TheVariants.{Success, Badf}
use Rattle.abi_structures.specs.declared.structures.FdStat.{FdStat}
use Rattle.abi_types.specs.declared.reply.Answer.{Answer}
use Rattle.abi_types.specs.declared.reply.Answer.TheVariants as answer
use Rattle.abi_types.specs.declared.call.Call.{Call}
use Rattle.abi_types.specs.declared.call.Call.TheVariants.{FdDup, FdReplace, FdStatPut, FileOpen}
use Rattle.abi_types.specs.declared.call.Lookup.{Lookup}
use Rattle.abi_types.specs.declared.constants.Constants.{Constants}
use Rattle.abi_types.specs.declared.descriptor.Descriptor.{Descriptor}
use Rattle.abi_types.specs.declared.reply.Reply.{Reply}
use Rattle.abi_types.specs.declared.wake.WakeIn.{WakeIn}
use Rattle.abi_types.specs.declared.who.Who.{Who}
use Rattle.run_types.specs.declared.history.Act.TheVariants as act
use Rattle.run_types.specs.declared.history.Entry.{Entry}
use Rattle.run_types.specs.declared.launch.Launch.{Launch}
use Rattle.tree_model.specs.Grants.{MayBegin}
use Rattle.kernel_model.specs.Calls.{named}
use Rattle.kernel_model.specs.Families.DescriptorCalls.{lowest_free, dup_at, dup_of, lowered_to}
use Rattle.kernel_model.specs.Outcome.{Outcome, OnReply}
use Rattle.kernel_model.specs.Proper.{IsIn}
use Rattle.kernel_model.specs.State.{State, Table}
use Rattle.kernel_model.specs.Step.{tick, outcome, step_answer, unreleased, IsStep}
use Rattle.kernel_model.specs.Waits.{may_wait, MayWait}
use Rattle.kernel_model.proofs.DescriptorCalls.{free_is_absent}
use Rattle.kernel_model.proofs.HeldOpens.{HoldsAsMuch, dup_holds, open_holds, spares_all, stat_put_holds}
use Rattle.kernel_model.proofs.Outcomes.{outcome_holds}
use Rattle.kernel_model.proofs.Refusals.{on_reply, absent_is_badf, refusal_is_other}
use Rattle.kernel_model.proofs.Tests.{not_true}
use Rattle.run_model.specs.Legal.{FitsAct, Legal}
use Rattle.run_model.specs.World.{World, guest_of, acted, called_state, turned, who_of, world}
use Rattle.run_model.proofs.Histories.{apply_is, legal_front, legal_next, world_more}
use Rattle.run_model.proofs.Worlds.{world_is_valid}
use Rattle.authority_laws.specs.Laws.{DuplicatesAreEqual, LinesAreExact, ReleaseKeeps, ReplacementsAreEqual, RightsAreLowered}
use Rattle.authority_laws.specs.Ledger.{Row, after_of, with_held, lowered_row, opened_held, granted_row, by_success}
use Rattle.authority_laws.specs.Origins.{IsCopied, IsLowered}
use Rattle.authority_laws.specs.Recorded.{Succeeds, after_at, held_after, held_before}
use Rattle.authority_laws.proofs.Histories.{up_to, world_rows}
use Rattle.authority_laws.proofs.Rows.{row_in, row_of, held_here, held_elsewhere, badf_is_error, mfile_is_error}
use Rattle.authority_laws.proofs.States.{step_row}
use Rattle.authority_laws.proofs.Successes.{has_table, no_memory, no_success}

-- ---- a call that succeeds names descriptors that are there

named_in : (constants : Constants) (S : State) (who : Who) (call : Call) (reply : Reply) (T : State) (fd : ℕ) (table : Table) (o : Option Descriptor)
    → IsStep constants S who call (answer.Reply reply) T → reply.errno ≡ Success → IsIn fd (named call) → get S.tables who.pid ≡ Some table → get table fd ≡ o
    → (d : Descriptor) × (o ≡ Some d)
named_in constants S who call reply T fd table None step success asked own here =
    no_success reply Badf (absent_is_badf constants S who call (answer.Reply reply) T table fd step own asked here) badf_is_error success
named_in constants S who call reply T fd table (Some d) step success asked own here = (d, refl)

named_by : (constants : Constants) (S : State) (who : Who) (call : Call) (reply : Reply) (T : State) (fd : ℕ) (t : Option Table)
    → IsStep constants S who call (answer.Reply reply) T → reply.errno ≡ Success → IsIn fd (named call) → get S.tables who.pid ≡ t
    → (d : Descriptor) × (row_in t fd ≡ Some d)
named_by constants S who call reply T fd None step success asked own = has_table constants S who call reply T step success own
named_by constants S who call reply T fd (Some table) step success asked own =
    named_in constants S who call reply T fd table (get table fd) step success asked own refl

-- ---- the number that fd_dup gives was free

-- a success gives a number under which the process has nothing
abbrev GivesFree : State → ℕ → Outcome → Type 0
GivesFree S p o = OnReply (λ (reply : Reply). reply.errno ≡ Success → row_of S p reply.r1 ≡ None) o.answer

number_free : (S : State) (p : ℕ) (table : Table) (d : Descriptor) (number : Option ℕ) → get S.tables p ≡ Some table → lowest_free table ≡ number
    → GivesFree S p (dup_at p table d number)
number_free S p table d None own free = λ success. absurd (mfile_is_error success)
number_free S p table d (Some number) own free = λ success. ap (λ t. row_in t number) own ∙ free_is_absent table _ 0 number free

dup_free : (S : State) (p : ℕ) (table : Table) (o : Option Descriptor) → get S.tables p ≡ Some table → GivesFree S p (dup_of p table o)
dup_free S p table None own = λ success. absurd (badf_is_error success)
dup_free S p table (Some d) own = number_free S p table d (lowest_free table) own refl

outcome_free : (constants : Constants) (S : State) (who : Who) (fd : ℕ) → GivesFree S who.pid (outcome constants S who (FdDup fd))
outcome_free constants S who fd =
    outcome_holds (GivesFree S who.pid) constants S who (FdDup fd)
    (λ reply is success. absurd (refusal_is_other Success (λ e. cc) (λ e. cc) (FdDup fd) (get S.tables who.pid) reply is success))
    (λ table own. dup_free S who.pid table (get table fd) own)

result_free : (constants : Constants) (S : State) (who : Who) (fd : ℕ) (reply : Reply) (T : State) → IsStep constants S who (FdDup fd) (answer.Reply reply) T
    → reply.errno ≡ Success → row_of S who.pid reply.r1 ≡ None
result_free constants S who fd reply T (inl done) success =
    on_reply (λ (r : Reply). r.errno ≡ Success → row_of S who.pid r.r1 ≡ None) (step_answer constants S who (FdDup fd)) reply
    (outcome_free constants S who fd) (sym done.0) success
result_free constants S who fd reply T (inr lacking) success = no_memory reply lacking.1 success

-- ---- entries of a legal history

-- the entry is this call, which succeeded at once
pub record IsCalled (e : Entry) (call : Call) (reply : Reply) : Type 0 where
  pub is : e.act ≡ act.Call call (answer.Reply reply)
  pub success : reply.errno ≡ Success

-- a thread waits only in a call in which it may
woken_may_wait : (launch : Launch) (front : List Entry) (e : Entry) (rest : List Entry) (call : Call) (given : WakeIn) (answered : Answer)
    → MayBegin launch.tree launch.grants → Legal launch (front ++ e ∷ rest) → e.act ≡ act.Wake call given answered → may_wait call ≡ true
woken_may_wait launch front e rest call given answered begins legal is =
    let w = world launch front in
    let fits : FitsAct w.constants w.state (who_of w.state e) (guest_of w e.pid) e.turns e.act = (legal_next launch front e rest legal).act in
    let woken = subst (FitsAct w.constants w.state (who_of w.state e) (guest_of w e.pid) e.turns) is fits in
    (subst MayWait woken.0.1.3 ((world_is_valid launch front begins (legal_front launch front (e ∷ rest) legal)).nearly.waits e.pid e.tid)).0

-- so a call in which none may succeeds at once
pub at_once : (launch : Launch) (front : List Entry) (e : Entry) (rest : List Entry) (call : Call) (reply : Reply) → MayBegin launch.tree launch.grants
    → Legal launch (front ++ e ∷ rest) → may_wait call ≡ false → Succeeds e call reply → IsCalled e call reply
at_once launch front e rest call reply begins legal never done =
    elim done.is [
      | inl is ↦ record { is = is; success = done.success }
      | inr woken ↦ absurd (not_true (sym never ∙ woken_may_wait launch front e rest call woken.0 (answer.Reply reply) begins legal woken.1))
    ]

-- the kernel's step
pub stepped : (launch : Launch) (front : List Entry) (e : Entry) (rest : List Entry) (call : Call) (reply : Reply) → Legal launch (front ++ e ∷ rest) → IsCalled e call reply
    → IsStep (world launch front).constants (world launch front).state (who_of (world launch front).state e) call (answer.Reply reply)
    (called_state (world launch front).constants (world launch front).state (who_of (world launch front).state e) call (answer.Reply reply))
stepped launch front e rest call reply legal done =
    let w = world launch front in
    let fits : FitsAct w.constants w.state (who_of w.state e) (guest_of w e.pid) e.turns e.act = (legal_next launch front e rest legal).act in
    (subst (FitsAct w.constants w.state (who_of w.state e) (guest_of w e.pid) e.turns) done.is fits).1

-- the kernel's state after an entry that is a call
pub called_is : (launch : Launch) (front : List Entry) (e : Entry) (call : Call) (reply : Reply) → IsCalled e call reply
    → (world launch (front ++ e ∷ [])).state
    ≡ called_state (world launch front).constants (world launch front).state (who_of (world launch front).state e) call (answer.Reply reply)
called_is launch front e call reply done =
    ap (λ (w : World). w.state) (world_more launch front e ∙ apply_is (world launch front) e)
    ∙ ap (λ a. (acted (turned (world launch front) e.pid e.turns) (who_of (world launch front).state e) a).state) done.is

module _ (launch : Launch) (front : List Entry) (e : Entry) (rest : List Entry) (begins : MayBegin launch.tree launch.grants)
    (legal : Legal launch (front ++ e ∷ rest)) where
  -- what the process of an entry held before it
  pub before_is : row_of (world launch front).state e.pid ≡ held_before launch front e
  before_is = world_rows launch front begins (legal_front launch front (e ∷ rest) legal) e.pid

  -- a descriptor that a call names which succeeds was held before it
  named_held : (call : Call) (reply : Reply) (fd : ℕ) → IsCalled e call reply → IsIn fd (named call)
      → (d : Descriptor) × (held_before launch front e fd ≡ Some d)
  named_held call reply fd done asked =
      let w = world launch front in
      let found = named_by w.constants w.state (who_of w.state e) call reply (called_state w.constants w.state (who_of w.state e) call (answer.Reply reply)) fd
      (get w.state.tables e.pid) (stepped launch front e rest call reply legal done) done.success asked refl in
      (found.0, (λ i. sym before_is i fd) ∙ found.1)

  -- what the process has in the kernel's tables after a call
  pub rows_after : (call : Call) (reply : Reply) → IsCalled e call reply
      → row_of (called_state (world launch front).constants (world launch front).state (who_of (world launch front).state e) call (answer.Reply reply)) e.pid
      ≡ held_after launch front e
  rows_after call reply done =
      ap (λ (S : State). row_of S e.pid) (sym (called_is launch front e call reply done))
      ∙ world_rows launch (front ++ e ∷ []) begins (up_to launch front e rest legal) e.pid

  -- the release after a call that lets go of nothing kills nobody
  pub kills_none : (call : Call)
      → HoldsAsMuch (tick (world launch front).state) (unreleased (world launch front).constants (world launch front).state (who_of (world launch front).state e) call)
      → ReleaseKeeps launch front e call
  kills_none call as_much =
      let w = world launch front in
      spares_all w.constants w.state (who_of w.state e) call (world_is_valid launch front begins (legal_front launch front (e ∷ rest) legal)) as_much e.pid

  -- What it holds after a call that succeeded is what the call's line says, unless what it lets go ends the process. Of each call it
  -- is said apart that this does not.
  pub granted_after : (call : Call) (reply : Reply) → IsCalled e call reply → ReleaseKeeps launch front e call
      → held_after launch front e ≡ granted_row (after_at launch front e) (held_before launch front e) call reply
  granted_after call reply done keeps =
      let w = world launch front in
      let T : State = called_state w.constants w.state (who_of w.state e) call (answer.Reply reply) in
      let called : T ≡ (world launch (front ++ e ∷ [])).state = sym (called_is launch front e call reply done) in
      sym (rows_after call reply done) ∙ step_row w.constants w.state (who_of w.state e) call (answer.Reply reply) T (stepped launch front e rest call reply legal done)
      (λ _. keeps)
      ∙ (λ i. by_success (done.success i) (granted_row (after_of w.state (called i) e.pid) (before_is i) call reply) (before_is i))

  pub duplicated_after : (fd : ℕ) (reply : Reply) → IsCalled e (FdDup fd) reply
      → held_after launch front e ≡ with_held (held_before launch front e) reply.r1 (held_before launch front e fd)
  duplicated_after fd reply done =
      let w = world launch front in
      granted_after (FdDup fd) reply done (kills_none (FdDup fd) (dup_holds w.constants w.state (who_of w.state e) fd))

  pub replaced_after : (from to : ℕ) (reply : Reply) → IsCalled e (FdReplace from to) reply → ReleaseKeeps launch front e (FdReplace from to)
      → held_after launch front e ≡ with_held (held_before launch front e) to (held_before launch front e from)
  replaced_after from to reply done keeps = granted_after (FdReplace from to) reply done keeps

  pub put_after : (fd : ℕ) (stat : FdStat) (flags : ℕ) (reply : Reply) → IsCalled e (FdStatPut fd stat flags) reply
      → held_after launch front e ≡ cond (bit_and flags 2 == 0) (held_before launch front e) (lowered_row (held_before launch front e) fd stat)
  put_after fd stat flags reply done =
      let w = world launch front in
      granted_after (FdStatPut fd stat flags) reply done (kills_none (FdStatPut fd stat flags) (stat_put_holds w.constants w.state (who_of w.state e) fd stat flags))

  pub opened_after : (lookup : Lookup) (path : List ℕ) (oflags : ℕ) (stat : FdStat) (reply : Reply) → IsCalled e (FileOpen lookup path oflags stat) reply
      → held_after launch front e ≡ with_held (held_before launch front e) reply.r1 (opened_held ((after_at launch front e).made 0) stat)
  opened_after lookup path oflags stat reply done =
      let w = world launch front in
      granted_after (FileOpen lookup path oflags stat) reply done
      (kills_none (FileOpen lookup path oflags stat) (open_holds w.constants w.state (who_of w.state e) lookup path oflags stat))

pub lines_are_exact : LinesAreExact
lines_are_exact launch front e rest begins legal call reply is success keeps =
    granted_after launch front e rest begins legal call reply (record { is = is; success = success }) keeps

-- ---- copies

pub copied : (before after : Row) (from to : ℕ) (d : Descriptor) → before from ≡ Some d → after ≡ with_held before to (before from) → IsCopied before after from to
copied before after from to d there is = record {
  d = d;
  source = there;
  copy = (λ i. is i to) ∙ held_here before to (before from) ∙ there;
  others = λ n apart. (λ i. is i n) ∙ held_elsewhere before to (before from) n apart;
}

pub duplicates_are_equal : DuplicatesAreEqual
duplicates_are_equal launch front e rest begins legal fd reply succeeds =
    let w = world launch front in
    let done = at_once launch front e rest (FdDup fd) reply begins legal refl succeeds in
    let found = named_held launch front e rest begins legal (FdDup fd) reply fd done ([], [], refl) in
    let free = result_free w.constants w.state (who_of w.state e) fd reply (called_state w.constants w.state (who_of w.state e) (FdDup fd) (answer.Reply reply))
    (stepped launch front e rest (FdDup fd) reply legal done) done.success in (
      (λ i. sym (before_is launch front e rest begins legal) i reply.r1) ∙ free,
      copied (held_before launch front e) (held_after launch front e) fd reply.r1 found.0 found.1 (duplicated_after launch front e rest begins legal fd reply done),
    )

pub replacements_are_equal : ReplacementsAreEqual
replacements_are_equal launch front e rest begins legal from to reply succeeds =
    let done = at_once launch front e rest (FdReplace from to) reply begins legal refl succeeds in
    let found = named_held launch front e rest begins legal (FdReplace from to) reply from done ([], to ∷ [], refl) in
    let old = named_held launch front e rest begins legal (FdReplace from to) reply to done (from ∷ [], [], refl) in (
      ap is_some old.1,
      λ keeps.
          copied (held_before launch front e) (held_after launch front e) from to found.0 found.1
          (replaced_after launch front e rest begins legal from to reply done keeps),
    )

-- ---- rights that are lowered

where_set : (flags : ℕ) (row lowered : Row) → bit_and flags 2 ≢ 0 → cond (bit_and flags 2 == 0) row lowered ≡ lowered
where_set flags row lowered set =
    elim (eqb_tells (bit_and flags 2) 0) [
      | inl is ↦ absurd (set is.1)
      | inr other ↦ ap (λ b. cond b row lowered) other.0
    ]

lowered : (before after : Row) (n : ℕ) (stat : FdStat) (x : Descriptor) → before n ≡ Some x → after ≡ lowered_row before n stat → IsLowered before after n stat
lowered before after n stat x there is = record {
  d = lowered_to x stat;
  x = x;
  stood = there;
  stands = (λ i. is i n) ∙ held_here before n _ ∙ ap (option_map (λ (y : Descriptor). lowered_to y stat)) there;
  id = refl;
  base = λ k. has-meet x.base.0 stat.base.0 k;
  inheriting = λ k. has-meet x.inheriting.0 stat.inheriting.0 k;
  others = λ m apart. (λ i. is i m) ∙ held_elsewhere before n _ m apart;
}

pub rights_are_lowered : RightsAreLowered
rights_are_lowered launch front e rest begins legal fd stat flags reply succeeds set =
    let before = held_before launch front e in
    let done = at_once launch front e rest (FdStatPut fd stat flags) reply begins legal refl succeeds in
    let found = named_held launch front e rest begins legal (FdStatPut fd stat flags) reply fd done ([], [], refl) in
    lowered before (held_after launch front e) fd stat found.0 found.1
    (put_after launch front e rest begins legal fd stat flags reply done ∙ where_set flags before (lowered_row before fd stat) set)
