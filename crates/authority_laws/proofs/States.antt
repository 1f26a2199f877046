-- An entry leaves in the kernel's tables what it leaves in the ledger.
use Rattle.std.proofs.Common.{◌≡◌, ◌≢◌, inl, inr, ℕ, ◌+◌, ◌-◌, ◌==◌, zero, suc, Bool, true, false, not, cond, List, Option, Some, None, refl, sym, ap, subst, ◌∙◌, arith}
use Rattle.std.specs.Prelude.{option_map}
use Rattle.std.proofs.lemmas.Bool.{eq-eqb}
use Rattle.std.proofs.lemmas.Bool.Decides.{eqb_tells}
use Rattle.std.specs.Ordering.{nat_cmp}
use Rattle.std.specs.Cmp.{nat_cmp_total}
use Rattle.std.specs.FinMap.{FinMap, get, get-empty, get-from_entries, empty, insert}
use Rattle.abi_base.specs.declared.errno.Errno.{Errno}
use Rattle.abi_base.specs.declared.errno.Errno.TheVariants.{Success}
use Rattle.abi_base.specs.declared.grant.Grant.{Grant}
use Rattle.abi_structures.specs.declared.structures.FdStat.{FdStat}
use Rattle.abi_base.specs.declared.signal.Signal.{Signal}
use Rattle.abi_types.specs.declared.reply.Answer.{Answer}
use Rattle.abi_structures.specs.declared.events.Subscription.{Subscription}
use Rattle.abi_types.specs.declared.call.Call.{Call}
use Rattle.abi_types.specs.declared.constants.Constants.{Constants}
use Rattle.abi_types.specs.declared.call.Call.TheVariants.{FdCreate2, FileOpen, Poll, ProcFork}
use Rattle.abi_types.specs.declared.descriptor.Descriptor.{Descriptor}
use Rattle.abi_types.specs.declared.open_kind.OpenKind.{OpenKind}
use Rattle.abi_types.specs.declared.reply.Answer.TheVariants as answer
use Rattle.abi_types.specs.declared.reply.Reply.{Reply}
use Rattle.abi_types.specs.declared.status.Status.{Status}
use Rattle.abi_types.specs.declared.status.Status.TheVariants.{Live, Exit, Killed}
use Rattle.abi_types.specs.declared.thread.Thread.{Thread}
use Rattle.abi_types.specs.declared.wake.WakeIn.{WakeIn}
use Rattle.abi_types.specs.declared.wake.WakeIn.TheVariants as wake
use Rattle.abi_types.specs.declared.who.Who.{Who}
use Rattle.abi_types.specs.declared.counts.Counts.{Counts}
use Rattle.maps.specs.Maps.{get-insert-same, get-insert-other}
use Rattle.kernel_model.specs.Families.Numbers.{object_of}
use Rattle.kernel_model.specs.Families.Opening.{opened_descriptor}
use Rattle.kernel_model.specs.Release.{ends, is_ending, is_released, release}
use Rattle.kernel_model.specs.Start.{granted_descriptor, granted_table}
use Rattle.kernel_model.specs.State.{State, Table, Tree, at_status, counts_in, put_all}
use Rattle.kernel_model.specs.Step.{tick, outcome, step_answer, step_state, unreleased, IsStep, end_state}
use Rattle.kernel_model.specs.Valid.{IsValid}
use Rattle.kernel_model.specs.View.{whole}
use Rattle.kernel_model.specs.Deadlines.{idle_state}
use Rattle.kernel_model.specs.Families.Locks.{with_word}
use Rattle.kernel_model.specs.Waits.{resumed, waiting, waits_if}
use Rattle.kernel_model.specs.Wakes.{IsWake}
use Rattle.kernel_model.proofs.Ends.{process_spared, table_spared}
use Rattle.kernel_model.proofs.Outcomes.{outcome_holds}
use Rattle.kernel_model.proofs.Starts.{find_numbered}
use Rattle.kernel_model.proofs.Steps.{step_moves_only, end_ends_only, unless_killed}
use Rattle.kernel_model.proofs.Tests.{none_is_no, same_some}
use Rattle.kernel_model.proofs.Touches.{live_spared}
use Rattle.kernel_model.proofs.Valids.{dead_table, get_released, held_or_carried, held_stays, left_counts, named_is_held, released_stays}
use Rattle.run_model.proofs.Words.{by_word}
use Rattle.authority_laws.specs.Ledger.{Row, no_row, has_thread, with_held, Ledger, After, Made, after_of, object_at, process_of, sends_of, waits_for, is_live, is_new, last_made, recently_made, with_row, with_child, of_live, launch_row, launch_ledger, new_descriptor, new_held, new_held_of, granted_row, by_success, answered_row, answered_child}
use Rattle.authority_laws.specs.Laws.{Holds}
use Rattle.authority_laws.proofs.Calls.{reported, refusal_reported}
use Rattle.kernel_model.specs.Threads.{child_made}
use Rattle.kernel_model.proofs.Parts.{number_apart}
use Rattle.kernel_model.proofs.Waking.{resumed_valid, same_child}
use Rattle.authority_laws.proofs.Children.{born_row, child_is}
use Rattle.authority_laws.proofs.Rows.{LeavesRow, held_elsewhere, held_here, put_twice, row_in, row_of}

-- the ledger has each process's row of the state
abbrev pub HasRows : State → Ledger → Type 0
HasRows S l = (p : ℕ) → row_of S p ≡ l.held p

-- ---- the process of the entry

outcome_reported : (constants : Constants) (S : State) (who : Who) (call : Call) → LeavesRow (tick S) who.pid call (outcome constants S who call)
outcome_reported constants S who call =
    outcome_holds (LeavesRow (tick S) who.pid call) constants S who call
    (λ reply is. refusal_reported (tick S) who.pid call (get S.tables who.pid) reply is)
    (λ table there. reported call constants (tick S) (whole (tick S)) who table there refl)

-- ---- the open that was made is still there after the release

table_by : (n : ℕ) (d : Descriptor) (t : Option Table) → row_in t n ≡ Some d → (table : Table) × (t ≡ Some table) × (get table n ≡ Some d)
table_by n d None here = absurd (none_is_no d here)
table_by n d (Some table) here = (table, refl, here)

-- the release doesn't kill the process
abbrev pub IsSpared : State → ℕ → Type 0
IsSpared U p = is_released U (at_status p) ≡ false

-- so the process's row stays, and an open that it names isn't released
pub row_spared : (U : State) (p : ℕ) → IsSpared U p → row_of (release U) p ≡ row_of U p
row_spared U p spared = ap row_in (table_spared U (ends U) p spared)

named_stays : (U : State) (p n : ℕ) (d : Descriptor) → IsSpared U p → row_of U p n ≡ Some d → get (release U).opens d.id ≡ get U.opens d.id
named_stays U p n d spared here =
    let at = table_by n d (get U.tables p) here in
    let there : get (release U).tables p ≡ Some at.0 = table_spared U (ends U) p spared ∙ at.1 in
    released_stays U d.id (held_stays U d.id (held_or_carried (release U) d.id (named_is_held (release U) p n at.0 d there at.2)))

none_stays : {X : Type 0} (b : Bool) (o : Option X) → o ≡ None → cond b o None ≡ None
none_stays true o none = none
none_stays false o none = refl

-- the descriptor that the row has where this open is there, which it names
pub record NamesOpen (f : Option OpenKind → Option Descriptor) (number : ℕ) : Type 0 where
  pub none : f None ≡ None
  pub id : (kind : OpenKind) (d : Descriptor) → f (Some kind) ≡ Some d → d.id ≡ number

module _ (U : State) (p n number : ℕ) (spared : IsSpared U p) (f : Option OpenKind → Option Descriptor) (names : NamesOpen f number) where
  held_by : (kind : OpenKind) (held : Option Descriptor) → get U.opens number ≡ Some kind → f (Some kind) ≡ held → row_of U p n ≡ held
      → f (get (release U).opens number) ≡ f (get U.opens number)
  held_by kind (Some d) there gives here =
      ap f (subst (λ o. get (release U).opens o ≡ get U.opens o) (names.id kind d gives) (named_stays U p n d spared here))
  held_by kind None there gives here =
      elim (not (is_ending U number)) as (λ b. get (release U).opens number ≡ cond b (get U.opens number) None
      → f (get (release U).opens number) ≡ f (get U.opens number)) [
        | true ↦ λ same. ap f same
        | false ↦ λ gone. ap f gone ∙ names.none ∙ sym gives ∙ ap f (sym there)
      ] (get_released U number)

  held_of : (o : Option OpenKind) → get U.opens number ≡ o → row_of U p n ≡ f o → f (get (release U).opens number) ≡ f (get U.opens number)
  held_of None there here =
      ap f (get_released U number ∙ none_stays (not (is_ending U number)) (get U.opens number) there ∙ sym there)
  held_of (Some kind) there here = held_by kind (f (Some kind)) there refl here

  -- where the row has it, it is the same after the release
  open_stays : row_of U p n ≡ f (get U.opens number) → f (get (release U).opens number) ≡ f (get U.opens number)
  open_stays here = held_of (get U.opens number) refl here

opened_names : (number : ℕ) (stat : FdStat) → NamesOpen (option_map (λ (kind : OpenKind). opened_descriptor number kind stat)) number
opened_names number stat = record {
  none = refl;
  id = λ kind d is. ap (λ (x : Descriptor). x.id) (sym (same_some (opened_descriptor number kind stat) d is));
}

new_names_by : (number : ℕ) (kind : OpenKind) (b : Bool) (d : Descriptor) → cond b (Some (new_descriptor number kind)) None ≡ Some d → d.id ≡ number
new_names_by number kind true d is = ap (λ (x : Descriptor). x.id) (sym (same_some (new_descriptor number kind) d is))
new_names_by number kind false d is = absurd (none_is_no d is)

new_names : (number : ℕ) → NamesOpen (new_held_of number) number
new_names number = record { none = refl; id = λ kind d is. new_names_by number kind (is_new kind) d is }

-- the state after the release, in which each process has of its own what it had before it: what a process has made that lives stays
abbrev seen : State → State
seen U = record (release U) { processes = U.processes }

abbrev after_by : State → ℕ → Counts → ℕ → Made
after_by S p counts zero = object_at S (object_of p counts.objects)
after_by S p counts (suc k) = object_at S (object_of p (counts.objects - suc k))

made_by_counts : (S : State) (p k : ℕ) → recently_made S p k ≡ after_by S p (counts_in (get S.processes p)) k
made_by_counts S p zero = refl
made_by_counts S p (suc k) = refl

seen_by_counts : (U : State) (p k : ℕ) → recently_made (seen U) p k ≡ after_by (release U) p (counts_in (get U.processes p)) k
seen_by_counts U p zero = refl
seen_by_counts U p (suc k) = refl

seen_made : (U : State) (p k : ℕ) → IsSpared U p → recently_made (seen U) p k ≡ recently_made (release U) p k
seen_made U p k spared =
    seen_by_counts U p k ∙ ap (λ (c : Counts). after_by (release U) p c k) (sym (left_counts U p spared)) ∙ sym (made_by_counts (release U) p k)

seen_after : (S U : State) (p : ℕ) → IsSpared U p → after_of S (seen U) p ≡ after_of S (release U) p
seen_after S U p spared = λ i. record {
  made = λ k. seen_made U p k spared i;
  child = process_of (seen_made U p 0 spared i).kind;
  opened = λ o. get (release U).opens o;
  sends = sends_of (release U);
  threaded = has_thread (sym (process_spared U (ends U) p spared) i);
  live = λ q. is_live (get (release U).statuses q);
  came = λ o. waits_for S.chans (get S.opens o);
}

-- what is made of no descriptor, under one number or two
new_stays : (U : State) (p n k : ℕ) → IsSpared U p → row_of U p n ≡ new_held (recently_made U p k) → new_held (recently_made U p k) ≡ new_held (recently_made (seen U) p k)
new_stays U p n zero spared here = sym (open_stays U p n (recently_made U p zero).number spared (new_held_of (recently_made U p zero).number) (new_names _) here)
new_stays U p n (suc k) spared here = sym (open_stays U p n (recently_made U p (suc k)).number spared (new_held_of (recently_made U p (suc k)).number) (new_names _) here)

both_stay : (U : State) (p n m : ℕ) (row : Row) (a b : Option Descriptor) → IsSpared U p → a ≡ new_held (recently_made U p 1) → b ≡ new_held (recently_made U p 0)
    → row_of U p ≡ with_held (with_held row n a) m b
    → with_held (with_held row n a) m b ≡ with_held (with_held row n (new_held (recently_made (seen U) p 1))) m (new_held (recently_made (seen U) p 0))
both_stay U p n m row a b spared first second is =
    let last : b ≡ new_held (recently_made (seen U) p 0) =
    second ∙ new_stays U p m 0 spared ((λ i. is i m) ∙ held_here (with_held row n a) m b ∙ second) in
    elim (eqb_tells n m) [
      | inl same ↦ subst (λ j. with_held (with_held row n a) j b
          ≡ with_held (with_held row n (new_held (recently_made (seen U) p 1))) j (new_held (recently_made (seen U) p 0))) same.1
          (put_twice row n a (new_held (recently_made (seen U) p 1)) b
          ∙ ap (with_held (with_held row n (new_held (recently_made (seen U) p 1))) n) last)
      | inr apart ↦ (
          let there : row_of U p n ≡ a = (λ i. is i n) ∙ held_elsewhere (with_held row n a) m b n apart.1 ∙ held_here row n a in
          let before : a ≡ new_held (recently_made (seen U) p 1) = first ∙ new_stays U p n 1 spared (there ∙ first) in
          λ i. with_held (with_held row n (before i)) m (last i))
    ]

granted_stays : (S U : State) (p : ℕ) (row : Row) (call : Call) (reply : Reply) → IsSpared U p → row_of U p ≡ granted_row (after_of S U p) row call reply
    → granted_row (after_of S U p) row call reply ≡ granted_row (after_of S (seen U) p) row call reply
granted_stays S U p row (FdCreate2 kind) reply spared is =
    both_stay U p reply.r1 reply.r2 row (new_held (recently_made U p 1)) (new_held (recently_made U p 0)) spared refl refl is
granted_stays S U p row (FileOpen lookup path oflags stat) reply spared is =
    let number : ℕ = (last_made U p).number in
    let f : Option OpenKind → Option Descriptor = option_map (λ (kind : OpenKind). opened_descriptor number kind stat) in
    ap (with_held row reply.r1)
    (sym (open_stays U p reply.r1 number spared f (opened_names number stat) ((λ i. is i reply.r1) ∙ held_here row reply.r1 (f (get U.opens number)))))
granted_stays S U p row (ProcFork left) reply spared is =
    ap (with_held row reply.r1) (new_stays U p reply.r1 0 spared ((λ i. is i reply.r1) ∙ held_here row reply.r1 (new_held (recently_made U p 0))))
granted_stays S U p row call reply spared is = refl

errno_stays : (S U : State) (p : ℕ) (row : Row) (call : Call) (reply : Reply) (errno : Errno) → IsSpared U p
    → row_of U p ≡ by_success errno (granted_row (after_of S U p) row call reply) row
    → by_success errno (granted_row (after_of S U p) row call reply) row ≡ by_success errno (granted_row (after_of S (seen U) p) row call reply) row
errno_stays S U p row call reply Success spared is = granted_stays S U p row call reply spared is
errno_stays S U p row call reply _ spared is = refl

answered_stays : (S U : State) (p : ℕ) (row : Row) (call : Call) (given : Answer) → IsSpared U p → row_of U p ≡ answered_row (after_of S U p) row call given
    → answered_row (after_of S U p) row call given ≡ answered_row (after_of S (seen U) p) row call given
answered_stays S U p row call (answer.Parked writes) spared is = refl
answered_stays S U p row call (answer.Reply reply) spared is = errno_stays S U p row call reply reply.errno spared is

-- a thread that waits leaves its process's descriptors
waits_reported : (a : Answer) (who : Who) (thread : Thread) (S V : State) (row : Row) (call : Call)
    → row_of V who.pid ≡ answered_row (after_of S V who.pid) row call a
    → row_of (waits_if a who thread V) who.pid ≡ answered_row (after_of S (waits_if a who thread V) who.pid) row call a
waits_reported (answer.Parked writes) who thread S V row call is = is
waits_reported (answer.Reply reply) who thread S V row call is = is

pub step_row : (constants : Constants) (S : State) (who : Who) (call : Call) (given : Answer) (T : State) → IsStep constants S who call given T
    → (T ≡ step_state constants S who call → IsSpared (unreleased constants S who call) who.pid)
    → row_of T who.pid ≡ answered_row (after_of S T who.pid) (row_of S who.pid) call given
step_row constants S who call given T (inl done) unkilled =
    let U = unreleased constants S who call in
    let reported : row_of U who.pid ≡ answered_row (after_of S U who.pid) (row_of S who.pid) call (step_answer constants S who call) =
    waits_reported (step_answer constants S who call) who (waiting constants call who (S.clock + 1000)) S (put_all (outcome constants S who call).updates (tick S))
    (row_of S who.pid) call (outcome_reported constants S who call) in
    let spared : IsSpared U who.pid = unkilled done.1 in
    subst (λ (V : State). row_of V who.pid ≡ answered_row (after_of S V who.pid) (row_of S who.pid) call given) (sym done.1)
    (row_spared U who.pid spared ∙ reported
    ∙ answered_stays S U who.pid (row_of S who.pid) call (step_answer constants S who call) spared reported
    ∙ ap (λ (a : After). answered_row a (row_of S who.pid) call (step_answer constants S who call)) (seen_after S U who.pid spared)
    ∙ ap (answered_row (after_of S (release U) who.pid) (row_of S who.pid) call) (sym done.0))
step_row constants S who call given T (inr lacking) unkilled =
    ap (λ (U : State). row_of U who.pid) lacking.2 ∙ ap (answered_row (after_of S T who.pid) (row_of S who.pid) call) (sym lacking.1)

end_row : (S : State) (p : ℕ) (status : Status) → status ≢ Live → row_of (end_state S p status) p ≡ no_row
end_row S p status dead = ap row_in (end_ends_only S p status dead).gone.0

-- ---- the start

-- what a launch grants is in the first process's table
granted_row_is : (tree : Tree) (grants : List Grant) (n : ℕ) → get (granted_table tree grants) n ≡ launch_row tree grants n
granted_row_is tree grants n = get-from_entries nat_cmp_total _ n ∙ find_numbered (granted_descriptor tree) 0 grants n n (omega arith)

-- no other process has a table
abbrev pub first_tables : Tree → List Grant → FinMap nat_cmp Table
first_tables tree grants = insert empty 0 (granted_table tree grants)

pub start_rows : (tree : Tree) (grants : List Grant) (p : ℕ) → row_in (get (first_tables tree grants) p) ≡ (launch_ledger tree grants).held p
start_rows tree grants p =
    elim (eqb_tells p 0) [
      | inl is ↦ ap row_in (ap (get (first_tables tree grants)) is.1 ∙ get-insert-same empty 0 (granted_table tree grants))
          ∙ (λ i n. granted_row_is tree grants n i) ∙ sym (ap (λ b. cond b (launch_row tree grants) no_row) is.0)
      | inr other ↦ ap row_in (get-insert-other empty 0 (granted_table tree grants) p other.1 ∙ get-empty nat_cmp p)
          ∙ sym (ap (λ b. cond b (launch_row tree grants) no_row) other.0)
    ]

-- ---- processes that are not live

-- in a valid state they hold nothing
pub ended_row : (S : State) (p : ℕ) → IsValid S → get S.statuses p ≢ Some Live → row_of S p ≡ no_row
ended_row S p valid ends = ap row_in (dead_table S p valid.nearly ends)

exit_is_not_live : (code : ℕ) → Some (Exit code) ≢ Some Live
exit_is_not_live code e = cc

killed_is_not_live : (signal : Signal) → Some (Killed signal) ≢ Some Live
killed_is_not_live signal e = cc

-- ---- all processes

status_row : (T : State) (m : Ledger) (q : ℕ) (status : Option Status) → IsValid T → get T.statuses q ≡ status
    → (get T.statuses q ≡ Some Live → row_of T q ≡ m.held q) → row_of T q ≡ cond (is_live status) (m.held q) no_row
status_row T m q (Some Live) valid is row = row is
status_row T m q None valid is row = ended_row T q valid (λ live. none_is_no Live (sym is ∙ live))
status_row T m q (Some (Exit code)) valid is row = ended_row T q valid (λ live. exit_is_not_live code (sym is ∙ live))
status_row T m q (Some (Killed signal)) valid is row = ended_row T q valid (λ live. killed_is_not_live signal (sym is ∙ live))

-- who isn't live holds nothing, so it is enough to look at who is
live_rows : (S T : State) (p : ℕ) (m : Ledger) → IsValid T → ((q : ℕ) → get T.statuses q ≡ Some Live → row_of T q ≡ m.held q)
    → HasRows T (of_live (after_of S T p).live m)
live_rows S T p m valid rows q = status_row T m q (get T.statuses q) valid refl (rows q)

-- one process's row changes, if it is still live, and of the others those that are live hold what they held, or what the process held
-- that made them
changed : (S T : State) (l : Ledger) (p : ℕ) (child : Option ℕ) (row : Row) → IsValid T → (get T.statuses p ≡ Some Live → row_of T p ≡ row)
    → ((q : ℕ) → q ≢ p → get T.statuses q ≡ Some Live → row_of T q ≡ (with_child child (l.held p) l).held q)
    → HasRows T (of_live (after_of S T p).live (with_row (with_child child (l.held p) l) p row))
changed S T l p child row valid own others =
    let m : Ledger = with_child child (l.held p) l in
    live_rows S T p (with_row m p row) valid (λ q live.
    elim (eqb_tells q p) [
      | inl is ↦ ap (row_of T) is.1 ∙ own (ap (get T.statuses) (sym is.1) ∙ live) ∙ sym (ap (λ b. cond b row (m.held q)) is.0)
      | inr other ↦ others q other.1 live ∙ sym (ap (λ b. cond b row (m.held q)) other.0)
    ])

-- the child, if it is this process, holds what it was given, and each other process what it held
held_by_child : (child : Option ℕ) (q : ℕ) (row : Row) (l : Ledger) → child ≡ Some q → (with_child child row l).held q ≡ row
held_by_child None q row l is = absurd (none_is_no q is)
held_by_child (Some c) q row l is = ap (λ b. cond b row (l.held q)) (ap (λ k. q == k) (same_some c q is) ∙ eq-eqb q q refl)

held_beside_child : (child : Option ℕ) (q : ℕ) (row : Row) (l : Ledger) → child ≢ Some q → (with_child child row l).held q ≡ l.held q
held_beside_child None q row l other = refl
held_beside_child (Some c) q row l other = ap (λ b. cond b row (l.held q)) (number_apart q c (λ is. other (ap Some is)))

pub step_rows : (constants : Constants) (S : State) (who : Who) (call : Call) (given : Answer) (T : State) (l : Ledger) → IsStep constants S who call given T
    → IsValid S → IsValid T → HasRows S l
    → HasRows T (of_live (after_of S T who.pid).live
    (with_row (with_child (answered_child (after_of S T who.pid) call given) (l.held who.pid) l) who.pid
    (answered_row (after_of S T who.pid) (l.held who.pid) call given)))
step_rows constants S who call given T l step start valid before =
    changed S T l who.pid (answered_child (after_of S T who.pid) call given) (answered_row (after_of S T who.pid) (l.held who.pid) call given) valid
    (λ live. step_row constants S who call given T step
    (λ is. live_spared (unreleased constants S who call) who.pid (subst (λ (V : State). get V.statuses who.pid ≡ Some Live) is live))
    ∙ ap (λ row. answered_row (after_of S T who.pid) row call given) (before who.pid))
    (λ q apart live.
    let child : Option ℕ = child_made call given who.pid (get S.processes who.pid) in
    elim (same_child q child) [
      | inl born ↦ born_row constants S who call given T q start step born ∙ before who.pid ∙ sym (held_by_child child q (l.held who.pid) l born)
      | inr unborn ↦ ap row_in (unless_killed S T q live ((step_moves_only constants S who call given T step).others q apart unborn)).0 ∙ before q
          ∙ sym (held_beside_child child q (l.held who.pid) l unborn)
    ]
    ∙ ap (λ child. (with_child child (l.held who.pid) l).held q) (sym (child_is constants S who call given T start step)))

-- each poll leaves the same
polls_row : (S T : State) (l : Ledger) (p : ℕ) (given : Answer) (one other : List Subscription)
    → HasRows T (of_live (after_of S T p).live
    (with_row (with_child (answered_child (after_of S T p) (Poll one) given) (l.held p) l) p (answered_row (after_of S T p) (l.held p) (Poll one) given)))
    → HasRows T (of_live (after_of S T p).live
    (with_row (with_child (answered_child (after_of S T p) (Poll other) given) (l.held p) l) p (answered_row (after_of S T p) (l.held p) (Poll other) given)))
polls_row S T l p (answer.Parked writes) one other rows = rows
polls_row S T l p (answer.Reply reply) one other rows = rows

-- a wake leaves what its call does from the state in which the thread runs
pub wake_rows : (constants : Constants) (S : State) (who : Who) (call : Call) (given : WakeIn) (answered : Answer) (T : State) (l : Ledger)
    → IsWake constants S who call given answered T → IsValid S → IsValid T → HasRows S l
    → HasRows T (of_live (after_of S T who.pid).live
    (with_row (with_child (answered_child (after_of S T who.pid) call answered) (l.held who.pid) l) who.pid
    (answered_row (after_of S T who.pid) (l.held who.pid) call answered)))
wake_rows constants S who call (wake.Plain word) answered T l is start valid before =
    by_word (λ c. HasRows T (of_live (after_of S T who.pid).live
    (with_row (with_child (answered_child (after_of S T who.pid) c answered) (l.held who.pid) l) who.pid
    (answered_row (after_of S T who.pid) (l.held who.pid) c answered)))) (polls_row S T l who.pid answered) word call
    (step_rows constants (resumed S who) who (with_word word call) answered T l is.0 (resumed_valid S who start) valid before)
wake_rows constants S who call wake.Fault answered T l is start valid before =
    let row : (q : ℕ) → row_of T q ≡ l.held q = λ q. ap (λ (U : State). row_of U q) is.1 ∙ before q in
    subst (λ a. HasRows T (of_live (after_of S T who.pid).live
    (with_row (with_child (answered_child (after_of S T who.pid) call a) (l.held who.pid) l) who.pid
    (answered_row (after_of S T who.pid) (l.held who.pid) call a)))) (sym is.0)
    (changed S T l who.pid None (l.held who.pid) valid (λ _. row who.pid) (λ q _ _. row q))

-- an idle jump leaves them
pub idle_rows : (S : State) (p : ℕ) (l : Ledger) → IsValid (idle_state S) → HasRows S l
    → HasRows (idle_state S) (of_live (after_of S (idle_state S) p).live (with_row l p (l.held p)))
idle_rows S p l valid before = changed S (idle_state S) l p None (l.held p) valid (λ _. before p) (λ q _ _. before q)

pub end_rows : (S : State) (p : ℕ) (status : Status) (l : Ledger) → status ≢ Live → IsValid (end_state S p status) → HasRows S l
    → HasRows (end_state S p status) (of_live (after_of S (end_state S p status) p).live (with_row l p no_row))
end_rows S p status l ends valid before =
    changed S (end_state S p status) l p None no_row valid (λ _. end_row S p status ends)
    (λ q apart live. ap row_in (unless_killed S (end_state S p status) q live ((end_ends_only S p status ends).others q apart)).0 ∙ before q)

-- ---- what a row of a valid state has

ended_has_none : (S : State) (p n : ℕ) (d : Descriptor) {X : Type 0} → IsValid S → get S.statuses p ≢ Some Live → row_of S p n ≡ Some d → X
ended_has_none S p n d valid ends here = absurd (none_is_no d ((λ i. sym (ended_row S p valid ends) i n) ∙ here))

live_by : (S : State) (p n : ℕ) (d : Descriptor) (status : Option Status) → IsValid S → get S.statuses p ≡ status → row_of S p n ≡ Some d → status ≡ Some Live
live_by S p n d (Some Live) valid is here = refl
live_by S p n d None valid is here = ended_has_none S p n d valid (λ live. none_is_no Live (sym is ∙ live)) here
live_by S p n d (Some (Exit code)) valid is here = ended_has_none S p n d valid (λ live. exit_is_not_live code (sym is ∙ live)) here
live_by S p n d (Some (Killed signal)) valid is here = ended_has_none S p n d valid (λ live. killed_is_not_live signal (sym is ∙ live)) here

-- what a row of a valid state has stands in a live process's table
pub row_is_held : (S : State) (p n : ℕ) (d : Descriptor) → IsValid S → row_of S p n ≡ Some d → Holds S p n d
row_is_held S p n d valid here =
    let found = table_by n d (get S.tables p) here in
    (live_by S p n d (get S.statuses p) valid refl here, found.0, found.1, found.2)
