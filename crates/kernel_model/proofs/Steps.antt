-- What each step keeps: a valid state, the clock's pace, other processes, and of a process that lives on the threads that its call
-- neither makes nor ends.
use Rattle.std.specs.Prelude.{if◌then◌else◌}
use Rattle.std.proofs.Common.{◌≡◌, ◌≢◌, inl, inr, ℕ, ◌+◌, Bool, false, Option, None, List, [], ◌∷◌, map, true, Some, IsSome, is_some, ◌⊎◌, refl, sym, ap, subst, ◌∙◌}
use Rattle.std.proofs.lemmas.Bool.Decides.{eqb_tells}
use Rattle.std.specs.Ordering.{nat_cmp}
use Rattle.std.specs.FinMap.{FinMap, get, get-empty, empty, insert}
use Rattle.abi_base.specs.declared.errno.Errno.{Errno}
use Rattle.abi_base.specs.declared.errno.Errno.TheVariants.{Nomem, Success}
use Rattle.abi_types.specs.declared.reply.Answer.{Answer}
use Rattle.abi_types.specs.declared.reply.Answer.TheVariants as answer
use Rattle.abi_types.specs.declared.call.Call.{Call}
use Rattle.abi_types.specs.declared.call.Call.TheVariants as call
use Rattle.abi_types.specs.declared.constants.Constants.{Constants}
use Rattle.abi_types.specs.declared.status.Status.{Status}
use Rattle.abi_types.specs.declared.status.Status.TheVariants.{Live}
use Rattle.abi_types.specs.declared.thread.Thread.TheVariants.{Runnable}
use Rattle.abi_types.specs.declared.who.Who.{Who}
use Rattle.maps.specs.Maps.{get-insert-same, get-insert-other, get-remove-same}
use Rattle.kernel_model.specs.Laws.{HasSameProcess, IsKilled, MovesOnly, EndsOnly}
use Rattle.kernel_model.specs.Calls.{meaning_of}
use Rattle.kernel_model.specs.Families.DescriptorCalls.{lowest_free}
use Rattle.kernel_model.specs.Families.ForkCalls.{child_number, child_process, fork_updates}
use Rattle.kernel_model.specs.Families.Numbers.{made_more}
use Rattle.kernel_model.specs.Outcome.{Outcome, is_parked}
use Rattle.kernel_model.specs.OwnChanges.{born_of, next_child, own_by, with_next_child, AllowsChange, IsChangedBy, LeavesOwn}
use Rattle.kernel_model.specs.Families.ProcessCalls.{end_updates}
use Rattle.kernel_model.specs.Proper.{IsUnset}
use Rattle.kernel_model.specs.Reply.{refused}
use Rattle.kernel_model.specs.Release.{ends, is_killed, own_left, release, status_left}
use Rattle.kernel_model.specs.State.{State, ProcessState, Update, set_table, set_status, at_proc, at_status, has_part, part_of, put_one, put_all, counts_in, thread_in, threads_of}
use Rattle.kernel_model.specs.Step.{tick, outcome, unreleased, step_answer, step_state, IsStep, end_unreleased, end_state}
use Rattle.kernel_model.specs.Threads.{BearsRunning, LeavesCounts, LeavesThreads, child_made, child_told, is_done, is_success}
use Rattle.kernel_model.specs.Valid.{IsNearlyValid, IsValid}
use Rattle.kernel_model.specs.View.{whole}
use Rattle.kernel_model.specs.Waits.{waiting}
use Rattle.kernel_model.proofs.Calls.{proper}
use Rattle.kernel_model.proofs.Births.{fork_holds, next_is}
use Rattle.kernel_model.proofs.Ends.{killed_by, process_after, process_spared, status_after, status_spared, table_spared}
use Rattle.kernel_model.proofs.Outcomes.{outcome_holds}
use Rattle.kernel_model.proofs.Parking.{parks_only, sets_apart, waiting_may}
use Rattle.kernel_model.proofs.Parts.{put_keeps}
use Rattle.kernel_model.proofs.ProcessCalls.{end_others}
use Rattle.kernel_model.proofs.Refusals.{sets_nothing_at_error}
use Rattle.kernel_model.proofs.Tests.{none_is_no, not_true, same_some}
use Rattle.kernel_model.proofs.Threading.{waits_apart, waits_if_holds, waits_if_same, with_counts, with_nearly_valid}
use Rattle.kernel_model.proofs.Threads.{IsOwnAfter, child_is, leaves_counts, leaves_threads, refusal_bears, refusal_of_fails, undone_allows, undone_stays}
use Rattle.kernel_model.proofs.Touches.{killed_is_not_live, live_spared, release_ends, release_keeps}
use Rattle.kernel_model.proofs.EndedValid.{end_nearly_valid}
use Rattle.kernel_model.proofs.Valids.{release_restores, some_mapped, threads_in, tick_nearly_valid, tick_valid}

-- ---- valid states

outcome_valid : (constants : Constants) (S : State) (who : Who) (call : Call) → IsNearlyValid (tick S)
    → IsNearlyValid (put_all (outcome constants S who call).updates (tick S))
outcome_valid constants S who call nearly =
    outcome_holds (λ (o : Outcome). IsNearlyValid (put_all o.updates (tick S))) constants S who call (λ reply _. nearly)
    (λ table there. (proper call).valid constants (tick S) who table there nearly)

-- where its thread waits it does in a call in which it may
pub unreleased_valid : (constants : Constants) (S : State) (who : Who) (call : Call) → IsNearlyValid (tick S) → IsNearlyValid (unreleased constants S who call)
unreleased_valid constants S who call nearly =
    let after = put_all (outcome constants S who call).updates (tick S) in
    let set : IsNearlyValid after = outcome_valid constants S who call nearly in
    waits_if_holds IsNearlyValid (step_answer constants S who call) who (waiting constants call who (S.clock + 1000)) after
    (λ parked.
    with_nearly_valid after who.pid who.tid (waiting constants call who (S.clock + 1000))
    (waiting_may constants call who (S.clock + 1000) (parks_only constants S who call parked).may) set) set

step_valid : (constants : Constants) (S : State) (who : Who) (call : Call) → IsValid S → IsValid (step_state constants S who call)
step_valid constants S who call v =
    release_restores (unreleased constants S who call) (unreleased_valid constants S who call (tick_nearly_valid S v.nearly))

pub step_keeps_valid : (constants : Constants) (S : State) (who : Who) (call : Call) (given : Answer) (T : State)
    → IsStep constants S who call given T → IsValid S → IsValid T
step_keeps_valid constants S who call given T (inl done) v = subst IsValid (sym done.1) (step_valid constants S who call v)
step_keeps_valid constants S who call given T (inr lacking) v = subst IsValid (sym lacking.2) (tick_valid S v)

pub end_valid : (S : State) (p : ℕ) (status : Status) → IsSome (get S.statuses p) → status ≢ Live → IsValid S → IsValid (end_state S p status)
unfolding end_state
end_valid S p status made dead v = release_restores (end_unreleased S p status) (end_nearly_valid (tick S) p status dead made (tick_nearly_valid S v.nearly))

-- ---- the clock

put_one_clock : (u : Update) (S : State) → (put_one u S).clock ≡ S.clock
put_one_clock (set_table p t) S = refl
put_one_clock u S = refl

put_clock : (us : List Update) (S : State) → (put_all us S).clock ≡ S.clock
put_clock [] S = refl
put_clock (u ∷ us) S = put_clock us (put_one u S) ∙ put_one_clock u S

unreleased_clock : (constants : Constants) (S : State) (who : Who) (call : Call) → (unreleased constants S who call).clock ≡ S.clock + 1000
unreleased_clock constants S who call =
    waits_if_same (λ U. U.clock ≡ S.clock + 1000) (step_answer constants S who call) who (waiting constants call who (S.clock + 1000))
    (put_all (outcome constants S who call).updates (tick S)) (λ same. same) (put_clock (outcome constants S who call).updates (tick S))

-- ---- other processes

put_others : (us : List Update) (S : State) (q : ℕ) → has_part (map part_of us) (at_proc q) ≡ false → has_part (map part_of us) (at_status q) ≡ false
    → HasSameProcess (put_all us S) S q
put_others us S q proc status =
    let own = put_keeps us S (at_proc q) proc in (own.0, own.1, put_keeps us S (at_status q) status)

outcome_others : (constants : Constants) (S : State) (who : Who) (call : Call) (q : ℕ) → q ≢ who.pid
    → born_of (meaning_of call).own who.pid (get S.processes who.pid) ≢ Some q → IsUnset (outcome constants S who call) (at_proc q) × IsUnset (outcome constants S who call) (at_status q)
outcome_others constants S who call q apart unborn =
    outcome_holds (λ (o : Outcome). IsUnset o (at_proc q) × IsUnset o (at_status q)) constants S who call (λ reply _. (refl, refl))
    (λ table _. (proper call).others constants (whole (tick S)) who table q apart unborn)

-- the release leaves a process as it is, or it kills it
release_others : (U : State) (q : ℕ) → HasSameProcess (release U) U q ⊎ IsKilled U (release U) q
release_others U q =
    elim (is_killed U (ends U) q) as (λ b. is_killed U (ends U) q ≡ b → HasSameProcess (release U) U q ⊎ IsKilled U (release U) q) [
      | true ↦ λ e. inr (release_ends U (at_proc q) e, release_ends U (at_status q) e)
      | false ↦ λ e. (let own = release_keeps U (at_proc q) e in inl (own.0, own.1, release_keeps U (at_status q) e))
    ] refl

-- the same of two states that have the same of the process before the release
others_from : (S U T : State) (q : ℕ) → HasSameProcess U S q → HasSameProcess T U q ⊎ IsKilled U T q → HasSameProcess T S q ⊎ IsKilled S T q
others_from S U T q same (inl kept) = inl (kept.0 ∙ same.0, kept.1 ∙ same.1, kept.2 ∙ same.2)
others_from S U T q same (inr killed) =
    inr (killed.0, (sym same.2 ∙ killed.1.0, killed.1.1))

-- the child of a call that was answered so is not this process
abbrev IsUnborn : State → Who → Call → Answer → ℕ → Type 0
IsUnborn S who call given q = child_made call given who.pid (get S.processes who.pid) ≢ Some q

success_is_done : (errno : Errno) → is_success errno ≡ false → errno ≢ Success
success_is_done errno isnt is = not_true (sym isnt ∙ ap is_success is)

-- a call that is not done sets nothing that another process has
undone_sets : (constants : Constants) (S : State) (who : Who) (call : Call) (given : Answer) → step_answer constants S who call ≡ given
    → is_done given ≡ false → (q : ℕ) → q ≢ who.pid → IsUnset (outcome constants S who call) (at_proc q) × IsUnset (outcome constants S who call) (at_status q)
undone_sets constants S who call (answer.Parked writes) is isnt q apart =
    sets_apart who.pid (get S.processes who.pid) (outcome constants S who call) q apart (parks_only constants S who call (ap is_parked is)).sets
undone_sets constants S who call (answer.Reply reply) is isnt q apart =
    let none = sets_nothing_at_error constants S who call reply is (success_is_done reply.errno isnt) in
    (ap (λ us. has_part (map part_of us) (at_proc q)) none, ap (λ us. has_part (map part_of us) (at_status q)) none)

outcome_unset : (constants : Constants) (S : State) (who : Who) (call : Call) (q : ℕ) → q ≢ who.pid → IsUnborn S who call (step_answer constants S who call) q
    → IsUnset (outcome constants S who call) (at_proc q) × IsUnset (outcome constants S who call) (at_status q)
outcome_unset constants S who call q apart unborn =
    let a = step_answer constants S who call in
    elim (is_done a) as (λ b. is_done a ≡ b → IsUnset (outcome constants S who call) (at_proc q) × IsUnset (outcome constants S who call) (at_status q)) [
      | true ↦ λ done. outcome_others constants S who call q apart (λ is. unborn (child_is call a who.pid (get S.processes who.pid) done ∙ is))
      | false ↦ λ isnt. undone_sets constants S who call a refl isnt q apart
    ] refl

unreleased_others : (constants : Constants) (S : State) (who : Who) (call : Call) (q : ℕ) → q ≢ who.pid → IsUnborn S who call (step_answer constants S who call) q
    → HasSameProcess (unreleased constants S who call) S q
unreleased_others constants S who call q apart unborn =
    let after = put_all (outcome constants S who call).updates (tick S) in
    let unset = outcome_unset constants S who call q apart unborn in
    let same = put_others (outcome constants S who call).updates (tick S) q unset.0 unset.1 in
    let a = step_answer constants S who call in
    let thread = waiting constants call who (S.clock + 1000) in (
      waits_if_same (λ U. get U.tables q ≡ get S.tables q) a who thread after (λ h. h) same.0,
      waits_apart a who thread after q apart ∙ same.1,
      waits_if_same (λ U. get U.statuses q ≡ get S.statuses q) a who thread after (λ h. h) same.2,
    )

step_others : (constants : Constants) (S : State) (who : Who) (call : Call) (q : ℕ) → q ≢ who.pid → IsUnborn S who call (step_answer constants S who call) q
    → HasSameProcess (step_state constants S who call) S q ⊎ IsKilled S (step_state constants S who call) q
step_others constants S who call q apart unborn =
    others_from S (unreleased constants S who call) (step_state constants S who call) q (unreleased_others constants S who call q apart unborn)
    (release_others (unreleased constants S who call) q)

-- ---- the child

-- the process is one that the thread has made by a fork
abbrev IsNewborn : ℕ → ℕ → State → Type 0
IsNewborn t q U = (own : ProcessState) × (get U.processes q ≡ Some (child_process t own))

-- a fork that is answered so has made its child
abbrev HasBorn : State → Who → ℕ → ℕ → Outcome → Type 0
HasBorn S who left q o =
    child_made (call.ProcFork left) o.answer who.pid (get S.processes who.pid) ≡ Some q → IsNewborn who.tid q (put_all o.updates (tick S))

never_born : {X : Type 0} (b : Bool) (own : Option ProcessState) (p q : ℕ) → b ≡ false → (if b then next_child p own else None) ≡ Some q → X
never_born true own p q isnt is = absurd (not_true (sym isnt))
never_born false own p q isnt is = absurd (none_is_no q is)

fork_bears : (constants : Constants) (S : State) (who : Who) (left q : ℕ) → HasBorn S who left q (outcome constants S who (call.ProcFork left))
fork_bears constants S who left q =
    outcome_holds (HasBorn S who left q) constants S who (call.ProcFork left)
    (λ reply refuses. never_born (is_success reply.errno) (get S.processes who.pid) who.pid q
    (refusal_of_fails (call.ProcFork left) (get S.tables who.pid) reply refuses))
    (λ table _.
    fork_holds left who.pid who.tid (get S.processes who.pid) table (lowest_free table) (HasBorn S who left q)
    (λ errno _ other. never_born (is_success errno) (get S.processes who.pid) who.pid q other)
    (λ fd own free there can is.
    let number : child_number who.pid own ≡ q = same_some (child_number who.pid own) q (sym (next_is who.pid own can.bears) ∙ sym (ap (next_child who.pid) there) ∙ is) in (
      own,
      subst (λ k. get (put_all (fork_updates who.pid who.tid own table fd) (tick S)).processes k ≡ Some (child_process who.tid own)) number
          (get-insert-same (insert S.processes who.pid (made_more 2 (with_next_child own))) (child_number who.pid own) (child_process who.tid own)),
    )))

-- what the answer to a fork tells is the child that it makes
abbrev TellsChild : State → Who → ℕ → Outcome → Type 0
TellsChild S who left o = child_told (call.ProcFork left) o.answer ≡ child_made (call.ProcFork left) o.answer who.pid (get S.processes who.pid)

not_made : (b : Bool) (p : ℕ) (own : Option ProcessState) → b ≡ false → (if b then next_child p own else None) ≡ None
not_made true p own isnt = absurd (not_true (sym isnt))
not_made false p own isnt = refl

tells : (constants : Constants) (S : State) (who : Who) (left : ℕ) → TellsChild S who left (outcome constants S who (call.ProcFork left))
tells constants S who left =
    outcome_holds (TellsChild S who left) constants S who (call.ProcFork left)
    (λ reply refuses.
    refusal_bears (call.ProcFork left) (get S.tables who.pid) reply refuses
    ∙ sym (not_made (is_success reply.errno) who.pid (get S.processes who.pid) (refusal_of_fails (call.ProcFork left) (get S.tables who.pid) reply refuses)))
    (λ table _.
    fork_holds left who.pid who.tid (get S.processes who.pid) table (lowest_free table) (TellsChild S who left)
    (λ errno _ other. sym (not_made (is_success errno) who.pid (get S.processes who.pid) other))
    (λ fd own free there can. sym (ap (next_child who.pid) there ∙ next_is who.pid own can.bears)))

lacking_tells : (S : State) (who : Who) (call : Call)
    → child_told call (answer.Reply (refused Nomem)) ≡ child_made call (answer.Reply (refused Nomem)) who.pid (get S.processes who.pid)
lacking_tells S who (call.ProcFork left) = refl
lacking_tells S who _ = refl

answer_tells : (constants : Constants) (S : State) (who : Who) (call : Call)
    → child_told call (step_answer constants S who call) ≡ child_made call (step_answer constants S who call) who.pid (get S.processes who.pid)
answer_tells constants S who (call.ProcFork left) = tells constants S who left
answer_tells constants S who _ = refl

pub fork_tells_child : (constants : Constants) (S : State) (who : Who) (call : Call) (given : Answer) (T : State) → IsStep constants S who call given T
    → child_told call given ≡ child_made call given who.pid (get S.processes who.pid)
fork_tells_child constants S who call given T (inl done) =
    subst (λ a. child_told call a ≡ child_made call a who.pid (get S.processes who.pid)) (sym done.0) (answer_tells constants S who call)
fork_tells_child constants S who call given T (inr lacking) =
    subst (λ a. child_told call a ≡ child_made call a who.pid (get S.processes who.pid)) (sym lacking.1) (lacking_tells S who call)

runs_or_none : (killed : Bool) (t u : ℕ) (own : ProcessState)
    → (thread_in (threads_in (own_left killed (Some (child_process t own)))) u ≡ None)
    ⊎ (thread_in (threads_in (own_left killed (Some (child_process t own)))) u ≡ Some Runnable)
runs_or_none true t u own = inl refl
runs_or_none false t u own =
    elim (eqb_tells u t) [
      | inl is ↦ inr (ap (get (insert empty t Runnable)) is.1 ∙ get-insert-same empty t Runnable)
      | inr other ↦ inl (get-insert-other empty t Runnable u other.1 ∙ get-empty nat_cmp u)
    ]

born_runs : (constants : Constants) (S : State) (who : Who) (call : Call) → BearsRunning who.pid call (step_answer constants S who call) S (step_state constants S who call)
born_runs constants S who (call.ProcFork left) q born t =
    let c = call.ProcFork left in
    let a = step_answer constants S who c in
    let U = unreleased constants S who c in
    let new = waits_if_holds (IsNewborn who.tid q) a who (waiting constants c who (S.clock + 1000)) (put_all (outcome constants S who c).updates (tick S))
    (λ parked. absurd (parked_bears a who.pid (get S.processes who.pid) q parked born)) (fork_bears constants S who left q born) in
    let after = process_after U (ends U) q ∙ ap (own_left (is_killed U (ends U) q)) new.1 in
    let at = ap (λ o. thread_in (threads_in o) t) after in
    elim (runs_or_none (is_killed U (ends U) q) who.tid t new.0) [ inl none ↦ inl (at ∙ none) | inr runs ↦ inr (at ∙ runs) ] where
      parked_bears : (given : Answer) (p : ℕ) (own : Option ProcessState) (q : ℕ) → is_parked given ≡ true
          → child_made (call.ProcFork left) given p own ≡ Some q → ⊥
      parked_bears (answer.Parked writes) p own q parked is = none_is_no q is
      parked_bears (answer.Reply reply) p own q parked is = not_true parked
born_runs constants S who _ q born t = absurd (none_is_no q born)

-- a call that lacks memory makes none
lacking_bears : (S T : State) (who : Who) (call : Call) → BearsRunning who.pid call (answer.Reply (refused Nomem)) S T
lacking_bears S T who (call.ProcFork left) q born t = absurd (none_is_no q born)
lacking_bears S T who _ q born t = absurd (none_is_no q born)

-- a process that lives after it was not killed
pub unless_killed : (S T : State) (q : ℕ) → get T.statuses q ≡ Some Live → HasSameProcess T S q ⊎ IsKilled S T q → HasSameProcess T S q
unless_killed S T q live (inl same) = same
unless_killed S T q live (inr killed) = absurd (killed_is_not_live (sym killed.1.1 ∙ live))

-- ---- a process that was made stays made

pub insert_some : {X : Type 0} (m : FinMap nat_cmp X) (k : ℕ) (x : X) (q : ℕ) → IsSome (get m q) → IsSome (get (insert m k x) q)
insert_some m k x q some =
    elim (eqb_tells q k) [
      | inl is ↦ subst (λ j. IsSome (get (insert m k x) j)) (sym is.1) (subst IsSome (sym (get-insert-same m k x)) refl)
      | inr other ↦ subst IsSome (sym (get-insert-other m k x q other.1)) some
    ]

-- the process lives, or it has ended
abbrev IsMade : State → ℕ → Type 0
IsMade S q = IsSome (get S.statuses q)

put_one_made : (u : Update) (S : State) (q : ℕ) → IsMade S q → IsMade (put_one u S) q
put_one_made (set_status p s) S q made = insert_some S.statuses p s q made
put_one_made u S q made = made

put_made : (us : List Update) (S : State) (q : ℕ) → IsMade S q → IsMade (put_all us S) q
put_made [] S q made = made
put_made (u ∷ us) S q made = put_made us (put_one u S) q (put_one_made u S q made)

release_made : (S : State) (q : ℕ) → IsMade S q → IsMade (release S) q
release_made S q made =
    ap is_some (status_after S (ends S) q) ∙ some_mapped (status_left (is_killed S (ends S) q)) (get S.statuses q) ∙ made

pub step_keeps_made : (constants : Constants) (S : State) (who : Who) (call : Call) (given : Answer) (T : State) (q : ℕ)
    → IsStep constants S who call given T → IsSome (get S.statuses q) → IsSome (get T.statuses q)
step_keeps_made constants S who call given T q (inl done) made =
    subst (λ U. IsMade U q) (sym done.1)
    (release_made (unreleased constants S who call) q (
    waits_if_same (λ U. IsMade U q) (step_answer constants S who call) who (waiting constants call who (S.clock + 1000))
    (put_all (outcome constants S who call).updates (tick S)) (λ there. there) (put_made (outcome constants S who call).updates (tick S) q made)))
step_keeps_made constants S who call given T q (inr lacking) made = subst (λ U. IsMade U q) (sym lacking.2) made

pub end_keeps_made : (S : State) (p : ℕ) (status : Status) (q : ℕ) → IsSome (get S.statuses q) → IsSome (get (end_state S p status).statuses q)
unfolding end_state
end_keeps_made S p status q made = release_made (end_unreleased S p status) q (put_made (end_updates p status) (tick S) q made)

-- ---- threads

-- what a call does of what its process has of its own, and what that asks
outcome_own : (constants : Constants) (S : State) (who : Who) (call : Call)
    → LeavesOwn (meaning_of call).own who.pid who.tid (step_answer constants S who call) (tick S) (put_all (outcome constants S who call).updates (tick S))
outcome_own constants S who call =
    outcome_holds (λ o. LeavesOwn (meaning_of call).own who.pid who.tid o.answer (tick S) (put_all o.updates (tick S))) constants S who call
    (λ reply refuses. inl (undone_stays (meaning_of call).own who.tid (answer.Reply reply) (refusal_of_fails call (get S.tables who.pid) reply refuses) refl
    (get S.processes who.pid)))
    (λ table _. (proper call).own constants (tick S) who table)

outcome_allows : (constants : Constants) (S : State) (who : Who) (call : Call)
    → AllowsChange (meaning_of call).own who.tid (step_answer constants S who call) (get S.processes who.pid)
outcome_allows constants S who call =
    outcome_holds (λ o. AllowsChange (meaning_of call).own who.tid o.answer (get S.processes who.pid)) constants S who call
    (λ reply refuses. undone_allows (meaning_of call).own who.tid (answer.Reply reply) (get S.processes who.pid)
    (refusal_of_fails call (get S.tables who.pid) reply refuses))
    (λ table _. (proper call).allows constants (tick S) who table)

-- a process that lives after the release has what it had
released_own : (U : State) (p : ℕ) → get (release U).statuses p ≡ Some Live
    → (get U.statuses p ≡ Some Live) × (get (release U).processes p ≡ get U.processes p)
released_own U p live =
    let spared = live_spared U p live in (sym (status_spared U (ends U) p spared) ∙ live, process_spared U (ends U) p spared)

pub released_threads : (U : State) (p : ℕ) → get (release U).statuses p ≡ Some Live → (get U.statuses p ≡ Some Live) × (threads_of (release U) p ≡ threads_of U p)
released_threads U p live = let both = released_own U p live in (both.0, ap threads_in both.1)

-- where a process lives after its call, that has changed it as it does
step_changes : (constants : Constants) (S : State) (who : Who) (call : Call) → get (unreleased constants S who call).statuses who.pid ≡ Some Live
    → IsChangedBy (own_by (meaning_of call).own who.tid (step_answer constants S who call)) (get S.processes who.pid)
    (get (put_all (outcome constants S who call).updates (tick S)).processes who.pid)
step_changes constants S who call live =
    let a = step_answer constants S who call in
    let after = put_all (outcome constants S who call).updates (tick S) in
    let lives : get after.statuses who.pid ≡ Some Live =
    waits_if_same (λ U. get U.statuses who.pid ≡ Some Live → get after.statuses who.pid ≡ Some Live) a who (waiting constants call who (S.clock + 1000)) after
    (λ h. h) (λ h. h) live in
    elim (outcome_own constants S who call) [ inl is ↦ is | inr ended ↦ absurd (ended.0 lives) ]

-- of a process that lives after it a call leaves what it says
step_leaves : (constants : Constants) (S : State) (who : Who) (call : Call) → get (step_state constants S who call).statuses who.pid ≡ Some Live
    → LeavesThreads constants S who call (step_answer constants S who call) (step_state constants S who call)
step_leaves constants S who call live =
    let after = put_all (outcome constants S who call).updates (tick S) in
    let both = released_threads (unreleased constants S who call) who.pid live in
    leaves_threads constants S who call (step_answer constants S who call) after (step_state constants S who call)
    (outcome_allows constants S who call, step_changes constants S who call both.0) both.1

-- and it has made what the call says
step_counts : (constants : Constants) (S : State) (who : Who) (call : Call) → get (step_state constants S who call).statuses who.pid ≡ Some Live
    → LeavesCounts call (step_answer constants S who call) (counts_in (get S.processes who.pid)) (counts_in (get (step_state constants S who call).processes who.pid))
step_counts constants S who call live =
    let a = step_answer constants S who call in
    let thread = waiting constants call who (S.clock + 1000) in
    let after = put_all (outcome constants S who call).updates (tick S) in
    let waits : counts_in (get (unreleased constants S who call).processes who.pid) ≡ counts_in (get after.processes who.pid) =
    waits_if_same (λ U. counts_in (get U.processes who.pid) ≡ counts_in (get after.processes who.pid)) a who thread after
    (λ _. with_counts after who.pid who.tid thread who.pid) refl in
    let both = released_own (unreleased constants S who call) who.pid live in
    subst (LeavesCounts call a (counts_in (get S.processes who.pid))) (sym (ap counts_in both.1 ∙ waits))
    (leaves_counts call a who.pid who.tid (tick S) after (outcome_allows constants S who call) (step_changes constants S who call both.0))

-- a call that lacks memory leaves all
lacking_own : (S : State) (who : Who) (call : Call) → IsOwnAfter S who call (answer.Reply (refused Nomem)) (tick S)
lacking_own S who call = (
  undone_allows (meaning_of call).own who.tid (answer.Reply (refused Nomem)) (get S.processes who.pid) refl,
  undone_stays (meaning_of call).own who.tid (answer.Reply (refused Nomem)) refl refl (get S.processes who.pid),
)

-- ---- all of them

pub step_moves_only : (constants : Constants) (S : State) (who : Who) (call : Call) (given : Answer) (T : State)
    → IsStep constants S who call given T → MovesOnly constants S who call given T
step_moves_only constants S who call given T (inl done) =
    subst (MovesOnly constants S who call given) (sym done.1) (subst (λ a. MovesOnly constants S who call a (step_state constants S who call)) (sym done.0) (record {
      clock = unreleased_clock constants S who call;
      others = λ q apart unborn. step_others constants S who call q apart unborn;
      born = born_runs constants S who call;
      threads = step_leaves constants S who call;
      counts = step_counts constants S who call;
    }))
step_moves_only constants S who call given T (inr lacking) =
    subst (MovesOnly constants S who call given) (sym lacking.2) (subst (λ a. MovesOnly constants S who call a (tick S)) (sym lacking.1) (record {
      clock = refl;
      others = λ q apart _. inl (refl, refl, refl);
      born = lacking_bears S (tick S) who call;
      threads = λ live. leaves_threads constants S who call (answer.Reply (refused Nomem)) (tick S) (tick S) (lacking_own S who call) refl;
      counts = λ live. leaves_counts call (answer.Reply (refused Nomem)) who.pid who.tid S (tick S) (lacking_own S who call).0 (lacking_own S who call).1;
    }))

end_spared : (S : State) (p : ℕ) (status : Status) → status ≢ Live → is_killed (end_unreleased S p status) (ends (end_unreleased S p status)) p ≡ false
end_spared S p status ends_it =
    let U = end_unreleased S p status in
    elim (is_killed U (ends U) p) as (λ b. is_killed U (ends U) p ≡ b → b ≡ false) [
      | true ↦ λ e. absurd (ends_it (same_some status Live (sym (get-insert-same S.statuses p status) ∙ (killed_by U (ends U) p e).3)))
      | false ↦ λ e. refl
    ] refl

pub end_ends_only : (S : State) (p : ℕ) (status : Status) → status ≢ Live → EndsOnly S p status (end_state S p status)
unfolding end_state
end_ends_only S p status ends_it = record {
  clock = refl;
  others = λ q apart. (
      let unset = end_others p status q apart in
      others_from S (end_unreleased S p status) (end_state S p status) q (put_others (end_updates p status) (tick S) q unset.0 unset.1)
      (release_others (end_unreleased S p status) q));
  stands = status_spared (end_unreleased S p status) (ends (end_unreleased S p status)) p (end_spared S p status ends_it) ∙ get-insert-same S.statuses p status;
  gone = (
    table_spared (end_unreleased S p status) (ends (end_unreleased S p status)) p (end_spared S p status ends_it) ∙ get-remove-same S.tables p,
    process_spared (end_unreleased S p status) (ends (end_unreleased S p status)) p (end_spared S p status ends_it) ∙ get-remove-same S.processes p,
  );
}
