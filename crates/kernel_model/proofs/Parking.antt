-- What it says of a call that its thread waits in it.
--     parks_only      it may, nothing is set but how others wait, it isn't refused, and no path of it leads outside
--     sets_none, sets_apart      what that sets
--     waiting_may      and so its thread waits as it may
--     waits_or_replies, denied_where_outside      what a call does that isn't refused
--     replied_leaves      a call that replies leaves what its updates leave
use Rattle.std.proofs.Common.{◌≡◌, ◌≢◌, ℕ, ◌+◌, ◌||◌, Bool, true, false, inl, inr, List, [], map, Option, Some, None, refl, sym, ap, ◌∙◌}
use Rattle.std.specs.Prelude.{if◌then◌else◌}
use Rattle.std.specs.FinMap.{get}
use Rattle.abi_base.specs.declared.errno.Errno.{Errno}
use Rattle.abi_types.specs.declared.call.Call.{Call}
use Rattle.abi_types.specs.declared.constants.Constants.{Constants}
use Rattle.abi_types.specs.declared.reply.Answer.{Answer}
use Rattle.abi_types.specs.declared.reply.Answer.TheVariants as answer
use Rattle.abi_types.specs.declared.reply.Reply.{Reply}
use Rattle.abi_types.specs.declared.thread.Stage.{Stage}
use Rattle.abi_types.specs.declared.thread.Stage.TheVariants.{Begun, Queued}
use Rattle.abi_types.specs.declared.who.Who.{Who}
use Rattle.kernel_model.specs.Calls.{meaning_of, refusal_of}
use Rattle.kernel_model.specs.Families.Locks.{first_awaited, is_condition, is_late}
use Rattle.kernel_model.specs.Meaning.{Meaning}
use Rattle.kernel_model.specs.Outcome.{Outcome, OnReply, is_parked}
use Rattle.kernel_model.specs.OwnChanges.{begins_to_sleep}
use Rattle.kernel_model.specs.Proper.{IsDeniedOutside, IsProper, IsUnset, OrWaits, SetsWaiters, handed_on, nothing_set}
use Rattle.kernel_model.specs.State.{ProcessState, State, Table, at_proc, at_status, has_part, part_of, put_all}
use Rattle.kernel_model.specs.Step.{tick, outcome, outside, step_answer, unreleased}
use Rattle.kernel_model.specs.View.{View, whole}
use Rattle.kernel_model.specs.Waits.{may_stand, may_wait, stage_after, waiting, waits_if, MayWait}
use Rattle.kernel_model.proofs.Calls.{proper}
use Rattle.kernel_model.proofs.Outcomes.{outcome_by_cases, outside_of_table}
use Rattle.kernel_model.proofs.Parts.{number_apart}
use Rattle.kernel_model.proofs.Tests.{none_is_no, not_true}

pub reply_is_not_parked : (P : Reply → Type 0) (a : Answer) → OnReply P a → is_parked a ≡ false
reply_is_not_parked P (answer.Parked writes) h = absurd h
reply_is_not_parked P (answer.Reply reply) h = refl

pub parked_is_no_reply : (given : Answer) (reply : Reply) → is_parked given ≡ true → given ≡ answer.Reply reply → ⊥
parked_is_no_reply given reply parked is = not_true (sym (ap is_parked is) ∙ parked)

pub denied_is_not_parked : (errors : List Errno) (leads : Option ℕ) (o : Outcome) → IsDeniedOutside errors leads o → is_parked o.answer ≡ false
denied_is_not_parked errors None o plain = reply_is_not_parked _ o.answer plain
denied_is_not_parked errors (Some component) o denied = ap (λ (x : Outcome). is_parked x.answer) denied

-- a call waits, where it may, with nothing set but how others wait
pub waits_only : (b : Bool) (p : ℕ) (own : Option ProcessState) (o : Outcome) (P : Type 0) → OrWaits b p own o P → (P → is_parked o.answer ≡ false)
    → is_parked o.answer ≡ true → (b ≡ true) × SetsWaiters p own o
waits_only true p own o P (inl waits) replies parked = (refl, waits.1)
waits_only true p own o P (inr denied) replies parked = absurd (not_true (sym (replies denied) ∙ parked))
waits_only false p own o P denied replies parked = absurd (not_true (sym (replies denied) ∙ parked))

-- where it doesn't begin to wait at a condition variable nothing is set
pub sets_none : (p : ℕ) (own : Option ProcessState) (o : Outcome) → SetsWaiters p own o → begins_to_sleep o.answer ≡ false → o.updates ≡ []
sets_none p own o (nothing_set awake none) _ = none
sets_none p own o (handed_on condvar lock was is there sets) awake = absurd (not_true (sym awake ∙ ap begins_to_sleep is))

-- and nothing that another process has
pub sets_apart : (p : ℕ) (own : Option ProcessState) (o : Outcome) (q : ℕ) → q ≢ p → SetsWaiters p own o
    → IsUnset o (at_proc q) × IsUnset o (at_status q)
sets_apart p own o q apart (nothing_set awake none) =
    (ap (λ us. has_part (map part_of us) (at_proc q)) none, ap (λ us. has_part (map part_of us) (at_status q)) none)
sets_apart p own o q apart (handed_on condvar lock was is there sets) = (
  ap (λ us. has_part (map part_of us) (at_proc q)) sets ∙ ap (λ b. b || false) (number_apart p q apart),
  ap (λ us. has_part (map part_of us) (at_status q)) sets,
)

-- a thread waits in a call in which it may, and its wait may have come so far
stage_stands : (call : Call) (stage : Option Stage) (now : ℕ) → may_stand call (stage_after call stage now) ≡ true
stage_stands call None now = refl
stage_stands call (Some stage) now =
    elim (is_condition (first_awaited call)) as (λ b. is_condition (first_awaited call) ≡ b
    → may_stand call (if b then Queued now (is_late stage) else Begun) ≡ true) [ true ↦ λ is. is | false ↦ λ _. refl ] refl

pub waiting_may : (constants : Constants) (call : Call) (who : Who) (now : ℕ) → may_wait call ≡ true → MayWait (Some (waiting constants call who now))
waiting_may constants call who now may = (may, stage_stands call who.stage now)

-- or it replies
pub waits_or_replies : (b : Bool) (p : ℕ) (own : Option ProcessState) (o : Outcome) (P Q : Type 0) → OrWaits b p own o P → (is_parked o.answer ≡ true → Q) → (P → Q) → Q
waits_or_replies true p own o P Q (inl waits) parked replies = parked waits.0
waits_or_replies true p own o P Q (inr denied) parked replies = replies denied
waits_or_replies false p own o P Q denied parked replies = replies denied

-- where a path of it leads outside it doesn't wait
pub denied_where_outside : (m : Meaning) → IsProper m → (constants : Constants) (v : View) (who : Who) (table : Table) (component : ℕ)
    → m.outside v table ≡ Some component → IsDeniedOutside m.errors (m.outside v table) (m.effect constants v who table)
denied_where_outside m p constants v who table component leads =
    let o = m.effect constants v who table in
    let denied = IsDeniedOutside m.errors (m.outside v table) o in
    elim m.may_wait as (λ b. m.may_wait ≡ b → OrWaits b who.pid (v.process who.pid) o denied → denied) [
      | true ↦ λ e w. absurd (none_is_no component (sym ((p.waits e).inside v table) ∙ leads))
      | false ↦ λ e w. w
    ] refl (p.plain constants v who table)

pub record ParksOnly (constants : Constants) (S : State) (who : Who) (call : Call) : Type 0 where
  pub may : may_wait call ≡ true
  pub sets : SetsWaiters who.pid (get S.processes who.pid) (outcome constants S who call)
  pub unrefused : refusal_of call (get S.tables who.pid) ≡ None
  pub inside : outside S who call ≡ None

-- what is shown of an outcome
abbrev Shown : State → Who → Call → Outcome → Type 0
Shown S who call o =
    is_parked o.answer ≡ true
    → (may_wait call ≡ true) × SetsWaiters who.pid (get S.processes who.pid) o × (refusal_of call (get S.tables who.pid) ≡ None) × (outside S who call ≡ None)

pub parks_only : (constants : Constants) (S : State) (who : Who) (call : Call) → is_parked (step_answer constants S who call) ≡ true
    → ParksOnly constants S who call
parks_only constants S who call parked =
    let shown =
    outcome_by_cases (Shown S who call) constants S who call (λ reply refuses none. absurd (not_true none))
    (λ table own unrefused waits.
    let m = meaning_of call in
    let o = m.effect constants (whole (tick S)) who table in
    let only = waits_only m.may_wait who.pid (get S.processes who.pid) o _ ((proper call).plain constants (whole (tick S)) who table)
    (denied_is_not_parked m.errors (m.outside (whole (tick S)) table) o) waits in (
      only.0,
      only.1,
      ap (refusal_of call) own ∙ unrefused,
      outside_of_table S who call table own unrefused ∙ ((proper call).waits only.0).inside (whole (tick S)) table,
    )) parked in
    record { may = shown.0; sets = shown.1; unrefused = shown.2; inside = shown.3 }

-- a call that replies leaves what its updates leave, before the release
pub replied_leaves : (constants : Constants) (S : State) (who : Who) (call : Call) (reply : Reply) → step_answer constants S who call ≡ answer.Reply reply
    → unreleased constants S who call ≡ put_all (outcome constants S who call).updates (tick S)
replied_leaves constants S who call reply is =
    ap (λ a. waits_if a who (waiting constants call who (S.clock + 1000)) (put_all (outcome constants S who call).updates (tick S))) is
