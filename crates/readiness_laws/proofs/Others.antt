-- Threads that an entry of a history leaves as they are.
--     others_look_elsewhere
use Rattle.std.proofs.Common.{◌≡◌, ◌≢◌, ◌⊎◌, ℕ, Bool, true, false, inl, inr, [], ◌∷◌, Option, None, Some, IsSome, refl, sym, ap, subst}
use Rattle.std.proofs.lemmas.Bool.{eq-eqb}
use Rattle.std.proofs.lemmas.Bool.Decides.{eqb_tells}
use Rattle.std.specs.Prelude.{◌||◌, if◌then◌else◌}
use Rattle.std.specs.FinMap.{get}
use Rattle.std.specs.Option.{option_map}
use Rattle.abi_types.specs.declared.call.Call.{Call}
use Rattle.abi_types.specs.declared.constants.Constants.{Constants}
use Rattle.abi_types.specs.declared.reply.Answer.{Answer}
use Rattle.abi_types.specs.declared.status.Status.TheVariants.{Live}
use Rattle.abi_types.specs.declared.wake.WakeIn.{WakeIn}
use Rattle.abi_types.specs.declared.who.Who.{Who}
use Rattle.kernel_model.specs.Laws.{HasSameProcess, IsKilled}
use Rattle.kernel_model.specs.OwnChanges.{child_parts, forks_one, next_child}
use Rattle.kernel_model.specs.State.{State, ProcessState, at_proc, at_status, has_part, thread_in, thread_of}
use Rattle.kernel_model.specs.Step.{end_state, IsStep}
use Rattle.kernel_model.specs.Threads.{child_made, ends_others, makes_child, moves_waiters}
use Rattle.kernel_model.specs.Valid.{IsValid}
use Rattle.kernel_model.specs.Waits.{WaitsIn}
use Rattle.kernel_model.specs.Wakes.{IsWake}
use Rattle.kernel_model.proofs.Births.{child_is_absent}
use Rattle.kernel_model.proofs.Steps.{end_ends_only, step_moves_only, unless_killed}
use Rattle.kernel_model.proofs.Tests.{none_is_no, not_true}
use Rattle.kernel_model.proofs.Waking.{same_child, wake_keeps, wake_moves_none, wake_moves_only}
use Rattle.readiness_laws.specs.Changes.{end_changes, step_changes, wake_changes}
use Rattle.readiness_laws.specs.OtherLaws.{IsOther, OthersLookElsewhere}
use Rattle.readiness_laws.proofs.Changing.{same_own}
use Rattle.readiness_laws.proofs.Marks.{entries_go_over, goes_on}

-- ---- threads of other processes

other_process : (S T : State) (q t : ℕ) → get T.statuses q ≡ Some Live → HasSameProcess T S q ⊎ IsKilled S T q → thread_of S q t ≡ thread_of T q t
other_process S T q t live after = same_own S T q (sym (unless_killed S T q live after).1) t

-- a child that a call makes had no thread
no_thread : (o : Option ProcessState) (t : ℕ) → o ≡ None → IsSome (thread_in (option_map (λ (own : ProcessState). own.threads) o) t) → ⊥
no_thread o t none there = not_true (subst (λ x. IsSome (thread_in (option_map (λ (own : ProcessState). own.threads) x) t)) none there)

made_next : (makes : Bool) (child : Option ℕ) (q : ℕ) → (if makes then child else None) ≡ Some q → child ≡ Some q
made_next true child q is = is
made_next false child q is = absurd (none_is_no q is)

child_is_new : (S : State) (who : Who) (call : Call) (given : Answer) (q : ℕ) → IsValid S → child_made call given who.pid (get S.processes who.pid) ≡ Some q
    → get S.processes q ≡ None
child_is_new S who call given q valid is =
    let next : next_child who.pid (get S.processes who.pid) ≡ Some q = made_next (makes_child call given) _ q is in
    (child_is_absent S who.pid forks_one (at_proc q) valid.nearly
    (subst (λ o. has_part (child_parts o) (at_proc q) ≡ true) (sym next) (ap (λ b. b || has_part (at_status q ∷ []) (at_proc q)) (eq-eqb q q refl)))).1

-- ---- steps and wakes

abbrev There : State → State → ℕ → ℕ → Type 0
There S T p t = IsSome (thread_of S p t) × (get T.statuses p ≡ Some Live)

other_number : (who : Who) (p t : ℕ) → p ≡ who.pid → IsOther who p t → t ≢ who.tid
other_number who p t is (inl apart) = absurd (apart is)
other_number who p t is (inr apart) = apart

step_leaves : (constants : Constants) (S : State) (who : Who) (call : Call) (given : Answer) (T : State) → IsStep constants S who call given T → IsValid S
    → moves_waiters call given ≡ false → ends_others call given ≡ false → (p t : ℕ) → IsOther who p t → There S T p t → thread_of S p t ≡ thread_of T p t
step_leaves constants S who call given T step valid still lasts p t other there =
    let moves = step_moves_only constants S who call given T step in
    elim (eqb_tells p who.pid) [
      | inl is ↦ (
          let same = moves.threads (subst (λ q. get T.statuses q ≡ Some Live) is.1 there.1) in
          let here = subst (λ q. IsSome (thread_of S q t)) is.1 there.0 in
          subst (λ q. thread_of S q t ≡ thread_of T q t) (sym is.1) (sym (same.same still t (other_number who p t is.1 other) here lasts)))
      | inr apart ↦ elim (same_child p (child_made call given who.pid (get S.processes who.pid))) [
        | inl child ↦ absurd (no_thread (get S.processes p) t (child_is_new S who call given p valid child) there.0)
        | inr no_child ↦ other_process S T p t there.1 (moves.others p apart.1 no_child)
      ]
    ]

wake_leaves : (constants : Constants) (S : State) (who : Who) (call : Call) (given : WakeIn) (answered : Answer) (T : State)
    → IsWake constants S who call given answered T → IsValid S → WaitsIn S who call → (p t : ℕ) → IsOther who p t → There S T p t
    → thread_of S p t ≡ thread_of T p t
wake_leaves constants S who call given answered T wakes valid kept p t other there =
    let only = wake_moves_only constants S who call given answered T wakes in
    let keeps = wake_keeps S who call answered valid kept in
    elim (eqb_tells p who.pid) [
      | inl is ↦ (
          let live = subst (λ q. get T.statuses q ≡ Some Live) is.1 there.1 in
          let here = subst (λ q. IsSome (thread_of S q t)) is.1 there.0 in
          subst (λ q. thread_of S q t ≡ thread_of T q t) (sym is.1)
          (sym (only.threads live t (other_number who p t is.1 other) here keeps.1 (wake_moves_none constants S who call given answered T wakes valid kept))))
      | inr apart ↦ other_process S T p t there.1 (only.others keeps.3 p apart.1)
    ]

pub others_look_elsewhere : OthersLookElsewhere
others_look_elsewhere = record {
  steps = λ constants S who call given T step valid deadlines still lasts p t other elsewhere.
      goes_on constants (step_changes constants S who call) S T (entries_go_over.steps constants S who call given T step valid deadlines) p t
      (step_leaves constants S who call given T step valid still lasts p t other (elsewhere.there, elsewhere.lives)) elsewhere.apart;
  wakes = λ constants S who call given answered T wakes valid deadlines kept p t other elsewhere.
      goes_on constants (wake_changes constants S who call given) S T (entries_go_over.wakes constants S who call given answered T wakes valid deadlines) p t
      (wake_leaves constants S who call given answered T wakes valid kept p t other (elsewhere.there, elsewhere.lives)) elsewhere.apart;
  ends = λ constants S p status dead there valid deadlines q t apart elsewhere.
      goes_on constants (end_changes S p status) S (end_state S p status) (entries_go_over.ends constants S p status there dead valid deadlines) q t
      (other_process S (end_state S p status) q t elsewhere.lives ((end_ends_only S p status dead).others q apart)) elsewhere.apart;
}
