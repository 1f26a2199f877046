-- How many threads run.
--     runners_are_counted
use Rattle.std.proofs.Common.{◌≡◌, ℕ, ◌+◌, Option, None, Some, refl, sym, ap, ◌∙◌, arith}
use Rattle.std.specs.FinMap.{get, insert}
use Rattle.std.specs.Option.{option_map}
use Rattle.abi_types.specs.declared.thread.Thread.{Thread}
use Rattle.abi_types.specs.declared.thread.Thread.TheVariants.{Runnable, Waits}
use Rattle.maps.specs.Closure.{total_zero_exactly}
use Rattle.maps.specs.Maps.{total, total-insert, total-remove, weight}
use Rattle.kernel_model.specs.State.{ProcessState, State, thread_in, thread_of}
use Rattle.kernel_model.specs.Waits.{IsParked, with_thread}
use Rattle.kernel_model.specs.Wakes.{HasThread}
use Rattle.kernel_model.proofs.Tests.{none_is_no}
use Rattle.kernel_model.proofs.Threading.{with_thread_is}
use Rattle.readiness_laws.specs.CountLaws.{RunnersAreCounted, running, running_in, runs}

-- a thread is one of a process
of_process : (t : ℕ) (thread : Thread) (o : Option ProcessState) → thread_in (option_map (λ (own : ProcessState). own.threads) o) t ≡ Some thread
    → (own : ProcessState) × (o ≡ Some own) × (get own.threads t ≡ Some thread)
of_process t thread None there = absurd (none_is_no thread there)
of_process t thread (Some own) there = (own, refl, there)

parked_is : (thread : Thread) → runs thread ≡ 0 → IsParked thread
parked_is Runnable none = absurd (omega (arith, none))
parked_is (Waits call since until stage) none = tt

runs_not : (thread : Thread) → IsParked thread → runs thread ≡ 0
runs_not Runnable parked = absurd parked
runs_not (Waits call since until stage) parked = refl

module _ (S : State) where
  all_wait : running S ≡ 0 → (p t : ℕ) (thread : Thread) → HasThread S p t thread → IsParked thread
  all_wait none p t thread there =
      let own = of_process t thread (get S.processes p) there in
      let inner : running_in own.0 ≡ 0 = sym (ap (weight running_in) own.1) ∙ (total_zero_exactly running_in S.processes).0 none p in
      parked_is thread (sym (ap (weight runs) own.2) ∙ (total_zero_exactly runs own.0.threads).0 inner t)

  thread_weighs : ((p t : ℕ) (thread : Thread) → HasThread S p t thread → IsParked thread) → (p : ℕ) (own : ProcessState) → get S.processes p ≡ Some own
      → (t : ℕ) (o : Option Thread) → get own.threads t ≡ o → weight runs o ≡ 0
  thread_weighs all p own there t None is = refl
  thread_weighs all p own there t (Some thread) is =
      runs_not thread (all p t thread (ap (λ (o : Option ProcessState). thread_in (option_map (λ (x : ProcessState). x.threads) o) t) there ∙ is))

  process_weighs : ((p t : ℕ) (thread : Thread) → HasThread S p t thread → IsParked thread) → (p : ℕ) (o : Option ProcessState) → get S.processes p ≡ o
      → weight running_in o ≡ 0
  process_weighs all p None there = refl
  process_weighs all p (Some own) there = (total_zero_exactly runs own.threads).1 (λ t. thread_weighs all p own there t (get own.threads t) refl)

  none_runs : ((p t : ℕ) (thread : Thread) → HasThread S p t thread → IsParked thread) → running S ≡ 0
  none_runs all = (total_zero_exactly running_in S.processes).1 (λ p. process_weighs all p (get S.processes p) refl)

  thread_counts : (p t : ℕ) (before after : Thread) → thread_of S p t ≡ Some before
      → running (with_thread S p t after) + runs before ≡ running S + runs after
  thread_counts p t before after there =
      let found = of_process t before (get S.processes p) there in
      let own : ProcessState = found.0 in
      let new : ProcessState = record own { threads = insert own.threads t after } in
      let is : running (with_thread S p t after) ≡ total running_in (insert S.processes p new) = ap running (with_thread_is S p t after before own found.1 found.2) in
      let outer = total-insert running_in S.processes p new in
      let was : weight running_in (get S.processes p) ≡ running_in own = ap (weight running_in) found.1 in
      let inner = total-insert runs own.threads t after in
      let gone : weight runs (get own.threads t) ≡ runs before = ap (weight runs) found.2 in
      omega (arith, is, outer, was, inner, gone)

pub runners_are_counted : RunnersAreCounted
runners_are_counted = record {
  none = λ S. (all_wait S, none_runs S);
  threads = thread_counts;
  processes = λ S p own. total-insert running_in S.processes p own;
  gone = λ S p. total-remove running_in S.processes p;
}
