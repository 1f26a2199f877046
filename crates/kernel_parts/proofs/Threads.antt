-- A thread of a process that does something else, as a map with it put in.
use Rattle.std.proofs.Common.{◌≡◌, ℕ, ◌==◌, false, Option, None, Some, sym, ap, refl, ◌∙◌}
use Rattle.std.proofs.lemmas.Bool.{eq-eqb}
use Rattle.std.specs.Prelude.{if◌then◌else◌}
use Rattle.std.specs.Option.{option_map}
use Rattle.std.specs.FinMap.{get, insert}
use Rattle.abi_types.specs.declared.thread.Thread.{Thread}
use Rattle.maps.specs.Closure.{get-changed}
use Rattle.maps.specs.Maps.{get-insert-same, get-insert-other, same_around}
use Rattle.kernel_model.specs.State.{ProcessState}
use Rattle.kernel_model.specs.Waits.{thread_set}
use Rattle.kernel_model.proofs.Parts.{number_apart}

unchanged : {X : Type 0} (f : X → X) (o : Option X) → option_map (λ x. if false then f x else x) o ≡ o
unchanged f None = refl
unchanged f (Some x) = refl

module _ (own : ProcessState) (t : ℕ) (thread : Thread) where
  set_there : get (thread_set t thread own).threads t ≡ option_map (λ (was : Thread). thread) (get own.threads t)
  set_there =
      get-changed (λ k was. if k == t then thread else was) own.threads t
      ∙ ap (λ b. option_map (λ was. if b then thread else was) (get own.threads t)) (eq-eqb t t refl)

  set_apart : (u : ℕ) → (u ≡ t → ⊥) → get (thread_set t thread own).threads u ≡ get own.threads u
  set_apart u apart =
      get-changed (λ k was. if k == t then thread else was) own.threads u
      ∙ ap (λ b. option_map (λ was. if b then thread else was) (get own.threads u)) (number_apart u t (λ e. apart (sym e)))
      ∙ unchanged (λ was. thread) (get own.threads u)

  -- where it is there
  pub set_is : (before : Thread) → get own.threads t ≡ Some before → thread_set t thread own ≡ record own { threads = insert own.threads t thread }
  set_is before there =
      let threads : (thread_set t thread own).threads ≡ insert own.threads t thread =
      same_around _ _ t (set_there ∙ ap (option_map (λ (was : Thread). thread)) there ∙ sym (get-insert-same own.threads t thread))
      (λ u apart. set_apart u apart ∙ sym (get-insert-other own.threads t thread u apart)) in
      λ i. record own { threads = threads i }

  -- where it isn't
  pub set_none : get own.threads t ≡ None → thread_set t thread own ≡ own
  set_none none =
      let threads : (thread_set t thread own).threads ≡ own.threads =
      same_around _ _ t (set_there ∙ ap (option_map (λ (was : Thread). thread)) none ∙ sym none) set_apart in
      λ i. record own { threads = threads i }
