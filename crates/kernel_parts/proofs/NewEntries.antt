-- Entries of new threads.
--     begun_fresh      a fresh one where there was none
--     on_ok      what holds where nothing failed leads to more
use Rattle.std.proofs.Common.{◌≡◌, ℕ, false, Option, None, Some, inl, inr, Result, Ok, Err, OnOk, refl, sym, ap, ◌∙◌}
use Rattle.std.proofs.lemmas.Bool.Decides.{eqb_tells}
use Rattle.std.specs.Prelude.{nat_eq}
use Rattle.std.specs.FinMap.{get, insert}
use Rattle.maps.specs.Maps.{get-insert-other, get-insert-same}
use Rattle.wait_set.specs.declared.waiting.Waiting.{Waiting}
use Rattle.wait_set.specs.Waits.{WaitMap, fresh}
use Rattle.kernel_parts.specs.Touching.{HasEach, begun_if}

pub on_ok : {A E : Type 0} {P Q : Type 0} (r : Result A E) → (P → Q) → OnOk r P → OnOk r Q
on_ok (Ok x) leads p = leads p
on_ok (Err e) leads p = tt

not_begun : (o : Option Waiting) → o ≡ begun_if false o
not_begun None = refl
not_begun (Some w) = refl

pub begun_fresh : (t : ℕ) (V W : WaitMap) → get V t ≡ None → W ≡ insert V t fresh → HasEach (λ k. begun_if (nat_eq k t)) V W
begun_fresh t V W none is k =
    ap (λ (m : WaitMap). get m k) is
    ∙ elim (eqb_tells k t) [
      | inl same ↦
          ap (get (insert V t fresh)) same.1 ∙ get-insert-same V t fresh ∙ ap (λ b. begun_if b None) (sym same.0)
          ∙ ap (begun_if (nat_eq k t)) (sym (ap (get V) same.1 ∙ none))
      | inr other ↦ get-insert-other V t fresh k other.1 ∙ not_begun (get V k) ∙ ap (λ b. begun_if b (get V k)) (sym other.0)
    ]
