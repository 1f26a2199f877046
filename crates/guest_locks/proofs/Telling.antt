-- Threads that change, and are told of.
--     tells_none      where none changes
--     tells_one      where one changes, and is told of
--     tells_both      one change after another
--     told_by_number      where it isn't all, those with these numbers are told of
use Rattle.std.proofs.Common.{◌≡◌, ℕ, ◌||◌, ◌==◌, Bool, true, false, inl, inr, refl, sym, ap, ◌∙◌}
use Rattle.std.proofs.lemmas.Bool.Decides.{eqb_tells}
use Rattle.std.specs.Prelude.{if◌then◌else◌}
use Rattle.std.specs.Option.{option_map}
use Rattle.std.specs.FinMap.{get}
use Rattle.abi_types.specs.declared.thread.Thread.{Thread}
use Rattle.maps.specs.Closure.{get-changed, member}
use Rattle.kernel_model.specs.State.{Threads}
use Rattle.kernel_model.proofs.Tests.{not_true}
use Rattle.guest_locks.specs.Told.{has, TellsOf, Told}
use Rattle.guest_locks.proofs.Changing.{one_changed, unchanged}

pub tells_none : (threads : Threads) (told : Told) → TellsOf threads threads told told
tells_none threads told = record { tells = λ t not. (refl, not) }

pub tells_both : {a b c : Threads} {x y z : Told} → TellsOf a b x y → TellsOf b c y z → TellsOf a c x z
tells_both first second = record {
  tells = λ t not. (let after = second.tells t not in let before = first.tells t after.1 in (after.0 ∙ before.0, before.1));
}

-- what isn't so after wasn't so before
was_false : (before after : Bool) → (before ≡ true → after ≡ true) → after ≡ false → before ≡ false
was_false true after stays not = absurd (not_true (sym not ∙ stays refl))
was_false false after stays not = refl

pub tells_one : (f : Thread → Thread) (threads : Threads) (k : ℕ) (old new : Told) → has k new ≡ true
    → ((t : ℕ) → has t old ≡ true → has t new ≡ true) → TellsOf threads (one_changed f k threads) old new
tells_one f threads k old new told kept = record { tells = λ t not. (as_it_was t not, was_false (has t old) (has t new) (kept t) not) }
  where
    as_it_was : (t : ℕ) → has t new ≡ false → get (one_changed f k threads) t ≡ get threads t
    as_it_was t not =
        elim (eqb_tells t k) [
          | inl same ↦ absurd (not_true (sym not ∙ ap (λ q. has q new) same.1 ∙ told))
          | inr other ↦ get-changed (λ q x. if q == k then f x else x) threads t
              ∙ ap (λ b. option_map (λ y. if b then f y else y) (get threads t)) other.0 ∙ unchanged f (get threads t)
        ]

pub told_by_number : (t : ℕ) (told : Told) → told.all ≡ false → has t told ≡ member t told.numbers
told_by_number t told some = ap (λ b. b || member t told.numbers) some
