use Rattle.std.proofs.Common.{◌≡◌, Bool, true, false, refl, sym, ◌∙◌}
use Rattle.maps.specs.Halves.{not_true}
use Rattle.maps.specs.Closure.{member}
use Rattle.wait_set.proofs.Spotting.{as_before}
use Rattle.wait_set.proofs.number_set.NumberSet.change.Goals as goal
use mathlib.Core.Bool.{beq}

same : (a b : Bool) → beq a b ≡ true → a ≡ b
same true true h = refl
same true false h = absurd (not_true h)
same false true h = absurd (not_true h)
same false false h = refl

pub returns-then-was_in-is_in-clause-member : goal.returns-then-was_in-is_in-clause-member
returns-then-was_in-is_in-clause-member c =
    as_before (λ q. member q c.args.self.now.list) c.args.number c.args.is_in (sym c.requires.known ∙ same c.args.was_in c.args.is_in c.if-was_in-is_in.true)
