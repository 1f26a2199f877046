-- A scalar in which nothing is bad says a text.
use Rattle.std.proofs.Common.{List, ℕ, sym, ap, subst, ◌∙◌}
use Rattle.std.specs.Str.{IsUtf8}
use Rattle.launch_scalars.specs.Spaces.{without_last_spaces}
use Rattle.launch_scalars.proofs.ScalarSteps.{plain_good}
use Rattle.launch_scalars.proofs.scalars.plain_scalar.Goals as goal

pub text-content-requires : goal.text-content-requires
text-content-requires c =
    subst IsUtf8 (sym (c.in_ok-from_slice.ensures.items ∙ c.without_last_spaces.ensures ∙ ap without_last_spaces c.split_at.ensures.front))
    (plain_good _ (sym c.in_default.ensures.value)).0
