-- What a scalar means doesn't distinguish integers that are out of range.
use Rattle.std.proofs.Common.{ℕ, ℤ, ◌≡◌, List, Bool, true, false, if◌then◌else◌, Option, Some, None, Result, Ok, Err, option_map, ap, refl, sym, ◌∙◌}
use Rattle.launch_scalars.specs.declared.kind.YamlKind.{YamlKind}
use Rattle.launch_scalars.specs.declared.kind.YamlKind.TheVariants as kinds
use Rattle.launch_scalars.specs.Numbers.{is_in_range, if_in_range}
use Rattle.launch_values.specs.Shape.{Content, integer}
use Rattle.launch_values.specs.Resolution.{ranged, number_or_text}

abbrev meant : Option (Option ℤ) → Result Content YamlKind
meant (Some (Some i)) = Ok (integer i)
meant (Some None) = Err kinds.IntegerRange
meant None = Err kinds.IntegerRange

ranged_is : (i : ℤ) → ranged i ≡ meant (Some (if_in_range i))
ranged_is i = tested (is_in_range i)
  where
    tested : (inside : Bool) → (if inside then Ok (integer i) else Err kinds.IntegerRange) ≡ meant (Some (if inside then Some i else None))
    tested true = refl
    tested false = refl

-- integers of which the same is said
pub by_range : (bytes : List ℕ) (a b : Option ℤ) → option_map if_in_range a ≡ option_map if_in_range b → number_or_text bytes a ≡ number_or_text bytes b
by_range bytes None None h = refl
by_range bytes None (Some j) h = cc (h)
by_range bytes (Some i) None h = cc (h)
by_range bytes (Some i) (Some j) h = ranged_is i ∙ ap meant h ∙ sym (ranged_is j)
