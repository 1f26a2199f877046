use Rattle.std.proofs.Common.{arith, ◌≡◌, ◌∙◌, ap, sym, option_map, Some, None, to_z, of_z}
use Rattle.std.specs.Int.{w128}
use Rattle.std.proofs.lemmas.Int.{to_z-of_z}
use Rattle.launch_scalars.specs.Numbers.{if_in_range, integer_of}
use Rattle.launch_values.specs.Resolution.{ranged}
use Rattle.launch_values.proofs.Ranges.{by_range}
use Rattle.launch_values.proofs.resolution.number_or_text.Goals as goal

pub returns-in-None-clause-means : goal.returns-in-None-clause-means
returns-in-None-clause-means c =
    c.float_or_text.ensures.means
    ∙ by_range c.args.content None (integer_of c.args.content)
    (ap (option_map if_in_range) (sym c.in-None.is) ∙ c.integer.ensures ∙ ap (λ bytes. option_map if_in_range (integer_of bytes)) c.as_bytes.ensures.bytes)

pub returns-in-Some-clause-means : goal.returns-in-Some-clause-means
returns-in-Some-clause-means c =
    let same : ranged (to_z w128 (of_z w128 c.in-Some.integer)) ≡ ranged c.in-Some.integer = grind (arith, to_z-of_z) in
    c.ranged.ensures.means
    ∙ same
    ∙ by_range c.args.content (Some c.in-Some.integer) (integer_of c.args.content)
    (ap (option_map if_in_range) (sym c.in-Some.is) ∙ c.integer.ensures ∙ ap (λ bytes. option_map if_in_range (integer_of bytes)) c.as_bytes.ensures.bytes)
