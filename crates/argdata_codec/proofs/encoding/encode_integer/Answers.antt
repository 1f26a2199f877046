-- the last bytes of 16 are the lowest
use Rattle.std.proofs.Common.{◌∷◌, List, ℕ, ap, ◌∙◌}
use Rattle.std.proofs.lemmas.Result.{IfOk-weaker}
use Rattle.std.proofs.lemmas.Int.{to_z-of_z}
use Rattle.std.specs.Int.{w128}
use Rattle.argdata_codec.proofs.Groups.{sliced}
use Rattle.argdata_codec.proofs.encoding.encode_integer.Goals as goal

pub returns : goal.returns
returns c =
    IfOk-weaker c.tagged.result _ _ (λ bytes h. h ∙ ap (λ (xs : List ℕ). 5 ∷ xs)
    (sliced c.args.integer _ c.width.result c.cast_unsigned.result _ (to_z-of_z w128 c.args.integer c.ranges.integer) c.width.ensures.value c.width.ensures.small
    c.cast_unsigned.ensures c.to_be_bytes-bytes.ensures)) c.tagged.ensures
