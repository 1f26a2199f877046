use Rattle.std.proofs.Common.{arith, ◌≡◌, ◌*◌, ◌+ℤ◌, ◌-ℤ◌, ◌*ℤ◌, pos, w64, to_z, of_z}
use Rattle.std.proofs.lemmas.Int.{ints}
use Rattle.rv_code.specs.Immediates.{signed_at}
use Rattle.rv_words.proofs.HighParts.{at_place}
use Rattle.rv_words.proofs.words.address_words.Goals as goal

pub returns : goal.returns
returns c =
    let low = to_z w64 (of_z w64 (to_z w64 (of_z w64 c.args.distance) -ℤ to_z w64 (of_z w64 (to_z w64 (of_z w64 c.high_part-high.result) *ℤ pos 4096)))) in
    let high = at_place c.field.result (to_z w64 (of_z w64 c.high_part-high.result)) c.field.ensures.signed in
    let sum : signed_at 2147483648 (c.field.result * 4096) +ℤ low ≡ c.args.distance = omega (arith, ints, high) in
    (signed_at 2147483648 (c.field.result * 4096), low, sum, omega arith, c.upper_word-first.ensures, omega arith, c.immediate_word-second.ensures)
