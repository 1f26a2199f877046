use Rattle.std.proofs.Common.{arith, rules}
use Rattle.std.proofs.lemmas.Int.{ints}
use Rattle.rv_asm.specs.Instructions.{address_of}
use Rattle.rv_asm.proofs.ItemParts.{pair_is}
use Rattle.rv_asm.proofs.instructions.address.Goals as goal

pub returns : goal.returns
unfolding address_of
returns c = pair_is _ c.in_ok-rd-2.rd c.in_ok-distance.distance _ _ (search rules) (omega (arith, ints)) c.address_words.ensures
