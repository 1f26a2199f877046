-- the place is that of the longest beginning
use Rattle.std.proofs.Common.{arith, subst, sym}
use Rattle.argdata_codec.specs.Encoding.{IsLongest}
use Rattle.argdata_codec.proofs.Longest.{from_each, fault_place}
use Rattle.argdata_codec.proofs.decoding.fault.Goals as goal

pub returns : goal.returns
returns c =
    let bytes = c.args.bytes.now in
    subst (IsLongest bytes) (sym c.in_ok-value.ensures.value) (fault_place bytes (from_each bytes (λ i. omega (arith, c.type_inv.bytes i))))
