use Rattle.launch_scalars.proofs.CappedNumbers.{goes_on}
use Rattle.launch_scalars.proofs.digits.number.Goals as goal

pub loop-rest-preserved : goal.loop-rest-preserved
loop-rest-preserved c =
    goes_on _ _ c.in_ok-digit_below.field-0 _ c.loop-rest.rest.now c.args.bytes.now c.requires.least c.in-len1-up.len_at_least c.in_ok-digit_below.ensures c.with_digit-number.ensures c.loop-rest.invariant.0
    c.loop-rest.invariant.1
