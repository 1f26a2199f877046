use Rattle.std.proofs.Common.{arith, sym}
use Rattle.launch_scalars.proofs.BadBytes.{bad_inside, all_valid}
use Rattle.launch_values.proofs.tags.named.Goals as goal

pub overflow_sub-bytes : goal.overflow_sub-bytes
overflow_sub-bytes c =
    omega (arith, bad_inside c.split_at.result.0.now c.in-Some.place (sym c.in-Some.ensures), c.split_at.ensures.front_len, c.requires)

pub unreachable-requires : goal.unreachable-requires
unreachable-requires c =
    omega (arith, all_valid c.split_at.result.0.now (sym c.in_default.ensures), c.in-Err.ensures.valid_len, c.in-Err.ensures.cases.1.short)
