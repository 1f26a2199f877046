use Rattle.std.proofs.Common.{arith}
use Rattle.kernel_model.specs.Families.Locks.{waits_for}
use Rattle.guest_locks.proofs.Firsts.{key_there}
use Rattle.guest_locks.proofs.handing.hand_to.Goals as goal

pub give_to-requires : goal.give_to-requires
give_to-requires c = record { there = key_there (waits_for c.args.lock) c.args.threads.now _ c.args.first c.requires.first }

pub overflow_cast-result : goal.overflow_cast-result
overflow_cast-result c =
    let low = c.requires.few.low c.args.first (key_there (waits_for c.args.lock) c.args.threads.now _ c.args.first c.requires.first) in
    omega (arith, low)

pub overflow_add-result : goal.overflow_add-result
overflow_add-result c =
    let low = c.requires.few.low c.args.first (key_there (waits_for c.args.lock) c.args.threads.now _ c.args.first c.requires.first) in
    omega (arith, low)

pub returns-clause-low : goal.returns-clause-low
returns-clause-low c =
    let low = c.requires.few.low c.args.first (key_there (waits_for c.args.lock) c.args.threads.now _ c.args.first c.requires.first) in
    omega (arith, low)
