use Rattle.std.proofs.Common.{◌+◌, ◌<◌, ◌∙◌, subst, sym, arith}
use Rattle.guest_locks.specs.Queues.{since_in}
use Rattle.guest_locks.proofs.Firsts.{goes_on, is_from, is_least, key_there, none_yet, IsFirstOf}
use Rattle.guest_locks.proofs.queues.first_in.Goals as goal

pub loop-tid-init : goal.loop-tid-init
loop-tid-init c = (none_yet (since_in c.args.queue) c.args.threads.now, omega arith)

pub overflow_add-from : goal.overflow_add-from
overflow_add-from c =
    let low = c.requires.few.low c.in-Some.tid (key_there (since_in c.args.queue) c.args.threads.now _ c.in-Some.tid (sym c.in-Some.ensures)) in
    omega (arith, low)

pub loop-tid-smaller : goal.loop-tid-smaller
loop-tid-smaller c =
    let low = c.requires.few.low c.in-Some.tid (key_there (since_in c.args.queue) c.args.threads.now _ c.in-Some.tid (sym c.in-Some.ensures)) in
    let up = is_from (since_in c.args.queue) c.args.threads.now c.loop-tid.from c.in-Some.tid (sym c.in-Some.ensures) in
    omega (arith, low, up)

pub loop-tid-preserved : goal.loop-tid-preserved
loop-tid-preserved c =
    let low = c.requires.few.low c.in-Some.tid (key_there (since_in c.args.queue) c.args.threads.now _ c.in-Some.tid (sym c.in-Some.ensures)) in (
      subst (IsFirstOf (since_in c.args.queue) c.args.threads.now (λ q. q < c.in-Some.tid + 1)) (sym c.beside-found.ensures)
          (goes_on (since_in c.args.queue) c.args.threads.now c.loop-tid.from c.in-Some.tid c.loop-tid.found c.since_at.result (sym c.in-Some.ensures)
          c.since_at.ensures c.loop-tid.invariant.0),
      omega (arith, low),
    )

pub returns : goal.returns
returns c =
    c.number_of.ensures
    ∙ is_least (since_in c.args.queue) c.args.threads.now c.loop-tid.from (sym c.in_default.ensures) c.loop-tid.found c.loop-tid.invariant.0
