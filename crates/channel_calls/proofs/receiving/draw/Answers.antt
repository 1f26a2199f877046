use Rattle.std.proofs.Common.{◌≤◌, ◌-◌, List, length, take, drop, sym, subst, arith}
use Rattle.std.specs.FinMap.{get}
use Rattle.abi_types.specs.declared.descriptor.Descriptor.{Descriptor}
use Rattle.maps.specs.Maps.{number}
use Rattle.kernel_model.specs.Channels.{pull}
use Rattle.kernel_model.specs.Release.{count_carried}
use Rattle.channel_calls.proofs.Takes.{all_come, carriers_within, coming_few, first_part, never_waits, part_of, some_there}
use Rattle.channel_calls.proofs.receiving.draw.Goals as goal

pub pull_from-requires-clause-room : goal.pull_from-requires-clause-room
pull_from-requires-clause-room c channel there = coming_few channel (c.check.ensures channel there)

pub unreachable-requires : goal.unreachable-requires
unreachable-requires c =
    let is = some_there (get c.args.channels.now c.args.id) c.requires.there in
    never_waits (length c.args.out.now) is.0 (c.requires.waits is.0 is.1) (c.in_default.ensures.err is.0 is.1)

pub let_go_all-requires : goal.let_go_all-requires
let_go_all-requires c = record {
  covered = λ o.
      let is = some_there (get c.args.channels.now c.args.id) c.requires.there in
      let pulled = pull (length c.args.out.now) is.0 in
      let done = (c.in-Ok.ensures.ok is.0 is.1).1 in
      let part = first_part c.in-Ok.done.carried pulled.carried _ c.pull_from.new.fds done.carried done.count_carried in
      let few = part_of o (length pulled.carried - c.args.kept) c.args.kept pulled.carried in
      let within = carriers_within o c.args.channels.now c.args.id (length c.args.out.now) is.0 is.1 in
      subst (λ (ds : List Descriptor). count_carried o (take (length ds - c.args.kept) (drop c.args.kept ds)) ≤ number (get c.args.objects.now.counts o))
      (sym part) (omega (arith, few, within, c.requires.covered o));
}

pub returns-then-kept-done-clause-out : goal.returns-then-kept-done-clause-out
returns-then-kept-done-clause-out c channel there =
    let done = (c.in-Ok.ensures.ok channel there).1 in
    all_come (pull (length c.args.out.now) channel).bytes c.args.out.now c.pull_from.new.out (c.requires.waits channel there) done.bytes

pub returns-else-kept-done-clause-out : goal.returns-else-kept-done-clause-out
returns-else-kept-done-clause-out c channel there =
    let done = (c.in-Ok.ensures.ok channel there).1 in
    all_come (pull (length c.args.out.now) channel).bytes c.args.out.now c.pull_from.new.out (c.requires.waits channel there) done.bytes
