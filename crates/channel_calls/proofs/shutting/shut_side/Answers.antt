-- What waited in the channel is what is let go, where the side is shut that reads.
use Rattle.std.proofs.Common.{rules, IsSome, ap, arith}
use Rattle.std.specs.FinMap.{get}
use Rattle.channels.specs.Channels.{released_at}
use Rattle.channel_calls.specs.Calls.{carriers_in}
use Rattle.kernel_model.specs.Release.{count_carried}
use Rattle.channel_calls.proofs.Sends.{take_filled}
use Rattle.channel_calls.proofs.Shuts.{carriers_shut, some_of}
use Rattle.channel_calls.proofs.shutting.shut_side.Goals as goal

pub let_go_all-requires : goal.let_go_all-requires
let_go_all-requires c =
    let is_there : IsSome (get c.args.channels.now c.args.id) = search rules in
    let there = some_of (get c.args.channels.now c.args.id) is_there in
    let released = released_at c.args.side there.0 in
    let taken = take_filled c.shut_side-count.result released _ c.shut_side-count.new.fds (c.shut_side-count.ensures.count there.0 there.1)
    (c.shut_side-count.ensures.released there.0 there.1) in
    record {
      covered = λ o. omega (arith, ap (count_carried o) taken, c.requires.covered o, carriers_shut o c.args.channels.now c.args.id c.args.side there.0 there.1);
    }

pub returns-clause-counts : goal.returns-clause-counts
returns-clause-counts c =
    let is_there : IsSome (get c.args.channels.now c.args.id) = search rules in
    let there = some_of (get c.args.channels.now c.args.id) is_there in
    let released = released_at c.args.side there.0 in
    let taken = take_filled c.shut_side-count.result released _ c.shut_side-count.new.fds (c.shut_side-count.ensures.count there.0 there.1)
    (c.shut_side-count.ensures.released there.0 there.1) in
    λ o. omega (
      arith,
      ap (count_carried o) taken,
      c.let_go_all.ensures.counts o,
      ap (carriers_in o) (c.shut_side-count.ensures.channel there.0 there.1),
      carriers_shut o c.args.channels.now c.args.id c.args.side there.0 there.1,
    )

pub returns-clause-few : goal.returns-clause-few
returns-clause-few c =
    let is_there : IsSome (get c.args.channels.now c.args.id) = search rules in
    let there = some_of (get c.args.channels.now c.args.id) is_there in
    λ o. omega (
      arith,
      ap (carriers_in o) (c.shut_side-count.ensures.channel there.0 there.1),
      carriers_shut o c.args.channels.now c.args.id c.args.side there.0 there.1,
    )
