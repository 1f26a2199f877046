use Rattle.std.proofs.Common.{ap, arith}
use Rattle.channel_calls.specs.Calls.{carriers_in}
use Rattle.channel_calls.proofs.PairCounts.{with_carriers}
use Rattle.channel_calls.proofs.pairs.put_pair.Goals as goal

pub returns-clause-counts : goal.returns-clause-counts
returns-clause-counts c = λ o.
    let m = c.args.channels.now in
    let none = with_carriers c.args.pair.now m o (c.requires.new.first_channel, c.requires.new.second_channel) in
    let left = ap (carriers_in o) c.in_ok-add_channels.ensures.ok in
    omega (arith, none, left, c.put_ends.ensures.counts o)

pub returns-clause-few : goal.returns-clause-few
returns-clause-few c = λ few o.
    let m = c.args.channels.now in
    let none = with_carriers c.args.pair.now m o (c.requires.new.first_channel, c.requires.new.second_channel) in
    let left = ap (carriers_in o) c.in_ok-add_channels.ensures.ok in
    omega (arith, none, left, few o)
