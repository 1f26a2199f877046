use Rattle.std.proofs.Common.{length, sym, ap, arith}
use Rattle.channel_calls.specs.Calls.{carriers_in}
use Rattle.channel_calls.proofs.Takes.{carriers_drawn}
use Rattle.channel_calls.proofs.receiving.read.Goals as goal

pub returns-clause-counts : goal.returns-clause-counts
returns-clause-counts c = λ o.
    let channel = c.in-Some-get.channel.now in
    let there = sym c.in-Some-get.ensures in
    let n = length c.deref_mut.result.now in
    let gone = c.draw.ensures.counts channel there o in
    let drawn = carriers_drawn o c.args.channels.now c.in-Some.id n channel there in
    let left = ap (carriers_in o) (c.draw.ensures.channels channel there) in
    omega (arith, gone, drawn, left)

pub returns-clause-few : goal.returns-clause-few
returns-clause-few c = λ few o.
    let channel = c.in-Some-get.channel.now in
    let there = sym c.in-Some-get.ensures in
    let n = length c.deref_mut.result.now in
    let drawn = carriers_drawn o c.args.channels.now c.in-Some.id n channel there in
    let left = ap (carriers_in o) (c.draw.ensures.channels channel there) in
    omega (arith, drawn, left, few o)
