use Rattle.std.proofs.Common.{ℕ, Option, sym, ap, ◌∙◌, arith}
use Rattle.std.specs.FinMap.{get, insert, remove}
use Rattle.maps.specs.Maps.{get-insert-same}
use Rattle.channels.specs.Channels.{left_at, released_at}
use Rattle.channel_calls.specs.Calls.{Channels, carriers_in, channels_left}
use Rattle.channel_calls.specs.Leaving.{end_at}
use Rattle.kernel_model.specs.Release.{count_carried}
use Rattle.channel_calls.proofs.Lefts.{absent_left, carriers_left, carriers_over, nothing_left, released_few, side_left, side_over}
use Rattle.channel_calls.proofs.Takes.{first_part}
use Rattle.channel_calls.proofs.leaving.leave_side.Goals as goal

pub returns-in_default-clause-channels : goal.returns-in_default-clause-channels
returns-in_default-clause-channels c =
    nothing_left c.args.which c.args.channels.now c.requires.going ∙ ap (λ (x : Option ℕ). channels_left (end_at c.args.which x) c.args.channels.now) (sym c.in_default.is)

pub returns-in_default-get-clause-channels : goal.returns-in_default-get-clause-channels
returns-in_default-get-clause-channels c =
    absent_left c.args.which c.in-Some.id c.args.channels.now c.requires.going (sym c.in_default-get.ensures)
    ∙ ap (λ (x : Option ℕ). channels_left (end_at c.args.which x) c.args.channels.now) (sym c.in-Some.is)

pub shared_whole_as_front-let_go_all : goal.shared_whole_as_front-let_go_all
shared_whole_as_front-let_go_all c =
    let channel = c.in-Some-get._channel.now in
    let there = sym c.in-Some-get.ensures in
    let few = released_few c.args.which channel (c.check.ensures channel there) in
    (omega (arith, few, c.leave_side-count.ensures.count channel there), omega arith)

pub let_go_all-requires : goal.let_go_all-requires
let_go_all-requires c = record {
  covered = λ o.
      let channel = c.in-Some-get._channel.now in
      let there = sym c.in-Some-get.ensures in
      let part = first_part c.leave_side-count.result (released_at c.args.which channel) _ c.leave_side-count.new.fds
      (c.leave_side-count.ensures.released channel there) (c.leave_side-count.ensures.count channel there) in
      let counts = ap (count_carried o) part in
      let out = carriers_left o c.args.which c.in-Some.id c.args.channels.now channel there in
      omega (arith, counts, out, c.requires.covered o);
}

pub returns-then-is_over-clause-channels : goal.returns-then-is_over-clause-channels
returns-then-is_over-clause-channels c =
    let channel = c.in-Some-get._channel.now in
    let there = sym c.in-Some-get.ensures in
    let id = c.in-Some.id in
    let new = c.leave_side-count.ensures.channel channel there in
    let over = sym (c.is_over.ensures (left_at c.args.which channel)
    (ap (λ (m : Channels). get m id) new ∙ get-insert-same c.args.channels.now id (left_at c.args.which channel))) ∙ c.if-is_over.true in
    c.remove.ensures ∙ ap (λ (m : Channels). remove m id) new ∙ side_over c.args.which id c.args.channels.now channel c.requires.going there over
    ∙ ap (λ (x : Option ℕ). channels_left (end_at c.args.which x) c.args.channels.now) (sym c.in-Some.is)

pub returns-else-is_over-clause-channels : goal.returns-else-is_over-clause-channels
returns-else-is_over-clause-channels c =
    let channel = c.in-Some-get._channel.now in
    let there = sym c.in-Some-get.ensures in
    let id = c.in-Some.id in
    let new = c.leave_side-count.ensures.channel channel there in
    let on = sym (c.is_over.ensures (left_at c.args.which channel)
    (ap (λ (m : Channels). get m id) new ∙ get-insert-same c.args.channels.now id (left_at c.args.which channel))) ∙ c.if-is_over.false in
    new ∙ side_left c.args.which id c.args.channels.now channel c.requires.going there on
    ∙ ap (λ (x : Option ℕ). channels_left (end_at c.args.which x) c.args.channels.now) (sym c.in-Some.is)

pub returns-then-is_over-clause-counts : goal.returns-then-is_over-clause-counts
returns-then-is_over-clause-counts c = λ o.
    let channel = c.in-Some-get._channel.now in
    let there = sym c.in-Some-get.ensures in
    let id = c.in-Some.id in
    let m = c.args.channels.now in
    let new = c.leave_side-count.ensures.channel channel there in
    let same = get-insert-same m id (left_at c.args.which channel) in
    let over = sym (c.is_over.ensures (left_at c.args.which channel) (ap (λ (m : Channels). get m id) new ∙ same)) ∙ c.if-is_over.true in
    let part = first_part c.leave_side-count.result (released_at c.args.which channel) _ c.leave_side-count.new.fds
    (c.leave_side-count.ensures.released channel there) (c.leave_side-count.ensures.count channel there) in
    let counts = ap (count_carried o) part in
    let out = carriers_left o c.args.which id m channel there in
    let gone = carriers_over o id (insert m id (left_at c.args.which channel)) (left_at c.args.which channel) same over in
    let left = ap (carriers_in o) (c.remove.ensures ∙ ap (λ (m : Channels). remove m id) new) in
    let freed = c.let_go_all.ensures.counts o in
    omega (arith, counts, out, gone, left, freed)

pub returns-then-is_over-clause-fewer : goal.returns-then-is_over-clause-fewer
returns-then-is_over-clause-fewer c = λ o.
    let channel = c.in-Some-get._channel.now in
    let there = sym c.in-Some-get.ensures in
    let id = c.in-Some.id in
    let m = c.args.channels.now in
    let new = c.leave_side-count.ensures.channel channel there in
    let same = get-insert-same m id (left_at c.args.which channel) in
    let over = sym (c.is_over.ensures (left_at c.args.which channel) (ap (λ (m : Channels). get m id) new ∙ same)) ∙ c.if-is_over.true in
    let out = carriers_left o c.args.which id m channel there in
    let gone = carriers_over o id (insert m id (left_at c.args.which channel)) (left_at c.args.which channel) same over in
    let left = ap (carriers_in o) (c.remove.ensures ∙ ap (λ (m : Channels). remove m id) new) in
    omega (arith, out, gone, left)

pub returns-else-is_over-clause-counts : goal.returns-else-is_over-clause-counts
returns-else-is_over-clause-counts c = λ o.
    let channel = c.in-Some-get._channel.now in
    let there = sym c.in-Some-get.ensures in
    let part = first_part c.leave_side-count.result (released_at c.args.which channel) _ c.leave_side-count.new.fds
    (c.leave_side-count.ensures.released channel there) (c.leave_side-count.ensures.count channel there) in
    let counts = ap (count_carried o) part in
    let out = carriers_left o c.args.which c.in-Some.id c.args.channels.now channel there in
    let left = ap (carriers_in o) (c.leave_side-count.ensures.channel channel there) in
    let freed = c.let_go_all.ensures.counts o in
    omega (arith, counts, out, left, freed)

pub returns-else-is_over-clause-fewer : goal.returns-else-is_over-clause-fewer
returns-else-is_over-clause-fewer c = λ o.
    let channel = c.in-Some-get._channel.now in
    let there = sym c.in-Some-get.ensures in
    let out = carriers_left o c.args.which c.in-Some.id c.args.channels.now channel there in
    let left = ap (carriers_in o) (c.leave_side-count.ensures.channel channel there) in
    omega (arith, out, left)
