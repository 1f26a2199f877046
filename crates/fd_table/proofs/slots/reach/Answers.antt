use Rattle.std.proofs.Common.{rules, ◌+◌, ◌≤◌, length, arith}
use Rattle.input_output.proofs.OutputParts.{for_err}
use Rattle.fd_table.proofs.Filled.{filled_past, filled_resized}
use Rattle.fd_table.proofs.slots.reach.Goals as goal

pub returns-clause-same : goal.returns-clause-same
returns-clause-same c =
    let items = c.args.places.now.items in
    let few : length items ≤ c.args.place + 1 = search (rules, arith) in
    filled_resized items c.resize.new.self.items _ _ _ few c.resize.ensures.items

pub returns-clause-absent : goal.returns-clause-absent
returns-clause-absent c =
    let items = c.args.places.now.items in
    let past : length items ≤ c.args.place = search (rules, arith) in
    for_err c.resize.result (filled_past items c.args.place past)
