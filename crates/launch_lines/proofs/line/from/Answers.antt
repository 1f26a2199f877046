use Rattle.std.proofs.Common.{◌-◌, ◌+◌, take, drop, length, List, ℕ, ap}
use Rattle.launch_lines.specs.Rows.{Row}
use Rattle.launch_lines.proofs.Ends.{rest_of_text}
use Rattle.launch_lines.proofs.line.from.Goals as goal

pub returns-clause-row : goal.returns-clause-row
returns-clause-row c =
    let line = c.args.line in
    let text = c.args.text.now in
    let same = rest_of_text text c.requires.rest.0 c.args.rest.now line.start line.end c.requires.within.1 c.requires.within.2 c.requires.rest.1 in
    rw c.content.ensures
    (ap (λ (content : List ℕ). let r : Row = record {
      number = line.number;
      column = line.column + (length (take (line.end - line.start) (drop line.start text)) - length c.args.rest.now);
      content = content;
    } in r) same)
