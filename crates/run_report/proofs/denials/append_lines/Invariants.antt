use Rattle.std.proofs.Common.{◌≡◌, ◌++◌, take}
use Rattle.std.specs.List.{flat_map}
use Rattle.run_report.specs.Denials.{denial_line}
use Rattle.run_report.proofs.denials.append_lines.Given as goal

abbrev pub invariant-loop-index : goal.invariant-loop-index
invariant-loop-index l = l.text ≡ l.fn.text ++ flat_map denial_line (take l.index l.calls.items)
