use Rattle.std.proofs.Common.{◌≡◌, ◌++◌, take}
use Rattle.std.specs.List.{flat_map}
use Rattle.abi_types.specs.CallNumbers.{all_calls}
use Rattle.run_report.specs.Counts.{number_line}
use Rattle.run_report.proofs.counts.append_numbers.Given as goal

abbrev pub invariant-loop-place : goal.invariant-loop-place
invariant-loop-place l = l.text ≡ l.fn.text ++ flat_map (number_line l.entries.items) (take l.place all_calls)
