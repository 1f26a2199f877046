use Rattle.std.proofs.Common.{◌≡◌, ◌≤◌, take}
use Rattle.std.specs.List.{count_by}
use Rattle.run_report.specs.Counts.{is_call_of}
use Rattle.run_report.proofs.counts.number_count.Given as goal

abbrev pub invariant-loop-index : goal.invariant-loop-index
invariant-loop-index l = (l.count ≤ l.index) × (l.count ≡ count_by (λ entry. is_call_of l.number entry.act) (take l.index l.entries.items))
