-- The pairs that are left say whether the map is one of parts.
use Rattle.std.proofs.Common.{◌≡◌, false}
use Rattle.launch_plan.proofs.FileParts.{are_with, pairs_at}
use Rattle.launch_plan.proofs.files.is_file_map.Given as goal

abbrev pub invariant-loop-key : goal.invariant-loop-key
invariant-loop-key l = are_with l.has_path (pairs_at l.pairs l.key-index) ≡ are_with false (pairs_at l.pairs 0)
