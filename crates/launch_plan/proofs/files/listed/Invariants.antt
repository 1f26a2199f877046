-- The rights so far and those of what is left are all.
use Rattle.std.proofs.Common.{◌≡◌}
use Rattle.launch_plan.specs.Files.{listed, as_rights}
use Rattle.launch_plan.proofs.FileParts.{items_at, rights_with}
use Rattle.launch_plan.proofs.files.listed.Given as goal

abbrev pub invariant-loop-item : goal.invariant-loop-item
invariant-loop-item l = rights_with l.rights.0 (listed (items_at l.items l.item-index)) ≡ as_rights (listed (items_at l.items 0))
