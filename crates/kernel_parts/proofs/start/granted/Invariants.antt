use Rattle.std.proofs.Common.{◌≡◌, take}
use Rattle.kernel_parts.specs.Start.{granted_objects}
use Rattle.kernel_model.specs.Start.{granted_table}
use Rattle.kernel_parts.proofs.start.granted.Given as goal

-- the grants so far are in the table and among the opens
abbrev pub invariant-loop-number : goal.invariant-loop-number
invariant-loop-number l = record {
  table : l.table ≡ granted_table l.tree (take l.number l.grants);
  objects : l.objects ≡ granted_objects l.tree (take l.number l.grants);
}
