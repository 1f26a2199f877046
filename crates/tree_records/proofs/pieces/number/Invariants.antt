-- the number so far, and the rest of the digits, make the number
use Rattle.std.proofs.Common.{◌≡◌, ◌≤◌, drop}
use Rattle.tree_model.specs.declared.limits.TheConstants.{MOST_FILE_BYTES}
use Rattle.tree_records.specs.Reading.{number_behind}
use Rattle.tree_records.proofs.pieces.number.Given as goal

abbrev pub invariant-loop-byte : goal.invariant-loop-byte
invariant-loop-byte l = (number_behind l.number (drop l.byte-index l.digits) ≡ number_behind 0 l.digits) × (l.number ≤ MOST_FILE_BYTES)
