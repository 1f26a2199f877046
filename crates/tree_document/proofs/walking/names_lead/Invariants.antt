-- the names that are left lead from the node where all lead from the root
use Rattle.std.proofs.Common.{◌≡◌, length, drop}
use Rattle.tree_model.specs.declared.limits.TheConstants.{ROOT}
use Rattle.tree_records.specs.Reading.{names_in}
use Rattle.tree_document.specs.Building.{node_at}
use Rattle.tree_document.proofs.walking.names_lead.Given as goal

abbrev pub invariant-loop-name : goal.invariant-loop-name
invariant-loop-name l = node_at l.tree l.node (drop (length l.yielded) (names_in l.path)) ≡ node_at l.tree ROOT (names_in l.path)
