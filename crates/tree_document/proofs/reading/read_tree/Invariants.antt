-- the records before the rest made what is built
use Rattle.std.proofs.Common.{length}
use Rattle.tree_document.specs.Views.{making}
use Rattle.tree_document.proofs.Documents.{Behind}
use Rattle.tree_document.proofs.reading.read_tree.Given as goal

abbrev pub invariant-loop-rest : goal.invariant-loop-rest
invariant-loop-rest l = Behind l.fn.times l.bytes l.rest (making l.building)

abbrev pub decreases-loop-rest : goal.decreases-loop-rest
decreases-loop-rest l = length l.rest
