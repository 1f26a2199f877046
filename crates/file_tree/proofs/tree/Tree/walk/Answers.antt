use Rattle.maps.specs.Closure.{member}
use Rattle.tree_model.specs.Tree.{below}
use Rattle.tree_model.specs.Below.{below_self}
use Rattle.tree_model.specs.Finds.{finds_closed}
use Rattle.file_tree.proofs.tree.Tree.walk.Goals as goal

pub returns-clause-below : goal.returns-clause-below
returns-clause-below c =
    c.walk.ensures.below (λ n. member n (below c.args.self.now c.args.start)) (finds_closed c.args.self.now c.args.start) (below_self c.args.self.now c.args.start)
