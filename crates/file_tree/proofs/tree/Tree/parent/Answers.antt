use Rattle.std.proofs.Common.{Some, None, ◌∙◌}
use Rattle.tree_model.specs.Tree.{is_directory}
use Rattle.file_tree.proofs.Climbs.{seen_parent, seen_no_parent}
use Rattle.file_tree.proofs.tree.Tree.parent.Goals as goal

pub returns-in-Some-clause-some : goal.returns-in-Some-clause-some
returns-in-Some-clause-some c =
    seen_parent c.self.inside.slots c.args.self.now c.self.view_is c.args.dir (Some c.in-Some.slot.now) c.in-Some.ensures
    (c.self.invariant.parents c.args.dir ((λ i. is_directory (c.self.view_is i) c.args.dir) ∙ c.requires))

pub returns-in-Some-clause-none : goal.returns-in-Some-clause-none
returns-in-Some-clause-none c =
    seen_no_parent c.self.inside.slots c.args.self.now c.self.view_is c.args.dir (Some c.in-Some.slot.now) c.in-Some.ensures
    (c.self.invariant.parents c.args.dir ((λ i. is_directory (c.self.view_is i) c.args.dir) ∙ c.requires))

pub returns-in-None-clause-none : goal.returns-in-None-clause-none
returns-in-None-clause-none c =
    seen_no_parent c.self.inside.slots c.args.self.now c.self.view_is c.args.dir None c.in-None.ensures
    (c.self.invariant.parents c.args.dir ((λ i. is_directory (c.self.view_is i) c.args.dir) ∙ c.requires))
