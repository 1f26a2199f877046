use Rattle.std.proofs.Common.{Some, None}
use Rattle.file_tree.proofs.Views.{seen_node}
use Rattle.file_tree.proofs.tree.Tree.node.Goals as goal

pub returns-in-Some-clause-value : goal.returns-in-Some-clause-value
returns-in-Some-clause-value c = seen_node c.self.inside.slots c.args.self.now c.self.view_is c.args.id (Some c.in-Some.slot.now) c.in-Some.ensures

pub returns-in-None-clause-value : goal.returns-in-None-clause-value
returns-in-None-clause-value c = seen_node c.self.inside.slots c.args.self.now c.self.view_is c.args.id None c.in-None.ensures
