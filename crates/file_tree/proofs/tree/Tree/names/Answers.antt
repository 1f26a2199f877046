use Rattle.std.proofs.Common.{Some, None, ◌∙◌}
use Rattle.file_tree.proofs.Views.{seen_names}
use Rattle.file_tree.proofs.tree.Tree.names.Goals as goal

pub returns-in-Some : goal.returns-in-Some
returns-in-Some c = c.directory_names.ensures ∙ seen_names c.self.inside.slots c.args.self.now c.self.view_is c.args.dir (Some c.in-Some.slot.now) c.in-Some.ensures

pub returns-in-None : goal.returns-in-None
returns-in-None c = seen_names c.self.inside.slots c.args.self.now c.self.view_is c.args.dir None c.in-None.ensures
