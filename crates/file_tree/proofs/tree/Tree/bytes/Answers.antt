use Rattle.std.proofs.Common.{◌∙◌}
use Rattle.file_tree.proofs.Edits.{seen_bytes, seen_no_bytes}
use Rattle.file_tree.proofs.tree.Tree.bytes.Goals as goal

pub returns-in-Some : goal.returns-in-Some
returns-in-Some c = c.bytes.ensures ∙ seen_bytes c.self.inside.slots c.args.self.now c.self.view_is c.args.id c.in-Some.slot.now c.in-Some.ensures

pub returns-in-None : goal.returns-in-None
returns-in-None c = seen_no_bytes c.self.inside.slots c.args.self.now c.self.view_is c.args.id c.in-None.ensures
