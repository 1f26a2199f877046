use Rattle.std.proofs.Common.{◌∙◌}
use Rattle.file_tree.proofs.Forgets.{seen_nameless}
use Rattle.file_tree.proofs.tree.Tree.nameless.Goals as goal

pub returns-in_err-least : goal.returns-in_err-least
returns-in_err-least c =
    c.from_residual.ensures ∙ c.in_err-least.ensures
    ∙ seen_nameless c.self.inside.slots c.self.inside.nameless c.args.self.now c.self.view_is c.self.invariant.listed c.args.after

pub returns : goal.returns
returns c =
    c.in_ok-least.ensures
    ∙ seen_nameless c.self.inside.slots c.self.inside.nameless c.args.self.now c.self.view_is c.self.invariant.listed c.args.after
