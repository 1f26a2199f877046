use Rattle.file_tree.proofs.Forgets.{seen_forgotten, kept_forgotten}
use Rattle.file_tree.proofs.tree.Tree.forget.Goals as goal

pub invariant_of-self : goal.invariant_of-self
invariant_of-self c =
    kept_forgotten c.self.inside.slots c.drop_slot.new.slots c.self.inside.nameless c.remove.new.self c.self.invariant c.args.self.now c.self.view_is
    c.id.inside.0 c.args.id c.id.view_is c.drop_slot.ensures c.remove.ensures.new c.requires

pub returns : goal.returns
returns c =
    seen_forgotten c.self.inside.slots c.drop_slot.new.slots c.self.inside.nameless c.remove.new.self c.self.invariant c.args.self.now c.self.view_is
    c.id.inside.0 c.args.id c.id.view_is c.drop_slot.ensures c.remove.ensures.new
