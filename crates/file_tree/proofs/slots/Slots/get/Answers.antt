use Rattle.std.proofs.Common.{◌∙◌}
use Rattle.file_tree.proofs.Keyed.{seen_none, seen_some}
use Rattle.file_tree.proofs.slots.Slots.get.Goals as goal

pub returns-in-Some : goal.returns-in-Some
returns-in-Some c =
    c.get-in-Some.ensures
    ∙ seen_some c.self.inside.slab c.self.inside.keys c.self.invariant c.args.self.now c.self.view_is c.id.inside.0 c.args.id c.id.view_is c.in-Some.key.now c.in-Some.ensures.value

pub returns-in-None : goal.returns-in-None
returns-in-None c =
    seen_none c.self.inside.slab c.self.inside.keys c.self.invariant c.args.self.now c.self.view_is c.id.inside.0 c.args.id c.id.view_is c.in-None.ensures.value
