use Rattle.std.proofs.Common.{◌∙◌}
use Rattle.file_tree.proofs.Keyed.{seen_none, seen_some, seen_keyed_gone, seen_gone, seen_keyed_same, seen_same}
use Rattle.file_tree.proofs.slots.Slots.remove.Goals as goal

pub invariant_of-self : goal.invariant_of-self
invariant_of-self c =
    seen_keyed_same c.self.inside.slab c.self.inside.keys c.self.invariant c.args.self.now c.self.view_is c.id.inside.0 c.args.id c.id.view_is
    c.remove.new.self c.in_err-key.ensures.value c.remove.ensures.new

pub returns-in_err-key-clause-value : goal.returns-in_err-key-clause-value
returns-in_err-key-clause-value c =
    c.from_residual.ensures
    ∙ seen_none c.self.inside.slab c.self.inside.keys c.self.invariant c.args.self.now c.self.view_is c.id.inside.0 c.args.id c.id.view_is c.in_err-key.ensures.value

pub returns-in_err-key-clause-new : goal.returns-in_err-key-clause-new
returns-in_err-key-clause-new c =
    seen_same c.self.inside.slab c.self.inside.keys c.self.invariant c.args.self.now c.self.view_is c.id.inside.0 c.args.id c.id.view_is
    c.remove.new.self c.in_err-key.ensures.value c.remove.ensures.new

pub invariant_of-self-2 : goal.invariant_of-self-2
invariant_of-self-2 c =
    seen_keyed_gone c.self.inside.slab c.self.inside.keys c.self.invariant c.args.self.now c.self.view_is c.id.inside.0 c.args.id c.id.view_is
    c.try_remove.new.self c.remove.new.self c.in_ok-key.key c.in_ok-key.ensures.value c.try_remove.ensures.updates c.remove.ensures.new

pub returns-clause-value : goal.returns-clause-value
returns-clause-value c =
    c.try_remove.ensures.value
    ∙ seen_some c.self.inside.slab c.self.inside.keys c.self.invariant c.args.self.now c.self.view_is c.id.inside.0 c.args.id c.id.view_is c.in_ok-key.key c.in_ok-key.ensures.value

pub returns-clause-new : goal.returns-clause-new
returns-clause-new c =
    seen_gone c.self.inside.slab c.self.inside.keys c.self.invariant c.args.self.now c.self.view_is c.id.inside.0 c.args.id c.id.view_is
    c.try_remove.new.self c.remove.new.self c.in_ok-key.key c.in_ok-key.ensures.value c.try_remove.ensures.updates c.remove.ensures.new
