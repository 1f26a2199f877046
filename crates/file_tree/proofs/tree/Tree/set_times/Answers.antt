use Rattle.std.proofs.Common.{◌∙◌, option_copied, ap, sym}
use Rattle.tree_model.specs.Faults.{none_of}
use Rattle.file_tree.proofs.Edits.{seen_with_times, kept_with_times, seen_no_times}
use Rattle.file_tree.proofs.tree.Tree.set_times.Goals as goal

pub invariant_of-self : goal.invariant_of-self
invariant_of-self c =
    kept_with_times c.self.inside.slots c.args.self.now c.self.view_is c.args.id c.get_mut.result.now c.get_mut.ensures.value c.self.inside.nameless c.self.invariant c.args.times

pub returns-then-is_some : goal.returns-then-is_some
returns-then-is_some c =
    seen_with_times c.self.inside.slots c.args.self.now c.self.view_is c.args.id c.get_mut.result.now c.get_mut.ensures.value c.args.times

pub returns-else-is_some : goal.returns-else-is_some
returns-else-is_some c =
    let none = ap option_copied (sym (none_of c.get.result (sym c.if-is_some.ensures))) ∙ c.get.ensures in
    seen_no_times c.self.inside.slots c.args.self.now c.self.view_is c.args.id none c.args.times
