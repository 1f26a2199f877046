use Rattle.file_tree.proofs.Moves.{seen_target, seen_entry, seen_old_slot, seen_old_links, seen_source, seen_node, seen_renamed, kept_renamed}
use Rattle.file_tree.proofs.tree.Tree.rename.Goals as goal

pub give_entry-requires-clause-dir : goal.give_entry-requires-clause-dir
give_entry-requires-clause-dir c =
    seen_target c.self.inside.slots c.self.inside.nameless c.self.invariant c.args.self.now c.self.view_is c.args.from c.args.name.now c.args.to
    c.args.new.now c.in_ok-id.id c.in_ok-id.ensures.node c.in_ok-id.ensures.checks

pub give_entry-requires-clause-entry : goal.give_entry-requires-clause-entry
give_entry-requires-clause-entry c =
    seen_entry c.self.inside.slots c.self.inside.nameless c.self.invariant c.args.self.now c.self.view_is c.args.from c.args.name.now c.args.to
    c.args.new.now c.in_ok-id.id c.in_ok-id.ensures.node c.in_ok-id.ensures.checks c.entry-old.result c.entry-old.ensures

pub give_entry-requires-clause-there : goal.give_entry-requires-clause-there
give_entry-requires-clause-there c =
    seen_old_slot c.self.inside.slots c.self.inside.nameless c.self.invariant c.args.self.now c.self.view_is c.args.from c.args.name.now c.args.to
    c.args.new.now c.in_ok-id.id c.in_ok-id.ensures.node c.in_ok-id.ensures.checks c.entry-old.result c.entry-old.ensures

pub give_entry-requires-clause-some : goal.give_entry-requires-clause-some
give_entry-requires-clause-some c =
    seen_old_links c.self.inside.slots c.self.inside.nameless c.self.invariant c.args.self.now c.self.view_is c.args.from c.args.name.now c.args.to
    c.args.new.now c.in_ok-id.id c.in_ok-id.ensures.node c.in_ok-id.ensures.checks c.entry-old.result c.entry-old.ensures

pub drop_entry-requires : goal.drop_entry-requires
drop_entry-requires c =
    seen_source c.self.inside.slots c.self.inside.nameless c.self.invariant c.args.self.now c.self.view_is c.args.from c.args.name.now c.args.to
    c.args.new.now c.in_ok-id.id c.in_ok-id.ensures.node c.in_ok-id.ensures.checks c.entry-old.result c.entry-old.ensures c.if-is_of.ensures
    c.give_entry.new.slots c.in_ok-give_entry.ensures.slots

pub set_parent-requires : goal.set_parent-requires
set_parent-requires c =
    seen_node c.self.inside.slots c.self.inside.nameless c.self.invariant c.args.self.now c.self.view_is c.args.from c.args.name.now c.args.to
    c.args.new.now c.in_ok-id.id c.in_ok-id.ensures.node c.in_ok-id.ensures.checks c.entry-old.result c.entry-old.ensures c.if-is_of.ensures
    c.give_entry.new.slots c.in_ok-give_entry.ensures.slots c.drop_entry.new.slots c.drop_entry.ensures

pub invariant_of-self-2 : goal.invariant_of-self-2
invariant_of-self-2 c =
    kept_renamed c.self.inside.slots c.self.inside.nameless c.self.invariant c.args.self.now c.self.view_is c.args.from c.args.name.now c.args.to
    c.args.new.now c.in_ok-id.id c.in_ok-id.ensures.node c.in_ok-id.ensures.checks c.entry-old.result c.entry-old.ensures c.if-is_of.ensures
    c.give_entry.new.slots c.in_ok-give_entry.ensures.slots c.drop_entry.new.slots c.drop_entry.ensures c.set_parent.new.slots c.set_parent.ensures
    c.give_entry.new.nameless c.in_ok-give_entry.ensures.nameless

pub returns-clause-ok : goal.returns-clause-ok
returns-clause-ok c =
    seen_renamed c.self.inside.slots c.self.inside.nameless c.self.invariant c.args.self.now c.self.view_is c.args.from c.args.name.now c.args.to
    c.args.new.now c.in_ok-id.id c.in_ok-id.ensures.node c.in_ok-id.ensures.checks c.entry-old.result c.entry-old.ensures c.if-is_of.ensures
    c.give_entry.new.slots c.in_ok-give_entry.ensures.slots c.drop_entry.new.slots c.drop_entry.ensures c.set_parent.new.slots c.set_parent.ensures
