use Rattle.file_tree.proofs.Unlinks.{seen_slot, seen_links, seen_directory, seen_unlinked, kept_unlinked}
use Rattle.file_tree.proofs.tree.Tree.unlink.Goals as goal

pub lose_name-requires-clause-there : goal.lose_name-requires-clause-there
lose_name-requires-clause-there c =
    seen_slot c.self.inside.slots c.self.inside.nameless c.self.invariant c.args.self.now c.self.view_is c.args.dir c.args.name.now c.in_ok-id.id
    c.in_ok-id.ensures.node

pub lose_name-requires-clause-some : goal.lose_name-requires-clause-some
lose_name-requires-clause-some c =
    seen_links c.self.inside.slots c.self.inside.nameless c.self.invariant c.args.self.now c.self.view_is c.args.dir c.args.name.now c.in_ok-id.id
    c.in_ok-id.ensures.node

pub drop_entry-requires : goal.drop_entry-requires
drop_entry-requires c =
    seen_directory c.self.inside.slots c.self.inside.nameless c.self.invariant c.args.self.now c.self.view_is c.args.dir c.args.name.now c.in_ok-id.id
    c.in_ok-id.ensures.node c.in_ok-id.ensures.checks c.lose_name.new.slots c.in_ok-lose_name.ensures.slots

pub invariant_of-self-2 : goal.invariant_of-self-2
invariant_of-self-2 c =
    kept_unlinked c.self.inside.slots c.self.inside.nameless c.self.invariant c.args.self.now c.self.view_is c.args.dir c.args.name.now c.in_ok-id.id
    c.in_ok-id.ensures.node c.in_ok-id.ensures.checks c.lose_name.new.slots c.in_ok-lose_name.ensures.slots c.drop_entry.new.slots
    c.drop_entry.ensures c.lose_name.new.nameless c.in_ok-lose_name.ensures.nameless

pub returns-clause-ok : goal.returns-clause-ok
returns-clause-ok c =
    seen_unlinked c.self.inside.slots c.self.inside.nameless c.self.invariant c.args.self.now c.self.view_is c.args.dir c.args.name.now c.in_ok-id.id
    c.in_ok-id.ensures.node c.in_ok-id.ensures.checks c.lose_name.new.slots c.in_ok-lose_name.ensures.slots c.drop_entry.new.slots
    c.drop_entry.ensures
