use Rattle.file_tree.proofs.Links.{link_there, named_node, named_few, seen_linked, kept_linked}
use Rattle.file_tree.proofs.tree.Tree.link.Goals as goal

pub put_entry-requires : goal.put_entry-requires
put_entry-requires c =
    link_there c.self.inside.slots c.self.inside.nameless c.self.invariant c.args.self.now c.self.view_is c.args.dir c.args.name.now c.args.id
    c.in_ok-check_link.ensures

pub count_more-requires-clause-there : goal.count_more-requires-clause-there
count_more-requires-clause-there c =
    named_node c.self.inside.slots c.self.inside.nameless c.self.invariant c.args.self.now c.self.view_is c.args.dir c.args.name.now c.args.id
    c.in_ok-check_link.ensures c.put_entry.new.slots c.in_ok-put_entry.ensures.ok

pub count_more-requires-clause-few : goal.count_more-requires-clause-few
count_more-requires-clause-few c =
    named_few c.self.inside.slots c.self.inside.nameless c.self.invariant c.args.self.now c.self.view_is c.args.dir c.args.name.now c.args.id
    c.in_ok-check_link.ensures c.put_entry.new.slots c.in_ok-put_entry.ensures.ok

pub invariant_of-self-2 : goal.invariant_of-self-2
invariant_of-self-2 c =
    kept_linked c.self.inside.slots c.self.inside.nameless c.self.invariant c.args.self.now c.self.view_is c.args.dir c.args.name.now c.args.id
    c.in_ok-check_link.ensures c.put_entry.new.slots c.count_more.new.slots c.in_ok-put_entry.ensures.ok c.count_more.ensures
    c.id.inside.0 c.id.view_is c.remove.new.self c.remove.ensures.new

pub returns-clause-ok : goal.returns-clause-ok
returns-clause-ok c =
    seen_linked c.self.inside.slots c.self.inside.nameless c.self.invariant c.args.self.now c.self.view_is c.args.dir c.args.name.now c.args.id
    c.in_ok-check_link.ensures c.put_entry.new.slots c.count_more.new.slots c.in_ok-put_entry.ensures.ok c.count_more.ensures
