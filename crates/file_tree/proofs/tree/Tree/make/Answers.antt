use Rattle.file_tree.proofs.Makes.{make_there, make_gone, seen_made, kept_made}
use Rattle.file_tree.proofs.tree.Tree.make.Goals as goal

pub add_node-requires-clause-dir : goal.add_node-requires-clause-dir
add_node-requires-clause-dir c =
    make_there c.self.inside.slots c.self.inside.nameless c.self.invariant c.args.self.now c.self.view_is c.args.dir c.args.name.now c.args.id
    c.in_ok-check_make.ensures c.requires

pub add_node-requires-clause-new : goal.add_node-requires-clause-new
add_node-requires-clause-new c =
    make_gone c.self.inside.slots c.self.inside.nameless c.self.invariant c.args.self.now c.self.view_is c.args.dir c.args.name.now c.args.id
    c.in_ok-check_make.ensures c.requires

pub invariant_of-self-2 : goal.invariant_of-self-2
invariant_of-self-2 c =
    kept_made c.self.inside.slots c.self.inside.nameless c.self.invariant c.args.self.now c.self.view_is c.args.dir c.args.name.now c.args.id
    c.in_ok-check_make.ensures c.requires c.args.node c.add_node.new.slots c.in_ok-add_node.ensures.ok

pub returns-clause-ok : goal.returns-clause-ok
returns-clause-ok c =
    seen_made c.self.inside.slots c.self.inside.nameless c.self.invariant c.args.self.now c.self.view_is c.args.dir c.args.name.now c.args.id
    c.in_ok-check_make.ensures c.requires c.args.node c.add_node.new.slots c.in_ok-add_node.ensures.ok
