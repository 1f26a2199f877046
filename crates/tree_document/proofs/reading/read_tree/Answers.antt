use Rattle.std.proofs.Common.{refl, sym, subst}
use Rattle.tree_records.proofs.Unescaping.{empty, nonempty}
use Rattle.tree_document.specs.Views.{IsAt, making}
use Rattle.tree_document.proofs.Computed.{meaning_at, meaning_of}
use Rattle.tree_document.proofs.Documents.{behind_end, behind_fault, behind_fresh, behind_more, behind_room}
use Rattle.tree_document.proofs.StartTrees.{means_start}
use Rattle.tree_document.proofs.reading.read_tree.Goals as goal

pub add_next-requires-clause-fresh : goal.add_next-requires-clause-fresh
add_next-requires-clause-fresh c = behind_fresh c.args.times c.args.bytes.now c.loop-rest.rest.now (making c.loop-rest.building) c.loop-rest.invariant

pub add_next-requires-clause-room : goal.add_next-requires-clause-room
add_next-requires-clause-room c = behind_room c.args.times c.args.bytes.now c.loop-rest.rest.now (making c.loop-rest.building) c.loop-rest.invariant c.requires

pub loop-rest-preserved : goal.loop-rest-preserved
loop-rest-preserved c =
    let h = c.in-Ok.ensures.ok in
    behind_more c.args.times c.args.bytes.now c.loop-rest.rest.now c.in-Ok.behind.now (making c.loop-rest.building) (making c.add_next.new.building) h.0
    c.loop-rest.invariant h.1 h.2 h.3 h.4

pub returns-in-Err-At-clause-fault : goal.returns-in-Err-At-clause-fault
returns-in-Err-At-clause-fault c =
    behind_fault c.args.times c.args.bytes.now c.loop-rest.rest.now (making c.loop-rest.building) _ c.loop-rest.invariant
    (nonempty c.loop-rest.rest.now c.is_empty.result c.is_empty.ensures c.loop-rest-test.true) refl (c.in-Err-At.ensures.err (subst IsAt (sym c.in-Err-At.field-0-is) tt))

pub returns-in-Err-At-clause-exact : goal.returns-in-Err-At-clause-exact
returns-in-Err-At-clause-exact c =
    meaning_at c.args.times c.args.bytes.now _
    (behind_fault c.args.times c.args.bytes.now c.loop-rest.rest.now (making c.loop-rest.building) _ c.loop-rest.invariant
    (nonempty c.loop-rest.rest.now c.is_empty.result c.is_empty.ensures c.loop-rest-test.true) refl (c.in-Err-At.ensures.err (subst IsAt (sym c.in-Err-At.field-0-is) tt)))

pub returns-clause-exact : goal.returns-clause-exact
returns-clause-exact c =
    meaning_of c.args.times c.args.bytes.now c.loop-rest.building.tree
    (behind_end c.args.times c.args.bytes.now c.loop-rest.rest.now (making c.loop-rest.building) c.loop-rest.invariant
    (empty c.loop-rest.rest.now c.is_empty.result c.is_empty.ensures c.loop-rest-test.false))

pub returns-clause-start : goal.returns-clause-start
returns-clause-start c =
    means_start c.args.times c.args.bytes.now c.loop-rest.building.tree
    (behind_end c.args.times c.args.bytes.now c.loop-rest.rest.now (making c.loop-rest.building) c.loop-rest.invariant
    (empty c.loop-rest.rest.now c.is_empty.result c.is_empty.ensures c.loop-rest-test.false)) c.requires
