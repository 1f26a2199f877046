use Rattle.std.proofs.Common.{refl, sym, ◌∙◌}
use Rattle.tree_model.specs.Facts.{directory_of_name}
use Rattle.tree_model.specs.Climbing.{climb_from_itself, climb, climb_shortens}
use Rattle.file_tree.proofs.Climbs.{apart, not_below}
use Rattle.file_tree.proofs.tree.Tree.is_below.Goals as goal

pub loop-at-init : goal.loop-at-init
loop-at-init c = (c.requires, refl)

pub parent-requires : goal.parent-requires
parent-requires c = c.loop-at.invariant.0

pub loop-at-smaller : goal.loop-at-smaller
loop-at-smaller c =
    let name = c.in-Some.ensures.some in
    climb_shortens c.args.self.now c.in-Some.ensures.tree c.in-Some.parent name.0 c.loop-at.at name.1

pub loop-at-preserved : goal.loop-at-preserved
loop-at-preserved c =
    let t = c.args.self.now in
    let name = c.in-Some.ensures.some in
    let other = apart c.at.view_is c.id.view_is c.loop-at-test.true in (
      directory_of_name t c.in-Some.ensures.tree c.in-Some.parent name.0 c.loop-at.at name.1,
      sym (climb t c.in-Some.ensures.tree c.args.id c.in-Some.parent name.0 c.loop-at.at c.loop-at.invariant.0 name.1 other) ∙ c.loop-at.invariant.1,
    )

pub returns-in-None : goal.returns-in-None
returns-in-None c =
    let other = apart c.at.view_is c.id.view_is c.loop-at-test.true in
    sym (not_below c.args.self.now c.args.id c.loop-at.at other c.in-None.ensures.none) ∙ c.loop-at.invariant.1

pub returns : goal.returns
returns c =
    sym (climb_from_itself c.args.self.now c.loop-at.at c.args.id (sym c.at.view_is ∙ c.loop-at-test.false ∙ c.id.view_is)) ∙ c.loop-at.invariant.1
