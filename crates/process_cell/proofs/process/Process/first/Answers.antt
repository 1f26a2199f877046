use Rattle.std.proofs.Common.{ap, subst, ◌∙◌}
use Rattle.tree_model.specs.Grants.{MayBegin}
use Rattle.run_types.specs.declared.launch.Launch.{Launch}
use Rattle.run_model.specs.World.{first_guest}
use Rattle.process_cell.proofs.Ties.{tied_first}
use Rattle.process_cell.proofs.process.Process.first.Goals as goal

pub invariant_of-result : goal.invariant_of-result
invariant_of-result g c = (
  subst (λ (l : Launch). MayBegin l.tree l.grants) c.requires.launch c.requires.bounded.begins,
  tied_first g.J.Naming.launch c.args.pass c.in-Some.threads c.new.result c.in-Ok.guest c.requires.first
      c.in-Some.ensures c.new.ensures (c.in-Ok.ensures ∙ ap first_guest c.requires.launch),
)
