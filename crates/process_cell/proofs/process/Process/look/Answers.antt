use Rattle.std.proofs.Common.{sym, subst}
use Rattle.process_cell.specs.Process.{Tied}
use Rattle.process_cell.proofs.Ties.{looked_gone, looked_lives}
use Rattle.process_cell.proofs.process.Process.look.Goals as goal
use Rattle.process_cell.proofs.process.Process.look.Goals.{then-lives, else-lives}

pub invariant_of-self : goal.invariant_of-self
invariant_of-self g c =
    let v = c.self.inside in
    let tied = subst (Tied g.J.Naming.launch v.pass v.body) c.in-Lives.is c.self.invariant.1 in (
      c.self.invariant.0,
      elim c.if-lives.branch [
        | then-lives w ↦ subst (Tied g.J.Naming.launch c.look-lives.new.pass v.body) (sym w.self-is)
            (looked_lives g.J.Naming.launch c.self.invariant.0 v.pass c.look-lives.new.pass v.body c.look-lives.result tied
            c.look-lives.ensures w.if-lives.true)
        | else-lives w ↦ subst (Tied g.J.Naming.launch c.look-lives.new.pass v.body) (sym w.self-is)
            (looked_gone g.J.Naming.launch v.pass c.look-lives.new.pass v.body c.look-lives.result c.look-lives.ensures w.if-lives.false)
      ],
    )
