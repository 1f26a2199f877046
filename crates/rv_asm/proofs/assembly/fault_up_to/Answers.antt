use Rattle.std.proofs.Common.{ap, ◌+◌, ◌∙◌, Some, subst}
use Rattle.rv_syntax.specs.Names.{rows}
use Rattle.rv_asm.specs.Lines.{IsFaultOf}
use Rattle.rv_asm.proofs.Assembling.{first_up_to}
use Rattle.rv_asm.proofs.assembly.fault_up_to.Goals as goal

pub returns : goal.returns
returns c =
    subst (λ n. IsFaultOf c.fault_at.result (Some (n + 1)))
    (c.unwrap_or.ensures ∙ first_up_to c.args.lines.now c.args.index _ _ _ _ _ (ap rows c.deref.ensures.value) c.in_ok-append_unplaced.ensures c.in_ok-known.ensures c.requires.all c.in_ok-first.ensures.exact)
    c.fault_at.ensures
