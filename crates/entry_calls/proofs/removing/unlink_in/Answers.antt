use Rattle.std.proofs.Common.{refl, sym, ap, subst, ◌∙◌}
use Rattle.tree_model.specs.Changes.{first_fault, unlink_faults}
use Rattle.tree_model.specs.Tree.{entry_of}
use Rattle.kernel_model.specs.Families.NameMeaning.{NameOutcome}
use Rattle.kernel_model.specs.Families.NameRemoving.{unlink_errno, unlink_node}
use Rattle.entry_calls.specs.Done.{FailsAs}
use Rattle.entry_calls.proofs.Endings.{done_as, first_is_of_table, refused_as, unless_none}
use Rattle.entry_calls.proofs.removing.unlink_in.Goals as goal

pub returns-in-Ok : goal.returns-in-Ok
returns-in-Ok c =
    let t = c.args.tree.now in
    let name = c.args.name.now in
    let faults = first_fault (unlink_faults t c.args.dir name) in
    let goes = unlink_node c.args.flags c.args.now t c.args.dir name in
    done_as t c.unlink_node.new.tree c.unlink_node.result _ _
    (ap goes (sym c.in-Ok.ensures.node)
    ∙ sym (unless_none (unlink_errno c.args.flags) faults (goes (entry_of t c.args.dir name)) c.in-Ok.ensures.checks)
    ∙ sym (c.names_lead.ensures c.args.dir name _))
    c.unlink_node.ensures

pub returns-in-Err : goal.returns-in-Err
returns-in-Err c =
    let t = c.args.tree.now in
    let name = c.args.name.now in
    let fault = c.in-Err.fault in
    let faults = unlink_faults t c.args.dir name in (
      subst (λ (comes : NameOutcome). FailsAs comes c.unlink_failed.result) (sym (c.names_lead.ensures c.args.dir name _))
          (refused_as (unlink_errno c.args.flags) (first_fault faults) (unlink_node c.args.flags c.args.now t c.args.dir name (entry_of t c.args.dir name)) fault
          c.unlink_failed.result (first_is_of_table faults (tt, (tt, (tt, (tt, tt))))) (sym c.in-Err.ensures.checks) c.unlink_failed.ensures),
      refl,
    )
