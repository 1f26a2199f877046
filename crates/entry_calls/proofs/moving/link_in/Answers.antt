use Rattle.std.proofs.Common.{None, ◌∙◌, ap, refl}
use Rattle.tree_model.specs.Changes.{first_fault, link_faults}
use Rattle.kernel_model.specs.Families.FileChanges.{modified}
use Rattle.kernel_model.specs.Families.NameMaking.{with_new_names}
use Rattle.kernel_model.specs.Families.NameMeaning.{Changes}
use Rattle.kernel_model.specs.Families.NameMoving.{link_errno, with_link}
use Rattle.kernel_model.specs.Families.NameRemoving.{recounted, with_new_count}
use Rattle.entry_calls.proofs.Endings.{failed_as, first_is_of_table, unless_none}
use Rattle.entry_calls.proofs.Losing.{loses-linked, loses-retimed, loses_by}
use Rattle.entry_calls.proofs.moving.link_in.Goals as goal

pub returns-in-Ok : goal.returns-in-Ok
returns-in-Ok c =
    let t = c.args.tree.now in
    let faults = first_fault (link_faults t c.args.dir c.args.name.now c.args.node) in
    let change = with_link c.args.now t c.args.node c.args.dir c.args.name.now in
    let is =
    c.set_recounted.ensures ∙ ap (λ u. with_new_count c.args.now u c.args.node)
    (c.set_modified.ensures ∙ ap (λ u. with_new_names c.args.now u c.args.dir) c.in-Ok.ensures.ok) in (
      change,
      unless_none link_errno faults (Changes change) c.in-Ok.ensures.allowed,
      is,
      loses_by t c.set_recounted.new.tree change.tree None None is refl
          (loses-retimed t _ c.args.node (recounted c.args.now) None
          (loses-retimed t _ c.args.dir (modified c.args.now) None (loses-linked t c.args.dir c.args.name.now c.args.node))),
    )

pub returns-in-Err : goal.returns-in-Err
returns-in-Err c =
    let t = c.args.tree.now in
    let faults = link_faults t c.args.dir c.args.name.now c.args.node in (
      failed_as link_errno (first_fault faults) (with_link c.args.now t c.args.node c.args.dir c.args.name.now) c.in-Err.fault c.link_failed.result
          (first_is_of_table faults (tt, (tt, (tt, (tt, (tt, (tt, (tt, tt)))))))) c.in-Err.ensures.fault c.link_failed.ensures,
      c.in-Err.ensures.err,
    )
