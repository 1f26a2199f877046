use Rattle.std.proofs.Common.{None, ◌∙◌, ap, refl}
use Rattle.tree_model.specs.Changes.{first_fault, made, make_faults}
use Rattle.kernel_model.specs.Families.FileChanges.{modified}
use Rattle.kernel_model.specs.Families.NameMaking.{node_of, errno_of, with_new_names, with_node}
use Rattle.kernel_model.specs.Families.NameMeaning.{Changes}
use Rattle.entry_calls.proofs.Endings.{failed_as, first_is_of_table, unless_none}
use Rattle.entry_calls.proofs.Losing.{loses-made, loses-retimed, loses_by}
use Rattle.entry_calls.proofs.making.make_in.Goals as goal

pub returns-in-Ok : goal.returns-in-Ok
returns-in-Ok c =
    let t = c.args.tree.now in
    let faults = first_fault (make_faults t c.args.dir c.args.name.now) in
    let change = with_node c.args.kind c.args.now c.args.new t c.args.dir c.args.name.now in
    let is_made = c.in-Ok.ensures.ok ∙ ap (made t c.args.dir c.args.name.now c.args.new) c.node_of.ensures in
    let is = c.set_modified.ensures ∙ ap (λ u. with_new_names c.args.now u c.args.dir) is_made in (
      change,
      unless_none errno_of faults (Changes change) c.in-Ok.ensures.allowed,
      is,
      loses_by t c.set_modified.new.tree change.tree None None is refl
          (loses-retimed t _ c.args.dir (modified c.args.now) None
          (loses-made t c.args.dir c.args.name.now c.args.new (node_of c.args.kind c.args.now))),
    )

pub returns-in-Err : goal.returns-in-Err
returns-in-Err c =
    let t = c.args.tree.now in
    let faults = make_faults t c.args.dir c.args.name.now in (
      failed_as errno_of (first_fault faults) (with_node c.args.kind c.args.now c.args.new t c.args.dir c.args.name.now) c.in-Err.fault c.failed.result
          (first_is_of_table faults (tt, (tt, (tt, (tt, tt))))) c.in-Err.ensures.fault c.failed.ensures,
      c.in-Err.ensures.err,
    )
