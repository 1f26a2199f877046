use Rattle.std.proofs.Common.{Some, refl, sym, ◌∙◌, ap}
use Rattle.tree_model.specs.Tree.{entry_of}
use Rattle.kernel_model.specs.Families.FileChanges.{modified}
use Rattle.kernel_model.specs.Families.NameMaking.{with_new_names}
use Rattle.kernel_model.specs.Families.NameRemoving.{recounted, with_new_count, without_name}
use Rattle.entry_calls.proofs.Losing.{loses-retimed, loses-unlinked, loses_by}
use Rattle.entry_calls.proofs.removing.remove_name.Goals as goal

pub returns : goal.returns
returns c =
    let t = c.args.tree.now in
    let change = without_name c.args.now t c.args.dir c.args.name.now c.args.node in
    let gone = entry_of t c.args.dir c.args.name.now in
    let is =
    c.set_recounted.ensures ∙ ap (λ u. with_new_count c.args.now u c.args.node)
    (c.set_modified.ensures ∙ ap (λ u. with_new_names c.args.now u c.args.dir) c.in-Ok.ensures.ok) in (
      change,
      refl,
      is,
      loses_by t c.set_recounted.new.tree change.tree (Some c.in-Ok.lost) gone is (sym c.in-Ok.ensures.node)
          (loses-retimed t _ c.args.node (recounted c.args.now) gone
          (loses-retimed t _ c.args.dir (modified c.args.now) gone (loses-unlinked t c.args.dir c.args.name.now))),
    )

pub returns-in_default : goal.returns-in_default
returns-in_default c = ((without_name c.args.now c.args.tree.now c.args.dir c.args.name.now c.args.node, refl), c.in_default.ensures.err)
