use Rattle.std.proofs.Common.{None, Some, sym, ap, ◌∙◌}
use Rattle.abi_types.specs.declared.node.NodeKind.TheVariants as kind
use Rattle.kernel_model.specs.Families.NameMaking.{making, making_unless}
use Rattle.entry_calls.proofs.Endings.{done_as}
use Rattle.entry_calls.proofs.making.file_symlink.Goals as goal

pub returns : goal.returns
returns c =
    let t = c.args.tree.now in
    done_as t c.make_link.new.tree c.make_link.result _ _
    (ap (λ e. (making_unless e (making (kind.Link c.args.text.now) c.args.path.now)).effect c.args.now c.args.new t (Some c.args.here.now) None)
    (sym c.in_default.is ∙ c.text_error.ensures))
    c.make_link.ensures
