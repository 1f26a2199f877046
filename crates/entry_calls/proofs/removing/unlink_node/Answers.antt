use Rattle.std.proofs.Common.{◌≡◌, Bool, true, false, refl, sym, ◌∙◌}
use Rattle.std.specs.Bool.{beq}
use Rattle.std.specs.Prelude.{if◌then◌else◌}
use Rattle.abi_base.specs.declared.errno.Errno.TheVariants.{Notdir, Perm}
use Rattle.tree_model.specs.Tree.{is_directory}
use Rattle.kernel_model.specs.Families.NameMeaning.{NameOutcome, Changes, Refuses}
use Rattle.kernel_model.specs.Families.NameRemoving.{removes_directory, without_name}
use Rattle.entry_calls.proofs.Endings.{done_as}
use Rattle.entry_calls.proofs.removing.unlink_node.Goals as goal

alike : (b r : Bool) → beq b r ≡ true → b ≡ r
alike true true is = refl
alike true false is = cc
alike false true is = cc
alike false false is = refl

-- a directory with the flag, or another node without it
agreed : (b r : Bool) (done perm notdir : NameOutcome) → b ≡ r → done ≡ (if b then (if r then done else perm) else (if r then notdir else done))
agreed true true done perm notdir is = refl
agreed true false done perm notdir is = cc
agreed false true done perm notdir is = cc
agreed false false done perm notdir is = refl

pub returns-then-is_directory-removes : goal.returns-then-is_directory-removes
returns-then-is_directory-removes c =
    let t = c.args.tree.now in
    let change = without_name c.args.now t c.args.dir c.args.name.now c.args.node in
    done_as t c.remove_name.new.tree c.remove_name.result (Changes change) _
    (agreed (is_directory t c.args.node) (removes_directory c.args.flags) (Changes change) (Refuses Perm) (Refuses Notdir)
    (sym c.is_directory.ensures ∙ alike c.is_directory.result c.removes_directory-removes.result c.if-is_directory-removes.true
    ∙ c.removes_directory-removes.ensures))
    c.remove_name.ensures
