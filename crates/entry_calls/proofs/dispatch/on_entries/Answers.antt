use Rattle.std.proofs.Common.{◌≡◌, ℕ, List, Option, None, Some, option_copied, refl, sym, ap, ◌∙◌}
use Rattle.abi_base.specs.declared.errno.Errno.{Errno}
use Rattle.abi_types.specs.Families.{call_of_entry}
use Rattle.abi_types.specs.declared.family.EntryCall.{EntryCall}
use Rattle.abi_types.specs.declared.node.NodeKind.{NodeKind}
use Rattle.abi_types.specs.declared.node.NodeKind.TheVariants as kind
use Rattle.abi_types.specs.declared.open_kind.OpenKind.{OpenKind}
use Rattle.tree_model.specs.Tree.{Tree}
use Rattle.kernel_model.specs.Families.EntryCalls.{name_meaning}
use Rattle.kernel_model.specs.Families.NameMaking.{making, making_unless, text_error}
use Rattle.kernel_model.specs.Families.NameMeaning.{NameOutcome, NameMeaning}
use Rattle.entry_calls.proofs.Endings.{done_as}
use Rattle.entry_calls.proofs.dispatch.on_entries.Goals as goal

-- a call that makes a node has no second path
second_unseen : (e : Option Errno) (kind : NodeKind) (path : List ℕ) (now new : ℕ) (t : Tree) (here there : Option OpenKind)
    → (making_unless e (making kind path)).effect now new t here None ≡ (making_unless e (making kind path)).effect now new t here there
second_unseen None kind path now new t here there = refl
second_unseen (Some errno) kind path now new t here there = refl

pub returns-in-FileCreate : goal.returns-in-FileCreate
returns-in-FileCreate c =
    let t = c.args.tree.now in
    let effect : NameMeaning → NameOutcome = λ m. m.effect c.args.now c.args.new t (Some c.args.here.now) (option_copied c.args.there) in
    done_as t c.file_create.new.tree c.file_create.result _ (effect (name_meaning (call_of_entry c.args.call)))
    (ap (λ (call : EntryCall). effect (name_meaning (call_of_entry call))) (sym c.in-FileCreate.is))
    c.file_create.ensures

pub returns-in-FileLink : goal.returns-in-FileLink
returns-in-FileLink c =
    let t = c.args.tree.now in
    let effect : NameMeaning → NameOutcome = λ m. m.effect c.args.now c.args.new t (Some c.args.here.now) (option_copied c.args.there) in
    done_as t c.file_link.new.tree c.file_link.result _ (effect (name_meaning (call_of_entry c.args.call)))
    (ap (λ (call : EntryCall). effect (name_meaning (call_of_entry call))) (sym c.in-FileLink.is))
    (c.file_link.ensures c.args.new)

pub returns-in-FileRename : goal.returns-in-FileRename
returns-in-FileRename c =
    let t = c.args.tree.now in
    let effect : NameMeaning → NameOutcome = λ m. m.effect c.args.now c.args.new t (Some c.args.here.now) (option_copied c.args.there) in
    done_as t c.file_rename.new.tree c.file_rename.result _ (effect (name_meaning (call_of_entry c.args.call)))
    (ap (λ (call : EntryCall). effect (name_meaning (call_of_entry call))) (sym c.in-FileRename.is))
    (c.file_rename.ensures c.args.new)

pub returns-in-FileSymlink : goal.returns-in-FileSymlink
returns-in-FileSymlink c =
    let t = c.args.tree.now in
    let effect : NameMeaning → NameOutcome = λ m. m.effect c.args.now c.args.new t (Some c.args.here.now) (option_copied c.args.there) in
    done_as t c.file_symlink.new.tree c.file_symlink.result _ (effect (name_meaning (call_of_entry c.args.call)))
    (second_unseen (text_error c.in-FileSymlink.text.now) (kind.Link c.in-FileSymlink.text.now)
    c.in-FileSymlink.path.now c.args.now c.args.new t (Some c.args.here.now) (option_copied c.args.there)
    ∙ ap (λ (call : EntryCall). effect (name_meaning (call_of_entry call))) (sym c.in-FileSymlink.is))
    c.file_symlink.ensures

pub returns-in-FileUnlink : goal.returns-in-FileUnlink
returns-in-FileUnlink c =
    let t = c.args.tree.now in
    let effect : NameMeaning → NameOutcome = λ m. m.effect c.args.now c.args.new t (Some c.args.here.now) (option_copied c.args.there) in
    done_as t c.file_unlink.new.tree c.file_unlink.result _ (effect (name_meaning (call_of_entry c.args.call)))
    (ap (λ (call : EntryCall). effect (name_meaning (call_of_entry call))) (sym c.in-FileUnlink.is))
    (c.file_unlink.ensures c.args.new)
