use Rattle.std.proofs.Common.{◌≡◌, None, Some, ap, sym, subst, ◌∙◌}
use Rattle.abi_types.specs.Families.{call_of_entry}
use Rattle.abi_types.specs.declared.family.EntryCall.{EntryCall}
use Rattle.abi_types.specs.declared.node.NodeKind.TheVariants as kind
use Rattle.kernel_model.specs.Families.EntryCalls.{name_meaning}
use Rattle.kernel_model.specs.Families.NameMaking.{making, making_unless, text_error}
use Rattle.kernel_model.specs.Families.NameMeaning.{NameMeaning}
use Rattle.entry_calls.specs.Checks.{IsReported}
use Rattle.entry_calls.proofs.checking.check_entries.Goals as goal

pub returns-in-FileCreate : goal.returns-in-FileCreate
returns-in-FileCreate c = λ one now new there.
    let reported : NameMeaning → Type 0 = λ m. IsReported (m.effect now new c.args.tree.now (Some c.args.here.now) there) c.check_path.result in
    subst reported (ap (λ (call : EntryCall). name_meaning (call_of_entry call)) (sym c.in-FileCreate.is)) (c.check_path.ensures kind.Directory now new there)

pub returns-in-None : goal.returns-in-None
returns-in-None c = λ one now new there.
    let reported : NameMeaning → Type 0 = λ m. IsReported (m.effect now new c.args.tree.now (Some c.args.here.now) there) c.check_path-in-None.result in
    let text = c.in-FileSymlink.text.now in
    let right : None ≡ text_error text = sym c.in-None.is ∙ c.text_error.ensures in
    subst reported
    (ap (λ e. making_unless e (making (kind.Link text) c.in-FileSymlink.path.now)) right
    ∙ ap (λ (call : EntryCall). name_meaning (call_of_entry call)) (sym c.in-FileSymlink.is))
    (c.check_path-in-None.ensures (kind.Link text) now new there)
