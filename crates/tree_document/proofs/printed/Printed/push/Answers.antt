use Rattle.std.proofs.Common.{ℕ, List, ◌++◌, is_some, sym, ap, ◌∙◌, option_copied}
use Rattle.std.proofs.lemmas.Bool.{false≢true}
use Rattle.abi_types.specs.declared.node.NodeKind.{NodeKind}
use Rattle.abi_types.specs.declared.node.NodeKind.TheVariants as kind
use Rattle.tree_model.specs.Changes.{is_file_kind}
use Rattle.tree_records.specs.Records.{link_text}
use Rattle.tree_document.specs.Printing.{first_in, kind_text}
use Rattle.tree_document.proofs.Texts.{on_ok, on_ok_both, printed_file, printed_other}
use Rattle.tree_document.proofs.printed.Printed.push.Goals as goal

pub returns-in_default : goal.returns-in_default
returns-in_default c rows there h = absurd (false≢true (sym (ap (λ o. is_some (option_copied o)) c.in_default.is) ∙ ap is_some c.node.ensures.value ∙ there))

pub returns-in-Directory : goal.returns-in-Directory
returns-in-Directory c rows there h =
    let old = c.args.self.now.text.items in
    on_ok c.push_dir.result (λ e.
    printed_other c.args.tree.now rows c.args.path.now c.args.id old c.push_dir.new.out.items c.args.self.now.records c.args.self.now.firsts h c.in-Some.node.now
    (sym (ap option_copied c.in-Some.is) ∙ c.node.ensures.value) (ap is_file_kind c.in-Directory.is)
    (e ∙ ap (λ (k : NodeKind). old ++ kind_text (first_in rows c.args.id) c.args.path.now k) (sym c.in-Directory.is)))
    c.push_dir.ensures

pub returns-in-Link : goal.returns-in-Link
returns-in-Link c rows there h =
    let old = c.args.self.now.text.items in
    on_ok c.push_link.result (λ e.
    printed_other c.args.tree.now rows c.args.path.now c.args.id old c.push_link.new.out.items c.args.self.now.records c.args.self.now.firsts h c.in-Some.node.now
    (sym (ap option_copied c.in-Some.is) ∙ c.node.ensures.value) (ap is_file_kind c.in-Link.is)
    (e ∙ ap (λ (text : List ℕ). old ++ link_text c.args.path.now text) c.as_slice.ensures
    ∙ ap (λ (k : NodeKind). old ++ kind_text (first_in rows c.args.id) c.args.path.now k) (sym c.in-Link.is)))
    c.push_link.ensures

pub returns-in-File : goal.returns-in-File
returns-in-File c rows there h =
    on_ok_both c.push_file_name.result (λ e k.
    printed_file c.args.tree.now rows c.args.path.now c.args.id c.args.self.now.text.items c.push_file_name.new.self.text.items c.args.self.now.records c.args.self.now.firsts h
    c.in-Some.node.now c.as_slice-in-File.result.now c.push_file_name.new.self.records c.push_file_name.new.self.firsts
    (sym (ap option_copied c.in-Some.is) ∙ c.node.ensures.value) (c.in-File.is ∙ ap (λ (bytes : List ℕ). kind.File bytes) (sym c.as_slice-in-File.ensures)) e c.push_file_name.ensures.records k)
    c.push_file_name.ensures.text c.push_file_name.ensures.firsts
