use Rattle.std.proofs.Common.{◌≡◌, ◌++◌, List, ℕ, OnOk, subst}
use Rattle.std.specs.FinMap.{get}
use Rattle.abi_layout.specs.Layout.{IsLaidOut}
use Rattle.abi_layout.specs.Structures.{dirent_layout, dirent_values}
use Rattle.abi_structures.specs.declared.structures.Dirent.{Dirent}
use Rattle.kernel_model.specs.Families.FileLooks.{dirent, dirent_bytes}
use Rattle.file_calls.proofs.Heads.{laid_out_is_head}
use Rattle.file_calls.proofs.listings.append_entry.Goals as goal

pub returns : goal.returns
returns c =
    let head : Dirent = dirent (get c.args.tree.now.nodes c.args.id) c.args.position (c.args.name.now, c.args.id) in
    let bytes : List ℕ = c.write_dirent.result in
    let is : bytes ≡ dirent_bytes head =
    laid_out_is_head head bytes c.append_both.ensures.head
    (subst (λ (d : Dirent). IsLaidOut dirent_layout (dirent_values d) bytes) c.head.ensures c.write_dirent.ensures) in
    subst (λ (laid : List ℕ). OnOk c.append_both.result (c.append_both.new.bytes ≡ c.args.bytes.now ++ (laid ++ c.args.name.now))) is
    c.append_both.ensures.both
