use Rattle.std.proofs.Common.{◌∙◌, take, ap, sym}
use Rattle.std.specs.FinMap.{insert}
use Rattle.tree_model.specs.Files.{written}
use Rattle.tree_model.specs.Changes.{bytes_of, with_bytes}
use Rattle.file_tree.specs.Kept.{tree_of}
use Rattle.file_tree.proofs.Behind.{on_err}
use Rattle.file_tree.proofs.Bytes.{after_none, after_some}
use Rattle.file_tree.proofs.Edits.{put_same, seen_file_there, seen_file, seen_bytes, seen_with_file, kept_with_file, seen_same_bytes}
use Rattle.file_tree.proofs.tree.Tree.write_at.Goals as goal

pub returns-then-is_empty-clause-ok : goal.returns-then-is_empty-clause-ok
returns-then-is_empty-clause-ok c =
    seen_same_bytes c.args.self.now c.args.id _ c.requires.file (after_none (bytes_of c.args.self.now c.args.id) c.args.bytes.now c.args.at (sym c.if-is_empty.ensures))

pub get_mut-slot-requires : goal.get_mut-slot-requires
get_mut-slot-requires c = seen_file_there c.self.inside.slots c.args.self.now c.self.view_is c.args.id c.requires.file

pub write_at-requires-clause-file : goal.write_at-requires-clause-file
write_at-requires-clause-file c =
    seen_file c.self.inside.slots c.args.self.now c.self.view_is c.args.id c.get_mut-slot.result.now c.get_mut-slot.ensures.value c.requires.file

pub invariant_of-self : goal.invariant_of-self
invariant_of-self c =
    rw (put_same c.self.inside.slots c.args.id c.get_mut-slot.result.now c.write_at.new.self c.in_err-write_at.ensures.err c.get_mut-slot.ensures.value) c.self.invariant

pub returns-in_err-write_at-clause-err : goal.returns-in_err-write_at-clause-err
returns-in_err-write_at-clause-err c =
    on_err c.from_residual.result
    (ap tree_of (put_same c.self.inside.slots c.args.id c.get_mut-slot.result.now c.write_at.new.self c.in_err-write_at.ensures.err c.get_mut-slot.ensures.value)
    ∙ c.self.view_is)

pub invariant_of-self-2 : goal.invariant_of-self-2
invariant_of-self-2 c =
    rw c.in_ok-write_at.ensures.ok
    (kept_with_file c.self.inside.slots c.args.self.now c.self.view_is c.args.id c.get_mut-slot.result.now c.get_mut-slot.ensures.value
    c.self.inside.nameless c.self.invariant c.requires.file _)

pub returns-clause-ok : goal.returns-clause-ok
returns-clause-ok c =
    let m = c.self.inside.slots in
    let t = c.args.self.now in
    let slot = c.get_mut-slot.result.now in
    ap (λ s. tree_of (insert m c.args.id s)) c.in_ok-write_at.ensures.ok
    ∙ seen_with_file m t c.self.view_is c.args.id slot c.get_mut-slot.ensures.value c.requires.file _
    ∙ ap (λ bytes. with_bytes t c.args.id (written bytes c.args.at (take c.min-count.result c.args.bytes.now))) (seen_bytes m t c.self.view_is c.args.id slot c.get_mut-slot.ensures.value)
    ∙ ap (with_bytes t c.args.id) (after_some (bytes_of t c.args.id) c.args.bytes.now c.args.at c.min-count.result (sym c.if-is_empty.ensures) c.min-count.ensures)
