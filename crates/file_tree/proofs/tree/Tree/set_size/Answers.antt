use Rattle.std.proofs.Common.{◌∙◌, ap}
use Rattle.std.specs.FinMap.{insert}
use Rattle.tree_model.specs.Files.{resized}
use Rattle.tree_model.specs.Changes.{with_bytes}
use Rattle.file_tree.specs.Kept.{tree_of}
use Rattle.file_tree.proofs.Behind.{on_err}
use Rattle.file_tree.proofs.Edits.{put_same, seen_file_there, seen_file, seen_bytes, seen_with_file, kept_with_file}
use Rattle.file_tree.proofs.tree.Tree.set_size.Goals as goal

pub get_mut-slot-requires : goal.get_mut-slot-requires
get_mut-slot-requires c = seen_file_there c.self.inside.slots c.args.self.now c.self.view_is c.args.id c.requires

pub set_size-requires : goal.set_size-requires
set_size-requires c = seen_file c.self.inside.slots c.args.self.now c.self.view_is c.args.id c.get_mut-slot.result.now c.get_mut-slot.ensures.value c.requires

pub invariant_of-self : goal.invariant_of-self
invariant_of-self c =
    rw (put_same c.self.inside.slots c.args.id c.get_mut-slot.result.now c.set_size.new.self c.in_err-set_size.ensures.err c.get_mut-slot.ensures.value) c.self.invariant

pub returns-in_err-set_size-clause-err : goal.returns-in_err-set_size-clause-err
returns-in_err-set_size-clause-err c =
    on_err c.from_residual.result
    (ap tree_of (put_same c.self.inside.slots c.args.id c.get_mut-slot.result.now c.set_size.new.self c.in_err-set_size.ensures.err c.get_mut-slot.ensures.value)
    ∙ c.self.view_is)

pub invariant_of-self-2 : goal.invariant_of-self-2
invariant_of-self-2 c =
    rw c.in_ok-set_size.ensures.ok
    (kept_with_file c.self.inside.slots c.args.self.now c.self.view_is c.args.id c.get_mut-slot.result.now c.get_mut-slot.ensures.value c.self.inside.nameless c.self.invariant c.requires _)

pub returns-clause-ok : goal.returns-clause-ok
returns-clause-ok c =
    let m = c.self.inside.slots in
    let slot = c.get_mut-slot.result.now in
    ap (λ s. tree_of (insert m c.args.id s)) c.in_ok-set_size.ensures.ok
    ∙ seen_with_file m c.args.self.now c.self.view_is c.args.id slot c.get_mut-slot.ensures.value c.requires _
    ∙ ap (λ bytes. with_bytes c.args.self.now c.args.id (resized bytes c.args.size)) (seen_bytes m c.args.self.now c.self.view_is c.args.id slot c.get_mut-slot.ensures.value)
