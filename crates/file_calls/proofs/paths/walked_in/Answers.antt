use Rattle.std.proofs.Common.{length, sym, subst, ◌∙◌}
use Rattle.path_lookup.proofs.Outside.{LeavesBy, leaves_by_component}
use Rattle.path_lookup.specs.Walk.{walk_of}
use Rattle.tree_model.specs.Finds.{finds}
use Rattle.file_calls.proofs.Walks.{leaves_by_more, path_is_short}
use Rattle.file_calls.proofs.paths.walked_in.Goals as goal

pub walk_failed-requires : goal.walk_failed-requires
walk_failed-requires c =
    let path = c.args.path.now in
    let walked = walk_of (finds c.args.tree.now) c.args.mode c.args.start path in
    subst (LeavesBy 1024) (sym c.in-Err.ensures.walked)
    (leaves_by_more (length path) 1024 walked (path_is_short path (sym c.path_error.ensures ∙ c.in_default.is))
    (leaves_by_component (finds c.args.tree.now) c.args.mode c.args.start path))
