use Rattle.std.proofs.Common.{◌≡◌, Bool, true, false, Option, None, refl, sym, ◌∙◌, ap, subst}
use Rattle.std.specs.Prelude.{ℕ, if◌then◌else◌}
use Rattle.tree_model.specs.Changes.{first_fault, is_same, moved_to, rename_faults, replace_faults, replaced}
use Rattle.tree_model.specs.Tree.{Tree, entry_of}
use Rattle.kernel_model.specs.Families.FileChanges.{modified}
use Rattle.kernel_model.specs.Families.NameMaking.{errno_of, with_new_names}
use Rattle.kernel_model.specs.Families.NameMeaning.{NameOutcome, Changes}
use Rattle.kernel_model.specs.Families.NameMoving.{move_or_stay, with_move, with_new_count_of}
use Rattle.kernel_model.specs.Families.TreeUpdates.{no_change}
use Rattle.entry_calls.specs.Done.{FailsAs}
use Rattle.entry_calls.proofs.Endings.{either_of_table, failed_as, first_is_of_table, unless_none}
use Rattle.entry_calls.proofs.Losing.{loses-recounted, loses-renamed, loses-retimed, loses_by, loses_nothing}
use Rattle.entry_calls.proofs.moving.rename_in.Goals as goal

pub returns-else-stays : goal.returns-else-stays
returns-else-stays c =
    let t = c.args.tree.now in
    let name = c.args.name.now in
    let new = c.args.new_name.now in
    let faults = first_fault (rename_faults t c.args.from name c.args.to new) in
    let move = with_move c.args.now t c.args.from name c.args.to new in
    let differ : false ≡ is_same (entry_of t c.args.from name) (entry_of t c.args.to new) =
    c.if-stays.ensures ∙ ap (λ e. is_same e c.entry-2.result) c.entry.ensures ∙ ap (is_same (entry_of t c.args.from name)) c.entry-2.ensures in
    let gone = replaced t c.args.from name c.args.to new in
    let is =
    c.set_moved.ensures
    ∙ ap (λ (old : Option ℕ). with_new_count_of c.args.now
    (with_new_names c.args.now (with_new_names c.args.now c.rename.new.self c.args.from) c.args.to) old) c.in-Ok.ensures.replaced
    ∙ ap (λ (u : Tree). with_new_count_of c.args.now (with_new_names c.args.now (with_new_names c.args.now u c.args.from) c.args.to) gone)
    c.in-Ok.ensures.ok in (
      move,
      c.names_lead.ensures c.args.from name _ ∙ c.names_lead.ensures c.args.to new _
          ∙ unless_none errno_of faults (Changes (move_or_stay c.args.now t c.args.from name c.args.to new)) c.in-Ok.ensures.allowed
          ∙ ap (λ (b : Bool). Changes (if b then no_change t else move)) (sym differ),
      is,
      loses_by t c.set_moved.new.tree move.tree c.in-Ok.replaced gone is c.in-Ok.ensures.replaced
          (loses-recounted t _ c.args.now gone gone
          (loses-retimed t _ c.args.to (modified c.args.now) gone
          (loses-retimed t _ c.args.from (modified c.args.now) gone (loses-renamed t c.args.from name c.args.to new)))),
    )

pub returns-then-stays : goal.returns-then-stays
returns-then-stays c =
    let t = c.args.tree.now in
    let name = c.args.name.now in
    let new = c.args.new_name.now in
    let faults = first_fault (rename_faults t c.args.from name c.args.to new) in
    let same : true ≡ is_same (entry_of t c.args.from name) (entry_of t c.args.to new) =
    c.if-stays.ensures ∙ ap (λ e. is_same e c.entry-2.result) c.entry.ensures ∙ ap (is_same (entry_of t c.args.from name)) c.entry-2.ensures in
    let is =
    c.in-Ok.ensures.ok
    ∙ ap (λ (b : Bool). if b then t else moved_to t c.args.from name c.args.to new (entry_of t c.args.from name)) (sym same) in (
      no_change t,
      c.names_lead.ensures c.args.from name _ ∙ c.names_lead.ensures c.args.to new _
          ∙ unless_none errno_of faults (Changes (move_or_stay c.args.now t c.args.from name c.args.to new)) c.in-Ok.ensures.allowed
          ∙ ap (λ (b : Bool). Changes (if b then no_change t else with_move c.args.now t c.args.from name c.args.to new)) (sym same),
      is,
      loses_by t c.rename.new.self t None None is refl (loses_nothing t None),
    )

pub returns-in-Err : goal.returns-in-Err
returns-in-Err c =
    let t = c.args.tree.now in
    let name = c.args.name.now in
    let new = c.args.new_name.now in
    let moved = entry_of t c.args.from name in
    let old = entry_of t c.args.to new in
    let same = is_same moved old in
    let faults = rename_faults t c.args.from name c.args.to new in (
      subst (λ (comes : NameOutcome). FailsAs comes c.failed.result)
          (sym (c.names_lead.ensures c.args.to new _) ∙ sym (c.names_lead.ensures c.args.from name _))
          (failed_as errno_of (first_fault faults) (move_or_stay c.args.now t c.args.from name c.args.to new) c.in-Err.fault c.failed.result
          (first_is_of_table faults (tt, (tt, (tt, (tt, (tt, (tt, either_of_table same (replace_faults t moved c.args.to old) (tt, (tt, (tt, (tt, tt))))))))))) c.in-Err.ensures.fault c.failed.ensures),
      c.in-Err.ensures.err,
    )
