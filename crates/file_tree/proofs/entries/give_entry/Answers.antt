use Rattle.std.proofs.Common.{◌∙◌, Some, ap, is_some, refl, sym}
use Rattle.std.specs.FinMap.{get}
use Rattle.file_tree.specs.Kept.{names_at, names_in_any}
use Rattle.file_tree.proofs.SlotChanges.{lost_alike}
use Rattle.file_tree.proofs.entries.give_entry.Goals as goal

pub replace_entry-requires-clause-dir : goal.replace_entry-requires-clause-dir
replace_entry-requires-clause-dir c =
    ap (λ m. is_some (get m c.args.dir)) c.in_ok-lose_name-in-Some.ensures.slots
    ∙ lost_alike c.args.slots.now is_some (λ _. refl) (λ _. refl) (Some _) c.args.dir
    ∙ c.requires.dir

pub replace_entry-requires-clause-there : goal.replace_entry-requires-clause-there
replace_entry-requires-clause-there c =
    ap (λ m. is_some (get (names_at m c.args.dir) c.args.name.now)) c.in_ok-lose_name-in-Some.ensures.slots
    ∙ ap (λ names. is_some (get names c.args.name.now)) (lost_alike c.args.slots.now names_in_any (λ _. refl) (λ _. refl) (Some _) c.args.dir)
    ∙ ap is_some (sym c.requires.entry ∙ c.in-Some.is)
