use Rattle.std.proofs.Common.{◌-◌, ◌∙◌, ap, is_some, refl}
use Rattle.std.specs.FinMap.{get}
use Rattle.tree_model.specs.Changes.{with_count}
use Rattle.file_tree.proofs.SlotChanges.{found_alike}
use Rattle.file_tree.proofs.entries.lose_name.Goals as goal

pub set_parent-requires : goal.set_parent-requires
set_parent-requires c =
    ap (λ m. is_some (get m c.args.id)) c.count_less.ensures
    ∙ found_alike (λ s. record s { node = with_count s.node (s.node.links - 1) }) c.args.slots.now c.args.id is_some (λ _. refl) c.args.id
    ∙ c.requires.there
