use Rattle.std.proofs.Common.{◌≡◌, ◌∙◌, ap}
use Rattle.std.specs.Ordering.{nat_cmp}
use Rattle.std.specs.FinMap.{get, insert, get-empty}
use Rattle.tree_model.specs.declared.limits.TheConstants.{ROOT}
use Rattle.file_tree.specs.Kept.{Slots}
use Rattle.file_tree.proofs.Starts.{root_slots, seen_root, kept_root}
use Rattle.file_tree.proofs.tree.Tree.new.Goals as goal

pub insert-requires : goal.insert-requires
insert-requires c = ap (λ (m : Slots). get m ROOT) c.new-slots.ensures ∙ get-empty nat_cmp ROOT

pub invariant_of-result : goal.invariant_of-result
invariant_of-result c =
    let is : c.insert.new.self ≡ root_slots c.args.times = c.in_ok-insert.ensures.ok ∙ (λ i. insert (c.new-slots.ensures i) ROOT (c.new.ensures i)) in
    kept_root c.args.times c.insert.new.self c.new-2.result is c.new-2.ensures

pub returns : goal.returns
returns c =
    let is : c.insert.new.self ≡ root_slots c.args.times = c.in_ok-insert.ensures.ok ∙ (λ i. insert (c.new-slots.ensures i) ROOT (c.new.ensures i)) in
    seen_root c.args.times c.insert.new.self c.new-2.result is c.new-2.ensures
