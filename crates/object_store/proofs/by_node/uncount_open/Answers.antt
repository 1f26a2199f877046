use Rattle.std.proofs.Common.{◌≡◌, ◌-◌, sym, ap, ◌∙◌, arith}
use Rattle.std.specs.FinMap.{get}
use Rattle.maps.specs.Maps.{number}
use Rattle.tree_model.specs.Tree.{one_for}
use Rattle.object_store.proofs.Nodes.{one_for_itself, one_less_at, none_left_at, no_zero_put, no_zero_gone}
use Rattle.object_store.proofs.by_node.uncount_open.Goals as goal

pub returns-then-count-gt1-clause-less : goal.returns-then-count-gt1-clause-less
returns-then-count-gt1-clause-less c n =
    let was = c.count_of-count.ensures ∙ ap (λ k. number (get c.args.by_node.now k)) (sym c.node.view_is) in
    let less = one_less_at c.args.by_node.now c.node.inside.0 (c.count_of-count.result - 1) (omega (arith, was, c.if-count-gt1.true)) n in
    let now = ap (λ m. number (get m n)) c.replace.ensures.new in
    let one = c.in-Some.ensures n ∙ ap (one_for n) (sym c.node.view_is) in
    omega (arith, now, less, one)

pub returns-then-count-gt1-clause-no_zero : goal.returns-then-count-gt1-clause-no_zero
returns-then-count-gt1-clause-no_zero c no_zero =
    rw c.replace.ensures.new (no_zero_put _ c.node.inside.0 (c.count_of-count.result - 1) (omega (arith, c.if-count-gt1.true)) no_zero)

pub returns-else-count-gt1-clause-less : goal.returns-else-count-gt1-clause-less
returns-else-count-gt1-clause-less c n =
    let some = c.requires c.in-Some.node in
    let itself = c.in-Some.ensures c.in-Some.node ∙ one_for_itself c.in-Some.node in
    let was = ap (λ k. number (get c.args.by_node.now k)) c.node.view_is ∙ sym c.count_of-count.ensures in
    let last : number (get c.args.by_node.now c.node.inside.0) ≡ 1 = omega (arith, some, itself, was, c.count_of-count.ensures, c.if-count-gt1.false) in
    let less = none_left_at c.args.by_node.now c.node.inside.0 last n in
    let now = ap (λ m. number (get m n)) c.remove.ensures.new in
    let one = c.in-Some.ensures n ∙ ap (one_for n) (sym c.node.view_is) in
    omega (arith, now, less, one)

pub returns-else-count-gt1-clause-no_zero : goal.returns-else-count-gt1-clause-no_zero
returns-else-count-gt1-clause-no_zero c no_zero = rw c.remove.ensures.new (no_zero_gone _ c.node.inside.0 no_zero)
