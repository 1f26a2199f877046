use Rattle.std.proofs.Common.{◌≡◌, ℕ, ◌+◌, ◌<◌, List, length, drop, get_or, eqb, Option, sym, ap, ◌∙◌, arith, rules, tests}
use Rattle.std.proofs.lemmas.Iterator.Consumers.{YieldsList-turn, YieldsList-end}
use Rattle.std.proofs.lemmas.Iterator.Splits.{YieldsList-from_slice_split}
use Rattle.std.proofs.lemmas.List.{at_drop_more, at_drop_all, length_push}
use Rattle.lists.specs.Options.{◌>>=◌}
use Rattle.tree_model.specs.Tree.{Tree, entry_of}
use Rattle.tree_records.specs.Paths.{Path}
use Rattle.tree_records.specs.Reading.{names_in}
use Rattle.tree_document.specs.Building.{node_at}
use Rattle.std.specs.Slice.Iter as slice
use Rattle.tree_document.proofs.walking.names_lead.Goals as goal

step : (t : Tree) (d : ℕ) (names : Path) (n : ℕ) (name : List ℕ) (o : Option ℕ) → (n < length names) × (name ≡ get_or names n name) → o ≡ entry_of t d name
    → node_at t d (drop n names) ≡ (o >>= λ m. node_at t m (drop (n + 1) names))
step t d names n name o h is =
    at_drop_more (node_at t d) names n name h.0
    ∙ ap (λ (x : List ℕ). entry_of t d x >>= λ m. node_at t m (drop (n + 1) names)) (sym h.1)
    ∙ ap (λ (x : Option ℕ). x >>= λ m. node_at t m (drop (n + 1) names)) (sym is)

pub returns-in_err-node : goal.returns-in_err-node
returns-in_err-node c =
    let t = YieldsList-turn
    (YieldsList-from_slice_split _ (λ (x : ℕ). eqb x 47) c.args.path.now
    (ap slice.split_rest c.into_iter-name-iterator.ensures.into_iter_gives ∙ c.split-name-items.ensures.rest)
    (ap slice.split_done c.into_iter-name-iterator.ensures.into_iter_gives ∙ c.split-name-items.ensures.done)
    (ap slice.split_callee c.into_iter-name-iterator.ensures.into_iter_gives ∙ c.split-name-items.ensures.closure)
    (λ x r q k. search (rules, tests)))
    c.loop-name.yielded _ c.loop-name.yielded_by _ _ c.in-Some.name c.in-Some.is c.next.ensures.steps in
    let e = step c.args.tree.now c.loop-name.node (names_in c.args.path.now) (length c.loop-name.yielded) c.in-Some.name.now c.entry.result t c.entry.ensures in
    c.from_residual.ensures ∙ sym (ap (λ (o : Option ℕ). o >>= λ m. node_at c.args.tree.now m
    (drop (length c.loop-name.yielded + 1) (names_in c.args.path.now))) c.in_err-node.was) ∙ sym e ∙ c.loop-name.invariant

pub loop-name-preserved : goal.loop-name-preserved
loop-name-preserved c =
    let t = YieldsList-turn
    (YieldsList-from_slice_split _ (λ (x : ℕ). eqb x 47) c.args.path.now
    (ap slice.split_rest c.into_iter-name-iterator.ensures.into_iter_gives ∙ c.split-name-items.ensures.rest)
    (ap slice.split_done c.into_iter-name-iterator.ensures.into_iter_gives ∙ c.split-name-items.ensures.done)
    (ap slice.split_callee c.into_iter-name-iterator.ensures.into_iter_gives ∙ c.split-name-items.ensures.closure)
    (λ x r q k. search (rules, tests)))
    c.loop-name.yielded _ c.loop-name.yielded_by _ _ c.in-Some.name c.in-Some.is c.next.ensures.steps in
    let e = step c.args.tree.now c.loop-name.node (names_in c.args.path.now) (length c.loop-name.yielded) c.in-Some.name.now c.entry.result t c.entry.ensures in
    let n = length_push c.loop-name.yielded c.in-Some.name in
    ap (λ (k : ℕ). node_at c.args.tree.now c.in_ok-node.node (drop k (names_in c.args.path.now))) n
    ∙ sym (ap (λ (o : Option ℕ). o >>= λ m. node_at c.args.tree.now m (drop (length c.loop-name.yielded + 1) (names_in c.args.path.now))) c.in_ok-node.was)
    ∙ sym e ∙ c.loop-name.invariant

pub returns : goal.returns
returns c =
    let t = YieldsList-end
    (YieldsList-from_slice_split _ (λ (x : ℕ). eqb x 47) c.args.path.now
    (ap slice.split_rest c.into_iter-name-iterator.ensures.into_iter_gives ∙ c.split-name-items.ensures.rest)
    (ap slice.split_done c.into_iter-name-iterator.ensures.into_iter_gives ∙ c.split-name-items.ensures.done)
    (ap slice.split_callee c.into_iter-name-iterator.ensures.into_iter_gives ∙ c.split-name-items.ensures.closure)
    (λ x r q k. search (rules, tests)))
    c.loop-name.yielded _ c.loop-name.yielded_by _ _ c.in-None.is c.next.ensures.steps in
    let e = at_drop_all (node_at c.args.tree.now c.loop-name.node) (names_in c.args.path.now) (length c.loop-name.yielded) in
    sym (e (omega (arith, t.1))) ∙ c.loop-name.invariant
