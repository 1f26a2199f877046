use Rattle.std.proofs.Common.{◌≡◌, ◌<◌, ◌≤◌, ℕ, List, length, get_or, sym, subst, ◌∙◌}
use Rattle.std.specs.Result.{MatchResult}
use Rattle.std.proofs.lemmas.List.Sorted.{searched}
use Rattle.wait_set.specs.Numbers.{IsAscending}
use Rattle.wait_set.proofs.Ascending.{rising}
use Rattle.wait_set.proofs.block.Block.place.Goals as goal

pub returns : goal.returns
returns c =
    let same = c.deref.ensures.value ∙ c.self.view_is in
    subst (λ (xs : List ℕ). MatchResult c.binary_search.result (λ i. (i < length xs) × (get_or xs i 0 ≡ c.args.number))
    (λ i. (i ≤ length xs) × ((k : ℕ) → k < i → get_or xs k 0 < c.args.number) × ((k : ℕ) → i ≤ k → k < length xs → c.args.number < get_or xs k 0))) same
    (searched c.deref.result.now c.args.number c.binary_search.result c.binary_search.ensures.position (rising c.deref.result.now (subst IsAscending (sym same) c.requires)))
