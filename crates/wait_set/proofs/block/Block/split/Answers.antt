use Rattle.std.proofs.Common.{◌≡◌, ◌-◌, ◌++◌, ℕ, List, length, take, drop, IsOk, ap, ◌∙◌, rules}
use Rattle.wait_set.proofs.Packed.{rest_taken}
use Rattle.wait_set.proofs.block.Block.split.Goals as goal

pub returns-clause-moved : goal.returns-clause-moved
returns-clause-moved c =
    let ok : IsOk c.extend_from_slice.result = search rules in
    let e : c.extend_from_slice.new.self.items ≡ c.clear.new.self.items ++ take (length c.as_slice.result.now - 32) (drop 32 c.as_slice.result.now) = rw ok at c.extend_from_slice.ensures.items in
    e
    ∙ ap (λ (xs : List ℕ). xs ++ take (length c.as_slice.result.now - 32) (drop 32 c.as_slice.result.now)) c.clear.ensures.items
    ∙ rest_taken 32 c.as_slice.result.now
    ∙ ap (drop 32) (c.as_slice.ensures.value ∙ c.self.view_is)
