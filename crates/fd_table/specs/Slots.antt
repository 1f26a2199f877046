-- A list of what stands at each number from 0 on, as a map from numbers.
--     slots_from n slots, filled slots      the map of what stands there, where the list begins at n;  where it begins at 0
--     get-filled      what the map has at a number is what stands there
use Rattle.std.proofs.Common.{◌≡◌, ℕ, zero, suc, ◌+◌, ◌<◌, List, [], ◌∷◌, get_or, Option, None, Some, ap, ◌∙◌, arith}
use Rattle.std.specs.Ordering.{nat_cmp}
use Rattle.std.specs.FinMap.{FinMap, empty, get, insert, get-empty}
use Rattle.maps.specs.Maps.{get-insert-same, get-insert-other}

module _ {X : Type 0} where
  -- the map, where the list's first is at n
  abbrev pub slots_from : ℕ → List (Option X) → FinMap nat_cmp X
  slots_from n [] = empty
  slots_from n (None ∷ slots) = slots_from (suc n) slots
  slots_from n (Some x ∷ slots) = insert (slots_from (suc n) slots) n x

  none_before : (n : ℕ) (slots : List (Option X)) (k : ℕ) → k < n → get (slots_from n slots) k ≡ None
  none_before n [] k less = get-empty nat_cmp k
  none_before n (None ∷ slots) k less = none_before (suc n) slots k (omega arith)
  none_before n (Some x ∷ slots) k less =
      get-insert-other (slots_from (suc n) slots) n x k (λ e. let same = e in omega arith) ∙ none_before (suc n) slots k (omega arith)

  -- the number after those before n
  get-slots_from : (n : ℕ) (slots : List (Option X)) (k q : ℕ) → q ≡ n + k → get (slots_from n slots) q ≡ get_or slots k None
  get-slots_from n [] k q is = get-empty nat_cmp q
  get-slots_from n (None ∷ slots) zero q is = none_before (suc n) slots q (omega arith)
  get-slots_from n (None ∷ slots) (suc k) q is = get-slots_from (suc n) slots k q (omega arith)
  get-slots_from n (Some x ∷ slots) zero q is =
      let same : q ≡ n = omega arith in
      ap (get (insert (slots_from (suc n) slots) n x)) same ∙ get-insert-same (slots_from (suc n) slots) n x
  get-slots_from n (Some x ∷ slots) (suc k) q is =
      get-insert-other (slots_from (suc n) slots) n x q (λ e. let same = e in omega arith) ∙ get-slots_from (suc n) slots k q (omega arith)

  -- the map of what stands at each number
  unfoldable pub filled : List (Option X) → FinMap nat_cmp X
  filled slots = slots_from 0 slots

  pub get-filled : (slots : List (Option X)) (k : ℕ) → get (filled slots) k ≡ get_or slots k None
  unfolding filled
  get-filled slots k = get-slots_from 0 slots k k (omega arith)
