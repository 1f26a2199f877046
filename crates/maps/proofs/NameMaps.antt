-- The map of names after a change of the list of its entries.
use Rattle.std.proofs.Common.{◌≡◌, ◌≢◌, ℕ, zero, suc, ◌+◌, ◌<◌, ◌≤◌, ◌^◌, true, false, T, List, [], ◌∷◌, length, drop, Option, Some, None, IsSome, is_some, refl, sym, ap, subst, ◌∙◌, arith}
use Rattle.std.specs.List.{slice_get}
use Rattle.std.specs.Option.{option_map}
use Rattle.std.specs.Map.Iter.{TakesFirst}
use Rattle.std.specs.FinMap.{find, is_sorted, from_sorted, get, insert, remove}
use Rattle.maps.specs.Names.{Name, Names, name_cmp, remove_absent}
use Rattle.maps.specs.Placed.{placed, revalued, count_below, IsOrdered}
use Rattle.maps.proofs.Places.{slice_get-placed, length-revalued}
use Rattle.maps.proofs.OrderedNames.{value_at, find-at, get_of, get_seen, inserted-new, inserted-again, removed_of, entry-of_value}

differ : false ≢ true
differ e = subst T (sym e) tt

-- the item of an option, or x where there is none
abbrev item_or : {A : Type 0} → A → Option A → A
item_or x None = x
item_or x (Some y) = y

none_of : {A : Type 0} (o : Option A) → is_some o ≡ false → o ≡ None
none_of None h = refl
none_of (Some x) h = absurd (differ (sym h))

module _ {A : Type 0} where
  length-placed_anywhere : (n : ℕ) (x : A) (xs : List A) → length (placed n x xs) ≡ length xs + 1
  length-placed_anywhere zero x [] = refl
  length-placed_anywhere zero x (e ∷ xs) = omega arith
  length-placed_anywhere (suc n) x [] = refl
  length-placed_anywhere (suc n) x (e ∷ xs) = let rest = length-placed_anywhere n x xs in omega (arith, rest)

  drop_none : (n : ℕ) (xs : List A) → None ≡ slice_get xs n → (drop n xs ≡ []) × (drop (suc n) xs ≡ [])
  drop_none zero [] h = (refl, refl)
  drop_none (suc n) [] h = (refl, refl)
  drop_none zero (y ∷ xs) h = absurd (differ (ap is_some h))
  drop_none (suc n) (y ∷ xs) h = drop_none n xs h

  drop_some : (n : ℕ) (x : A) (xs : List A) → Some x ≡ slice_get xs n → drop n xs ≡ x ∷ drop (suc n) xs
  drop_some zero x [] h = absurd (differ (sym (ap is_some h)))
  drop_some (suc n) x [] h = absurd (differ (sym (ap is_some h)))
  drop_some zero x (y ∷ xs) h = ap (λ z. z ∷ xs) (sym (ap (item_or x) h))
  drop_some (suc n) x (y ∷ xs) h = drop_some n x xs h

  -- the item at the place n is the first of those from there on
  pub takes_first : {B : Type 0} (shows : B → A) (xs s : List A) (n : ℕ) (r : Option B) → drop n xs ≡ s → option_map shows r ≡ slice_get xs n
      → TakesFirst shows s r (drop (n + 1) xs)
  takes_first shows xs s n None is h =
      let next : n + 1 ≡ suc n = omega arith in
      (sym is ∙ (drop_none n xs h).0, ap (λ j. drop j xs) next ∙ (drop_none n xs h).1)
  takes_first shows xs s n (Some x) is h =
      let next : suc n ≡ n + 1 = omega arith in
      sym is ∙ drop_some n (shows x) xs h ∙ ap (λ j. shows x ∷ drop j xs) next

module _ {X : Type 0} where
  value_within : (k : Name) (es : List (Name × X)) (n : ℕ) → IsSome (value_at k (slice_get es n)) → n < length es
  value_within k [] zero h = absurd (differ h)
  value_within k [] (suc n) h = absurd (differ h)
  value_within k (e ∷ es) zero h = omega arith
  value_within k (e ∷ es) (suc n) h = let rest = value_within k es n h in omega (arith, rest)

  -- the place of a name that is there is one of the list's
  pub place_within : (k : Name) (es : List (Name × X)) (n : ℕ) → IsOrdered es → n ≡ count_below k es → IsSome (find name_cmp k es) → n < length es
  place_within k es n o at there =
      value_within k es n (subst IsSome (find-at k es o.0 ∙ sym (ap (λ j. value_at k (slice_get es j)) at)) there)

  pub with_new : (es fs : List (Name × X)) (m : Names X) (k : Name) (v : X) (n : ℕ) → from_sorted es ≡ m → IsOrdered es → n ≡ count_below k es
      → is_some (find name_cmp k es) ≡ false → length fs < 2 ^ 63 → fs ≡ placed n (k, v) es
      → IsOrdered fs × (from_sorted fs ≡ insert m k v)
  with_new es fs m k v n e o at none few is =
      let whole : fs ≡ placed (count_below k es) (k, v) es = is ∙ ap (λ j. placed j (k, v) es) at in
      let parts = inserted-new es m k v e o (none_of _ none) in
      ((subst (λ xs. T (is_sorted name_cmp xs)) (sym whole) parts.0, few), ap (from_sorted {R = name_cmp}) whole ∙ parts.1)

  pub length-new : (es fs : List (Name × X)) (x : Name × X) (n : ℕ) → fs ≡ placed n x es → length fs ≡ length es + 1
  length-new es fs x n is = ap length is ∙ length-placed_anywhere n x es

  pub with_again : (es fs : List (Name × X)) (m : Names X) (k : Name) (v : X) (n : ℕ) → from_sorted es ≡ m → IsOrdered es → n ≡ count_below k es
      → IsSome (find name_cmp k es) → fs ≡ revalued n v es
      → IsOrdered fs × (from_sorted fs ≡ insert m k v)
  with_again es fs m k v n e o at there is =
      let whole : fs ≡ revalued (count_below k es) v es = is ∙ ap (λ j. revalued j v es) at in
      let parts = inserted-again es m k v e o there in
      let same : length fs ≡ length es = ap length whole ∙ length-revalued (count_below k es) v es in
      let few = o.1 in
      ((subst (λ xs. T (is_sorted name_cmp xs)) (sym whole) parts.0, omega (arith, few, same)), ap (from_sorted {R = name_cmp}) whole ∙ parts.1)

  -- the value at the place of a name that is there
  pub value_there : (es : List (Name × X)) (m : Names X) (k : Name) (n : ℕ) → from_sorted es ≡ m → IsOrdered es → n ≡ count_below k es → IsSome (get m k)
      → option_map (λ e. e.1) (slice_get es n) ≡ get m k
  value_there es m k n e o at there =
      let seen = get_seen es m k n (slice_get es n) e o at refl in
      (entry-of_value k (slice_get es n) (subst IsSome seen there)).0 ∙ sym seen

  pub without : (es rest : List (Name × X)) (m : Names X) (k : Name) (n : ℕ) (x : Name × X) → from_sorted es ≡ m → IsOrdered es → n ≡ count_below k es
      → IsSome (find name_cmp k es) → es ≡ placed n x rest
      → IsOrdered rest × (from_sorted rest ≡ remove m k) × (Some x.1 ≡ get m k)
  without es rest m k n x e o at there is =
      let low = place_within k es n o at there in
      let more : length es ≡ length rest + 1 = ap length is ∙ length-placed_anywhere n x rest in
      let within : n ≤ length rest = omega (arith, low, more) in
      let stands : Some x ≡ slice_get es n = sym (ap (λ xs. slice_get xs n) is ∙ slice_get-placed n x rest within) in
      let seen = get_seen es m k n (Some x) e o at stands in
      let own = entry-of_value k (Some x) (subst IsSome (sym (get_of es m e o k) ∙ seen) there) in
      let parts = removed_of es rest m n x e o within is in
      (parts.0, parts.1 ∙ ap (remove m) (ap (item_or k) own.1), own.0 ∙ sym seen)

  -- a name that is not there stays out
  pub absent : (es : List (Name × X)) (m : Names X) (k : Name) → from_sorted es ≡ m → IsOrdered es → is_some (find name_cmp k es) ≡ false
      → (None ≡ get m k) × (m ≡ remove m k)
  absent es m k e o none =
      let gone = get_of es m e o k ∙ none_of _ none in
      (sym gone, sym (remove_absent m k gone))
