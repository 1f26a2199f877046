-- What the size of a map says of its keys, and they of it.
--     KeysBelow n m, TakesBelow n m      each key is below n; each number below n is a key
--     below-empty, below-insert, below-insert_again, below-remove      keys stay below n
--     len_at_most      where each key is below n, there are at most n
--     len_at_least      where each number below n is a key, there are at least n
--     len_less      where each key is below n, and a number below n is none, there are fewer than n
--     taken_if_full      where each key is below n, and there are n, each number below n is a key
--     full_if_taken      where each key is below n, and each number below n is a key, there are n
use Rattle.std.proofs.Common.{◌≡◌, ◌≢◌, ℕ, zero, suc, ◌+◌, ◌<◌, ◌≤◌, true, false, T, inl, inr, Option, Some, None, IsSome, is_some, refl, sym, ap, subst, ◌∙◌, arith}
use Rattle.std.proofs.lemmas.Bool.Decides.{eqb_tells}
use Rattle.std.specs.Ordering.{nat_cmp}
use Rattle.std.specs.FinMap.{FinMap, empty, get, insert, remove, len, get-empty, len-empty}
use Rattle.maps.specs.Maps.{get-insert-other, get-remove-same, get-remove-other, same_numbers, len-removed, remove_absent}

-- each key is below n
abbrev pub KeysBelow : {X : Type 0} → ℕ → FinMap nat_cmp X → Type 0
KeysBelow n m = (k : ℕ) → IsSome (get m k) → k < n

-- each number below n is a key
abbrev pub TakesBelow : {X : Type 0} → ℕ → FinMap nat_cmp X → Type 0
TakesBelow n m = (k : ℕ) → k < n → IsSome (get m k)

not_true : false ≢ true
not_true e = subst T (sym e) tt

pub none_there : {A : Type 0} (o : Option A) → o ≡ None → IsSome o → ⊥
none_there o e h = not_true (sym (ap is_some e) ∙ h)

none_unless : {A : Type 0} (o : Option A) → (IsSome o → ⊥) → o ≡ None
none_unless None h = refl
none_unless (Some x) h = absurd (h refl)

some_unless : {A : Type 0} (o : Option A) → (o ≡ None → ⊥) → IsSome o
some_unless None h = absurd (h refl)
some_unless (Some x) h = refl

pub below-empty : (X : Type 0) (n : ℕ) → KeysBelow {X = X} n empty
below-empty X n k there = absurd (none_there (get empty k) (get-empty nat_cmp k) there)

module _ {X : Type 0} where
  pub below-insert : (n : ℕ) (m : FinMap nat_cmp X) (k : ℕ) (v : X) → KeysBelow n m → k < n → KeysBelow n (insert m k v)
  below-insert n m k v below less q there =
      elim (eqb_tells q k) [
        | inl same ↦ subst (λ x. x < n) (sym same.1) less
        | inr other ↦ below q (subst IsSome (get-insert-other m k v q other.1) there)
      ]

  -- at a key that is there
  pub below-insert_again : (n : ℕ) (m : FinMap nat_cmp X) (k : ℕ) (v : X) → KeysBelow n m → IsSome (get m k) → KeysBelow n (insert m k v)
  below-insert_again n m k v below there = below-insert n m k v below (below k there)

  pub below-remove : (n : ℕ) (m : FinMap nat_cmp X) (k : ℕ) → KeysBelow n m → KeysBelow n (remove m k)
  below-remove n m k below q there =
      elim (eqb_tells q k) [
        | inl same ↦ absurd (none_there (get (remove m k) q) (ap (get (remove m k)) same.1 ∙ get-remove-same m k) there)
        | inr other ↦ below q (subst IsSome (get-remove-other m k q other.1) there)
      ]

  -- with one key out, there is at most one fewer
  len-without : (m : FinMap nat_cmp X) (k : ℕ) → len m ≤ len (remove m k) + 1
  len-without m k =
      elim (get m k) as (λ o. get m k ≡ o → len m ≤ len (remove m k) + 1) [
        | None ↦ λ e. let same : len (remove m k) ≡ len m = ap (λ (a : FinMap nat_cmp X). len a) (remove_absent m k e) in omega arith
        | Some v ↦ λ e. let less = len-removed m k v e in omega arith
      ] refl

  -- with one key out, and that it was in, there is one fewer
  len-without_key : (m : FinMap nat_cmp X) (k : ℕ) → IsSome (get m k) → len (remove m k) + 1 ≡ len m
  len-without_key m k there =
      elim (get m k) as (λ o. get m k ≡ o → len (remove m k) + 1 ≡ len m) [
        | None ↦ λ e. absurd (none_there (get m k) e there)
        | Some v ↦ λ e. len-removed m k v e
      ] refl

  -- with n out, keys below n + 1 are below n
  below_without : (n : ℕ) (m : FinMap nat_cmp X) → KeysBelow (suc n) m → KeysBelow n (remove m n)
  below_without n m below k there =
      elim (eqb_tells k n) [
        | inl same ↦ absurd (none_there (get (remove m n) k) (ap (get (remove m n)) same.1 ∙ get-remove-same m n) there)
        | inr other ↦ let less = below k (subst IsSome (get-remove-other m n k other.1) there) in let apart = other.1 in omega arith
      ]

  -- with n out, the numbers below n are keys as before
  taken_without : (n : ℕ) (m : FinMap nat_cmp X) → TakesBelow (suc n) m → TakesBelow n (remove m n)
  taken_without n m taken k less =
      let apart : k ≢ n = λ e. let same = e in omega arith in
      subst IsSome (sym (get-remove-other m n k apart)) (taken k (omega arith))

  -- no key is below 0
  none_below : (m : FinMap nat_cmp X) → KeysBelow 0 m → len m ≡ 0
  none_below m below =
      ap (λ (a : FinMap nat_cmp X). len a) (same_numbers m empty (λ k.
      none_unless (get m k) (λ there. let less = below k there in omega arith) ∙ sym (get-empty nat_cmp k)))
      ∙ len-empty nat_cmp X

  -- keys below n are at most n
  pub len_at_most : (n : ℕ) (m : FinMap nat_cmp X) → KeysBelow n m → len m ≤ n
  len_at_most zero m below = let none = none_below m below in omega arith
  len_at_most (suc n) m below =
      let others : len (remove m n) ≤ n = len_at_most n (remove m n) (below_without n m below) in
      let one = len-without m n in
      omega arith

  -- where each number below n is a key, there are at least n
  pub len_at_least : (n : ℕ) (m : FinMap nat_cmp X) → TakesBelow n m → n ≤ len m
  len_at_least zero m taken = omega arith
  len_at_least (suc n) m taken =
      let others : n ≤ len (remove m n) = len_at_least n (remove m n) (taken_without n m taken) in
      let one = len-without_key m n (taken n (omega arith)) in
      omega arith

  -- keys below n are fewer than n where a number below n is none
  pub len_less : (n : ℕ) (m : FinMap nat_cmp X) (k : ℕ) → KeysBelow n m → k < n → get m k ≡ None → len m < n
  len_less zero m k below less free = absurd (omega arith)
  len_less (suc n) m k below less free =
      elim (eqb_tells k n) [
        | inl same ↦
            let gone : remove m n ≡ m = remove_absent m n (ap (get m) (sym same.1) ∙ free) in
            let most = len_at_most n m (subst (KeysBelow n) gone (below_without n m below)) in
            omega arith
        | inr other ↦
            let apart = other.1 in
            let fewer : len (remove m n) < n = len_less n (remove m n) k (below_without n m below) (omega arith) (get-remove-other m n k other.1 ∙ free) in
            let one = len-without m n in
            omega arith
      ]

  -- n keys below n are all numbers below n
  pub taken_if_full : (n : ℕ) (m : FinMap nat_cmp X) → KeysBelow n m → len m ≡ n → TakesBelow n m
  taken_if_full n m below full k less = some_unless (get m k) (λ free. let fewer = len_less n m k below less free in omega arith)

  -- all numbers below n, as keys below n, are n
  pub full_if_taken : (n : ℕ) (m : FinMap nat_cmp X) → KeysBelow n m → TakesBelow n m → len m ≡ n
  full_if_taken n m below taken = let most = len_at_most n m below in let least = len_at_least n m taken in omega arith
