-- How the entries of a `BTreeMap` stand for a finite map from numbers.
use Rattle.std.proofs.Common.{◌≡◌, ◌≢◌, ◌↔◌, ℕ, Bool, Less, Equal, Greater, false, true, T, is_some, IsSome, IsNone, IsTrue, ◌==◌, ◌&&◌, nat_le, nat_lt, inl, inr, subst, ◌<◌, ◌≤◌, ◌+◌, cond, List, [], ◌∷◌, length, Option, Some, None, sym, ap, ◌∙◌, refl, arith}
use Rattle.std.proofs.lemmas.Bool.{le-leb, lt-leb, lt-ltb, le-ltb}
use Rattle.std.proofs.lemmas.Bool.Decides.{eqb_tells}
use Rattle.std.specs.Ordering.{nat_cmp, eq_by_cmp, is_eq, is_gt, is_le, is_lt}
use Rattle.std.specs.Cmp.{nat_cmp_total, eq_by_cmp_equiv, ranked}
use Rattle.std.specs.Map.{lookup, keys_of}
use Rattle.std.specs.List.{AllByRecursion, filter}
use Rattle.std.proofs.lemmas.Map.Entries.{lookup-filter-keys}
use Rattle.std.specs.List.Sorted.{IsStrictlySortedBy}
use Rattle.std.specs.BTreeMap.{is_at}
use Rattle.std.specs.BTreeMap.Range.{entries_between, range_contains}
use Rattle.std.specs.declared.ops.Bound.{Bound}
use Rattle.std.specs.declared.ops.Bound.TheVariants.{Included, Excluded, Unbounded}
use Rattle.std.specs.FinMap.Entries.{by_order}
use Rattle.std.specs.FinMap.{FinMap, from_entries, find, put, get, insert, remove, retain_keys, empty, entries, len, len-entries, len-empty, get-empty, empty_of_len, entries-insert, get-from_entries, get-insert, get-remove, same_map, nat_cmp-IsAntisymmetric}
use Rattle.maps.specs.Maps.{get-insert-same, get-retain, same_numbers, len-removed, least_key, first_key}

has_none : {A : Type 0} (x : A) → Some x ≢ None
has_none x e = subst T (ap is_some e) tt

not_true : false ≢ true
not_true e = subst T (sym e) tt

not_above : (k q : ℕ) → is_gt (nat_cmp k q) ≡ false → k ≤ q
not_above k q =
    elim (nat_cmp k q) as (λ r. r ≡ nat_cmp k q → is_gt r ≡ false → k ≤ q) [
      | Less ↦ λ e _. let below : k < q = ranked k q Less e in omega arith
      | Equal ↦ λ e _. let same : k ≡ q = ranked k q Equal e in omega arith
      | Greater ↦ λ e h. absurd (subst T h tt)
    ] refl

no_items : {A : Type 0} (xs : List A) → length xs ≡ 0 → xs ≡ []
no_items [] e = refl
no_items (x ∷ xs) e = absurd (omega arith)

-- an entry whose key ties is at that number
key_at : (q k : ℕ) → is_at (nat_cmp q) k ≡ true → k ≡ q
key_at q k =
    elim (nat_cmp q k) as (λ r. nat_cmp q k ≡ r → is_eq r ≡ true → k ≡ q) [
      | Less ↦ λ _ h. absurd (not_true h)
      | Equal ↦ λ e _. sym (nat_cmp-IsAntisymmetric q k e)
      | Greater ↦ λ _ h. absurd (not_true h)
    ] refl

module _ {X : Type 0} where
  -- what the map's own `get` finds, in the words of `BTreeMap`
  pub lookup-find : (es : List (ℕ × X)) (q : ℕ) → lookup (is_at (nat_cmp q)) es ≡ find nat_cmp q es
  lookup-find es q = refl

  pub get_of : (es : List (ℕ × X)) (m : FinMap nat_cmp X) → from_entries es ≡ m → (q : ℕ) → lookup (is_at (nat_cmp q)) es ≡ get m q
  get_of es m e q = lookup-find es q ∙ sym (get-from_entries nat_cmp_total es q) ∙ ap (λ (n : FinMap nat_cmp X). get n q) e

  -- whether two numbers tie does not depend on their order
  turned : (k q : ℕ) (o p : Option X) → cond (is_at (nat_cmp k) q) o p ≡ cond (eq_by_cmp nat_cmp q k) o p
  turned k q o p = ap (λ b. cond b o p) ((eq_by_cmp_equiv nat_cmp_total).symm k q)

  pub inserted_of : (es fs : List (ℕ × X)) (m : FinMap nat_cmp X) (k : ℕ) (v : X) → from_entries es ≡ m
      → ((q : ℕ) → lookup (is_at (nat_cmp q)) fs ≡ cond (is_at (nat_cmp k) q) (Some v) (lookup (is_at (nat_cmp q)) es))
      → from_entries fs ≡ insert m k v
  inserted_of es fs m k v e is = same_map nat_cmp_total nat_cmp-IsAntisymmetric _ _ (λ q.
      sym (get_of fs _ refl q) ∙ is q ∙ turned k q _ _ ∙ ap (cond (eq_by_cmp nat_cmp q k) (Some v)) (get_of es m e q) ∙ sym (get-insert nat_cmp_total m k v q))

  pub removed_of : (es fs : List (ℕ × X)) (m : FinMap nat_cmp X) (k : ℕ) → from_entries es ≡ m
      → ((q : ℕ) → lookup (is_at (nat_cmp q)) fs ≡ cond (is_at (nat_cmp k) q) None (lookup (is_at (nat_cmp q)) es))
      → from_entries fs ≡ remove m k
  removed_of es fs m k e is = same_map nat_cmp_total nat_cmp-IsAntisymmetric _ _ (λ q.
      sym (get_of fs _ refl q) ∙ is q ∙ turned k q _ _ ∙ ap (cond (eq_by_cmp nat_cmp q k) None) (get_of es m e q) ∙ sym (get-remove nat_cmp_total m k q))

  -- the entries whose keys pass are those that the map retains
  pub retained_of : (p : ℕ → Bool) (es fs : List (ℕ × X)) (m : FinMap nat_cmp X) → from_entries es ≡ m
      → fs ≡ filter (λ e. p e.0) es → from_entries fs ≡ retain_keys m p
  retained_of p es fs m e is = same_numbers _ _ (λ q.
      sym (get_of fs _ refl q) ∙ ap (lookup (is_at (nat_cmp q))) is
      ∙ lookup-filter-keys (is_at (nat_cmp q)) p (p q) (λ k at. ap p (key_at q k at)) es
      ∙ ap (λ o. cond (p q) o None) (get_of es m e q) ∙ sym (get-retain m p q))

  -- an entry whose key is below all others goes to the front
  put_first : (e : ℕ × X) (es : List (ℕ × X)) → AllByRecursion (λ k. nat_cmp e.0 k ≡ Less) (keys_of es) → put nat_cmp e.0 e.1 es ≡ e ∷ es
  put_first e [] h = refl
  put_first e (f ∷ fs) h = ap (λ o. by_order o (e ∷ f ∷ fs) ((f.0, e.1) ∷ fs) (f ∷ put nat_cmp e.0 e.1 fs)) h.0

  -- entries that stand in the order of their keys are those of their map
  pub entries-from_entries : (es : List (ℕ × X)) → IsStrictlySortedBy nat_cmp (keys_of es) → entries (from_entries {R = nat_cmp} es) ≡ es
  unfolding IsStrictlySortedBy
  entries-from_entries [] o = no_items _ (sym (len-entries (empty {X = X} {R = nat_cmp})) ∙ len-empty nat_cmp X)
  entries-from_entries (e ∷ es) o =
      entries-insert nat_cmp_total (from_entries es) e.0 e.1 ∙ ap (put nat_cmp e.0 e.1) (entries-from_entries es o.1) ∙ put_first e es o.0

  pub len_of : (es : List (ℕ × X)) (m : FinMap nat_cmp X) → from_entries es ≡ m → IsStrictlySortedBy nat_cmp (keys_of es) → length es ≡ len m
  len_of es m e o = ap length (sym (entries-from_entries es o)) ∙ sym (len-entries (from_entries es)) ∙ ap (λ (n : FinMap nat_cmp X). len n) e

  -- the number of entries after one leaves
  pub popped_len : (es fs : List (ℕ × X)) (m : FinMap nat_cmp X) (k : ℕ) (v : X) → from_entries es ≡ m
      → lookup (is_at (nat_cmp k)) es ≡ Some v
      → ((q : ℕ) → lookup (is_at (nat_cmp q)) fs ≡ cond (is_at (nat_cmp k) q) None (lookup (is_at (nat_cmp q)) es))
      → len (from_entries {R = nat_cmp} fs) + 1 ≡ len m
  popped_len es fs m k v e found is =
      ap (λ (n : FinMap nat_cmp X). len n + 1) (removed_of es fs m k e is) ∙ len-removed m k v (sym (get_of es m e k) ∙ found)

  -- no key is below k
  pub least_of : (es : List (ℕ × X)) (m : FinMap nat_cmp X) (k : ℕ) → from_entries es ≡ m
      → ((q : ℕ) → IsSome (lookup (is_at (nat_cmp q)) es) → is_gt (nat_cmp k q) ≡ false)
      → (q : ℕ) → IsSome (get m q) → k ≤ q
  least_of es m k e lower q h = not_above k q (lower q (subst IsSome (sym (get_of es m e q)) h))

  -- a map has an entry exactly where its list has one
  pub empty_iff : {A : Type 0} (r : Option A) (es : List (ℕ × X)) (m : FinMap nat_cmp X) → from_entries es ≡ m
      → (IsSome r ↔ (0 < length es)) → IsNone r ↔ (m ≡ empty)
  empty_iff None [] m e variant = (λ _. sym e, λ _. refl)
  empty_iff None (x ∷ xs) m e variant = absurd (not_true (variant.1 (omega arith)))
  empty_iff (Some a) [] m e variant = let some : 0 < 0 = variant.0 refl in absurd (omega arith)
  empty_iff (Some a) (x ∷ xs) m e variant =
      (λ none. absurd (not_true (sym none)), λ is. absurd (has_none x.1 (sym (get-insert-same (from_entries xs) x.0 x.1) ∙ ap (λ (n : FinMap nat_cmp X). get n x.0) (e ∙ is) ∙ get-empty nat_cmp x.0)))

  -- the least key of a map is the first that passes of its entries
  pub least_of_entries : (test : ℕ → X → Bool) (es : List (ℕ × X)) (m : FinMap nat_cmp X) → from_entries es ≡ m → IsStrictlySortedBy nat_cmp (keys_of es)
      → least_key test m ≡ first_key test es
  unfolding least_key
  least_of_entries test es m e o = ap (λ (n : FinMap nat_cmp X). first_key test (entries n)) (sym e) ∙ ap (first_key test) (entries-from_entries es o)

  -- a map has no entries exactly where their number is 0
  pub zero_len_iff : (m : FinMap nat_cmp X) (n : ℕ) → n ≡ len m → IsTrue (n == 0) ↔ (m ≡ empty)
  zero_len_iff m n e =
      elim (eqb_tells n 0) [
        | inl same ↦ (λ _. empty_of_len m (sym e ∙ same.1), λ _. same.0)
        | inr other ↦ (λ is. absurd (not_true (sym other.0 ∙ is)), λ is. absurd (other.1 (e ∙ ap (λ (x : FinMap nat_cmp X). len x) is ∙ len-empty nat_cmp X)))
      ]

-- the key of the first entry
abbrev pub key_of_first : {X : Type 0} → List (ℕ × X) → Option ℕ
key_of_first [] = None
key_of_first (e ∷ es) = Some e.0

at_least : (k q : ℕ) → (is_le (nat_cmp k q) && true) ≡ nat_le k q
at_least k q =
    elim (nat_cmp k q) as (λ r. r ≡ nat_cmp k q → (is_le r && true) ≡ nat_le k q) [
      | Less ↦ λ e. let below : k < q = ranked k q Less e in sym (le-leb k q (omega arith))
      | Equal ↦ λ e. let same : k ≡ q = ranked k q Equal e in sym (le-leb k q (omega arith))
      | Greater ↦ λ e. let above : q < k = ranked k q Greater e in sym (lt-leb k q above)
    ] refl

above : (k q : ℕ) → (is_lt (nat_cmp k q) && true) ≡ nat_lt k q
above k q =
    elim (nat_cmp k q) as (λ r. r ≡ nat_cmp k q → (is_lt r && true) ≡ nat_lt k q) [
      | Less ↦ λ e. let below : k < q = ranked k q Less e in sym (lt-ltb k q below)
      | Equal ↦ λ e. let same : k ≡ q = ranked k q Equal e in sym (le-ltb k q (omega arith))
      | Greater ↦ λ e. let above : q < k = ranked k q Greater e in sym (le-ltb k q (omega arith))
    ] refl

module _ {X : Type 0} where
  -- the first key that passes a test that is the lower bound's
  first_between : (lo : Bound ℕ) (test : ℕ → Bool) → ((q : ℕ) → range_contains nat_cmp lo Unbounded q ≡ test q) → (es : List (ℕ × X))
      → first_key (λ q _. test q) es ≡ key_of_first (entries_between nat_cmp lo Unbounded es)
  first_between lo test same [] = refl
  first_between lo test same (e ∷ es) =
      let rest = entries_between nat_cmp lo Unbounded es in
      elim (test e.0) as (λ b. test e.0 ≡ b → cond b (Some e.0) (first_key (λ q _. test q) es) ≡ key_of_first (entries_between nat_cmp lo Unbounded (e ∷ es))) [
        | true ↦ λ is. sym (ap (λ b. key_of_first (cond b (e ∷ rest) rest)) (same e.0 ∙ is))
        | false ↦ λ is. first_between lo test same es ∙ sym (ap (λ b. key_of_first (cond b (e ∷ rest) rest)) (same e.0 ∙ is))
      ] refl

  -- the least key that is at least k, or above it, is that of the first entry from there on
  pub least_from : (k : ℕ) (es fs : List (ℕ × X)) (m : FinMap nat_cmp X) → from_entries es ≡ m → IsStrictlySortedBy nat_cmp (keys_of es)
      → fs ≡ entries_between nat_cmp (Included k) Unbounded es → least_key (λ q _. nat_le k q) m ≡ key_of_first fs
  least_from k es fs m e o is =
      least_of_entries (λ q _. nat_le k q) es m e o ∙ first_between (Included k) (nat_le k) (at_least k) es ∙ ap key_of_first (sym is)

  pub least_after : (k : ℕ) (es fs : List (ℕ × X)) (m : FinMap nat_cmp X) → from_entries es ≡ m → IsStrictlySortedBy nat_cmp (keys_of es)
      → fs ≡ entries_between nat_cmp (Excluded k) Unbounded es → least_key (λ q _. nat_lt k q) m ≡ key_of_first fs
  least_after k es fs m e o is =
      least_of_entries (λ q _. nat_lt k q) es m e o ∙ first_between (Excluded k) (nat_lt k) (above k) es ∙ ap key_of_first (sym is)
