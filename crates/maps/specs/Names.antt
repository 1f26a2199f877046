-- Words and laws on finite maps whose keys are names, which are lists of bytes, in the order of the bytes.
--     Name, Names V      a name;  a map from names to values
--     get-insert-same, get-insert-other, get-remove-same, get-remove-other, get-retain      what `get` answers after a change
--     same_names      two maps that answer alike are equal
--     insert-again, insert_self, put_back, remove_absent ..      changes that come to one, or to none
--     len-insert_new, len-removed, is_empty ..      how many entries a map has
--     map_induction      what holds of `empty`, and stays with each new name, holds of each map
--     total f m      the sum of what f weighs of each value; weight f o      what it weighs of one, and 0 at `None`
--     total-empty, total-insert, total-remove, total-zero, total_at_least, total_none, total_same ..      its laws
--     name_laws      the set of the laws on `get` and on equal maps, for `using(..)`
use Rattle.std.proofs.Common.{◌≡◌, ◌≢◌, ◌↔◌, ℕ, zero, suc, ◌+◌, ◌≤◌, ◌⊎◌, Bool, true, false, cond, T, inl, inr, List, [], ◌∷◌, map, length, sum_by, Option, Some, None, IsSome, is_some, Less, Equal, Greater, refl, sym, ap, subst, ◌∙◌, arith}
use Rattle.std.proofs.lemmas.List.Recursion.{is_sum_by}
use Rattle.std.proofs.lemmas.Cmp.{nat_list_cmp_total}
use Rattle.std.proofs.lemmas.Map.Lookups.{exact_bytes}
use Rattle.std.specs.declared.cmp.Ordering.{Ordering}
use Rattle.std.specs.Ordering.{nat_cmp, eq_by_cmp, is_eq, is_lt}
use Rattle.std.specs.Cmp.{tied_itself}
use Rattle.std.specs.Cmp.Lexicographic.{slice_cmp}
use Rattle.std.specs.FinMap.{FinMap, empty, get, insert, remove, retain_keys, len, entries, values, find, put, is_sorted, entries_sorted, same_map, get-entries, get-empty, get-insert, get-remove, get-retain_keys, len-entries, len-empty, len-insert, entries-insert, empty_of_len}
use Rattle.std.specs.FinMap.Entries.{by_order, below_all}
use Rattle.maps.specs.Halves.{not_true, first_part, second_part}
pub use Rattle.maps.specs.Maps.{weight}

-- ---- words

-- a name, as its bytes
abbrev pub Name : Type 0
Name = List ℕ

-- the order of names: by their first bytes that differ, and where there are none, the shorter first
abbrev pub name_cmp : Name → Name → Ordering
name_cmp = slice_cmp nat_cmp

-- a map from names to values
abbrev pub Names : Type 0 → Type 0
Names V = FinMap (slice_cmp nat_cmp) V

-- the sum of what f weighs of each value
unfoldable pub total : {X : Type 0} → (X → ℕ) → Names X → ℕ
total f m = sum_by f (values m)

-- ---- names as keys

-- in the order of names a name ties with itself, and with no other
pub tie_same : (k : Name) → eq_by_cmp name_cmp k k ≡ true
tie_same k = ap is_eq (tied_itself nat_list_cmp_total k)

pub tie_other : (q k : Name) → q ≢ k → eq_by_cmp name_cmp q k ≡ false
tie_other q k n =
    elim (name_cmp q k) as (λ r. name_cmp q k ≡ r → is_eq r ≡ false) [
      | Less ↦ λ _. refl
      | Equal ↦ λ e. absurd (n (exact_bytes q k e))
      | Greater ↦ λ _. refl
    ] refl

-- two names are equal or not
pub same_or_not : (q k : Name) → (q ≡ k) ⊎ (q ≢ k)
same_or_not q k =
    elim (name_cmp q k) as (λ r. name_cmp q k ≡ r → (q ≡ k) ⊎ (q ≢ k)) [
      | Less ↦ λ e. inr (λ same. not_true (sym (ap is_eq e) ∙ ap (eq_by_cmp name_cmp q) (sym same) ∙ tie_same q))
      | Equal ↦ λ e. inl (exact_bytes q k e)
      | Greater ↦ λ e. inr (λ same. not_true (sym (ap is_eq e) ∙ ap (eq_by_cmp name_cmp q) (sym same) ∙ tie_same q))
    ] refl

pub less_of : (r : Ordering) → T (is_lt r) → r ≡ Less
less_of Less h = refl
less_of Equal h = absurd h
less_of Greater h = absurd h

one_less : (a b n : ℕ) → a + 1 ≡ b → b ≡ suc n → a ≡ n
one_less a b n e f = omega arith

one_later : (a b c d n : ℕ) → a + b ≡ c + d → (n + a) + b ≡ (n + c) + d
one_later a b c d n e = omega arith

no_entries : {A : Type 0} (xs : List A) → length xs ≡ 0 → xs ≡ []
no_entries [] e = refl
no_entries (x ∷ xs) e = absurd (omega arith)

-- what f gives of each item, added up from the back
abbrev added : {X : Type 0} → (X → ℕ) → List X → ℕ
added f [] = 0
added f (x ∷ xs) = f x + added f xs

-- what f weighs of each entry's value, added up from the back
abbrev weigh : {X : Type 0} → (X → ℕ) → List (Name × X) → ℕ
weigh f es = added f (map (λ e. e.1) es)

module _ {X : Type 0} where
  -- ---- what `get` answers after a change

  pub get-insert-same : (m : Names X) (k : Name) (v : X) → get (insert m k v) k ≡ Some v
  get-insert-same m k v = get-insert nat_list_cmp_total m k v k ∙ ap (λ b. cond b (Some v) (get m k)) (tie_same k)

  pub get-insert-other : (m : Names X) (k : Name) (v : X) (q : Name) → q ≢ k → get (insert m k v) q ≡ get m q
  get-insert-other m k v q n = get-insert nat_list_cmp_total m k v q ∙ ap (λ b. cond b (Some v) (get m q)) (tie_other q k n)

  pub get-remove-same : (m : Names X) (k : Name) → get (remove m k) k ≡ None
  get-remove-same m k = get-remove nat_list_cmp_total m k k ∙ ap (λ b. cond b None (get m k)) (tie_same k)

  pub get-remove-other : (m : Names X) (k q : Name) → q ≢ k → get (remove m k) q ≡ get m q
  get-remove-other m k q n = get-remove nat_list_cmp_total m k q ∙ ap (λ b. cond b None (get m q)) (tie_other q k n)

  pub get-retain : (m : Names X) (p : Name → Bool) (q : Name) → get (retain_keys m p) q ≡ cond (p q) (get m q) None
  get-retain m p q = get-retain_keys m p q (λ x e. ap p (sym (exact_bytes q x e)))

  -- ---- equal maps

  pub same_names : (m n : Names X) → ((q : Name) → get m q ≡ get n q) → m ≡ n
  same_names m n e = same_map nat_list_cmp_total exact_bytes m n e

  -- the same at k and at each other key
  pub same_around : (m n : Names X) (k : Name) → get m k ≡ get n k → ((q : Name) → q ≢ k → get m q ≡ get n q) → m ≡ n
  same_around m n k here others =
      same_names m n (λ q. elim (same_or_not q k) [ inl h ↦ ap (get m) h ∙ here ∙ ap (get n) (sym h) | inr h ↦ others q h ])

  pub insert-again : (m : Names X) (k : Name) (v w : X) → insert (insert m k v) k w ≡ insert m k w
  insert-again m k v w =
      same_around _ _ k (get-insert-same _ k w ∙ sym (get-insert-same m k w))
      (λ q n. get-insert-other _ k w q n ∙ get-insert-other m k v q n ∙ sym (get-insert-other m k w q n))

  pub insert_self : (m : Names X) (k : Name) (v : X) → get m k ≡ Some v → insert m k v ≡ m
  insert_self m k v e = same_around _ m k (get-insert-same m k v ∙ sym e) (λ q n. get-insert-other m k v q n)

  -- in either order, at two keys
  pub insert-insert : (m : Names X) (k q : Name) (v w : X) → q ≢ k → insert (insert m k v) q w ≡ insert (insert m q w) k v
  insert-insert m k q v w n =
      same_names _ _ (λ x. elim (same_or_not x k) [
        | inl h ↦ subst (λ y. get (insert (insert m k v) q w) y ≡ get (insert (insert m q w) k v) y) (sym h)
            (get-insert-other _ q w k (λ e. n (sym e)) ∙ get-insert-same m k v ∙ sym (get-insert-same _ k v))
        | inr h ↦ elim (same_or_not x q) [
          | inl i ↦ subst (λ y. get (insert (insert m k v) q w) y ≡ get (insert (insert m q w) k v) y) (sym i)
              (get-insert-same _ q w ∙ sym (get-insert-other _ k v q n ∙ get-insert-same m q w))
          | inr i ↦ get-insert-other _ q w x i ∙ get-insert-other m k v x h ∙ sym (get-insert-other _ k v x h ∙ get-insert-other m q w x i)
        ]
      ])

  pub remove_absent : (m : Names X) (k : Name) → get m k ≡ None → remove m k ≡ m
  remove_absent m k e = same_around _ m k (get-remove-same m k ∙ sym e) (λ q n. get-remove-other m k q n)

  pub remove-insert : (m : Names X) (k : Name) (v : X) → remove (insert m k v) k ≡ remove m k
  remove-insert m k v =
      same_around _ _ k (get-remove-same _ k ∙ sym (get-remove-same m k))
      (λ q n. get-remove-other _ k q n ∙ get-insert-other m k v q n ∙ sym (get-remove-other m k q n))

  -- a new key that goes again
  pub remove-inserted : (m : Names X) (k : Name) (v : X) → get m k ≡ None → remove (insert m k v) k ≡ m
  remove-inserted m k v e = remove-insert m k v ∙ remove_absent m k e

  pub remove-insert_other : (m : Names X) (k q : Name) (v : X) → q ≢ k → remove (insert m k v) q ≡ insert (remove m q) k v
  remove-insert_other m k q v n =
      same_names _ _ (λ x. elim (same_or_not x k) [
        | inl h ↦ subst (λ y. get (remove (insert m k v) q) y ≡ get (insert (remove m q) k v) y) (sym h)
            (get-remove-other _ q k (λ e. n (sym e)) ∙ get-insert-same m k v ∙ sym (get-insert-same _ k v))
        | inr h ↦ elim (same_or_not x q) [
          | inl i ↦ subst (λ y. get (remove (insert m k v) q) y ≡ get (insert (remove m q) k v) y) (sym i)
              (get-remove-same _ q ∙ sym (get-insert-other _ k v q n ∙ get-remove-same m q))
          | inr i ↦ get-remove-other _ q x i ∙ get-insert-other m k v x h ∙ sym (get-insert-other _ k v x h ∙ get-remove-other m q x i)
        ]
      ])

  pub insert-remove : (m : Names X) (k : Name) (v : X) → insert (remove m k) k v ≡ insert m k v
  insert-remove m k v =
      same_around _ _ k (get-insert-same _ k v ∙ sym (get-insert-same m k v))
      (λ q n. get-insert-other _ k v q n ∙ get-remove-other m k q n ∙ sym (get-insert-other m k v q n))

  -- an entry that is taken out and put back
  pub put_back : (m : Names X) (k : Name) (v : X) → get m k ≡ Some v → insert (remove m k) k v ≡ m
  put_back m k v e = insert-remove m k v ∙ insert_self m k v e

  -- ---- how many entries

  pub len-insert_new : (m : Names X) (k : Name) (v : X) → get m k ≡ None → len (insert m k v) ≡ len m + 1
  len-insert_new m k v e = len-insert nat_list_cmp_total m k v ∙ ap (λ (o : Option X). cond (is_some o) (len m) (len m + 1)) e

  pub len-insert_again : (m : Names X) (k : Name) (v : X) → IsSome (get m k) → len (insert m k v) ≡ len m
  len-insert_again m k v h =
      len-insert nat_list_cmp_total m k v
      ∙ ap (λ b. cond b (len m) (len m + 1)) h

  pub len-removed : (m : Names X) (k : Name) (v : X) → get m k ≡ Some v → len (remove m k) + 1 ≡ len m
  len-removed m k v e = sym (len-insert_new (remove m k) k v (get-remove-same m k)) ∙ ap (λ (n : Names X). len n) (put_back m k v e)

  -- a map has no entries exactly where their number is 0
  pub is_empty : (m : Names X) → (len m ≡ 0) ↔ (m ≡ empty)
  is_empty m = (empty_of_len m, λ e. ap (λ (n : Names X). len n) e ∙ len-empty name_cmp X)

  -- ---- induction

  -- some entry of a map that has one
  first_of : (m : Names X) (es : List (Name × X)) (n : ℕ) → entries m ≡ es → len m ≡ suc n → (k : Name) × (v : X) × (get m k ≡ Some v)
  first_of m [] n e l = let none : len m ≡ 0 = len-entries m ∙ ap length e in absurd (omega arith)
  first_of m (x ∷ xs) n e l =
      (x.0, x.1, get-entries m x.0 ∙ ap (find name_cmp x.0) e ∙ ap (λ b. cond b (Some x.1) (find name_cmp x.0 xs)) (tie_same x.0))

  induct_on_len : (P : Names X → Type 0) → P empty
      → ((m : Names X) (k : Name) (v : X) → get m k ≡ None → P m → P (insert m k v))
      → (n : ℕ) (m : Names X) → len m ≡ n → P m
  induct_on_len P base step zero m e = subst P (sym (empty_of_len m e)) base
  induct_on_len P base step (suc n) m e =
      let one = first_of m (entries m) n refl e in
      subst P (put_back m one.0 one.1 one.2)
      (step (remove m one.0) one.0 one.1 (get-remove-same m one.0)
      (induct_on_len P base step n (remove m one.0) (one_less _ _ n (len-removed m one.0 one.1 one.2) e)))

  -- what holds of the empty map, and stays as a new key comes, holds of each map
  pub map_induction : (P : Names X → Type 0) → P empty
      → ((m : Names X) (k : Name) (v : X) → get m k ≡ None → P m → P (insert m k v))
      → (m : Names X) → P m
  map_induction P base step m = induct_on_len P base step (len m) m refl

  -- ---- entries in the order of their keys

  -- a name below the first of entries in order is not found in them
  none_below : (k y : Name) (es : List (Name × X)) → name_cmp k y ≡ Less → T (below_all name_cmp y es) → find name_cmp k es ≡ None
  none_below k y [] less b = refl
  none_below k y (e ∷ es) less b =
      ap (λ r. cond (is_eq r) (Some e.1) (find name_cmp k es)) (nat_list_cmp_total.trans k y e.0 less (less_of _ (first_part _ _ b)))
      ∙ none_below k y es less (second_part _ _ b)

  -- ---- the sum of weights

  total-weigh : (f : X → ℕ) (m : Names X) → total f m ≡ weigh f (entries m)
  unfolding total
  total-weigh f m = sym (is_sum_by (added f) f refl (λ _ _. refl) (values m))

  weigh-put : (f : X → ℕ) (k : Name) (v : X) (es : List (Name × X)) → T (is_sorted name_cmp es)
      → weigh f (put name_cmp k v es) + weight f (find name_cmp k es) ≡ weigh f es + f v
  weigh-put f k v [] s = omega arith
  weigh-put f k v (e ∷ es) s =
      elim (name_cmp k e.0) as (λ r. name_cmp k e.0 ≡ r
      → weigh f (by_order r ((k, v) ∷ e ∷ es) ((e.0, v) ∷ es) (e ∷ put name_cmp k v es)) + weight f (cond (is_eq r) (Some e.1) (find name_cmp k es))
      ≡ (f e.1 + weigh f es) + f v) [
        | Less ↦ λ r. let none = ap (weight f) (none_below k e.0 es r (first_part _ _ s)) in omega arith
        | Equal ↦ λ r. omega arith
        | Greater ↦ λ r. one_later _ _ _ _ (f e.1) (weigh-put f k v es (second_part _ _ s))
      ] refl

  pub total-empty : (f : X → ℕ) → total f empty ≡ 0
  total-empty f = total-weigh f empty ∙ ap (weigh f) (no_entries _ (sym (len-entries (empty {X = X} {R = name_cmp})) ∙ len-empty name_cmp X))

  pub total-insert : (f : X → ℕ) (m : Names X) (k : Name) (v : X) → total f (insert m k v) + weight f (get m k) ≡ total f m + f v
  total-insert f m k v =
      let new = total-weigh f (insert m k v) ∙ ap (weigh f) (entries-insert nat_list_cmp_total m k v) in
      let old = total-weigh f m in
      let there = ap (weight f) (get-entries m k) in
      let sums = weigh-put f k v (entries m) (entries_sorted m) in
      omega arith

  pub total-insert_new : (f : X → ℕ) (m : Names X) (k : Name) (v : X) → get m k ≡ None → total f (insert m k v) ≡ total f m + f v
  total-insert_new f m k v e = let none = ap (weight f) e in let sums = total-insert f m k v in omega arith

  pub total-remove : (f : X → ℕ) (m : Names X) (k : Name) → total f (remove m k) + weight f (get m k) ≡ total f m
  total-remove f m k =
      elim (get m k) as (λ o. get m k ≡ o → total f (remove m k) + weight f o ≡ total f m) [
        | None ↦ λ e. ap (λ n. total f n + 0) (remove_absent m k e) ∙ omega arith
        | Some x ↦ λ e. sym (total-insert_new f (remove m k) k x (get-remove-same m k)) ∙ ap (total f) (put_back m k x e)
      ] refl

  -- no weight is above the total
  pub total_at_least : (f : X → ℕ) (m : Names X) (k : Name) (x : X) → get m k ≡ Some x → f x ≤ total f m
  total_at_least f m k x e = let there = ap (weight f) e in let sums = total-remove f m k in omega arith

  pub total-zero : (f : X → ℕ) (m : Names X) (k : Name) (x : X) → total f m ≡ 0 → get m k ≡ Some x → f x ≡ 0
  total-zero f m k x none e = let most = total_at_least f m k x e in omega arith

  -- where each weighs 0
  pub total_none : (f : X → ℕ) (m : Names X) → ((q : Name) → weight f (get m q) ≡ 0) → total f m ≡ 0
  total_none f m =
      map_induction (λ n. ((q : Name) → weight f (get n q) ≡ 0) → total f n ≡ 0) (λ _. total-empty f)
      (λ n k v new rest none.
      let here : f v ≡ 0 = ap (weight f) (sym (get-insert-same n k v)) ∙ none k in
      let others : total f n ≡ 0 = rest (λ q. elim (same_or_not q k) [
        | inl same ↦ ap (λ j. weight f (get n j)) same ∙ ap (weight f) new
        | inr other ↦ ap (weight f) (sym (get-insert-other n k v q other)) ∙ none q
      ]) in
      let sums = total-insert_new f n k v new in
      omega arith)
      m

-- ---- two maps

module _ {X Y : Type 0} where
  -- the same weight at each key
  pub total_same : (f : X → ℕ) (g : Y → ℕ) (m : Names X) (n : Names Y) → ((q : Name) → weight f (get m q) ≡ weight g (get n q)) → total f m ≡ total g n
  total_same f g m =
      map_induction (λ a. (n : Names Y) → ((q : Name) → weight f (get a q) ≡ weight g (get n q)) → total f a ≡ total g n)
      (λ n same. total-empty f ∙ sym (total_none g n (λ q. sym (same q) ∙ ap (weight f) (get-empty name_cmp q))))
      (λ a k v new rest n same.
      let others = rest (remove n k) (λ q. elim (same_or_not q k) [
        | inl is ↦ ap (λ j. weight f (get a j)) is ∙ ap (weight f) new ∙ sym (ap (λ j. weight g (get (remove n k) j)) is ∙ ap (weight g) (get-remove-same n k))
        | inr other ↦ ap (weight f) (sym (get-insert-other a k v q other)) ∙ same q ∙ ap (weight g) (sym (get-remove-other n k q other))
      ]) in
      let here : f v ≡ weight g (get n k) = ap (weight f) (sym (get-insert-same a k v)) ∙ same k in
      let left = total-insert_new f a k v new in
      let right = total-remove g n k in
      omega arith)
      m

-- what `get` answers after a change, and what comes to nothing
pub ruleset name_laws = (get-insert-same, get-insert-other, get-remove-same, get-remove-other, insert-again, insert_self, remove_absent)
