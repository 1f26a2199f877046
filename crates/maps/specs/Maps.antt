-- Words and laws on finite maps whose keys are numbers.
--     get-insert-same, get-insert-other, get-remove-same, get-remove-other, get-retain      what `get` answers after a change
--     same_numbers      two maps that answer alike are equal
--     insert-again, insert_self, put_back, remove_absent ..      changes that come to one, or to none
--     map_induction      what holds of `empty`, and stays with each new key, holds of each map
--     total f m      the sum of what f weighs of each value; weight f o      what it weighs of one, and 0 at `None`
--     total-empty, total-insert, total-remove, total-zero, total_at_least, total_none, total_same      its laws
--     least_key test m      the least key whose entry passes; passes test q (get m q)      whether the entry at q does
--     least_key-found, least_key-least, least_key-none, least_key_is, least_same ..      its laws
--     number      the number, and 0 at `None`
--     number_laws      the set of the laws on `get` and on equal maps, for `using(..)`
use Rattle.std.proofs.Common.{◌≡◌, ◌≢◌, ℕ, zero, suc, ◌+◌, ◌<◌, ◌≤◌, Bool, true, false, cond, T, inl, inr, List, [], ◌∷◌, map, length, sum_by, Option, Some, None, IsSome, is_some, Less, Equal, Greater, refl, sym, ap, subst, ◌∙◌, arith}
use Rattle.std.proofs.lemmas.Bool.Decides.{eqb_tells}
use Rattle.std.proofs.lemmas.List.Recursion.{is_sum_by}
use Rattle.std.specs.Ordering.{nat_cmp, eq_by_cmp, is_eq, is_lt}
use Rattle.std.specs.Cmp.{nat_cmp_total, tied_itself, ranked}
use Rattle.std.specs.Option.{unwrap_or}
use Rattle.std.specs.FinMap.{FinMap, empty, get, insert, remove, retain_keys, len, entries, values, find, put, is_sorted, entries_sorted, same_map, nat_cmp-IsAntisymmetric, get-entries, get-empty, get-insert, get-remove, get-retain_keys, len-entries, len-empty, len-insert, entries-insert, empty_of_len}
use Rattle.std.specs.FinMap.Entries.{by_order, below_all}
use Rattle.maps.specs.Halves.{not_true, first_part, second_part}

-- ---- words

-- the number, and 0 at `None`
abbrev pub number : Option ℕ → ℕ
number None = 0
number (Some n) = n

-- what f weighs of a value, and 0 where there is none
abbrev pub weight : {X : Type 0} → (X → ℕ) → Option X → ℕ
weight f None = 0
weight f (Some x) = f x

-- whether there is a value that passes the test at the key q
abbrev pub passes : {X : Type 0} → (ℕ → X → Bool) → ℕ → Option X → Bool
passes test q None = false
passes test q (Some x) = test q x

-- the sum of what f weighs of each value
unfoldable pub total : {X : Type 0} → (X → ℕ) → FinMap nat_cmp X → ℕ
total f m = sum_by f (values m)

-- the first key whose entry passes the test
abbrev pub first_key : {X : Type 0} → (ℕ → X → Bool) → List (ℕ × X) → Option ℕ
first_key test [] = None
first_key test (e ∷ es) = cond (test e.0 e.1) (Some e.0) (first_key test es)

-- the least key whose entry passes the test: the first, since entries stand in the order of their keys
unfoldable pub least_key : {X : Type 0} → (ℕ → X → Bool) → FinMap nat_cmp X → Option ℕ
least_key test m = first_key test (entries m)

-- ---- keys that are numbers

tie_same : (k : ℕ) → eq_by_cmp nat_cmp k k ≡ true
tie_same k = ap is_eq (tied_itself nat_cmp_total k)

tie_other : (q k : ℕ) → q ≢ k → eq_by_cmp nat_cmp q k ≡ false
tie_other q k n =
    elim (nat_cmp q k) as (λ r. nat_cmp q k ≡ r → is_eq r ≡ false) [
      | Less ↦ λ _. refl
      | Equal ↦ λ e. absurd (n (nat_cmp-IsAntisymmetric q k e))
      | Greater ↦ λ _. refl
    ] refl

not_None : {A : Type 0} (x : A) → Some x ≢ None
not_None x e = subst T (ap is_some e) tt

same_Some : {A : Type 0} (x y : A) → Some x ≡ Some y → x ≡ y
same_Some x y e = ap (λ o. unwrap_or o x) e

none_unless : {A : Type 0} (o : Option A) → (IsSome o → ⊥) → o ≡ None
none_unless None h = refl
none_unless (Some x) h = absurd (h refl)

less_of : (a b : ℕ) → T (is_lt (nat_cmp a b)) → a < b
less_of a b =
    elim (nat_cmp a b) as (λ r. r ≡ nat_cmp a b → T (is_lt r) → a < b) [
      | Less ↦ λ e _. ranked a b Less e
      | Equal ↦ λ e h. absurd h
      | Greater ↦ λ e h. absurd h
    ] refl

one_less : (a b n : ℕ) → a + 1 ≡ b → b ≡ suc n → a ≡ n
one_less a b n e f = omega arith

no_entries : {A : Type 0} (xs : List A) → length xs ≡ 0 → xs ≡ []
no_entries [] e = refl
no_entries (x ∷ xs) e = absurd (omega arith)

some_of_passes : {X : Type 0} (test : ℕ → X → Bool) (q : ℕ) (o : Option X) → passes test q o ≡ true → IsSome o
some_of_passes test q None h = absurd (not_true h)
some_of_passes test q (Some x) h = refl

-- what f gives of each item, added up from the back
abbrev added : {X : Type 0} → (X → ℕ) → List X → ℕ
added f [] = 0
added f (x ∷ xs) = f x + added f xs

-- what f weighs of each entry's value, added up from the back
abbrev weigh : {X : Type 0} → (X → ℕ) → List (ℕ × X) → ℕ
weigh f es = added f (map (λ e. e.1) es)

module _ {X : Type 0} where
  -- ---- what `get` answers after a change

  pub get-insert-same : (m : FinMap nat_cmp X) (k : ℕ) (v : X) → get (insert m k v) k ≡ Some v
  get-insert-same m k v = get-insert nat_cmp_total m k v k ∙ ap (λ b. cond b (Some v) (get m k)) (tie_same k)

  pub get-insert-other : (m : FinMap nat_cmp X) (k : ℕ) (v : X) (q : ℕ) → q ≢ k → get (insert m k v) q ≡ get m q
  get-insert-other m k v q n = get-insert nat_cmp_total m k v q ∙ ap (λ b. cond b (Some v) (get m q)) (tie_other q k n)

  pub get-remove-same : (m : FinMap nat_cmp X) (k : ℕ) → get (remove m k) k ≡ None
  get-remove-same m k = get-remove nat_cmp_total m k k ∙ ap (λ b. cond b None (get m k)) (tie_same k)

  pub get-remove-other : (m : FinMap nat_cmp X) (k q : ℕ) → q ≢ k → get (remove m k) q ≡ get m q
  get-remove-other m k q n = get-remove nat_cmp_total m k q ∙ ap (λ b. cond b None (get m q)) (tie_other q k n)

  pub get-retain : (m : FinMap nat_cmp X) (p : ℕ → Bool) (q : ℕ) → get (retain_keys m p) q ≡ cond (p q) (get m q) None
  get-retain m p q = get-retain_keys m p q (λ x e. ap p (sym (nat_cmp-IsAntisymmetric q x e)))

  -- ---- equal maps

  pub same_numbers : (m n : FinMap nat_cmp X) → ((q : ℕ) → get m q ≡ get n q) → m ≡ n
  same_numbers m n e = same_map nat_cmp_total nat_cmp-IsAntisymmetric m n e

  -- the same at k and at each other key
  pub same_around : (m n : FinMap nat_cmp X) (k : ℕ) → get m k ≡ get n k → ((q : ℕ) → q ≢ k → get m q ≡ get n q) → m ≡ n
  same_around m n k here others =
      same_numbers m n (λ q. elim (eqb_tells q k) [ inl h ↦ ap (get m) h.1 ∙ here ∙ ap (get n) (sym h.1) | inr h ↦ others q h.1 ])

  pub insert-again : (m : FinMap nat_cmp X) (k : ℕ) (v w : X) → insert (insert m k v) k w ≡ insert m k w
  insert-again m k v w =
      same_around _ _ k (get-insert-same _ k w ∙ sym (get-insert-same m k w))
      (λ q n. get-insert-other _ k w q n ∙ get-insert-other m k v q n ∙ sym (get-insert-other m k w q n))

  pub insert_self : (m : FinMap nat_cmp X) (k : ℕ) (v : X) → get m k ≡ Some v → insert m k v ≡ m
  insert_self m k v e = same_around _ m k (get-insert-same m k v ∙ sym e) (λ q n. get-insert-other m k v q n)

  -- in either order, at two keys
  pub insert-insert : (m : FinMap nat_cmp X) (k q : ℕ) (v w : X) → q ≢ k → insert (insert m k v) q w ≡ insert (insert m q w) k v
  insert-insert m k q v w n =
      same_numbers _ _ (λ x. elim (eqb_tells x k) [
        | inl h ↦ subst (λ y. get (insert (insert m k v) q w) y ≡ get (insert (insert m q w) k v) y) (sym h.1)
            (get-insert-other _ q w k (λ e. n (sym e)) ∙ get-insert-same m k v ∙ sym (get-insert-same _ k v))
        | inr h ↦ elim (eqb_tells x q) [
          | inl i ↦ subst (λ y. get (insert (insert m k v) q w) y ≡ get (insert (insert m q w) k v) y) (sym i.1)
              (get-insert-same _ q w ∙ sym (get-insert-other _ k v q n ∙ get-insert-same m q w))
          | inr i ↦ get-insert-other _ q w x i.1 ∙ get-insert-other m k v x h.1 ∙ sym (get-insert-other _ k v x h.1 ∙ get-insert-other m q w x i.1)
        ]
      ])

  pub remove_absent : (m : FinMap nat_cmp X) (k : ℕ) → get m k ≡ None → remove m k ≡ m
  remove_absent m k e = same_around _ m k (get-remove-same m k ∙ sym e) (λ q n. get-remove-other m k q n)

  pub remove-insert : (m : FinMap nat_cmp X) (k : ℕ) (v : X) → remove (insert m k v) k ≡ remove m k
  remove-insert m k v =
      same_around _ _ k (get-remove-same _ k ∙ sym (get-remove-same m k))
      (λ q n. get-remove-other _ k q n ∙ get-insert-other m k v q n ∙ sym (get-remove-other m k q n))

  -- a new key that goes again
  pub remove-inserted : (m : FinMap nat_cmp X) (k : ℕ) (v : X) → get m k ≡ None → remove (insert m k v) k ≡ m
  remove-inserted m k v e = remove-insert m k v ∙ remove_absent m k e

  pub remove-insert_other : (m : FinMap nat_cmp X) (k q : ℕ) (v : X) → q ≢ k → remove (insert m k v) q ≡ insert (remove m q) k v
  remove-insert_other m k q v n =
      same_numbers _ _ (λ x. elim (eqb_tells x k) [
        | inl h ↦ subst (λ y. get (remove (insert m k v) q) y ≡ get (insert (remove m q) k v) y) (sym h.1)
            (get-remove-other _ q k (λ e. n (sym e)) ∙ get-insert-same m k v ∙ sym (get-insert-same _ k v))
        | inr h ↦ elim (eqb_tells x q) [
          | inl i ↦ subst (λ y. get (remove (insert m k v) q) y ≡ get (insert (remove m q) k v) y) (sym i.1)
              (get-remove-same _ q ∙ sym (get-insert-other _ k v q n ∙ get-remove-same m q))
          | inr i ↦ get-remove-other _ q x i.1 ∙ get-insert-other m k v x h.1 ∙ sym (get-insert-other _ k v x h.1 ∙ get-remove-other m q x i.1)
        ]
      ])

  pub insert-remove : (m : FinMap nat_cmp X) (k : ℕ) (v : X) → insert (remove m k) k v ≡ insert m k v
  insert-remove m k v =
      same_around _ _ k (get-insert-same _ k v ∙ sym (get-insert-same m k v))
      (λ q n. get-insert-other _ k v q n ∙ get-remove-other m k q n ∙ sym (get-insert-other m k v q n))

  -- an entry that is taken out and put back
  pub put_back : (m : FinMap nat_cmp X) (k : ℕ) (v : X) → get m k ≡ Some v → insert (remove m k) k v ≡ m
  put_back m k v e = insert-remove m k v ∙ insert_self m k v e

  -- ---- how many entries

  pub len-insert_new : (m : FinMap nat_cmp X) (k : ℕ) (v : X) → get m k ≡ None → len (insert m k v) ≡ len m + 1
  len-insert_new m k v e = len-insert nat_cmp_total m k v ∙ ap (λ (o : Option X). cond (is_some o) (len m) (len m + 1)) e

  pub len-insert_again : (m : FinMap nat_cmp X) (k : ℕ) (v : X) → IsSome (get m k) → len (insert m k v) ≡ len m
  len-insert_again m k v h =
      len-insert nat_cmp_total m k v
      ∙ ap (λ b. cond b (len m) (len m + 1)) h

  pub len-removed : (m : FinMap nat_cmp X) (k : ℕ) (v : X) → get m k ≡ Some v → len (remove m k) + 1 ≡ len m
  len-removed m k v e = sym (len-insert_new (remove m k) k v (get-remove-same m k)) ∙ ap (λ (n : FinMap nat_cmp X). len n) (put_back m k v e)

  -- ---- induction

  -- some entry of a map that has one
  first_of : (m : FinMap nat_cmp X) (es : List (ℕ × X)) (n : ℕ) → entries m ≡ es → len m ≡ suc n → (k : ℕ) × (v : X) × (get m k ≡ Some v)
  first_of m [] n e l = let none : len m ≡ 0 = len-entries m ∙ ap length e in absurd (omega arith)
  first_of m (x ∷ xs) n e l =
      (x.0, x.1, get-entries m x.0 ∙ ap (find nat_cmp x.0) e ∙ ap (λ b. cond b (Some x.1) (find nat_cmp x.0 xs)) (tie_same x.0))

  induct_on_len : (P : FinMap nat_cmp X → Type 0) → P empty
      → ((m : FinMap nat_cmp X) (k : ℕ) (v : X) → get m k ≡ None → P m → P (insert m k v))
      → (n : ℕ) (m : FinMap nat_cmp X) → len m ≡ n → P m
  induct_on_len P base step zero m e = subst P (sym (empty_of_len m e)) base
  induct_on_len P base step (suc n) m e =
      let one = first_of m (entries m) n refl e in
      subst P (put_back m one.0 one.1 one.2)
      (step (remove m one.0) one.0 one.1 (get-remove-same m one.0)
      (induct_on_len P base step n (remove m one.0) (one_less _ _ n (len-removed m one.0 one.1 one.2) e)))

  -- what holds of the empty map, and stays as a new key comes, holds of each map
  pub map_induction : (P : FinMap nat_cmp X → Type 0) → P empty
      → ((m : FinMap nat_cmp X) (k : ℕ) (v : X) → get m k ≡ None → P m → P (insert m k v))
      → (m : FinMap nat_cmp X) → P m
  map_induction P base step m = induct_on_len P base step (len m) m refl

  -- ---- entries in the order of their keys

  find_same : (e : ℕ × X) (es : List (ℕ × X)) → find nat_cmp e.0 (e ∷ es) ≡ Some e.1
  find_same e es = ap (λ b. cond b (Some e.1) (find nat_cmp e.0 es)) (tie_same e.0)

  find_other : (q : ℕ) (e : ℕ × X) (es : List (ℕ × X)) → q ≢ e.0 → find nat_cmp q (e ∷ es) ≡ find nat_cmp q es
  find_other q e es n = ap (λ b. cond b (Some e.1) (find nat_cmp q es)) (tie_other q e.0 n)

  -- a key that is found among those above k is above k
  above_of_found : (k : ℕ) (es : List (ℕ × X)) → T (below_all nat_cmp k es) → (q : ℕ) → IsSome (find nat_cmp q es) → k < q
  above_of_found k [] b q h = absurd (not_true h)
  above_of_found k (e ∷ es) b q h =
      elim (eqb_tells q e.0) [
        | inl same ↦ let below = less_of k e.0 (first_part _ _ b) in subst (λ x. k < x) (sym same.1) below
        | inr other ↦ above_of_found k es (second_part _ _ b) q (subst IsSome (find_other q e es other.1) h)
      ]

  first_at_most : (e : ℕ × X) (es : List (ℕ × X)) → T (below_all nat_cmp e.0 es) → (q : ℕ) → IsSome (find nat_cmp q (e ∷ es)) → e.0 ≤ q
  first_at_most e es b q h =
      elim (eqb_tells q e.0) [
        | inl same ↦ let is = same.1 in omega arith
        | inr other ↦ let above = above_of_found e.0 es b q (subst IsSome (find_other q e es other.1) h) in omega arith
      ]

  none_below : (k : ℕ) (e : ℕ × X) (es : List (ℕ × X)) → T (below_all nat_cmp e.0 es) → k < e.0 → find nat_cmp k es ≡ None
  none_below k e es b l = none_unless (find nat_cmp k es) (λ h. let above = above_of_found e.0 es b k h in omega arith)

  -- ---- the sum of weights

  total-weigh : (f : X → ℕ) (m : FinMap nat_cmp X) → total f m ≡ weigh f (entries m)
  unfolding total
  total-weigh f m = sym (is_sum_by (added f) f refl (λ _ _. refl) (values m))

  weigh-put : (f : X → ℕ) (k : ℕ) (v : X) (es : List (ℕ × X)) → T (is_sorted nat_cmp es)
      → weigh f (put nat_cmp k v es) + weight f (find nat_cmp k es) ≡ weigh f es + f v
  weigh-put f k v [] s = omega arith
  weigh-put f k v (e ∷ es) s =
      elim (nat_cmp k e.0) as (λ r. r ≡ nat_cmp k e.0
      → weigh f (by_order r ((k, v) ∷ e ∷ es) ((e.0, v) ∷ es) (e ∷ put nat_cmp k v es)) + weight f (cond (is_eq r) (Some e.1) (find nat_cmp k es))
      ≡ (f e.1 + weigh f es) + f v) [
        | Less ↦ λ r. let none = ap (weight f) (none_below k e es (first_part _ _ s) (ranked k e.0 Less r)) in omega arith
        | Equal ↦ λ r. omega arith
        | Greater ↦ λ r. let rest : weigh f (put nat_cmp k v es) + weight f (find nat_cmp k es) ≡ weigh f es + f v = weigh-put f k v es (second_part _ _ s) in omega arith
      ] refl

  pub total-empty : (f : X → ℕ) → total f empty ≡ 0
  total-empty f = total-weigh f empty ∙ ap (weigh f) (no_entries _ (sym (len-entries (empty {X = X} {R = nat_cmp})) ∙ len-empty nat_cmp X))

  pub total-insert : (f : X → ℕ) (m : FinMap nat_cmp X) (k : ℕ) (v : X) → total f (insert m k v) + weight f (get m k) ≡ total f m + f v
  total-insert f m k v =
      let new = total-weigh f (insert m k v) ∙ ap (weigh f) (entries-insert nat_cmp_total m k v) in
      let old = total-weigh f m in
      let there = ap (weight f) (get-entries m k) in
      let sums = weigh-put f k v (entries m) (entries_sorted m) in
      omega arith

  pub total-insert_new : (f : X → ℕ) (m : FinMap nat_cmp X) (k : ℕ) (v : X) → get m k ≡ None → total f (insert m k v) ≡ total f m + f v
  total-insert_new f m k v e = let none = ap (weight f) e in let sums = total-insert f m k v in omega arith

  pub total-remove : (f : X → ℕ) (m : FinMap nat_cmp X) (k : ℕ) → total f (remove m k) + weight f (get m k) ≡ total f m
  total-remove f m k =
      elim (get m k) as (λ o. get m k ≡ o → total f (remove m k) + weight f o ≡ total f m) [
        | None ↦ λ e. ap (λ n. total f n + 0) (remove_absent m k e) ∙ omega arith
        | Some x ↦ λ e. sym (total-insert_new f (remove m k) k x (get-remove-same m k)) ∙ ap (total f) (put_back m k x e)
      ] refl

  -- no weight is above the total
  pub total_at_least : (f : X → ℕ) (m : FinMap nat_cmp X) (k : ℕ) (x : X) → get m k ≡ Some x → f x ≤ total f m
  total_at_least f m k x e = let there = ap (weight f) e in let sums = total-remove f m k in omega arith

  pub total-zero : (f : X → ℕ) (m : FinMap nat_cmp X) (k : ℕ) (x : X) → total f m ≡ 0 → get m k ≡ Some x → f x ≡ 0
  total-zero f m k x none e = let most = total_at_least f m k x e in omega arith

  -- where each weighs 0
  pub total_none : (f : X → ℕ) (m : FinMap nat_cmp X) → ((q : ℕ) → weight f (get m q) ≡ 0) → total f m ≡ 0
  total_none f m =
      map_induction (λ n. ((q : ℕ) → weight f (get n q) ≡ 0) → total f n ≡ 0) (λ _. total-empty f)
      (λ n k v new rest none.
      let here : f v ≡ 0 = ap (weight f) (sym (get-insert-same n k v)) ∙ none k in
      let others : total f n ≡ 0 = rest (λ q. elim (eqb_tells q k) [
        | inl same ↦ ap (λ j. weight f (get n j)) same.1 ∙ ap (weight f) new
        | inr other ↦ ap (weight f) (sym (get-insert-other n k v q other.1)) ∙ none q
      ]) in
      let sums = total-insert_new f n k v new in
      omega arith)
      m

  -- ---- the least key that passes

  first_found : (test : ℕ → X → Bool) (es : List (ℕ × X)) (k : ℕ) → T (is_sorted nat_cmp es)
      → first_key test es ≡ Some k → passes test k (find nat_cmp k es) ≡ true
  first_found test [] k s = λ i. absurd (not_None k (sym i))
  first_found test (e ∷ es) k s =
      elim (test e.0 e.1) as (λ b. test e.0 e.1 ≡ b → cond b (Some e.0) (first_key test es) ≡ Some k → passes test k (find nat_cmp k (e ∷ es)) ≡ true) [
        | true ↦ λ t i. subst (λ x. passes test x (find nat_cmp x (e ∷ es)) ≡ true) (same_Some _ _ i) (ap (passes test e.0) (find_same e es) ∙ t)
        | false ↦ λ t i.
            let there = first_found test es k (second_part _ _ s) i in
            let above = above_of_found e.0 es (first_part _ _ s) k (some_of_passes test k _ there) in
            ap (passes test k) (find_other k e es (λ same. let is = same in omega arith)) ∙ there
      ] refl

  first_least : (test : ℕ → X → Bool) (es : List (ℕ × X)) (k : ℕ) → T (is_sorted nat_cmp es)
      → first_key test es ≡ Some k → (q : ℕ) → passes test q (find nat_cmp q es) ≡ true → k ≤ q
  first_least test [] k s i q h = absurd (not_None k (sym i))
  first_least test (e ∷ es) k s first q h =
      elim (test e.0 e.1) as (λ b. test e.0 e.1 ≡ b → cond b (Some e.0) (first_key test es) ≡ Some k → k ≤ q) [
        | true ↦ λ t i. let same = same_Some _ _ i in let most = first_at_most e es (first_part _ _ s) q (some_of_passes test q _ h) in omega arith
        | false ↦ λ t i. elim (eqb_tells q e.0) [
          | inl same ↦ absurd (not_true (sym t ∙ sym (ap (passes test e.0) (find_same e es)) ∙ ap (λ x. passes test x (find nat_cmp x (e ∷ es))) (sym same.1) ∙ h))
          | inr other ↦ first_least test es k (second_part _ _ s) i q (sym (ap (passes test q) (find_other q e es other.1)) ∙ h)
        ]
      ] refl first

  first_none : (test : ℕ → X → Bool) (es : List (ℕ × X)) → first_key test es ≡ None → (q : ℕ) → passes test q (find nat_cmp q es) ≡ false
  first_none test [] i q = refl
  first_none test (e ∷ es) none q =
      elim (test e.0 e.1) as (λ b. test e.0 e.1 ≡ b → cond b (Some e.0) (first_key test es) ≡ None → passes test q (find nat_cmp q (e ∷ es)) ≡ false) [
        | true ↦ λ t i. absurd (not_None e.0 i)
        | false ↦ λ t i. elim (eqb_tells q e.0) [
          | inl same ↦ ap (λ x. passes test x (find nat_cmp x (e ∷ es))) same.1 ∙ ap (passes test e.0) (find_same e es) ∙ t
          | inr other ↦ ap (passes test q) (find_other q e es other.1) ∙ first_none test es i q
        ]
      ] refl none

  -- the entry at the least key passes
  pub least_key-found : (test : ℕ → X → Bool) (m : FinMap nat_cmp X) (k : ℕ) → least_key test m ≡ Some k → passes test k (get m k) ≡ true
  unfolding least_key
  least_key-found test m k e = ap (passes test k) (get-entries m k) ∙ first_found test (entries m) k (entries_sorted m) e

  pub least_key-entry : (test : ℕ → X → Bool) (m : FinMap nat_cmp X) (k : ℕ) → least_key test m ≡ Some k → (x : X) × (get m k ≡ Some x) × (test k x ≡ true)
  least_key-entry test m k e =
      elim (get m k) as (λ o. passes test k o ≡ true → (x : X) × (o ≡ Some x) × (test k x ≡ true)) [ None ↦ λ h. absurd (not_true h) | Some x ↦ λ h. (x, refl, h) ] (least_key-found test m k e)

  -- no smaller key passes
  pub least_key-least : (test : ℕ → X → Bool) (m : FinMap nat_cmp X) (k : ℕ) → least_key test m ≡ Some k → (q : ℕ) → passes test q (get m q) ≡ true → k ≤ q
  unfolding least_key
  least_key-least test m k e q h = first_least test (entries m) k (entries_sorted m) e q (ap (passes test q) (sym (get-entries m q)) ∙ h)

  -- at `None` no key passes
  pub least_key-none : (test : ℕ → X → Bool) (m : FinMap nat_cmp X) → least_key test m ≡ None → (q : ℕ) → passes test q (get m q) ≡ false
  unfolding least_key
  least_key-none test m e q = ap (passes test q) (get-entries m q) ∙ first_none test (entries m) e q

  pub least_key_is : (test : ℕ → X → Bool) (m : FinMap nat_cmp X) (k : ℕ) → passes test k (get m k) ≡ true
      → ((q : ℕ) → passes test q (get m q) ≡ true → k ≤ q) → least_key test m ≡ Some k
  least_key_is test m k here least =
      elim (least_key test m) as (λ o. least_key test m ≡ o → o ≡ Some k) [
        | None ↦ λ e. absurd (not_true (sym (least_key-none test m e k) ∙ here))
        | Some j ↦ λ e.
            let up = least_key-least test m j e k here in
            let down = least j (least_key-found test m j e) in
            ap Some (omega arith)
      ] refl

  pub least_key_is_none : (test : ℕ → X → Bool) (m : FinMap nat_cmp X) → ((q : ℕ) → passes test q (get m q) ≡ false) → least_key test m ≡ None
  least_key_is_none test m none =
      elim (least_key test m) as (λ o. least_key test m ≡ o → o ≡ None) [
        | None ↦ λ e. refl
        | Some j ↦ λ e. absurd (not_true (sym (none j) ∙ least_key-found test m j e))
      ] refl

-- ---- two maps

module _ {X Y : Type 0} where
  -- the same weight at each key
  pub total_same : (f : X → ℕ) (g : Y → ℕ) (m : FinMap nat_cmp X) (n : FinMap nat_cmp Y) → ((q : ℕ) → weight f (get m q) ≡ weight g (get n q)) → total f m ≡ total g n
  total_same f g m =
      map_induction (λ a. (n : FinMap nat_cmp Y) → ((q : ℕ) → weight f (get a q) ≡ weight g (get n q)) → total f a ≡ total g n)
      (λ n same. total-empty f ∙ sym (total_none g n (λ q. sym (same q) ∙ ap (weight f) (get-empty nat_cmp q))))
      (λ a k v new rest n same.
      let others = rest (remove n k) (λ q. elim (eqb_tells q k) [
        | inl is ↦ ap (λ j. weight f (get a j)) is.1 ∙ ap (weight f) new ∙ sym (ap (λ j. weight g (get (remove n k) j)) is.1 ∙ ap (weight g) (get-remove-same n k))
        | inr other ↦ ap (weight f) (sym (get-insert-other a k v q other.1)) ∙ same q ∙ ap (weight g) (sym (get-remove-other n k q other.1))
      ]) in
      let here : f v ≡ weight g (get n k) = ap (weight f) (sym (get-insert-same a k v)) ∙ same k in
      let left = total-insert_new f a k v new in
      let right = total-remove g n k in
      omega arith)
      m

  -- two maps that pass alike at each key have the same least key
  pub least_same : (test : ℕ → X → Bool) (other : ℕ → Y → Bool) (m : FinMap nat_cmp X) (n : FinMap nat_cmp Y)
      → ((q : ℕ) → passes test q (get m q) ≡ passes other q (get n q)) → least_key test m ≡ least_key other n
  least_same test other m n alike =
      elim (least_key test m) as (λ o. least_key test m ≡ o → o ≡ least_key other n) [
        | None ↦ λ e. sym (least_key_is_none other n (λ q. sym (alike q) ∙ least_key-none test m e q))
        | Some k ↦ λ e. sym (least_key_is other n k (sym (alike k) ∙ least_key-found test m k e) (λ q h. least_key-least test m k e q (alike q ∙ h)))
      ] refl

-- what `get` answers after a change, and what comes to nothing
pub ruleset number_laws = (get-insert-same, get-insert-other, get-remove-same, get-remove-other, insert-again, insert_self, remove_absent)
