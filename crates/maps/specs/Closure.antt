-- The least closure of numbers over the keys of a map, and further laws on maps whose keys are numbers.
--     member k numbers      whether the number is in the list
--     IsSubset few many      each number of the first list is in the second
--     closure ready m start      start, and each key of m that is ready at the numbers found so far, the least first
--     IsMonotone ready      more numbers make no number less ready
--     NoneReady ready m found      no key of m is ready
--     closure_induction      what holds where no key is ready, and stays as a ready key is taken, holds of each closure
--     closure_start, closure_keys      it has each number of start;  each other one is a key
--     closure_closed      a key that is ready at it is in it
--     closure_least, closure_smallest      each test, and each list, that is closed as it is has all of its numbers
--     closure_ready      where ready is monotone, each number that came is a key that is ready at the whole closure
--     closure_none      where no key is ready at start, it is start
--     closure_same      maps with the same keys, and tests alike at these, have the same closure
--     changed f m      the map with each value changed by f, which is given its key
--     get-changed, entries-changed, len-changed      what it answers
--     changed-empty, changed-insert, changed-remove, total-changed      its laws
--     total_zero_exactly      a total is 0 exactly where each weight is 0
--     total_below      no weight is greater, so the total is not greater
--     total_ones      where each value weighs 1, the total is the number of entries
--     len_same      maps with the same keys have as many
use Rattle.std.proofs.Common.{◌≡◌, ◌≢◌, ◌↔◌, ◌⊎◌, ℕ, zero, suc, ◌+◌, ◌≤◌, Bool, true, false, cond, ◌&&◌, ◌||◌, T, inl, inr, List, [], ◌∷◌, map, length, Option, Some, None, IsSome, is_some, refl, sym, ap, subst, ◌∙◌, arith}
use Rattle.std.proofs.lemmas.List.{length-map}
use Rattle.std.proofs.lemmas.Bool.{eq-eqb, eqb-true}
use Rattle.std.proofs.lemmas.Bool.Decides.{eqb_tells}
use Rattle.std.specs.Bool.{nat_eq}
use Rattle.std.specs.List.{list_any}
use Rattle.std.specs.Ordering.{nat_cmp, eq_by_cmp, is_lt}
use Rattle.std.specs.Cmp.{nat_cmp_total, unsigned_tied}
use Rattle.std.specs.Option.{option_map}
use Rattle.std.specs.FinMap.{FinMap, empty, get, insert, remove, len, entries, find, is_sorted, from_entries, from_sorted, entries_sorted, entries-from_sorted, get-empty, get-entries, get-from_entries, get-from_sorted, len-entries, len-empty, empty_of_len}
use Rattle.std.specs.FinMap.Entries.{below_all}
use Rattle.maps.specs.Maps.{weight, passes, total, least_key, get-insert-same, get-insert-other, get-remove-same, get-remove-other, same_numbers, len-insert_new, len-removed, same_around, map_induction, total-empty, total-insert_new, total-remove, total-zero, total_none, total_same, least_key-entry, least_key-none, least_same}

-- ---- words

-- whether the number is in the list
abbrev pub member : ℕ → List ℕ → Bool
member k numbers = list_any (nat_eq k) numbers

-- each number of the first list is in the second
abbrev pub IsSubset : List ℕ → List ℕ → Type 0
IsSubset few many = (q : ℕ) → member q few ≡ true → member q many ≡ true

-- more numbers make no number less ready
abbrev pub IsMonotone : (List ℕ → ℕ → Bool) → Type 0
IsMonotone ready = (few many : List ℕ) → IsSubset few many → (k : ℕ) → ready few k ≡ true → ready many k ≡ true

-- what go makes of the key that was found, and at `None` what was found before
abbrev pub grown : (ℕ → List ℕ) → List ℕ → Option ℕ → List ℕ
grown go found None = found
grown go found (Some k) = go k

-- the closure in at most n turns, where `pending` has the keys that are not yet taken: a turn takes the least ready one
abbrev pub closure_within : {X : Type 0} → (List ℕ → ℕ → Bool) → ℕ → FinMap nat_cmp X → List ℕ → List ℕ
closure_within ready zero pending found = found
closure_within ready (suc n) pending found =
    grown (λ k. closure_within ready n (remove pending k) (k ∷ found)) found (least_key (λ k _. ready found k) pending)

-- start, before it each key of m that the numbers found so far make ready, the least first in each turn. A turn takes a
-- key out of the map, so as many turns as it has keys are enough. A key of start that is ready as well comes once more
unfoldable pub closure : {X : Type 0} → (List ℕ → ℕ → Bool) → FinMap nat_cmp X → List ℕ → List ℕ
closure ready m start = closure_within ready (len m) m start

-- the map with each value changed by f, which is given its key
unfoldable pub changed : {X Y : Type 0} → (ℕ → X → Y) → FinMap nat_cmp X → FinMap nat_cmp Y
changed f m = from_entries (map (λ e. (e.0, f e.0 e.1)) (entries m))

-- ---- lists of numbers

not_true : false ≢ true
not_true e = subst T (sym e) tt

one_less : (a b n : ℕ) → a + 1 ≡ b → b ≡ suc n → a ≡ n
one_less a b n e f = omega arith

member_first : (k : ℕ) (ks : List ℕ) → member k (k ∷ ks) ≡ true
member_first k ks = ap (λ b. b || member k ks) (eq-eqb k k refl)

member_later : (q k : ℕ) (ks : List ℕ) → member q ks ≡ true → member q (k ∷ ks) ≡ true
member_later q k ks h = elim (nat_eq q k) as (λ b. (b || member q ks) ≡ true) [ true ↦ refl | false ↦ h ]

-- another number than the first
member_other : (q k : ℕ) (ks : List ℕ) → q ≢ k → member q (k ∷ ks) ≡ member q ks
member_other q k ks n =
    elim (eqb_tells q k) [ inl same ↦ absurd (n same.1) | inr other ↦ ap (λ b. b || member q ks) other.0 ]

-- ---- totals

module _ {X : Type 0} where
  -- a total is 0 exactly where each value weighs 0
  pub total_zero_exactly : (f : X → ℕ) (m : FinMap nat_cmp X) → (total f m ≡ 0) ↔ ((q : ℕ) → weight f (get m q) ≡ 0)
  total_zero_exactly f m = (
    λ none q. elim (get m q) as (λ o. get m q ≡ o → weight f o ≡ 0) [ None ↦ λ _. refl | Some x ↦ λ e. total-zero f m q x none e ] refl,
    total_none f m,
  )

  -- where each value weighs 1, the total is the number of entries
  pub total_ones : (m : FinMap nat_cmp X) → total (λ _. 1) m ≡ len m
  total_ones =
      map_induction (λ m. total (λ _. 1) m ≡ len m) (total-empty (λ _. 1) ∙ sym (len-empty nat_cmp X))
      (λ m k v new rest. total-insert_new (λ _. 1) m k v new ∙ ap (λ n. n + 1) rest ∙ sym (len-insert_new m k v new))

one_each : {A : Type 0} (o : Option A) → weight (λ _. 1) o ≡ cond (is_some o) 1 0
one_each None = refl
one_each (Some x) = refl

module _ {X Y : Type 0} where
  -- where each weight in one map is at most that in the other, the total is at most the other's
  pub total_below : (f : X → ℕ) (g : Y → ℕ) (m : FinMap nat_cmp X) (n : FinMap nat_cmp Y) → ((q : ℕ) → weight f (get m q) ≤ weight g (get n q)) → total f m ≤ total g n
  total_below f g =
      map_induction (λ a. (n : FinMap nat_cmp Y) → ((q : ℕ) → weight f (get a q) ≤ weight g (get n q)) → total f a ≤ total g n)
      (λ n below. let none = total-empty f in omega arith)
      (λ a k v new rest n below.
      let others : total f a ≤ total g (remove n k) = rest (remove n k) (λ q. elim (eqb_tells q k) [
        | inl is ↦ let none : weight f (get a q) ≡ 0 = ap (λ j. weight f (get a j)) is.1 ∙ ap (weight f) new in omega arith
        | inr other ↦
            let left : weight f (get (insert a k v) q) ≡ weight f (get a q) = ap (weight f) (get-insert-other a k v q other.1) in
            let right : weight g (get (remove n k) q) ≡ weight g (get n q) = ap (weight g) (get-remove-other n k q other.1) in
            let most = below q in
            omega arith
      ]) in
      let here : f v ≡ weight f (get (insert a k v) k) = ap (weight f) (sym (get-insert-same a k v)) in
      let most = below k in
      let left = total-insert_new f a k v new in
      let right = total-remove g n k in
      omega arith)

  -- two maps with the same keys have as many
  pub len_same : (m : FinMap nat_cmp X) (n : FinMap nat_cmp Y) → ((q : ℕ) → is_some (get m q) ≡ is_some (get n q)) → len m ≡ len n
  len_same m n keys =
      sym (total_ones m)
      ∙ total_same (λ _. 1) (λ _. 1) m n (λ q. one_each (get m q) ∙ ap (λ b. cond b 1 0) (keys q) ∙ sym (one_each (get n q)))
      ∙ total_ones n

-- ---- the values of a map, each changed

is_tie : (q k : ℕ) → eq_by_cmp nat_cmp q k ≡ true → q ≡ k
is_tie q k e = eqb-true q k (sym (unsigned_tied q k) ∙ e)

module _ {X Y : Type 0} (f : ℕ → X → Y) where
  -- the entries with their values changed
  abbrev pub changed_entries : List (ℕ × X) → List (ℕ × Y)
  changed_entries es = map (λ e. (e.0, f e.0 e.1)) es

  find-changed : (q : ℕ) (es : List (ℕ × X)) → find nat_cmp q (changed_entries es) ≡ option_map (f q) (find nat_cmp q es)
  find-changed q [] = refl
  find-changed q (e ∷ es) =
      elim (eq_by_cmp nat_cmp q e.0) as (λ b. eq_by_cmp nat_cmp q e.0 ≡ b
      → cond b (Some (f e.0 e.1)) (find nat_cmp q (changed_entries es)) ≡ option_map (f q) (cond b (Some e.1) (find nat_cmp q es))) [
        | true ↦ λ tie. ap (λ k. Some (f k e.1)) (sym (is_tie q e.0 tie))
        | false ↦ λ _. find-changed q es
      ] refl

  below_all-changed : (k : ℕ) (es : List (ℕ × X)) → below_all nat_cmp k (changed_entries es) ≡ below_all nat_cmp k es
  below_all-changed k [] = refl
  below_all-changed k (e ∷ es) = ap (λ b. is_lt (nat_cmp k e.0) && b) (below_all-changed k es)

  is_sorted-changed : (es : List (ℕ × X)) → is_sorted nat_cmp (changed_entries es) ≡ is_sorted nat_cmp es
  is_sorted-changed [] = refl
  is_sorted-changed (e ∷ es) = λ i. below_all-changed e.0 es i && is_sorted-changed es i

  -- a key has the value that it had, changed
  pub get-changed : (m : FinMap nat_cmp X) (q : ℕ) → get (changed f m) q ≡ option_map (f q) (get m q)
  unfolding changed
  get-changed m q =
      get-from_entries nat_cmp_total (changed_entries (entries m)) q
      ∙ find-changed q (entries m)
      ∙ ap (option_map (f q)) (sym (get-entries m q))

  pub entries-changed : (m : FinMap nat_cmp X) → entries (changed f m) ≡ changed_entries (entries m)
  unfolding changed
  entries-changed m =
      let es = changed_entries (entries m) in
      let order : T (is_sorted nat_cmp es) = subst T (sym (is_sorted-changed (entries m))) (entries_sorted m) in
      ap entries (same_numbers (from_entries es) (from_sorted es) (λ q. get-from_entries nat_cmp_total es q ∙ sym (get-from_sorted nat_cmp es q order)))
      ∙ entries-from_sorted nat_cmp es order

  pub len-changed : (m : FinMap nat_cmp X) → len (changed f m) ≡ len m
  len-changed m = len-entries (changed f m) ∙ ap length (entries-changed m) ∙ length-map (entries m) _ ∙ sym (len-entries m)

  pub changed-empty : changed f empty ≡ empty
  changed-empty = empty_of_len _ (len-changed empty ∙ len-empty nat_cmp X)

  pub changed-insert : (m : FinMap nat_cmp X) (k : ℕ) (v : X) → changed f (insert m k v) ≡ insert (changed f m) k (f k v)
  changed-insert m k v =
      same_around _ _ k
      (get-changed (insert m k v) k ∙ ap (option_map (f k)) (get-insert-same m k v) ∙ sym (get-insert-same (changed f m) k (f k v)))
      (λ q n. get-changed (insert m k v) q ∙ ap (option_map (f q)) (get-insert-other m k v q n) ∙ sym (get-insert-other (changed f m) k (f k v) q n ∙ get-changed m q))

  pub changed-remove : (m : FinMap nat_cmp X) (k : ℕ) → changed f (remove m k) ≡ remove (changed f m) k
  changed-remove m k =
      same_around _ _ k
      (get-changed (remove m k) k ∙ ap (option_map (f k)) (get-remove-same m k) ∙ sym (get-remove-same (changed f m) k))
      (λ q n. get-changed (remove m k) q ∙ ap (option_map (f q)) (get-remove-other m k q n) ∙ sym (get-remove-other (changed f m) k q n ∙ get-changed m q))

  -- where g weighs each value, once changed, as h weighs it before
  pub total-changed : (g : Y → ℕ) (h : X → ℕ) (m : FinMap nat_cmp X) → ((q : ℕ) (x : X) → get m q ≡ Some x → g (f q x) ≡ h x) → total g (changed f m) ≡ total h m
  total-changed g h m same =
      total_same g h (changed f m) m (λ q. ap (weight g) (get-changed m q)
      ∙ elim (get m q) as (λ o. get m q ≡ o → weight g (option_map (f q) o) ≡ weight h o) [ None ↦ λ _. refl | Some x ↦ λ e. same q x e ] refl)

-- ---- the closure

module _ {X : Type 0} where
  key_left : (m : FinMap nat_cmp X) (k q : ℕ) → q ≢ k → IsSome (get m q) → IsSome (get (remove m k) q)
  key_left m k q n h = ap is_some (get-remove-other m k q n) ∙ h

  key_before : (m : FinMap nat_cmp X) (k q : ℕ) → IsSome (get (remove m k) q) → IsSome (get m q)
  key_before m k q h =
      elim (eqb_tells q k) [
        | inl same ↦ absurd (not_true (sym (ap (λ x. is_some (get (remove m k) x)) same.1 ∙ ap is_some (get-remove-same m k)) ∙ h))
        | inr other ↦ sym (ap is_some (get-remove-other m k q other.1)) ∙ h
      ]

  no_key : (m : FinMap nat_cmp X) → len m ≡ 0 → (q : ℕ) → IsSome (get m q) → ⊥
  no_key m e q h = not_true (sym (ap (λ n. is_some (get n q)) (empty_of_len m e) ∙ ap is_some (get-empty nat_cmp q)) ∙ h)

  passes_key : (test : ℕ → Bool) (q : ℕ) (o : Option X) → IsSome o → passes (λ k _. test k) q o ≡ test q
  passes_key test q None h = absurd (not_true h)
  passes_key test q (Some x) h = refl

  module _ (ready : List ℕ → ℕ → Bool) where
    -- no key of the map is ready at these numbers
    abbrev pub NoneReady : FinMap nat_cmp X → List ℕ → Type 0
    NoneReady pending found = (q : ℕ) → IsSome (get pending q) → ready found q ≡ false

    within_induction : (P : FinMap nat_cmp X → List ℕ → List ℕ → Type 0)
        → ((pending : FinMap nat_cmp X) (found : List ℕ) → NoneReady pending found → P pending found found)
        → ((pending : FinMap nat_cmp X) (found : List ℕ) (k : ℕ) (result : List ℕ)
        → IsSome (get pending k) → ready found k ≡ true → P (remove pending k) (k ∷ found) result → P pending found result)
        → (n : ℕ) (pending : FinMap nat_cmp X) (found : List ℕ) → len pending ≡ n → P pending found (closure_within ready n pending found)
    within_induction P base step zero pending found e = base pending found (λ q h. absurd (no_key pending e q h))
    within_induction P base step (suc n) pending found e =
        elim (least_key (λ k _. ready found k) pending) as (λ o. least_key (λ k _. ready found k) pending ≡ o
        → P pending found (grown (λ k. closure_within ready n (remove pending k) (k ∷ found)) found o)) [
          | None ↦ λ none. base pending found (λ q h. sym (passes_key (ready found) q (get pending q) h) ∙ least_key-none (λ k _. ready found k) pending none q)
          | Some k ↦ λ least.
              let entry = least_key-entry (λ k _. ready found k) pending k least in
              step pending found k _ (ap is_some entry.1) entry.2
              (within_induction P base step n (remove pending k) (k ∷ found) (one_less _ _ n (len-removed pending k entry.0 entry.1) e))
        ] refl

    -- a relation of a map, a start and a result holds with the closure as the result, if it holds with the start itself
    -- where no key is ready, and holds where it does once a ready key has gone from the map to the start
    pub closure_induction : (P : FinMap nat_cmp X → List ℕ → List ℕ → Type 0)
        → ((pending : FinMap nat_cmp X) (found : List ℕ) → NoneReady pending found → P pending found found)
        → ((pending : FinMap nat_cmp X) (found : List ℕ) (k : ℕ) (result : List ℕ)
        → IsSome (get pending k) → ready found k ≡ true → P (remove pending k) (k ∷ found) result → P pending found result)
        → (m : FinMap nat_cmp X) (start : List ℕ) → P m start (closure ready m start)
    unfolding closure
    closure_induction P base step m start = within_induction P base step (len m) m start refl

    -- each number of start is in the closure
    pub closure_start : (m : FinMap nat_cmp X) (start : List ℕ) → IsSubset start (closure ready m start)
    closure_start =
        closure_induction (λ _ found result. IsSubset found result)
        (λ _ _ _ q h. h)
        (λ _ found k _ _ _ rest q h. rest q (member_later q k found h))

    -- a key that is ready at the closure is in it
    pub closure_closed : (m : FinMap nat_cmp X) (start : List ℕ) (k : ℕ)
        → IsSome (get m k) → ready (closure ready m start) k ≡ true → member k (closure ready m start) ≡ true
    closure_closed m start =
        (closure_induction (λ pending found result. IsSubset found result × ((q : ℕ) → IsSome (get pending q) → ready result q ≡ true → member q result ≡ true))
        (λ pending found none. (λ q h. h, λ q key now. absurd (not_true (sym (none q key) ∙ now))))
        (λ pending found k result here now rest. (
          λ q h. rest.0 q (member_later q k found h),
          λ q key then. elim (eqb_tells q k) [
            | inl same ↦ subst (λ x. member x result ≡ true) (sym same.1) (rest.0 k (member_first k found))
            | inr other ↦ rest.1 q (key_left pending k q other.1 key) then
          ],
        ))
        m start).1

    -- a test that passes each number of start, and each key that is ready at some numbers that it passes, passes
    -- each number of the closure
    pub closure_least : (C : ℕ → Bool) (m : FinMap nat_cmp X) (start : List ℕ)
        → ((q : ℕ) → member q start ≡ true → C q ≡ true)
        → ((k : ℕ) → IsSome (get m k) → (numbers : List ℕ) → ((q : ℕ) → member q numbers ≡ true → C q ≡ true) → ready numbers k ≡ true → C k ≡ true)
        → (q : ℕ) → member q (closure ready m start) ≡ true → C q ≡ true
    closure_least C =
        closure_induction (λ pending found result. ((q : ℕ) → member q found ≡ true → C q ≡ true)
        → ((k : ℕ) → IsSome (get pending k) → (numbers : List ℕ) → ((q : ℕ) → member q numbers ≡ true → C q ≡ true) → ready numbers k ≡ true → C k ≡ true)
        → (q : ℕ) → member q result ≡ true → C q ≡ true)
        (λ pending found none all closed q h. all q h)
        (λ pending found k result here now rest all closed.
        rest
        (λ q h. elim (eqb_tells q k) [
          | inl same ↦ ap C same.1 ∙ closed k here found all now
          | inr other ↦ all q (sym (member_other q k found other.1) ∙ h)
        ])
        (λ q key. closed q (key_before pending k q key)))

    -- where ready is monotone, a list that has start, and each key that is ready at it, has the closure
    pub closure_smallest : IsMonotone ready → (m : FinMap nat_cmp X) (start numbers : List ℕ) → IsSubset start numbers
        → ((k : ℕ) → IsSome (get m k) → ready numbers k ≡ true → member k numbers ≡ true) → IsSubset (closure ready m start) numbers
    closure_smallest monotone m start numbers all closed =
        closure_least (λ q. member q numbers) m start all (λ k key few part now. closed k key (monotone few numbers part k now))

    -- each number of the closure is in start or a key
    pub closure_keys : (m : FinMap nat_cmp X) (start : List ℕ) (k : ℕ) → member k (closure ready m start) ≡ true → (member k start ≡ true) ⊎ IsSome (get m k)
    closure_keys =
        closure_induction (λ pending found result. (q : ℕ) → member q result ≡ true → (member q found ≡ true) ⊎ IsSome (get pending q))
        (λ pending found none q h. inl h)
        (λ pending found k result here now rest q h.
        elim (eqb_tells q k) [
          | inl same ↦ inr (ap (λ x. is_some (get pending x)) same.1 ∙ here)
          | inr other ↦ elim (rest q h) [ inl before ↦ inl (sym (member_other q k found other.1) ∙ before) | inr key ↦ inr (key_before pending k q key) ]
        ])

    -- each number of the closure that is not in start is a key that is ready at the whole closure
    pub closure_ready : IsMonotone ready → (m : FinMap nat_cmp X) (start : List ℕ) (k : ℕ)
        → member k (closure ready m start) ≡ true → member k start ≡ false → IsSome (get m k) × (ready (closure ready m start) k ≡ true)
    closure_ready monotone m start =
        (closure_induction (λ pending found result. IsSubset found result
        × ((q : ℕ) → member q result ≡ true → member q found ≡ false → IsSome (get pending q) × (ready result q ≡ true)))
        (λ pending found none. (λ q h. h, λ q there absent. absurd (not_true (sym absent ∙ there))))
        (λ pending found k result here now rest.
        let all : IsSubset found result = λ q h. rest.0 q (member_later q k found h) in (
          all,
          λ q there absent. elim (eqb_tells q k) [
            | inl same ↦ (ap (λ x. is_some (get pending x)) same.1 ∙ here, ap (ready result) same.1 ∙ monotone found result all k now)
            | inr other ↦ let late = rest.1 q there (member_other q k found other.1 ∙ absent) in (key_before pending k q late.0, late.1)
          ],
        ))
        m start).1

    -- where no key is ready at start, the closure is start
    pub closure_none : (m : FinMap nat_cmp X) (start : List ℕ) → NoneReady m start → closure ready m start ≡ start
    closure_none =
        closure_induction (λ pending found result. NoneReady pending found → result ≡ found)
        (λ _ _ _ _. refl)
        (λ pending found k result here now rest none. absurd (not_true (sym (none k here) ∙ now)))

-- ---- the closures of two maps

module _ {X Y : Type 0} where
  passes_same : (test other : ℕ → Bool) (q : ℕ) (o : Option X) (p : Option Y) → is_some o ≡ is_some p → (IsSome o → test q ≡ other q)
      → passes (λ k _. test k) q o ≡ passes (λ k _. other k) q p
  passes_same test other q None None keys same = refl
  passes_same test other q None (Some y) keys same = absurd (not_true keys)
  passes_same test other q (Some x) None keys same = absurd (not_true (sym keys))
  passes_same test other q (Some x) (Some y) keys same = same refl

  -- the same keys are left as one goes
  same_left : (m : FinMap nat_cmp X) (n : FinMap nat_cmp Y) (k : ℕ) → ((q : ℕ) → is_some (get m q) ≡ is_some (get n q))
      → (q : ℕ) → is_some (get (remove m k) q) ≡ is_some (get (remove n k) q)
  same_left m n k keys q =
      elim (eqb_tells q k) [
        | inl same ↦ subst (λ x. is_some (get (remove m k) x) ≡ is_some (get (remove n k) x)) (sym same.1)
            (ap is_some (get-remove-same m k) ∙ sym (ap is_some (get-remove-same n k)))
        | inr other ↦ ap is_some (get-remove-other m k q other.1) ∙ keys q ∙ sym (ap is_some (get-remove-other n k q other.1))
      ]

  within_same : (ready other : List ℕ → ℕ → Bool) (t : ℕ) (m : FinMap nat_cmp X) (n : FinMap nat_cmp Y) (found : List ℕ)
      → ((q : ℕ) → is_some (get m q) ≡ is_some (get n q)) → ((numbers : List ℕ) (q : ℕ) → IsSome (get m q) → ready numbers q ≡ other numbers q)
      → closure_within ready t m found ≡ closure_within other t n found
  within_same ready other zero m n found keys same = refl
  within_same ready other (suc t) m n found keys same =
      let least : least_key (λ k _. ready found k) m ≡ least_key (λ k _. other found k) n =
      least_same (λ k _. ready found k) (λ k _. other found k) m n (λ q. passes_same (ready found) (other found) q (get m q) (get n q) (keys q) (same found q)) in
      ap (grown (λ k. closure_within ready t (remove m k) (k ∷ found)) found) least
      ∙ ap (λ go. grown go found (least_key (λ k _. other found k) n))
      (λ i k. within_same ready other t (remove m k) (remove n k) (k ∷ found) (same_left m n k keys) (λ numbers q key. same numbers q (key_before m k q key)) i)

  -- maps of the same keys, and tests that are alike at these, have the same closure
  pub closure_same : (ready other : List ℕ → ℕ → Bool) (m : FinMap nat_cmp X) (n : FinMap nat_cmp Y) (start : List ℕ)
      → ((q : ℕ) → is_some (get m q) ≡ is_some (get n q)) → ((numbers : List ℕ) (q : ℕ) → IsSome (get m q) → ready numbers q ≡ other numbers q)
      → closure ready m start ≡ closure other n start
  unfolding closure
  closure_same ready other m n start keys same =
      ap (λ t. closure_within ready t m start) (len_same m n keys) ∙ within_same ready other (len n) m n start keys same
