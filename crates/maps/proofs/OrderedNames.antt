-- Lists of entries whose names rise: where a name stands in them, and what changes at that place come to.
use Rattle.std.proofs.Common.{◌≡◌, ◌↔◌, ◌==◌, IsTrue, inl, inr, ℕ, zero, suc, ◌+◌, ◌≤◌, Bool, true, false, cond, ◌&&◌, T, List, [], ◌∷◌, ◌++◌, length, Option, Some, None, IsSome, is_some, Less, Equal, Greater, refl, sym, ap, subst, ◌∙◌, arith}
use Rattle.std.proofs.lemmas.Bool.Decides.{eqb_tells}
use Rattle.std.proofs.lemmas.Cmp.{nat_list_cmp_total}
use Rattle.std.proofs.lemmas.Map.Lookups.{exact_bytes}
use Rattle.std.specs.declared.cmp.Ordering.{Ordering}
use Rattle.std.specs.Ordering.{is_lt, is_eq, ordering_reverse}
use Rattle.std.specs.List.{slice_get}
use Rattle.std.specs.Option.{option_map}
use Rattle.std.specs.FinMap.{find, put, is_sorted, from_sorted, entries, get, len, insert, remove, entries_sorted, entries-from_sorted, same_entries_map, get-entries, len-entries, entries-insert, empty, empty_of_len}
use Rattle.std.specs.FinMap.Entries.{by_order, below_all}
use Rattle.maps.specs.Names.{Name, Names, name_cmp, remove-inserted, is_empty, less_of}
use Rattle.maps.specs.Halves.{not_true, first_part, second_part}
use Rattle.maps.specs.Placed.{placed, revalued, count_below, IsOrdered}
use Rattle.maps.proofs.Places.{length-placed}

both : (a b : Bool) → T a → T b → T (a && b)
both true b p q = q
both false b p q = p

equal_of : (r : Ordering) → is_eq r ≡ true → r ≡ Equal
equal_of Less h = absurd (not_true h)
equal_of Equal h = refl
equal_of Greater h = absurd (not_true h)

-- the order the other way round
turned : (x y : Name) (r : Ordering) → name_cmp y x ≡ r → name_cmp x y ≡ ordering_reverse r
turned x y r e = nat_list_cmp_total.antisymm x y ∙ ap ordering_reverse e

-- the value of an entry that has the name k
abbrev pub value_at : {X : Type 0} → Name → Option (Name × X) → Option X
value_at k None = None
value_at k (Some e) = cond (is_eq (name_cmp k e.0)) (Some e.1) None

module _ {X : Type 0} where
  -- ---- parts of lists in order

  below_front : (k : Name) (l : List (Name × X)) (m : Name × X) (r : List (Name × X)) → T (below_all name_cmp k (l ++ m ∷ r)) → T (below_all name_cmp k l) × T (is_lt (name_cmp k m.0))
  below_front k [] m r h = (tt, first_part _ _ h)
  below_front k (e ∷ l) m r h =
      let rest = below_front k l m r (second_part _ _ h) in
      (both _ _ (first_part _ _ h) rest.0, rest.1)

  pub sorted-before : (l : List (Name × X)) (m : Name × X) (r : List (Name × X)) → T (is_sorted name_cmp (l ++ m ∷ r)) → T (is_sorted name_cmp l)
  sorted-before [] m r h = tt
  sorted-before (e ∷ l) m r h = both _ _ (below_front e.0 l m r (first_part _ _ h)).0 (sorted-before l m r (second_part _ _ h))

  pub sorted-behind : (l : List (Name × X)) (m : Name × X) (r : List (Name × X)) → T (is_sorted name_cmp (l ++ m ∷ r)) → T (is_sorted name_cmp r)
  sorted-behind [] m r h = second_part _ _ h
  sorted-behind (e ∷ l) m r h = sorted-behind l m r (second_part _ _ h)

  -- ---- how many names are below one

  pub count_below-before : (k : Name) (l : List (Name × X)) (m : Name × X) (r : List (Name × X)) → is_lt (name_cmp m.0 k) ≡ false → count_below k (l ++ m ∷ r) ≡ count_below k l
  count_below-before k [] m r h = ap (λ b. cond b (suc (count_below k r)) 0) h
  count_below-before k (e ∷ l) m r h = ap (λ n. cond (is_lt (name_cmp e.0 k)) (suc n) 0) (count_below-before k l m r h)

  pub count_below-behind : (k : Name) (l : List (Name × X)) (m : Name × X) (r : List (Name × X)) → T (is_sorted name_cmp (l ++ m ∷ r)) → is_lt (name_cmp m.0 k) ≡ true
      → count_below k (l ++ m ∷ r) ≡ length l + 1 + count_below k r
  count_below-behind k [] m r s h = ap (λ b. cond b (suc (count_below k r)) 0) h ∙ omega arith
  count_below-behind k (e ∷ l) m r s h =
      let low : name_cmp e.0 m.0 ≡ Less = less_of _ (below_front e.0 l m r (first_part _ _ s)).1 in
      let lower : name_cmp e.0 k ≡ Less = nat_list_cmp_total.trans e.0 m.0 k low (less_of _ (subst T (sym h) tt)) in
      let rest = count_below-behind k l m r (second_part _ _ s) h in
      ap (λ o. cond (is_lt o) (suc (count_below k (l ++ m ∷ r))) 0) lower ∙ omega (arith, rest)

  pub count_below_le-length : (k : Name) (es : List (Name × X)) → count_below k es ≤ length es
  count_below_le-length k [] = omega arith
  count_below_le-length k (e ∷ es) =
      let rest = count_below_le-length k es in
      elim (is_lt (name_cmp e.0 k)) as (λ b. cond b (suc (count_below k es)) 0 ≤ suc (length es)) [ true ↦ omega (arith, rest) | false ↦ omega arith ]

  -- ---- what stands at that place

  none_before : (k : Name) (e : Name × X) (es : List (Name × X)) → name_cmp k e.0 ≡ Less → T (below_all name_cmp e.0 es) → find name_cmp k es ≡ None
  none_before k e [] less h = refl
  none_before k e (f ∷ es) less h =
      ap (λ r. cond (is_eq r) (Some f.1) (find name_cmp k es)) (nat_list_cmp_total.trans k e.0 f.0 less (less_of _ (first_part _ _ h)))
      ∙ none_before k e es less (second_part _ _ h)

  -- the place of an entry that is not below k is the first
  first_place : (k : Name) (e : Name × X) (es : List (Name × X)) (r : Ordering) → name_cmp k e.0 ≡ r → is_lt (ordering_reverse r) ≡ false → count_below k (e ∷ es) ≡ 0
  first_place k e es r is h = ap (λ o. cond (is_lt o) (suc (count_below k es)) 0) (turned e.0 k r is) ∙ ap (λ b. cond b (suc (count_below k es)) 0) h

  later_place : (k : Name) (e : Name × X) (es : List (Name × X)) → name_cmp k e.0 ≡ Greater → count_below k (e ∷ es) ≡ suc (count_below k es)
  later_place k e es is = ap (λ o. cond (is_lt o) (suc (count_below k es)) 0) (turned e.0 k Greater is)

  pub find-at : (k : Name) (es : List (Name × X)) → T (is_sorted name_cmp es) → find name_cmp k es ≡ value_at k (slice_get es (count_below k es))
  find-at k [] s = refl
  find-at k (e ∷ es) s =
      elim (name_cmp k e.0) as (λ r. name_cmp k e.0 ≡ r → find name_cmp k (e ∷ es) ≡ value_at k (slice_get (e ∷ es) (count_below k (e ∷ es)))) [
        | Less ↦ λ is. ap (λ r. cond (is_eq r) (Some e.1) (find name_cmp k es)) is
            ∙ none_before k e es is (first_part _ _ s)
            ∙ sym (ap (λ n. value_at k (slice_get (e ∷ es) n)) (first_place k e es Less is refl) ∙ ap (λ r. cond (is_eq r) (Some e.1) None) is)
        | Equal ↦ λ is. ap (λ r. cond (is_eq r) (Some e.1) (find name_cmp k es)) is
            ∙ sym (ap (λ n. value_at k (slice_get (e ∷ es) n)) (first_place k e es Equal is refl) ∙ ap (λ r. cond (is_eq r) (Some e.1) None) is)
        | Greater ↦ λ is. ap (λ r. cond (is_eq r) (Some e.1) (find name_cmp k es)) is
            ∙ find-at k es (second_part _ _ s)
            ∙ sym (ap (λ n. value_at k (slice_get (e ∷ es) n)) (later_place k e es is))
      ] refl

  -- ---- a name that comes

  pub put-new : (k : Name) (v : X) (es : List (Name × X)) → find name_cmp k es ≡ None → put name_cmp k v es ≡ placed (count_below k es) (k, v) es
  put-new k v [] none = refl
  put-new k v (e ∷ es) none =
      elim (name_cmp k e.0) as (λ r. name_cmp k e.0 ≡ r → put name_cmp k v (e ∷ es) ≡ placed (count_below k (e ∷ es)) (k, v) (e ∷ es)) [
        | Less ↦ λ is. ap (λ r. by_order r ((k, v) ∷ e ∷ es) ((e.0, v) ∷ es) (e ∷ put name_cmp k v es)) is
            ∙ sym (ap (λ n. placed n (k, v) (e ∷ es)) (first_place k e es Less is refl))
        | Equal ↦ λ is. absurd (not_true (sym (ap is_some (sym (ap (λ r. cond (is_eq r) (Some e.1) (find name_cmp k es)) is) ∙ none))))
        | Greater ↦ λ is. ap (λ r. by_order r ((k, v) ∷ e ∷ es) ((e.0, v) ∷ es) (e ∷ put name_cmp k v es)) is
            ∙ ap (λ t. e ∷ t) (put-new k v es (sym (ap (λ r. cond (is_eq r) (Some e.1) (find name_cmp k es)) is) ∙ none))
            ∙ sym (ap (λ n. placed n (k, v) (e ∷ es)) (later_place k e es is))
      ] refl

  -- ---- a value that another takes the place of

  pub put-again : (k : Name) (v : X) (es : List (Name × X)) → T (is_sorted name_cmp es) → IsSome (find name_cmp k es) → put name_cmp k v es ≡ revalued (count_below k es) v es
  put-again k v [] s there = absurd (not_true there)
  put-again k v (e ∷ es) s there =
      elim (name_cmp k e.0) as (λ r. name_cmp k e.0 ≡ r → put name_cmp k v (e ∷ es) ≡ revalued (count_below k (e ∷ es)) v (e ∷ es)) [
        | Less ↦ λ is. absurd (not_true (sym (ap is_some (ap (λ r. cond (is_eq r) (Some e.1) (find name_cmp k es)) is ∙ none_before k e es is (first_part _ _ s))) ∙ there))
        | Equal ↦ λ is. ap (λ r. by_order r ((k, v) ∷ e ∷ es) ((e.0, v) ∷ es) (e ∷ put name_cmp k v es)) is
            ∙ sym (ap (λ n. revalued n v (e ∷ es)) (first_place k e es Equal is refl))
        | Greater ↦ λ is. ap (λ r. by_order r ((k, v) ∷ e ∷ es) ((e.0, v) ∷ es) (e ∷ put name_cmp k v es)) is
            ∙ ap (λ t. e ∷ t) (put-again k v es (second_part _ _ s) (subst IsSome (ap (λ r. cond (is_eq r) (Some e.1) (find name_cmp k es)) is) there))
            ∙ sym (ap (λ n. revalued n v (e ∷ es)) (later_place k e es is))
      ] refl

  -- the entry whose name is k stands at its place
  pub entry-of_value : (k : Name) (o : Option (Name × X)) → IsSome (value_at k o) → (option_map (λ e. e.1) o ≡ value_at k o) × (option_map (λ e. e.0) o ≡ Some k)
  entry-of_value k None there = absurd (not_true there)
  entry-of_value k (Some e) there =
      elim (is_eq (name_cmp k e.0)) as (λ b. is_eq (name_cmp k e.0) ≡ b → IsSome (cond b (Some e.1) None) → (Some e.1 ≡ cond b (Some e.1) None) × (Some e.0 ≡ Some k)) [
        | true ↦ λ is _. (refl, ap Some (sym (exact_bytes k e.0 (equal_of _ is))))
        | false ↦ λ is none. absurd (not_true none)
      ] refl there

  -- ---- a name that goes

  below_placed : (k : Name) (n : ℕ) (x : Name × X) (es : List (Name × X)) → n ≤ length es → T (below_all name_cmp k (placed n x es)) → T (is_lt (name_cmp k x.0)) × T (below_all name_cmp k es)
  below_placed k zero x [] h b = (first_part _ _ b, tt)
  below_placed k zero x (e ∷ es) h b = (first_part _ _ b, second_part _ _ b)
  below_placed k (suc n) x [] h b = absurd (omega arith)
  below_placed k (suc n) x (e ∷ es) h b =
      let rest = below_placed k n x es (omega arith) (second_part _ _ b) in
      (rest.0, both _ _ (first_part _ _ b) rest.1)

  pub sorted-rest : (n : ℕ) (x : Name × X) (es : List (Name × X)) → n ≤ length es → T (is_sorted name_cmp (placed n x es)) → T (is_sorted name_cmp es)
  sorted-rest zero x [] h s = tt
  sorted-rest zero x (e ∷ es) h s = second_part _ _ s
  sorted-rest (suc n) x [] h s = absurd (omega arith)
  sorted-rest (suc n) x (e ∷ es) h s = both _ _ (below_placed e.0 n x es (omega arith) (first_part _ _ s)).1 (sorted-rest n x es (omega arith) (second_part _ _ s))

  above : (n : ℕ) (x e : Name × X) (es : List (Name × X)) → n ≤ length es → T (below_all name_cmp e.0 (placed n x es)) → name_cmp x.0 e.0 ≡ Greater
  above n x e es h b = turned x.0 e.0 Less (less_of _ (below_placed e.0 n x es h b).0)

  pub put-there : (n : ℕ) (x : Name × X) (es : List (Name × X)) → n ≤ length es → T (is_sorted name_cmp (placed n x es)) → put name_cmp x.0 x.1 es ≡ placed n x es
  put-there zero x [] h s = refl
  put-there zero x (e ∷ es) h s =
      ap (λ r. by_order r (x ∷ e ∷ es) ((e.0, x.1) ∷ es) (e ∷ put name_cmp x.0 x.1 es)) (less_of _ (first_part _ _ (first_part _ _ s)))
  put-there (suc n) x [] h s = absurd (omega arith)
  put-there (suc n) x (e ∷ es) h s =
      ap (λ r. by_order r (x ∷ e ∷ es) ((e.0, x.1) ∷ es) (e ∷ put name_cmp x.0 x.1 es)) (above n x e es (omega arith) (first_part _ _ s))
      ∙ ap (λ t. e ∷ t) (put-there n x es (omega arith) (second_part _ _ s))

  find-below : (k : Name) (es : List (Name × X)) → T (below_all name_cmp k es) → find name_cmp k es ≡ None
  find-below k [] h = refl
  find-below k (e ∷ es) h = ap (λ r. cond (is_eq r) (Some e.1) (find name_cmp k es)) (less_of _ (first_part _ _ h)) ∙ find-below k es (second_part _ _ h)

  pub find-gone : (n : ℕ) (x : Name × X) (es : List (Name × X)) → n ≤ length es → T (is_sorted name_cmp (placed n x es)) → find name_cmp x.0 es ≡ None
  find-gone zero x [] h s = refl
  find-gone zero x (e ∷ es) h s = find-below x.0 (e ∷ es) (first_part _ _ s)
  find-gone (suc n) x [] h s = absurd (omega arith)
  find-gone (suc n) x (e ∷ es) h s =
      ap (λ r. cond (is_eq r) (Some e.1) (find name_cmp x.0 es)) (above n x e es (omega arith) (first_part _ _ s))
      ∙ find-gone n x es (omega arith) (second_part _ _ s)

  -- ---- a step of the search in a tree

  pub length-parts : (l : List (Name × X)) (m : Name × X) (r : List (Name × X)) → length (l ++ m ∷ r) ≡ length l + 1 + length r
  length-parts [] m r = omega arith
  length-parts (e ∷ l) m r = let rest = length-parts l m r in omega arith

  pub step-behind : (k : Name) (l : List (Name × X)) (m : Name × X) (r es : List (Name × X)) → l ++ m ∷ r ≡ es → IsOrdered es → is_lt (name_cmp m.0 k) ≡ true
      → IsOrdered r × (count_below k es ≡ length l + 1 + count_below k r) × (length es ≡ length l + 1 + length r)
  step-behind k l m r es is o low =
      let s = subst (λ xs. T (is_sorted name_cmp xs)) (sym is) o.0 in
      let n : length es ≡ length l + 1 + length r = ap length (sym is) ∙ length-parts l m r in
      let few = o.1 in
      ((sorted-behind l m r s, omega (arith, n, few)), ap (count_below k) (sym is) ∙ count_below-behind k l m r s low, n)

  pub step-before : (k : Name) (l : List (Name × X)) (m : Name × X) (r es : List (Name × X)) → l ++ m ∷ r ≡ es → IsOrdered es → is_lt (name_cmp m.0 k) ≡ false
      → IsOrdered l × (count_below k es ≡ count_below k l) × (length es ≡ length l + 1 + length r)
  step-before k l m r es is o high =
      let s = subst (λ xs. T (is_sorted name_cmp xs)) (sym is) o.0 in
      let n : length es ≡ length l + 1 + length r = ap length (sym is) ∙ length-parts l m r in
      let few = o.1 in
      ((sorted-before l m r s, omega (arith, n, few)), ap (count_below k) (sym is) ∙ count_below-before k l m r high, n)

  -- ---- the map of a list in order

  pub entries_of : (es : List (Name × X)) (m : Names X) → from_sorted es ≡ m → IsOrdered es → entries m ≡ es
  entries_of es m e o = ap (λ (n : Names X). entries n) (sym e) ∙ entries-from_sorted name_cmp es o.0

  -- the map whose entries these are
  map_of : (fs : List (Name × X)) (n : Names X) → entries n ≡ fs → T (is_sorted name_cmp fs) × (from_sorted fs ≡ n)
  map_of fs n e =
      let s = subst (λ xs. T (is_sorted name_cmp xs)) e (entries_sorted n) in
      (s, same_entries_map _ _ (entries-from_sorted name_cmp fs s ∙ sym e))

  pub get_of : (es : List (Name × X)) (m : Names X) → from_sorted es ≡ m → IsOrdered es → (q : Name) → get m q ≡ find name_cmp q es
  get_of es m e o q = get-entries m q ∙ ap (find name_cmp q) (entries_of es m e o)

  pub get_at : (es : List (Name × X)) (m : Names X) → from_sorted es ≡ m → IsOrdered es → (q : Name) → get m q ≡ value_at q (slice_get es (count_below q es))
  get_at es m e o q = get_of es m e o q ∙ find-at q es o.0

  pub len_of : (es : List (Name × X)) (m : Names X) → from_sorted es ≡ m → IsOrdered es → length es ≡ len m
  len_of es m e o = ap length (sym (entries_of es m e o)) ∙ sym (len-entries m)

  inserted_of : (es fs : List (Name × X)) (m : Names X) (k : Name) (v : X) → from_sorted es ≡ m → IsOrdered es → put name_cmp k v es ≡ fs → T (is_sorted name_cmp fs) × (from_sorted fs ≡ insert m k v)
  inserted_of es fs m k v e o is = map_of fs (insert m k v) (entries-insert nat_list_cmp_total m k v ∙ ap (put name_cmp k v) (entries_of es m e o) ∙ is)

  pub inserted-new : (es : List (Name × X)) (m : Names X) (k : Name) (v : X) → from_sorted es ≡ m → IsOrdered es → find name_cmp k es ≡ None
      → T (is_sorted name_cmp (placed (count_below k es) (k, v) es)) × (from_sorted (placed (count_below k es) (k, v) es) ≡ insert m k v)
  inserted-new es m k v e o none = inserted_of es _ m k v e o (put-new k v es none)

  pub inserted-again : (es : List (Name × X)) (m : Names X) (k : Name) (v : X) → from_sorted es ≡ m → IsOrdered es → IsSome (find name_cmp k es)
      → T (is_sorted name_cmp (revalued (count_below k es) v es)) × (from_sorted (revalued (count_below k es) v es) ≡ insert m k v)
  inserted-again es m k v e o there = inserted_of es _ m k v e o (put-again k v es o.0 there)

  pub removed_of : (es rest : List (Name × X)) (m : Names X) (n : ℕ) (x : Name × X) → from_sorted es ≡ m → IsOrdered es → n ≤ length rest → es ≡ placed n x rest
      → IsOrdered rest × (from_sorted rest ≡ remove m x.0)
  removed_of es rest m n x e o within is =
      let s = subst (λ xs. T (is_sorted name_cmp xs)) is o.0 in
      let r = sorted-rest n x rest within s in
      let few = o.1 in
      let longer : length es ≡ length rest + 1 = ap length is ∙ length-placed n x rest within in
      let ordered : IsOrdered rest = (r, omega (arith, few, longer)) in
      let back : insert (from_sorted {R = name_cmp} rest) x.0 x.1 ≡ m =
      same_entries_map _ _ (entries-insert nat_list_cmp_total (from_sorted {R = name_cmp} rest) x.0 x.1 ∙ ap (put name_cmp x.0 x.1) (entries-from_sorted name_cmp rest r) ∙ put-there n x rest within s ∙ sym is ∙ sym (entries_of es m e o)) in
      let gone : get (from_sorted {R = name_cmp} rest) x.0 ≡ None = get_of rest _ refl ordered x.0 ∙ find-gone n x rest within s in
      (ordered, sym (remove-inserted (from_sorted {R = name_cmp} rest) x.0 x.1 gone) ∙ ap (λ (j : Names X). remove j x.0) back)

  pub empty_of : (es : List (Name × X)) → es ≡ [] → from_sorted {R = name_cmp} es ≡ empty
  empty_of es e = ap (from_sorted {R = name_cmp}) e ∙ empty_of_len _ (len-entries _ ∙ ap length (entries-from_sorted name_cmp [] tt))

  -- a map has no entries exactly where their number is 0
  pub zero_len_iff : (m : Names X) (n : ℕ) → n ≡ len m → IsTrue (n == 0) ↔ (m ≡ empty)
  zero_len_iff m n e =
      elim (eqb_tells n 0) [
        | inl same ↦ (λ _. empty_of_len m (sym e ∙ same.1), λ _. same.0)
        | inr other ↦ (λ is. absurd (not_true (sym other.0 ∙ is)), λ is. absurd (other.1 (e ∙ (is_empty m).1 is)))
      ]

  -- whether a name is there, by the entry at its place
  pub there_at : (es : List (Name × X)) (k : Name) (n : ℕ) (o : Option (Name × X)) → IsOrdered es → n ≡ count_below k es → o ≡ slice_get es n → is_some (value_at k o) ≡ is_some (find name_cmp k es)
  there_at es k n o ordered at is =
      ap (λ e. is_some (value_at k e)) (is ∙ ap (slice_get es) at) ∙ ap is_some (sym (find-at k es ordered.0))

  pub is_some-value_at : (k : Name) (e : Name × X) → is_some (value_at k (Some e)) ≡ is_eq (name_cmp k e.0)
  is_some-value_at k e = elim (is_eq (name_cmp k e.0)) as (λ b. is_some (cond b (Some e.1) None) ≡ b) [ true ↦ refl | false ↦ refl ]

  -- what `get` answers, by the entry at the name's place
  pub get_seen : (es : List (Name × X)) (m : Names X) (q : Name) (n : ℕ) (o : Option (Name × X)) → from_sorted es ≡ m → IsOrdered es → n ≡ count_below q es → o ≡ slice_get es n → get m q ≡ value_at q o
  get_seen es m q n o e ordered at is = get_at es m e ordered q ∙ sym (ap (value_at q) (is ∙ ap (slice_get es) at))
