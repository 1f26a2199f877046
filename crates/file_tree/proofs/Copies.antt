-- Maps that are made of others, one entry after another.
use Rattle.std.proofs.Common.{◌≡◌, ◌≢◌, ℕ, ◌+◌, ◌<◌, ◌≤◌, ◌&&◌, nat_lt, Bool, true, false, cond, T, inl, inr, List, [], ◌∷◌, Option, None, Some, is_some, Less, Equal, Greater, refl, sym, ap, ◌∙◌, arith}
use Rattle.std.proofs.lemmas.Bool.{false≢true, lt-ltb, le-ltb, ltb-true}
use Rattle.std.proofs.lemmas.Bool.Decides.{eqb_tells, leb_tells}
use Rattle.std.specs.declared.cmp.Ordering.{Ordering}
use Rattle.std.specs.Ordering.{nat_cmp, eq_by_cmp, is_eq, is_lt}
use Rattle.std.specs.FinMap.{FinMap, empty, get, insert, entries, find, is_sorted, entries_sorted, get-empty, get-entries}
use Rattle.std.specs.FinMap.Entries.{below_all}
use Rattle.maps.specs.Maps.{passes, least_key, least_key-entry, least_key-least, least_key-none, get-insert-same, get-insert-other, same_numbers}
use Rattle.maps.specs.Halves.{first_part, second_part}
use Rattle.maps.specs.Names as names
use Rattle.maps.specs.Names.{Name, Names, name_cmp, tie_same, tie_other, same_or_not, same_names}
use Rattle.tree_model.specs.Changes.{is_above}

none_either : {A : Type 0} (b : Bool) → cond {A = Option A} b None None ≡ None
none_either true = refl
none_either false = refl

-- ---- maps from numbers

-- how many numbers are not above this one
abbrev pub passed : Option ℕ → ℕ
passed None = 0
passed (Some k) = k + 1

pub above_passed : (last : Option ℕ) (k : ℕ) → is_above last k ≡ true → passed last ≤ k
above_passed None k above = omega arith
above_passed (Some l) k above = let less = ltb-true l k above in omega arith

above_of_passed : (last : Option ℕ) (q : ℕ) → passed last ≤ q → is_above last q ≡ true
above_of_passed None q from = refl
above_of_passed (Some l) q from = lt-ltb l q (omega arith)

module _ {X : Type 0} where
  -- up to `last` it is the same, and above it has nothing
  abbrev pub CopiesUpTo : Option ℕ → FinMap nat_cmp X → FinMap nat_cmp X → Type 0
  CopiesUpTo last m made = (q : ℕ) → get made q ≡ cond (is_above last q) None (get m q)

  pub copies_none : (m : FinMap nat_cmp X) → CopiesUpTo None m empty
  copies_none m q = get-empty nat_cmp q

  module _ (last : Option ℕ) (m made : FinMap nat_cmp X) (so_far : CopiesUpTo last m made) where
    -- above the last number there is none
    none_past : least_key (λ q _. is_above last q) m ≡ None → (q : ℕ) → is_above last q ≡ true → get m q ≡ None
    none_past none q above =
        elim (get m q) as (λ o. get m q ≡ o → o ≡ None) [
          | None ↦ λ _. refl
          | Some x ↦ λ e. absurd (false≢true (sym (least_key-none (λ q _. is_above last q) m none q) ∙ ap (passes (λ q _. is_above last q) q) e ∙ above))
        ] refl

    pub copies_all : least_key (λ q _. is_above last q) m ≡ None → made ≡ m
    copies_all none =
        same_numbers made m (λ q. so_far q ∙ elim (is_above last q) as (λ b. is_above last q ≡ b → cond b None (get m q) ≡ get m q) [
          | true ↦ λ above. sym (none_past none q above)
          | false ↦ λ _. refl
        ] refl)

    module _ (k : ℕ) (next : least_key (λ q _. is_above last q) m ≡ Some k) where
      pub next_there : (x : X) × (get m k ≡ Some x) × (is_above last k ≡ true)
      next_there = least_key-entry (λ q _. is_above last q) m k next

      pub next_from : passed last ≤ k
      next_from = above_passed last k next_there.2

      pub next_new : get made k ≡ None
      next_new = so_far k ∙ ap (λ b. cond b None (get m k)) next_there.2

      -- it has one, so there is no gap
      pub no_gap : None ≡ get m k → ⊥
      no_gap gap = false≢true (ap is_some (gap ∙ next_there.1))

      -- another number that is above the last one and has an entry is above the next one
      above_next : (q : ℕ) (x : X) → q ≢ k → get m q ≡ Some x → is_above last q ≡ nat_lt k q
      above_next q x other here = elim (leb_tells (passed last) q) [
        | inl from ↦
            let up = least_key-least (λ q _. is_above last q) m k next q (ap (passes (λ q _. is_above last q) q) here ∙ above_of_passed last q from.1) in
            above_of_passed last q from.1 ∙ sym (lt-ltb k q (let apart = other in omega arith))
        | inr before ↦
            let from = next_from in
            not_above q before.1 ∙ sym (le-ltb k q (omega arith))
      ]
        where
          not_above : (q : ℕ) → q < passed last → is_above last q ≡ false
          not_above q before = elim (is_above last q) as (λ b. is_above last q ≡ b → b ≡ false) [
            | true ↦ λ above. let from = above_passed last q above in absurd (omega arith)
            | false ↦ λ _. refl
          ] refl

      other_entry : (q : ℕ) → q ≢ k → cond (is_above last q) None (get m q) ≡ cond (nat_lt k q) None (get m q)
      other_entry q other = elim (get m q) as (λ o. get m q ≡ o → cond (is_above last q) None o ≡ cond (nat_lt k q) None o) [
        | None ↦ λ _. none_either (is_above last q) ∙ sym (none_either (nat_lt k q))
        | Some x ↦ λ here. ap (λ b. cond b None (Some x)) (above_next q x other here)
      ] refl

      -- where the next entry comes
      pub copies_one : (x : X) → get m k ≡ Some x → CopiesUpTo (Some k) m (insert made k x)
      copies_one x here q = elim (eqb_tells q k) [
        | inl same ↦
            ap (get (insert made k x)) same.1 ∙ get-insert-same made k x ∙ sym here ∙ ap (get m) (sym same.1)
            ∙ ap (λ b. cond b None (get m q)) (sym (le-ltb k q (let is = same.1 in omega arith)))
        | inr other ↦ get-insert-other made k x q other.1 ∙ so_far q ∙ other_entry q other.1
      ]

-- ---- maps from names

not_tied : (r : Ordering) → T (is_lt r) → is_eq r ≡ false
not_tied Less h = refl
not_tied Equal h = absurd h
not_tied Greater h = refl

module _ {X : Type 0} where
  -- the first of two, where it is there
  abbrev pub first_there : Option X → Option X → Option X
  first_there None o = o
  first_there (Some x) o = Some x

  -- what the map has is among the entries that are left, or was made; and those that are left stand in order
  pub record CopiesBut (left : List (Name × X)) (m made : Names X) : Type 0 where
    pub found : (q : Name) → get m q ≡ first_there (find name_cmp q left) (get made q)
    pub sorted : T (is_sorted name_cmp left)

  pub copies_no_name : (m : Names X) → CopiesBut (entries m) m empty
  copies_no_name m = record {
    found = λ q. get-entries m q ∙ none_else (find name_cmp q (entries m)) (get empty q) (get-empty name_cmp q);
    sorted = entries_sorted m;
  }
    where
      none_else : (o other : Option X) → other ≡ None → o ≡ first_there o other
      none_else None other is = sym is
      none_else (Some x) other is = refl

  -- a name below all entries is not found in them
  none_below : (k : Name) (es : List (Name × X)) → T (below_all name_cmp k es) → find name_cmp k es ≡ None
  none_below k [] below = refl
  none_below k (e ∷ es) below =
      ap (λ b. cond b (Some e.1) (find name_cmp k es)) (not_tied (name_cmp k e.0) (first_part _ _ below)) ∙ none_below k es (second_part _ _ below)

  module _ (e : Name × X) (left : List (Name × X)) (m made : Names X) (so_far : CopiesBut (e ∷ left) m made) where
    pub copies_one_name : CopiesBut left m (insert made e.0 e.1)
    copies_one_name = record {
      found = λ q. so_far.found q ∙ elim (same_or_not q e.0) [
        | inl same ↦
            ap (λ b. first_there (cond b (Some e.1) (find name_cmp q left)) (get made q)) (ap (eq_by_cmp name_cmp q) (sym same) ∙ tie_same q)
            ∙ sym (ap (λ o. first_there o (get (insert made e.0 e.1) q)) (ap (λ x. find name_cmp x left) same
            ∙ none_below e.0 left (first_part _ _ so_far.sorted))
            ∙ ap (get (insert made e.0 e.1)) same ∙ names.get-insert-same made e.0 e.1)
        | inr other ↦
            ap (λ b. first_there (cond b (Some e.1) (find name_cmp q left)) (get made q)) (tie_other q e.0 other)
            ∙ ap (first_there (find name_cmp q left)) (sym (names.get-insert-other made e.0 e.1 q other))
      ];
      sorted = second_part _ _ so_far.sorted;
    }

  pub copies_all_names : (m made : Names X) → CopiesBut [] m made → made ≡ m
  copies_all_names m made so_far = same_names made m (λ q. sym (so_far.found q))
