-- Ascending lists of numbers, as sets.
--     member-insert, member-remove      who is in after one comes or goes
--     ascending_insert, ascending_remove      the list stays in order
--     rising      it is as a binary search wants it
--     found, inside, absent      a member stands at an index, and what stands at one is a member
--     next_some, next_none      the next number after another
--     length_below      a set of keys of a map isn't larger than the map
use Rattle.std.proofs.Common.{◌≡◌, ◌≢◌, ◌⊎◌, ℕ, suc, ◌+◌, ◌-◌, ◌<◌, ◌≤◌, Bool, true, false, ◌&&◌, ◌||◌, not, nat_lt, List, [], ◌∷◌, length, get_or, take, drop, drop-cons, inl, inr, Option, Some, None, IsSome, is_some, refl, sym, ap, subst, ◌∙◌, arith}
use Rattle.std.specs.Bool.{nat_eq}
use Rattle.std.specs.List.{insert, remove, list_any}
use Rattle.std.specs.Ordering.{nat_cmp}
use Rattle.std.specs.FinMap.{FinMap, get, len}
use Rattle.std.specs.FinMap as map
use Rattle.std.proofs.lemmas.Bool.{eq-eqb, lt-ltb, le-ltb, cases_lt}
use Rattle.std.proofs.lemmas.Bool.Decides.{eqb_tells}
use Rattle.std.proofs.lemmas.List.{take-append-drop}
use Rattle.std.proofs.lemmas.List.Folds.{list_any-append, list_any_at}
use Rattle.std.proofs.lemmas.List.Edits.{length-insert, get_or-insert_below, get_or-insert_at, get_or-insert_above, length-remove, get_or-remove_below, get_or-remove_above}
use Rattle.maps.specs.Halves.{not_true}
use Rattle.maps.specs.Maps.{get-remove-other, len-removed}
use Rattle.maps.specs.Closure.{member}
use Rattle.wait_set.specs.Next.{is_after, IsNext}
use Rattle.wait_set.specs.Numbers.{IsAscending}

or_swap : (a b c : Bool) → (a || (b || c)) ≡ (b || (a || c))
or_swap true true c = refl
or_swap true false c = refl
or_swap false b c = refl

and_false : (a : Bool) → (a && false) ≡ false
and_false true = refl
and_false false = refl

and_true : (a : Bool) → (a && true) ≡ a
and_true true = refl
and_true false = refl

-- ---- members

-- a member stands at an index
pub found : (u : ℕ) (xs : List ℕ) → member u xs ≡ true → (i : ℕ) × (i < length xs) × (get_or xs i 0 ≡ u)
found u [] h = absurd (not_true h)
found u (x ∷ xs) h =
    elim (eqb_tells u x) [
      | inl same ↦ (0, omega arith, sym same.1)
      | inr other ↦
          let rest = found u xs (sym (ap (λ b. b || member u xs) other.0) ∙ h) in
          let within = rest.1 in
          (suc rest.0, omega arith, rest.2)
    ]

-- what stands at an index is a member
pub inside : (u : ℕ) (xs : List ℕ) (i : ℕ) → i < length xs → get_or xs i 0 ≡ u → member u xs ≡ true
inside u xs i h e = list_any_at (nat_eq u) xs i 0 h (eq-eqb u (get_or xs i 0) (sym e))

-- what stands at no index is none
pub absent : (u : ℕ) (xs : List ℕ) → ((i : ℕ) → i < length xs → get_or xs i 0 ≡ u → ⊥) → member u xs ≡ false
absent u xs none =
    elim (member u xs) as (λ b. member u xs ≡ b → b ≡ false) [
      | true ↦ λ e. let at = found u xs e in absurd (none at.0 at.1 at.2)
      | false ↦ λ _. refl
    ] refl

pub member-insert : (u q : ℕ) (xs : List ℕ) (i : ℕ) → member u (insert xs i q) ≡ (nat_eq u q || member u xs)
member-insert u q xs i =
    list_any-append (nat_eq u) (take i xs) (q ∷ drop i xs)
    ∙ or_swap (list_any (nat_eq u) (take i xs)) (nat_eq u q) (list_any (nat_eq u) (drop i xs))
    ∙ ap (λ b. nat_eq u q || b) (sym (list_any-append (nat_eq u) (take i xs) (drop i xs)) ∙ ap (member u) (take-append-drop i xs))

-- one who isn't the one that went
kept_member : (u : ℕ) (xs : List ℕ) (i : ℕ) → i < length xs → nat_eq u (get_or xs i 0) ≡ false → member u (remove xs i) ≡ member u xs
kept_member u xs i h other =
    list_any-append (nat_eq u) (take i xs) (drop (suc i) xs)
    ∙ ap (λ b. list_any (nat_eq u) (take i xs) || (b || list_any (nat_eq u) (drop (suc i) xs))) (sym other)
    ∙ ap (λ ys. list_any (nat_eq u) (take i xs) || list_any (nat_eq u) ys) (sym (drop-cons xs i 0 h))
    ∙ sym (list_any-append (nat_eq u) (take i xs) (drop i xs))
    ∙ ap (member u) (take-append-drop i xs)

-- where an element of the rest stood before
removed_at : (xs : List ℕ) (i k : ℕ) → i < length xs → k < length (remove xs i)
    → (j : ℕ) × (j < length xs) × (j ≢ i) × (get_or (remove xs i) k 0 ≡ get_or xs j 0) × (k ≤ j) × (j ≤ k + 1) × (((k < i) × (j ≡ k)) ⊎ ((i ≤ k) × (j ≡ k + 1)))
removed_at xs i k h l =
    let size = length-remove xs i h in
    elim (cases_lt k i) [
      | inl low ↦ (k, omega arith, (λ e. omega arith), get_or-remove_below xs i 0 k low h, omega arith, omega arith, inl (low, refl))
      | inr high ↦ (k + 1, omega arith, (λ e. omega arith), get_or-remove_above xs i 0 k high h, omega arith, omega arith, inr (high, refl))
    ]

-- no other index of an ascending list has the same number
apart : (xs : List ℕ) → IsAscending xs → (i j : ℕ) → i < length xs → j < length xs → j ≢ i → get_or xs j 0 ≢ get_or xs i 0
apart xs up i j hi hj n e =
    elim (cases_lt i j) [
      | inl low ↦ let less = up.below i j low hj in omega arith
      | inr high ↦ elim (cases_lt j i) [
        | inl low ↦ let less = up.below j i low hi in omega arith
        | inr same ↦ n (omega arith)
      ]
    ]

pub member-remove : (u q : ℕ) (xs : List ℕ) (i : ℕ) → IsAscending xs → i < length xs → get_or xs i 0 ≡ q → member u (remove xs i) ≡ (member u xs && not (nat_eq u q))
member-remove u q xs i up h at =
    elim (eqb_tells u q) [
      | inl same ↦
          absent u (remove xs i) (λ k l e.
          let was = removed_at xs i k h l in
          apart xs up i was.0 h was.1 was.2 (sym was.3 ∙ e ∙ same.1 ∙ sym at))
          ∙ sym (ap (λ b. member u xs && not b) same.0 ∙ and_false (member u xs))
      | inr other ↦
          kept_member u xs i h (ap (nat_eq u) at ∙ other.0)
          ∙ sym (ap (λ b. member u xs && not b) other.0 ∙ and_true (member u xs))
    ]

-- ---- order

-- what stands at an index after an insert
abbrev Placed : List ℕ → ℕ → ℕ → ℕ → Type 0
Placed xs i q k =
    ((k < i) × (get_or (insert xs i q) k 0 ≡ get_or xs k 0))
    ⊎ (((k ≡ i) × (get_or (insert xs i q) k 0 ≡ q))
    ⊎ ((j : ℕ) × (k ≡ j + 1) × (i ≤ j) × (get_or (insert xs i q) k 0 ≡ get_or xs j 0)))

placed : (xs : List ℕ) (i q k : ℕ) → i ≤ length xs → Placed xs i q k
placed xs i q k h =
    elim (cases_lt k i) [
      | inl low ↦ inl (low, get_or-insert_below xs i q 0 k low h)
      | inr high ↦ elim (cases_lt i k) [
        | inl above ↦
            let back : k ≡ (k - 1) + 1 = omega arith in
            let from : i ≤ k - 1 = omega arith in
            inr (inr (k - 1, back, from, ap (λ n. get_or (insert xs i q) n 0) back ∙ get_or-insert_above xs i q 0 (k - 1) from h))
        | inr same ↦
            let here : k ≡ i = omega arith in
            inr (inl (here, ap (λ n. get_or (insert xs i q) n 0) here ∙ get_or-insert_at xs i q 0 h))
      ]
    ]

-- the numbers below the place are below the new one, and those from there on above it
pub ascending_insert : (xs : List ℕ) (i q : ℕ) → IsAscending xs → i ≤ length xs → ((k : ℕ) → k < i → get_or xs k 0 < q)
    → ((k : ℕ) → i ≤ k → k < length xs → q < get_or xs k 0) → IsAscending (insert xs i q)
ascending_insert xs i q up h low high =
    record {
      below = λ a b less within.
          let size = length-insert xs i q h in
          elim (placed xs i q a h) [
            | inl pa ↦ elim (placed xs i q b h) [
              | inl pb ↦ let bound : b < length xs = omega (arith, pb.0) in let step = up.below a b less bound in omega (arith, pa.1, pb.1)
              | inr (inl pb) ↦ let step = low a pa.0 in omega (arith, pa.1, pb.1)
              | inr (inr pb) ↦
                  let bound : pb.0 < length xs = omega (arith, pb.1) in
                  let before : a < pb.0 = omega (arith, pa.0, pb.2) in
                  let step = up.below a pb.0 before bound in
                  omega (arith, pa.1, pb.3)
            ]
            | inr (inl pa) ↦ elim (placed xs i q b h) [
              | inl pb ↦ absurd (omega (arith, pa.0, pb.0))
              | inr (inl pb) ↦ absurd (omega (arith, pa.0, pb.0))
              | inr (inr pb) ↦
                  let bound : pb.0 < length xs = omega (arith, pb.1) in
                  let step = high pb.0 pb.2 bound in
                  omega (arith, pa.1, pb.3)
            ]
            | inr (inr pa) ↦ elim (placed xs i q b h) [
              | inl pb ↦ absurd (omega (arith, pa.1, pa.2, pb.0))
              | inr (inl pb) ↦ absurd (omega (arith, pa.1, pa.2, pb.0))
              | inr (inr pb) ↦
                  let bound : pb.0 < length xs = omega (arith, pb.1) in
                  let before : pa.0 < pb.0 = omega (arith, pa.1, pb.1) in
                  let step = up.below pa.0 pb.0 before bound in
                  omega (arith, pa.3, pb.3)
            ]
          ];
    }

in_order : (i a b ja jb : ℕ) → a < b → ((a < i) × (ja ≡ a)) ⊎ ((i ≤ a) × (ja ≡ a + 1)) → ((b < i) × (jb ≡ b)) ⊎ ((i ≤ b) × (jb ≡ b + 1)) → ja < jb
in_order i a b ja jb less (inl x) (inl y) = omega (arith, x.1, y.1)
in_order i a b ja jb less (inl x) (inr y) = omega (arith, x.1, y.1)
in_order i a b ja jb less (inr x) (inl y) = omega (arith, x.0, x.1, y.0, y.1)
in_order i a b ja jb less (inr x) (inr y) = omega (arith, x.1, y.1)

pub ascending_remove : (xs : List ℕ) (i : ℕ) → IsAscending xs → i < length xs → IsAscending (remove xs i)
ascending_remove xs i up h =
    record {
      below = λ a b less within.
          let first : a < length (remove xs i) = omega arith in
          let wa = removed_at xs i a h first in
          let wb = removed_at xs i b h within in
          let step = up.below wa.0 wb.0 (in_order i a b wa.0 wb.0 less wa.6 wb.6) wb.1 in
          omega (arith, wa.3, wb.3);
    }

pub rising : (xs : List ℕ) → IsAscending xs → (i j : ℕ) → i ≤ j → j < length xs → get_or xs i 0 ≤ get_or xs j 0
rising xs up i j most within =
    elim (cases_lt i j) [
      | inl low ↦ let step = up.below i j low within in omega arith
      | inr high ↦ let same : i ≡ j = omega arith in let here = ap (λ n. get_or xs n 0) same in omega arith
    ]

-- ---- the next number

-- the numbers below the place aren't after `after`, and those from there on are
pub next_some : (xs : List ℕ) (after : Option ℕ) (place : ℕ) → IsAscending xs → place < length xs
    → ((k : ℕ) → k < place → is_after after (get_or xs k 0) ≡ false) → ((k : ℕ) → place ≤ k → k < length xs → is_after after (get_or xs k 0) ≡ true)
    → IsNext (λ q. member q xs) after (Some (get_or xs place 0))
next_some xs after place up within before behind = (
  behind place (omega arith) within,
  inside (get_or xs place 0) xs place within refl,
  λ t later there.
      let at = found t xs there in
      elim (cases_lt at.0 place) [
        | inl low ↦ absurd (not_true (sym (before at.0 low) ∙ ap (is_after after) at.2 ∙ later))
        | inr high ↦ let most = rising xs up place at.0 high at.1 in omega (arith, at.2)
      ],
)

pub next_none : (xs : List ℕ) (after : Option ℕ) → ((k : ℕ) → k < length xs → is_after after (get_or xs k 0) ≡ false) → IsNext (λ q. member q xs) after None
next_none xs after before = λ t later. absent t xs (λ k within e. not_true (sym (before k within) ∙ ap (is_after after) e ∙ later))

-- ---- how many there are

rest_ascends : (x : ℕ) (xs : List ℕ) → IsAscending (x ∷ xs) → IsAscending xs
rest_ascends x xs up = record { below = λ i j less within. up.below (suc i) (suc j) (omega arith) (omega arith) }

-- the first isn't among the rest
first_apart : (x : ℕ) (xs : List ℕ) → IsAscending (x ∷ xs) → member x xs ≡ false
first_apart x xs up = absent x xs (λ i within e. let less = up.below 0 (suc i) (omega arith) (omega arith) in omega arith)

-- each number is another than those behind it
abbrev AllApart : List ℕ → Type 0
AllApart [] = Unit {0}
AllApart (x ∷ xs) = (member x xs ≡ false) × AllApart xs

all_apart : (xs : List ℕ) → IsAscending xs → AllApart xs
all_apart [] up = tt
all_apart (x ∷ xs) up = (first_apart x xs up, all_apart xs (rest_ascends x xs up))

other_of : (q x : ℕ) (xs : List ℕ) → member q xs ≡ true → member x xs ≡ false → q ≢ x
other_of q x xs there none e = not_true (sym none ∙ ap (λ y. member y xs) (sym e) ∙ there)

one_more : (X : Type 0) (m : FinMap nat_cmp X) (x : ℕ) → IsSome (get m x) → len (map.remove m x) + 1 ≡ len m
one_more X m x some =
    elim (get m x) as (λ o. get m x ≡ o → IsSome o → len (map.remove m x) + 1 ≡ len m) [
      | None ↦ λ _ h. absurd (not_true h)
      | Some v ↦ λ e _. len-removed m x v e
    ] refl some

keys_below : (X : Type 0) (xs : List ℕ) (m : FinMap nat_cmp X) → AllApart xs → ((q : ℕ) → member q xs ≡ true → IsSome (get m q)) → length xs ≤ len m
keys_below X [] m all keys = omega arith
keys_below X (x ∷ xs) m all keys =
    let here = keys x (ap (λ b. b || member x xs) (eq-eqb x x refl)) in
    let rest : length xs ≤ len (map.remove m x) =
    keys_below X xs (map.remove m x) all.1
    (λ q there.
    ap is_some (get-remove-other m x q (other_of q x xs there all.0))
    ∙ keys q (ap (λ b. nat_eq q x || b) there ∙ or_true (nat_eq q x))) in
    let size = one_more X m x here in
    omega arith
  where
    or_true : (b : Bool) → (b || true) ≡ true
    or_true true = refl
    or_true false = refl

pub length_less : (X : Type 0) (xs : List ℕ) (m : FinMap nat_cmp X) (x : ℕ) → IsAscending xs → ((q : ℕ) → member q xs ≡ true → IsSome (get m q))
    → IsSome (get m x) → member x xs ≡ false → length xs < len m
length_less X xs m x up keys here none =
    let most = keys_below X (x ∷ xs) m (none, all_apart xs up)
    (λ q there. elim (eqb_tells q x) [
      | inl same ↦ subst (λ y. IsSome (get m y)) (sym same.1) here
      | inr other ↦ keys q (sym (ap (λ b. b || member q xs) other.0) ∙ there)
    ]) in
    omega arith

-- ---- what changes nothing

-- to put in what is in
pub not_there : (q number : ℕ) (xs : List ℕ) → member number xs ≡ true → member q xs ≡ (nat_eq q number || member q xs)
not_there q number xs there =
    elim (eqb_tells q number) [
      | inl same ↦ ap (λ y. member y xs) same.1 ∙ there ∙ sym (ap (λ b. b || member q xs) same.0)
      | inr other ↦ sym (ap (λ b. b || member q xs) other.0)
    ]

-- to take out what isn't
pub not_here : (q number : ℕ) (xs : List ℕ) → member number xs ≡ false → member q xs ≡ (member q xs && not (nat_eq q number))
not_here q number xs none =
    elim (eqb_tells q number) [
      | inl same ↦ ap (λ y. member y xs) same.1 ∙ none ∙ sym (ap (λ b. member q xs && not b) same.0 ∙ and_false (member q xs))
      | inr other ↦ sym (ap (λ b. member q xs && not b) other.0 ∙ and_true (member q xs))
    ]

-- a number between those below it and those above it isn't in
pub between : (xs : List ℕ) (i q : ℕ) → ((k : ℕ) → k < i → get_or xs k 0 < q) → ((k : ℕ) → i ≤ k → k < length xs → q < get_or xs k 0) → member q xs ≡ false
between xs i q low high =
    absent q xs (λ k within e. elim (cases_lt k i) [
      | inl before ↦ let less = low k before in omega arith
      | inr behind ↦ let more = high k behind within in omega arith
    ])

-- ---- where a search ends

pub before_ok : (xs : List ℕ) (number place : ℕ) → IsAscending xs → place < length xs → get_or xs place 0 ≡ number
    → (k : ℕ) → k < place + 1 → nat_lt number (get_or xs k 0) ≡ false
before_ok xs number place up within at k below =
    let most = rising xs up k place (omega arith) within in
    le-ltb number (get_or xs k 0) (omega arith)

pub before_err : (xs : List ℕ) (number k : ℕ) → get_or xs k 0 < number → nat_lt number (get_or xs k 0) ≡ false
before_err xs number k less = le-ltb number (get_or xs k 0) (omega arith)

pub behind_err : (xs : List ℕ) (number k : ℕ) → number < get_or xs k 0 → nat_lt number (get_or xs k 0) ≡ true
behind_err xs number k more = lt-ltb number (get_or xs k 0) more
