-- Numbers in lists one after another.
--     rest_taken      what stands behind the first n, as many as there are
--     list_at, list_set, list_split, list_joined, list_gone      the numbers in all, seen from the list at i
--     blocks_few      how many lists there are at most
--     first_low, first_high      the first number of a list is above those before the list, and not above those from it on
use Rattle.std.proofs.Common.{◌≡◌, ◌⊎◌, ℕ, zero, suc, ◌+◌, ◌-◌, ◌*◌, ◌<◌, ◌≤◌, Bool, true, false, ◌&&◌, ◌||◌, not, nat_lt, Some, None, List, [], ◌∷◌, ◌++◌, length, get_or, set, take, drop, append_assoc, append-nil, inl, inr, refl, sym, ap, subst, ◌∙◌, arith}
use Rattle.std.specs.Bool.{nat_eq}
use Rattle.std.specs.List.{insert, remove, concat}
use Rattle.std.proofs.lemmas.Bool.{cases_lt, ltb-true, lt-ltb}
use Rattle.std.proofs.lemmas.Bool.Decides.{eqb_tells}
use Rattle.std.proofs.lemmas.List.{take_all, length-drop, length-set, length-append, take-append-drop, take-set, drop-set-lt, take_more, take_more_set, drop_more, get_or-set_same, get_or_append_left, get_or-append-add, take-append-le}
use Rattle.std.proofs.Math.Seq.{drop-nil}
use Rattle.std.proofs.lemmas.List.Folds.{list_any-append, concat-append}
use Rattle.std.proofs.lemmas.List.Edits.{length-remove}
use Rattle.maps.specs.Halves.{not_true}
use Rattle.maps.specs.Closure.{member}
use Rattle.wait_set.specs.Next.{IsNext}
use Rattle.wait_set.specs.Numbers.{IsAscending, IsPacked, IsPlace, block, joined_at}
use Rattle.wait_set.proofs.Ascending.{rising, inside, found, member-insert, member-remove, ascending_insert, ascending_remove}

pub rest_taken : (n : ℕ) (xs : List ℕ) → take (length xs - n) (drop n xs) ≡ drop n xs
rest_taken n xs = take_all (length xs - n) (drop n xs) (let size = length-drop n xs in omega arith)

-- ---- all numbers, seen from one list

pub list_at : (bs : List (List ℕ)) (i : ℕ) → i < length bs → concat bs ≡ concat (take i bs) ++ (block bs i ++ concat (drop (i + 1) bs))
list_at bs i h =
    ap concat (sym (take-append-drop i bs)) ∙ concat-append (take i bs) (drop i bs)
    ∙ ap (λ (ys : List (List ℕ)). concat (take i bs) ++ concat ys) (drop_more bs i [] h)

pub list_set : (bs : List (List ℕ)) (i : ℕ) (x : List ℕ) → i < length bs → concat (set bs i x) ≡ concat (take i bs) ++ (x ++ concat (drop (i + 1) bs))
list_set bs i x h =
    list_at (set bs i x) i (let size = length-set bs i x in omega arith)
    ∙ ap (λ (ys : List (List ℕ)). concat ys ++ (block (set bs i x) i ++ concat (drop (i + 1) (set bs i x)))) (take-set bs i x)
    ∙ ap (λ ys. concat (take i bs) ++ (ys ++ concat (drop (i + 1) (set bs i x)))) (get_or-set_same bs i x [] h)
    ∙ ap (λ (ys : List (List ℕ)). concat (take i bs) ++ (x ++ concat ys)) (drop-set-lt (i + 1) bs i x (omega arith))

two_of_three : (a b c : List ℕ) → a ++ (b ++ c) ≡ (a ++ b) ++ c
two_of_three a b c = sym (append_assoc a b c)

-- a list that is made two
pub list_split : (bs : List (List ℕ)) (i : ℕ) (low high : List ℕ) → i < length bs → low ++ high ≡ block bs i → concat (insert (set bs i low) (i + 1) high) ≡ concat bs
list_split bs i low high h both =
    concat-append (take (i + 1) (set bs i low)) (high ∷ drop (i + 1) (set bs i low))
    ∙ ap (λ (ys : List (List ℕ)). concat ys ++ (high ++ concat (drop (i + 1) (set bs i low)))) (take_more_set bs i low h)
    ∙ ap (λ ys. ys ++ (high ++ concat (drop (i + 1) (set bs i low)))) (concat-append (take i bs) (low ∷ []) ∙ ap (λ ys. concat (take i bs) ++ ys) (append-nil low))
    ∙ ap (λ (ys : List (List ℕ)). (concat (take i bs) ++ low) ++ (high ++ concat ys)) (drop-set-lt (i + 1) bs i low (omega arith))
    ∙ append_assoc (concat (take i bs)) low (high ++ concat (drop (i + 1) bs))
    ∙ ap (λ ys. concat (take i bs) ++ ys) (two_of_three low high (concat (drop (i + 1) bs)))
    ∙ ap (λ ys. concat (take i bs) ++ (ys ++ concat (drop (i + 1) bs))) both
    ∙ sym (list_at bs i h)

-- a list that is taken out
pub list_gone : (bs : List (List ℕ)) (i : ℕ) → concat (remove bs i) ≡ concat (take i bs) ++ concat (drop (i + 1) bs)
list_gone bs i =
    concat-append (take i bs) (drop (suc i) bs)
    ∙ (let next : suc i ≡ i + 1 = omega arith in ap (λ n. concat (take i bs) ++ concat (drop n bs)) next)

pub length-take : {X : Type 0} (n : ℕ) (bs : List X) → n ≤ length bs → length (take n bs) ≡ n
length-take n bs h =
    let whole = ap (λ ys. length ys) (take-append-drop n bs) in
    let sum = length-append (take n bs) (drop n bs) in
    let rest = length-drop n bs in
    omega arith

pub drop_past : (n m : ℕ) (xs ys : List (List ℕ)) → length xs ≡ n → drop (n + m) (xs ++ ys) ≡ drop m ys
drop_past n m [] ys e = let none : n + m ≡ m = omega arith in ap (λ k. drop k ys) none
drop_past zero m (x ∷ xs) ys e = absurd (omega arith)
drop_past (suc n) m (x ∷ xs) ys e = let next : suc n + m ≡ suc (n + m) = omega arith in ap (λ k. drop k (x ∷ (xs ++ ys))) next ∙ drop_past n m xs ys (omega arith)

drop_whole : (n : ℕ) (xs ys : List (List ℕ)) → length xs ≡ n → drop n (xs ++ ys) ≡ ys
drop_whole n xs ys e = let none : n ≡ n + 0 = omega arith in ap (λ k. drop k (xs ++ ys)) none ∙ drop_past n 0 xs ys e

pub take_whole : (n : ℕ) (xs ys : List (List ℕ)) → length xs ≡ n → take n (xs ++ ys) ≡ xs
take_whole n xs ys e = take-append-le n xs ys (omega arith) ∙ take_all n xs (omega arith)

-- two lists that are made one
pub list_joined : (bs : List (List ℕ)) (i : ℕ) → i + 1 < length bs → concat (joined_at bs i) ≡ concat bs
list_joined bs i h =
    let two = block bs i ++ block bs (i + 1) in
    let size : length (take (i + 1) bs) ≡ i + 1 = length-take (i + 1) bs (omega arith) in
    let whole : take (i + 1) bs ++ drop (suc (i + 1)) bs ≡ take i bs ++ (block bs i ∷ drop (suc (i + 1)) bs) =
    ap (λ (ys : List (List ℕ)). ys ++ drop (suc (i + 1)) bs) (take_more bs i [] (omega arith)) ∙ append_assoc (take i bs) (block bs i ∷ []) (drop (suc (i + 1)) bs) in
    let before : take i (remove bs (i + 1)) ≡ take i bs = ap (take i) whole ∙ take_whole i (take i bs) (block bs i ∷ drop (suc (i + 1)) bs) (length-take i bs (omega arith)) in
    let behind : drop (i + 1) (remove bs (i + 1)) ≡ drop (suc (i + 1)) bs = drop_whole (i + 1) (take (i + 1) bs) (drop (suc (i + 1)) bs) size in
    let next : suc (i + 1) ≡ i + 1 + 1 = omega arith in
    list_set (remove bs (i + 1)) i two (let fewer = length-remove bs (i + 1) h in omega arith)
    ∙ ap (λ (ys : List (List ℕ)). concat ys ++ (two ++ concat (drop (i + 1) (remove bs (i + 1))))) before
    ∙ ap (λ (ys : List (List ℕ)). concat (take i bs) ++ (two ++ concat ys)) behind
    ∙ ap (λ ys. concat (take i bs) ++ ys) (append_assoc (block bs i) (block bs (i + 1)) (concat (drop (suc (i + 1)) bs)))
    ∙ ap (λ n. concat (take i bs) ++ (block bs i ++ (block bs (i + 1) ++ concat (drop n bs)))) next
    ∙ ap (λ (ys : List (List ℕ)). concat (take i bs) ++ (block bs i ++ concat ys)) (sym (drop_more bs (i + 1) [] h))
    ∙ sym (list_at bs i (omega arith))

-- ---- how many lists there are

rest_many : (x : List ℕ) (bs : List (List ℕ)) → ((i : ℕ) → i + 1 < length (x ∷ bs) → 33 ≤ length (block (x ∷ bs) i) + length (block (x ∷ bs) (i + 1)))
    → (i : ℕ) → i + 1 < length bs → 33 ≤ length (block bs i) + length (block bs (i + 1))
rest_many x bs many i h =
    let next : suc i + 1 ≡ suc (i + 1) = omega arith in
    subst (λ n. 33 ≤ length (block bs i) + length (block (x ∷ bs) n)) next (many (suc i) (omega arith))

few : (x : List ℕ) (bs : List (List ℕ)) → ((i : ℕ) → i + 1 < length (x ∷ bs) → 33 ≤ length (block (x ∷ bs) i) + length (block (x ∷ bs) (i + 1)))
    → 33 * length bs + length x ≤ 2 * length (concat (x ∷ bs))
few x [] many = let size = length-append x [] in omega arith
few x (y ∷ bs) many =
    let rest = few y bs (rest_many x (y ∷ bs) many) in
    let here = many 0 (omega arith) in
    let size = length-append x (concat (y ∷ bs)) in
    omega arith

pub blocks_few : (bs : List (List ℕ)) (total : ℕ) → IsPacked bs → length (concat bs) < (total - 1) * 16 → length bs < total
blocks_few [] total packed less = omega arith
blocks_few (x ∷ bs) total packed less = let bound = few x bs packed.many in omega arith

-- ---- members

pub members_at : (bs : List (List ℕ)) (i u : ℕ) → i < length bs → member u (concat bs) ≡ (member u (concat (take i bs)) || (member u (block bs i) || member u (concat (drop (i + 1) bs))))
members_at bs i u h =
    ap (member u) (list_at bs i h) ∙ list_any-append (nat_eq u) (concat (take i bs)) (block bs i ++ concat (drop (i + 1) bs))
    ∙ ap (λ b. member u (concat (take i bs)) || b) (list_any-append (nat_eq u) (block bs i) (concat (drop (i + 1) bs)))

pub members_of : (a b c : List ℕ) (u : ℕ) → member u (a ++ (b ++ c)) ≡ (member u a || (member u b || member u c))
members_of a b c u = list_any-append (nat_eq u) a (b ++ c) ∙ ap (λ m. member u a || m) (list_any-append (nat_eq u) b c)

unless : (b : Bool) → (b ≡ true → ⊥) → b ≡ false
unless true h = absurd (h refl)
unless false h = refl

-- the number itself is in the list at its place or nowhere
pub member_here : (bs : List (List ℕ)) (number i : ℕ) → IsPlace bs number i → member number (concat bs) ≡ member number (block bs i)
member_here bs number i at =
    members_at bs i number at.within
    ∙ ap (λ b. b || (member number (block bs i) || member number (concat (drop (i + 1) bs)))) (unless (member number (concat (take i bs))) (λ h. let less = at.low number h in omega arith))
    ∙ ap (λ b. member number (block bs i) || b) (unless (member number (concat (drop (i + 1) bs))) (λ h. let more = at.high number h in omega arith))
    ∙ or_none (member number (block bs i))
  where
    or_none : (b : Bool) → (b || false) ≡ b
    or_none true = refl
    or_none false = refl

-- ---- ascending lists, one behind another

pub ascends_first : (xs ys : List ℕ) → IsAscending (xs ++ ys) → IsAscending xs
ascends_first xs ys up =
    record {
      below = λ i j less within.
          let size = length-append xs ys in
          let step = up.below i j less (omega arith) in
          let one = get_or_append_left xs ys 0 i (omega arith) in
          let two = get_or_append_left xs ys 0 j within in
          omega arith;
    }

pub ascends_second : (xs ys : List ℕ) → IsAscending (xs ++ ys) → IsAscending ys
ascends_second xs ys up =
    record {
      below = λ i j less within.
          let size = length-append xs ys in
          let step = up.below (length xs + i) (length xs + j) (omega arith) (omega arith) in
          let one = get_or-append-add xs ys i 0 in
          let two = get_or-append-add xs ys j 0 in
          omega arith;
    }

pub ascends_across : (xs ys : List ℕ) → IsAscending (xs ++ ys) → (u v : ℕ) → member u xs ≡ true → member v ys ≡ true → u < v
ascends_across xs ys up u v here there =
    let a = found u xs here in
    let b = found v ys there in
    let size = length-append xs ys in
    let low = a.1 in
    let high = b.1 in
    let step = up.below a.0 (length xs + b.0) (omega arith) (omega arith) in
    let one = get_or_append_left xs ys 0 a.0 low in
    let two = get_or-append-add xs ys b.0 0 in
    omega (arith, a.2, b.2)

pub ascends_both : (xs ys : List ℕ) → IsAscending xs → IsAscending ys → ((u v : ℕ) → member u xs ≡ true → member v ys ≡ true → u < v) → IsAscending (xs ++ ys)
ascends_both xs ys first second across =
    record {
      below = λ i j less within.
          let size = length-append xs ys in
          elim (cases_lt j (length xs)) [
            | inl low ↦
                let step = first.below i j less low in
                let one = get_or_append_left xs ys 0 i (omega arith) in
                let two = get_or_append_left xs ys 0 j low in
                omega arith
            | inr high ↦
                let back : length xs + (j - length xs) ≡ j = omega arith in
                let two : get_or (xs ++ ys) j 0 ≡ get_or ys (j - length xs) 0 = ap (λ k. get_or (xs ++ ys) k 0) (sym back) ∙ get_or-append-add xs ys (j - length xs) 0 in
                let inner : j - length xs < length ys = omega arith in
                elim (cases_lt i (length xs)) [
                  | inl low ↦
                      let one = get_or_append_left xs ys 0 i low in
                      let step = across (get_or xs i 0) (get_or ys (j - length xs) 0) (inside (get_or xs i 0) xs i low refl) (inside (get_or ys (j - length xs) 0) ys (j - length xs) inner refl) in
                      omega arith
                  | inr above ↦
                      let back_i : length xs + (i - length xs) ≡ i = omega arith in
                      let one : get_or (xs ++ ys) i 0 ≡ get_or ys (i - length xs) 0 = ap (λ k. get_or (xs ++ ys) k 0) (sym back_i) ∙ get_or-append-add xs ys (i - length xs) 0 in
                      let step = second.below (i - length xs) (j - length xs) (omega arith) inner in
                      omega arith
                ]
          ];
    }

-- the middle of three is another one
pub ascends_anew : (a b c new : List ℕ) → IsAscending (a ++ (b ++ c)) → IsAscending new
    → ((u v : ℕ) → member v new ≡ true → member u a ≡ true → u < v) → ((v u : ℕ) → member v new ≡ true → member u c ≡ true → v < u) → IsAscending (a ++ (new ++ c))
ascends_anew a b c new up middle low high =
    ascends_both a (new ++ c) (ascends_first a (b ++ c) up)
    (ascends_both new c middle (ascends_second b c (ascends_second a (b ++ c) up)) (λ u v here there. high u v here there))
    (λ u v here there. elim (split_or (member v new) (member v c) (sym (list_any-append (nat_eq v) new c) ∙ there)) [
      | inl one ↦ low u v one here
      | inr two ↦ ascends_across a (b ++ c) up u v here (list_any-append (nat_eq v) b c ∙ ap (λ m. member v b || m) two ∙ or_true (member v b))
    ])
  where
    split_or : (p q : Bool) → (p || q) ≡ true → (p ≡ true) ⊎ (q ≡ true)
    split_or true q h = inl refl
    split_or false q h = inr h

    or_true : (b : Bool) → (b || true) ≡ true
    or_true true = refl
    or_true false = refl

-- ---- the first number of a list

halves : (bs : List (List ℕ)) (i : ℕ) → IsPacked bs → IsAscending (concat (take i bs) ++ concat (drop i bs))
halves bs i packed = subst IsAscending (ap concat (sym (take-append-drop i bs)) ∙ concat-append (take i bs) (drop i bs)) packed.ascending

first_of : (bs : List (List ℕ)) (i : ℕ) → i < length bs → 0 < length (block bs i) → (0 < length (concat (drop i bs))) × (get_or (concat (drop i bs)) 0 0 ≡ get_or (block bs i) 0 0)
first_of bs i h some =
    let is : concat (drop i bs) ≡ block bs i ++ concat (drop (i + 1) bs) = ap (λ (ys : List (List ℕ)). concat ys) (drop_more bs i [] h) in
    let size = length-append (block bs i) (concat (drop (i + 1) bs)) in
    let whole = ap (λ (ys : List ℕ). length ys) is in
    (omega arith, ap (λ (ys : List ℕ). get_or ys 0 0) is ∙ get_or_append_left (block bs i) (concat (drop (i + 1) bs)) 0 0 some)

pub first_low : (bs : List (List ℕ)) (i u : ℕ) → IsPacked bs → i < length bs → member u (concat (take i bs)) ≡ true → u < get_or (block bs i) 0 0
first_low bs i u packed h there =
    let first = first_of bs i h (packed.some i h) in
    ascends_across (concat (take i bs)) (concat (drop i bs)) (halves bs i packed) u (get_or (block bs i) 0 0) there
    (inside (get_or (block bs i) 0 0) (concat (drop i bs)) 0 first.0 first.1)

pub first_high : (bs : List (List ℕ)) (i u : ℕ) → IsPacked bs → i < length bs → member u (concat (drop i bs)) ≡ true → get_or (block bs i) 0 0 ≤ u
first_high bs i u packed h there =
    let first = first_of bs i h (packed.some i h) in
    let at = found u (concat (drop i bs)) there in
    let step = rising (concat (drop i bs)) (ascends_second (concat (take i bs)) (concat (drop i bs)) (halves bs i packed)) 0 at.0 (omega arith) at.1 in
    omega (arith, first.1, at.2)

-- one list ascends
pub block_ascends : (bs : List (List ℕ)) (i : ℕ) → IsPacked bs → i < length bs → IsAscending (block bs i)
block_ascends bs i packed h =
    ascends_first (block bs i) (concat (drop (i + 1) bs)) (ascends_second (concat (take i bs)) (block bs i ++ concat (drop (i + 1) bs)) (subst IsAscending (list_at bs i h) packed.ascending))

pub drop_all : (n : ℕ) (bs : List (List ℕ)) → length bs ≤ n → drop n bs ≡ []
drop_all n [] h = drop-nil n
drop_all zero (x ∷ bs) h = absurd (omega arith)
drop_all (suc n) (x ∷ bs) h = drop_all n bs (omega arith)

pub place_found : (bs : List (List ℕ)) (number i high : ℕ) → IsPacked bs → i < length bs → high ≡ i + 1 → (i ≡ 0) ⊎ (get_or (block bs i) 0 0 ≤ number)
    → (high ≡ length bs) ⊎ (number < get_or (block bs high) 0 0) → IsPlace bs number i
place_found bs number i high packed h next below above =
    record {
      within = h;
      low = λ u there. elim below [
        | inl start ↦ absurd (not_true (ap (λ n. member u (concat (take n bs))) (sym start) ∙ there))
        | inr most ↦ let less = first_low bs i u packed h there in omega arith
      ];
      high = λ u there. elim above [
        | inl all ↦ absurd (not_true (sym (ap (λ (ys : List (List ℕ)). member u (concat ys)) (drop_all (i + 1) bs (omega arith))) ∙ there))
        | inr more ↦ elim (cases_lt (i + 1) (length bs)) [
          | inl inner ↦
              let least = first_high bs (i + 1) u packed inner there in
              let is : get_or (block bs high) 0 0 ≡ get_or (block bs (i + 1)) 0 0 = ap (λ n. get_or (block bs n) 0 0) next in
              omega arith
          | inr none ↦ absurd (not_true (sym (ap (λ (ys : List (List ℕ)). member u (concat ys)) (drop_all (i + 1) bs none)) ∙ there))
        ]
      ];
    }

-- ---- the next number, and one number more or fewer

or_true : (b : Bool) → (b || true) ≡ true
or_true true = refl
or_true false = refl

three : (bs : List (List ℕ)) (i t : ℕ) → i < length bs → member t (concat bs) ≡ true
    → (member t (concat (take i bs)) ≡ true) ⊎ ((member t (block bs i) ≡ true) ⊎ (member t (concat (drop (i + 1) bs)) ≡ true))
three bs i t h there = one_of (member t (concat (take i bs))) (member t (block bs i)) (member t (concat (drop (i + 1) bs))) (sym (members_at bs i t h) ∙ there)
  where
    one_of : (a b c : Bool) → (a || (b || c)) ≡ true → (a ≡ true) ⊎ ((b ≡ true) ⊎ (c ≡ true))
    one_of true b c e = inl refl
    one_of false true c e = inr (inl refl)
    one_of false false c e = inr (inr e)

-- where none in the list is above the number
not_in : (xs : List ℕ) (number place : ℕ) → length xs ≤ place → ((k : ℕ) → k < place → nat_lt number (get_or xs k 0) ≡ false) → (t : ℕ) → nat_lt number t ≡ true → member t xs ≡ true → ⊥
not_in xs number place beyond before t later there =
    let spot = found t xs there in
    let within = spot.1 in
    not_true (sym (before spot.0 (omega arith)) ∙ ap (nat_lt number) spot.2 ∙ later)

-- the place behind those that aren't above the number is in the list
pub next_in : (bs : List (List ℕ)) (number i place : ℕ) → IsPacked bs → IsPlace bs number i → place < length (block bs i)
    → ((k : ℕ) → k < place → nat_lt number (get_or (block bs i) k 0) ≡ false)
    → ((k : ℕ) → place ≤ k → k < length (block bs i) → nat_lt number (get_or (block bs i) k 0) ≡ true)
    → IsNext (λ q. member q (concat bs)) (Some number) (Some (get_or (block bs i) place 0))
next_in bs number i place packed at within before behind = (
  behind place (omega arith) within,
  members_at bs i _ at.within ∙ ap (λ b. member (get_or (block bs i) place 0) (concat (take i bs)) || (b || member (get_or (block bs i) place 0) (concat (drop (i + 1) bs)))) here
      ∙ or_true (member (get_or (block bs i) place 0) (concat (take i bs))),
  λ t later there. elim (three bs i t at.within there) [
    | inl low ↦ let less = at.low t low in let more = ltb-true number t later in absurd (omega arith)
    | inr (inl mid) ↦ least t later mid
    | inr (inr high) ↦
        let up = ascends_second (concat (take i bs)) (block bs i ++ concat (drop (i + 1) bs)) (subst IsAscending (list_at bs i at.within) packed.ascending) in
        let less = ascends_across (block bs i) (concat (drop (i + 1) bs)) up (get_or (block bs i) place 0) t here high in
        omega arith
  ],
)
  where
    here : member (get_or (block bs i) place 0) (block bs i) ≡ true
    here = inside (get_or (block bs i) place 0) (block bs i) place within refl

    least : (t : ℕ) → nat_lt number t ≡ true → member t (block bs i) ≡ true → get_or (block bs i) place 0 ≤ t
    least t later mid =
        let spot = found t (block bs i) mid in
        elim (cases_lt spot.0 place) [
          | inl low ↦ absurd (not_true (sym (before spot.0 low) ∙ ap (nat_lt number) spot.2 ∙ later))
          | inr high ↦ let most = rising (block bs i) (block_ascends bs i packed at.within) place spot.0 high spot.1 in omega (arith, spot.2)
        ]

pub next_beyond : (bs : List (List ℕ)) (number i place : ℕ) → IsPacked bs → IsPlace bs number i → length (block bs i) ≤ place → i + 1 < length bs
    → ((k : ℕ) → k < place → nat_lt number (get_or (block bs i) k 0) ≡ false)
    → IsNext (λ q. member q (concat bs)) (Some number) (Some (get_or (block bs (i + 1)) 0 0))
next_beyond bs number i place packed at beyond next before =
    let first = get_or (block bs (i + 1)) 0 0 in
    let here : member first (block bs (i + 1)) ≡ true = inside first (block bs (i + 1)) 0 (packed.some (i + 1) next) refl in
    let there : member first (concat (drop (i + 1) bs)) ≡ true =
    ap (λ (ys : List (List ℕ)). member first (concat ys)) (drop_more bs (i + 1) [] next) ∙ list_any-append (nat_eq first) (block bs (i + 1)) (concat (drop (i + 1 + 1) bs))
    ∙ ap (λ b. b || member first (concat (drop (i + 1 + 1) bs))) here in (
      lt-ltb number first (at.high first there),
      members_at bs i first at.within ∙ ap (λ b. member first (concat (take i bs)) || (member first (block bs i) || b)) there
          ∙ ap (λ b. member first (concat (take i bs)) || b) (or_true (member first (block bs i))) ∙ or_true (member first (concat (take i bs))),
      λ t later is. elim (three bs i t at.within is) [
        | inl low ↦ let less = at.low t low in let more = ltb-true number t later in absurd (omega arith)
        | inr (inl mid) ↦ absurd (not_in (block bs i) number place beyond before t later mid)
        | inr (inr high) ↦ first_high bs (i + 1) t packed next high
      ],
    )

pub next_none_left : (bs : List (List ℕ)) (number i place : ℕ) → IsPacked bs → IsPlace bs number i → length (block bs i) ≤ place → length bs ≤ i + 1
    → ((k : ℕ) → k < place → nat_lt number (get_or (block bs i) k 0) ≡ false) → IsNext (λ q. member q (concat bs)) (Some number) None
next_none_left bs number i place packed at beyond last before = λ t later.
    unless (member t (concat bs)) (λ is. elim (three bs i t at.within is) [
      | inl low ↦ let less = at.low t low in let more = ltb-true number t later in omega arith
      | inr (inl mid) ↦ not_in (block bs i) number place beyond before t later mid
      | inr (inr high) ↦ not_true (sym (ap (λ (ys : List (List ℕ)). member t (concat ys)) (drop_all (i + 1) bs last)) ∙ high)
    ])

pub next_first : (bs : List (List ℕ)) → IsPacked bs → 0 < length bs → IsNext (λ q. member q (concat bs)) None (Some (get_or (block bs 0) 0 0))
next_first bs packed some = (
  refl,
  members_at bs 0 _ some ∙ ap (λ b. b || member (get_or (block bs 0) 0 0) (concat (drop 1 bs))) (inside (get_or (block bs 0) 0 0) (block bs 0) 0 (packed.some 0 some) refl),
  λ t _ there. first_high bs 0 t packed some there,
)

-- a number is put into the list at its place
pub put_ascends : (bs : List (List ℕ)) (number i place : ℕ) → IsPacked bs → IsPlace bs number i → place ≤ length (block bs i)
    → ((k : ℕ) → k < place → get_or (block bs i) k 0 < number) → ((k : ℕ) → place ≤ k → k < length (block bs i) → number < get_or (block bs i) k 0)
    → IsAscending (concat (set bs i (insert (block bs i) place number)))
put_ascends bs number i place packed at within low high =
    subst IsAscending (sym (list_set bs i (insert (block bs i) place number) at.within))
    (ascends_anew (concat (take i bs)) (block bs i) (concat (drop (i + 1) bs)) (insert (block bs i) place number) whole
    (ascending_insert (block bs i) place number (block_ascends bs i packed at.within) within low high)
    (λ u v there here. elim (put_or v there) [
      | inl same ↦ let less = at.low u here in omega arith
      | inr was ↦ ascends_across (concat (take i bs)) (block bs i ++ concat (drop (i + 1) bs)) whole u v here (list_any-append (nat_eq v) (block bs i) (concat (drop (i + 1) bs)) ∙ ap (λ b. b || member v (concat (drop (i + 1) bs))) was)
    ])
    (λ v u there here. elim (put_or v there) [
      | inl same ↦ let more = at.high u here in omega arith
      | inr was ↦ ascends_across (block bs i) (concat (drop (i + 1) bs)) (ascends_second (concat (take i bs)) (block bs i ++ concat (drop (i + 1) bs)) whole) v u was here
    ]))
  where
    whole : IsAscending (concat (take i bs) ++ (block bs i ++ concat (drop (i + 1) bs)))
    whole = subst IsAscending (list_at bs i at.within) packed.ascending

    put_or : (v : ℕ) → member v (insert (block bs i) place number) ≡ true → (v ≡ number) ⊎ (member v (block bs i) ≡ true)
    put_or v there = elim (eqb_tells v number) [
      | inl same ↦ inl same.1
      | inr other ↦ inr (sym (member-insert v number (block bs i) place ∙ ap (λ b. b || member v (block bs i)) other.0) ∙ there)
    ]

pub put_members : (bs : List (List ℕ)) (number i place q : ℕ) → i < length bs → member q (concat (set bs i (insert (block bs i) place number))) ≡ (nat_eq q number || member q (concat bs))
put_members bs number i place q h =
    ap (member q) (list_set bs i (insert (block bs i) place number) h) ∙ members_of (concat (take i bs)) (insert (block bs i) place number) (concat (drop (i + 1) bs)) q
    ∙ ap (λ b. member q (concat (take i bs)) || (b || member q (concat (drop (i + 1) bs)))) (member-insert q number (block bs i) place)
    ∙ moved (member q (concat (take i bs))) (nat_eq q number) (member q (block bs i)) (member q (concat (drop (i + 1) bs)))
    ∙ ap (λ b. nat_eq q number || b) (sym (members_at bs i q h))
  where
    moved : (a e b c : Bool) → (a || ((e || b) || c)) ≡ (e || (a || (b || c)))
    moved true true b c = refl
    moved true false b c = refl
    moved false true b c = refl
    moved false false b c = refl

-- a number is taken out of the list in which it stands
pub took_ascends : (bs : List (List ℕ)) (i place : ℕ) → IsPacked bs → i < length bs → place < length (block bs i)
    → IsAscending (concat (take i bs) ++ (remove (block bs i) place ++ concat (drop (i + 1) bs)))
took_ascends bs i place packed h within =
    let whole = subst IsAscending (list_at bs i h) packed.ascending in
    let up = block_ascends bs i packed h in
    let was = λ (v : ℕ) (there : member v (remove (block bs i) place) ≡ true). left_of (member v (block bs i)) _ (sym (member-remove v (get_or (block bs i) place 0) (block bs i) place up within refl) ∙ there) in
    ascends_anew (concat (take i bs)) (block bs i) (concat (drop (i + 1) bs)) (remove (block bs i) place) whole (ascending_remove (block bs i) place up within)
    (λ u v there here. ascends_across (concat (take i bs)) (block bs i ++ concat (drop (i + 1) bs)) whole u v here
    (list_any-append (nat_eq v) (block bs i) (concat (drop (i + 1) bs)) ∙ ap (λ b. b || member v (concat (drop (i + 1) bs))) (was v there)))
    (λ v u there here. ascends_across (block bs i) (concat (drop (i + 1) bs)) (ascends_second (concat (take i bs)) (block bs i ++ concat (drop (i + 1) bs)) whole) v u (was v there) here)
  where
    left_of : (a b : Bool) → (a && b) ≡ true → a ≡ true
    left_of true b h = refl
    left_of false b h = absurd (not_true h)

pub took_members : (bs : List (List ℕ)) (number i place q : ℕ) → IsPacked bs → IsPlace bs number i → place < length (block bs i) → get_or (block bs i) place 0 ≡ number
    → member q (concat (take i bs) ++ (remove (block bs i) place ++ concat (drop (i + 1) bs))) ≡ (member q (concat bs) && not (nat_eq q number))
took_members bs number i place q packed at within is =
    members_of (concat (take i bs)) (remove (block bs i) place) (concat (drop (i + 1) bs)) q
    ∙ ap (λ b. member q (concat (take i bs)) || (b || member q (concat (drop (i + 1) bs)))) (member-remove q number (block bs i) place (block_ascends bs i packed at.within) within is)
    ∙ elim (eqb_tells q number) [
      | inl same ↦
          let low = unless (member q (concat (take i bs))) (λ h. let less = at.low q h in let e = same.1 in omega arith) in
          let high = unless (member q (concat (drop (i + 1) bs))) (λ h. let more = at.high q h in let e = same.1 in omega arith) in
          ap (λ b. member q (concat (take i bs)) || ((member q (block bs i) && not b) || member q (concat (drop (i + 1) bs)))) same.0
          ∙ ap (λ b. b || ((member q (block bs i) && false) || member q (concat (drop (i + 1) bs)))) low
          ∙ ap (λ b. (member q (block bs i) && false) || b) high
          ∙ none (member q (block bs i)) (member q (concat bs))
          ∙ ap (λ b. member q (concat bs) && not b) (sym same.0)
      | inr other ↦
          ap (λ b. member q (concat (take i bs)) || ((member q (block bs i) && not b) || member q (concat (drop (i + 1) bs)))) other.0
          ∙ ap (λ b. member q (concat (take i bs)) || (b || member q (concat (drop (i + 1) bs)))) (all (member q (block bs i)))
          ∙ sym (members_at bs i q at.within)
          ∙ sym (all (member q (concat bs)))
          ∙ ap (λ b. member q (concat bs) && not b) (sym other.0)
    ]
  where
    none : (a b : Bool) → ((a && false) || false) ≡ (b && false)
    none true true = refl
    none true false = refl
    none false true = refl
    none false false = refl

    all : (a : Bool) → (a && true) ≡ a
    all true = refl
    all false = refl
