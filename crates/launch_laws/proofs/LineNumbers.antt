-- A line in which nothing stands, among others: only the numbers of the lines behind it change.
use Rattle.std.proofs.Common.{◌≡◌, ℕ, suc, ◌+◌, ◌<◌, ◌≤◌, ◌==◌, inl, inr, Bool, true, false, if◌then◌else◌, List, [], ◌∷◌, ◌++◌, length, map, drop, Option, Some, None, option_map, Result, Ok, Err, refl, sym, ap, ◌∙◌, arith}
use Rattle.std.specs.Prelude.{nat_lt, nat_le}
use Rattle.std.proofs.lemmas.Bool.{cases_Bool}
use Rattle.std.proofs.lemmas.Bool.Decides.{nat_tests}
use Rattle.std.proofs.lemmas.List.{map-append}
use Rattle.launch_scalars.specs.Characters.{bad_at}
use Rattle.launch_scalars.specs.declared.kind.YamlKind.{YamlKind}
use Rattle.launch_scalars.specs.declared.kind.YamlKind.TheVariants as kinds
use Rattle.launch_values.specs.Shape.{Shape}
use Rattle.launch_lines.specs.declared.fault.Fault.{Fault}
use Rattle.launch_lines.specs.Faults.{first_fault, beside}
use Rattle.launch_lines.specs.Lines.{tab_at, or_further, first_line, plain_fault}
use Rattle.launch_lines.specs.Rows.{Row, indentation, unless_nothing, row_of, rows_from}
use Rattle.launch_yaml.specs.Document.{document_of}
use Rattle.launch_yaml.specs.Renumbering.{renumber, renumber_fault, renumber_row, renumbered, one_more}
use Rattle.launch_laws.specs.Laws.{EmptyLinesChangeNumbers}
use Rattle.launch_laws.proofs.BlockNumbers.{Keeps, reported, first_reported, document_reported}

-- ---- the numbers

same_test : (x y : Bool) → (x ≡ true → y ≡ true) → (y ≡ true → x ≡ true) → x ≡ y
same_test true y h k = sym (h refl)
same_test false false h k = refl
same_test false true h k = k refl

stays : (k n : ℕ) → n ≤ k → one_more k n ≡ n
stays k n h =
    let test : nat_le n k ≡ true = grind (arith, nat_tests, h) in
    ap (λ (b : Bool). if b then n else suc n) test

moves : (k n : ℕ) → k < n → one_more k n ≡ suc n
moves k n h =
    let test : nat_le n k ≡ false = grind (arith, nat_tests, h) in
    ap (λ (b : Bool). if b then n else suc n) test

keeps_order : (k : ℕ) → Keeps (one_more k)
keeps_order k a b = elim (cases_Bool (nat_le a k)) [
  | inl p ↦ elim (cases_Bool (nat_le b k)) [
    | inl q ↦ by_values a b (stays k a (grind (arith, nat_tests, p))) (stays k b (grind (arith, nat_tests, q)))
        (same_test _ _ (λ h. h) (λ h. h)) (same_test _ _ (λ h. h) (λ h. h))
    | inr q ↦ by_values a (suc b) (stays k a (grind (arith, nat_tests, p))) (moves k b (grind (arith, nat_tests, q)))
        (same_test _ _ (λ h. grind (arith, nat_tests, p, q)) (λ h. grind (arith, nat_tests, p, q)))
        (same_test _ _ (λ h. grind (arith, nat_tests, p, q, h)) (λ h. grind (arith, nat_tests, p, q, h)))
  ]
  | inr p ↦ elim (cases_Bool (nat_le b k)) [
    | inl q ↦ by_values (suc a) b (moves k a (grind (arith, nat_tests, p))) (stays k b (grind (arith, nat_tests, q)))
        (same_test _ _ (λ h. grind (arith, nat_tests, p, q, h)) (λ h. grind (arith, nat_tests, p, q, h)))
        (same_test _ _ (λ h. grind (arith, nat_tests, p, q, h)) (λ h. grind (arith, nat_tests, p, q, h)))
    | inr q ↦ by_values (suc a) (suc b) (moves k a (grind (arith, nat_tests, p))) (moves k b (grind (arith, nat_tests, q)))
        (same_test _ _ (λ h. grind (arith, nat_tests, h)) (λ h. grind (arith, nat_tests, h)))
        (same_test _ _ (λ h. grind (arith, nat_tests, h)) (λ h. grind (arith, nat_tests, h)))
  ]
]
  where
    by_values : (x y : ℕ) → one_more k a ≡ x → one_more k b ≡ y → nat_lt x y ≡ nat_lt a b → (x == y) ≡ (a == b)
        → (nat_lt (one_more k a) (one_more k b) ≡ nat_lt a b) × ((one_more k a == one_more k b) ≡ (a == b))
    by_values x y p q lt eq = (
      ap (λ (n : ℕ). nat_lt n (one_more k b)) p ∙ ap (nat_lt x) q ∙ lt,
      ap (λ (n : ℕ). n == one_more k b) p ∙ ap (λ (n : ℕ). x == n) q ∙ eq,
    )

-- ---- rows

abbrev renumber_rows : (ℕ → ℕ) → List Row → List Row
renumber_rows f rows = map (renumber_row f) rows

row_reported : (f : ℕ → ℕ) (n : ℕ) (line : List ℕ) → row_of (f n) line ≡ renumber_rows f (row_of n line)
row_reported f n line = by_content (drop (indentation line) line)
  where
    by_first : (t : Bool) (b : ℕ) (bs : List ℕ)
        → (if t then [] else record { number = f n; column = indentation line; content = b ∷ bs } ∷ []) ≡ renumber_rows f (if t then [] else record { number = n; column = indentation line; content = b ∷ bs } ∷ [])
    by_first true b bs = refl
    by_first false b bs = refl

    by_content : (content : List ℕ) → unless_nothing (f n) (indentation line) content ≡ renumber_rows f (unless_nothing n (indentation line) content)
    by_content [] = refl
    by_content (b ∷ bs) = by_first (b == 35) b bs

still_none : (m n : ℕ) (line : List ℕ) → row_of m line ≡ [] → row_of n line ≡ []
still_none m n line e = row_reported (λ x. n) m line ∙ ap (renumber_rows (λ x. n)) e

rows_behind : (k m : ℕ) (ls : List (List ℕ)) → k < m → rows_from (suc m) ls ≡ renumber_rows (one_more k) (rows_from m ls)
rows_behind k m [] h = refl
rows_behind k m (l ∷ ls) h =
    let f = one_more k in
    ap (λ (n : ℕ). row_of n l ++ rows_from (suc (suc m)) ls) (sym (moves k m h))
    ∙ ap (λ (xs : List Row). xs ++ rows_from (suc (suc m)) ls) (row_reported f m l)
    ∙ ap (λ (xs : List Row). renumber_rows f (row_of m l) ++ xs) (rows_behind k (suc m) ls (omega (arith, h)))
    ∙ sym (map-append (renumber_row f) (row_of m l) (rows_from (suc m) ls))

rows_more : (k n : ℕ) (front back : List (List ℕ)) (line : List ℕ) → n + length front ≡ suc k → row_of 1 line ≡ []
    → rows_from n (front ++ line ∷ back) ≡ renumber_rows (one_more k) (rows_from n (front ++ back))
rows_more k n [] back line h e =
    ap (λ (xs : List Row). xs ++ rows_from (suc n) back) (still_none 1 n line e) ∙ rows_behind k n back (omega (arith, h))
rows_more k n (l ∷ front) back line h e =
    let f = one_more k in
    let more : suc n + length front ≡ suc k = omega (arith, h) in
    ap (λ (m : ℕ). row_of m l ++ rows_from (suc n) (front ++ line ∷ back)) (sym (stays k n (omega (arith, h))))
    ∙ ap (λ (xs : List Row). xs ++ rows_from (suc n) (front ++ line ∷ back)) (row_reported f n l)
    ∙ ap (λ (xs : List Row). renumber_rows f (row_of n l) ++ xs) (rows_more k (suc n) front back line more e)
    ∙ sym (map-append (renumber_row f) (row_of n l) (rows_from (suc n) (front ++ back)))

-- ---- faults of lines

abbrev renumber_found : (ℕ → ℕ) → Option Fault → Option Fault
renumber_found f e = option_map (renumber_fault f) e

further_reported : (f : ℕ → ℕ) (n : ℕ) (kind : YamlKind) (e : Option Fault) (found : Option ℕ) → or_further (f n) kind (renumber_found f e) found ≡ renumber_found f (or_further n kind e found)
further_reported f n kind e None = refl
further_reported f n kind e (Some column) = refl

found_behind : (find : List ℕ → Option ℕ) (kind : YamlKind) (k m : ℕ) (ls : List (List ℕ)) → k < m
    → first_line find kind (suc m) ls ≡ renumber_found (one_more k) (first_line find kind m ls)
found_behind find kind k m [] h = refl
found_behind find kind k m (l ∷ ls) h =
    let f = one_more k in
    ap (λ (n : ℕ). or_further n kind (first_line find kind (suc (suc m)) ls) (find l)) (sym (moves k m h))
    ∙ ap (λ (e : Option Fault). or_further (f m) kind e (find l)) (found_behind find kind k (suc m) ls (omega (arith, h)))
    ∙ further_reported f m kind (first_line find kind (suc m) ls) (find l)

found_more : (find : List ℕ → Option ℕ) (kind : YamlKind) (k n : ℕ) (front back : List (List ℕ)) (line : List ℕ) → n + length front ≡ suc k → find line ≡ None
    → first_line find kind n (front ++ line ∷ back) ≡ renumber_found (one_more k) (first_line find kind n (front ++ back))
found_more find kind k n [] back line h e =
    ap (or_further n kind (first_line find kind (suc n) back)) e ∙ found_behind find kind k n back (omega (arith, h))
found_more find kind k n (l ∷ front) back line h e =
    let f = one_more k in
    let more : suc n + length front ≡ suc k = omega (arith, h) in
    ap (λ (m : ℕ). or_further m kind (first_line find kind (suc n) (front ++ line ∷ back)) (find l)) (sym (stays k n (omega (arith, h))))
    ∙ ap (λ (x : Option Fault). or_further (f n) kind x (find l)) (found_more find kind k (suc n) front back line more e)
    ∙ further_reported f n kind (first_line find kind (suc n) (front ++ back)) (find l)

first_fault_reported : (f : ℕ → ℕ) → Keeps f → (a b : Option Fault) → first_fault (renumber_found f a) (renumber_found f b) ≡ renumber_found f (first_fault a b)
first_fault_reported f keeps None b = refl
first_fault_reported f keeps (Some a) None = refl
first_fault_reported f keeps (Some a) (Some b) = ap (λ (e : Fault). Some e) (first_reported f keeps a b)

-- a line without such a fault
none_of_line : (line : List ℕ) → plain_fault (line ∷ []) ≡ None → (bad_at line ≡ None) × (tab_at line ≡ None)
unfolding plain_fault
none_of_line line e = by_both (bad_at line) (tab_at line) e
  where
    by_both : (a b : Option ℕ) → first_fault (or_further 1 kinds.Character None a) (or_further 1 kinds.Tab None b) ≡ None → (a ≡ None) × (b ≡ None)
    by_both None None h = (refl, refl)
    by_both None (Some n) h = absurd cc
    by_both (Some m) None h = absurd cc
    by_both (Some m) (Some n) h = absurd cc

plain_reported : (k : ℕ) (front back : List (List ℕ)) (line : List ℕ) → 1 + length front ≡ suc k → plain_fault (line ∷ []) ≡ None
    → plain_fault (front ++ line ∷ back) ≡ renumber_found (one_more k) (plain_fault (front ++ back))
unfolding plain_fault
plain_reported k front back line h e =
    let none = none_of_line line e in
    let f = one_more k in
    ap (λ (x : Option Fault). first_fault x (first_line tab_at kinds.Tab 1 (front ++ line ∷ back))) (found_more bad_at kinds.Character k 1 front back line h none.0)
    ∙ ap (first_fault (renumber_found f (first_line bad_at kinds.Character 1 (front ++ back)))) (found_more tab_at kinds.Tab k 1 front back line h none.1)
    ∙ first_fault_reported f (keeps_order k) (first_line bad_at kinds.Character 1 (front ++ back)) (first_line tab_at kinds.Tab 1 (front ++ back))

-- ---- documents

beside_reported : (f : ℕ → ℕ) → Keeps f → (p : Option Fault) (r : Result Shape Fault) → beside (renumber_found f p) (reported f (renumber f) r) ≡ renumbered f (beside p r)
beside_reported f keeps None (Ok x) = refl
beside_reported f keeps None (Err e) = refl
beside_reported f keeps (Some a) (Ok x) = refl
beside_reported f keeps (Some a) (Err b) =
    let failed : Fault → Result Shape Fault = λ x. Err x in
    ap failed (first_reported f keeps a b)

pub empty_lines_change_numbers : EmptyLinesChangeNumbers
empty_lines_change_numbers front back line some empty good =
    let k = length front in
    let f = one_more k in
    let start : 1 + length front ≡ suc k = omega arith in
    ap (λ (p : Option Fault). beside p (document_of (rows_from 1 (front ++ line ∷ back)))) (plain_reported k front back line start good)
    ∙ ap (λ (rows : List Row). beside (renumber_found f (plain_fault (front ++ back))) (document_of rows)) (rows_more k 1 front back line start empty)
    ∙ ap (beside (renumber_found f (plain_fault (front ++ back)))) (document_reported f (keeps_order k) (stays k 1 some) (rows_from 1 (front ++ back)))
    ∙ beside_reported f (keeps_order k) (plain_fault (front ++ back)) (document_of (rows_from 1 (front ++ back)))
