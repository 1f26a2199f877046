-- Marks and the ends of lines.
use Rattle.std.proofs.Common.{◌≡◌, ◌≢◌, ℕ, zero, suc, ◌==◌, ◌&&◌, ◌⊎◌, inl, inr, length, Bool, true, false, if◌then◌else◌, List, [], ◌∷◌, ◌++◌, drop, map, Option, Some, Result, Ok, Err, refl, sym, ap, subst, ◌∙◌, arith}
use Rattle.std.specs.Prelude.{nat_eq}
use Rattle.std.specs.List.{starts_with, AllByRecursion}
use Rattle.std.proofs.lemmas.Bool.{cases_Bool}
use Rattle.std.proofs.lemmas.Bool.Decides.{nat_tests}
use Rattle.std.proofs.lemmas.List.{map-append}
use Rattle.launch_values.specs.Shape.{Shape}
use Rattle.launch_lines.specs.declared.fault.Fault.{Fault}
use Rattle.launch_lines.specs.Faults.{comes_before, beside}
use Rattle.launch_lines.specs.Lines.{without_mark, onto_first, pieces, without_return, without_returns, lines_of, lines, plain_fault}
use Rattle.launch_lines.specs.Rows.{Row, indentation, unless_nothing, row_of, rows_from}
use Rattle.launch_yaml.specs.Document.{document_of, parse_at}
use Rattle.launch_laws.specs.Laws.{LinesAreReported, MarkChangesNothing, with_returns, HasNoReturn, ReturnsChangeNothing, place_of, EmptyLinesAreNoRows}

-- ---- what is read of lines

lines_alike : (a b : List ℕ) → lines a ≡ lines b → parse_at a ≡ parse_at b
unfolding parse_at
lines_alike a b e = ap (λ (ls : List (List ℕ)). beside (plain_fault ls) (document_of (rows_from 1 ls))) e

pub mark_changes_nothing : MarkChangesNothing
unfolding lines
mark_changes_nothing text e = lines_alike (0xef ∷ 0xbb ∷ 0xbf ∷ text) text (ap lines_of (sym e))

-- ---- faults of lines

first_is_reported : (f : Fault) (read : Result Shape Fault) → (g : Fault) × (beside (Some f) read ≡ Err g) × ((g ≡ f) ⊎ (comes_before g f ≡ true))
first_is_reported f (Ok x) = (f, refl, inl refl)
first_is_reported f (Err b) = by_test (comes_before b f) refl
  where
    reported : Fault → Result Shape Fault
    reported e = Err e

    by_test : (t : Bool) → comes_before b f ≡ t → (g : Fault) × (reported (if t then b else f) ≡ Err g) × ((g ≡ f) ⊎ (comes_before g f ≡ true))
    by_test true is = (b, refl, inr is)
    by_test false is = (f, refl, inl refl)

pub lines_are_reported : LinesAreReported
unfolding parse_at
lines_are_reported text f e =
    let read = document_of (rows_from 1 (lines text)) in
    subst (λ (p : Option Fault). (g : Fault) × (beside p read ≡ Err g) × ((g ≡ f) ⊎ (comes_before g f ≡ true))) (sym e) (first_is_reported f read)

-- ---- carriage returns

-- a carriage return at the end of each line but the last
abbrev returned : List (List ℕ) → List (List ℕ)
returned [] = []
returned (piece ∷ []) = piece ∷ []
returned (piece ∷ next ∷ more) = (piece ++ 13 ∷ []) ∷ returned (next ∷ more)

-- lines that there are: the first, and those behind it
record Some_lines (ls : List (List ℕ)) : Type 0 where
  pub first : List ℕ
  pub others : List (List ℕ)
  pub same : ls ≡ first ∷ others

some_pieces : (text : List ℕ) → Some_lines (pieces text)
some_pieces [] = record { first = []; others = []; same = refl }
some_pieces (b ∷ bs) = by_test (b == 10) (some_pieces bs)
  where
    by_test : (t : Bool) → Some_lines (pieces bs) → Some_lines (if t then [] ∷ pieces bs else onto_first b (pieces bs))
    by_test true s = record { first = []; others = pieces bs; same = refl }
    by_test false s = record { first = b ∷ s.first; others = s.others; same = ap (onto_first b) s.same }

returned_first : (b : ℕ) (ls : List (List ℕ)) → onto_first b (returned ls) ≡ returned (onto_first b ls)
returned_first b [] = refl
returned_first b (p ∷ []) = refl
returned_first b (p ∷ q ∷ qs) = refl

returned_more : (ls : List (List ℕ)) → Some_lines ls → (13 ∷ []) ∷ returned ls ≡ returned ([] ∷ ls)
returned_more ls s = ap (λ (xs : List (List ℕ)). (13 ∷ []) ∷ returned xs) s.same ∙ sym (ap (λ (xs : List (List ℕ)). returned ([] ∷ xs)) s.same)

pieces_returned : (text : List ℕ) → pieces (with_returns text) ≡ returned (pieces text)
pieces_returned [] = refl
pieces_returned (b ∷ bs) = by_test (b == 10) refl (pieces_returned bs)
  where
    by_test : (t : Bool) → (b == 10) ≡ t → pieces (with_returns bs) ≡ returned (pieces bs)
        → pieces (if t then 13 ∷ 10 ∷ with_returns bs else b ∷ with_returns bs) ≡ returned (if t then [] ∷ pieces bs else onto_first b (pieces bs))
    by_test true is h = ap (λ (xs : List (List ℕ)). (13 ∷ []) ∷ xs) h ∙ returned_more (pieces bs) (some_pieces bs)
    by_test false is h =
        ap (λ (t : Bool). if t then [] ∷ pieces (with_returns bs) else onto_first b (pieces (with_returns bs))) is
        ∙ ap (onto_first b) h ∙ returned_first b (pieces bs)

return_dropped : (piece : List ℕ) → without_return (piece ++ 13 ∷ []) ≡ piece
return_dropped [] = refl
return_dropped (b ∷ []) = refl
return_dropped (b ∷ c ∷ bs) = ap (λ (xs : List ℕ). b ∷ xs) (return_dropped (c ∷ bs))

returns_dropped : (ls : List (List ℕ)) → without_returns (returned ls) ≡ ls
returns_dropped [] = refl
returns_dropped (p ∷ []) = refl
returns_dropped (p ∷ q ∷ []) = ap (λ (xs : List ℕ). xs ∷ q ∷ []) (return_dropped p)
returns_dropped (p ∷ q ∷ r ∷ rs) =
    ap (λ (xs : List ℕ). xs ∷ without_returns (returned (q ∷ r ∷ rs))) (return_dropped p) ∙ ap (λ (xs : List (List ℕ)). p ∷ xs) (returns_dropped (q ∷ r ∷ rs))

-- lines without a carriage return
abbrev NoReturns : List (List ℕ) → Type 0
NoReturns ls = AllByRecursion HasNoReturn ls

no_returns : (text : List ℕ) → HasNoReturn text → NoReturns (pieces text)
no_returns [] h = (tt, tt)
no_returns (b ∷ bs) h = by_test (b == 10) (pieces bs) (no_returns bs h.1)
  where
    onto : (ls : List (List ℕ)) → NoReturns ls → NoReturns (onto_first b ls)
    onto [] k = ((h.0, tt), tt)
    onto (p ∷ ps) k = ((h.0, k.0), k.1)

    by_test : (t : Bool) (ls : List (List ℕ)) → NoReturns ls → NoReturns (if t then [] ∷ ls else onto_first b ls)
    by_test true ls k = (tt, k)
    by_test false ls k = onto ls k

no_return : (piece : List ℕ) → HasNoReturn piece → without_return piece ≡ piece
no_return [] h = refl
no_return (b ∷ []) h = by_test (b == 13) refl
  where
    by_test : (t : Bool) → (b == 13) ≡ t → (if t then [] else b ∷ []) ≡ b ∷ []
    by_test true e = absurd (h.0 (grind (arith, nat_tests, e)))
    by_test false e = refl
no_return (b ∷ c ∷ bs) h = ap (λ (xs : List ℕ). b ∷ xs) (no_return (c ∷ bs) h.1)

none_dropped : (ls : List (List ℕ)) → NoReturns ls → without_returns ls ≡ ls
none_dropped [] h = refl
none_dropped (p ∷ []) h = refl
none_dropped (p ∷ q ∷ qs) h =
    ap (λ (xs : List ℕ). xs ∷ without_returns (q ∷ qs)) (no_return p h.0) ∙ ap (λ (xs : List (List ℕ)). p ∷ xs) (none_dropped (q ∷ qs) h.1)

lines_of_returned : (text : List ℕ) → HasNoReturn text → lines_of (with_returns text) ≡ lines_of text
lines_of_returned text h = ap without_returns (pieces_returned text) ∙ returns_dropped (pieces text) ∙ sym (none_dropped (pieces text) (no_returns text h))

-- ---- a mark before them

-- what may stand at the front of a text and have no line feed and no carriage return
abbrev NoEnds : List ℕ → Type 0
NoEnds front = AllByRecursion (λ m. (m ≢ 10) × (m ≢ 13)) front

pub other_byte : (m x : ℕ) → m ≢ x → (m == x) ≡ false
other_byte m x differs = elim (cases_Bool (m == x)) [
  | inl e ↦ absurd (differs (grind (arith, nat_tests, e)))
  | inr e ↦ e
]

front_stays : (text front : List ℕ) → NoEnds front → starts_with nat_eq (with_returns text) front ≡ starts_with nat_eq text front
front_stays text [] h = refl
front_stays [] (m ∷ ms) h = refl
front_stays (b ∷ bs) (m ∷ ms) h = by_test (b == 10) refl (front_stays bs ms h.1)
  where
    by_test : (t : Bool) → (b == 10) ≡ t → starts_with nat_eq (with_returns bs) ms ≡ starts_with nat_eq bs ms
        → starts_with nat_eq (if t then 13 ∷ 10 ∷ with_returns bs else b ∷ with_returns bs) (m ∷ ms) ≡ starts_with nat_eq (b ∷ bs) (m ∷ ms)
    by_test true e more =
        let feed : b ≡ 10 = grind (arith, nat_tests, e) in
        ap (λ (t : Bool). t && starts_with nat_eq (10 ∷ with_returns bs) ms) (other_byte m 13 h.0.1)
        ∙ sym (ap (λ (x : ℕ). (m == x) && starts_with nat_eq bs ms) feed ∙ ap (λ (t : Bool). t && starts_with nat_eq bs ms) (other_byte m 10 h.0.0))
    by_test false e more = ap (λ (t : Bool). (m == b) && t) more

pub both_true : (x y : Bool) → (x && y) ≡ true → (x ≡ true) × (y ≡ true)
both_true true true k = (refl, refl)
both_true true false k = absurd cc
both_true false y k = absurd cc

rest_stays : (text front : List ℕ) → NoEnds front → starts_with nat_eq text front ≡ true → drop (length front) (with_returns text) ≡ with_returns (drop (length front) text)
rest_stays text [] h e = refl
rest_stays [] (m ∷ ms) h e = refl
rest_stays (b ∷ bs) (m ∷ ms) h e = by_test (b == 10) refl (rest_stays bs ms h.1)
  where
    by_test : (t : Bool) → (b == 10) ≡ t → (starts_with nat_eq bs ms ≡ true → drop (length ms) (with_returns bs) ≡ with_returns (drop (length ms) bs))
        → drop (suc (length ms)) (if t then 13 ∷ 10 ∷ with_returns bs else b ∷ with_returns bs) ≡ with_returns (drop (length ms) bs)
    by_test true k more =
        let tests = both_true (m == b) (starts_with nat_eq bs ms) e in
        absurd (h.0.0 (grind (arith, nat_tests, tests.0, k)))
    by_test false k more = more (both_true (m == b) (starts_with nat_eq bs ms) e).1

abbrev pub mark : List ℕ
mark = 0xef ∷ 0xbb ∷ 0xbf ∷ []

mark_has_no_ends : NoEnds mark
mark_has_no_ends = (((λ e. omega (arith, e)), (λ e. omega (arith, e))), (((λ e. omega (arith, e)), (λ e. omega (arith, e))), (((λ e. omega (arith, e)), (λ e. omega (arith, e))), tt)))

mark_stays : (text : List ℕ) → without_mark (with_returns text) ≡ with_returns (without_mark text)
mark_stays text =
    ap (λ (b : Bool). if b then drop 3 (with_returns text) else with_returns text) (front_stays text mark mark_has_no_ends)
    ∙ by_mark (starts_with nat_eq text mark) refl
  where
    by_mark : (b : Bool) → starts_with nat_eq text mark ≡ b → (if b then drop 3 (with_returns text) else with_returns text) ≡ with_returns (if b then drop 3 text else text)
    by_mark true k = rest_stays text mark mark_has_no_ends k
    by_mark false k = refl

none_in_rest : (n : ℕ) (text : List ℕ) → HasNoReturn text → HasNoReturn (drop n text)
none_in_rest zero text h = h
none_in_rest (suc n) [] h = tt
none_in_rest (suc n) (b ∷ bs) h = none_in_rest n bs h.1

none_behind_mark : (text : List ℕ) → HasNoReturn text → HasNoReturn (without_mark text)
none_behind_mark text h = by_test (starts_with nat_eq text (0xef ∷ 0xbb ∷ 0xbf ∷ []))
  where
    by_test : (t : Bool) → HasNoReturn (if t then drop 3 text else text)
    by_test true = none_in_rest 3 text h
    by_test false = h

pub returns_change_nothing : ReturnsChangeNothing
unfolding lines
returns_change_nothing text h =
    lines_alike (with_returns text) text (ap lines_of (mark_stays text) ∙ lines_of_returned (without_mark text) (none_behind_mark text h))

-- ---- lines in which nothing stands

abbrev places : List Row → List (ℕ × List ℕ)
places rows = map place_of rows

same_places : (m n : ℕ) (line : List ℕ) → places (row_of m line) ≡ places (row_of n line)
same_places m n line = by_content (drop (indentation line) line)
  where
    by_first : (t : Bool) (b : ℕ) (bs : List ℕ)
        → places (if t then [] else record { number = m; column = indentation line; content = b ∷ bs } ∷ []) ≡ places (if t then [] else record { number = n; column = indentation line; content = b ∷ bs } ∷ [])
    by_first true b bs = refl
    by_first false b bs = refl

    by_content : (content : List ℕ) → places (unless_nothing m (indentation line) content) ≡ places (unless_nothing n (indentation line) content)
    by_content [] = refl
    by_content (b ∷ bs) = by_first (b == 35) b bs

same_rows : (m n : ℕ) (ls : List (List ℕ)) → places (rows_from m ls) ≡ places (rows_from n ls)
same_rows m n [] = refl
same_rows m n (l ∷ ls) =
    map-append place_of (row_of m l) (rows_from (suc m) ls)
    ∙ ap (λ (xs : List (ℕ × List ℕ)). xs ++ places (rows_from (suc m) ls)) (same_places m n l)
    ∙ ap (λ (xs : List (ℕ × List ℕ)). places (row_of n l) ++ xs) (same_rows (suc m) (suc n) ls)
    ∙ sym (map-append place_of (row_of n l) (rows_from (suc n) ls))

nothing_there : (m n : ℕ) (line : List ℕ) → row_of m line ≡ [] → places (row_of n line) ≡ []
nothing_there m n line e = same_places n m line ∙ ap places e

rows_stay : (n : ℕ) (front back : List (List ℕ)) (line : List ℕ) → row_of 1 line ≡ [] → places (rows_from n (front ++ line ∷ back)) ≡ places (rows_from n (front ++ back))
rows_stay n [] back line e =
    map-append place_of (row_of n line) (rows_from (suc n) back)
    ∙ ap (λ (xs : List (ℕ × List ℕ)). xs ++ places (rows_from (suc n) back)) (nothing_there 1 n line e)
    ∙ same_rows (suc n) n back
rows_stay n (l ∷ front) back line e =
    map-append place_of (row_of n l) (rows_from (suc n) (front ++ line ∷ back))
    ∙ ap (λ (xs : List (ℕ × List ℕ)). places (row_of n l) ++ xs) (rows_stay (suc n) front back line e)
    ∙ sym (map-append place_of (row_of n l) (rows_from (suc n) (front ++ back)))

pub empty_lines_are_no_rows : EmptyLinesAreNoRows
empty_lines_are_no_rows front back line e = rows_stay 1 front back line e
