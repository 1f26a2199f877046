-- A document's text is read as the document.
use Rattle.std.proofs.Common.{◌≡◌, ℕ, suc, ◌==◌, Bool, true, false, not, ◌&&◌, ◌||◌, if◌then◌else◌, List, [], ◌∷◌, ◌++◌, length, take, drop, codes, Option, Some, None, option_map, Result, Ok, refl, sym, ap, subst, ◌∙◌}
use Rattle.std.specs.Prelude.{nat_eq, nat_le}
use Rattle.std.specs.List.{starts_with, prefix_len}
use Rattle.std.proofs.lemmas.Bool.{cond-false, cond-true, ne_eqb}
use Rattle.lists.specs.Results.{◌>>=◌}
use Rattle.launch_scalars.specs.declared.kind.YamlKind.TheVariants as kinds
use Rattle.launch_scalars.specs.Characters.{begins_control, control_at}
use Rattle.launch_scalars.specs.Plain.{is_space_or_end}
use Rattle.launch_scalars.specs.Spaces.{after_gap}
use Rattle.launch_values.specs.Shape.{Shape}
use Rattle.launch_lines.specs.declared.fault.Fault.{Fault}
use Rattle.launch_lines.specs.Faults.{unless, first_fault, beside}
use Rattle.launch_lines.specs.Lines.{onto_first, pieces, without_returns, lines_of, lines, tab_at, or_further, plain_fault}
use Rattle.launch_lines.specs.Rows.{Row, is_indentation, indentation, unless_nothing, rows_from, is_alone, is_start, is_stop, is_marker, is_directive, at_row}
use Rattle.launch_yaml.specs.Document.{after_directive, after_head, is_inside, root_of, after_document, body_of, document_of, document_in, parse_at}
use Rattle.launch_laws.specs.PrintingLaws.{PrintedReadsBack}
use Rattle.launch_laws.specs.Printed.{printed}
use Rattle.launch_laws.proofs.CleanTexts.{IsClean, calm_alone, calm_parts, bad_none}
use Rattle.launch_laws.proofs.CleanDocuments.{root_clean}
use Rattle.launch_laws.proofs.PrintedScalars.{IsNone, Starts, outside}
use Rattle.launch_laws.proofs.PrintedFlow.{isnt, node_starts}
use Rattle.launch_laws.proofs.PrintedRoots.{only_row, read_root, IsBare, starts_other, root_bare, root_read}

-- ---- one line

abbrev some_place : ℕ → Option ℕ
some_place n = Some n

one_piece : (bytes : List ℕ) → control_at bytes ≡ None → pieces bytes ≡ bytes ∷ []
one_piece [] h = refl
one_piece (b ∷ bs) h =
    let p = calm_parts b bs h in
    let feed : (b == 10) ≡ false = ne_eqb b 10 (λ e. let k : begins_control 10 bs ≡ false = subst (λ (n : ℕ). begins_control n bs ≡ false) e p.0 in cc (k)) in
    cond-false (b == 10) ([] ∷ pieces bs) (onto_first b (pieces bs)) feed ∙ ap (onto_first b) (one_piece bs p.1)

one_line : (b : ℕ) (bs : List ℕ) → IsNone outside b → IsClean (b ∷ bs) → lines (b ∷ bs) ≡ (b ∷ bs) ∷ []
unfolding lines
one_line b bs free clean =
    ap lines_of (cond-false (starts_with nat_eq (b ∷ bs) (0xef ∷ 0xbb ∷ 0xbf ∷ [])) (drop 3 (b ∷ bs)) (b ∷ bs) (starts_other 239 b (0xbb ∷ 0xbf ∷ []) bs (isnt 239 outside b refl free)))
    ∙ ap without_returns (one_piece (b ∷ bs) (calm_alone (b ∷ bs) clean))

no_tab : (b : ℕ) (bs : List ℕ) → IsNone outside b → tab_at (b ∷ bs) ≡ None
no_tab b bs free =
    cond-false (b == 32) (option_map {U = ℕ} suc (tab_at bs)) (if b == 9 then some_place 0 else None) (isnt 32 outside b refl free)
    ∙ cond-false (b == 9) (some_place 0) None (isnt 9 outside b refl free)

no_plain_fault : (b : ℕ) (bs : List ℕ) → IsNone outside b → IsClean (b ∷ bs) → plain_fault ((b ∷ bs) ∷ []) ≡ None
unfolding plain_fault
no_plain_fault b bs free clean =
    ap (λ (place : Option ℕ). first_fault (or_further 1 kinds.Character None place) (or_further 1 kinds.Tab None (tab_at (b ∷ bs)))) (bad_none (b ∷ bs) clean)
    ∙ ap (λ (place : Option ℕ). first_fault None (or_further 1 kinds.Tab None place)) (no_tab b bs free)

one_row : (b : ℕ) (bs : List ℕ) → IsNone outside b → rows_from 1 ((b ∷ bs) ∷ []) ≡ only_row (b ∷ bs) ∷ []
one_row b bs free =
    let space = isnt 32 outside b refl free in
    let tab = isnt 9 outside b refl free in
    ap (λ (n : ℕ). unless_nothing 1 n (drop n (b ∷ bs)) ++ []) (cond-false (is_indentation b) (suc (indentation bs)) 0 (rw (space, tab) refl))
    ∙ ap (λ (rs : List Row). rs ++ []) (cond-false (b == 35) [] (only_row (b ∷ bs) ∷ []) (isnt 35 outside b refl free))

-- ---- its row

no_alone : (word bytes : List ℕ) → starts_with nat_eq bytes word ≡ false → is_alone word (only_row bytes) ≡ false
no_alone word bytes h = neither (starts_with nat_eq bytes word) (length (after_gap (drop (length word) bytes)) == 0) h
  where
    neither : (t u : Bool) → t ≡ false → (true && t && u) ≡ false
    neither t u e = rw e refl

no_marker : (bytes : List ℕ) → IsBare bytes → is_marker (only_row bytes) ≡ false
no_marker bytes bare =
    neither (starts_with nat_eq bytes (codes "---")) (starts_with nat_eq bytes (codes "...")) (is_space_or_end (drop (length (codes "---")) bytes)) (is_space_or_end (drop (length (codes "...")) bytes)) bare.start bare.stop
  where
    neither : (s t u v : Bool) → s ≡ false → t ≡ false → (true && ((s && u) || (t && v))) ≡ false
    neither s t u v p q = rw (p, q) refl

abbrev read_rows : List Row → Result (List Row) Fault
read_rows rs = Ok rs

no_head : (b : ℕ) (bs : List ℕ) → IsNone outside b → IsBare (b ∷ bs) → after_head (only_row (b ∷ bs) ∷ []) ≡ read_rows (only_row (b ∷ bs) ∷ [])
no_head b bs free bare =
    let r = only_row (b ∷ bs) in
    last_of_four (is_directive r) (is_start r) (is_marker r && not (is_stop r)) (after_directive r []) (read_rows []) (at_row r kinds.Character) (read_rows (r ∷ []))
    (no_alone (codes "%TAG ! tag:nuxi.nl,2015:cloudabi/") (b ∷ bs) (starts_other 37 b (codes "TAG ! tag:nuxi.nl,2015:cloudabi/") bs (isnt 37 outside b refl free)))
    (no_alone (codes "---") (b ∷ bs) bare.start) (ap (λ (t : Bool). t && not (is_stop r)) (no_marker (b ∷ bs) bare))
  where
    last_of_four : (t u v : Bool) (x y z last : Result (List Row) Fault) → t ≡ false → u ≡ false → v ≡ false → (if t then x else if u then y else if v then z else last) ≡ last
    last_of_four t u v x y z last p q s = rw (p, q, s) refl

body_is : (bytes : List ℕ) (x : Shape) → IsBare bytes → root_of (only_row bytes ∷ []) ≡ read_root x → body_of (only_row bytes ∷ []) ≡ read_root x
body_is bytes x bare is =
    let rs : List Row = only_row bytes ∷ [] in
    let inside : is_inside 0 (only_row bytes) ≡ true = ap (λ (t : Bool). not t && nat_le 0 0) (no_marker bytes bare) in
    let whole : prefix_len (is_inside 0) rs ≡ 1 = cond-true (is_inside 0 (only_row bytes)) 1 0 inside in
    ap (λ (n : ℕ). root_of (take n rs) >>= λ y. unless (after_document (drop n rs)) (read_root y)) whole
    ∙ ap (λ (r : Result Shape Fault). r >>= λ y. read_root y) is

document_is : (b : ℕ) (bs : List ℕ) (x : Shape) → IsNone outside b → IsBare (b ∷ bs) → IsClean (b ∷ bs) → root_of (only_row (b ∷ bs) ∷ []) ≡ read_root x → parse_at (b ∷ bs) ≡ read_root x
unfolding parse_at
document_is b bs x free bare clean is =
    ap document_in (one_line b bs free clean)
    ∙ ap (λ (f : Option Fault). beside f (document_of (rows_from 1 ((b ∷ bs) ∷ [])))) (no_plain_fault b bs free clean)
    ∙ ap (λ (rs : List Row). beside None (document_of rs)) (one_row b bs free)
    ∙ ap (λ (r : Result (List Row) Fault). r >>= body_of) (no_head b bs free bare)
    ∙ body_is (b ∷ bs) x bare is

text_is : (bytes : List ℕ) (x : Shape) → Starts outside bytes → IsBare bytes → IsClean bytes → root_of (only_row bytes ∷ []) ≡ read_root x → parse_at bytes ≡ read_root x
text_is bytes x s =
    subst (λ (ys : List ℕ). IsBare ys → IsClean ys → root_of (only_row ys ∷ []) ≡ read_root x → parse_at ys ≡ read_root x) (sym s.same)
    (λ bare clean is. document_is s.first s.others x s.free bare clean is)

pub printed_reads_back : PrintedReadsBack
printed_reads_back x h = text_is (printed x) _ (node_starts x h.0.1) (root_bare x h.0.1) (root_clean x h.0.1 h.1) (root_read x h.0.0 h.0.1 h.1)
