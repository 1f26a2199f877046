-- How the names of a text are read, byte by byte.
use Rattle.std.proofs.Common.{◌≡◌, ◌≢◌, inl, inr, ◌∷◌, ◌++◌, ◌+◌, ◌-◌, ◌<◌, ◌≤◌, ℕ, Bool, true, false, cond, List, [], length, drop, get_or, refl, ap, sym, ◌∙◌, arith, rules, tests, eqb, ltb}
use Rattle.std.specs.List.{slice_range}
use Rattle.std.proofs.lemmas.Bool.Decides.{eqb_tells}
use Rattle.std.proofs.lemmas.List.{drop_more, drop_all}
use Rattle.std.proofs.lemmas.List.Edits.{between_more, length-between}
use Rattle.path_lookup.specs.Split.{Piece, names_from, with_name, last_name, piece, added_dot}
use Rattle.path_lookup.specs.Reading.{name_at, names_after}

-- a slash ends a name, and any other byte goes on with it
at_slash : (from b : ℕ) (begun rest : List ℕ) → b ≡ 47 → names_from from begun (b ∷ rest) ≡ with_name from begun (names_from (from + length begun + 1) [] rest)
at_slash from b begun rest e = ap (λ n. names_from from begun (n ∷ rest)) e

by_test : (t : Bool) (ps qs : List Piece) → t ≡ false → cond t ps qs ≡ qs
by_test true ps qs e = cc
by_test false ps qs e = refl

not_slash : (b : ℕ) → b ≢ 47 → eqb b 47 ≡ false
not_slash b h = elim (eqb_tells b 47) as (λ w. eqb b 47 ≡ false) [ inl w ↦ absurd (h w.1) | inr w ↦ w.0 ]

at_other : (from b : ℕ) (begun rest : List ℕ) → b ≢ 47 → names_from from begun (b ∷ rest) ≡ names_from from (begun ++ b ∷ []) rest
at_other from b begun rest h = by_test (eqb b 47) _ (names_from from (begun ++ b ∷ []) rest) (not_slash b h)

-- a slash before a name is passed over
pub slash_passed : (text : List ℕ) (from : ℕ) → from < length text → get_or text from 0 ≡ 47
    → names_from from [] (drop from text) ≡ names_from (from + 1) [] (drop (from + 1) text)
slash_passed text from h e =
    ap (names_from from []) (drop_more text from 0 h) ∙ at_slash from (get_or text from 0) [] (drop (from + 1) text) e
    ∙ ap (λ n. names_from n [] (drop (from + 1) text)) (let k : from + 0 + 1 ≡ from + 1 = omega arith in k)

-- any other byte goes on with the name
pub byte_joined : (text : List ℕ) (from end : ℕ) → from ≤ end → end < length text → get_or text end 0 ≢ 47
    → names_from from (slice_range text from end) (drop end text) ≡ names_from from (slice_range text from (end + 1)) (drop (end + 1) text)
byte_joined text from end h l e =
    ap (names_from from (slice_range text from end)) (drop_more text end 0 l) ∙ at_other from (get_or text end 0) (slice_range text from end) (drop (end + 1) text) e
    ∙ ap (λ bs. names_from from bs (drop (end + 1) text)) (sym (between_more text from end 0 h l))

-- a name of some bytes is no empty one
with_some : (from : ℕ) (bs : List ℕ) (others : List Piece) → 0 < length bs → with_name from bs others ≡ piece from bs ∷ others
with_some from [] others h = absurd (omega arith)
with_some from (b ∷ bs) others h = refl

last_some : (from : ℕ) (bs : List ℕ) → 0 < length bs → last_name from bs ≡ piece from bs ∷ []
last_some from [] h = absurd (omega arith)
last_some from (b ∷ bs) h = refl

last_none : (from : ℕ) (bs : List ℕ) → length bs ≡ 0 → last_name from bs ≡ added_dot from ∷ []
last_none from [] h = refl
last_none from (b ∷ bs) h = absurd (omega arith)

-- where a slash stands, the name before it is taken, and the next one begins behind it
at_end : (text : List ℕ) (from end : ℕ) → from < end → end < length text → get_or text end 0 ≡ 47
    → names_from from (slice_range text from end) (drop end text) ≡ piece from (slice_range text from end) ∷ names_from (end + 1) [] (drop (end + 1) text)
at_end text from end h l e =
    let len : length (slice_range text from end) ≡ end - from = length-between text from end (omega arith) in
    ap (names_from from (slice_range text from end)) (drop_more text end 0 l) ∙ at_slash from (get_or text end 0) (slice_range text from end) (drop (end + 1) text) e
    ∙ with_some from (slice_range text from end) _ (omega arith)
    ∙ ap (λ n. piece from (slice_range text from end) ∷ names_from n [] (drop (end + 1) text)) (let k : from + length (slice_range text from end) + 1 ≡ end + 1 = omega arith in k)

-- what a name that was read is, where its place is known to be before the text's end or at it
name_before : (text : List ℕ) (from end : ℕ) (t : Bool) → t ≡ false
    → cond t (added_dot from) (piece from (slice_range text from end)) ≡ piece from (slice_range text from end)
name_before text from end true h = cc
name_before text from end false h = refl

name_behind : (text : List ℕ) (from end : ℕ) (t : Bool) → t ≡ true → cond t (added_dot from) (piece from (slice_range text from end)) ≡ added_dot from
name_behind text from end true h = refl
name_behind text from end false h = cc

after_true : (t : Bool) (ps : List Piece) → t ≡ true → cond t ps [] ≡ ps
after_true true ps h = refl
after_true false ps h = cc

not_equal : (m n : ℕ) → m ≢ n → eqb m n ≡ false
not_equal m n h = elim (eqb_tells m n) as (λ w. eqb m n ≡ false) [ inl w ↦ absurd (h w.1) | inr w ↦ w.0 ]

equal : (m n : ℕ) → m ≡ n → eqb m n ≡ true
equal m n h = elim (eqb_tells m n) as (λ w. eqb m n ≡ true) [ inl w ↦ w.0 | inr w ↦ absurd (w.1 h) ]

after_false : (t : Bool) (ps : List Piece) → t ≡ false → cond t ps [] ≡ []
after_false true ps h = cc
after_false false ps h = refl

-- what is read of a text, where its next name stands between these places; first where a slash ends it, then at the text's end
read_before : (text : List ℕ) (from end : ℕ) → from ≤ end → end < length text → (from < length text → get_or text from 0 ≢ 47) → get_or text end 0 ≡ 47
    → names_from from (slice_range text from end) (drop end text) ≡ name_at text (record { from = from; end = end }) ∷ names_after text end
read_before text from end order before other ended =
    let differ : from ≢ end = λ same. other (omega arith) (ap (λ n. get_or text n 0) same ∙ ended) in
    at_end text from end (omega arith) before ended
    ∙ ap (λ p. p ∷ names_from (end + 1) [] (drop (end + 1) text)) (sym (name_before text from end (eqb from (length text)) (not_equal from (length text) (omega arith))))
    ∙ ap (λ ps. name_at text (record { from = from; end = end }) ∷ ps) (sym (after_true (ltb end (length text)) _ (search (rules, tests))))

-- at a text's end, where some bytes of a name stand before it, and where none do
read_last : (text : List ℕ) (from end : ℕ) → from ≤ end → end ≡ length text
    → last_name from (slice_range text from end) ≡ name_at text (record { from = from; end = end }) ∷ []
read_last text from end order same =
    let len : length (slice_range text from end) ≡ end - from = length-between text from end (omega arith) in
    elim (eqb_tells from (length text)) as (λ w. last_name from (slice_range text from end) ≡ name_at text (record { from = from; end = end }) ∷ []) [
      | inl w ↦ last_none from (slice_range text from end) (omega arith) ∙ ap (λ p. p ∷ []) (sym (name_behind text from end (eqb from (length text)) w.0))
      | inr w ↦ last_some from (slice_range text from end) (omega arith) ∙ ap (λ p. p ∷ []) (sym (name_before text from end (eqb from (length text)) w.0))
    ]

read_at_end : (text : List ℕ) (from end : ℕ) → from ≤ end → end ≡ length text
    → names_from from (slice_range text from end) (drop end text) ≡ name_at text (record { from = from; end = end }) ∷ names_after text end
read_at_end text from end order same =
    ap (names_from from (slice_range text from end)) (drop_all end text (omega arith)) ∙ read_last text from end order same
    ∙ ap (λ ps. name_at text (record { from = from; end = end }) ∷ ps) (sym (after_false (ltb end (length text)) _ (search (rules, tests))))

pub name_read : (text : List ℕ) (from end : ℕ) → from ≤ end → end ≤ length text → (from < length text → get_or text from 0 ≢ 47)
    → (end < length text → get_or text end 0 ≡ 47)
    → names_from from (slice_range text from end) (drop end text) ≡ name_at text (record { from = from; end = end }) ∷ names_after text end
name_read text from end order within other ended =
    elim (eqb_tells end (length text)) as (λ w. names_from from (slice_range text from end) (drop end text) ≡ name_at text (record { from = from; end = end }) ∷ names_after text end) [
      | inl w ↦ read_at_end text from end order w.1
      | inr w ↦ let before : end < length text = omega arith in read_before text from end order before other (ended before)
    ]
