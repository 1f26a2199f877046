-- The first line of a text, and the lines behind it.
use Rattle.std.specs.Prelude.{ℕ, suc, ◌==◌, not, cond, ◌≡◌, ◌+◌, ◌-◌, ◌<◌, ◌≤◌, Bool, true, false, List, [], ◌∷◌, ◌++◌, length, take, drop, refl}
use Rattle.std.proofs.Common.{sym, ◌∙◌, ap, subst, add-one, arith}
use Rattle.std.proofs.lemmas.List.{take_all, drop-drop, drop-take, length-drop}
use Rattle.std.specs.List.{prefix_len}
use Rattle.launch_lines.specs.Lines.{pieces, onto_first, without_return, without_returns, lines_of, is_no_feed}

-- a carriage return at the end goes
pub without_last : (ys : List ℕ) (x : ℕ) → without_return (ys ++ x ∷ []) ≡ cond (x == 13) ys (ys ++ x ∷ [])
without_last [] x = refl
without_last (y ∷ []) x = onto y (x == 13) where
  onto : (y : ℕ) (b : Bool) → y ∷ cond b [] (x ∷ []) ≡ cond b (y ∷ []) (y ∷ x ∷ [])
  onto y true = refl
  onto y false = refl
without_last (y ∷ z ∷ ys) x = ap (λ l. y ∷ l) (without_last (z ∷ ys) x) ∙ onto (x == 13) where
  onto : (b : Bool) → y ∷ cond b (z ∷ ys) (z ∷ ys ++ x ∷ []) ≡ cond b (y ∷ z ∷ ys) (y ∷ z ∷ ys ++ x ∷ [])
  onto true = refl
  onto false = refl

-- a text with no line feed is one piece
pub one_piece : (bs : List ℕ) → length bs ≤ prefix_len is_no_feed bs → pieces bs ≡ bs ∷ []
one_piece [] h = refl
one_piece (b ∷ bs) h = at (b == 10) (λ short. one_piece bs short) h where
  at : (t : Bool) → (length bs ≤ prefix_len is_no_feed bs → pieces bs ≡ bs ∷ [])
      → suc (length bs) ≤ cond (not t) (1 + prefix_len is_no_feed bs) 0 → cond t ([] ∷ pieces bs) (onto_first b (pieces bs)) ≡ (b ∷ bs) ∷ []
  at true further h = absurd (omega (arith, h))
  at false further h = ap (onto_first b) (further (omega (arith, h)))

-- what stands before the first line feed is the first piece
pub first_piece : (bs : List ℕ) → prefix_len is_no_feed bs < length bs
    → pieces bs ≡ take (prefix_len is_no_feed bs) bs ∷ pieces (drop (suc (prefix_len is_no_feed bs)) bs)
first_piece [] h = absurd (omega (arith, h))
first_piece (b ∷ bs) h = at (b == 10) (λ short. first_piece bs short) h where
  at : (t : Bool) → (prefix_len is_no_feed bs < length bs
      → pieces bs ≡ take (prefix_len is_no_feed bs) bs ∷ pieces (drop (suc (prefix_len is_no_feed bs)) bs))
      → cond (not t) (1 + prefix_len is_no_feed bs) 0 < suc (length bs)
      → cond t ([] ∷ pieces bs) (onto_first b (pieces bs))
      ≡ take (cond (not t) (1 + prefix_len is_no_feed bs) 0) (b ∷ bs) ∷ pieces (drop (suc (cond (not t) (1 + prefix_len is_no_feed bs) 0)) (b ∷ bs))
  at true further h = refl
  at false further h =
      let one : suc (prefix_len is_no_feed bs) ≡ 1 + prefix_len is_no_feed bs = omega arith in
      ap (onto_first b) (further (omega (arith, h))) ∙ ap (λ k. take k (b ∷ bs) ∷ pieces (drop k bs)) one

-- there is a piece
pub some_piece : (bs : List ℕ) → (p : List ℕ) × (ps : List (List ℕ)) × (pieces bs ≡ p ∷ ps)
some_piece [] = ([], [], refl)
some_piece (b ∷ bs) = at (b == 10) (some_piece bs) where
  at : (t : Bool) → (p : List ℕ) × (ps : List (List ℕ)) × (pieces bs ≡ p ∷ ps)
      → (p : List ℕ) × (ps : List (List ℕ)) × (cond t ([] ∷ pieces bs) (onto_first b (pieces bs)) ≡ p ∷ ps)
  at true further = ([], pieces bs, refl)
  at false further = (b ∷ further.0, further.1, ap (onto_first b) further.2)

-- the line of a piece that isn't the last
pub line_before : (p : List ℕ) (bs : List ℕ) → without_returns (p ∷ pieces bs) ≡ without_return p ∷ lines_of bs
line_before p bs =
    let some = some_piece bs in
    ap (λ ps. without_returns (p ∷ ps)) some.2 ∙ ap (λ ps. without_return p ∷ without_returns ps) (sym some.2)

-- the only line, and the first of several
pub one_line : (bs : List ℕ) → length bs ≤ prefix_len is_no_feed bs → lines_of bs ≡ bs ∷ []
one_line bs h = ap without_returns (one_piece bs h)

pub first_line_of : (bs : List ℕ) → prefix_len is_no_feed bs < length bs
    → lines_of bs ≡ without_return (take (prefix_len is_no_feed bs) bs) ∷ lines_of (drop (suc (prefix_len is_no_feed bs)) bs)
first_line_of bs h = ap without_returns (first_piece bs h) ∙ line_before (take (prefix_len is_no_feed bs) bs) (drop (suc (prefix_len is_no_feed bs)) bs)

-- ---- as slices have them

pub return_goes : (line front : List ℕ) (x : ℕ) → line ≡ front ++ x ∷ [] → x ≡ 13 → front ≡ without_return line
return_goes line front x whole is = sym (ap without_return (whole ∙ ap (λ y. front ++ y ∷ []) is) ∙ without_last front 13)

pub other_stays : (line front : List ℕ) (x : ℕ) → line ≡ front ++ x ∷ [] → (x == 13) ≡ false → line ≡ without_return line
other_stays line front x whole isnt =
    whole ∙ sym (ap without_return whole ∙ without_last front x ∙ ap (λ b. cond b front (front ++ x ∷ [])) isnt)

-- all of a slice behind its first byte
pub behind_first : (bs : List ℕ) → take (length bs - 1) (drop 1 bs) ≡ drop 1 bs
behind_first bs = take_all _ _ (omega (arith, length-drop 1 bs))

-- what stands behind a line feed
pub behind_feed : (text back : List ℕ) (n : ℕ) → back ≡ drop n text → take (length back - 1) (drop 1 back) ≡ drop (suc n) text
behind_feed text back n is = behind_first back ∙ ap (drop 1) is ∙ drop-drop 1 n text ∙ ap (λ k. drop k text) (add-one n)

pub only_line : (text front back : List ℕ) (n : ℕ) → n ≡ prefix_len is_no_feed text → front ≡ take n text → back ≡ drop n text → length back < 1
    → lines_of text ≡ front ∷ []
only_line text front back n at is rest none =
    let short : length text ≤ n = omega (arith, ap length rest, length-drop n text) in
    one_line text (subst (λ k. length text ≤ k) at short) ∙ ap (λ l. l ∷ []) (sym (is ∙ take_all n text short))

pub line_and_more : (text front back : List ℕ) (n : ℕ) → n ≡ prefix_len is_no_feed text → front ≡ take n text → back ≡ drop n text → 1 ≤ length back
    → lines_of text ≡ without_return front ∷ lines_of (take (length back - 1) (drop 1 back))
line_and_more text front back n at is rest some =
    let inside : n < length text = omega (arith, ap length rest, length-drop n text) in
    first_line_of text (subst (λ k. k < length text) at inside)
    ∙ ap (λ k. without_return (take k text) ∷ lines_of (drop (suc k) text)) (sym at)
    ∙ ap (λ l. without_return l ∷ lines_of (drop (suc n) text)) (sym is)
    ∙ ap (λ l. without_return front ∷ lines_of l) (sym (behind_feed text back n rest))

-- by its length
pub by_length : (text back : List ℕ) (n : ℕ) → back ≡ drop n text → 1 ≤ length back
    → take (length back - 1) (drop 1 back) ≡ drop (length text - length (take (length back - 1) (drop 1 back))) text
by_length text back n rest some =
    let e = behind_feed text back n rest in
    let back_length = ap length rest ∙ length-drop n text in
    let k : suc n ≡ length text - length (take (length back - 1) (drop 1 back)) = omega (arith, ap length e, length-drop (suc n) text, back_length) in
    e ∙ ap (λ k. drop k text) k

-- what stands in a line from its column on
pub from_column : (text : List ℕ) (start end column : ℕ) → start + column ≤ end
    → drop column (take (end - start) (drop start text)) ≡ take (end - (start + column)) (drop (start + column) text)
from_column text start end column inside =
    let e : end - start ≡ column + (end - (start + column)) = omega (arith, inside) in
    ap (λ k. drop column (take k (drop start text))) e
    ∙ drop-take column (end - (start + column)) (drop start text)
    ∙ ap (take (end - (start + column))) (drop-drop column start text)

-- ---- how many lines there are

pub some_line : (bs : List ℕ) → 1 ≤ length (lines_of bs)
some_line bs = let some = some_piece bs in subst (λ ps. 1 ≤ length (without_returns ps)) (sym some.2) (at some.0 some.1) where
  at : (p : List ℕ) (ps : List (List ℕ)) → 1 ≤ length (without_returns (p ∷ ps))
  at p [] = omega arith
  at p (q ∷ qs) = omega arith
