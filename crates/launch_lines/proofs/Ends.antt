-- What stands at the end of a line.
use Rattle.std.proofs.Common.{◌≡◌, ℕ, suc, ◌+◌, ◌-◌, ◌==◌, ◌≤◌, List, [], ◌∷◌, ◌++◌, length, take, drop, true, false, refl, sym, ap, ◌∙◌, append_assoc, length-append, arith}
use Rattle.std.proofs.Math.Seq.{drop-append_seam, take-length}
use Rattle.std.proofs.lemmas.List.{drop-take, drop-drop, length-take-le, length-drop}
use Rattle.std.specs.Prelude.{if◌then◌else◌}
use Rattle.launch_scalars.specs.Spaces.{after_spaces, unless_comment, after_gap}
use Rattle.launch_lines.specs.Views.{IsEndOf}

-- the rest of a part of a text, by its places in the text
pub rest_of_text : (text front rest : List ℕ) (start end : ℕ) → start ≤ end → end ≤ length text → take (end - start) (drop start text) ≡ front ++ rest
    → take (end - (start + (length (take (end - start) (drop start text)) - length rest))) (drop (start + (length (take (end - start) (drop start text)) - length rest)) text) ≡ rest
rest_of_text text front rest start end p q is =
    let size : length (take (end - start) (drop start text)) ≡ length front + length rest = ap length is ∙ length-append front rest in
    let whole : length (take (end - start) (drop start text)) ≡ end - start = length-take-le _ _ (omega (arith, length-drop start text)) in
    let t : length (take (end - start) (drop start text)) - length rest ≡ length front = omega arith in
    let n : end - (start + length front) ≡ (end - start) - length front = omega arith in
    let sum : length front + ((end - start) - length front) ≡ end - start = omega arith in
    ap (λ k. take (end - (start + k)) (drop (start + k) text)) t
    ∙ ap (λ k. take k (drop (start + length front) text)) n
    ∙ ap (λ (l : List ℕ). take ((end - start) - length front) l) (sym (drop-drop (length front) start text))
    ∙ sym (drop-take (length front) ((end - start) - length front) (drop start text))
    ∙ ap (λ k. drop (length front) (take k (drop start text))) sum
    ∙ ap (drop (length front)) is
    ∙ drop-append_seam front rest

spaces_end : (bytes : List ℕ) → IsEndOf bytes (after_spaces bytes)
spaces_end [] = ([], refl)
spaces_end (b ∷ bs) = elim (b == 32) as (λ v. IsEndOf (b ∷ bs) (if v then after_spaces bs else b ∷ bs)) [
  | true ↦ let e = spaces_end bs in (b ∷ e.0, ap (λ (l : List ℕ). b ∷ l) e.1)
  | false ↦ ([], refl)
]

append_none : (l : List ℕ) → l ≡ l ++ []
append_none [] = refl
append_none (b ∷ bs) = ap (λ (l : List ℕ). b ∷ l) (append_none bs)

comment_end : (bytes : List ℕ) → IsEndOf bytes (unless_comment bytes)
comment_end [] = ([], refl)
comment_end (b ∷ bs) = elim (b == 35) as (λ v. IsEndOf (b ∷ bs) (if v then [] else b ∷ bs)) [
  | true ↦ (b ∷ bs, append_none (b ∷ bs))
  | false ↦ ([], refl)
]

pub end_further : (bytes middle rest : List ℕ) → IsEndOf bytes middle → IsEndOf middle rest → IsEndOf bytes rest
end_further bytes middle rest a b =
    (a.0 ++ b.0, a.1 ∙ ap (λ (l : List ℕ). a.0 ++ l) b.1 ∙ sym (append_assoc a.0 b.0 rest))

pub gap_end : (bytes : List ℕ) → IsEndOf bytes (after_gap bytes)
gap_end [] = ([], refl)
gap_end (b ∷ bs) = elim (b == 32) as (λ v. IsEndOf (b ∷ bs) (if v then unless_comment (after_spaces bs) else b ∷ bs)) [
  | true ↦
      let e = end_further bs (after_spaces bs) (unless_comment (after_spaces bs)) (spaces_end bs) (comment_end (after_spaces bs)) in
      (b ∷ e.0, ap (λ (l : List ℕ). b ∷ l) e.1)
  | false ↦ ([], refl)
]

-- what stands behind a dash
pub dash_end : (bytes : List ℕ) → 1 ≤ length bytes → IsEndOf bytes (after_gap (take (length bytes - 1) (drop 1 bytes)))
dash_end [] some = absurd (omega arith)
dash_end (b ∷ bs) some =
    let size : suc (length bs) - 1 ≡ length bs = omega arith in
    let all : take (suc (length bs) - 1) bs ≡ bs = ap (λ n. take n bs) size ∙ take-length bs in
    let e = gap_end bs in
    (b ∷ e.0, ap (λ (l : List ℕ). b ∷ l) (e.1 ∙ ap (λ (l : List ℕ). e.0 ++ after_gap l) (sym all)))
