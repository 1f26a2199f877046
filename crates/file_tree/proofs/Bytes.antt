-- Zeros behind bytes, and bytes put over others.
use Rattle.std.proofs.Common.{◌≡◌, ℕ, ◌+◌, ◌-◌, ◌<◌, ◌≤◌, ◌⊎◌, ◌==◌, inl, inr, true, false, leb, List, [], ◌∷◌, ◌++◌, take, drop, length, replicate, max, min, refl, sym, ap, ◌∙◌, arith}
use Rattle.std.proofs.lemmas.Bool.{leb-true, leb-false, eqb-true, false≢true}
use Rattle.std.proofs.lemmas.List.{append-nil, length-append, length-replicate, take_all, drop_all, take-append-le, take-replicate}
use Rattle.std.proofs.Math.Seq.{take-append-add}
use Rattle.tree_model.specs.declared.limits.TheConstants.{MOST_FILE_BYTES}
use Rattle.tree_model.specs.Files.{after_write, padded, written}

at_most_or_more : (a b : ℕ) → (a ≤ b) ⊎ (b < a)
at_most_or_more a b = elim (leb a b) as (λ r. leb a b ≡ r → (a ≤ b) ⊎ (b < a)) [ true ↦ λ e. inl (leb-true a b e) | false ↦ λ e. inr (leb-false a b e) ] refl

-- as many zeros behind the bytes as reach this place, or more
take_zeros : (old : List ℕ) (at k : ℕ) → at ≤ length old + k → take at (old ++ replicate k 0) ≡ take at (padded old at)
take_zeros old at k enough =
    elim (at_most_or_more at (length old)) [
      | inl within ↦ take-append-le at old (replicate k 0) within ∙ sym (take-append-le at old (replicate (at - length old) 0) within)
      | inr past ↦
          let j = at - length old in
          let is : at ≡ length old + j = omega arith in
          ap (λ n. take n (old ++ replicate k 0)) is ∙ take-append-add old (replicate k 0) j ∙ ap (λ zs. old ++ zs) (take-replicate j k 0 (omega arith))
          ∙ sym (take_all at (padded old at) (omega (arith, length-append old (replicate j 0), length-replicate {A = ℕ} j 0)))
    ]

-- no more zeros behind the bytes than reach this place
drop_zeros : (old : List ℕ) (end k : ℕ) → k ≡ end - length old → drop end (old ++ replicate k 0) ≡ drop end old
drop_zeros old end k reach =
    elim (at_most_or_more end (length old)) [
      | inl within ↦
          let none : k ≡ 0 = omega arith in
          ap (λ n. drop end (old ++ replicate n 0)) none ∙ ap (drop end) (append-nil old)
      | inr past ↦
          drop_all end (old ++ replicate k 0) (omega (arith, length-append old (replicate k 0), length-replicate {A = ℕ} k 0))
          ∙ sym (drop_all end old (omega arith))
    ]

-- bytes put over those from a place on, where zeros were put behind the old ones as far as the new ones reach
module _ (old items put new : List ℕ) (at size had len : ℕ) where
  pub written_over : had ≡ length old → size ≡ max had (at + length new) → items ≡ take size old ++ replicate (size - had) 0
      → len ≡ length items → put ≡ take at items ++ (new ++ drop (at + length new) items) → length put ≡ length items
      → take len (put ++ drop (length put) items) ≡ written old at new
  written_over all most filled whole is same =
      let k = size - had in
      let reach : k ≡ (at + length new) - length old = omega arith in
      let zeros : items ≡ old ++ replicate k 0 = filled ∙ ap (λ xs. xs ++ replicate k 0) (take_all size old (omega arith)) in
      let nothing_left : take len (put ++ drop (length put) items) ≡ put =
      ap (λ xs. take len (put ++ xs)) (drop_all (length put) items (omega arith)) ∙ ap (take len) (append-nil put) ∙ take_all len put (omega arith) in
      nothing_left ∙ is
      ∙ ap (λ xs. take at xs ++ (new ++ drop (at + length new) xs)) zeros
      ∙ ap (λ xs. xs ++ (new ++ drop (at + length new) (old ++ replicate k 0))) (take_zeros old at k (omega arith))
      ∙ ap (λ xs. take at (padded old at) ++ (new ++ xs)) (drop_zeros old (at + length new) k reach)

-- ---- a write as a whole

-- no bytes change nothing
pub after_none : (old new : List ℕ) (at : ℕ) → (length new == 0) ≡ true → after_write old at new ≡ old
after_none old [] at none = refl
after_none old (b ∷ new) at none = let zero = eqb-true (length (b ∷ new)) 0 none in absurd (omega arith)

-- some bytes are written as far as there is room
pub after_some : (old new : List ℕ) (at count : ℕ) → (length new == 0) ≡ false → count ≡ min (length new) (MOST_FILE_BYTES - at)
    → written old at (take count new) ≡ after_write old at new
after_some old [] at count some is = absurd (false≢true (sym some))
after_some old (b ∷ new) at count some is = ap (written old at) (cut (b ∷ new) count (MOST_FILE_BYTES - at) is)
  where
    cut : (xs : List ℕ) (count room : ℕ) → count ≡ min (length xs) room → take count xs ≡ take room xs
    cut xs count room is =
        elim (at_most_or_more (length xs) room) [
          | inl within ↦ take_all count xs (omega arith) ∙ sym (take_all room xs within)
          | inr past ↦ let same : count ≡ room = omega arith in ap (λ n. take n xs) same
        ]
