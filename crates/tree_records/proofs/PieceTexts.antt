-- What stands before a byte, and contents: what is read is encoded so, and what is encoded so is read.
use Rattle.std.proofs.Common.{◌≡◌, ◌≢◌, ℕ, ◌+◌, eqb, ltb, ◌&&◌, List, [], ◌∷◌, ◌++◌, length, take, drop, Option, Some, None, inl, inr, refl, sym, ap, ◌∙◌, arith, length-append, take-append-drop}
use Rattle.std.proofs.lemmas.Bool.{and_from, and_parts, cond-false, cond-true, eq-eqb, eqb-true, lt-ltb, ltb-true, ne_eqb}
use Rattle.std.proofs.lemmas.List.{drop-drop, drop_at, drop_more, get_or_at, length-take-le, take_at}
use Rattle.std.specs.List.{AllByRecursion}
use Rattle.std.specs.Option.{option_map}
use Rattle.std.specs.Prelude.{slice_index}
use Rattle.lists.proofs.Chosen.{chosen, none_some, some_is}
use Rattle.tree_records.specs.Reading.{content_at, split_once}

-- without this byte
abbrev pub Without : ℕ → List ℕ → Type 0
Without c bytes = AllByRecursion (λ b. b ≢ c) bytes

pub without_both : (c : ℕ) (xs ys : List ℕ) → Without c xs → Without c ys → Without c (xs ++ ys)
without_both c [] ys h k = k
without_both c (x ∷ xs) ys h k = (h.0, without_both c xs ys h.1 k)

abbrev some_split : List ℕ → List ℕ → Option (List ℕ × List ℕ)
some_split front rest = Some (front, rest)

-- ---- what stands before a byte

map_found : (b : ℕ) (o : Option (List ℕ × List ℕ)) (front rest : List ℕ) → option_map (λ s. (b ∷ s.0, s.1)) o ≡ some_split front rest
    → (before : List ℕ) × (o ≡ Some (before, rest)) × (front ≡ b ∷ before)
map_found b None front rest e = absurd (none_some (front, rest) e)
map_found b (Some s) front rest e =
    let same = some_is (b ∷ s.0, s.1) (front, rest) e in
    (s.0, ap (λ (r : List ℕ). some_split s.0 r) (ap (λ (p : List ℕ × List ℕ). p.1) same), sym (ap (λ (p : List ℕ × List ℕ). p.0) same))

pub split_found : (c : ℕ) (bytes front rest : List ℕ) → split_once c bytes ≡ Some (front, rest) → bytes ≡ front ++ c ∷ rest
split_found c [] front rest e = absurd (none_some (front, rest) e)
split_found c (b ∷ bs) front rest e =
    elim (chosen (eqb b c) (some_split [] bs) _ (Some (front, rest)) e) [
      | inl is ↦
          let same = some_is ([], bs) (front, rest) is.1 in
          λ i. ap (λ (p : List ℕ × List ℕ). p.0) same i ++ eqb-true b c is.0 i ∷ ap (λ (p : List ℕ × List ℕ). p.1) same i
      | inr other ↦
          let found = map_found b (split_once c bs) front rest other.1 in
          ap (λ (xs : List ℕ). b ∷ xs) (split_found c bs found.0 rest found.1) ∙ ap (λ (xs : List ℕ). xs ++ c ∷ rest) (sym found.2)
    ]

pub split_again : (c : ℕ) (front rest : List ℕ) → Without c front → split_once c (front ++ c ∷ rest) ≡ Some (front, rest)
split_again c [] rest h = cond-true (eqb c c) (some_split [] rest) (option_map (λ s. (c ∷ s.0, s.1)) (split_once c rest)) (eq-eqb c c refl)
split_again c (b ∷ bs) rest h =
    cond-false (eqb b c) (some_split [] (bs ++ c ∷ rest)) (option_map (λ s. (b ∷ s.0, s.1)) (split_once c (bs ++ c ∷ rest))) (ne_eqb b c h.0)
    ∙ ap (option_map (λ (s : List ℕ × List ℕ). (b ∷ s.0, s.1))) (split_again c bs rest h.1)

-- ---- contents

pub content_found : (n : ℕ) (bytes content rest : List ℕ) → content_at n bytes ≡ Some (content, rest) → (bytes ≡ content ++ 10 ∷ rest) × (length content ≡ n)
content_found n bytes content rest e =
    elim (chosen (ltb n (length bytes) && eqb (slice_index bytes n) 10) (some_split (take n bytes) (drop (n + 1) bytes)) None (Some (content, rest)) e) [
      | inl is ↦
          let tests = and_parts (ltb n (length bytes)) (eqb (slice_index bytes n) 10) is.0 in
          let inside = ltb-true n (length bytes) tests.0 in
          let same = some_is (take n bytes, drop (n + 1) bytes) (content, rest) is.1 in
          let front : take n bytes ≡ content = ap (λ (p : List ℕ × List ℕ). p.0) same in
          let behind : drop (n + 1) bytes ≡ rest = ap (λ (p : List ℕ × List ℕ). p.1) same in (
            sym (take-append-drop n bytes) ∙ ap (λ (xs : List ℕ). take n bytes ++ xs) (drop_more bytes n 0 inside)
                ∙ (λ i. front i ++ eqb-true (slice_index bytes n) 10 tests.1 i ∷ behind i),
            ap length (sym front) ∙ length-take-le n bytes (omega arith),
          )
      | inr other ↦ absurd (none_some (content, rest) other.1)
    ]

pub content_again : (content rest : List ℕ) → content_at (length content) (content ++ 10 ∷ rest) ≡ Some (content, rest)
content_again content rest =
    let whole = length-append content (10 ∷ rest) in
    let at : slice_index (content ++ 10 ∷ rest) (length content) ≡ 10 = get_or_at content 10 rest 0 (length content) refl in
    cond-true (ltb (length content) (length (content ++ 10 ∷ rest)) && eqb (slice_index (content ++ 10 ∷ rest) (length content)) 10) _ None
    (and_from (ltb (length content) (length (content ++ 10 ∷ rest))) (eqb (slice_index (content ++ 10 ∷ rest) (length content)) 10)
    (lt-ltb (length content) (length (content ++ 10 ∷ rest)) (omega arith)) (eq-eqb (slice_index (content ++ 10 ∷ rest) (length content)) 10 at))
    ∙ (λ i. some_split (take_at content (10 ∷ rest) (length content) refl i) (behind i))
  where
    behind : drop (length content + 1) (content ++ 10 ∷ rest) ≡ rest
    behind = sym (drop-drop 1 (length content) (content ++ 10 ∷ rest)) ∙ ap (drop 1) (drop_at content (10 ∷ rest) (length content) refl)
