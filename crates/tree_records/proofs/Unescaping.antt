-- The bytes that a text writes, read one after the other as a loop does.
use Rattle.std.proofs.Common.{◌≡◌, ℕ, zero, suc, ◌+◌, ◌*◌, ◌<◌, ◌≤◌, Bool, true, false, eqb, List, [], ◌∷◌, ◌++◌, length, Option, Some, None, inl, inr, refl, sym, ap, subst, ◌∙◌, append_assoc, arith}
use Rattle.std.proofs.Math.Dec.{eqb-suc-zero}
use Rattle.std.proofs.lemmas.List.{append-nil}
use Rattle.lists.specs.Options.{◌>>=◌}
use Rattle.lists.proofs.Chosen.{chosen, some_is, none_some}
use Rattle.lists.proofs.OptionSteps.{bind_some, bind_alike}
use Rattle.tree_records.specs.Escapes.{is_escaped}
use Rattle.tree_records.specs.Reading.{digit_of, escape_at, byte_at, unescaped_within, unescaped}

abbrev some_byte : ℕ → List ℕ → Option (ℕ × List ℕ)
some_byte b bs = Some (b, bs)

pub escape_shorter : (bytes rest : List ℕ) (x : ℕ) → escape_at bytes ≡ Some (x, rest) → length rest < length bytes
escape_shorter [] rest x e = absurd (none_some (x, rest) e)
escape_shorter (h ∷ []) rest x e = absurd (none_some (x, rest) e)
escape_shorter (h ∷ l ∷ bs) rest x e =
    let high = bind_some (digit_of h) _ (x, rest) e in
    let low = bind_some (digit_of l) _ (x, rest) high.2 in
    elim (chosen (is_escaped (16 * high.0 + low.0)) (some_byte (16 * high.0 + low.0) bs) None (Some (x, rest)) low.2) [
      | inl is ↦
          let same : bs ≡ rest = ap (λ (s : ℕ × List ℕ). s.1) (some_is (16 * high.0 + low.0, bs) (x, rest) is.1) in
          subst (λ (r : List ℕ). length r < suc (suc (length bs))) same (omega arith)
      | inr other ↦ absurd (none_some (x, rest) other.1)
    ]

pub byte_shorter : (text rest : List ℕ) (x : ℕ) → byte_at text ≡ Some (x, rest) → length rest < length text
byte_shorter [] rest x e = absurd (none_some (x, rest) e)
byte_shorter (b ∷ bs) rest x e =
    elim (chosen (eqb b 37) (escape_at bs) _ (Some (x, rest)) e) [
      | inl is ↦ let short = escape_shorter bs rest x is.1 in omega arith
      | inr other ↦ elim (chosen (is_escaped b) None (some_byte b bs) (Some (x, rest)) other.1) [
        | inl is ↦ absurd (none_some (x, rest) is.1)
        | inr plain ↦
            let same : bs ≡ rest = ap (λ (s : ℕ × List ℕ). s.1) (some_is (b, bs) (x, rest) plain.1) in
            subst (λ (r : List ℕ). length r < suc (length bs)) same (omega arith)
      ]
    ]

-- any fuel that is enough gives the same bytes
within_alike : (m n : ℕ) (text : List ℕ) → length text ≤ m → length text ≤ n → unescaped_within m text ≡ unescaped_within n text
within_alike m n [] p q = refl
within_alike zero n (b ∷ bs) p q = absurd (omega arith)
within_alike (suc m) zero (b ∷ bs) p q = absurd (omega arith)
within_alike (suc m) (suc n) (b ∷ bs) p q =
    bind_alike (byte_at (b ∷ bs)) _ _ (λ first is.
    let short : length first.1 < suc (length bs) = byte_shorter (b ∷ bs) first.1 first.0 is in
    ap (λ (r : Option (List ℕ)). r >>= λ more. Some (first.0 ∷ more)) (within_alike m n first.1 (omega arith) (omega arith)))

pub unescaped-nil : unescaped [] ≡ Some []
unfolding unescaped
unescaped-nil = refl

-- the byte at the front, and those of what stands behind it
pub unescaped_more : (text : List ℕ) → 0 < length text → unescaped text ≡ (byte_at text >>= λ first. unescaped first.1 >>= λ more. Some (first.0 ∷ more))
unfolding unescaped
unescaped_more [] some = absurd (omega arith)
unescaped_more (b ∷ bs) some =
    bind_alike (byte_at (b ∷ bs)) _ _ (λ first is.
    let short : length first.1 < suc (length bs) = byte_shorter (b ∷ bs) first.1 first.0 is in
    ap (λ (r : Option (List ℕ)). r >>= λ more. Some (first.0 ∷ more)) (within_alike (length bs) (length first.1) first.1 (omega arith) (omega arith)))

-- ---- a loop's steps

-- what was read before, and what is still read
abbrev pub with_front : List ℕ → Option (List ℕ) → Option (List ℕ)
with_front front read = read >>= λ more. Some (front ++ more)

regroup : (front : List ℕ) (x : ℕ) (read : Option (List ℕ)) → with_front front (read >>= λ more. Some (x ∷ more)) ≡ with_front (front ++ x ∷ []) read
regroup front x None = refl
regroup front x (Some xs) = ap (λ (ys : List ℕ). Some ys) (simp append_assoc)

-- one byte more
pub go_on : (front text after : List ℕ) (x : ℕ) (total : Option (List ℕ)) → 0 < length text
    → byte_at text ≡ Some (x, after) → with_front front (unescaped text) ≡ total → with_front (front ++ x ∷ []) (unescaped after) ≡ total
go_on front text after x total some is so_far =
    let one : unescaped text ≡ (unescaped after >>= λ more. Some (x ∷ more)) = unescaped_more text some ∙ rw is refl in
    sym (regroup front x (unescaped after)) ∙ ap (with_front front) (sym one) ∙ so_far

-- no byte is written so
pub fail : (front text : List ℕ) (total : Option (List ℕ)) → 0 < length text → byte_at text ≡ None → with_front front (unescaped text) ≡ total → total ≡ None
fail front text total some is so_far =
    let one : unescaped text ≡ None = unescaped_more text some ∙ rw is refl in
    sym so_far ∙ ap (with_front front) one

-- the end
pub done : (front text : List ℕ) (total : Option (List ℕ)) → text ≡ [] → with_front front (unescaped text) ≡ total → total ≡ Some front
done front text total empty so_far =
    sym so_far ∙ ap (λ (bs : List ℕ). with_front front (unescaped bs)) empty ∙ ap (with_front front) unescaped-nil ∙ ap (λ (xs : List ℕ). Some xs) (append-nil front)

-- ---- what a test of a length says

pub nonempty : (xs : List ℕ) (b : Bool) → b ≡ eqb (length xs) 0 → b ≡ false → 0 < length xs
nonempty [] b h k = absurd cc
nonempty (x ∷ xs) b h k = omega arith

pub empty : (xs : List ℕ) (b : Bool) → b ≡ eqb (length xs) 0 → b ≡ true → xs ≡ []
empty [] b h k = refl
empty (x ∷ xs) b h k = absurd (true_false (sym k ∙ h ∙ eqb-suc-zero (length xs)))
  where
    true_false : true ≡ false → ⊥
    true_false e = cc
