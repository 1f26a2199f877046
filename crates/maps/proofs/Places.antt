-- Lists of entries by places, where the list is that before an item, the item, and that behind it.
use Rattle.std.proofs.Common.{◌≡◌, ℕ, zero, suc, ◌+◌, ◌<◌, ◌≤◌, List, [], ◌∷◌, ◌++◌, length, Some, refl, ap, arith}
use Rattle.std.specs.List.{slice_get}
use Rattle.maps.specs.Placed.{placed, revalued}

module _ {A : Type 0} where
  pub placed-before : (n : ℕ) (x : A) (l : List A) (m : A) (r : List A) → n ≤ length l → placed n x (l ++ m ∷ r) ≡ placed n x l ++ m ∷ r
  placed-before zero x [] m r h = refl
  placed-before zero x (e ∷ l) m r h = refl
  placed-before (suc n) x [] m r h = absurd (omega arith)
  placed-before (suc n) x (e ∷ l) m r h = ap (λ t. e ∷ t) (placed-before n x l m r (omega arith))

  pub placed-behind : (n q : ℕ) (x : A) (l : List A) (m : A) (r : List A) → n ≡ length l + 1 + q → placed n x (l ++ m ∷ r) ≡ l ++ m ∷ placed q x r
  placed-behind zero q x l m r h = absurd (omega arith)
  placed-behind (suc n) q x [] m r h = let same : n ≡ q = omega arith in ap (λ k. m ∷ placed k x r) same
  placed-behind (suc n) q x (e ∷ l) m r h = ap (λ t. e ∷ t) (placed-behind n q x l m r (omega arith))

  pub placed-between : (n : ℕ) (x : A) (l r : List A) → n ≡ length l → placed n x (l ++ r) ≡ l ++ x ∷ r
  placed-between zero x [] [] h = refl
  placed-between zero x [] (y ∷ r) h = refl
  placed-between zero x (e ∷ l) r h = absurd (omega arith)
  placed-between (suc n) x [] r h = absurd (omega arith)
  placed-between (suc n) x (e ∷ l) r h = ap (λ t. e ∷ t) (placed-between n x l r (omega arith))

  pub length-placed : (n : ℕ) (x : A) (xs : List A) → n ≤ length xs → length (placed n x xs) ≡ length xs + 1
  length-placed zero x [] h = refl
  length-placed zero x (e ∷ xs) h = omega arith
  length-placed (suc n) x [] h = absurd (omega arith)
  length-placed (suc n) x (e ∷ xs) h = let rest = length-placed n x xs (omega arith) in omega arith

  pub slice_get-placed : (n : ℕ) (x : A) (xs : List A) → n ≤ length xs → slice_get (placed n x xs) n ≡ Some x
  slice_get-placed zero x [] h = refl
  slice_get-placed zero x (e ∷ xs) h = refl
  slice_get-placed (suc n) x [] h = absurd (omega arith)
  slice_get-placed (suc n) x (e ∷ xs) h = slice_get-placed n x xs (omega arith)

  pub slice_get-before : (n : ℕ) (l : List A) (m : A) (r : List A) → n < length l → slice_get (l ++ m ∷ r) n ≡ slice_get l n
  slice_get-before n [] m r h = absurd (omega arith)
  slice_get-before zero (e ∷ l) m r h = refl
  slice_get-before (suc n) (e ∷ l) m r h = slice_get-before n l m r (omega arith)

  pub slice_get-between : (n : ℕ) (l : List A) (m : A) (r : List A) → n ≡ length l → slice_get (l ++ m ∷ r) n ≡ Some m
  slice_get-between zero [] m r h = refl
  slice_get-between (suc n) [] m r h = absurd (omega arith)
  slice_get-between zero (e ∷ l) m r h = absurd (omega arith)
  slice_get-between (suc n) (e ∷ l) m r h = slice_get-between n l m r (omega arith)

  pub slice_get-behind : (n q : ℕ) (l : List A) (m : A) (r : List A) → n ≡ length l + 1 + q → slice_get (l ++ m ∷ r) n ≡ slice_get r q
  slice_get-behind zero q l m r h = absurd (omega arith)
  slice_get-behind (suc n) q [] m r h = let same : n ≡ q = omega arith in ap (slice_get r) same
  slice_get-behind (suc n) q (e ∷ l) m r h = slice_get-behind n q l m r (omega arith)

module _ {K X : Type 0} where
  pub revalued-before : (n : ℕ) (v : X) (l : List (K × X)) (m : K × X) (r : List (K × X)) → n < length l → revalued n v (l ++ m ∷ r) ≡ revalued n v l ++ m ∷ r
  revalued-before n v [] m r h = absurd (omega arith)
  revalued-before zero v (e ∷ l) m r h = refl
  revalued-before (suc n) v (e ∷ l) m r h = ap (λ t. e ∷ t) (revalued-before n v l m r (omega arith))

  pub revalued-between : (n : ℕ) (v : X) (l : List (K × X)) (m : K × X) (r : List (K × X)) → n ≡ length l → revalued n v (l ++ m ∷ r) ≡ l ++ (m.0, v) ∷ r
  revalued-between zero v [] m r h = refl
  revalued-between (suc n) v [] m r h = absurd (omega arith)
  revalued-between zero v (e ∷ l) m r h = absurd (omega arith)
  revalued-between (suc n) v (e ∷ l) m r h = ap (λ t. e ∷ t) (revalued-between n v l m r (omega arith))

  pub revalued-behind : (n q : ℕ) (v : X) (l : List (K × X)) (m : K × X) (r : List (K × X)) → n ≡ length l + 1 + q → revalued n v (l ++ m ∷ r) ≡ l ++ m ∷ revalued q v r
  revalued-behind zero q v l m r h = absurd (omega arith)
  revalued-behind (suc n) q v [] m r h = let same : n ≡ q = omega arith in ap (λ k. m ∷ revalued k v r) same
  revalued-behind (suc n) q v (e ∷ l) m r h = ap (λ t. e ∷ t) (revalued-behind n q v l m r (omega arith))

  pub length-revalued : (n : ℕ) (v : X) (es : List (K × X)) → length (revalued n v es) ≡ length es
  length-revalued n v [] = refl
  length-revalued zero v (e ∷ es) = refl
  length-revalued (suc n) v (e ∷ es) = ap suc (length-revalued n v es)

pub ruleset places = (placed-before, placed-behind, placed-between, length-placed, slice_get-before, slice_get-between, slice_get-behind, revalued-before, revalued-between, revalued-behind, length-revalued)
