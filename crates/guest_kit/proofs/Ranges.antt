-- Lists made of the numbers below a bound, and of one number more.
use Rattle.std.proofs.Common.{ℕ, zero, suc, ◌≡◌, ◌+◌, List, [], ◌∷◌, ◌++◌, map, ap, sym, ◌∙◌, arith, append_assoc}
use Rattle.std.specs.List.{flat_map, range_with_len}
use Rattle.std.proofs.lemmas.List.{flat_map_more}
use Rattle.std.proofs.lemmas.List.FromFn.{map-range_with_len_more}

range_suc : (a n j : ℕ) → a + n ≡ j → range_with_len a (suc n) ≡ range_with_len a n ++ j ∷ []
range_suc a zero j e = ap (λ k. k ∷ []) (omega arith)
range_suc a (suc n) j e = ap (λ ks. a ∷ ks) (range_suc (a + 1) n j (omega arith))

range_more : (n : ℕ) → range_with_len 0 (n + 1) ≡ range_with_len 0 n ++ n ∷ []
range_more n = let e : n + 1 ≡ suc n = omega arith in ap (λ k. range_with_len 0 k) e ∙ range_suc 0 n n (omega arith)

pub flat_map_range_more : {A : Type 0} (f : ℕ → List A) (out : List A) (n : ℕ) → (out ++ flat_map f (range_with_len 0 n)) ++ f n ≡ out ++ flat_map f (range_with_len 0 (n + 1))
flat_map_range_more f out n = flat_map_more f out (range_with_len 0 n) n ∙ ap (λ ks. out ++ flat_map f ks) (sym (range_more n))

pub map_range_more : {A : Type 0} (f : ℕ → A) (out : List A) (n : ℕ) → (out ++ map f (range_with_len 0 n)) ++ f n ∷ [] ≡ out ++ map f (range_with_len 0 (n + 1))
map_range_more f out n = append_assoc out (map f (range_with_len 0 n)) (f n ∷ []) ∙ sym (ap (λ xs. out ++ xs) (map-range_with_len_more f 0 n n (omega arith)))
