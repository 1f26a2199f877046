-- Fields that are read one after the other, as a loop does.
use Rattle.std.proofs.Common.{◌≡◌, ℕ, zero, suc, ◌<◌, ◌≤◌, List, [], ◌∷◌, ◌++◌, length, Bool, true, false, eqb, Option, Some, None, refl, sym, ap, subst, ◌∙◌, append_assoc, arith}
use Rattle.std.proofs.Math.Dec.{eqb-suc-zero}
use Rattle.std.proofs.lemmas.List.{append-nil}
use Rattle.argdata_codec.specs.Shape.{Shape}
use Rattle.lists.specs.Options.{◌>>=◌}
use Rattle.lists.proofs.OptionSteps.{bind_some, bind_alike}
use Rattle.argdata_codec.specs.Reading.{field_at, entry_at, items_with, items_of, pairs_with, pairs_of}
use Rattle.lists.proofs.Chosen.{some_is}
use Rattle.argdata_codec.proofs.Fields.{field_shorter}

-- what was read before, and what is still read
abbrev pub with_front : {A : Type 0} → List A → Option (List A) → Option (List A)
with_front front read = read >>= λ xs. Some (front ++ xs)

entry_shorter : (value : List ℕ → Option Shape) (bytes rest : List ℕ) (x : Shape) → entry_at value bytes ≡ Some (x, rest) → length rest < length bytes
entry_shorter value bytes rest x e =
    let f = bind_some (field_at 0 bytes) (λ f. value f.0 >>= λ y. Some (y, f.1)) (x, rest) e in
    let v = bind_some (value f.0.0) (λ y. Some (y, f.0.1)) (x, rest) f.2 in
    let same : f.0.1 ≡ rest = ap (λ (p : Shape × List ℕ). p.1) (some_is (v.0, f.0.1) (x, rest) v.2) in
    let short = field_shorter bytes f.0.0 f.0.1 f.1 in
    subst (λ (r : List ℕ). length r < length bytes) same short

-- any fuel that is enough gives the same items
items_alike : (value : List ℕ → Option Shape) (m n : ℕ) (bytes : List ℕ) → length bytes ≤ m → length bytes ≤ n → items_with value m bytes ≡ items_with value n bytes
items_alike value m n [] p q = refl
items_alike value zero n (b ∷ bs) p q = absurd (omega arith)
items_alike value (suc m) zero (b ∷ bs) p q = absurd (omega arith)
items_alike value (suc m) (suc n) (b ∷ bs) p q =
    bind_alike (entry_at value (b ∷ bs)) _ _ (λ e is.
    let short : length e.1 < suc (length bs) = entry_shorter value (b ∷ bs) e.1 e.0 is in
    ap (λ (r : Option (List Shape)). r >>= λ xs. Some (e.0 ∷ xs)) (items_alike value m n e.1 (omega arith) (omega arith)))

pub items_end : (value : List ℕ → Option Shape) → items_of value [] ≡ Some []
unfolding items_of
items_end value = refl

pub items_more : (value : List ℕ → Option Shape) (bytes : List ℕ) → 0 < length bytes
    → items_of value bytes ≡ (entry_at value bytes >>= λ e. items_of value e.1 >>= λ xs. Some (e.0 ∷ xs))
unfolding items_of
items_more value [] some = absurd (omega arith)
items_more value (b ∷ bs) some =
    bind_alike (entry_at value (b ∷ bs)) _ _ (λ e is.
    let short : length e.1 < suc (length bs) = entry_shorter value (b ∷ bs) e.1 e.0 is in
    ap (λ (r : Option (List Shape)). r >>= λ xs. Some (e.0 ∷ xs)) (items_alike value (length bs) (length e.1) e.1 (omega arith) (omega arith)))

pairs_alike : (value : List ℕ → Option Shape) (m n : ℕ) (bytes : List ℕ) → length bytes ≤ m → length bytes ≤ n → pairs_with value m bytes ≡ pairs_with value n bytes
pairs_alike value m n [] p q = refl
pairs_alike value zero n (b ∷ bs) p q = absurd (omega arith)
pairs_alike value (suc m) zero (b ∷ bs) p q = absurd (omega arith)
pairs_alike value (suc m) (suc n) (b ∷ bs) p q =
    bind_alike (entry_at value (b ∷ bs)) _ _ (λ k is. bind_alike (entry_at value k.1) _ _ (λ v second.
    let short : length k.1 < suc (length bs) = entry_shorter value (b ∷ bs) k.1 k.0 is in
    let shorter : length v.1 < length k.1 = entry_shorter value k.1 v.1 v.0 second in
    ap (λ (r : Option (List (Shape × Shape))). r >>= λ ps. Some ((k.0, v.0) ∷ ps)) (pairs_alike value m n v.1 (omega arith) (omega arith))))

pub pairs_end : (value : List ℕ → Option Shape) → pairs_of value [] ≡ Some []
unfolding pairs_of
pairs_end value = refl

pub pairs_more : (value : List ℕ → Option Shape) (bytes : List ℕ) → 0 < length bytes
    → pairs_of value bytes ≡ (entry_at value bytes >>= λ k. entry_at value k.1 >>= λ v. pairs_of value v.1 >>= λ ps. Some ((k.0, v.0) ∷ ps))
unfolding pairs_of
pairs_more value [] some = absurd (omega arith)
pairs_more value (b ∷ bs) some =
    bind_alike (entry_at value (b ∷ bs)) _ _ (λ k is. bind_alike (entry_at value k.1) _ _ (λ v second.
    let short : length k.1 < suc (length bs) = entry_shorter value (b ∷ bs) k.1 k.0 is in
    let shorter : length v.1 < length k.1 = entry_shorter value k.1 v.1 v.0 second in
    ap (λ (r : Option (List (Shape × Shape))). r >>= λ ps. Some ((k.0, v.0) ∷ ps)) (pairs_alike value (length bs) (length v.1) v.1 (omega arith) (omega arith))))

-- ---- a loop's steps

regroup : {A : Type 0} (front : List A) (x : A) (read : Option (List A)) → with_front front (read >>= λ xs. Some (x ∷ xs)) ≡ with_front (front ++ x ∷ []) read
regroup {A = A} front x None = refl
regroup {A = A} front x (Some xs) = ap (λ (ys : List A). Some ys) (simp append_assoc)

pub items_go_on : (value : List ℕ → Option Shape) (front : List Shape) (bytes after : List ℕ) (x : Shape) (total : Option (List Shape)) → 0 < length bytes
    → entry_at value bytes ≡ Some (x, after) → with_front front (items_of value bytes) ≡ total → with_front (front ++ x ∷ []) (items_of value after) ≡ total
items_go_on value front bytes after x total some is so_far =
    let one : items_of value bytes ≡ (items_of value after >>= λ xs. Some (x ∷ xs)) = items_more value bytes some ∙ rw is refl in
    sym (regroup front x (items_of value after)) ∙ ap (with_front front) (sym one) ∙ so_far

pub items_fail : (value : List ℕ → Option Shape) (front : List Shape) (bytes : List ℕ) (total : Option (List Shape)) → 0 < length bytes
    → entry_at value bytes ≡ None → with_front front (items_of value bytes) ≡ total → total ≡ None
items_fail value front bytes total some is so_far =
    let one : items_of value bytes ≡ None = items_more value bytes some ∙ rw is refl in
    sym so_far ∙ ap (with_front front) one

pub items_done : (value : List ℕ → Option Shape) (front : List Shape) (bytes : List ℕ) (total : Option (List Shape)) → bytes ≡ []
    → with_front front (items_of value bytes) ≡ total → total ≡ Some front
items_done value front bytes total empty so_far =
    sym so_far ∙ ap (λ (bs : List ℕ). with_front front (items_of value bs)) empty ∙ ap (with_front front) (items_end value) ∙ ap (λ (xs : List Shape). Some xs) (append-nil front)

pub pairs_go_on : (value : List ℕ → Option Shape) (front : List (Shape × Shape)) (bytes middle after : List ℕ) (k v : Shape) (total : Option (List (Shape × Shape))) → 0 < length bytes
    → entry_at value bytes ≡ Some (k, middle) → entry_at value middle ≡ Some (v, after) → with_front front (pairs_of value bytes) ≡ total
    → with_front (front ++ (k, v) ∷ []) (pairs_of value after) ≡ total
pairs_go_on value front bytes middle after k v total some is second so_far =
    let one : pairs_of value bytes ≡ (pairs_of value after >>= λ ps. Some ((k, v) ∷ ps)) = pairs_more value bytes some ∙ rw is (rw second refl) in
    sym (regroup front (k, v) (pairs_of value after)) ∙ ap (with_front front) (sym one) ∙ so_far

pub pairs_fail : (value : List ℕ → Option Shape) (front : List (Shape × Shape)) (bytes : List ℕ) (total : Option (List (Shape × Shape))) → 0 < length bytes
    → entry_at value bytes ≡ None → with_front front (pairs_of value bytes) ≡ total → total ≡ None
pairs_fail value front bytes total some is so_far =
    let one : pairs_of value bytes ≡ None = pairs_more value bytes some ∙ rw is refl in
    sym so_far ∙ ap (with_front front) one

pub pairs_fail_later : (value : List ℕ → Option Shape) (front : List (Shape × Shape)) (bytes middle : List ℕ) (k : Shape) (total : Option (List (Shape × Shape))) → 0 < length bytes
    → entry_at value bytes ≡ Some (k, middle) → entry_at value middle ≡ None → with_front front (pairs_of value bytes) ≡ total → total ≡ None
pairs_fail_later value front bytes middle k total some is second so_far =
    let one : pairs_of value bytes ≡ None = pairs_more value bytes some ∙ rw is (rw second refl) in
    sym so_far ∙ ap (with_front front) one

pub pairs_done : (value : List ℕ → Option Shape) (front : List (Shape × Shape)) (bytes : List ℕ) (total : Option (List (Shape × Shape))) → bytes ≡ []
    → with_front front (pairs_of value bytes) ≡ total → total ≡ Some front
pairs_done value front bytes total empty so_far =
    sym so_far ∙ ap (λ (bs : List ℕ). with_front front (pairs_of value bs)) empty ∙ ap (with_front front) (pairs_end value) ∙ ap (λ (ps : List (Shape × Shape)). Some ps) (append-nil front)

-- ---- what a test of a length says

pub nonempty : (xs : List ℕ) (b : Bool) → b ≡ eqb (length xs) 0 → b ≡ false → 0 < length xs
nonempty [] b h k = absurd cc
nonempty (x ∷ xs) b h k = omega arith

pub empty : (xs : List ℕ) (b : Bool) → b ≡ eqb (length xs) 0 → b ≡ true → xs ≡ []
empty [] b h k = refl
empty (x ∷ xs) b h k = absurd (true_false (sym k ∙ h ∙ eqb-suc-zero (length xs)))
  where
    true_false : true ≡ false → ⊥
    true_false e = cc
