-- What each row of a table has.
use Rattle.std.proofs.Common.{◌≡◌, Bool, true, false, cond, List, [], ◌∷◌, ◌&&◌, Option, Some, None, IfSome, IsTrue, ℕ, ◌<◌, nat_lt, refl, sym, subst, rules, tests}
use Rattle.std.specs.List.{list_all}
use Rattle.std.specs.Str.{bytes_eq}
use Rattle.rv_syntax.specs.Names.{lookup}

-- the first and the second of two tests that both hold
left : (a b : Bool) → (a && b) ≡ true → a ≡ true
left true b h = refl
left false b h = h

right : (a b : Bool) → (a && b) ≡ true → b ≡ true
right true b h = h
right false b h = absurd (cc)

chosen : {A : Type 0} (P : A → Type 0) (b : Bool) (x : A) (o : Option A) → P x → IfSome o P → IfSome (cond b (Some x) o) P
chosen P true x o here there = here
chosen P false x o here there = there

passes : {A : Type 0} (test : A → Bool) (table : List (List ℕ × A)) (name : List ℕ) → list_all (λ row. test row.1) table ≡ true → IfSome (lookup table name) (λ found. IsTrue (test found))
passes test [] name h = tt
passes test (row ∷ table) name h =
    chosen (λ found. IsTrue (test found)) (bytes_eq name row.0) row.1 (lookup table name) (search (left (test row.1) _ h)) (passes test table name (right (test row.1) _ h))

-- a meaning that is found passes a test that each row's meaning passes
pub lookup_passes : {A : Type 0} (test : A → Bool) (table : List (List ℕ × A)) (name : List ℕ) (o : Option A) → list_all (λ row. test row.1) table ≡ true → o ≡ lookup table name → IfSome o (λ found. IsTrue (test found))
lookup_passes test table name o h e = subst (λ found. IfSome found (λ m. IsTrue (test m))) (sym e) (passes test table name h)

below : (o : Option ℕ) (limit : ℕ) → IfSome o (λ n. IsTrue (nat_lt n limit)) → IfSome o (λ n. n < limit)
below None limit h = tt
below (Some n) limit h = search (h, tests, rules)

-- a number that is found is below a bound of all numbers in the table
pub lookup_below : (limit : ℕ) (table : List (List ℕ × ℕ)) (name : List ℕ) (o : Option ℕ) → list_all (λ row. nat_lt row.1 limit) table ≡ true → o ≡ lookup table name → IfSome o (λ n. n < limit)
lookup_below limit table name o h e = below o limit (lookup_passes (λ n. nat_lt n limit) table name o h e)
