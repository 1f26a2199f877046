-- The first byte that may not be in a text.
use Rattle.std.proofs.Common.{◌≡◌, ℕ, suc, ◌≤◌, ◌==◌, if◌then◌else◌, Bool, true, false, List, [], ◌∷◌, length, Option, Some, None, option_map, refl, subst, arith}
use Rattle.std.specs.Prelude.{IfSome}
use Rattle.std.specs.Str.Lossy.{utf8_valid_len}
use Rattle.std.proofs.lemmas.Bool.{eqb-true}
use Rattle.std.proofs.lemmas.Str.{utf8_valid_len_le}
use Rattle.launch_scalars.specs.Characters.{begins_control, control_at, invalid_at, earlier, bad_at}

-- ---- it stands in the bytes

control_inside : (bytes : List ℕ) → IfSome (control_at bytes) (λ n. n ≤ length bytes)
control_inside [] = tt
control_inside (b ∷ bs) = chosen (begins_control b bs) (control_at bs) (control_inside bs)
  where
    further : (o : Option ℕ) → IfSome o (λ n. n ≤ length bs) → IfSome (option_map suc o) (λ n. n ≤ suc (length bs))
    further None h = tt
    further (Some n) h = omega (arith, h)

    chosen : (here : Bool) (o : Option ℕ) → IfSome o (λ n. n ≤ length bs) → IfSome (if here then Some 0 else option_map suc o) (λ n. n ≤ suc (length bs))
    chosen true o h = omega arith
    chosen false o h = further o h

invalid_inside : (bytes : List ℕ) → IfSome (invalid_at bytes) (λ n. n ≤ length bytes)
invalid_inside bytes = chosen (utf8_valid_len bytes == length bytes)
  where
    chosen : (valid : Bool) → IfSome (if valid then None else Some (utf8_valid_len bytes)) (λ n. n ≤ length bytes)
    chosen true = tt
    chosen false = utf8_valid_len_le bytes

earlier_inside : (m n : Option ℕ) (k : ℕ) → IfSome m (λ i. i ≤ k) → IfSome n (λ i. i ≤ k) → IfSome (earlier m n) (λ i. i ≤ k)
earlier_inside None n k p q = q
earlier_inside (Some m) None k p q = p
earlier_inside (Some m) (Some n) k p q = omega (arith, p, q)

if_some : (o : Option ℕ) (n k : ℕ) → IfSome o (λ i. i ≤ k) → o ≡ Some n → n ≤ k
if_some o n k p e = subst (λ (x : Option ℕ). IfSome x (λ i. i ≤ k)) e p

pub bad_inside : (bytes : List ℕ) (n : ℕ) → bad_at bytes ≡ Some n → n ≤ length bytes
unfolding bad_at
bad_inside bytes n e =
    if_some (bad_at bytes) n (length bytes) (earlier_inside (control_at bytes) (invalid_at bytes) (length bytes) (control_inside bytes) (invalid_inside bytes)) e

-- ---- where there is none, the bytes are UTF-8

none_later : (m n : Option ℕ) → earlier m n ≡ None → n ≡ None
none_later None n e = e
none_later (Some m) None e = refl
none_later (Some m) (Some n) e = absurd cc

valid_where_none : (bytes : List ℕ) (valid : Bool) → (utf8_valid_len bytes == length bytes) ≡ valid → (if valid then None else Some (utf8_valid_len bytes)) ≡ None → utf8_valid_len bytes ≡ length bytes
valid_where_none bytes true e h = eqb-true _ _ e
valid_where_none bytes false e h = absurd cc

pub all_valid : (bytes : List ℕ) → bad_at bytes ≡ None → utf8_valid_len bytes ≡ length bytes
unfolding bad_at
all_valid bytes e = valid_where_none bytes (utf8_valid_len bytes == length bytes) refl (none_later (control_at bytes) (invalid_at bytes) e)
