-- A field that is read is a length and that many bytes, and such a field is read again, whatever follows.
use Rattle.std.proofs.Common.{◌≡◌, ℕ, zero, suc, ◌+◌, ◌-◌, ◌*◌, ◌<◌, ◌≤◌, inl, inr, Bool, true, false, ltb, eqb, ◌||◌, List, [], ◌∷◌, ◌++◌, length, take, drop, Some, refl, sym, ap, subst, arith}
use Rattle.std.specs.List.{AllByRecursion}
use Rattle.std.proofs.Math.Dec.{eqb-suc-zero}
use Rattle.std.proofs.lemmas.Bool.{ltb-false, lt-ltb, le-ltb, ltb-true}
use Rattle.std.proofs.lemmas.List.{take_at, drop_at, take-append-drop, length-append, length-take}
use Rattle.lists.proofs.Chosen.{chosen, some_is, none_some}
use Rattle.argdata_codec.specs.Encoding.{IsLength}
use Rattle.argdata_codec.specs.Reading.{field_at}

abbrev pub AreBytes : List ℕ → Type 0
AreBytes bytes = AllByRecursion (λ b. b < 256) bytes

-- one more group in front of a length
length_onto : (v b n : ℕ) (front : List ℕ) → b < 128 → 0 < 128 * v + b → IsLength (128 * v + b) front n → IsLength v (b ∷ front) n
length_onto v b n [] small some h = absurd h
length_onto v b n (c ∷ front) small some h = (small, some, h)

-- the groups so far are no more than the length
pub length_above : (v n : ℕ) (front : List ℕ) → IsLength v front n → v ≤ n
length_above v n [] h = absurd h
length_above v n (b ∷ []) h = omega (arith, h.0, h.1, h.2)
length_above v n (b ∷ c ∷ bs) h = omega (arith, length_above (128 * v + b) n (c ∷ bs) h.2)

pub record Parts (v : ℕ) (bytes body rest : List ℕ) : Type 0 where
  pub front : List ℕ
  pub whole : bytes ≡ front ++ (body ++ rest)
  pub some : 0 < length front
  pub length : AreBytes bytes → IsLength v front (length body)

pub field_parts : (v : ℕ) (bytes body rest : List ℕ) → field_at v bytes ≡ Some (body, rest) → Parts v bytes body rest
field_parts v [] body rest e = absurd (none_some (body, rest) e)
field_parts v (b ∷ bs) body rest e =
    let n = 128 * v + b in
    elim (chosen (ltb b 128) _ _ _ e) [
      | inl p ↦
          elim (chosen (eqb n 0 || ltb (length bs) n) _ _ _ p.1) [
            | inl q ↦ absurd (none_some (body, rest) q.1)
            | inr q ↦
                let small : b < 128 = ltb-true b 128 p.0 in
                let above : 0 < n = positive n (eqb n 0) refl (ltb (length bs) n) q.0 in
                let r = field_parts n bs body rest q.1 in
                record {
                  front = b ∷ r.front;
                  whole = ap (λ (xs : List ℕ). b ∷ xs) r.whole;
                  some = omega (arith, r.some);
                  length = λ all. length_onto v b (length body) r.front small above (r.length all.1);
                }
          ]
      | inr p ↦
          elim (chosen (ltb (length bs) (n - 128)) _ _ _ p.1) [
            | inl q ↦ absurd (none_some (body, rest) q.1)
            | inr q ↦
                let large : 128 ≤ b = ltb-false b 128 p.0 in
                let enough : n - 128 ≤ length bs = ltb-false (length bs) (n - 128) q.0 in
                let k = n - 128 in
                let len : length (take k bs) ≡ k = omega (arith, length-take k bs) in
                subst (λ (x : List ℕ × List ℕ). Parts v (b ∷ bs) x.0 x.1) (some_is (take k bs, drop k bs) (body, rest) q.1)
                (record {
                  front = b ∷ [];
                  whole = ap (λ (xs : List ℕ). b ∷ xs) (sym (take-append-drop k bs));
                  some = omega arith;
                  length = λ all. (large, all.0, omega (arith, len));
                })
          ]
    ]
  where
    positive : (n : ℕ) (t : Bool) → eqb n 0 ≡ t → (u : Bool) → (t || u) ≡ false → 0 < n
    positive zero true e u h = absurd cc
    positive zero false e u h = absurd cc
    positive (suc n) t e u h = omega arith

pub field_shorter : (bytes body rest : List ℕ) → field_at 0 bytes ≡ Some (body, rest) → length rest < length bytes
field_shorter bytes body rest e =
    let p = field_parts 0 bytes body rest e in
    omega (arith, p.some, ap length p.whole, length-append p.front (body ++ rest), length-append body rest)

pub field_again : (v : ℕ) (front body rest : List ℕ) → IsLength v front (length body) → field_at v (front ++ (body ++ rest)) ≡ Some (body, rest)
field_again v [] body rest h = absurd h
field_again v (b ∷ []) body rest h =
    let k : 128 * v + b - 128 ≡ length body = omega (arith, h.0, h.2) in
    rw (le-ltb b 128 h.0, k, le-ltb (length (body ++ rest)) (length body) (omega (arith, length-append body rest)), take_at body rest (length body) refl, drop_at body rest (length body) refl) refl
field_again v (b ∷ c ∷ bs) body rest h =
    let n = 128 * v + b in
    let bound : n ≤ length (c ∷ bs ++ (body ++ rest)) = omega (arith, length_above n (length body) (c ∷ bs) h.2, length-append (c ∷ bs) (body ++ rest), length-append body rest) in
    rw (lt-ltb b 128 h.0, le-ltb (length (c ∷ bs ++ (body ++ rest))) n bound, nonzero n h.1) (field_again n (c ∷ bs) body rest h.2)
  where
    nonzero : (n : ℕ) → 0 < n → eqb n 0 ≡ false
    nonzero zero h = absurd (omega arith)
    nonzero (suc n) h = eqb-suc-zero n
