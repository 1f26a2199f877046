-- How far booleans and descriptors go on.
use Rattle.std.proofs.Common.{◌≡◌, ℕ, zero, suc, ◌-◌, min, Bool, true, false, cond, eqb, List, [], ◌∷◌, ◌++◌, length, Option, Some, None, refl, sym, subst, ◌∙◌, arith, length-append, inl, inr}
use Rattle.std.specs.Int.{w32, from_be_bytes}
use Rattle.std.proofs.lemmas.Bool.{eqb-true, eq-eqb, true≢false}
use Rattle.argdata_codec.specs.Places.{at_most, exactly, boolean_place}
use Rattle.argdata_codec.specs.Reading.{boolean_at, descriptor_at}
use Rattle.lists.proofs.Chosen.{chosen, none_some}
use Rattle.argdata_codec.proofs.Fields.{AreBytes}
use Rattle.argdata_codec.proofs.Outcomes.{cons_nil, few, many}
use Rattle.argdata_codec.proofs.Begins.{Begins, Longest, HasLength, FitsIn, Sized, IsRead, zeros, length_zeros, bytes_zeros, at_end, stops, goes_on, at_most_of}

-- ---- booleans

abbrev IsBoolean : List ℕ → Type 0
IsBoolean bytes = IsRead (boolean_at bytes)

true_begins : (room : Option ℕ) → at_most 1 room ≡ true → Begins (Sized IsBoolean room) []
true_begins None e = ([], tt, ((false, refl), tt))
true_begins (Some zero) e = ([], tt, ((false, refl), refl))
true_begins (Some (suc zero)) e = (1 ∷ [], (omega arith, tt), ((true, refl), refl))
true_begins (Some (suc (suc room))) e = absurd (omega (arith, few 1 (suc (suc room)) e))

-- what follows the byte 1
abbrev Ends : Option ℕ → List ℕ → Type 0
Ends room bytes = (bytes ≡ []) × HasLength room (1 ∷ bytes)

boolean_more : (room : Option ℕ) (b : ℕ) (bs : List ℕ) → AreBytes bs → FitsIn room (b ∷ bs) → at_most 1 room ≡ true → (t : Bool) → eqb b 1 ≡ t → Longest (Sized IsBoolean room) (b ∷ bs) (cond t 1 0)
boolean_more room b bs all fits small false is = stops (Sized IsBoolean room) b bs (true_begins room small) all none
  where
    none : (rest : List ℕ) → AreBytes rest → Sized IsBoolean room (b ∷ rest) → ⊥
    none [] q h = none_some h.0.0 (sym (rw is refl) ∙ h.0.1)
    none (c ∷ rest) q h = none_some h.0.0 h.0.1
boolean_more room b bs all fits small true is =
    goes_on (Sized IsBoolean room) (Ends room) b bs 0 all there back (only_end bs all)
  where
    one : b ≡ 1
    one = eqb-true b 1 is

    there : (rest : List ℕ) → AreBytes rest → Sized IsBoolean room (b ∷ rest) → Ends room rest
    there [] q h = (refl, subst (λ (x : ℕ). HasLength room (x ∷ [])) one h.1)
    there (c ∷ rest) q h = absurd (none_some h.0.0 h.0.1)

    back : (rest : List ℕ) → AreBytes rest → Ends room rest → Sized IsBoolean room (b ∷ rest)
    back rest q h =
        subst (λ (r : List ℕ). Sized IsBoolean room (b ∷ r)) (sym h.0)
        ((true, rw is refl), subst (λ (x : ℕ). HasLength room (x ∷ [])) (sym one) (subst (λ (r : List ℕ). HasLength room (1 ∷ r)) h.0 h.1))

    room_one : (room : Option ℕ) → FitsIn room (b ∷ bs) → at_most 1 room ≡ true → HasLength room (1 ∷ [])
    room_one None fits e = tt
    room_one (Some zero) fits e = absurd (omega (arith, fits))
    room_one (Some (suc zero)) fits e = refl
    room_one (Some (suc (suc n))) fits e = absurd (omega (arith, few 1 (suc (suc n)) e))

    only_end : (bs : List ℕ) → AreBytes bs → Longest (Ends room) bs 0
    only_end [] q = at_end (Ends room) ([], tt, (refl, room_one room fits small))
    only_end (c ∷ cs) q = stops (Ends room) c cs ([], tt, (refl, room_one room fits small)) q.1 (λ rest r h. cons_nil c rest h.0)

pub boolean_longest : (room : Option ℕ) (body : List ℕ) → AreBytes body → FitsIn room body → at_most 1 room ≡ true → Longest (Sized IsBoolean room) body (boolean_place body)
boolean_longest room [] all fits small = at_end (Sized IsBoolean room) (true_begins room small)
boolean_longest room (b ∷ bs) all fits small = boolean_more room b bs all.1 fits small (eqb b 1) refl

-- two bytes are too many, and so are more
pub boolean_short : (room : Option ℕ) (body : List ℕ) → at_most 1 room ≡ false → Sized IsBoolean room body → ⊥
boolean_short None body e h = true≢false e
boolean_short (Some room) [] e h = omega (arith, h.1, many 1 room e)
boolean_short (Some room) (b ∷ []) e h = omega (arith, h.1, many 1 room e)
boolean_short (Some room) (a ∷ b ∷ bs) e h = none_some h.0.0 h.0.1

-- ---- descriptors

abbrev IsDescriptor : List ℕ → Type 0
IsDescriptor bytes = IsRead (descriptor_at bytes)

four : (body : List ℕ) → IsDescriptor body → length body ≡ 4
four body h =
    elim (chosen (eqb (length body) 4) _ _ _ h.1) [
      | inl p ↦ eqb-true (length body) 4 p.0
      | inr p ↦ absurd (none_some h.0 p.1)
    ]

is_four : (body : List ℕ) → length body ≡ 4 → IsDescriptor body
is_four body h = (from_be_bytes w32 body, rw (eq-eqb (length body) 4 h) refl)

exact_room : (room : Option ℕ) (body : List ℕ) → exactly 4 room ≡ true → length body ≡ 4 → HasLength room body
exact_room None body e h = tt
exact_room (Some room) body e h = h ∙ sym (eqb-true room 4 e)

pub descriptor_longest : (room : Option ℕ) (body : List ℕ) → AreBytes body → exactly 4 room ≡ true → Longest (Sized IsDescriptor room) body (min 4 (length body))
descriptor_longest room body all e =
    at_most_of (Sized IsDescriptor room) 4 body all (λ p h. omega (arith, four p h.0)) (λ p q le.
    let len : length (p ++ zeros (4 - length p)) ≡ 4 = omega (arith, length-append p (zeros (4 - length p)), length_zeros (4 - length p), le) in
    (zeros (4 - length p), bytes_zeros (4 - length p), (is_four (p ++ zeros (4 - length p)) len, exact_room room (p ++ zeros (4 - length p)) e len)))

pub descriptor_exact : (room : Option ℕ) (body : List ℕ) → exactly 4 room ≡ false → Sized IsDescriptor room body → ⊥
descriptor_exact None body e h = true≢false e
descriptor_exact (Some room) body e h = true≢false (sym (eq-eqb room 4 (sym h.1 ∙ four body h.0)) ∙ e)
