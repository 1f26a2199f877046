-- The spaces at the end of bytes, from the last byte on.
use Rattle.std.proofs.Common.{◌≡◌, ℕ, Bool, true, false, eqb, List, [], ◌∷◌, ◌++◌, length, refl, sym, ap, ◌∙◌, ◌&&◌}
use Rattle.std.proofs.Math.Dec.{eqb-suc-zero}
use Rattle.std.proofs.lemmas.Bool.{ne_eqb}
use Rattle.launch_scalars.specs.Spaces.{without_last_spaces}

space_dropped : (bytes : List ℕ) → without_last_spaces (bytes ++ 32 ∷ []) ≡ without_last_spaces bytes
space_dropped [] = refl
space_dropped (b ∷ bs) = rw (space_dropped bs) refl

never_empty : (bytes : List ℕ) (b : ℕ) → eqb (length (bytes ++ b ∷ [])) 0 ≡ false
never_empty [] b = refl
never_empty (c ∷ cs) b = eqb-suc-zero (length (cs ++ b ∷ []))

and_false : (b : Bool) → (b && false) ≡ false
and_false true = refl
and_false false = refl

other_kept : (bytes : List ℕ) (b : ℕ) → eqb b 32 ≡ false → without_last_spaces (bytes ++ b ∷ []) ≡ bytes ++ b ∷ []
other_kept [] b other = rw other refl
other_kept (c ∷ cs) b other = rw (other_kept cs b other) (rw (never_empty cs b) (rw (and_false (eqb c 32)) refl))

-- where the last byte of the front is a space, the bytes before it are as good
pub behind_space : (front before whole : List ℕ) (b : ℕ) → front ≡ before ++ b ∷ [] → b ≡ 32 → without_last_spaces front ≡ without_last_spaces whole
    → without_last_spaces before ≡ without_last_spaces whole
behind_space front before whole b parts space same =
    sym (space_dropped before) ∙ ap (λ (x : ℕ). without_last_spaces (before ++ x ∷ [])) (sym space) ∙ ap without_last_spaces (sym parts) ∙ same

-- where it is none, the front is all
pub behind_other : (front before whole : List ℕ) (b : ℕ) → front ≡ before ++ b ∷ [] → (b ≡ 32 → ⊥) → without_last_spaces front ≡ without_last_spaces whole
    → front ≡ without_last_spaces whole
behind_other front before whole b parts other same =
    parts ∙ sym (other_kept before b (ne_eqb b 32 other)) ∙ ap without_last_spaces (sym parts) ∙ same
