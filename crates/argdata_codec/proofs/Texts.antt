-- A text that is read is one without a zero byte, and such a text is read again.
use Rattle.std.proofs.Common.{◌≡◌, ℕ, zero, suc, ◌<◌, Bool, true, false, cond, List, [], ◌∷◌, ◌++◌, length, Option, Some, None, option_map, refl, sym, ap, subst, ◌∙◌, arith, inl, inr}
use Rattle.std.specs.List.{AllByRecursion}
use Rattle.std.specs.Str.{IsUtf8, is_utf8}
use Rattle.std.proofs.Math.Dec.{eqb-suc-zero}
use Rattle.std.proofs.lemmas.Str.{IsUtf8-from_is_utf8, is_utf8-from_IsUtf8}
use Rattle.argdata_codec.specs.Encoding.{IsText}
use Rattle.argdata_codec.specs.Reading.{before_zero, text_at}
use Rattle.lists.proofs.Chosen.{chosen, none_some, some_is}
use Rattle.lists.proofs.OptionSteps.{bind_some}

pub text_found : (body content : List ℕ) → before_zero body ≡ Some content → IsUtf8 content → text_at body ≡ Some content
unfolding text_at
text_found body content h utf8 = rw (h, is_utf8-from_IsUtf8 content utf8) refl

pub text_refused : (body content : List ℕ) → before_zero body ≡ Some content → (IsUtf8 content → ⊥) → text_at body ≡ None
unfolding text_at
text_refused body content h other = rw h (no_text (is_utf8 content) refl)
  where
    no_text : (b : Bool) → is_utf8 content ≡ b → cond b (Some content) None ≡ None
    no_text true e = absurd (other (IsUtf8-from_is_utf8 content e))
    no_text false e = refl

-- ---- the two laws

zero_parts : (body content : List ℕ) → before_zero body ≡ Some content → (body ≡ content ++ 0 ∷ []) × AllByRecursion (λ b. 0 < b) content
zero_parts [] content e = absurd (none_some content e)
zero_parts (zero ∷ []) content e = subst (λ (c : List ℕ). (0 ∷ [] ≡ c ++ 0 ∷ []) × AllByRecursion (λ b. 0 < b) c) (some_is [] content e) (refl, tt)
zero_parts (zero ∷ b ∷ bs) content e = absurd (none_some content (sym (rw (eqb-suc-zero (length bs)) refl) ∙ e))
zero_parts (suc b ∷ bs) content e = with_rest (λ front is. zero_parts bs front is) (before_zero bs) refl (sym (rw (eqb-suc-zero b) refl) ∙ e)
  where
    with_rest : ((front : List ℕ) → before_zero bs ≡ Some front → (bs ≡ front ++ 0 ∷ []) × AllByRecursion (λ x. 0 < x) front) → (r : Option (List ℕ)) → before_zero bs ≡ r → option_map (λ front. suc b ∷ front) r ≡ Some content → (suc b ∷ bs ≡ content ++ 0 ∷ []) × AllByRecursion (λ x. 0 < x) content
    with_rest inner None is h = absurd (none_some content h)
    with_rest inner (Some front) is h =
        let p = inner front is in
        subst (λ (c : List ℕ). (suc b ∷ bs ≡ c ++ 0 ∷ []) × AllByRecursion (λ x. 0 < x) c) (some_is (suc b ∷ front) content h)
        (ap (λ (xs : List ℕ). suc b ∷ xs) p.0, (omega arith, p.1))

zero_again : (content : List ℕ) → AllByRecursion (λ b. 0 < b) content → before_zero (content ++ 0 ∷ []) ≡ Some content
zero_again [] all = refl
zero_again (zero ∷ bs) all = absurd (omega (arith, all.0))
zero_again (suc b ∷ bs) all = rw (eqb-suc-zero b) (ap (option_map (λ (front : List ℕ). suc b ∷ front)) (zero_again bs all.1))

pub text_sound : (body content : List ℕ) → text_at body ≡ Some content → IsText content × (body ≡ content ++ 0 ∷ [])
unfolding text_at
text_sound body content e =
    let b = bind_some (before_zero body) (λ c. cond (is_utf8 c) (Some c) None) content e in
    elim (chosen (is_utf8 b.0) _ _ _ b.2) [
      | inr p ↦ absurd (none_some content p.1)
      | inl p ↦
          let parts = zero_parts body b.0 b.1 in
          subst (λ (c : List ℕ). IsText c × (body ≡ c ++ 0 ∷ [])) (some_is b.0 content p.1) ((IsUtf8-from_is_utf8 b.0 p.0, parts.1), parts.0)
    ]

pub text_again : (content : List ℕ) → IsText content → text_at (content ++ 0 ∷ []) ≡ Some content
text_again content h = text_found (content ++ 0 ∷ []) content (zero_again content h.1) h.0
