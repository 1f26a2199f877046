-- Bytes laid out of the same values are the same.
use Rattle.std.proofs.Common.{◌≡◌, ◌⊎◌, ℕ, ◌+◌, ◌<◌, ◌≤◌, List, [], ◌∷◌, get_or, sym, ◌∙◌, inl, inr, arith}
use Rattle.std.proofs.lemmas.Bool.{cases_lt}
use Rattle.std.proofs.lemmas.List.{ext_get_or}
use Rattle.abi_layout.specs.Layout.{Field, number_from, numbers, AreCovering}
use Rattle.abi_layout.specs.Laws.{AreBytes, BytesAreUnique}
use Rattle.abi_layout.proofs.Numbers.{same_bytes}

-- equal numbers have equal bytes
same_in_field : (offset width : ℕ) (xs ys : List ℕ) → AreBytes xs → AreBytes ys
    → number_from offset width xs ≡ number_from offset width ys
    → (k : ℕ) → offset ≤ k → k < offset + width → get_or xs k 0 ≡ get_or ys k 0
unfolding number_from
same_in_field offset width xs ys small_x small_y e k low high =
    same_bytes width offset xs ys small_x small_y e k low high

-- a place is covered by no field, or has the same byte
same_or_unnamed : (fields : List Field) (xs ys : List ℕ) (k : ℕ) → AreBytes xs → AreBytes ys
    → numbers fields xs ≡ numbers fields ys
    → (get_or xs k 0 ≡ get_or ys k 0) ⊎ (¬ AreCovering fields k)
same_or_unnamed [] xs ys k small_x small_y e = inr (λ none. none)
same_or_unnamed (f ∷ fields) xs ys k small_x small_y e =
    let here : number_from f.offset f.width xs ≡ number_from f.offset f.width ys = cc in
    let others : numbers fields xs ≡ numbers fields ys = cc in
    elim (same_or_unnamed fields xs ys k small_x small_y others) [
      | inl same ↦ inl same
      | inr unnamed ↦ elim (cases_lt k f.offset) [
        | inl below ↦ inr (λ covered. elim covered [ inl here ↦ absurd (omega arith) | inr there ↦ unnamed there ])
        | inr from ↦ elim (cases_lt k (f.offset + f.width)) [
          | inl within ↦ inl (same_in_field f.offset f.width xs ys small_x small_y here k from within)
          | inr above ↦ inr (λ covered. elim covered [ inl here ↦ absurd (omega arith) | inr there ↦ unnamed there ])
        ]
      ]
    ]

pub bytes_are_unique : BytesAreUnique
bytes_are_unique layout values first second small_first small_second one two =
    ext_get_or 0 first second (one.size ∙ sym two.size)
    (λ k low.
    let same_values = one.values_at ∙ sym two.values_at in
    elim (same_or_unnamed layout.fields first second k small_first small_second same_values) [
      | inl same ↦ same
      | inr not ↦ one.unnamed k not ∙ sym (two.unnamed k not)
    ])
