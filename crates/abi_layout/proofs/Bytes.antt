-- Bytes into which the values of a structure's fields were written are laid out.
use Rattle.std.proofs.Common.{◌≡◌, ℕ, ◌+◌, ◌<◌, ◌≤◌, List, [], ◌∷◌, length, get_or, replicate}
use Rattle.std.proofs.Common.{refl, ap, ◌∙◌, inl, inr, arith}
use Rattle.std.proofs.Math.ListN.{length-replicate}
use Rattle.std.proofs.lemmas.Bool.{cases_lt}
use Rattle.std.proofs.lemmas.List.{get_or-replicate, get_or_past}
use Rattle.abi_layout.specs.Layout.{Field, Layout, AreCovering, Fit, FollowFrom, IsLaidOut, IsProper}
use Rattle.abi_layout.specs.Layout.{number_from, numbers, with_number, written}
use Rattle.abi_layout.proofs.Numbers.{same_number}
use Rattle.abi_layout.proofs.Written.{length-written, written_reads_back, kept_below, kept_above}

ends : (fields : List Field) (place size : ℕ) → FollowFrom place fields size → place ≤ size
ends [] place size order = order
ends (f ∷ fields) place size order = let rest = ends fields (f.offset + f.width) size order.1 in omega (arith, order.0)

-- bytes that are the same up to a field's end have the field's number
number_kept : (xs ys : List ℕ) (offset width : ℕ) → ((k : ℕ) → k < offset + width → get_or xs k 0 ≡ get_or ys k 0)
    → number_from offset width xs ≡ number_from offset width ys
unfolding number_from
number_kept xs ys offset width h = same_number offset width xs ys (λ k low high. h k high)

-- bytes are as many as before
same_length : (fields : List Field) (values bytes : List ℕ) (place size : ℕ) → FollowFrom place fields size
    → size ≤ length bytes
    → length (written fields values bytes) ≡ length bytes
same_length [] values bytes place size order fits = refl
same_length (f ∷ fields) [] bytes place size order fits = refl
same_length (f ∷ fields) (value ∷ values) bytes place size order fits =
    let end : f.offset + f.width ≤ size = ends fields (f.offset + f.width) size order.1 in
    let once = length-written bytes f.offset f.width value (omega arith) in
    same_length fields values (with_number bytes f.offset f.width value) (f.offset + f.width) size order.1
    (omega (arith, once)) ∙ once

-- bytes before the fields stay
before : (fields : List Field) (values bytes : List ℕ) (place size k : ℕ) → FollowFrom place fields size
    → size ≤ length bytes → k < place
    → get_or (written fields values bytes) k 0 ≡ get_or bytes k 0
before [] values bytes place size k order fits low = refl
before (f ∷ fields) [] bytes place size k order fits low = refl
before (f ∷ fields) (value ∷ values) bytes place size k order fits low =
    let end : f.offset + f.width ≤ size = ends fields (f.offset + f.width) size order.1 in
    let once = length-written bytes f.offset f.width value (omega arith) in
    before fields values (with_number bytes f.offset f.width value) (f.offset + f.width) size k order.1
    (omega (arith, once)) (omega (arith, order.0))
    ∙ kept_below bytes f.offset f.width value (omega arith) k (omega (arith, order.0))

-- bytes of no field stay
unnamed : (fields : List Field) (values bytes : List ℕ) (place size k : ℕ) → FollowFrom place fields size
    → size ≤ length bytes → ¬ AreCovering fields k
    → get_or (written fields values bytes) k 0 ≡ get_or bytes k 0
unnamed [] values bytes place size k order fits not = refl
unnamed (f ∷ fields) [] bytes place size k order fits not = refl
unnamed (f ∷ fields) (value ∷ values) bytes place size k order fits not =
    let end : f.offset + f.width ≤ size = ends fields (f.offset + f.width) size order.1 in
    let once = length-written bytes f.offset f.width value (omega arith) in
    let rest = unnamed fields values (with_number bytes f.offset f.width value) (f.offset + f.width) size k order.1
    (omega (arith, once)) (λ covered. not (inr covered)) in
    rest ∙ elim (cases_lt k f.offset) [
      | inl below ↦ kept_below bytes f.offset f.width value (omega arith) k below
      | inr from ↦ elim (cases_lt k (f.offset + f.width)) [
        | inl within ↦ absurd (not (inl (from, within)))
        | inr above ↦ kept_above bytes f.offset f.width value (omega arith) k above
      ]
    ]

-- the fields' numbers are the values
values_there : (fields : List Field) (values bytes : List ℕ) (place size : ℕ) → FollowFrom place fields size
    → size ≤ length bytes → Fit fields values
    → numbers fields (written fields values bytes) ≡ values
values_there [] [] bytes place size order fits fit = refl
values_there [] (value ∷ values) bytes place size order fits fit = absurd fit
values_there (f ∷ fields) [] bytes place size order fits fit = absurd fit
values_there (f ∷ fields) (value ∷ values) bytes place size order fits fit =
    let end : f.offset + f.width ≤ size = ends fields (f.offset + f.width) size order.1 in
    let once = length-written bytes f.offset f.width value (omega arith) in
    let now : List ℕ = with_number bytes f.offset f.width value in
    let here = number_kept (written fields values now) now f.offset f.width
    (λ k low. before fields values now (f.offset + f.width) size k order.1 (omega (arith, once)) low)
    ∙ written_reads_back bytes f.offset f.width value (omega arith) fit.0 in
    let rest = values_there fields values now (f.offset + f.width) size order.1 (omega (arith, once)) fit.1 in
    ap (λ (x : ℕ). x ∷ numbers fields (written fields values now)) here ∙ ap (λ (xs : List ℕ). value ∷ xs) rest

zeros : (n k : ℕ) → ◌≡◌ {A = ℕ} (get_or (replicate n 0) k 0) 0
zeros n k = elim (cases_lt k n) [
  | inl low ↦ get_or-replicate n k 0 0 low
  | inr past ↦ get_or_past (replicate n 0) k 0 (omega (arith, length-replicate {A = ℕ} n 0))
]

pub laid_out : (layout : Layout) (values bytes : List ℕ)
    → bytes ≡ written layout.fields values (replicate layout.size 0) → IsProper layout → Fit layout.fields values
    → IsLaidOut layout values bytes
laid_out layout values bytes is order fit =
    let zero_bytes : List ℕ = replicate layout.size 0 in
    let size : length zero_bytes ≡ layout.size = length-replicate layout.size 0 in
    record {
      size = ap length is ∙ same_length layout.fields values zero_bytes 0 layout.size order (omega arith) ∙ size;
      values_at = ap (numbers layout.fields) is
          ∙ values_there layout.fields values zero_bytes 0 layout.size order (omega arith) fit;
      unnamed = λ k not.
          ap (λ (xs : List ℕ). get_or xs k 0) is
          ∙ unnamed layout.fields values zero_bytes 0 layout.size k order (omega arith) not ∙ zeros layout.size k;
    }
