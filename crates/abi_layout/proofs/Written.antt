-- What bytes hold after a number is written.
use Rattle.std.proofs.Common.{◌≡◌, ℕ, ◌+◌, ◌-◌, ◌^◌, ◌<◌, ◌≤◌, List, [], ◌++◌, length, take, drop, get_or}
use Rattle.std.proofs.Common.{get_or-take, get_or-drop, get_or-set_same, get_or-set_other}
use Rattle.std.proofs.Common.{length-append, length-take, length-drop, append-nil, sym, ap, ◌∙◌, inl, inr, arith}
use Rattle.std.proofs.Math.ListN.{drop_of_length-le, set, length-set}
use Rattle.std.proofs.lemmas.List.{drop_at, drop-drop, get_or-append_right, get_or_append_left, ext_get_or}
use Rattle.std.proofs.lemmas.Bool.{cases_eq, cases_lt}
use Rattle.std.proofs.lemmas.Slice.{between_to_end}
use Rattle.std.specs.List.{between}
use borrow.Rule.Slice.PartMut.{put_mid}
use Rattle.byteorder.specs.Endian.{little_from, little_bytes}
use Rattle.byteorder.specs.Numbers.{length-bytes_low_first, little_number-reads_back}
use Rattle.abi_layout.specs.Layout.{number_from, with_number}
use Rattle.abi_layout.proofs.Numbers.{number_of_rest, number_of_byte}

module _ (bytes : List ℕ) (offset width value : ℕ) (inside : offset + width ≤ length bytes) where
  head_length : length (take offset bytes) ≡ offset
  head_length = simp length-take (omega arith)

  middle_length : length (little_bytes width value) ≡ width
  middle_length = length-bytes_low_first 0 width value

  pub length-written : length (with_number bytes offset width value) ≡ length bytes
  unfolding with_number
  length-written = simp (length-append, length-take, length-drop, middle_length) (omega arith)

  pub written_reads_back : value < 256 ^ width
      → number_from offset width (with_number bytes offset width value) ≡ value
  unfolding with_number
  written_reads_back fits =
      let rest = little_bytes width value ++ drop (offset + width) bytes in
      sym (number_of_rest offset width _)
      ∙ ap (little_from 0 width) (drop_at (take offset bytes) rest offset head_length)
      ∙ little_number-reads_back width value (drop (offset + width) bytes) fits

  pub kept_below : (k : ℕ) → k < offset → get_or (with_number bytes offset width value) k 0 ≡ get_or bytes k 0
  unfolding with_number
  kept_below k below =
      let rest = little_bytes width value ++ drop (offset + width) bytes in
      get_or_append_left (take offset bytes) rest 0 k (omega (arith, head_length))
      ∙ get_or-take offset bytes k 0 below

  pub kept_above : (k : ℕ) → offset + width ≤ k → get_or (with_number bytes offset width value) k 0 ≡ get_or bytes k 0
  unfolding with_number
  kept_above k above =
      let place : offset + width + (k - offset - width) ≡ k = omega arith in
      let rest = little_bytes width value ++ drop (offset + width) bytes in
      get_or-append_right (take offset bytes) rest offset k 0 head_length (omega arith)
      ∙ get_or-append_right (little_bytes width value) (drop (offset + width) bytes) width (k - offset) 0 middle_length
      (omega arith)
      ∙ get_or-drop (offset + width) bytes (k - offset - width) 0
      ∙ ap (λ (j : ℕ). get_or bytes j 0) place

  -- a write to the part of a slice from a place to its end
  pub part_written : (part : List ℕ)
      → part ≡ little_bytes width value ++ drop width (between offset (length bytes) bytes)
      → put_mid offset (length bytes - offset) bytes part ≡ with_number bytes offset width value
  unfolding with_number
  part_written part is =
      let rest = ap (drop width) (between_to_end bytes offset (length bytes) (omega arith))
      ∙ drop-drop width offset bytes in
      let nothing : drop (length bytes - offset) (drop offset bytes) ≡ [] =
      drop_of_length-le (drop offset bytes) (simp length-drop (omega arith)) in
      ap (λ (ys : List ℕ). take offset bytes ++ (part ++ ys)) nothing
      ∙ ap (λ (ys : List ℕ). take offset bytes ++ ys) (append-nil part ∙ is
      ∙ ap (λ (ys : List ℕ). little_bytes width value ++ ys) rest)

-- a byte that is set
pub byte_written : (bytes : List ℕ) (offset value : ℕ) → offset < length bytes → value < 256
    → set bytes offset value ≡ with_number bytes offset 1 value
byte_written bytes offset value inside small =
    ext_get_or 0 _ _ (length-set bytes offset value ∙ sym (length-written bytes offset 1 value (omega arith)))
    (λ k low. elim (cases_eq k offset) [
      | inl same ↦
          ap (λ (j : ℕ). get_or (set bytes offset value) j 0) same ∙ get_or-set_same bytes offset value 0 inside
          ∙ sym (written_reads_back bytes offset 1 value (omega arith) (omega arith)) ∙ sym (number_of_byte offset _)
          ∙ sym (ap (λ (j : ℕ). get_or (with_number bytes offset 1 value) j 0) same)
      | inr other ↦
          get_or-set_other bytes offset k value 0 other
          ∙ sym (elim (cases_lt k offset) [
            | inl below ↦ kept_below bytes offset 1 value (omega arith) k below
            | inr above ↦ kept_above bytes offset 1 value (omega arith) k (omega arith)
          ])
    ])
