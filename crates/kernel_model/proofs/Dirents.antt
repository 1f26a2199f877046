-- The bytes of the head of a directory's entry are laid out as that structure is, and no other bytes are.
use Rattle.std.proofs.Common.{◌≡◌, ℕ, zero, suc, ◌+◌, ◌<◌, List, [], ◌∷◌, ◌++◌, refl, arith}
use Rattle.std.specs.Prelude.{drop, replicate, take}
use Rattle.std.specs.Int.{byte_at, bytes_low_first}
use Rattle.std.specs.List.{AllByRecursion}
use Rattle.abi_structures.specs.declared.structures.Dirent.{Dirent}
use Rattle.abi_layout.proofs.Bytes.{laid_out}
use Rattle.abi_layout.proofs.Unique.{bytes_are_unique}
use Rattle.abi_layout.specs.Laws.{AreBytes}
use Rattle.abi_layout.specs.Layout.{Field, Fit, IsLaidOut, with_number, written}
use Rattle.abi_layout.specs.Structures.{dirent_layout, dirent_values}
use Rattle.kernel_model.specs.Families.FileLooks.{dirent_bytes}
use Rattle.kernel_model.proofs.Listings.{all_dropped}

-- ---- each number is a byte

abbrev AllBytes : List ℕ → Type 0
AllBytes = AllByRecursion (λ b. b < 256)

append_bytes : (xs ys : List ℕ) → AllBytes xs → AllBytes ys → AllBytes (xs ++ ys)
append_bytes [] ys hx hy = hy
append_bytes (x ∷ xs) ys hx hy = (hx.0, append_bytes xs ys hx.1 hy)

taken_bytes : (n : ℕ) (xs : List ℕ) → AllBytes xs → AllBytes (take n xs)
taken_bytes zero xs h = tt
taken_bytes (suc n) [] h = tt
taken_bytes (suc n) (x ∷ xs) h = (h.0, taken_bytes n xs h.1)

one_byte : (i n : ℕ) → byte_at i n < 256
one_byte zero n = omega arith
one_byte (suc i) n = omega arith

low_bytes : (i k n : ℕ) → AllBytes (bytes_low_first i k n)
low_bytes i zero n = tt
low_bytes i (suc k) n = (one_byte i n, low_bytes (suc i) k n)

zero_bytes : (n : ℕ) → AllBytes (replicate n 0)
zero_bytes zero = tt
zero_bytes (suc n) = (omega arith, zero_bytes n)

number_bytes : (bytes : List ℕ) (offset width value : ℕ) → AllBytes bytes → AllBytes (with_number bytes offset width value)
unfolding with_number
number_bytes bytes offset width value h =
    append_bytes (take offset bytes) _ (taken_bytes offset bytes h)
    (append_bytes (bytes_low_first 0 width value) (drop (offset + width) bytes) (low_bytes 0 width value) (all_dropped (λ b. b < 256) (offset + width) bytes h))

written_bytes : (fields : List Field) (values bytes : List ℕ) → AllBytes bytes → AllBytes (written fields values bytes)
written_bytes [] values bytes h = h
written_bytes (f ∷ fields) [] bytes h = h
written_bytes (f ∷ fields) (value ∷ values) bytes h =
    written_bytes fields values (with_number bytes f.offset f.width value) (number_bytes bytes f.offset f.width value h)

each_byte : (xs : List ℕ) → AllBytes xs → AreBytes xs
each_byte [] h place = omega arith
each_byte (x ∷ xs) h zero = h.0
each_byte (x ∷ xs) h (suc place) = each_byte xs h.1 place

-- ---- the head of an entry

-- its values fit their fields
abbrev pub Fits : Dirent → Type 0
Fits head = Fit dirent_layout.fields (dirent_values head)

pub dirent_is_laid_out : (head : Dirent) → Fits head → IsLaidOut dirent_layout (dirent_values head) (dirent_bytes head)
dirent_is_laid_out head fits =
    laid_out dirent_layout (dirent_values head) (dirent_bytes head) refl (omega arith, (omega arith, (omega arith, (omega arith, omega arith)))) fits

-- bytes that are laid out so are these
pub laid_out_is_dirent : (head : Dirent) (bytes : List ℕ) → Fits head → AreBytes bytes → IsLaidOut dirent_layout (dirent_values head) bytes
    → bytes ≡ dirent_bytes head
laid_out_is_dirent head bytes fits small laid =
    bytes_are_unique dirent_layout (dirent_values head) bytes (dirent_bytes head) small
    (each_byte (dirent_bytes head) (written_bytes dirent_layout.fields (dirent_values head) (replicate dirent_layout.size 0) (zero_bytes dirent_layout.size)))
    laid (dirent_is_laid_out head fits)
