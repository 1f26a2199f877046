-- The bytes of the head of an entry, of whose name's length they have the low 32 bits.
use Rattle.std.proofs.Common.{◌≡◌, ℕ, zero, suc, ◌+◌, ◌*◌, ◌^◌, ◌%◌, ◌/◌, ◌<◌, List, [], ◌∷◌, ◌++◌, get_or, take, drop, ap, subst, ◌∙◌, arith}
use Rattle.std.proofs.Math.Nat.{pow-succ'}
use Rattle.std.specs.Int.{bytes_low_first}
use Rattle.byteorder.specs.Endian.{little_from}
use Rattle.abi_layout.specs.Laws.{AreBytes}
use Rattle.abi_layout.specs.Layout.{Field, Fit, IsLaidOut, number_from, numbers, with_number}
use Rattle.abi_layout.specs.Structures.{dirent_layout, dirent_values}
use Rattle.abi_structures.specs.declared.structures.Dirent.{Dirent}
use Rattle.kernel_model.specs.Families.FileLooks.{dirent_bytes}
use Rattle.file_calls.specs.Heads.{low_head}
use Rattle.kernel_model.proofs.Dirents.{laid_out_is_dirent}

-- ---- numbers in bytes fit them

more_fits : (byte n power next : ℕ) → byte < 256 → n < power → next ≡ 256 * power → byte + 256 * n < next
more_fits byte n power next b h e = omega arith

number_fits : (n i : ℕ) (xs : List ℕ) → AreBytes xs → little_from i n xs < 256 ^ n
number_fits zero i xs small = omega arith
number_fits (suc n) i xs small =
    more_fits (get_or xs i 0) (little_from (suc i) n xs) (256 ^ n) (256 ^ suc n) (small i) (number_fits n (suc i) xs small) (pow-succ' 256 n)

numbers_fit : (fields : List Field) (xs : List ℕ) → AreBytes xs → Fit fields (numbers fields xs)
unfolding number_from
numbers_fit [] xs small = tt
numbers_fit (f ∷ fields) xs small = (number_fits f.width f.offset xs small, numbers_fit fields xs small)

-- ---- the low bits of the length

low_bits : (n : ℕ) → bytes_low_first 0 4 (n % 4294967296) ≡ bytes_low_first 0 4 n
low_bits n =
    let first : (n % 4294967296) % 256 ≡ n % 256 = omega arith in
    let second : (n % 4294967296) / 256 % 256 ≡ n / 256 % 256 = omega arith in
    let third : (n % 4294967296) / 65536 % 256 ≡ n / 65536 % 256 = omega arith in
    let fourth : (n % 4294967296) / 16777216 % 256 ≡ n / 16777216 % 256 = omega arith in
    cc

low_written : (bytes : List ℕ) (offset n : ℕ) → with_number bytes offset 4 (n % 4294967296) ≡ with_number bytes offset 4 n
unfolding with_number
low_written bytes offset n = ap (λ low. take offset bytes ++ (low ++ drop (offset + 4) bytes)) (low_bits n)

-- a head with the low bits of its name's length has the bytes of that head
low_dirent : (head : Dirent) → dirent_bytes (low_head head) ≡ dirent_bytes head
low_dirent head = ap (λ bytes. with_number bytes 20 1 head.kind) (low_written _ 16 head.namlen)

-- bytes that are laid out as a head with these low bits are those of the head
pub laid_out_is_head : (head : Dirent) (bytes : List ℕ) → AreBytes bytes → IsLaidOut dirent_layout (dirent_values (low_head head)) bytes
    → bytes ≡ dirent_bytes head
laid_out_is_head head bytes small laid =
    laid_out_is_dirent (low_head head) bytes (subst (Fit dirent_layout.fields) laid.values_at (numbers_fit dirent_layout.fields bytes small)) small laid
    ∙ low_dirent head
