-- Each test decides its condition.
use Rattle.std.proofs.Common.{◌≡◌, ◌≢◌, ℕ, suc, ◌+◌, ◌%◌, ◌<◌, ◌≤◌, ◌⊎◌, inl, inr, ◌==◌, Bool, true, false, ◌&&◌, ◌||◌, not, nat_lt, nat_le, List, take, length, slice_index, bit_and, refl, arith}
use Rattle.std.proofs.lemmas.Bool.{and_parts, ltb-true}
use Rattle.std.proofs.lemmas.Bool.Decides.{Decides-eqb, Decides-ltb, Decides-not, Decides-like, nat_tests, not_from_Decides}
use Rattle.std.proofs.lemmas.List.Folds.{Any-from_list_any, list_any-from_Any}
use Rattle.std.proofs.lemmas.Slice.Eq.{bytes_eq-Decides}
use Rattle.std.specs.Bool.{Decides}
use Rattle.std.specs.List.{Any, list_any}
use Rattle.elf_image.specs.Checks.{is_magic, is_class, is_table, is_interp, is_unloadable, meets_earlier, is_met, share_page, is_entry, may_run, file_header}
use Rattle.elf_image.specs.Faults.{magic, HasFault, base_of, entry_of}
use Rattle.elf_image.specs.Fields.{e_type, e_machine, e_phentsize, e_phnum, program_headers, program_headers_end}
use Rattle.elf_image.specs.declared.fault.ElfFault.TheVariants as fault
use Rattle.elf_image.specs.Segments.{IsUnloadable, MeetsEarlier, IsExecutable, IsWithin, SharePage, is_load, may_execute, may_write, nth_header, start_of, end_of, page_total}
use Rattle.elf_image.specs.declared.program_header.ProgramHeader.{ProgramHeader}
use Rattle.elf_image.proofs.Searches.{not_passing}
use Rattle.elf_image.proofs.Sharing.{decides_share}

pub decides_short : (bytes : List ℕ) → Decides (nat_lt (length bytes) 64) (HasFault bytes fault.TooShort)
decides_short bytes = Decides-ltb (length bytes) 64

pub decides_magic : (bytes : List ℕ) → Decides (not (is_magic bytes)) (HasFault bytes fault.Magic)
decides_magic bytes = Decides-not (is_magic bytes) (bytes_eq-Decides (take 4 bytes) magic)

class_of : (a b c d : ℕ) →
    Decides (not (a == 2 && b == 1 && c == 1 && (d == 0 || d == 17))) ((a ≢ 2) ⊎ (b ≢ 1) ⊎ (c ≢ 1) ⊎ ((d ≢ 0) × (d ≢ 17)))
class_of a b c d = grind (arith, nat_tests)

pub decides_class : (bytes : List ℕ) → Decides (not (is_class bytes)) (HasFault bytes fault.Class)
decides_class bytes = class_of (slice_index bytes 4) (slice_index bytes 5) (slice_index bytes 6) (slice_index bytes 7)

pub decides_machine : (bytes : List ℕ) → Decides (not (e_machine bytes == 243)) (HasFault bytes fault.Machine)
decides_machine bytes = Decides-not (e_machine bytes == 243) (Decides-eqb (e_machine bytes) 243)

kind_of : (a : ℕ) → Decides (not (a == 2 || a == 3)) ((a ≢ 2) × (a ≢ 3))
kind_of a = grind (arith, nat_tests)

pub decides_kind : (bytes : List ℕ) → Decides (not (e_type bytes == 2 || e_type bytes == 3)) (HasFault bytes fault.Kind)
decides_kind bytes = kind_of (e_type bytes)

table_of : (a b c d : ℕ) →
    Decides (not (a == 56 && not (b == 0) && nat_le b 64 && nat_le c d)) ((a ≢ 56) ⊎ (b ≡ 0) ⊎ (64 < b) ⊎ (d < c))
table_of a b c d = grind (arith, nat_tests)

pub decides_table : (bytes : List ℕ) →
    Decides (not (is_table (length bytes) (file_header bytes))) (HasFault bytes fault.Header)
decides_table bytes = table_of (e_phentsize bytes) (e_phnum bytes) (program_headers_end bytes) (length bytes)

pub decides_flag : (flags bit : ℕ) → Decides (not (bit_and flags bit == 0)) (bit_and flags bit ≢ 0)
decides_flag flags bit = Decides-not (bit_and flags bit == 0) (Decides-eqb (bit_and flags bit) 0)

-- a test of some element, where it decides each element's condition
pub decides_any : {X : Type 0} (test : X → Bool) (P : X → Type 0) (xs : List X) → ((x : X) → Decides (test x) (P x)) →
    Decides (list_any test xs) (Any P xs)
decides_any test P xs each = (
  λ holds. let (k, x, below, at, passes) = Any-from_list_any test xs holds in (k, x, below, at, (each x).0 passes),
  λ some. let (k, x, below, at, holds) = some in list_any-from_Any test xs (k, x, below, at, (each x).1 holds),
)

unloadable_of : (load write exec : Bool) (size end memory file start stop total : ℕ) →
    Decides
    (load
    && ((nat_lt size end || nat_lt memory file || (write && exec) || nat_lt start 0x10000 || nat_lt 0x2000000000 stop)
    || nat_lt 32768 total))
    ((load ≡ true)
    × ((size < end) ⊎ (memory < file) ⊎ ((write ≡ true) × (exec ≡ true)) ⊎ (start < 0x10000) ⊎ (0x2000000000 < stop)
    ⊎ (32768 < total)))
unloadable_of load write exec size end memory file start stop total = grind (arith, nat_tests)

pub decides_unloadable : (base size : ℕ) (headers : List ProgramHeader) (k : ℕ) →
    Decides (is_unloadable base size headers k) (IsUnloadable base size headers k)
decides_unloadable base size headers k =
    let header = nth_header headers k in
    unloadable_of (is_load header) (may_write header) (may_execute header) size (header.offset + header.file_size)
    header.memory_size header.file_size
    (start_of base header) (end_of base header) (page_total base (take (suc k) headers))

-- a test that is asked where another passes
pub decides_both : {P Q : Type 0} (a b : Bool) → Decides a P → (a ≡ true → Decides b Q) → Decides (a && b) (P × Q)
decides_both true b first second = (λ holds. (first.0 refl, (second refl).0 holds), λ both. (second refl).1 both.1)
decides_both false b first second = (λ holds. absurd (cc), λ both. first.1 both.0)

decides_itself : (b : Bool) → Decides b (b ≡ true)
decides_itself b = (λ holds. holds, λ holds. holds)

pub takes_memory : (header : ProgramHeader) → is_load header ≡ true → 0 < header.memory_size
takes_memory header loads =
    ltb-true 0 header.memory_size (and_parts (header.kind == 1) (nat_lt 0 header.memory_size) loads).1

pub decides_meets : (base : ℕ) (headers : List ProgramHeader) (k : ℕ) →
    Decides (meets_earlier base headers k) (MeetsEarlier base headers k)
decides_meets base headers k =
    let header = nth_header headers k in
    decides_both (is_load header) (list_any (is_met base header) (take k headers)) (decides_itself (is_load header))
    (λ loads. decides_any (is_met base header) (λ earlier. (is_load earlier ≡ true) × SharePage base earlier header)
    (take k headers)
    (λ earlier. decides_both (is_load earlier) (share_page base earlier header) (decides_itself (is_load earlier))
    (λ loads_earlier. decides_share base earlier header (takes_memory earlier loads_earlier)
    (takes_memory header loads))))

runs_of : (load exec : Bool) (start stop address : ℕ) →
    Decides (load && exec && (nat_le start address && nat_lt address stop))
    ((load ≡ true) × (exec ≡ true) × ((start ≤ address) × (address < stop)))
runs_of load exec start stop address = grind (arith, nat_tests)

pub decides_executable : (base address : ℕ) (headers : List ProgramHeader) →
    Decides (list_any (may_run base address) headers) (IsExecutable base headers address)
decides_executable base address headers =
    decides_any (may_run base address)
    (λ header. (is_load header ≡ true) × (may_execute header ≡ true) × IsWithin base header address) headers
    (λ header. runs_of (is_load header) (may_execute header) (start_of base header) (end_of base header) address)

entry_test : (a : ℕ) (b : Bool) → Decides (not (a == 0 && b)) ((a ≢ 0) ⊎ (b ≡ false))
entry_test a b = grind (arith, nat_tests)

entry_of_parts : {P : Type 0} (a : ℕ) (b : Bool) → Decides b P → Decides (not (a == 0 && b)) ((a ≢ 0) ⊎ (P → ⊥))
entry_of_parts {P} a b inner =
    Decides-like (not (a == 0 && b))
    (λ either. elim either as (λ _. (a ≢ 0) ⊎ (P → ⊥))
    [ inl odd ↦ inl odd | inr none ↦ inr (not_from_Decides b inner none) ])
    (λ either. elim either as (λ _. (a ≢ 0) ⊎ (b ≡ false))
    [ inl odd ↦ inl odd | inr none ↦ inr (not_passing b (λ passes. none (inner.0 passes))) ])
    (entry_test a b)

pub decides_entry : (bytes : List ℕ) →
    Decides (not (is_entry (base_of bytes) (program_headers bytes) (entry_of bytes))) (HasFault bytes fault.Entry)
decides_entry bytes =
    entry_of_parts (entry_of bytes % 4) (list_any (may_run (base_of bytes) (entry_of bytes)) (program_headers bytes))
    (decides_executable (base_of bytes) (entry_of bytes) (program_headers bytes))

pub decides_interp : (bytes : List ℕ) → Decides (list_any is_interp (program_headers bytes)) (HasFault bytes fault.Interp)
decides_interp bytes =
    decides_any is_interp (λ (header : ProgramHeader). header.kind ≡ 3) (program_headers bytes)
    (λ header. Decides-eqb header.kind 3)
