-- The file of a program has no fault, and its image is the code.
use Rattle.std.proofs.Common.{◌≡◌, ℕ, zero, suc, ◌+◌, ◌-◌, ◌*◌, ◌/◌, ◌%◌, ◌<◌, ◌≤◌, true, false, List, [], ◌∷◌, length, take, drop, bit_and, None, refl, ap, sym, ◌∙◌, arith}
use Rattle.std.proofs.lemmas.Bool.{lt-ltb}
use Rattle.std.proofs.lemmas.Bool.Decides.{nat_tests}
use Rattle.std.proofs.lemmas.List.{take_all}
use Rattle.std.proofs.lemmas.Nat.{and_mod, and_le_r}
use Rattle.std.specs.List.{find}
use Rattle.elf_image.specs.Checks.{fault_of, header_fault, program_fault, is_magic, is_class, or_next}
use Rattle.elf_image.specs.Faults.{base_for, base_of, entry_of}
use Rattle.elf_image.specs.Fields.{e_type, e_machine, e_phoff, e_phentsize, e_phnum}
use Rattle.elf_image.specs.Image.{image, segments, address_in, holds_range, phdr_of}
use Rattle.rv_asm.specs.ElfFile.{HasHeaders, IsProgram, file_bytes, one_segment}

-- a number whose low bits are 0 has none of them
low_bits : (flags mask : ℕ) → mask < 8 → flags % 8 ≡ 0 → bit_and flags mask ≡ 0
low_bits flags mask small none =
    let cut : bit_and flags mask % 8 ≡ bit_and (flags % 8) (mask % 8) = and_mod flags mask 3 in
    let zero_part : bit_and (flags % 8) (mask % 8) ≡ 0 = ap (λ (n : ℕ). bit_and n (mask % 8)) none in
    let below : bit_and flags mask ≤ mask = and_le_r flags mask in
    omega arith

-- a number below 8 that has none of these bits is 0
no_bits : (n : ℕ) → n < 8 → bit_and n 1 ≡ 0 → bit_and n 6 ≡ 0 → n ≡ 0
no_bits zero small first second = refl
no_bits (suc zero) small first second = absurd (omega arith)
no_bits (suc (suc zero)) small first second = absurd (omega arith)
no_bits (suc (suc (suc zero))) small first second = absurd (omega arith)
no_bits (suc (suc (suc (suc zero)))) small first second = absurd (omega arith)
no_bits (suc (suc (suc (suc (suc zero))))) small first second = absurd (omega arith)
no_bits (suc (suc (suc (suc (suc (suc zero)))))) small first second = absurd (omega arith)
no_bits (suc (suc (suc (suc (suc (suc (suc zero))))))) small first second = absurd (omega arith)
no_bits (suc (suc (suc (suc (suc (suc (suc (suc n)))))))) small first second = absurd (omega arith)

no_low_bits : (flags : ℕ) → bit_and flags 1 ≡ 0 → bit_and flags 6 ≡ 0 → flags % 8 ≡ 0
no_low_bits flags first second =
    no_bits (flags % 8) (omega arith) (sym (and_mod flags 1 3) ∙ ap (λ (n : ℕ). n % 8) first)
    (sym (and_mod flags 6 3) ∙ ap (λ (n : ℕ). n % 8) second)

-- a program header whose segment is the bytes from offset 120 on, as many as there are, has no fault
program_passes : (size count at flags : ℕ) → 120 + count ≤ size → 0 < count → at % 4 ≡ 0 → 0x10000 ≤ at →
    at + count ≤ 0x2000000000 →
    (at + count + 4095) / 4096 - at / 4096 ≤ 32768 →
    bit_and flags 1 ≡ 0 →
    bit_and flags 6 ≡ 0 →
    program_fault 0 size flags at
    (record { kind = 1; flags = 5; offset = 120; address = at; file_size = count; memory_size = count } ∷ []) ≡ None
program_passes size count at flags fits some aligned low high pages first second = grind (arith, nat_tests)

-- what such a program header has where it has no fault
program_needs : (size count at flags : ℕ) →
    program_fault 0 size flags at
    (record { kind = 1; flags = 5; offset = 120; address = at; file_size = count; memory_size = count } ∷ []) ≡ None →
    (0 < count) × (at % 4 ≡ 0) × (0x10000 ≤ at) × (at + count ≤ 0x2000000000)
    × ((at + count + 4095) / 4096 - at / 4096 ≤ 32768)
    × (bit_and flags 1 ≡ 0)
    × (bit_and flags 6 ≡ 0)
program_needs size count at flags none = grind (arith, nat_tests)

-- a file's header with these fields has no fault
header_passes : (file : List ℕ) → 120 ≤ length file → is_magic file ≡ true → is_class file ≡ true → e_type file ≡ 2 →
    e_machine file ≡ 243 →
    e_phoff file ≡ 64 →
    e_phentsize file ≡ 56 →
    e_phnum file ≡ 1 → header_fault file ≡ None
header_passes file long magic class kind machine headers_at header_size header_count = grind (arith, nat_tests)

-- the fault of a file of these headers is that of its program header
fault_is : (code file : List ℕ) (at flags : ℕ) → length file ≡ 120 + length code → is_magic file ≡ true →
    is_class file ≡ true →
    HasHeaders file code at flags →
    fault_of file
    ≡ program_fault 0 (120 + length code) flags at
    (record { kind = 1; flags = 5; offset = 120; address = at; file_size = length code; memory_size = length code } ∷ [])
fault_is code file at flags size magic class has =
    let first : header_fault file ≡ None =
    header_passes file (omega (arith, size)) magic class has.kind has.machine has.headers_at has.header_size
    has.header_count in
    let base : base_of file ≡ 0 = ap base_for has.kind in
    let entry : entry_of file ≡ at = omega (arith, base, has.entry) in
    λ i. or_next (first i) (program_fault (base i) (size i) (has.flagged i) (entry i) (has.headers i))

-- no segment has the program header
no_range : (at count : ℕ) → 0 < count →
    address_in 0 64
    (find (holds_range 64 120)
    (record { kind = 1; flags = 5; offset = 120; address = at; file_size = count; memory_size = count } ∷ []))
    ≡ 0
no_range at count some = grind (arith, nat_tests)

-- the segment is the code
loaded : (code file : List ℕ) (at : ℕ) → 0 < length code → drop 120 file ≡ code →
    segments file 0
    (record { kind = 1; flags = 5; offset = 120; address = at; file_size = length code; memory_size = length code } ∷ [])
    ≡ record {
      at = at;
      bytes = code;
      length = length code;
      prot = record { read = true; write = false; exec = true };
    } ∷ []
loaded code file at some rest =
    let bytes : take (length code) (drop 120 file) ≡ code = ap (take (length code)) rest ∙ take_all (length code) code (omega arith) in
    let start : 0 + at ≡ at = omega arith in
    rw (lt-ltb 0 (length code) some) (λ i. record {
      at = start i;
      bytes = bytes i;
      length = length code;
      prot = record { read = true; write = false; exec = true };
    } ∷ [])

-- the image of a file of these headers
image_is : (code file : List ℕ) (at flags : ℕ) → HasHeaders file code at flags → 0 < length code →
    image file ≡ one_segment code at
image_is code file at flags has some =
    let base : base_of file ≡ 0 = ap base_for has.kind in
    let phdr : phdr_of file ≡ 0 =
    (λ i. address_in (base i) (has.headers_at i)
    (find (holds_range (has.headers_at i) (has.headers_at i + 56 * has.header_count i)) (has.headers i)))
    ∙ no_range at (length code) some in
    let entry : entry_of file ≡ at = omega (arith, base, has.entry) in
    let placed = (λ i. segments file (base i) (has.headers i)) ∙ loaded code file at some has.rest in
    λ i. record {
      base = base i;
      entry = entry i;
      phdr = phdr i;
      phnum = has.header_count i;
      segments = placed i;
    }

-- the fault of a file that was written
written_fault : (code : List ℕ) (at flags : ℕ) → HasHeaders (file_bytes code at flags) code at flags →
    fault_of (file_bytes code at flags)
    ≡ program_fault 0 (120 + length code) flags at
    (record { kind = 1; flags = 5; offset = 120; address = at; file_size = length code; memory_size = length code } ∷ [])
written_fault code at flags has = fault_is code (file_bytes code at flags) at flags (omega arith) refl refl has

-- the file of a program
pub program_loads : (code : List ℕ) (at flags : ℕ) → HasHeaders (file_bytes code at flags) code at flags →
    IsProgram code at flags →
    (fault_of (file_bytes code at flags) ≡ None) × (image (file_bytes code at flags) ≡ one_segment code at)
program_loads code at flags has program = (
  written_fault code at flags has
      ∙ program_passes (120 + length code) (length code) at flags (omega arith) program.some program.aligned program.low program.high
      program.pages
      (low_bits flags 1 (omega arith) program.plain)
      (low_bits flags 6 (omega arith) program.plain),
  image_is code (file_bytes code at flags) at flags has program.some,
)

-- a file without fault is one of a program
pub is_program : (code : List ℕ) (at flags : ℕ) → HasHeaders (file_bytes code at flags) code at flags →
    fault_of (file_bytes code at flags) ≡ None → IsProgram code at flags
is_program code at flags has none =
    let (some, aligned, low, high, pages, first, second) =
    program_needs (120 + length code) (length code) at flags (sym (written_fault code at flags has) ∙ none) in
    record {
      some = some;
      aligned = aligned;
      low = low;
      high = high;
      pages = pages;
      plain = no_low_bits flags first second;
    }
