-- Segments that can be loaded.
use Rattle.std.proofs.Common.{◌≡◌, ℕ, suc, ◌+◌, ◌-◌, ◌<◌, ◌≤◌, Bool, true, false, ◌%◌, ◌^◌, ◌==◌, ◌&&◌, ◌||◌, nat_lt, nat_le, List, length, take, None, refl, sym, subst, ◌∙◌, arith}
use Rattle.std.proofs.lemmas.Bool.{and_parts, leb-true, ltb-true, ltb-false}
use Rattle.std.proofs.lemmas.List.{get_or_default}
use Rattle.std.proofs.lemmas.List.Folds.{Any-from_list_any}
use Rattle.std.specs.List.{list_any}
use Rattle.elf_image.specs.Checks.{first_unloadable, is_unloadable, is_misplaced, is_entry, may_run}
use Rattle.elf_image.specs.Image.{holds_range}
use Rattle.elf_image.specs.Segments.{may_write, is_load, may_execute, nth_header, unused, start_of, end_of, page_total}
use Rattle.elf_image.specs.declared.program_header.ProgramHeader.{ProgramHeader}
use Rattle.elf_image.proofs.Searches.{none_below}

-- where a header's segment lies
pub record IsPlaced (base size : ℕ) (header : ProgramHeader) : Type 0 where
  pub file : header.offset + header.file_size ≤ size
  pub sizes : header.file_size ≤ header.memory_size
  pub low : 0x10000 ≤ start_of base header
  pub high : end_of base header ≤ 0x2000000000
  pub guarded : may_write header ≡ true → may_execute header ≡ true → ⊥

pub or_none : (a b : Bool) → (a || b) ≡ false → (a ≡ false) × (b ≡ false)
or_none true b none = absurd (cc)
or_none false b none = (refl, none)

pub not_both : (a b : Bool) → (a && b) ≡ false → a ≡ true → b ≡ false
not_both true b none holds = none
not_both false b none holds = absurd (cc)

not_all : (a b : Bool) → (a && b) ≡ false → a ≡ true → b ≡ true → ⊥
not_all true true none first second = cc
not_all true false none first second = cc
not_all false b none first second = cc

pub placed : (base size : ℕ) (header : ProgramHeader) → is_misplaced base size header ≡ false → IsPlaced base size header
placed base size header right =
    let d = or_none _ _ right in
    let c = or_none _ _ d.0 in
    let b = or_none _ _ c.0 in
    let a = or_none _ _ b.0 in
    record {
      file = ltb-false _ _ a.0;
      sizes = ltb-false _ _ a.1;
      low = ltb-false _ _ c.1;
      high = ltb-false _ _ d.1;
      guarded = λ writes executes. not_all (may_write header) (may_execute header) b.1 writes executes;
    }

-- where no header's segment is found that can't be loaded, each lies within the file and the program's addresses
pub loadable : (base size : ℕ) (headers : List ProgramHeader) (i : ℕ) → first_unloadable base size headers ≡ None →
    i < length headers →
    is_load (nth_header headers i) ≡ true → IsPlaced base size (nth_header headers i)
loadable base size headers i none below loads =
    let test = none_below (is_unloadable base size headers) (length headers) i none below in
    let right =
    not_both (is_load (nth_header headers i))
    (is_misplaced base size (nth_header headers i) || nat_lt 32768 (page_total base (take (suc i) headers))) test
    loads in
    placed base size (nth_header headers i)
    (or_none (is_misplaced base size (nth_header headers i)) (nat_lt 32768 (page_total base (take (suc i) headers)))
    right).0

-- the address of a byte of the file in such a segment is one of the program's part of the address space
pub in_memory : (base size from to : ℕ) (header : ProgramHeader) → IsPlaced base size header →
    holds_range from to header ≡ true →
    from < to → base + header.address + (from - header.offset) < 2 ^ 64
in_memory base size from to header place holds order =
    let parts =
    and_parts (is_load header) (nat_le header.offset from && nat_le to (header.offset + header.file_size)) holds in
    let range = and_parts (nat_le header.offset from) (nat_le to (header.offset + header.file_size)) parts.1 in
    let first : header.offset ≤ from = leb-true header.offset from range.0 in
    let last : to ≤ header.offset + header.file_size = leb-true to (header.offset + header.file_size) range.1 in
    omega arith

-- an address of a segment that may be executed fits
runs_within : (base size address : ℕ) (header : ProgramHeader) → IsPlaced base size header →
    may_run base address header ≡ true → address < 2 ^ 64
runs_within base size address header place runs =
    let parts =
    and_parts (is_load header && may_execute header)
    (nat_le (start_of base header) address && nat_lt address (end_of base header)) runs in
    let range = and_parts (nat_le (start_of base header) address) (nat_lt address (end_of base header)) parts.1 in
    let below : address < end_of base header = ltb-true address (end_of base header) range.1 in
    omega arith

runs_loaded : (base address : ℕ) (header : ProgramHeader) → may_run base address header ≡ true → is_load header ≡ true
runs_loaded base address header runs =
    (and_parts (is_load header) (may_execute header)
    (and_parts (is_load header && may_execute header)
    (nat_le (start_of base header) address && nat_lt address (end_of base header)) runs).0).0

pub entry_fits : (base size entry : ℕ) (headers : List ProgramHeader) → first_unloadable base size headers ≡ None →
    is_entry base headers entry ≡ true → entry < 2 ^ 64
entry_fits base size entry headers none test =
    let runs = (and_parts (entry % 4 == 0) (list_any (may_run base entry) headers) test).1 in
    let (k, header, below, at, runs_at) = Any-from_list_any (may_run base entry) headers runs in
    let found : nth_header headers k ≡ header = get_or_default headers k unused header below ∙ at in
    let runs_there : may_run base entry (nth_header headers k) ≡ true =
    subst (λ h. may_run base entry h ≡ true) (sym found) runs_at in
    let place = loadable base size headers k none below (runs_loaded base entry (nth_header headers k) runs_there) in
    runs_within base size entry (nth_header headers k) place runs_there
