-- Which fault a file has.
use Rattle.std.specs.Prelude.{◌≡◌, ◌≢◌, ℕ, ◌+◌, ◌%◌, ◌<◌, ◌⊎◌, ◌==◌, cond, List, [], ◌∷◌, length, take, slice_index, bit_and}
use Rattle.std.specs.List.{Any}
use Rattle.lists.specs.declared.stop.Stop.{Stop}
use Rattle.lists.specs.declared.stop.Stop.TheVariants.{At, Memory}
use Rattle.abi_base.specs.declared.address_space.TheConstants.{INSTRUCTION_ALIGNMENT}
use Rattle.elf_image.specs.Fields.{e_type, e_machine, e_entry, e_flags, e_phentsize, e_phnum, program_headers, program_headers_end}
use Rattle.elf_image.specs.Segments.{IsUnloadable, MeetsEarlier, IsExecutable}
use Rattle.elf_image.specs.declared.fault.ElfFault.{ElfFault}
use Rattle.elf_image.specs.declared.fault.ElfFault.TheVariants as fault
use Rattle.elf_image.specs.declared.program_header.ProgramHeader.{ProgramHeader}

-- the first four bytes of an ELF file
abbrev pub magic : List ℕ
magic = 0x7f ∷ 0x45 ∷ 0x4c ∷ 0x46 ∷ []

-- what is added to each address of a file of this type: 0x10000000 for ET_DYN, else nothing
abbrev pub base_for : ℕ → ℕ
base_for kind = cond (kind == 3) 0x10000000 0

-- what is added to each address of a file
abbrev pub base_of : List ℕ → ℕ
base_of bytes = base_for (e_type bytes)

-- where the program begins to run
abbrev pub entry_of : List ℕ → ℕ
entry_of bytes = base_of bytes + e_entry bytes

-- the first of the numbers below n for which this holds
abbrev pub IsFirst : (ℕ → Type 0) → ℕ → ℕ → Type 0
IsFirst P n k = (k < n) × P k × ((j : ℕ) → j < k → P j → ⊥)

-- what is wrong with a file that has a fault
abbrev pub HasFault : List ℕ → ElfFault → Type 0
HasFault bytes fault.TooShort = length bytes < 64
HasFault bytes fault.Magic = take 4 bytes ≢ magic
-- EI_CLASS is ELFCLASS64, EI_DATA is ELFDATA2LSB, EI_VERSION is EV_CURRENT, and EI_OSABI is ELFOSABI_NONE or
-- ELFOSABI_CLOUDABI
HasFault bytes fault.Class =
    (slice_index bytes 4 ≢ 2) ⊎ (slice_index bytes 5 ≢ 1) ⊎ (slice_index bytes 6 ≢ 1)
    ⊎ ((slice_index bytes 7 ≢ 0) × (slice_index bytes 7 ≢ 17))
HasFault bytes fault.Machine = e_machine bytes ≢ 243
HasFault bytes fault.Kind = (e_type bytes ≢ 2) × (e_type bytes ≢ 3)
HasFault bytes fault.Header =
    (e_phentsize bytes ≢ 56) ⊎ (e_phnum bytes ≡ 0) ⊎ (64 < e_phnum bytes) ⊎ (length bytes < program_headers_end bytes)
-- PT_INTERP is 3
HasFault bytes fault.Interp = Any (λ (header : ProgramHeader). header.kind ≡ 3) (program_headers bytes)
HasFault bytes fault.Compressed = bit_and (e_flags bytes) 1 ≢ 0
HasFault bytes fault.FloatAbi = bit_and (e_flags bytes) 6 ≢ 0
HasFault bytes (fault.Segment k) =
    IsFirst (IsUnloadable (base_of bytes) (length bytes) (program_headers bytes)) (e_phnum bytes) k
HasFault bytes (fault.Overlap k) = IsFirst (MeetsEarlier (base_of bytes) (program_headers bytes)) (e_phnum bytes) k
HasFault bytes fault.Entry =
    (entry_of bytes % INSTRUCTION_ALIGNMENT ≢ 0) ⊎ (IsExecutable (base_of bytes) (program_headers bytes) (entry_of bytes) → ⊥)

-- A fault's place in the order: where a file has several faults, it is refused for the first.
abbrev pub order : ElfFault → ℕ
order fault.TooShort = 0
order fault.Magic = 1
order fault.Class = 2
order fault.Machine = 3
order fault.Kind = 4
order fault.Header = 5
order fault.Interp = 6
order fault.Compressed = 7
order fault.FloatAbi = 8
order (fault.Segment k) = 9
order (fault.Overlap k) = 10
order fault.Entry = 11

-- the file has this fault, and none that comes before it
pub record IsFirstFault (bytes : List ℕ) (found : ElfFault) : Type 0 where
  pub has : HasFault bytes found
  pub before : (earlier : ElfFault) → order earlier < order found → HasFault bytes earlier → ⊥

abbrev pub HasNoFault : List ℕ → Type 0
HasNoFault bytes = (any : ElfFault) → HasFault bytes any → ⊥

-- a refusal is right: it names the first fault, or memory ran out for a file that has none
abbrev pub IsRefusal : List ℕ → Stop ElfFault → Type 0
IsRefusal bytes (At found) = IsFirstFault bytes found
IsRefusal bytes Memory = HasNoFault bytes
