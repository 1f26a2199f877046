-- What holds of every file.
use Rattle.std.specs.Prelude.{◌≡◌, ◌↔◌, ℕ, List, Some, None}
use Rattle.elf_image.specs.Checks.{fault_of}
use Rattle.elf_image.specs.Faults.{HasNoFault, IsFirstFault}
use Rattle.elf_image.specs.Image.{image}
use Rattle.elf_image.specs.Sound.{IsSound}
use Rattle.elf_image.specs.declared.fault.ElfFault.{ElfFault}

-- The checks find exactly the first fault.
abbrev pub ChecksFindFirst : Type 0
ChecksFindFirst = (bytes : List ℕ) (found : ElfFault) → (fault_of bytes ≡ Some found) ↔ IsFirstFault bytes found

-- The checks find nothing exactly where a file has no fault.
abbrev pub ChecksPass : Type 0
ChecksPass = (bytes : List ℕ) → (fault_of bytes ≡ None) ↔ HasNoFault bytes

-- The image of a file without fault is what a loader may rely on.
abbrev pub ImageIsSound : Type 0
ImageIsSound = (bytes : List ℕ) → fault_of bytes ≡ None → IsSound (image bytes)
