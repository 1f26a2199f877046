-- The program of a workload of n children.
use Rattle.std.specs.Prelude.{ℕ, ◌≡◌, List, ◌++◌, None}
use Rattle.std.specs.Fmt.{decimal}
use Rattle.elf_image.specs.Checks.{fault_of}
use Rattle.elf_image.specs.Image.{image}
use Rattle.rv_asm.specs.ElfFile.{HasHeaders, one_segment}
use Rattle.rv_asm.specs.Lines.{Assembles}
use Rattle.guest_kit.specs.declared.program.TheConstants.{CODE_ADDRESS}
use Rattle.guest_kit.specs.declared.program_text.TheConstants.{START, PARENT, CHILD, ROUTINES}

-- the program's text, in which n is the number of children
unfoldable pub program_text : ℕ → List ℕ
program_text n = START.now ++ decimal n ++ PARENT.now ++ CHILD.now ++ ROUTINES.now

-- an ELF file without a fault, whose one segment is the code that the text assembles to
pub record IsProgramFor (n : ℕ) (file : List ℕ) : Type 0 where
  pub code : List ℕ
  pub assembled : Assembles (program_text n) code
  pub headed : HasHeaders file code CODE_ADDRESS 0
  pub loads : fault_of file ≡ None
  pub loaded : image file ≡ one_segment code CODE_ADDRESS
