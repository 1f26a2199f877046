-- The line and the status of each refusal.
use Rattle.std.specs.Prelude.{ℕ, List, [], ◌∷◌, ◌++◌, codes, decimal, Option, None, Some, is_some, if◌then◌else◌}
use Rattle.elf_image.specs.declared.fault.ElfFault.{ElfFault}
use Rattle.elf_image.specs.declared.fault.ElfFault.TheVariants as fault
use Rattle.launch_scalars.specs.declared.kind.YamlKind.{YamlKind}
use Rattle.launch_scalars.specs.declared.kind.YamlKind.TheVariants as kinds
use Rattle.launch_plan.specs.declared.fault.PlanFault.TheVariants as plans
use Rattle.launch_reading.specs.LaunchText.{line_of_fault}
use Rattle.launch_reading.specs.declared.launch_text.LaunchFault.{LaunchFault}
use Rattle.launch_reading.specs.declared.launch_text.LaunchFault.TheVariants.{Yaml, Plan}
use Rattle.launch_reading.specs.declared.refusal.LaunchRefusal.{LaunchRefusal}
use Rattle.launch_reading.specs.declared.refusal.LaunchRefusal.TheVariants.{Words, Input, TooLong, Program, Tree, LaunchText, Memory}

-- a text with a line feed at its end
abbrev pub ended : List ℕ → List ℕ
ended text = text ++ 10 ∷ []

-- the words are not in the grammar
abbrev pub words_line : List ℕ
words_line = ended (codes "words: refused")

-- the input of this name could not be read
abbrev pub input_line : List ℕ → List ℕ
input_line name = ended (codes "input: " ++ name)

-- the input of this name has too many bytes
abbrev pub too_long_line : List ℕ → List ℕ
too_long_line name = ended (codes "input: " ++ name ++ codes " too long")

-- the name of a fault of a program's file
abbrev pub fault_name : ElfFault → List ℕ
fault_name fault.TooShort = codes "TooShort"
fault_name fault.Magic = codes "Magic"
fault_name fault.Class = codes "Class"
fault_name fault.Machine = codes "Machine"
fault_name fault.Kind = codes "Kind"
fault_name fault.Header = codes "Header"
fault_name fault.Interp = codes "Interp"
fault_name fault.Compressed = codes "Compressed"
fault_name fault.FloatAbi = codes "FloatAbi"
fault_name (fault.Segment header) = codes "Segment "
fault_name (fault.Overlap header) = codes "Overlap "
fault_name fault.Entry = codes "Entry"

-- the number of the program header that is at fault, for a fault that is of one
abbrev pub fault_number : ElfFault → List ℕ
fault_number (fault.Segment header) = decimal header
fault_number (fault.Overlap header) = decimal header
fault_number _ = []

-- the program's file has this fault
abbrev pub program_line : ElfFault → List ℕ
program_line found = ended (codes "program: " ++ fault_name found ++ fault_number found)

-- the first faulty record of the tree document begins at this byte
abbrev pub tree_line : ℕ → List ℕ
tree_line byte = ended (codes "tree: byte " ++ decimal byte)

-- what stands behind the number of the line of a fault in a launch file
abbrev pub kind_ending : YamlKind → List ℕ
kind_ending kinds.Indent = ended (codes ": Indent")
kind_ending kinds.Tab = ended (codes ": Tab")
kind_ending kinds.Quote = ended (codes ": Quote")
kind_ending kinds.Escape = ended (codes ": Escape")
kind_ending kinds.Flow = ended (codes ": Flow")
kind_ending kinds.Tag = ended (codes ": Tag")
kind_ending kinds.DuplicateKey = ended (codes ": DuplicateKey")
kind_ending kinds.Anchor = ended (codes ": Anchor")
kind_ending kinds.BlockScalar = ended (codes ": BlockScalar")
kind_ending kinds.Float = ended (codes ": Float")
kind_ending kinds.IntegerRange = ended (codes ": IntegerRange")
kind_ending kinds.End = ended (codes ": End")
kind_ending kinds.Depth = ended (codes ": Depth")
kind_ending kinds.Character = ended (codes ": Character")
kind_ending kinds.Base64 = ended (codes ": Base64")

-- a line has its number behind these words; two faults are of no line
abbrev pub launch_front : LaunchFault → List ℕ
launch_front fault = if is_some (line_of_fault fault) then codes "launch: line " else codes "launch: "

abbrev pub line_number : Option ℕ → List ℕ
line_number None = []
line_number (Some line) = decimal line

abbrev pub launch_ending : LaunchFault → List ℕ
launch_ending (Yaml fault) = kind_ending fault.kind
launch_ending (Plan (plans.UnknownTag line)) = ended (codes ": UnknownTag")
launch_ending (Plan (plans.BadFd line)) = ended (codes ": BadFd")
launch_ending (Plan (plans.BadFile line)) = ended (codes ": BadFile")
launch_ending (Plan (plans.UnknownRight line)) = ended (codes ": UnknownRight")
launch_ending (Plan (plans.NoSuchPath line)) = ended (codes ": NoSuchPath")
launch_ending (Plan plans.TooMany) = ended (codes "too many")
launch_ending (Plan plans.TooLarge) = ended (codes "too large")

-- the launch text has this fault
abbrev pub launch_line : LaunchFault → List ℕ
launch_line fault = launch_front fault ++ (line_number (line_of_fault fault) ++ launch_ending fault)

-- memory runs out
abbrev pub memory_line : List ℕ
memory_line = ended (codes "memory")

-- the line of each refusal
abbrev pub line_of : LaunchRefusal → List ℕ
line_of Words = words_line
line_of (Input name) = input_line name.now
line_of (TooLong name) = too_long_line name.now
line_of (Program found) = program_line found
line_of (Tree byte) = tree_line byte
line_of (LaunchText fault) = launch_line fault
line_of Memory = memory_line

-- the status of each refusal
abbrev pub status_of : LaunchRefusal → ℕ
status_of Words = 2
status_of (Input name) = 66
status_of (TooLong name) = 66
status_of (Program found) = 67
status_of (Tree byte) = 68
status_of (LaunchText fault) = 65
status_of Memory = 70

-- a line in four parts: the text before the name, the name, the number, and the text after it
abbrev pub front_of : LaunchRefusal → List ℕ
front_of Words = codes "words: refused"
front_of (Input name) = codes "input: "
front_of (TooLong name) = codes "input: "
front_of (Program found) = codes "program: "
front_of (Tree byte) = codes "tree: byte "
front_of (LaunchText fault) = launch_front fault
front_of Memory = codes "memory"

abbrev pub name_of : LaunchRefusal → List ℕ
name_of (Input name) = name.now
name_of (TooLong name) = name.now
name_of (Program found) = fault_name found
name_of _ = []

abbrev pub number_of : LaunchRefusal → List ℕ
number_of (Program found) = fault_number found
number_of (Tree byte) = decimal byte
number_of (LaunchText fault) = line_number (line_of_fault fault)
number_of _ = []

abbrev pub back_of : LaunchRefusal → List ℕ
back_of (TooLong name) = ended (codes " too long")
back_of (LaunchText fault) = launch_ending fault
back_of _ = ended []
