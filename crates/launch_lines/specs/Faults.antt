-- Faults with their places in a text, and which of them comes first.
use Rattle.std.specs.Prelude.{ℕ, ◌==◌, ◌&&◌, ◌||◌, if◌then◌else◌, nat_lt, Bool, Option, Some, None, Result, Ok, Err}
use Rattle.launch_scalars.specs.declared.kind.YamlKind.{YamlKind}
use Rattle.launch_scalars.specs.declared.kind.YamlKind.TheVariants as kinds
use Rattle.launch_lines.specs.declared.fault.Fault.{Fault}

-- a value, unless there is a fault
abbrev pub unless : {A : Type 0} → Option Fault → Result A Fault → Result A Fault
unless None further = further
unless (Some e) further = Err e

abbrev pub number_of_kind : YamlKind → ℕ
number_of_kind kinds.Indent = 1
number_of_kind kinds.Tab = 2
number_of_kind kinds.Quote = 3
number_of_kind kinds.Escape = 4
number_of_kind kinds.Flow = 5
number_of_kind kinds.Tag = 6
number_of_kind kinds.DuplicateKey = 7
number_of_kind kinds.Anchor = 8
number_of_kind kinds.BlockScalar = 9
number_of_kind kinds.Float = 10
number_of_kind kinds.IntegerRange = 11
number_of_kind kinds.End = 12
number_of_kind kinds.Depth = 13
number_of_kind kinds.Character = 14
number_of_kind kinds.Base64 = 15

-- a fault comes before another: its place does, or at one place its kind has the lower number
abbrev pub comes_before : Fault → Fault → Bool
comes_before a b =
    nat_lt a.line b.line
    || ((a.line == b.line)
    && (nat_lt a.column b.column || ((a.column == b.column) && nat_lt (number_of_kind a.kind) (number_of_kind b.kind))))

abbrev pub first_of : Fault → Fault → Fault
first_of a b = if comes_before b a then b else a

abbrev pub first_fault : Option Fault → Option Fault → Option Fault
first_fault None fault = fault
first_fault (Some a) None = Some a
first_fault (Some a) (Some b) = Some (first_of a b)

abbrev pub fault_of : {A : Type 0} → Result A Fault → Option Fault
fault_of (Ok x) = None
fault_of (Err e) = Some e

-- what was read, unless there is a fault beside it: then the first one
abbrev pub beside : {A : Type 0} → Option Fault → Result A Fault → Result A Fault
beside None read = read
beside (Some a) (Ok x) = Err a
beside (Some a) (Err b) = Err (first_of a b)
