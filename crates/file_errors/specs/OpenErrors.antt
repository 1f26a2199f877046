-- The errors of file_open: the statement that is the contract of a function of src/laws.rt.
use Rattle.std.specs.Prelude.{◌≡◌, ◌⊎◌, ℕ, true, false, List, take, drop, None}
use Rattle.std.specs.FinMap.{get}
use Rattle.abi_base.specs.Rights.{Has}
use Rattle.abi_base.specs.declared.errno.Errno.TheVariants.{Badf, Exist, Isdir, Loop, Mfile, Noent, Notdir}
use Rattle.abi_structures.specs.declared.structures.FdStat.{FdStat}
use Rattle.abi_types.specs.declared.call.Call.TheVariants.{FileOpen}
use Rattle.abi_types.specs.declared.call.Lookup.{Lookup}
use Rattle.path_lookup.specs.declared.ends.End.{End}
use Rattle.path_lookup.specs.declared.ends.End.TheVariants as end
use Rattle.path_lookup.specs.declared.ends.WalkMode.{WalkMode}
use Rattle.path_lookup.specs.declared.ends.WalkMode.TheVariants.{Follow, NoFollow, Parent}
use Rattle.tree_model.specs.Tree.{is_directory}
use Rattle.kernel_model.specs.OpenConditions.{AsksNew, HasCreat, HasDirectory, HasTrunc}
use Rattle.kernel_model.specs.State.{State, tree_of}
use Rattle.file_errors.specs.DescriptorErrors.{IsFull}
use Rattle.file_errors.specs.NameErrors.{make_rows, number_rows}
use Rattle.file_errors.specs.PathErrors.{IsLink, path_rows}
use Rattle.file_errors.specs.Tables.{IsListedBy, Rows, refuses, row}

-- a symlink at the end isn't followed where a new file is asked for
abbrev pub IsOpenMode : ℕ → ℕ → WalkMode → Type 0
IsOpenMode oflags flags Follow = (¬ AsksNew oflags) × Has flags 0
IsOpenMode oflags flags NoFollow = AsksNew oflags ⊎ (¬ Has flags 0)
IsOpenMode oflags flags Parent = ⊥

-- The errors of opening what stands at the end, and where nothing stands there; an open has a number, and so has a file that is made.
abbrev pub open_rows : ℕ → List ℕ → ℕ → State → End → Rows
open_rows oflags path p S (end.Found n) =
    row (get S.nodes n ≡ None) Badf
    (row (AsksNew oflags) Exist
    (row (IsLink S n) Loop
    (row ((is_directory (tree_of S) n ≡ true) × (HasCreat oflags ⊎ HasTrunc oflags)) Isdir
    (row ((is_directory (tree_of S) n ≡ false) × HasDirectory oflags) Notdir
    (number_rows p 1 (get S.processes p))))))
open_rows oflags path p S (end.Absent d from len) =
    row (¬ HasCreat oflags) Noent (make_rows (tree_of S) d (take len (drop from path)) (number_rows p 2 (get S.processes p)))
open_rows oflags path p S (end.Last d from len) = refuses Noent

-- a free number is looked for before the path is
abbrev pub OpenErrorsAreListed : Type 0
OpenErrorsAreListed =
    (lookup : Lookup) (path : List ℕ) (oflags : ℕ) (stat : FdStat) (mode : WalkMode) → IsOpenMode oflags lookup.flags mode
    → IsListedBy (FileOpen lookup path oflags stat) lookup.fd
    (λ S who table kind. row (IsFull table) Mfile (path_rows (tree_of S) mode path (open_rows oflags path who.pid S) kind))
