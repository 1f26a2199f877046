-- How a call treats a path: its bytes are looked at, and then it is walked from the directory of a descriptor.
use Rattle.std.specs.Prelude.{ℕ, ◌==◌, bit_and, nat_lt, not, true, List, [], ◌∷◌, length, Option, None, Some, Ok, Err, if◌then◌else◌}
use Rattle.std.specs.Str.{is_utf8}
use Rattle.abi_base.specs.declared.errno.Errno.{Errno}
use Rattle.abi_base.specs.declared.errno.Errno.TheVariants.{Badf, Ilseq, Inval, Loop, NameTooLong, Noent, Notdir}
use Rattle.abi_base.specs.declared.flags.TheConstants.{LOOKUP_SYMLINK_FOLLOW}
use Rattle.abi_types.specs.declared.descriptor.Denial.TheVariants.{Outside}
use Rattle.abi_types.specs.declared.open_kind.OpenKind.{OpenKind}
use Rattle.abi_types.specs.declared.open_kind.OpenKind.TheVariants.{Directory}
use Rattle.maps.specs.Closure.{member}
use Rattle.path_lookup.specs.Walk.{WalkEnd, walk_of}
use Rattle.path_lookup.specs.declared.ends.End.{End}
use Rattle.path_lookup.specs.declared.ends.End.TheVariants as end
use Rattle.path_lookup.specs.declared.ends.WalkFault.{WalkFault}
use Rattle.path_lookup.specs.declared.ends.WalkFault.TheVariants as fault
use Rattle.path_lookup.specs.declared.ends.WalkMode.{WalkMode}
use Rattle.path_lookup.specs.declared.ends.WalkMode.TheVariants.{Follow, NoFollow}
use Rattle.tree_model.specs.Finds.{finds}
use Rattle.kernel_model.specs.Families.FileMeaning.{FileMeaning}
use Rattle.kernel_model.specs.Outcome.{Outcome, replies}
use Rattle.kernel_model.specs.Reply.{refused, denied}
use Rattle.kernel_model.specs.State.{Part, Tree, at_node}

-- ---- where a path leads

-- what a path comes to: the walk has an end, there is an error, or a component leads outside the directory where it begins
pub data Walked : Type 0 where
  Ends : End → Walked
  Fails : Errno → Walked
  LeadsOutside : ℕ → Walked

-- the most bytes of a path
abbrev pub longest_path : ℕ
longest_path = 1024

-- the error of a path's bytes: there are too many, they are no UTF-8, or one is zero
abbrev pub path_error : List ℕ → Option Errno
path_error path =
    if nat_lt longest_path (length path) then Some NameTooLong
    else (if not (is_utf8 path) then Some Ilseq else (if member 0 path then Some Inval else None))

-- a walk that has no end
abbrev pub walk_failed : WalkFault → Walked
walk_failed fault.NotDir = Fails Notdir
walk_failed fault.NoEntry = Fails Noent
walk_failed fault.Loop = Fails Loop
walk_failed fault.TooLong = Fails NameTooLong
walk_failed (fault.Outside component) = LeadsOutside component

-- a path is walked where its bytes have no error
abbrev pub walked_unless : Option Errno → WalkEnd → Walked
walked_unless (Some errno) walk = Fails errno
walked_unless None (Ok end) = Ends end
walked_unless None (Err fault) = walk_failed fault

-- a path from the directory of this number
abbrev pub walked_in : Tree → WalkMode → List ℕ → ℕ → Walked
walked_in t mode path start = walked_unless (path_error path) (walk_of (finds t) mode start path)

-- a path from an open; what isn't a directory has no right that a path needs
abbrev pub walked : Tree → WalkMode → List ℕ → Option OpenKind → Walked
walked t mode path (Some (Directory node flags)) = walked_in t mode path node
walked t mode path _ = Fails Badf

-- the errors that a path may come to
abbrev pub path_errors : List Errno
path_errors = Badf ∷ NameTooLong ∷ Ilseq ∷ Inval ∷ Notdir ∷ Noent ∷ Loop ∷ []

-- the component at which it leads outside
abbrev pub outside_of : Walked → Option ℕ
outside_of (Ends end) = None
outside_of (Fails errno) = None
outside_of (LeadsOutside component) = Some component

-- lookup flags: with SYMLINK_FOLLOW a symlink that is last is followed
abbrev pub lookup_mode : ℕ → WalkMode
lookup_mode flags = if bit_and flags LOOKUP_SYMLINK_FOLLOW == 0 then NoFollow else Follow

-- ---- what a call does where a path leads

-- It goes on at the node that is found. A name that isn't there is no entry. The mode Parent alone leaves the last component.
abbrev pub at_end : (ℕ → Outcome) → End → Outcome
at_end goes (end.Found n) = goes n
at_end goes (end.Absent dir from len) = replies (refused Noent)
at_end goes (end.Last dir from len) = replies (refused Noent)

abbrev pub at_walked : (ℕ → Outcome) → Walked → Outcome
at_walked goes (Ends end) = at_end goes end
at_walked goes (Fails errno) = replies (refused errno)
at_walked goes (LeadsOutside component) = replies (denied (Outside component))

-- the node that is found
abbrev pub end_part : End → List Part
end_part (end.Found n) = at_node n ∷ []
end_part (end.Absent dir from len) = []
end_part (end.Last dir from len) = []

abbrev pub found_part : Walked → List Part
found_part (Ends end) = end_part end
found_part (Fails errno) = []
found_part (LeadsOutside component) = []

-- the meaning of a call that walks a path so, and goes on at the node that is found
abbrev pub by_path : WalkMode → List ℕ → (ℕ → Tree → ℕ → Outcome) → FileMeaning
by_path mode path goes = record {
  effect = λ now t kind. at_walked (goes now t) (walked t mode path kind);
  outside = λ t kind. outside_of (walked t mode path kind);
  touched = λ t kind. [];
  errors = path_errors;
  takes_memory = true;
}
