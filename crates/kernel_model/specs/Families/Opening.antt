-- The call that opens what a path leads to, and may make a file there.
use Rattle.std.specs.Prelude.{ℕ, ◌+◌, ◌==◌, ◌&&◌, ◌||◌, bit_and, not, Bool, true, false, List, [], ◌∷◌, ◌++◌, Option, None, Some, if◌then◌else◌}
use Rattle.std.specs.FinMap.{get, insert}
use Rattle.abi_base.specs.declared.errno.Errno.{Errno}
use Rattle.abi_base.specs.declared.errno.Errno.TheVariants.{Again, Badf, Exist, Isdir, Loop, Mfile, Noent, Notdir}
use Rattle.abi_base.specs.declared.rights.TheConstants.Rights.{FILE_CREATE_FILE, FILE_OPEN, FILE_STAT_FPUT_SIZE}
use Rattle.abi_base.specs.Rights.{meet_of}
use Rattle.abi_base.specs.declared.flags.TheConstants.{O_CREAT, O_DIRECTORY, O_EXCL, O_TRUNC}
use Rattle.abi_structures.specs.declared.structures.FdStat.{FdStat}
use Rattle.abi_types.specs.declared.call.Lookup.{Lookup}
use Rattle.abi_types.specs.declared.descriptor.Denial.TheVariants.{Outside}
use Rattle.abi_types.specs.declared.descriptor.Descriptor.{Descriptor}
use Rattle.abi_types.specs.declared.needed.Needed.{Needed}
use Rattle.abi_types.specs.declared.node.Node.{Node}
use Rattle.abi_types.specs.declared.node.NodeKind.{NodeKind}
use Rattle.abi_types.specs.declared.node.NodeKind.TheVariants as kind
use Rattle.abi_types.specs.declared.open_kind.OpenKind.{OpenKind}
use Rattle.abi_types.specs.declared.open_kind.OpenKind.TheVariants.{File, Directory}
use Rattle.abi_types.specs.declared.reply.Answer.TheVariants as answer
use Rattle.path_lookup.specs.declared.ends.End.{End}
use Rattle.path_lookup.specs.declared.ends.End.TheVariants as end
use Rattle.path_lookup.specs.declared.ends.WalkMode.{WalkMode}
use Rattle.path_lookup.specs.declared.ends.WalkMode.TheVariants.{NoFollow}
use Rattle.tree_model.specs.Changes.{first_fault, make_faults}
use Rattle.tree_model.specs.declared.fault.TreeFault.{TreeFault}
use Rattle.kernel_model.specs.Families.ClockCalls.{real_time}
use Rattle.kernel_model.specs.Families.DescriptorCalls.{lowest_free}
use Rattle.kernel_model.specs.Families.FileChanges.{sized}
use Rattle.kernel_model.specs.Families.FileMeaning.{open_of}
use Rattle.kernel_model.specs.Families.FilePaths.{Walked, Ends, Fails, LeadsOutside, found_part, lookup_mode, outside_of, path_errors, walked}
use Rattle.kernel_model.specs.Families.LastNames.{name_at}
use Rattle.kernel_model.specs.Meaning.{Meaning}
use Rattle.kernel_model.specs.Families.NameMaking.{errno_of, with_node}
use Rattle.kernel_model.specs.Families.Numbers.{can_number, next_object, process_updates}
use Rattle.kernel_model.specs.Outcome.{Outcome, replies}
use Rattle.kernel_model.specs.OwnChanges.{keeps_own}
use Rattle.kernel_model.specs.Reply.{denied, refused, success}
use Rattle.kernel_model.specs.Rows.{asking_row, both, where_set}
use Rattle.kernel_model.specs.State.{ProcessState, Part, Table, Tree, tree_of, at_node, at_names, set_open, set_table}
use Rattle.kernel_model.specs.Families.TreeUpdates.{Change, change_updates, no_change}
use Rattle.kernel_model.specs.Fits.{fits, fits_inheriting}
use Rattle.kernel_model.specs.View.{whole}

-- ---- flags of opening

abbrev pub creates : ℕ → Bool
creates oflags = not (bit_and oflags O_CREAT == 0)

abbrev pub wants_directory : ℕ → Bool
wants_directory oflags = not (bit_and oflags O_DIRECTORY == 0)

abbrev pub truncates : ℕ → Bool
truncates oflags = not (bit_and oflags O_TRUNC == 0)

-- CREAT with EXCL: what is opened is new
abbrev pub makes_new : ℕ → Bool
makes_new oflags = creates oflags && not (bit_and oflags O_EXCL == 0)

-- a symlink that is last isn't followed where the file must be new
abbrev pub open_mode : ℕ → ℕ → WalkMode
open_mode oflags flags = if makes_new oflags then NoFollow else lookup_mode flags

-- ---- what is opened

-- What a call comes to that opens: nothing, for an error or because its path leads outside; or an open, with a change of the
-- tree, and how many nodes that makes.
pub data Opened : Type 0 where
  NotOpened : Errno → Opened
  OpenedOutside : ℕ → Opened
  Opens : OpenKind → Change → ℕ → Opened

-- a file that is there: with TRUNC its size becomes 0
abbrev pub truncated : ℕ → ℕ → Tree → ℕ → Change
truncated oflags now t n = if truncates oflags then record { tree = sized t n now 0; nodes = n ∷ []; directories = [] } else no_change t

abbrev pub open_file : ℕ → ℕ → ℕ → Tree → ℕ → Opened
open_file oflags flags now t n = if wants_directory oflags then NotOpened Notdir else Opens (File n 0 flags) (truncated oflags now t n) 0

-- a directory that is there isn't made, and has no size
abbrev pub open_directory : ℕ → ℕ → Tree → ℕ → Opened
open_directory oflags flags t n =
    if creates oflags || truncates oflags then NotOpened Isdir else Opens (Directory n flags) (no_change t) 0

abbrev pub open_kind : ℕ → ℕ → ℕ → Tree → ℕ → NodeKind → Opened
open_kind oflags flags now t n (kind.File bytes) = open_file oflags flags now t n
open_kind oflags flags now t n kind.Directory = open_directory oflags flags t n
open_kind oflags flags now t n (kind.Link text) = NotOpened Loop

abbrev pub open_node : ℕ → ℕ → ℕ → Tree → ℕ → Option Node → Opened
open_node oflags flags now t n None = NotOpened Badf
open_node oflags flags now t n (Some node) = if makes_new oflags then NotOpened Exist else open_kind oflags flags now t n node.kind

-- an empty file is made, unless the tree has a fault for that
abbrev pub make_file : ℕ → ℕ → ℕ → Tree → ℕ → List ℕ → Option TreeFault → Opened
make_file flags now new t d name None = Opens (File new 0 flags) (with_node (kind.File []) now new t d name) 1
make_file flags now new t d name (Some fault) = NotOpened (errno_of fault)

abbrev pub open_absent : ℕ → ℕ → ℕ → ℕ → Tree → ℕ → List ℕ → Opened
open_absent oflags flags now new t d name =
    if creates oflags then make_file flags now new t d name (first_fault (make_faults t d name)) else NotOpened Noent

abbrev pub open_end : ℕ → ℕ → List ℕ → ℕ → ℕ → Tree → End → Opened
open_end oflags flags path now new t (end.Found n) = open_node oflags flags now t n (get t.nodes n)
open_end oflags flags path now new t (end.Absent dir from len) = open_absent oflags flags now new t dir (name_at path from len)
open_end oflags flags path now new t (end.Last dir from len) = NotOpened Noent

-- by the flags of opening, the open's flags, the path, the time in nanoseconds since 1970 and the number of a node that is made
abbrev pub open_walked : ℕ → ℕ → List ℕ → ℕ → ℕ → Tree → Walked → Opened
open_walked oflags flags path now new t (Ends end) = open_end oflags flags path now new t end
open_walked oflags flags path now new t (Fails errno) = NotOpened errno
open_walked oflags flags path now new t (LeadsOutside component) = OpenedOutside component

-- ---- the descriptor

-- The open's descriptor has the rights that are asked, without those that its type doesn't have.
abbrev pub opened_descriptor : ℕ → OpenKind → FdStat → Descriptor
opened_descriptor o kind stat = record {
  id = o;
  base = record { 0 = meet_of (fits kind) stat.base.0 };
  inheriting = record { 0 = meet_of (fits_inheriting kind) stat.inheriting.0 };
}

-- the open comes behind the nodes that are made with it
abbrev pub opened_outcome : ℕ → Option ProcessState → Table → FdStat → ℕ → Opened → Outcome
opened_outcome p own table stat fd (NotOpened errno) = replies (refused errno)
opened_outcome p own table stat fd (OpenedOutside component) = replies (denied (Outside component))
opened_outcome p own table stat fd (Opens kind change new_nodes) =
    if can_number p (new_nodes + 1) own then record {
      answer = answer.Reply (success fd 0);
      updates =
          set_open (next_object p own (new_nodes + 1)) kind
          ∷ set_table p (insert table fd (opened_descriptor (next_object p own (new_nodes + 1)) kind stat))
          ∷ (process_updates p (new_nodes + 1) own ++ change_updates change);
    } else replies (refused Again)

-- a free number is looked for before the path is
abbrev pub open_at : ℕ → Option ProcessState → Table → FdStat → Opened → Option ℕ → Outcome
open_at p own table stat opened None = replies (refused Mfile)
open_at p own table stat opened (Some fd) = opened_outcome p own table stat fd opened

abbrev pub where_free : Option ℕ → Option ℕ → Option ℕ
where_free None component = None
where_free (Some fd) component = component

-- ---- what it changes

-- with CREAT the directory of a name that isn't there, and the names in it; with TRUNC the node that is found
abbrev pub absent_end_parts : End → List Part
absent_end_parts (end.Absent dir from len) = at_node dir ∷ at_names dir ∷ []
absent_end_parts (end.Found n) = []
absent_end_parts (end.Last dir from len) = []

abbrev pub absent_parts : Walked → List Part
absent_parts (Ends end) = absent_end_parts end
absent_parts (Fails errno) = []
absent_parts (LeadsOutside component) = []

abbrev pub parts_where : Bool → List Part → List Part
parts_where b parts = if b then parts else []

-- ---- file_open

-- FILE_OPEN, and with CREAT FILE_CREATE_FILE; of the inheriting rights those asked, and with TRUNC FILE_STAT_FPUT_SIZE
abbrev pub open_row : ℕ → ℕ → FdStat → Needed
open_row fd oflags stat =
    asking_row fd (both FILE_OPEN (where_set oflags O_CREAT FILE_CREATE_FILE))
    (both (both stat.base stat.inheriting) (where_set oflags O_TRUNC FILE_STAT_FPUT_SIZE))

abbrev pub file_open : Lookup → List ℕ → ℕ → FdStat → Meaning
file_open lookup path oflags stat = record {
  named = lookup.fd ∷ [];
  need = open_row lookup.fd oflags stat ∷ [];
  seen = lookup.fd ∷ [];
  effect = λ constants v who table.
      open_at who.pid (v.process who.pid) table stat
      (open_walked oflags stat.flags path (real_time constants v.clock) (next_object who.pid (v.process who.pid) 1) v.branch
      (walked v.branch (open_mode oflags lookup.flags) path (open_of v (get table lookup.fd))))
      (lowest_free table);
  outside = λ v table.
      where_free (lowest_free table) (outside_of (walked v.branch (open_mode oflags lookup.flags) path (open_of v (get table lookup.fd))));
  touched = λ S table.
      parts_where (creates oflags) (absent_parts (walked (tree_of S) (open_mode oflags lookup.flags) path (open_of (whole S) (get table lookup.fd))))
      ++ parts_where (truncates oflags) (found_part (walked (tree_of S) (open_mode oflags lookup.flags) path (open_of (whole S) (get table lookup.fd))));
  numbers = 2;
  own = keeps_own;
  errors = path_errors ++ Mfile ∷ Exist ∷ Isdir ∷ Again ∷ [];
  takes_memory = true;
  may_wait = false;
  by_stage = false;
  deadline = λ constants since. None;
  sends = [];
}
