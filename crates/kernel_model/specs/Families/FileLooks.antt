-- Calls that look at files, directories and symlinks, and change none.
use Rattle.std.specs.Prelude.{ℕ, ◌+◌, min, true, List, [], ◌∷◌, ◌++◌, length, take, drop, replicate, Option, None, Some}
use Rattle.std.specs.FinMap.{get, entries}
use Rattle.abi_base.specs.declared.errno.Errno.TheVariants.{Badf, Inval}
use Rattle.abi_base.specs.declared.rights.TheConstants.Rights.{FILE_ADVISE, FILE_READDIR, FILE_READLINK, FILE_STAT_FGET, FILE_STAT_GET}
use Rattle.abi_base.specs.declared.flags.TheConstants.{FILETYPE_DIRECTORY, FILETYPE_REGULAR_FILE, FILETYPE_SYMBOLIC_LINK}
use Rattle.abi_layout.specs.Layout.{written}
use Rattle.abi_layout.specs.Structures.{dirent_layout, dirent_values}
use Rattle.abi_structures.specs.declared.structures.Dirent.{Dirent}
use Rattle.abi_structures.specs.declared.structures.FileStat.{FileStat}
use Rattle.abi_types.specs.declared.call.Lookup.{Lookup}
use Rattle.abi_types.specs.declared.node.Node.{Node}
use Rattle.abi_types.specs.declared.node.NodeKind.{NodeKind}
use Rattle.abi_types.specs.declared.node.NodeKind.TheVariants as kind
use Rattle.abi_types.specs.declared.open_kind.OpenKind.{OpenKind}
use Rattle.abi_types.specs.declared.open_kind.OpenKind.TheVariants.{File, Directory, End, Terminal, Process}
use Rattle.abi_types.specs.declared.reply.Payload.TheVariants as payload
use Rattle.path_lookup.specs.declared.ends.WalkMode.TheVariants.{NoFollow}
use Rattle.kernel_model.specs.Families.DescriptorCalls.{needing, type_number}
use Rattle.kernel_model.specs.Families.FileMeaning.{FileMeaning, on_open}
use Rattle.kernel_model.specs.Families.FilePaths.{by_path, lookup_mode}
use Rattle.kernel_model.specs.Meaning.{Meaning}
use Rattle.kernel_model.specs.Outcome.{Outcome, replies}
use Rattle.kernel_model.specs.Reply.{content, refused, success}
use Rattle.kernel_model.specs.Rows.{base_row}
use Rattle.kernel_model.specs.Start.{launch_object}
use Rattle.kernel_model.specs.State.{Names, Tree}

-- ---- file_advise: how a file will be used changes nothing

abbrev pub file_advise : ℕ → Meaning
file_advise fd = needing fd FILE_ADVISE

-- ---- what a file is

-- the number of a node's type
abbrev pub node_type : NodeKind → ℕ
node_type (kind.File bytes) = FILETYPE_REGULAR_FILE
node_type kind.Directory = FILETYPE_DIRECTORY
node_type (kind.Link text) = FILETYPE_SYMBOLIC_LINK

-- how many bytes a file has, or the text of a symlink; a directory has none
abbrev pub node_size : NodeKind → ℕ
node_size (kind.File bytes) = length bytes
node_size kind.Directory = 0
node_size (kind.Link text) = length text

-- what the node of this number is
abbrev pub node_stat : ℕ → Node → FileStat
node_stat n node = record {
  dev = 0;
  ino = n;
  kind = node_type node.kind;
  nlink = node.links;
  size = node_size node.kind;
  atim = node.times.atim;
  mtim = node.times.mtim;
  ctim = node.times.ctim;
}

-- what an object of this number and type is that is no node
abbrev pub object_stat : ℕ → ℕ → FileStat
object_stat number type = record { dev = 0; ino = number; kind = type; nlink = 1; size = 0; atim = 0; mtim = 0; ctim = 0 }

-- the call reports what a file is
abbrev pub reported : FileStat → Outcome
reported stat = replies (record (success 0 0) { payload = payload.FileStat stat })

abbrev pub report_node : ℕ → Option Node → Outcome
report_node n None = replies (refused Badf)
report_node n (Some node) = reported (node_stat n node)

abbrev pub report_in : Tree → ℕ → Outcome
report_in t n = report_node n (get t.nodes n)

-- ---- file_stat_fget

-- The stream that is number k of the standard ones is object k + 1 of the launch. An end has the number of the channel that it
-- reads, or else of that which it writes. One of a process has the number of the process's object.
abbrev pub report_open : Tree → Option OpenKind → Outcome
report_open t None = replies (refused Badf)
report_open t (Some (File node offset flags)) = report_in t node
report_open t (Some (Directory node flags)) = report_in t node
report_open t (Some (End (Some reads) writes flags form)) = reported (object_stat reads (type_number (End (Some reads) writes flags form)))
report_open t (Some (End None (Some writes) flags form)) = reported (object_stat writes (type_number (End None (Some writes) flags form)))
report_open t (Some (End None None flags form)) = replies (refused Badf)
report_open t (Some (Terminal which flags)) = reported (object_stat (launch_object (which + 1)) (type_number (Terminal which flags)))
report_open t (Some (Process p object)) = reported (object_stat object (type_number (Process p object)))

-- the meaning of a call that looks at an open so
abbrev pub looking : (Tree → Option OpenKind → Outcome) → FileMeaning
looking looks = record {
  effect = λ now t kind. looks t kind;
  outside = λ t kind. None;
  touched = λ t kind. [];
  errors = Badf ∷ [];
  takes_memory = true;
}

abbrev pub file_stat_fget : ℕ → Meaning
file_stat_fget fd = on_open (base_row fd FILE_STAT_FGET) (looking report_open)

-- ---- file_stat_get

abbrev pub file_stat_get : Lookup → List ℕ → Meaning
file_stat_get lookup path = on_open (base_row lookup.fd FILE_STAT_GET) (by_path (lookup_mode lookup.flags) path (λ now. report_in))

-- ---- file_readlink

-- the most bytes of a transfer, and how many of these a call has room for
abbrev pub most_transferred : ℕ
most_transferred = 65536

abbrev pub room_of : ℕ → ℕ
room_of n = min n most_transferred

-- the text of a symlink, as much as there is room for
abbrev pub read_link : ℕ → NodeKind → Outcome
read_link n (kind.Link text) = replies (content (take (room_of n) text))
read_link n (kind.File bytes) = replies (refused Inval)
read_link n kind.Directory = replies (refused Inval)

abbrev pub read_node : ℕ → Option Node → Outcome
read_node n None = replies (refused Badf)
read_node n (Some node) = read_link n node.kind

abbrev pub read_link_in : ℕ → Tree → ℕ → Outcome
read_link_in n t node = read_node n (get t.nodes node)

abbrev pub file_readlink : ℕ → List ℕ → ℕ → Meaning
file_readlink fd path n = on_open (base_row fd FILE_READLINK) (by_path NoFollow path (λ now. read_link_in n))

-- ---- file_readdir

-- the type of a node, 0 where there is none
abbrev pub type_of : Option Node → ℕ
type_of None = 0
type_of (Some node) = node_type node.kind

-- the head of the entry at a position: a name and the number of its node, which is this one
abbrev pub dirent : Option Node → ℕ → List ℕ × ℕ → Dirent
dirent node position entry = record { next = position + 1; ino = entry.1; namlen = length entry.0; kind = type_of node }

-- its bytes, and then those of the name
abbrev pub dirent_bytes : Dirent → List ℕ
dirent_bytes head = written dirent_layout.fields (dirent_values head) (replicate dirent_layout.size 0)

abbrev pub entry_bytes : Option Node → ℕ → List ℕ × ℕ → List ℕ
entry_bytes node position entry = dirent_bytes (dirent node position entry) ++ entry.0

-- these entries, of which the first has this position
abbrev pub entries_bytes : Tree → ℕ → List (List ℕ × ℕ) → List ℕ
entries_bytes t position [] = []
entries_bytes t position (entry ∷ rest) = entry_bytes (get t.nodes entry.1) position entry ++ entries_bytes t (position + 1) rest

-- the entries of the names in a directory from a position on, in the order of their bytes, as much as there is room for
abbrev pub list_names : Tree → ℕ → ℕ → Option Names → Outcome
list_names t n position None = replies (refused Badf)
list_names t n position (Some names) = replies (content (take (room_of n) (entries_bytes t position (drop position (entries names)))))

abbrev pub list_open : ℕ → ℕ → Tree → Option OpenKind → Outcome
list_open n position t (Some (Directory node flags)) = list_names t n position (get t.names node)
list_open n position t _ = replies (refused Badf)

abbrev pub file_readdir : ℕ → ℕ → ℕ → Meaning
file_readdir fd n cookie = on_open (base_row fd FILE_READDIR) (looking (list_open n cookie))
