-- What programs are told of the opens of their descriptors: the statements that are the contracts of `descriptors_are_told` in
-- src/laws.rt. The numbers of types are those of docs/ABI.md.
use Rattle.std.specs.Prelude.{◌≡◌, ℕ, ◌+◌, ◌*◌, ◌^◌, length, None, Some}
use Rattle.std.specs.FinMap.{get}
use Rattle.abi_structures.specs.declared.structures.FileStat.{FileStat}
use Rattle.abi_types.specs.declared.call.Call.TheVariants.{FdStatGet, FileStatFget}
use Rattle.abi_types.specs.declared.chan_kind.ChanKind.TheVariants.{Stream}
use Rattle.abi_types.specs.declared.constants.Constants.{Constants}
use Rattle.abi_types.specs.declared.descriptor.Descriptor.{Descriptor}
use Rattle.abi_types.specs.declared.node.Node.{Node}
use Rattle.abi_types.specs.declared.node.NodeKind.{NodeKind}
use Rattle.abi_types.specs.declared.node.NodeKind.TheVariants as node_kind
use Rattle.abi_types.specs.declared.open_kind.OpenKind.{OpenKind}
use Rattle.abi_types.specs.declared.open_kind.OpenKind.TheVariants.{File, Directory, End, Terminal, Process}
use Rattle.abi_types.specs.declared.reply.Answer.TheVariants as answer
use Rattle.abi_types.specs.declared.reply.Payload.TheVariants as payload
use Rattle.abi_types.specs.declared.who.Who.{Who}
use Rattle.kernel_model.specs.Calls.{refusal}
use Rattle.kernel_model.specs.Reply.{success}
use Rattle.kernel_model.specs.State.{State, Table}
use Rattle.kernel_model.specs.Step.{step_answer}

-- ---- fd_stat_get

-- the number of an open's type: of an end of a pair of streams another one than of an end of a pipe
abbrev pub told_type : OpenKind → ℕ
told_type (File node offset flags) = 96
told_type (Directory node flags) = 32
told_type (End (Some reads) (Some writes) flags Stream) = 130
told_type (End (Some reads) None flags Stream) = 48
told_type (End None writes flags Stream) = 48
told_type (Terminal which flags) = 17
told_type (Process p object) = 80

-- its flags; a process has none
abbrev pub told_flags : OpenKind → ℕ
told_flags (File node offset flags) = flags
told_flags (Directory node flags) = flags
told_flags (End reads writes flags form) = flags
told_flags (Terminal which flags) = flags
told_flags (Process p object) = 0

-- An fd_stat_get tells these of the open, and the descriptor's own rights.
abbrev pub StatTells : Type 0
StatTells =
    (constants : Constants) (S : State) (who : Who) (fd : ℕ) (table : Table) (d : Descriptor) (kind : OpenKind) → get S.tables who.pid ≡ Some table
    → get table fd ≡ Some d → get S.opens d.id ≡ Some kind
    → step_answer constants S who (FdStatGet fd)
    ≡ answer.Reply (record (success 0 0) {
      payload = payload.FdStat (record { kind = told_type kind; flags = told_flags kind; base = d.base; inheriting = d.inheriting });
    })

-- ---- file_stat_fget

-- what is no node has one name, the size 0 and the times 0
abbrev pub told_object : ℕ → ℕ → FileStat
told_object number kind = record { dev = 0; ino = number; kind = kind; nlink = 1; size = 0; atim = 0; mtim = 0; ctim = 0 }

-- the type of a node, and its size: how many bytes a file has, or the text of a symbolic link
abbrev pub told_node_type : NodeKind → ℕ
told_node_type (node_kind.File bytes) = 96
told_node_type node_kind.Directory = 32
told_node_type (node_kind.Link text) = 144

abbrev pub told_size : NodeKind → ℕ
told_size (node_kind.File bytes) = length bytes
told_size node_kind.Directory = 0
told_size (node_kind.Link text) = length text

-- what the node of this number is, with as many names and with the times as it has
abbrev pub told_node : ℕ → Node → FileStat
told_node number node = record {
  dev = 0;
  ino = number;
  kind = told_node_type node.kind;
  nlink = node.links;
  size = told_size node.kind;
  atim = node.times.atim;
  mtim = node.times.mtim;
  ctim = node.times.ctim;
}

-- In this state this is told of an open: of a file or a directory what its node is, and else the number and the type of an object. An end
-- has the number of the channel that it reads, or of that which it writes where it reads none. Standard stream k is object k + 1 of the
-- launch, whose objects are numbered like those of a process 0xffffffff.
abbrev pub IsTold : State → OpenKind → FileStat → Type 0
IsTold S (File n offset flags) stat = (node : Node) × (get S.nodes n ≡ Some node) × (stat ≡ told_node n node)
IsTold S (Directory n flags) stat = (node : Node) × (get S.nodes n ≡ Some node) × (stat ≡ told_node n node)
IsTold S (End (Some reads) (Some writes) flags Stream) stat = stat ≡ told_object reads 130
IsTold S (End (Some reads) None flags Stream) stat = stat ≡ told_object reads 48
IsTold S (End None (Some writes) flags Stream) stat = stat ≡ told_object writes 48
IsTold S (End None None flags form) stat = ⊥
IsTold S (Terminal which flags) stat = stat ≡ told_object (0xffffffff * 2 ^ 32 + (which + 1)) 17
IsTold S (Process p object) stat = stat ≡ told_object object 80

-- A file_stat_fget that isn't refused for lack of a right tells this.
abbrev pub ObjectsAreTold : Type 0
ObjectsAreTold =
    (constants : Constants) (S : State) (who : Who) (fd : ℕ) (table : Table) (d : Descriptor) (kind : OpenKind) (stat : FileStat)
    → get S.tables who.pid ≡ Some table → refusal table (FileStatFget fd) ≡ None → get table fd ≡ Some d → get S.opens d.id ≡ Some kind
    → IsTold S kind stat
    → step_answer constants S who (FileStatFget fd) ≡ answer.Reply (record (success 0 0) { payload = payload.FileStat stat })
