-- What is told of opens.
use Rattle.std.proofs.Common.{◌≡◌, ℕ, ◌||◌, not, false, cond, Some, None, is_some, refl, sym, ap, ◌∙◌}
use Rattle.std.specs.FinMap.{get}
use Rattle.abi_structures.specs.declared.structures.FileStat.{FileStat}
use Rattle.abi_types.specs.declared.call.Call.TheVariants.{FdStatGet, FileStatFget}
use Rattle.abi_types.specs.declared.chan_kind.ChanKind.TheVariants.{Stream}
use Rattle.abi_types.specs.declared.descriptor.Descriptor.{Descriptor}
use Rattle.abi_types.specs.declared.node.Node.{Node}
use Rattle.abi_types.specs.declared.node.NodeKind.{NodeKind}
use Rattle.abi_types.specs.declared.node.NodeKind.TheVariants as node_kind
use Rattle.abi_types.specs.declared.open_kind.OpenKind.{OpenKind}
use Rattle.abi_types.specs.declared.open_kind.OpenKind.TheVariants.{File, Directory, End, Terminal, Process}
use Rattle.abi_types.specs.declared.reply.Payload.TheVariants as payload
use Rattle.abi_base.specs.declared.errno.Errno.TheVariants.{Badf}
use Rattle.kernel_model.specs.Calls.{refusal}
use Rattle.kernel_model.specs.Families.DescriptorCalls.{flags_of, stat_get, stat_open, type_number}
use Rattle.kernel_model.specs.Families.FileLooks.{node_size, node_stat, node_type, report_node, report_open, reported}
use Rattle.kernel_model.specs.Families.FileMeaning.{open_of}
use Rattle.kernel_model.specs.Outcome.{Outcome, replies}
use Rattle.kernel_model.specs.Reply.{refused, success}
use Rattle.kernel_model.specs.State.{State, Table, tree_of}
use Rattle.kernel_model.specs.Step.{tick}
use Rattle.kernel_model.specs.View.{whole}
use Rattle.call_laws.specs.DescriptorLaws.{IsTold, ObjectsAreTold, StatTells, told_flags, told_node, told_node_type, told_size, told_type}
use Rattle.call_laws.proofs.Replies.{answer_of}

-- ---- fd_stat_get

types_are : (kind : OpenKind) → type_number kind ≡ told_type kind
types_are (File node offset flags) = refl
types_are (Directory node flags) = refl
types_are (End (Some reads) (Some writes) flags Stream) = refl
types_are (End (Some reads) None flags Stream) = refl
types_are (End None writes flags Stream) = refl
types_are (Terminal which flags) = refl
types_are (Process p object) = refl

flags_are : (kind : OpenKind) → flags_of kind ≡ told_flags kind
flags_are (File node offset flags) = refl
flags_are (Directory node flags) = refl
flags_are (End reads writes flags form) = refl
flags_are (Terminal which flags) = refl
flags_are (Process p object) = refl

-- a descriptor that is there isn't missed
present : (table : Table) (fd : ℕ) (d : Descriptor) → get table fd ≡ Some d → refusal table (FdStatGet fd) ≡ None
present table fd d there = ap (λ o. cond (not (is_some o) || false) (Some (refused Badf)) None) there

-- what is told of a descriptor with this type and these flags
abbrev stat_told : Descriptor → ℕ → ℕ → Outcome
stat_told d type flags =
    replies (record (success 0 0) { payload = payload.FdStat (record { kind = type; flags = flags; base = d.base; inheriting = d.inheriting }) })

pub stat_tells : StatTells
stat_tells constants S who fd table d kind own there opened =
    answer_of constants S who (FdStatGet fd) table own (present table fd d there)
    ∙ ap (λ o. (stat_get (whole (tick S)) o).answer) there
    ∙ ap (λ o. (stat_open d o).answer) opened
    ∙ (λ i. (stat_told d (types_are kind i) (flags_are kind i)).answer)

-- ---- file_stat_fget

pub node_types_are : (kind : NodeKind) → node_type kind ≡ told_node_type kind
node_types_are (node_kind.File bytes) = refl
node_types_are node_kind.Directory = refl
node_types_are (node_kind.Link text) = refl

sizes_are : (kind : NodeKind) → node_size kind ≡ told_size kind
sizes_are (node_kind.File bytes) = refl
sizes_are node_kind.Directory = refl
sizes_are (node_kind.Link text) = refl

pub node_told : (n : ℕ) (node : Node) → node_stat n node ≡ told_node n node
node_told n node = λ i. record (told_node n node) { kind = node_types_are node.kind i; size = sizes_are node.kind i }

told_is : (S : State) (kind : OpenKind) (stat : FileStat) → IsTold S kind stat → report_open (tree_of S) (Some kind) ≡ reported stat
told_is S (File n offset flags) stat told = ap (report_node n) told.1 ∙ ap reported (node_told n told.0 ∙ sym told.2)
told_is S (Directory n flags) stat told = ap (report_node n) told.1 ∙ ap reported (node_told n told.0 ∙ sym told.2)
told_is S (End (Some reads) (Some writes) flags Stream) stat told = ap reported (sym told)
told_is S (End (Some reads) None flags Stream) stat told = ap reported (sym told)
told_is S (End None (Some writes) flags Stream) stat told = ap reported (sym told)
told_is S (End None None flags form) stat told = absurd told
told_is S (Terminal which flags) stat told = ap reported (sym told)
told_is S (Process p object) stat told = ap reported (sym told)

pub objects_are_told : ObjectsAreTold
objects_are_told constants S who fd table d kind stat own allowed there opened told =
    answer_of constants S who (FileStatFget fd) table own allowed
    ∙ ap (λ o. (report_open (tree_of (tick S)) (open_of (whole (tick S)) o)).answer) there
    ∙ ap (λ o. (report_open (tree_of (tick S)) o).answer) opened
    ∙ ap (λ (o : Outcome). o.answer) (told_is (tick S) kind stat told)
