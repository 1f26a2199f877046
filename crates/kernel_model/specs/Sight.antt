-- Parts of a state that a process has, and that its descriptors reach.
use Rattle.std.specs.Prelude.{ℕ, List, [], ◌∷◌, ◌++◌, Option, None, Some}
use Rattle.std.specs.FinMap.{get}
use Rattle.abi_types.specs.declared.descriptor.Descriptor.{Descriptor}
use Rattle.abi_types.specs.declared.open_kind.OpenKind.{OpenKind}
use Rattle.abi_types.specs.declared.open_kind.OpenKind.TheVariants.{File, Directory, End, Terminal, Process}
use Rattle.tree_model.specs.Tree.{below}
use Rattle.kernel_model.specs.State.{State, Table, tree_of, Part, at_clock, at_proc, at_status, at_open, at_node, at_names, at_term, at_chan}

-- the clock, what is the process's own, and its status
abbrev pub process_parts : ℕ → List Part
process_parts p = at_clock ∷ at_proc p ∷ at_status p ∷ []

-- each of these nodes, and the names in it
abbrev pub node_parts : List ℕ → List Part
node_parts [] = []
node_parts (n ∷ ns) = at_node n ∷ at_names n ∷ node_parts ns

-- the channel that an end reads, or that it writes
abbrev pub channel_part : Option ℕ → List Part
channel_part None = []
channel_part (Some c) = at_chan c ∷ []

-- The parts that stand behind an open: behind a directory all that is below it, and behind an end the channels that it reads and writes.
abbrev pub behind : State → Option OpenKind → List Part
behind S None = []
behind S (Some (File node offset flags)) = at_node node ∷ []
behind S (Some (Directory node flags)) = node_parts (below (tree_of S) node)
behind S (Some (End reads writes flags form)) = channel_part reads ++ channel_part writes
behind S (Some (Terminal which flags)) = at_term which ∷ []
behind S (Some (Process p object)) = at_status p ∷ []

-- a descriptor's open and what stands behind it
abbrev pub reached_by : State → Option Descriptor → List Part
reached_by S None = []
reached_by S (Some d) = at_open d.id ∷ behind S (get S.opens d.id)

-- the same of each of these descriptors
abbrev pub reached : State → Table → List ℕ → List Part
reached S table [] = []
reached S table (fd ∷ fds) = reached_by S (get table fd) ++ reached S table fds
