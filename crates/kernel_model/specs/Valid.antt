-- States that a kernel may be in.
use Rattle.std.specs.Prelude.{◌≡◌, ◌≢◌, ℕ, ◌+◌, ◌^◌, ◌<◌, ◌≤◌, ◌||◌, Bool, true, false, Option, None, Some, IsSome, is_some, ⊤}
use Rattle.std.specs.Ordering.{nat_cmp}
use Rattle.std.specs.FinMap.{FinMap, get}
use Rattle.std.specs.List.{AllByRecursion}
use Rattle.abi_types.specs.declared.descriptor.Descriptor.{Descriptor}
use Rattle.abi_types.specs.declared.open_kind.OpenKind.{OpenKind}
use Rattle.abi_types.specs.declared.open_kind.OpenKind.TheVariants as kind
use Rattle.abi_types.specs.declared.status.Status.{Status}
use Rattle.abi_types.specs.declared.status.Status.TheVariants.{Live, Exit, Killed}
use Rattle.tree_model.specs.Changes.{is_file}
use Rattle.tree_model.specs.Tree.{IsTree, is_directory}
use Rattle.kernel_model.specs.Channels.{Channel, IsChannel, carried_of, Gone}
use Rattle.kernel_model.specs.Families.Children.{AreBorn}
use Rattle.kernel_model.specs.Families.Numbers.{object_of}
use Rattle.kernel_model.specs.Fits.{HasRightsOf}
use Rattle.kernel_model.specs.Release.{holders, carriers, is_channel_kept, is_node_kept, is_of_process, is_reader, is_writer, lives}
use Rattle.kernel_model.specs.State.{State, Table, tree_of, thread_of, counts_in}
use Rattle.kernel_model.specs.Waits.{MayWait}

-- the open is there, and the descriptor's rights are among those of its type
abbrev pub IsNamed : Option OpenKind → Descriptor → Type 0
IsNamed None d = ⊥
IsNamed (Some kind) d = HasRightsOf d kind

-- the channel that an end reads is there, and its reader has not gone; and so is the channel that it writes, with its writer
abbrev pub HasReader : FinMap nat_cmp Channel → Option ℕ → Type 0
HasReader chans None = ⊤
HasReader chans (Some c) = (channel : Channel) × (get chans c ≡ Some channel) × (channel.reader ≢ Gone)

abbrev pub HasWriter : FinMap nat_cmp Channel → Option ℕ → Type 0
HasWriter chans None = ⊤
HasWriter chans (Some c) = (channel : Channel) × (get chans c ≡ Some channel) × (channel.writer ≢ Gone)

-- What stands behind the open is there: the node, the stream, which is one of the three, the channels that an end reads and writes, at
-- least one, or the process, which was made. None is of process 0, which the launcher holds.
abbrev pub HasBehind : State → OpenKind → Type 0
HasBehind S (kind.File node offset flags) = is_file (tree_of S) node ≡ true
HasBehind S (kind.Directory node flags) = is_directory (tree_of S) node ≡ true
HasBehind S (kind.End reads writes flags form) = ((is_some reads || is_some writes) ≡ true) × HasReader S.chans reads × HasWriter S.chans writes
HasBehind S (kind.Terminal which flags) = IsSome (get S.terms which) × (which < 3)
HasBehind S (kind.Process p object) = IsSome (get S.statuses p) × (p ≢ 0)

-- at most one open passes the test
abbrev pub AtMostOne : (Option OpenKind → Bool) → FinMap nat_cmp OpenKind → Type 0
AtMostOne test opens = (o r : ℕ) → test (get opens o) ≡ true → test (get opens r) ≡ true → o ≡ r

-- at most one open is of each process, and at most one end reads each channel, and at most one writes it
abbrev pub AreSole : FinMap nat_cmp OpenKind → Type 0
AreSole opens = (k : ℕ) → AtMostOne (is_of_process k) opens × AtMostOne (is_reader k) opens × AtMostOne (is_writer k) opens

-- The channel is one that there may be. The open of each descriptor that waits in it is there with its rights. There is an end that reads
-- it unless its reader has gone, and one that writes it unless its writer has.
pub record IsJoined (opens : FinMap nat_cmp OpenKind) (c : ℕ) (channel : Channel) : Type 0 where
  pub sound : IsChannel channel
  pub carried : AllByRecursion (λ (d : Descriptor). IsNamed (get opens d.id) d) (carried_of channel.waiting)
  pub read : channel.reader ≢ Gone → (o : ℕ) × (is_reader c (get opens o) ≡ true)
  pub written : channel.writer ≢ Gone → (o : ℕ) × (is_writer c (get opens o) ≡ true)

-- each channel is so
abbrev pub AreJoined : FinMap nat_cmp OpenKind → FinMap nat_cmp Channel → Type 0
AreJoined opens chans = (c : ℕ) (channel : Channel) → get chans c ≡ Some channel → IsJoined opens c channel

-- whether a process with this status has ended: then it makes nothing any more
abbrev pub has_ended : Option Status → Bool
has_ended None = false
has_ended (Some Live) = false
has_ended (Some (Exit code)) = true
has_ended (Some (Killed signal)) = true

-- the process may still make its k-th object: it lives and has not counted so many, or it was never made
abbrev pub IsUncounted : State → ℕ → ℕ → Type 0
IsUncounted S p k = (has_ended (get S.statuses p) ≡ false) × ((counts_in (get S.processes p)).objects < k)

-- All of validity but that each open is held and each node has a name or an open: what each call keeps before the release,
-- which brings the rest. Each descriptor's open is there with its rights, each open has what stands behind it, and no two opens are of
-- one process, read one channel or write one. Just the processes that live have a table and what else is their own. No thread that a
-- process has is numbered beyond its count, and no open, no node and no channel is there that a process may still make. Each process that
-- was made but process 0 is a child of another one, which has counted it if it lives. The file tree is a tree. A thread waits only in a
-- call in which it may, and its wait may have come so far. Each channel is one that there may be, with an end for each side that hasn't gone,
-- and what waits in it is named.
pub record IsNearlyValid (S : State) : Type 0 where
  pub named : (p n : ℕ) (table : Table) (d : Descriptor) → get S.tables p ≡ Some table → get table n ≡ Some d → IsNamed (get S.opens d.id) d
  pub behind : (o : ℕ) (kind : OpenKind) → get S.opens o ≡ Some kind → HasBehind S kind
  pub sole : AreSole S.opens
  pub tables : (p : ℕ) → is_some (get S.tables p) ≡ lives (get S.statuses p)
  pub owns : (p : ℕ) → is_some (get S.processes p) ≡ lives (get S.statuses p)
  pub numbered : (p t : ℕ) → IsSome (thread_of S p t) → t ≤ (counts_in (get S.processes p)).threads
  pub made : (p k : ℕ) → p < 0xffffffff → IsUncounted S p k → k < 2 ^ 32 → get S.opens (object_of p k) ≡ None
  pub made_nodes : (p k : ℕ) → p < 0xffffffff → IsUncounted S p k → k < 2 ^ 32 → get S.nodes (object_of p k) ≡ None
  pub made_channels : (p k : ℕ) → p < 0xffffffff → IsUncounted S p k → k < 2 ^ 32 → get S.chans (object_of p k) ≡ None
  pub born : AreBorn S.statuses S.processes
  pub tree : IsTree (tree_of S)
  pub waits : (p t : ℕ) → MayWait (thread_of S p t)
  pub channels : AreJoined S.opens S.chans

-- a state is valid where it is nearly so, each open is held, each node is the root, has a name or is open, and no channel is over
pub record IsValid (S : State) : Type 0 where
  pub nearly : IsNearlyValid S
  pub held : (o : ℕ) → IsSome (get S.opens o) → 0 < holders S o + carriers S o
  pub kept : (n : ℕ) → IsSome (get S.nodes n) → is_node_kept S n ≡ true
  pub going : (c : ℕ) → is_channel_kept (get S.chans c) ≡ true
