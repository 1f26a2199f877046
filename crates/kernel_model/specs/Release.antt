-- What ends because nothing holds it any more: opens, the processes that they are of, what waits in the channels that they read, what
-- these held in turn, and the nodes to which nothing leads any more.
use Rattle.std.specs.Prelude.{◌≡◌, ℕ, ◌+◌, ◌<◌, ◌==◌, ◌&&◌, ◌||◌, not, Bool, true, false, List, [], ◌∷◌, Option, None, Some, IsSome, if◌then◌else◌}
use Rattle.std.specs.FinMap.{get, retain_keys}
use Rattle.std.specs.List.{list_any}
use Rattle.std.specs.Option.{option_map}
use Rattle.abi_base.specs.declared.signal.Signal.TheVariants.{Kill}
use Rattle.abi_types.specs.declared.descriptor.Descriptor.{Descriptor}
use Rattle.abi_types.specs.declared.open_kind.OpenKind.{OpenKind}
use Rattle.abi_types.specs.declared.open_kind.OpenKind.TheVariants.{File, Directory, End, Terminal, Process}
use Rattle.abi_types.specs.declared.status.Status.{Status}
use Rattle.abi_types.specs.declared.status.Status.TheVariants.{Live, Exit, Killed}
use Rattle.maps.specs.Closure.{member, closure, changed}
use Rattle.maps.specs.Maps.{total}
use Rattle.tree_model.specs.Opens.{is_used}
use Rattle.kernel_model.specs.Channels.{Send, Channel, channel_left, is_over}
use Rattle.kernel_model.specs.State.{State, Table, tree_of, Part, at_proc, at_status, at_open, at_node, at_names, at_chan}

-- 1 where the descriptor names the open, else 0
abbrev pub names_open : ℕ → Descriptor → ℕ
names_open o d = if d.id == o then 1 else 0

-- how many numbers of a table name the open
abbrev pub count_in : ℕ → Table → ℕ
count_in o table = total (names_open o) table

-- the holders of an open: the table numbers of all processes that name it
abbrev pub holders : State → ℕ → ℕ
holders S o = total (count_in o) S.tables

-- how many of the descriptors name the open; and how many do that wait in a channel
abbrev pub count_carried : ℕ → List Descriptor → ℕ
count_carried o [] = 0
count_carried o (d ∷ ds) = names_open o d + count_carried o ds

abbrev pub count_sent : ℕ → List Send → ℕ
count_sent o [] = 0
count_sent o (send ∷ sends) = count_carried o send.carried + count_sent o sends

abbrev pub carried_in : ℕ → Channel → ℕ
carried_in o channel = count_sent o channel.waiting

-- its carriers: the descriptors that wait in channels and name it. An open is held by its holders and its carriers.
abbrev pub carriers : State → ℕ → ℕ
carriers S o = total (carried_in o) S.chans

-- whether the open is of the process
abbrev pub is_of_process : ℕ → Option OpenKind → Bool
is_of_process p None = false
is_of_process p (Some (File node offset flags)) = false
is_of_process p (Some (Directory node flags)) = false
is_of_process p (Some (End reads writes flags form)) = false
is_of_process p (Some (Terminal which flags)) = false
is_of_process p (Some (Process q object)) = q == p

-- whether a process with this status lives
abbrev pub lives : Option Status → Bool
lives None = false
lives (Some Live) = true
lives (Some (Exit code)) = false
lives (Some (Killed signal)) = false

-- whether the process is killed by the end of these opens: one of them is of it, and it lives
abbrev pub is_killed : State → List ℕ → ℕ → Bool
is_killed S ended p = list_any (λ o. is_of_process p (get S.opens o)) ended && lives (get S.statuses p)

-- whether the open is an end that reads the channel, and whether it is one that writes it
abbrev pub is_reader : ℕ → Option OpenKind → Bool
is_reader c (Some (End (Some reads) writes flags form)) = reads == c
is_reader c _ = false

abbrev pub is_writer : ℕ → Option OpenKind → Bool
is_writer c (Some (End reads (Some writes) flags form)) = writes == c
is_writer c _ = false

-- whether the channel loses that side by the end of these opens
abbrev pub loses_reader : State → List ℕ → ℕ → Bool
loses_reader S ended c = list_any (λ o. is_reader c (get S.opens o)) ended

abbrev pub loses_writer : State → List ℕ → ℕ → Bool
loses_writer S ended c = list_any (λ o. is_writer c (get S.opens o)) ended

-- what a process has left, as it is killed or not: nothing of its own, and its status
abbrev pub own_left : {X : Type 0} → Bool → Option X → Option X
own_left true own = None
own_left false own = own

abbrev pub status_left : Bool → Status → Status
status_left true status = Killed Kill
status_left false status = status

-- The state once these opens have ended. With each open of a process that lives the process has ended, and with each end of a
-- channel the channel has lost that side. What a standard stream's open reaches stays.
abbrev pub without : List ℕ → State → State
without ended S = record S {
  tables = retain_keys S.tables (λ p. not (is_killed S ended p));
  processes = retain_keys S.processes (λ p. not (is_killed S ended p));
  statuses = changed (λ p. status_left (is_killed S ended p)) S.statuses;
  opens = retain_keys S.opens (λ o. not (member o ended));
  chans = changed (λ c. channel_left (loses_reader S ended c) (loses_writer S ended c)) S.chans;
}

-- whether nothing holds the open once these have ended
abbrev pub is_unheld : State → List ℕ → ℕ → Bool
is_unheld S ended o = holders (without ended S) o + carriers (without ended S) o == 0

-- The opens that end: the least set that has each open which nothing holds once the set has ended. A process that is killed holds
-- nothing, and nothing waits in a channel without its reader, so what these alone held is in the set too.
unfoldable pub ends : State → List ℕ
ends S = closure (is_unheld S) S.opens []

-- the state without the opens that end, with the processes killed that these are of and the channels hung up
abbrev pub without_ended : State → State
without_ended S = without (ends S) S

-- whether the open is one that ends
abbrev pub is_ending : State → ℕ → Bool
is_ending S o = member o (ends S)

-- whether the node stays: it is the root, has a name or is open
abbrev pub is_node_kept : State → ℕ → Bool
is_node_kept S n = is_used S.opens (tree_of S) n

-- the state without the nodes that don't stay, nor the names in them
abbrev pub without_nodes : State → State
without_nodes S = record S { nodes = retain_keys S.nodes (is_node_kept S); names = retain_keys S.names (is_node_kept S) }

-- whether the channel, if there is one, stays: it is not over
abbrev pub is_channel_kept : Option Channel → Bool
is_channel_kept None = true
is_channel_kept (Some channel) = not (is_over channel)

-- the state without the channels that are over
abbrev pub without_over : State → State
without_over S = record S { chans = retain_keys S.chans (λ c. is_channel_kept (get S.chans c)) }

-- the same, and then without the nodes that have neither a name nor an open, and without the channels that are over
abbrev pub release : State → State
release S = without_over (without_nodes (without_ended S))

-- whether the part is one that the release of this state ends
abbrev pub is_released : State → Part → Bool
is_released S (at_proc p) = is_killed S (ends S) p
is_released S (at_status p) = is_killed S (ends S) p
is_released S (at_open o) = is_ending S o
is_released S (at_node n) = not (is_node_kept (without_ended S) n)
is_released S (at_names n) = not (is_node_kept (without_ended S) n)
is_released S (at_chan c) = loses_reader S (ends S) c || (loses_writer S (ends S) c || not (is_channel_kept (get S.chans c)))
is_released S _ = false

-- The second state comes of the first as opens that nothing holds end one after another, each with what ends with it.
pub data LetsGo (S : State) : State → Type 0 where
  starts : LetsGo S S
  goes : (T : State) (o : ℕ) → LetsGo S T → IsSome (get T.opens o) → holders T o + carriers T o ≡ 0 → LetsGo S (without (o ∷ []) T)

-- the channel, if there is one, unless it is over
abbrev pub kept_channel : Option Channel → Option Channel
kept_channel channel = if is_channel_kept channel then channel else None

-- nothing is left that may go: each open has a holder or a carrier
abbrev pub AllAreHeld : State → Type 0
AllAreHeld S = (o : ℕ) → IsSome (get S.opens o) → 0 < holders S o + carriers S o

-- What the release makes of a part that it ends. A process that is killed was live; nothing is left of what it had of its own, and its
-- status says how it ended. An open, a node and the names in it are gone. A channel has lost a side, or both, and is gone where it has
-- neither.
abbrev pub IsEnded : State → State → Part → Type 0
IsEnded S T (at_proc p) = (get T.tables p ≡ None) × (get T.processes p ≡ None)
IsEnded S T (at_status p) = (get S.statuses p ≡ Some Live) × (get T.statuses p ≡ Some (Killed Kill))
IsEnded S T (at_open o) = get T.opens o ≡ None
IsEnded S T (at_node n) = get T.nodes n ≡ None
IsEnded S T (at_names n) = get T.names n ≡ None
IsEnded S T (at_chan c) =
    (reader : Bool) × (writer : Bool) × (get T.chans c ≡ kept_channel (option_map (channel_left reader writer) (get S.chans c)))
IsEnded S T _ = ⊥

-- The set of opens is the one that ends: it has each open which nothing holds once the set has ended, each of it is such
-- an open, and it is the least: whatever has each open that nothing holds once some of its own have ended has all of it.
pub record IsEnd (S : State) (ended : List ℕ) : Type 0 where
  pub closed : (o : ℕ) → IsSome (get S.opens o) → holders (without ended S) o + carriers (without ended S) o ≡ 0 → member o ended ≡ true
  pub unheld : (o : ℕ) → member o ended ≡ true
      → IsSome (get S.opens o) × (holders (without ended S) o ≡ 0) × (carriers (without ended S) o ≡ 0)
  pub least : (has : ℕ → Bool)
      → ((o : ℕ) → IsSome (get S.opens o) → (some : List ℕ) → ((r : ℕ) → member r some ≡ true → has r ≡ true)
      → holders (without some S) o + carriers (without some S) o ≡ 0 → has o ≡ true)
      → (o : ℕ) → member o ended ≡ true → has o ≡ true
