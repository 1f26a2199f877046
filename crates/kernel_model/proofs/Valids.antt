-- What keeps a state valid, or nearly so: one part set, the end of a process, and the release.
use Rattle.std.proofs.Common.{◌≡◌, ◌≢◌, ◌⊎◌, inl, inr, ℕ, ◌+◌, ◌<◌, ◌≤◌, ◌^◌, ◌==◌, Bool, true, false, not, cond, ◌&&◌, ◌||◌, T, Option, Some, None, IsSome, is_some, refl, sym, ap, subst, ◌∙◌, arith}
use Rattle.std.proofs.lemmas.Bool.Decides.{eqb_tells}
use Rattle.std.proofs.lemmas.Bool.{eq-eqb, eqb-true}
use Rattle.std.proofs.lemmas.Nat.{and_assoc}
use Rattle.std.specs.Prelude.{bit_and, nat_lt, IsTrue}
use Rattle.abi_base.specs.Rights.{has_all}
use Rattle.std.specs.Ordering.{nat_cmp}
use Rattle.std.specs.FinMap.{FinMap, get, insert, remove}
use Rattle.std.specs.List.{list_any}
use Rattle.std.specs.Option.{option_map}
use Rattle.abi_types.specs.declared.chan_kind.ChanKind.{ChanKind}
use Rattle.abi_types.specs.declared.descriptor.Descriptor.{Descriptor}
use Rattle.abi_types.specs.declared.open_kind.OpenKind.{OpenKind}
use Rattle.abi_types.specs.declared.open_kind.OpenKind.TheVariants.{File, Directory, End, Terminal, Process}
use Rattle.abi_types.specs.declared.status.Status.{Status}
use Rattle.abi_types.specs.declared.status.Status.TheVariants.{Live, Exit, Killed}
use Rattle.abi_types.specs.declared.stream.Stream.{Stream}
use Rattle.maps.specs.Closure.{member}
use Rattle.maps.specs.Maps.{get-insert-same, get-insert-other, get-retain, same_numbers, total, weight, total-remove, total_at_least}
use Rattle.tree_model.specs.declared.limits.TheConstants.{ROOT}
use Rattle.tree_model.specs.Changes.{is_file_node}
use Rattle.tree_model.specs.Counts.{one_for-same}
use Rattle.tree_model.specs.Opens.{one_of_node, opens_of_node}
use Rattle.tree_model.specs.Releasing.{retained-all, used_by_links, used_by_opens}
use Rattle.tree_model.specs.Retained.{retained, retained-node, retained-no_node, retained-tree}
use Rattle.tree_model.specs.Tree.{IsTree, is_directory_node, links_in, links_of}
use Rattle.kernel_model.specs.Channels.{Channel, SideState, Gone, Open, Shut, channel_left, is_empty, is_gone}
use Rattle.kernel_model.specs.Release.{names_open, count_in, holders, carried_in, carriers, is_channel_kept, is_of_process, is_reader, is_writer, kept_channel, loses_reader, loses_writer, is_killed, lives, own_left, status_left, without, ends, release, is_ending, is_node_kept, without_ended, without_nodes, without_over}
use Rattle.kernel_model.specs.State.{State, Table, Threads, ProcessState, tree_of, put_one, set_open, set_table, set_term, thread_in, thread_of, counts_in}
use Rattle.kernel_model.specs.Step.{tick}
use Rattle.kernel_model.specs.Families.Numbers.{object_of}
use Rattle.kernel_model.specs.Fits.{fits, fits_inheriting}
use Rattle.kernel_model.specs.Valid.{AreSole, AtMostOne, IsJoined, IsNamed, HasBehind, HasReader, HasWriter, has_ended, IsNearlyValid, IsUncounted, IsValid}
use Rattle.kernel_model.specs.Waits.{MayWait}
use Rattle.kernel_model.proofs.Children.{all_born, left_keeps, KeepsChildren}
use Rattle.kernel_model.proofs.Channels.{KeepsEnds, carriers_kept, channel_released, left_joined, opens_joined, was_channel}
use Rattle.kernel_model.proofs.Ends.{any_member, any_of_member, ends_closed, ends_none, ends_unheld, process_after, process_spared, same_status, status_after, table_after, without_none}
use Rattle.kernel_model.proofs.SoleOpens.{PassesAsBefore, one_more, one_still}
use Rattle.kernel_model.proofs.Tests.{not_true, none_is_no, none_of, and_false, same_some}

-- ---- what holds an open

names_itself : (d : Descriptor) → names_open d.id d ≡ 1
names_itself d = ap (λ b. cond b 1 0) (eq-eqb d.id d.id refl)

-- an open that a descriptor names is held
pub named_is_held : (S : State) (p n : ℕ) (table : Table) (d : Descriptor) → get S.tables p ≡ Some table → get table n ≡ Some d → 0 < holders S d.id
named_is_held S p n table d there here =
    let one : names_open d.id d ≡ 1 = names_itself d in
    let inside : names_open d.id d ≤ count_in d.id table = total_at_least (names_open d.id) table n d here in
    let all : count_in d.id table ≤ holders S d.id = total_at_least (count_in d.id) S.tables p table there in
    omega arith

pub held_or_carried : (S : State) (o : ℕ) → 0 < holders S o → 0 < holders S o + carriers S o
held_or_carried S o held = omega (arith, held)

-- a process that has no table any more takes just its own holders along
pub dropped_holders : (tables : FinMap nat_cmp Table) (p o : ℕ) (table : Table) → get tables p ≡ Some table
    → total (count_in o) (remove tables p) + count_in o table ≡ total (count_in o) tables
dropped_holders tables p o table there =
    let own : weight (count_in o) (get tables p) ≡ count_in o table = ap (weight (count_in o)) there in
    let sums = total-remove (count_in o) tables p in
    omega (arith, own, sums)

-- ---- the release

pub kept_some : {X : Type 0} (b : Bool) (o : Option X) (x : X) → cond b o None ≡ Some x → o ≡ Some x
kept_some true o x e = e
kept_some false o x e = absurd (none_is_no x e)

-- an open after the release: nothing where it ends, else as before
pub get_released : (S : State) (o : ℕ) → get (release S).opens o ≡ cond (not (is_ending S o)) (get S.opens o) None
get_released S o = get-retain S.opens (λ r. not (member r (ends S))) o

-- an open that is held by what is left does not end
pub held_stays : (S : State) (o : ℕ) → 0 < holders (release S) o + carriers (release S) o → is_ending S o ≡ false
held_stays S o held =
    elim (is_ending S o) as (λ b. is_ending S o ≡ b → b ≡ false) [
      | true ↦ λ e. (
          let unheld = ends_unheld S o e in
          let none : holders (release S) o ≡ 0 = unheld.1 in
          let bare : carriers (release S) o ≡ 0 = carriers_kept S o ∙ unheld.2 in
          absurd (omega arith))
      | false ↦ λ e. refl
    ] refl

pub released_stays : (S : State) (o : ℕ) → is_ending S o ≡ false → get (release S).opens o ≡ get S.opens o
released_stays S o stays = get_released S o ∙ ap (λ b. cond (not b) (get S.opens o) None) stays

-- an open that is there after the release is held
is_held_by : (S : State) (o : ℕ) (b : Bool) → is_ending S o ≡ b → IsSome (cond (not b) (get S.opens o) None)
    → 0 < holders (release S) o + carriers (release S) o
is_held_by S o true gone there = absurd (not_true there)
is_held_by S o false stays there =
    elim (eqb_tells (holders (release S) o + carriers (release S) o) 0) [
      | inl is ↦ absurd (not_true (sym stays ∙ ends_closed S o there (ap (λ n. holders (release S) o + n) (sym (carriers_kept S o)) ∙ is.1)))
      | inr other ↦ (let apart : holders (release S) o + carriers (release S) o ≢ 0 = other.1 in omega arith)
    ]

pub left_is_held : (S : State) (o : ℕ) → IsSome (get (release S).opens o) → 0 < holders (release S) o + carriers (release S) o
left_is_held S o there = is_held_by S o (is_ending S o) refl (subst IsSome (get_released S o) there)

-- ---- the processes that are left

pub some_mapped : {X Y : Type 0} (f : X → Y) (o : Option X) → is_some (option_map f o) ≡ is_some o
some_mapped f None = refl
some_mapped f (Some x) = refl

-- a process that has a table after the release has the one that it had
unkilled : {X : Type 0} (killed : Bool) (before : Option X) (own : X) → own_left killed before ≡ Some own → before ≡ Some own
unkilled true before own e = absurd (none_is_no own e)
unkilled false before own e = e

pub table_before : (S : State) (p : ℕ) (table : Table) → get (release S).tables p ≡ Some table → get S.tables p ≡ Some table
table_before S p table there = unkilled (is_killed S (ends S) p) (get S.tables p) table (sym (table_after S (ends S) p) ∙ there)

-- just the processes that live have something of their own
left_alive : {X : Type 0} (killed : Bool) (own : Option X) (status : Option Status) → is_some own ≡ lives status
    → is_some (own_left killed own) ≡ lives (option_map (status_left killed) status)
left_alive true own None h = refl
left_alive true own (Some status) h = refl
left_alive false own status h = h ∙ sym (ap lives (same_status status))

left_tables : (S : State) (p : ℕ) → is_some (get S.tables p) ≡ lives (get S.statuses p) → is_some (get (release S).tables p) ≡ lives (get (release S).statuses p)
left_tables S p same =
    ap is_some (table_after S (ends S) p) ∙ left_alive (is_killed S (ends S) p) (get S.tables p) (get S.statuses p) same
    ∙ sym (ap lives (status_after S (ends S) p))

left_processes : (S : State) (p : ℕ) → is_some (get S.processes p) ≡ lives (get S.statuses p)
    → is_some (get (release S).processes p) ≡ lives (get (release S).statuses p)
left_processes S p same =
    ap is_some (process_after S (ends S) p) ∙ left_alive (is_killed S (ends S) p) (get S.processes p) (get S.statuses p) same
    ∙ sym (ap lives (status_after S (ends S) p))

abbrev pub threads_in : Option ProcessState → Option Threads
threads_in own = option_map (λ (x : ProcessState). x.threads) own

-- a process that was not killed has made what it had made
pub left_counts : (S : State) (p : ℕ) → is_killed S (ends S) p ≡ false → counts_in (get (release S).processes p) ≡ counts_in (get S.processes p)
left_counts S p spared = ap counts_in (process_spared S (ends S) p spared)

-- what a process may still make after the release it might make before
uncounted_by : (killed : Bool) (status : Option Status) (own : Option ProcessState) (k : ℕ) → is_some own ≡ lives status
    → has_ended (option_map (status_left killed) status) ≡ false → (counts_in (own_left killed own)).objects < k
    → (has_ended status ≡ false) × ((counts_in own).objects < k)
uncounted_by true None None k same going beyond = (refl, beyond)
uncounted_by true None (Some own) k same going beyond = absurd (not_true (sym same))
uncounted_by true (Some status) own k same going beyond = absurd (not_true (sym going))
uncounted_by false status own k same going beyond = (sym (ap has_ended (same_status status)) ∙ going, beyond)

left_uncounted : (S : State) (p k : ℕ) → IsNearlyValid S → IsUncounted (release S) p k → IsUncounted S p k
left_uncounted S p k v uncounted =
    uncounted_by (is_killed S (ends S) p) (get S.statuses p) (get S.processes p) k (v.owns p) (sym (ap has_ended (status_after S (ends S) p)) ∙ uncounted.0)
    (subst (λ own. (counts_in own).objects < k) (process_after S (ends S) p) uncounted.1)

-- a process that is left has its depth, and has counted its children
left_born : (S : State) (p : ℕ) → KeepsChildren (get S.processes p) (get (release S).processes p)
left_born S p =
    subst (KeepsChildren (get S.processes p)) (sym (process_after S (ends S) p)) (left_keeps (is_killed S (ends S) p) (get S.processes p))

-- each of its threads is numbered
numbered_by : (killed : Bool) (own : Option ProcessState) (t : ℕ) → (IsSome (thread_in (threads_in own) t) → t ≤ (counts_in own).threads)
    → IsSome (thread_in (threads_in (own_left killed own)) t) → t ≤ (counts_in (own_left killed own)).threads
numbered_by true own t numbered there = absurd (not_true there)
numbered_by false own t numbered there = numbered there

left_numbered : (S : State) (p t : ℕ) → (IsSome (thread_of S p t) → t ≤ (counts_in (get S.processes p)).threads) → IsSome (thread_of (release S) p t)
    → t ≤ (counts_in (get (release S).processes p)).threads
left_numbered S p t numbered =
    subst (λ own. IsSome (thread_in (threads_in own) t) → t ≤ (counts_in own).threads) (sym (process_after S (ends S) p))
    (numbered_by (is_killed S (ends S) p) (get S.processes p) t numbered)

kept_waits : (killed : Bool) (own : Option ProcessState) (t : ℕ) → MayWait (thread_in (threads_in own) t)
    → MayWait (thread_in (threads_in (own_left killed own)) t)
kept_waits true own t h = tt
kept_waits false own t h = h

left_waits : (S : State) (p t : ℕ) → MayWait (thread_of S p t) → MayWait (thread_of (release S) p t)
left_waits S p t h =
    subst (λ (own : Option ProcessState). MayWait (thread_in (threads_in own) t)) (sym (process_after S (ends S) p))
    (kept_waits (is_killed S (ends S) p) (get S.processes p) t h)

-- what stands behind an open does not depend on the parts that aren't behind any
reader_same : (before after : FinMap nat_cmp Channel) → ((c : ℕ) → get after c ≡ get before c) → (reads : Option ℕ) → HasReader before reads → HasReader after reads
reader_same before after same None h = h
reader_same before after same (Some c) h = (h.0, same c ∙ h.1, h.2)

writer_same : (before after : FinMap nat_cmp Channel) → ((c : ℕ) → get after c ≡ get before c) → (writes : Option ℕ) → HasWriter before writes → HasWriter after writes
writer_same before after same None h = h
writer_same before after same (Some c) h = (h.0, same c ∙ h.1, h.2)

pub behind_same : (S T : State) → ((n : ℕ) → get T.nodes n ≡ get S.nodes n) → ((k : ℕ) → IsSome (get S.terms k) → IsSome (get T.terms k))
    → ((c : ℕ) → get T.chans c ≡ get S.chans c) → ((p : ℕ) → IsSome (get S.statuses p) → IsSome (get T.statuses p)) → (kind : OpenKind)
    → HasBehind S kind → HasBehind T kind
behind_same S T nodes more chans made (Terminal which flags) h = (more which h.0, h.1)
behind_same S T nodes more chans made (File node offset flags) h = ap is_file_node (nodes node) ∙ h
behind_same S T nodes more chans made (Directory node flags) h = ap is_directory_node (nodes node) ∙ h
behind_same S T nodes more chans made (End reads writes flags form) h =
    (h.0, reader_same S.chans T.chans chans reads h.1, writer_same S.chans T.chans chans writes h.2)
behind_same S T nodes more chans made (Process p object) h = (made p h.0, h.1)

-- ---- the nodes that stay

-- the root stays, and what has a name, and what is open
pub root_is_kept : (S : State) → is_node_kept S ROOT ≡ true
root_is_kept S = ap (λ b. b || (nat_lt 0 (links_of (tree_of S) ROOT) || nat_lt 0 (opens_of_node S.opens ROOT))) (eq-eqb ROOT ROOT refl)

pub named_is_kept : (S : State) (n : ℕ) → 1 ≤ links_of (tree_of S) n → is_node_kept S n ≡ true
named_is_kept S n some = used_by_links S.opens (tree_of S) n some

pub open_is_kept : (S : State) (o n : ℕ) (kind : OpenKind) → get S.opens o ≡ Some kind → one_of_node n kind ≡ 1 → is_node_kept S n ≡ true
open_is_kept S o n kind there one =
    let all : one_of_node n kind ≤ opens_of_node S.opens n = total_at_least (one_of_node n) S.opens o kind there in
    used_by_opens S.opens (tree_of S) n (omega arith)

-- the status of a process that was made stays, or says that it was killed
left_made : (S : State) (p : ℕ) → IsSome (get S.statuses p) → IsSome (get (release S).statuses p)
left_made S p made = ap is_some (status_after S (ends S) p) ∙ some_mapped (status_left (is_killed S (ends S) p)) (get S.statuses p) ∙ made

-- and no other one is there
made_before : (S : State) (p : ℕ) → IsSome (get (release S).statuses p) → IsSome (get S.statuses p)
made_before S p there = sym (ap is_some (status_after S (ends S) p) ∙ some_mapped (status_left (is_killed S (ends S) p)) (get S.statuses p)) ∙ there

-- an open that is left does not end
left_is_not_ending : (S : State) (o : ℕ) (kind : OpenKind) → get (release S).opens o ≡ Some kind → is_ending S o ≡ false
left_is_not_ending S o kind there =
    elim (is_ending S o) as (λ b. cond (not b) (get S.opens o) None ≡ Some kind → b ≡ false) [
      | true ↦ λ e. absurd (none_is_no kind e)
      | false ↦ λ e. refl
    ] (sym (get_released S o) ∙ there)

-- what at most one open is does not end where that one is left
sole_left : (S : State) (test : Option OpenKind → Bool) (o : ℕ) (kind : OpenKind) → AtMostOne test S.opens → get (release S).opens o ≡ Some kind
    → test (get S.opens o) ≡ true → list_any (λ r. test (get S.opens r)) (ends S) ≡ false
sole_left S test o kind sole there is =
    elim (list_any (λ r. test (get S.opens r)) (ends S)) as (λ b. list_any (λ r. test (get S.opens r)) (ends S) ≡ b → b ≡ false) [
      | true ↦ λ e. (
          let one = any_member (λ r. test (get S.opens r)) (ends S) e in
          let ending : is_ending S o ≡ true = ap (λ r. member r (ends S)) (sole o one.0 is one.2) ∙ one.1 in
          absurd (not_true (sym (left_is_not_ending S o kind there) ∙ ending)))
      | false ↦ λ e. refl
    ] refl

reader_kept : (writer : Bool) (channel : Channel) → (channel_left false writer channel).reader ≡ channel.reader
reader_kept true channel = refl
reader_kept false channel = refl

writer_kept : (reader : Bool) (channel : Channel) → (channel_left reader false channel).writer ≡ channel.writer
writer_kept true channel = refl
writer_kept false channel = refl

-- a channel with one of its sides isn't over
apart : (side : SideState) → side ≢ Gone → is_gone side ≡ false
apart Open h = refl
apart Shut h = refl
apart Gone h = absurd (h refl)

reader_keeps : (channel : Channel) → channel.reader ≢ Gone → kept_channel (Some channel) ≡ Some channel
reader_keeps channel h = ap (λ b. cond (not (b && (is_gone channel.writer && is_empty channel.waiting))) (Some channel) None) (apart channel.reader h)

writer_keeps : (channel : Channel) → channel.writer ≢ Gone → kept_channel (Some channel) ≡ Some channel
writer_keeps channel h =
    ap (λ b. cond (not (is_gone channel.reader && (b && is_empty channel.waiting))) (Some channel) None) (apart channel.writer h)
    ∙ ap (λ b. cond (not b) (Some channel) None) (and_false (is_gone channel.reader))

-- the channels of an end that is left still have its sides
left_reader : (S : State) (o : ℕ) (reads writes : Option ℕ) (flags : ℕ) (form : ChanKind) → AreSole S.opens → get (release S).opens o ≡ Some (End reads writes flags form)
    → get S.opens o ≡ Some (End reads writes flags form) → HasReader S.chans reads → HasReader (release S).chans reads
left_reader S o None writes flags form sole there before h = h
left_reader S o (Some c) writes flags form sole there before h =
    let kept : loses_reader S (ends S) c ≡ false =
    sole_left S (is_reader c) o (End (Some c) writes flags form) (sole c).1 there (ap (is_reader c) before ∙ eq-eqb c c refl) in
    let lost : Bool = loses_writer S (ends S) c in (
      channel_left false lost h.0,
      channel_released S c ∙ ap (λ b. kept_channel (option_map (channel_left b lost) (get S.chans c))) kept
          ∙ ap (λ o. kept_channel (option_map (channel_left false lost) o)) h.1
          ∙ reader_keeps (channel_left false lost h.0) (λ gone. h.2 (sym (reader_kept lost h.0) ∙ gone)),
      λ gone. h.2 (sym (reader_kept lost h.0) ∙ gone),
    )

left_writer : (S : State) (o : ℕ) (reads writes : Option ℕ) (flags : ℕ) (form : ChanKind) → AreSole S.opens → get (release S).opens o ≡ Some (End reads writes flags form)
    → get S.opens o ≡ Some (End reads writes flags form) → HasWriter S.chans writes → HasWriter (release S).chans writes
left_writer S o reads None flags form sole there before h = h
left_writer S o reads (Some c) flags form sole there before h =
    let kept : loses_writer S (ends S) c ≡ false =
    sole_left S (is_writer c) o (End reads (Some c) flags form) (sole c).2 there (ap (is_writer c) before ∙ eq-eqb c c refl) in
    let lost : Bool = loses_reader S (ends S) c in (
      channel_left lost false h.0,
      channel_released S c ∙ ap (λ b. kept_channel (option_map (channel_left lost b) (get S.chans c))) kept
          ∙ ap (λ o. kept_channel (option_map (channel_left lost false) o)) h.1
          ∙ writer_keeps (channel_left lost false h.0) (λ gone. h.2 (sym (writer_kept lost h.0) ∙ gone)),
      λ gone. h.2 (sym (writer_kept lost h.0) ∙ gone),
    )

-- what stands behind an open that is left is left
released_behind : (S : State) (o : ℕ) (kind : OpenKind) → AreSole S.opens → get (release S).opens o ≡ Some kind → get S.opens o ≡ Some kind
    → HasBehind S kind → HasBehind (release S) kind
released_behind S o (Terminal which flags) sole there before h = h
released_behind S o (File node offset flags) sole there before h =
    ap is_file_node (retained-node (tree_of S) (is_node_kept (without_ended S)) node
    (open_is_kept (without_ended S) o node (File node offset flags) there (one_for-same node))) ∙ h
released_behind S o (Directory node flags) sole there before h =
    ap is_directory_node (retained-node (tree_of S) (is_node_kept (without_ended S)) node
    (open_is_kept (without_ended S) o node (Directory node flags) there (one_for-same node))) ∙ h
released_behind S o (End reads writes flags form) sole there before h =
    (h.0, left_reader S o reads writes flags form sole there before h.1, left_writer S o reads writes flags form sole there before h.2)
released_behind S o (Process p object) sole there before h = (left_made S p h.0, h.1)

-- a node that is left stays still
pub released_kept : (S : State) (n : ℕ) → IsSome (get (release S).nodes n) → is_node_kept (release S) n ≡ true
released_kept S n there =
    elim (is_node_kept (without_ended S) n) as (λ b. is_node_kept (without_ended S) n ≡ b → is_node_kept (release S) n ≡ true) [
      | true ↦ λ kept.
          ap (λ k. (n == ROOT) || (nat_lt 0 k || nat_lt 0 (opens_of_node (without_ended S).opens n)))
          (ap links_in (retained-node (tree_of S) (is_node_kept (without_ended S)) n kept)) ∙ kept
      | false ↦ λ gone. absurd (not_true (sym (ap is_some (retained-no_node (tree_of S) (is_node_kept (without_ended S)) n gone)) ∙ there))
    ] refl

-- ---- opens that are one

passes_left : (test : Option OpenKind → Bool) (S : State) → test None ≡ false → PassesAsBefore test S.opens (release S).opens
passes_left test S none o h =
    elim (is_ending S o) as (λ b. test (cond (not b) (get S.opens o) None) ≡ true → test (get S.opens o) ≡ true) [
      | true ↦ λ e. absurd (not_true (sym none ∙ e))
      | false ↦ λ e. e
    ] (ap test (sym (get_released S o)) ∙ h)

left_sole : (S : State) → AreSole S.opens → AreSole (release S).opens
left_sole S sole k = (
  one_still (is_of_process k) S.opens (release S).opens (passes_left (is_of_process k) S refl) (sole k).0,
  one_still (is_reader k) S.opens (release S).opens (passes_left (is_reader k) S refl) (sole k).1,
  one_still (is_writer k) S.opens (release S).opens (passes_left (is_writer k) S refl) (sole k).2,
)

none_left : {X : Type 0} (b : Bool) (o : Option X) → o ≡ None → cond b o None ≡ None
none_left true o h = h
none_left false o h = refl

-- an end that was not lost is left
end_left : (S : State) (test : Option OpenKind → Bool) → list_any (λ r. test (get S.opens r)) (ends S) ≡ false → (o : ℕ) → test (get S.opens o) ≡ true
    → test (get (release S).opens o) ≡ true
end_left S test none o is =
    elim (is_ending S o) as (λ b. is_ending S o ≡ b → test (get (release S).opens o) ≡ true) [
      | true ↦ λ e. absurd (not_true (sym none ∙ any_of_member (λ r. test (get S.opens r)) (ends S) o e is))
      | false ↦ λ e. ap test (released_stays S o e) ∙ is
    ] refl

kept_stays : (o : Option Channel) → is_channel_kept (kept_channel o) ≡ true
kept_stays o =
    elim (is_channel_kept o) as (λ b. is_channel_kept o ≡ b → is_channel_kept (cond b o None) ≡ true) [ true ↦ λ e. e | false ↦ λ e. refl ] refl

left_going : (S : State) (c : ℕ) → is_channel_kept (get (release S).chans c) ≡ true
left_going S c =
    ap is_channel_kept (channel_released S c)
    ∙ kept_stays (option_map (channel_left (loses_reader S (ends S) c) (loses_writer S (ends S) c)) (get S.chans c))

pub release_restores : (S : State) → IsNearlyValid S → IsValid (release S)
release_restores S v = record {
  nearly = record {
    named = λ p n table d there here.
        subst (λ o. IsNamed o d)
        (sym (released_stays S d.id (held_stays S d.id (held_or_carried (release S) d.id (named_is_held (release S) p n table d there here)))))
        (v.named p n table d (table_before S p table there) here);
    behind = λ o kind e.
        let before : get S.opens o ≡ Some kind = kept_some (not (is_ending S o)) (get S.opens o) kind (sym (get_released S o) ∙ e) in
        released_behind S o kind v.sole e before (v.behind o kind before);
    sole = left_sole S v.sole;
    tables = λ p. left_tables S p (v.tables p);
    owns = λ p. left_processes S p (v.owns p);
    numbered = λ p t. left_numbered S p t (v.numbered p t);
    made = λ p k small beyond fits.
        get_released S (object_of p k)
        ∙ none_left (not (is_ending S (object_of p k))) (get S.opens (object_of p k))
        (v.made p k small (left_uncounted S p k v beyond) fits);
    made_nodes = λ p k small beyond fits.
        get-retain S.nodes (is_node_kept (without_ended S)) (object_of p k)
        ∙ none_left (is_node_kept (without_ended S) (object_of p k)) (get S.nodes (object_of p k))
        (v.made_nodes p k small (left_uncounted S p k v beyond) fits);
    born = all_born S.statuses (release S).statuses S.processes (release S).processes (left_made S) (made_before S) (left_born S) v.born;
    tree = retained-tree (tree_of S) (is_node_kept (without_ended S)) v.tree (root_is_kept (without_ended S)) (named_is_kept (without_ended S));
    waits = λ p t. left_waits S p t (v.waits p t);
    channels = λ c channel there.
        let was = was_channel (loses_reader S (ends S) c) (loses_writer S (ends S) c) (get S.chans c) channel (sym (channel_released S c) ∙ there) in
        subst (IsJoined (release S).opens c) was.2 (
        left_joined S.opens (release S).opens (loses_reader S (ends S) c) (loses_writer S (ends S) c) c was.0 (v.channels c was.0 was.1)
        (λ o some. released_stays S o (held_stays S o (
        let inside : carried_in o channel ≤ carriers (release S) o = total_at_least (carried_in o) (release S).chans c channel there in
        let same : carried_in o (channel_left (loses_reader S (ends S) c) (loses_writer S (ends S) c) was.0) ≡ carried_in o channel =
        ap (carried_in o) was.2 in
        omega (arith, some, inside, same))))
        (end_left S (is_reader c)) (end_left S (is_writer c)));
    made_channels = λ p k small beyond fits.
        channel_released S (object_of p k)
        ∙ ap (λ o. kept_channel (option_map (channel_left (loses_reader S (ends S) (object_of p k)) (loses_writer S (ends S) (object_of p k))) o))
        (v.made_channels p k small (left_uncounted S p k v beyond) fits);
  };
  held = left_is_held S;
  kept = released_kept S;
  going = left_going S;
}

-- where each open is held none ends, and nothing with it
pub ended_held : (S : State) → ((o : ℕ) → IsSome (get S.opens o) → 0 < holders S o + carriers S o) → without_ended S ≡ S
ended_held S held = ap (λ ended. without ended S) (ends_none S held) ∙ without_none S

-- where each node that is there stays, no node goes
pub nodes_stay : (S : State) → IsTree (tree_of S) → ((n : ℕ) → IsSome (get S.nodes n) → is_node_kept S n ≡ true) → without_nodes S ≡ S
nodes_stay S tree kept =
    let same : retained (tree_of S) (is_node_kept S) ≡ tree_of S = retained-all (tree_of S) (is_node_kept S) tree kept in
    λ i. record S { nodes = (same i).nodes; names = (same i).names }

-- where no channel is over, none goes
pub channels_stay : (S : State) → ((c : ℕ) → is_channel_kept (get S.chans c) ≡ true) → without_over S ≡ S
channels_stay S going =
    let same : (without_over S).chans ≡ S.chans =
    same_numbers _ _ (λ c. get-retain S.chans (λ e. is_channel_kept (get S.chans e)) c ∙ ap (λ b. cond b (get S.chans c) None) (going c)) in
    λ i. record S { chans = same i }

-- nothing of a valid state is released
pub release_valid : (S : State) → IsValid S → release S ≡ S
release_valid S v =
    ap (λ U. without_over (without_nodes U)) (ended_held S v.held) ∙ ap without_over (nodes_stay S v.nearly.tree v.kept) ∙ channels_stay S v.going

-- ---- another moment

-- another moment, and other streams, where none is missing that was there
outside_nearly_valid : (S : State) (moment : ℕ) (terms : FinMap nat_cmp Stream) → ((k : ℕ) → IsSome (get S.terms k) → IsSome (get terms k)) → IsNearlyValid S
    → IsNearlyValid (record S { clock = moment; terms = terms })
outside_nearly_valid S moment terms more v = record {
  named = v.named;
  behind = λ o kind e. behind_same S (record S { clock = moment; terms = terms }) (λ _. refl) more (λ _. refl) (λ _ h. h) kind (v.behind o kind e);
  sole = v.sole;
  tables = v.tables;
  owns = v.owns;
  numbered = v.numbered;
  made = v.made;
  made_nodes = v.made_nodes;
  born = v.born;
  tree = v.tree;
  waits = v.waits;
  channels = v.channels;
  made_channels = v.made_channels;
}

pub moment_nearly_valid : (S : State) (moment : ℕ) → IsNearlyValid S → IsNearlyValid (record S { clock = moment })
moment_nearly_valid S moment v = outside_nearly_valid S moment S.terms (λ _ h. h) v

pub tick_nearly_valid : (S : State) → IsNearlyValid S → IsNearlyValid (tick S)
tick_nearly_valid S v = moment_nearly_valid S (S.clock + 1000) v

pub moment_valid : (S : State) (moment : ℕ) → IsValid S → IsValid (record S { clock = moment })
moment_valid S moment v = record { nearly = moment_nearly_valid S moment v.nearly; held = v.held; kept = v.kept; going = v.going }

pub tick_valid : (S : State) → IsValid S → IsValid (tick S)
tick_valid S v = moment_valid S (S.clock + 1000) v

-- ---- one part set

-- what is at a key stays there when a value is put at any key
pub some_inserted : {X : Type 0} (m : FinMap nat_cmp X) (k : ℕ) (x : X) (q : ℕ) → IsSome (get m q) → IsSome (get (insert m k x) q)
some_inserted m k x q h =
    elim (eqb_tells q k) [
      | inl is ↦ subst (λ j. IsSome (get (insert m k x) j)) (sym is.1) (ap is_some (get-insert-same m k x))
      | inr other ↦ ap is_some (get-insert-other m k x q other.1) ∙ h
    ]

pub set_term_nearly_valid : (S : State) (k : ℕ) (stream : Stream) → IsNearlyValid S → IsNearlyValid (put_one (set_term k stream) S)
set_term_nearly_valid S k stream v = outside_nearly_valid S S.clock (insert S.terms k stream) (some_inserted S.terms k stream) v

-- ---- one value

pub same_value : {X : Type 0} (x y : X) (o : Option X) → o ≡ Some x → o ≡ Some y → x ≡ y
same_value x y o a b = let both : Some x ≡ Some y = sym a ∙ b in cc

-- ---- another table

-- the descriptor is of the same open as the other, and has no right that the other lacks
abbrev pub IsWithin : Descriptor → Descriptor → Type 0
IsWithin d e = (d.id ≡ e.id) × (has_all e.base.0 d.base.0 ≡ true) × (has_all e.inheriting.0 d.inheriting.0 ≡ true)

-- each descriptor of the new table comes from one of the old
abbrev pub ComesFromTable : Table → Table → Type 0
ComesFromTable old new = (n : ℕ) (d : Descriptor) → get new n ≡ Some d → (m : ℕ) × (e : Descriptor) × (get old m ≡ Some e) × IsWithin d e

all_through : (a b c : ℕ) → has_all a b ≡ true → has_all b c ≡ true → has_all a c ≡ true
all_through a b c h k =
    let first : bit_and a b ≡ b = eqb-true _ _ h in
    let second : bit_and b c ≡ c = eqb-true _ _ k in
    eq-eqb (bit_and a c) c (sym (ap (bit_and a) second) ∙ sym (and_assoc c a b) ∙ ap (λ x. bit_and x c) first ∙ second)

-- a descriptor within one that names its open names it too
within_named : (o : Option OpenKind) (d e : Descriptor) → IsNamed o e → IsWithin d e → IsNamed o d
within_named None d e named within = named
within_named (Some kind) d e named within = (
  all_through (fits kind) e.base.0 d.base.0 named.0 within.1,
  all_through (fits_inheriting kind) e.inheriting.0 d.inheriting.0 named.1 within.2,
)

-- a process that has a table still has one
pub some_again : {X : Type 0} (m : FinMap nat_cmp X) (k : ℕ) (x y : X) (q : ℕ) → get m k ≡ Some x → is_some (get (insert m k y) q) ≡ is_some (get m q)
some_again m k x y q there =
    elim (eqb_tells q k) [
      | inl same ↦ subst (λ j. is_some (get (insert m k y) j) ≡ is_some (get m j)) (sym same.1) (ap is_some (get-insert-same m k y) ∙ sym (ap is_some there))
      | inr other ↦ ap is_some (get-insert-other m k y q other.1)
    ]

-- a process may have another table, of descriptors whose opens are there
pub table_nearly_valid : (S : State) (p : ℕ) (old new : Table) → get S.tables p ≡ Some old
    → ((n : ℕ) (d : Descriptor) → get new n ≡ Some d → IsNamed (get S.opens d.id) d) → IsNearlyValid S → IsNearlyValid (put_one (set_table p new) S)
table_nearly_valid S p old new there named v = record {
  named = all_named;
  behind = λ o kind e. behind_same S (put_one (set_table p new) S) (λ _. refl) (λ _ h. h) (λ _. refl) (λ _ h. h) kind (v.behind o kind e);
  sole = v.sole;
  tables = λ q. some_again S.tables p old new q there ∙ v.tables q;
  owns = v.owns;
  numbered = v.numbered;
  made = v.made;
  made_nodes = v.made_nodes;
  born = v.born;
  tree = v.tree;
  waits = v.waits;
  channels = v.channels;
  made_channels = v.made_channels;
} where
  all_named : (q n : ℕ) (table : Table) (d : Descriptor) → get (insert S.tables p new) q ≡ Some table → get table n ≡ Some d → IsNamed (get S.opens d.id) d
  all_named q n table d at here =
      elim (eqb_tells q p) [
        | inl same ↦ (
            let now : get (insert S.tables p new) p ≡ Some table = subst (λ k. get (insert S.tables p new) k ≡ Some table) same.1 at in
            named n d (ap (λ (t : Table). get t n) (same_value new table (get (insert S.tables p new) p) (get-insert-same S.tables p new) now) ∙ here))
        | inr other ↦ v.named q n table d (sym (get-insert-other S.tables p new q other.1) ∙ at) here
      ]

-- one whose descriptors come from the table
pub set_table_nearly_valid : (S : State) (p : ℕ) (old new : Table) → get S.tables p ≡ Some old → ComesFromTable old new → IsNearlyValid S
    → IsNearlyValid (put_one (set_table p new) S)
set_table_nearly_valid S p old new there from v =
    table_nearly_valid S p old new there
    (λ n d here.
    let source = from n d here in
    subst (λ o. IsNamed (get S.opens o) d) (sym source.3.0)
    (within_named (get S.opens source.1.id) d source.1 (v.named p source.0 old source.1 there source.2) source.3))
    v

-- a process with a table lives, and so does one with what else is its own
pub lives_by : (status : Option Status) → lives status ≡ true → status ≡ Some Live
lives_by None h = absurd (not_true h)
lives_by (Some Live) h = refl
lives_by (Some (Exit code)) h = absurd (not_true h)
lives_by (Some (Killed signal)) h = absurd (not_true h)

pub holder_lives : (S : State) (p : ℕ) (table : Table) → IsNearlyValid S → get S.tables p ≡ Some table → get S.statuses p ≡ Some Live
holder_lives S p table v there = lives_by (get S.statuses p) (sym (v.tables p) ∙ ap is_some there)

pub owner_lives : (S : State) (p : ℕ) (own : ProcessState) → IsNearlyValid S → get S.processes p ≡ Some own → get S.statuses p ≡ Some Live
owner_lives S p own v there = lives_by (get S.statuses p) (sym (v.owns p) ∙ ap is_some there)

pub holder_is_made : (S : State) (p : ℕ) (table : Table) → IsNearlyValid S → get S.tables p ≡ Some table → IsSome (get S.statuses p)
holder_is_made S p table v there = ap is_some (holder_lives S p table v there)

-- whether a process lives; one that doesn't has nothing of its own
pub live_or_dead : (o : Option Status) → (o ≡ Some Live) ⊎ (o ≢ Some Live)
live_or_dead None = inr (λ e. none_is_no Live e)
live_or_dead (Some Live) = inl refl
live_or_dead (Some (Exit code)) = inr (λ e. cc)
live_or_dead (Some (Killed signal)) = inr (λ e. cc)

not_living : (o : Option Status) → o ≢ Some Live → lives o ≡ false
not_living None dead = refl
not_living (Some Live) dead = absurd (dead refl)
not_living (Some (Exit code)) dead = refl
not_living (Some (Killed signal)) dead = refl

pub dead_process : (S : State) (p : ℕ) → IsNearlyValid S → get S.statuses p ≢ Some Live → get S.processes p ≡ None
dead_process S p v dead = none_of (get S.processes p) (v.owns p ∙ not_living (get S.statuses p) dead)

pub dead_table : (S : State) (p : ℕ) → IsNearlyValid S → get S.statuses p ≢ Some Live → get S.tables p ≡ None
dead_table S p v dead = none_of (get S.tables p) (v.tables p ∙ not_living (get S.statuses p) dead)

-- a process that lives may still make what it has not counted
pub owner_makes : (S : State) (p k : ℕ) (own : ProcessState) → IsNearlyValid S → get S.processes p ≡ Some own → own.counts.objects < k → IsUncounted S p k
owner_makes S p k own v there beyond =
    (ap has_ended (owner_lives S p own v there), subst (λ o. (counts_in o).objects < k) (sym there) beyond)

-- ---- another value of an open

-- the two are of one type, and the same stands behind both
pub record IsSameBehind (kind new : OpenKind) : Type 0 where
  pub base : fits new ≡ fits kind
  pub inheriting : fits_inheriting new ≡ fits_inheriting kind
  pub behind : (S : State) → HasBehind S kind → HasBehind S new
  pub alike : (k : ℕ)
      → (is_of_process k (Some new) ≡ is_of_process k (Some kind)) × (is_reader k (Some new) ≡ is_reader k (Some kind))
      × (is_writer k (Some new) ≡ is_writer k (Some kind))

same_sole : (opens : FinMap nat_cmp OpenKind) (o : ℕ) (kind new : OpenKind) → get opens o ≡ Some kind → IsSameBehind kind new → AreSole opens
    → AreSole (insert opens o new)
same_sole opens o kind new there same sole k = (
  one_more (is_of_process k) opens o new (λ passes. ap (is_of_process k) there ∙ sym (same.alike k).0 ∙ passes) (sole k).0,
  one_more (is_reader k) opens o new (λ passes. ap (is_reader k) there ∙ sym (same.alike k).1 ∙ passes) (sole k).1,
  one_more (is_writer k) opens o new (λ passes. ap (is_writer k) there ∙ sym (same.alike k).2 ∙ passes) (sole k).2,
)

named_again : (o : Option OpenKind) (kind new : OpenKind) (d : Descriptor) → o ≡ Some kind → IsSameBehind kind new → IsNamed o d → IsNamed (Some new) d
named_again None kind new d is same named = absurd named
named_again (Some k) kind new d is same named =
    let one : k ≡ kind = same_some k kind is in (
      subst (λ f. IsTrue (has_all f d.base.0)) (ap fits one ∙ sym same.base) named.0,
      subst (λ f. IsTrue (has_all f d.inheriting.0)) (ap fits_inheriting one ∙ sym same.inheriting) named.1,
    )

open_named : (S : State) (o : ℕ) (kind new : OpenKind) → get S.opens o ≡ Some kind → IsSameBehind kind new → (d : Descriptor) → IsNamed (get S.opens d.id) d
    → IsNamed (get (insert S.opens o new) d.id) d
open_named S o kind new there same d named =
    elim (eqb_tells d.id o) [
      | inl is ↦ subst (λ x. IsNamed x d) (sym (get-insert-same S.opens o new) ∙ ap (get (insert S.opens o new)) (sym is.1))
          (named_again (get S.opens o) kind new d there same (subst (λ j. IsNamed (get S.opens j) d) is.1 named))
      | inr other ↦ subst (λ x. IsNamed x d) (sym (get-insert-other S.opens o new d.id other.1)) named
    ]

open_behind : (S : State) (o : ℕ) (kind new : OpenKind) → get S.opens o ≡ Some kind → IsSameBehind kind new → IsNearlyValid S → (r : ℕ) (k : OpenKind)
    → get (insert S.opens o new) r ≡ Some k → HasBehind S k
open_behind S o kind new there same v r k at =
    elim (eqb_tells r o) [
      | inl is ↦ (
          let one : new ≡ k = same_value new k (get (insert S.opens o new) o) (get-insert-same S.opens o new) (subst (λ j. get (insert S.opens o new) j ≡ Some k) is.1 at) in
          subst (HasBehind S) one (same.behind S (v.behind o kind there)))
      | inr other ↦ v.behind r k (sym (get-insert-other S.opens o new r other.1) ∙ at)
    ]

open_made : (S : State) (o : ℕ) (kind new : OpenKind) (r : ℕ) → get S.opens o ≡ Some kind → get S.opens r ≡ None → get (insert S.opens o new) r ≡ None
open_made S o kind new r there none =
    elim (eqb_tells r o) [
      | inl is ↦ absurd (none_is_no kind (sym none ∙ ap (get S.opens) is.1 ∙ there))
      | inr other ↦ get-insert-other S.opens o new r other.1 ∙ none
    ]

open_passes : (S : State) (o : ℕ) (kind new : OpenKind) → get S.opens o ≡ Some kind → (test : Option OpenKind → Bool) → test (Some new) ≡ test (Some kind)
    → (r : ℕ) → test (get S.opens r) ≡ true → test (get (insert S.opens o new) r) ≡ true
open_passes S o kind new there test same r passes =
    elim (eqb_tells r o) [
      | inl is ↦ subst (λ j. test (get (insert S.opens o new) j) ≡ true) (sym is.1)
          (ap test (get-insert-same S.opens o new) ∙ same ∙ ap test (sym there) ∙ subst (λ j. test (get S.opens j) ≡ true) is.1 passes)
      | inr other ↦ ap test (get-insert-other S.opens o new r other.1) ∙ passes
    ]

open_ends : (S : State) (o : ℕ) (kind new : OpenKind) → get S.opens o ≡ Some kind → IsSameBehind kind new → (c : ℕ) → KeepsEnds S.opens (insert S.opens o new) c
open_ends S o kind new there same c = (
  open_passes S o kind new there (is_reader c) (same.alike c).1,
  open_passes S o kind new there (is_writer c) (same.alike c).2,
)

-- other opens, where none is missing that a descriptor or a channel names, and that no process is yet to make
pub opens_nearly_valid : (S : State) (opens : FinMap nat_cmp OpenKind) → ((d : Descriptor) → IsNamed (get S.opens d.id) d → IsNamed (get opens d.id) d)
    → ((r : ℕ) (kind : OpenKind) → get opens r ≡ Some kind → HasBehind S kind) → AreSole opens
    → ((p k : ℕ) → p < 0xffffffff → IsUncounted S p k → k < 2 ^ 32 → get opens (object_of p k) ≡ None)
    → ((c : ℕ) → KeepsEnds S.opens opens c) → IsNearlyValid S → IsNearlyValid (record S { opens = opens })
opens_nearly_valid S opens named behind sole made keeps v = record {
  named = λ q n table d at here. named d (v.named q n table d at here);
  behind = λ r kind at. behind_same S (record S { opens = opens }) (λ _. refl) (λ _ h. h) (λ _. refl) (λ _ h. h) kind (behind r kind at);
  sole = sole;
  tables = v.tables;
  owns = v.owns;
  numbered = v.numbered;
  made = made;
  made_nodes = v.made_nodes;
  born = v.born;
  tree = v.tree;
  waits = v.waits;
  channels = opens_joined S.opens opens S.chans named keeps v.channels;
  made_channels = v.made_channels;
}

pub set_open_nearly_valid : (S : State) (o : ℕ) (kind new : OpenKind) → get S.opens o ≡ Some kind → IsSameBehind kind new → IsNearlyValid S
    → IsNearlyValid (put_one (set_open o new) S)
set_open_nearly_valid S o kind new there same v =
    opens_nearly_valid S (insert S.opens o new) (open_named S o kind new there same) (open_behind S o kind new there same v)
    (same_sole S.opens o kind new there same v.sole) (λ p k small beyond fits. open_made S o kind new (object_of p k) there (v.made p k small beyond fits))
    (open_ends S o kind new there same) v

-- ---- other processes

-- What processes have of their own after this state: each is there as it was, and has made no less, and no fewer children; each thread is numbered, and waits in a call that may wait.
pub record AreGrown (S : State) (after : FinMap nat_cmp ProcessState) : Type 0 where
  pub there : (q : ℕ) → is_some (get after q) ≡ is_some (get S.processes q)
  pub numbered : (q t : ℕ) → IsSome (thread_in (threads_in (get after q)) t) → t ≤ (counts_in (get after q)).threads
  pub waits : (q t : ℕ) → MayWait (thread_in (threads_in (get after q)) t)
  pub more : (q : ℕ) → (counts_in (get S.processes q)).objects ≤ (counts_in (get after q)).objects
  pub children : (q : ℕ) → KeepsChildren (get S.processes q) (get after q)

pub processes_nearly_valid : (S : State) (after : FinMap nat_cmp ProcessState) → AreGrown S after → IsNearlyValid S → IsNearlyValid (record S { processes = after })
processes_nearly_valid S after grown v = record {
  named = v.named;
  behind = λ o kind e. behind_same S (record S { processes = after }) (λ _. refl) (λ _ h. h) (λ _. refl) (λ _ h. h) kind (v.behind o kind e);
  sole = v.sole;
  tables = v.tables;
  owns = λ q. grown.there q ∙ v.owns q;
  numbered = grown.numbered;
  made = λ q k small beyond fits. v.made q k small (uncounted q k beyond) fits;
  made_nodes = λ q k small beyond fits. v.made_nodes q k small (uncounted q k beyond) fits;
  born = all_born S.statuses S.statuses S.processes after (λ _ h. h) (λ _ h. h) grown.children v.born;
  tree = v.tree;
  waits = grown.waits;
  channels = v.channels;
  made_channels = λ q k small beyond fits. v.made_channels q k small (uncounted q k beyond) fits;
} where
  uncounted : (q k : ℕ) → IsUncounted (record S { processes = after }) q k → IsUncounted S q k
  uncounted q k beyond =
      let more = grown.more q in
      let less : (counts_in (get after q)).objects < k = beyond.1 in
      (beyond.0, omega (arith, more, less))
