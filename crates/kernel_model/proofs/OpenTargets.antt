-- An open stays of what it is of.
--     of_same_itself, of_same_through, opens_stay_here      an open is of the same as itself, and as what one of the same is of the same as;
--         so each open of a state is of the same there
--     AllKeep, all_kept      updates after which each open that the state has is of what it was of
--     keeps      each call has such updates
--     opens_stay, ends_keep_opens      so opens stay in a step, and where a process ends from outside
use Rattle.std.proofs.Common.{◌≡◌, inl, inr, ℕ, zero, suc, ◌+◌, ◌≤◌, ◌==◌, Bool, true, false, cond, not, List, [], ◌∷◌, ◌++◌, Option, Some, None, refl, sym, ap, subst, ◌∙◌, arith}
use Rattle.std.proofs.lemmas.Bool.Decides.{eqb_tells}
use Rattle.std.specs.Prelude.{⊤, bit_and}
use Rattle.std.specs.FinMap.{get, insert}
use Rattle.std.specs.List.{AllByRecursion}
use Rattle.abi_base.specs.declared.errno.Errno.TheVariants.{Fbig}
use Rattle.abi_structures.specs.declared.structures.FdStat.{FdStat}
use Rattle.abi_types.specs.declared.chan_kind.ChanKind.{ChanKind}
use Rattle.abi_types.specs.Families.{is_anonymous}
use Rattle.abi_types.specs.declared.call.Call.{Call}
use Rattle.abi_types.specs.declared.call.Call.TheVariants as call
use Rattle.abi_types.specs.declared.call.Call.TheVariants.{MemMap}
use Rattle.abi_types.specs.declared.constants.Constants.{Constants}
use Rattle.abi_types.specs.declared.descriptor.Descriptor.{Descriptor}
use Rattle.abi_types.specs.declared.node.Node.{Node}
use Rattle.abi_types.specs.declared.node.NodeKind.TheVariants.{Link}
use Rattle.abi_types.specs.declared.open_kind.OpenKind.{OpenKind}
use Rattle.abi_types.specs.declared.open_kind.OpenKind.TheVariants.{File, Directory, End, Terminal, Process}
use Rattle.abi_types.specs.declared.place.Place.{Place}
use Rattle.abi_types.specs.declared.reply.Reply.{Reply}
use Rattle.abi_types.specs.declared.stream.Stream.{Stream}
use Rattle.abi_types.specs.declared.who.Who.{Who}
use Rattle.maps.specs.Maps.{get-insert-same, get-insert-other}
use Rattle.tree_model.specs.Files.{is_beyond}
use Rattle.kernel_model.specs.Calls.{meaning_of}
use Rattle.kernel_model.specs.Channels.{Channel, Push, hung, full, sends, Pulled, must_wait, pull, push, with_reader_shut, with_writer_shut}
use Rattle.kernel_model.specs.Families.ChannelCalls.{is_nonblocking, picked, read_end, read_from, read_if, receive_open, send_on, send_open, send_to, sent_by, sent_reply, shut_if, waits_unless, written_reply}
use Rattle.kernel_model.specs.Families.ClockCalls.{real_time}
use Rattle.kernel_model.specs.Families.DescriptorCalls.{dup_at, dup_of, lowered_to, lowest_free, replaced_by, stat_get, stat_open, stat_put, stat_set, with_flags}
use Rattle.kernel_model.specs.Families.FileBytes.{overwrites, overwritten, written_count}
use Rattle.kernel_model.specs.Families.FileCalls.{file_fd, file_meaning}
use Rattle.kernel_model.specs.Families.FileMeaning.{on_open, open_of}
use Rattle.kernel_model.specs.Families.FileOffsets.{OffsetOutcome, seek_to, sought, stays, with_offset, write_from, write_place}
use Rattle.kernel_model.specs.Families.FilePaths.{walked}
use Rattle.kernel_model.specs.Families.MemoryCalls.{map_row, map_zeros, mapping}
use Rattle.kernel_model.specs.Families.NameMaking.{making, making_unless, text_error}
use Rattle.kernel_model.specs.Families.NameMeaning.{NameOutcome, Refuses, LeadsOut, Changes, outcome_of}
use Rattle.kernel_model.specs.Families.Numbers.{can_number, next_object, process_updates}
use Rattle.kernel_model.specs.Families.OpenMeaning.{OpenMeaning, at_descriptor}
use Rattle.kernel_model.specs.Families.Opening.{Opened, NotOpened, OpenedOutside, Opens, open_at, open_mode, open_walked, opened_outcome}
use Rattle.kernel_model.specs.Families.ProcessCalls.{end_updates}
use Rattle.kernel_model.specs.Families.SocketCalls.{Pair, pipe, pair, count_of, create, create_updates, made_of, shutting}
use Rattle.kernel_model.specs.Families.StreamCalls.{read_term, reading, seek_row, seeking, write_term, writing}
use Rattle.kernel_model.specs.Families.TreeUpdates.{Change, change_updates, node_update}
use Rattle.kernel_model.specs.Meaning.{Meaning}
use Rattle.kernel_model.specs.OpenLaws.{EndsKeepOpens, IsOfSame, OpensStay, OpensStayOfWhatTheyAre}
use Rattle.kernel_model.specs.Outcome.{Outcome}
use Rattle.kernel_model.specs.Reply.{refused}
use Rattle.kernel_model.specs.Release.{is_ending, release}
use Rattle.kernel_model.specs.State.{State, ProcessState, Table, Tree, Update, put_all, put_one, set_names, set_node, set_open, set_table, tree_of}
use Rattle.kernel_model.specs.Step.{end_unreleased, outcome, step_answer, tick, unreleased}
use Rattle.kernel_model.specs.Valid.{IsNearlyValid}
use Rattle.kernel_model.specs.View.{View, whole}
use Rattle.kernel_model.specs.Waits.{waiting}
use Rattle.kernel_model.proofs.ClockCalls.{drawn_holds}
use Rattle.kernel_model.proofs.FileCalls.{on_open_of}
use Rattle.kernel_model.proofs.FileMeanings.{IsOfTree}
use Rattle.kernel_model.proofs.NameProper.{change_holds}
use Rattle.kernel_model.proofs.ObjectNumbers.{next_is_absent}
use Rattle.kernel_model.proofs.Outcomes.{outcome_holds}
use Rattle.kernel_model.specs.Families.ForkCalls.{child_kind, child_open, listed}
use Rattle.kernel_model.specs.Families.ProcessCalls.{signal_of}
use Rattle.kernel_model.proofs.Births.{fork_holds}
use Rattle.kernel_model.proofs.ExecCalls.{exec_at_holds}
use Rattle.kernel_model.proofs.ProcessCalls.{raise_holds}
use Rattle.kernel_model.proofs.PairCalls.{absent, create_holds, number}
use Rattle.kernel_model.proofs.SocketCalls.{receive_holds}
use Rattle.kernel_model.proofs.ThreadCalls.{left_holds, made_holds}
use Rattle.kernel_model.proofs.Threading.{waits_if_same}
use Rattle.kernel_model.proofs.LockCalls.{signal_holds, unlock_holds}
use Rattle.kernel_model.proofs.Polls.{poll_holds}
use Rattle.kernel_model.proofs.Tests.{none_is_no}
use Rattle.kernel_model.proofs.Touches.{end_is}
use Rattle.kernel_model.proofs.TreeUpdates.{all_of_both, change_of_tree, node_of_tree}
use Rattle.kernel_model.proofs.Valids.{get_released, kept_some, same_value, tick_nearly_valid}

-- ---- opens of the same

pub of_same_itself : (kind : OpenKind) → IsOfSame kind kind
of_same_itself (File node offset flags) = refl
of_same_itself (Directory node flags) = refl
of_same_itself (End reads writes flags form) = (refl, refl, refl)
of_same_itself (Terminal which flags) = refl
of_same_itself (Process p object) = (refl, refl)

of_same_with_flags : (kind : OpenKind) (new : ℕ) → IsOfSame kind (with_flags kind new)
of_same_with_flags (File node offset flags) new = refl
of_same_with_flags (Directory node flags) new = refl
of_same_with_flags (End reads writes flags form) new = (refl, refl, refl)
of_same_with_flags (Terminal which flags) new = refl
of_same_with_flags (Process p object) new = (refl, refl)

-- what is of the same as one of the same is so itself
pub of_same_through : (a b c : OpenKind) → IsOfSame a b → IsOfSame b c → IsOfSame a c
of_same_through (File n offset flags) (File m other_offset other_flags) c h i = subst (λ (k : ℕ). IsOfSame (File k offset flags) c) (sym h) i
of_same_through (Directory n flags) (Directory m other_flags) c h i = subst (λ (k : ℕ). IsOfSame (Directory k flags) c) (sym h) i
of_same_through (End reads writes flags form) (End other_reads other_writes other_flags other_form) c h i =
    subst (λ (r : Option ℕ). IsOfSame (End r writes flags form) c) (sym h.0)
    (subst (λ (w : Option ℕ). IsOfSame (End other_reads w flags form) c) (sym h.1)
    (subst (λ (k : ChanKind). IsOfSame (End other_reads other_writes flags k) c) (sym h.2) i))
of_same_through (Terminal which flags) (Terminal other other_flags) c h i = subst (λ (k : ℕ). IsOfSame (Terminal k flags) c) (sym h) i
of_same_through (Process p object) (Process q other) c h i =
    subst (λ (k : ℕ). IsOfSame (Process k object) c) (sym h.0) (subst (λ (m : ℕ). IsOfSame (Process q m) c) (sym h.1) i)
of_same_through a b c h i = absurd h

pub opens_stay_here : (S : State) → OpensStay S S
opens_stay_here S o before after there now = subst (IsOfSame before) (same_value before after (get S.opens o) there now) (of_same_itself before)

-- ---- updates

-- where the update sets an open that the state has, the new one is of the same
abbrev IsKeeping : State → Update → Type 0
IsKeeping S (set_open o kind) = (before : OpenKind) → get S.opens o ≡ Some before → IsOfSame before kind
IsKeeping S _ = ⊤

abbrev AllKeep : State → List Update → Type 0
AllKeep S us = AllByRecursion (IsKeeping S) us

one_kept : (S : State) (u : Update) (T : State) → OpensStay S T → IsKeeping S u → OpensStay S (put_one u T)
one_kept S (set_open r kind) T stay keeping o before after there now =
    elim (eqb_tells o r) [
      | inl is ↦ (
          let set : get (insert T.opens r kind) r ≡ Some after = subst (λ j. get (insert T.opens r kind) j ≡ Some after) is.1 now in
          let one : kind ≡ after = same_value kind after (get (insert T.opens r kind) r) (get-insert-same T.opens r kind) set in
          subst (IsOfSame before) one (keeping before (subst (λ j. get S.opens j ≡ Some before) is.1 there)))
      | inr other ↦ stay o before after there (sym (get-insert-other T.opens r kind o other.1) ∙ now)
    ]
one_kept S u T stay keeping o before after there now = stay o before after there now

all_kept : (S : State) (us : List Update) (T : State) → OpensStay S T → AllKeep S us → OpensStay S (put_all us T)
all_kept S [] T stay keep = stay
all_kept S (u ∷ us) T stay keep = all_kept S us (put_one u T) (one_kept S u T stay keep.0) keep.1

-- the release only takes opens away
released_stay : (S U : State) → OpensStay S U → OpensStay S (release U)
released_stay S U stay o before after there now =
    stay o before after there (kept_some (not (is_ending U o)) (get U.opens o) after (sym (get_released U o) ∙ now))

-- ---- updates that keep opens

tree_keeps : (S : State) (u : Update) → IsOfTree u → IsKeeping S u
tree_keeps S (set_node n node) h = tt
tree_keeps S (set_names n names) h = tt
tree_keeps S u h = absurd h

trees_keep : (S : State) (us : List Update) → AllByRecursion IsOfTree us → AllKeep S us
trees_keep S [] h = tt
trees_keep S (u ∷ us) h = (tree_keeps S u h.0, trees_keep S us h.1)

process_keeps : (S : State) (p count : ℕ) (own : Option ProcessState) → AllKeep S (process_updates p count own)
process_keeps S p zero own = tt
process_keeps S p (suc count) None = tt
process_keeps S p (suc count) (Some own) = (tt, tt)

-- what a process has made, and a change of the tree
made_keep : (S : State) (p count : ℕ) (own : Option ProcessState) (c : Change) → AllKeep S (process_updates p count own ++ change_updates c)
made_keep S p count own c =
    all_of_both (IsKeeping S) (process_updates p count own) (change_updates c) (process_keeps S p count own)
    (trees_keep S (change_updates c) (change_of_tree c))

-- the open of this number is another one of the same now
moved_keeps : (S : State) (o : ℕ) (kind new : OpenKind) → get S.opens o ≡ Some kind → IsOfSame kind new → IsKeeping S (set_open o new)
moved_keeps S o kind new at same before there = subst (λ (k : OpenKind). IsOfSame k new) (same_value kind before (get S.opens o) at there) same

-- ---- calls

-- what the call sets keeps the opens of a nearly valid state, once it is not refused
abbrev Keeps : Call → Type 0
Keeps call =
    (constants : Constants) (S : State) (who : Who) (table : Table) → IsNearlyValid S
    → AllKeep S ((meaning_of call).effect constants (whole S) who table).updates

-- a call on the open of a descriptor that changes the file tree alone
file_keeps : (called : Call) (fd : ℕ) → file_fd called ≡ Some fd → Keeps called
file_keeps called fd is constants S who table nearly =
    let on = on_open_of called fd is in
    subst (λ (m : Meaning). AllKeep S (m.effect constants (whole S) who table).updates) (sym on.means)
    (trees_keep S ((on_open on.row (file_meaning called)).effect constants (whole S) who table).updates
    (on.well.tree (real_time constants S.clock) (whole S).branch (open_of (whole S) (get table on.row.fd))))

-- mem_map: with zeros it sets nothing, and else it works on an open
map_keeps : (place : Place) (length prot flags fd offset : ℕ) → Keeps (MemMap place length prot flags fd offset)
map_keeps place length prot flags fd offset =
    elim (is_anonymous flags) as (λ b. is_anonymous flags ≡ b → Keeps (MemMap place length prot flags fd offset)) [
      | true ↦ λ is constants S who table nearly.
          subst (λ (m : Meaning). AllKeep S (m.effect constants (whole S) who table).updates)
          (sym (ap (λ b. cond b (map_zeros place) (on_open (map_row fd prot) (mapping place length offset))) is)) tt
      | false ↦ λ is. file_keeps (MemMap place length prot flags fd offset) fd (ap (λ b. cond b None (Some fd)) is)
    ] refl

-- a call that makes, moves or takes away names
named_keep : (S : State) (p new_nodes : ℕ) (own : Option ProcessState) (comes : NameOutcome) → AllKeep S (outcome_of p own new_nodes comes).updates
named_keep S p new_nodes own (Refuses errno) = tt
named_keep S p new_nodes own (LeadsOut component) = tt
named_keep S p new_nodes own (Changes c) =
    change_holds (λ (o : Outcome). AllKeep S o.updates) p new_nodes own c (λ _. tt) (λ _. made_keep S p new_nodes own c)

-- file_open: what it makes is not there yet
module _ (S : State) (p : ℕ) (table : Table) (stat : FdStat) (nearly : IsNearlyValid S) where
  made_keeps : (count : ℕ) (kind : OpenKind) → can_number p (count + 1) (get S.processes p) ≡ true
      → IsKeeping S (set_open (next_object p (get S.processes p) (count + 1)) kind)
  made_keeps count kind can before there =
      absurd (none_is_no before (sym (next_is_absent S p (count + 1) (count + 1) nearly (omega arith) (omega arith) can).0 ∙ there))

  where_can_keeps : (can : Bool) (done refusal : Outcome) → (can ≡ true → AllKeep S done.updates) → AllKeep S refusal.updates
      → AllKeep S (cond can done refusal).updates
  where_can_keeps true done refusal keeps none = keeps refl
  where_can_keeps false done refusal keeps none = none

  opened_keeps : (fd : ℕ) (opened : Opened) → AllKeep S (opened_outcome p (get S.processes p) table stat fd opened).updates
  opened_keeps fd (NotOpened errno) = tt
  opened_keeps fd (OpenedOutside component) = tt
  opened_keeps fd (Opens kind c count) =
      where_can_keeps (can_number p (count + 1) (get S.processes p)) _ _
      (λ can. (made_keeps count kind can, (tt, made_keep S p (count + 1) (get S.processes p) c))) tt

  open_keeps : (opened : Opened) (number : Option ℕ) → AllKeep S (open_at p (get S.processes p) table stat opened number).updates
  open_keeps opened None = tt
  open_keeps opened (Some fd) = opened_keeps fd opened

-- ---- calls that may make another open of that of a descriptor

-- what it sets keeps the state's opens, where this is the open of this number
abbrev MeaningKeeps : OpenMeaning → Type 0
MeaningKeeps m = (now : ℕ) (S : State) (v : View) (o : ℕ) (kind : Option OpenKind) → get S.opens o ≡ kind → AllKeep S (m.effect now v o kind).updates

module _ (m : OpenMeaning) (keeps : MeaningKeeps m) where
  descriptor_keeps : (now : ℕ) (S : State) (d : Option Descriptor) → AllKeep S (at_descriptor (m.effect now (whole S)) (whole S) d).updates
  descriptor_keeps now S None = tt
  descriptor_keeps now S (Some d) = keeps now S (whole S) d.id (get S.opens d.id) refl

write_term_keeps : (S : State) (bytes : List ℕ) (which : ℕ) (stream : Option Stream) → AllKeep S (write_term bytes which stream).updates
write_term_keeps S bytes which None = tt
write_term_keeps S bytes which (Some stream) = (tt, tt)

either_keeps : (S : State) (o : ℕ) (b : Bool) (m n : OffsetOutcome) → AllKeep S (with_offset o m).updates → AllKeep S (with_offset o n).updates
    → AllKeep S (with_offset o (cond b m n)).updates
either_keeps S o true m n first second = first
either_keeps S o false m n first second = second

write_from_keeps : (S : State) (t : Tree) (o node offset flags now at : ℕ) (bytes : List ℕ) → get S.opens o ≡ Some (File node offset flags)
    → AllKeep S (with_offset o (write_from t node flags now at bytes)).updates
write_from_keeps S t o node offset flags now at [] there = tt
write_from_keeps S t o node offset flags now at (b ∷ bytes) there =
    let written : Option Node = get (overwritten t node now at (b ∷ bytes)).nodes node in
    let moved : OpenKind = File node (at + written_count at (b ∷ bytes)) flags in
    either_keeps S o (is_beyond at (b ∷ bytes)) (stays (refused Fbig)) (record { outcome = overwrites t node now at (b ∷ bytes); moved = Some moved }) tt
    (all_of_both (IsKeeping S) (node_update node written) (set_open o moved ∷ []) (trees_keep S (node_update node written) (node_of_tree node written))
    (moved_keeps S o (File node offset flags) moved there refl, tt))

-- ---- ends of channels

waits_keep : (S : State) (nonblocking : Bool) → AllKeep S (waits_unless nonblocking).updates
waits_keep S true = tt
waits_keep S false = tt

sent_keeps : (S : State) (reply : ℕ → Reply) (nonblocking : Bool) (c : ℕ) (p : Push) → AllKeep S (sent_by reply nonblocking c p).updates
sent_keeps S reply nonblocking c hung = tt
sent_keeps S reply nonblocking c full = waits_keep S nonblocking
sent_keeps S reply nonblocking c (sends count channel) = (tt, tt)

send_keeps : (S : State) (reply : ℕ → Reply) (v : View) (flags : ℕ) (bytes : List ℕ) (carried : List Descriptor) (writes : Option ℕ)
    → AllKeep S (send_on reply v flags bytes carried writes).updates
send_keeps S reply v flags [] carried writes = tt
send_keeps S reply v flags (b ∷ bytes) carried None = tt
send_keeps S reply v flags (b ∷ bytes) carried (Some c) =
    elim (v.channel c) as (λ (x : Option Channel). AllKeep S (send_to reply (is_nonblocking flags) (b ∷ bytes) carried c x).updates) [
      | None ↦ tt
      | Some channel ↦ sent_keeps S reply (is_nonblocking flags) c (push (b ∷ bytes) carried channel)
    ]

send_open_keeps : (S : State) (v : View) (bytes : List ℕ) (carried : List Descriptor) (kind : Option OpenKind) → AllKeep S (send_open v bytes carried kind).updates
send_open_keeps S v bytes carried None = tt
send_open_keeps S v bytes carried (Some (File node offset flags)) = tt
send_open_keeps S v bytes carried (Some (Directory node flags)) = tt
send_open_keeps S v bytes carried (Some (End None writes flags form)) = tt
send_open_keeps S v bytes carried (Some (End (Some r) None flags form)) = tt
send_open_keeps S v bytes carried (Some (End (Some r) (Some w) flags form)) = send_keeps S sent_reply v flags bytes carried (Some w)
send_open_keeps S v bytes carried (Some (Terminal which flags)) = tt
send_open_keeps S v bytes carried (Some (Process p object)) = tt

send_at_keeps : (S : State) (v : View) (bytes : List ℕ) (carried : List Descriptor) (d : Option Descriptor)
    → AllKeep S (at_descriptor (λ o. send_open v bytes carried) v d).updates
send_at_keeps S v bytes carried None = tt
send_at_keeps S v bytes carried (Some d) = send_open_keeps S v bytes carried (v.opened d.id)

read_if_keeps : (S : State) (waits nonblocking : Bool) (c : ℕ) (pulled : Pulled) → AllKeep S (read_if waits nonblocking c pulled).updates
read_if_keeps S true nonblocking c pulled = waits_keep S nonblocking
read_if_keeps S false nonblocking c pulled = (tt, tt)

read_end_keeps : (S : State) (v : View) (n flags : ℕ) (reads : Option ℕ) → AllKeep S (read_end v n flags reads).updates
read_end_keeps S v n flags None = tt
read_end_keeps S v n flags (Some c) =
    elim (v.channel c) as (λ (x : Option Channel). AllKeep S (read_from n (is_nonblocking flags) c x).updates) [
      | None ↦ tt
      | Some channel ↦ read_if_keeps S (must_wait n channel) (is_nonblocking flags) c (pull n channel)
    ]

receive_at_keeps : (S : State) (p : ℕ) (table : Table) (n room flags : ℕ) (v : View) (d : Option Descriptor)
    → AllKeep S (at_descriptor (λ o. receive_open p table v n room flags) v d).updates
receive_at_keeps S p table n room flags v None = tt
receive_at_keeps S p table n room flags v (Some d) =
    receive_holds p table v n room flags (λ (x : Outcome). AllKeep S x.updates) (λ errno here. tt) tt (λ bytes. tt) (v.opened d.id)
    (λ c w mode form channel installed is there made. (tt, (tt, tt)))

shut_keeps : (S : State) (first : Bool) (r : ℕ) (x : Option Channel) (second : Bool) (w : ℕ) (y : Option Channel)
    → AllKeep S (shut_if first with_reader_shut r x ++ shut_if second with_writer_shut w y)
shut_keeps S true r (Some x) true w (Some y) = (tt, (tt, tt))
shut_keeps S true r (Some x) true w None = (tt, tt)
shut_keeps S true r (Some x) false w y = (tt, tt)
shut_keeps S true r None true w (Some y) = (tt, tt)
shut_keeps S true r None true w None = tt
shut_keeps S true r None false w y = tt
shut_keeps S false r x true w (Some y) = (tt, tt)
shut_keeps S false r x true w None = tt
shut_keeps S false r x false w y = tt

shut_open_keeps : (how : ℕ) → MeaningKeeps (shutting how)
shut_open_keeps how now S v o None there = tt
shut_open_keeps how now S v o (Some (File node offset flags)) there = tt
shut_open_keeps how now S v o (Some (Directory node flags)) there = tt
shut_open_keeps how now S v o (Some (End None writes flags form)) there = tt
shut_open_keeps how now S v o (Some (End (Some r) None flags form)) there = tt
shut_open_keeps how now S v o (Some (End (Some r) (Some w) flags form)) there =
    shut_keeps S (not (bit_and how 1 == 0)) r (v.channel r) (not (bit_and how 2 == 0)) w (v.channel w)
shut_open_keeps how now S v o (Some (Terminal which flags)) there = tt
shut_open_keeps how now S v o (Some (Process p object)) there = tt

-- two ends that are made weren't there
pair_keeps : (S : State) (p : ℕ) (own : ProcessState) → get S.processes p ≡ Some own → IsNearlyValid S → (table : Table) (first second : ℕ) (made : Pair)
    → can_number p (count_of made) (Some own) ≡ true → AllKeep S (create_updates made p (Some own) table first second)
pair_keeps S p own there v table first second pipe can =
    (tt, (tt, (new 2 (omega arith) (omega arith) _, (new 3 (omega arith) (omega arith) _, (tt, tt))))) where
      new : (k : ℕ) → 1 ≤ k → k ≤ 3 → (kind : OpenKind) → IsKeeping S (set_open (number S p own there v 2 can k) kind)
      new k some within kind before is = absurd (none_is_no before (sym (absent S p own there v 2 can k some within).0 ∙ is))
pair_keeps S p own there v table first second pair can =
    (tt, (tt, (tt, (new 3 (omega arith) (omega arith) _, (new 4 (omega arith) (omega arith) _, (tt, tt)))))) where
      new : (k : ℕ) → 1 ≤ k → k ≤ 4 → (kind : OpenKind) → IsKeeping S (set_open (number S p own there v 3 can k) kind)
      new k some within kind before is = absurd (none_is_no before (sym (absent S p own there v 3 can k some within).0 ∙ is))

create_keeps : (S : State) (p t : ℕ) (table : Table) (made : Option Pair) → IsNearlyValid S → AllKeep S (create made p t (get S.processes p) table).updates
create_keeps S p t table made v =
    create_holds p t (get S.processes p) table (λ (x : Outcome). AllKeep S x.updates) (λ errno here. tt) made
    (λ m is first second own one two there some can.
    subst (λ (o : Option ProcessState). AllKeep S (create_updates m p o table first second)) (sym there)
    (pair_keeps S p own there v table first second m can))

-- ---- opens that are written and read

write_keeps : (bytes : List ℕ) → MeaningKeeps (writing bytes)
write_keeps bytes now S v o None there = tt
write_keeps bytes now S v o (Some (Terminal which flags)) there = write_term_keeps S bytes which (v.term which)
write_keeps bytes now S v o (Some (File node offset flags)) there =
    write_from_keeps S v.branch o node offset flags now (write_place v.branch node offset flags) bytes there
write_keeps bytes now S v o (Some (Directory node flags)) there = tt
write_keeps bytes now S v o (Some (End reads writes flags form)) there = send_keeps S written_reply v flags bytes [] writes
write_keeps bytes now S v o (Some (Process p object)) there = tt

read_term_keeps : (S : State) (n which : ℕ) (stream : Option Stream) → AllKeep S (read_term n which stream).updates
read_term_keeps S n which None = tt
read_term_keeps S n which (Some stream) = (tt, tt)

read_keeps : (n : ℕ) → MeaningKeeps (reading n)
read_keeps n now S v o None there = tt
read_keeps n now S v o (Some (Terminal which flags)) there = read_term_keeps S n which (v.term which)
read_keeps n now S v o (Some (File node offset flags)) there = (moved_keeps S o (File node offset flags) (File node _ flags) there refl, tt)
read_keeps n now S v o (Some (Directory node flags)) there = tt
read_keeps n now S v o (Some (End reads writes flags form)) there = read_end_keeps S v n flags reads
read_keeps n now S v o (Some (Process p object)) there = tt

seek_to_keeps : (S : State) (o node offset flags : ℕ) (place : Option ℕ) → get S.opens o ≡ Some (File node offset flags)
    → AllKeep S (with_offset o (seek_to node flags place)).updates
seek_to_keeps S o node offset flags None there = tt
seek_to_keeps S o node offset flags (Some place) there = (moved_keeps S o (File node offset flags) (File node place flags) there refl, tt)

seek_keeps : (bits whence : ℕ) → MeaningKeeps (seeking bits whence)
seek_keeps bits whence now S v o None there = tt
seek_keeps bits whence now S v o (Some (Terminal which flags)) there = tt
seek_keeps bits whence now S v o (Some (File node offset flags)) there =
    seek_to_keeps S o node offset flags (sought v.branch node offset bits whence) there
seek_keeps bits whence now S v o (Some (Directory node flags)) there = tt
seek_keeps bits whence now S v o (Some (End reads writes flags form)) there = tt
seek_keeps bits whence now S v o (Some (Process p object)) there = tt

-- ---- calls on descriptors themselves

dup_keeps : (S : State) (p : ℕ) (table : Table) (d : Option Descriptor) → AllKeep S (dup_of p table d).updates
dup_keeps S p table None = tt
dup_keeps S p table (Some d) =
    elim (lowest_free table) as (λ (n : Option ℕ). AllKeep S (dup_at p table d n).updates) [
      | None ↦ tt
      | Some n ↦ (tt, tt)
    ]

replaced_keeps : (S : State) (p : ℕ) (table : Table) (to : ℕ) (d : Option Descriptor) → AllKeep S (replaced_by p table to d).updates
replaced_keeps S p table to None = tt
replaced_keeps S p table to (Some d) = (tt, tt)

stat_open_keeps : (S : State) (d : Descriptor) (kind : Option OpenKind) → AllKeep S (stat_open d kind).updates
stat_open_keeps S d None = tt
stat_open_keeps S d (Some kind) = tt

stat_keeps : (S : State) (v : View) (d : Option Descriptor) → AllKeep S (stat_get v d).updates
stat_keeps S v None = tt
stat_keeps S v (Some d) = stat_open_keeps S d (v.opened d.id)

-- fd_stat_put: each of the two updates may be there or not
updates_keep : (S : State) (o p : ℕ) (kind : OpenKind) (new : Table) (no_flags no_rights : Bool) → IsKeeping S (set_open o kind)
    → AllKeep S (cond no_flags [] (set_open o kind ∷ []) ++ cond no_rights [] (set_table p new ∷ []))
updates_keep S o p kind new true true keeps = tt
updates_keep S o p kind new true false keeps = (tt, tt)
updates_keep S o p kind new false true keeps = (keeps, tt)
updates_keep S o p kind new false false keeps = (keeps, (tt, tt))

set_stat_keeps : (S : State) (p : ℕ) (table : Table) (fd : ℕ) (stat : FdStat) (flags : ℕ) (d : Descriptor) (kind : Option OpenKind)
    → get S.opens d.id ≡ kind → AllKeep S (stat_set p table fd stat flags d kind).updates
set_stat_keeps S p table fd stat flags d None there = tt
set_stat_keeps S p table fd stat flags d (Some kind) there =
    updates_keep S d.id p (with_flags kind stat.flags) (insert table fd (lowered_to d stat)) (bit_and flags 1 == 0) (bit_and flags 2 == 0)
    (moved_keeps S d.id kind (with_flags kind stat.flags) there (of_same_with_flags kind stat.flags))

put_keeps : (S : State) (p : ℕ) (table : Table) (fd : ℕ) (stat : FdStat) (flags : ℕ) (d : Option Descriptor)
    → AllKeep S (stat_put (whole S) p table fd stat flags d).updates
put_keeps S p table fd stat flags None = tt
put_keeps S p table fd stat flags (Some d) = set_stat_keeps S p table fd stat flags d (get S.opens d.id) refl

-- the open of a child that is made wasn't there
child_keeps : (S : State) (p : ℕ) (own : ProcessState) → get S.processes p ≡ Some own → IsNearlyValid S → can_number p 2 (Some own) ≡ true
    → (kind : OpenKind) → IsKeeping S (set_open (child_open p own) kind)
child_keeps S p own there v can kind before is =
    absurd (none_is_no before (sym (absent S p own there v 1 can 2 (omega arith) (omega arith)).0 ∙ is))

-- ---- all of them

keeps : (call : Call) → Keeps call
keeps (call.ClockResGet clock) constants S who table nearly = tt
keeps (call.ClockTimeGet clock precision) constants S who table nearly = tt
keeps (call.CondvarSignal condvar word scope n) constants S who table nearly =
    signal_holds (λ (o : Outcome). AllKeep S o.updates) who.pid condvar n (get S.processes who.pid) (λ _. tt) (λ own there. (tt, tt))
keeps (call.FdClose fd) constants S who table nearly = (tt, tt)
keeps (call.FdCreate1 kind) constants S who table nearly = tt
keeps (call.FdCreate2 kind) constants S who table nearly = create_keeps S who.pid who.tid table (made_of kind) nearly
keeps (call.FdDatasync fd) constants S who table nearly = tt
keeps (call.FdDup fd) constants S who table nearly = dup_keeps S who.pid table (get table fd)
keeps (call.FdPread fd length offset) constants S who table nearly = file_keeps (call.FdPread fd length offset) fd refl constants S who table nearly
keeps (call.FdPwrite fd bytes offset) constants S who table nearly = file_keeps (call.FdPwrite fd bytes offset) fd refl constants S who table nearly
keeps (call.FdRead fd length) constants S who table nearly = descriptor_keeps (reading length) (read_keeps length) (real_time constants S.clock) S (get table fd)
keeps (call.FdReplace from to) constants S who table nearly = replaced_keeps S who.pid table to (get table from)
keeps (call.FdSeek fd offset whence) constants S who table nearly = descriptor_keeps (seeking offset whence) (seek_keeps offset whence) (real_time constants S.clock) S (get table (seek_row fd offset whence).fd)
keeps (call.FdStatGet fd) constants S who table nearly = stat_keeps S (whole S) (get table fd)
keeps (call.FdStatPut fd stat flags) constants S who table nearly = put_keeps S who.pid table fd stat flags (get table fd)
keeps (call.FdSync fd) constants S who table nearly = tt
keeps (call.FdWrite fd bytes) constants S who table nearly = descriptor_keeps (writing bytes) (write_keeps bytes) (real_time constants S.clock) S (get table fd)
keeps (call.FileAdvise fd offset length advice) constants S who table nearly = tt
keeps (call.FileAllocate fd offset length) constants S who table nearly = file_keeps (call.FileAllocate fd offset length) fd refl constants S who table nearly
keeps (call.FileCreate fd path kind) constants S who table nearly = named_keep S who.pid 1 (get S.processes who.pid) _
keeps (call.FileLink lookup path new_fd new_path) constants S who table nearly = named_keep S who.pid 0 (get S.processes who.pid) _
keeps (call.FileOpen lookup path oflags stat) constants S who table nearly =
    open_keeps S who.pid table stat nearly
    (open_walked oflags stat.flags path (real_time constants S.clock) (next_object who.pid (get S.processes who.pid) 1) (tree_of S)
    (walked (tree_of S) (open_mode oflags lookup.flags) path (open_of (whole S) (get table lookup.fd))))
    (lowest_free table)
keeps (call.FileReaddir fd length cookie) constants S who table nearly = file_keeps (call.FileReaddir fd length cookie) fd refl constants S who table nearly
keeps (call.FileReadlink fd path length) constants S who table nearly = file_keeps (call.FileReadlink fd path length) fd refl constants S who table nearly
keeps (call.FileRename fd path new_fd new_path) constants S who table nearly = named_keep S who.pid 0 (get S.processes who.pid) _
keeps (call.FileStatFget fd) constants S who table nearly = file_keeps (call.FileStatFget fd) fd refl constants S who table nearly
keeps (call.FileStatFput fd stat flags) constants S who table nearly = file_keeps (call.FileStatFput fd stat flags) fd refl constants S who table nearly
keeps (call.FileStatGet lookup path) constants S who table nearly = file_keeps (call.FileStatGet lookup path) lookup.fd refl constants S who table nearly
keeps (call.FileStatPut lookup path stat flags) constants S who table nearly = file_keeps (call.FileStatPut lookup path stat flags) lookup.fd refl constants S who table nearly
keeps (call.FileSymlink text fd path) constants S who table nearly = named_keep S who.pid (making_unless (text_error text) (making (Link text) path)).new_nodes (get S.processes who.pid) _
keeps (call.FileUnlink fd path flags) constants S who table nearly = named_keep S who.pid 0 (get S.processes who.pid) _
keeps (call.LockUnlock lock word scope) constants S who table nearly =
    unlock_holds (λ (o : Outcome). AllKeep S o.updates) who.pid who.tid lock word (get S.processes who.pid) tt (λ own new there. (tt, tt))
keeps (call.MemMap place length prot flags fd offset) constants S who table nearly = map_keeps place length prot flags fd offset constants S who table nearly
keeps (call.Memory number errno) constants S who table nearly = tt
keeps (call.Poll subscriptions) constants S who table nearly =
    poll_holds (λ (o : Outcome). AllKeep S o.updates)
    (record { told = λ event more. tt; tells = λ userdata what errno writes. tt; waits = λ writes awake. tt; sleeps = λ p condvar lock own. (tt, tt) })
    subscriptions constants (whole S) who table
keeps (call.ProcExec fd bytes fds) constants S who table nearly =
    exec_at_holds constants.key who.pid who.tid (listed table fds) (whole S) (λ (o : Outcome). AllKeep S o.updates) (λ errno here other. tt) (get table fd)
    (λ x node own is program there. (tt, (tt, tt)))
keeps (call.ProcExit code) constants S who table nearly = (tt, (tt, tt))
keeps (call.ProcFork left) constants S who table nearly =
    fork_holds left who.pid who.tid (get S.processes who.pid) table (lowest_free table) (λ (o : Outcome). AllKeep S o.updates) (λ errno here other. tt)
    (λ fd own free there can.
    (tt, (tt, (tt, (tt, (child_keeps S who.pid own there nearly can.number (child_kind who.pid own), (tt, tt)))))))
keeps (call.ProcRaise signal) constants S who table nearly =
    raise_holds (λ (o : Outcome). AllKeep S o.updates) who.pid (λ errno here. tt) tt (λ found. (tt, (tt, tt))) (signal_of signal)
keeps (call.RandomGet length) constants S who table nearly =
    drawn_holds (λ (o : Outcome). AllKeep S o.updates) constants who.pid (get S.processes who.pid) length tt (λ own _. (tt, tt))
keeps (call.SockRecv fd length fds flags) constants S who table nearly = receive_at_keeps S who.pid table length fds flags (whole S) (get table fd)
keeps (call.SockSend fd bytes fds flags) constants S who table nearly = send_at_keeps S (whole S) bytes (picked table fds) (get table fd)
keeps (call.SockShutdown fd how) constants S who table nearly =
    descriptor_keeps (shutting how) (shut_open_keeps how) (real_time constants S.clock) S (get table fd)
keeps (call.ThreadCreate attributes) constants S who table nearly =
    made_holds (λ (o : Outcome). AllKeep S o.updates) who.pid who.tid (get S.processes who.pid) tt (λ own _ _. (tt, tt))
keeps (call.ThreadExit lock word scope) constants S who table nearly =
    left_holds (λ (o : Outcome). AllKeep S o.updates) who.pid who.tid lock word (get S.processes who.pid) tt
    (λ own new _ _ _. (tt, (tt, tt))) (λ own new _ _ _. (tt, tt))
keeps call.ThreadYield constants S who table nearly = tt
keeps (call.Refused number errno) constants S who table nearly = tt
keeps (call.Unknown number) constants S who table nearly = tt

-- ---- steps

-- after what a call sets the state's opens are of what they were of
outcome_keeps : (constants : Constants) (S : State) (who : Who) (call : Call) → IsNearlyValid S → AllKeep S (outcome constants S who call).updates
outcome_keeps constants S who call nearly =
    outcome_holds (λ (o : Outcome). AllKeep (tick S) o.updates) constants S who call (λ reply is. tt)
    (λ table there. keeps call constants (tick S) who table (tick_nearly_valid S nearly))

pub opens_stay : OpensStayOfWhatTheyAre
opens_stay constants S who call given T valid (inl done) =
    let set : OpensStay S (unreleased constants S who call) =
    waits_if_same (OpensStay S) (step_answer constants S who call) who (waiting constants call who (S.clock + 1000))
    (put_all (outcome constants S who call).updates (tick S)) (λ stay. stay)
    (all_kept S (outcome constants S who call).updates (tick S) (opens_stay_here S) (outcome_keeps constants S who call valid.nearly)) in
    subst (OpensStay S) (sym done.1) (released_stay S (unreleased constants S who call) set)
opens_stay constants S who call given T valid (inr lacking) = subst (OpensStay S) (sym lacking.2) (opens_stay_here S)

pub ends_keep_opens : EndsKeepOpens
ends_keep_opens S p status =
    subst (OpensStay S) (sym (end_is S p status))
    (released_stay S (end_unreleased S p status) (all_kept S (end_updates p status) (tick S) (opens_stay_here S) (tt, (tt, tt))))
