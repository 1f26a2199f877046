-- In which calls a thread waits: polls, reads and writes of ends, and sends and receives on sockets.
--     parks      whether it does, by what such a call looks at
--     effect_parks      so it is by what the call means
--     offset_parks, socket_parks      by the views of such calls
--     other_parks      a call of another family never waits
--     all_sent      where a call isn't refused each descriptor that it sends is there
use Rattle.std.proofs.Common.{◌≡◌, ◌≢◌, ℕ, ◌+◌, Bool, true, false, cond, List, [], ◌∷◌, Option, Some, None, is_some, refl, sym, ap, subst, ◌∙◌}
use Rattle.std.specs.Ordering.{nat_cmp}
use Rattle.std.specs.FinMap.{FinMap, get}
use Rattle.std.specs.Prelude.{take}
use Rattle.abi_base.specs.declared.errno.Errno.TheVariants.{Badf, Fbig}
use Rattle.abi_structures.specs.declared.events.Subscription.{Subscription}
use Rattle.abi_types.specs.declared.chan_kind.ChanKind.{ChanKind}
use Rattle.abi_types.specs.Families.{IsOf, answer_of, call_of_change, call_of_entry, call_of_file, call_of_offset, call_of_socket, fd_of_offset, is_anonymous, is_unbuilt, zeros_of}
use Rattle.abi_types.specs.declared.call.Call.{Call}
use Rattle.abi_types.specs.declared.call.Call.TheVariants as call
use Rattle.abi_types.specs.declared.constants.Constants.{Constants}
use Rattle.abi_types.specs.declared.descriptor.Descriptor.{Descriptor}
use Rattle.abi_types.specs.declared.family.DescriptorChange.{DescriptorChange}
use Rattle.abi_types.specs.declared.family.DescriptorChange.TheVariants.{Close, Dup, Replace, StatPut}
use Rattle.abi_types.specs.declared.family.EntryCall.{EntryCall}
use Rattle.abi_types.specs.declared.family.EntryCall.TheVariants as entry
use Rattle.abi_types.specs.declared.family.Family.{Family}
use Rattle.abi_types.specs.declared.family.Family.TheVariants as family
use Rattle.abi_types.specs.declared.family.FileCall.{FileCall}
use Rattle.abi_types.specs.declared.family.FileCall.TheVariants as file
use Rattle.abi_types.specs.declared.family.OffsetCall.{OffsetCall}
use Rattle.abi_types.specs.declared.family.OffsetCall.TheVariants as offset
use Rattle.abi_types.specs.declared.family.SocketCall.{SocketCall}
use Rattle.abi_types.specs.declared.family.SocketCall.TheVariants as socket
use Rattle.abi_types.specs.declared.open_kind.OpenKind.{OpenKind}
use Rattle.abi_types.specs.declared.open_kind.OpenKind.TheVariants.{File, Directory, End, Terminal, Process}
use Rattle.abi_types.specs.declared.reply.Reply.{Reply}
use Rattle.abi_types.specs.declared.status.Status.{Status}
use Rattle.abi_types.specs.declared.stream.Stream.{Stream}
use Rattle.abi_types.specs.declared.who.Who.{Who}
use Rattle.channel_calls.specs.Calls.{HasAllSent}
use Rattle.kernel_model.specs.Calls.{meaning_of, named, refusal}
use Rattle.tree_model.specs.Files.{is_beyond}
use Rattle.kernel_model.specs.Channels.{Channel, Pulled, pull}
use Rattle.kernel_model.specs.Families.ChannelCalls.{Installed, install, is_nonblocking, must_wait_by, peeks, picked, received_if, received_with, receive_from, receive_open, send_open, taken_if, truncated}
use Rattle.kernel_model.specs.Families.FileBytes.{overwrites, written_count}
use Rattle.kernel_model.specs.Families.FileMeaning.{on_open}
use Rattle.kernel_model.specs.Families.FileOffsets.{OffsetOutcome, stays, write_from, write_place}
use Rattle.kernel_model.specs.Families.MemoryCalls.{map_row, map_zeros, mapping}
use Rattle.kernel_model.specs.Families.OpenMeaning.{at_descriptor}
use Rattle.kernel_model.specs.Families.StreamCalls.{read_open, read_term, write_open, write_term}
use Rattle.kernel_model.specs.Laws.{HasAll}
use Rattle.kernel_model.specs.Need.{some_absent}
use Rattle.kernel_model.specs.Outcome.{Outcome, is_parked}
use Rattle.kernel_model.specs.Reply.{refused}
use Rattle.kernel_model.specs.State.{State, Table}
use Rattle.kernel_model.specs.View.{View, whole}
use Rattle.kernel_model.specs.Waits.{may_wait}
use Rattle.kernel_model.proofs.Calls.{proper}
use Rattle.kernel_model.proofs.Lacks.{all_present}
use Rattle.kernel_model.proofs.Parking.{denied_is_not_parked, waits_only}
use Rattle.kernel_model.proofs.Tests.{none_is_no, not_true}
use Rattle.kernel_parts.specs.Entries.{open_in}
use Rattle.poll_set.specs.Polls.{poll_outcome}
use Rattle.kernel_parts.specs.Waiting.{end_at, fd_of_socket, socket_at}
use Rattle.kernel_parts.proofs.NoPolls.{either_meaning}
use Rattle.poll_set.proofs.PollReads.{poll_by_stage, poll_reads}

-- whether a call waits that isn't refused, by all that it looks at
abbrev pub parks : Constants → FinMap nat_cmp OpenKind → FinMap nat_cmp Channel → FinMap nat_cmp Status → ℕ → Table → ℕ → Call → Bool
parks constants opens channels statuses now table since (call.Poll subscriptions) = is_parked (poll_outcome constants opens channels statuses now table since subscriptions).answer
parks constants opens channels statuses now table since (call.FdRead fd n) = is_parked (end_at channels (open_in opens (get table fd)) (call.FdRead fd n)).answer
parks constants opens channels statuses now table since (call.FdWrite fd bytes) =
    is_parked (end_at channels (open_in opens (get table fd)) (call.FdWrite fd bytes)).answer
parks constants opens channels statuses now table since (call.SockRecv fd n room flags) =
    is_parked (socket_at 0 table channels (open_in opens (get table fd)) (call.SockRecv fd n room flags)).answer
parks constants opens channels statuses now table since (call.SockSend fd bytes fds flags) =
    is_parked (socket_at 0 table channels (open_in opens (get table fd)) (call.SockSend fd bytes fds flags)).answer
parks constants opens channels statuses now table since _ = false

-- ---- what each of these calls means

module _ (S : State) where
  from_term : (n which : ℕ) (stream : Option Stream) → is_parked (read_term n which stream).answer ≡ false
  from_term n which None = refl
  from_term n which (Some stream) = refl

  read_parks : (fd n o : ℕ) (kind : Option OpenKind)
      → is_parked (read_open (whole S) n o kind).answer ≡ is_parked (end_at S.chans kind (call.FdRead fd n)).answer
  read_parks fd n o None = refl
  read_parks fd n o (Some (File node offset flags)) = refl
  read_parks fd n o (Some (Directory node flags)) = refl
  read_parks fd n o (Some (End None writes flags form)) = refl
  read_parks fd n o (Some (End (Some c) writes flags form)) = refl
  read_parks fd n o (Some (Terminal which flags)) = from_term n which (get S.terms which)
  read_parks fd n o (Some (Process p object)) = refl

  read_at : (fd n : ℕ) (d : Option Descriptor)
      → is_parked (at_descriptor (read_open (whole S) n) (whole S) d).answer ≡ is_parked (end_at S.chans (open_in S.opens d) (call.FdRead fd n)).answer
  read_at fd n None = refl
  read_at fd n (Some d) = read_parks fd n d.id (get S.opens d.id)

  to_term : (bytes : List ℕ) (which : ℕ) (stream : Option Stream) → is_parked (write_term bytes which stream).answer ≡ false
  to_term bytes which None = refl
  to_term bytes which (Some stream) = refl

  -- what a write of some bytes makes of a file
  abbrev moved_by : ℕ → ℕ → ℕ → ℕ → List ℕ → OffsetOutcome
  moved_by node flags now at bytes = record {
    outcome = overwrites (whole S).branch node now at bytes;
    moved = Some (File node (at + written_count at bytes) flags);
  }

  to_file : (node flags now at : ℕ) (bytes : List ℕ) → is_parked (write_from (whole S).branch node flags now at bytes).outcome.answer ≡ false
  to_file node flags now at [] = refl
  to_file node flags now at (b ∷ bytes) =
      elim (is_beyond at (b ∷ bytes)) as (λ beyond. is_parked (cond beyond (stays (refused Fbig)) (moved_by node flags now at (b ∷ bytes))).outcome.answer ≡ false) [
        | true ↦ refl
        | false ↦ refl
      ]

  write_end : (fd now o : ℕ) (bytes : List ℕ) (reads writes : Option ℕ) (flags : ℕ) (form : ChanKind)
      → is_parked (write_open now (whole S) bytes o (Some (End reads writes flags form))).answer
      ≡ is_parked (end_at S.chans (Some (End reads writes flags form)) (call.FdWrite fd bytes)).answer
  write_end fd now o [] reads writes flags form = refl
  write_end fd now o (b ∷ bytes) reads None flags form = refl
  write_end fd now o (b ∷ bytes) reads (Some c) flags form = refl

  write_parks : (fd now o : ℕ) (bytes : List ℕ) (kind : Option OpenKind)
      → is_parked (write_open now (whole S) bytes o kind).answer ≡ is_parked (end_at S.chans kind (call.FdWrite fd bytes)).answer
  write_parks fd now o bytes None = refl
  write_parks fd now o bytes (Some (File node offset flags)) = to_file node flags now (write_place (whole S).branch node offset flags) bytes
  write_parks fd now o bytes (Some (Directory node flags)) = refl
  write_parks fd now o bytes (Some (End reads writes flags form)) = write_end fd now o bytes reads writes flags form
  write_parks fd now o bytes (Some (Terminal which flags)) = to_term bytes which (get S.terms which)
  write_parks fd now o bytes (Some (Process p object)) = refl

  write_at : (fd now : ℕ) (bytes : List ℕ) (d : Option Descriptor)
      → is_parked (at_descriptor (write_open now (whole S) bytes) (whole S) d).answer
      ≡ is_parked (end_at S.chans (open_in S.opens d) (call.FdWrite fd bytes)).answer
  write_at fd now bytes None = refl
  write_at fd now bytes (Some d) = write_parks fd now d.id bytes (get S.opens d.id)

  send_end : (fd : ℕ) (bytes fds : List ℕ) (flags r w mode : ℕ) (form : ChanKind) (table : Table)
      → is_parked (send_open (whole S) bytes (picked table fds) (Some (End (Some r) (Some w) mode form))).answer
      ≡ is_parked (socket_at 0 table S.chans (Some (End (Some r) (Some w) mode form)) (call.SockSend fd bytes fds flags)).answer
  send_end fd [] fds flags r w mode form table = refl
  send_end fd (b ∷ bytes) fds flags r w mode form table = refl

  send_parks : (fd : ℕ) (bytes fds : List ℕ) (flags : ℕ) (table : Table) (kind : Option OpenKind)
      → is_parked (send_open (whole S) bytes (picked table fds) kind).answer
      ≡ is_parked (socket_at 0 table S.chans kind (call.SockSend fd bytes fds flags)).answer
  send_parks fd bytes fds flags table None = refl
  send_parks fd bytes fds flags table (Some (File node offset mode)) = refl
  send_parks fd bytes fds flags table (Some (Directory node mode)) = refl
  send_parks fd bytes fds flags table (Some (End None writes mode form)) = refl
  send_parks fd bytes fds flags table (Some (End (Some r) None mode form)) = refl
  send_parks fd bytes fds flags table (Some (End (Some r) (Some w) mode form)) = send_end fd bytes fds flags r w mode form table
  send_parks fd bytes fds flags table (Some (Terminal which mode)) = refl
  send_parks fd bytes fds flags table (Some (Process p object)) = refl

  send_at : (fd : ℕ) (bytes fds : List ℕ) (flags : ℕ) (table : Table) (d : Option Descriptor)
      → is_parked (at_descriptor (λ o. send_open (whole S) bytes (picked table fds)) (whole S) d).answer
      ≡ is_parked (socket_at 0 table S.chans (open_in S.opens d) (call.SockSend fd bytes fds flags)).answer
  send_at fd bytes fds flags table None = refl
  send_at fd bytes fds flags table (Some d) = send_parks fd bytes fds flags table (get S.opens d.id)

  -- a receive waits or not whichever the process is
  put_alike : (p q c : ℕ) (bytes : List ℕ) (flags : ℕ) (rest : Channel) (installed : Option Installed)
      → is_parked (received_with p c bytes flags rest installed).answer ≡ is_parked (received_with q c bytes flags rest installed).answer
  put_alike p q c bytes flags rest None = refl
  put_alike p q c bytes flags rest (Some installed) = refl

  taken_alike : (p q c room : ℕ) (table : Table) (looks : Bool) (pulled : Pulled)
      → is_parked (taken_if looks p table room c pulled).answer ≡ is_parked (taken_if looks q table room c pulled).answer
  taken_alike p q c room table true pulled = refl
  taken_alike p q c room table false pulled =
      put_alike p q c pulled.bytes (truncated room pulled.carried) pulled.rest (install table (take room pulled.carried))

  received_alike : (p q c room : ℕ) (table : Table) (must nonblocking looks : Bool) (pulled : Pulled)
      → is_parked (received_if must nonblocking looks p table room c pulled).answer ≡ is_parked (received_if must nonblocking looks q table room c pulled).answer
  received_alike p q c room table true nonblocking looks pulled = refl
  received_alike p q c room table false nonblocking looks pulled = taken_alike p q c room table looks pulled

  receive_alike : (p q n room flags c : ℕ) (table : Table) (nonblocking : Bool) (channel : Option Channel)
      → is_parked (receive_from p table n room flags nonblocking c channel).answer ≡ is_parked (receive_from q table n room flags nonblocking c channel).answer
  receive_alike p q n room flags c table nonblocking None = refl
  receive_alike p q n room flags c table nonblocking (Some channel) =
      received_alike p q c room table (must_wait_by flags n channel) nonblocking (peeks flags) (pull n channel)

  receive_parks : (fd p n room flags : ℕ) (table : Table) (kind : Option OpenKind)
      → is_parked (receive_open p table (whole S) n room flags kind).answer
      ≡ is_parked (socket_at 0 table S.chans kind (call.SockRecv fd n room flags)).answer
  receive_parks fd p n room flags table None = refl
  receive_parks fd p n room flags table (Some (File node offset mode)) = refl
  receive_parks fd p n room flags table (Some (Directory node mode)) = refl
  receive_parks fd p n room flags table (Some (End None writes mode form)) = refl
  receive_parks fd p n room flags table (Some (End (Some r) None mode form)) = refl
  receive_parks fd p n room flags table (Some (End (Some r) (Some w) mode form)) = receive_alike p 0 n room flags r table (is_nonblocking mode) (get S.chans r)
  receive_parks fd p n room flags table (Some (Terminal which mode)) = refl
  receive_parks fd p n room flags table (Some (Process q object)) = refl

  receive_at : (fd p n room flags : ℕ) (table : Table) (d : Option Descriptor)
      → is_parked (at_descriptor (λ o. receive_open p table (whole S) n room flags) (whole S) d).answer
      ≡ is_parked (socket_at 0 table S.chans (open_in S.opens d) (call.SockRecv fd n room flags)).answer
  receive_at fd p n room flags table None = refl
  receive_at fd p n room flags table (Some d) = receive_parks fd p n room flags table (get S.opens d.id)

-- ---- all calls

never_parks : (c : Call) → may_wait c ≡ false → (constants : Constants) (v : View) (who : Who) (table : Table)
    → is_parked ((meaning_of c).effect constants v who table).answer ≡ false
never_parks c never constants v who table =
    let m = meaning_of c in
    let o = m.effect constants v who table in
    elim (is_parked o.answer) as (λ b. is_parked o.answer ≡ b → b ≡ false) [
      | true ↦ λ parked. absurd (not_true (sym never
          ∙ (waits_only m.may_wait who.pid (v.process who.pid) o _ ((proper c).plain constants v who table) (denied_is_not_parked m.errors (m.outside v table) o) parked).0))
      | false ↦ λ _. refl
    ] refl

module _ (constants : Constants) (S : State) (who : Who) (table : Table) where
  parks_or_never : (c : Call) → (meaning_of c).by_stage ≡ false → (may_wait c ≡ false → is_parked ((meaning_of c).effect constants (whole S) who table).answer ≡ false)
      → is_parked ((meaning_of c).effect constants (whole S) who table).answer ≡ parks constants S.opens S.chans S.statuses S.clock table who.since c
  parks_or_never (call.Poll subscriptions) plain never =
      ap (λ (o : Outcome). is_parked o.answer) (poll_reads S constants who table subscriptions (sym (poll_by_stage subscriptions) ∙ plain))
  parks_or_never (call.FdRead fd n) plain never = read_at S fd n (get table fd)
  parks_or_never (call.FdWrite fd bytes) plain never = write_at S fd _ bytes (get table fd)
  parks_or_never (call.SockRecv fd n room flags) plain never = receive_at S fd who.pid n room flags table (get table fd)
  parks_or_never (call.SockSend fd bytes fds flags) plain never = send_at S fd bytes fds flags table (get table fd)
  parks_or_never (call.MemMap place length prot flags fd offset) plain never =
      never (either_meaning (λ m. m.may_wait ≡ false) (is_anonymous flags) (map_zeros place) (on_open (map_row fd prot) (mapping place length offset)) refl refl)
  parks_or_never _ plain never = never refl

  pub effect_parks : (c : Call) → (meaning_of c).by_stage ≡ false → is_parked ((meaning_of c).effect constants (whole S) who table).answer ≡ parks constants S.opens S.chans S.statuses S.clock table who.since c
  effect_parks c plain = parks_or_never c plain (λ never. never_parks c never constants (whole S) who table)

-- ---- by the views of calls

module _ (constants : Constants) (opens : FinMap nat_cmp OpenKind) (channels : FinMap nat_cmp Channel) (statuses : FinMap nat_cmp Status) (now : ℕ) (table : Table) (since : ℕ) where
  no_seek : (kind : Option OpenKind) (fd bits whence : ℕ) → false ≡ is_parked (end_at channels kind (call.FdSeek fd bits whence)).answer
  no_seek None fd bits whence = refl
  no_seek (Some (File node offset flags)) fd bits whence = refl
  no_seek (Some (Directory node flags)) fd bits whence = refl
  no_seek (Some (End reads writes flags form)) fd bits whence = refl
  no_seek (Some (Terminal which flags)) fd bits whence = refl
  no_seek (Some (Process p object)) fd bits whence = refl

  pub offset_parks : (view : OffsetCall) → parks constants opens channels statuses now table since (call_of_offset view)
      ≡ is_parked (end_at channels (open_in opens (get table (fd_of_offset view))) (call_of_offset view)).answer
  offset_parks (offset.FdRead fd n) = refl
  offset_parks (offset.FdSeek fd bits whence) = no_seek (open_in opens (get table fd)) fd bits whence
  offset_parks (offset.FdWrite fd bytes) = refl

  no_shutdown : (kind : Option OpenKind) (fd how : ℕ) → false ≡ is_parked (socket_at 0 table channels kind (call.SockShutdown fd how)).answer
  no_shutdown None fd how = refl
  no_shutdown (Some (File node offset flags)) fd how = refl
  no_shutdown (Some (Directory node flags)) fd how = refl
  no_shutdown (Some (End None writes flags form)) fd how = refl
  no_shutdown (Some (End (Some r) None flags form)) fd how = refl
  no_shutdown (Some (End (Some r) (Some w) flags form)) fd how = refl
  no_shutdown (Some (Terminal which flags)) fd how = refl
  no_shutdown (Some (Process p object)) fd how = refl

  pub socket_parks : (view : SocketCall) → parks constants opens channels statuses now table since (call_of_socket view)
      ≡ is_parked (socket_at 0 table channels (open_in opens (get table (fd_of_socket view))) (call_of_socket view)).answer
  socket_parks (socket.SockRecv fd n room flags) = refl
  socket_parks (socket.SockSend fd bytes fds flags) = refl
  socket_parks (socket.SockShutdown fd how) = no_shutdown (open_in opens (get table fd)) fd how

  abbrev Never : Call → Type 0
  Never c = parks constants opens channels statuses now table since c ≡ false

  never_changes : (view : DescriptorChange) → Never (call_of_change view)
  never_changes (Close fd) = refl
  never_changes (Dup fd) = refl
  never_changes (Replace from to) = refl
  never_changes (StatPut fd stat flags) = refl

  never_files : (view : FileCall) → Never (call_of_file view)
  never_files (file.MemMap place length prot flags fd offset) = refl
  never_files _ = refl

  never_entries : (view : EntryCall) → Never (call_of_entry view)
  never_entries (entry.FileCreate fd path kind) = refl
  never_entries _ = refl

  -- where one of these answers something
  never_by : (c : Call) (test : Call → Bool) → test c ≡ true → ((subscriptions : List Subscription) → test (call.Poll subscriptions) ≡ false)
      → ((fd n : ℕ) → test (call.FdRead fd n) ≡ false) → ((fd : ℕ) (bytes : List ℕ) → test (call.FdWrite fd bytes) ≡ false)
      → ((fd n room flags : ℕ) → test (call.SockRecv fd n room flags) ≡ false)
      → ((fd : ℕ) (bytes fds : List ℕ) (flags : ℕ) → test (call.SockSend fd bytes fds flags) ≡ false) → Never c
  never_by (call.Poll subscriptions) test h polls reads writes receives sends = absurd (not_true (sym (polls subscriptions) ∙ h))
  never_by (call.FdRead fd n) test h polls reads writes receives sends = absurd (not_true (sym (reads fd n) ∙ h))
  never_by (call.FdWrite fd bytes) test h polls reads writes receives sends = absurd (not_true (sym (writes fd bytes) ∙ h))
  never_by (call.SockRecv fd n room flags) test h polls reads writes receives sends = absurd (not_true (sym (receives fd n room flags) ∙ h))
  never_by (call.SockSend fd bytes fds flags) test h polls reads writes receives sends = absurd (not_true (sym (sends fd bytes fds flags) ∙ h))
  never_by _ test h polls reads writes receives sends = refl

  -- a call of a family that isn't one of those
  pub other_parks : (c : Call) (f : Family) → IsOf c f → ((subscriptions : _) → f ≢ family.Poll subscriptions)
      → ((view : OffsetCall) → f ≢ family.Offset view) → ((view : SocketCall) → f ≢ family.Socket view) → Never c
  unfolding IsOf
  other_parks c (family.Descriptors change) is polls offsets sockets = subst Never (sym is) (never_changes change)
  other_parks c (family.DescriptorState fd) is polls offsets sockets = subst Never (sym is) refl
  other_parks c (family.File view) is polls offsets sockets = subst Never (sym is.0) (never_files view)
  other_parks c (family.Offset view) is polls offsets sockets = absurd (offsets view refl)
  other_parks c (family.Entries view) is polls offsets sockets = subst Never (sym is) (never_entries view)
  other_parks c (family.Open view) is polls offsets sockets = subst Never (sym is) refl
  other_parks c (family.Ends kind) is polls offsets sockets = subst Never (sym is) refl
  other_parks c (family.Socket view) is polls offsets sockets = absurd (sockets view refl)
  other_parks c (family.Exit code) is polls offsets sockets = subst Never (sym is) refl
  other_parks c (family.Zeros place) is polls offsets sockets =
      never_by c (λ x. is_some (zeros_of x)) (ap is_some is) (λ subscriptions. refl) (λ fd n. refl) (λ fd bytes. refl) (λ fd n room flags. refl)
      (λ fd bytes fds flags. refl)
  other_parks c (family.Poll subscriptions) is polls offsets sockets = absurd (polls subscriptions refl)
  other_parks c (family.ClockResolution clock) is polls offsets sockets = subst Never (sym is) refl
  other_parks c (family.ClockTime clock precision) is polls offsets sockets = subst Never (sym is) refl
  other_parks c (family.Random length) is polls offsets sockets = subst Never (sym is) refl
  other_parks c (family.NewThread attributes) is polls offsets sockets = subst Never (sym is) refl
  other_parks c (family.ThreadExit lock word scope) is polls offsets sockets = subst Never (sym is) refl
  other_parks c (family.Unlock lock word scope) is polls offsets sockets = subst Never (sym is) refl
  other_parks c (family.Signal condvar word scope n) is polls offsets sockets = subst Never (sym is) refl
  other_parks c (family.Fork left) is polls offsets sockets = subst Never (sym is) refl
  other_parks c (family.Exec fd fds) is polls offsets sockets = subst Never (sym is.1) refl
  other_parks c (family.Raise signal) is polls offsets sockets = subst Never (sym is) refl
  other_parks c (family.Answered errno) is polls offsets sockets =
      never_by c (λ x. is_some (answer_of x)) (ap is_some is) (λ subscriptions. refl) (λ fd n. refl) (λ fd bytes. refl) (λ fd n room flags. refl)
      (λ fd bytes fds flags. refl)
  other_parks c family.NotBuilt is polls offsets sockets =
      never_by c is_unbuilt is (λ subscriptions. refl) (λ fd n. refl) (λ fd bytes. refl) (λ fd n room flags. refl) (λ fd bytes fds flags. refl)

-- ---- by the family of a call

module _ (c : Call) where
  pub poll_is : (subscriptions : _) (f : Family) → IsOf c f → f ≡ family.Poll subscriptions → c ≡ call.Poll subscriptions.now
  unfolding IsOf
  poll_is subscriptions f of is = subst (IsOf c) is of

  pub offset_is : (view : OffsetCall) (f : Family) → IsOf c f → f ≡ family.Offset view → c ≡ call_of_offset view
  unfolding IsOf
  offset_is view f of is = subst (IsOf c) is of

  pub socket_is : (view : SocketCall) (f : Family) → IsOf c f → f ≡ family.Socket view → c ≡ call_of_socket view
  unfolding IsOf
  socket_is view f of is = subst (IsOf c) is of

-- ---- descriptors that are sent

present_by : (absent : Bool) (reply : Reply) (rest : Option Reply) → cond absent (Some reply) rest ≡ None → absent ≡ false
present_by true reply rest none = absurd (none_is_no reply (sym none))
present_by false reply rest none = refl

all_named : (table : Table) (c : Call) → refusal table c ≡ None → HasAll table (named c)
all_named table c allowed = all_present table (named c) (present_by (some_absent table (named c)) (refused Badf) _ allowed)

sent_in : (table : Table) (view : SocketCall) → HasAll table (named (call_of_socket view)) → HasAllSent table (call_of_socket view)
sent_in table (socket.SockRecv fd n room flags) all = tt
sent_in table (socket.SockSend fd bytes fds flags) all = all.1
sent_in table (socket.SockShutdown fd how) all = tt

pub all_sent : (table : Table) (c : Call) (view : SocketCall) → c ≡ call_of_socket view → refusal table c ≡ None → HasAllSent table (call_of_socket view)
all_sent table c view is allowed = sent_in table view (subst (λ x. HasAll table (named x)) is (all_named table c allowed))
