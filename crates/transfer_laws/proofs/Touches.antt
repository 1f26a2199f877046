-- What calls on ends, standard streams and the offsets of files may change.
use Rattle.std.proofs.Common.{◌≡◌, ℕ, ◌==◌, ◌&&◌, Bool, true, false, cond, List, [], ◌∷◌, ◌++◌, Option, Some, None, refl, ap, ◌∙◌}
use Rattle.std.specs.FinMap.{get}
use Rattle.abi_base.specs.declared.rights.TheConstants.Rights.{FD_SEEK, FD_TELL}
use Rattle.abi_types.specs.declared.call.Call.{Call}
use Rattle.abi_types.specs.declared.call.Call.TheVariants.{FdRead, FdSeek, FdWrite, SockRecv, SockSend, SockShutdown}
use Rattle.abi_types.specs.declared.descriptor.Descriptor.{Descriptor}
use Rattle.abi_types.specs.declared.open_kind.OpenKind.{OpenKind}
use Rattle.abi_types.specs.declared.open_kind.OpenKind.TheVariants.{File, End, Terminal}
use Rattle.abi_types.specs.declared.reply.Reply.{Reply}
use Rattle.abi_types.specs.declared.who.Who.{Who}
use Rattle.kernel_model.specs.Calls.{meaning_of, refusal}
use Rattle.kernel_model.specs.Families.ChannelCalls.{both_parts, received_part, sent_part}
use Rattle.kernel_model.specs.Families.OpenMeaning.{OpenMeaning, moved_part, touched_at}
use Rattle.kernel_model.specs.Families.SocketCalls.{receiving, sending, shutting}
use Rattle.kernel_model.specs.Families.StreamCalls.{reading, seek_row, seeking, writing}
use Rattle.kernel_model.specs.OwnChanges.{made_parts}
use Rattle.kernel_model.specs.Rows.{base_row, either_row}
use Rattle.kernel_model.specs.Sight.{process_parts}
use Rattle.kernel_model.specs.State.{State, Table, Part, at_chan, at_node, at_open, at_term, has_part}
use Rattle.kernel_model.specs.Step.{changed, made_on, touch, unless_refused}
use Rattle.transfer_laws.specs.TouchLaws.{IsOnSocket, HasFile, SocketsTouch, StreamsTouch, Touches}

-- what a call touches that isn't refused
touch_allowed : (S : State) (who : Who) (call : Call) (table : Table) → get S.tables who.pid ≡ Some table → refusal table call ≡ None
    → touch S who call
    ≡ process_parts who.pid
    ++ (made_parts (meaning_of call).own who.pid (meaning_of call).numbers (get S.processes who.pid) ++ (meaning_of call).touched S table)
unfolding touch
touch_allowed S who call table own allowed =
    ap (λ t. process_parts who.pid ++ (made_on S who call t ++ changed S call t)) own
    ∙ ap (λ r. process_parts who.pid
    ++ (unless_refused r (made_parts (meaning_of call).own who.pid (meaning_of call).numbers (get S.processes who.pid))
    ++ unless_refused r ((meaning_of call).touched S table))) allowed

-- what is touched by a descriptor that is there
touched_open : (m : OpenMeaning) (S : State) (o : Option Descriptor) (d : Descriptor) (kind : OpenKind) → o ≡ Some d → get S.opens d.id ≡ Some kind
    → touched_at m S o ≡ moved_part (m.moves (Some kind)) d.id ++ m.touched (Some kind)
touched_open m S o d kind there opened = ap (touched_at m S) there ∙ ap (λ k. moved_part (m.moves k) d.id ++ m.touched k) opened

-- ---- no call on a socket touches an open

no_open_received : (kind : Option OpenKind) (o : ℕ) → has_part (received_part kind) (at_open o) ≡ false
no_open_received None o = refl
no_open_received (Some (End None writes flags form)) o = refl
no_open_received (Some (End (Some c) writes flags form)) o = refl
no_open_received (Some other) o = refl

no_open_sent : (kind : Option OpenKind) (o : ℕ) → has_part (sent_part kind) (at_open o) ≡ false
no_open_sent None o = refl
no_open_sent (Some (End reads None flags form)) o = refl
no_open_sent (Some (End reads (Some c) flags form)) o = refl
no_open_sent (Some other) o = refl

no_open_both : (kind : Option OpenKind) (o : ℕ) → has_part (both_parts kind) (at_open o) ≡ false
no_open_both None o = refl
no_open_both (Some (End None None flags form)) o = refl
no_open_both (Some (End None (Some w) flags form)) o = refl
no_open_both (Some (End (Some c) None flags form)) o = refl
no_open_both (Some (End (Some c) (Some w) flags form)) o = refl
no_open_both (Some other) o = refl

module _ (S : State) (who : Who) (o : ℕ) where
  -- of what is touched by a meaning that moves nothing and touches no open beside
  none_at : (m : OpenMeaning) → ((kind : Option OpenKind) → m.moves kind ≡ false)
      → ((kind : Option OpenKind) → has_part (m.touched kind) (at_open o) ≡ false)
      → (d : Option Descriptor) → has_part (touched_at m S d) (at_open o) ≡ false
  none_at m stays each None = refl
  none_at m stays each (Some d) =
      ap (λ b. has_part (moved_part b d.id ++ m.touched (get S.opens d.id)) (at_open o)) (stays (get S.opens d.id)) ∙ each (get S.opens d.id)

  none_unless : (r : Option Reply) (parts : List Part) → has_part parts (at_open o) ≡ false
      → has_part (unless_refused r [] ++ unless_refused r parts) (at_open o) ≡ false
  none_unless None parts h = h
  none_unless (Some reply) parts h = refl

  none_received : (fd n room flags : ℕ) (t : Option Table)
      → has_part (made_on S who (SockRecv fd n room flags) t ++ changed S (SockRecv fd n room flags) t) (at_open o) ≡ false
  none_received fd n room flags None = refl
  none_received fd n room flags (Some table) =
      none_unless (refusal table (SockRecv fd n room flags)) ((meaning_of (SockRecv fd n room flags)).touched S table)
      (none_at (receiving 0 table n room flags) (λ kind. refl) (λ kind. no_open_received kind o) (get table fd))

  none_sent : (fd : ℕ) (bytes fds : List ℕ) (flags : ℕ) (t : Option Table)
      → has_part (made_on S who (SockSend fd bytes fds flags) t ++ changed S (SockSend fd bytes fds flags) t) (at_open o) ≡ false
  none_sent fd bytes fds flags None = refl
  none_sent fd bytes fds flags (Some table) =
      none_unless (refusal table (SockSend fd bytes fds flags)) ((meaning_of (SockSend fd bytes fds flags)).touched S table)
      (none_at (sending bytes []) (λ kind. refl) (λ kind. no_open_sent kind o) (get table fd))

  none_shut : (fd how : ℕ) (t : Option Table)
      → has_part (made_on S who (SockShutdown fd how) t ++ changed S (SockShutdown fd how) t) (at_open o) ≡ false
  none_shut fd how None = refl
  none_shut fd how (Some table) =
      none_unless (refusal table (SockShutdown fd how)) ((meaning_of (SockShutdown fd how)).touched S table)
      (none_at (shutting how) (λ kind. refl) (λ kind. no_open_both kind o) (get table fd))

  no_open : (call : Call) → IsOnSocket call → has_part (touch S who call) (at_open o) ≡ false
  unfolding touch
  no_open (SockRecv fd n room flags) is = none_received fd n room flags (get S.tables who.pid)
  no_open (SockSend fd bytes fds flags) is = none_sent fd bytes fds flags (get S.tables who.pid)
  no_open (SockShutdown fd how) is = none_shut fd how (get S.tables who.pid)
  no_open call is = absurd is

-- ---- the laws

-- the parts are those of a list
touches_by : (S : State) (who : Who) (call : Call) (parts : List Part) → touch S who call ≡ process_parts who.pid ++ parts → Touches S who call parts
touches_by S who call parts is part = ap (λ ps. has_part ps part) is

pub sockets_touch : SocketsTouch
sockets_touch = record {
  receives = λ S who fd n room flags c mode writes has.
      touches_by S who (SockRecv fd n room flags) (at_chan c ∷ []) (touch_allowed S who (SockRecv fd n room flags) has.table has.own has.allowed
      ∙ ap (λ ps. process_parts who.pid ++ ps)
      (touched_open (receiving 0 has.table n room flags) S (get has.table fd) has.d (End (Some c) writes mode has.form) has.there has.opened));
  sends = λ S who fd bytes fds flags c mode reads has.
      touches_by S who (SockSend fd bytes fds flags) (at_chan c ∷ []) (touch_allowed S who (SockSend fd bytes fds flags) has.table has.own has.allowed
      ∙ ap (λ ps. process_parts who.pid ++ ps)
      (touched_open (sending bytes []) S (get has.table fd) has.d (End reads (Some c) mode has.form) has.there has.opened));
  shuts = λ S who fd how c w mode has.
      touches_by S who (SockShutdown fd how) (at_chan c ∷ at_chan w ∷ []) (touch_allowed S who (SockShutdown fd how) has.table has.own has.allowed
      ∙ ap (λ ps. process_parts who.pid ++ ps)
      (touched_open (shutting how) S (get has.table fd) has.d (End (Some c) (Some w) mode has.form) has.there has.opened));
  no_open = λ S who call o is. no_open S who o call is;
}

module _ (S : State) (who : Who) (call : Call) (fd o node : ℕ) (m : OpenMeaning) (has : HasFile S who call fd o node) where
  file_touched : touched_at m S (get has.table fd)
      ≡ moved_part (m.moves (Some (File node has.offset has.flags))) o ++ m.touched (Some (File node has.offset has.flags))
  file_touched =
      touched_open m S (get has.table fd) has.d (File node has.offset has.flags) has.there (ap (get S.opens) has.names ∙ has.opened)
      ∙ ap (λ k. moved_part (m.moves (Some (File node has.offset has.flags))) k ++ m.touched (Some (File node has.offset has.flags))) has.names

-- the descriptor by which a call seeks
seeks_by : (fd bits whence : ℕ) → (seek_row fd bits whence).fd ≡ fd
seeks_by fd bits whence = either ((bits == 0) && (whence == 1)) where
  either : (b : Bool) → (cond b (either_row fd FD_TELL FD_SEEK) (base_row fd FD_SEEK)).fd ≡ fd
  either true = refl
  either false = refl

pub streams_touch : StreamsTouch
streams_touch = record {
  reads_end = λ S who fd n c mode writes has.
      touches_by S who (FdRead fd n) (at_chan c ∷ []) (touch_allowed S who (FdRead fd n) has.table has.own has.allowed
      ∙ ap (λ ps. process_parts who.pid ++ ps)
      (touched_open (reading n) S (get has.table fd) has.d (End (Some c) writes mode has.form) has.there has.opened));
  reads_stream = λ S who fd n which stream has.
      touches_by S who (FdRead fd n) (at_term which ∷ []) (touch_allowed S who (FdRead fd n) has.table has.own has.allowed
      ∙ ap (λ ps. process_parts who.pid ++ ps)
      (touched_open (reading n) S (get has.table fd) has.d (Terminal which has.flags) has.there has.opened));
  reads_file = λ S who fd n o node has.
      touches_by S who (FdRead fd n) (at_open o ∷ []) (touch_allowed S who (FdRead fd n) has.table has.own has.allowed
      ∙ ap (λ ps. process_parts who.pid ++ ps) (file_touched S who (FdRead fd n) fd o node (reading n) has));
  writes_end = λ S who fd c mode bytes reads has.
      touches_by S who (FdWrite fd bytes) (at_chan c ∷ []) (touch_allowed S who (FdWrite fd bytes) has.table has.own has.allowed
      ∙ ap (λ ps. process_parts who.pid ++ ps)
      (touched_open (writing bytes) S (get has.table fd) has.d (End reads (Some c) mode has.form) has.there has.opened));
  writes_stream = λ S who fd which bytes stream has.
      touches_by S who (FdWrite fd bytes) (at_term which ∷ []) (touch_allowed S who (FdWrite fd bytes) has.table has.own has.allowed
      ∙ ap (λ ps. process_parts who.pid ++ ps)
      (touched_open (writing bytes) S (get has.table fd) has.d (Terminal which has.flags) has.there has.opened));
  writes_file = λ S who fd o node bytes has.
      touches_by S who (FdWrite fd bytes) (at_open o ∷ at_node node ∷ []) (touch_allowed S who (FdWrite fd bytes) has.table has.own has.allowed
      ∙ ap (λ ps. process_parts who.pid ++ ps) (file_touched S who (FdWrite fd bytes) fd o node (writing bytes) has));
  seeks = λ S who fd bits whence o node has.
      touches_by S who (FdSeek fd bits whence) (at_open o ∷ []) (touch_allowed S who (FdSeek fd bits whence) has.table has.own has.allowed
      ∙ ap (λ ps. process_parts who.pid ++ ps) (ap (λ number. touched_at (seeking bits whence) S (get has.table number)) (seeks_by fd bits whence)
      ∙ file_touched S who (FdSeek fd bits whence) fd o node (seeking bits whence) has));
}
