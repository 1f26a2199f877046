-- The entries of waiting threads as calls on ends of channels are done.
--     KeepsOthers kind table o      an outcome of a call on an end sets no channels but those that the end reads and writes, nothing at all where the call
--         isn't done, and the table alone where descriptors come
--     end_keeps, socket_keeps      so it is of the calls on ends
--     end_is_held      those that stand at the end's channels are left where the call is done
use Rattle.std.proofs.Common.{◌≡◌, ℕ, ◌==◌, ◌||◌, not, bit_and, Bool, true, false, cond, List, [], ◌∷◌, ◌++◌, take, Option, None, Some, refl, sym, ap, subst, ◌∙◌}
use Rattle.std.proofs.lemmas.Bool.{eq-eqb, eqb-true}
use Rattle.std.specs.Prelude.{⊤}
use Rattle.std.specs.FinMap.{get, insert}
use Rattle.std.specs.List.{AllByRecursion}
use Rattle.abi_base.specs.declared.errno.Errno.TheVariants.{Notsock, Success}
use Rattle.abi_types.specs.declared.call.Call.{Call}
use Rattle.abi_types.specs.declared.call.Call.TheVariants as call
use Rattle.abi_types.specs.Families.{call_of_socket}
use Rattle.abi_types.specs.declared.chan_kind.ChanKind.{ChanKind}
use Rattle.abi_types.specs.declared.descriptor.Descriptor.{Descriptor}
use Rattle.abi_types.specs.declared.family.SocketCall.{SocketCall}
use Rattle.abi_types.specs.declared.family.SocketCall.TheVariants as socket
use Rattle.abi_types.specs.declared.open_kind.OpenKind.{OpenKind}
use Rattle.abi_types.specs.declared.open_kind.OpenKind.TheVariants.{File, Directory, End, Terminal, Process}
use Rattle.abi_types.specs.declared.reply.Answer.{Answer}
use Rattle.abi_types.specs.declared.reply.Answer.TheVariants as answer
use Rattle.abi_types.specs.declared.reply.Payload.TheVariants.{Received}
use Rattle.abi_types.specs.declared.reply.Reply.{Reply}
use Rattle.abi_types.specs.declared.reply.WordWrites.TheVariants.{Zero}
use Rattle.channel_calls.specs.Calls.{Channels, channels_after, end_outcome, seen_in, socket_outcome, table_after}
use Rattle.kernel_model.specs.Channels.{Channel, Push, hung, full, sends, must_wait, pull, push, with_reader_shut, with_writer_shut}
use Rattle.kernel_model.specs.Families.ChannelCalls.{Installed, install, is_nonblocking, picked, put_first, read_end, read_from, read_if, receive_open, received_reply, send_on, send_open, send_to, sent_by, sent_reply, shut_if, shut_open, truncated, waits_unless, where_free, written_reply}
use Rattle.kernel_model.specs.Families.DescriptorCalls.{lowest_free}
use Rattle.kernel_model.specs.Outcome.{Outcome, replies}
use Rattle.kernel_model.specs.OwnChanges.{is_done, is_success}
use Rattle.kernel_model.specs.Reply.{refused}
use Rattle.kernel_model.specs.Release.{is_reader, is_writer}
use Rattle.kernel_model.specs.State.{State, Table, Update, set_chan, set_table}
use Rattle.kernel_model.proofs.SocketCalls.{receive_holds}
use Rattle.kernel_model.proofs.Tests.{none_is_no, not_true, or_true, same_some}
use Rattle.kernel_parts.specs.Touching.{stands_at_end}
use Rattle.maps.specs.Maps.{get-insert-other}
use Rattle.wait_set.specs.declared.spot.Spot.TheVariants as spot
use Rattle.wait_set.specs.declared.waiting.Waiting.{Waiting}
use Rattle.wait_set.specs.Waits.{WaitMap, stands, touched, where_so}
use Rattle.readiness_laws.specs.Watched.{looked_at}
use Rattle.readiness_laws.specs.WatchedChanges.{AreKept}
use Rattle.readiness_laws.proofs.WatchedSets.{not_touched, touch_keeps}
use Rattle.readiness_laws.proofs.WatchedTimes.{quiet_entries}
use Rattle.kernel_invariant.specs.Held.{AreHeld}
use Rattle.kernel_invariant.specs.Readiness.{has_come, has_received, left_where_done}
use Rattle.kernel_invariant.proofs.HeldTimes.{no_last_kept}

-- ---- what calls on an end set

-- the end reads the channel, or writes it
abbrev pub is_of : ℕ → OpenKind → Bool
is_of c kind = is_reader c (Some kind) || is_writer c (Some kind)

abbrev pub SetsOwn : OpenKind → Update → Type 0
SetsOwn kind (set_chan c channel) = is_of c kind ≡ true
SetsOwn kind (set_table p table) = ⊤
SetsOwn kind _ = ⊥

pub record KeepsOthers (kind : OpenKind) (table : Table) (o : Outcome) : Type 0 where
  pub own : AllByRecursion (SetsOwn kind) o.updates
  pub none : is_done o.answer ≡ false → o.updates ≡ []
  pub same : has_received o.answer ≡ false → table_after o.updates table ≡ table

reads_it : (c : ℕ) (reads writes : Option ℕ) (flags : ℕ) (form : ChanKind) → reads ≡ Some c → is_of c (End reads writes flags form) ≡ true
reads_it c reads writes flags form is =
    subst (λ r. is_of c (End r writes flags form) ≡ true) (sym is) (ap (λ b. b || is_writer c (Some (End (Some c) writes flags form))) (eq-eqb c c refl))

writes_it : (c : ℕ) (reads writes : Option ℕ) (flags : ℕ) (form : ChanKind) → writes ≡ Some c → is_of c (End reads writes flags form) ≡ true
writes_it c reads writes flags form is =
    subst (λ r. is_of c (End reads r flags form) ≡ true) (sym is)
    (ap (λ b. is_reader c (Some (End reads (Some c) flags form)) || b) (eq-eqb c c refl) ∙ or_true (is_reader c (Some (End reads (Some c) flags form))))

module _ (kind : OpenKind) (table : Table) where
  nothing : (given : Answer) → KeepsOthers kind table (record { answer = given; updates = [] })
  nothing given = record { own = tt; none = λ _. refl; same = λ _. refl }

  one_keeps : (reply : Reply) (c : ℕ) (channel : Channel) → reply.errno ≡ Success → is_of c kind ≡ true
      → KeepsOthers kind table (record { answer = answer.Reply reply; updates = set_chan c channel ∷ [] })
  one_keeps reply c channel done own = record {
    own = (own, tt);
    none = λ fails. absurd (not_true (sym fails ∙ ap is_success done));
    same = λ _. refl;
  }

  waits_keep : (nonblocking : Bool) → KeepsOthers kind table (waits_unless nonblocking)
  waits_keep true = nothing (waits_unless true).answer
  waits_keep false = nothing (waits_unless false).answer

  module _ (chans : Channels) where
    module _ (reply : ℕ → Reply) (done : (n : ℕ) → (reply n).errno ≡ Success) where
      pushed_keep : (nonblocking : Bool) (c : ℕ) (pushed : Push) → is_of c kind ≡ true → KeepsOthers kind table (sent_by reply nonblocking c pushed)
      pushed_keep nonblocking c hung own = nothing (sent_by reply nonblocking c hung).answer
      pushed_keep nonblocking c full own = waits_keep nonblocking
      pushed_keep nonblocking c (sends count channel) own = one_keeps (reply count) c channel (done count) own

      to_keep : (nonblocking : Bool) (bytes : List ℕ) (carried : List Descriptor) (c : ℕ) (o : Option Channel) → is_of c kind ≡ true
          → KeepsOthers kind table (send_to reply nonblocking bytes carried c o)
      to_keep nonblocking bytes carried c None own = nothing (send_to reply nonblocking bytes carried c None).answer
      to_keep nonblocking bytes carried c (Some channel) own = pushed_keep nonblocking c (push bytes carried channel) own

      send_keeps : (flags : ℕ) (bytes : List ℕ) (carried : List Descriptor) (writes : Option ℕ) → ((c : ℕ) → writes ≡ Some c → is_of c kind ≡ true)
          → KeepsOthers kind table (send_on reply (seen_in chans) flags bytes carried writes)
      send_keeps flags [] carried writes own = nothing (answer.Reply (reply 0))
      send_keeps flags (b ∷ bytes) carried None own = nothing (send_on reply (seen_in chans) flags (b ∷ bytes) carried None).answer
      send_keeps flags (b ∷ bytes) carried (Some c) own = to_keep (is_nonblocking flags) (b ∷ bytes) carried c (get chans c) (own c refl)

    pulled_keep : (waits nonblocking : Bool) (c n : ℕ) (channel : Channel) → is_of c kind ≡ true → KeepsOthers kind table (read_if waits nonblocking c (pull n channel))
    pulled_keep true nonblocking c n channel own = waits_keep nonblocking
    pulled_keep false nonblocking c n channel own = one_keeps _ c (pull n channel).rest refl own

    from_keep : (n : ℕ) (nonblocking : Bool) (c : ℕ) (o : Option Channel) → is_of c kind ≡ true → KeepsOthers kind table (read_from n nonblocking c o)
    from_keep n nonblocking c None own = nothing (read_from n nonblocking c None).answer
    from_keep n nonblocking c (Some channel) own = pulled_keep (must_wait n channel) nonblocking c n channel own

    read_keeps : (n flags : ℕ) (reads : Option ℕ) → ((c : ℕ) → reads ≡ Some c → is_of c kind ≡ true) → KeepsOthers kind table (read_end (seen_in chans) n flags reads)
    read_keeps n flags None own = nothing (read_end (seen_in chans) n flags None).answer
    read_keeps n flags (Some c) own = from_keep n (is_nonblocking flags) c (get chans c) (own c refl)

pub end_keeps : (chans : Channels) (table : Table) (kind : OpenKind) (called : Call) → KeepsOthers kind table (end_outcome chans kind called)
end_keeps chans table (End reads writes flags form) (call.FdRead fd n) =
    read_keeps (End reads writes flags form) table chans n flags reads (λ c is. reads_it c reads writes flags form is)
end_keeps chans table (End reads writes flags form) (call.FdWrite fd bytes) =
    send_keeps (End reads writes flags form) table chans written_reply (λ n. refl) flags bytes [] writes (λ c is. writes_it c reads writes flags form is)
end_keeps chans table kind called = nothing kind table (end_outcome chans kind called).answer

-- ---- sockets

module _ (kind : OpenKind) (table : Table) where
  module _ (r w : ℕ) (read : is_of r kind ≡ true) (written : is_of w kind ≡ true) where
    both_own : (first : Bool) (x : Option Channel) (second : Bool) (y : Option Channel)
        → AllByRecursion (SetsOwn kind) (shut_if first with_reader_shut r x ++ shut_if second with_writer_shut w y)
    both_own true (Some x) true (Some y) = (read, (written, tt))
    both_own true (Some x) true None = (read, tt)
    both_own true (Some x) false y = (read, tt)
    both_own true None true (Some y) = (written, tt)
    both_own true None true None = tt
    both_own true None false y = tt
    both_own false x true (Some y) = (written, tt)
    both_own false x true None = tt
    both_own false x false y = tt

    both_same : (first : Bool) (x : Option Channel) (second : Bool) (y : Option Channel)
        → table_after (shut_if first with_reader_shut r x ++ shut_if second with_writer_shut w y) table ≡ table
    both_same true (Some x) true (Some y) = refl
    both_same true (Some x) true None = refl
    both_same true (Some x) false y = refl
    both_same true None true (Some y) = refl
    both_same true None true None = refl
    both_same true None false y = refl
    both_same false x true (Some y) = refl
    both_same false x true None = refl
    both_same false x false y = refl

no_socket : (kind : OpenKind) (table : Table) → KeepsOthers kind table (replies (refused Notsock))
no_socket kind table = nothing kind table (answer.Reply (refused Notsock))

shut_keeps : (chans : Channels) (table : Table) (how : ℕ) (kind : OpenKind) → KeepsOthers kind table (shut_open (seen_in chans) how (Some kind))
shut_keeps chans table how (End (Some r) (Some w) flags form) =
    let kind : OpenKind = End (Some r) (Some w) flags form in
    let read = reads_it r (Some r) (Some w) flags form refl in
    let written = writes_it w (Some r) (Some w) flags form refl in
    let first = not (bit_and how 1 == 0) in
    let second = not (bit_and how 2 == 0) in
    record {
      own = both_own kind table r w read written first (get chans r) second (get chans w);
      none = λ fails. absurd (not_true (sym fails));
      same = λ _. both_same kind table r w read written first (get chans r) second (get chans w);
    }
shut_keeps chans table how (End (Some r) None flags form) = no_socket (End (Some r) None flags form) table
shut_keeps chans table how (End None writes flags form) = no_socket (End None writes flags form) table
shut_keeps chans table how (File node offset flags) = no_socket (File node offset flags) table
shut_keeps chans table how (Directory node flags) = no_socket (Directory node flags) table
shut_keeps chans table how (Terminal which flags) = no_socket (Terminal which flags) table
shut_keeps chans table how (Process p object) = no_socket (Process p object) table

sent_keeps : (chans : Channels) (table : Table) (bytes : List ℕ) (carried : List Descriptor) (kind : OpenKind)
    → KeepsOthers kind table (send_open (seen_in chans) bytes carried (Some kind))
sent_keeps chans table bytes carried (End (Some r) (Some w) flags form) =
    send_keeps (End (Some r) (Some w) flags form) table chans sent_reply (λ n. refl) flags bytes carried (Some w) (λ c is. writes_it c (Some r) (Some w) flags form is)
sent_keeps chans table bytes carried (End (Some r) None flags form) = no_socket (End (Some r) None flags form) table
sent_keeps chans table bytes carried (End None writes flags form) = no_socket (End None writes flags form) table
sent_keeps chans table bytes carried (File node offset flags) = no_socket (File node offset flags) table
sent_keeps chans table bytes carried (Directory node flags) = no_socket (Directory node flags) table
sent_keeps chans table bytes carried (Terminal which flags) = no_socket (Terminal which flags) table
sent_keeps chans table bytes carried (Process p object) = no_socket (Process p object) table

-- where no descriptor is put in the table is the same
first_came : (bytes : List ℕ) (flags number : ℕ) (o : Option Installed) (installed : Installed) → put_first number o ≡ Some installed
    → has_come (Received bytes installed.fds flags) ≡ true
first_came bytes flags number None installed is = absurd (none_is_no installed is)
first_came bytes flags number (Some i) installed is = sym (ap (λ (x : Installed). has_come (Received bytes x.fds flags)) (same_some _ installed is))

free_came : (bytes : List ℕ) (flags : ℕ) (free : Option ℕ) (rest : ℕ → Option Installed) (installed : Installed)
    → where_free free (λ number. put_first number (rest number)) ≡ Some installed → has_come (Received bytes installed.fds flags) ≡ true
free_came bytes flags None rest installed is = absurd (none_is_no installed is)
free_came bytes flags (Some number) rest installed is = first_came bytes flags number (rest number) installed is

installs_same : (bytes : List ℕ) (flags : ℕ) (table : Table) (ds : List Descriptor) (installed : Installed) → install table ds ≡ Some installed
    → has_come (Received bytes installed.fds flags) ≡ false → installed.table ≡ table
installs_same bytes flags table [] installed is none = sym (ap (λ (x : Installed). x.table) (same_some _ installed is))
installs_same bytes flags table (d ∷ ds) installed is none =
    absurd (not_true (sym none ∙ free_came bytes flags (lowest_free table) (λ number. install (insert table number d) ds) installed is))

received_keeps : (chans : Channels) (p : ℕ) (table : Table) (n room flags : ℕ) (kind : OpenKind)
    → KeepsOthers kind table (receive_open p table (seen_in chans) n room flags (Some kind))
received_keeps chans p table n room flags kind =
    receive_holds p table (seen_in chans) n room flags (KeepsOthers kind table) (λ errno here. nothing kind table (answer.Reply (refused errno)))
    (nothing kind table (answer.Parked Zero)) (λ bytes. nothing kind table (answer.Reply (received_reply bytes [] 0))) (Some kind)
    (λ c w mode form channel installed is there made.
    let pulled = pull n channel in
    let of : is_of c kind ≡ true = subst (λ k. is_of c k ≡ true) (sym (same_some kind _ is)) (reads_it c (Some c) (Some w) mode form refl) in
    record {
      own = (of, (tt, tt));
      none = λ fails. absurd (not_true (sym fails));
      same = λ none. installs_same pulled.bytes (truncated room pulled.carried) table (take room pulled.carried) installed made none;
    })

pub socket_keeps : (chans : Channels) (p : ℕ) (table : Table) (kind : OpenKind) (v : SocketCall) → KeepsOthers kind table (socket_outcome p table chans kind (call_of_socket v))
socket_keeps chans p table kind (socket.SockRecv fd n room flags) = received_keeps chans p table n room flags kind
socket_keeps chans p table kind (socket.SockSend fd bytes fds flags) = sent_keeps chans table bytes.now (picked table fds.now) kind
socket_keeps chans p table kind (socket.SockShutdown fd how) = shut_keeps chans table how kind

-- ---- who is left

either : (a b c d : Bool) → (a ≡ true → c ≡ true) → (b ≡ true → d ≡ true) → (a || b) ≡ true → (c || d) ≡ true
either true b c d one two h = ap (λ x. x || d) (one refl)
either false true c d one two h = ap (λ x. c || x) (two refl) ∙ or_true c
either false false c d one two h = absurd (not_true h)

module _ (c : ℕ) (w : Waiting) (at : stands (spot.Channel c) w ≡ true) where
  stands_too : (r : ℕ) → (r == c) ≡ true → stands (spot.Channel r) w ≡ true
  stands_too r same = ap (λ k. stands (spot.Channel k) w) (eqb-true r c same) ∙ at

  pub stands_there : (kind : OpenKind) → is_of c kind ≡ true → stands_at_end kind w ≡ true
  stands_there (End (Some r) (Some x) flags form) of =
      either (r == c) (x == c) (stands (spot.Channel r) w) (stands (spot.Channel x) w) (stands_too r) (stands_too x) of
  stands_there (End (Some r) None flags form) of = either (r == c) false (stands (spot.Channel r) w) false (stands_too r) (λ h. h) of
  stands_there (End None (Some x) flags form) of = either false (x == c) false (stands (spot.Channel x) w) (λ h. h) (stands_too x) of
  stands_there (End None None flags form) of = absurd (not_true of)
  stands_there (File node offset flags) of = absurd (not_true of)
  stands_there (Directory node flags) of = absurd (not_true of)
  stands_there (Terminal which flags) of = absurd (not_true of)
  stands_there (Process p object) of = absurd (not_true of)

  not_there : (kind : OpenKind) → stands_at_end kind w ≡ false → is_of c kind ≡ false
  not_there kind apart =
      elim (is_of c kind) as (λ b. is_of c kind ≡ b → b ≡ false) [
        | true ↦ λ of. absurd (not_true (sym apart ∙ stands_there kind of))
        | false ↦ λ _. refl
      ] refl

others_stay : (kind : OpenKind) (us : List Update) (chans : Channels) (c : ℕ) → AllByRecursion (SetsOwn kind) us → is_of c kind ≡ false
    → get (channels_after us chans) c ≡ get chans c
others_stay kind [] chans c own apart = refl
others_stay kind (set_chan e channel ∷ us) chans c own apart =
    others_stay kind us (insert chans e channel) c own.1 apart
    ∙ get-insert-other chans e channel c (λ same. not_true (sym apart ∙ ap (λ k. is_of k kind) same ∙ own.0))
others_stay kind (set_table p table ∷ us) chans c own apart = others_stay kind us chans c own.1 apart
others_stay kind (u ∷ us) chans c own apart = absurd own.0

module _ (S : State) (kind : OpenKind) (table : Table) (o : Outcome) (V : WaitMap) (keeps : KeepsOthers kind table o) (held : AreHeld (looked_at S) V) where
  abbrev pub after_end : State
  after_end = record S { chans = channels_after o.updates S.chans }

  those_left : AreHeld (looked_at after_end) (where_so (stands_at_end kind) (λ _ w. touched w) V)
  those_left =
      let W : WaitMap = where_so (stands_at_end kind) (λ _ w. touched w) V in
      let kept : AreKept V W = touch_keeps (stands_at_end kind) V in
      record {
        watched = quiet_entries (looked_at S) S.clock S.statuses (channels_after o.updates S.chans) V W held.watched kept
            (λ k c p n w d there done at was of. others_stay kind o.updates S.chans c keeps.own (not_there c w at kind (not_touched (stands_at_end kind) V k w there done)))
            (λ k q p n w d there done at was of. refl) (λ k m w there done at. refl);
        last = no_last_kept V W kept held.last;
      }

  pub end_is_held : (W : WaitMap) → W ≡ left_where_done o.answer kind V → AreHeld (looked_at after_end) W
  end_is_held W is =
      elim (is_done o.answer) as (λ b. is_done o.answer ≡ b → W ≡ cond b (where_so (stands_at_end kind) (λ _ w. touched w) V) V → AreHeld (looked_at after_end) W) [
        | true ↦ λ _ left. subst (AreHeld (looked_at after_end)) (sym left) those_left
        | false ↦ λ fails stays.
            subst (λ us. AreHeld (looked_at (record S { chans = channels_after us S.chans })) W) (sym (keeps.none fails)) (subst (AreHeld (looked_at S)) (sym stays) held)
      ] refl is
