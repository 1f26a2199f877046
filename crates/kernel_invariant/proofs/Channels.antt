-- Calls on ends of channels: what they set, and that no channel is over after them.
--     covered_by      what a process holds, and what waits in channels, is counted
--     moved_counts, carried_counts      the counts are those of holders and carriers after a change
--     counts_few      they stay far from what a count can have
--     SetsThere, AreOfEnds      updates set channels that are there;  or these and the table of a process
--     channels_put, ends_put      the state after such updates
--     reader_by, writer_by      an end that reads the channel, and one that writes it
--     going_after      no channel is over after them
--     end_sets, end_is, end_nearly      fd_read and fd_write on an end
--     socket_sets, socket_does, socket_nearly, socket_small      calls on sockets
--     end_going, socket_going      no channel is over after such calls
use Rattle.std.proofs.Common.{◌≡◌, ◌≢◌, ℕ, ◌+◌, ◌^◌, ◌<◌, ◌≤◌, ◌==◌, not, bit_and, Bool, true, false, List, [], ◌∷◌, ◌++◌, take, Option, None, Some, IsSome, is_some, inl, inr, refl, sym, ap, subst, ◌∙◌, arith}
use Rattle.std.proofs.lemmas.Bool.Decides.{eqb_tells}
use Rattle.std.specs.Ordering.{nat_cmp}
use Rattle.std.specs.FinMap.{FinMap, get, insert}
use Rattle.std.specs.List.{AllByRecursion}
use Rattle.abi_base.specs.declared.limits.TheConstants.{MOST_DESCRIPTORS}
use Rattle.abi_types.specs.declared.chan_kind.ChanKind.{ChanKind}
use Rattle.abi_types.specs.Families.{call_of_socket}
use Rattle.abi_types.specs.declared.call.Call.{Call}
use Rattle.abi_types.specs.declared.call.Call.TheVariants as call
use Rattle.abi_types.specs.declared.constants.Constants.{Constants}
use Rattle.abi_types.specs.declared.descriptor.Descriptor.{Descriptor}
use Rattle.abi_types.specs.declared.family.SocketCall.{SocketCall}
use Rattle.abi_types.specs.declared.family.SocketCall.TheVariants as socket
use Rattle.abi_types.specs.declared.open_kind.OpenKind.{OpenKind}
use Rattle.abi_types.specs.declared.open_kind.OpenKind.TheVariants.{File, Directory, End, Terminal, Process}
use Rattle.abi_types.specs.declared.reply.Reply.{Reply}
use Rattle.abi_types.specs.declared.who.Who.{Who}
use Rattle.channel_calls.specs.Calls.{AllGoOn, AreCarried, AreFew, AreMoved, Channels, carriers_in, channels_after, end_outcome, seen_in, socket_outcome, table_after}
use Rattle.fd_calls.specs.Calls.{offset_fd, offset_meaning}
use Rattle.fd_table.specs.Sizes.{KeysBelow, below-insert}
use Rattle.fd_table.specs.Table.{IsTable}
use Rattle.maps.specs.Maps.{number, weight, total, get-insert-same, get-insert-other, insert-again, insert_self, total-insert, total_at_least}
use Rattle.kernel_model.specs.Calls.{meaning_of}
use Rattle.kernel_model.specs.Channels.{Channel, Push, hung, full, sends, SideState, Open, Shut, Gone, must_wait, pull, push, with_reader_shut, with_writer_shut}
use Rattle.kernel_model.specs.Families.ChannelCalls.{Installed, install, is_nonblocking, picked, put_first, read_end, read_from, read_if, receive_open, send_on, send_open, send_to, sent_by, sent_reply, shut_if, shut_open, waits_unless, where_free, written_reply}
use Rattle.kernel_model.specs.Families.DescriptorCalls.{lowest_free}
use Rattle.kernel_model.specs.Families.OpenMeaning.{at_descriptor}
use Rattle.kernel_model.specs.Outcome.{Outcome}
use Rattle.kernel_model.specs.Release.{count_in, is_channel_kept, is_reader, is_writer}
use Rattle.kernel_model.specs.State.{State, Table, Update, put_all, set_chan, set_table}
use Rattle.kernel_model.specs.Valid.{IsNearlyValid, IsValid}
use Rattle.kernel_model.specs.View.{whole}
use Rattle.kernel_model.proofs.Calls.{proper}
use Rattle.kernel_model.proofs.SocketCalls.{receive_holds}
use Rattle.kernel_model.proofs.StreamCalls.{read_opens_well, write_opens_well}
use Rattle.kernel_model.proofs.Tests.{none_is_no, not_true, same_some}
use Rattle.kernel_parts.specs.Changes.{IsMoved}
use Rattle.kernel_parts.specs.Entries.{open_in}
use Rattle.kernel_parts.specs.Waiting.{fd_of_socket, socket_at}
use Rattle.kernel_invariant.specs.Sockets.{socket_on}
use Rattle.kernel_invariant.proofs.Changes.{lowest_small}
use Rattle.kernel_invariant.proofs.Kept.{AreSmall, holders_few}

-- ---- counts

-- each open's count is that of its holders and its carriers
abbrev pub AreCounted : FinMap nat_cmp ℕ → FinMap nat_cmp Table → Channels → Type 0
AreCounted counts tables chans = (o : ℕ) → number (get counts o) ≡ total (count_in o) tables + carriers_in o chans

module _ (tables : FinMap nat_cmp Table) (p : ℕ) (old : Table) (there : get tables p ≡ Some old) (chans : Channels) (before : FinMap nat_cmp ℕ)
    (counted : AreCounted before tables chans) where
  pub covered_by : (o : ℕ) → count_in o old + carriers_in o chans ≤ number (get before o)
  covered_by o =
      let own = total_at_least (count_in o) tables p old there in
      let all = counted o in
      omega (arith, own, all)

  pub covered_alone : (o : ℕ) → count_in o old ≤ number (get before o)
  covered_alone o = (let both = covered_by o in omega (arith, both))

  -- the table has changed, and the channels have
  pub moved_counts : (new : Table) (left : Channels) (after : FinMap nat_cmp ℕ) → AreMoved old chans new left before after
      → AreCounted after (insert tables p new) left
  moved_counts new left after moved o =
      let own : weight (count_in o) (get tables p) ≡ count_in o old = ap (weight (count_in o)) there in
      let sums = total-insert (count_in o) tables p new in
      let all = counted o in
      let more = moved o in
      omega (arith, own, sums, all, more)

  -- the table alone
  pub table_counts : (new : Table) (after : FinMap nat_cmp ℕ) → IsMoved old new before after → AreCounted after (insert tables p new) chans
  table_counts new after moved o =
      let own : weight (count_in o) (get tables p) ≡ count_in o old = ap (weight (count_in o)) there in
      let sums = total-insert (count_in o) tables p new in
      let all = counted o in
      let more = moved o in
      omega (arith, own, sums, all, more)

-- the channels alone have changed
pub carried_counts : (tables : FinMap nat_cmp Table) (chans left : Channels) (before after : FinMap nat_cmp ℕ) → AreCounted before tables chans
    → AreCarried chans left before after → AreCounted after tables left
carried_counts tables chans left before after counted carried o =
    let all = counted o in
    let more = carried o in
    omega (arith, all, more)

pub carriers_covered : (tables : FinMap nat_cmp Table) (chans : Channels) (before : FinMap nat_cmp ℕ) → AreCounted before tables chans
    → (o : ℕ) → carriers_in o chans ≤ number (get before o)
carriers_covered tables chans before counted o = (let all = counted o in omega (arith, all))

pub counts_few : (S : State) (counts : FinMap nat_cmp ℕ) → AreCounted counts S.tables S.chans → AreSmall S.tables → KeysBelow (2 ^ 32) S.tables → AreFew S.chans
    → (o : ℕ) → number (get counts o) < 2 ^ 63
counts_few S counts counted small below few o =
    let all = counted o in
    let held = holders_few S o small below in
    let carried = few o in
    omega (arith, all, held, carried)

-- ---- updates of channels

-- the update sets a channel that is there
abbrev pub IsOfChannel : Channels → Update → Type 0
IsOfChannel chans (set_chan c channel) = IsSome (get chans c)
IsOfChannel chans _ = ⊥

abbrev pub SetsThere : Channels → List Update → Type 0
SetsThere chans us = AllByRecursion (IsOfChannel chans) us

-- or the table of this process
abbrev pub IsOfEnd : ℕ → Channels → Update → Type 0
IsOfEnd p chans (set_chan c channel) = IsSome (get chans c)
IsOfEnd p chans (set_table q table) = q ≡ p
IsOfEnd p chans _ = ⊥

abbrev pub AreOfEnds : ℕ → Channels → List Update → Type 0
AreOfEnds p chans us = AllByRecursion (IsOfEnd p chans) us

one_of_ends : (p : ℕ) (chans : Channels) (u : Update) → IsOfChannel chans u → IsOfEnd p chans u
one_of_ends p chans (set_chan c channel) h = h
one_of_ends p chans u h = absurd h

pub of_ends : (p : ℕ) (chans : Channels) (us : List Update) → SetsThere chans us → AreOfEnds p chans us
of_ends p chans [] h = tt
of_ends p chans (u ∷ us) h = (one_of_ends p chans u h.0, of_ends p chans us h.1)

-- the state after them
pub channels_put : (us : List Update) (S : State) (base : Channels) → SetsThere base us → put_all us S ≡ record S { chans = channels_after us S.chans }
channels_put [] S base of = refl
channels_put (set_chan c channel ∷ us) S base of = channels_put us (record S { chans = insert S.chans c channel }) base of.1
channels_put (u ∷ us) S base of = absurd of.0

pub ends_put : (us : List Update) (S : State) (base : Channels) (p : ℕ) (table : Table) → get S.tables p ≡ Some table → AreOfEnds p base us
    → put_all us S ≡ record S { tables = insert S.tables p (table_after us table); chans = channels_after us S.chans }
ends_put [] S base p table there of = λ i. record S { tables = sym (insert_self S.tables p table there) i }
ends_put (set_chan c channel ∷ us) S base p table there of = ends_put us (record S { chans = insert S.chans c channel }) base p table there of.1
ends_put (set_table q new ∷ us) S base p table there of =
    ends_put us (record S { tables = insert S.tables q new }) base p new
    (ap (λ (r : ℕ). get (insert S.tables r new) p) of.0 ∙ get-insert-same S.tables p new) of.1
    ∙ (λ i. record S {
      tables = (ap (λ (r : ℕ). insert (insert S.tables r new) p (table_after us new)) of.0 ∙ insert-again S.tables p new (table_after us new)) i;
      chans = channels_after us S.chans;
    })
ends_put (u ∷ us) S base p table there of = absurd of.0

-- no channel comes by them
key_inserted : (chans base : Channels) (e : ℕ) (channel : Channel) → IsSome (get base e) → ((c : ℕ) → IsSome (get chans c) → IsSome (get base c))
    → (c : ℕ) → IsSome (get (insert chans e channel) c) → IsSome (get base c)
key_inserted chans base e channel here keys c there =
    elim (eqb_tells c e) [
      | inl is ↦ ap (λ k. is_some (get base k)) is.1 ∙ here
      | inr other ↦ keys c (sym (ap is_some (get-insert-other chans e channel c other.1)) ∙ there)
    ]

pub keys_after : (us : List Update) (p : ℕ) (chans base : Channels) → AreOfEnds p base us → ((c : ℕ) → IsSome (get chans c) → IsSome (get base c))
    → (c : ℕ) → IsSome (get (channels_after us chans) c) → IsSome (get base c)
keys_after [] p chans base of keys = keys
keys_after (set_chan e channel ∷ us) p chans base of keys =
    keys_after us p (insert chans e channel) base of.1 (key_inserted chans base e channel of.0 keys)
keys_after (set_table q new ∷ us) p chans base of keys = keys_after us p chans base of.1 keys
keys_after (u ∷ us) p chans base of keys = absurd of.0

-- ---- no channel is over

-- an end that reads the channel, and one that writes it
pub reader_by : (c : ℕ) (kind : Option OpenKind) → is_reader c kind ≡ true → (writes : Option ℕ) × (flags : ℕ) × (form : ChanKind) × (kind ≡ Some (End (Some c) writes flags form))
reader_by c (Some (End (Some r) writes flags form)) h =
    elim (eqb_tells r c) [
      | inl is ↦ (writes, flags, form, ap (λ q. Some (End (Some q) writes flags form)) is.1)
      | inr other ↦ absurd (not_true (sym other.0 ∙ h))
    ]
reader_by c kind h = absurd (not_true h)

pub writer_by : (c : ℕ) (kind : Option OpenKind) → is_writer c kind ≡ true → (reads : Option ℕ) × (flags : ℕ) × (form : ChanKind) × (kind ≡ Some (End reads (Some c) flags form))
writer_by c (Some (End reads (Some w) flags form)) h =
    elim (eqb_tells w c) [
      | inl is ↦ (reads, flags, form, ap (λ q. Some (End reads (Some q) flags form)) is.1)
      | inr other ↦ absurd (not_true (sym other.0 ∙ h))
    ]
writer_by c kind h = absurd (not_true h)

-- one whose reader or whose writer hasn't gone isn't over
read_goes_on : (channel : Channel) → (side : SideState) → channel.reader ≡ side → side ≢ Gone → is_channel_kept (Some channel) ≡ true
read_goes_on channel Open is left = ap (λ s. is_channel_kept (Some (record channel { reader = s }))) is
read_goes_on channel Shut is left = ap (λ s. is_channel_kept (Some (record channel { reader = s }))) is
read_goes_on channel Gone is left = absurd (left refl)

written_goes_on : (channel : Channel) → (reader side : SideState) → channel.reader ≡ reader → channel.writer ≡ side → side ≢ Gone
    → is_channel_kept (Some channel) ≡ true
written_goes_on channel Gone Open read is left = λ i. is_channel_kept (Some (record channel { reader = read i; writer = is i }))
written_goes_on channel Gone Shut read is left = λ i. is_channel_kept (Some (record channel { reader = read i; writer = is i }))
written_goes_on channel reader Gone read is left = absurd (left refl)
written_goes_on channel Open writer read is left = read_goes_on channel Open read (λ e. cc)
written_goes_on channel Shut writer read is left = read_goes_on channel Shut read (λ e. cc)

-- one that has lost both sides is over
both_gone : (channel : Channel) → channel.reader ≡ Gone → channel.writer ≡ Gone → channel.waiting ≡ [] → is_channel_kept (Some channel) ≡ false
both_gone channel read written none = λ i. is_channel_kept (Some (record channel { reader = read i; writer = written i; waiting = none i }))

-- a state with other tables and channels, which has no more channels
module _ (S : State) (tables : FinMap nat_cmp Table) (chans : Channels) (v : IsValid S)
    (nearly : IsNearlyValid (record S { tables = tables; chans = chans })) (keys : (c : ℕ) → IsSome (get chans c) → IsSome (get S.chans c)) where
  by_reader : (c o : ℕ) (channel : Channel) → get chans c ≡ Some channel → is_reader c (get S.opens o) ≡ true → is_channel_kept (Some channel) ≡ true
  by_reader c o channel there reads =
      let end = reader_by c (get S.opens o) reads in
      let has = (nearly.behind o (End (Some c) end.0 end.1 end.2) end.3).1 in
      let same : has.0 ≡ channel = same_some has.0 channel (sym has.1 ∙ there) in
      subst (λ (x : Channel). is_channel_kept (Some x) ≡ true) same (read_goes_on has.0 has.0.reader refl has.2)

  by_writer : (c o : ℕ) (channel : Channel) → get chans c ≡ Some channel → is_writer c (get S.opens o) ≡ true → is_channel_kept (Some channel) ≡ true
  by_writer c o channel there writes =
      let end = writer_by c (get S.opens o) writes in
      let has = (nearly.behind o (End end.0 (Some c) end.1 end.2) end.3).2 in
      let same : has.0 ≡ channel = same_some has.0 channel (sym has.1 ∙ there) in
      subst (λ (x : Channel). is_channel_kept (Some x) ≡ true) same (written_goes_on has.0 has.0.reader has.0.writer refl refl has.2)

  by_sides : (c : ℕ) (old channel : Channel) → get S.chans c ≡ Some old → get chans c ≡ Some channel → (reader writer : SideState) → old.reader ≡ reader
      → old.writer ≡ writer → is_channel_kept (Some channel) ≡ true
  by_sides c old channel before there Gone Gone read written =
      let none : old.waiting ≡ [] = (v.nearly.channels c old before).sound.read (ap (λ s. is_open_side s) read) in
      absurd (not_true (sym (both_gone old read written none) ∙ sym (ap is_channel_kept before) ∙ v.going c)) where
        is_open_side : SideState → Bool
        is_open_side Open = true
        is_open_side Shut = false
        is_open_side Gone = false
  by_sides c old channel before there Gone Open read written =
      let end = (v.nearly.channels c old before).written (λ gone. cc (sym written ∙ gone)) in by_writer c end.0 channel there end.1
  by_sides c old channel before there Gone Shut read written =
      let end = (v.nearly.channels c old before).written (λ gone. cc (sym written ∙ gone)) in by_writer c end.0 channel there end.1
  by_sides c old channel before there Open writer read written =
      let end = (v.nearly.channels c old before).read (λ gone. cc (sym read ∙ gone)) in by_reader c end.0 channel there end.1
  by_sides c old channel before there Shut writer read written =
      let end = (v.nearly.channels c old before).read (λ gone. cc (sym read ∙ gone)) in by_reader c end.0 channel there end.1

  by_old : (c : ℕ) (channel : Channel) → get chans c ≡ Some channel → (o : Option Channel) → get S.chans c ≡ o → IsSome o → is_channel_kept (Some channel) ≡ true
  by_old c channel there None before some = absurd (not_true some)
  by_old c channel there (Some old) before some = by_sides c old channel before there old.reader old.writer refl refl

  by_new : (c : ℕ) (o : Option Channel) → get chans c ≡ o → is_channel_kept o ≡ true
  by_new c None there = refl
  by_new c (Some channel) there = by_old c channel there (get S.chans c) refl (keys c (ap is_some there))

  pub going_after : AllGoOn chans
  going_after c = by_new c (get chans c) refl

-- ---- what calls set

module _ (chans : Channels) where
  waits_set : (nonblocking : Bool) → SetsThere chans (waits_unless nonblocking).updates
  waits_set true = tt
  waits_set false = tt

  pushed_set : (reply : ℕ → Reply) (nonblocking : Bool) (c : ℕ) (pushed : Push) → IsSome (get chans c) → SetsThere chans (sent_by reply nonblocking c pushed).updates
  pushed_set reply nonblocking c hung there = tt
  pushed_set reply nonblocking c full there = waits_set nonblocking
  pushed_set reply nonblocking c (sends count channel) there = (there, tt)

  to_set : (reply : ℕ → Reply) (nonblocking : Bool) (bytes : List ℕ) (carried : List Descriptor) (c : ℕ) (o : Option Channel) → get chans c ≡ o
      → SetsThere chans (send_to reply nonblocking bytes carried c o).updates
  to_set reply nonblocking bytes carried c None is = tt
  to_set reply nonblocking bytes carried c (Some channel) is = pushed_set reply nonblocking c (push bytes carried channel) (ap is_some is)

  pub send_sets : (reply : ℕ → Reply) (flags : ℕ) (bytes : List ℕ) (carried : List Descriptor) (writes : Option ℕ)
      → SetsThere chans (send_on reply (seen_in chans) flags bytes carried writes).updates
  send_sets reply flags [] carried writes = tt
  send_sets reply flags (b ∷ bytes) carried None = tt
  send_sets reply flags (b ∷ bytes) carried (Some c) = to_set reply (is_nonblocking flags) (b ∷ bytes) carried c (get chans c) refl

  pulled_set : (waits nonblocking : Bool) (c : ℕ) (n : ℕ) (channel : Channel) → IsSome (get chans c) → SetsThere chans (read_if waits nonblocking c (pull n channel)).updates
  pulled_set true nonblocking c n channel there = waits_set nonblocking
  pulled_set false nonblocking c n channel there = (there, tt)

  from_set : (n : ℕ) (nonblocking : Bool) (c : ℕ) (o : Option Channel) → get chans c ≡ o → SetsThere chans (read_from n nonblocking c o).updates
  from_set n nonblocking c None is = tt
  from_set n nonblocking c (Some channel) is = pulled_set (must_wait n channel) nonblocking c n channel (ap is_some is)

  pub read_sets : (n flags : ℕ) (reads : Option ℕ) → SetsThere chans (read_end (seen_in chans) n flags reads).updates
  read_sets n flags None = tt
  read_sets n flags (Some c) = from_set n (is_nonblocking flags) c (get chans c) refl

  pub end_sets : (kind : OpenKind) (called : Call) → SetsThere chans (end_outcome chans kind called).updates
  end_sets (End reads writes flags form) (call.FdRead fd n) = read_sets n flags reads
  end_sets (End reads writes flags form) (call.FdWrite fd bytes) = send_sets written_reply flags bytes [] writes
  end_sets kind called = tt

  both_shut : (first : Bool) (r : ℕ) (x : Option Channel) (second : Bool) (w : ℕ) (y : Option Channel) → get chans r ≡ x → get chans w ≡ y
      → SetsThere chans (shut_if first with_reader_shut r x ++ shut_if second with_writer_shut w y)
  both_shut true r (Some x) true w (Some y) one two = (ap is_some one, (ap is_some two, tt))
  both_shut true r (Some x) true w None one two = (ap is_some one, tt)
  both_shut true r (Some x) false w y one two = (ap is_some one, tt)
  both_shut true r None true w (Some y) one two = (ap is_some two, tt)
  both_shut true r None true w None one two = tt
  both_shut true r None false w y one two = tt
  both_shut false r x true w (Some y) one two = (ap is_some two, tt)
  both_shut false r x true w None one two = tt
  both_shut false r x false w y one two = tt

  shut_sets : (how : ℕ) (kind : OpenKind) → SetsThere chans (shut_open (seen_in chans) how (Some kind)).updates
  shut_sets how (End (Some r) (Some w) flags form) =
      both_shut (not (bit_and how 1 == 0)) r (get chans r) (not (bit_and how 2 == 0)) w (get chans w) refl refl
  shut_sets how (End (Some r) None flags form) = tt
  shut_sets how (End None writes flags form) = tt
  shut_sets how (File node offset flags) = tt
  shut_sets how (Directory node flags) = tt
  shut_sets how (Terminal which flags) = tt
  shut_sets how (Process p object) = tt

  sent_sets : (bytes : List ℕ) (carried : List Descriptor) (kind : OpenKind) → SetsThere chans (send_open (seen_in chans) bytes carried (Some kind)).updates
  sent_sets bytes carried (End (Some r) (Some w) flags form) = send_sets sent_reply flags bytes carried (Some w)
  sent_sets bytes carried (End (Some r) None flags form) = tt
  sent_sets bytes carried (End None writes flags form) = tt
  sent_sets bytes carried (File node offset flags) = tt
  sent_sets bytes carried (Directory node flags) = tt
  sent_sets bytes carried (Terminal which flags) = tt
  sent_sets bytes carried (Process p object) = tt

  pub socket_sets : (p : ℕ) (table : Table) (kind : OpenKind) (v : SocketCall) → AreOfEnds p chans (socket_outcome p table chans kind (call_of_socket v)).updates
  socket_sets p table kind (socket.SockRecv fd n room flags) =
      receive_holds p table (seen_in chans) n room flags (λ x. AreOfEnds p chans x.updates) (λ errno here. tt) tt (λ bytes. tt) (Some kind)
      (λ c w mode form channel installed is there made. (ap is_some there, (refl, tt)))
  socket_sets p table kind (socket.SockSend fd bytes fds flags) = of_ends p chans _ (sent_sets bytes.now (picked table fds.now) kind)
  socket_sets p table kind (socket.SockShutdown fd how) = of_ends p chans _ (shut_sets how kind)

-- ---- by the whole state

read_alike : (S : State) (n flags : ℕ) (reads : Option ℕ) → read_end (whole S) n flags reads ≡ read_end (seen_in S.chans) n flags reads
read_alike S n flags None = refl
read_alike S n flags (Some c) = refl

send_alike : (S : State) (reply : ℕ → Reply) (flags : ℕ) (bytes : List ℕ) (carried : List Descriptor) (writes : Option ℕ)
    → send_on reply (whole S) flags bytes carried writes ≡ send_on reply (seen_in S.chans) flags bytes carried writes
send_alike S reply flags [] carried writes = refl
send_alike S reply flags (b ∷ bytes) carried None = refl
send_alike S reply flags (b ∷ bytes) carried (Some c) = refl

pub end_is : (called : Call) (fd now : ℕ) (S : State) (o : ℕ) (reads writes : Option ℕ) (flags : ℕ) (form : ChanKind) → offset_fd called ≡ Some fd
    → (offset_meaning called).effect now (whole S) o (Some (End reads writes flags form)) ≡ end_outcome S.chans (End reads writes flags form) called
end_is (call.FdRead n length) fd now S o reads writes flags form is = read_alike S length flags reads
end_is (call.FdSeek n offset whence) fd now S o reads writes flags form is = refl
end_is (call.FdWrite n bytes) fd now S o reads writes flags form is = send_alike S written_reply flags bytes [] writes
end_is other fd now S o reads writes flags form is = absurd (none_is_no fd is)

pub end_nearly : (S : State) (o : ℕ) (kind : OpenKind) (called : Call) → get S.opens o ≡ Some kind → IsNearlyValid S
    → IsNearlyValid (put_all (end_outcome S.chans kind called).updates S)
end_nearly S o (End reads writes flags form) (call.FdRead fd n) there nearly =
    subst (λ (x : Outcome). IsNearlyValid (put_all x.updates S)) (read_alike S n flags reads)
    ((read_opens_well n).valid 0 S o (Some (End reads writes flags form)) there nearly)
end_nearly S o (End reads writes flags form) (call.FdWrite fd bytes) there nearly =
    subst (λ (x : Outcome). IsNearlyValid (put_all x.updates S)) (send_alike S written_reply flags bytes [] writes)
    ((write_opens_well bytes).valid 0 S o (Some (End reads writes flags form)) there nearly)
end_nearly S o kind called there nearly = nearly

sent_alike : (S : State) (bytes : List ℕ) (carried : List Descriptor) (kind : OpenKind)
    → send_open (whole S) bytes carried (Some kind) ≡ send_open (seen_in S.chans) bytes carried (Some kind)
sent_alike S bytes carried (End (Some r) (Some w) flags form) = send_alike S sent_reply flags bytes carried (Some w)
sent_alike S bytes carried (End (Some r) None flags form) = refl
sent_alike S bytes carried (End None writes flags form) = refl
sent_alike S bytes carried (File node offset flags) = refl
sent_alike S bytes carried (Directory node flags) = refl
sent_alike S bytes carried (Terminal which flags) = refl
sent_alike S bytes carried (Process p object) = refl

received_alike : (S : State) (p : ℕ) (table : Table) (n room flags : ℕ) (kind : OpenKind)
    → receive_open p table (whole S) n room flags (Some kind) ≡ receive_open p table (seen_in S.chans) n room flags (Some kind)
received_alike S p table n room flags (End (Some r) (Some w) mode form) = refl
received_alike S p table n room flags (End (Some r) None mode form) = refl
received_alike S p table n room flags (End None writes mode form) = refl
received_alike S p table n room flags (File node offset mode) = refl
received_alike S p table n room flags (Directory node mode) = refl
received_alike S p table n room flags (Terminal which mode) = refl
received_alike S p table n room flags (Process q object) = refl

shut_alike : (S : State) (how : ℕ) (kind : OpenKind) → shut_open (whole S) how (Some kind) ≡ shut_open (seen_in S.chans) how (Some kind)
shut_alike S how (End (Some r) (Some w) flags form) = refl
shut_alike S how (End (Some r) None flags form) = refl
shut_alike S how (End None writes flags form) = refl
shut_alike S how (File node offset flags) = refl
shut_alike S how (Directory node flags) = refl
shut_alike S how (Terminal which flags) = refl
shut_alike S how (Process p object) = refl

-- what a call on a socket does, by the open that its descriptor leads to
module _ (constants : Constants) (S : State) (who : Who) (table : Table) (v : SocketCall) where
  abbrev Does : Type 0
  Does = (meaning_of (call_of_socket v)).effect constants (whole S) who table ≡ socket_on S who.pid table (fd_of_socket v) (call_of_socket v)

send_by : (S : State) (p : ℕ) (table : Table) (fd : ℕ) (bytes : List ℕ) (fds : List ℕ) (flags : ℕ) (o : Option OpenKind)
    → send_open (whole S) bytes (picked table fds) o ≡ socket_at p table S.chans o (call.SockSend fd bytes fds flags)
send_by S p table fd bytes fds flags None = refl
send_by S p table fd bytes fds flags (Some kind) = sent_alike S bytes (picked table fds) kind

receive_by : (S : State) (p : ℕ) (table : Table) (fd n room flags : ℕ) (o : Option OpenKind)
    → receive_open p table (whole S) n room flags o ≡ socket_at p table S.chans o (call.SockRecv fd n room flags)
receive_by S p table fd n room flags None = refl
receive_by S p table fd n room flags (Some kind) = received_alike S p table n room flags kind

shut_by : (S : State) (p : ℕ) (table : Table) (fd how : ℕ) (o : Option OpenKind)
    → shut_open (whole S) how o ≡ socket_at p table S.chans o (call.SockShutdown fd how)
shut_by S p table fd how None = refl
shut_by S p table fd how (Some kind) = shut_alike S how kind

at_socket : (constants : Constants) (S : State) (who : Who) (table : Table) (v : SocketCall) (d : Option Descriptor) → get table (fd_of_socket v) ≡ d → Does constants S who table v
at_socket constants S who table (socket.SockRecv fd n room flags) None is =
    (λ i. at_none (is i)) ∙ sym (λ i. socket_at who.pid table S.chans (open_in S.opens (is i)) (call.SockRecv fd n room flags)) where
      at_none : Option Descriptor → Outcome
      at_none d = at_descriptor (λ o. receive_open who.pid table (whole S) n room flags) (whole S) d
at_socket constants S who table (socket.SockRecv fd n room flags) (Some d) is =
    (λ i. at_some (is i)) ∙ receive_by S who.pid table fd n room flags (get S.opens d.id)
    ∙ sym (λ i. socket_at who.pid table S.chans (open_in S.opens (is i)) (call.SockRecv fd n room flags)) where
      at_some : Option Descriptor → Outcome
      at_some d = at_descriptor (λ o. receive_open who.pid table (whole S) n room flags) (whole S) d
at_socket constants S who table (socket.SockSend fd bytes fds flags) None is =
    (λ i. at_none (is i)) ∙ sym (λ i. socket_at who.pid table S.chans (open_in S.opens (is i)) (call.SockSend fd bytes.now fds.now flags)) where
      at_none : Option Descriptor → Outcome
      at_none d = at_descriptor (λ o. send_open (whole S) bytes.now (picked table fds.now)) (whole S) d
at_socket constants S who table (socket.SockSend fd bytes fds flags) (Some d) is =
    (λ i. at_some (is i)) ∙ send_by S who.pid table fd bytes.now fds.now flags (get S.opens d.id)
    ∙ sym (λ i. socket_at who.pid table S.chans (open_in S.opens (is i)) (call.SockSend fd bytes.now fds.now flags)) where
      at_some : Option Descriptor → Outcome
      at_some d = at_descriptor (λ o. send_open (whole S) bytes.now (picked table fds.now)) (whole S) d
at_socket constants S who table (socket.SockShutdown fd how) None is =
    (λ i. at_none (is i)) ∙ sym (λ i. socket_at who.pid table S.chans (open_in S.opens (is i)) (call.SockShutdown fd how)) where
      at_none : Option Descriptor → Outcome
      at_none d = at_descriptor (λ o. shut_open (whole S) how) (whole S) d
at_socket constants S who table (socket.SockShutdown fd how) (Some d) is =
    (λ i. at_some (is i)) ∙ shut_by S who.pid table fd how (get S.opens d.id)
    ∙ sym (λ i. socket_at who.pid table S.chans (open_in S.opens (is i)) (call.SockShutdown fd how)) where
      at_some : Option Descriptor → Outcome
      at_some d = at_descriptor (λ o. shut_open (whole S) how) (whole S) d

pub socket_does : (constants : Constants) (S : State) (who : Who) (table : Table) (v : SocketCall) → Does constants S who table v
socket_does constants S who table v = at_socket constants S who table v (get table (fd_of_socket v)) refl

-- no constants matter
pub no_constants : Constants
no_constants = record { key = []; epoch = 0 }

pub socket_nearly : (S : State) (p : ℕ) (table : Table) (v : SocketCall) → get S.tables p ≡ Some table → IsNearlyValid S
    → IsNearlyValid (put_all (socket_on S p table (fd_of_socket v) (call_of_socket v)).updates S)
socket_nearly S p table v there nearly =
    let who : Who = record { pid = p; tid = 0; since = 0; stage = None } in
    subst (λ (x : Outcome). IsNearlyValid (put_all x.updates S)) (socket_does no_constants S who table v)
    ((proper (call_of_socket v)).valid no_constants S who table there nearly)

-- ---- the table stays one

first_small : (number : ℕ) (o : Option Installed) (installed : Installed) → ((i : Installed) → o ≡ Some i → IsTable i.table) → put_first number o ≡ Some installed
    → IsTable installed.table
first_small number None installed small is = absurd (none_is_no installed is)
first_small number (Some i) installed small is = subst IsTable (ap (λ (x : Installed). x.table) (same_some _ installed is)) (small i refl)

free_small : (table : Table) (d : Descriptor) (ds : List Descriptor) (installed : Installed) (free : Option ℕ) → lowest_free table ≡ free
    → ((number : ℕ) (i : Installed) → number < MOST_DESCRIPTORS → install (insert table number d) ds ≡ Some i → IsTable i.table)
    → where_free free (λ number. put_first number (install (insert table number d) ds)) ≡ Some installed → IsTable installed.table
free_small table d ds installed None free rest is = absurd (none_is_no installed is)
free_small table d ds installed (Some number) free rest is =
    first_small number (install (insert table number d) ds) installed (λ i made. rest number i (lowest_small table number free) made) is

installs_small : (table : Table) (ds : List Descriptor) (installed : Installed) → IsTable table → install table ds ≡ Some installed → IsTable installed.table
installs_small table [] installed small is = subst IsTable (ap (λ (x : Installed). x.table) (same_some _ installed is)) small
installs_small table (d ∷ ds) installed small is =
    free_small table d ds installed (lowest_free table) refl
    (λ number i less made. installs_small (insert table number d) ds i (below-insert MOST_DESCRIPTORS table number d small less) made) is

no_table : (chans : Channels) (us : List Update) (table : Table) → SetsThere chans us → table_after us table ≡ table
no_table chans [] table of = refl
no_table chans (set_chan c channel ∷ us) table of = no_table chans us table of.1
no_table chans (u ∷ us) table of = absurd of.0

pub socket_small : (chans : Channels) (p : ℕ) (table : Table) (kind : OpenKind) (v : SocketCall) → IsTable table
    → IsTable (table_after (socket_outcome p table chans kind (call_of_socket v)).updates table)
socket_small chans p table kind (socket.SockRecv fd n room flags) small =
    receive_holds p table (seen_in chans) n room flags (λ x. IsTable (table_after x.updates table)) (λ errno here. small) small (λ bytes. small) (Some kind)
    (λ c w mode form channel installed is there made. installs_small table (take room (pull n channel).carried) installed small made)
socket_small chans p table kind (socket.SockSend fd bytes fds flags) small =
    subst IsTable (sym (no_table chans _ table (sent_sets chans bytes.now (picked table fds.now) kind))) small
socket_small chans p table kind (socket.SockShutdown fd how) small = subst IsTable (sym (no_table chans _ table (shut_sets chans how kind))) small

-- ---- no channel is over after a call

pub end_going : (S : State) (o : ℕ) (kind : OpenKind) (called : Call) (left : Channels) → IsValid S → get S.opens o ≡ Some kind
    → left ≡ channels_after (end_outcome S.chans kind called).updates S.chans → AllGoOn left
end_going S o kind called left v there is =
    let us : List Update = (end_outcome S.chans kind called).updates in
    let nearly : IsNearlyValid (record S { chans = channels_after us S.chans }) =
    subst IsNearlyValid (channels_put us S S.chans (end_sets S.chans kind called)) (end_nearly S o kind called there v.nearly) in
    subst AllGoOn (sym is)
    (going_after S S.tables (channels_after us S.chans) v nearly (keys_after us 0 S.chans S.chans (of_ends 0 S.chans us (end_sets S.chans kind called)) (λ c some. some)))

-- a call on the socket of a descriptor that leads to this open
module _ (S : State) (p : ℕ) (table : Table) (kind : OpenKind) (view : SocketCall) (there : get S.tables p ≡ Some table)
    (found : open_in S.opens (get table (fd_of_socket view)) ≡ Some kind) where
  abbrev pub socket_updates : List Update
  socket_updates = (socket_outcome p table S.chans kind (call_of_socket view)).updates

  pub socket_found : socket_on S p table (fd_of_socket view) (call_of_socket view) ≡ socket_outcome p table S.chans kind (call_of_socket view)
  socket_found = ap (λ o. socket_at p table S.chans o (call_of_socket view)) found

  -- the state that it leaves before the release
  abbrev pub socket_left : State
  socket_left = record S { tables = insert S.tables p (table_after socket_updates table); chans = channels_after socket_updates S.chans }

  pub socket_put : put_all socket_updates S ≡ socket_left
  socket_put = ends_put socket_updates S S.chans p table there (socket_sets S.chans p table kind view)

  pub socket_left_nearly : IsNearlyValid S → IsNearlyValid socket_left
  socket_left_nearly nearly =
      subst IsNearlyValid (ap (λ (x : Outcome). put_all x.updates S) socket_found ∙ socket_put) (socket_nearly S p table view there nearly)

  pub socket_going : (left : Channels) → IsValid S → left ≡ channels_after socket_updates S.chans → AllGoOn left
  socket_going left v is =
      subst AllGoOn (sym is)
      (going_after S (insert S.tables p (table_after socket_updates table)) (channels_after socket_updates S.chans) v (socket_left_nearly v.nearly)
      (keys_after socket_updates p S.chans S.chans (socket_sets S.chans p table kind view) (λ c some. some)))
