-- How many sends a channel has had counts each send to it once, and nothing else.
--     sends_are_counted, new_channels_have_none, ends_count_none, ends_make_none      the laws
use Rattle.std.proofs.Common.{◌≡◌, ◌≢◌, ◌⊎◌, inl, inr, ℕ, suc, ◌+◌, ◌<◌, Bool, true, false, cond, List, [], ◌∷◌, length, take, Option, None, Some, refl, sym, ap, subst, ◌∙◌, arith}
use Rattle.std.proofs.lemmas.Bool.Decides.{eqb_tells}
use Rattle.std.proofs.lemmas.List.{length-append}
use Rattle.std.specs.FinMap.{get, insert}
use Rattle.std.specs.List.{AllByRecursion}
use Rattle.abi_base.specs.declared.errno.Errno.{Errno}
use Rattle.abi_base.specs.declared.errno.Errno.TheVariants.{Badf, Nomem, Success}
use Rattle.abi_types.specs.declared.chan_kind.ChanKind.{ChanKind}
use Rattle.abi_types.specs.Families.{is_anonymous}
use Rattle.abi_types.specs.declared.place.Place.{Place}
use Rattle.abi_types.specs.declared.reply.Reply.{Reply}
use Rattle.abi_types.specs.declared.reply.Answer.{Answer}
use Rattle.abi_types.specs.declared.reply.Answer.TheVariants as answer
use Rattle.abi_types.specs.declared.call.Call.{Call}
use Rattle.abi_types.specs.declared.call.Call.TheVariants as calls
use Rattle.abi_types.specs.declared.constants.Constants.{Constants}
use Rattle.abi_types.specs.declared.descriptor.Descriptor.{Descriptor}
use Rattle.abi_types.specs.declared.node.NodeKind.TheVariants as node_kind
use Rattle.abi_types.specs.declared.open_kind.OpenKind.{OpenKind}
use Rattle.abi_types.specs.declared.open_kind.OpenKind.TheVariants.{File, Directory, End, Terminal, Process}
use Rattle.abi_types.specs.declared.thread.Thread.{Thread}
use Rattle.abi_types.specs.declared.who.Who.{Who}
use Rattle.maps.specs.Maps.{get-insert-same, get-insert-other}
use Rattle.kernel_model.specs.Calls.{meaning_of}
use Rattle.kernel_model.specs.ChannelLaws.{EndsCountNone, EndsMakeNone, GoesInto, IsPut, NewChannelsHaveNone, PutsInto, SendsAreCounted}
use Rattle.kernel_model.specs.Channels.{Channel, Send, channel_left, pushed, room}
use Rattle.kernel_model.specs.Families.ChannelCalls.{picked, send_open, sent_reply, written_reply}
use Rattle.kernel_model.specs.Families.ClockCalls.{real_time}
use Rattle.kernel_model.specs.Families.FileMeaning.{on_open, open_of}
use Rattle.kernel_model.specs.Families.MemoryCalls.{map_open, map_row, map_zeros, mapping}
use Rattle.kernel_model.specs.Families.NameMaking.{making, making_unless, text_error}
use Rattle.kernel_model.specs.Families.NameMeaning.{NameMeaning}
use Rattle.kernel_model.specs.Families.OpenMeaning.{at_descriptor}
use Rattle.kernel_model.specs.Families.StreamCalls.{write_open}
use Rattle.kernel_model.specs.Outcome.{Outcome, WhereReply, replies}
use Rattle.kernel_model.specs.Proper.{CarriesOn, IsCounted, Sender, sends_had, may_send}
use Rattle.kernel_model.specs.Release.{ends, loses_reader, loses_writer, release}
use Rattle.kernel_model.specs.Reply.{refused}
use Rattle.kernel_model.specs.State.{State, Table, Tree, Update, tree_of, at_chan, put_all, put_one, set_chan}
use Rattle.kernel_model.specs.Step.{end_unreleased, outcome, step_answer, tick, unreleased, IsStep}
use Rattle.kernel_model.specs.Valid.{IsNearlyValid, IsValid}
use Rattle.kernel_model.specs.View.{whole}
use Rattle.kernel_model.specs.Waits.{waiting, waits_if}
use Rattle.kernel_model.proofs.Calls.{proper}
use Rattle.kernel_model.proofs.ChannelChanges.{none_more}
use Rattle.kernel_model.proofs.Channels.{channel_released, was_channel}
use Rattle.kernel_model.proofs.Outcomes.{outcome_holds}
use Rattle.kernel_model.proofs.Parts.{put_keeps}
use Rattle.kernel_model.proofs.Polls.{poll_errors}
use Rattle.kernel_model.proofs.Readiness.{parking_changes}
use Rattle.kernel_model.proofs.Refusals.{error_keeps, refusal_is_other, same_reply, where_reply}
use Rattle.kernel_model.proofs.Sending.{on_holds, send_holds, sends_to, succeeds_or}
use Rattle.kernel_model.proofs.StreamCalls.{write_opens_well}
use Rattle.kernel_model.proofs.Tests.{none_is_no, not_true, same_some}
use Rattle.kernel_model.proofs.Touches.{end_is}
use Rattle.kernel_model.proofs.Valids.{same_value, tick_nearly_valid}

-- ---- calls that send nothing

-- each channel that is there in both states has had as many sends in the one as in the other
abbrev SameCounts : State → State → Type 0
SameCounts S T = (c : ℕ) (was now : Channel) → get S.chans c ≡ Some was → get T.chans c ≡ Some now → sends_had now ≡ sends_had was

counts_stay : (S : State) → SameCounts S S
counts_stay S c was now before after = ap sends_had (same_value now was (get S.chans c) after before)

module _ (S : State) where
  set_counts : (T : State) (e : ℕ) (channel : Channel) → SameCounts S T → ((was : Channel) → get S.chans e ≡ Some was → sends_had channel ≡ sends_had was)
      → SameCounts S (put_one (set_chan e channel) T)
  set_counts T e channel same here c was now before after =
      elim (eqb_tells c e) [
        | inl is ↦ (
            let there : get (insert T.chans e channel) e ≡ Some now = subst (λ k. get (insert T.chans e channel) k ≡ Some now) is.1 after in
            let own : channel ≡ now = same_value channel now (get (insert T.chans e channel) e) (get-insert-same T.chans e channel) there in
            sym (ap sends_had own) ∙ here was (subst (λ k. get S.chans k ≡ Some was) is.1 before))
        | inr other ↦ same c was now before (sym (get-insert-other T.chans e channel c other.1) ∙ after)
      ]

  not_more : (old : Option Channel) (new : Channel) (was : Channel) → IsCounted false old new → old ≡ Some was → sends_had new ≡ sends_had was
  not_more old new was counted there =
      elim (subst (λ o. IsCounted false o new) there counted) [
        | inl same ↦ same
        | inr more ↦ absurd (not_true more.0)
      ]

  one_counts : (table : Table) (fds : List ℕ) (u : Update) (T : State) → SameCounts S T → CarriesOn S (table, fds, false) u → SameCounts S (put_one u T)
  one_counts table fds (set_chan e channel) T same on = set_counts T e channel same (λ was there. not_more (get S.chans e) channel was on.1 there)
  one_counts table fds u T same on = same

  all_count : (table : Table) (fds : List ℕ) (us : List Update) (T : State) → SameCounts S T → AllByRecursion (CarriesOn S (table, fds, false)) us
      → SameCounts S (put_all us T)
  all_count table fds [] T same on = same
  all_count table fds (u ∷ us) T same on = all_count table fds us (put_one u T) (one_counts table fds u T same on.0) on.1

-- each channel that is there in the second state alone has had none
abbrev NewHaveNone : State → State → Type 0
NewHaveNone S T = (c : ℕ) (now : Channel) → get S.chans c ≡ None → get T.chans c ≡ Some now → sends_had now ≡ 0

none_new : (S : State) → NewHaveNone S S
none_new S c now before after = absurd (none_is_no now (sym before ∙ after))

module _ (S : State) (sender : Sender) where
  one_new : (u : Update) (T : State) → NewHaveNone S T → CarriesOn S sender u → NewHaveNone S (put_one u T)
  one_new (set_chan e channel) T new on c now before after =
      elim (eqb_tells c e) [
        | inl is ↦ (
            let there : get (insert T.chans e channel) e ≡ Some now = subst (λ k. get (insert T.chans e channel) k ≡ Some now) is.1 after in
            let own : channel ≡ now = same_value channel now (get (insert T.chans e channel) e) (get-insert-same T.chans e channel) there in
            sym (ap sends_had own) ∙ subst (λ o. IsCounted sender.2 o channel) (subst (λ k. get S.chans k ≡ None) is.1 before) on.1)
        | inr other ↦ new c now before (sym (get-insert-other T.chans e channel c other.1) ∙ after)
      ]
  one_new u T new on c now before after = new c now before after

  all_new : (us : List Update) (T : State) → NewHaveNone S T → AllByRecursion (CarriesOn S sender) us → NewHaveNone S (put_all us T)
  all_new [] T new on = new
  all_new (u ∷ us) T new on = all_new us (put_one u T) (one_new u T new on.0) on.1

-- ---- the release

side_counts : (reader writer : Bool) (channel : Channel) → sends_had (channel_left reader writer channel) ≡ sends_had channel
side_counts true true channel = sym (none_more (sends_had channel))
side_counts true false channel = sym (none_more (sends_had channel))
side_counts false true channel = refl
side_counts false false channel = refl

-- a channel that is there after the release was there before it, and had had as many
released_from : (U : State) (c : ℕ) (now : Channel) → get (release U).chans c ≡ Some now
    → (before : Channel) × (get U.chans c ≡ Some before) × (sends_had now ≡ sends_had before)
released_from U c now there =
    let was = was_channel (loses_reader U (ends U) c) (loses_writer U (ends U) c) (get U.chans c) now (sym (channel_released U c) ∙ there) in
    (was.0, was.1, sym (ap sends_had was.2) ∙ side_counts (loses_reader U (ends U) c) (loses_writer U (ends U) c) was.0)

-- ---- calls that send

-- the channel that an open writes
abbrev writes_of : Option OpenKind → Option ℕ
writes_of (Some (End reads writes mode form)) = writes
writes_of kind = None

where_any : (P : Reply → Type 0) → ((reply : Reply) → P reply) → (a : Answer) → WhereReply P a
where_any P all (answer.Parked writes) = tt
where_any P all (answer.Reply reply) = all reply

module _ (S : State) (table : Table) (fd : ℕ) (bytes : List ℕ) (c : ℕ) (was now : Channel) (before : get S.chans c ≡ Some was) where
  abbrev Into : Type 0
  Into = GoesInto (get table) S.opens fd bytes c

  -- nothing is sent to the channel where the call succeeds
  abbrev SendsNone : Reply → Type 0
  SendsNone reply = reply.errno ≡ Success → ¬ Into

  -- after the outcome's updates the channel has had one send more, and it was sent to; or as many, and it wasn't
  abbrev Decides : Outcome → Type 0
  Decides o =
      get (put_all o.updates (tick S)).chans c ≡ Some now
      → (Into × (sends_had now ≡ suc (sends_had was))) ⊎ (WhereReply SendsNone o.answer × (sends_had now ≡ sends_had was))

  as_before : get S.chans c ≡ Some now → sends_had now ≡ sends_had was
  as_before after = ap sends_had (same_value now was (get S.chans c) after before)

  refuses : (errno : Errno) → errno ≢ Success → Decides (replies (refused errno))
  refuses errno other after = inr (λ success. absurd (other success), as_before after)

  none_sent : (reply : ℕ → Reply) → bytes ≡ [] → Decides (replies (reply 0))
  none_sent reply none after = inr (λ success into. let some = into.some in let bare = ap (length {A = ℕ}) none in omega (arith, some, bare), as_before after)

  -- nothing is sent where the open writes another channel or none
  apart : (d : Descriptor) → get table fd ≡ Some d → writes_of (get S.opens d.id) ≢ Some c → ¬ Into
  apart d here other into =
      other (ap (λ (x : Descriptor). writes_of (get S.opens x.id)) (same_some d into.d (sym here ∙ into.socket)) ∙ ap writes_of into.opened)

  module _ (d : Descriptor) (here : get table fd ≡ Some d) where
    -- what leaves the channels as they were
    silent : (o : Outcome) → writes_of (get S.opens d.id) ≡ None → get (put_all o.updates (tick S)).chans c ≡ get S.chans c → Decides o
    silent o none same after =
        inr (where_any SendsNone (λ reply success. apart d here (λ is. none_is_no c (sym none ∙ is))) o.answer, as_before (sym same ∙ after))

    sent : (reply : ℕ → Reply) (e mode : ℕ) (form : ChanKind) (reads : Option ℕ) (carried : List Descriptor) (channel : Channel)
        → get S.opens d.id ≡ Some (End reads (Some e) mode form) → get S.chans e ≡ Some channel → 0 < length bytes → Decides (sends_to reply e bytes carried channel)
    sent reply e mode form reads carried channel opened there some after =
        let send : Send = record { bytes = take (room channel) bytes; carried = carried } in
        let new : Channel = pushed (take (room channel) bytes) carried channel in
        elim (eqb_tells c e) [
          | inl is ↦ (
              let stands : get (insert S.chans e new) e ≡ Some now = subst (λ k. get (insert S.chans e new) k ≡ Some now) is.1 after in
              let own : new ≡ now = same_value new now (get (insert S.chans e new) e) (get-insert-same S.chans e new) stands in
              let old : channel ≡ was = same_value channel was (get S.chans e) there (subst (λ k. get S.chans k ≡ Some was) is.1 before) in
              let more = length-append channel.waiting (send ∷ []) in
              let one : sends_had new ≡ suc (sends_had channel) = omega (arith, more) in
              inl (
                record {
                  some = some;
                  d = d;
                  socket = here;
                  reads = reads;
                  mode = mode;
                  form = form;
                  opened = opened ∙ ap (λ k. Some (End reads (Some k) mode form)) (sym is.1);
                },
                sym (ap sends_had own) ∙ one ∙ ap (λ (x : Channel). suc (sends_had x)) old,
              ))
          | inr other ↦ inr (
            where_any SendsNone (λ r success. apart d here (λ is. other.1 (same_some c e (sym is ∙ ap writes_of opened))))
                (sends_to reply e bytes carried channel).answer,
            as_before (sym (get-insert-other S.chans e new c other.1) ∙ after),
          )
        ]

-- ---- sock_send

module _ (S : State) (table : Table) (fd : ℕ) (bytes : List ℕ) (c : ℕ) (was now : Channel) (before : get S.chans c ≡ Some was) where
  socket_decides : (fds : List ℕ) (o : Option Descriptor) → get table fd ≡ o
      → Decides S table fd bytes c was now before (at_descriptor (λ n. send_open (whole (tick S)) bytes (picked table fds)) (whole (tick S)) o)
  socket_decides fds None here = refuses S table fd bytes c was now before Badf (λ e. cc)
  socket_decides fds (Some d) here =
      send_holds (tick S) bytes (picked table fds) (Decides S table fd bytes c was now before) (refuses S table fd bytes c was now before)
      (λ after. inr (tt, as_before S table fd bytes c was now before after)) (none_sent S table fd bytes c was now before sent_reply) (get S.opens d.id)
      (λ r e mode form channel opened there some. sent S table fd bytes c was now before d here sent_reply e mode form (Some r) (picked table fds) channel opened there some)

  -- ---- fd_write

  other_chans : (moment : ℕ) (d : Descriptor) (kind : Option OpenKind) → writes_of kind ≡ None
      → get (put_all (write_open moment (whole (tick S)) bytes d.id kind).updates (tick S)).chans c ≡ get S.chans c
  other_chans moment d None none = refl
  other_chans moment d (Some (File node offset flags)) none =
      put_keeps (write_open moment (whole (tick S)) bytes d.id (Some (File node offset flags))).updates (tick S) (at_chan c)
      ((write_opens_well bytes).sets moment (whole (tick S)) d.id (Some (File node offset flags)) (at_chan c) refl)
  other_chans moment d (Some (Directory node flags)) none = refl
  other_chans moment d (Some (End reads None mode form)) none =
      put_keeps (write_open moment (whole (tick S)) bytes d.id (Some (End reads None mode form))).updates (tick S) (at_chan c)
      ((write_opens_well bytes).sets moment (whole (tick S)) d.id (Some (End reads None mode form)) (at_chan c) refl)
  other_chans moment d (Some (End reads (Some e) mode form)) none = absurd (none_is_no e (sym none))
  other_chans moment d (Some (Terminal which flags)) none =
      put_keeps (write_open moment (whole (tick S)) bytes d.id (Some (Terminal which flags))).updates (tick S) (at_chan c)
      ((write_opens_well bytes).sets moment (whole (tick S)) d.id (Some (Terminal which flags)) (at_chan c) refl)
  other_chans moment d (Some (Process p object)) none = refl

  write_silent : (moment : ℕ) (d : Descriptor) → get table fd ≡ Some d → (kind : Option OpenKind) → get S.opens d.id ≡ kind → writes_of kind ≡ None
      → Decides S table fd bytes c was now before (write_open moment (whole (tick S)) bytes d.id kind)
  write_silent moment d here kind is none =
      silent S table fd bytes c was now before d here (write_open moment (whole (tick S)) bytes d.id kind) (ap writes_of is ∙ none)
      (other_chans moment d kind none)

  kind_decides : (moment : ℕ) (d : Descriptor) → get table fd ≡ Some d → (kind : Option OpenKind) → get S.opens d.id ≡ kind
      → Decides S table fd bytes c was now before (write_open moment (whole (tick S)) bytes d.id kind)
  kind_decides moment d here None is = write_silent moment d here None is refl
  kind_decides moment d here (Some (File node offset flags)) is = write_silent moment d here (Some (File node offset flags)) is refl
  kind_decides moment d here (Some (Directory node flags)) is = write_silent moment d here (Some (Directory node flags)) is refl
  kind_decides moment d here (Some (End reads None mode form)) is = write_silent moment d here (Some (End reads None mode form)) is refl
  kind_decides moment d here (Some (End reads (Some e) mode form)) is =
      on_holds (tick S) written_reply (Decides S table fd bytes c was now before) (refuses S table fd bytes c was now before)
      (λ after. inr (tt, as_before S table fd bytes c was now before after)) e mode bytes [] (none_sent S table fd bytes c was now before written_reply)
      (λ channel there some. sent S table fd bytes c was now before d here written_reply e mode form reads [] channel is there some)
  kind_decides moment d here (Some (Terminal which flags)) is = write_silent moment d here (Some (Terminal which flags)) is refl
  kind_decides moment d here (Some (Process p object)) is = write_silent moment d here (Some (Process p object)) is refl

  write_decides : (moment : ℕ) (o : Option Descriptor) → get table fd ≡ o
      → Decides S table fd bytes c was now before (at_descriptor (write_open moment (whole (tick S)) bytes) (whole (tick S)) o)
  write_decides moment None here = refuses S table fd bytes c was now before Badf (λ e. cc)
  write_decides moment (Some d) here = kind_decides moment d here (get S.opens d.id) refl

-- ---- all calls

-- the descriptor and the bytes of a call that sends
abbrev put_of : Call → Option (ℕ × List ℕ)
put_of (calls.FdWrite fd bytes) = Some (fd, bytes)
put_of (calls.SockSend fd bytes fds flags) = Some (fd, bytes)
put_of other = None

bare_counts : (S : State) (us : List Update) → us ≡ [] → SameCounts S (put_all us (tick S))
bare_counts S us bare = subst (λ us. SameCounts S (put_all us (tick S))) (sym bare) (counts_stay S)

map_bare : (place : Place) (size offset : ℕ) (t : Tree) (kind : Option OpenKind) → (map_open place size offset t kind).updates ≡ []
map_bare place size offset t None = refl
map_bare place size offset t (Some (File node at flags)) = refl
map_bare place size offset t (Some (Directory node flags)) = refl
map_bare place size offset t (Some (End reads writes flags form)) = refl
map_bare place size offset t (Some (Terminal which flags)) = refl
map_bare place size offset t (Some (Process p object)) = refl

mem_map_bare : (constants : Constants) (S : State) (who : Who) (place : Place) (size prot fd offset : ℕ) (table : Table) (zeros : Bool)
    → ((cond zeros (map_zeros place) (on_open (map_row fd prot) (mapping place size offset))).effect constants (whole (tick S)) who table).updates ≡ []
mem_map_bare constants S who place size prot fd offset table true = refl
mem_map_bare constants S who place size prot fd offset table false =
    map_bare place size offset (tree_of S) (open_of (whole (tick S)) (get table fd))

symlink_silent : (o : Option Errno) (m : NameMeaning) → may_send m.errors ≡ false → may_send (making_unless o m).errors ≡ false
symlink_silent None m none = none
symlink_silent (Some errno) m none = none

module _ (constants : Constants) (S : State) (who : Who) (table : Table) (nearly : IsNearlyValid (tick S)) where
  abbrev left_by : Call → State
  left_by call = put_all ((meaning_of call).effect constants (whole (tick S)) who table).updates (tick S)

  quiet : (call : Call) → may_send (meaning_of call).errors ≡ false → SameCounts S (left_by call)
  quiet call none =
      all_count (tick S) table (meaning_of call).sends ((meaning_of call).effect constants (whole (tick S)) who table).updates (tick S) (counts_stay (tick S))
      (subst (λ b. AllByRecursion (CarriesOn (tick S) (table, (meaning_of call).sends, b)) ((meaning_of call).effect constants (whole (tick S)) who table).updates)
      none ((proper call).carries constants (tick S) who table nearly))

  -- a call that doesn't send leaves each count
  others_count : (call : Call) → put_of call ≡ None → SameCounts S (left_by call)
  others_count (calls.FdWrite fd bytes) none = absurd (none_is_no (fd, bytes) (sym none))
  others_count (calls.SockSend fd bytes fds flags) none = absurd (none_is_no (fd, bytes) (sym none))
  others_count (calls.MemMap place size prot flags fd offset) none =
      bare_counts S ((meaning_of (calls.MemMap place size prot flags fd offset)).effect constants (whole (tick S)) who table).updates
      (mem_map_bare constants S who place size prot fd offset table (is_anonymous flags))
  others_count (calls.Memory number errno) none = counts_stay S
  others_count (calls.Refused number errno) none = counts_stay S
  others_count (calls.Poll subscriptions) none = quiet (calls.Poll subscriptions) (ap may_send (poll_errors subscriptions))
  others_count (calls.FileSymlink text fd path) none =
      quiet (calls.FileSymlink text fd path) (symlink_silent (text_error text) (making (node_kind.Link text) path) refl)
  others_count other none = quiet other refl

-- the bytes of the call go into channel c
record CallGoesInto (S : State) (who : Who) (call : Call) (c : ℕ) : Type 0 where
  table : Table
  own : get S.tables who.pid ≡ Some table
  put : ℕ × List ℕ
  is : put_of call ≡ Some put
  into : GoesInto (get table) S.opens put.0 put.1 c

module _ (constants : Constants) (S : State) (who : Who) (call : Call) (c : ℕ) (was now : Channel) (before : get S.chans c ≡ Some was) where
  -- after the outcome's updates the channel has had one send more, and the call sent to it; or as many, and where it succeeds it didn't
  abbrev Settles : Outcome → Type 0
  Settles o =
      get (put_all o.updates (tick S)).chans c ≡ Some now
      → (CallGoesInto S who call c × (sends_had now ≡ suc (sends_had was)))
      ⊎ (WhereReply (λ reply. reply.errno ≡ Success → ¬ CallGoesInto S who call c) o.answer × (sends_had now ≡ sends_had was))

  settles_refused : (reply : Reply) → reply.errno ≢ Success → Settles (replies reply)
  settles_refused reply other after = inr (λ success. absurd (other success), counts_stay S c was now before after)

  -- by its table and what it sends
  by_put : (table : Table) (own : get S.tables who.pid ≡ Some table) (fd : ℕ) (bytes : List ℕ) → put_of call ≡ Some (fd, bytes) → (o : Outcome)
      → Decides S table fd bytes c was now before o → Settles o
  by_put table own fd bytes is o decides after =
      elim (decides after) [
        | inl into ↦ inl (record { table = table; own = own; put = (fd, bytes); is = is; into = into.0 }, into.1)
        | inr not ↦ inr (
          where_more (SendsNone S table fd bytes c was now before) (λ reply. reply.errno ≡ Success → ¬ CallGoesInto S who call c)
              (λ reply none success goes. none success (same_into goes)) o.answer not.0,
          not.1,
        )
      ] where
        where_more : (P Q : Reply → Type 0) → ((reply : Reply) → P reply → Q reply) → (a : Answer) → WhereReply P a → WhereReply Q a
        where_more P Q more (answer.Parked writes) h = h
        where_more P Q more (answer.Reply reply) h = more reply h

        same_into : CallGoesInto S who call c → GoesInto (get table) S.opens fd bytes c
        same_into goes =
            subst (λ (x : ℕ × List ℕ). GoesInto (get table) S.opens x.0 x.1 c) (same_some goes.put (fd, bytes) (sym goes.is ∙ is))
            (subst (λ (t : Table). GoesInto (get t) S.opens goes.put.0 goes.put.1 c) (same_value goes.table table (get S.tables who.pid) goes.own own) goes.into)

  by_none : (table : Table) → put_of call ≡ None → IsNearlyValid (tick S) → Settles ((meaning_of call).effect constants (whole (tick S)) who table)
  by_none table none nearly after =
      inr (
        where_any (λ reply. reply.errno ≡ Success → ¬ CallGoesInto S who call c) (λ reply success goes. absurd (none_is_no goes.put (sym none ∙ goes.is)))
            ((meaning_of call).effect constants (whole (tick S)) who table).answer,
        others_count constants S who table nearly call none c was now before after,
      )

effect_settles : (constants : Constants) (S : State) (who : Who) (call : Call) (c : ℕ) (was now : Channel) (before : get S.chans c ≡ Some was) (table : Table)
    → get S.tables who.pid ≡ Some table → IsNearlyValid (tick S)
    → Settles constants S who call c was now before ((meaning_of call).effect constants (whole (tick S)) who table)
effect_settles constants S who (calls.FdWrite fd bytes) c was now before table own nearly =
    by_put constants S who (calls.FdWrite fd bytes) c was now before table own fd bytes refl
    ((meaning_of (calls.FdWrite fd bytes)).effect constants (whole (tick S)) who table)
    (write_decides S table fd bytes c was now before (real_time constants (tick S).clock) (get table fd) refl)
effect_settles constants S who (calls.SockSend fd bytes fds flags) c was now before table own nearly =
    by_put constants S who (calls.SockSend fd bytes fds flags) c was now before table own fd bytes refl
    ((meaning_of (calls.SockSend fd bytes fds flags)).effect constants (whole (tick S)) who table)
    (socket_decides S table fd bytes c was now before fds (get table fd) refl)
effect_settles constants S who other c was now before table own nearly = by_none constants S who other c was now before table refl nearly

outcome_settles : (constants : Constants) (S : State) (who : Who) (call : Call) (c : ℕ) (was now : Channel) (before : get S.chans c ≡ Some was)
    → IsNearlyValid (tick S) → Settles constants S who call c was now before (outcome constants S who call)
outcome_settles constants S who call c was now before nearly =
    outcome_holds (Settles constants S who call c was now before) constants S who call
    (λ reply is. settles_refused constants S who call c was now before reply
    (λ success. refusal_is_other Success (λ e. cc) (λ e. cc) call (get S.tables who.pid) reply is success))
    (λ table own. effect_settles constants S who call c was now before table own nearly)

-- ---- steps

unparked : (a : Answer) (who : Who) (thread : Thread) (V : State) (c : ℕ) (now : Channel) → get (waits_if a who thread V).chans c ≡ Some now
    → get V.chans c ≡ Some now
unparked (answer.Parked writes) who thread V c now there = there
unparked (answer.Reply reply) who thread V c now there = there

put_is : (call : Call) (fd : ℕ) (bytes : List ℕ) → IsPut call fd bytes → put_of call ≡ Some (fd, bytes)
put_is call fd bytes (inl is) = ap put_of is
put_is call fd bytes (inr is) = ap put_of is.2

call_is : (call : Call) (fd : ℕ) (bytes : List ℕ) → put_of call ≡ Some (fd, bytes) → IsPut call fd bytes
call_is (calls.FdWrite n xs) fd bytes is =
    let same : (n, xs) ≡ (fd, bytes) = same_some (n, xs) (fd, bytes) is in inl (ap (λ (x : ℕ × List ℕ). calls.FdWrite x.0 x.1) same)
call_is (calls.SockSend n xs fds flags) fd bytes is =
    let same : (n, xs) ≡ (fd, bytes) = same_some (n, xs) (fd, bytes) is in
    inr (fds, flags, ap (λ (x : ℕ × List ℕ). calls.SockSend x.0 x.1 fds flags) same)
call_is other fd bytes is = absurd (none_is_no (fd, bytes) is)

puts_of : (S : State) (who : Who) (call : Call) (reply : Reply) (c : ℕ) → reply.errno ≡ Success → CallGoesInto S who call c
    → PutsInto S who call (answer.Reply reply) c
puts_of S who call reply c success goes = record {
  fd = goes.put.0;
  bytes = goes.put.1;
  is = call_is call goes.put.0 goes.put.1 goes.is;
  reply = reply;
  replied = refl;
  success = success;
  table = goes.table;
  own = goes.own;
  into = goes.into;
}

goes_of : (S : State) (who : Who) (call : Call) (given : Answer) (c : ℕ) → PutsInto S who call given c → CallGoesInto S who call c
goes_of S who call given c puts = record {
  table = puts.table;
  own = puts.own;
  put = (puts.fd, puts.bytes);
  is = put_is call puts.fd puts.bytes puts.is;
  into = puts.into;
}

-- a reply is a success where it puts something into a channel
put_succeeds : (S : State) (who : Who) (call : Call) (reply : Reply) (c : ℕ) → PutsInto S who call (answer.Reply reply) c → reply.errno ≡ Success
put_succeeds S who call reply c puts = ap (λ (r : Reply). r.errno) (same_reply reply puts.reply puts.replied) ∙ puts.success

-- what is shown of a step
abbrev Counts : State → Who → Call → Answer → ℕ → Channel → Channel → Type 0
Counts S who call given c was now =
    (PutsInto S who call given c × (sends_had now ≡ suc (sends_had was))) ⊎ ((¬ PutsInto S who call given c) × (sends_had now ≡ sends_had was))

step_counts : (constants : Constants) (S : State) (who : Who) (call : Call) (reply : Reply) (T : State) (c : ℕ) (was now : Channel) → IsValid S
    → IsStep constants S who call (answer.Reply reply) T → reply.errno ≡ Success → get S.chans c ≡ Some was → get T.chans c ≡ Some now
    → Counts S who call (answer.Reply reply) c was now
step_counts constants S who call reply T c was now valid (inl done) success before after =
    let U = unreleased constants S who call in
    let from = released_from U c now (ap (λ (V : State). get V.chans c) (sym done.1) ∙ after) in
    let left = unparked (step_answer constants S who call) who (waiting constants call who (S.clock + 1000))
    (put_all (outcome constants S who call).updates (tick S)) c from.0 from.1 in
    elim (outcome_settles constants S who call c was from.0 before (tick_nearly_valid S valid.nearly) left) [
      | inl goes ↦ inl (puts_of S who call reply c success goes.0, from.2 ∙ goes.1)
      | inr not ↦ inr (
        λ puts.
            where_reply (λ r. r.errno ≡ Success → ¬ CallGoesInto S who call c) (step_answer constants S who call) reply not.0 (sym done.0) success
            (goes_of S who call (answer.Reply reply) c puts),
        from.2 ∙ not.1,
      )
    ]
step_counts constants S who call reply T c was now valid (inr lacking) success before after =
    absurd (nomem_fails (sym (ap (λ (r : Reply). r.errno) (same_reply reply (refused Nomem) lacking.1)) ∙ success)) where
      nomem_fails : Nomem ≢ Success
      nomem_fails e = cc

replied_counts : (constants : Constants) (S : State) (who : Who) (call : Call) (reply : Reply) (T : State) (c : ℕ) (was now : Channel) → IsValid S
    → IsStep constants S who call (answer.Reply reply) T → (reply.errno ≡ Success) ⊎ (reply.errno ≢ Success) → get S.chans c ≡ Some was
    → get T.chans c ≡ Some now → Counts S who call (answer.Reply reply) c was now
replied_counts constants S who call reply T c was now valid step (inl success) before after =
    step_counts constants S who call reply T c was now valid step success before after
replied_counts constants S who call reply T c was now valid step (inr error) before after = inr (
  λ puts. error (put_succeeds S who call reply c puts),
  counts_stay S c was now before (ap (λ (V : State). get V.chans c) (sym (error_keeps constants S who call reply T step valid error)) ∙ after),
)

outcome_new : (constants : Constants) (S : State) (who : Who) (call : Call) → IsNearlyValid (tick S)
    → NewHaveNone S (put_all (outcome constants S who call).updates (tick S))
outcome_new constants S who call nearly =
    outcome_holds (λ (o : Outcome). NewHaveNone S (put_all o.updates (tick S))) constants S who call (λ reply is. none_new S)
    (λ table own.
    all_new (tick S) (table, (meaning_of call).sends, may_send (meaning_of call).errors) ((meaning_of call).effect constants (whole (tick S)) who table).updates
    (tick S) (none_new (tick S)) ((proper call).carries constants (tick S) who table nearly))

pub new_channels_have_none : NewChannelsHaveNone
new_channels_have_none constants S who call given T c now valid (inl done) before after =
    let U = unreleased constants S who call in
    let from = released_from U c now (ap (λ (V : State). get V.chans c) (sym done.1) ∙ after) in
    let left = unparked (step_answer constants S who call) who (waiting constants call who (S.clock + 1000))
    (put_all (outcome constants S who call).updates (tick S)) c from.0 from.1 in
    from.2 ∙ outcome_new constants S who call (tick_nearly_valid S valid.nearly) c from.0 before left
new_channels_have_none constants S who call given T c now valid (inr lacking) before after =
    none_new S c now before (ap (λ (V : State). get V.chans c) (sym lacking.2) ∙ after)

pub ends_make_none : EndsMakeNone
ends_make_none S p status c now before after =
    let from = released_from (end_unreleased S p status) c now (ap (λ (V : State). get V.chans c) (sym (end_is S p status)) ∙ after) in
    none_is_no from.0 (sym before ∙ from.1)

pub sends_are_counted : SendsAreCounted
sends_are_counted constants S who call (answer.Parked writes) T c was now valid step before after = inr (
  λ puts. never puts.reply puts.replied,
  counts_stay S c was now before (ap (λ (V : State). get V.chans c) (sym (parking_changes constants S who call writes T step valid).1) ∙ after),
) where
  never : (reply : Reply) → answer.Parked writes ≡ answer.Reply reply → ⊥
  never reply e = cc
sends_are_counted constants S who call (answer.Reply reply) T c was now valid step before after =
    replied_counts constants S who call reply T c was now valid step (succeeds_or reply.errno) before after

pub ends_count_none : EndsCountNone
ends_count_none S p status c was now before after =
    let from = released_from (end_unreleased S p status) c now (ap (λ (V : State). get V.chans c) (sym (end_is S p status)) ∙ after) in
    from.2 ∙ counts_stay S c was from.0 before from.1
