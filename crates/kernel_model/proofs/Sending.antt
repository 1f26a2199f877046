-- Channels go on through steps, and what is put into one is what a sock_send to it lists.
--     goes_weaker, stays_so      what a send carries may be said otherwise; and a channel that stays goes on
--     channels_go_on, ends_go_on      the laws
use Rattle.std.proofs.Common.{◌≡◌, ◌≢◌, ◌⊎◌, inl, inr, ℕ, ◌+◌, ◌<◌, min, Bool, true, false, cond, List, [], ◌∷◌, length, take, Option, None, Some, refl, sym, ap, subst, ◌∙◌, arith}
use Rattle.std.proofs.lemmas.Bool.Decides.{eqb_tells}
use Rattle.std.specs.FinMap.{get, insert}
use Rattle.std.specs.List.{AllByRecursion}
use Rattle.abi_base.specs.declared.errno.Errno.{Errno}
use Rattle.abi_base.specs.declared.errno.Errno.TheVariants.{Again, Badf, Notsock, Pipe, Success}
use Rattle.abi_types.specs.declared.chan_kind.ChanKind.{ChanKind}
use Rattle.abi_types.specs.Families.{is_anonymous}
use Rattle.abi_types.specs.declared.reply.Reply.{Reply}
use Rattle.abi_types.specs.declared.reply.Answer.{Answer}
use Rattle.abi_structures.specs.declared.events.Subscription.{Subscription}
use Rattle.abi_types.specs.declared.reply.Answer.TheVariants as answer
use Rattle.abi_types.specs.declared.call.Call.{Call}
use Rattle.abi_types.specs.declared.call.Call.TheVariants.{MemMap, Poll, SockSend}
use Rattle.abi_types.specs.declared.constants.Constants.{Constants}
use Rattle.abi_types.specs.declared.descriptor.Descriptor.{Descriptor}
use Rattle.abi_types.specs.declared.open_kind.OpenKind.{OpenKind}
use Rattle.abi_types.specs.declared.open_kind.OpenKind.TheVariants.{File, Directory, End, Terminal, Process}
use Rattle.abi_types.specs.declared.reply.WordWrites.TheVariants.{Zero}
use Rattle.abi_types.specs.declared.thread.Thread.{Thread}
use Rattle.abi_types.specs.declared.who.Who.{Who}
use Rattle.maps.specs.Maps.{get-insert-same, get-insert-other}
use Rattle.kernel_model.specs.Calls.{meaning_of}
use Rattle.kernel_model.specs.ChannelLaws.{ChannelsGoOn, EndsGoOn, IsSendInto, SendsOn}
use Rattle.kernel_model.specs.Channels.{Channel, channel_left, has_room, is_hung, push_if, pushed, room}
use Rattle.kernel_model.specs.Families.ChannelCalls.{is_nonblocking, picked, send_on, send_open, send_to, sent_by, sent_reply, waits_unless}
use Rattle.kernel_model.specs.Families.FileMeaning.{on_open}
use Rattle.kernel_model.specs.Families.MemoryCalls.{map_row, map_zeros, mapping}
use Rattle.kernel_model.specs.Families.OpenMeaning.{at_descriptor}
use Rattle.kernel_model.specs.Families.Polls.{is_of_lock, poll, poll_by}
use Rattle.kernel_model.specs.Meaning.{Meaning}
use Rattle.kernel_model.specs.Outcome.{Outcome, parks, replies}
use Rattle.kernel_model.specs.Proper.{CarriesOn, GoesOn, IsSentBy, Sender, adds, draws, empties, may_send}
use Rattle.kernel_model.specs.Release.{ends, loses_reader, loses_writer, release}
use Rattle.kernel_model.specs.Reply.{refused}
use Rattle.kernel_model.specs.State.{State, Table, Update, put_all, put_one, set_chan}
use Rattle.kernel_model.specs.Step.{end_unreleased, outcome, step_answer, tick, unreleased, IsStep}
use Rattle.kernel_model.specs.Valid.{IsNearlyValid, IsValid}
use Rattle.kernel_model.specs.View.{whole}
use Rattle.kernel_model.specs.Waits.{waiting, waits_if}
use Rattle.kernel_model.proofs.Calls.{proper}
use Rattle.kernel_model.proofs.ChannelChanges.{none_more}
use Rattle.kernel_model.proofs.Channels.{channel_released, was_channel}
use Rattle.kernel_model.proofs.Outcomes.{outcome_holds}
use Rattle.kernel_model.proofs.Readiness.{parking_changes}
use Rattle.kernel_model.proofs.Refusals.{error_keeps}
use Rattle.kernel_model.proofs.Touches.{end_is}
use Rattle.kernel_model.proofs.Valids.{same_value, tick_nearly_valid}

-- ---- channels that go on

pub goes_weaker : (P Q : List Descriptor → Type 0) (old : Option Channel) (new : Channel) → ((carried : List Descriptor) → P carried → Q carried)
    → GoesOn P old new → GoesOn Q old new
goes_weaker P Q old new weaker (empties bare) = empties bare
goes_weaker P Q old new weaker (draws was m there waiting left) = draws was m there waiting left
goes_weaker P Q old new weaker (adds was send there waiting left carries) = adds was send there waiting left (weaker send.carried carries)

pub stays_so : (P : List Descriptor → Type 0) (old : Option Channel) (new : Channel) → old ≡ Some new → GoesOn P old new
stays_so P old new there = draws new 0 there refl (none_more new.left)

-- a side that is lost
side_lost : (P : List Descriptor → Type 0) (old : Option Channel) (reader writer : Bool) (channel : Channel) → GoesOn P old channel
    → GoesOn P old (channel_left reader writer channel)
side_lost P old true true channel goes = empties refl
side_lost P old true false channel goes = empties refl
side_lost P old false true channel (empties bare) = empties bare
side_lost P old false true channel (draws was m there waiting left) = draws was m there waiting left
side_lost P old false true channel (adds was send there waiting left carries) = adds was send there waiting left carries
side_lost P old false false channel goes = goes

-- each channel that is there in this state goes on from what it was in the other
abbrev GoOn : (ℕ → List Descriptor → Type 0) → State → State → Type 0
GoOn P S T = (c : ℕ) (now : Channel) → get T.chans c ≡ Some now → GoesOn (P c) (get S.chans c) now

module _ (P : ℕ → List Descriptor → Type 0) (S : State) where
  stay : GoOn P S S
  stay c now there = stays_so (P c) (get S.chans c) now there

  set_goes : (T : State) (e : ℕ) (channel : Channel) → GoOn P S T → GoesOn (P e) (get S.chans e) channel → GoOn P S (put_one (set_chan e channel) T)
  set_goes T e channel goes on c now there =
      elim (eqb_tells c e) [
        | inl is ↦ (
            let here : get (insert T.chans e channel) e ≡ Some now = subst (λ k. get (insert T.chans e channel) k ≡ Some now) is.1 there in
            let same : channel ≡ now = same_value channel now (get (insert T.chans e channel) e) (get-insert-same T.chans e channel) here in
            subst (λ k. GoesOn (P k) (get S.chans k) now) (sym is.1) (subst (λ (x : Channel). GoesOn (P e) (get S.chans e) x) same on))
        | inr other ↦ goes c now (sym (get-insert-other T.chans e channel c other.1) ∙ there)
      ]

  released : (U : State) → GoOn P S U → GoOn P S (release U)
  released U goes c now there =
      let was = was_channel (loses_reader U (ends U) c) (loses_writer U (ends U) c) (get U.chans c) now (sym (channel_released U c) ∙ there) in
      subst (λ (x : Channel). GoesOn (P c) (get S.chans c) x) was.2
      (side_lost (P c) (get S.chans c) (loses_reader U (ends U) c) (loses_writer U (ends U) c) was.0 (goes c was.0 was.1))

-- ---- calls that send no descriptor

module _ (S : State) (sender : Sender) where
  one_goes : (u : Update) (T : State) → GoOn (λ c. IsSentBy sender) S T → CarriesOn S sender u → GoOn (λ c. IsSentBy sender) S (put_one u T)
  one_goes (set_chan e channel) T goes on = set_goes (λ c. IsSentBy sender) S T e channel goes on.0
  one_goes u T goes on = goes

  all_go : (us : List Update) (T : State) → GoOn (λ c. IsSentBy sender) S T → AllByRecursion (CarriesOn S sender) us → GoOn (λ c. IsSentBy sender) S (put_all us T)
  all_go [] T goes on = goes
  all_go (u ∷ us) T goes on = all_go us (put_one u T) (one_goes u T goes on.0) on.1

none_sent : (table : Table) (fds : List ℕ) (sends : Bool) (carried : List Descriptor) → fds ≡ [] → IsSentBy (table, fds, sends) carried → carried ≡ []
none_sent table fds sends carried none (inl bare) = bare
none_sent table fds sends carried none (inr is) = is ∙ ap (picked table) none

-- ---- a sock_send

-- what a send of these bytes leaves, where it is sent
abbrev pub sends_to : (ℕ → Reply) → ℕ → List ℕ → List Descriptor → Channel → Outcome
sends_to reply c bytes carried channel = record {
  answer = answer.Reply (reply (min (length bytes) (room channel)));
  updates = set_chan c (pushed (take (room channel) bytes) carried channel) ∷ [];
}

-- what holds where nothing is sent, and where the bytes are sent, holds of each outcome
module _ (S : State) (reply : ℕ → Reply) (P : Outcome → Type 0) (refuses : (errno : Errno) → errno ≢ Success → P (replies (refused errno)))
    (waits : P (parks Zero)) where
  waits_holds : (nonblocking : Bool) → P (waits_unless nonblocking)
  waits_holds true = refuses Again (λ e. cc)
  waits_holds false = waits

  push_holds : (c : ℕ) (bytes : List ℕ) (carried : List Descriptor) (nonblocking : Bool) (channel : Channel) (hangs fits : Bool)
      → P (sends_to reply c bytes carried channel) → P (sent_by reply nonblocking c (push_if hangs fits bytes carried channel))
  push_holds c bytes carried nonblocking channel true fits sent = refuses Pipe (λ e. cc)
  push_holds c bytes carried nonblocking channel false false sent = waits_holds nonblocking
  push_holds c bytes carried nonblocking channel false true sent = sent

  to_holds : (c : ℕ) (bytes : List ℕ) (carried : List Descriptor) (nonblocking : Bool) (o : Option Channel)
      → ((channel : Channel) → o ≡ Some channel → P (sends_to reply c bytes carried channel)) → P (send_to reply nonblocking bytes carried c o)
  to_holds c bytes carried nonblocking None sent = refuses Badf (λ e. cc)
  to_holds c bytes carried nonblocking (Some channel) sent =
      push_holds c bytes carried nonblocking channel (is_hung channel) (has_room (length carried) channel) (sent channel refl)

  pub on_holds : (c flags : ℕ) (bytes : List ℕ) (carried : List Descriptor) → (bytes ≡ [] → P (replies (reply 0)))
      → ((channel : Channel) → get S.chans c ≡ Some channel → 0 < length bytes → P (sends_to reply c bytes carried channel))
      → P (send_on reply (whole S) flags bytes carried (Some c))
  on_holds c flags [] carried nothing sent = nothing refl
  on_holds c flags (b ∷ bytes) carried nothing sent =
      to_holds c (b ∷ bytes) carried (is_nonblocking flags) (get S.chans c) (λ channel there. sent channel there (omega arith))

-- the bytes are sent to the channel that the open writes
abbrev pub Sent : State → List ℕ → List Descriptor → (Outcome → Type 0) → Option OpenKind → Type 0
Sent S bytes carried P kind =
    (r c flags : ℕ) (form : ChanKind) (channel : Channel) → kind ≡ Some (End (Some r) (Some c) flags form) → get S.chans c ≡ Some channel → 0 < length bytes
    → P (sends_to sent_reply c bytes carried channel)

pub send_holds : (S : State) (bytes : List ℕ) (carried : List Descriptor) (P : Outcome → Type 0)
    (refuses : (errno : Errno) → errno ≢ Success → P (replies (refused errno))) (waits : P (parks Zero)) (nothing : bytes ≡ [] → P (replies (sent_reply 0)))
    (kind : Option OpenKind) → Sent S bytes carried P kind → P (send_open (whole S) bytes carried kind)
send_holds S bytes carried P refuses waits nothing None sent = refuses Badf (λ e. cc)
send_holds S bytes carried P refuses waits nothing (Some (File node offset flags)) sent = refuses Notsock (λ e. cc)
send_holds S bytes carried P refuses waits nothing (Some (Directory node flags)) sent = refuses Notsock (λ e. cc)
send_holds S bytes carried P refuses waits nothing (Some (End None writes flags form)) sent = refuses Notsock (λ e. cc)
send_holds S bytes carried P refuses waits nothing (Some (End (Some r) None flags form)) sent = refuses Notsock (λ e. cc)
send_holds S bytes carried P refuses waits nothing (Some (End (Some r) (Some c) flags form)) sent =
    on_holds S sent_reply P refuses waits c flags bytes carried nothing (λ channel there some. sent r c flags form channel refl there some)
send_holds S bytes carried P refuses waits nothing (Some (Terminal which flags)) sent = refuses Notsock (λ e. cc)
send_holds S bytes carried P refuses waits nothing (Some (Process p object)) sent = refuses Notsock (λ e. cc)

-- what is said of a send, but for the answer
abbrev Adds : State → Who → Call → ℕ → List Descriptor → Type 0
Adds S who call c carried = (carried ≡ []) ⊎ IsSendInto S who call c carried

module _ (S : State) (who : Who) (fd : ℕ) (bytes fds : List ℕ) (flags : ℕ) (table : Table) (own : get S.tables who.pid ≡ Some table) where
  abbrev sending : Call
  sending = SockSend fd bytes fds flags

  abbrev Goes : Outcome → Type 0
  Goes o = GoOn (Adds S who sending) S (put_all o.updates (tick S))

  send_goes : (o : Option Descriptor) → get table fd ≡ o → Goes (at_descriptor (λ n. send_open (whole (tick S)) bytes (picked table fds)) (whole (tick S)) o)
  send_goes None here = stay (Adds S who sending) S
  send_goes (Some d) here =
      send_holds (tick S) bytes (picked table fds) Goes (λ errno other. stay (Adds S who sending) S) (stay (Adds S who sending) S)
      (λ none. stay (Adds S who sending) S)
      (get S.opens d.id)
      (λ r c mode form channel opened there some.
      set_goes (Adds S who sending) S (tick S) c (pushed (take (room channel) bytes) (picked table fds) channel) (stay (Adds S who sending) S)
      (adds channel (record { bytes = take (room channel) bytes; carried = picked table fds }) there refl refl
      (inr (record {
        fd = fd;
        bytes = bytes;
        fds = fds;
        flags = flags;
        is = refl;
        table = table;
        own = own;
        into = record { some = some; d = d; socket = here; reads = Some r; mode = mode; form = form; opened = opened };
        listed = refl;
      }))))

-- ---- all calls

sends_by : (b : Bool) (x y : Meaning) → x.sends ≡ [] → y.sends ≡ [] → (cond b x y).sends ≡ []
sends_by true x y one two = one
sends_by false x y one two = two

-- a poll sends nothing
poll_sends_none : (subscriptions : List Subscription) → (poll subscriptions).sends ≡ []
poll_sends_none [] = refl
poll_sends_none (first ∷ rest) = elim (is_of_lock first.what) as (λ b. (poll_by b (first ∷ rest)).sends ≡ []) [ true ↦ refl | false ↦ refl ]

-- what each call leaves, where it isn't refused
effect_goes : (constants : Constants) (S : State) (who : Who) (call : Call) (table : Table) → IsNearlyValid (tick S)
    → get S.tables who.pid ≡ Some table → (meaning_of call).sends ≡ [] → GoOn (Adds S who call) S (put_all ((meaning_of call).effect constants (whole (tick S)) who table).updates (tick S))
effect_goes constants S who call table nearly own none c now there =
    goes_weaker (IsSentBy (table, (meaning_of call).sends, may_send (meaning_of call).errors)) (Adds S who call c) (get S.chans c) now
    (λ carried sent. inl (none_sent table (meaning_of call).sends (may_send (meaning_of call).errors) carried none sent))
    (all_go (tick S) (table, (meaning_of call).sends, may_send (meaning_of call).errors)
    ((meaning_of call).effect constants (whole (tick S)) who table).updates (tick S)
    (stay (λ e. IsSentBy (table, (meaning_of call).sends, may_send (meaning_of call).errors)) (tick S))
    ((proper call).carries constants (tick S) who table nearly) c now there)

call_goes : (constants : Constants) (S : State) (who : Who) (call : Call) (table : Table) → IsNearlyValid (tick S) → get S.tables who.pid ≡ Some table
    → GoOn (Adds S who call) S (put_all ((meaning_of call).effect constants (whole (tick S)) who table).updates (tick S))
call_goes constants S who (SockSend fd bytes fds flags) table nearly own = send_goes S who fd bytes fds flags table own (get table fd) refl
call_goes constants S who (MemMap place size prot flags fd offset) table nearly own =
    effect_goes constants S who (MemMap place size prot flags fd offset) table nearly own
    (sends_by (is_anonymous flags) (map_zeros place) (on_open (map_row fd prot) (mapping place size offset)) refl refl)
call_goes constants S who (Poll subscriptions) table nearly own =
    effect_goes constants S who (Poll subscriptions) table nearly own (poll_sends_none subscriptions)
call_goes constants S who call table nearly own = effect_goes constants S who call table nearly own refl

outcome_goes : (constants : Constants) (S : State) (who : Who) (call : Call) → IsNearlyValid (tick S)
    → GoOn (Adds S who call) S (put_all (outcome constants S who call).updates (tick S))
outcome_goes constants S who call nearly =
    outcome_holds (λ (o : Outcome). GoOn (Adds S who call) S (put_all o.updates (tick S))) constants S who call
    (λ reply is. stay (Adds S who call) S) (λ table own. call_goes constants S who call table nearly own)

-- ---- steps

parked_goes : (P : ℕ → List Descriptor → Type 0) (S : State) (a : Answer) (who : Who) (thread : Thread) (V : State) → GoOn P S V
    → GoOn P S (waits_if a who thread V)
parked_goes P S (answer.Parked writes) who thread V goes = goes
parked_goes P S (answer.Reply reply) who thread V goes = goes

step_goes : (constants : Constants) (S : State) (who : Who) (call : Call) (given : Answer) (T : State) → IsNearlyValid (tick S)
    → IsStep constants S who call given T → GoOn (Adds S who call) S T
step_goes constants S who call given T nearly (inl done) =
    let U = unreleased constants S who call in
    subst (GoOn (Adds S who call) S) (sym done.1)
    (released (Adds S who call) S U
    (parked_goes (Adds S who call) S (step_answer constants S who call) who (waiting constants call who (S.clock + 1000))
    (put_all (outcome constants S who call).updates (tick S)) (outcome_goes constants S who call nearly)))
step_goes constants S who call given T nearly (inr lacking) = subst (GoOn (Adds S who call) S) (sym lacking.2) (stay (Adds S who call) S)

pub succeeds_or : (errno : Errno) → (errno ≡ Success) ⊎ (errno ≢ Success)
succeeds_or Success = inl refl
succeeds_or errno = inr (λ e. cc)

-- what is said of a send, with the answer
abbrev Answered : State → Who → Call → Answer → ℕ → List Descriptor → Type 0
Answered S who call given c carried = (carried ≡ []) ⊎ SendsOn S who call given c carried

with_reply : (S : State) (who : Who) (call : Call) (reply : Reply) (c : ℕ) (carried : List Descriptor) → reply.errno ≡ Success → Adds S who call c carried
    → Answered S who call (answer.Reply reply) c carried
with_reply S who call reply c carried success (inl bare) = inl bare
with_reply S who call reply c carried success (inr sent) = inr (record { send = sent; reply = reply; replied = refl; success = success })

replied_goes : (constants : Constants) (S : State) (who : Who) (call : Call) (reply : Reply) (T : State) → IsValid S
    → IsStep constants S who call (answer.Reply reply) T → (reply.errno ≡ Success) ⊎ (reply.errno ≢ Success)
    → GoOn (Answered S who call (answer.Reply reply)) S T
replied_goes constants S who call reply T valid step (inr error) =
    subst (GoOn (Answered S who call (answer.Reply reply)) S) (sym (error_keeps constants S who call reply T step valid error))
    (stay (Answered S who call (answer.Reply reply)) S)
replied_goes constants S who call reply T valid step (inl success) =
    λ c now there. goes_weaker (Adds S who call c) (Answered S who call (answer.Reply reply) c) (get S.chans c) now
    (λ carried sent. with_reply S who call reply c carried success sent)
    (step_goes constants S who call (answer.Reply reply) T (tick_nearly_valid S valid.nearly) step c now there)

pub channels_go_on : ChannelsGoOn
channels_go_on constants S who call (answer.Parked writes) T c now valid step there =
    subst (GoOn (Answered S who call (answer.Parked writes)) S) (sym (parking_changes constants S who call writes T step valid).1)
    (stay (Answered S who call (answer.Parked writes)) S) c now there
channels_go_on constants S who call (answer.Reply reply) T c now valid step there =
    replied_goes constants S who call reply T valid step (succeeds_or reply.errno) c now there

pub ends_go_on : EndsGoOn
ends_go_on S p status c now there =
    released (λ e carried. ⊥) S (end_unreleased S p status) (stay (λ e carried. ⊥) S) c now
    (subst (λ (V : State). get V.chans c ≡ Some now) (end_is S p status) there)
