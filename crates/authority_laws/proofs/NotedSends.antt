-- What waits in channels carries what the ledger says that it carried when it was sent.
--     send_as_much      a sock_send lets go of nothing
--     sends_are_noted      the law
use Rattle.std.proofs.Common.{◌≡◌, ◌≢◌, ◌⊎◌, inl, inr, ℕ, suc, ◌+◌, ◌<◌, ◌≤◌, ◌==◌, ◌&&◌, Bool, true, false, cond, List, [], ◌∷◌, ◌++◌, length, take, Option, None, Some, refl, sym, ap, subst, ◌∙◌, append-nil, append_assoc, arith}
use Rattle.std.proofs.lemmas.Bool.{eq-eqb}
use Rattle.std.proofs.lemmas.Bool.Decides.{eqb_tells}
use Rattle.std.specs.Ordering.{nat_cmp}
use Rattle.std.specs.FinMap.{get, get-empty, insert}
use Rattle.abi_base.specs.declared.errno.Errno.{Errno}
use Rattle.abi_base.specs.declared.errno.Errno.TheVariants.{Fault, Success}
use Rattle.tree_model.specs.Grants.{MayBegin}
use Rattle.abi_types.specs.declared.chan_kind.ChanKind.{ChanKind}
use Rattle.abi_types.specs.declared.call.Call.{Call}
use Rattle.abi_types.specs.declared.call.Call.TheVariants.{FdWrite, SockSend}
use Rattle.abi_types.specs.declared.constants.Constants.{Constants}
use Rattle.abi_types.specs.declared.descriptor.Descriptor.{Descriptor}
use Rattle.abi_types.specs.declared.open_kind.OpenKind.{OpenKind}
use Rattle.abi_types.specs.declared.open_kind.OpenKind.TheVariants.{End}
use Rattle.abi_types.specs.declared.reply.Answer.{Answer}
use Rattle.abi_types.specs.declared.reply.Answer.TheVariants as answer
use Rattle.abi_types.specs.declared.reply.Reply.{Reply}
use Rattle.abi_types.specs.declared.wake.WakeIn.{WakeIn}
use Rattle.abi_types.specs.declared.wake.WakeIn.TheVariants as wake
use Rattle.abi_types.specs.declared.who.Who.{Who}
use Rattle.maps.specs.Maps.{total, total-insert, weight}
use Rattle.run_types.specs.declared.history.Act.{Act}
use Rattle.run_types.specs.declared.history.Act.TheVariants as act
use Rattle.run_types.specs.declared.history.Entry.{Entry}
use Rattle.run_types.specs.declared.launch.Launch.{Launch}
use Rattle.kernel_model.specs.ChannelLaws.{IsPut}
use Rattle.kernel_model.specs.Channels.{Channel, Send, pushed, room}
use Rattle.kernel_model.specs.Families.ChannelCalls as channel_calls
use Rattle.kernel_model.specs.Families.OpenMeaning.{at_descriptor}
use Rattle.kernel_model.specs.OpenLaws.{IsOfSame}
use Rattle.kernel_model.specs.Outcome.{Outcome}
use Rattle.kernel_model.specs.Proper.{GoesOn, adds, draws, empties}
use Rattle.kernel_model.specs.Release.{carried_in, carriers, count_sent}
use Rattle.kernel_model.specs.State.{State, put_all, put_one, set_chan}
use Rattle.kernel_model.specs.Step.{tick, outcome, unreleased}
use Rattle.kernel_model.specs.View.{whole}
use Rattle.kernel_model.specs.Waits.{resumed, waiting}
use Rattle.kernel_model.specs.Wakes.{IsWake}
use Rattle.kernel_model.proofs.HeldOpens.{HoldsAsMuch, spares_all}
use Rattle.kernel_model.proofs.Outcomes.{outcome_holds}
use Rattle.kernel_model.proofs.Parts.{number_apart}
use Rattle.kernel_model.proofs.Sending.{send_holds}
use Rattle.kernel_model.proofs.Tests.{none_is_no}
use Rattle.kernel_model.proofs.Threading.{waits_if_same}
use Rattle.kernel_model.proofs.Waking.{resumed_valid}
use Rattle.run_model.specs.Legal.{FitsAct, Legal}
use Rattle.run_model.specs.World.{World, acted, guest_of, turned, who_of, woken_state, world}
use Rattle.run_model.proofs.Histories.{apply_is, legal_front, legal_next, world_more}
use Rattle.run_model.proofs.Worlds.{world_is_valid}
use Rattle.authority_laws.specs.Deliveries.{PutsInto, SendsTo}
use Rattle.authority_laws.specs.Laws.{SendsAreNoted}
use Rattle.authority_laws.specs.Ledger.{After, Ledger, Row, Sends, after_of, answered_row, answered_sends, by_success, channel_of, granted_sends, picked, sends_in, with_sent, written_by}
use Rattle.authority_laws.specs.Recorded.{Replies, Succeeds, acted_sends, after_at, held_after, held_before, ledger}
use Rattle.authority_laws.proofs.Copies.{before_is, granted_after, kills_none}
use Rattle.authority_laws.proofs.Histories.{ledger_more, up_to, world_rows}
use Rattle.authority_laws.proofs.OpenStays.{opens_stay}
use Rattle.authority_laws.proofs.OpenTargets.{held_open}
use Rattle.authority_laws.proofs.Rows.{by_either, row_of}
use Rattle.authority_laws.proofs.SendNumbers.{sends_are_numbered}
use Rattle.authority_laws.proofs.Sends.{AllAre, IsOf, SentNow, all_added, all_drawn, entry_goes, send_at, sent_now}
use Rattle.authority_laws.proofs.States.{step_row}
use Rattle.authority_laws.proofs.Successes.{no_success}
use Rattle.authority_laws.proofs.Waiting.{world_begins}

-- ---- a sock_send lets go of nothing

abbrev Holds : State → Outcome → Type 0
Holds S o = HoldsAsMuch S (put_all o.updates S)

itself : (S : State) → HoldsAsMuch S S
itself S = record { opens = λ o there. inl there; held = λ o. omega arith; carried = λ o. omega arith }

more_sent : (o : ℕ) (sends : List Send) (send : Send) → count_sent o sends ≤ count_sent o (sends ++ send ∷ [])
more_sent o [] send = omega arith
more_sent o (first ∷ sends) send = let more = more_sent o sends send in omega (arith, more)

-- with one more send in a channel each open has as many carriers at least
pushed_holds : (S : State) (c : ℕ) (channel : Channel) (bytes : List ℕ) (carried : List Descriptor) → get S.chans c ≡ Some channel
    → HoldsAsMuch S (put_one (set_chan c (pushed bytes carried channel)) S)
pushed_holds S c channel bytes carried there =
    let new : Channel = pushed bytes carried channel in
    record {
      opens = λ o at. inl at;
      held = (itself S).held;
      carried = λ o.
          let sums : total (carried_in o) (insert S.chans c new) + weight (carried_in o) (get S.chans c) ≡ carriers S o + carried_in o new =
          total-insert (carried_in o) S.chans c new in
          let own : weight (carried_in o) (get S.chans c) ≡ carried_in o channel = ap (weight (carried_in o)) there in
          let more : carried_in o channel ≤ carried_in o new = more_sent o channel.waiting (record { bytes = bytes; carried = carried }) in
          omega (arith, sums, own, more);
    }

module _ (S : State) (bytes : List ℕ) (carried : List Descriptor) where
  send_at_holds : (o : Option Descriptor) → Holds S (at_descriptor (λ n. channel_calls.send_open (whole S) bytes carried) (whole S) o)
  send_at_holds None = itself S
  send_at_holds (Some d) =
      send_holds S bytes carried (Holds S) (λ errno other. itself S) (itself S) (λ none. itself S) (get S.opens d.id)
      (λ r c mode form channel opened there some. pushed_holds S c channel (take (room channel) bytes) carried there)

pub send_as_much : (constants : Constants) (S : State) (who : Who) (fd : ℕ) (bytes fds : List ℕ) (flags : ℕ)
    → HoldsAsMuch (tick S) (unreleased constants S who (SockSend fd bytes fds flags))
send_as_much constants S who fd bytes fds flags =
    let call = SockSend fd bytes fds flags in
    waits_if_same (HoldsAsMuch (tick S)) (outcome constants S who call).answer who (waiting constants call who (S.clock + 1000))
    (put_all (outcome constants S who call).updates (tick S)) (λ h. record { opens = h.opens; held = h.held; carried = h.carried })
    (outcome_holds (Holds (tick S)) constants S who call (λ reply _. itself (tick S))
    (λ table own. send_at_holds (tick S) bytes (channel_calls.picked table fds) (get table fd)))

-- ---- opens of ends

-- what is of the same as an end that writes a channel writes it, and was one
same_writes : (reads : Option ℕ) (c mode : ℕ) (form : ChanKind) (kind : OpenKind) → IsOfSame (End reads (Some c) mode form) kind → written_by (Some kind) ≡ Some c
same_writes reads c mode form (End r w m other_form) same = sym same.1
same_writes reads c mode form kind same = absurd same

was_end : (kind : OpenKind) (reads writes : Option ℕ) (flags : ℕ) (other_form : ChanKind) → IsOfSame kind (End reads writes flags other_form)
    → (r : Option ℕ) × (mode : ℕ) × (form : ChanKind) × (kind ≡ End r writes mode form)
was_end (End r w mode form) reads writes flags other_form same = (r, mode, form, ap (λ o. End r o mode form) same.1)
was_end kind reads writes flags other_form same = absurd same

no_bytes : 0 < 0 → ⊥
no_bytes some = omega (arith, some)

-- ---- sends under numbers

-- what holds of each send that has one of the first n numbers holds of all of these
all_old : (P Q : ℕ → List Descriptor → Type 0) (n : ℕ) → ((j : ℕ) (carried : List Descriptor) → j ≤ n → P j carried → Q j carried) → (j : ℕ)
    (sends : List Send) → j + length sends ≤ n → AllAre P j sends → AllAre Q j sends
all_old P Q n weaker j [] few all = tt
all_old P Q n weaker j (send ∷ sends) few all = (one all.0, all_old P Q n weaker (suc j) sends (omega (arith, few)) all.1) where
  one : IsOf P (suc j) send.carried → IsOf Q (suc j) send.carried
  one (inl bare) = inl bare
  one (inr holds) = inr (weaker (suc j) send.carried (omega (arith, few)) holds)

and_false : (a b : Bool) → b ≡ false → (a && b) ≡ false
and_false true b is = is
and_false false b is = refl

-- ---- one more entry

module _ (launch : Launch) (front : List Entry) (e : Entry) (begins : MayBegin launch.tree launch.grants) (legal : Legal launch (front ++ e ∷ [])) where
  abbrev S : State
  S = (world launch front).state

  abbrev U : State
  U = (world launch (front ++ e ∷ [])).state

  abbrev who : Who
  who = who_of S e

  abbrev row : Row
  row = held_before launch front e

  abbrev shown : After
  shown = after_at launch front e

  abbrev sent : Sends
  sent = (ledger launch front).sent

  abbrev then : Sends
  then = (ledger launch (front ++ e ∷ [])).sent

  then_is : then ≡ acted_sends shown row sent e.act
  then_is = ap (λ (l : Ledger). l.sent) (ledger_more launch front e)

  earlier : Legal launch front
  earlier = legal_front launch front (e ∷ []) legal

  -- an open that writes a channel after the entry, and that a descriptor names which was held before it, wrote it before
  kind_wrote : (o c : ℕ) (kind : OpenKind) → get S.opens o ≡ Some kind → (now : Option OpenKind) → get U.opens o ≡ now → written_by now ≡ Some c
      → (reads : Option ℕ) × (mode : ℕ) × (form : ChanKind) × (get S.opens o ≡ Some (End reads (Some c) mode form))
  kind_wrote o c kind there (Some (End reads writes flags form)) at is =
      let was = was_end kind reads writes flags form (opens_stay launch front e [] begins legal o kind (End reads writes flags form) there at) in
      (was.0, was.1, was.2, there ∙ ap (λ k. Some k) was.3 ∙ ap (λ w. Some (End was.0 w was.1 was.2)) is)
  kind_wrote o c kind there now at is = absurd (none_is_no c is)

  -- an entry that the ledger takes for one that sends to the channel put something into it
  puts_by : (call : Call) (fd : ℕ) (bytes : List ℕ) → IsPut call fd bytes → (reply : Reply) → Succeeds e call reply → 0 < length bytes → (c : ℕ)
      (o : Option Descriptor) → row fd ≡ o → channel_of shown o ≡ Some c → PutsInto launch front e c
  puts_by call fd bytes put reply done some c None held is = absurd (none_is_no c is)
  puts_by call fd bytes put reply done some c (Some x) held is =
      let was = held_open launch begins front e.pid fd x earlier held in
      let wrote = kind_wrote x.id c was.0 was.1 (get U.opens x.id) refl is in
      record {
        call = call;
        fd = fd;
        bytes = bytes;
        put = put;
        reply = reply;
        succeeds = done;
        into = record { some = some; d = x; socket = held; reads = wrote.0; mode = wrote.1; form = wrote.2; opened = wrote.3 };
      }

  -- ---- earlier sends

  module _ (c : ℕ) (was now : Channel) (before : get S.chans c ≡ Some was) (after : get U.chans c ≡ Some now) (j : ℕ)
      (old : j ≤ was.left + length was.waiting) where
    not_last : PutsInto launch front e c → j ≢ shown.sends c
    not_last puts is =
        elim ((sends_are_numbered launch front e [] begins legal).0 c was now before after) [
          | inl more ↦ (
              let counted : now.left + length now.waiting ≡ suc (was.left + length was.waiting) = more.1 in
              let last : j ≡ now.left + length now.waiting = is ∙ ap sends_in after in
              omega (arith, counted, last, old))
          | inr none ↦ none.0 puts
        ]

    kept_at : (carried : List Descriptor) (o : Option ℕ) → (o ≡ Some c → PutsInto launch front e c) → with_sent shown o carried sent c j ≡ sent c j
    kept_at carried None puts = refl
    kept_at carried (Some k) puts =
        elim (eqb_tells c k) [
          | inl same ↦ ap (λ b. cond b carried (sent c j))
              (and_false (c == k) (j == shown.sends k)
              (number_apart j (shown.sends k) (λ is. not_last (puts (ap (λ n. Some n) (sym same.1))) (sym is ∙ ap shown.sends (sym same.1)))))
          | inr other ↦ ap (λ b. cond (b && (j == shown.sends k)) carried (sent c j)) other.0
        ]

    call_keeps : (call : Call) (reply : Reply) → Succeeds e call reply → granted_sends shown row sent call c j ≡ sent c j
    call_keeps (FdWrite fd []) reply done = refl
    call_keeps (FdWrite fd (b ∷ bytes)) reply done =
        kept_at [] (channel_of shown (row fd)) (puts_by (FdWrite fd (b ∷ bytes)) fd (b ∷ bytes) (inl refl) reply done (omega arith) c (row fd) refl)
    call_keeps (SockSend fd [] fds flags) reply done = refl
    call_keeps (SockSend fd (b ∷ bytes) fds flags) reply done =
        kept_at (picked row fds) (channel_of shown (row fd))
        (puts_by (SockSend fd (b ∷ bytes) fds flags) fd (b ∷ bytes) (inr (fds, flags, refl)) reply done (omega arith) c (row fd) refl)
    call_keeps call reply done = refl

    errno_keeps : (call : Call) (reply : Reply) (errno : Errno) → Replies e call reply → reply.errno ≡ errno
        → by_success errno (granted_sends shown row sent call) sent c j ≡ sent c j
    errno_keeps call reply Success is success = call_keeps call reply (record { is = is; success = success })
    errno_keeps call reply _ is error = refl

    answer_keeps : (call : Call) (given : Answer) → ((reply : Reply) → given ≡ answer.Reply reply → Replies e call reply)
        → answered_sends shown row sent call given c j ≡ sent c j
    answer_keeps call (answer.Parked writes) is = refl
    answer_keeps call (answer.Reply reply) is = errno_keeps call reply reply.errno (is reply refl) refl

    act_keeps : (a : Act) → e.act ≡ a → acted_sends shown row sent a c j ≡ sent c j
    act_keeps (act.Call call given) is = answer_keeps call given (λ reply replies. inl (is ∙ ap (act.Call call) replies))
    act_keeps (act.Wake call given answered) is =
        answer_keeps call answered (λ reply replies. inr (given, is ∙ ap (act.Wake call given) replies))
    act_keeps a is = refl

    old_send : then c j ≡ sent c j
    old_send = ap (λ (s : Sends). s c j) then_is ∙ act_keeps e.act refl

  -- ---- the send of the entry

  -- a sock_send leaves what its process holds
  woken_same : (fd : ℕ) (bytes fds : List ℕ) (flags : ℕ) (reply : Reply) → reply.errno ≡ Success → (given : WakeIn)
      → e.act ≡ act.Wake (SockSend fd bytes fds flags) given (answer.Reply reply)
      → IsWake (world launch front).constants S who (SockSend fd bytes fds flags) given (answer.Reply reply)
      (woken_state (world launch front).constants S who (SockSend fd bytes fds flags) given (answer.Reply reply))
      → held_after launch front e ≡ row
  woken_same fd bytes fds flags reply success (wake.Plain word) acts is =
      let constants : Constants = (world launch front).constants in
      let call = SockSend fd bytes fds flags in
      let R : State = resumed S who in
      let T : State = woken_state constants S who call (wake.Plain word) (answer.Reply reply) in
      let left : U ≡ T =
      ap (λ (w : World). w.state) (world_more launch front e ∙ apply_is (world launch front) e)
      ∙ ap (λ a. (acted (turned (world launch front) e.pid e.turns) who a).state) acts in
      let valid = resumed_valid S who (world_is_valid launch front begins earlier) in
      let step : row_of T e.pid ≡ answered_row (after_of R T e.pid) (row_of S e.pid) call (answer.Reply reply) =
      step_row constants R who call (answer.Reply reply) T is.0
      (λ _. spares_all constants R who call valid (send_as_much constants R who fd bytes fds flags) e.pid) in
      sym (world_rows launch (front ++ e ∷ []) begins legal e.pid) ∙ ap (λ (V : State). row_of V e.pid) left ∙ step
      ∙ by_either reply.errno (row_of S e.pid) ∙ before_is launch front e [] begins legal
  woken_same fd bytes fds flags reply success wake.Fault acts is = no_success reply Fault is.0 (λ e. cc) success

  send_same : (fd : ℕ) (bytes fds : List ℕ) (flags : ℕ) (reply : Reply) → Succeeds e (SockSend fd bytes fds flags) reply
      → held_after launch front e ≡ row
  send_same fd bytes fds flags reply done =
      let w : World = world launch front in
      let call = SockSend fd bytes fds flags in
      let fits : FitsAct w.constants S who (guest_of w e.pid) e.turns e.act = (legal_next launch front e [] legal).act in
      elim done.is [
        | inl is ↦ granted_after launch front e [] begins legal call reply (record { is = is; success = done.success })
            (kills_none launch front e [] begins legal call (send_as_much w.constants S who fd bytes fds flags))
        | inr woken ↦ woken_same fd bytes fds flags reply done.success woken.0 woken.1
            (subst (FitsAct w.constants S who (guest_of w e.pid) e.turns) woken.1 fits).1.1
      ]

  module _ (c : ℕ) (carried : List Descriptor) (s : SendsTo launch front e c carried) where
    abbrev sending : Call
    sending = SockSend s.fd s.bytes s.fds s.flags

    pub puts : PutsInto launch front e c
    puts = record {
      call = sending;
      fd = s.fd;
      bytes = s.bytes;
      put = inr (s.fds, s.flags, refl);
      reply = s.reply;
      succeeds = s.succeeds;
      into = s.into;
    }

    -- its open is there after the entry, and writes the channel
    writes_still : channel_of shown (row s.fd) ≡ Some c
    writes_still =
        let held : held_after launch front e s.fd ≡ Some s.into.d = (λ i. send_same s.fd s.bytes s.fds s.flags s.reply s.succeeds i s.fd) ∙ s.into.socket in
        let now = held_open launch begins (front ++ e ∷ []) e.pid s.fd s.into.d legal held in
        ap (channel_of shown) s.into.socket ∙ ap written_by now.1
        ∙ same_writes s.into.reads c s.into.mode s.into.form now.0
        (opens_stay launch front e [] begins legal s.into.d.id (End s.into.reads (Some c) s.into.mode s.into.form) now.0 s.into.opened now.1)

    done_sends : acted_sends shown row sent e.act ≡ granted_sends shown row sent sending
    done_sends = acts ∙ ap (λ errno. by_success errno (granted_sends shown row sent sending) sent) s.succeeds.success where
      acts : acted_sends shown row sent e.act ≡ by_success s.reply.errno (granted_sends shown row sent sending) sent
      acts = elim s.succeeds.is [
        | inl is ↦ ap (acted_sends shown row sent) is
        | inr woken ↦ ap (acted_sends shown row sent) woken.1
      ]

    some_sends : (fd : ℕ) (bytes fds : List ℕ) (flags : ℕ) → 0 < length bytes
        → granted_sends shown row sent (SockSend fd bytes fds flags) ≡ with_sent shown (channel_of shown (row fd)) (picked row fds) sent
    some_sends fd [] fds flags some = absurd (no_bytes some)
    some_sends fd (b ∷ bytes) fds flags some = refl

    new_send : (j : ℕ) → j ≡ shown.sends c → then c j ≡ carried
    new_send j last =
        ap (λ (f : Sends). f c j) (then_is ∙ done_sends ∙ some_sends s.fd s.bytes s.fds s.flags s.into.some)
        ∙ ap (λ o. with_sent shown o (picked row s.fds) sent c j) writes_still
        ∙ (λ i. cond (eq-eqb c c refl i && eq-eqb j (shown.sends c) last i) (picked row s.fds) (sent c j)) ∙ sym s.listed

  -- ---- what waits

  abbrev Then : ℕ → ℕ → List Descriptor → Type 0
  Then c j carried = then c j ≡ carried

  -- what waited before the entry
  old_noted : (c : ℕ) (was now : Channel) → get S.chans c ≡ Some was → get U.chans c ≡ Some now → AllAre (λ j carried. sent c j ≡ carried) was.left was.waiting
      → AllAre (Then c) was.left was.waiting
  old_noted c was now before after all =
      all_old (λ j carried. sent c j ≡ carried) (Then c) (was.left + length was.waiting)
      (λ j carried old is. old_send c was now before after j old ∙ is) was.left was.waiting (omega arith) all

  -- what the entry put there
  new_noted : (c : ℕ) (was now : Channel) (carried : List Descriptor) → get S.chans c ≡ Some was → get U.chans c ≡ Some now
      → (carried ≡ []) ⊎ SentNow S who e.act c carried → IsOf (Then c) (suc (was.left + length was.waiting)) carried
  new_noted c was now carried before after (inl bare) = inl bare
  new_noted c was now carried before after (inr sends) =
      let s : SendsTo launch front e c carried = sent_now launch front e begins legal c carried sends in
      elim ((sends_are_numbered launch front e [] begins legal).0 c was now before after) [
        | inl more ↦ inr (new_send c carried s (suc (was.left + length was.waiting)) (sym more.1 ∙ sym (ap sends_in after)))
        | inr none ↦ absurd (none.0 (puts c carried s))
      ]

  goes_noted : (c : ℕ) (now : Channel) → ((was : Channel) → get S.chans c ≡ Some was → AllAre (λ j carried. sent c j ≡ carried) was.left was.waiting)
      → get U.chans c ≡ Some now → GoesOn (λ carried. (carried ≡ []) ⊎ SentNow S who e.act c carried) (get S.chans c) now
      → AllAre (Then c) now.left now.waiting
  goes_noted c now all after (empties bare) = subst (AllAre (Then c) now.left) (sym bare) tt
  goes_noted c now all after (draws was m there waiting gone) =
      subst (λ (x : ℕ × List Send). AllAre (Then c) x.0 x.1) (λ i. (sym gone i, sym waiting i))
      (all_drawn (Then c) was.waiting m was.left (old_noted c was now there after (all was there)))
  goes_noted c now all after (adds was send there waiting gone carries) =
      subst (λ (x : ℕ × List Send). AllAre (Then c) x.0 x.1) (λ i. (sym gone i, sym waiting i))
      (all_added (Then c) was.waiting send was.left (old_noted c was now there after (all was there))
      (new_noted c was now send.carried there after carries))

-- ---- a history

-- so it is with all that waits after these entries
abbrev AllNoted : Launch → List Entry → Type 0
AllNoted launch history =
    (c : ℕ) (channel : Channel) → get (world launch history).state.chans c ≡ Some channel
    → AllAre (λ j carried. (ledger launch history).sent c j ≡ carried) channel.left channel.waiting

begins_noted : (launch : Launch) → AllNoted launch []
begins_noted launch c channel there =
    absurd (none_is_no channel (sym (get-empty nat_cmp c) ∙ ap (λ (T : State). get T.chans c) (sym (world_begins launch)) ∙ there))

goes_on : (launch : Launch) (front rest : List Entry) → MayBegin launch.tree launch.grants → Legal launch (front ++ rest) → AllNoted launch front
    → AllNoted launch (front ++ rest)
goes_on launch front [] begins legal before = subst (AllNoted launch) (sym (append-nil front)) before
goes_on launch front (e ∷ rest) begins legal before =
    let same : (front ++ e ∷ []) ++ rest ≡ front ++ e ∷ rest = append_assoc front (e ∷ []) rest in
    let here : Legal launch (front ++ e ∷ []) = up_to launch front e rest legal in
    subst (AllNoted launch) same
    (goes_on launch (front ++ e ∷ []) rest begins (subst (Legal launch) (sym same) legal)
    (λ c now after. goes_noted launch front e begins here c now (before c) after (entry_goes launch front e begins here c now after)))

pub sends_are_noted : SendsAreNoted
sends_are_noted launch history begins legal c k channel send there at =
    send_at (λ j carried. (ledger launch history).sent c j ≡ carried) channel.left k channel.waiting send
    (goes_on launch [] history begins legal (begins_noted launch) c channel there) at
