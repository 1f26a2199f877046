-- What each send carries that waits in a channel, a sock_send of the history listed.
--     AllListed      so it is after these entries
--     all_listed      so it is after each legal history
--     send_at      what holds of each of some sends holds of one of them
use Rattle.std.proofs.Common.{◌≡◌, ◌⊎◌, inl, inr, ℕ, zero, suc, ◌+◌, ◌-◌, Bool, cond, List, [], ◌∷◌, ◌++◌, length, drop, Option, None, Some, refl, sym, ap, subst, ◌∙◌, arith}
use Rattle.std.proofs.lemmas.List.{append-nil, append_assoc}
use Rattle.std.specs.Prelude.{slice_get}
use Rattle.std.specs.Ordering.{nat_cmp}
use Rattle.std.specs.FinMap.{FinMap, get, get-empty}
use Rattle.abi_base.specs.declared.errno.Errno.TheVariants.{Success}
use Rattle.abi_base.specs.declared.signal.Signal.TheVariants.{Xcpu}
use Rattle.tree_model.specs.Grants.{MayBegin}
use Rattle.abi_types.specs.declared.call.Call.{Call}
use Rattle.abi_types.specs.declared.call.Call.TheVariants.{SockSend}
use Rattle.abi_types.specs.declared.constants.Constants.{Constants}
use Rattle.abi_types.specs.declared.descriptor.Descriptor.{Descriptor}
use Rattle.abi_types.specs.declared.open_kind.OpenKind.{OpenKind}
use Rattle.abi_types.specs.declared.reply.Answer.{Answer}
use Rattle.abi_types.specs.declared.reply.Reply.{Reply}
use Rattle.abi_types.specs.declared.status.Status.TheVariants.{Killed}
use Rattle.abi_types.specs.declared.wake.WakeIn.{WakeIn}
use Rattle.abi_types.specs.declared.wake.WakeIn.TheVariants as wake
use Rattle.abi_types.specs.declared.who.Who.{Who}
use Rattle.run_types.specs.declared.history.Act.{Act}
use Rattle.run_types.specs.declared.history.Act.TheVariants as act
use Rattle.run_types.specs.declared.history.Entry.{Entry}
use Rattle.run_types.specs.declared.launch.Launch.{Launch}
use Rattle.kernel_model.specs.ChannelLaws.{GoesInto, IsSendInto, SendsOn}
use Rattle.kernel_model.specs.Channels.{Channel, Send, sends_after, sends_gone}
use Rattle.kernel_model.specs.Families.ChannelCalls as channel_calls
use Rattle.kernel_model.specs.Proper.{GoesOn, adds, draws, empties}
use Rattle.kernel_model.specs.State.{State, Table}
use Rattle.kernel_model.specs.Step.{IsStep}
use Rattle.kernel_model.specs.Valid.{IsValid}
use Rattle.kernel_model.specs.Families.Locks.{with_word}
use Rattle.kernel_model.specs.Waits.{resumed}
use Rattle.kernel_model.specs.Wakes.{IsWake}
use Rattle.kernel_model.proofs.ChannelChanges.{by_less}
use Rattle.kernel_model.proofs.Sending.{channels_go_on, ends_go_on, goes_weaker, stays_so}
use Rattle.kernel_model.proofs.Tests.{none_is_no, same_some}
use Rattle.kernel_model.proofs.Waking.{resumed_valid}
use Rattle.run_model.specs.Legal.{FitsAct, Fits, Legal}
use Rattle.run_model.specs.World.{World, Guest, guest_of, called_state, woken_state, turned, acted, who_of, apply, world}
use Rattle.run_model.proofs.Histories.{apply_is, legal_front, legal_next, world_more}
use Rattle.run_model.proofs.Words.{word_kept}
use Rattle.run_model.proofs.Worlds.{world_is_valid}
use Rattle.authority_laws.specs.Deliveries.{IsSend, SendsTo}
use Rattle.authority_laws.specs.Ledger.{Row, added, picked}
use Rattle.authority_laws.specs.Recorded.{Answers, held_before}
use Rattle.authority_laws.proofs.Histories.{ledger_reports, up_to}
use Rattle.authority_laws.proofs.Waiting.{world_begins}

-- ---- sends in their order

-- a send carries nothing, or this holds of its number and of what it carries
abbrev pub IsOf : (ℕ → List Descriptor → Type 0) → ℕ → List Descriptor → Type 0
IsOf P j carried = (carried ≡ []) ⊎ P j carried

-- so it is with each of these sends, of which the first is the one behind number j
abbrev pub AllAre : (ℕ → List Descriptor → Type 0) → ℕ → List Send → Type 0
AllAre P j [] = Unit {0}
AllAre P j (send ∷ sends) = IsOf P (suc j) send.carried × AllAre P (suc j) sends

same_number : (j : ℕ) → j ≡ j + 0
same_number j = omega arith

next_number : (j n : ℕ) → suc j + n ≡ j + (1 + n)
next_number j n = omega arith

last_number : (j n : ℕ) → j + suc n ≡ suc j + n
last_number j n = omega arith

module _ (P : ℕ → List Descriptor → Type 0) where
  all_weaker : (Q : ℕ → List Descriptor → Type 0) → ((j : ℕ) (carried : List Descriptor) → P j carried → Q j carried) → (j : ℕ) (sends : List Send)
      → AllAre P j sends → AllAre Q j sends
  all_weaker Q weaker j [] all = tt
  all_weaker Q weaker j (send ∷ sends) all = (one all.0, all_weaker Q weaker (suc j) sends all.1) where
    one : IsOf P (suc j) send.carried → IsOf Q (suc j) send.carried
    one (inl bare) = inl bare
    one (inr holds) = inr (weaker (suc j) send.carried holds)

  -- the sends that are left after m bytes, where the first of them lost some
  abbrev left_by : ℕ → Send → List Send → Bool → List Send
  left_by m send rest less = cond less ((record { bytes = drop m send.bytes; carried = [] }) ∷ rest) (sends_after (m - length send.bytes) rest)

  abbrev gone_by : ℕ → Send → List Send → Bool → ℕ
  gone_by m send rest less = cond less 0 (1 + sends_gone (m - length send.bytes) rest)

  pub all_drawn : (sends : List Send) (m j : ℕ) → AllAre P j sends → AllAre P (j + sends_gone m sends) (sends_after m sends)
  all_drawn sends zero j all = subst (λ n. AllAre P n sends) (same_number j) all
  all_drawn [] (suc m) j all = tt
  all_drawn (send ∷ rest) (suc m) j all =
      by_less (λ less. AllAre P (j + gone_by (suc m) send rest less) (left_by (suc m) send rest less)) (suc m) (length send.bytes)
      (λ less. subst (λ n. AllAre P n ((record { bytes = drop (suc m) send.bytes; carried = [] }) ∷ rest)) (same_number j) (inl refl, all.1))
      (λ more. subst (λ n. AllAre P n (sends_after (suc m - length send.bytes) rest)) (next_number j (sends_gone (suc m - length send.bytes) rest))
      (all_drawn rest (suc m - length send.bytes) (suc j) all.1))

  pub all_added : (sends : List Send) (send : Send) (j : ℕ) → AllAre P j sends → IsOf P (suc (j + length sends)) send.carried → AllAre P j (sends ++ send ∷ [])
  all_added [] send j all last = (subst (λ n. IsOf P (suc n) send.carried) (sym (same_number j)) last, tt)
  all_added (first ∷ sends) send j all last =
      (all.0, all_added sends send (suc j) all.1 (subst (λ n. IsOf P (suc n) send.carried) (last_number j (length sends)) last))

-- what holds of each of these sends holds of the one in this place
pub send_at : (P : ℕ → List Descriptor → Type 0) (j k : ℕ) (sends : List Send) (send : Send) → AllAre P j sends → slice_get sends k ≡ Some send
    → IsOf P (suc (j + k)) send.carried
send_at P j k [] send all at = absurd (none_is_no send at)
send_at P j zero (first ∷ sends) send all at =
    subst (λ (one : Send). IsOf P (suc (j + 0)) one.carried) (same_some first send at)
    (subst (λ n. IsOf P (suc n) first.carried) (same_number j) all.0)
send_at P j (suc k) (first ∷ sends) send all at =
    subst (λ n. IsOf P (suc n) send.carried) (sym (last_number j k)) (send_at P (suc j) k sends send all.1 at)

-- ---- what an entry leaves in a channel

-- the act is a sock_send of a byte at least to channel c, which succeeded, and lists this
pub record SentNow (S : State) (who : Who) (a : Act) (c : ℕ) (carried : List Descriptor) : Type 0 where
  call : Call
  send : IsSendInto S who call c carried
  reply : Reply
  is : Answers a call reply
  success : reply.errno ≡ Success

-- how a channel goes on by an act
abbrev pub GoesBy : State → State → Who → Act → ℕ → Type 0
GoesBy S T who a c = (now : Channel) → get T.chans c ≡ Some now → GoesOn (λ carried. (carried ≡ []) ⊎ SentNow S who a c carried) (get S.chans c) now

by_call : (S : State) (who : Who) (call : Call) (given : Answer) (c : ℕ) (carried : List Descriptor)
    → (carried ≡ []) ⊎ SendsOn S who call given c carried → (carried ≡ []) ⊎ SentNow S who (act.Call call given) c carried
by_call S who call given c carried (inl bare) = inl bare
by_call S who call given c carried (inr sent) =
    inr (record { call = call; send = sent.send; reply = sent.reply; is = inl (λ i. act.Call call (sent.replied i)); success = sent.success })

by_wake : (S : State) (who : Who) (call : Call) (word : ℕ) (answered : Answer) (c : ℕ) (carried : List Descriptor)
    → (carried ≡ []) ⊎ SendsOn (resumed S who) who (with_word word call) answered c carried
    → (carried ≡ []) ⊎ SentNow S who (act.Wake call (wake.Plain word) answered) c carried
by_wake S who call word answered c carried (inl bare) = inl bare
by_wake S who call word answered c carried (inr sent) =
    let send = sent.send in
    inr (record {
      call = call;
      send = record {
        fd = send.fd;
        bytes = send.bytes;
        fds = send.fds;
        flags = send.flags;
        is = word_kept word call (SockSend send.fd send.bytes send.fds send.flags) refl send.is;
        table = send.table;
        own = send.own;
        into = send.into;
        listed = send.listed;
      };
      reply = sent.reply;
      is = inr (wake.Plain word, λ i. act.Wake call (wake.Plain word) (sent.replied i));
      success = sent.success;
    })

call_goes : (constants : Constants) (S : State) (who : Who) (call : Call) (given : Answer) (T : State) (c : ℕ) → IsValid S
    → IsStep constants S who call given T → GoesBy S T who (act.Call call given) c
call_goes constants S who call given T c valid is now there =
    goes_weaker (λ carried. (carried ≡ []) ⊎ SendsOn S who call given c carried) (λ carried. (carried ≡ []) ⊎ SentNow S who (act.Call call given) c carried)
    (get S.chans c) now (by_call S who call given c) (channels_go_on constants S who call given T c now valid is there)

wake_goes : (constants : Constants) (S : State) (who : Who) (call : Call) (given : WakeIn) (answered : Answer) (T : State) (c : ℕ) → IsValid S
    → IsWake constants S who call given answered T → GoesBy S T who (act.Wake call given answered) c
wake_goes constants S who call (wake.Plain word) answered T c valid is =
    λ now there.
    goes_weaker (λ carried. (carried ≡ []) ⊎ SendsOn (resumed S who) who (with_word word call) answered c carried)
    (λ carried. (carried ≡ []) ⊎ SentNow S who (act.Wake call (wake.Plain word) answered) c carried) (get S.chans c) now
    (by_wake S who call word answered c)
    (channels_go_on constants (resumed S who) who (with_word word call) answered T c now (resumed_valid S who valid) is.0 there)
wake_goes constants S who call wake.Fault answered T c valid is =
    λ now there.
    stays_so (λ carried. (carried ≡ []) ⊎ SentNow S who (act.Wake call wake.Fault answered) c carried) (get S.chans c) now
    (subst (λ (V : State). get V.chans c ≡ Some now) is.1 there)

-- where no send comes
none_goes : (S : State) (who : Who) (a : Act) (c : ℕ) (now : Channel) → GoesOn (λ carried. ⊥) (get S.chans c) now
    → GoesOn (λ carried. (carried ≡ []) ⊎ SentNow S who a c carried) (get S.chans c) now
none_goes S who a c now goes =
    goes_weaker (λ carried. ⊥) (λ carried. (carried ≡ []) ⊎ SentNow S who a c carried) (get S.chans c) now (λ carried never. absurd never) goes

acted_goes : (w : World) (who : Who) (guest : Guest) (ts : List ℕ) (a : Act) → IsValid w.state → FitsAct w.constants w.state who guest ts a
    → (c : ℕ) → GoesBy w.state (acted w who a).state who a c
acted_goes w who guest ts (act.Call call given) valid fits c =
    call_goes w.constants w.state who call given (called_state w.constants w.state who call given) c valid fits.1
acted_goes w who guest ts (act.Wake call given answered) valid fits c =
    wake_goes w.constants w.state who call given answered (woken_state w.constants w.state who call given answered) c valid fits.1.1
acted_goes w who guest ts (act.Trap signal) valid fits c =
    λ now there. none_goes w.state who (act.Trap signal) c now (ends_go_on w.state who.pid (Killed signal) c now there)
acted_goes w who guest ts act.Expire valid fits c =
    λ now there. none_goes w.state who act.Expire c now (ends_go_on w.state who.pid (Killed Xcpu) c now there)
acted_goes w who guest ts act.Idle valid fits c =
    λ now there. stays_so (λ carried. (carried ≡ []) ⊎ SentNow w.state who act.Idle c carried) (get w.state.chans c) now there

applied_goes : (w : World) (e : Entry) → IsValid w.state → Fits w e → (c : ℕ) → GoesBy w.state (apply w e).state (who_of w.state e) e.act c
applied_goes w e valid fits c =
    subst (λ (v : World). GoesBy w.state v.state (who_of w.state e) e.act c) (sym (apply_is w e))
    (acted_goes (turned w e.pid e.turns) (who_of w.state e) (guest_of w e.pid) e.turns e.act valid fits.act c)

pub entry_goes : (launch : Launch) (front : List Entry) (e : Entry) → MayBegin launch.tree launch.grants → Legal launch (front ++ e ∷ []) → (c : ℕ)
    → GoesBy (world launch front).state (world launch (front ++ e ∷ [])).state (who_of (world launch front).state e) e.act c
entry_goes launch front e begins legal c =
    subst (λ (v : World). GoesBy (world launch front).state v.state (who_of (world launch front).state e) e.act c) (sym (world_more launch front e))
    (applied_goes (world launch front) e (world_is_valid launch front begins (legal_front launch front (e ∷ []) legal)) (legal_next launch front e [] legal) c)

-- ---- what was listed

added_same : (o : Option Descriptor) (ds : List Descriptor) → channel_calls.added o ds ≡ added o ds
added_same None ds = refl
added_same (Some d) ds = refl

-- what is picked from a table is what is picked from the row that it is
picked_same : (table : Table) (row : Row) → ((n : ℕ) → get table n ≡ row n) → (fds : List ℕ) → channel_calls.picked table fds ≡ picked row fds
picked_same table row same [] = refl
picked_same table row same (fd ∷ fds) =
    added_same (get table fd) (channel_calls.picked table fds) ∙ (λ i. added (same fd i) (picked_same table row same fds i))

-- what goes into a channel goes there by the same descriptor of what else is held
pub goes_held : (held row : Row) (opens : FinMap nat_cmp OpenKind) (fd : ℕ) (bytes : List ℕ) (c : ℕ) → held fd ≡ row fd → GoesInto held opens fd bytes c
    → GoesInto row opens fd bytes c
goes_held held row opens fd bytes c same into = record {
  some = into.some;
  d = into.d;
  socket = sym same ∙ into.socket;
  reads = into.reads;
  mode = into.mode;
  form = into.form;
  opened = into.opened;
}

-- each send that waits in a channel after these entries carries nothing, or what one of them listed
abbrev pub AllListed : Launch → List Entry → Type 0
AllListed launch history =
    (c : ℕ) (channel : Channel) → get (world launch history).state.chans c ≡ Some channel → AllAre (IsSend launch history c) channel.left channel.waiting

begins_listed : (launch : Launch) → AllListed launch []
begins_listed launch c channel there =
    absurd (none_is_no channel (sym (get-empty nat_cmp c) ∙ ap (λ (T : State). get T.chans c) (sym (world_begins launch)) ∙ there))

module _ (launch : Launch) (front : List Entry) (e : Entry) (begins : MayBegin launch.tree launch.grants) (legal : Legal launch (front ++ e ∷ [])) where
  -- what one of the entries before this one put there
  older : (c j : ℕ) (carried : List Descriptor) → IsSend launch front c j carried → IsSend launch (front ++ e ∷ []) c j carried
  older c j carried s = record {
    early = s.early;
    sender = s.sender;
    between = s.between ++ e ∷ [];
    is = ap (λ history. history ++ e ∷ []) s.is ∙ append_assoc s.early (s.sender ∷ s.between) (e ∷ []);
    sends = s.sends;
    channel = s.channel;
    there = s.there;
    number = s.number;
  }

  -- what this one sent, by what its process held
  pub sent_now : (c : ℕ) (carried : List Descriptor) → SentNow (world launch front).state (who_of (world launch front).state e) e.act c carried
      → SendsTo launch front e c carried
  sent_now c carried sent =
      let reports = ledger_reports launch front begins (legal_front launch front (e ∷ []) legal) in
      let send = sent.send in
      let same : (n : ℕ) → get send.table n ≡ held_before launch front e n = reports.tables e.pid send.table send.own in
      record {
        fd = send.fd;
        bytes = send.bytes;
        fds = send.fds;
        flags = send.flags;
        reply = sent.reply;
        succeeds = record { is = subst (λ call. Answers e.act call sent.reply) send.is sent.is; success = sent.success };
        into = goes_held (get send.table) (held_before launch front e) (world launch front).state.opens send.fd send.bytes c (same send.fd) send.into;
        listed = send.listed ∙ picked_same send.table (held_before launch front e) same send.fds;
      }

  -- what this one put there
  newer : (c : ℕ) (was : Channel) (carried : List Descriptor) → get (world launch front).state.chans c ≡ Some was
      → (carried ≡ []) ⊎ SentNow (world launch front).state (who_of (world launch front).state e) e.act c carried
      → IsOf (IsSend launch (front ++ e ∷ []) c) (suc (was.left + length was.waiting)) carried
  newer c was carried there (inl bare) = inl bare
  newer c was carried there (inr sent) =
      inr (record { early = front; sender = e; between = []; is = refl; sends = sent_now c carried sent; channel = was; there = there; number = refl })

  abbrev Then : ℕ → ℕ → List Descriptor → Type 0
  Then c = IsSend launch (front ++ e ∷ []) c

  before_then : AllListed launch front → (c : ℕ) (was : Channel) → get (world launch front).state.chans c ≡ Some was → AllAre (Then c) was.left was.waiting
  before_then before c was there = all_weaker (IsSend launch front c) (Then c) (older c) was.left was.waiting (before c was there)

  goes_listed : AllListed launch front → (c : ℕ) (now : Channel)
      → GoesOn (λ carried. (carried ≡ []) ⊎ SentNow (world launch front).state (who_of (world launch front).state e) e.act c carried)
      (get (world launch front).state.chans c) now → AllAre (Then c) now.left now.waiting
  goes_listed before c now (empties bare) = subst (AllAre (Then c) now.left) (sym bare) tt
  goes_listed before c now (draws was m there waiting gone) =
      subst (λ (x : ℕ × List Send). AllAre (Then c) x.0 x.1) (λ i. (sym gone i, sym waiting i))
      (all_drawn (Then c) was.waiting m was.left (before_then before c was there))
  goes_listed before c now (adds was send there waiting gone carries) =
      subst (λ (x : ℕ × List Send). AllAre (Then c) x.0 x.1) (λ i. (sym gone i, sym waiting i))
      (all_added (Then c) was.waiting send was.left (before_then before c was there) (newer c was send.carried there carries))

  entry_listed : AllListed launch front → AllListed launch (front ++ e ∷ [])
  entry_listed before c now there = goes_listed before c now (entry_goes launch front e begins legal c now there)

-- ---- a history

goes_on : (launch : Launch) (front rest : List Entry) → MayBegin launch.tree launch.grants → Legal launch (front ++ rest) → AllListed launch front
    → AllListed launch (front ++ rest)
goes_on launch front [] begins legal before = subst (AllListed launch) (sym (append-nil front)) before
goes_on launch front (e ∷ rest) begins legal before =
    let same : (front ++ e ∷ []) ++ rest ≡ front ++ e ∷ rest = append_assoc front (e ∷ []) rest in
    let here : Legal launch (front ++ e ∷ []) = up_to launch front e rest legal in
    subst (AllListed launch) same
    (goes_on launch (front ++ e ∷ []) rest begins (subst (Legal launch) (sym same) legal) (entry_listed launch front e begins here before))

pub all_listed : (launch : Launch) (history : List Entry) → MayBegin launch.tree launch.grants → Legal launch history → AllListed launch history
all_listed launch history begins legal = goes_on launch [] history begins legal (begins_listed launch)
