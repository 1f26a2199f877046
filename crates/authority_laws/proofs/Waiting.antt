-- What waits in channels was held at an earlier entry, and is traced there.
--     AllSent      so it is after these entries
--     begins_sent, entry_sent      it is at the start, and an entry keeps it
--     came_from, came_waits      what came for a socket waited in its channel
--     put_in      what a sock_recv leaves is what came, or was there
use Rattle.std.proofs.Common.{◌≡◌, ◌⊎◌, inl, inr, ℕ, Bool, true, false, cond, List, [], ◌∷◌, ◌++◌, Option, None, Some, refl, sym, ap, subst, ◌∙◌}
use Rattle.std.proofs.lemmas.Bool.Decides.{eqb_tells}
use Rattle.std.proofs.lemmas.List.{append_assoc}
use Rattle.std.specs.FinMap.{get, get-empty}
use Rattle.std.specs.Ordering.{nat_cmp}
use Rattle.abi_base.specs.declared.signal.Signal.TheVariants.{Xcpu}
use Rattle.tree_model.specs.Grants.{MayBegin}
use Rattle.abi_types.specs.declared.chan_kind.ChanKind.{ChanKind}
use Rattle.abi_types.specs.declared.status.Status.TheVariants.{Killed}
use Rattle.abi_base.specs.declared.errno.Errno.TheVariants.{Success}
use Rattle.abi_types.specs.declared.call.Call.{Call}
use Rattle.abi_types.specs.declared.call.Call.TheVariants.{MemMap, Poll, SockSend}
use Rattle.abi_structures.specs.declared.events.Subscription.{Subscription}
use Rattle.abi_types.specs.declared.constants.Constants.{Constants}
use Rattle.abi_types.specs.declared.descriptor.Descriptor.{Descriptor}
use Rattle.abi_types.specs.declared.open_kind.OpenKind.{OpenKind}
use Rattle.abi_types.specs.declared.open_kind.OpenKind.TheVariants.{End}
use Rattle.abi_types.specs.declared.reply.Answer.{Answer}
use Rattle.abi_types.specs.declared.reply.Answer.TheVariants as answer
use Rattle.abi_types.specs.declared.reply.Reply.{Reply}
use Rattle.abi_types.specs.declared.wake.WakeIn.{WakeIn}
use Rattle.abi_types.specs.declared.wake.WakeIn.TheVariants as wake
use Rattle.abi_types.specs.declared.who.Who.{Who}
use Rattle.run_types.specs.declared.history.Act.{Act}
use Rattle.run_types.specs.declared.history.Act.TheVariants as act
use Rattle.run_types.specs.declared.history.Entry.{Entry}
use Rattle.run_types.specs.declared.launch.Launch.{Launch}
use Rattle.kernel_model.specs.Channels.{Channel, Send, carried_of}
use Rattle.abi_types.specs.Families.{is_anonymous}
use Rattle.kernel_model.specs.Calls.{meaning_of}
use Rattle.kernel_model.specs.Families.FileMeaning.{on_open}
use Rattle.kernel_model.specs.Families.Locks.{with_word}
use Rattle.kernel_model.specs.Families.Polls.{begins_with_lock, poll_by}
use Rattle.kernel_model.specs.Families.MemoryCalls.{map_row, map_zeros, mapping, mem_map}
use Rattle.kernel_model.specs.Meaning.{Meaning}
use Rattle.kernel_model.specs.Proper.{IsIn, Waits}
use Rattle.kernel_model.specs.Start.{start_state}
use Rattle.kernel_model.specs.State.{State, Table}
use Rattle.kernel_model.specs.Step.{IsStep}
use Rattle.kernel_model.specs.Valid.{IsNamed, IsValid}
use Rattle.kernel_model.specs.Waits.{resumed}
use Rattle.kernel_model.specs.Wakes.{IsWake}
use Rattle.kernel_model.proofs.Carried.{end_carries_nothing, waiting_was_held}
use Rattle.kernel_model.proofs.Lists.{in_all}
use Rattle.kernel_model.proofs.OpenTargets.{of_same_through}
use Rattle.kernel_model.proofs.Tests.{none_is_no, same_some}
use Rattle.kernel_model.proofs.Waking.{resumed_valid}
use Rattle.run_model.specs.Legal.{FitsAct, Fits, Legal}
use Rattle.run_model.specs.World.{World, Guest, guest_of, called_state, woken_state, turned, acted, who_of, apply, world}
use Rattle.run_model.proofs.Histories.{apply_is, first_state, legal_front, legal_next, world_more, world_none}
use Rattle.run_model.proofs.Words.{by_word}
use Rattle.run_model.proofs.Worlds.{world_is_valid}
use Rattle.authority_laws.specs.Ledger.{Row, came_for, carried_first, first_carried, put_each, waits_for, with_held}
use Rattle.authority_laws.specs.Recorded.{Succeeds, after_at}
use Rattle.authority_laws.specs.Traces.{AllTraced, IsSentEarlier, SendsUnder, Traced}
use Rattle.authority_laws.proofs.Histories.{ledger_reports}
use Rattle.authority_laws.proofs.OpenStays.{named_open, opens_stay}
use Rattle.authority_laws.proofs.Rows.{held_elsewhere, held_here}

-- ---- what waits after an entry

-- the act is that of a call which succeeded, and d stands in the table of its process under one of the numbers that the call sends
record SentBy (S : State) (who : Who) (a : Act) (d : Descriptor) : Type 0 where
  call : Call
  reply : Reply
  is : (a ≡ act.Call call (answer.Reply reply)) ⊎ ((given : WakeIn) × (a ≡ act.Wake call given (answer.Reply reply)))
  success : reply.errno ≡ Success
  table : Table
  own : get S.tables who.pid ≡ Some table
  n : ℕ
  listed : IsIn n (meaning_of call).sends
  here : get table n ≡ Some d

no_number : (n : ℕ) (before after : List ℕ) → [] ≡ before ++ n ∷ after → ⊥
no_number n [] after e = cc
no_number n (x ∷ before) after e = cc

-- no poll sends descriptors
by_sends : (lock : Bool) (subscriptions : List Subscription) → (poll_by lock subscriptions).sends ≡ []
by_sends true [] = refl
by_sends true (first ∷ rest) = refl
by_sends false subscriptions = refl

poll_sends_none : (subscriptions : List Subscription) (n : ℕ) → IsIn n (meaning_of (Poll subscriptions)).sends → ⊥
poll_sends_none subscriptions n is = no_number n is.0 is.1 (sym (by_sends (begins_with_lock subscriptions) subscriptions) ∙ is.2)

wake_waits : (constants : Constants) (S : State) (who : Who) (call : Call) (given : WakeIn) (answered : Answer) (T : State) (c : ℕ) (d : Descriptor)
    → IsValid S → IsWake constants S who call given answered T → Waits T c d → Waits S c d ⊎ SentBy S who (act.Wake call given answered) d
wake_waits constants S who call (wake.Plain word) answered T c d valid is waits =
    elim (waiting_was_held constants (resumed S who) who (with_word word call) answered T c d (resumed_valid S who valid) is.0 waits) [
      | inl was ↦ inl was
      | inr sent ↦ inr (record {
        call = call;
        reply = sent.reply;
        is = inr (wake.Plain word, ap (act.Wake call (wake.Plain word)) sent.is);
        success = sent.success;
        table = sent.table;
        own = sent.own;
        n = sent.n;
        listed =
            by_word (λ x. IsIn sent.n (meaning_of x).sends) (λ one other was. absurd (poll_sends_none one sent.n was)) word call sent.listed;
        here = sent.here;
      })
    ]
wake_waits constants S who call wake.Fault answered T c d valid is waits = inl (subst (λ (V : State). Waits V c d) is.1 waits)

call_waits : (constants : Constants) (S : State) (who : Who) (call : Call) (given : Answer) (T : State) (c : ℕ) (d : Descriptor)
    → IsValid S → IsStep constants S who call given T → Waits T c d → Waits S c d ⊎ SentBy S who (act.Call call given) d
call_waits constants S who call given T c d valid is waits =
    elim (waiting_was_held constants S who call given T c d valid is waits) [
      | inl was ↦ inl was
      | inr sent ↦ inr (record {
        call = call;
        reply = sent.reply;
        is = inl (ap (act.Call call) sent.is);
        success = sent.success;
        table = sent.table;
        own = sent.own;
        n = sent.n;
        listed = sent.listed;
        here = sent.here;
      })
    ]

acted_waits : (w : World) (who : Who) (guest : Guest) (ts : List ℕ) (a : Act) → IsValid w.state → FitsAct w.constants w.state who guest ts a
    → (c : ℕ) (d : Descriptor) → Waits (acted w who a).state c d → Waits w.state c d ⊎ SentBy w.state who a d
acted_waits w who guest ts (act.Call call given) valid fits c d waits =
    call_waits w.constants w.state who call given (called_state w.constants w.state who call given) c d valid fits.1 waits
acted_waits w who guest ts (act.Wake call given answered) valid fits c d waits =
    wake_waits w.constants w.state who call given answered (woken_state w.constants w.state who call given answered) c d valid fits.1.1 waits
acted_waits w who guest ts (act.Trap signal) valid fits c d waits = inl (end_carries_nothing w.state who.pid (Killed signal) c d waits)
acted_waits w who guest ts act.Expire valid fits c d waits = inl (end_carries_nothing w.state who.pid (Killed Xcpu) c d waits)
acted_waits w who guest ts act.Idle valid fits c d waits = inl waits

applied_waits : (w : World) (e : Entry) → IsValid w.state → Fits w e → (c : ℕ) (d : Descriptor) → Waits (apply w e).state c d
    → Waits w.state c d ⊎ SentBy w.state (who_of w.state e) e.act d
applied_waits w e valid fits c d waits =
    acted_waits (turned w e.pid e.turns) (who_of w.state e) (guest_of w e.pid) e.turns e.act valid fits.act c d
    (subst (λ (v : World). Waits v.state c d) (apply_is w e) waits)

-- what waits after an entry waited before it, or the entry sent it
entry_waits : (launch : Launch) (front : List Entry) (e : Entry) → MayBegin launch.tree launch.grants → Legal launch (front ++ e ∷ []) → (c : ℕ)
    (d : Descriptor) → Waits (world launch (front ++ e ∷ [])).state c d
    → Waits (world launch front).state c d ⊎ SentBy (world launch front).state (who_of (world launch front).state e) e.act d
entry_waits launch front e begins legal c d waits =
    applied_waits (world launch front) e (world_is_valid launch front begins (legal_front launch front (e ∷ []) legal)) (legal_next launch front e [] legal) c d
    (subst (λ (v : World). Waits v.state c d) (world_more launch front e) waits)

-- ---- the calls that send

-- the call is a sock_send that lists this number
record IsSocketSend (call : Call) (n : ℕ) : Type 0 where
  fd : ℕ
  bytes : List ℕ
  fds : List ℕ
  flags : ℕ
  is : call ≡ SockSend fd bytes fds flags
  listed : IsIn n fds

sends_by : (b : Bool) (x y : Meaning) → x.sends ≡ [] → y.sends ≡ [] → (cond b x y).sends ≡ []
sends_by true x y one two = one
sends_by false x y one two = two

-- no other call sends descriptors
is_socket_send : (call : Call) (n : ℕ) → IsIn n (meaning_of call).sends → IsSocketSend call n
is_socket_send (SockSend fd bytes fds flags) n is = record { fd = fd; bytes = bytes; fds = fds; flags = flags; is = refl; listed = is }
is_socket_send (MemMap place size prot flags fd offset) n is =
    let none : (mem_map place size prot flags fd offset).sends ≡ [] =
    sends_by (is_anonymous flags) (map_zeros place) (on_open (map_row fd prot) (mapping place size offset)) refl refl in
    absurd (no_number n is.0 is.1 (sym none ∙ is.2))
is_socket_send (Poll subscriptions) n is = absurd (poll_sends_none subscriptions n is)
is_socket_send call n is = absurd (no_number n is.0 is.1 is.2)

-- ---- where it was held

-- the descriptor was held by the process of an entry among these, before that entry, and is traced there
pub record WasSent (launch : Launch) (history : List Entry) (c : ℕ) (d : Descriptor) : Type 0 where
  pub at : IsSentEarlier launch history c d
  pub trace : Traced launch at.early at.sender.pid at.m d

-- each that waits in a channel after these entries was
abbrev pub AllSent : Launch → List Entry → Type 0
AllSent launch history = (c : ℕ) (d : Descriptor) → Waits (world launch history).state c d → WasSent launch history c d

pub world_begins : (launch : Launch) → (world launch []).state ≡ start_state launch.tree launch.grants launch.stdin
world_begins launch = ap (λ (w : World). w.state) (world_none launch) ∙ first_state launch

-- no channel is there at the start
pub begins_sent : (launch : Launch) → AllSent launch []
begins_sent launch c d waits =
    let first : get (start_state launch.tree launch.grants launch.stdin).chans c ≡ Some waits.0 =
    ap (λ (T : State). get T.chans c) (sym (world_begins launch)) ∙ waits.1 in
    absurd (none_is_no waits.0 (sym (get-empty nat_cmp c) ∙ first))

module _ (launch : Launch) (front : List Entry) (e : Entry) (begins : MayBegin launch.tree launch.grants) (legal : Legal launch (front ++ e ∷ [])) where
  abbrev then : State
  then = (world launch (front ++ e ∷ [])).state

  -- the open of what waits is there
  waiting_open : (c : ℕ) (d : Descriptor) → Waits then c d → (kind : OpenKind) × (get then.opens d.id ≡ Some kind)
  waiting_open c d waits =
      named_open d (get then.opens d.id)
      (in_all (λ (x : Descriptor). IsNamed (get then.opens x.id) x) d (carried_of waits.0.waiting)
      ((world_is_valid launch (front ++ e ∷ []) begins legal).nearly.channels c waits.0 waits.1).carried waits.2)

  older : (c : ℕ) (d : Descriptor) → WasSent launch front c d → (kind : OpenKind) → get then.opens d.id ≡ Some kind → WasSent launch (front ++ e ∷ []) c d
  older c d s kind here =
      let again : front ++ e ∷ [] ≡ s.at.early ++ s.at.sender ∷ (s.at.between ++ e ∷ []) =
      ap (λ history. history ++ e ∷ []) s.at.is ∙ append_assoc s.at.early (s.at.sender ∷ s.at.between) (e ∷ []) in
      record {
        at = record {
          early = s.at.early;
          sender = s.at.sender;
          between = s.at.between ++ e ∷ [];
          is = again;
          m = s.at.m;
          sends = s.at.sends;
          waited = s.at.waited;
          stays = λ first there.
              let was = s.at.stays first there in
              (kind, here, of_same_through first was.0 kind was.2 (opens_stay launch front e [] begins legal d.id was.0 kind was.1 here));
        };
        trace = s.trace;
      }

  newer : AllTraced launch front → (c : ℕ) (d : Descriptor) → Waits then c d
      → SentBy (world launch front).state (who_of (world launch front).state e) e.act d → (kind : OpenKind) → get then.opens d.id ≡ Some kind
      → WasSent launch (front ++ e ∷ []) c d
  newer traced c d waits sent kind here =
      let reports = ledger_reports launch front begins (legal_front launch front (e ∷ []) legal) in
      let socket : IsSocketSend sent.call sent.n = is_socket_send sent.call sent.n sent.listed in
      let done : Succeeds e sent.call sent.reply = record { is = sent.is; success = sent.success } in
      let sends : SendsUnder e sent.n = record {
        fd = socket.fd;
        bytes = socket.bytes;
        fds = socket.fds;
        flags = socket.flags;
        reply = sent.reply;
        succeeds = subst (λ call. Succeeds e call sent.reply) socket.is done;
        listed = socket.listed;
      } in
      record {
        at = record {
          early = front;
          sender = e;
          between = [];
          is = refl;
          m = sent.n;
          sends = sends;
          waited = waits;
          stays = λ first there. (kind, here, opens_stay launch front e [] begins legal d.id first kind there here);
        };
        trace = traced e.pid sent.n d (sym (reports.tables e.pid sent.table sent.own sent.n) ∙ sent.here);
      }

  pub entry_sent : AllSent launch front → AllTraced launch front → AllSent launch (front ++ e ∷ [])
  entry_sent before traced c d waits =
      let open_of = waiting_open c d waits in
      elim (entry_waits launch front e begins legal c d waits) [
        | inl was ↦ older c d (before c d was) open_of.0 open_of.1
        | inr sent ↦ newer traced c d waits sent open_of.0 open_of.1
      ]

-- ---- what came

no_item : (d : Descriptor) (before after : List Descriptor) → [] ≡ before ++ d ∷ after → ⊥
no_item d [] after e = cc
no_item d (x ∷ before) after e = cc

first_in : (d : Descriptor) (sends : List Send) → IsIn d (first_carried sends) → IsIn d (carried_of sends)
first_in d [] is = is
first_in d (send ∷ rest) is =
    (is.0, is.1 ++ carried_of rest, ap (λ carried. carried ++ carried_of rest) is.2 ∙ append_assoc is.0 (d ∷ is.1) (carried_of rest))

channel_waits : (S : State) (d : Descriptor) (c : ℕ) (o : Option Channel) → get S.chans c ≡ o → IsIn d (carried_first o) → Waits S c d
channel_waits S d c None at is = absurd (no_item d is.0 is.1 is.2)
channel_waits S d c (Some channel) at is = (channel, at, first_in d channel.waiting is)

-- what the first send carries that waits in a channel waits there
pub came_waits : (S : State) (d : Descriptor) (c : ℕ) → IsIn d (carried_first (get S.chans c)) → Waits S c d
came_waits S d c is = channel_waits S d c (get S.chans c) refl is

-- what came for the open of a descriptor comes from the channel that it reads
pub record CameFrom (launch : Launch) (front : List Entry) (o : Option Descriptor) (d : Descriptor) : Type 0 where
  pub c : ℕ
  pub x : Descriptor
  pub socket : o ≡ Some x
  pub writes : Option ℕ
  pub mode : ℕ
  pub form : ChanKind
  pub opened : get (world launch front).state.opens x.id ≡ Some (End (Some c) writes mode form)
  pub came : IsIn d (carried_first (get (world launch front).state.chans c))

kind_came : (launch : Launch) (front : List Entry) (x d : Descriptor) (kind : Option OpenKind) → get (world launch front).state.opens x.id ≡ kind
    → IsIn d (waits_for (world launch front).state.chans kind) → CameFrom launch front (Some x) d
kind_came launch front x d (Some (End (Some c) writes flags form)) at is =
    record { c = c; x = x; socket = refl; writes = writes; mode = flags; form = form; opened = at; came = is }
kind_came launch front x d kind at is = absurd (no_item d is.0 is.1 is.2)

pub came_from : (launch : Launch) (front : List Entry) (e : Entry) (o : Option Descriptor) (d : Descriptor) → IsIn d (came_for (after_at launch front e) o)
    → CameFrom launch front o d
came_from launch front e None d is = absurd (no_item d is.0 is.1 is.2)
came_from launch front e (Some x) d is = kind_came launch front x d (get (world launch front).state.opens x.id) refl is

behind : {X : Type 0} (x : X) (xs : List X) (y : X) → IsIn y xs → IsIn y (x ∷ xs)
behind x xs y is = (x ∷ is.0, is.1, ap (λ all. x ∷ all) is.2)

-- what stands in a row where descriptors were put stood there, or was put there
pub put_in : (row : Row) (fds : List ℕ) (ds : List Descriptor) (n : ℕ) (d : Descriptor) → put_each row fds ds n ≡ Some d
    → (row n ≡ Some d) ⊎ (IsIn n fds × IsIn d ds)
put_in row [] ds n d here = inl here
put_in row (m ∷ fds) [] n d here = inl here
put_in row (m ∷ fds) (x ∷ ds) n d here =
    elim (put_in (with_held row m (Some x)) fds ds n d here) [
      | inl was ↦ elim (eqb_tells n m) [
        | inl is ↦ (
            let same : x ≡ d = same_some x d (sym (held_here row m (Some x)) ∙ sym (ap (with_held row m (Some x)) is.1) ∙ was) in
            inr (([], fds, ap (λ k. k ∷ fds) (sym is.1)), ([], ds, ap (λ y. y ∷ ds) same)))
        | inr other ↦ inl (sym (held_elsewhere row m (Some x) n other.1) ∙ was)
      ]
      | inr new ↦ inr (behind m fds n new.0, behind x ds d new.1)
    ]
