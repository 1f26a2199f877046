-- What a sock_recv installs is, each in its place, what one sock_send carried.
--     installed_is      what is installed under a number
--     receives_are_sent      the law
use Rattle.std.proofs.Common.{◌≡◌, ◌⊎◌, inl, inr, ℕ, zero, suc, cond, min, List, [], ◌∷◌, ◌++◌, take, drop, Option, None, Some, refl, sym, ap, subst, ◌∙◌}
use Rattle.std.proofs.lemmas.Bool.Decides.{eqb_tells}
use Rattle.std.proofs.lemmas.List.{take-append-drop}
use Rattle.std.specs.Prelude.{slice_get}
use Rattle.std.specs.FinMap.{get}
use Rattle.abi_base.specs.declared.errno.Errno.TheVariants.{Fault, Success}
use Rattle.tree_model.specs.Grants.{MayBegin}
use Rattle.abi_types.specs.declared.chan_kind.ChanKind.{ChanKind}
use Rattle.abi_types.specs.declared.call.Call.{Call}
use Rattle.abi_types.specs.declared.call.Call.TheVariants.{SockRecv}
use Rattle.abi_types.specs.declared.constants.Constants.{Constants}
use Rattle.abi_types.specs.declared.descriptor.Descriptor.{Descriptor}
use Rattle.abi_types.specs.declared.open_kind.OpenKind.TheVariants.{End}
use Rattle.abi_types.specs.declared.reply.Answer.TheVariants as answer
use Rattle.abi_types.specs.declared.reply.Reply.{Reply}
use Rattle.abi_types.specs.declared.status.Status.TheVariants.{Live}
use Rattle.abi_types.specs.declared.wake.WakeIn.{WakeIn}
use Rattle.abi_types.specs.declared.wake.WakeIn.TheVariants as wake
use Rattle.abi_types.specs.declared.who.Who.{Who}
use Rattle.run_types.specs.declared.history.Act.{Act}
use Rattle.run_types.specs.declared.history.Entry.{Entry}
use Rattle.run_types.specs.declared.launch.Launch.{Launch}
use Rattle.kernel_model.specs.ChannelLaws.{IsInstalled, installs_none, installs_one}
use Rattle.kernel_model.specs.Channels.{Channel, Send, coming, pull, reach}
use Rattle.kernel_model.specs.Families.ChannelCalls.{Installed, install, receive_open}
use Rattle.kernel_model.specs.Families.OpenMeaning.{at_descriptor}
use Rattle.kernel_model.specs.Outcome.{Outcome, WhereReply}
use Rattle.kernel_model.specs.State.{State, Table}
use Rattle.kernel_model.specs.Step.{outcome, step_answer, tick, IsStep}
use Rattle.kernel_model.specs.View.{whole}
use Rattle.kernel_model.specs.Waits.{resumed}
use Rattle.kernel_model.specs.Wakes.{IsWake}
use Rattle.kernel_model.proofs.ChannelLaws.{installs_as_sent}
use Rattle.kernel_model.proofs.Outcomes.{outcome_holds}
use Rattle.kernel_model.proofs.Refusals.{refusal_is_other, where_reply}
use Rattle.kernel_model.proofs.SocketCalls.{receive_holds}
use Rattle.kernel_model.proofs.Tests.{none_is_no, same_some}
use Rattle.run_model.specs.Legal.{FitsAct, Legal}
use Rattle.run_model.specs.World.{guest_of, called_state, who_of, woken_state, world}
use Rattle.run_model.proofs.Histories.{legal_front, legal_next}
use Rattle.authority_laws.specs.Deliveries.{IsDelivered, IsSend}
use Rattle.authority_laws.specs.Laws.{ReceivesAreSent}
use Rattle.authority_laws.specs.Ledger.{by_success, came_for, carried_first, first_carried, granted_row, installed_fds, is_live, no_row, put_each, waits_for}
use Rattle.authority_laws.specs.Recorded.{Succeeds, acted_row, after_at, held_after, held_before}
use Rattle.authority_laws.proofs.Histories.{ledger_reports, own_after}
use Rattle.authority_laws.proofs.Rows.{row_in}
use Rattle.authority_laws.proofs.Sends.{AllAre, IsOf, all_listed}
use Rattle.authority_laws.proofs.Sockets.{coming_is, installed_row}
use Rattle.authority_laws.proofs.Successes.{no_memory, no_success}

-- ---- what stands under a number that was installed

-- what stood in the table stands there still
still_there : (table new : Table) (ds : List Descriptor) (fds : List ℕ) (n : ℕ) (x : Descriptor) → IsInstalled table ds fds new → get table n ≡ Some x
    → get new n ≡ Some x
still_there table new ds fds n x (installs_none t) here = here
still_there table new ds fds n x (installs_one t then u d rest number more free there others is) here =
    elim (eqb_tells n number) [
      | inl same ↦ absurd (none_is_no x (sym free ∙ ap (get t) (sym same.1) ∙ here))
      | inr apart ↦ still_there then u rest more n x is (others n apart.1 ∙ here)
    ]

-- the k-th of the descriptors stands under the k-th number
record StandsAt (new : Table) (ds : List Descriptor) (k n : ℕ) : Type 0 where
  d : Descriptor
  place : slice_get ds k ≡ Some d
  here : get new n ≡ Some d

no_place : {X : Type 0} (k n : ℕ) → slice_get [] k ≡ Some n → X
no_place k n is = absurd (none_is_no n is)

installed_is : (table new : Table) (ds : List Descriptor) (fds : List ℕ) (k n : ℕ) → IsInstalled table ds fds new → slice_get fds k ≡ Some n → StandsAt new ds k n
installed_is table new ds fds k n (installs_none t) at = no_place k n at
installed_is table new ds fds zero n (installs_one t then u d rest number more free there others is) at =
    let same : number ≡ n = same_some number n at in
    record { d = d; place = refl; here = still_there then u rest more n d is (subst (λ m. get then m ≡ Some d) same there) }
installed_is table new ds fds (suc k) n (installs_one t then u d rest number more free there others is) at =
    let next = installed_is then u rest more k n is at in record { d = next.d; place = next.place; here = next.here }

-- a place in the first of two lists is the same in both
place_in_both : (k : ℕ) (ds more : List Descriptor) (d : Descriptor) → slice_get ds k ≡ Some d → slice_get (ds ++ more) k ≡ Some d
place_in_both k [] more d at = absurd (none_is_no d at)
place_in_both zero (x ∷ ds) more d at = at
place_in_both (suc k) (x ∷ ds) more d at = place_in_both k ds more d at

-- ---- what a receive comes to

-- The process has a socket under fd, by which it received: the first descriptors that the first send carries were installed in its table
-- under these numbers.
record Installs (S : State) (p fd : ℕ) (fds : List ℕ) : Type 0 where
  table : Table
  own : get S.tables p ≡ Some table
  x : Descriptor
  socket : get table fd ≡ Some x
  c : ℕ
  writes : Option ℕ
  mode : ℕ
  form : ChanKind
  opened : get S.opens x.id ≡ Some (End (Some c) writes mode form)
  channel : Channel
  there : get S.chans c ≡ Some channel
  ds : List Descriptor
  more : List Descriptor
  first : first_carried channel.waiting ≡ ds ++ more
  installed : Installed
  made : install table ds ≡ Some installed
  listed : fds ≡ installed.fds

-- where it succeeds it lists no number, or it installed
abbrev ListsInstalled : State → ℕ → ℕ → Reply → Type 0
ListsInstalled S p fd reply = reply.errno ≡ Success → (installed_fds reply.payload ≡ []) ⊎ Installs S p fd (installed_fds reply.payload)

abbrev none_of : List Descriptor
none_of = []

nothing_taken : (n : ℕ) → take n none_of ≡ none_of
nothing_taken zero = refl
nothing_taken (suc n) = refl

-- what comes stands at the front of what the first send carries
comes_first : (room m : ℕ) (waiting : List Send) → (more : List Descriptor) × (first_carried waiting ≡ take room (coming m waiting) ++ more)
comes_first room m waiting =
    elim (coming_is m waiting) [
      | inl none ↦ (first_carried waiting, sym (ap (λ ds. take room ds ++ first_carried waiting) none ∙ ap (λ ds. ds ++ first_carried waiting) (nothing_taken room)))
      | inr first ↦ (
        drop room (first_carried waiting),
        sym (ap (λ ds. take room ds ++ drop room (first_carried waiting)) first ∙ take-append-drop room (first_carried waiting)),
      )
    ]

module _ (S : State) (p : ℕ) (table : Table) (fd n room flags : ℕ) (own : get S.tables p ≡ Some table) where
  abbrev Lists : Outcome → Type 0
  Lists o = WhereReply (ListsInstalled S p fd) o.answer

  lists_at : (o : Option Descriptor) → get table fd ≡ o → Lists (at_descriptor (λ o. receive_open p table (whole (tick S)) n room flags) (whole (tick S)) o)
  lists_at None here = λ success. inl refl
  lists_at (Some x) here =
      receive_holds p table (whole (tick S)) n room flags Lists (λ errno listed success. inl refl) tt (λ bytes success. inl refl) (get S.opens x.id)
      (λ c w mode form channel installed opened there made success.
      let comes = comes_first room (min n (reach channel.waiting)) channel.waiting in
      inr (record {
        table = table;
        own = own;
        x = x;
        socket = here;
        c = c;
        writes = Some w;
        mode = mode;
        form = form;
        opened = opened;
        channel = channel;
        there = there;
        ds = take room (pull n channel).carried;
        more = comes.0;
        first = comes.1;
        installed = installed;
        made = made;
        listed = refl;
      }))

outcome_lists : (constants : Constants) (S : State) (who : Who) (fd n room flags : ℕ)
    → WhereReply (ListsInstalled S who.pid fd) (outcome constants S who (SockRecv fd n room flags)).answer
outcome_lists constants S who fd n room flags =
    outcome_holds (λ (o : Outcome). WhereReply (ListsInstalled S who.pid fd) o.answer) constants S who (SockRecv fd n room flags)
    (λ reply is success. absurd (refusal_is_other Success (λ e. cc) (λ e. cc) (SockRecv fd n room flags) (get S.tables who.pid) reply is success))
    (λ table own. lists_at S who.pid table fd n room flags own (get table fd) refl)

step_lists : (constants : Constants) (S : State) (who : Who) (fd n room flags : ℕ) (reply : Reply) (T : State)
    → IsStep constants S who (SockRecv fd n room flags) (answer.Reply reply) T → ListsInstalled S who.pid fd reply
step_lists constants S who fd n room flags reply T (inl done) success =
    where_reply (ListsInstalled S who.pid fd) (step_answer constants S who (SockRecv fd n room flags)) reply (outcome_lists constants S who fd n room flags)
    (sym done.0) success
step_lists constants S who fd n room flags reply T (inr lacking) success = no_memory reply lacking.1 success

wake_lists : (constants : Constants) (S : State) (who : Who) (fd n room flags : ℕ) (given : WakeIn) (reply : Reply) (T : State)
    → IsWake constants S who (SockRecv fd n room flags) given (answer.Reply reply) T → ListsInstalled S who.pid fd reply
wake_lists constants S who fd n room flags (wake.Plain word) reply T is success =
    elim (step_lists constants (resumed S who) who fd n room flags reply T is.0 success) [
      | inl none ↦ inl none
      | inr i ↦ inr (record {
        table = i.table;
        own = i.own;
        x = i.x;
        socket = i.socket;
        c = i.c;
        writes = i.writes;
        mode = i.mode;
        form = i.form;
        opened = i.opened;
        channel = i.channel;
        there = i.there;
        ds = i.ds;
        more = i.more;
        first = i.first;
        installed = i.installed;
        made = i.made;
        listed = i.listed;
      })
    ]
wake_lists constants S who fd n room flags wake.Fault reply T is success = no_success reply Fault is.0 (λ e. cc) success

-- ---- an entry of a legal history

module _ (launch : Launch) (front : List Entry) (e : Entry) (rest : List Entry) (begins : MayBegin launch.tree launch.grants)
    (legal : Legal launch (front ++ e ∷ rest)) (fd n room flags : ℕ) (reply : Reply) (done : Succeeds e (SockRecv fd n room flags) reply) where
  abbrev S : State
  S = (world launch front).state

  abbrev receiving : Call
  receiving = SockRecv fd n room flags

  abbrev fits_as : Act → Type 0
  fits_as a = FitsAct (world launch front).constants S (who_of S e) (guest_of (world launch front) e.pid) e.turns a

  -- it lists no number, or it installed
  entry_lists : (installed_fds reply.payload ≡ []) ⊎ Installs S e.pid fd (installed_fds reply.payload)
  entry_lists =
      let constants = (world launch front).constants in
      let fits : fits_as e.act = (legal_next launch front e rest legal).act in
      elim done.is [
        | inl call ↦ step_lists constants S (who_of S e) fd n room flags reply (called_state constants S (who_of S e) receiving (answer.Reply reply))
            (subst fits_as call fits).1 done.success
        | inr woken ↦ wake_lists constants S (who_of S e) fd n room flags woken.0 reply (woken_state constants S (who_of S e) receiving woken.0 (answer.Reply reply))
            (subst fits_as woken.1 fits).1.1 done.success
      ]

  -- what its process holds after it, if it is live
  received_row : get (world launch (front ++ e ∷ [])).state.statuses e.pid ≡ Some Live
      → held_after launch front e
      ≡ put_each (held_before launch front e) (installed_fds reply.payload) (came_for (after_at launch front e) (held_before launch front e fd))
  received_row live =
      own_after launch front e ∙ ap (λ s. cond (is_live s) (acted_row (after_at launch front e) (held_before launch front e) e.act) no_row) live
      ∙ acted
      ∙ ap (λ errno. by_success errno (granted_row (after_at launch front e) (held_before launch front e) receiving reply) (held_before launch front e))
      done.success where
        acted : acted_row (after_at launch front e) (held_before launch front e) e.act
            ≡ by_success reply.errno (granted_row (after_at launch front e) (held_before launch front e) receiving reply) (held_before launch front e)
        acted = elim done.is [
          | inl call ↦ ap (acted_row (after_at launch front e) (held_before launch front e)) call
          | inr woken ↦ ap (acted_row (after_at launch front e) (held_before launch front e)) woken.1
        ]

  module _ (i : Installs S e.pid fd (installed_fds reply.payload)) (k number : ℕ) (at : slice_get (installed_fds reply.payload) k ≡ Some number) where
    row_is : row_in (Some i.table) ≡ held_before launch front e
    row_is = λ j m. (ledger_reports launch front begins (legal_front launch front (e ∷ rest) legal)).tables e.pid i.table i.own m j

    stands : StandsAt i.installed.table i.ds k number
    stands = installed_is i.table i.installed.table i.ds i.installed.fds k number (installs_as_sent i.table i.ds i.installed i.made)
        (ap (λ fds. slice_get fds k) (sym i.listed) ∙ at)

    place : slice_get (first_carried i.channel.waiting) k ≡ Some stands.d
    place = ap (λ ds. slice_get ds k) i.first ∙ place_in_both k i.ds i.more stands.d stands.place

    socket : held_before launch front e fd ≡ Some i.x
    socket = (λ j. sym row_is j fd) ∙ i.socket

    came : came_for (after_at launch front e) (held_before launch front e fd) ≡ i.ds ++ i.more
    came = ap (came_for (after_at launch front e)) socket ∙ ap (waits_for S.chans) i.opened ∙ ap carried_first i.there ∙ i.first

    put : put_each (held_before launch front e) (installed_fds reply.payload) (came_for (after_at launch front e) (held_before launch front e fd))
        ≡ row_in (Some i.installed.table)
    put = (λ j. put_each (sym row_is j) (i.listed j) (came j)) ∙ sym (installed_row i.ds i.more i.table i.installed i.made)

    -- the first send carries something, so one of the entries before this one listed that
    sent_of : (sends : List Send) → AllAre (IsSend launch front i.c) i.channel.left sends → slice_get (first_carried sends) k ≡ Some stands.d
        → IsSend launch front i.c (suc i.channel.left) (first_carried sends)
    sent_of [] all here = absurd (none_is_no stands.d here)
    sent_of (send ∷ sends) all here = one all.0 where
      one : IsOf (IsSend launch front i.c) (suc i.channel.left) send.carried → IsSend launch front i.c (suc i.channel.left) send.carried
      one (inl bare) = absurd (none_is_no stands.d (ap (λ ds. slice_get ds k) (sym bare) ∙ here))
      one (inr sent) = sent

    delivered : IsDelivered launch front e fd k number
    delivered = record {
      x = i.x;
      socket = socket;
      c = i.c;
      writes = i.writes;
      mode = i.mode;
      form = i.form;
      opened = i.opened;
      channel = i.channel;
      there = i.there;
      carried = first_carried i.channel.waiting;
      sent = sent_of i.channel.waiting (all_listed launch front begins (legal_front launch front (e ∷ rest) legal) i.c i.channel i.there) place;
      d = stands.d;
      place = place;
      held = λ live. (λ j. (received_row live ∙ put) j number) ∙ stands.here;
    }

  entry_delivers : (k number : ℕ) → slice_get (installed_fds reply.payload) k ≡ Some number → IsDelivered launch front e fd k number
  entry_delivers k number at =
      elim entry_lists [
        | inl none ↦ absurd (none_is_no number (ap (λ fds. slice_get fds k) (sym none) ∙ at))
        | inr i ↦ delivered i k number at
      ]

pub receives_are_sent : ReceivesAreSent
receives_are_sent launch front e rest begins legal fd n room flags reply done k number at =
    entry_delivers launch front e rest begins legal fd n room flags reply done k number at
