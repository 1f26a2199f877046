-- The numbers of a channel's sends count the entries that put something into it.
--     sends_are_numbered      the law
use Rattle.std.proofs.Common.{◌≡◌, ◌⊎◌, inl, inr, ℕ, suc, List, ◌∷◌, ◌++◌, None, Some, refl, sym, ap, subst, ◌∙◌}
use Rattle.std.specs.FinMap.{get}
use Rattle.abi_base.specs.declared.errno.Errno.TheVariants.{Fault, Success}
use Rattle.abi_base.specs.declared.signal.Signal.TheVariants.{Xcpu}
use Rattle.tree_model.specs.Grants.{MayBegin}
use Rattle.abi_types.specs.declared.call.Call.{Call}
use Rattle.abi_types.specs.declared.call.Call.TheVariants.{FdWrite, SockSend}
use Rattle.abi_types.specs.declared.constants.Constants.{Constants}
use Rattle.abi_types.specs.declared.reply.Answer.{Answer}
use Rattle.abi_types.specs.declared.reply.Answer.TheVariants as answer
use Rattle.abi_types.specs.declared.reply.Reply.{Reply}
use Rattle.abi_types.specs.declared.status.Status.TheVariants.{Killed}
use Rattle.abi_types.specs.declared.wake.WakeIn.{WakeIn}
use Rattle.abi_types.specs.declared.wake.WakeIn.TheVariants as wake
use Rattle.abi_types.specs.declared.who.Who.{Who}
use Rattle.run_types.specs.declared.history.Act.{Act}
use Rattle.run_types.specs.declared.history.Act.TheVariants as act
use Rattle.run_types.specs.declared.history.Entry.{Entry}
use Rattle.run_types.specs.declared.launch.Launch.{Launch}
use Rattle.kernel_model.specs.ChannelLaws as kernel
use Rattle.kernel_model.specs.ChannelLaws.{GoesInto, IsPut}
use Rattle.kernel_model.specs.Channels.{Channel}
use Rattle.kernel_model.specs.Families.Locks.{with_word}
use Rattle.kernel_model.specs.Proper.{sends_had}
use Rattle.kernel_model.specs.State.{State, Table}
use Rattle.kernel_model.specs.Step.{IsStep}
use Rattle.kernel_model.specs.Valid.{IsValid}
use Rattle.kernel_model.specs.Waits.{resumed}
use Rattle.kernel_model.specs.Wakes.{IsWake}
use Rattle.kernel_model.proofs.SendCounts as counts
use Rattle.kernel_model.proofs.Tests.{none_is_no}
use Rattle.kernel_model.proofs.Valids.{same_value}
use Rattle.kernel_model.proofs.Waking.{resumed_valid}
use Rattle.run_model.specs.Legal.{FitsAct, Fits, Legal}
use Rattle.run_model.specs.World.{World, Guest, guest_of, called_state, woken_state, turned, acted, who_of, apply, world}
use Rattle.run_model.proofs.Histories.{apply_is, legal_front, legal_next, world_more}
use Rattle.run_model.proofs.Words.{word_kept}
use Rattle.run_model.proofs.Worlds.{world_is_valid}
use Rattle.authority_laws.specs.Deliveries.{BeginsCount, CountsMore, PutsInto}
use Rattle.authority_laws.specs.Laws.{SendsAreNumbered}
use Rattle.authority_laws.specs.Recorded.{Answers, held_before}
use Rattle.authority_laws.proofs.Histories.{ledger_reports}
use Rattle.authority_laws.proofs.Sends.{goes_held}
use Rattle.authority_laws.proofs.Successes.{no_success}

-- ---- acts

-- the act put a byte at least into channel c
record ActPuts (S : State) (who : Who) (a : Act) (c : ℕ) : Type 0 where
  call : Call
  fd : ℕ
  bytes : List ℕ
  put : IsPut call fd bytes
  reply : Reply
  is : Answers a call reply
  success : reply.errno ≡ Success
  table : Table
  own : get S.tables who.pid ≡ Some table
  into : GoesInto (get table) S.opens fd bytes c

-- what is shown of an act
abbrev ActCounts : State → State → Who → Act → ℕ → Channel → Channel → Type 0
ActCounts S T who a c was now =
    (ActPuts S who a c × (sends_had now ≡ suc (sends_had was))) ⊎ ((¬ ActPuts S who a c) × (sends_had now ≡ sends_had was))

-- what a call did by its answer, and what its act did
act_of : (S : State) (who : Who) (call : Call) (given : Answer) (a : Act) (c : ℕ) → ((reply : Reply) → given ≡ answer.Reply reply → Answers a call reply)
    → kernel.PutsInto S who call given c → ActPuts S who a c
act_of S who call given a c answers puts = record {
  call = call;
  fd = puts.fd;
  bytes = puts.bytes;
  put = puts.is;
  reply = puts.reply;
  is = answers puts.reply puts.replied;
  success = puts.success;
  table = puts.table;
  own = puts.own;
  into = puts.into;
}

call_of : (S : State) (who : Who) (call : Call) (given : Answer) (a : Act) (c : ℕ) (puts : ActPuts S who a c) → puts.call ≡ call
    → given ≡ answer.Reply puts.reply → kernel.PutsInto S who call given c
call_of S who call given a c puts same replied = record {
  fd = puts.fd;
  bytes = puts.bytes;
  is = subst (λ x. IsPut x puts.fd puts.bytes) same puts.put;
  reply = puts.reply;
  replied = replied;
  success = puts.success;
  table = puts.table;
  own = puts.own;
  into = puts.into;
}

-- the call and the answer that an act shows, where it has them
abbrev call_or : Call → Act → Call
call_or other (act.Call call given) = call
call_or other (act.Wake call given answered) = call
call_or other a = other

abbrev answer_or : Answer → Act → Answer
answer_or other (act.Call call given) = given
answer_or other (act.Wake call given answered) = answered
answer_or other a = other

shown_call : (call : Call) (given : Answer) (a : Act) (asked : Call) (reply : Reply) → call_or asked a ≡ call → Answers a asked reply → asked ≡ call
shown_call call given a asked reply is (inl e) = sym (ap (call_or asked) e) ∙ is
shown_call call given a asked reply is (inr e) = sym (ap (call_or asked) e.1) ∙ is

shown_answer : (given : Answer) (a : Act) (asked : Call) (reply : Reply) → answer_or (answer.Reply reply) a ≡ given → Answers a asked reply
    → given ≡ answer.Reply reply
shown_answer given a asked reply is (inl e) = sym is ∙ ap (answer_or (answer.Reply reply)) e
shown_answer given a asked reply is (inr e) = sym is ∙ ap (answer_or (answer.Reply reply)) e.1

call_counts : (constants : Constants) (S : State) (who : Who) (call : Call) (given : Answer) (T : State) (c : ℕ) (was now : Channel) → IsValid S
    → IsStep constants S who call given T → get S.chans c ≡ Some was → get T.chans c ≡ Some now → ActCounts S T who (act.Call call given) c was now
call_counts constants S who call given T c was now valid is before after =
    elim (counts.sends_are_counted constants S who call given T c was now valid is before after) [
      | inl puts ↦ inl (act_of S who call given (act.Call call given) c (λ reply e. inl (ap (act.Call call) e)) puts.0, puts.1)
      | inr none ↦ inr (
        λ puts.
            none.0 (call_of S who call given (act.Call call given) c puts (shown_call call given (act.Call call given) puts.call puts.reply refl puts.is)
            (shown_answer given (act.Call call given) puts.call puts.reply refl puts.is)),
        none.1,
      )
    ]

-- what a call puts with another word of its lock, it puts
puts_by_word : (S : State) (who : Who) (word : ℕ) (call : Call) (given : Answer) (c : ℕ) → kernel.PutsInto S who (with_word word call) given c
    → kernel.PutsInto S who call given c
puts_by_word S who word call given c puts = record {
  fd = puts.fd;
  bytes = puts.bytes;
  is = elim puts.is [
    | inl writes ↦ inl (word_kept word call (FdWrite puts.fd puts.bytes) refl writes)
    | inr sends ↦ inr (sends.0, sends.1, word_kept word call (SockSend puts.fd puts.bytes sends.0 sends.1) refl sends.2)
  ];
  reply = puts.reply;
  replied = puts.replied;
  success = puts.success;
  table = puts.table;
  own = puts.own;
  into = puts.into;
}

puts_with_word : (S : State) (who : Who) (word : ℕ) (call : Call) (given : Answer) (c : ℕ) → kernel.PutsInto S who call given c
    → kernel.PutsInto S who (with_word word call) given c
puts_with_word S who word call given c puts = record {
  fd = puts.fd;
  bytes = puts.bytes;
  is = elim puts.is [
    | inl writes ↦ inl (ap (with_word word) writes)
    | inr sends ↦ inr (sends.0, sends.1, ap (with_word word) sends.2)
  ];
  reply = puts.reply;
  replied = puts.replied;
  success = puts.success;
  table = puts.table;
  own = puts.own;
  into = puts.into;
}

wake_counts : (constants : Constants) (S : State) (who : Who) (call : Call) (given : WakeIn) (answered : Answer) (T : State) (c : ℕ) (was now : Channel)
    → IsValid S → IsWake constants S who call given answered T → get S.chans c ≡ Some was → get T.chans c ≡ Some now
    → ActCounts S T who (act.Wake call given answered) c was now
wake_counts constants S who call (wake.Plain word) answered T c was now valid is before after =
    let a : Act = act.Wake call (wake.Plain word) answered in
    elim (counts.sends_are_counted constants (resumed S who) who (with_word word call) answered T c was now (resumed_valid S who valid) is.0 before after) [
      | inl puts ↦ inl (
        again (act_of (resumed S who) who call answered a c (λ reply e. inr (wake.Plain word, ap (act.Wake call (wake.Plain word)) e))
            (puts_by_word (resumed S who) who word call answered c puts.0)),
        puts.1,
      )
      | inr none ↦ inr (
        λ puts.
            none.0 (puts_with_word (resumed S who) who word call answered c (call_of (resumed S who) who call answered a c (as_resumed puts)
            (shown_call call answered a puts.call puts.reply refl puts.is) (shown_answer answered a puts.call puts.reply refl puts.is))),
        none.1,
      )
    ] where
      again : ActPuts (resumed S who) who (act.Wake call (wake.Plain word) answered) c → ActPuts S who (act.Wake call (wake.Plain word) answered) c
      again p = record {
        call = p.call;
        fd = p.fd;
        bytes = p.bytes;
        put = p.put;
        reply = p.reply;
        is = p.is;
        success = p.success;
        table = p.table;
        own = p.own;
        into = p.into;
      }

      as_resumed : ActPuts S who (act.Wake call (wake.Plain word) answered) c → ActPuts (resumed S who) who (act.Wake call (wake.Plain word) answered) c
      as_resumed p = record {
        call = p.call;
        fd = p.fd;
        bytes = p.bytes;
        put = p.put;
        reply = p.reply;
        is = p.is;
        success = p.success;
        table = p.table;
        own = p.own;
        into = p.into;
      }
wake_counts constants S who call wake.Fault answered T c was now valid is before after = inr (
  λ puts. no_success puts.reply Fault (sym (shown_answer answered (act.Wake call wake.Fault answered) puts.call puts.reply refl puts.is) ∙ is.0)
      (λ e. cc) puts.success,
  ap sends_had (same_value now was (get S.chans c) (subst (λ (V : State). get V.chans c ≡ Some now) is.1 after) before),
)

wake_new : (constants : Constants) (S : State) (who : Who) (call : Call) (given : WakeIn) (answered : Answer) (T : State) (c : ℕ) (now : Channel) → IsValid S
    → IsWake constants S who call given answered T → get S.chans c ≡ None → get T.chans c ≡ Some now → sends_had now ≡ 0
wake_new constants S who call (wake.Plain word) answered T c now valid is before after =
    counts.new_channels_have_none constants (resumed S who) who (with_word word call) answered T c now (resumed_valid S who valid) is.0 before after
wake_new constants S who call wake.Fault answered T c now valid is before after =
    absurd (none_is_no now (sym before ∙ subst (λ (V : State). get V.chans c ≡ Some now) is.1 after))

-- an act that is no call puts nothing
no_call : (S : State) (who : Who) (a : Act) (c : ℕ) → ((call : Call) (reply : Reply) → Answers a call reply → ⊥) → ¬ ActPuts S who a c
no_call S who a c never puts = never puts.call puts.reply puts.is

acted_counts : (w : World) (who : Who) (guest : Guest) (ts : List ℕ) (a : Act) → IsValid w.state → FitsAct w.constants w.state who guest ts a
    → (c : ℕ) (was now : Channel) → get w.state.chans c ≡ Some was → get (acted w who a).state.chans c ≡ Some now
    → ActCounts w.state (acted w who a).state who a c was now
acted_counts w who guest ts (act.Call call given) valid fits c was now before after =
    call_counts w.constants w.state who call given (called_state w.constants w.state who call given) c was now valid fits.1 before after
acted_counts w who guest ts (act.Wake call given answered) valid fits c was now before after =
    wake_counts w.constants w.state who call given answered (woken_state w.constants w.state who call given answered) c was now valid fits.1.1 before after
acted_counts w who guest ts (act.Trap signal) valid fits c was now before after = inr (
  no_call w.state who (act.Trap signal) c never,
  counts.ends_count_none w.state who.pid (Killed signal) c was now before after,
) where
  never : (call : Call) (reply : Reply) → Answers (act.Trap signal) call reply → ⊥
  never call reply (inl e) = cc
  never call reply (inr e) = let no_wake = e.1 in cc
acted_counts w who guest ts act.Expire valid fits c was now before after = inr (
  no_call w.state who act.Expire c never,
  counts.ends_count_none w.state who.pid (Killed Xcpu) c was now before after,
) where
  never : (call : Call) (reply : Reply) → Answers act.Expire call reply → ⊥
  never call reply (inl e) = cc
  never call reply (inr e) = let no_wake = e.1 in cc
acted_counts w who guest ts act.Idle valid fits c was now before after = inr (
  no_call w.state who act.Idle c never,
  ap sends_had (same_value now was (get w.state.chans c) after before),
) where
  never : (call : Call) (reply : Reply) → Answers act.Idle call reply → ⊥
  never call reply (inl e) = cc
  never call reply (inr e) = let no_wake = e.1 in cc

-- ---- entries

applied_counts : (w : World) (e : Entry) → IsValid w.state → Fits w e → (c : ℕ) (was now : Channel) → get w.state.chans c ≡ Some was
    → get (apply w e).state.chans c ≡ Some now → ActCounts w.state (apply w e).state (who_of w.state e) e.act c was now
applied_counts w e valid fits c was now before after =
    acted_counts (turned w e.pid e.turns) (who_of w.state e) (guest_of w e.pid) e.turns e.act valid fits.act c was now before
    (subst (λ (v : World). get v.state.chans c ≡ Some now) (apply_is w e) after)

module _ (launch : Launch) (front : List Entry) (e : Entry) (rest : List Entry) (begins : MayBegin launch.tree launch.grants)
    (legal : Legal launch (front ++ e ∷ rest)) (c : ℕ) where
  abbrev S : State
  S = (world launch front).state

  abbrev who : Who
  who = who_of S e

  row_is : (table : Table) → get S.tables e.pid ≡ Some table → (n : ℕ) → get table n ≡ held_before launch front e n
  row_is table own = (ledger_reports launch front begins (legal_front launch front (e ∷ rest) legal)).tables e.pid table own

  entry_puts : ActPuts S who e.act c → PutsInto launch front e c
  entry_puts puts = record {
    call = puts.call;
    fd = puts.fd;
    bytes = puts.bytes;
    put = puts.put;
    reply = puts.reply;
    succeeds = record { is = puts.is; success = puts.success };
    into = goes_held (get puts.table) (held_before launch front e) S.opens puts.fd puts.bytes c (row_is puts.table puts.own puts.fd) puts.into;
  }

  act_puts : PutsInto launch front e c → ActPuts S who e.act c
  act_puts puts =
      let holds = (ledger_reports launch front begins (legal_front launch front (e ∷ rest) legal)).held e.pid puts.fd puts.into.d puts.into.socket in
      record {
        call = puts.call;
        fd = puts.fd;
        bytes = puts.bytes;
        put = puts.put;
        reply = puts.reply;
        is = puts.succeeds.is;
        success = puts.succeeds.success;
        table = holds.1;
        own = holds.2;
        into = goes_held (held_before launch front e) (get holds.1) S.opens puts.fd puts.bytes c (puts.into.socket ∙ sym holds.3) puts.into;
      }

-- ---- channels that come

acted_new : (w : World) (who : Who) (guest : Guest) (ts : List ℕ) (a : Act) → IsValid w.state → FitsAct w.constants w.state who guest ts a
    → (c : ℕ) (now : Channel) → get w.state.chans c ≡ None → get (acted w who a).state.chans c ≡ Some now → sends_had now ≡ 0
acted_new w who guest ts (act.Call call given) valid fits c now before after =
    counts.new_channels_have_none w.constants w.state who call given (called_state w.constants w.state who call given) c now valid fits.1 before after
acted_new w who guest ts (act.Wake call given answered) valid fits c now before after =
    wake_new w.constants w.state who call given answered (woken_state w.constants w.state who call given answered) c now valid fits.1.1 before after
acted_new w who guest ts (act.Trap signal) valid fits c now before after =
    absurd (counts.ends_make_none w.state who.pid (Killed signal) c now before after)
acted_new w who guest ts act.Expire valid fits c now before after = absurd (counts.ends_make_none w.state who.pid (Killed Xcpu) c now before after)
acted_new w who guest ts act.Idle valid fits c now before after = absurd (none_is_no now (sym before ∙ after))

begins_count : (launch : Launch) (front : List Entry) (e : Entry) (rest : List Entry) → MayBegin launch.tree launch.grants
    → Legal launch (front ++ e ∷ rest) → BeginsCount launch front e
begins_count launch front e rest begins legal c now before after =
    let w = world launch front in
    acted_new (turned w e.pid e.turns) (who_of w.state e) (guest_of w e.pid) e.turns e.act
    (world_is_valid launch front begins (legal_front launch front (e ∷ rest) legal)) (legal_next launch front e rest legal).act c now before
    (subst (λ (v : World). get v.state.chans c ≡ Some now) (world_more launch front e ∙ apply_is w e) after)

counts_more : (launch : Launch) (front : List Entry) (e : Entry) (rest : List Entry) → MayBegin launch.tree launch.grants
    → Legal launch (front ++ e ∷ rest) → CountsMore launch front e
counts_more launch front e rest begins legal c was now before after =
    elim (applied_counts (world launch front) e (world_is_valid launch front begins (legal_front launch front (e ∷ rest) legal))
    (legal_next launch front e rest legal) c was now before (subst (λ (v : World). get v.state.chans c ≡ Some now) (world_more launch front e) after)) [
      | inl puts ↦ inl (entry_puts launch front e rest begins legal c puts.0, puts.1)
      | inr none ↦ inr (λ puts. none.0 (act_puts launch front e rest begins legal c puts), none.1)
    ]

pub sends_are_numbered : SendsAreNumbered
sends_are_numbered launch front e rest begins legal = (counts_more launch front e rest begins legal, begins_count launch front e rest begins legal)
