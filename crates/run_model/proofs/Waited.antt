-- Each call that a thread waits in was made by an entry of the history.
use Rattle.std.proofs.Common.{◌≡◌, ℕ, ◌+◌, true, inl, inr, List, [], ◌∷◌, ◌++◌, Option, None, Some, refl, sym, ap, subst, ◌∙◌}
use Rattle.std.specs.Prelude.{⊤}
use Rattle.std.proofs.lemmas.List.{append_assoc, append-nil}
use Rattle.abi_base.specs.declared.signal.Signal.TheVariants.{Xcpu}
use Rattle.abi_types.specs.declared.call.Call.{Call}
use Rattle.abi_types.specs.declared.reply.Answer.{Answer}
use Rattle.abi_types.specs.declared.reply.Answer.TheVariants as answer
use Rattle.abi_types.specs.declared.reply.WordWrites.{WordWrites}
use Rattle.abi_types.specs.declared.status.Status.TheVariants.{Killed}
use Rattle.abi_types.specs.declared.thread.Stage.{Stage}
use Rattle.abi_types.specs.declared.thread.Thread.{Thread}
use Rattle.abi_types.specs.declared.thread.Thread.TheVariants.{Runnable, Waits}
use Rattle.abi_types.specs.declared.wake.WakeIn.{WakeIn}
use Rattle.abi_types.specs.declared.wake.WakeIn.TheVariants as wake
use Rattle.abi_types.specs.declared.who.Who.{Who}
use Rattle.run_types.specs.declared.history.Act.{Act}
use Rattle.run_types.specs.declared.history.Act.TheVariants as act
use Rattle.run_types.specs.declared.history.Entry.{Entry}
use Rattle.run_types.specs.declared.launch.Launch.{Launch}
use Rattle.tree_model.specs.Grants.{MayBegin}
use Rattle.kernel_model.specs.Outcome.{is_parked}
use Rattle.kernel_model.specs.State.{State, thread_of}
use Rattle.kernel_model.specs.Threads.{is_given, is_signalled, stays, IsMoved}
use Rattle.kernel_model.specs.Valid.{IsValid}
use Rattle.kernel_model.specs.Wakes.{woken}
use Rattle.kernel_model.proofs.Starts.{start_runs}
use Rattle.kernel_model.proofs.Steps.{step_keeps_valid, step_moves_only}
use Rattle.kernel_model.proofs.Tests.{not_true}
use Rattle.kernel_model.proofs.Waking.{end_each, step_each, wake_each}
use Rattle.run_model.specs.Laws.{WasCalled}
use Rattle.run_model.specs.Legal.{FitsAct, Fits, FollowsFrom, Legal}
use Rattle.run_model.specs.World.{World, acted, apply, apply_all, called_state, guest_of, made_since, registers_of, start_world, turned, turned_guest_by, who_of, woken_state, world}
use Rattle.run_model.proofs.Ends.{killed_is_not_live}
use Rattle.run_model.proofs.Histories.{apply_is, first_state}
use Rattle.run_model.proofs.Words.{word_again}
use Rattle.run_model.proofs.Worlds.{apply_valid, first_valid}

-- what holds of a thread after these entries: where it waits, one of them made the call
abbrev Called : List Entry → ℕ → ℕ → Option Thread → Type 0
Called history p t None = ⊤
Called history p t (Some Runnable) = ⊤
Called history p t (Some (Waits call since until stage)) = WasCalled history p t call since

-- one more entry leaves it so
called_more : (history : List Entry) (e : Entry) (p t : ℕ) (o : Option Thread) → Called history p t o → Called (history ++ e ∷ []) p t o
called_more history e p t None was = tt
called_more history e p t (Some Runnable) was = tt
called_more history e p t (Some (Waits call since until stage)) was = record {
  front = was.front;
  e = was.e;
  rest = was.rest ++ e ∷ [];
  asked = was.asked;
  writes = was.writes;
  there = ap (λ h. h ++ e ∷ []) was.there ∙ append_assoc was.front (was.e ∷ was.rest) (e ∷ []);
  process = was.process;
  thread = was.thread;
  made = was.made;
  same = was.same;
  moment = was.moment;
  memory = was.memory;
  registers = was.registers;
  encoded = was.encoded;
}

-- nor does it matter that the thread is given its lock, or is signalled
called_still : (history : List Entry) (p t : ℕ) (before after : Option Thread) → IsMoved before after → Called history p t before → Called history p t after
called_still history p t before after (stays thread) was = was
called_still history p t before after (is_given lock Runnable waits) was = tt
called_still history p t before after (is_given lock (Waits call since until stage) waits) was = was
called_still history p t before after (is_signalled condvar Runnable sleeps) was = tt
called_still history p t before after (is_signalled condvar (Waits call since until stage) sleeps) was = was

-- or that it waits on with another word of its lock
called_on : (history : List Entry) (p t : ℕ) (call : Call) (since : ℕ) (given : WakeIn) → WasCalled history p t call since
    → WasCalled history p t (woken call given) since
called_on history p t call since (wake.Plain word) was = record {
  front = was.front;
  e = was.e;
  rest = was.rest;
  asked = was.asked;
  writes = was.writes;
  there = was.there;
  process = was.process;
  thread = was.thread;
  made = was.made;
  same = was.same ∙ sym (word_again 0 word call);
  moment = was.moment;
  memory = was.memory;
  registers = was.registers;
  encoded = was.encoded;
}
called_on history p t call since wake.Fault was = was

pub parked_is : (given : Answer) → is_parked given ≡ true → (writes : WordWrites) × (given ≡ answer.Parked writes)
parked_is (answer.Parked writes) parked = (writes, refl)
parked_is (answer.Reply reply) parked = absurd (not_true parked)

-- a call is made by a thread that runs, so at the moment of its entry
runs_since : (S : State) (e : Entry) → thread_of S e.pid e.tid ≡ Some Runnable → (who_of S e).since ≡ S.clock + 1000
runs_since S e runs = ap (made_since (S.clock + 1000)) runs

entry_called : (w : World) (history : List Entry) (e : Entry) (a : Act) → e.act ≡ a → Fits w e → IsValid w.state
    → FitsAct w.constants w.state (who_of w.state e) (guest_of w e.pid) e.turns a
    → ((p t : ℕ) → Called history p t (thread_of w.state p t))
    → (p t : ℕ) → Called (history ++ e ∷ []) p t (thread_of (acted (turned w e.pid e.turns) (who_of w.state e) a).state p t)
entry_called w history e (act.Call call given) is entry valid fits before =
    let who : Who = who_of w.state e in
    let T = called_state w.constants w.state who call given in
    step_each (Called (history ++ e ∷ [])) (λ p t. tt) (λ p t. tt) (called_still (history ++ e ∷ [])) w.constants w.state who call given T fits.1
    (step_keeps_valid w.constants w.state who call given T fits.1 valid)
    (λ parked. (
    let writes = parked_is given parked in record {
      front = history;
      e = e;
      rest = [];
      asked = call;
      writes = writes.0;
      there = refl;
      process = refl;
      thread = refl;
      made = is ∙ ap (act.Call call) writes.1;
      same = refl;
      moment = entry.moment ∙ ap (λ (v : World). v.state.clock) (apply_is w e)
          ∙ ap (λ x. (acted (turned w e.pid e.turns) who x).state.clock) is
          ∙ (step_moves_only w.constants w.state who call given T fits.1).clock ∙ sym (runs_since w.state e fits.0.0.3.0);
      memory = (turned_guest_by e.turns (guest_of w e.pid)).memory;
      registers = registers_of (turned_guest_by e.turns (guest_of w e.pid)) e.tid;
      encoded = ((turned_guest_by e.turns (guest_of w e.pid)).left, fits.0.1);
    }))
    (λ p t. called_more history e p t (thread_of w.state p t) (before p t))
entry_called w history e (act.Wake call given answered) is entry valid fits before =
    wake_each (Called (history ++ e ∷ [])) (λ p t. tt) (λ p t. tt) (called_still (history ++ e ∷ [])) w.constants w.state (who_of w.state e) call given answered
    (woken_state w.constants w.state (who_of w.state e) call given answered) fits.1.1 valid
    (λ parked. called_on (history ++ e ∷ []) e.pid e.tid call (who_of w.state e).since given
    (subst (Called (history ++ e ∷ []) e.pid e.tid) fits.0.1.3
    (called_more history e e.pid e.tid (thread_of w.state e.pid e.tid) (before e.pid e.tid))))
    (λ p t. called_more history e p t (thread_of w.state p t) (before p t))
entry_called w history e (act.Trap signal) is entry valid fits before =
    end_each (Called (history ++ e ∷ [])) (λ p t. tt) w.state e.pid (Killed signal) (killed_is_not_live signal) valid
    (λ p t. called_more history e p t (thread_of w.state p t) (before p t))
entry_called w history e act.Expire is entry valid fits before =
    end_each (Called (history ++ e ∷ [])) (λ p t. tt) w.state e.pid (Killed Xcpu) (killed_is_not_live Xcpu) valid
    (λ p t. called_more history e p t (thread_of w.state p t) (before p t))
entry_called w history e act.Idle is entry valid fits before = λ p t. called_more history e p t (thread_of w.state p t) (before p t)

-- each thread after these entries
abbrev AllCalled : World → List Entry → Type 0
AllCalled w history = (p t : ℕ) → Called history p t (thread_of w.state p t)

follows_called : (w : World) (front rest : List Entry) → IsValid w.state → FollowsFrom w rest → AllCalled w front → AllCalled (apply_all w rest) (front ++ rest)
unfolding FollowsFrom apply_all
follows_called w front [] valid follows before = subst (AllCalled w) (sym (append-nil front)) before
follows_called w front (e ∷ rest) valid follows before =
    let here : AllCalled (apply w e) (front ++ e ∷ []) =
    subst (λ (v : World). AllCalled v (front ++ e ∷ [])) (sym (apply_is w e)) (entry_called w front e e.act refl follows.0 valid follows.0.act before) in
    subst (AllCalled (apply_all (apply w e) rest)) (append_assoc front (e ∷ []) rest)
    (follows_called (apply w e) (front ++ e ∷ []) rest (apply_valid w e follows.0 valid) follows.1 here)

start_called : (launch : Launch) → AllCalled (start_world launch) []
start_called launch p t =
    subst (λ (S : State). Called [] p t (thread_of S p t)) (sym (first_state launch)) (elim (start_runs launch.tree launch.grants launch.stdin p t) [
      | inl none ↦ subst (Called [] p t) (sym none) tt
      | inr runs ↦ subst (Called [] p t) (sym runs) tt
    ])

pub waits_were_called : (launch : Launch) (history : List Entry) (p t : ℕ) (call : Call) (since : ℕ) (until : Option ℕ) (stage : Stage)
    → MayBegin launch.tree launch.grants → Legal launch history → thread_of (world launch history).state p t ≡ Some (Waits call since until stage)
    → WasCalled history p t call since
unfolding Legal world
waits_were_called launch history p t call since until stage begins legal there =
    subst (Called history p t) there (follows_called (start_world launch) [] history (first_valid launch begins) legal (start_called launch) p t)
