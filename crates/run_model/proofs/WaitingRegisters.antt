-- Each thread that waits has still the registers by which it encoded its call.
--     whole_keeps      whole turns leave them
--     waits_are_encoded      so they are in each legal world
--     may_can      a call in which a thread may wait is one in which the codec lets it
use Rattle.std.proofs.Common.{◌≡◌, ◌≢◌, ◌⊎◌, ℕ, ◌+◌, Bool, true, false, List, [], ◌∷◌, ◌++◌, Option, None, Some, inl, inr, refl, sym, ap, subst, ◌∙◌}
use Rattle.std.specs.Prelude.{⊤, if◌then◌else◌}
use Rattle.std.proofs.lemmas.Bool.Decides.{eqb_tells}
use Rattle.std.specs.Option.{option_map}
use Rattle.std.specs.FinMap.{insert}
use Rattle.abi_base.specs.declared.signal.Signal.TheVariants.{Xcpu}
use Rattle.abi_types.specs.declared.call.Call.{Call}
use Rattle.abi_types.specs.declared.call.Call.TheVariants as call
use Rattle.abi_types.specs.declared.call.Call.TheVariants.{ProcExec, ProcFork}
use Rattle.abi_types.specs.declared.reply.Answer.TheVariants as answer
use Rattle.abi_types.specs.declared.reply.WordWrites.{WordWrites}
use Rattle.abi_types.specs.Families.{is_anonymous}
use Rattle.abi_types.specs.declared.reply.Answer.{Answer}
use Rattle.abi_types.specs.declared.status.Status.TheVariants.{Killed}
use Rattle.abi_types.specs.declared.thread.Stage.{Stage}
use Rattle.abi_types.specs.declared.thread.Thread.{Thread}
use Rattle.abi_types.specs.declared.thread.Thread.TheVariants.{Runnable, Waits}
use Rattle.abi_types.specs.declared.wake.WakeIn.{WakeIn}
use Rattle.abi_types.specs.declared.wake.WakeIn.TheVariants as wake
use Rattle.abi_types.specs.declared.who.Who.{Who}
use Rattle.run_types.specs.declared.history.Act.{Act}
use Rattle.run_types.specs.declared.history.Act.TheVariants as act
use Rattle.run_types.specs.declared.history.Entry.{Entry}
use Rattle.run_types.specs.declared.launch.Launch.{Launch}
use Rattle.abi_base.specs.Registers.{Registers}
use Rattle.guest_memory.specs.Page.{Pages}
use Rattle.tree_model.specs.Grants.{MayBegin}
use Rattle.kernel_model.specs.Families.FileMeaning.{on_open}
use Rattle.kernel_model.specs.Families.MemoryCalls.{map_row, map_zeros, mapping}
use Rattle.kernel_model.specs.Meaning.{Meaning}
use Rattle.kernel_model.specs.State.{ProcessState, State, thread_in, thread_of}
use Rattle.kernel_model.specs.Threads.{child_told, ends_caller, ends_others, first_result, is_success, makes_thread, IsMoved}
use Rattle.kernel_model.specs.Threads as moved
use Rattle.kernel_model.specs.Step.{IsStep}
use Rattle.kernel_model.specs.Waits.{deadline_at, may_wait, stage_after, IsParked}
use Rattle.kernel_model.specs.Wakes.{woken, HasThread}
use Rattle.kernel_model.proofs.Tests.{none_is_no, not_true}
use Rattle.kernel_model.specs.Valid.{IsValid}
use Rattle.kernel_model.proofs.Starts.{start_runs}
use Rattle.kernel_model.proofs.Steps.{fork_tells_child, step_keeps_valid, step_moves_only}
use Rattle.kernel_model.proofs.ThreadLaws.{create_number}
use Rattle.kernel_model.proofs.Waking.{end_each, step_each, wake_each, wake_keeps}
use Rattle.maps.specs.Maps.{get-insert-same, get-insert-other}
use Rattle.rv_interp.specs.declared.turns.TurnEnd.{TurnEnd}
use Rattle.call_codec.specs.Arguments.{args_of, Encodes}
use Rattle.call_codec.specs.Given.{CanWait}
use Rattle.call_codec.specs.Put.{answered_of}
use Rattle.run_model.specs.Laws.{IsOfCall}
use Rattle.run_model.specs.Legal.{AreWhole, Asks, FitsAct, FollowsFrom, IsRunnable, LastEnds, Legal}
use Rattle.run_model.specs.World.{World, Guest, acted, answered_guest, apply, apply_all, begun_guest, called_guest, child_guest, less_share, called_state, guest_of, or_no_guest, or_no_registers, registers_of, start_world, thread_turn, turned, turned_guest, turned_guest_by, who_of, with_guest, woken_state, world}
use Rattle.run_model.proofs.BornParts.{is_child_of}
use Rattle.run_model.proofs.Ends.{killed_is_not_live}
use Rattle.run_model.proofs.Histories.{apply_is, first_state, guest_set, guest_turned}
use Rattle.run_model.proofs.Registers.{call_guest}
use Rattle.run_model.proofs.Running.{none_while_live}
use Rattle.run_model.proofs.ThreadRegisters.{called_kept, parked_ends, parked_makes}
use Rattle.run_model.proofs.Waited.{parked_is}
use Rattle.run_model.proofs.Wakes.{woken_caller}
use Rattle.run_model.proofs.Words.{word_again}
use Rattle.run_model.proofs.Worlds.{apply_valid, beside_child, first_valid}

abbrev DoesWait : Option Thread → Type 0
DoesWait None = ⊥
DoesWait (Some Runnable) = ⊥
DoesWait (Some (Waits call since until stage)) = ⊤

-- where the thread waits, its registers encode the call that it made with some memory
abbrev IsEncoded : Guest → ℕ → Option Thread → Type 0
IsEncoded guest t None = ⊤
IsEncoded guest t (Some Runnable) = ⊤
IsEncoded guest t (Some (Waits call since until stage)) = (m : Pages) × (asked : Call) × Encodes m (registers_of guest t) asked × IsOfCall asked call

runs_not_waits : (o : Option Thread) → o ≡ Some Runnable → DoesWait o → ⊥
runs_not_waits o runs waits = subst DoesWait runs waits

none_not_waits : (o : Option Thread) → o ≡ None → DoesWait o → ⊥
none_not_waits o none waits = subst DoesWait none waits

-- it is so as long as the thread has the same registers
same_encoded : (guest after : Guest) (t : ℕ) (o : Option Thread) → (DoesWait o → registers_of after t ≡ registers_of guest t) → IsEncoded guest t o
    → IsEncoded after t o
same_encoded guest after t None same encoded = tt
same_encoded guest after t (Some Runnable) same encoded = tt
same_encoded guest after t (Some (Waits call since until stage)) same encoded =
    let before = encoded.2 in
    (encoded.0, encoded.1, (before.0, before.1 ∙ ap (λ (r : Registers). args_of encoded.0 r before.0) (sym (same tt))), encoded.3)

-- and as long as it waits in the same call, whether it was given its lock or was signalled
still_encoded : (guest : Guest) (t : ℕ) (before after : Option Thread) → IsMoved before after → IsEncoded guest t before → IsEncoded guest t after
still_encoded guest t before after (moved.stays thread) encoded = encoded
still_encoded guest t before after (moved.is_given lock Runnable waits) encoded = tt
still_encoded guest t before after (moved.is_given lock (Waits call since until stage) waits) encoded = encoded
still_encoded guest t before after (moved.is_signalled condvar Runnable sleeps) encoded = tt
still_encoded guest t before after (moved.is_signalled condvar (Waits call since until stage) sleeps) encoded = encoded

-- or in the call with another word of its lock
on_encoded : (guest : Guest) (t : ℕ) (call : Call) (given : WakeIn) (since : ℕ) (until later : Option ℕ) (stage next : Stage)
    → IsEncoded guest t (Some (Waits call since until stage)) → IsEncoded guest t (Some (Waits (woken call given) since later next))
on_encoded guest t call (wake.Plain word) since until later stage next encoded =
    (encoded.0, encoded.1, encoded.2, encoded.3 ∙ sym (word_again 0 word call))
on_encoded guest t call wake.Fault since until later stage next encoded = encoded

-- a thread that runs, or is no more, encodes none
awake_encoded : (guest : Guest) (t : ℕ) (o : Option Thread) → (o ≡ None) ⊎ (o ≡ Some Runnable) → IsEncoded guest t o
awake_encoded guest t o (inl none) = subst (IsEncoded guest t) (sym none) tt
awake_encoded guest t o (inr runs) = subst (IsEncoded guest t) (sym runs) tt

-- ---- turns

-- each of these turns is of a thread that runs
abbrev AreOfRunning : State → ℕ → List ℕ → Type 0
AreOfRunning S p [] = Unit {0}
AreOfRunning S p (t ∷ ts) = IsRunnable S p t × AreOfRunning S p ts

whole_run : (S : State) (p : ℕ) (guest : Guest) (ts : List ℕ) → AreWhole S p guest ts → AreOfRunning S p ts
whole_run S p guest [] whole = tt
whole_run S p guest (t ∷ ts) whole = (whole.0.0, whole_run S p (turned_guest guest t) ts whole.2)

run_more : (S : State) (p : ℕ) (ts : List ℕ) (t : ℕ) → AreOfRunning S p ts → IsRunnable S p t → AreOfRunning S p (ts ++ t ∷ [])
run_more S p [] t run last = (last, tt)
run_more S p (u ∷ ts) t run last = (run.0, run_more S p ts t run.1 last)

last_run : (S : State) (p : ℕ) (guest : Guest) (ts : List ℕ) (t : ℕ) (end : TurnEnd) → LastEnds S p guest ts t end → AreOfRunning S p ts
last_run S p guest ts t end last =
    subst (AreOfRunning S p) (sym last.1) (run_more S p last.0 t (whole_run S p guest last.0 last.2) last.3.0)

asks_run : (S : State) (who : Who) (guest : Guest) (ts : List ℕ) (a : Act) → Asks S who guest ts a → AreOfRunning S who.pid ts
asks_run S who guest ts (act.Call call given) asks = last_run S who.pid guest ts who.tid _ asks.0
asks_run S who guest ts (act.Wake call given answered) asks = whole_run S who.pid guest ts asks.0
asks_run S who guest ts (act.Trap signal) asks = last_run S who.pid guest ts who.tid _ asks
asks_run S who guest ts act.Expire asks = whole_run S who.pid guest ts asks.0
asks_run S who guest ts act.Idle asks = subst (AreOfRunning S who.pid) (sym asks.2) tt

-- they leave the registers of a thread that waits
turns_keep : (S : State) (p : ℕ) (ts : List ℕ) (guest : Guest) (t : ℕ) → AreOfRunning S p ts → DoesWait (thread_of S p t)
    → registers_of (turned_guest_by ts guest) t ≡ registers_of guest t
turns_keep S p [] guest t run waits = refl
turns_keep S p (u ∷ ts) guest t run waits =
    turns_keep S p ts (turned_guest guest u) t run.1 waits
    ∙ ap or_no_registers (get-insert-other guest.regs u (thread_turn guest u).regs t
    (λ same. runs_not_waits (thread_of S p t) (subst (IsRunnable S p) (sym same) run.0) waits))

parked_waits : (thread : Thread) → IsParked thread → DoesWait (Some thread)
parked_waits Runnable parked = parked
parked_waits (Waits call since until stage) parked = tt

pub whole_keeps : (S : State) (p : ℕ) (guest : Guest) (ts : List ℕ) (t : ℕ) (thread : Thread) → AreWhole S p guest ts → HasThread S p t thread → IsParked thread
    → registers_of (turned_guest_by ts guest) t ≡ registers_of guest t
whole_keeps S p guest ts t thread whole there parked =
    turns_keep S p ts guest t (whole_run S p guest ts whole) (subst DoesWait (sym there) (parked_waits thread parked))

module _ (w : World) (who : Who) (ts : List ℕ) (run : AreOfRunning w.state who.pid ts) where
  abbrev turned_world : World
  turned_world = turned w who.pid ts

  turned_keeps : (q t : ℕ) → DoesWait (thread_of w.state q t) → registers_of (guest_of turned_world q) t ≡ registers_of (guest_of w q) t
  turned_keeps q t waits =
      elim (eqb_tells q who.pid) [
        | inl is ↦ subst (λ k. DoesWait (thread_of w.state k t) → registers_of (guest_of turned_world k) t ≡ registers_of (guest_of w k) t) (sym is.1)
            (λ here. ap (λ (g : Guest). registers_of g t) (guest_turned w who.pid ts) ∙ turns_keep w.state who.pid ts (guest_of w who.pid) t run here) waits
        | inr other ↦ ap (λ o. registers_of (or_no_guest o) t) (get-insert-other w.guests who.pid (turned_guest_by ts (guest_of w who.pid)) q other.1)
      ]

  -- so does the answer to another thread's call
  module _ (call : Call) (given : Answer) where
    abbrev answered : Guest
    answered = called_guest (guest_of turned_world who.pid) who.tid call given

    called_keeps : (q t : ℕ) → DoesWait (thread_of w.state q t) → (q ≡ who.pid → t ≢ who.tid)
        → (q ≡ who.pid → makes_thread call given ≡ true → t ≢ first_result given)
        → registers_of (guest_of (with_guest turned_world who.pid answered) q) t ≡ registers_of (guest_of w q) t
    called_keeps q t waits apart old =
        elim (eqb_tells q who.pid) [
          | inl is ↦ (ap (λ k. registers_of (guest_of (with_guest turned_world who.pid answered) k) t) is.1
              ∙ ap (λ (g : Guest). registers_of g t) (guest_set turned_world who.pid answered)
              ∙ ap or_no_registers (called_kept (insert (guest_of turned_world who.pid).regs who.tid
              (answered_of (registers_of (guest_of turned_world who.pid) who.tid) call given)) who.tid call given t
              (λ same. absurd (apart is.1 same)) (old is.1))
              ∙ ap or_no_registers (get-insert-other (guest_of turned_world who.pid).regs who.tid
              (answered_of (registers_of (guest_of turned_world who.pid) who.tid) call given) t (apart is.1))
              ∙ ap (λ k. registers_of (guest_of turned_world k) t) (sym is.1)
              ∙ turned_keeps q t waits)
          | inr other ↦ ap (λ o. registers_of (or_no_guest o) t) (get-insert-other turned_world.guests who.pid answered q other.1) ∙ turned_keeps q t waits
        ]

    -- the thread's own registers after it, where it goes on
    own_registers : ends_caller call given ≡ false → makes_thread call given ≡ false
        → registers_of (guest_of (with_guest turned_world who.pid answered) who.pid) who.tid
        ≡ answered_of (registers_of (turned_guest_by ts (guest_of w who.pid)) who.tid) call given
    own_registers lasts makes =
        ap (λ (g : Guest). registers_of g who.tid) (guest_set turned_world who.pid answered)
        ∙ ap or_no_registers (called_kept (insert (guest_of turned_world who.pid).regs who.tid
        (answered_of (registers_of (guest_of turned_world who.pid) who.tid) call given)) who.tid call given who.tid (λ _. lasts)
        (λ does. absurd (not_true (sym makes ∙ does))))
        ∙ ap or_no_registers (get-insert-same (guest_of turned_world who.pid).regs who.tid
        (answered_of (registers_of (guest_of turned_world who.pid) who.tid) call given))
        ∙ ap (λ (g : Guest). answered_of (registers_of g who.tid) call given) (guest_turned w who.pid ts)

-- ---- calls

-- an answer leaves what the registers of another thread are, unless another program begins
share_registers : (child : Option ℕ) (guest : Guest) (t : ℕ) → registers_of (less_share child guest) t ≡ registers_of guest t
share_registers None guest t = refl
share_registers (Some child) guest t = refl

no_program : (b : Bool) (first second : Guest) (t : ℕ) → b ≡ false → registers_of (if b then first else second) t ≡ registers_of second t
no_program true first second t is = absurd (not_true (sym is))
no_program false first second t is = refl

answered_same : (p : ℕ) (guest : Guest) (tid : ℕ) (call : Call) (given : Answer) (t : ℕ) → ends_others call given ≡ false
    → registers_of (answered_guest p guest tid call given) t ≡ registers_of (called_guest guest tid call given) t
answered_same p guest tid (ProcExec fd bytes fds) (answer.Parked writes) t stays = refl
answered_same p guest tid (ProcExec fd bytes fds) (answer.Reply reply) t stays =
    no_program (is_success reply.errno) (begun_guest guest p tid bytes reply.payload) (called_guest guest tid (ProcExec fd bytes fds) (answer.Reply reply)) t stays
answered_same p guest tid (ProcFork left) given t stays =
    share_registers (child_told (ProcFork left) given) (called_guest guest tid (ProcFork left) given) t
answered_same p guest tid call given t stays = refl

parked_stays : (call : Call) (writes : WordWrites) → ends_others call (answer.Parked writes) ≡ false
parked_stays (ProcExec fd bytes fds) writes = refl
parked_stays _ writes = refl

parked_tells : (call : Call) (writes : WordWrites) → child_told call (answer.Parked writes) ≡ None
parked_tells (ProcFork left) writes = refl
parked_tells _ writes = refl

module _ (w : World) (who : Who) (ts : List ℕ) (run : AreOfRunning w.state who.pid ts) (call : Call) (given : Answer) where
  abbrev after : World
  after = acted (turned w who.pid ts) who (act.Call call given)

  here_after : child_told call given ≢ Some who.pid → ends_others call given ≡ false → (t : ℕ)
      → registers_of (guest_of after who.pid) t
      ≡ registers_of (guest_of (with_guest (turned w who.pid ts) who.pid (called_guest (guest_of (turned w who.pid ts) who.pid) who.tid call given)) who.pid) t
  here_after unborn stays t =
      let before = guest_of (turned w who.pid ts) who.pid in
      ap (λ (g : Guest). registers_of g t) (call_guest (turned w who.pid ts) who call given unborn)
      ∙ answered_same who.pid before who.tid call given t stays
      ∙ sym (ap (λ (g : Guest). registers_of g t) (guest_set (turned w who.pid ts) who.pid (called_guest before who.tid call given)))

  answered_keeps : (q t : ℕ) → DoesWait (thread_of w.state q t) → child_told call given ≢ Some q → (q ≡ who.pid → t ≢ who.tid)
      → (q ≡ who.pid → makes_thread call given ≡ true → t ≢ first_result given) → (q ≡ who.pid → ends_others call given ≡ false)
      → registers_of (guest_of after q) t ≡ registers_of (guest_of w q) t
  answered_keeps q t waits unborn apart old stays =
      elim (eqb_tells q who.pid) [
        | inl is ↦ ap (λ k. registers_of (guest_of after k) t) is.1
            ∙ here_after (λ told. unborn (told ∙ ap Some (sym is.1))) (stays is.1) t
            ∙ ap (λ k. registers_of (guest_of (with_guest (turned w who.pid ts) who.pid
            (called_guest (guest_of (turned w who.pid ts) who.pid) who.tid call given)) k) t) (sym is.1)
            ∙ called_keeps w who ts run call given q t waits apart old
        | inr other ↦ ap (λ o. registers_of (or_no_guest o) t)
            (beside_child (child_told call given) (child_guest (guest_of (turned w who.pid ts) who.pid) who.tid)
            (insert (turned w who.pid ts).guests who.pid (answered_guest who.pid (guest_of (turned w who.pid ts) who.pid) who.tid call given)) q unborn
            ∙ get-insert-other (turned w who.pid ts).guests who.pid
            (answered_guest who.pid (guest_of (turned w who.pid ts) who.pid) who.tid call given) q other.1)
            ∙ turned_keeps w who ts run q t waits
      ]

-- ---- entries

abbrev AllEncoded : World → Type 0
AllEncoded w = (p t : ℕ) → IsEncoded (guest_of w p) t (thread_of w.state p t)

-- a wake leaves each other thread that waits so
wake_others : (w : World) (who : Who) (ts : List ℕ) → AreOfRunning w.state who.pid ts → (call : Call) (given : WakeIn) (answered : Answer) → IsValid w.state
    → FitsAct w.constants w.state who (guest_of w who.pid) ts (act.Wake call given answered) → AllEncoded w
    → (q t : ℕ) → (q ≡ who.pid → t ≢ who.tid)
    → IsEncoded (guest_of (acted (turned w who.pid ts) who (act.Wake call given answered)) q) t
    (thread_of (woken_state w.constants w.state who call given answered) q t)
wake_others w who ts run call given answered valid fits before q t apart =
    let v : World = acted (turned w who.pid ts) who (act.Wake call given answered) in
    wake_each (λ q t o. (q ≡ who.pid → t ≢ who.tid) → IsEncoded (guest_of v q) t o) (λ q t _. tt) (λ q t _. tt)
    (λ q t before after moves was apart. still_encoded (guest_of v q) t before after moves (was apart)) w.constants w.state who call given answered
    (woken_state w.constants w.state who call given answered) fits.1.1 valid (λ _ apart. absurd (apart refl refl))
    (λ q t apart. same_encoded (guest_of w q) (guest_of v q) t (thread_of w.state q t)
    (λ waits. called_keeps w who ts run call answered q t waits apart
    (λ _ makes. absurd (not_true (sym (wake_keeps w.state who call answered valid fits.0.1).2 ∙ makes)))) (before q t))
    q t apart

-- A thread that waits on after its own wake has its registers still, since its answer is that it waits.
woken_encoded : (w : World) (who : Who) (ts : List ℕ) → AreOfRunning w.state who.pid ts → (call : Call) (given : WakeIn) (answered : Answer) → IsValid w.state
    → FitsAct w.constants w.state who (guest_of w who.pid) ts (act.Wake call given answered) → AllEncoded w
    → IsEncoded (guest_of (acted (turned w who.pid ts) who (act.Wake call given answered)) who.pid) who.tid
    (thread_of (woken_state w.constants w.state who call given answered) who.pid who.tid)
woken_encoded w who ts run call given answered valid fits before =
    let v : World = acted (turned w who.pid ts) who (act.Wake call given answered) in
    let T = woken_state w.constants w.state who call given answered in
    let there = fits.0.1 in
    elim (woken_caller w.constants w.state who call given answered T valid there fits.1.1) [
      | inl awake ↦ awake_encoded (guest_of v who.pid) who.tid (thread_of T who.pid who.tid) awake
      | inr on ↦ (
          let writes = parked_is answered on.0 in
          let keeps = wake_keeps w.state who call answered valid there in
          let waits : DoesWait (thread_of w.state who.pid who.tid) = subst DoesWait (sym there.3) tt in
          let same : registers_of (guest_of v who.pid) who.tid ≡ registers_of (guest_of w who.pid) who.tid =
          own_registers w who ts run call answered keeps.0 keeps.2
          ∙ ap (answered_of (registers_of (turned_guest_by ts (guest_of w who.pid)) who.tid) call) writes.1
          ∙ turns_keep w.state who.pid ts (guest_of w who.pid) who.tid run waits in
          let was : IsEncoded (guest_of v who.pid) who.tid (Some (Waits call who.since there.0 there.1)) =
          subst (IsEncoded (guest_of v who.pid) who.tid) there.3
          (same_encoded (guest_of w who.pid) (guest_of v who.pid) who.tid (thread_of w.state who.pid who.tid) (λ _. same) (before who.pid who.tid)) in
          subst (IsEncoded (guest_of v who.pid) who.tid) (sym on.1)
          (on_encoded (guest_of v who.pid) who.tid call given who.since there.0
          (deadline_at w.constants (woken call given) who.since (stage_after (woken call given) who.stage (w.state.clock + 1000))) there.1
          (stage_after (woken call given) who.stage (w.state.clock + 1000)) was))
    ]

-- whether a thread's registers are the same after the call: it is that of the call, or another that goes on
abbrev Stays : Who → Call → Answer → ℕ → ℕ → Type 0
Stays who call given q t = q ≡ who.pid → t ≢ who.tid → ends_others call given ≡ false

-- a thread that doesn't go on is no more
stays_or_gone : (w : World) (who : Who) (ts : List ℕ) (call : Call) (given : Answer) → IsValid w.state
    → IsStep w.constants w.state who call given (called_state w.constants w.state who call given) → (q t : ℕ)
    → (Stays who call given q t → IsEncoded (guest_of (acted (turned w who.pid ts) who (act.Call call given)) q) t
    (thread_of (called_state w.constants w.state who call given) q t))
    → IsEncoded (guest_of (acted (turned w who.pid ts) who (act.Call call given)) q) t (thread_of (called_state w.constants w.state who call given) q t)
stays_or_gone w who ts call given valid step q t if_stays =
    let v : World = acted (turned w who.pid ts) who (act.Call call given) in
    let T = called_state w.constants w.state who call given in
    elim (ends_others call given) as (λ b. ends_others call given ≡ b → IsEncoded (guest_of v q) t (thread_of T q t)) [
      | false ↦ λ stay. if_stays (λ _ _. stay)
      | true ↦ λ clears. elim (eqb_tells q who.pid) [
        | inr other ↦ if_stays (λ is. absurd (other.1 is))
        | inl is ↦ elim (eqb_tells t who.tid) [
          | inl same ↦ if_stays (λ _ apart. absurd (apart same.1))
          | inr apart ↦ (
              let gone : thread_of T who.pid t ≡ None =
              none_while_live T who.pid t (step_keeps_valid w.constants w.state who call given T step valid)
              (λ live. ((step_moves_only w.constants w.state who call given T step).threads live).alone clears t apart.1) in
              subst (IsEncoded (guest_of v q) t) (sym (ap (λ k. thread_of T k t) is.1 ∙ gone)) tt)
        ]
      ]
    ] refl

acted_encoded : (w : World) (who : Who) (ts : List ℕ) (a : Act) → IsValid w.state → FitsAct w.constants w.state who (guest_of w who.pid) ts a → AllEncoded w
    → AllEncoded (acted (turned w who.pid ts) who a)
acted_encoded w who ts (act.Call call given) valid fits before =
    let run = asks_run w.state who (guest_of w who.pid) ts (act.Call call given) fits.0 in
    let v : World = acted (turned w who.pid ts) who (act.Call call given) in
    let T = called_state w.constants w.state who call given in
    let told = fork_tells_child w.constants w.state who call given T fits.1 in
    λ p u. stays_or_gone w who ts call given valid fits.1 p u
    (step_each (λ q t o. Stays who call given q t → IsEncoded (guest_of v q) t o) (λ q t _. tt) (λ q t _. tt)
    (λ q t before after moves was stays. still_encoded (guest_of v q) t before after moves (was stays)) w.constants w.state who call given T fits.1
    (step_keeps_valid w.constants w.state who call given T fits.1 valid)
    (λ parked _.
    let writes = parked_is given parked in
    let guest : Guest = turned_guest_by ts (guest_of w who.pid) in (
      guest.memory,
      call,
      (
        guest.left,
        fits.0.1 ∙ ap (λ (r : Registers). args_of guest.memory r guest.left)
            (sym (here_after w who ts run call given
            (λ is. none_is_no who.pid (sym (ap (child_told call) writes.1 ∙ parked_tells call writes.0) ∙ is))
            (ap (ends_others call) writes.1 ∙ parked_stays call writes.0) who.tid
            ∙ own_registers w who ts run call given (ap (ends_caller call) writes.1 ∙ parked_ends call writes.0)
            (ap (makes_thread call) writes.1 ∙ parked_makes call writes.0) ∙ ap (answered_of (registers_of guest who.tid) call) writes.1)),
      ),
      refl,
    ))
    (λ q t stays. same_encoded (guest_of w q) (guest_of v q) t (thread_of w.state q t)
    (λ waits. answered_keeps w who ts run call given q t waits
    (λ is. (
    let new = (is_child_of w.constants w.state who call given T q valid fits.1 (sym told ∙ is)).new in
    none_not_waits (thread_of w.state q t) (ap (λ o. thread_in (option_map (λ (own : ProcessState). own.threads) o) t) new) waits))
    (λ is same. runs_not_waits (thread_of w.state q t) ((λ i. thread_of w.state (is i) (same i)) ∙ fits.0.0.3.0) waits)
    (λ is makes new. (
    let number = create_number w.constants w.state who call given T fits.1 makes in
    none_not_waits (thread_of w.state q t) ((λ i. thread_of w.state (is i) ((new ∙ number.0) i)) ∙ number.1) waits))
    (λ is. stays is (λ same. runs_not_waits (thread_of w.state q t) ((λ i. thread_of w.state (is i) (same i)) ∙ fits.0.0.3.0) waits)))
    (before q t)) p u)
acted_encoded w who ts (act.Wake call given answered) valid fits before =
    let run = asks_run w.state who (guest_of w who.pid) ts (act.Wake call given answered) fits.0 in
    let v : World = acted (turned w who.pid ts) who (act.Wake call given answered) in
    let T = woken_state w.constants w.state who call given answered in
    λ p u. elim (eqb_tells p who.pid) [
      | inr other ↦ wake_others w who ts run call given answered valid fits before p u (λ is. absurd (other.1 is))
      | inl is ↦ elim (eqb_tells u who.tid) [
        | inr other ↦ wake_others w who ts run call given answered valid fits before p u (λ _. other.1)
        | inl same ↦ subst (λ (x : ℕ × ℕ). IsEncoded (guest_of v x.0) x.1 (thread_of T x.0 x.1)) (λ i. (sym is.1 i, sym same.1 i))
            (woken_encoded w who ts run call given answered valid fits before)
      ]
    ]
acted_encoded w who ts (act.Trap signal) valid fits before =
    let run = asks_run w.state who (guest_of w who.pid) ts (act.Trap signal) fits.0 in
    end_each (λ q t o. IsEncoded (guest_of (turned w who.pid ts) q) t o) (λ q t. tt) w.state who.pid (Killed signal) (killed_is_not_live signal) valid
    (λ q t. same_encoded (guest_of w q) (guest_of (turned w who.pid ts) q) t (thread_of w.state q t) (turned_keeps w who ts run q t) (before q t))
acted_encoded w who ts act.Expire valid fits before =
    let run = asks_run w.state who (guest_of w who.pid) ts act.Expire fits.0 in
    end_each (λ q t o. IsEncoded (guest_of (turned w who.pid ts) q) t o) (λ q t. tt) w.state who.pid (Killed Xcpu) (killed_is_not_live Xcpu) valid
    (λ q t. same_encoded (guest_of w q) (guest_of (turned w who.pid ts) q) t (thread_of w.state q t) (turned_keeps w who ts run q t) (before q t))
acted_encoded w who ts act.Idle valid fits before =
    let run = asks_run w.state who (guest_of w who.pid) ts act.Idle fits.0 in
    λ q t. same_encoded (guest_of w q) (guest_of (turned w who.pid ts) q) t (thread_of w.state q t) (turned_keeps w who ts run q t) (before q t)

follows_encoded : (w : World) (rest : List Entry) → IsValid w.state → FollowsFrom w rest → AllEncoded w → AllEncoded (apply_all w rest)
unfolding FollowsFrom apply_all
follows_encoded w [] valid follows before = before
follows_encoded w (e ∷ rest) valid follows before =
    let here : AllEncoded (apply w e) =
    subst AllEncoded (sym (apply_is w e)) (acted_encoded w (who_of w.state e) e.turns e.act valid follows.0.act before) in
    follows_encoded (apply w e) rest (apply_valid w e follows.0 valid) follows.1 here

start_encoded : (launch : Launch) → AllEncoded (start_world launch)
start_encoded launch p t =
    let w = start_world launch in
    subst (λ (S : State). IsEncoded (guest_of w p) t (thread_of S p t)) (sym (first_state launch)) (elim (start_runs launch.tree launch.grants launch.stdin p t) [
      | inl none ↦ subst (IsEncoded (guest_of w p) t) (sym none) tt
      | inr runs ↦ subst (IsEncoded (guest_of w p) t) (sym runs) tt
    ])

pub waits_are_encoded : (launch : Launch) (history : List Entry) (p t : ℕ) (call : Call) (since : ℕ) (until : Option ℕ) (stage : Stage)
    → MayBegin launch.tree launch.grants → Legal launch history → thread_of (world launch history).state p t ≡ Some (Waits call since until stage)
    → (m : Pages) × (asked : Call) × Encodes m (registers_of (guest_of (world launch history) p) t) asked × IsOfCall asked call
unfolding Legal world
waits_are_encoded launch history p t call since until stage begins legal there =
    subst (IsEncoded (guest_of (apply_all (start_world launch) history) p) t) there
    (follows_encoded (start_world launch) history (first_valid launch begins) legal (start_encoded launch) p t)

-- ---- the calls

map_never_waits : (zeros other : Meaning) (b : Bool) → zeros.may_wait ≡ false → other.may_wait ≡ false → (if b then zeros else other).may_wait ≡ false
map_never_waits zeros other true first second = first
map_never_waits zeros other false first second = second

pub may_can : (call : Call) → may_wait call ≡ true → CanWait call
may_can (call.Poll subscriptions) may = tt
may_can (call.FdRead fd size) may = tt
may_can (call.FdWrite fd bytes) may = tt
may_can (call.SockRecv fd size fds flags) may = tt
may_can (call.SockSend fd bytes fds flags) may = tt
may_can (call.MemMap place size prot flags fd offset) may =
    absurd (not_true (sym (map_never_waits (map_zeros place) (on_open (map_row fd prot) (mapping place size offset)) (is_anonymous flags) refl refl) ∙ may))
may_can _ may = absurd (not_true may)
