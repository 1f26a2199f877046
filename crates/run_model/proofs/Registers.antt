-- In the world of a legal history each thread of a live process has registers.
use Rattle.std.proofs.Common.{◌≡◌, ◌≢◌, ◌⊎◌, ℕ, Bool, true, false, List, [], ◌∷◌, Option, Some, None, IsSome, is_some, inl, inr, refl, sym, ap, subst, ◌∙◌}
use Rattle.std.proofs.lemmas.Bool.Decides.{eqb_tells}
use Rattle.std.specs.Ordering.{nat_cmp}
use Rattle.std.specs.FinMap.{FinMap, empty, get, get-empty, insert}
use Rattle.std.specs.Prelude.{if◌then◌else◌, Contains}
use Rattle.abi_base.specs.Registers.{Registers}
use Rattle.abi_types.specs.declared.reply.Answer.{Answer}
use Rattle.abi_types.specs.declared.reply.Answer.TheVariants as answer
use Rattle.abi_types.specs.declared.call.Call.{Call}
use Rattle.abi_types.specs.declared.call.Call.TheVariants.{ProcExec, ProcFork, ThreadCreate}
use Rattle.abi_types.specs.declared.reply.Payload.{Payload}
use Rattle.abi_types.specs.declared.reply.Payload.TheVariants.{Image}
use Rattle.abi_types.specs.declared.reply.Reply.{Reply}
use Rattle.abi_types.specs.declared.constants.Constants.{Constants}
use Rattle.abi_base.specs.declared.errno.Errno.TheVariants.{Fault}
use Rattle.abi_base.specs.declared.signal.Signal.TheVariants.{Xcpu}
use Rattle.abi_types.specs.declared.status.Status.TheVariants.{Live, Killed}
use Rattle.abi_types.specs.declared.thread.Thread.{Thread}
use Rattle.abi_types.specs.declared.thread.Thread.TheVariants.{Runnable}
use Rattle.abi_types.specs.declared.wake.WakeIn.{WakeIn}
use Rattle.abi_types.specs.declared.wake.WakeIn.TheVariants as wake
use Rattle.abi_types.specs.declared.who.Who.{Who}
use Rattle.run_types.specs.declared.history.Act.{Act}
use Rattle.run_types.specs.declared.history.Act.TheVariants as act
use Rattle.run_types.specs.declared.history.Entry.{Entry}
use Rattle.run_types.specs.declared.launch.Launch.{Launch}
use Rattle.kernel_model.specs.Reply.{refused}
use Rattle.kernel_model.specs.State.{State, thread_in, thread_of}
use Rattle.kernel_model.specs.Step.{IsStep}
use Rattle.kernel_model.specs.Valid.{IsValid}
use Rattle.kernel_model.proofs.Steps.{fork_tells_child, insert_some, step_moves_only}
use Rattle.kernel_model.proofs.Tests.{none_is_no, not_true}
use Rattle.kernel_model.proofs.ThreadLaws.{create_number}
use Rattle.kernel_model.proofs.Threading.{thread_still}
use Rattle.kernel_model.proofs.Waking.{fault_ends}
use Rattle.run_model.proofs.ThreadRegisters.{called_made}
use Rattle.kernel_model.specs.Threads.{child_told, ends_caller, ends_others, first_result, is_success, makes_thread}
use Rattle.kernel_model.specs.Waits.{resumed}
use Rattle.kernel_model.specs.Families.Locks.{with_word}
use Rattle.kernel_model.specs.Wakes.{IsWake}
use Rattle.kernel_model.proofs.WokenCalls.{same_by_word}
use Rattle.tree_model.specs.Grants.{MayBegin}
use Rattle.maps.specs.Maps.{get-insert-same, get-insert-other, get-remove-other}
use Rattle.call_codec.specs.Processes.{child_registers, restart_registers}
use Rattle.call_codec.specs.Put.{answered_of}
use Rattle.call_codec.specs.Start.{first_registers, thread_registers}
use Rattle.run_model.specs.Legal.{FitsAct, Fits, FollowsFrom, Legal}
use Rattle.run_model.specs.Own.{born, is_idle, IsLiveIn, IsLeft, is_born, is_ended, stays}
use Rattle.run_model.specs.World.{World, Guest, start_world, guest_of, registers_of, thread_turn, left_regs, made_regs, answered_guest, begun_guest, called_guest, child_guest, less_share, or_no_guest, called_state, woken_state, with_guest, turned_guest, turned_guest_by, turned, acted, who_of, apply, apply_all, world}
use Rattle.run_model.proofs.Calls.{ended_by}
use Rattle.run_model.proofs.Ends.{killed_is_not_live, start_only}
use Rattle.run_model.proofs.Histories.{apply_is, guest_set, guest_turned, first_guest_is, first_threads}
use Rattle.kernel_model.proofs.ForkLaws.{child_is_new}
use Rattle.run_model.proofs.Own.{born_runs, own_or_left, same_threads}
use Rattle.run_model.proofs.Worlds.{apply_valid, beside_child, born_guest, first_valid}

-- the guest has registers for the thread
abbrev HasRegisters : Guest → ℕ → Type 0
HasRegisters guest t = IsSome (get guest.regs t)

-- each thread of the process has registers, if the process is live
abbrev AllHaveRegisters : World → ℕ → Type 0
AllHaveRegisters w p = IsLiveIn w p → (t : ℕ) → IsSome (thread_of w.state p t) → HasRegisters (guest_of w p) t

-- ---- turns and calls keep registers

turned_registers : (ts : List ℕ) (guest : Guest) (t : ℕ) → HasRegisters guest t → HasRegisters (turned_guest_by ts guest) t
turned_registers [] guest t some = some
turned_registers (u ∷ ts) guest t some = turned_registers ts (turned_guest guest u) t (insert_some guest.regs u (thread_turn guest u).regs t some)

-- a call keeps those of a thread that was there, unless it ends it, and gives some to one that it makes
made_some : (regs : FinMap nat_cmp Registers) (call : Call) (given : Answer) (t : ℕ) → IsSome (get regs t) → IsSome (get (made_regs regs call given) t)
made_some regs (ThreadCreate attributes) (answer.Parked writes) t some = some
made_some regs (ThreadCreate attributes) (answer.Reply reply) t some =
    elim (is_success reply.errno) as (λ b. IsSome (get (if b then insert regs reply.r1 (thread_registers attributes reply.r1) else regs) t)) [
      | true ↦ insert_some regs reply.r1 (thread_registers attributes reply.r1) t some
      | false ↦ some
    ]
made_some regs _ given t some = some

left_some : (ends : Bool) (regs : FinMap nat_cmp Registers) (tid t : ℕ) → (t ≡ tid → ends ≡ false) → IsSome (get regs t) → IsSome (get (left_regs ends tid regs) t)
left_some true regs tid t lasts some =
    elim (eqb_tells t tid) [
      | inl is ↦ absurd (not_true (sym (lasts is.1)))
      | inr apart ↦ subst IsSome (sym (get-remove-other regs tid t apart.1)) some
    ]
left_some false regs tid t lasts some = some

called_registers : (guest : Guest) (tid : ℕ) (call : Call) (given : Answer) (t : ℕ) → (t ≡ tid → ends_caller call given ≡ false) → HasRegisters guest t
    → HasRegisters (called_guest guest tid call given) t
called_registers guest tid call given t lasts some =
    let own = insert guest.regs tid (answered_of (registers_of guest tid) call given) in
    left_some (ends_caller call given) (made_regs own call given) tid t lasts
    (made_some own call given t (insert_some guest.regs tid (answered_of (registers_of guest tid) call given) t some))

new_registers : (guest : Guest) (tid : ℕ) (call : Call) (given : Answer) → makes_thread call given ≡ true
    → HasRegisters (called_guest guest tid call given) (first_result given)
new_registers guest tid (ThreadCreate attributes) given makes =
    ap is_some (called_made (insert guest.regs tid (answered_of (registers_of guest tid) (ThreadCreate attributes) given)) tid attributes given makes)
new_registers guest tid _ given makes = absurd (not_true makes)

-- so it is where another program has begun, which leaves the thread of the call alone
begun_has : (guest : Guest) (p tid : ℕ) (bytes : List ℕ) (payload : Payload) → HasRegisters guest tid → HasRegisters (begun_guest guest p tid bytes payload) tid
begun_has guest p tid bytes (Image elf canary) some = ap is_some (get-insert-same empty tid (restart_registers elf))
begun_has guest p tid bytes payload some = some

begins_has : (guest : Guest) (p tid fd : ℕ) (bytes fds : List ℕ) (reply : Reply) (t : ℕ)
    → (t ≢ tid → ends_others (ProcExec fd bytes fds) (answer.Reply reply) ≡ false) → HasRegisters guest t
    → HasRegisters (answered_guest p guest tid (ProcExec fd bytes fds) (answer.Reply reply)) t
begins_has guest p tid fd bytes fds reply t goes some =
    let call = ProcExec fd bytes fds in
    elim (is_success reply.errno) as (λ b. is_success reply.errno ≡ b
    → HasRegisters (if b then begun_guest guest p tid bytes reply.payload else called_guest guest tid call (answer.Reply reply)) t) [
      | true ↦ λ done. (
          elim (eqb_tells t tid) [
            | inl is ↦ subst (HasRegisters (begun_guest guest p tid bytes reply.payload)) (sym is.1)
                (begun_has guest p tid bytes reply.payload (subst (HasRegisters guest) is.1 some))
            | inr apart ↦ absurd (not_true (sym (goes apart.1) ∙ done))
          ])
      | false ↦ λ _. called_registers guest tid call (answer.Reply reply) t (λ _. refl) some
    ] refl

-- and where a share of the turns is given to a child
share_has : (child : Option ℕ) (guest : Guest) (t : ℕ) → HasRegisters guest t → HasRegisters (less_share child guest) t
share_has None guest t some = some
share_has (Some child) guest t some = some

left_registers : (p : ℕ) (guest : Guest) (tid : ℕ) (call : Call) (given : Answer) (t : ℕ) → (t ≡ tid → ends_caller call given ≡ false)
    → (t ≢ tid → ends_others call given ≡ false) → HasRegisters guest t → HasRegisters (answered_guest p guest tid call given) t
left_registers p guest tid (ProcExec fd bytes fds) (answer.Parked writes) t lasts goes some =
    called_registers guest tid (ProcExec fd bytes fds) (answer.Parked writes) t lasts some
left_registers p guest tid (ProcExec fd bytes fds) (answer.Reply reply) t lasts goes some = begins_has guest p tid fd bytes fds reply t goes some
left_registers p guest tid (ProcFork left) given t lasts goes some =
    share_has (child_told (ProcFork left) given) (called_guest guest tid (ProcFork left) given) t
    (called_registers guest tid (ProcFork left) given t lasts some)
left_registers p guest tid call given t lasts goes some = called_registers guest tid call given t lasts some

begun_registers : (p : ℕ) (guest : Guest) (tid : ℕ) (call : Call) (given : Answer) → makes_thread call given ≡ true
    → HasRegisters (answered_guest p guest tid call given) (first_result given)
begun_registers p guest tid (ThreadCreate attributes) given makes = new_registers guest tid (ThreadCreate attributes) given makes
begun_registers p guest tid _ given makes = absurd (not_true makes)

some_or_none : {X : Type 0} (o : Option X) → IsSome o ⊎ (o ≡ None)
some_or_none None = inr refl
some_or_none (Some x) = inl refl

-- A thread that is there after a call of its process was there before, and not ended, or the call has made it.
abbrev WasThere : State → Who → Call → Answer → ℕ → Type 0
WasThere S who call given t =
    (IsSome (thread_of S who.pid t) × (t ≡ who.tid → ends_caller call given ≡ false) × (t ≢ who.tid → ends_others call given ≡ false))
    ⊎ ((makes_thread call given ≡ true) × (t ≡ first_result given))

lasts_if_there : (call : Call) (given : Answer) (o : Option Thread) → (ends_caller call given ≡ true → o ≡ None) → IsSome o → ends_caller call given ≡ false
lasts_if_there call given o gone there =
    elim (ends_caller call given) as (λ b. ends_caller call given ≡ b → ends_caller call given ≡ false) [
      | true ↦ λ ends. absurd (not_true (subst IsSome (gone ends) there))
      | false ↦ λ lasts. lasts
    ] refl

stays_if_there : (call : Call) (given : Answer) (o : Option Thread) → (ends_others call given ≡ true → o ≡ None) → IsSome o → ends_others call given ≡ false
stays_if_there call given o gone there =
    elim (ends_others call given) as (λ b. ends_others call given ≡ b → ends_others call given ≡ false) [
      | true ↦ λ clears. absurd (not_true (subst IsSome (gone clears) there))
      | false ↦ λ stay. stay
    ] refl

was_there : (constants : Constants) (S : State) (who : Who) (call : Call) (given : Answer) (T : State) (t : ℕ) → IsStep constants S who call given T
    → get T.statuses who.pid ≡ Some Live → IsSome (thread_of T who.pid t) → WasThere S who call given t
was_there constants S who call given T t step live here =
    let left = (step_moves_only constants S who call given T step).threads live in
    elim (some_or_none (thread_of S who.pid t)) [
      | inl there ↦ inl (
        there,
        λ is. lasts_if_there call given (thread_of T who.pid who.tid) left.ended (subst (λ u. IsSome (thread_of T who.pid u)) is here),
        λ apart. stays_if_there call given (thread_of T who.pid t) (λ clears. left.alone clears t apart) here,
      )
      | inr none ↦ (
          let made = left.made t none here in
          inr (made.0, made.1 ∙ sym (create_number constants S who call given T step made.0).0))
    ]

fault_stays : (call : Call) → ends_others call (answer.Reply (refused Fault)) ≡ false
fault_stays (ProcExec fd bytes fds) = refl
fault_stays _ = refl

-- the same of a wake, which is a step from where its thread runs, or is refused
was_woken : (constants : Constants) (S : State) (who : Who) (call : Call) (given : WakeIn) (answered : Answer) (T : State) (t : ℕ)
    → IsWake constants S who call given answered T → get T.statuses who.pid ≡ Some Live → IsSome (thread_of T who.pid t) → WasThere S who call answered t
was_woken constants S who call (wake.Plain word) answered T t is live here =
    let same = same_by_word word call answered in
    elim (was_there constants (resumed S who) who (with_word word call) answered T t is.0 live here) [
      | inl was ↦ inl (thread_still S who.pid who.tid Runnable who.pid t was.0, λ is. sym same.caller ∙ was.1 is, λ apart. sym same.others ∙ was.2 apart)
      | inr made ↦ inr (sym same.thread ∙ made.0, made.1)
    ]
was_woken constants S who call wake.Fault answered T t is live here =
    inl (
      thread_still S who.pid who.tid Runnable who.pid t (subst (λ (U : State). IsSome (thread_of U who.pid t)) is.1 here),
      λ _. ap (ends_caller call) is.0 ∙ fault_ends call,
      λ _. ap (ends_others call) is.0 ∙ fault_stays call,
    )

-- ---- entries

-- after turns and an answer to a call each thread that was there and each that it made has registers
answered_registers : (w : World) (who : Who) (ts : List ℕ) (call : Call) (given : Answer) (t : ℕ)
    → (IsSome (thread_of w.state who.pid t) → HasRegisters (guest_of w who.pid) t) → WasThere w.state who call given t
    → HasRegisters (guest_of (with_guest (turned w who.pid ts) who.pid (called_guest (guest_of (turned w who.pid ts) who.pid) who.tid call given)) who.pid) t
answered_registers w who ts call given t before (inr made) =
    subst (λ (g : Guest). HasRegisters g t)
    (sym (guest_set (turned w who.pid ts) who.pid (called_guest (guest_of (turned w who.pid ts) who.pid) who.tid call given)))
    (subst (HasRegisters (called_guest (guest_of (turned w who.pid ts) who.pid) who.tid call given)) (sym made.1)
    (new_registers (guest_of (turned w who.pid ts) who.pid) who.tid call given made.0))
answered_registers w who ts call given t before (inl was) =
    let some = before was.0 in
    let turned_has : HasRegisters (guest_of (turned w who.pid ts) who.pid) t =
    subst (λ (g : Guest). HasRegisters g t) (sym (guest_turned w who.pid ts)) (turned_registers ts (guest_of w who.pid) t some) in
    subst (λ (g : Guest). HasRegisters g t)
    (sym (guest_set (turned w who.pid ts) who.pid (called_guest (guest_of (turned w who.pid ts) who.pid) who.tid call given)))
    (called_registers (guest_of (turned w who.pid ts) who.pid) who.tid call given t was.1 turned_has)

-- the guest of a process after its call, which is not the child of it
pub call_guest : (w : World) (who : Who) (call : Call) (given : Answer) → child_told call given ≢ Some who.pid
    → guest_of (acted w who (act.Call call given)) who.pid ≡ answered_guest who.pid (guest_of w who.pid) who.tid call given
call_guest w who call given other =
    ap or_no_guest
    (beside_child (child_told call given) (child_guest (guest_of w who.pid) who.tid)
    (insert w.guests who.pid (answered_guest who.pid (guest_of w who.pid) who.tid call given)) who.pid other
    ∙ get-insert-same w.guests who.pid (answered_guest who.pid (guest_of w who.pid) who.tid call given))

call_registers : (w : World) (who : Who) (ts : List ℕ) (call : Call) (given : Answer) (t : ℕ)
    → (IsSome (thread_of w.state who.pid t) → HasRegisters (guest_of w who.pid) t) → WasThere w.state who call given t
    → HasRegisters (answered_guest who.pid (guest_of (turned w who.pid ts) who.pid) who.tid call given) t
call_registers w who ts call given t before (inr made) =
    subst (HasRegisters (answered_guest who.pid (guest_of (turned w who.pid ts) who.pid) who.tid call given)) (sym made.1)
    (begun_registers who.pid (guest_of (turned w who.pid ts) who.pid) who.tid call given made.0)
call_registers w who ts call given t before (inl was) =
    let turned_has : HasRegisters (guest_of (turned w who.pid ts) who.pid) t =
    subst (λ (g : Guest). HasRegisters g t) (sym (guest_turned w who.pid ts)) (turned_registers ts (guest_of w who.pid) t (before was.0)) in
    left_registers who.pid (guest_of (turned w who.pid ts) who.pid) who.tid call given t was.1 was.2 turned_has

-- a process that is live is not the child
not_own_child : (w : World) (who : Who) (call : Call) (given : Answer) (T : State) → IsValid w.state → IsLiveIn w who.pid
    → IsStep w.constants w.state who call given T → child_told call given ≢ Some who.pid
not_own_child w who call given T valid alive step is =
    let new = child_is_new w.constants w.state who call given T who.pid valid step (sym (fork_tells_child w.constants w.state who call given T step) ∙ is) in
    none_is_no Live (sym new.0 ∙ alive)

acted_registers : (w : World) (who : Who) (ts : List ℕ) (a : Act) → is_idle a ≡ false → IsValid w.state → FitsAct w.constants w.state who (guest_of w who.pid) ts a
    → IsLiveIn w who.pid → AllHaveRegisters w who.pid → AllHaveRegisters (acted (turned w who.pid ts) who a) who.pid
acted_registers w who ts (act.Call call given) done valid fits alive before live t here =
    let T = called_state w.constants w.state who call given in
    let was = was_there w.constants w.state who call given T t fits.1 live here in
    subst (λ (g : Guest). HasRegisters g t)
    (sym (call_guest (turned w who.pid ts) who call given (not_own_child w who call given T valid alive fits.1)))
    (call_registers w who ts call given t (before alive t) was)
acted_registers w who ts (act.Wake call given answered) done valid fits alive before live t here =
    let was = was_woken w.constants w.state who call given answered (woken_state w.constants w.state who call given answered) t fits.1.1 live here in
    answered_registers w who ts call answered t (before alive t) was
acted_registers w who ts (act.Trap signal) done valid fits alive before live t here =
    absurd (ended_by w.state who.pid (Killed signal) (killed_is_not_live signal) live)
acted_registers w who ts act.Expire done valid fits alive before live t here = absurd (ended_by w.state who.pid (Killed Xcpu) (killed_is_not_live Xcpu) live)
acted_registers w who ts act.Idle done valid fits alive before live t here = absurd (not_true (sym done))

own_registers : (w : World) (e : Entry) → is_idle e.act ≡ false → IsValid w.state → Fits w e → AllHaveRegisters w e.pid → AllHaveRegisters (apply w e) e.pid
own_registers w e done valid fits before =
    subst (λ (v : World). AllHaveRegisters v e.pid) (sym (apply_is w e))
    (acted_registers w (who_of w.state e) e.turns e.act done valid fits.act (fits.live done) before)

-- a child has those of its one thread
born_registers : (w : World) (e : Entry) (p : ℕ) → IsValid w.state → Fits w e → Contains (born e.act) p → AllHaveRegisters (apply w e) p
born_registers w e p valid fits there live t here =
    let runs = born_runs w e p valid fits there in
    let parent = guest_of (turned w e.pid e.turns) e.pid in
    subst (λ (g : Guest). HasRegisters g t) (sym (born_guest w e p there)) (elim (eqb_tells t e.tid) [
      | inl is ↦ subst (HasRegisters (child_guest parent e.tid)) (sym is.1)
          (ap is_some (get-insert-same empty e.tid (child_registers (registers_of parent e.tid) e.tid)))
      | inr other ↦ absurd (not_true (subst IsSome (runs.1 t other.1) here))
    ])

others_registers : (w : World) (e : Entry) (p : ℕ) → IsValid w.state → Fits w e → AllHaveRegisters w p → IsLeft w (apply w e) e.act p
    → AllHaveRegisters (apply w e) p
others_registers w e p valid fits before (is_born there) live t here = born_registers w e p valid fits there live t here
others_registers w e p valid fits before (is_ended was dead) live t here = absurd (dead live)
others_registers w e p valid fits before (stays same) live t here =
    subst (λ (g : Guest). HasRegisters g t) (sym same.guest)
    (before (sym same.status ∙ live) t (subst IsSome (ap (λ o. thread_in o t) (same_threads (apply w e) w p same)) here))

apply_registers : (w : World) (e : Entry) → IsValid w.state → Fits w e → ((p : ℕ) → AllHaveRegisters w p) → (p : ℕ) → AllHaveRegisters (apply w e) p
apply_registers w e valid fits before p =
    elim (own_or_left w e p valid fits) [
      | inl is ↦ subst (AllHaveRegisters (apply w e)) (sym is.0) (own_registers w e is.1 valid fits (before e.pid))
      | inr left ↦ others_registers w e p valid fits (before p) left
    ]

follows_registers : (w : World) (history : List Entry) → IsValid w.state → FollowsFrom w history → ((p : ℕ) → AllHaveRegisters w p)
    → (p : ℕ) → AllHaveRegisters (apply_all w history) p
unfolding FollowsFrom apply_all
follows_registers w [] valid follows before = before
follows_registers w (e ∷ history) valid follows before =
    follows_registers (apply w e) history (apply_valid w e follows.0 valid) follows.1 (apply_registers w e valid follows.0 before)

-- ---- the start

first_registers_there : (launch : Launch) → HasRegisters (guest_of (start_world launch) 0) 1
first_registers_there launch =
    subst (λ (g : Guest). HasRegisters g 1) (sym (first_guest_is launch)) (subst IsSome (sym (get-insert-same empty 1 (first_registers launch.elf.entry))) refl)

no_other_thread : (launch : Launch) (t : ℕ) → t ≢ 1 → thread_of (start_world launch).state 0 t ≡ None
no_other_thread launch t other =
    ap (λ o. thread_in o t) (first_threads launch) ∙ get-insert-other empty 1 Runnable t other ∙ get-empty nat_cmp t

start_registers : (launch : Launch) → AllHaveRegisters (start_world launch) 0
start_registers launch live t here =
    elim (eqb_tells t 1) [
      | inl is ↦ subst (HasRegisters (guest_of (start_world launch) 0)) (sym is.1) (first_registers_there launch)
      | inr other ↦ absurd (not_true (subst IsSome (no_other_thread launch t other.1) here))
    ]

start_all : (launch : Launch) (p : ℕ) → AllHaveRegisters (start_world launch) p
start_all launch p =
    elim (eqb_tells p 0) [
      | inl is ↦ subst (AllHaveRegisters (start_world launch)) (sym is.1) (start_registers launch)
      | inr other ↦ λ live. absurd (start_only launch p other.1 live)
    ]

pub legal_has_registers : (launch : Launch) (history : List Entry) (p t : ℕ) → MayBegin launch.tree launch.grants → Legal launch history
    → IsLiveIn (world launch history) p
    → IsSome (thread_of (world launch history).state p t) → IsSome (get (guest_of (world launch history) p).regs t)
unfolding Legal world
legal_has_registers launch history p t begins legal live here =
    follows_registers (start_world launch) history (first_valid launch begins) legal (start_all launch) p live t here
