-- Each entry takes from what is left to do, so a history is short.
use Rattle.std.proofs.Common.{◌≡◌, ◌≢◌, ◌⊎◌, inl, inr, ℕ, ◌+◌, ◌-◌, ◌*◌, ◌<◌, ◌≤◌, Bool, true, false, Contains, List, [], ◌∷◌, length, Option, Some, None, IsSome, is_some, refl, sym, ap, subst, ◌∙◌, arith, length-append}
use Rattle.std.proofs.lemmas.Bool.Decides.{eqb_tells}
use Rattle.std.specs.Ordering.{nat_cmp}
use Rattle.std.specs.Prelude.{if◌then◌else◌}
use Rattle.std.specs.FinMap.{FinMap, empty, get, get-empty, insert}
use Rattle.abi_types.specs.declared.reply.Answer.{Answer}
use Rattle.abi_types.specs.declared.reply.Answer.TheVariants as answer
use Rattle.abi_types.specs.declared.call.Call.{Call}
use Rattle.abi_types.specs.declared.call.Call.TheVariants.{ProcExec, ProcFork}
use Rattle.abi_types.specs.declared.reply.Payload.{Payload}
use Rattle.abi_types.specs.declared.reply.Payload.TheVariants.{Image}
use Rattle.abi_base.specs.declared.signal.Signal.TheVariants.{Xcpu}
use Rattle.abi_types.specs.declared.status.Status.{Status}
use Rattle.abi_types.specs.declared.status.Status.TheVariants.{Live, Exit, Killed}
use Rattle.abi_types.specs.declared.who.Who.{Who}
use Rattle.run_types.specs.declared.history.Act.{Act}
use Rattle.run_types.specs.declared.history.Act.TheVariants as act
use Rattle.run_types.specs.declared.history.Entry.{Entry}
use Rattle.run_types.specs.declared.launch.Launch.{Launch}
use Rattle.abi_types.specs.declared.thread.Thread.TheVariants.{Runnable}
use Rattle.tree_model.specs.Grants.{MayBegin}
use Rattle.kernel_model.specs.Deadlines.{idle_state}
use Rattle.kernel_model.specs.State.{State, thread_of}
use Rattle.kernel_model.specs.Threads.{child_told, is_success}
use Rattle.kernel_model.specs.Valid.{IsValid}
use Rattle.kernel_model.specs.Waits.{HasDeadlines}
use Rattle.kernel_model.proofs.Readiness.{jump_readies}
use Rattle.kernel_model.proofs.Starts.{start_runs}
use Rattle.kernel_model.proofs.Tests.{none_is_no, not_true}
use Rattle.kernel_model.specs.Outcome.{is_parked}
use Rattle.kernel_model.specs.Step.{end_state, IsStep}
use Rattle.maps.specs.Maps.{get-insert-same, get-insert-other, total, weight, total-empty, total-insert}
use Rattle.rv_interp.specs.declared.turns.TurnEnd.{TurnEnd}
use Rattle.rv_interp.specs.declared.turns.TurnEnd.TheVariants.{Ecall, Trap}
use Rattle.run_model.specs.Ends.{turns_taken, live_number, potential}
use Rattle.run_model.specs.Legal.{AreWhole, LastEnds, Asks, FitsAct, Fits, FollowsFrom, Legal}
use Rattle.run_model.specs.Own.{born, is_idle, IsLeft, is_born, is_ended, stays}
use Rattle.run_model.specs.World.{World, Guest, start_world, first_guest, guest_of, or_no_guest, answered_guest, begun_guest, called_guest, child_guest, less_share, share, with_child, turned_guest, turned_guest_by, turned, acted, who_of, apply, apply_all, world}
use Rattle.run_model.proofs.Births.{contains_one}
use Rattle.run_model.proofs.Calls.{ended_by}
use Rattle.run_model.proofs.Ends.{killed_is_not_live}
use Rattle.run_model.proofs.Histories.{apply_is, first_state, turned_more, first_thread}
use Rattle.run_model.proofs.Running.{jump_at_most, jump_is_left, ready_no_jump, running_no_jump}
use Rattle.run_model.proofs.Worlds.{apply_deadlines, apply_valid, first_deadlines, first_valid}
use Rattle.run_model.proofs.Wakes.{all_wakes, call_wakes, end_wakes, none_wakes, replied_wakes, thread_wakes, total_around, two_wakes, woken_wakes}
use Rattle.run_model.proofs.Own.{left_where}

-- ---- turns

-- turns leave no more turns than there were
turned_left : (ts : List ℕ) (guest : Guest) → (turned_guest_by ts guest).left ≤ guest.left
turned_left [] guest = omega arith
turned_left (t ∷ ts) guest =
    let rest : (turned_guest_by ts (turned_guest guest t)).left ≤ guest.left - 1 = turned_left ts (turned_guest guest t) in
    omega arith

-- each turn takes one
whole_take : (S : State) (p : ℕ) (ts : List ℕ) (guest : Guest) → AreWhole S p guest ts → (turned_guest_by ts guest).left + length ts ≡ guest.left
whole_take S p [] guest whole = omega arith
whole_take S p (t ∷ ts) guest whole =
    let rest : (turned_guest_by ts (turned_guest guest t)).left + length ts ≡ guest.left - 1 = whole_take S p ts (turned_guest guest t) whole.2 in
    let some : 0 < guest.left = whole.0.1 in
    omega arith

pub last_take : (S : State) (p : ℕ) (guest : Guest) (ts : List ℕ) (t : ℕ) (end : TurnEnd) → LastEnds S p guest ts t end
    → ((turned_guest_by ts guest).left + length ts ≡ guest.left) × (0 < length ts)
last_take S p guest ts t end last =
    let before : (turned_guest_by last.0 guest).left + length last.0 ≡ guest.left = whole_take S p last.0 guest last.2 in
    let some : 0 < (turned_guest_by last.0 guest).left = last.3.1 in
    let after : (turned_guest_by ts guest).left ≡ (turned_guest_by last.0 guest).left - 1 =
    ap (λ us. (turned_guest_by us guest).left) last.1 ∙ ap (λ (g : Guest). g.left) (turned_more last.0 t guest) in
    let many : length ts ≡ length last.0 + 1 = ap length last.1 ∙ length-append last.0 (t ∷ []) in
    (omega (arith, before, some, after, many), omega (arith, many))

asks_take : (S : State) (who : Who) (guest : Guest) (ts : List ℕ) (a : Act) → Asks S who guest ts a → (turned_guest_by ts guest).left + length ts ≡ guest.left
asks_take S who guest ts (act.Call call given) asks = (last_take S who.pid guest ts who.tid Ecall asks.0).0
asks_take S who guest ts (act.Wake call given answered) asks = whole_take S who.pid ts guest asks.0
asks_take S who guest ts (act.Trap signal) asks = (last_take S who.pid guest ts who.tid (Trap signal) asks).0
asks_take S who guest ts act.Expire asks = whole_take S who.pid ts guest asks.0
asks_take S who guest ts act.Idle asks =
    ap (λ us. (turned_guest_by us guest).left + length us) asks.2 ∙ omega arith

-- turns of which one is a thread's that may take one leave fewer
last_takes : (S : State) (p : ℕ) (guest : Guest) (ts : List ℕ) (t : ℕ) (end : TurnEnd) → LastEnds S p guest ts t end → (turned_guest_by ts guest).left < guest.left
last_takes S p guest ts t end last = let takes = last_take S p guest ts t end last in omega (arith, takes.0, takes.1)

-- ---- the turns that all processes have left

abbrev left_of : Guest → ℕ
left_of guest = guest.left

abbrev all_left : World → ℕ
all_left w = total left_of w.guests

left_here : (o : Option Guest) → weight left_of o ≡ (or_no_guest o).left
left_here None = refl
left_here (Some guest) = refl

turned_all : (w : World) (p : ℕ) (ts : List ℕ) → all_left (turned w p ts) + (guest_of w p).left ≡ all_left w + (turned_guest_by ts (guest_of w p)).left
turned_all w p ts =
    let sums = total-insert left_of w.guests p (turned_guest_by ts (guest_of w p)) in
    let here = left_here (get w.guests p) in
    omega (arith, sums, here)

-- what a child takes, if there is one
abbrev told : Option ℕ → ℕ → ℕ
told None n = 0
told (Some child) n = n

called_left : (guest : Guest) (t : ℕ) (call : Call) (given : Answer) → (called_guest guest t call given).left ≡ guest.left
called_left guest t call (answer.Parked writes) = refl
called_left guest t call (answer.Reply reply) = refl

begun_left : (guest : Guest) (p t : ℕ) (bytes : List ℕ) (payload : Payload) → (begun_guest guest p t bytes payload).left ≡ guest.left
begun_left guest p t bytes (Image elf canary) = refl
begun_left guest p t bytes payload = refl

exec_left : (done : Bool) (a b : Guest) (n : ℕ) → a.left ≡ n → b.left ≡ n → (if done then a else b).left ≡ n
exec_left true a b n first second = first
exec_left false a b n first second = second

share_taken : (child : Option ℕ) (guest : Guest) → (less_share child guest).left + told child (share guest.left) ≤ guest.left
share_taken None guest = omega arith
share_taken (Some child) guest = omega arith

-- what a process has left after its call, and what its child has, is no more than it had
answered_left : (p : ℕ) (guest : Guest) (t : ℕ) (call : Call) (given : Answer)
    → (answered_guest p guest t call given).left + told (child_told call given) (share guest.left) ≤ guest.left
answered_left p guest t (ProcExec fd bytes fds) (answer.Parked writes) = omega arith
answered_left p guest t (ProcExec fd bytes fds) (answer.Reply reply) =
    let same =
    exec_left (is_success reply.errno) (begun_guest guest p t bytes reply.payload) (called_guest guest t (ProcExec fd bytes fds) (answer.Reply reply)) guest.left
    (begun_left guest p t bytes reply.payload) refl in
    omega (arith, same)
answered_left p guest t (ProcFork left) given = share_taken (child_told (ProcFork left) given) (called_guest guest t (ProcFork left) given)
answered_left p guest t call given = omega arith

child_sums : (child : Option ℕ) (guest : Guest) (guests : FinMap nat_cmp Guest)
    → total left_of (with_child child guest guests) ≤ total left_of guests + told child guest.left
child_sums None guest guests = omega arith
child_sums (Some child) guest guests = let sums = total-insert left_of guests child guest in omega (arith, sums)

acted_all : (w : World) (who : Who) (a : Act) → all_left (acted w who a) ≤ all_left w
acted_all w who (act.Call call given) =
    let guest = guest_of w who.pid in
    let sums = total-insert left_of w.guests who.pid (answered_guest who.pid guest who.tid call given) in
    let here = left_here (get w.guests who.pid) in
    let same = answered_left who.pid guest who.tid call given in
    let child =
    child_sums (child_told call given) (child_guest guest who.tid) (insert w.guests who.pid (answered_guest who.pid guest who.tid call given)) in
    omega (arith, sums, here, same, child)
acted_all w who (act.Wake call given answered) =
    let sums = total-insert left_of w.guests who.pid (called_guest (guest_of w who.pid) who.tid call answered) in
    let here = left_here (get w.guests who.pid) in
    let same = called_left (guest_of w who.pid) who.tid call answered in
    omega (arith, sums, here, same)
acted_all w who (act.Trap signal) = omega arith
acted_all w who act.Expire = omega arith
acted_all w who act.Idle = omega arith

-- an entry takes its turns of those that are left
entry_takes : (w : World) (e : Entry) → Fits w e → all_left (apply w e) + length e.turns ≤ all_left w
entry_takes w e fits =
    let turns = turned_all w e.pid e.turns in
    let same = acted_all (turned w e.pid e.turns) (who_of w.state e) e.act in
    let takes = asks_take w.state (who_of w.state e) (guest_of w e.pid) e.turns e.act fits.act.0 in
    let after : all_left (apply w e) ≡ all_left (acted (turned w e.pid e.turns) (who_of w.state e) e.act) = ap all_left (apply_is w e) in
    omega (arith, turns, same, takes, after)

follows_take : (w : World) (history : List Entry) → FollowsFrom w history → all_left (apply_all w history) + turns_taken history ≤ all_left w
unfolding FollowsFrom apply_all
follows_take w [] follows = omega arith
follows_take w (e ∷ history) follows =
    let rest : all_left (apply_all (apply w e) history) + turns_taken history ≤ all_left (apply w e) = follows_take (apply w e) history follows.1 in
    let here = entry_takes w e follows.0 in
    omega (arith, rest, here)

-- ---- the processes that live

abbrev all_live : State → ℕ
all_live S = total live_number S.statuses

at_most_one : (o : Option Status) → weight live_number o ≤ 1
at_most_one None = omega arith
at_most_one (Some Live) = omega arith
at_most_one (Some (Exit code)) = omega arith
at_most_one (Some (Killed signal)) = omega arith

-- what isn't live counts nothing
not_counted : (o : Option Status) → o ≢ Some Live → weight live_number o ≡ 0
not_counted None dead = refl
not_counted (Some Live) dead = absurd (dead refl)
not_counted (Some (Exit code)) dead = refl
not_counted (Some (Killed signal)) dead = refl

-- the child of an act
abbrev act_child : Act → Option ℕ
act_child (act.Call call given) = child_told call given
act_child _ = None

abbrev born_number : Option ℕ → ℕ
born_number None = 0
born_number (Some child) = 1

-- a call that makes a child has a reply
told_replies : (call : Call) (given : Answer) (q : ℕ) → child_told call given ≡ Some q → is_parked given ≡ false
told_replies (ProcFork left) (answer.Parked writes) q told = absurd (none_is_no q told)
told_replies (ProcFork left) (answer.Reply reply) q told = refl
told_replies _ given q told = absurd (none_is_no q told)

-- so its thread doesn't wait: a child and the wakes of a call are together at most two
born_or_wakes : (w : World) (who : Who) (call : Call) (given : Answer) (T : State) → IsValid w.state → IsStep w.constants w.state who call given T
    → thread_of w.state who.pid who.tid ≡ Some Runnable → born_number (child_told call given) + thread_wakes T who.pid who.tid ≤ 2
born_or_wakes w who call given T valid step runs =
    elim (child_told call given) as (λ o. child_told call given ≡ o → born_number o + thread_wakes T who.pid who.tid ≤ 2) [
      | None ↦ λ untold. let most = two_wakes (thread_of T who.pid who.tid) in omega (arith, most)
      | Some q ↦ λ told.
          let none = replied_wakes w.constants w.state who call given T valid step runs (told_replies call given q told) in
          omega (arith, none)
    ] refl

born_child : (a : Act) (q : ℕ) → Contains (born a) q → act_child a ≡ Some q
born_child (act.Call call given) q there = contains_one (child_told call given) q there
born_child (act.Wake call given answered) q there = absurd (omega (arith, there.1))
born_child (act.Trap signal) q there = absurd (omega (arith, there.1))
born_child act.Expire q there = absurd (omega (arith, there.1))
born_child act.Idle q there = absurd (omega (arith, there.1))

-- those that were there, and the child
abbrev lives_with : Option ℕ → FinMap nat_cmp Status → FinMap nat_cmp Status
lives_with None m = m
lives_with (Some child) m = insert m child Live

lives_total : (child : Option ℕ) (m : FinMap nat_cmp Status) → total live_number (lives_with child m) ≤ total live_number m + born_number child
lives_total None m = omega arith
lives_total (Some child) m = let sums = total-insert live_number m child Live in omega (arith, sums)

child_lives : (m : FinMap nat_cmp Status) (q : ℕ) → weight live_number (get (insert m q Live) q) ≡ 1
child_lives m q = ap (weight live_number) (get-insert-same m q Live)

lives_more : (child : Option ℕ) (m : FinMap nat_cmp Status) (q : ℕ) → weight live_number (get m q) ≤ weight live_number (get (lives_with child m) q)
lives_more None m q = omega arith
lives_more (Some child) m q =
    elim (eqb_tells q child) [
      | inl is ↦ (
          let most = at_most_one (get m q) in
          let one : weight live_number (get (insert m child Live) q) ≡ 1 = ap (λ k. weight live_number (get (insert m child Live) k)) is.1 ∙ child_lives m child in
          omega (arith, most, one))
      | inr other ↦ (
          let same : weight live_number (get (insert m child Live) q) ≡ weight live_number (get m q) =
          ap (weight live_number) (get-insert-other m child Live q other.1) in
          omega (arith, same))
    ]

-- a process that an entry leaves counts no more after it than before, unless it is the child
other_counts : (w v : World) (a : Act) (q : ℕ) → IsLeft w v a q
    → weight live_number (get v.state.statuses q) ≤ weight live_number (get (lives_with (act_child a) w.state.statuses) q)
other_counts w v a q (is_born there) =
    let most = at_most_one (get v.state.statuses q) in
    let one : weight live_number (get (lives_with (act_child a) w.state.statuses) q) ≡ 1 =
    ap (λ o. weight live_number (get (lives_with o w.state.statuses) q)) (born_child a q there) ∙ child_lives w.state.statuses q in
    omega (arith, most, one)
other_counts w v a q (is_ended was dead) = let none = not_counted (get v.state.statuses q) dead in omega (arith, none)
other_counts w v a q (stays same) =
    let status = ap (weight live_number) same.status in
    let more = lives_more (act_child a) w.state.statuses q in
    omega (arith, status, more)

-- after an entry that is no jump at most as many processes are live as before it, with the child, and one less if its own is not
lives_fall : (w : World) (e : Entry) → is_idle e.act ≡ false → IsValid w.state → Fits w e
    → all_live (apply w e).state + 1 ≤ all_live w.state + weight live_number (get (apply w e).state.statuses e.pid) + born_number (act_child e.act)
lives_fall w e done valid fits =
    let one : weight live_number (get w.state.statuses e.pid) ≡ 1 = ap (weight live_number) (fits.live done) in
    let more = lives_more (act_child e.act) w.state.statuses e.pid in
    let most = lives_total (act_child e.act) w.state.statuses in
    let sums =
    total_around live_number (apply w e).state.statuses (lives_with (act_child e.act) w.state.statuses) e.pid
    (λ q apart. other_counts w (apply w e) e.act q (left_where w e q valid fits apart)) in
    omega (arith, one, more, most, sums)

-- ---- entries

-- the processes that are live after the entry are as many as before it with the child, or less
abbrev LivesFall : World → Who → List ℕ → Act → Type 0
LivesFall w who ts a =
    let after = (acted (turned w who.pid ts) who a).state in
    all_live after + 1 ≤ all_live w.state + weight live_number (get after.statuses who.pid) + born_number (act_child a)

-- where w becomes v by an act that takes a turn, and leaves at most two processes and wakes more, less is left to do
falls : (w v : World) → all_left v + 1 ≤ all_left w → all_live v.state + all_wakes v.state ≤ all_live w.state + all_wakes w.state + 2 → potential v < potential w
falls w v left more = let most = jump_at_most v.constants v.state in omega (arith, left, more, most)

act_falls : (w : World) (who : Who) (ts : List ℕ) (a : Act) → is_idle a ≡ false → IsSome (get w.state.statuses who.pid) → IsValid w.state
    → LivesFall w who ts a → FitsAct w.constants w.state who (guest_of w who.pid) ts a → potential (acted (turned w who.pid ts) who a) < potential w
act_falls w who ts (act.Call call given) done made valid lives fits =
    let turns = turned_all w who.pid ts in
    let same = acted_all (turned w who.pid ts) who (act.Call call given) in
    let v = acted (turned w who.pid ts) who (act.Call call given) in
    let most = at_most_one (get v.state.statuses who.pid) in
    let less = last_takes w.state who.pid (guest_of w who.pid) ts who.tid Ecall fits.0.0 in
    let wakes = call_wakes w.constants w.state who call given v.state valid fits.1 in
    let both = born_or_wakes w who call given v.state valid fits.1 fits.0.0.3.0 in
    falls w v (omega (arith, turns, same, less)) (omega (arith, lives, most, wakes, both))
act_falls w who ts (act.Wake call given answered) done made valid lives fits =
    let turns = turned_all w who.pid ts in
    let same = acted_all (turned w who.pid ts) who (act.Wake call given answered) in
    let v = acted (turned w who.pid ts) who (act.Wake call given answered) in
    let most = at_most_one (get v.state.statuses who.pid) in
    let left = turned_left ts (guest_of w who.pid) in
    let wakes = woken_wakes w.constants w.state who call given answered v.state valid fits.0.1 fits.1.1 in
    let jumps = jump_at_most v.constants v.state in
    omega (arith, turns, same, lives, most, left, wakes, jumps)
act_falls w who ts (act.Trap signal) done made valid lives fits =
    let turns = turned_all w who.pid ts in
    let same = acted_all (turned w who.pid ts) who (act.Trap signal) in
    let v = acted (turned w who.pid ts) who (act.Trap signal) in
    let most = at_most_one (get v.state.statuses who.pid) in
    let less = last_takes w.state who.pid (guest_of w who.pid) ts who.tid (Trap signal) fits.0 in
    let wakes = end_wakes w.state who.pid (Killed signal) (killed_is_not_live signal) made valid in
    falls w v (omega (arith, turns, same, less)) (omega (arith, lives, most, wakes))
act_falls w who ts act.Expire done made valid lives fits =
    let turns = turned_all w who.pid ts in
    let same = acted_all (turned w who.pid ts) who act.Expire in
    let after = end_state w.state who.pid (Killed Xcpu) in
    let none = not_counted (get after.statuses who.pid) (ended_by w.state who.pid (Killed Xcpu) (killed_is_not_live Xcpu)) in
    let most = turned_left ts (guest_of w who.pid) in
    let wakes = end_wakes w.state who.pid (Killed Xcpu) (killed_is_not_live Xcpu) made valid in
    let jumps = jump_at_most w.constants after in
    omega (arith, turns, same, lives, none, most, wakes, jumps)
act_falls w who ts act.Idle done made valid lives fits = absurd (not_true (sym done))

-- a jump comes where it is left, and after it some thread is ready
idle_falls : (w : World) (who : Who) (ts : List ℕ) (a : Act) → is_idle a ≡ true → IsValid w.state → HasDeadlines w.constants w.state
    → FitsAct w.constants w.state who (guest_of w who.pid) ts a → potential (acted (turned w who.pid ts) who a) < potential w
idle_falls w who ts (act.Call call given) idle valid due fits = absurd (not_true idle)
idle_falls w who ts (act.Wake call given answered) idle valid due fits = absurd (not_true idle)
idle_falls w who ts (act.Trap signal) idle valid due fits = absurd (not_true idle)
idle_falls w who ts act.Expire idle valid due fits = absurd (not_true idle)
idle_falls w who ts act.Idle idle valid due fits =
    let may = fits.1 in
    let turns = turned_all w who.pid ts in
    let same = acted_all (turned w who.pid ts) who act.Idle in
    let left = turned_left ts (guest_of w who.pid) in
    let one = jump_is_left w.constants w.state may.all.1 may.none in
    let ready = jump_readies w.constants w.state may.until valid due may.least in
    let none = ready_no_jump w.constants (idle_state w.state) ready.0 ready.1 ready.2 in
    omega (arith, turns, same, left, one, none)

-- each entry takes from what is left
pub potential_falls : (w : World) (e : Entry) → IsValid w.state → HasDeadlines w.constants w.state → Fits w e → potential (apply w e) < potential w
potential_falls w e valid due fits =
    subst (λ (v : World). potential v < potential w) (sym (apply_is w e))
    (elim (is_idle e.act) as (λ b. is_idle e.act ≡ b → potential (acted (turned w e.pid e.turns) (who_of w.state e) e.act) < potential w) [
      | true ↦ λ idle. idle_falls w (who_of w.state e) e.turns e.act idle valid due fits.act
      | false ↦ λ done.
          act_falls w (who_of w.state e) e.turns e.act done (ap is_some (fits.live done)) valid
          (subst (λ (v : World). all_live v.state + 1 ≤ all_live w.state + weight live_number (get v.state.statuses e.pid) + born_number (act_child e.act)) (apply_is w e)
          (lives_fall w e done valid fits))
          fits.act
    ] refl)

follows_short : (w : World) (history : List Entry) → IsValid w.state → HasDeadlines w.constants w.state → FollowsFrom w history
    → length history + potential (apply_all w history) ≤ potential w
unfolding FollowsFrom apply_all
follows_short w [] valid due follows = omega arith
follows_short w (e ∷ history) valid due follows =
    let rest : length history + potential (apply_all (apply w e) history) ≤ potential (apply w e) =
    follows_short (apply w e) history (apply_valid w e follows.0 valid) (apply_deadlines w e follows.0 valid due) follows.1 in
    let here : potential (apply w e) < potential w = potential_falls w e valid due follows.0 in
    omega (arith, rest, here)

first_counts : (launch : Launch) → (all_left (start_world launch) ≡ launch.turns) × (all_live (start_world launch).state ≡ 1)
unfolding start_world
first_counts launch =
    let no_guests : total left_of (empty {R = nat_cmp}) ≡ 0 = total-empty left_of in
    let no_lives : total live_number (empty {R = nat_cmp}) ≡ 0 = total-empty live_number in
    let no_guest : weight left_of (get (empty {R = nat_cmp}) 0) ≡ 0 = ap (weight left_of) (get-empty nat_cmp 0) in
    let no_life : weight live_number (get (empty {R = nat_cmp}) 0) ≡ 0 = ap (weight live_number) (get-empty nat_cmp 0) in
    let guests = total-insert left_of (empty {R = nat_cmp}) 0 (first_guest launch) in
    let lives = total-insert live_number (empty {R = nat_cmp}) 0 Live in
    (omega (arith, no_guests, no_guest, guests), omega (arith, no_lives, no_life, lives))

-- a launch begins with its turns and one process that lives, and a thread of it is runnable
start_potential : (launch : Launch) → potential (start_world launch) ≡ 6 * launch.turns + 2
start_potential launch =
    let counts = first_counts launch in
    let wakes : all_wakes (start_world launch).state ≡ 0 =
    none_wakes (start_world launch).state (subst (λ (S : State). (p t : ℕ) → (thread_of S p t ≡ None) ⊎ (thread_of S p t ≡ Some Runnable))
    (sym (first_state launch)) (start_runs launch.tree launch.grants launch.stdin)) in
    let jump = running_no_jump (start_world launch).constants (start_world launch).state 0 1 (first_thread launch) in
    omega (arith, counts.0, counts.1, wakes, jump)

pub history_is_paid : (launch : Launch) (history : List Entry) → MayBegin launch.tree launch.grants → Legal launch history
    → length history + potential (world launch history) ≤ 6 * launch.turns + 2
unfolding Legal world
history_is_paid launch history begins legal =
    let short = follows_short (start_world launch) history (first_valid launch begins) (first_deadlines launch) legal in
    let start = start_potential launch in
    omega (arith, short, start)

pub history_is_short : (launch : Launch) (history : List Entry) → MayBegin launch.tree launch.grants → Legal launch history
    → length history ≤ 6 * launch.turns + 2
history_is_short launch history begins legal = omega (arith, history_is_paid launch history begins legal)

pub turns_are_bounded : (launch : Launch) (history : List Entry) → Legal launch history → turns_taken history ≤ launch.turns
unfolding Legal
turns_are_bounded launch history legal =
    let take = follows_take (start_world launch) history legal in
    let first = (first_counts launch).0 in
    omega (arith, take, first)
