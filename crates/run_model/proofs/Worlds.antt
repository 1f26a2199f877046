-- What every entry keeps: valid states, the clock's pace, and the guests of other processes.
use Rattle.std.proofs.Common.{◌≡◌, ◌≢◌, ◌⊎◌, inl, inr, ℕ, ◌+◌, ◌*◌, ◌^◌, ◌≤◌, false, Contains, Option, None, Some, List, [], ◌∷◌, length, is_some, refl, sym, ap, subst, ◌∙◌, arith}
use Rattle.abi_base.specs.declared.signal.Signal.TheVariants.{Xcpu}
use Rattle.abi_types.specs.declared.status.Status.TheVariants.{Killed}
use Rattle.abi_types.specs.declared.who.Who.{Who}
use Rattle.run_types.specs.declared.history.Act.{Act}
use Rattle.run_types.specs.declared.history.Act.TheVariants as act
use Rattle.run_types.specs.declared.history.Entry.{Entry}
use Rattle.run_types.specs.declared.launch.Launch.{Launch}
use Rattle.tree_model.specs.Grants.{MayBegin}
use Rattle.kernel_model.specs.Deadlines.{idle_state, jumped_to, least_deadline}
use Rattle.kernel_model.specs.State.{State}
use Rattle.kernel_model.specs.Valid.{IsValid}
use Rattle.kernel_model.specs.Waits.{HasDeadlines}
use Rattle.kernel_model.proofs.Deadlines.{jump_goes_on, jump_is_bounded}
use Rattle.kernel_model.proofs.Readiness.{idle_valid, least_is_soon}
use Rattle.kernel_model.proofs.Starts.{start_deadlines, start_valid}
use Rattle.kernel_model.proofs.Tests.{none_is_no, not_true, same_some}
use Rattle.kernel_model.proofs.Waking.{end_deadlines, step_deadlines, wake_deadlines, wake_keeps_valid, wake_moves_only}
use Rattle.kernel_model.proofs.Steps.{step_keeps_valid, end_valid, step_moves_only, end_ends_only}
use Rattle.std.specs.FinMap.{FinMap, get, insert}
use Rattle.std.specs.Ordering.{nat_cmp}
use Rattle.kernel_model.specs.Threads.{child_told}
use Rattle.maps.specs.Maps.{get-insert-same, get-insert-other}
use Rattle.run_model.specs.Laws.{TakesTime, HasNoJump}
use Rattle.run_model.specs.Legal.{FitsAct, Fits, FollowsFrom, Legal}
use Rattle.run_model.specs.Own.{born, is_idle, IsLiveIn}
use Rattle.run_model.proofs.Births.{contains_one, one_contains}
use Rattle.run_model.specs.World.{World, Guest, start_world, or_no_guest, guest_of, answered_guest, called_guest, child_guest, with_child, called_state, woken_state, turned_guest_by, turned, acted, who_of, apply, apply_all, world}
use Rattle.run_model.proofs.Ends.{killed_is_not_live}
use Rattle.run_model.proofs.Histories.{apply_constants, apply_is, first_state}

-- ---- valid states

acted_valid : (w : World) (who : Who) (guest : Guest) (ts : List ℕ) (a : Act) → (is_idle a ≡ false → IsLiveIn w who.pid)
    → FitsAct w.constants w.state who guest ts a → IsValid w.state → IsValid (acted w who a).state
acted_valid w who guest ts (act.Call call given) live fits valid =
    step_keeps_valid w.constants w.state who call given (called_state w.constants w.state who call given) fits.1 valid
acted_valid w who guest ts (act.Wake call given answered) live fits valid =
    wake_keeps_valid w.constants w.state who call given answered (woken_state w.constants w.state who call given answered) fits.1.1 valid
acted_valid w who guest ts (act.Trap signal) live fits valid = end_valid w.state who.pid (Killed signal) (ap is_some (live refl)) (killed_is_not_live signal) valid
acted_valid w who guest ts act.Expire live fits valid = end_valid w.state who.pid (Killed Xcpu) (ap is_some (live refl)) (killed_is_not_live Xcpu) valid
acted_valid w who guest ts act.Idle live fits valid = idle_valid w.state valid

pub apply_valid : (w : World) (e : Entry) → Fits w e → IsValid w.state → IsValid (apply w e).state
apply_valid w e fits valid =
    subst (λ (v : World). IsValid v.state) (sym (apply_is w e))
    (acted_valid (turned w e.pid e.turns) (who_of w.state e) (guest_of w e.pid) e.turns e.act fits.live fits.act valid)

follows_valid : (w : World) (history : List Entry) → FollowsFrom w history → IsValid w.state → IsValid (apply_all w history).state
unfolding FollowsFrom apply_all
follows_valid w [] follows valid = valid
follows_valid w (e ∷ history) follows valid = follows_valid (apply w e) history follows.1 (apply_valid w e follows.0 valid)

legal_valid : (launch : Launch) (history : List Entry) → IsValid (start_world launch).state → Legal launch history → IsValid (world launch history).state
unfolding Legal world
legal_valid launch history start legal = follows_valid (start_world launch) history legal start

pub first_valid : (launch : Launch) → MayBegin launch.tree launch.grants → IsValid (start_world launch).state
first_valid launch begins = subst IsValid (sym (first_state launch)) (start_valid launch.tree launch.grants launch.stdin begins)

pub world_is_valid : (launch : Launch) (history : List Entry) → MayBegin launch.tree launch.grants → Legal launch history → IsValid (world launch history).state
world_is_valid launch history begins legal = legal_valid launch history (first_valid launch begins) legal

-- ---- deadlines

acted_deadlines : (w : World) (who : Who) (guest : Guest) (ts : List ℕ) (a : Act) → FitsAct w.constants w.state who guest ts a → IsValid w.state
    → HasDeadlines w.constants w.state → HasDeadlines w.constants (acted w who a).state
acted_deadlines w who guest ts (act.Call call given) fits valid before =
    step_deadlines w.constants w.state who call given (called_state w.constants w.state who call given) fits.1 valid before
acted_deadlines w who guest ts (act.Wake call given answered) fits valid before =
    wake_deadlines w.constants w.state who call given answered (woken_state w.constants w.state who call given answered) fits.1.1 valid before
acted_deadlines w who guest ts (act.Trap signal) fits valid before =
    end_deadlines w.constants w.state who.pid (Killed signal) (killed_is_not_live signal) valid before
acted_deadlines w who guest ts act.Expire fits valid before =
    end_deadlines w.constants w.state who.pid (Killed Xcpu) (killed_is_not_live Xcpu) valid before
acted_deadlines w who guest ts act.Idle fits valid before = before

-- each thread that waits does until its call's deadline
abbrev pub AreDue : World → Type 0
AreDue w = HasDeadlines w.constants w.state

pub apply_deadlines : (w : World) (e : Entry) → Fits w e → IsValid w.state → AreDue w → AreDue (apply w e)
apply_deadlines w e fits valid before =
    subst (λ constants. HasDeadlines constants (apply w e).state) (sym (apply_constants w e))
    (subst (λ (v : World). HasDeadlines w.constants v.state) (sym (apply_is w e))
    (acted_deadlines (turned w e.pid e.turns) (who_of w.state e) (guest_of w e.pid) e.turns e.act fits.act valid before))

follows_deadlines : (w : World) (history : List Entry) → FollowsFrom w history → IsValid w.state → AreDue w → AreDue (apply_all w history)
unfolding FollowsFrom apply_all
follows_deadlines w [] follows valid before = before
follows_deadlines w (e ∷ history) follows valid before =
    follows_deadlines (apply w e) history follows.1 (apply_valid w e follows.0 valid) (apply_deadlines w e follows.0 valid before)

pub first_deadlines : (launch : Launch) → AreDue (start_world launch)
first_deadlines launch =
    subst (HasDeadlines (start_world launch).constants) (sym (first_state launch))
    (start_deadlines (start_world launch).constants launch.tree launch.grants launch.stdin)

pub world_has_deadlines : (launch : Launch) (history : List Entry) → MayBegin launch.tree launch.grants → Legal launch history
    → AreDue (world launch history)
unfolding Legal world
world_has_deadlines launch history begins legal =
    follows_deadlines (start_world launch) history legal (first_valid launch begins) (first_deadlines launch)

-- ---- the clock

-- what takes 1000 nanoseconds
takes_one : (w v : World) (a : Act) → v.state.clock ≡ w.state.clock + 1000 → TakesTime w v a
takes_one w v a takes = record { exact = λ _. takes; least = omega (arith, takes); most = inl takes }

jump_takes : (w v : World) → v.state ≡ idle_state w.state → TakesTime w v act.Idle
jump_takes w v is =
    let clock : v.state.clock ≡ jumped_to w.state.clock (least_deadline w.state) = ap (λ (S : State). S.clock) is in
    let forward = jump_goes_on w.state.clock (least_deadline w.state) in
    record {
      exact = λ done. absurd (not_true (sym done));
      least = omega (arith, clock, forward);
      most = elim (jump_is_bounded w.state.clock (least_deadline w.state)) [
        | inl one ↦ inl (clock ∙ one)
        | inr least ↦ (
            let soon = least_is_soon w.state (jumped_to w.state.clock (least_deadline w.state)) least in
            inr (omega (arith, clock, soon)))
      ];
    }

acted_takes : (w v : World) (who : Who) (guest : Guest) (ts : List ℕ) (a : Act) → FitsAct w.constants w.state who guest ts a
    → v.state ≡ (acted (turned w who.pid ts) who a).state → TakesTime w v a
acted_takes w v who guest ts (act.Call call given) fits is =
    takes_one w v (act.Call call given)
    (ap (λ (S : State). S.clock) is ∙ (step_moves_only w.constants w.state who call given (called_state w.constants w.state who call given) fits.1).clock)
acted_takes w v who guest ts (act.Wake call given answered) fits is =
    takes_one w v (act.Wake call given answered)
    (ap (λ (S : State). S.clock) is
    ∙ (wake_moves_only w.constants w.state who call given answered (woken_state w.constants w.state who call given answered) fits.1.1).clock)
acted_takes w v who guest ts (act.Trap signal) fits is =
    takes_one w v (act.Trap signal) (ap (λ (S : State). S.clock) is ∙ (end_ends_only w.state who.pid (Killed signal) (killed_is_not_live signal)).clock)
acted_takes w v who guest ts act.Expire fits is =
    takes_one w v act.Expire (ap (λ (S : State). S.clock) is ∙ (end_ends_only w.state who.pid (Killed Xcpu) (killed_is_not_live Xcpu)).clock)
acted_takes w v who guest ts act.Idle fits is = jump_takes w v is

-- an entry takes 1000 nanoseconds, unless it is an idle jump
pub apply_clock : (w : World) (e : Entry) → Fits w e → TakesTime w (apply w e) e.act
apply_clock w e fits =
    acted_takes w (apply w e) (who_of w.state e) (guest_of w e.pid) e.turns e.act fits.act (ap (λ (v : World). v.state) (apply_is w e))

pub follows_least : (w : World) (history : List Entry) → FollowsFrom w history → w.state.clock + 1000 * length history ≤ (apply_all w history).state.clock
unfolding FollowsFrom apply_all
follows_least w [] follows = omega arith
follows_least w (e ∷ history) follows =
    let rest : (apply w e).state.clock + 1000 * length history ≤ (apply_all (apply w e) history).state.clock = follows_least (apply w e) history follows.1 in
    let here : w.state.clock + 1000 ≤ (apply w e).state.clock = (apply_clock w e follows.0).least in
    omega arith

-- an entry that comes after n others leads to no more than these, it and the jumps take
most_after : (before after n : ℕ) → before ≤ 2 ^ 62 + 1000 * n → (after ≡ before + 1000) ⊎ (after ≤ 2 ^ 62) → after ≤ 2 ^ 62 + 1000 * (n + 1)
most_after before after n most (inl exact) = omega arith
most_after before after n most (inr jump) = omega arith

follows_most : (w : World) (history : List Entry) (n : ℕ) → FollowsFrom w history → w.state.clock ≤ 2 ^ 62 + 1000 * n
    → (apply_all w history).state.clock ≤ 2 ^ 62 + 1000 * (n + length history)
unfolding FollowsFrom apply_all
follows_most w [] n follows most = omega arith
follows_most w (e ∷ history) n follows most =
    let here : (apply w e).state.clock ≤ 2 ^ 62 + 1000 * (n + 1) =
    most_after w.state.clock (apply w e).state.clock n most (apply_clock w e follows.0).most in
    let rest : (apply_all (apply w e) history).state.clock ≤ 2 ^ 62 + 1000 * (n + 1 + length history) =
    follows_most (apply w e) history (n + 1) follows.1 here in
    omega arith

follows_exact : (w : World) (history : List Entry) → FollowsFrom w history → HasNoJump history
    → (apply_all w history).state.clock ≡ w.state.clock + 1000 * length history
unfolding FollowsFrom apply_all
follows_exact w [] follows none = omega arith
follows_exact w (e ∷ history) follows none =
    let rest : (apply_all (apply w e) history).state.clock ≡ (apply w e).state.clock + 1000 * length history =
    follows_exact (apply w e) history follows.1 none.1 in
    let here : (apply w e).state.clock ≡ w.state.clock + 1000 = (apply_clock w e follows.0).exact none.0 in
    omega arith

-- the clock is at 0 at the start
pub first_clock : (launch : Launch) → (start_world launch).state.clock ≡ 0
first_clock launch = ap (λ (S : State). S.clock) (first_state launch)

pub clock_counts : (launch : Launch) (history : List Entry) → Legal launch history
    → (1000 * length history ≤ (world launch history).state.clock) × ((world launch history).state.clock ≤ 2 ^ 62 + 1000 * length history)
unfolding Legal world
clock_counts launch history legal =
    let first = first_clock launch in
    let least = follows_least (start_world launch) history legal in
    let most = follows_most (start_world launch) history 0 legal (omega (arith, first)) in
    (omega (arith, first, least), omega (arith, most))

pub clock_is_exact : (launch : Launch) (history : List Entry) → Legal launch history → HasNoJump history
    → (world launch history).state.clock ≡ 1000 * length history
unfolding Legal world
clock_is_exact launch history legal none =
    let first = first_clock launch in
    let exact = follows_exact (start_world launch) history legal none in
    omega (arith, first, exact)

-- ---- the guests of other processes

turned_others : (w : World) (p : ℕ) (ts : List ℕ) (q : ℕ) → q ≢ p → guest_of (turned w p ts) q ≡ guest_of w q
turned_others w p ts q n = ap or_no_guest (get-insert-other w.guests p (turned_guest_by ts (guest_of w p)) q n)

-- a guest beside the child's
pub beside_child : (child : Option ℕ) (guest : Guest) (guests : FinMap nat_cmp Guest) (q : ℕ) → child ≢ Some q → get (with_child child guest guests) q ≡ get guests q
beside_child None guest guests q other = refl
beside_child (Some c) guest guests q other = get-insert-other guests c guest q (λ is. other (ap Some (sym is)))

-- the child's own
pub child_there : (child : Option ℕ) (guest : Guest) (guests : FinMap nat_cmp Guest) (q : ℕ) → child ≡ Some q → get (with_child child guest guests) q ≡ Some guest
child_there None guest guests q is = absurd (none_is_no q is)
child_there (Some c) guest guests q is = ap (get (insert guests c guest)) (sym (same_some c q is)) ∙ get-insert-same guests c guest

acted_others : (w : World) (who : Who) (a : Act) (q : ℕ) → q ≢ who.pid → ¬ Contains (born a) q → guest_of (acted w who a) q ≡ guest_of w q
acted_others w who (act.Call call given) q n unborn =
    ap or_no_guest
    (beside_child (child_told call given) (child_guest (guest_of w who.pid) who.tid)
    (insert w.guests who.pid (answered_guest who.pid (guest_of w who.pid) who.tid call given)) q (λ is. unborn (one_contains (child_told call given) q is))
    ∙ get-insert-other w.guests who.pid (answered_guest who.pid (guest_of w who.pid) who.tid call given) q n)
acted_others w who (act.Wake call given answered) q n unborn =
    ap or_no_guest (get-insert-other w.guests who.pid (called_guest (guest_of w who.pid) who.tid call answered) q n)
acted_others w who (act.Trap signal) q n unborn = refl
acted_others w who act.Expire q n unborn = refl
acted_others w who act.Idle q n unborn = refl

pub apply_guest : (w : World) (e : Entry) (q : ℕ) → q ≢ e.pid → ¬ Contains (born e.act) q → guest_of (apply w e) q ≡ guest_of w q
apply_guest w e q n unborn =
    ap (λ v. guest_of v q) (apply_is w e)
    ∙ acted_others (turned w e.pid e.turns) (who_of w.state e) e.act q n unborn
    ∙ turned_others w e.pid e.turns q n

-- the guest of a child is made of its parent's
pub born_guest : (w : World) (e : Entry) (q : ℕ) → Contains (born e.act) q → guest_of (apply w e) q ≡ child_guest (guest_of (turned w e.pid e.turns) e.pid) e.tid
born_guest w e q there = ap (λ v. guest_of v q) (apply_is w e) ∙ acted_born (turned w e.pid e.turns) (who_of w.state e) e.act q there where
  acted_born : (v : World) (who : Who) (a : Act) (q : ℕ) → Contains (born a) q → guest_of (acted v who a) q ≡ child_guest (guest_of v who.pid) who.tid
  acted_born v who (act.Call call given) q there =
      ap or_no_guest
      (child_there (child_told call given) (child_guest (guest_of v who.pid) who.tid)
      (insert v.guests who.pid (answered_guest who.pid (guest_of v who.pid) who.tid call given)) q (contains_one (child_told call given) q there))
  acted_born v who (act.Wake call given answered) q there = absurd (omega (arith, there.1))
  acted_born v who (act.Trap signal) q there = absurd (omega (arith, there.1))
  acted_born v who act.Expire q there = absurd (omega (arith, there.1))
  acted_born v who act.Idle q there = absurd (omega (arith, there.1))
