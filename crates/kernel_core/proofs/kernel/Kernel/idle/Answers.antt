use Rattle.std.proofs.Common.{◌≡◌, ◌≤◌, Some, refl, sym, ap, subst, ◌∙◌, arith}
use Rattle.kernel_model.specs.Deadlines.{least_deadline}
use Rattle.kernel_model.specs.State.{State}
use Rattle.kernel_model.specs.Valid.{IsValid}
use Rattle.kernel_model.specs.Waits.{HasDeadlines}
use Rattle.kernel_model.specs.Wakes.{MayJump, NoneReady}
use Rattle.kernel_model.proofs.Tests.{none_is_no, not_true}
use Rattle.kernel_invariant.specs.Waiting.{NoneRuns}
use Rattle.kernel_core.specs.contracts.kernel.Kernel.{the_view}
use Rattle.kernel_invariant.proofs.HeldRunners.{jumps_to}
use Rattle.kernel_invariant.proofs.HeldTimes.{all_held_at}
use Rattle.kernel_core.proofs.kernel.Kernel.idle.Goals as goal
use Rattle.kernel_core.proofs.kernel.Kernel.idle.Goals.{After-touch_time, then-soonest-until, else-soonest-until}

pub returns-then-not-is_quiet-clause-valid : goal.returns-then-not-is_quiet-clause-valid
returns-then-not-is_quiet-clause-valid c = subst IsValid (sym c.is_quiet.ensures.same) c.is_quiet.ensures.valid

pub returns-in_default : goal.returns-in_default
returns-in_default c =
    let constants = c.args.constants.now in
    let same = c.is_quiet.ensures.same in
    let least : c.next_deadline.result ≡ least_deadline c.args.self.now =
    c.next_deadline.ensures constants (subst (HasDeadlines constants) (sym same) c.requires.deadlines) ∙ ap least_deadline same in
    record {
      exact = ((λ yes. absurd (not_true yes)), (λ may. absurd (none_is_no may.until (sym c.in_default.is ∙ least ∙ may.least))));
      jumps = λ yes. absurd (not_true yes);
      none = λ _. same;
      valid = subst IsValid (sym same) c.is_quiet.ensures.valid;
    }

pub returns-clause-exact : goal.returns-clause-exact
returns-clause-exact c =
    let constants = c.args.constants.now in
    let same = c.is_quiet.ensures.same in
    let T : State = the_view c.self.inside in
    let is : T ≡ c.args.self.now = c.self.view_is ∙ same in
    let quiet = c.is_quiet.ensures.exact.0 c.if-not-is_quiet.false in
    let least : least_deadline T ≡ Some c.in-Some.until =
    ap least_deadline c.self.view_is ∙ sym (c.next_deadline.ensures constants (subst (HasDeadlines constants) (sym same) c.requires.deadlines)) ∙ c.in-Some.is in (
      (λ _. subst (MayJump constants) is
          (jumps_to constants T c.self.inside.waits c.self.invariant.waits.watched c.self.invariant.kept.valid (subst NoneRuns (sym is) quiet.0)
          (subst (NoneReady constants) (sym is) quiet.1) c.in-Some.until least)),
      (λ _. refl),
    )

-- ---- the time

-- it goes on at least as far as an entry moves it
forward : (c : After-touch_time) → c.self.inside.clock ≤ c.if-soonest-until.self
forward c =
    elim c.if-soonest-until.branch [
      | then-soonest-until w ↦ (let is = w.self-is in let less = w.if-soonest-until in omega (arith, is, less))
      | else-soonest-until w ↦ (let is = w.self-is in omega (arith, is))
    ]

pub invariant_of-self : goal.invariant_of-self
invariant_of-self c =
    all_held_at (the_view c.self.inside) c.self.inside.objects.counts c.if-soonest-until.self c.self.inside.waits c.touch_time.new.waits c.self.invariant
    (forward (goal.at.invariant_of-self c).After-touch_time) c.touch_time.ensures
