use Rattle.std.proofs.Common.{sym, ap, ◌∙◌}
use Rattle.std.specs.FinMap.{get}
use Rattle.kernel_parts.specs.Touching.{HasEach, spread_if}
use Rattle.wait_set.specs.Waits.{WaitMap}
use Rattle.kernel_invariant.specs.Readiness.{is_concerned_by, left_at_open}
use Rattle.kernel_invariant.proofs.readiness.touch_changed.Goals as goal
use Rattle.kernel_invariant.proofs.readiness.touch_changed.Goals.{in-Some, in_default, Joined-changed}

-- those that wait on the number are spread, if one is named
between : (c : Joined-changed)
    → HasEach (λ k. spread_if (is_concerned_by c.args.pid c.args.changed.now.0 (get c.args.processes.now c.args.pid) k)) c.args.waits.now c.match-changed.waits
between c k =
    let own = get c.args.processes.now c.args.pid in
    elim c.match-changed.branch [
      | in-Some w ↦
          ap (λ (m : WaitMap). get m k) w.waits-is ∙ w.touch_number_of.ensures k
          ∙ ap (λ n. spread_if (is_concerned_by c.args.pid n own k) (get c.args.waits.now k)) (sym w.in-Some.is)
      | in_default w ↦
          ap (λ (m : WaitMap). get m k) w.waits-is
          ∙ ap (λ n. spread_if (is_concerned_by c.args.pid n own k) (get c.args.waits.now k)) (sym w.in_default.is)
    ]

pub returns-in-Some-1₀ : goal.returns-in-Some-1₀
returns-in-Some-1₀ c = (
  c.match-changed.waits,
  between (goal.at.returns-in-Some-1₀ c).Joined-changed,
  c.touch_end.ensures ∙ sym (ap (λ o. left_at_open o c.match-changed.waits) c.in-Some-1₀.is),
)

pub returns-in_default-1₀ : goal.returns-in_default-1₀
returns-in_default-1₀ c = (
  c.match-changed.waits,
  between (goal.at.returns-in_default-1₀ c).Joined-changed,
  sym (ap (λ o. left_at_open o c.match-changed.waits) c.in_default-1₀.is),
)
