use Rattle.std.proofs.Common.{refl, ◌+◌, ◌≤◌, Some, sym, ap, subst, ◌∙◌}
use Rattle.std.specs.FinMap.{get}
use Rattle.wait_set.specs.Waits.{WaitMap, flag, IsExact, is_left, is_due, counted, stands, touched}
use Rattle.wait_set.proofs.Moments.{reached_first, reached_step, reached_last, moments_fall}
use Rattle.wait_set.proofs.Settled.{stands_kept, touched_count, touched_exact}
use Rattle.wait_set.proofs.wait_set.WaitSet.touch_moments.Goals as goal

pub loop-moment-init : goal.loop-moment-init
loop-moment-init c = reached_first c.args.self.now c.args.after c.args.until

pub loop-moment-smaller : goal.loop-moment-smaller
loop-moment-smaller c = moments_fall c.loop-moment.self c.loop-moment.reached c.in-Some.moment c.args.until c.in-Some.ensures

pub loop-moment-preserved : goal.loop-moment-preserved
loop-moment-preserved c =
    reached_step c.args.self.now c.loop-moment.self c.touch_listed.new.self c.args.after c.loop-moment.reached c.args.until c.in-Some.moment c.loop-moment.invariant c.in-Some.ensures c.touch_listed.ensures

pub returns-clause-marks : goal.returns-clause-marks
returns-clause-marks c = reached_last c.args.self.now c.loop-moment.self c.args.after c.loop-moment.reached c.args.until c.loop-moment.invariant c.in_default.ensures

pub returns-clause-count : goal.returns-clause-count
returns-clause-count c =
    subst (λ (w : WaitMap). counted is_left w ≤ counted is_left c.args.self.now + counted (is_due c.args.after (Some c.args.until)) c.args.self.now)
    (sym (returns-clause-marks c)) (touched_count (is_due c.args.after (Some c.args.until)) c.args.self.now)

pub returns-clause-exact : goal.returns-clause-exact
returns-clause-exact c = λ before now was same.
    subst (λ (w : WaitMap). IsExact now w) (sym (returns-clause-marks c)) (touched_exact (is_due c.args.after (Some c.args.until)) before now c.args.self.now was same)

pub returns-clause-places : goal.returns-clause-places
returns-clause-places c = λ x t.
    ap (λ (w : WaitMap). flag (stands x) (get w t)) (returns-clause-marks c) ∙ stands_kept x (is_due c.args.after (Some c.args.until)) (λ _ s. touched s) (λ _ _. refl) c.args.self.now t
