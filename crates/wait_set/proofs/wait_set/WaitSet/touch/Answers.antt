use Rattle.std.proofs.Common.{refl, ◌+◌, ◌≤◌, sym, ap, subst, ◌∙◌}
use Rattle.std.specs.FinMap.{get}
use Rattle.wait_set.specs.Waits.{WaitMap, IsExact, flag, stands, is_left, counted, touched}
use Rattle.wait_set.proofs.Settled.{stands_kept, touched_count, touched_exact}
use Rattle.wait_set.proofs.Walks.{left_both}
use Rattle.wait_set.proofs.wait_set.WaitSet.touch.Goals as goal

pub returns-clause-marks : goal.returns-clause-marks
returns-clause-marks c =
    left_both c.args.spot c.args.self.now c.touch_listed.new.self c.touch_everywhere.new.self c.touch_listed.ensures c.touch_everywhere.ensures

pub returns-clause-count : goal.returns-clause-count
returns-clause-count c =
    subst (λ (w : WaitMap). counted is_left w ≤ counted is_left c.args.self.now + counted (stands c.args.spot) c.args.self.now) (sym (returns-clause-marks c))
    (touched_count (stands c.args.spot) c.args.self.now)

pub returns-clause-places : goal.returns-clause-places
returns-clause-places c = λ x t.
    ap (λ (w : WaitMap). flag (stands x) (get w t)) (returns-clause-marks c) ∙ stands_kept x (stands c.args.spot) (λ _ s. touched s) (λ _ _. refl) c.args.self.now t

pub returns-clause-exact : goal.returns-clause-exact
returns-clause-exact c = λ before now exact same.
    subst (λ (w : WaitMap). IsExact now w) (sym (returns-clause-marks c)) (touched_exact (stands c.args.spot) before now c.args.self.now exact same)
