use Rattle.std.proofs.Common.{None, refl, ap, ◌∙◌, arith}
use Rattle.std.specs.FinMap.{get}
use Rattle.wait_set.specs.Waits.{WaitMap}
use Rattle.wait_set.proofs.Between.{between_first, between_step, between_last, removed_at}
use Rattle.wait_set.proofs.wait_set.WaitSet.remove_between.Goals as goal

pub loop-thread-init : goal.loop-thread-init
loop-thread-init c = record { walked = between_first (λ _. None) c.args.first c.args.end c.args.self.now; start = omega arith }

pub loop-thread-smaller : goal.loop-thread-smaller
loop-thread-smaller c = let low = c.in-Some.ensures.0 in let high = c.in-Some.ensures.1 in omega arith

pub loop-thread-preserved : goal.loop-thread-preserved
loop-thread-preserved c =
    record {
      walked =
          between_step (λ _. None) c.args.first c.args.end c.loop-thread.from c.in-Some.thread c.args.self.now c.loop-thread.self c.take_out.new.self
          c.loop-thread.invariant.start refl c.loop-thread.invariant.walked c.in-Some.ensures
          (λ k. ap (λ (w : WaitMap). get w k) c.take_out.ensures ∙ removed_at c.loop-thread.self c.in-Some.thread k);
      start = let from = c.loop-thread.invariant.start in let low = c.in-Some.ensures.0 in omega arith;
    }

pub returns : goal.returns
returns c =
    between_last (λ _. None) c.args.first c.args.end c.loop-thread.from c.args.self.now c.loop-thread.self c.loop-thread.invariant.start refl c.loop-thread.invariant.walked c.in_default.ensures
