use Rattle.std.proofs.Common.{is_some, true, refl, ap, ◌∙◌, arith}
use Rattle.std.specs.Option.{option_map}
use Rattle.std.specs.FinMap.{get, insert}
use Rattle.maps.specs.Maps.{get-insert-same, insert-again}
use Rattle.wait_set.specs.declared.waiting.Waiting.{Waiting}
use Rattle.wait_set.specs.Waits.{WaitMap, spread_out}
use Rattle.wait_set.proofs.Tying.{some_entry, put_at}
use Rattle.wait_set.proofs.Between.{between_first, between_step, between_last}
use Rattle.wait_set.proofs.wait_set.WaitSet.spread_between.Goals as goal

pub loop-thread-init : goal.loop-thread-init
loop-thread-init c = record { walked = between_first (option_map spread_out) c.args.first c.args.end c.args.self.now; start = omega arith }

pub spread-requires : goal.spread-requires
spread-requires c = c.in-Some.ensures.2

pub leave-requires : goal.leave-requires
leave-requires c =
    let entry = some_entry c.loop-thread.self c.in-Some.thread c.in-Some.ensures.2 in
    ap (λ (w : WaitMap). is_some (get w c.in-Some.thread)) (c.spread.ensures entry.0 entry.1) ∙ ap is_some (get-insert-same c.loop-thread.self c.in-Some.thread _)

pub loop-thread-smaller : goal.loop-thread-smaller
loop-thread-smaller c = let low = c.in-Some.ensures.0 in let high = c.in-Some.ensures.1 in omega arith

pub loop-thread-preserved : goal.loop-thread-preserved
loop-thread-preserved c =
    let entry = some_entry c.loop-thread.self c.in-Some.thread c.in-Some.ensures.2 in
    let s = entry.0 in
    let first : Waiting = record { spots = s.spots; everywhere = true; ready = s.ready; left = s.left; runs = s.runs } in
    let spread = c.spread.ensures entry.0 entry.1 in
    record {
      walked =
          between_step (option_map spread_out) c.args.first c.args.end c.loop-thread.from c.in-Some.thread c.args.self.now c.loop-thread.self c.leave.new.self
          c.loop-thread.invariant.start refl c.loop-thread.invariant.walked c.in-Some.ensures
          (λ k.
          ap (λ (w : WaitMap). get w k)
          (c.leave.ensures first (ap (λ (w : WaitMap). get w c.in-Some.thread) spread ∙ get-insert-same c.loop-thread.self c.in-Some.thread first)
          ∙ ap (λ (w : WaitMap). insert w c.in-Some.thread (spread_out s)) spread
          ∙ insert-again c.loop-thread.self c.in-Some.thread first (spread_out s))
          ∙ put_at spread_out c.loop-thread.self c.in-Some.thread s entry.1 k);
      start = let from = c.loop-thread.invariant.start in let low = c.in-Some.ensures.0 in omega arith;
    }

pub returns : goal.returns
returns c =
    between_last (option_map spread_out) c.args.first c.args.end c.loop-thread.from c.args.self.now c.loop-thread.self c.loop-thread.invariant.start refl c.loop-thread.invariant.walked c.in_default.ensures
