use Rattle.std.proofs.Common.{◌≡◌, true, inl, refl, sym, ap, subst, ◌∙◌, arith}
use Rattle.std.specs.FinMap.{get}
use Rattle.wait_set.specs.Waits.{WaitMap, AreTested, IsExact, flag, is_left, is_up, counted}
use Rattle.wait_set.proofs.Walking.{entry_at}
use Rattle.wait_set.proofs.Settled.{next_exact, tested_count, tested_exact, tested_more, up_same}
use Rattle.wait_set.proofs.Tying.{next_same}
use Rattle.wait_set.proofs.wait_set.WaitSet.next_settled.Goals as goal

pub loop-thread-init : goal.loop-thread-init
loop-thread-init g c = record { tested = λ t. inl refl; counted = refl; exact = λ e. e }

pub loop-thread-smaller : goal.loop-thread-smaller
loop-thread-smaller g c =
    let entry = entry_at is_left c.loop-thread.self c.in-Some.thread c.in-Some.ensures.left in
    let left : is_left entry.0 ≡ true = sym (ap (flag is_left) entry.1) ∙ c.in-Some.ensures.left in
    let count = tested_count (g.P.Parts.ready c.args.parts.now c.in-Some.thread) c.loop-thread.self c.in-Some.thread entry.0 entry.1 left in
    let is = ap (λ (w : WaitMap). counted is_left w) (c.settle_thread.ensures.marks entry.0 entry.1) in
    omega (arith, count, is)

pub loop-thread-preserved : goal.loop-thread-preserved
loop-thread-preserved g c =
    let ready = g.P.Parts.ready c.args.parts.now in
    let entry = entry_at is_left c.loop-thread.self c.in-Some.thread c.in-Some.ensures.left in
    let left : is_left entry.0 ≡ true = sym (ap (flag is_left) entry.1) ∙ c.in-Some.ensures.left in
    let count = tested_count (g.P.Parts.ready c.args.parts.now c.in-Some.thread) c.loop-thread.self c.in-Some.thread entry.0 entry.1 left in
    let marks = c.settle_thread.ensures.marks entry.0 entry.1 in
    let is = ap (λ (w : WaitMap). counted is_left w) marks in
    record {
      tested = subst (λ (w : WaitMap). AreTested ready c.args.self.now w) (sym marks)
          (tested_more ready c.args.self.now c.loop-thread.self c.in-Some.thread entry.0 c.loop-thread.invariant.tested entry.1 left);
      counted = omega (arith, count, is, c.settle_thread.ensures.cost, c.loop-thread.invariant.counted);
      exact = λ e. subst (λ (w : WaitMap). IsExact ready w) (sym marks) (tested_exact ready c.loop-thread.self c.in-Some.thread entry.0 (c.loop-thread.invariant.exact e));
    }

pub returns-clause-next : goal.returns-clause-next
returns-clause-next g c = λ e.
    let ready = g.P.Parts.ready c.args.parts.now in
    next_same (λ t. is_up ready (get c.loop-thread.self t) t) (λ t. is_up ready (get c.args.self.now t) t) c.args.after c.next_ready.result
    (up_same ready c.args.self.now c.loop-thread.self c.loop-thread.invariant.tested)
    (next_exact ready c.loop-thread.self c.args.after c.next_ready.result (c.loop-thread.invariant.exact e) (c.in_default.ensures.none refl) c.next_ready.ensures)
