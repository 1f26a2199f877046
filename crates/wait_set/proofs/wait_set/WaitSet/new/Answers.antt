use Rattle.std.proofs.Common.{◌≡◌, ℕ, List, length, sym, ap, ◌∙◌, arith}
use Rattle.std.specs.Ordering.{nat_cmp}
use Rattle.std.specs.FinMap.{len, len-empty}
use Rattle.wait_set.specs.declared.waiting.Waiting.{Waiting}
use Rattle.wait_set.specs.Waits.{WaitMap, is_ready, is_everywhere, is_left, lists, is_running}
use Rattle.wait_set.proofs.Tying.{counted_none, flagged_none, flag_none}
use Rattle.wait_set.proofs.wait_set.WaitSet.new.Goals as goal

pub invariant_of-result : goal.invariant_of-result
invariant_of-result c =
    record {
      queued = λ x u. c.new-2.ensures x u ∙ sym (flag_none (lists x) c.new.result c.new.ensures u);
      ready_set = flagged_none is_ready c.new.result c.new-3.result c.new.ensures c.new-3.ensures.list c.new-3.ensures.ascending;
      everywhere_set = flagged_none is_everywhere c.new.result c.new-4.result c.new.ensures c.new-4.ensures.list c.new-4.ensures.ascending;
      left_set = flagged_none is_left c.new.result c.new-5.result c.new.ensures c.new-5.ensures.list c.new-5.ensures.ascending;
      runners = sym (counted_none is_running c.new.result (flag_none is_running c.new.result c.new.ensures));
      gone_room =
          let none : len c.new.result ≡ 0 = ap (λ (m : WaitMap). len m) c.new.ensures ∙ len-empty nat_cmp Waiting in
          let no_list = ap (λ (xs : List ℕ). length xs) c.new-6.ensures.items in
          omega (arith, none, no_list);
    }
