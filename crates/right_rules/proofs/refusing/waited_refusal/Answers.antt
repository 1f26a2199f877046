use Rattle.std.proofs.Common.{◌+◌, sym, ap, ◌∙◌}
use Rattle.std.specs.Prelude.{option_copied}
use Rattle.right_rules.proofs.Waits.{none_here, some_here, there_here, refusal_after, left_at}
use Rattle.right_rules.proofs.refusing.waited_refusal.Goals as goal
use Rattle.right_rules.proofs.refusing.waited_refusal.Goals.{in-Some+in-Some-get, in_default}

pub loop-subscription-preserved : goal.loop-subscription-preserved
loop-subscription-preserved c =
    let after = refusal_after c.args.table.now in
    let now = after c.loop-subscription.lack in
    let i = c.loop-subscription.subscription-index in
    elim c.match-wait_row.branch [
      | in-Some+in-Some-get w ↦
          ap (λ lack. after lack (left_at c.args.subscriptions.now (i + 1))) (w.lack-is ∙ w.either_lack-lack.ensures)
          ∙ sym (some_here now _ _ _ _ w.in-Some.row c.loop-subscription-test.true c.wait_row.ensures w.in-Some.is
          ∙ there_here c.args.table.now c.loop-subscription.lack w.in-Some.row _ w.in-Some-get.held.now (sym w.get.ensures ∙ ap option_copied w.in-Some-get.is))
          ∙ c.loop-subscription.invariant
      | in_default w ↦
          ap (λ lack. after lack (left_at c.args.subscriptions.now (i + 1))) w.lack-is
          ∙ none_here now _ _ _ _ c.loop-subscription-test.true c.wait_row.ensures w.in_default.is
          ∙ c.loop-subscription.invariant
    ]
