use Rattle.std.proofs.Common.{◌+◌, ◌++◌, drop, sym, ap, ◌∙◌}
use Rattle.kernel_model.specs.Families.Polls.{events_now}
use Rattle.poll_set.specs.Polls.{is_told, sight}
use Rattle.poll_set.proofs.Tellings.{appended, on_err_any, silent_here, some_told, told_here}
use Rattle.poll_set.proofs.polls.events_now.Goals as goal
use Rattle.poll_set.proofs.polls.events_now.Goals.{in-Some+in_ok-push, in_default}

pub loop-subscription-preserved : goal.loop-subscription-preserved
loop-subscription-preserved c =
    let v = sight c.args.around.objects.now.kinds c.args.around.channels.now c.args.around.statuses.now c.args.around.now in
    let constants = c.args.around.constants.now in
    let subs = c.args.subscriptions.now in
    let i = c.loop-subscription.subscription-index in
    let rest = events_now constants v c.args.since c.args.table.now (drop (i + 1) subs) in
    elim c.match-event_now.branch [
      | in-Some+in_ok-push w ↦
          ap (λ events. events ++ rest) (w.events-is ∙ w.in_ok-push.ensures.ok)
          ∙ appended c.loop-subscription.events rest w.in-Some.event
          ∙ ap (λ events. c.loop-subscription.events ++ events)
          (sym (told_here constants v c.args.since c.args.table.now subs i _ c.event_now.result c.loop-subscription-test.true c.event_now.ensures w.in-Some.event w.in-Some.is))
          ∙ c.loop-subscription.invariant
      | in_default w ↦
          ap (λ events. events ++ rest) w.events-is
          ∙ ap (λ events. c.loop-subscription.events ++ events)
          (silent_here constants v c.args.since c.args.table.now subs i _ c.event_now.result c.loop-subscription-test.true c.event_now.ensures w.in_default.is)
          ∙ c.loop-subscription.invariant
    ]

-- where memory lacks there is an event
pub returns-in_err-push-clause-err : goal.returns-in_err-push-clause-err
returns-in_err-push-clause-err c =
    let v = sight c.args.around.objects.now.kinds c.args.around.channels.now c.args.around.statuses.now c.args.around.now in
    let constants = c.args.around.constants.now in
    let subs = c.args.subscriptions.now in
    let i = c.loop-subscription.subscription-index in
    let rest = events_now constants v c.args.since c.args.table.now (drop (i + 1) subs) in
    on_err_any c.from_residual.result
    (ap is_told (sym c.loop-subscription.invariant
    ∙ ap (λ events. c.loop-subscription.events ++ events)
    (told_here constants v c.args.since c.args.table.now subs i _ c.event_now.result c.loop-subscription-test.true c.event_now.ensures c.in-Some.event c.in-Some.is))
    ∙ some_told c.loop-subscription.events rest c.in-Some.event)
