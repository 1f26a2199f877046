use Rattle.std.proofs.Common.{◌≡◌, ◌/◌, ◌%◌, ◌^◌, Option, ap, ◌∙◌}
use Rattle.std.specs.Option.{option_map}
use Rattle.std.specs.FinMap.{get}
use Rattle.kernel_model.specs.State.{ProcessState, thread_in}
use Rattle.kernel_invariant.specs.Readiness.{waits_no_more}
use Rattle.kernel_invariant.proofs.readiness.LookedParts.is_ready.Goals as goal

pub returns-in-Some-clause-value : goal.returns-in-Some-clause-value
returns-in-Some-clause-value g c =
    let l = c.args.self.now in
    let k = c.args.thread in
    let p : c.from-p.result ≡ k / 2 ^ 32 = c.from-p.ensures ∙ c.pid.view_is ∙ c.thread_of_key-pid.ensures.process in
    let table = c.get-in-Some.ensures.value ∙ ap (get l.tables.now) p in
    let own = c.in-Some.ensures.value ∙ ap (get l.processes.now) p in
    let thread =
    c.thread.ensures ∙ ap (get c.in-Some.own.now.threads) c.thread_of_key-pid.ensures.thread
    ∙ ap (λ (o : Option ProcessState). thread_in (option_map (λ (x : ProcessState). x.threads) o) (k % 2 ^ 32)) own in
    c.waits_no_more.ensures
    ∙ (λ i. waits_no_more l.around.constants.now l.around.objects.now.kinds l.around.channels.now l.around.statuses.now l.around.now (table i) (thread i))
