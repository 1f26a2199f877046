use Rattle.std.proofs.Common.{◌≡◌, ◌^◌, ◌<◌, refl, ap, ◌∙◌}
use Rattle.std.specs.FinMap.{insert, remove}
use Rattle.abi_base.specs.declared.signal.Signal.TheVariants.{Kill}
use Rattle.abi_types.specs.declared.status.Status.TheVariants.{Killed}
use Rattle.kernel_parts.specs.Released.{state_by}
use Rattle.kernel_parts.proofs.LeftEntries.{process_ends}
use Rattle.kernel_parts.proofs.releasing.kill.Goals as goal

pub returns-then-is_alive-clause-touched : goal.returns-then-is_alive-clause-touched
returns-then-is_alive-clause-touched c = λ channels tree last.
    let same : c.from-p.result ≡ c.args.pid = c.from-p.ensures ∙ c.pid.view_is in
    let fits : c.args.pid < 2 ^ 32 = search in
    process_ends
    (state_by c.args.tables.now c.args.processes.now c.args.statuses.now c.args.objects.now.kinds channels tree)
    (state_by c.drop_table.new.tables c.remove.new.self c.replace.new.self c.drop_table.new.objects.kinds channels tree)
    c.args.waits.now c.touch_ended.new.waits c.args.pid (Killed Kill) fits last
    (c.drop_table.ensures.tables ∙ ap (λ p. remove c.args.tables.now p) same)
    (c.remove.ensures.new ∙ ap (λ p. remove c.args.processes.now p) same)
    (c.replace.ensures.new ∙ ap (λ p. insert c.args.statuses.now p (Killed Kill)) same)
    c.drop_table.ensures.kinds refl refl c.touch_ended.ensures
