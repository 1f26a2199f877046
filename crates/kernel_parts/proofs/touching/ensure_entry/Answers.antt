use Rattle.std.proofs.Common.{◌≡◌, None, sym, subst, ◌∙◌}
use Rattle.std.specs.Prelude.{nat_eq}
use Rattle.std.specs.FinMap.{get}
use Rattle.kernel_model.proofs.Tests.{none_of}
use Rattle.wait_set.specs.Waits.{WaitMap}
use Rattle.kernel_parts.specs.Touching.{HasEach, begun_if}
use Rattle.kernel_parts.proofs.NewEntries.{begun_fresh, on_ok}
use Rattle.kernel_parts.proofs.touching.ensure_entry.Goals as goal

pub returns-clause-ok : goal.returns-clause-ok
returns-clause-ok c =
    let V : WaitMap = c.args.waits.now in
    let none : get V c.thread_key-key.result ≡ None = none_of (get V c.thread_key-key.result) (sym c.contains.ensures ∙ c.if-contains.false) in
    on_ok c.begin.result
    (λ is. subst (λ n. HasEach (λ k. begun_if (nat_eq k n)) V c.begin.new.self) c.thread_key-key.ensures (begun_fresh c.thread_key-key.result V c.begin.new.self none is))
    c.begin.ensures.ok
