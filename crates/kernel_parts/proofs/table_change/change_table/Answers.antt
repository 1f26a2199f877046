use Rattle.std.proofs.Common.{sym, subst}
use Rattle.abi_types.specs.Families.{call_of_change}
use Rattle.abi_types.specs.declared.family.DescriptorChange.{DescriptorChange}
use Rattle.kernel_model.specs.Calls.{takes_memory}
use Rattle.kernel_parts.specs.Changes.{IsChangeDone, change_outcome}
use Rattle.kernel_parts.proofs.table_change.change_table.Goals as goal

pub returns-in-Dup-clause-done : goal.returns-in-Dup-clause-done
returns-in-Dup-clause-done c = λ p.
    let t = c.args.table.now in
    let h = c.args.objects.now in
    subst (λ (change : DescriptorChange). IsChangeDone (takes_memory (call_of_change change)) (change_outcome p h.kinds t change) t c.dup.new.table h c.dup.new.objects
    c.dup.result) (sym c.in-Dup.is) (c.dup.ensures.done p)
