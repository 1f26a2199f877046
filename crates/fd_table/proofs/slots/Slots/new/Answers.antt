use Rattle.std.proofs.Common.{List, Option, sym, ap, ◌∙◌}
use Rattle.std.specs.Ordering.{nat_cmp}
use Rattle.std.specs.FinMap.{len, len-empty}
use Rattle.abi_types.specs.declared.descriptor.Descriptor.{Descriptor}
use Rattle.fd_table.specs.Slots.{filled}
use Rattle.fd_table.specs.Table.{Table}
use Rattle.fd_table.proofs.Filled.{filled_none}
use Rattle.fd_table.proofs.slots.Slots.new.Goals as goal

pub invariant_of-result : goal.invariant_of-result
invariant_of-result c =
    sym (ap (λ (m : Table). len m) (ap (λ (l : List (Option Descriptor)). filled l) c.new.ensures.items ∙ filled_none) ∙ len-empty nat_cmp Descriptor)

pub returns : goal.returns
returns c = ap (λ (l : List (Option Descriptor)). filled l) c.new.ensures.items ∙ filled_none
