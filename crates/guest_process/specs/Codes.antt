-- The code of a guest, by which proofs distinguish guests: the tuple of its fields.
use Rattle.std.specs.Prelude.{ℕ, refl}
use Rattle.std.specs.Ordering.{nat_cmp}
use Rattle.std.specs.FinMap.{FinMap, code}
use Rattle.std.specs.Coded.{Coded, code_by, coded×, coded_ℕ}
use Rattle.abi_base.specs.Registers.{Registers}
use Rattle.abi_base.specs.contracts.regs.Regs as regs
use Rattle.guest_memory.specs.Page.{Pages, page_code}
use Rattle.run_model.specs.World.{Guest}

abbrev pub guest_code : Coded Guest
guest_code =
    code_by (Pages × (FinMap nat_cmp Registers × ℕ)) (coded× (code coded_ℕ page_code) (coded× (code coded_ℕ regs.the_row.coded) coded_ℕ))
    (λ g. (g.memory, (g.regs, g.left))) (λ f. record { memory = f.0; regs = f.1.0; left = f.1.1 }) (λ _. refl)
