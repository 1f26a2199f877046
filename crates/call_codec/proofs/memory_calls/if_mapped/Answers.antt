use Rattle.std.proofs.Common.{ℕ, ◌/◌, subst}
use Rattle.guest_memory.specs.Mapping.{AreThere, ProtectFails}
use Rattle.call_codec.proofs.MemoryCalls.{mapped_is_success, missing_is_fault}
use Rattle.call_codec.proofs.memory_calls.if_mapped.Goals as goal

pub returns-in-Ok : goal.returns-in-Ok
returns-in-Ok c =
    mapped_is_success c.args.memory.now c.args.at c.args.bytes
    (subst (λ (k : ℕ). AreThere c.args.memory.now (c.args.at / 4096) k) c.pages_in.ensures c.in-Ok.ensures.ok)

pub returns-in-Err : goal.returns-in-Err
returns-in-Err c =
    missing_is_fault c.args.memory.now c.args.at c.args.bytes c.in-Err.field-0
    (subst (λ (k : ℕ). ProtectFails c.args.memory.now (c.args.at / 4096) k c.in-Err.field-0) c.pages_in.ensures c.in-Err.ensures.fault)
