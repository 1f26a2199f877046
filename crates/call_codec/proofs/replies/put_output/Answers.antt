use Rattle.std.proofs.Common.{inl, inr, subst}
use Rattle.abi_types.specs.declared.call.Call.{Call}
use Rattle.call_codec.specs.Put.{HasFewRanges}
use Rattle.call_codec.proofs.replies.put_output.Goals as goal

pub put_content-requires : goal.put_content-requires
put_content-requires c =
    let few = λ (call : Call). HasFewRanges c.args.regs.now call in
    elim c.in-FdPread.is [
      | inl it ↦ subst few it.3 c.requires.few
      | inr it ↦ subst few it.2 c.requires.few
    ]
