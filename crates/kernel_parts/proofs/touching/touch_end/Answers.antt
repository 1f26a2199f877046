use Rattle.std.proofs.Common.{sym, ap, ◌∙◌}
use Rattle.abi_types.specs.declared.open_kind.OpenKind.{OpenKind}
use Rattle.wait_set.specs.Waits.{touched, where_so}
use Rattle.kernel_parts.specs.Touching.{stands_at, stands_at_end}
use Rattle.kernel_parts.proofs.LeftEntries.{both_ends, no_end}
use Rattle.kernel_parts.proofs.touching.touch_end.Goals as goal

pub returns-in-End : goal.returns-in-End
returns-in-End c =
    c.touch_channel-in-End.ensures ∙ ap (λ m. where_so (stands_at c.in-End.writes) (λ _ w. touched w) m) c.touch_channel.ensures
    ∙ both_ends c.in-End.reads c.in-End.writes c.in-End.flags c.in-End.kind c.args.waits.now
    ∙ ap (λ (k : OpenKind). where_so (stands_at_end k) (λ _ w. touched w) c.args.waits.now) (sym c.in-End.is)

pub returns-in_default : goal.returns-in_default
returns-in_default c = no_end c.args.kind.now c.args.waits.now c.in_default.not-End
