use Rattle.kernel_parts.proofs.LeftEntries.{none_at}
use Rattle.kernel_parts.proofs.touching.touch_channel.Goals as goal

pub returns-in_default : goal.returns-in_default
returns-in_default c = none_at c.args.id c.args.waits.now c.in_default.not-Some
