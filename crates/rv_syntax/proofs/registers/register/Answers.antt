use Rattle.std.proofs.Common.{refl}
use Rattle.rv_syntax.specs.Registers.{registers}
use Rattle.rv_syntax.proofs.Tables.{lookup_below}
use Rattle.rv_syntax.proofs.registers.register.Goals as goal

pub returns-clause-small : goal.returns-clause-small
returns-clause-small c = lookup_below 32 registers c.args.text.now c.lookup.result refl c.lookup.ensures
