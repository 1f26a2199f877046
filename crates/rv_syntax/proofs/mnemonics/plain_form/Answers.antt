use Rattle.std.proofs.Common.{refl}
use Rattle.rv_syntax.specs.Forms.{is_fit}
use Rattle.rv_syntax.specs.Mnemonics.{mnemonics}
use Rattle.rv_syntax.proofs.Tables.{lookup_passes}
use Rattle.rv_syntax.proofs.mnemonics.plain_form.Goals as goal

pub returns-clause-fit : goal.returns-clause-fit
returns-clause-fit c = lookup_passes is_fit mnemonics c.args.mnemonic.now c.lookup.result refl c.lookup.ensures
