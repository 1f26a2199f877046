use Rattle.std.proofs.Common.{refl, ◌||◌}
use Rattle.rv_syntax.specs.Mnemonics.{word_atomics}
use Rattle.rv_words.specs.Ops.{is_atomic, is_reserve}
use Rattle.rv_syntax.proofs.Tables.{lookup_passes}
use Rattle.rv_syntax.proofs.mnemonics.word_atomic.Goals as goal

pub returns-clause-atomic : goal.returns-clause-atomic
returns-clause-atomic c = lookup_passes (λ op. is_reserve op || is_atomic op) word_atomics c.args.name.now c.lookup.result refl c.lookup.ensures
