use Rattle.rv_words.proofs.Decodes.{registers}
use Rattle.rv_words.proofs.words.register_word.Goals as goal

pub returns : goal.returns
returns c = registers _ _ _ c.word.ensures c.register_row-row.ensures.operation
