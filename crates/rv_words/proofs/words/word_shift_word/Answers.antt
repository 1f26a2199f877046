use Rattle.rv_words.proofs.Decodes.{word_shifts}
use Rattle.rv_words.proofs.words.word_shift_word.Goals as goal

pub returns : goal.returns
returns c = word_shifts _ _ _ c.word.ensures c.word_shift_row-row.ensures.opcode c.word_shift_row-row.ensures.shifts c.word_shift_row-row.ensures.operation
