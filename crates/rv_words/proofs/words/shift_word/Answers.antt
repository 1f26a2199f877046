use Rattle.std.proofs.Common.{arith}
use Rattle.rv_words.proofs.Decodes.{shifts}
use Rattle.rv_words.proofs.words.shift_word.Goals as goal

pub returns : goal.returns
returns c = shifts _ _ _ c.shift_row-row.result.funct7 c.args.amount c.word.ensures c.shift_row-row.ensures.opcode c.shift_row-row.ensures.shifts c.shift_row-row.ensures.operation (omega arith) (omega arith)
