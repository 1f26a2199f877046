use Rattle.std.proofs.Common.{arith}
use Rattle.rv_words.proofs.Decodes.{uppers}
use Rattle.rv_words.proofs.words.upper_word.Goals as goal

pub returns : goal.returns
returns c = uppers _ _ _ c.args.value c.word.ensures c.upper_opcode.ensures.operation (omega arith)
