use Rattle.rv_asm.proofs.EmptyLine.{empty_size}
use Rattle.rv_asm.proofs.statement.piece_of.Goals as goal

pub returns-then-is_empty-clause-size : goal.returns-then-is_empty-clause-size
returns-then-is_empty-clause-size c = empty_size c.args.content.now (search c.if-is_empty.ensures)
