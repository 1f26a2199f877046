use Rattle.std.proofs.Common.{◌∙◌, ap, length, arith}
use Rattle.file_tree.proofs.Bytes.{written_over}
use Rattle.file_tree.proofs.file_bytes.write_content.Goals as goal

pub returns-clause-ok : goal.returns-clause-ok
returns-clause-ok c =
    written_over c.args.content.now.items c.resize.new.self.items c.put.new.content c.args.new.now
    c.args.at c.max-size.result c.args.content.now.len c.resize.new.self.len
    (omega arith) (omega arith) c.in_ok-resize.ensures.items (omega arith)
    (rw c.as_mut_slice.ensures.value at c.put.ensures) (c.put.auto.content ∙ ap length c.as_mut_slice.ensures.value)
