-- What an escape says, or that it is wrong.
use Rattle.std.proofs.Common.{ℕ, suc, List, length, sym, ap, ◌∙◌}
use Rattle.launch_scalars.specs.Quoted.{spoiled, in_double}
use Rattle.launch_scalars.specs.PieceViews.{bytes_of}
use Rattle.launch_scalars.proofs.Parts.{escape_said, escape_is_wrong}
use Rattle.launch_scalars.proofs.quoted.escaped_part.Goals as goal

pub returns-in-Some-clause-reads : goal.returns-in-Some-clause-reads
returns-in-Some-clause-reads c = escape_said c.args.bytes.now (bytes_of c.in-Some.piece) c.in-Some.after.now c.in-Some.ensures.reads

pub returns-in-None-clause-reads : goal.returns-in-None-clause-reads
returns-in-None-clause-reads c =
    escape_is_wrong c.args.bytes.now c.in-None.ensures.reads ∙ ap (λ (rest : List ℕ). spoiled (suc (length c.args.bytes.now)) (in_double 0 rest)) (sym c.behind_one.ensures)
