use Rattle.std.proofs.Common.{refl}
use Rattle.kernel_cell.proofs.Begins.{started}
use Rattle.shared_history.proofs.KeptEntries.{kept_none}
use Rattle.shared_history.proofs.Steps.{begins}
use Rattle.kernel_cell.proofs.cell.Begun.begin.Goals as goal

pub of_words-requires : goal.of_words-requires
of_words-requires c = begins c.args.launch c.requires.begins

pub invariant_of-result : goal.invariant_of-result
invariant_of-result c =
    let made = c.in_ok-table.ensures in
    record {
      bounded = c.requires;
      seat = made.2;
      word = made.0;
      key_is = made.5;
      first = made.4;
      state = started c.args.launch c.in_ok-kernel.kernel c.in_ok-kernel.ensures.state;
      none = kept_none _ _ refl c.new.ensures.entries c.new.ensures.denied;
    }
