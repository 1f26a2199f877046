use Rattle.file_tree.proofs.Views.{no_entry}
use Rattle.file_tree.proofs.tree.Tree.entry.Goals as goal

pub returns-in-None : goal.returns-in-None
returns-in-None c = no_entry _ c.args.name.now c.in-None.ensures
