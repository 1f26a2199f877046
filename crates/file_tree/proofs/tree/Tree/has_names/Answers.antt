use Rattle.file_tree.proofs.Climbs.{no_names_there}
use Rattle.file_tree.proofs.tree.Tree.has_names.Goals as goal

pub returns-in-None : goal.returns-in-None
returns-in-None c = no_names_there _ c.in-None.ensures
