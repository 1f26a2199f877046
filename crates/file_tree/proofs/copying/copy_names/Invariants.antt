use Rattle.file_tree.proofs.Copies.{CopiesBut}
use Rattle.file_tree.proofs.copying.copy_names.Given as goal

-- the names so far are as in the other map, and the rest is still to come
abbrev pub invariant-loop-name : goal.invariant-loop-name
invariant-loop-name l = CopiesBut l.name-iterator l.names l.made
