use Rattle.std.proofs.Common.{ℕ, sym, ap, ◌∙◌}
use Rattle.std.specs.FinMap.{len, len-empty}
use Rattle.maps.specs.Names.{name_cmp}
use Rattle.tree_model.specs.Tree.{names_in}
use Rattle.file_tree.proofs.tree.Tree.names_len.Goals as goal

pub returns-in-None-clause-names : goal.returns-in-None-clause-names
returns-in-None-clause-names c = sym (len-empty name_cmp ℕ) ∙ ap (λ o. len (names_in o)) c.in-None.ensures
