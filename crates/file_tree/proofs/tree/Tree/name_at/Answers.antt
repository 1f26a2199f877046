use Rattle.std.proofs.Common.{ap, ◌∙◌, option_map}
use Rattle.file_tree.specs.Listing.{shown}
use Rattle.file_tree.proofs.Views.{no_entry_at}
use Rattle.file_tree.proofs.tree.Tree.name_at.Goals as goal

pub returns-in_err-names : goal.returns-in_err-names
returns-in_err-names c = ap (option_map shown) c.from_residual.ensures ∙ no_entry_at _ c.args.place c.in_err-names.ensures
