use Rattle.launch_laws.proofs.TagRows.{tag_row_changes_the_tag}
use Rattle.launch_laws.proofs.laws.tag_lines_change_the_tag.Goals as goal

pub returns : goal.returns
returns c = tag_row_changes_the_tag
