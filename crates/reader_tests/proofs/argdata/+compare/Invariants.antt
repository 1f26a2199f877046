use Rattle.std.proofs.Common.{◌+◌, ◌*◌}
use Rattle.reader_tests.proofs.argdata.+compare.Given as goal

abbrev pub decreases-has_form : goal.decreases-has_form
decreases-has_form l = 2 * l.depth + 1

abbrev pub decreases-have_forms : goal.decreases-have_forms
decreases-have_forms l = 2 * l.depth

abbrev pub decreases-have_forms_in_pairs : goal.decreases-have_forms_in_pairs
decreases-have_forms_in_pairs l = 2 * l.depth
