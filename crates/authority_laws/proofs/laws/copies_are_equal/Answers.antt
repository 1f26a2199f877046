use Rattle.authority_laws.proofs.Copies.{duplicates_are_equal, replacements_are_equal}
use Rattle.authority_laws.proofs.laws.copies_are_equal.Goals as goal

pub returns-clause-duplicates : goal.returns-clause-duplicates
returns-clause-duplicates c = duplicates_are_equal

pub returns-clause-replacements : goal.returns-clause-replacements
returns-clause-replacements c = replacements_are_equal
