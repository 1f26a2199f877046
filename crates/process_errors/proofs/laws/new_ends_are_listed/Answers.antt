use Rattle.process_errors.proofs.PairErrors as laws
use Rattle.process_errors.proofs.laws.new_ends_are_listed.Goals as goal

pub returns-clause-one : goal.returns-clause-one
returns-clause-one c = laws.create_one_is_listed

pub returns-clause-pair : goal.returns-clause-pair
returns-clause-pair c = laws.pair_is_listed
