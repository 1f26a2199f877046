use Rattle.call_laws.proofs.GivenNumbers.{gives_lowest, wakes_give_lowest}
use Rattle.call_laws.proofs.Numbers.{lowest_is_lowest}
use Rattle.call_laws.proofs.laws.numbers_are_lowest.Goals as goal

pub returns-clause-lowest : goal.returns-clause-lowest
returns-clause-lowest c = lowest_is_lowest

pub returns-clause-given : goal.returns-clause-given
returns-clause-given c = gives_lowest

pub returns-clause-woken : goal.returns-clause-woken
returns-clause-woken c = wakes_give_lowest
