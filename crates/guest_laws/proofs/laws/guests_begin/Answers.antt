use Rattle.guest_laws.proofs.Guests.{child_is_copied, forks_split, program_is_fresh, programs_start_fresh}
use Rattle.guest_laws.proofs.laws.guests_begin.Goals as goal

pub returns-clause-child : goal.returns-clause-child
returns-clause-child c = child_is_copied

pub returns-clause-program : goal.returns-clause-program
returns-clause-program c = program_is_fresh

pub returns-clause-forks : goal.returns-clause-forks
returns-clause-forks c = forks_split

pub returns-clause-programs : goal.returns-clause-programs
returns-clause-programs c = programs_start_fresh
