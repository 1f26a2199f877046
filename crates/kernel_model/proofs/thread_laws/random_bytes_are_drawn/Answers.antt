use Rattle.kernel_model.proofs.ThreadLaws.{random_hangs_on_place, random_is_drawn, random_is_given}
use Rattle.kernel_model.proofs.thread_laws.random_bytes_are_drawn.Goals as goal

pub returns-clause-drawn : goal.returns-clause-drawn
returns-clause-drawn c = random_is_drawn

pub returns-clause-given : goal.returns-clause-given
returns-clause-given c = random_is_given

pub returns-clause-same : goal.returns-clause-same
returns-clause-same c = random_hangs_on_place
