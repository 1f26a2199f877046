use Rattle.kernel_model.proofs.ThreadLaws.{thread_is_made, threads_are_few}
use Rattle.kernel_model.proofs.thread_laws.threads_are_numbered.Goals as goal

pub returns-clause-few : goal.returns-clause-few
returns-clause-few c = threads_are_few

pub returns-clause-made : goal.returns-clause-made
returns-clause-made c = thread_is_made
