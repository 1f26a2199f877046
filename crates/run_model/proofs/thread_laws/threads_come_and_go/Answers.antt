use Rattle.run_model.proofs.ThreadLaws as laws
use Rattle.run_model.proofs.thread_laws.threads_come_and_go.Goals as goal

pub returns-clause-begins : goal.returns-clause-begins
returns-clause-begins c = laws.new_thread_begins

pub returns-clause-ends : goal.returns-clause-ends
returns-clause-ends c = laws.ended_thread_is_gone

pub returns-clause-up : goal.returns-clause-up
returns-clause-up c = laws.thread_numbers_go_up

pub returns-clause-gone : goal.returns-clause-gone
returns-clause-gone c = laws.gone_stays_gone

pub returns-clause-others : goal.returns-clause-others
returns-clause-others c = laws.others_keep_threads
