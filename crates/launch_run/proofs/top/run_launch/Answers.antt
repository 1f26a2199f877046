use Rattle.std.proofs.Common.{ap, sym, ◌∙◌}
use Rattle.launch_run.specs.declared.top.Finished.{Finished}
use Rattle.launch_run.proofs.TopAnswers.{answers, top_input, top_words, top_words_refused}
use Rattle.launch_run.proofs.top.run_launch.Goals as goal

pub returns-clause-words : goal.returns-clause-words
returns-clause-words g c is =
    (top_words _ _ _ _ _ c.launch_and_run.result c.launch_and_run.ensures.end (ap (λ (f : Finished). f.status) (sym c.finish.ensures) ∙ is)).none_given

pub returns-clause-words_refused : goal.returns-clause-words_refused
returns-clause-words_refused g c = rw (c.finish.ensures) (top_words_refused _ _ _ _ _ c.launch_and_run.result c.launch_and_run.ensures.end)

pub returns-clause-unread : goal.returns-clause-unread
returns-clause-unread g c = c.launch_and_run.ensures.unread

pub returns-clause-input : goal.returns-clause-input
returns-clause-input g c is =
    top_input _ _ _ _ _ c.launch_and_run.result c.launch_and_run.ensures.end (ap (λ (f : Finished). f.status) (sym c.finish.ensures) ∙ is)

pub returns-clause-answer : goal.returns-clause-answer
returns-clause-answer g c = rw (c.finish.ensures) (answers _ _ _ _ _ c.launch_and_run.result c.launch_and_run.ensures.end)
