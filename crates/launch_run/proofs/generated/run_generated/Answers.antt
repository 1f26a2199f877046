use Rattle.std.proofs.Common.{ap, sym, ◌∙◌}
use Rattle.launch_run.specs.declared.top.Finished.{Finished}
use Rattle.launch_run.proofs.GeneratedAnswers.{gen_answers, gen_status, gen_words, gen_words_refused}
use Rattle.launch_run.proofs.generated.run_generated.Goals as goal

pub returns-clause-statuses : goal.returns-clause-statuses
returns-clause-statuses g c = rw (c.finish.ensures) (gen_status _ c.generate_and_run.result _ c.generate_and_run.ensures.end)

pub returns-clause-words : goal.returns-clause-words
returns-clause-words g c is = gen_words _ c.generate_and_run.result _ c.generate_and_run.ensures.end (ap (λ (f : Finished). f.status) (sym c.finish.ensures) ∙ is)

pub returns-clause-words_refused : goal.returns-clause-words_refused
returns-clause-words_refused g c = rw (c.finish.ensures) (gen_words_refused _ c.generate_and_run.result _ c.generate_and_run.ensures.end)

pub returns-clause-answer : goal.returns-clause-answer
returns-clause-answer g c = rw (c.finish.ensures) (gen_answers _ c.generate_and_run.result _ c.generate_and_run.ensures.end)
