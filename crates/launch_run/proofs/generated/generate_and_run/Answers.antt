use Rattle.std.proofs.Common.{subst}
use Rattle.std.specs.Prelude.{Option}
use Rattle.command_line.specs.declared.generating.GenerateSettings.{GenerateSettings}
use Rattle.book_report.specs.Growth.{growth}
use Rattle.launch_run.specs.GeneratedCall.{IsGeneratedEnd}
use Rattle.launch_run.proofs.generated.generate_and_run.Goals as goal

pub returns-in-Some-clause-end : goal.returns-in-Some-clause-end
returns-in-Some-clause-end g c =
    subst
    (λ (o : Option GenerateSettings). IsGeneratedEnd o (growth g.K.Sink.written g.K.Sink.faults c.args.sink.now c.run_numbers.new.sink) c.run_numbers.result)
    c.in-Some.ensures.value c.run_numbers.ensures.end

pub returns-in-None-clause-end : goal.returns-in-None-clause-end
returns-in-None-clause-end g c =
    subst
    (λ (o : Option GenerateSettings). IsGeneratedEnd o (growth g.K.Sink.written g.K.Sink.faults c.args.sink.now c.refused.new.sink) c.refused.result)
    c.in-None.ensures.value (c.refused.ensures.end, c.refused.ensures.wrote)
