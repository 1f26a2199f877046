use Rattle.std.proofs.Common.{ap, inl, inr, sym}
use Rattle.command_line.specs.Settings.{Settings, view}
use Rattle.launch_run.proofs.GeneratedInputs.{run_of}
use Rattle.launch_run.proofs.generated.run_numbers.Goals as goal

pub run_settings-requires-clause-kept : goal.run_settings-requires-clause-kept
run_settings-requires-clause-kept g c = λ _ _. sym (ap (λ (s : Settings). s.history) c.settings_for-settings.ensures.settings)

pub returns-in_default-clause-end : goal.returns-in_default-clause-end
returns-in_default-clause-end g c = inl (c.refused.ensures.end, c.refused.ensures.wrote)

pub returns-clause-end : goal.returns-clause-end
returns-clause-end g c =
    inr (run_of c.args.numbers c.in-Ok.source c.in-Ok.ensures (view c.settings_for-settings.result) c.settings_for-settings.ensures.settings _ c.run_settings.result
    c.run_settings.ensures.end)
