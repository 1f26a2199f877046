use Rattle.std.proofs.Common.{◌≡◌, ◌≢◌, ◌∙◌, [], map, ap, subst, string_bytes}
use Rattle.std.proofs.lemmas.Result.{err_from_is_err_and}
use Rattle.clap.specs.Words.{App, fault_of, found_of, matches_of}
use Rattle.command_line.specs.Reading.{IfAt}
use Rattle.command_line.proofs.Meanings.{means, settings_read, stopped, texts_of}
use Rattle.command_line.proofs.reading.read_words.Goals as goal

pub returns-in_err-matches-clause-read : goal.returns-in_err-matches-clause-read
returns-in_err-matches-clause-read c =
    let words = map string_bytes c.args.words.now in
    let p = err_from_is_err_and c.from_residual-in_err-matches.result c.from_residual-in_err-matches.ensures.1 in
    rw (p.1, p.2)
    (stopped words c.in_err-matches.field-0.0 (texts_of c.args.words.now)
    (subst (λ (a : App). IfAt c.in_err-matches.field-0.0 (fault_of a words ≢ [])) c.in_ok-command.ensures c.in_err-matches.ensures.refused))

pub returns-clause-read : goal.returns-clause-read
returns-clause-read c =
    let words = map string_bytes c.args.words.now in
    let taken = subst (λ (a : App). fault_of a words ≡ []) c.in_ok-command.ensures c.in_ok-matches.ensures.taken in
    let rows = c.in_ok-matches.ensures.matches ∙ ap (λ (a : App). matches_of a words) c.in_ok-command.ensures in
    let meant = means words (texts_of c.args.words.now) taken (found_of c.in_ok-matches.matches) rows in
    settings_read c.settings.result c.ok_or.result _ words _ meant.2 (c.settings.ensures.value meant.0 meant.1) c.ok_or.ensures.value
