-- what stands before the zero byte is a text where it is UTF-8
use Rattle.std.proofs.Common.{ap, ◌∙◌, sym, List, ℕ}
use Rattle.std.specs.Prelude.{Option, Some}
use Rattle.argdata_codec.proofs.Texts.{text_found, text_refused}
use Rattle.argdata_codec.proofs.reading.text.Goals as goal

abbrev some : List ℕ → Option (List ℕ)
some x = Some x

pub returns-in_ok-from_str-in-Ok : goal.returns-in_ok-from_str-in-Ok
returns-in_ok-from_str-in-Ok c =
    text_found c.args.body.now c.in_ok-content.content.now c.in_ok-content.ensures c.in-Ok.ensures.cases.1
    ∙ ap some (sym (c.from_string.ensures ∙ c.in_ok-from_str-in-Ok.ensures.ok ∙ c.in-Ok.ensures.cases.0))

pub returns-in-Err : goal.returns-in-Err
returns-in-Err c = text_refused c.args.body.now c.in_ok-content.content.now c.in_ok-content.ensures c.in-Err.ensures.cases.0
