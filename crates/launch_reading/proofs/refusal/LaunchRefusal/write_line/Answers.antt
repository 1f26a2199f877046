use Rattle.std.proofs.Common.{◌∙◌, ◌++◌}
use Rattle.std.proofs.lemmas.Result.{on_ok_weaker, on_err_weaker}
use Rattle.input_output.proofs.OutputParts.{for_err}
use Rattle.launch_reading.specs.Refusal.{name_of, number_of, back_of}
use Rattle.launch_reading.proofs.LineParts.{began, went_on, ended_line, failed_first, failed_later, failed_last}
use Rattle.launch_reading.proofs.refusal.LaunchRefusal.write_line.Goals as goal

pub returns-in_err-write_whole-clause-failed_prefix : goal.returns-in_err-write_whole-clause-failed_prefix
returns-in_err-write_whole-clause-failed_prefix g c =
    for_err _ (failed_first c.args.self.now _ _ _ (c.as_bytes.ensures.value ∙ c.front.ensures) c.in_err-write_whole.ensures.failed_prefix)

pub returns-in_err-write_whole-2-clause-failed_prefix : goal.returns-in_err-write_whole-2-clause-failed_prefix
returns-in_err-write_whole-2-clause-failed_prefix g c =
    let r = c.args.self.now in
    let front = began r _ _ _ (c.as_bytes.ensures.value ∙ c.front.ensures) c.in_ok-write_whole.ensures.ok in
    for_err _ (failed_later r _ _ _ (name_of r) _ (number_of r ++ back_of r) front (c.as_bytes-2.ensures.value ∙ c.name.ensures) c.in_err-write_whole-2.ensures.failed_prefix)

pub returns-in_err-write_whole-3-clause-failed_prefix : goal.returns-in_err-write_whole-3-clause-failed_prefix
returns-in_err-write_whole-3-clause-failed_prefix g c =
    let r = c.args.self.now in
    let front = began r _ _ _ (c.as_bytes.ensures.value ∙ c.front.ensures) c.in_ok-write_whole.ensures.ok in
    let name = went_on r _ _ _ (name_of r) _ (number_of r ++ back_of r) front (c.as_bytes-2.ensures.value ∙ c.name.ensures) c.in_ok-write_whole-2.ensures.ok in
    for_err _ (failed_later r _ _ _ (number_of r) _ (back_of r) name (c.as_bytes-3.ensures.value ∙ c.number.ensures) c.in_err-write_whole-3.ensures.failed_prefix)

pub returns-clause-ok : goal.returns-clause-ok
returns-clause-ok g c =
    let r = c.args.self.now in
    let front = began r _ _ _ (c.as_bytes.ensures.value ∙ c.front.ensures) c.in_ok-write_whole.ensures.ok in
    let name = went_on r _ _ _ (name_of r) _ (number_of r ++ back_of r) front (c.as_bytes-2.ensures.value ∙ c.name.ensures) c.in_ok-write_whole-2.ensures.ok in
    let number = went_on r _ _ _ (number_of r) _ (back_of r) name (c.as_bytes-3.ensures.value ∙ c.number.ensures) c.in_ok-write_whole-3.ensures.ok in
    on_ok_weaker c.write_whole-4.result (ended_line r _ _ _ _ number (c.as_bytes-4.ensures.value ∙ c.back.ensures)) c.write_whole-4.ensures.ok

pub returns-clause-failed_prefix : goal.returns-clause-failed_prefix
returns-clause-failed_prefix g c =
    let r = c.args.self.now in
    let front = began r _ _ _ (c.as_bytes.ensures.value ∙ c.front.ensures) c.in_ok-write_whole.ensures.ok in
    let name = went_on r _ _ _ (name_of r) _ (number_of r ++ back_of r) front (c.as_bytes-2.ensures.value ∙ c.name.ensures) c.in_ok-write_whole-2.ensures.ok in
    let number = went_on r _ _ _ (number_of r) _ (back_of r) name (c.as_bytes-3.ensures.value ∙ c.number.ensures) c.in_ok-write_whole-3.ensures.ok in
    on_err_weaker c.write_whole-4.result (failed_last r _ _ _ _ number (c.as_bytes-4.ensures.value ∙ c.back.ensures)) c.write_whole-4.ensures.failed_prefix
