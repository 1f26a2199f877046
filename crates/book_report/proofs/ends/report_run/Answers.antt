use Rattle.std.proofs.Common.{◌≡◌, ◌∙◌, refl}
use Rattle.book_report.specs.Growth.{growth}
use Rattle.book_report.specs.Shown.{keeps_entries, recorded, shown_text}
use Rattle.book_report.proofs.BookEnds.{reported, unreported, unwritten}
use Rattle.book_report.proofs.ends.report_run.Goals as goal

pub returns-in_default-clause-end : goal.returns-in_default-clause-end
returns-in_default-clause-end g c =
    unreported c.args.book (keeps_entries c.args.shown) c.requires.of (shown_text c.args.shown) c.args.ending c.requires.over (growth g.K.Sink.written g.K.Sink.faults c.args.sink.now c.args.sink.now) _ c.record_of.ensures refl

pub returns-in-Ok-write_whole-clause-end : goal.returns-in-Ok-write_whole-clause-end
returns-in-Ok-write_whole-clause-end g c =
    let text_is : c.as_slice.result.now ≡ shown_text c.args.shown (recorded c.args.book) = c.as_slice.ensures ∙ c.in-Ok.ensures in
    reported c.args.book (keeps_entries c.args.shown) c.requires.of (shown_text c.args.shown) c.args.ending c.requires.over _ c.reported_end.result c.reported_end.ensures
    c.as_slice.result.now text_is c.in-Ok-write_whole.ensures.ok

pub returns-clause-end : goal.returns-clause-end
returns-clause-end g c =
    let text_is : c.as_slice.result.now ≡ shown_text c.args.shown (recorded c.args.book) = c.as_slice.ensures ∙ c.in-Ok.ensures in
    unwritten c.args.book (keeps_entries c.args.shown) c.requires.of (shown_text c.args.shown) c.args.ending c.requires.over _ _ c.record_of-in-Err.ensures c.as_slice.result.now text_is
    c.in-Err.ensures.failed c.in-Err.ensures.failed_prefix
