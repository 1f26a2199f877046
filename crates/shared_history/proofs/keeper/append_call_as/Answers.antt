use Rattle.std.proofs.Common.{◌<◌, sym, ◌∙◌, arith}
use Rattle.shared_history.specs.Entries.{answered_call}
use Rattle.shared_history.proofs.Steps.{appends_at}
use Rattle.shared_history.proofs.keeper.append_call_as.Goals as goal

pub fetch_add-requires : goal.fetch_add-requires
fetch_add-requires g c =
    let passes = c.args.passes.now in
    let word : 0 < passes.table.shared.table_id.words = omega (arith, passes.one_word) in (
      c.requires.table ∙ sym passes.table_is,
      word,
      appends_at g.J.Naming.launch passes.table.shared.key passes.table.shared.table_id.slots c.args.seat.now.id c.args.seat.now.me (answered_call c.args.head.now c.args.call.now c.args.given c.args.answer.now) g.E.EntryName.entry
          passes.launch_is c.requires.rest c.requires.entry (λ _. c.requires.covers) c.requires.fits c.requires.room,
    )
