use Rattle.std.proofs.Common.{ap, ◌∙◌}
use Rattle.turn_queue.specs.Numbered.{led_no_more}
use Rattle.turn_queue.proofs.Numbering.{led_back}
use Rattle.turn_queue.proofs.ready_tickets.Lines.add.Goals as goal

pub returns-in-Err-clause-err_firsts : goal.returns-in-Err-clause-err_firsts
returns-in-Err-clause-err_firsts c =
    c.lead_no_more.ensures.firsts ∙ ap (led_no_more c.args.first) c.in_ok-lead.ensures.ok ∙ led_back c.args.pid c.args.first c.args.self.now.firsts c.requires
