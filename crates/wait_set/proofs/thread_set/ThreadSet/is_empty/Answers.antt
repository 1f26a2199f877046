use Rattle.std.proofs.Common.{◌∙◌}
use Rattle.maps.proofs.NumberEntries.{len_of, zero_len_iff}
use Rattle.wait_set.proofs.thread_set.ThreadSet.is_empty.Goals as goal

pub returns : goal.returns
returns c = record { empty = zero_len_iff c.args.self.now c.len.result (c.len.ensures.len ∙ len_of _ _ c.self.view_is c.len.ensures.ordered) }
