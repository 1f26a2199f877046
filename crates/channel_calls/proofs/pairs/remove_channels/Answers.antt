use Rattle.std.proofs.Common.{◌+◌, ℕ, sym, ap, ◌∙◌}
use Rattle.std.specs.FinMap.{remove}
use Rattle.channel_calls.specs.declared.pairs.Pair.{Pair}
use Rattle.channel_calls.proofs.PairCounts.{gone_fifo, gone_stream}
use Rattle.channel_calls.proofs.pairs.remove_channels.Goals as goal

pub returns-in-Fifo : goal.returns-in-Fifo
returns-in-Fifo c before none made =
    let first = ap (λ (p : Pair). p.first) c.pair.view_is in
    gone_fifo c.args.pair.now before c.args.channels.now c.remove.new.self (sym (ap (λ (p : Pair). p.kind) c.pair.view_is) ∙ c.in-Fifo.is) none made
    (c.remove.ensures ∙ ap (λ (k : ℕ). remove c.args.channels.now k) first)

pub returns-in-Stream : goal.returns-in-Stream
returns-in-Stream c before none made =
    let first = ap (λ (p : Pair). p.first) c.pair.view_is in
    gone_stream c.args.pair.now before c.args.channels.now c.remove-in-Stream.new.self c.remove-in-Stream-2.new.self
    (sym (ap (λ (p : Pair). p.kind) c.pair.view_is) ∙ c.in-Stream.is) none made
    (c.remove-in-Stream.ensures ∙ ap (λ (k : ℕ). remove c.args.channels.now (k + 1)) first)
    (c.remove-in-Stream-2.ensures ∙ ap (λ (k : ℕ). remove c.remove-in-Stream.new.self k) first)
