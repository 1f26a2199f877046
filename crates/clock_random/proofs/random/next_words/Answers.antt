use Rattle.std.proofs.Common.{length}
use Rattle.clock_random.proofs.Drawn.{filled_from}
use Rattle.clock_random.proofs.random.next_words.Goals as goal

pub returns : goal.returns
returns c =
    filled_from c.args.key.now c.args.stream c.args.place (length c.args.out.now) c.from.result c.from-2.result c.from_seed-rng.result
    c.set_stream.new.self c.set_word_pos.new.self c.fill_bytes.new.dst _ c.from.ensures c.from-2.ensures c.from_seed-rng.ensures
    c.set_stream.ensures c.set_word_pos.ensures c.fill_bytes.ensures
