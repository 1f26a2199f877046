use Rattle.std.proofs.Common.{refl}
use Rattle.rand_core.specs.Steps.{u32_at}
use Rattle.rand_chacha.specs.Block.{block_word, column_round, diagonal_round, double_rounds, quarter_round}
use Rattle.clock_random.specs.KnownAnswers.{FirstBlock, OtherStream, SecondBlock}
use Rattle.clock_random.specs.Random.{keystream, random_bytes}

pub first_block : FirstBlock
unfolding random_bytes keystream u32_at quarter_round column_round diagonal_round double_rounds block_word
first_block = refl

pub second_block : SecondBlock
unfolding random_bytes keystream u32_at quarter_round column_round diagonal_round double_rounds block_word
second_block = refl

pub other_stream : OtherStream
unfolding random_bytes keystream u32_at quarter_round column_round diagonal_round double_rounds block_word
other_stream = refl
