use Rattle.kernel_model.proofs.Touches.{channels_are_left, release_keeps_or_ends}
use Rattle.kernel_model.proofs.Valids.{left_is_held, released_kept}
use Rattle.kernel_model.proofs.laws.release_ends.Goals as goal

pub returns-clause-parts : goal.returns-clause-parts
returns-clause-parts c = release_keeps_or_ends

pub returns-clause-left : goal.returns-clause-left
returns-clause-left c = λ S. (left_is_held S, released_kept S)

pub returns-clause-channels : goal.returns-clause-channels
returns-clause-channels c = channels_are_left
