-- How a call ends.
--     tree_lacked      memory ran out in it
--     read_as_done      it only reads
use Rattle.std.proofs.Common.{◌≡◌, Bool, true, Result, Ok, Err, IsErr, refl, ap}
use Rattle.std.specs.declared.alloc.AllocError.{AllocError}
use Rattle.abi_types.specs.declared.reply.Reply.{Reply}
use Rattle.tree_model.specs.Tree.{Tree}
use Rattle.kernel_model.specs.Outcome.{Outcome, IsSuccess}
use Rattle.kernel_model.proofs.Tests.{not_true}
use Rattle.file_calls.specs.Done.{IsReadDone, IsTreeDone, tree_after}

pub tree_lacked : (o : Outcome) (t u : Tree) (r : Result Reply AllocError) → IsErr r → IsSuccess o.answer → u ≡ t → IsTreeDone true o t u r
tree_lacked o t u (Ok reply) failed succeeds stays = absurd (not_true failed)
tree_lacked o t u (Err e) failed succeeds stays = (refl, succeeds, stays)

pub read_as_done : (takes : Bool) (o : Outcome) (t : Tree) (r : Result Reply AllocError) → IsReadDone takes o r → IsTreeDone takes o t t r
read_as_done takes o t (Ok reply) done = (ap (λ (x : Outcome). x.answer) done, ap (λ (x : Outcome). tree_after x.updates t) done)
read_as_done takes o t (Err e) done = (done.0, done.1, refl)
