-- What a call leaves of an open that it moves.
use Rattle.std.specs.Prelude.{◌≡◌, Bool, true, Option, None, Some, Result, Ok, Err}
use Rattle.std.specs.declared.alloc.AllocError.{AllocError}
use Rattle.abi_types.specs.declared.open_kind.OpenKind.{OpenKind}
use Rattle.abi_types.specs.declared.reply.Reply.{Reply}
use Rattle.tree_model.specs.Tree.{Tree}
use Rattle.kernel_model.specs.Families.FileOffsets.{OffsetOutcome}
use Rattle.kernel_model.specs.Outcome.{IsSuccess}
use Rattle.file_calls.specs.Done.{IsDone}

-- the open after it
abbrev pub open_after : OpenKind → Option OpenKind → OpenKind
open_after kind None = kind
open_after kind (Some new) = new

-- the reply is what the call comes to, the tree u is what it makes of t, and the new open is what it makes of the old
abbrev pub IsAtOffset : OffsetOutcome → Tree → Tree → OpenKind → OpenKind → Reply → Type 0
IsAtOffset m t u kind new reply = IsDone m.outcome t u reply × (new ≡ open_after kind m.moved)

-- It comes to this; or memory runs out, which it may in a call that takes some and would else succeed, and the tree and the open stay.
abbrev pub IsOffsetDone : Bool → OffsetOutcome → Tree → Tree → OpenKind → OpenKind → Result Reply AllocError → Type 0
IsOffsetDone takes m t u kind new (Ok reply) = IsAtOffset m t u kind new reply
IsOffsetDone takes m t u kind new (Err error) = (takes ≡ true) × IsSuccess m.outcome.answer × (u ≡ t) × (new ≡ kind)
