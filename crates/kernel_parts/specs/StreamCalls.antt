-- Calls on a standard stream.
use Rattle.std.specs.Prelude.{◌≡◌, ℕ, Bool, true, List, [], ◌∷◌, Option, Result, Ok, Err}
use Rattle.std.specs.Ordering.{nat_cmp}
use Rattle.std.specs.FinMap.{FinMap, insert}
use Rattle.std.specs.declared.alloc.AllocError.{AllocError}
use Rattle.abi_base.specs.declared.errno.Errno.TheVariants.{Badf}
use Rattle.abi_types.specs.declared.call.Call.{Call}
use Rattle.abi_types.specs.declared.call.Call.TheVariants as call
use Rattle.abi_types.specs.declared.reply.Answer.{Answer}
use Rattle.abi_types.specs.declared.stream.Stream.{Stream}
use Rattle.kernel_model.specs.Outcome.{Outcome, IsSuccess, replies}
use Rattle.kernel_model.specs.Reply.{refused}
use Rattle.kernel_model.specs.State.{Update, set_term}
use Rattle.kernel_model.specs.Families.StreamCalls.{read_term, write_term}

-- the standard streams after these updates
abbrev pub terms_after : List Update → FinMap nat_cmp Stream → FinMap nat_cmp Stream
terms_after [] terms = terms
terms_after (set_term k stream ∷ updates) terms = terms_after updates (insert terms k stream)
terms_after (update ∷ updates) terms = terms_after updates terms

-- what a call comes to that moves an open, where the open is of this standard stream
abbrev pub stream_outcome : Call → ℕ → Option Stream → Outcome
stream_outcome (call.FdRead fd length) which stream = read_term length which stream
stream_outcome (call.FdWrite fd bytes) which stream = write_term bytes which stream
stream_outcome _ which stream = replies (refused Badf)

-- It comes to this answer and to these streams; or memory runs out, which it may in a call that takes some and would else succeed, and
-- the streams stay.
abbrev pub IsStreamDone : Bool → Outcome → FinMap nat_cmp Stream → FinMap nat_cmp Stream → Result Answer AllocError → Type 0
IsStreamDone takes outcome terms left (Ok given) = (given ≡ outcome.answer) × (left ≡ terms_after outcome.updates terms)
IsStreamDone takes outcome terms left (Err error) = (takes ≡ true) × IsSuccess outcome.answer × (left ≡ terms)
