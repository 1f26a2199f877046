-- Replies of calls.
use Rattle.std.specs.Prelude.{ℕ, List, length, None, Some}
use Rattle.abi_types.specs.declared.reply.Reply.{Reply}
use Rattle.abi_types.specs.declared.reply.Payload.TheVariants.{Content, Nothing}
use Rattle.abi_types.specs.declared.reply.WordWrites.TheVariants.{Zero}
use Rattle.abi_types.specs.declared.descriptor.Denial.{Denial}
use Rattle.abi_base.specs.declared.errno.Errno.{Errno}
use Rattle.abi_base.specs.declared.errno.Errno.TheVariants.{Success, Notcapable}

-- the call is done, with these two results, and nothing beside them
abbrev pub success : ℕ → ℕ → Reply
success r1 r2 = record { errno = Success; r1 = r1; r2 = r2; payload = Nothing; writes = Zero; denial = None }

-- the call is done, and gives these bytes and their count
abbrev pub content : List ℕ → Reply
content bytes = record (success (length bytes) 0) { payload = Content bytes }

-- the call is refused by this error
abbrev pub refused : Errno → Reply
refused errno = record { errno = errno; r1 = 0; r2 = 0; payload = Nothing; writes = Zero; denial = None }

-- the call is refused for lack of rights
abbrev pub denied : Denial → Reply
denied denial = record (refused Notcapable) { denial = Some denial }
