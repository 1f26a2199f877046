-- What the walk of a path gives: an end or a node, or why a call goes no further.
use Rattle.std.specs.Prelude.{ℕ, Result, Ok, Err}
use Rattle.abi_base.specs.declared.errno.Errno.TheVariants.{Noent}
use Rattle.abi_types.specs.declared.descriptor.Denial.TheVariants as denial
use Rattle.abi_types.specs.declared.reply.Reply.{Reply}
use Rattle.path_lookup.specs.declared.ends.End.{End}
use Rattle.path_lookup.specs.declared.ends.End.TheVariants as end
use Rattle.kernel_model.specs.Families.FilePaths.{Walked, Ends, Fails, LeadsOutside}
use Rattle.kernel_model.specs.Outcome.{Outcome, replies}
use Rattle.kernel_model.specs.Reply.{denied, refused}
use Rattle.file_calls.specs.declared.paths.PathFault.{PathFault}
use Rattle.file_calls.specs.declared.paths.PathFault.TheVariants.{Errno, Outside}

-- what a call answers that is refused
abbrev pub reply_of : PathFault → Reply
reply_of (Errno errno) = refused errno
reply_of (Outside component) = denied (denial.Outside component)

-- the end of a walk
abbrev pub end_or_refusal : Walked → Result End PathFault
end_or_refusal (Ends end) = Ok end
end_or_refusal (Fails errno) = Err (Errno errno)
end_or_refusal (LeadsOutside component) = Err (Outside component)

-- the node at which a walk ends
abbrev pub node_at : End → Result ℕ PathFault
node_at (end.Found n) = Ok n
node_at (end.Absent dir from len) = Err (Errno Noent)
node_at (end.Last dir from len) = Err (Errno Noent)

abbrev pub node_or_refusal : Walked → Result ℕ PathFault
node_or_refusal (Ends end) = node_at end
node_or_refusal (Fails errno) = Err (Errno errno)
node_or_refusal (LeadsOutside component) = Err (Outside component)

-- a call that goes on so at the node
abbrev pub going_on : (ℕ → Outcome) → Result ℕ PathFault → Outcome
going_on goes (Ok n) = goes n
going_on goes (Err refusal) = replies (reply_of refusal)
