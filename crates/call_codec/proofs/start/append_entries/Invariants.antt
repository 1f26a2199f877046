use Rattle.std.proofs.Common.{◌≡◌, ◌++◌, drop}
use Rattle.call_codec.specs.Start.{vector_of}
use Rattle.call_codec.proofs.start.append_entries.Given as goal

-- the entries so far, and those that are left, are all
abbrev pub invariant-loop-number : goal.invariant-loop-number
invariant-loop-number l = l.bytes ++ vector_of (drop l.number-index l.entries) ≡ l.fn.bytes ++ vector_of l.entries
