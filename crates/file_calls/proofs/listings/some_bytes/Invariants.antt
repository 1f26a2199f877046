use Rattle.std.proofs.Common.{◌≡◌, ◌+◌, ◌++◌, length}
use Rattle.kernel_model.specs.Families.FileLooks.{entries_bytes}
use Rattle.file_calls.proofs.listings.some_bytes.Given as goal

-- the bytes so far and those of the entries that are left are all the bytes; and each position so far was an entry's
abbrev pub invariant-loop-name : goal.invariant-loop-name
invariant-loop-name l =
    (l.bytes ++ entries_bytes l.tree l.next l.name-iterator ≡ entries_bytes l.tree l.position l.fn.entries)
    × (l.next + length l.name-iterator ≡ l.position + length l.fn.entries)
