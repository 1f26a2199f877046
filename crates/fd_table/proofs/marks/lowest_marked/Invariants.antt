use Rattle.std.proofs.Common.{◌≡◌, ◌<◌, ◌*◌, ℕ}
use Rattle.fd_table.specs.Marks.{mark_of}
use Rattle.fd_table.proofs.marks.lowest_marked.Given as goal

-- no number of the words so far is marked
abbrev pub invariant-loop-place : goal.invariant-loop-place
invariant-loop-place l = (k : ℕ) → k < l.place * 64 → mark_of l.words k ≡ 0
