-- The numbers of processes. Process 0 has depth 0. A child of a process has the parent's number with one byte more: the byte of the
-- parent's depth, counted from the most significant of four, says which of the parent's children it is.
use Rattle.std.specs.Prelude.{◌≡◌, ℕ, zero, suc, ◌+◌, ◌*◌, ◌^◌, ◌<◌, ◌≤◌, Some, IsSome}
use Rattle.std.specs.Ordering.{nat_cmp}
use Rattle.std.specs.FinMap.{FinMap, get}
use Rattle.abi_types.specs.declared.status.Status.{Status}
use Rattle.kernel_model.specs.State.{ProcessState}

-- what 1 in the byte of this depth adds to a number
abbrev pub byte_unit : ℕ → ℕ
byte_unit zero = 2 ^ 24
byte_unit (suc zero) = 2 ^ 16
byte_unit (suc (suc zero)) = 2 ^ 8
byte_unit (suc (suc (suc depth))) = 1

-- the number of a child, by its parent's number, the parent's depth, and which of the parent's children it is, counted from 1
abbrev pub child_of : ℕ → ℕ → ℕ → ℕ
child_of parent depth i = parent + i * byte_unit depth

-- A process of this depth may have a child that is its i-th: one of depth 4 has none, and none has more than 254.
abbrev pub MayHaveChild : ℕ → ℕ → Type 0
MayHaveChild depth i = (depth < 4) × (1 ≤ i) × (i ≤ 254)

-- the number is that of a child of a parent with this number and this depth
abbrev pub IsChildOf : ℕ → ℕ → ℕ → Type 0
IsChildOf parent depth p = (i : ℕ) × MayHaveChild depth i × (p ≡ child_of parent depth i)

-- the process with this number has this depth: it is process 0, of depth 0, or a child of one less deep that was made
abbrev pub IsBorn : FinMap nat_cmp Status → ℕ → ℕ → Type 0
IsBorn statuses zero p = p ≡ 0
IsBorn statuses (suc depth) p = (parent : ℕ) × IsSome (get statuses parent) × IsBorn statuses depth parent × IsChildOf parent depth p

-- Each process that was made has a depth, and one that lives has kept it. One that lives has counted each of its children that was made.
pub record AreBorn (statuses : FinMap nat_cmp Status) (processes : FinMap nat_cmp ProcessState) : Type 0 where
  pub made : (p : ℕ) → IsSome (get statuses p) → (depth : ℕ) × IsBorn statuses depth p
  pub deep : (p : ℕ) (own : ProcessState) → get processes p ≡ Some own → IsBorn statuses own.depth p
  pub counted : (p i : ℕ) (own : ProcessState) → get processes p ≡ Some own → MayHaveChild own.depth i
      → IsSome (get statuses (child_of p own.depth i)) → i ≤ own.counts.forks
