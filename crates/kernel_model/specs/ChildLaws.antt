-- What the numbers of processes say: statements that are the contracts of functions of src/laws.rt.
use Rattle.std.specs.Prelude.{◌≡◌, ℕ, ◌^◌, ◌<◌, ◌≤◌, None, Some, IsSome}
use Rattle.std.specs.FinMap.{get}
use Rattle.kernel_model.specs.Families.Children.{child_of, IsBorn, IsChildOf, MayHaveChild}
use Rattle.kernel_model.specs.Families.Numbers.{object_of}
use Rattle.kernel_model.specs.State.{State, ProcessState}
use Rattle.kernel_model.specs.Valid.{IsValid}

-- The number of a child says whose child it is, and which: two processes that were made, whether they live or not, have no number of a child in
-- common, and one has a number for each of its children.
abbrev pub ChildNumbersAreUnique : Type 0
ChildNumbersAreUnique =
    (S : State) (p q d e i j : ℕ) → IsBorn S.statuses d p → IsBorn S.statuses e q → MayHaveChild d i → MayHaveChild e j
    → child_of p d i ≡ child_of q e j → (p ≡ q) × (d ≡ e) × (i ≡ j)

-- Each process that was made has one depth, and one that lives has it of its own.
abbrev pub EachHasOneDepth : Type 0
EachHasOneDepth =
    (S : State) (p : ℕ) → IsValid S → IsSome (get S.statuses p)
    → (depth : ℕ) × IsBorn S.statuses depth p × ((d : ℕ) → IsBorn S.statuses d p → d ≡ depth)
    × ((own : ProcessState) → get S.processes p ≡ Some own → own.depth ≡ depth)

-- no process with this number was made, and no object that one would make is there
pub record IsUnmade (S : State) (p : ℕ) : Type 0 where
  pub process : get S.processes p ≡ None
  pub table : get S.tables p ≡ None
  pub status : get S.statuses p ≡ None
  pub small : p < 0xffffffff
  pub opens : (k : ℕ) → 1 ≤ k → k < 2 ^ 32 → get S.opens (object_of p k) ≡ None
  pub nodes : (k : ℕ) → 1 ≤ k → k < 2 ^ 32 → get S.nodes (object_of p k) ≡ None

-- A child that its parent has not counted was not made.
abbrev pub NextChildIsUnmade : Type 0
NextChildIsUnmade =
    (S : State) (p i : ℕ) (own : ProcessState) → IsValid S → get S.processes p ≡ Some own → MayHaveChild own.depth i → own.counts.forks < i
    → IsUnmade S (child_of p own.depth i)

-- The number of a process that was made is none that stands for the objects of the launch, and none is deeper than 4.
abbrev pub ProcessNumbersAreSmall : Type 0
ProcessNumbersAreSmall = (S : State) (p depth : ℕ) → IsBorn S.statuses depth p → (p < 0xffffffff) × (depth ≤ 4)

-- Process 0 has depth 0.
abbrev pub ProcessZeroHasDepthZero : Type 0
ProcessZeroHasDepthZero = (S : State) (depth : ℕ) → IsBorn S.statuses depth 0 → depth ≡ 0

-- A process of depth 4 has no child.
abbrev pub DeepestHasNoChild : Type 0
DeepestHasNoChild = (S : State) (p q depth : ℕ) → IsBorn S.statuses 4 p → IsBorn S.statuses depth p → IsChildOf p depth q → ⊥
