-- A table that is made of another, one place of the list after another.
use Rattle.std.proofs.Common.{◌≡◌, ℕ, ◌+◌, ◌<◌, ◌≤◌, inl, inr, List, length, slice_get, get_or, Option, None, Some, option_and_then, sym, ap, ◌∙◌, arith}
use Rattle.std.proofs.lemmas.Bool.Decides.{eqb_tells, leb_tells}
use Rattle.std.proofs.lemmas.Option.{slice_get_past, slice_get-get_or}
use Rattle.std.specs.Ordering.{nat_cmp}
use Rattle.std.specs.FinMap.{empty, get, insert, get-empty}
use Rattle.maps.specs.Maps.{get-insert-same, get-insert-other}
use Rattle.abi_types.specs.declared.descriptor.Descriptor.{Descriptor}
use Rattle.fd_table.specs.Table.{Table, IsPicked}

-- what belongs at a place
abbrev pub wanted : Table → List ℕ → ℕ → Option Descriptor
wanted m fds place = option_and_then (get m) (slice_get fds place)

-- each place below n has what belongs there, and no other number has anything
abbrev pub PicksBelow : ℕ → Table → List ℕ → Table → Type 0
PicksBelow n m fds made = ((k : ℕ) → k < n → get made k ≡ wanted m fds k) × ((k : ℕ) → n ≤ k → get made k ≡ None)

-- by the item at that place
pub wanted_at : (n : ℕ) (m : Table) (fds : List ℕ) (o : Option Descriptor) → n < length fds → o ≡ get m (get_or fds n 0) → wanted m fds n ≡ o
wanted_at n m fds o within is = ap (option_and_then (get m)) (slice_get-get_or fds n 0 within) ∙ sym is

pub picks_none : (m : Table) (fds : List ℕ) → PicksBelow 0 m fds empty
picks_none m fds = (λ k less. absurd (omega arith), λ k _. get-empty nat_cmp k)

-- where a descriptor comes
pub picks_one : (n : ℕ) (m : Table) (fds : List ℕ) (made : Table) (d : Descriptor)
    → PicksBelow n m fds made → wanted m fds n ≡ Some d → PicksBelow (n + 1) m fds (insert made n d)
picks_one n m fds made d so_far here = (
  λ k less. elim (eqb_tells k n) [
    | inl same ↦ ap (get (insert made n d)) same.1 ∙ get-insert-same made n d ∙ sym here ∙ ap (wanted m fds) (sym same.1)
    | inr other ↦ let apart = other.1 in get-insert-other made n d k other.1 ∙ so_far.0 k (omega arith)
  ],
  λ k least. get-insert-other made n d k (λ e. let same = e in omega arith) ∙ so_far.1 k (omega arith),
)

-- where none does
pub picks_no_one : (n : ℕ) (m : Table) (fds : List ℕ) (made : Table)
    → PicksBelow n m fds made → wanted m fds n ≡ None → PicksBelow (n + 1) m fds made
picks_no_one n m fds made so_far here = (
  λ k less. elim (eqb_tells k n) [
    | inl same ↦ so_far.1 k (let is = same.1 in omega arith) ∙ sym here ∙ ap (wanted m fds) (sym same.1)
    | inr other ↦ let apart = other.1 in so_far.0 k (omega arith)
  ],
  λ k least. so_far.1 k (omega arith),
)

pub picks_all : (n : ℕ) (m : Table) (fds : List ℕ) (made : Table) → PicksBelow n m fds made → n ≡ length fds → IsPicked m fds made
picks_all n m fds made so_far whole place =
    elim (leb_tells n place) [
      | inl least ↦ so_far.1 place least.1 ∙ sym (ap (option_and_then (get m)) (slice_get_past fds place (let past = least.1 in omega (arith, whole))))
      | inr less ↦ so_far.0 place less.1
    ]
