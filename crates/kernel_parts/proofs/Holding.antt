-- How the holders change as all that a table names is held once more.
--     count_stays      an open that is held has a count still
--     IsHeldBelow      what is named under the numbers below n is held once more
--     held_none, held_one, held_past, held_all      before the first number, at one, at one that nothing has, and in the end
--     numbers_left      where something is left, a number is left that a descriptor may have
use Rattle.std.proofs.Common.{◌≡◌, ℕ, ◌+◌, ◌<◌, ◌≤◌, Bool, true, false, cond, inl, inr, Option, None, Some, IsSome, is_some, refl, sym, ap, subst, ◌∙◌, arith}
use Rattle.std.proofs.lemmas.Bool.Decides.{eqb_tells, leb_tells}
use Rattle.std.specs.Ordering.{nat_cmp}
use Rattle.std.specs.FinMap.{FinMap, empty, get, insert, remove, len, get-empty, len-empty, empty_of_len}
use Rattle.abi_base.specs.declared.limits.TheConstants.{MOST_DESCRIPTORS}
use Rattle.abi_types.specs.declared.descriptor.Descriptor.{Descriptor}
use Rattle.fd_table.specs.Table.{IsTable}
use Rattle.kernel_model.specs.Release.{names_open, count_in}
use Rattle.kernel_model.specs.State.{Table}
use Rattle.kernel_parts.proofs.Counts.{count_in-remove, number-hold}
use Rattle.maps.specs.Maps.{number, get-insert-same, get-insert-other, get-remove-same, get-remove-other, len-removed, same_numbers, total-empty}

-- an open that is held has a count still
pub count_stays : (counts : FinMap nat_cmp ℕ) (k n o : ℕ) → IsSome (get counts o) → IsSome (get (insert counts k n) o)
count_stays counts k n o there =
    elim (eqb_tells o k) [
      | inl same ↦ ap (λ x. is_some (get (insert counts k n) x)) same.1 ∙ ap is_some (get-insert-same counts k n)
      | inr other ↦ ap is_some (get-insert-other counts k n o other.1) ∙ there
    ]

-- What the table names under the numbers below n, which are so many at most, is held once more. So much is left.
pub record IsHeldBelow (n left : ℕ) (table : Table) (before after : FinMap nat_cmp ℕ) : Type 0 where
  pub rest : Table
  pub gone : (k : ℕ) → k < n → get rest k ≡ None
  pub same : (k : ℕ) → n ≤ k → get rest k ≡ get table k
  pub left_is : left ≡ len rest
  pub counts : (o : ℕ) → number (get after o) + count_in o rest ≡ number (get before o) + count_in o table
  pub most : (o : ℕ) → number (get after o) ≤ number (get before o) + n
  pub there : (o : ℕ) → IsSome (get before o) → IsSome (get after o)

pub held_none : (table : Table) (counts : FinMap nat_cmp ℕ) → IsHeldBelow 0 (len table) table counts counts
held_none table counts = record {
  rest = table;
  gone = λ k less. absurd (omega (arith, less));
  same = λ k _. refl;
  left_is = refl;
  counts = λ o. refl;
  most = λ o. omega arith;
  there = λ o here. here;
}

test_most : (b : Bool) → cond b 1 0 ≤ 1
test_most true = omega arith
test_most false = omega arith

-- the numbers that are left beside this one
gone_past : (rest : Table) (n k : ℕ) → ((k : ℕ) → k < n → get rest k ≡ None) → k < n + 1 → get (remove rest n) k ≡ None
gone_past rest n k gone less =
    elim (eqb_tells k n) [
      | inl same ↦ ap (get (remove rest n)) same.1 ∙ get-remove-same rest n
      | inr other ↦ (let apart = other.1 in get-remove-other rest n k apart ∙ gone k (omega (arith, less, apart)))
    ]

pub held_one : (n left : ℕ) (table : Table) (d : Descriptor) (before after held : FinMap nat_cmp ℕ) → IsHeldBelow n left table before after
    → get table n ≡ Some d → held ≡ insert after d.id (number (get after d.id) + 1) → (less : ℕ) → less + 1 ≡ left
    → IsHeldBelow (n + 1) less table before held
held_one n left table d before after held so here is less fewer =
    let first : get so.rest n ≡ Some d = so.same n (omega arith) ∙ here in
    let more : (o : ℕ) → number (get held o) ≡ number (get after o) + names_open o d =
    λ o. ap (λ (m : FinMap nat_cmp ℕ). number (get m o)) is ∙ number-hold after d o in
    record {
      rest = remove so.rest n;
      gone = λ k below. gone_past so.rest n k so.gone below;
      same = λ k from. get-remove-other so.rest n k (λ e. let is = e in omega (arith, from, is)) ∙ so.same k (omega (arith, from));
      left_is = let gone = len-removed so.rest n d first in let was = so.left_is in omega (arith, gone, was, fewer);
      counts = λ o.
          let one = more o in
          let shrunk = count_in-remove o so.rest n d first in
          let sums = so.counts o in
          omega (arith, one, shrunk, sums);
      most = λ o.
          let one = more o in
          let test : names_open o d ≤ 1 = test_most _ in
          let few = so.most o in
          omega (arith, one, test, few);
      there = λ o some.
          subst (λ (m : FinMap nat_cmp ℕ). IsSome (get m o)) (sym is) (count_stays after d.id (number (get after d.id) + 1) o (so.there o some));
    }

-- where nothing has the number
pub held_past : (n left : ℕ) (table : Table) (before after : FinMap nat_cmp ℕ) → IsHeldBelow n left table before after → get table n ≡ None
    → IsHeldBelow (n + 1) left table before after
held_past n left table before after so none = record {
  rest = so.rest;
  gone = λ k below. elim (eqb_tells k n) [
    | inl same ↦ ap (get so.rest) same.1 ∙ so.same n (omega arith) ∙ none
    | inr other ↦ (let apart = other.1 in so.gone k (omega (arith, below, apart)))
  ];
  same = λ k from. so.same k (omega (arith, from));
  left_is = so.left_is;
  counts = so.counts;
  most = λ o. let few = so.most o in omega (arith, few);
  there = so.there;
}

pub held_all : (n : ℕ) (table : Table) (before after : FinMap nat_cmp ℕ) → IsHeldBelow n 0 table before after
    → (o : ℕ) → number (get after o) ≡ number (get before o) + count_in o table
held_all n table before after so o =
    let none : count_in o so.rest ≡ 0 = ap (count_in o) (empty_of_len so.rest (sym so.left_is)) ∙ total-empty (names_open o) in
    let sums = so.counts o in
    omega (arith, none, sums)

none_unless : (o : Option Descriptor) → (IsSome o → ⊥) → o ≡ None
none_unless None h = refl
none_unless (Some d) h = absurd (h refl)

-- no descriptor has a number past those that one may have
pub numbers_left : (n left : ℕ) (table : Table) (before after : FinMap nat_cmp ℕ) → IsHeldBelow n left table before after → IsTable table → 0 < left
    → n < MOST_DESCRIPTORS
numbers_left n left table before after so small some =
    elim (leb_tells MOST_DESCRIPTORS n) [
      | inl past ↦ (
          let from = past.1 in
          let none : so.rest ≡ empty =
          same_numbers so.rest empty (λ k. elim (leb_tells n k) [
            | inl up ↦ (
                let over = up.1 in
                so.same k over ∙ none_unless (get table k) (λ there. let less = small k there in omega (arith, less, over, from)) ∙ sym (get-empty nat_cmp k))
            | inr below ↦ so.gone k below.1 ∙ sym (get-empty nat_cmp k)
          ]) in
          let zero : len so.rest ≡ 0 = ap (λ (m : Table). len m) none ∙ len-empty nat_cmp Descriptor in
          let is = so.left_is in
          absurd (omega (arith, zero, is, some)))
      | inr below ↦ below.1
    ]
