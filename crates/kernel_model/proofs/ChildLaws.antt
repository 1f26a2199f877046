-- What the numbers of processes say.
--     born_of_depth      the number of a process has bytes for its depth, and zeros below
--     told_by, born_told_by      the number of a child says whose it is, and which
--     each_has_one_depth      each process that was made has one depth
--     not_first, child_apart      a child is neither process 0 nor its parent
--     child_is_unmade      a child that was not counted was not made
--     process_is_small      the number of a process that lives is none that stands for the objects of the launch
use Rattle.std.proofs.Common.{◌≡◌, ◌≢◌, inl, inr, ℕ, zero, suc, ◌+◌, ◌*◌, ◌^◌, ◌<◌, ◌≤◌, Option, Some, None, is_some, refl, sym, ap, subst, ◌∙◌, arith}
use Rattle.std.proofs.lemmas.Bool.{cases_order}
use Rattle.std.specs.Ordering.{nat_cmp}
use Rattle.std.specs.FinMap.{FinMap, get}
use Rattle.abi_types.specs.declared.status.Status.{Status}
use Rattle.kernel_model.specs.ChildLaws.{ChildNumbersAreUnique, DeepestHasNoChild, EachHasOneDepth, IsUnmade, ProcessNumbersAreSmall, ProcessZeroHasDepthZero}
use Rattle.kernel_model.specs.Families.Children.{child_of, IsBorn, IsChildOf, MayHaveChild}
use Rattle.kernel_model.specs.Release.{lives}
use Rattle.kernel_model.specs.State.{State, ProcessState, counts_in}
use Rattle.kernel_model.specs.Valid.{has_ended, IsNearlyValid, IsUncounted, IsValid}
use Rattle.kernel_model.proofs.Tests.{none_of}

-- ---- the numbers of each depth

-- of what each number of this depth is a multiple
abbrev unit_of : ℕ → ℕ
unit_of zero = 2 ^ 32
unit_of (suc zero) = 2 ^ 24
unit_of (suc (suc zero)) = 2 ^ 16
unit_of (suc (suc (suc zero))) = 2 ^ 8
unit_of (suc (suc (suc (suc depth)))) = 1

-- and the greatest of them
abbrev greatest : ℕ → ℕ
greatest zero = 0
greatest (suc zero) = 0xfe000000
greatest (suc (suc zero)) = 0xfefe0000
greatest (suc (suc (suc zero))) = 0xfefefe00
greatest (suc (suc (suc (suc depth)))) = 0xfefefefe

abbrev IsOfDepth : ℕ → ℕ → Type 0
IsOfDepth depth p = (m : ℕ) × (p ≡ m * unit_of depth) × (p ≤ greatest depth)

child_of_depth : (depth p i : ℕ) → MayHaveChild depth i → IsOfDepth depth p → IsOfDepth (suc depth) (child_of p depth i)
child_of_depth zero p i may of = (of.0 * 256 + i, omega arith, omega arith)
child_of_depth (suc zero) p i may of = (of.0 * 256 + i, omega arith, omega arith)
child_of_depth (suc (suc zero)) p i may of = (of.0 * 256 + i, omega arith, omega arith)
child_of_depth (suc (suc (suc zero))) p i may of = (of.0 * 256 + i, omega arith, omega arith)
child_of_depth (suc (suc (suc (suc depth)))) p i may of = absurd (omega arith)

-- none of them stands for the objects of the launch
small_number : (depth p : ℕ) → IsOfDepth depth p → p < 0xffffffff
small_number zero p of = omega arith
small_number (suc zero) p of = omega arith
small_number (suc (suc zero)) p of = omega arith
small_number (suc (suc (suc zero))) p of = omega arith
small_number (suc (suc (suc (suc depth)))) p of = omega arith

pub born_of_depth : (statuses : FinMap nat_cmp Status) (depth p : ℕ) → IsBorn statuses depth p → IsOfDepth depth p × (depth ≤ 4)
born_of_depth statuses zero p none = ((0, omega (arith, none), omega (arith, none)), omega arith)
born_of_depth statuses (suc depth) p child =
    let parent = born_of_depth statuses depth child.0 child.2 in
    let place : IsChildOf child.0 depth p = child.3 in
    let few : depth < 4 = place.1.0 in (
      subst (IsOfDepth (suc depth)) (sym place.2) (child_of_depth depth child.0 place.0 place.1 parent.0),
      omega (arith, few),
    )

process_of_depth : (S : State) → IsNearlyValid S → (p : ℕ) (own : ProcessState) → get S.processes p ≡ Some own → IsOfDepth own.depth p × (own.depth ≤ 4)
process_of_depth S v p own there = born_of_depth S.statuses own.depth p (v.born.deep p own there)

-- ---- the number of a child

-- two processes of one depth
told_at_depth : (depth p q i j : ℕ) → IsOfDepth depth p → IsOfDepth depth q → MayHaveChild depth i → MayHaveChild depth j
    → child_of p depth i ≡ child_of q depth j → (p ≡ q) × (i ≡ j)
told_at_depth zero p q i j a b may other same = (omega arith, omega arith)
told_at_depth (suc zero) p q i j a b may other same = (omega arith, omega arith)
told_at_depth (suc (suc zero)) p q i j a b may other same = (omega arith, omega arith)
told_at_depth (suc (suc (suc zero))) p q i j a b may other same = (omega arith, omega arith)
told_at_depth (suc (suc (suc (suc depth)))) p q i j a b may other same = absurd (omega arith)

-- the child of the deeper of two processes has a byte that the child of the other one has not
told_apart : (d e p q i j : ℕ) → d < e → IsOfDepth d p → IsOfDepth e q → MayHaveChild e j → child_of p d i ≢ child_of q e j
told_apart d zero p q i j less a b may same = absurd (omega arith)
told_apart zero (suc zero) p q i j less a b may same = absurd (omega arith)
told_apart (suc d) (suc zero) p q i j less a b may same = absurd (omega arith)
told_apart zero (suc (suc zero)) p q i j less a b may same = absurd (omega arith)
told_apart (suc zero) (suc (suc zero)) p q i j less a b may same = absurd (omega arith)
told_apart (suc (suc d)) (suc (suc zero)) p q i j less a b may same = absurd (omega arith)
told_apart zero (suc (suc (suc zero))) p q i j less a b may same = absurd (omega arith)
told_apart (suc zero) (suc (suc (suc zero))) p q i j less a b may same = absurd (omega arith)
told_apart (suc (suc zero)) (suc (suc (suc zero))) p q i j less a b may same = absurd (omega arith)
told_apart (suc (suc (suc d))) (suc (suc (suc zero))) p q i j less a b may same = absurd (omega arith)
told_apart d (suc (suc (suc (suc e)))) p q i j less a b may same = absurd (omega arith)

-- the number of a child says whose it is, and which
pub told_by : (d e p q i j : ℕ) → IsOfDepth d p → IsOfDepth e q → MayHaveChild d i → MayHaveChild e j → child_of p d i ≡ child_of q e j
    → (p ≡ q) × (d ≡ e) × (i ≡ j)
told_by d e p q i j a b may other same =
    elim (cases_order d e) [
      | inl is ↦ (
          let at_e : IsOfDepth e p = subst (λ k. IsOfDepth k p) is a in
          let may_e : MayHaveChild e i = subst (λ k. MayHaveChild k i) is may in
          let both = told_at_depth e p q i j at_e b may_e other (ap (λ k. child_of p k i) (sym is) ∙ same) in
          (both.0, is, both.1))
      | inr apart ↦ elim apart [
        | inl less ↦ absurd (told_apart d e p q i j less a b other same)
        | inr more ↦ absurd (told_apart e d q p j i more b a may (sym same))
      ]
    ]

-- it is not the number of process 0
pub not_first : (depth p i : ℕ) → MayHaveChild depth i → child_of p depth i ≢ 0
not_first zero p i may is = absurd (omega arith)
not_first (suc zero) p i may is = absurd (omega arith)
not_first (suc (suc zero)) p i may is = absurd (omega arith)
not_first (suc (suc (suc depth))) p i may is = absurd (omega arith)

-- nor that of its parent
pub child_apart : (depth p i : ℕ) → MayHaveChild depth i → child_of p depth i ≢ p
child_apart zero p i may is = absurd (omega arith)
child_apart (suc zero) p i may is = absurd (omega arith)
child_apart (suc (suc zero)) p i may is = absurd (omega arith)
child_apart (suc (suc (suc depth))) p i may is = absurd (omega arith)

pub born_told_by : (statuses : FinMap nat_cmp Status) (d e p q i j : ℕ) → IsBorn statuses d p → IsBorn statuses e q → MayHaveChild d i → MayHaveChild e j
    → child_of p d i ≡ child_of q e j → (p ≡ q) × (d ≡ e) × (i ≡ j)
born_told_by statuses d e p q i j a b may other same =
    told_by d e p q i j (born_of_depth statuses d p a).0 (born_of_depth statuses e q b).0 may other same

pub child_numbers_are_unique : ChildNumbersAreUnique
child_numbers_are_unique S p q d e i j a b may other same = born_told_by S.statuses d e p q i j a b may other same

-- a process has one depth
one_depth : (statuses : FinMap nat_cmp Status) (d e p : ℕ) → IsBorn statuses d p → IsBorn statuses e p → d ≡ e
one_depth statuses zero zero p a b = refl
one_depth statuses zero (suc e) p a b = let place : IsChildOf b.0 e p = b.3 in absurd (not_first e b.0 place.0 place.1 (sym place.2 ∙ a))
one_depth statuses (suc d) zero p a b = let place : IsChildOf a.0 d p = a.3 in absurd (not_first d a.0 place.0 place.1 (sym place.2 ∙ b))
one_depth statuses (suc d) (suc e) p a b =
    let place : IsChildOf a.0 d p = a.3 in
    let other : IsChildOf b.0 e p = b.3 in
    let told = born_told_by statuses d e a.0 b.0 place.0 other.0 a.2 b.2 place.1 other.1 (sym place.2 ∙ other.2) in
    ap (λ k. suc k) told.1

pub each_has_one_depth : EachHasOneDepth
each_has_one_depth S p v some =
    let born = v.nearly.born.made p some in (
      born.0,
      born.1,
      λ d other. one_depth S.statuses d born.0 p other born.1,
      λ own there. one_depth S.statuses own.depth born.0 p (v.nearly.born.deep p own there) born.1,
    )

-- ---- a child that was not counted

module _ (S : State) (v : IsNearlyValid S) (p i : ℕ) (own : ProcessState) (made : get S.processes p ≡ Some own) (may : MayHaveChild own.depth i)
    (beyond : own.counts.forks < i) where
  not_made : (o : Option Status) → get S.statuses (child_of p own.depth i) ≡ o → o ≡ None
  not_made None there = refl
  not_made (Some status) there =
      let counted : i ≤ own.counts.forks = v.born.counted p i own made may (ap is_some there) in absurd (omega (arith, counted, beyond))

  child_is_small : child_of p own.depth i < 0xffffffff
  child_is_small = small_number (suc own.depth) (child_of p own.depth i) (child_of_depth own.depth p i may (process_of_depth S v p own made).0)

  pub child_is_unmade : IsUnmade S (child_of p own.depth i)
  child_is_unmade =
      let none : get S.statuses (child_of p own.depth i) ≡ None = not_made (get S.statuses (child_of p own.depth i)) refl in
      let absent : get S.processes (child_of p own.depth i) ≡ None =
      none_of (get S.processes (child_of p own.depth i)) (v.owns (child_of p own.depth i) ∙ ap lives none) in
      record {
        process = absent;
        table = none_of (get S.tables (child_of p own.depth i)) (v.tables (child_of p own.depth i) ∙ ap lives none);
        status = none;
        small = child_is_small;
        opens = λ k some fits. v.made (child_of p own.depth i) k child_is_small (uncounted none absent k some) fits;
        nodes = λ k some fits. v.made_nodes (child_of p own.depth i) k child_is_small (uncounted none absent k some) fits;
      } where
        uncounted : get S.statuses (child_of p own.depth i) ≡ None → get S.processes (child_of p own.depth i) ≡ None → (k : ℕ) → 1 ≤ k
            → IsUncounted S (child_of p own.depth i) k
        uncounted none absent k some = (ap has_ended none, subst (λ o. (counts_in o).objects < k) (sym absent) (omega (arith, some)))

pub next_child_is_unmade : (S : State) (p i : ℕ) (own : ProcessState) → IsValid S → get S.processes p ≡ Some own → MayHaveChild own.depth i
    → own.counts.forks < i → IsUnmade S (child_of p own.depth i)
next_child_is_unmade S p i own v made may beyond = child_is_unmade S v.nearly p i own made may beyond

-- ---- all processes

pub process_numbers_are_small : ProcessNumbersAreSmall
process_numbers_are_small S p depth born = let of = born_of_depth S.statuses depth p born in (small_number depth p of.0, of.1)

-- and so is that of one that lives
pub process_is_small : (S : State) (p : ℕ) (own : ProcessState) → IsNearlyValid S → get S.processes p ≡ Some own → p < 0xffffffff
process_is_small S p own v there = small_number own.depth p (process_of_depth S v p own there).0

pub process_0_has_depth_0 : ProcessZeroHasDepthZero
process_0_has_depth_0 S depth born = one_depth S.statuses depth 0 0 born refl

pub deepest_has_no_child : DeepestHasNoChild
deepest_has_no_child S p q depth deepest born child =
    let is : depth ≡ 4 = one_depth S.statuses depth 4 p born deepest in
    let few : depth < 4 = child.1.0 in
    omega (arith, is, few)
