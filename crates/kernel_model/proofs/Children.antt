-- What keeps each process that was made one that was born: a state in which the same processes were made, and those that live have the depths
-- that they had, and have counted no fewer children.
--     KeepsChildren      a process has ended, or has its depth, and has counted no fewer children
--     still_born      a process has its depth still where no other one is unmade
--     all_born      then each process is born still
--     same_keeps, one_keeps, ended_keeps, left_keeps      another value of one process, the end of one, and what the release leaves
use Rattle.std.proofs.Common.{◌≡◌, inl, inr, ℕ, zero, suc, ◌≤◌, Bool, true, false, Option, Some, None, IsSome, refl, sym, ap, subst, ◌∙◌, arith}
use Rattle.std.proofs.lemmas.Bool.Decides.{eqb_tells}
use Rattle.std.specs.Prelude.{⊤}
use Rattle.std.specs.Ordering.{nat_cmp}
use Rattle.std.specs.FinMap.{FinMap, get, insert, remove}
use Rattle.abi_types.specs.declared.status.Status.{Status}
use Rattle.maps.specs.Maps.{get-insert-same, get-insert-other, get-remove-same, get-remove-other}
use Rattle.kernel_model.specs.Families.Children.{child_of, AreBorn, IsBorn, MayHaveChild}
use Rattle.kernel_model.specs.Release.{own_left}
use Rattle.kernel_model.specs.State.{ProcessState}
use Rattle.kernel_model.proofs.Tests.{none_is_no, same_some}

abbrev Processes : Type 0
Processes = FinMap nat_cmp ProcessState

abbrev Statuses : Type 0
Statuses = FinMap nat_cmp Status

abbrev pub KeepsChildren : Option ProcessState → Option ProcessState → Type 0
KeepsChildren own None = ⊤
KeepsChildren None (Some new) = ⊥
KeepsChildren (Some own) (Some new) = (new.depth ≡ own.depth) × (own.counts.forks ≤ new.counts.forks)

-- ---- from one map of processes to another

-- a process that is there was there, with its depth and no more children
kept_before : (old new : Option ProcessState) (own : ProcessState) → KeepsChildren old new → new ≡ Some own
    → (before : ProcessState) × (old ≡ Some before) × (own.depth ≡ before.depth) × (before.counts.forks ≤ own.counts.forks)
kept_before old None own keeps there = absurd (none_is_no own there)
kept_before None (Some new) own keeps there = absurd keeps
kept_before (Some before) (Some new) own keeps there =
    let same : new ≡ own = same_some new own there in (
      before,
      refl,
      ap (λ (x : ProcessState). x.depth) (sym same) ∙ keeps.0,
      subst (λ (x : ProcessState). before.counts.forks ≤ x.counts.forks) same keeps.1,
    )

pub still_born : (statuses after : Statuses) → ((q : ℕ) → IsSome (get statuses q) → IsSome (get after q)) → (depth p : ℕ) → IsBorn statuses depth p
    → IsBorn after depth p
still_born statuses after more zero p is = is
still_born statuses after more (suc depth) p child =
    (child.0, more child.0 child.1, still_born statuses after more depth child.0 child.2, child.3)

module _ (statuses after : Statuses) (old new : Processes) (more : (q : ℕ) → IsSome (get statuses q) → IsSome (get after q))
    (fewer : (q : ℕ) → IsSome (get after q) → IsSome (get statuses q)) (keeps : (q : ℕ) → KeepsChildren (get old q) (get new q)) where
  pub all_born : AreBorn statuses old → AreBorn after new
  all_born born = record {
    made = λ p some. let before = born.made p (fewer p some) in (before.0, still_born statuses after more before.0 p before.1);
    deep = λ p own there.
        let before = kept_before (get old p) (get new p) own (keeps p) there in
        subst (λ d. IsBorn after d p) (sym before.2) (still_born statuses after more before.0.depth p (born.deep p before.0 before.1));
    counted = λ p i own there may some.
        let before = kept_before (get old p) (get new p) own (keeps p) there in
        let counted : i ≤ before.0.counts.forks =
        born.counted p i before.0 before.1 (subst (λ d. MayHaveChild d i) before.2 may)
        (fewer (child_of p before.0.depth i) (subst (λ d. IsSome (get after (child_of p d i))) before.2 some)) in
        let grown : before.0.counts.forks ≤ own.counts.forks = before.3 in
        omega (arith, counted, grown);
  }

-- ---- what keeps the children of each process

pub same_keeps : (own : Option ProcessState) → KeepsChildren own own
same_keeps None = tt
same_keeps (Some own) = (refl, omega arith)

pub one_keeps : (processes : Processes) (p : ℕ) (own new : ProcessState) → get processes p ≡ Some own → KeepsChildren (Some own) (Some new)
    → (q : ℕ) → KeepsChildren (get processes q) (get (insert processes p new) q)
one_keeps processes p own new there keeps q =
    elim (eqb_tells q p) [
      | inl is ↦ subst (λ j. KeepsChildren (get processes j) (get (insert processes p new) j)) (sym is.1)
          (subst (λ o. KeepsChildren o (get (insert processes p new) p)) (sym there)
          (subst (KeepsChildren (Some own)) (sym (get-insert-same processes p new)) keeps))
      | inr other ↦ subst (KeepsChildren (get processes q)) (sym (get-insert-other processes p new q other.1)) (same_keeps (get processes q))
    ]

pub ended_keeps : (processes : Processes) (p q : ℕ) → KeepsChildren (get processes q) (get (remove processes p) q)
ended_keeps processes p q =
    elim (eqb_tells q p) [
      | inl is ↦ subst (λ j. KeepsChildren (get processes j) (get (remove processes p) j)) (sym is.1)
          (subst (KeepsChildren (get processes p)) (sym (get-remove-same processes p)) tt)
      | inr other ↦ subst (KeepsChildren (get processes q)) (sym (get-remove-other processes p q other.1)) (same_keeps (get processes q))
    ]

-- and so does one that the release kills or leaves
pub left_keeps : (killed : Bool) (own : Option ProcessState) → KeepsChildren own (own_left killed own)
left_keeps true own = tt
left_keeps false own = same_keeps own
