-- One process more that is born.
--     IsNextOf      the process has the number of a child that its parent has counted, and that was not made
--     new_born      with it each process is born still
use Rattle.std.proofs.Common.{◌≡◌, ◌≢◌, ℕ, zero, suc, ◌≤◌, inl, inr, Some, None, IsSome, is_some, refl, sym, ap, subst, ◌∙◌}
use Rattle.std.proofs.lemmas.Bool.Decides.{eqb_tells}
use Rattle.std.specs.Ordering.{nat_cmp}
use Rattle.std.specs.FinMap.{FinMap, get, insert}
use Rattle.abi_types.specs.declared.status.Status.{Status}
use Rattle.abi_types.specs.declared.status.Status.TheVariants.{Live}
use Rattle.maps.specs.Maps.{get-insert-same, get-insert-other}
use Rattle.kernel_model.specs.Families.Children.{child_of, AreBorn, IsBorn, IsChildOf, MayHaveChild}
use Rattle.kernel_model.specs.State.{ProcessState}
use Rattle.kernel_model.proofs.ChildLaws.{born_told_by, child_apart, not_first}
use Rattle.kernel_model.proofs.Children.{still_born}
use Rattle.kernel_model.proofs.Tests.{not_true}
use Rattle.kernel_model.proofs.Valids.{same_value, some_inserted}

-- the process c, of this depth, is a child of one that lives and has counted it, and it was not made
pub record IsNextOf (statuses : FinMap nat_cmp Status) (processes : FinMap nat_cmp ProcessState) (c depth : ℕ) : Type 0 where
  pub parent : ℕ
  pub own : ProcessState
  pub lives : IsSome (get statuses parent)
  pub there : get processes parent ≡ Some own
  pub i : ℕ
  pub may : MayHaveChild own.depth i
  pub counted : i ≤ own.counts.forks
  pub number : c ≡ child_of parent own.depth i
  pub deeper : depth ≡ suc own.depth
  pub unmade : get statuses c ≡ None

module _ (statuses : FinMap nat_cmp Status) (processes : FinMap nat_cmp ProcessState) (born : AreBorn statuses processes) (c : ℕ) (own : ProcessState)
    (next : IsNextOf statuses processes c own.depth) where
  abbrev after : FinMap nat_cmp Status
  after = insert statuses c Live

  more : (q : ℕ) → IsSome (get statuses q) → IsSome (get after q)
  more = some_inserted statuses c Live

  parent_born : IsBorn statuses next.own.depth next.parent
  parent_born = born.deep next.parent next.own next.there

  place : IsChildOf next.parent next.own.depth c
  place = (next.i, next.may, next.number)

  -- it is born among more
  child_born : IsBorn after own.depth c
  child_born =
      subst (λ d. IsBorn after d c) (sym next.deeper)
      (next.parent, more next.parent next.lives, still_born statuses after more next.own.depth next.parent parent_born, place)

  -- one of this depth is it, or was made before
  old_child : (q : ℕ) → q ≢ c → IsSome (get after q) → IsSome (get statuses q)
  old_child q apart there = sym (ap is_some (get-insert-other statuses c Live q apart)) ∙ there

  all_made : (q : ℕ) → IsSome (get after q) → (depth : ℕ) × IsBorn after depth q
  all_made q there =
      elim (eqb_tells q c) [
        | inl is ↦ (own.depth, subst (IsBorn after own.depth) (sym is.1) child_born)
        | inr other ↦ (let was = born.made q (old_child q other.1 there) in (was.0, still_born statuses after more was.0 q was.1))
      ]

  same_own : (x : ProcessState) → get (insert processes c own) c ≡ Some x → own ≡ x
  same_own x at = same_value own x (get (insert processes c own) c) (get-insert-same processes c own) at

  old_own : (q : ℕ) (x : ProcessState) → q ≢ c → get (insert processes c own) q ≡ Some x → get processes q ≡ Some x
  old_own q x apart at = sym (get-insert-other processes c own q apart) ∙ at

  all_deep : (q : ℕ) (x : ProcessState) → get (insert processes c own) q ≡ Some x → IsBorn after x.depth q
  all_deep q x at =
      elim (eqb_tells q c) [
        | inl is ↦ (
            let same : own ≡ x = same_own x (subst (λ k. get (insert processes c own) k ≡ Some x) is.1 at) in
            subst (λ (y : ProcessState). IsBorn after y.depth q) same (subst (IsBorn after own.depth) (sym is.1) child_born))
        | inr other ↦ still_born statuses after more x.depth q (born.deep q x (old_own q x other.1 at))
      ]

  -- a process that was made is no child of one that was not
  no_parent : (k depth i : ℕ) → IsSome (get statuses k) → MayHaveChild depth i → IsBorn after depth c → k ≢ child_of c depth i
  no_parent k depth i there may at is = by_depth (born.made k there).0 (born.made k there).1 where
    by_depth : (e : ℕ) → IsBorn statuses e k → ⊥
    by_depth zero none = not_first depth c i may (sym is ∙ none)
    by_depth (suc e) child =
        let of : IsChildOf child.0 e k = child.3 in
        let told = born_told_by after e depth child.0 c of.0 i (still_born statuses after more e child.0 child.2) at of.1 may (sym of.2 ∙ is) in
        not_true (sym (ap is_some next.unmade) ∙ ap (λ q. is_some (get statuses q)) (sym told.0) ∙ child.1)

  -- the new one has no child yet
  none_counted : (j : ℕ) → MayHaveChild own.depth j → IsSome (get after (child_of c own.depth j)) → ⊥
  none_counted j may there =
      no_parent (child_of c own.depth j) own.depth j (old_child (child_of c own.depth j) (child_apart own.depth c j may) there) may child_born refl

  -- and its parent has counted it
  old_counted : (q j : ℕ) (x : ProcessState) → get processes q ≡ Some x → MayHaveChild x.depth j → IsSome (get after (child_of q x.depth j))
      → j ≤ x.counts.forks
  old_counted q j x at may there =
      elim (eqb_tells (child_of q x.depth j) c) [
        | inl is ↦ (
            let told = born_told_by statuses x.depth next.own.depth q next.parent j next.i (born.deep q x at) parent_born may next.may (is.1 ∙ next.number) in
            let same : x ≡ next.own = same_value x next.own (get processes q) at (ap (get processes) told.0 ∙ next.there) in
            let counted : next.i ≤ next.own.counts.forks = next.counted in
            subst (λ (y : ProcessState). j ≤ y.counts.forks) (sym same) (subst (λ k. k ≤ next.own.counts.forks) (sym told.2) counted))
        | inr other ↦ born.counted q j x at may (old_child (child_of q x.depth j) other.1 there)
      ]

  all_counted : (q j : ℕ) (x : ProcessState) → get (insert processes c own) q ≡ Some x → MayHaveChild x.depth j
      → IsSome (get after (child_of q x.depth j)) → j ≤ x.counts.forks
  all_counted q j x at may there =
      elim (eqb_tells q c) [
        | inl is ↦ (
            let same : own ≡ x = same_own x (subst (λ k. get (insert processes c own) k ≡ Some x) is.1 at) in
            absurd (none_counted j (subst (λ (y : ProcessState). MayHaveChild y.depth j) (sym same) may)
            (subst (λ (y : ProcessState). IsSome (get after (child_of c y.depth j))) (sym same)
            (subst (λ k. IsSome (get after (child_of k x.depth j))) is.1 there))))
        | inr other ↦ old_counted q j x (old_own q x other.1 at) may there
      ]

  pub new_born : AreBorn (insert statuses c Live) (insert processes c own)
  new_born = record { made = all_made; deep = all_deep; counted = all_counted }
