-- Threads of which some change.
--     changed_one      where the thread is there that alone changes
--     one_more, one_less, none_left, none_counted      all that pass a test change one after another, and are counted
--     counts_at_most      no more are counted than there are
--     none_changed, there_before      none changes, and all were there before
use Rattle.std.proofs.Common.{◌≡◌, ℕ, ◌+◌, ◌≤◌, ◌==◌, Bool, true, false, inl, inr, Option, Some, None, IsSome, refl, sym, ap, subst, ◌∙◌, arith}
use Rattle.std.proofs.lemmas.Bool.Decides.{eqb_tells}
use Rattle.std.specs.Prelude.{if◌then◌else◌}
use Rattle.std.specs.Ordering.{nat_cmp}
use Rattle.std.specs.Option.{option_map}
use Rattle.std.specs.FinMap.{FinMap, get, insert, len}
use Rattle.maps.specs.Closure.{changed, changed-insert, get-changed, total_below, total_ones}
use Rattle.maps.specs.Maps.{get-insert-same, get-insert-other, insert_self, least_key, least_key-none, passes, same_numbers, total, total-insert, total_none, weight}

one_at_most : (b : Bool) → (if b then 1 else 0) ≤ 1
one_at_most true = omega arith
one_at_most false = omega arith

module _ {X : Type 0} where
  pub unchanged : (f : X → X) (o : Option X) → option_map (λ x. if false then f x else x) o ≡ o
  unchanged f None = refl
  unchanged f (Some x) = refl

  abbrev pub one_changed : (X → X) → ℕ → FinMap nat_cmp X → FinMap nat_cmp X
  one_changed f k m = changed (λ q x. if q == k then f x else x) m

  pub changed_one : (f : X → X) (m : FinMap nat_cmp X) (k : ℕ) (x : X) → get m k ≡ Some x → insert m k (f x) ≡ one_changed f k m
  changed_one f m k x there =
      same_numbers _ _ (λ q. elim (eqb_tells q k) [
        | inl same ↦ ap (get (insert m k (f x))) same.1 ∙ get-insert-same m k (f x) ∙ sym
            (get-changed (λ i y. if i == k then f y else y) m q
            ∙ ap (λ b. option_map (λ y. if b then f y else y) (get m q)) same.0
            ∙ ap (option_map f) (ap (get m) same.1 ∙ there))
        | inr other ↦ get-insert-other m k (f x) q other.1 ∙ sym
            (get-changed (λ i y. if i == k then f y else y) m q
            ∙ ap (λ b. option_map (λ y. if b then f y else y) (get m q)) other.0
            ∙ unchanged f (get m q))
      ])

  -- ---- all that pass a test change, and pass it no more

  module _ (test : X → Bool) (f : X → X) (off : (x : X) → test (f x) ≡ false) where
    abbrev pub if_passes : X → X
    if_passes x = if test x then f x else x

    abbrev pub all_changed : FinMap nat_cmp X → FinMap nat_cmp X
    all_changed m = changed (λ q x. if test x then f x else x) m

    abbrev pub one_if : X → ℕ
    one_if x = if test x then 1 else 0

    changed_twice : (x : X) → test x ≡ true → if_passes (f x) ≡ if_passes x
    changed_twice x pass = ap (λ b. if b then f (f x) else f x) (off x) ∙ sym (ap (λ b. if b then f x else x) pass)

    pub one_more : (m : FinMap nat_cmp X) (k : ℕ) (x : X) → get m k ≡ Some x → test x ≡ true → all_changed (one_changed f k m) ≡ all_changed m
    one_more m k x there pass =
        ap all_changed (sym (changed_one f m k x there))
        ∙ changed-insert (λ q x. if test x then f x else x) m k (f x)
        ∙ insert_self (all_changed m) k (if_passes (f x))
        (get-changed (λ q x. if test x then f x else x) m k ∙ ap (option_map if_passes) there ∙ ap Some (sym (changed_twice x pass)))

    same_value : (o : Option X) (q : ℕ) → passes (λ _ x. test x) q o ≡ false → option_map if_passes o ≡ o
    same_value None q fails = refl
    same_value (Some x) q fails = ap (λ b. Some (if b then f x else x)) fails

    pub none_left : (m : FinMap nat_cmp X) → least_key (λ _ x. test x) m ≡ None → all_changed m ≡ m
    none_left m none =
        same_numbers _ _ (λ q. get-changed (λ i x. if test x then f x else x) m q ∙ same_value (get m q) q (least_key-none (λ _ x. test x) m none q))

    pub one_less : (m : FinMap nat_cmp X) (k : ℕ) (x : X) → get m k ≡ Some x → test x ≡ true → total one_if (one_changed f k m) + 1 ≡ total one_if m
    one_less m k x there pass =
        let here : weight one_if (get m k) ≡ 1 = ap (weight one_if) there ∙ ap (λ (b : Bool). if b then 1 else 0) pass in
        let after : one_if (f x) ≡ 0 = ap (λ (b : Bool). if b then 1 else 0) (off x) in
        let sums = total-insert one_if m k (f x) in
        let same = ap (total one_if) (changed_one f m k x there) in
        omega (arith, here, after, sums, same)

    no_weight : (o : Option X) (q : ℕ) → passes (λ _ x. test x) q o ≡ false → weight one_if o ≡ 0
    no_weight None q fails = refl
    no_weight (Some x) q fails = ap (λ (b : Bool). if b then 1 else 0) fails

    pub none_counted : (m : FinMap nat_cmp X) → least_key (λ _ x. test x) m ≡ None → total one_if m ≡ 0
    none_counted m none = total_none one_if m (λ q. no_weight (get m q) q (least_key-none (λ _ x. test x) m none q))

  weighs_at_most : (test : X → Bool) (o : Option X) → weight (λ x. if test x then 1 else 0) o ≤ weight (λ _. 1) o
  weighs_at_most test None = omega arith
  weighs_at_most test (Some x) = one_at_most (test x)

  pub counts_at_most : (test : X → Bool) (m : FinMap nat_cmp X) → total (λ x. if test x then 1 else 0) m ≤ len m
  counts_at_most test m =
      let below = total_below (λ x. if test x then 1 else 0) (λ (x : X). 1) m m (λ q. weighs_at_most test (get m q)) in
      let ones = total_ones m in
      omega (arith, below, ones)

  -- ---- none changes, and all are there still

  pub none_changed : (m : FinMap nat_cmp X) → changed (λ q x. x) m ≡ m
  none_changed m = same_numbers _ _ (λ q. get-changed (λ i x. x) m q ∙ same_option (get m q))
    where
      same_option : (o : Option X) → option_map (λ x. x) o ≡ o
      same_option None = refl
      same_option (Some x) = refl

  was_there : (f : X → X) (o : Option X) → IsSome (option_map f o) → IsSome o
  was_there f None there = there
  was_there f (Some x) there = refl

  pub there_before : (f : ℕ → X → X) (m : FinMap nat_cmp X) (q : ℕ) → IsSome (get (changed f m) q) → IsSome (get m q)
  there_before f m q there = was_there (f q) (get m q) (subst IsSome (get-changed f m q) there)
