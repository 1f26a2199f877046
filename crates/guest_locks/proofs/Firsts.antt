-- The thread that has stood in a queue longest, found as the threads are looked at one after another.
--     IsFirstOf      it is the first of those with these numbers
--     none_yet      of none it is none
--     goes_on      one thread more
--     is_least      of all of them
--     key_there, is_from      the number that comes next
--     earliest_at      since when it stands there
--     none_in      where there is no first, no value has a moment
use Rattle.std.proofs.Common.{◌≡◌, ◌⊎◌, inl, inr, ℕ, ◌+◌, ◌<◌, ◌≤◌, nat_le, nat_lt, not, Bool, true, false, Option, Some, None, IsSome, is_some, refl, sym, ap, ◌∙◌, arith}
use Rattle.std.proofs.lemmas.Bool.{le-leb, leb-true, leb-false, ltb-true, ltb-false}
use Rattle.std.proofs.lemmas.Bool.Decides.{leb_tells}
use Rattle.std.specs.Prelude.{if◌then◌else◌}
use Rattle.std.specs.Ordering.{nat_cmp}
use Rattle.std.specs.FinMap.{FinMap, get}
use Rattle.maps.specs.Maps.{least_key, least_key-entry, least_key-least, least_key-none, least_key_is, least_key_is_none, passes}
use Rattle.kernel_model.specs.Earliest.{earliest, is_before, is_first, moment_at, moment_of_value}
use Rattle.kernel_model.proofs.Earliest.{earliest_none}
use Rattle.kernel_model.proofs.Tests.{none_is_no, not_true, same_some}
use Rattle.guest_locks.specs.Queues.{ahead, beside, number_of}
use Rattle.guest_locks.specs.declared.queues.Waiter.{Waiter}

module _ {X : Type 0} (f : X → Option ℕ) (m : FinMap nat_cmp X) where
  -- a moment of one of these isn't before this one, and where it is the same its key isn't less
  abbrev pub IsAhead : (ℕ → Type 0) → Waiter → Type 0
  IsAhead these w = (k : ℕ) (y : X) (other : ℕ) → these k → get m k ≡ Some y → f y ≡ Some other → (w.since ≤ other) × (w.since ≡ other → w.tid ≤ k)

  abbrev pub IsFirstOf : (ℕ → Type 0) → Option Waiter → Type 0
  IsFirstOf these None = (k : ℕ) (x : X) → these k → get m k ≡ Some x → f x ≡ None
  IsFirstOf these (Some w) = ((x : X) × (get m w.tid ≡ Some x) × (f x ≡ Some w.since)) × these w.tid × IsAhead these w

  pub none_yet : IsFirstOf (λ q. q < 0) None
  none_yet k x below there = absurd (omega (arith, below))

  module _ (from tid : ℕ) (x : X) (least : least_key (λ q _. nat_le from q) m ≡ Some tid) (there : get m tid ≡ Some x) where
    at_least : from ≤ tid
    at_least = leb-true from tid (let entry = least_key-entry (λ q _. nat_le from q) m tid least in entry.2)

    -- a key below the next number is below this one, or the key is this one
    cover : (k : ℕ) (y : X) → k < tid + 1 → get m k ≡ Some y → (k < from) ⊎ ((k ≡ tid) × (y ≡ x))
    cover k y below here =
        elim (leb_tells from k) [
          | inr under ↦ (let less = under.1 in inl (omega (arith, less)))
          | inl over ↦ (
              let up = least_key-least (λ q _. nat_le from q) m tid least k (ap (passes (λ q _. nat_le from q) k) here ∙ le-leb from k over.1) in
              let same : k ≡ tid = omega (arith, up, below) in
              inr (same, same_some y x (sym here ∙ ap (get m) same ∙ there)))
        ]

    still_none : IsFirstOf (λ q. q < from) None → f x ≡ None → IsFirstOf (λ q. q < tid + 1) None
    still_none before is k y below here =
        elim (cover k y below here) [ inl under ↦ before k y under here | inr same ↦ ap f same.1 ∙ is ]

    still : (w : Waiter) → IsFirstOf (λ q. q < from) (Some w) → f x ≡ None → IsFirstOf (λ q. q < tid + 1) (Some w)
    still w before is = (
      before.0,
      (let low = before.1 in let up = at_least in omega (arith, low, up)),
      λ k y other below here has. elim (cover k y below here) [
        | inl under ↦ before.2 k y other under here has
        | inr same ↦ absurd (none_is_no other (sym is ∙ ap f (sym same.1) ∙ has))
      ],
    )

    -- none has stood in the queue before
    alone : (since : ℕ) → IsFirstOf (λ q. q < from) None → f x ≡ Some since → IsFirstOf (λ q. q < tid + 1) (Some (record { tid = tid; since = since }))
    alone since before is = (
      (x, there, is),
      omega arith,
      λ k y other below here has. elim (cover k y below here) [
        | inl under ↦ absurd (none_is_no other (sym (before k y under here) ∙ has))
        | inr same ↦ (
            let moment : since ≡ other = same_some since other (sym is ∙ ap f (sym same.1) ∙ has) in
            let number = same.0 in
            (omega (arith, moment), λ _. omega (arith, number)))
      ],
    )

    kept : (w : Waiter) (since : ℕ) → IsFirstOf (λ q. q < from) (Some w) → f x ≡ Some since → w.since ≤ since → IsFirstOf (λ q. q < tid + 1) (Some w)
    kept w since before is first = (
      before.0,
      (let low = before.1 in let up = at_least in omega (arith, low, up)),
      λ k y other below here has. elim (cover k y below here) [
        | inl under ↦ before.2 k y other under here has
        | inr same ↦ (
            let moment : since ≡ other = same_some since other (sym is ∙ ap f (sym same.1) ∙ has) in
            let number = same.0 in
            let low = before.1 in
            let up = at_least in
            (omega (arith, moment, first), λ _. omega (arith, number, low, up)))
      ],
    )

    taken : (w : Waiter) (since : ℕ) → IsFirstOf (λ q. q < from) (Some w) → f x ≡ Some since → since < w.since
        → IsFirstOf (λ q. q < tid + 1) (Some (record { tid = tid; since = since }))
    taken w since before is first = (
      (x, there, is),
      omega arith,
      λ k y other below here has. elim (cover k y below here) [
        | inl under ↦ (
            let old = (before.2 k y other under here has).0 in
            (omega (arith, old, first), λ same. absurd (omega (arith, old, first, same))))
        | inr same ↦ (
            let moment : since ≡ other = same_some since other (sym is ∙ ap f (sym same.1) ∙ has) in
            let number = same.0 in
            (omega (arith, moment), λ _. omega (arith, number)))
      ],
    )

    goes_on_some : (found : Option Waiter) (since : ℕ) → IsFirstOf (λ q. q < from) found → f x ≡ Some since
        → IsFirstOf (λ q. q < tid + 1) (Some (ahead found (record { tid = tid; since = since })))
    goes_on_some None since before is = alone since before is
    goes_on_some (Some w) since before is =
        elim (nat_le w.since since) as (λ b. nat_le w.since since ≡ b
        → IsFirstOf (λ q. q < tid + 1) (Some (if b then w else record { tid = tid; since = since }))) [
          | true ↦ λ e. kept w since before is (leb-true w.since since e)
          | false ↦ λ e. taken w since before is (leb-false w.since since e)
        ] refl

    goes_on_by : (found : Option Waiter) (o : Option ℕ) → IsFirstOf (λ q. q < from) found → f x ≡ o → IsFirstOf (λ q. q < tid + 1) (beside found tid o)
    goes_on_by None None before is = still_none before is
    goes_on_by (Some w) None before is = still w before is
    goes_on_by found (Some since) before is = goes_on_some found since before is

  pub goes_on : (from tid : ℕ) (found : Option Waiter) (o : Option ℕ) → least_key (λ q _. nat_le from q) m ≡ Some tid → o ≡ moment_of_value f (get m tid)
      → IsFirstOf (λ q. q < from) found → IsFirstOf (λ q. q < tid + 1) (beside found tid o)
  goes_on from tid found o least is before =
      let entry = least_key-entry (λ q _. nat_le from q) m tid least in
      goes_on_by from tid entry.0 least entry.1 found o before (sym (ap (moment_of_value f) entry.1) ∙ sym is)

  -- ---- of all

  module _ (from : ℕ) (end : least_key (λ q _. nat_le from q) m ≡ None) where
    all_below : (k : ℕ) (y : X) → get m k ≡ Some y → k < from
    all_below k y here =
        elim (leb_tells from k) [
          | inr under ↦ (let less = under.1 in omega (arith, less))
          | inl over ↦ absurd (not_true (sym (sym (ap (passes (λ q _. nat_le from q) k) here) ∙ least_key-none (λ q _. nat_le from q) m end k) ∙ le-leb from k over.1))
        ]

    no_first : (k : ℕ) (o : Option X) → get m k ≡ o → IsFirstOf (λ q. q < from) None → passes (λ t y. is_first f m (f y)) k o ≡ false
    no_first k None here none = refl
    no_first k (Some y) here none = ap (is_first f m) (none k y (all_below k y here) here)

    before_none : (w : Waiter) → IsAhead (λ q. q < from) w → (k : ℕ) (o : Option X) → get m k ≡ o → passes (λ t y. is_before w.since (f y)) k o ≡ false
    before_none w first k None here = refl
    before_none w first k (Some y) here =
        elim (f y) as (λ o. f y ≡ o → is_before w.since o ≡ false) [
          | None ↦ λ e. refl
          | Some other ↦ λ e. (
              let least = (first k y other (all_below k y here) here e).0 in
              elim (nat_lt other w.since) as (λ b. nat_lt other w.since ≡ b → b ≡ false) [
                | true ↦ λ less. (let under = ltb-true other w.since less in absurd (omega (arith, least, under)))
                | false ↦ λ _. refl
              ] refl)
        ] refl

    is_first_of : (w : Waiter) → IsAhead (λ q. q < from) w → is_first f m (Some w.since) ≡ true
    is_first_of w first =
        ap (λ o. not (is_some o)) (least_key_is_none (λ t y. is_before w.since (f y)) m (λ k. before_none w first k (get m k) refl))

    -- one that is the first as well has the same moment
    not_ahead : (w : Waiter) → IsFirstOf (λ q. q < from) (Some w) → (k : ℕ) (o : Option X) → get m k ≡ o → passes (λ t y. is_first f m (f y)) k o ≡ true → w.tid ≤ k
    not_ahead w first k None here pass = absurd (not_true pass)
    not_ahead w first k (Some y) here pass =
        elim (f y) as (λ o. f y ≡ o → is_first f m o ≡ true → w.tid ≤ k) [
          | None ↦ λ e h. absurd (not_true h)
          | Some other ↦ λ e h. (
              let both = first.2 k y other (all_below k y here) here e in
              let least = both.0 in
              let most = other_first other h in
              both.1 (omega (arith, least, most)))
        ] refl pass
      where
        no_key : (other : ℕ) → is_first f m (Some other) ≡ true → least_key (λ t z. is_before other (f z)) m ≡ None
        no_key other h =
            elim (least_key (λ t z. is_before other (f z)) m) as (λ o. not (is_some o) ≡ true → o ≡ None) [
              | None ↦ λ _. refl
              | Some i ↦ λ e. absurd (not_true e)
            ] h

        other_first : (other : ℕ) → is_first f m (Some other) ≡ true → other ≤ w.since
        other_first other h =
            ltb-false w.since other
            (sym (ap (is_before other) first.0.2)
            ∙ sym (ap (passes (λ t z. is_before other (f z)) w.tid) first.0.1) ∙ least_key-none (λ t z. is_before other (f z)) m (no_key other h) w.tid)

    pub is_least : (found : Option Waiter) → IsFirstOf (λ q. q < from) found → number_of found ≡ least_key (λ t y. is_first f m (f y)) m
    is_least None none = sym (least_key_is_none (λ t y. is_first f m (f y)) m (λ k. no_first k (get m k) refl none))
    is_least (Some w) first =
        sym (least_key_is (λ t y. is_first f m (f y)) m w.tid
        (ap (passes (λ t y. is_first f m (f y)) w.tid) first.0.1 ∙ ap (is_first f m) first.0.2 ∙ is_first_of w first.2)
        (λ k pass. not_ahead w first k (get m k) refl pass))

  -- ---- the number that comes next

  pub key_there : (test : ℕ → X → Bool) (k : ℕ) → least_key test m ≡ Some k → IsSome (get m k)
  key_there test k least = let entry = least_key-entry test m k least in ap is_some entry.1

  pub is_from : (from k : ℕ) → least_key (λ q _. nat_le from q) m ≡ Some k → from ≤ k
  is_from from k least = leb-true from k (let entry = least_key-entry (λ q _. nat_le from q) m k least in entry.2)

  -- ---- since when

  pub earliest_at : (o : Option ℕ) → o ≡ least_key (λ t x. is_first f m (f x)) m → moment_at f m o ≡ earliest f m
  unfolding earliest
  earliest_at o is = ap (moment_at f m) is

  pub none_in : least_key (λ t x. is_first f m (f x)) m ≡ None → least_key (λ t x. is_some (f x)) m ≡ None
  none_in none =
      least_key_is_none (λ t x. is_some (f x)) m (λ q. absent q (get m q) refl)
    where
      absent : (q : ℕ) (o : Option X) → get m q ≡ o → passes (λ t x. is_some (f x)) q o ≡ false
      absent q None there = refl
      absent q (Some x) there = ap is_some (earliest_none f m (sym (earliest_at None (sym none))) q x there)
