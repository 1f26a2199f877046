-- Tickets that are ready, as they come and go.
--     numbered_none, numbered_put, numbered_take, numbered_hold, numbered_release      they stay numbered
--     numbered_same      also where what was put in was taken out again
--     first_at, first_at_none      the first ticket of a process is found by its place
--     first_led      and the first one of a free process by what leads to it
use Rattle.std.proofs.Common.{◌≡◌, ◌≢◌, ◌⊎◌, ℕ, ◌+◌, ◌-◌, ◌*◌, ◌/◌, ◌^◌, ◌<◌, ◌≤◌, ◌==◌, Bool, true, false, cond, not, nat_le, ◌&&◌, Option, None, Some, is_some, is_none, inl, inr, refl, sym, ap, subst, ◌∙◌, arith}
use Rattle.std.proofs.lemmas.Bool.{le-leb, leb-true}
use Rattle.std.proofs.lemmas.Bool.Decides.{eqb_tells}
use Rattle.std.specs.FinMap.{FinMap, empty, get, insert, remove, contains_key, get-empty}
use Rattle.std.specs.Ordering.{nat_cmp}
use Rattle.std.specs.Option.{IfSome, option_map}
use Rattle.maps.specs.Halves.{not_true}
use Rattle.maps.specs.Maps.{passes, least_key, least_key-entry, least_key-least, least_key-none, least_key_is, least_key_is_none, get-insert-same, get-insert-other, get-remove-same, get-remove-other, remove-inserted, remove_absent}
use Rattle.turn_queue.specs.Numbered.{IsNumbered, Numbered, Numbers, first_free, first_of, is_free, with_busy, led_by, led_no_more, number_beside, place_of}
use Rattle.turn_queue.proofs.Firsts.{not_None, same_Some, same_by, by_same, first_entry, first_most, some_first, is_first, no_first, none_next, first_put_other, first_put_some, first_put_none, put_below, first_less}

-- ---- sets of numbers

pub holds_put : (b : Numbers) (p : ℕ) → contains_key (insert b p tt) p ≡ true
holds_put b p = ap is_some (get-insert-same b p tt)

pub holds_put_other : (b : Numbers) (p q : ℕ) → q ≢ p → contains_key (insert b p tt) q ≡ contains_key b q
holds_put_other b p q n = ap is_some (get-insert-other b p tt q n)

pub lacks_less : (b : Numbers) (p : ℕ) → contains_key (remove b p) p ≡ false
lacks_less b p = ap is_some (get-remove-same b p)

pub holds_less_other : (b : Numbers) (p q : ℕ) → q ≢ p → contains_key (remove b p) q ≡ contains_key b q
holds_less_other b p q n = ap is_some (get-remove-other b p q n)

pub absent : {A : Type 0} (o : Option A) → is_some o ≡ false → o ≡ None
absent None e = refl
absent (Some x) e = absurd (not_true (sym e))

passes_some : (test : ℕ → Bool) (q : ℕ) (o : Option (Unit {0})) → is_some o ≡ true → passes (λ k _. test k) q o ≡ test q
passes_some test q None e = absurd (not_true e)
passes_some test q (Some x) e = refl

-- a number of the set is not before the least one
pub least_most : (b : Numbers) (low k : ℕ) → least_key (λ q _. nat_le low q) b ≡ Some k → (q : ℕ) → contains_key b q ≡ true → low ≤ q → k ≤ q
least_most b low k is q there above =
    least_key-least (λ j _. nat_le low j) b k is q (passes_some (nat_le low) q (get b q) there ∙ le-leb low q above)

pub none_most : (b : Numbers) (low : ℕ) → least_key (λ q _. nat_le low q) b ≡ None → (q : ℕ) → contains_key b q ≡ true → low ≤ q → false ≡ true
none_most b low is q there above =
    sym (least_key-none (λ j _. nat_le low j) b is q) ∙ passes_some (nat_le low) q (get b q) there ∙ le-leb low q above

module _ {T : Type 0} (process : T → ℕ) where
  abbrev of : ℕ → ℕ → T → Bool
  of p n ticket = process ticket == p

  pub numbered_none : (m : FinMap nat_cmp T) (places : Numbers) (firsts : FinMap nat_cmp ℕ) (busy : Numbers) → m ≡ empty → places ≡ empty → firsts ≡ empty
      → IsNumbered process m 0 places firsts busy
  numbered_none m places firsts busy no_m no_places no_firsts = record {
    small = omega arith;
    below = λ n x there. absurd (not_None x (sym (nothing n) ∙ there));
    placed = λ p n _. ap is_some (ap (λ (b : Numbers). get b (place_of p n)) no_places ∙ get-empty nat_cmp (place_of p n)) ∙ sym (ap (passes (of p) n) (nothing n));
    leads = λ n p there. absurd (not_None p (sym (ap (λ (f : FinMap nat_cmp ℕ). get f n) no_firsts ∙ get-empty nat_cmp n) ∙ there));
    led = λ n p _ is. let entry = first_entry process m p n is in absurd (not_None entry.0 (sym (nothing n) ∙ entry.1));
  }
    where
      nothing : (n : ℕ) → get m n ≡ None
      nothing n = ap (λ (k : FinMap nat_cmp T). get k n) no_m ∙ get-empty nat_cmp n

  module _ (m : FinMap nat_cmp T) (next : ℕ) (places : Numbers) (firsts : FinMap nat_cmp ℕ) (busy : Numbers) (all : IsNumbered process m next places firsts busy) where
    -- ---- where a ticket is found

    number_small : (n : ℕ) (x : T) → get m n ≡ Some x → n < 2 ^ 64
    number_small n x there = let before = all.below n x there in let small = all.small in omega (arith, before, small)

    has_place : (n : ℕ) (x : T) → get m n ≡ Some x → (p : ℕ) → process x ≡ p → contains_key places (place_of p n) ≡ true
    has_place n x there p same = all.placed p n (number_small n x there) ∙ ap (passes (of p) n) there ∙ by_same _ _ same

    stands_at : (p n : ℕ) → n < 2 ^ 64 → contains_key places (place_of p n) ≡ true → (x : T) × (get m n ≡ Some x) × (process x ≡ p)
    stands_at p n small there =
        elim (get m n) as (λ o. get m n ≡ o → passes (of p) n o ≡ true → (x : T) × (o ≡ Some x) × (process x ≡ p)) [
          | None ↦ λ _ h. absurd (not_true h)
          | Some x ↦ λ _ h. (x, refl, same_by _ _ h)
        ] refl (sym (all.placed p n small) ∙ there)

    pub first_at_none : (p low : ℕ) → low ≡ place_of p 0 → least_key (λ q _. nat_le low q) places ≡ None → first_of process p m ≡ None
    first_at_none p low at is =
        no_first process m p (λ n x there same. not_true (none_most places low is (place_of p n) (has_place n x there p same) (omega (arith, at))))

    pub first_at : (p low k : ℕ) → low ≡ place_of p 0 → least_key (λ q _. nat_le low q) places ≡ Some k → number_beside p k ≡ first_of process p m
    first_at p low k at is =
        let entry = least_key-entry (λ q _. nat_le low q) places k is in
        let there : contains_key places k ≡ true = ap is_some entry.1 in
        elim (eqb_tells (k / 2 ^ 64) p) [
          | inl same ↦
              let here = same.1 in
              let splits : k ≡ place_of p (k - p * 2 ^ 64) = omega (arith, here) in
              let x = stands_at p (k - p * 2 ^ 64) (omega (arith, here)) (ap (λ (j : ℕ). contains_key places j) (sym splits) ∙ there) in
              ap (λ b. cond b (Some (k - p * 2 ^ 64)) None) same.0
              ∙ sym (is_first process m p (k - p * 2 ^ 64) x.0 x.1 x.2 (λ n y is_there whose.
              let most = least_most places low k is (place_of p n) (has_place n y is_there p whose) (omega (arith, at)) in
              omega (arith, most)))
          | inr apart ↦
              ap (λ b. cond b (Some (k - p * 2 ^ 64)) None) apart.0
              ∙ sym (no_first process m p (λ n y is_there whose.
              let most = least_most places low k is (place_of p n) (has_place n y is_there p whose) (omega (arith, at)) in
              let least = leb-true low k entry.2 in
              let small = number_small n y is_there in
              apart.1 (omega (arith, most, least, at, small))))
        ]

    -- ---- the first one of a free process

    abbrev frees : ℕ → T → Bool
    frees n x = not (contains_key busy (process x))

    free_by : (x : T) → contains_key busy (process x) ≡ false → not (contains_key busy (process x)) ≡ true
    free_by x e = ap not e

    free_of : (b : Bool) → not b ≡ true → b ≡ false
    free_of true e = absurd (not_true e)
    free_of false e = refl

    leads_of : (n : ℕ) (x : T) → get m n ≡ Some x → contains_key busy (process x) ≡ false → (k : ℕ) × (get firsts k ≡ Some (process x)) × (k ≤ n)
    leads_of n x there is =
        let first = some_first process m n x there in
        (first.0, all.led first.0 (process x) is first.1, first_most process m (process x) first.0 first.1 n x there refl)

    pub first_led : (o : Option ℕ) → o ≡ least_key (λ q _. nat_le 0 q) firsts → o ≡ least_key frees m
    first_led None is =
        sym (least_key_is_none frees m
        (λ n. elim (get m n) as (λ t. get m n ≡ t → passes frees n t ≡ false) [
          | None ↦ λ _. refl
          | Some x ↦ λ there. elim (contains_key busy (process x)) as (λ b. contains_key busy (process x) ≡ b → not b ≡ false) [
            | true ↦ λ _. refl
            | false ↦ λ free.
                let leads = leads_of n x there free in
                absurd (not_true (sym (least_key-none (λ q _. nat_le 0 q) firsts (sym is) leads.0)
                ∙ ap (passes (λ q _. nat_le 0 q) leads.0) leads.1 ∙ le-leb 0 leads.0 (omega arith)))
          ] refl
        ] refl))
    first_led (Some k) is =
        let entry = least_key-entry (λ q _. nat_le 0 q) firsts k (sym is) in
        let leads = all.leads k entry.0 entry.1 in
        let x = first_entry process m entry.0 k leads.1 in
        sym (least_key_is frees m k
        (ap (passes frees k) x.1 ∙ ap (λ p. not (contains_key busy p)) x.2 ∙ ap not leads.0)
        (λ n h. elim (get m n) as (λ t. get m n ≡ t → passes frees n t ≡ true → k ≤ n) [
          | None ↦ λ _ passed. absurd (not_true passed)
          | Some y ↦ λ there passed.
              let other = leads_of n y there (free_of _ passed) in
              let least = least_key-least (λ q _. nat_le 0 q) firsts k (sym is) other.0
              (ap (passes (λ q _. nat_le 0 q) other.0) other.1 ∙ le-leb 0 other.0 (omega arith)) in
              let first = other.2 in
              omega (arith, least, first)
        ] refl h))

    -- ---- one comes

    pub no_place : (p : ℕ) → get places (place_of p next) ≡ None
    no_place p =
        let small = all.small in
        absent _ (all.placed p next small ∙ ap (passes (of p) next) (none_next process m next all.below))

    pub no_leader : get firsts next ≡ None
    no_leader =
        elim (get firsts next) as (λ o. get firsts next ≡ o → o ≡ None) [
          | None ↦ λ _. refl
          | Some p ↦ λ e. let leads = all.leads next p e in let x = first_entry process m p next leads.1 in
              absurd (not_None x.0 (sym (none_next process m next all.below) ∙ x.1))
        ] refl

    pub numbered_same : (p : ℕ) (first : Bool) (places' places'' : Numbers) (firsts' firsts'' : FinMap nat_cmp ℕ)
        → places' ≡ insert places (place_of p next) tt → firsts' ≡ led_by p (cond first (Some next) None) firsts
        → places'' ≡ remove places' (place_of p next) → firsts'' ≡ remove firsts' next
        → IsNumbered process m next places'' firsts'' busy
    numbered_same p first places' places'' firsts' firsts'' put led less unled =
        subst (λ (b : Numbers). IsNumbered process m next b firsts'' busy)
        (sym (less ∙ ap (λ (b : Numbers). remove b (place_of p next)) put ∙ remove-inserted places (place_of p next) tt (no_place p)))
        (subst (λ (f : FinMap nat_cmp ℕ). IsNumbered process m next places f busy)
        (sym (unled ∙ ap (λ (f : FinMap nat_cmp ℕ). remove f next) led ∙ back first))
        all)
      where
        back : (b : Bool) → remove (led_by p (cond b (Some next) None) firsts) next ≡ firsts
        back true = remove-inserted firsts next p no_leader
        back false = remove_absent firsts next no_leader

    pub first_fresh : (b : Bool) (o : Option ℕ) → o ≡ cond b (Some next) None → IfSome o (λ n. get firsts n ≡ None)
    first_fresh b o is = subst (λ t. IfSome t (λ n. get firsts n ≡ None)) (sym is) (fresh b)
      where
        fresh : (c : Bool) → IfSome (cond c (Some next) None) (λ n. get firsts n ≡ None)
        fresh true = no_leader
        fresh false = tt

    module _ (x : T) where
      placed_put : (q n : ℕ) → n < 2 ^ 64 → contains_key (insert places (place_of (process x) next) tt) (place_of q n) ≡ passes (of q) n (get (insert m next x) n)
      placed_put q n small =
          let next_small = all.small in
          elim (eqb_tells n next) [
            | inl same ↦
                ap (λ k. contains_key (insert places (place_of (process x) next) tt) (place_of q k)) same.1
                ∙ elim (eqb_tells (process x) q) [
                  | inl is ↦ ap (λ (k : ℕ). contains_key (insert places (place_of (process x) next) tt) (place_of k next)) (sym is.1)
                      ∙ holds_put places (place_of (process x) next) ∙ sym is.0
                  | inr apart ↦
                      holds_put_other places (place_of (process x) next) (place_of q next) (λ e. apart.1 (omega (arith, e)))
                      ∙ all.placed q next next_small ∙ ap (passes (of q) next) (none_next process m next all.below) ∙ sym apart.0
                ]
                ∙ sym (ap (λ k. passes (of q) n (get (insert m next x) k)) same.1 ∙ ap (passes (of q) n) (get-insert-same m next x))
            | inr apart ↦
                holds_put_other places (place_of (process x) next) (place_of q n) (λ e. apart.1 (omega (arith, e, small, next_small)))
                ∙ all.placed q n small ∙ sym (ap (passes (of q) n) (get-insert-other m next x n apart.1))
          ]

      other_first : (q : ℕ) → process x ≢ q → first_of process q (insert m next x) ≡ first_of process q m
      other_first q apart = first_put_other process m next x all.below q apart

      put_record : next + 1 < 2 ^ 64 → (firsts' : FinMap nat_cmp ℕ)
          → ((n p : ℕ) → get firsts' n ≡ Some p → (contains_key busy p ≡ false) × (first_of process p (insert m next x) ≡ Some n))
          → ((n p : ℕ) → contains_key busy p ≡ false → first_of process p (insert m next x) ≡ Some n → get firsts' n ≡ Some p)
          → IsNumbered process (insert m next x) (next + 1) (insert places (place_of (process x) next) tt) firsts' busy
      put_record small firsts' leads led = record {
        small = small;
        below = put_below process m next x all.below;
        placed = placed_put;
        leads = leads;
        led = led;
      }

      -- where its process is busy, or has a ticket already
      put_behind : next + 1 < 2 ^ 64 → ((contains_key busy (process x) ≡ true) ⊎ ((n : ℕ) × (first_of process (process x) m ≡ Some n)))
          → IsNumbered process (insert m next x) (next + 1) (insert places (place_of (process x) next) tt) firsts busy
      put_behind small behind =
          put_record small firsts
          (λ n p there. let leads = all.leads n p there in (leads.0, first_put_some process m next x all.below p n leads.1))
          (λ n p free is. elim (eqb_tells (process x) p) [
            | inl same ↦ elim behind [
              | inl held ↦ absurd (not_true (sym free ∙ ap (λ (q : ℕ). contains_key busy q) (sym same.1) ∙ held))
              | inr first ↦
                  let old : first_of process p m ≡ Some first.0 = ap (λ (q : ℕ). first_of process q m) (sym same.1) ∙ first.1 in
                  let at = same_Some _ _ (sym (first_put_some process m next x all.below p first.0 old) ∙ is) in
                  all.led n p free (old ∙ ap Some at)
            ]
            | inr apart ↦ all.led n p free (sym (other_first p apart.1) ∙ is)
          ])

      put_first : next + 1 < 2 ^ 64 → contains_key busy (process x) ≡ false → first_of process (process x) m ≡ None
          → IsNumbered process (insert m next x) (next + 1) (insert places (place_of (process x) next) tt) (insert firsts next (process x)) busy
      put_first small free none =
          let is_next : first_of process (process x) (insert m next x) ≡ Some next = first_put_none process m next x all.below none in
          put_record small (insert firsts next (process x))
          (λ n p there. elim (eqb_tells n next) [
            | inl same ↦
                let whose : process x ≡ p = same_Some _ _ (sym (get-insert-same firsts next (process x)) ∙ ap (get (insert firsts next (process x))) (sym same.1) ∙ there) in (
                  ap (λ (q : ℕ). contains_key busy q) (sym whose) ∙ free,
                  ap (λ (q : ℕ). first_of process q (insert m next x)) (sym whose) ∙ is_next ∙ ap Some (sym same.1),
                )
            | inr apart ↦
                let leads = all.leads n p (sym (get-insert-other firsts next (process x) n apart.1) ∙ there) in
                (leads.0, first_put_some process m next x all.below p n leads.1)
          ])
          (λ n p is_free is. elim (eqb_tells (process x) p) [
            | inl same ↦
                let at : next ≡ n = same_Some _ _ (sym is_next ∙ ap (λ (q : ℕ). first_of process q (insert m next x)) same.1 ∙ is) in
                ap (get (insert firsts next (process x))) (sym at) ∙ get-insert-same firsts next (process x) ∙ ap Some same.1
            | inr apart ↦
                let old = sym (other_first p apart.1) ∙ is in
                let y = first_entry process m p n old in
                let before = all.below n y.0 y.1 in
                get-insert-other firsts next (process x) n (λ e. omega (arith, e, before)) ∙ all.led n p is_free old
          ])

      pub numbered_put : (m' : FinMap nat_cmp T) (next' : ℕ) (places' : Numbers) (firsts' : FinMap nat_cmp ℕ) (first : Option ℕ)
          → next' ≡ next + 1 → next + 1 < 2 ^ 64 → m' ≡ insert m next x → places' ≡ insert places (place_of (process x) next) tt
          → firsts' ≡ led_by (process x) first firsts
          → first ≡ cond (not (contains_key busy (process x)) && is_none (first_of process (process x) m)) (Some next) None
          → IsNumbered process m' next' places' firsts' busy
      numbered_put m' next' places' firsts' first is_next small put placed led which =
          subst (λ (k : FinMap nat_cmp T). IsNumbered process k next' places' firsts' busy) (sym put)
          (subst (λ (k : ℕ). IsNumbered process (insert m next x) k places' firsts' busy) (sym is_next)
          (subst (λ (b : Numbers). IsNumbered process (insert m next x) (next + 1) b firsts' busy) (sym placed)
          (subst (λ (f : FinMap nat_cmp ℕ). IsNumbered process (insert m next x) (next + 1) (insert places (place_of (process x) next) tt) f busy)
          (sym (led ∙ ap (λ o. led_by (process x) o firsts) which))
          (by_cases (contains_key busy (process x)) (first_of process (process x) m) refl refl))))
        where
          by_cases : (b : Bool) (o : Option ℕ) → contains_key busy (process x) ≡ b → first_of process (process x) m ≡ o
              → IsNumbered process (insert m next x) (next + 1) (insert places (place_of (process x) next) tt)
              (led_by (process x) (cond (not b && is_none o) (Some next) None) firsts) busy
          by_cases true o held _ = put_behind small (inl held)
          by_cases false None free none = put_first small free none
          by_cases false (Some n) free some = put_behind small (inr (n, some))

    -- ---- one goes

    pub numbered_take : (n : ℕ) (x : T) (m' : FinMap nat_cmp T) (places' : Numbers) → Some x ≡ get m n → contains_key busy (process x) ≡ true
        → m' ≡ remove m n → places' ≡ remove places (place_of (process x) n) → IsNumbered process m' next places' firsts busy
    numbered_take n x m' places' there held less unplaced =
        subst (λ (k : FinMap nat_cmp T). IsNumbered process k next places' firsts busy) (sym less)
        (subst (λ (b : Numbers). IsNumbered process (remove m n) next b firsts busy) (sym unplaced)
        (record {
          small = all.small;
          below = λ k y is. elim (eqb_tells k n) [
            | inl same ↦ absurd (not_None y (sym (ap (get (remove m n)) same.1 ∙ get-remove-same m n) ∙ is))
            | inr apart ↦ all.below k y (sym (get-remove-other m n k apart.1) ∙ is)
          ];
          placed = placed_less;
          leads = λ k q leader.
              let leads = all.leads k q leader in
              (leads.0, first_less process m n x (sym there) q (λ e. not_true (sym leads.0 ∙ ap (λ (j : ℕ). contains_key busy j) (sym e) ∙ held)) ∙ leads.1);
          led = λ k q free is.
              all.led k q free (sym (first_less process m n x (sym there) q (λ e. not_true (sym free ∙ ap (λ (j : ℕ). contains_key busy j) (sym e) ∙ held))) ∙ is);
        }))
      where
        placed_less : (q k : ℕ) → k < 2 ^ 64 → contains_key (remove places (place_of (process x) n)) (place_of q k) ≡ passes (of q) k (get (remove m n) k)
        placed_less q k small =
            let number = number_small n x (sym there) in
            elim (eqb_tells k n) [
              | inl same ↦
                  ap (λ j. contains_key (remove places (place_of (process x) n)) (place_of q j)) same.1
                  ∙ elim (eqb_tells (process x) q) [
                    | inl is ↦ ap (λ (j : ℕ). contains_key (remove places (place_of (process x) n)) (place_of j n)) (sym is.1) ∙ lacks_less places (place_of (process x) n)
                    | inr apart ↦ holds_less_other places (place_of (process x) n) (place_of q n) (λ e. apart.1 (omega (arith, e)))
                        ∙ all.placed q n number ∙ ap (passes (of q) n) (sym there) ∙ apart.0
                  ]
                  ∙ sym (ap (λ j. passes (of q) k (get (remove m n) j)) same.1 ∙ ap (passes (of q) k) (get-remove-same m n))
              | inr apart ↦
                  holds_less_other places (place_of (process x) n) (place_of q k) (λ e. apart.1 (omega (arith, e, small, number)))
                  ∙ all.placed q k small ∙ sym (ap (passes (of q) k) (get-remove-other m n k apart.1))
            ]

    -- nothing goes where there is no such ticket
    pub numbered_miss : (n : ℕ) (m' : FinMap nat_cmp T) → None ≡ get m n → m' ≡ remove m n → IsNumbered process m' next places firsts busy
    numbered_miss n m' missing less =
        subst (λ (k : FinMap nat_cmp T). IsNumbered process k next places firsts busy) (sym (less ∙ remove_absent m n (sym missing))) all

    -- ---- a process is held, or let go

    pub numbered_hold : (p : ℕ) (o : Option ℕ) (firsts' : FinMap nat_cmp ℕ) (busy' : Numbers) → o ≡ first_of process p m → busy' ≡ insert busy p tt
        → firsts' ≡ led_no_more o firsts → IsNumbered process m next places firsts' busy'
    numbered_hold p o firsts' busy' is held less =
        subst (λ (b : Numbers). IsNumbered process m next places firsts' b) (sym held)
        (subst (λ (f : FinMap nat_cmp ℕ). IsNumbered process m next places f (insert busy p tt)) (sym less)
        (record {
          small = all.small;
          below = all.below;
          placed = all.placed;
          leads = λ n q leader.
              let old = was n q o refl leader in
              let leads = all.leads n q old in
              (holds_put_other busy p q (λ e. is_other n q o is leader leads.1 e) ∙ leads.0, leads.1);
          led = λ n q free first.
              let other : q ≢ p = λ e. not_true (sym free ∙ ap (λ (j : ℕ). contains_key (insert busy p tt) j) e ∙ holds_put busy p) in
              stays n q o is other first (all.led n q (sym (holds_put_other busy p q other) ∙ free) first);
        }))
      where
        was : (n q : ℕ) (t : Option ℕ) → t ≡ o → get (led_no_more t firsts) n ≡ Some q → get firsts n ≡ Some q
        was n q None e leader = leader
        was n q (Some k) e leader =
            elim (eqb_tells n k) [
              | inl same ↦ absurd (not_None q (sym (ap (get (remove firsts k)) same.1 ∙ get-remove-same firsts k) ∙ leader))
              | inr apart ↦ sym (get-remove-other firsts k n apart.1) ∙ leader
            ]

        is_other : (n q : ℕ) (t : Option ℕ) → t ≡ first_of process p m → get (led_no_more t firsts) n ≡ Some q → first_of process q m ≡ Some n → q ≢ p
        is_other n q None e leader first same = not_None n (e ∙ ap (λ (j : ℕ). first_of process j m) (sym same) ∙ first)
        is_other n q (Some k) e leader first same =
            let at : k ≡ n = same_Some _ _ (e ∙ ap (λ (j : ℕ). first_of process j m) (sym same) ∙ first) in
            not_None q (sym (ap (get (remove firsts k)) (sym at) ∙ get-remove-same firsts k) ∙ leader)

        stays : (n q : ℕ) (t : Option ℕ) → t ≡ first_of process p m → q ≢ p → first_of process q m ≡ Some n → get firsts n ≡ Some q → get (led_no_more t firsts) n ≡ Some q
        stays n q None e other first leader = leader
        stays n q (Some k) e other first leader =
            let x = first_entry process m p k (sym e) in
            let y = first_entry process m q n first in
            get-remove-other firsts k n
            (λ same. other (sym y.2 ∙ ap process (same_Some _ _ (sym y.1 ∙ ap (get m) same ∙ x.1)) ∙ x.2))
            ∙ leader

    pub numbered_release : (p : ℕ) (o : Option ℕ) (firsts' : FinMap nat_cmp ℕ) (busy' : Numbers) → o ≡ first_of process p m → busy' ≡ remove busy p
        → firsts' ≡ led_by p o firsts → IsNumbered process m next places firsts' busy'
    numbered_release p o firsts' busy' is freed more =
        subst (λ (b : Numbers). IsNumbered process m next places firsts' b) (sym freed)
        (subst (λ (f : FinMap nat_cmp ℕ). IsNumbered process m next places f (remove busy p)) (sym more)
        (record {
          small = all.small;
          below = all.below;
          placed = all.placed;
          leads = λ n q leader. leads_more n q o is leader;
          led = λ n q free first. elim (eqb_tells q p) [
            | inl same ↦ has_new n q o (is ∙ ap (λ (j : ℕ). first_of process j m) (sym same.1) ∙ first) same.1
            | inr apart ↦ stays n q o is apart.1 first (all.led n q (sym (holds_less_other busy p q apart.1) ∙ free) first)
          ];
        }))
      where
        still_free : (q : ℕ) → contains_key busy q ≡ false → contains_key (remove busy p) q ≡ false
        still_free q free =
            elim (eqb_tells q p) [
              | inl same ↦ ap (λ (j : ℕ). contains_key (remove busy p) j) same.1 ∙ lacks_less busy p
              | inr apart ↦ holds_less_other busy p q apart.1 ∙ free
            ]

        old_leads : (n q : ℕ) → get firsts n ≡ Some q → (contains_key (remove busy p) q ≡ false) × (first_of process q m ≡ Some n)
        old_leads n q leader = let leads = all.leads n q leader in (still_free q leads.0, leads.1)

        leads_more : (n q : ℕ) (t : Option ℕ) → t ≡ first_of process p m → get (led_by p t firsts) n ≡ Some q
            → (contains_key (remove busy p) q ≡ false) × (first_of process q m ≡ Some n)
        leads_more n q None e leader = old_leads n q leader
        leads_more n q (Some k) e leader =
            elim (eqb_tells n k) [
              | inl same ↦
                  let whose : p ≡ q = same_Some _ _ (sym (get-insert-same firsts k p) ∙ ap (get (insert firsts k p)) (sym same.1) ∙ leader) in (
                    ap (λ (j : ℕ). contains_key (remove busy p) j) (sym whose) ∙ lacks_less busy p,
                    ap (λ (j : ℕ). first_of process j m) (sym whose) ∙ sym e ∙ ap Some (sym same.1),
                  )
              | inr apart ↦ old_leads n q (sym (get-insert-other firsts k p n apart.1) ∙ leader)
            ]

        has_new : (n q : ℕ) (t : Option ℕ) → t ≡ Some n → q ≡ p → get (led_by p t firsts) n ≡ Some q
        has_new n q None e same = absurd (not_None n e)
        has_new n q (Some k) e same =
            ap (get (insert firsts k p)) (sym (same_Some _ _ e)) ∙ get-insert-same firsts k p ∙ ap Some (sym same)

        stays : (n q : ℕ) (t : Option ℕ) → t ≡ first_of process p m → q ≢ p → first_of process q m ≡ Some n → get firsts n ≡ Some q → get (led_by p t firsts) n ≡ Some q
        stays n q None e other first leader = leader
        stays n q (Some k) e other first leader =
            let x = first_entry process m p k (sym e) in
            let y = first_entry process m q n first in
            get-insert-other firsts k p n
            (λ same. other (sym y.2 ∙ ap process (same_Some _ _ (sym y.1 ∙ ap (get m) same ∙ x.1)) ∙ x.2))
            ∙ leader

-- what leads to a process and then no more
pub led_back : (p : ℕ) (o : Option ℕ) (firsts : FinMap nat_cmp ℕ) → IfSome o (λ n. get firsts n ≡ None) → led_no_more o (led_by p o firsts) ≡ firsts
led_back p None firsts none = refl
led_back p (Some n) firsts none = remove-inserted firsts n p none

module _ {T : Type 0} (process : T → ℕ) where
  -- the first ticket of a free process has a process
  pub has_pid : (all : Numbered T) (n : ℕ) → Some n ≡ first_free process all → None ≡ option_map process (get all.tickets n) → first_free process all ≡ None
  has_pid all n is missing =
      let entry = least_key-entry (λ _ x. is_free process all.busy x) all.tickets n (sym is) in
      absurd (not_None (process entry.0) (missing ∙ ap (option_map process) entry.1))

  pub busy_then : (all new : Numbered T) (p n : ℕ) → new ≡ with_busy p all → Some p ≡ option_map process (get all.tickets n)
      → (x : T) → get new.tickets n ≡ Some x → contains_key new.busy (process x) ≡ true
  busy_then all new p n is whose x there =
      let at : get all.tickets n ≡ Some x = sym (ap (λ (t : Numbered T). get t.tickets n) is) ∙ there in
      let same : p ≡ process x = same_Some _ _ (whose ∙ ap (option_map process) at) in
      ap (λ (t : Numbered T). contains_key t.busy (process x)) is ∙ ap (λ q. contains_key (insert all.busy p tt) q) (sym same) ∙ holds_put all.busy p
