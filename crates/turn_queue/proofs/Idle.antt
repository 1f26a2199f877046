-- Parked tickets that come and go, and the processes that are idle.
--     queue_none, queue_park, queue_take, queue_hold, queue_release      the queue stays one
--     some_beside, none_beside      whether a ticket of a process is parked
--     idle_same      an idle process that comes and goes again
--     stands_there, is_ticket_of      a ticket stands under the number of its thread
use Rattle.std.proofs.Common.{◌≡◌, ◌≢◌, ◌⊎◌, ℕ, ◌/◌, ◌^◌, ◌<◌, ◌≤◌, ◌==◌, Bool, true, false, cond, not, nat_le, ◌&&◌, Option, None, Some, is_some, inl, inr, refl, sym, ap, subst, ◌∙◌, arith}
use Rattle.std.proofs.lemmas.Bool.{le-leb, leb-true}
use Rattle.std.proofs.lemmas.Bool.Decides.{eqb_tells}
use Rattle.std.specs.FinMap.{FinMap, empty, get, insert, remove, contains_key, get-empty}
use Rattle.std.specs.Ordering.{nat_cmp}
use Rattle.maps.specs.Halves.{not_true}
use Rattle.maps.specs.Maps.{passes, least_key, least_key-entry, least_key-least, least_key-none, get-insert-same, get-insert-other, get-remove-same, get-remove-other, remove-inserted, remove_absent}
use Rattle.turn_queue.specs.Numbered.{Numbers, is_free}
use Rattle.turn_queue.specs.Tickets.{IsQueue, IsTicketOf, NoneParked, SomeParked, StandsUnder, Tickets, number_of, released}
use Rattle.turn_queue.proofs.Firsts.{not_None, same_Some, same_by, by_same}
use Rattle.turn_queue.proofs.Numbering.{absent, none_most, holds_put, holds_put_other, lacks_less, holds_less_other}

-- in a smaller set
pub in_less : (b : Numbers) (p q : ℕ) → contains_key (remove b p) q ≡ true → (q ≢ p) × (contains_key b q ≡ true)
in_less b p q there =
    elim (eqb_tells q p) [
      | inl same ↦ absurd (not_true (sym (lacks_less b p) ∙ ap (λ (j : ℕ). contains_key (remove b p) j) (sym same.1) ∙ there))
      | inr apart ↦ (apart.1, sym (holds_less_other b p q apart.1) ∙ there)
    ]

-- in a set that has one more
in_more : (b : Numbers) (p q : ℕ) → contains_key (insert b p tt) q ≡ true → (q ≡ p) ⊎ (contains_key b q ≡ true)
in_more b p q there =
    elim (eqb_tells q p) [
      | inl same ↦ inl same.1
      | inr apart ↦ inr (sym (holds_put_other b p q apart.1) ∙ there)
    ]

still_in : (b : Numbers) (p q : ℕ) → contains_key b q ≡ true → contains_key (insert b p tt) q ≡ true
still_in b p q there =
    elim (eqb_tells q p) [
      | inl same ↦ ap (λ (j : ℕ). contains_key (insert b p tt) j) same.1 ∙ holds_put b p
      | inr apart ↦ holds_put_other b p q apart.1 ∙ there
    ]

free_of : (b : Bool) → not b ≡ true → b ≡ false
free_of true e = absurd (not_true e)
free_of false e = refl

pub idle_same : (idle idle' idle'' : Numbers) (p : ℕ) (enters : Bool) → contains_key idle p ≡ false → idle' ≡ cond enters (insert idle p tt) idle → idle'' ≡ remove idle' p
    → idle'' ≡ idle
idle_same idle idle' idle'' p enters lacks put less = less ∙ ap (λ (b : Numbers). remove b p) put ∙ back enters
  where
    back : (b : Bool) → remove (cond b (insert idle p tt) idle) p ≡ idle
    back true = remove-inserted idle p tt (absent _ lacks)
    back false = remove_absent idle p (absent _ lacks)

second_holds : (a b : Bool) → (a && b) ≡ true → b ≡ true
second_holds true b e = e
second_holds false b e = absurd (not_true e)

-- a process that was noted where it was missing and is forgotten again
pub idle_back : (idle idle' idle'' : Numbers) (p : ℕ) (a enters : Bool) → enters ≡ (a && not (contains_key idle p)) → idle' ≡ cond enters (insert idle p tt) idle
    → idle'' ≡ cond enters (remove idle' p) idle' → idle'' ≡ idle
idle_back idle idle' idle'' p a true which put less =
    idle_same idle idle' idle'' p true (free_of _ (second_holds a _ (sym which))) put less
idle_back idle idle' idle'' p a false which put less = less ∙ put

-- where nobody has the process
pub nobody_has : {T : Type 0} (all : Tickets T) (p : ℕ) → contains_key all.busy p ≡ false → all ≡ released p all
nobody_has all p lacks = ap (λ (b : Numbers). record { ready = all.ready; parked = all.parked; busy = b }) (sym (remove_absent all.busy p (absent _ lacks)))

module _ {T : Type 0} (m : FinMap nat_cmp T) (p first : ℕ) (at : first ≡ number_of p 0) where
  abbrev beside : ℕ → T → Bool
  beside number _ = number / 2 ^ 32 == p

  from_first : (k : ℕ) (x : T) → get m k ≡ Some x → first ≤ k → passes (λ q _. nat_le first q) k (get m k) ≡ true
  from_first k x there above = ap (passes (λ q _. nat_le first q) k) there ∙ le-leb first k above

  -- the least key from the first number of a process on is one of the process, if there is one
  pub some_beside : (k : ℕ) → Some k ≡ least_key (λ q _. nat_le first q) m → (k / 2 ^ 32 == p) ≡ is_some (least_key beside m)
  some_beside k is =
      let entry = least_key-entry (λ q _. nat_le first q) m k (sym is) in
      elim (least_key beside m) as (λ o. least_key beside m ≡ o → (k / 2 ^ 32 == p) ≡ is_some o) [
        | None ↦ λ e. sym (ap (passes beside k) entry.1) ∙ least_key-none beside m e k
        | Some j ↦ λ e.
            let other = least_key-entry beside m j e in
            let whose = same_by _ _ other.2 in
            let above = leb-true first k entry.2 in
            let least = least_key-least (λ q _. nat_le first q) m k (sym is) j (from_first j other.0 other.1 (omega (arith, whose, at))) in
            by_same _ _ (omega (arith, whose, at, above, least))
      ] refl

  pub none_beside : None ≡ least_key (λ q _. nat_le first q) m → false ≡ is_some (least_key beside m)
  none_beside is =
      elim (least_key beside m) as (λ o. least_key beside m ≡ o → false ≡ is_some o) [
        | None ↦ λ _. refl
        | Some j ↦ λ e.
            let other = least_key-entry beside m j e in
            let whose = same_by _ _ other.2 in
            absurd (not_true (sym (least_key-none (λ q _. nat_le first q) m (sym is) j) ∙ from_first j other.0 other.1 (omega (arith, whose, at))))
      ] refl

module _ {T : Type 0} (process thread : T → ℕ) where
  pub queue_none : (m : FinMap nat_cmp T) (busy idle : Numbers) → m ≡ empty → idle ≡ empty → IsQueue process thread m busy idle
  queue_none m busy idle no_m no_idle = record {
    under = λ n x there. absurd (not_None x (sym (nothing n) ∙ there));
    free = λ p there. absurd (not_true (sym (lacks p) ∙ there));
    some = λ p there. absurd (not_true (sym (lacks p) ∙ there));
    all = λ n x there _. absurd (not_None x (sym (nothing n) ∙ there));
  }
    where
      nothing : (n : ℕ) → get m n ≡ None
      nothing n = ap (λ (k : FinMap nat_cmp T). get k n) no_m ∙ get-empty nat_cmp n

      lacks : (p : ℕ) → contains_key idle p ≡ false
      lacks p = ap is_some (ap (λ (b : Numbers). get b p) no_idle ∙ get-empty nat_cmp p)

  -- the number is that of the ticket's thread
  pub stands_there : (k p t : ℕ) (x : T) → k ≡ number_of p t → p ≡ process x → t ≡ thread x → t < 2 ^ 32 → StandsUnder process thread k x
  stands_there k p t x is of_process of_thread small = record {
    is = is ∙ ap (λ (q : ℕ). number_of q t) of_process ∙ ap (number_of (process x)) of_thread;
    small = subst (λ (u : ℕ). u < 2 ^ 32) of_thread small;
  }

  module _ (m : FinMap nat_cmp T) (busy idle : Numbers) (queue : IsQueue process thread m busy idle) where
    pub is_ticket_of : (k p t : ℕ) (x : T) → Some x ≡ get m k → k ≡ number_of p t → t < 2 ^ 32 → IsTicketOf process thread p t x
    is_ticket_of k p t x there is small =
        let stands = queue.under k x (sym there) in
        let under = stands.is in
        let low = stands.small in
        (omega (arith, under, low, is, small), omega (arith, under, low, is, small))

    process_at : (k : ℕ) (x : T) → get m k ≡ Some x → process x ≡ k / 2 ^ 32
    process_at k x there = let stands = queue.under k x there in let is = stands.is in let small = stands.small in omega (arith, is, small)

    pub not_idle : (p : ℕ) → contains_key busy p ≡ true → contains_key idle p ≡ false
    not_idle p held =
        elim (contains_key idle p) as (λ b. contains_key idle p ≡ b → b ≡ false) [
          | true ↦ λ e. absurd (not_true (sym (queue.free p e) ∙ held))
          | false ↦ λ _. refl
        ] refl

    pub some_parked : (p : ℕ) → contains_key idle p ≡ true → SomeParked process busy m
    some_parked p there =
        let ticket = queue.some p there in
        (ticket.0, ticket.1, ticket.2, ap (λ q. not (contains_key busy q)) ticket.3 ∙ ap not (queue.free p there))

    pub none_parked : ((p : ℕ) → contains_key idle p ≡ false) → NoneParked process busy m
    none_parked none k x there =
        elim (is_free process busy x) as (λ b. is_free process busy x ≡ b → b ≡ false) [
          | true ↦ λ e. absurd (not_true (sym (none (process x)) ∙ queue.all k x there e))
          | false ↦ λ _. refl
        ] refl

    pub has_some_parked : (o : Option ℕ) → o ≡ least_key (λ q _. nat_le 0 q) idle → is_some o ≡ true → SomeParked process busy m
    has_some_parked None is some = absurd (not_true some)
    has_some_parked (Some p) is some = some_parked p (let entry = least_key-entry (λ q _. nat_le 0 q) idle p (sym is) in ap is_some entry.1)

    pub has_none_parked : (o : Option ℕ) → o ≡ least_key (λ q _. nat_le 0 q) idle → is_some o ≡ false → NoneParked process busy m
    has_none_parked None is none =
        none_parked (λ p. elim (contains_key idle p) as (λ b. contains_key idle p ≡ b → b ≡ false) [
          | true ↦ λ e. absurd (not_true (none_most idle 0 (sym is) p e (omega arith)))
          | false ↦ λ _. refl
        ] refl)
    has_none_parked (Some p) is none = absurd (not_true (sym none))

    -- nothing goes where there is no such ticket
    pub queue_miss : (k : ℕ) (m' : FinMap nat_cmp T) → None ≡ get m k → m' ≡ remove m k → IsQueue process thread m' busy idle
    queue_miss k m' missing less =
        subst (λ (n : FinMap nat_cmp T). IsQueue process thread n busy idle) (sym (less ∙ remove_absent m k (sym missing))) queue

    module _ (x : T) (k : ℕ) (missing : get m k ≡ None) (stands : StandsUnder process thread k x) where
      park_at : (j : ℕ) (y : T) → get (insert m k x) j ≡ Some y → (get m j ≡ Some y) ⊎ ((j ≡ k) × (y ≡ x))
      park_at j y there =
          elim (eqb_tells j k) [
            | inl same ↦ inr (same.1, same_Some _ _ (sym there ∙ ap (get (insert m k x)) same.1 ∙ get-insert-same m k x))
            | inr apart ↦ inl (sym (get-insert-other m k x j apart.1) ∙ there)
          ]

      park_under : (j : ℕ) (y : T) → get (insert m k x) j ≡ Some y → StandsUnder process thread j y
      park_under j y there =
          elim (park_at j y there) [
            | inl old ↦ queue.under j y old
            | inr new ↦ subst (λ z. StandsUnder process thread j z) (sym new.1) (subst (λ (i : ℕ). StandsUnder process thread i x) (sym new.0) stands)
          ]

      park_some : (q : ℕ) → contains_key idle q ≡ true → (n : ℕ) × (y : T) × (get (insert m k x) n ≡ Some y) × (process y ≡ q)
      park_some q there =
          let old = queue.some q there in
          (old.0, old.1, get-insert-other m k x old.0 (λ e. not_None old.1 (sym missing ∙ ap (get m) (sym e) ∙ old.2)) ∙ old.2, old.3)

      park_idle : (enters : Bool) → enters ≡ (not (contains_key busy (process x)) && not (contains_key idle (process x)))
          → IsQueue process thread (insert m k x) busy (cond enters (insert idle (process x) tt) idle)
      park_idle enters which =
          subst (λ b. IsQueue process thread (insert m k x) busy (cond b (insert idle (process x) tt) idle)) (sym which)
          (by_cases (contains_key busy (process x)) (contains_key idle (process x)) refl refl)
        where
          as_before : (contains_key busy (process x) ≡ true) ⊎ (contains_key idle (process x) ≡ true) → IsQueue process thread (insert m k x) busy idle
          as_before why = record {
            under = park_under;
            free = queue.free;
            some = park_some;
            all = λ j y there is. elim (park_at j y there) [
              | inl old ↦ queue.all j y old is
              | inr new ↦ elim why [
                | inl held ↦ absurd (not_true (sym (free_of _ is) ∙ ap (λ z. contains_key busy (process z)) new.1 ∙ held))
                | inr has ↦ ap (λ z. contains_key idle (process z)) new.1 ∙ has
              ]
            ];
          }

          by_cases : (b c : Bool) → contains_key busy (process x) ≡ b → contains_key idle (process x) ≡ c
              → IsQueue process thread (insert m k x) busy (cond (not b && not c) (insert idle (process x) tt) idle)
          by_cases true c held _ = as_before (inl held)
          by_cases false true free has = as_before (inr has)
          by_cases false false free lacks = record {
            under = park_under;
            free = λ q there. elim (in_more idle (process x) q there) [
              | inl same ↦ ap (λ (j : ℕ). contains_key busy j) same ∙ free
              | inr old ↦ queue.free q old
            ];
            some = λ q there. elim (in_more idle (process x) q there) [
              | inl same ↦ (k, x, get-insert-same m k x, sym same)
              | inr old ↦ park_some q old
            ];
            all = λ j y there is. elim (park_at j y there) [
              | inl old ↦ still_in idle (process x) (process y) (queue.all j y old is)
              | inr new ↦ ap (λ z. contains_key (insert idle (process x) tt) (process z)) new.1 ∙ holds_put idle (process x)
            ];
          }

      pub queue_park : (m' : FinMap nat_cmp T) (idle' : Numbers) (p : ℕ) (enters : Bool) → p ≡ process x → m' ≡ insert m k x
          → idle' ≡ cond enters (insert idle p tt) idle → enters ≡ (not (contains_key busy p) && not (contains_key idle p)) → IsQueue process thread m' busy idle'
      queue_park m' idle' p enters whose put more which =
          subst (λ (n : FinMap nat_cmp T). IsQueue process thread n busy idle') (sym put)
          (subst (λ (b : Numbers). IsQueue process thread (insert m k x) busy b)
          (sym (more ∙ ap (λ (q : ℕ). cond enters (insert idle q tt) idle) whose))
          (park_idle enters (which ∙ ap (λ (q : ℕ). not (contains_key busy q) && not (contains_key idle q)) whose)))

    -- ---- one is taken

    module _ (k p : ℕ) (x : T) (there : get m k ≡ Some x) (whose : process x ≡ p) where
      take_at : (j : ℕ) (y : T) → get (remove m k) j ≡ Some y → get m j ≡ Some y
      take_at j y is =
          elim (eqb_tells j k) [
            | inl same ↦ absurd (not_None y (sym (ap (get (remove m k)) same.1 ∙ get-remove-same m k) ∙ is))
            | inr apart ↦ sym (get-remove-other m k j apart.1) ∙ is
          ]

      take_some : (q : ℕ) → q ≢ p → contains_key idle q ≡ true → (n : ℕ) × (y : T) × (get (remove m k) n ≡ Some y) × (process y ≡ q)
      take_some q other has =
          let old = queue.some q has in (
            old.0,
            old.1,
            get-remove-other m k old.0
                (λ e. other (sym old.3 ∙ ap process (same_Some _ _ (sym old.2 ∙ ap (get m) e ∙ there)) ∙ whose)) ∙ old.2,
            old.3,
          )

      take_idle : (o : Option ℕ) → least_key (λ number _. number / 2 ^ 32 == p) (remove m k) ≡ o
          → IsQueue process thread (remove m k) busy (cond (not (is_some o)) (remove idle p) idle)
      take_idle (Some n) e = record {
        under = λ j y is. queue.under j y (take_at j y is);
        free = queue.free;
        some = λ q has. elim (eqb_tells q p) [
          | inl same ↦
              let entry = least_key-entry (λ number _. number / 2 ^ 32 == p) (remove m k) n e in
              (n, entry.0, entry.1, process_at n entry.0 (take_at n entry.0 entry.1) ∙ same_by _ _ entry.2 ∙ sym same.1)
          | inr apart ↦ take_some q apart.1 has
        ];
        all = λ j y is free. queue.all j y (take_at j y is) free;
      }
      take_idle None e = record {
        under = λ j y is. queue.under j y (take_at j y is);
        free = λ q has. queue.free q (let old = in_less idle p q has in old.1);
        some = λ q has. let old = in_less idle p q has in take_some q old.0 old.1;
        all = λ j y is free.
            holds_less_other idle p (process y)
            (λ same. not_true (sym (least_key-none (λ number _. number / 2 ^ 32 == p) (remove m k) e j)
            ∙ ap (passes (λ number _. number / 2 ^ 32 == p) j) is ∙ by_same _ _ (sym (process_at j y (take_at j y is)) ∙ same)))
            ∙ queue.all j y (take_at j y is) free;
      }

      pub queue_take : (m' : FinMap nat_cmp T) (idle' : Numbers) (has : Bool) → m' ≡ remove m k → has ≡ is_some (least_key (λ number _. number / 2 ^ 32 == p) m')
          → idle' ≡ cond (not has) (remove idle p) idle → IsQueue process thread m' busy idle'
      queue_take m' idle' has less which left =
          subst (λ (n : FinMap nat_cmp T). IsQueue process thread n busy idle') (sym less)
          (subst (λ (b : Numbers). IsQueue process thread (remove m k) busy b)
          (sym (left ∙ ap (λ b. cond (not b) (remove idle p) idle) (which ∙ ap (λ (n : FinMap nat_cmp T). is_some (least_key (λ number _. number / 2 ^ 32 == p) n)) less)))
          (take_idle _ refl))

    -- ---- a process is held, or let go

    pub queue_hold : (p : ℕ) (busy' idle' : Numbers) → busy' ≡ insert busy p tt → idle' ≡ remove idle p → IsQueue process thread m busy' idle'
    queue_hold p busy' idle' held less =
        subst (λ (b : Numbers). IsQueue process thread m b idle') (sym held)
        (subst (λ (b : Numbers). IsQueue process thread m (insert busy p tt) b) (sym less)
        (record {
          under = queue.under;
          free = λ q there. let old = in_less idle p q there in holds_put_other busy p q old.0 ∙ queue.free q old.1;
          some = λ q there. let old = in_less idle p q there in queue.some q old.1;
          all = λ k x there free.
              let other : process x ≢ p = λ same. not_true (sym (free_of _ free) ∙ ap (λ (q : ℕ). contains_key (insert busy p tt) q) same ∙ holds_put busy p) in
              holds_less_other idle p (process x) other
              ∙ queue.all k x there (ap not (sym (holds_put_other busy p (process x) other)) ∙ free);
        }))

    release_idle : (p : ℕ) (o : Option ℕ) → least_key (λ number _. number / 2 ^ 32 == p) m ≡ o
        → IsQueue process thread m (remove busy p) (cond (is_some o) (insert idle p tt) idle)
    release_idle p o e = record {
      under = queue.under;
      free = λ q there. elim (eqb_tells q p) [
        | inl same ↦ ap (λ (j : ℕ). contains_key (remove busy p) j) same.1 ∙ lacks_less busy p
        | inr apart ↦ holds_less_other busy p q apart.1 ∙ queue.free q (old_one q apart.1 (is_some o) there)
      ];
      some = λ q there. some_of q o e there;
      all = λ k x there free. elim (eqb_tells (process x) p) [
        | inl same ↦ has_new k x there same.1 o e
        | inr apart ↦ stays (process x) (is_some o) (queue.all k x there (ap not (sym (holds_less_other busy p (process x) apart.1)) ∙ free))
      ];
    }
      where
        old_one : (q : ℕ) → q ≢ p → (b : Bool) → contains_key (cond b (insert idle p tt) idle) q ≡ true → contains_key idle q ≡ true
        old_one q apart true there = sym (holds_put_other idle p q apart) ∙ there
        old_one q apart false there = there

        stays : (q : ℕ) (b : Bool) → contains_key idle q ≡ true → contains_key (cond b (insert idle p tt) idle) q ≡ true
        stays q true there = still_in idle p q there
        stays q false there = there

        some_of : (q : ℕ) (t : Option ℕ) → least_key (λ number _. number / 2 ^ 32 == p) m ≡ t → contains_key (cond (is_some t) (insert idle p tt) idle) q ≡ true
            → (n : ℕ) × (y : T) × (get m n ≡ Some y) × (process y ≡ q)
        some_of q None is there = queue.some q there
        some_of q (Some n) is there =
            elim (in_more idle p q there) [
              | inl same ↦
                  let entry = least_key-entry (λ number _. number / 2 ^ 32 == p) m n is in
                  (n, entry.0, entry.1, process_at n entry.0 entry.1 ∙ same_by _ _ entry.2 ∙ sym same)
              | inr old ↦ queue.some q old
            ]

        has_new : (k : ℕ) (x : T) → get m k ≡ Some x → process x ≡ p → (t : Option ℕ) → least_key (λ number _. number / 2 ^ 32 == p) m ≡ t
            → contains_key (cond (is_some t) (insert idle p tt) idle) (process x) ≡ true
        has_new k x there same None is =
            absurd (not_true (sym (least_key-none (λ number _. number / 2 ^ 32 == p) m is k)
            ∙ ap (passes (λ number _. number / 2 ^ 32 == p) k) there ∙ by_same _ _ (sym (process_at k x there) ∙ same)))
        has_new k x there same (Some n) is = ap (λ (j : ℕ). contains_key (insert idle p tt) j) same ∙ holds_put idle p

    pub queue_release : (p : ℕ) (busy' idle' : Numbers) (enters : Bool) → busy' ≡ remove busy p → enters ≡ is_some (least_key (λ number _. number / 2 ^ 32 == p) m)
        → idle' ≡ cond enters (insert idle p tt) idle → IsQueue process thread m busy' idle'
    queue_release p busy' idle' enters freed which more =
        subst (λ (b : Numbers). IsQueue process thread m b idle') (sym freed)
        (subst (λ (b : Numbers). IsQueue process thread m (remove busy p) b) (sym (more ∙ ap (λ b. cond b (insert idle p tt) idle) which))
        (release_idle p _ refl))
