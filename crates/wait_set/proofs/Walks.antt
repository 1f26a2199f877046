-- A walk that leaves each thread of a set to be tested.
--     left_in b o      the entry, once it was left to be tested or not
--     Leaving rest whole old now left      of the threads of a set those are left to be tested that aren't in the rest of it
--     leaving_first, next_there, leaving_step, leaving_begun, leaving_last      a walk's beginning, step and end
--     tied_left      what ties the fields stays where threads are left to be tested
use Rattle.std.proofs.Common.{◌≡◌, ℕ, Bool, true, false, cond, ◌||◌, Option, Some, None, IsSome, is_some, refl, sym, ap, subst, ◌∙◌, arith}
use Rattle.std.specs.Bool.{nat_eq}
use Rattle.std.specs.Option.{option_map}
use Rattle.std.specs.Ordering.{nat_cmp}
use Rattle.std.specs.FinMap.{get, len, empty, insert, contains_key, get-empty}
use Rattle.maps.specs.Maps.{get-insert-same, same_numbers, total_same}
use Rattle.maps.specs.Closure.{get-changed, len_same}
use Rattle.wait_set.specs.declared.spot.Spot.{Spot}
use Rattle.wait_set.specs.declared.waiting.Waiting.{Waiting}
use Rattle.wait_set.specs.declared.spot_queues.SpotQueues.{SpotQueues}
use Rattle.wait_set.specs.Numbers.{Numbers}
use Rattle.wait_set.specs.Queued.{QueueSet}
use Rattle.wait_set.specs.Tied.{IsFlagged, IsTied}
use Rattle.wait_set.specs.Waits.{WaitMap, flag, lists, stands, touched, so_changed, where_so, is_left, is_ready, is_everywhere, is_running}
use Rattle.wait_set.proofs.Queueing.{contains-insert}
use Rattle.wait_set.proofs.Tying.{one_flag, put_at, some_entry}

abbrev pub left_in : Bool → Option Waiting → Option Waiting
left_in b o = cond b (option_map touched o) o

left_twice : (a b : Bool) (o : Option Waiting) → left_in b (left_in a o) ≡ left_in (a || b) o
left_twice true true None = refl
left_twice true true (Some s) = refl
left_twice true false o = refl
left_twice false b o = refl

some_left : (b : Bool) (o : Option Waiting) → is_some (left_in b o) ≡ is_some o
some_left true None = refl
some_left true (Some s) = refl
some_left false o = refl

pub record Leaving (rest whole : QueueSet) (old now : WaitMap) (left : Numbers) : Type 0 where
  pub there : (t : ℕ) → contains_key rest t ≡ true → IsSome (get now t)
  pub set : IsFlagged is_left now left
  pub marks : (t : ℕ) → left_in (contains_key rest t) (get now t) ≡ left_in (contains_key whole t) (get old t)

pub leaving_first : (rest whole : QueueSet) (old : WaitMap) (left : Numbers) → rest ≡ whole → ((t : ℕ) → contains_key whole t ≡ true → IsSome (get old t))
    → IsFlagged is_left old left → Leaving rest whole old old left
leaving_first rest whole old left is there set =
    subst (λ (r : QueueSet). Leaving r whole old old left) (sym is) (record { there = there; set = set; marks = λ t. refl })

or_true : (b : Bool) → (b || true) ≡ true
or_true true = refl
or_true false = refl

-- one thread is left to be tested
pub left_one : (w new : WaitMap) (k : ℕ) → IsSome (get w k) → ((s : Waiting) → get w k ≡ Some s → new ≡ insert w k (touched s))
    → (t : ℕ) → get new t ≡ left_in (nat_eq t k) (get w t)
left_one w new k here is t =
    let entry = some_entry w k here in
    ap (λ (m : WaitMap). get m t) (is entry.0 entry.1) ∙ put_at touched w k entry.0 entry.1 t

-- the next thread of the rest is in
pub next_there : (rest whole : QueueSet) (k : ℕ) (old now : WaitMap) (left : Numbers) → Leaving (insert rest k tt) whole old now left → IsSome (get now k)
next_there rest whole k old now left was = was.there k (ap is_some (get-insert-same rest k tt))

pub leaving_step : (rest whole : QueueSet) (k : ℕ) (old now new : WaitMap) (left left_new : Numbers) → Leaving (insert rest k tt) whole old now left
    → ((s : Waiting) → get now k ≡ Some s → new ≡ insert now k (touched s)) → IsFlagged is_left new left_new → Leaving rest whole old new left_new
leaving_step rest whole k old now new left left_new was is set =
    let here = next_there rest whole k old now left was in
    record {
      there = λ t at.
          ap is_some (left_one now new k here is t) ∙ some_left (nat_eq t k) (get now t)
          ∙ was.there t (contains-insert rest k t ∙ ap (λ b. nat_eq t k || b) at ∙ or_true (nat_eq t k));
      set = set;
      marks = λ t.
          ap (left_in (contains_key rest t)) (left_one now new k here is t)
          ∙ left_twice (nat_eq t k) (contains_key rest t) (get now t)
          ∙ ap (λ b. left_in b (get now t)) (sym (contains-insert rest k t))
          ∙ was.marks t;
    }

-- the first step
pub leaving_begun : (rest whole : QueueSet) (k : ℕ) (old new : WaitMap) (left left_new : Numbers) → insert rest k tt ≡ whole
    → ((t : ℕ) → contains_key whole t ≡ true → IsSome (get old t)) → IsFlagged is_left old left
    → ((s : Waiting) → get old k ≡ Some s → new ≡ insert old k (touched s)) → IsFlagged is_left new left_new → Leaving rest whole old new left_new
leaving_begun rest whole k old new left left_new is there set marks set_new =
    leaving_step rest whole k old old new left left_new (leaving_first (insert rest k tt) whole old left is there set) marks set_new

pub leaving_last : (whole : QueueSet) (old now : WaitMap) (left : Numbers) → Leaving empty whole old now left → (t : ℕ) → get now t ≡ left_in (contains_key whole t) (get old t)
leaving_last whole old now left was t = ap (λ b. left_in b (get now t)) (sym (ap is_some (get-empty nat_cmp t))) ∙ was.marks t

-- ---- what ties the fields

flag_same : (p : Waiting → Bool) (b : Bool) (o : Option Waiting) → ((s : Waiting) → p (touched s) ≡ p s) → flag p (left_in b o) ≡ flag p o
flag_same p true None same = refl
flag_same p true (Some s) same = same s
flag_same p false o same = refl

module _ (v w : WaitMap) (b : ℕ → Bool) (is : (t : ℕ) → get w t ≡ left_in (b t) (get v t)) where
  kept : (p : Waiting → Bool) → ((s : Waiting) → p (touched s) ≡ p s) → (t : ℕ) → flag p (get v t) ≡ flag p (get w t)
  kept p same t = sym (ap (flag p) (is t) ∙ flag_same p (b t) (get v t) same)

  size : len v ≡ len w
  size = len_same v w (λ t. sym (ap is_some (is t) ∙ some_left (b t) (get v t)))

  flagged : (p : Waiting → Bool) (set : Numbers) → ((s : Waiting) → p (touched s) ≡ p s) → IsFlagged p v set → IsFlagged p w set
  flagged p set same was =
      record {
        members = λ t. was.members t ∙ kept p same t;
        ascending = was.ascending;
        room = let most = was.room in let count = size in omega arith;
      }

  pub tied_left : (queues : SpotQueues) (ready everywhere left left_new : Numbers) (running gone room : ℕ) → IsTied v queues ready everywhere left running gone room
      → IsFlagged is_left w left_new → IsTied w queues ready everywhere left_new running gone room
  tied_left queues ready everywhere left left_new running gone room was set =
      record {
        queued = λ x t. was.queued x t ∙ kept (lists x) (λ s. refl) t;
        ready_set = flagged is_ready ready (λ s. refl) was.ready_set;
        everywhere_set = flagged is_everywhere everywhere (λ s. refl) was.everywhere_set;
        left_set = set;
        runners = was.runners ∙ total_same (λ (s : Waiting). cond (is_running s) 1 0) (λ (s : Waiting). cond (is_running s) 1 0) v w
            (λ t. one_flag is_running (get v t) ∙ ap (λ a. cond a 1 0) (kept is_running (λ s. refl) t) ∙ sym (one_flag is_running (get w t)));
        gone_room = let most = was.gone_room in let count = size in omega arith;
      }

-- ---- those that pass

left_so : (p : Waiting → Bool) (t : ℕ) (o : Option Waiting) → left_in (flag p o) o ≡ option_map (so_changed p (λ _ s. touched s) t) o
left_so p t None = refl
left_so p t (Some s) = elim (p s) as (λ b. cond b (Some (touched s)) (Some s) ≡ Some (cond b (touched s) s)) [ true ↦ refl | false ↦ refl ]

pub left_where : (p : Waiting → Bool) (v w : WaitMap) → ((t : ℕ) → get w t ≡ left_in (flag p (get v t)) (get v t)) → w ≡ where_so p (λ _ s. touched s) v
left_where p v w is =
    same_numbers w (where_so p (λ _ s. touched s) v) (λ t. is t ∙ left_so p t (get v t) ∙ sym (get-changed (so_changed p (λ _ s. touched s)) v t))

where_left : (p : Waiting → Bool) (v : WaitMap) (t : ℕ) → get (where_so p (λ _ s. touched s) v) t ≡ left_in (flag p (get v t)) (get v t)
where_left p v t = get-changed (so_changed p (λ _ s. touched s)) v t ∙ sym (left_so p t (get v t))

flag_either : (x : Spot) (o : Option Waiting) → (flag (lists x) o || flag is_everywhere o) ≡ flag (stands x) o
flag_either x None = refl
flag_either x (Some s) = refl

-- those that stand at a spot by their lists, and then those that stand everywhere
pub left_both : (x : Spot) (v w u : WaitMap) → w ≡ where_so (lists x) (λ _ s. touched s) v → u ≡ where_so is_everywhere (λ _ s. touched s) w
    → u ≡ where_so (stands x) (λ _ s. touched s) v
left_both x v w u first second =
    left_where (stands x) v u (λ t.
    let one = ap (λ (m : WaitMap). get m t) first ∙ where_left (lists x) v t in
    ap (λ (m : WaitMap). get m t) second ∙ where_left is_everywhere w t
    ∙ ap (λ o. left_in (flag is_everywhere o) o) one
    ∙ ap (λ a. left_in a (left_in (flag (lists x) (get v t)) (get v t))) (flag_same is_everywhere (flag (lists x) (get v t)) (get v t) (λ s. refl))
    ∙ left_twice (flag (lists x) (get v t)) (flag is_everywhere (get v t)) (get v t)
    ∙ ap (λ a. left_in a (get v t)) (flag_either x (get v t)))
