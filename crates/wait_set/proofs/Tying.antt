-- What ties the sets and the queues to the threads' entries, as one of these changes.
use Rattle.std.proofs.Common.{◌≡◌, ℕ, ◌+◌, ◌-◌, ◌<◌, ◌≤◌, Bool, true, false, cond, ◌&&◌, not, nat_lt, inl, inr, List, [], length, Option, Some, None, IsSome, is_some, refl, sym, ap, subst, ◌∙◌, arith}
use Rattle.std.specs.Bool.{nat_eq}
use mir.Val.{bool_byte}
use Rattle.std.specs.Option.{option_map}
use Rattle.std.specs.Ordering.{nat_cmp}
use Rattle.std.specs.FinMap.{get, len, empty, insert, remove, contains_key, get-empty, len-empty}
use Rattle.std.proofs.lemmas.Bool.{lt-ltb, ltb-false}
use Rattle.std.proofs.lemmas.Bool.Decides.{eqb_tells}
use Rattle.maps.specs.Halves.{not_true}
use Rattle.maps.specs.Maps.{weight, get-insert-same, get-insert-other, get-remove-same, get-remove-other, len-insert_new, len-insert_again, len-removed, remove_absent, total-insert, total-insert_new, total-remove, total_none, total_same, total-zero}
use Rattle.maps.specs.Closure.{member, total_below, total_ones}
use Rattle.wait_set.specs.declared.spot.Spot.{Spot}
use Rattle.wait_set.specs.declared.spot.Spot.TheVariants.{Moment}
use Rattle.wait_set.specs.declared.waiting.Waiting.{Waiting}
use Rattle.wait_set.specs.declared.spot_queues.SpotQueues.{SpotQueues}
use Rattle.wait_set.specs.Next.{IsNext}
use Rattle.wait_set.specs.Numbers.{Numbers, IsAscending}
use Rattle.wait_set.specs.Queued.{QueueMap, has_at, stands_in, NoneEmpty}
use Rattle.wait_set.specs.Spots.{listed}
use Rattle.wait_set.specs.SpotQueues.{spot_has}
use Rattle.wait_set.specs.Waits.{WaitMap, flag, lists, is_ready, is_everywhere, is_left, is_running, counted, is_awaited}
use Rattle.wait_set.specs.Tied.{IsFlagged, IsTied}
use Rattle.wait_set.proofs.Ascending.{length_less}
use Rattle.wait_set.proofs.Queueing.{Queue}

-- ---- an entry that changes

pub flag_put : (p : Waiting → Bool) (w : WaitMap) (t : ℕ) (s : Waiting) (u : ℕ) → flag p (get (insert w t s) u) ≡ cond (nat_eq u t) (p s) (flag p (get w u))
flag_put p w t s u =
    elim (eqb_tells u t) [
      | inl same ↦ ap (λ q. flag p (get (insert w t s) q)) same.1 ∙ ap (flag p) (get-insert-same w t s) ∙ sym (ap (λ b. cond b (p s) (flag p (get w u))) same.0)
      | inr other ↦ ap (flag p) (get-insert-other w t s u other.1) ∙ sym (ap (λ b. cond b (p s) (flag p (get w u))) other.0)
    ]

pub flag_gone : (p : Waiting → Bool) (w : WaitMap) (t u : ℕ) → flag p (get (remove w t) u) ≡ cond (nat_eq u t) false (flag p (get w u))
flag_gone p w t u =
    elim (eqb_tells u t) [
      | inl same ↦ ap (λ q. flag p (get (remove w t) q)) same.1 ∙ ap (flag p) (get-remove-same w t) ∙ sym (ap (λ b. cond b false (flag p (get w u))) same.0)
      | inr other ↦ ap (flag p) (get-remove-other w t u other.1) ∙ sym (ap (λ b. cond b false (flag p (get w u))) other.0)
    ]

-- where there was none, and the entry doesn't pass
pub flag_begun : (p : Waiting → Bool) (w : WaitMap) (t : ℕ) (new : Waiting) → get w t ≡ None → p new ≡ false → (u : ℕ) → flag p (get (insert w t new) u) ≡ flag p (get w u)
flag_begun p w t new at not_so u =
    flag_put p w t new u
    ∙ elim (eqb_tells u t) [
      | inl is ↦ ap (λ b. cond b (p new) (flag p (get w u))) is.0 ∙ not_so ∙ sym (ap (flag p) at) ∙ ap (λ q. flag p (get w q)) (sym is.1)
      | inr other ↦ ap (λ b. cond b (p new) (flag p (get w u))) other.0
    ]

some_at : (w : WaitMap) (t : ℕ) (s : Waiting) → get w t ≡ Some s → IsSome (get w t)
some_at w t s at = ap is_some at

-- ---- the sets

pub flagged_put : (p : Waiting → Bool) (w : WaitMap) (t : ℕ) (new : Waiting) (old set : Numbers) → IsFlagged p w old → IsSome (get w t)
    → ((q : ℕ) → member q set.list ≡ cond (nat_eq q t) (p new) (member q old.list)) → IsAscending set.list → set.room ≡ old.room → IsFlagged p (insert w t new) set
flagged_put p w t new old set was here is up room =
    record {
      members = λ u. is u ∙ ap (cond (nat_eq u t) (p new)) (was.members u) ∙ sym (flag_put p w t new u);
      ascending = up;
      room = let size = len-insert_again w t new here in let most = was.room in omega arith;
    }

pub flagged_begun : (p : Waiting → Bool) (w : WaitMap) (t : ℕ) (new : Waiting) (old set : Numbers) → IsFlagged p w old → get w t ≡ None → p new ≡ false
    → set.list ≡ old.list → len w + 1 ≤ set.room → IsFlagged p (insert w t new) set
flagged_begun p w t new old set was at not_so same room =
    record {
      members = λ u. ap (member u) same ∙ was.members u ∙ sym (flag_begun p w t new at not_so u);
      ascending = subst IsAscending (sym same) was.ascending;
      room = let size = len-insert_new w t new at in omega arith;
    }

len_gone : (w : WaitMap) (t : ℕ) → len (remove w t) ≤ len w
len_gone w t =
    elim (get w t) as (λ o. get w t ≡ o → len (remove w t) ≤ len w) [
      | None ↦ λ e. let same = ap (λ (m : WaitMap). len m) (remove_absent w t e) in omega arith
      | Some s ↦ λ e. let less = len-removed w t s e in omega arith
    ] refl

-- the list of those that are gone has room for each
pub gone_put : (w : WaitMap) (t : ℕ) (new : Waiting) (gone room : ℕ) → IsSome (get w t) → len w + gone ≤ room → len (insert w t new) + gone ≤ room
gone_put w t new gone room here was = let size = len-insert_again w t new here in omega arith

pub gone_less : (w : WaitMap) (t gone room : ℕ) → len w + gone ≤ room → len (remove w t) + gone ≤ room
gone_less w t gone room was = let fewer = len_gone w t in omega arith

pub flagged_gone : (p : Waiting → Bool) (w : WaitMap) (t : ℕ) (old set : Numbers) → IsFlagged p w old
    → ((q : ℕ) → member q set.list ≡ cond (nat_eq q t) false (member q old.list)) → IsAscending set.list → set.room ≡ old.room → IsFlagged p (remove w t) set
flagged_gone p w t old set was is up room =
    record {
      members = λ u. is u ∙ ap (cond (nat_eq u t) false) (was.members u) ∙ sym (flag_gone p w t u);
      ascending = up;
      room = let fewer = len_gone w t in let most = was.room in omega arith;
    }

keys : (p : Waiting → Bool) (w : WaitMap) (set : Numbers) → IsFlagged p w set → (q : ℕ) → member q set.list ≡ true → IsSome (get w q)
keys p w set was q there =
    elim (get w q) as (λ o. flag p o ≡ true → IsSome o) [ None ↦ λ h. absurd (not_true h) | Some s ↦ λ _. refl ] (sym (was.members q) ∙ there)

-- there is room for a thread that waits
pub room_for : (p : Waiting → Bool) (w : WaitMap) (t : ℕ) (set : Numbers) → IsFlagged p w set → IsSome (get w t) → member t set.list ≡ false → length set.list < set.room
room_for p w t set was here none =
    let less = length_less Waiting set.list w t was.ascending (keys p w set was) here none in
    let most = was.room in
    omega arith

-- ---- the queues

and_none : (a b : Bool) → a ≡ (a && not (b && false))
and_none true true = refl
and_none true false = refl
and_none false b = refl

and_not_self : (a : Bool) → false ≡ (a && not (a && true))
and_not_self true = refl
and_not_self false = refl

-- the thread with all its spots
pub queued_gone : (w : WaitMap) (t : ℕ) (s : Waiting) → get w t ≡ Some s
    → (x : Spot) (u : ℕ) → (flag (lists x) (get w u) && not (listed x s.spots && nat_eq u t)) ≡ flag (lists x) (get (remove w t) u)
queued_gone w t s at x u =
    sym (flag_gone (lists x) w t u
    ∙ elim (eqb_tells u t) [
      | inl same ↦
          ap (λ b. cond b false (flag (lists x) (get w u))) same.0
          ∙ and_not_self (lists x s)
          ∙ ap (λ b. b && not (lists x s && true)) (sym (ap (λ q. flag (lists x) (get w q)) same.1 ∙ ap (flag (lists x)) at))
          ∙ ap (λ b. flag (lists x) (get w u) && not (listed x s.spots && b)) (sym same.0)
      | inr other ↦
          ap (λ b. cond b false (flag (lists x) (get w u))) other.0
          ∙ and_none (flag (lists x) (get w u)) (listed x s.spots)
          ∙ ap (λ b. flag (lists x) (get w u) && not (listed x s.spots && b)) (sym other.0)
    ])

-- ---- the next of two

pub next_same : (p q : ℕ → Bool) (after r : Option ℕ) → ((t : ℕ) → p t ≡ q t) → IsNext p after r → IsNext q after r
next_same p q after None same next = λ t later. sym (same t) ∙ next t later
next_same p q after (Some k) same next = (next.0, sym (same k) ∙ next.1, λ t later at. next.2 t later (same t ∙ at))

-- ---- how many there are

one_queue : (o : Option (Unit {0})) → weight (λ _. 1) o ≡ cond (is_some o) 1 0
one_queue None = refl
one_queue (Some u) = refl

pub one_flag : (p : Waiting → Bool) (o : Option Waiting) → weight (λ s. cond (p s) 1 0) o ≡ cond (flag p o) 1 0
one_flag p None = refl
one_flag p (Some s) = refl

-- a queue is as long as the number of threads whose lists have its spot
pub len_queue : (queue : Queue) (p : Waiting → Bool) (w : WaitMap) → ((t : ℕ) → contains_key queue t ≡ flag p (get w t)) → len queue ≡ counted p w
len_queue queue p w same =
    sym (total_ones queue)
    ∙ total_same (λ _. 1) (λ s. cond (p s) 1 0) queue w (λ t. one_queue (get queue t) ∙ ap (λ b. cond b 1 0) (same t) ∙ sym (one_flag p (get w t)))

pub counted_none : (p : Waiting → Bool) (w : WaitMap) → ((t : ℕ) → flag p (get w t) ≡ false) → counted p w ≡ 0
counted_none p w none = total_none (λ s. cond (p s) 1 0) w (λ t. one_flag p (get w t) ∙ ap (λ b. cond b 1 0) (none t))

-- there is a queue exactly where somebody stands
pub queue_awaited : (queues : QueueMap) (w : WaitMap) (n : ℕ) → NoneEmpty queues → ((t : ℕ) → has_at queues n t ≡ flag (lists (Moment n)) (get w t))
    → contains_key queues n ≡ is_awaited w n
queue_awaited queues w n some same =
    elim (get queues n) as (λ o. get queues n ≡ o → is_some o ≡ is_awaited w n) [
      | None ↦ λ e. let none = counted_none (lists (Moment n)) w (λ t. sym (same t) ∙ ap (λ o. stands_in o t) e) in sym (ap (λ k. nat_lt 0 k) none)
      | Some queue ↦ λ e.
          let size = len_queue queue (lists (Moment n)) w (λ t. sym (ap (λ o. stands_in o t) e) ∙ same t) in
          let more = some.some n queue e in
          sym (lt-ltb 0 (counted (lists (Moment n)) w) (omega arith))
    ] refl

-- ---- nobody waits

pub flag_none : (p : Waiting → Bool) (w : WaitMap) → w ≡ empty → (u : ℕ) → flag p (get w u) ≡ false
flag_none p w none u = ap (λ (m : WaitMap). flag p (get m u)) none ∙ ap (flag p) (get-empty nat_cmp u)

pub flagged_none : (p : Waiting → Bool) (w : WaitMap) (set : Numbers) → w ≡ empty → set.list ≡ [] → IsAscending set.list → IsFlagged p w set
flagged_none p w set none no_list up =
    record {
      members = λ u. ap (member u) no_list ∙ sym (flag_none p w none u);
      ascending = up;
      room = let size = ap (λ (m : WaitMap). len m) none ∙ len-empty nat_cmp Waiting in omega arith;
    }

-- ---- entries

pub some_entry : (w : WaitMap) (t : ℕ) → IsSome (get w t) → (s : Waiting) × (get w t ≡ Some s)
some_entry w t some =
    elim (get w t) as (λ o. IsSome o → (s : Waiting) × (o ≡ Some s)) [ None ↦ λ h. absurd (not_true h) | Some s ↦ λ _. (s, refl) ] some

pub weighs_none : (b : Bool) (n : ℕ) → n ≡ cond b 1 0 → n ≡ 0 → b ≡ false
weighs_none true n is none = absurd (omega arith)
weighs_none false n is none = refl

-- where one passes, some pass
pub passing_counts : (p : Waiting → Bool) (w : WaitMap) (t : ℕ) → flag p (get w t) ≡ true → nat_lt 0 (counted p w) ≡ true
passing_counts p w t at =
    elim (nat_lt 0 (counted p w)) as (λ b. nat_lt 0 (counted p w) ≡ b → b ≡ true) [
      | true ↦ λ _. refl
      | false ↦ λ none.
          let entry = some_entry w t (some_of_flag p (get w t) at) in
          let few = ltb-false 0 (counted p w) none in
          let zero : counted p w ≡ 0 = omega arith in
          let weighs = total-zero (λ (x : Waiting). cond (p x) 1 0) w t entry.0 zero entry.1 in
          let out = weighs_none (p entry.0) (cond (p entry.0) 1 0) refl weighs in
          absurd (not_true (sym out ∙ sym (ap (flag p) entry.1) ∙ at))
    ] refl
  where
    some_of_flag : (p : Waiting → Bool) (o : Option Waiting) → flag p o ≡ true → IsSome o
    some_of_flag p None h = absurd (not_true h)
    some_of_flag p (Some s) h = refl

-- nobody passes where none is next
pub none_next : (p : ℕ → Bool) (r : Option ℕ) → IsNext p None r → is_some r ≡ false → (t : ℕ) → p t ≡ false
none_next p None none is = λ t. none t refl
none_next p (Some k) next is = absurd (not_true (sym is))

-- ---- an entry is taken out, or changed in place

-- the thread's number put in a set, or taken out
abbrev pub IsPut : ℕ → Bool → Numbers → Numbers → Type 0
IsPut t b old new = ((q : ℕ) → member q new.list ≡ cond (nat_eq q t) b (member q old.list)) × IsAscending new.list × (new.room ≡ old.room)

pub put_as : (t : ℕ) (b c : Bool) (old new : Numbers) → b ≡ c → IsPut t b old new → IsPut t c old new
put_as t b c old new is put = subst (λ a. IsPut t a old new) is put

-- how many run, as one entry changes
pub counted_put : (p : Waiting → Bool) (w : WaitMap) (t : ℕ) (s new : Waiting) → get w t ≡ Some s → counted p (insert w t new) + cond (p s) 1 0 ≡ counted p w + cond (p new) 1 0
counted_put p w t s new at =
    let sum = total-insert (λ x. cond (p x) 1 0) w t new in
    let here : weight (λ x. cond (p x) 1 0) (get w t) ≡ cond (p s) 1 0 = ap (weight (λ x. cond (p x) 1 0)) at in
    omega arith

pub counted_begun : (p : Waiting → Bool) (w : WaitMap) (t : ℕ) (new : Waiting) → get w t ≡ None → counted p (insert w t new) ≡ counted p w + cond (p new) 1 0
counted_begun p w t new none = total-insert_new (λ x. cond (p x) 1 0) w t new none

pub counted_gone : (p : Waiting → Bool) (w : WaitMap) (t : ℕ) (s : Waiting) → get w t ≡ Some s → counted p (remove w t) + cond (p s) 1 0 ≡ counted p w
counted_gone p w t s at =
    let sum = total-remove (λ x. cond (p x) 1 0) w t in
    let here : weight (λ x. cond (p x) 1 0) (get w t) ≡ cond (p s) 1 0 = ap (weight (λ x. cond (p x) 1 0)) at in
    omega arith

pub counted_most : (p : Waiting → Bool) (w : WaitMap) → counted p w ≤ len w
counted_most p w =
    let most = total_below (λ (x : Waiting). cond (p x) 1 0) (λ (_ : Waiting). 1) w w (λ q. one_most (get w q)) in
    let ones = total_ones w in
    omega arith
  where
    one_most : (o : Option Waiting) → weight (λ x. cond (p x) 1 0) o ≤ weight (λ _. 1) o
    one_most None = omega arith
    one_most (Some x) = elim (p x) as (λ b. cond b 1 0 ≤ 1) [ true ↦ omega arith | false ↦ omega arith ]

-- a thread that runs counts as one of those that run
bit : (b : Bool) → bool_byte b ≡ cond b 1 0
bit true = refl
bit false = refl

pub bit_most : (b : Bool) → bool_byte b ≤ 1
bit_most true = omega arith
bit_most false = omega arith

pub bit_not : (b : Bool) → bool_byte (not b) + cond b 1 0 ≡ 1
bit_not true = refl
bit_not false = refl

pub runs_within : (w : WaitMap) (t : ℕ) (s : Waiting) (running one : ℕ) → get w t ≡ Some s → running ≡ counted is_running w → one ≡ bool_byte s.runs → one ≤ running
runs_within w t s running one at is here =
    let sum = counted_gone is_running w t s at in
    let byte = bit s.runs in
    omega arith

pub runs_less : (w : WaitMap) (t : ℕ) (s : Waiting) (running one : ℕ) → get w t ≡ Some s → running ≡ counted is_running w → one ≡ bool_byte s.runs
    → (running - one) + cond s.runs 1 0 ≡ running
runs_less w t s running one at is here =
    let most = runs_within w t s running one at is here in
    let byte = bit s.runs in
    omega arith

-- an entry changes in place: who stands where, the sets, and how many run
pub tied_put : (w : WaitMap) (t : ℕ) (s new : Waiting) (a b : SpotQueues) (ready ready_new everywhere everywhere_new left left_new : Numbers) (running running_new gone room : ℕ)
    → IsTied w a ready everywhere left running gone room → get w t ≡ Some s
    → ((x : Spot) (u : ℕ) → spot_has b x u ≡ cond (nat_eq u t) (listed x new.spots) (spot_has a x u))
    → IsPut t (is_ready new) ready ready_new → IsPut t new.everywhere everywhere everywhere_new → IsPut t (is_left new) left left_new
    → running_new + cond s.runs 1 0 ≡ running + cond new.runs 1 0
    → IsTied (insert w t new) b ready_new everywhere_new left_new running_new gone room
tied_put w t s new a b ready ready_new everywhere everywhere_new left left_new running running_new gone room was at queued r e l n =
    let here = some_at w t s at in
    record {
      queued = λ x u. queued x u ∙ ap (λ q. cond (nat_eq u t) (listed x new.spots) q) (was.queued x u) ∙ sym (flag_put (lists x) w t new u);
      ready_set = flagged_put is_ready w t new ready ready_new was.ready_set here r.0 r.1 r.2;
      everywhere_set = flagged_put is_everywhere w t new everywhere everywhere_new was.everywhere_set here e.0 e.1 e.2;
      left_set = flagged_put is_left w t new left left_new was.left_set here l.0 l.1 l.2;
      runners = let sum = counted_put is_running w t s new at in let before = was.runners in omega arith;
      gone_room = gone_put w t new gone room here was.gone_room;
    }

-- an entry is taken out
pub tied_gone : (w : WaitMap) (t : ℕ) (s : Waiting) (a b : SpotQueues) (ready ready_new everywhere everywhere_new left left_new : Numbers) (running running_new gone room gone_new room_new : ℕ)
    → IsTied w a ready everywhere left running gone room → get w t ≡ Some s
    → ((x : Spot) (u : ℕ) → spot_has b x u ≡ (spot_has a x u && not (listed x s.spots && nat_eq u t)))
    → IsPut t false ready ready_new → IsPut t false everywhere everywhere_new → IsPut t false left left_new
    → running_new + cond s.runs 1 0 ≡ running → len (remove w t) + gone_new ≤ room_new
    → IsTied (remove w t) b ready_new everywhere_new left_new running_new gone_new room_new
tied_gone w t s a b ready ready_new everywhere everywhere_new left left_new running running_new gone room gone_new room_new was at queued r e l n more =
    record {
      queued = λ x u. queued x u ∙ ap (λ q. q && not (listed x s.spots && nat_eq u t)) (was.queued x u) ∙ queued_gone w t s at x u;
      ready_set = flagged_gone is_ready w t ready ready_new was.ready_set r.0 r.1 r.2;
      everywhere_set = flagged_gone is_everywhere w t everywhere everywhere_new was.everywhere_set e.0 e.1 e.2;
      left_set = flagged_gone is_left w t left left_new was.left_set l.0 l.1 l.2;
      runners = let sum = counted_gone is_running w t s at in let before = was.runners in omega arith;
      gone_room = more;
    }

-- whether the number is in is what the entry says
pub known_at : (p : Waiting → Bool) (w : WaitMap) (t : ℕ) (s : Waiting) (set : Numbers) (b : Bool) → IsFlagged p w set → get w t ≡ Some s → b ≡ p s → b ≡ member t set.list
known_at p w t s set b was at is = is ∙ sym (ap (flag p) at) ∙ sym (was.members t)

-- a set in which the number is as it was
pub put_kept : (p : Waiting → Bool) (w : WaitMap) (t : ℕ) (s : Waiting) (set : Numbers) (b : Bool) → IsFlagged p w set → get w t ≡ Some s → b ≡ p s → IsPut t b set set
put_kept p w t s set b was at same = (
  λ q. elim (eqb_tells q t) [
    | inl is ↦
        was.members q ∙ ap (λ k. flag p (get w k)) is.1 ∙ ap (flag p) at ∙ sym same
        ∙ sym (ap (λ c. cond c b (member q set.list)) is.0)
    | inr other ↦ sym (ap (λ c. cond c b (member q set.list)) other.0)
  ],
  was.ascending,
  refl,
)

-- the queues, where the thread's list is as it was
pub queued_kept : (w : WaitMap) (t : ℕ) (s : Waiting) (a : SpotQueues) → ((x : Spot) (u : ℕ) → spot_has a x u ≡ flag (lists x) (get w u)) → get w t ≡ Some s
    → (x : Spot) (u : ℕ) → spot_has a x u ≡ cond (nat_eq u t) (listed x s.spots) (spot_has a x u)
queued_kept w t s a was at x u =
    elim (eqb_tells u t) [
      | inl is ↦
          was x u ∙ ap (λ k. flag (lists x) (get w k)) is.1 ∙ ap (flag (lists x)) at
          ∙ sym (ap (λ c. cond c (listed x s.spots) (spot_has a x u)) is.0)
      | inr other ↦ sym (ap (λ c. cond c (listed x s.spots) (spot_has a x u)) other.0)
    ]

-- the queues, where those spots of the thread's list are given up that aren't in the new one
pub queued_less : (w : WaitMap) (t : ℕ) (s : Waiting) (a b : SpotQueues) (spots : List Spot) (out : Spot → Bool)
    → ((x : Spot) (u : ℕ) → spot_has a x u ≡ flag (lists x) (get w u)) → get w t ≡ Some s
    → ((x : Spot) (u : ℕ) → spot_has b x u ≡ (spot_has a x u && not (out x && nat_eq u t)))
    → ((x : Spot) → listed x spots ≡ (listed x s.spots && not (out x)))
    → (x : Spot) (u : ℕ) → spot_has b x u ≡ cond (nat_eq u t) (listed x spots) (spot_has a x u)
queued_less w t s a b spots out was at less is x u =
    less x u ∙ elim (eqb_tells u t) [
      | inl same ↦
          ap (λ c. spot_has a x u && not (out x && c)) same.0
          ∙ ap (λ c. c && not (out x && true)) (was x u ∙ ap (λ k. flag (lists x) (get w k)) same.1 ∙ ap (flag (lists x)) at)
          ∙ ap (λ c. listed x s.spots && not c) (and_true (out x)) ∙ sym (is x)
          ∙ sym (ap (λ c. cond c (listed x spots) (spot_has a x u)) same.0)
      | inr other ↦
          ap (λ c. spot_has a x u && not (out x && c)) other.0
          ∙ sym (and_none (spot_has a x u) (out x))
          ∙ sym (ap (λ c. cond c (listed x spots) (spot_has a x u)) other.0)
    ]
  where
    and_true : (b : Bool) → (b && true) ≡ b
    and_true true = refl
    and_true false = refl

-- one entry changed, each other as it was
pub put_at : (f : Waiting → Waiting) (w : WaitMap) (t : ℕ) (s : Waiting) → get w t ≡ Some s → (k : ℕ) → get (insert w t (f s)) k ≡ cond (nat_eq k t) (option_map f (get w k)) (get w k)
put_at f w t s at k =
    elim (eqb_tells k t) [
      | inl same ↦
          ap (get (insert w t (f s))) same.1 ∙ get-insert-same w t (f s) ∙ sym (ap (option_map f) (ap (get w) same.1 ∙ at))
          ∙ sym (ap (λ b. cond b (option_map f (get w k)) (get w k)) same.0)
      | inr other ↦ get-insert-other w t (f s) k other.1 ∙ sym (ap (λ b. cond b (option_map f (get w k)) (get w k)) other.0)
    ]
