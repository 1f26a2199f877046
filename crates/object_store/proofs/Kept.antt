-- The list stays the one of the opens without a holder, and has room for all opens.
use Rattle.std.proofs.Common.{◌≡◌, inl, inr, ℕ, ◌+◌, ◌<◌, ◌≤◌, cond, eq-eqb, List, [], ◌∷◌, ◌++◌, length, length-append, Option, Some, None, IsSome, is_some, refl, sym, ap, ◌∙◌, arith}
use Rattle.std.proofs.lemmas.Bool.Decides.{eqb_tells}
use Rattle.std.specs.Ordering.{nat_cmp}
use Rattle.std.specs.FinMap.{FinMap, empty, get, insert, remove, len, len-empty}
use Rattle.maps.specs.Closure.{changed-empty, total_below, total_ones}
use Rattle.maps.specs.Maps.{weight, total, total-empty, total-insert, total-remove, len-insert_new, len-insert_again, len-removed}
use Rattle.object_store.specs.Entries.{place_of, counts_of, AreListed, unheld_one, IsKept}
use Rattle.object_store.specs.declared.entry.Entry.{Entry}
use Rattle.object_store.proofs.Views.{count_at, count_absent, counts-insert, counts-remove}
use Rattle.object_store.proofs.Places.{listed_last, listed_popped, listed_empty, listed_stay, listed_push, listed_without, place_held}

one_unheld : (n : ℕ) → n ≡ 0 → unheld_one n ≡ 1
one_unheld n none = ap (λ b. cond b 1 0) (eq-eqb n 0 none)

none_held : (n : ℕ) → 0 < n → unheld_one n ≡ 0
none_held n some = elim (eqb_tells n 0) [ inl h ↦ absurd (omega (arith, some, h.1)) | inr h ↦ ap (λ b. cond b 1 0) h.0 ]

-- a number that is there weighs what it is
weighs : (counts : FinMap nat_cmp ℕ) (o n : ℕ) → get counts o ≡ Some n → weight unheld_one (get counts o) ≡ unheld_one n
weighs counts o n there = ap (weight unheld_one) there

weighs_none : (counts : FinMap nat_cmp ℕ) (o : ℕ) → get counts o ≡ None → weight unheld_one (get counts o) ≡ 0
weighs_none counts o gone = ap (weight unheld_one) gone

at_most_one : (n : ℕ) → unheld_one n ≤ 1
at_most_one n = elim (eqb_tells n 0) [
  | inl h ↦ let one = one_unheld n h.1 in omega (arith, one)
  | inr h ↦ let none : unheld_one n ≡ 0 = ap (λ b. cond b 1 0) h.0 in omega (arith, none)
]

one_each : (o : Option ℕ) → weight unheld_one o ≤ weight (λ (_ : ℕ). 1) o
one_each None = omega arith
one_each (Some n) = at_most_one n

-- no more opens are without a holder than there are
pub unheld_few : (counts : FinMap nat_cmp ℕ) → total unheld_one counts ≤ len counts
unheld_few counts =
    let fewer = total_below unheld_one (λ (_ : ℕ). 1) counts counts (λ q. one_each (get counts q)) in
    let ones = total_ones counts in
    omega (arith, fewer, ones)

-- ---- the counts

pub total_new : (counts : FinMap nat_cmp ℕ) (o : ℕ) → get counts o ≡ None → total unheld_one (insert counts o 0) ≡ total unheld_one counts + 1
total_new counts o free =
    let sums = total-insert unheld_one counts o 0 in
    let one = one_unheld 0 refl in
    let none = weighs_none counts o free in
    omega (arith, sums, one, none)

pub total_stay : (counts : FinMap nat_cmp ℕ) (o n k : ℕ) → get counts o ≡ Some n → unheld_one k ≡ unheld_one n → total unheld_one (insert counts o k) ≡ total unheld_one counts
total_stay counts o n k there same =
    let sums = total-insert unheld_one counts o k in
    let was = weighs counts o n there in
    omega (arith, sums, was, same)

pub total_held : (counts : FinMap nat_cmp ℕ) (o n k : ℕ) → get counts o ≡ Some n → n ≡ 0 → 0 < k → total unheld_one (insert counts o k) + 1 ≡ total unheld_one counts
total_held counts o n k there none some =
    let sums = total-insert unheld_one counts o k in
    let was = weighs counts o n there in
    let one = one_unheld n none in
    let now = none_held k some in
    omega (arith, sums, was, one, now)

pub total_unheld : (counts : FinMap nat_cmp ℕ) (o n k : ℕ) → get counts o ≡ Some n → 0 < n → k ≡ 0 → total unheld_one (insert counts o k) ≡ total unheld_one counts + 1
total_unheld counts o n k there some none =
    let sums = total-insert unheld_one counts o k in
    let was = weighs counts o n there in
    let one = one_unheld k none in
    let before = none_held n some in
    omega (arith, sums, was, one, before)

-- a held open that goes, and one without a holder
pub total_gone_held : (counts : FinMap nat_cmp ℕ) (o n : ℕ) → get counts o ≡ Some n → 0 < n → total unheld_one (remove counts o) ≡ total unheld_one counts
total_gone_held counts o n there some =
    let sums = total-remove unheld_one counts o in
    let was = weighs counts o n there in
    let none = none_held n some in
    omega (arith, sums, was, none)

pub total_gone : (counts : FinMap nat_cmp ℕ) (o n : ℕ) → get counts o ≡ Some n → n ≡ 0 → total unheld_one (remove counts o) + 1 ≡ total unheld_one counts
total_gone counts o n there none =
    let sums = total-remove unheld_one counts o in
    let was = weighs counts o n there in
    let one = one_unheld n none in
    omega (arith, sums, was, one)

is_there : (counts : FinMap nat_cmp ℕ) (o n : ℕ) → get counts o ≡ Some n → IsSome (get counts o)
is_there counts o n there = ap is_some there

-- ---- what is kept

-- of what is the same
pub kept_as : (m n : FinMap nat_cmp Entry) (list other : List ℕ) (room more : ℕ) → m ≡ n → list ≡ other → room ≡ more → IsKept n other more → IsKept m list room
kept_as m n list other room more e f g kept = rw (e, f, g) kept

-- with more room
pub kept_room : (m : FinMap nat_cmp Entry) (list : List ℕ) (room more : ℕ) → len (counts_of m) ≤ more → IsKept m list room → IsKept m list more
kept_room m list room more enough kept = record { listed = kept.listed; counted = kept.counted; roomy = enough }

pub kept_new : (room : ℕ) → IsKept empty [] room
kept_new room =
    let none : counts_of empty ≡ empty = changed-empty (λ (_ : ℕ) (e : Entry). e.count) in
    let zero = ap (total unheld_one) none ∙ total-empty unheld_one in
    let short : len (counts_of empty) ≡ 0 = ap (λ (m : FinMap nat_cmp ℕ). len m) none ∙ len-empty nat_cmp ℕ in
    record { listed = listed_empty; counted = zero; roomy = omega (arith, short) }

-- an entry that changes, and is as much without a holder as before
pub kept_stay : (m : FinMap nat_cmp Entry) (list : List ℕ) (room k : ℕ) (e new : Entry) → get m k ≡ Some e
    → place_of (Some new) ≡ place_of (Some e) → unheld_one new.count ≡ unheld_one e.count → IsKept m list room → IsKept (insert m k new) list room
kept_stay m list room k e new there place same kept =
    let at = count_at m k e there in
    let counts = counts-insert m k new in
    let sums = ap (total unheld_one) counts ∙ total_stay (counts_of m) k e.count new.count at same in
    let long = ap (λ (c : FinMap nat_cmp ℕ). len c) counts ∙ len-insert_again (counts_of m) k new.count (is_there _ k _ at) in
    record {
      listed = listed_stay m list k e new there place kept.listed;
      counted = sums ∙ kept.counted;
      roomy = omega (arith, long, kept.roomy);
    }

-- one that is held before and after
pub kept_held : (m : FinMap nat_cmp Entry) (list : List ℕ) (room k : ℕ) (e new : Entry) → get m k ≡ Some e
    → 0 < e.count → 0 < new.count → IsKept m list room → IsKept (insert m k new) list room
kept_held m list room k e new there some more =
    kept_stay m list room k e new there (place_held new more ∙ sym (place_held e some)) (none_held new.count more ∙ sym (none_held e.count some))

-- a new open
pub kept_add : (m : FinMap nat_cmp Entry) (list : List ℕ) (room more k : ℕ) (new : Entry) → get m k ≡ None → new.count ≡ 0 → new.place ≡ length list
    → len (counts_of m) + 1 ≤ more → IsKept m list room → IsKept (insert m k new) (list ++ k ∷ []) more
kept_add m list room more k new free none last enough kept =
    let at = count_absent m k free in
    let counts : counts_of (insert m k new) ≡ insert (counts_of m) k 0 = counts-insert m k new ∙ ap (insert (counts_of m) k) none in
    let sums = ap (total unheld_one) counts ∙ total_new (counts_of m) k at in
    let long = ap (λ (c : FinMap nat_cmp ℕ). len c) counts ∙ len-insert_new (counts_of m) k 0 at in
    let one = length-append list (k ∷ []) in
    record {
      listed = listed_push m list k new (ap place_of free) none last kept.listed;
      counted = omega (arith, sums, one, kept.counted);
      roomy = omega (arith, long, enough);
    }

-- an open that loses its last holder
pub kept_let_go : (m : FinMap nat_cmp Entry) (list : List ℕ) (room k : ℕ) (e new : Entry) → get m k ≡ Some e → 0 < e.count → new.count ≡ 0 → new.place ≡ length list
    → IsKept m list room → IsKept (insert m k new) (list ++ k ∷ []) room
kept_let_go m list room k e new there some none last kept =
    let at = count_at m k e there in
    let counts = counts-insert m k new in
    let sums = ap (total unheld_one) counts ∙ total_unheld (counts_of m) k e.count new.count at some none in
    let long = ap (λ (c : FinMap nat_cmp ℕ). len c) counts ∙ len-insert_again (counts_of m) k new.count (is_there _ k _ at) in
    let one = length-append list (k ∷ []) in
    record {
      listed = listed_push m list k new (ap place_of there ∙ place_held e some) none last kept.listed;
      counted = omega (arith, sums, one, kept.counted);
      roomy = omega (arith, long, kept.roomy);
    }

-- there is room for it
pub room_left : (m : FinMap nat_cmp Entry) (list : List ℕ) (room k : ℕ) (e : Entry) → get m k ≡ Some e → 0 < e.count
    → IsKept m list room → length list < room
room_left m list room k e there some kept =
    let at = count_at m k e there in
    let more = total_unheld (counts_of m) k e.count 0 at some refl in
    let few = unheld_few (insert (counts_of m) k 0) in
    let long = len-insert_again (counts_of m) k 0 (is_there _ k _ at) in
    omega (arith, more, few, long, kept.roomy, kept.counted)

-- an open that gets its first holder, once the list has it no more
pub kept_hold : (m n : FinMap nat_cmp Entry) (list short : List ℕ) (room k : ℕ) (e new : Entry) → get m k ≡ Some e → e.count ≡ 0 → 0 < new.count
    → AreListed n short → counts_of n ≡ counts_of (insert m k new) → length short + 1 ≡ length list → IsKept m list room → IsKept n short room
kept_hold m n list short room k e new there none some listed same less kept =
    let at = count_at m k e there in
    let counts = same ∙ counts-insert m k new in
    let sums = total_held (counts_of m) k e.count new.count at none some in
    let now = ap (total unheld_one) counts in
    let long = ap (λ (c : FinMap nat_cmp ℕ). len c) counts ∙ len-insert_again (counts_of m) k new.count (is_there _ k _ at) in
    record {
      listed = listed;
      counted = omega (arith, now, sums, less, kept.counted);
      roomy = omega (arith, long, kept.roomy);
    }

-- an open without a holder goes, once the list has it no more
pub kept_gone : (m n : FinMap nat_cmp Entry) (list short : List ℕ) (room k : ℕ) (e : Entry) → get m k ≡ Some e → e.count ≡ 0
    → AreListed n short → counts_of n ≡ counts_of (remove m k) → length short + 1 ≡ length list → IsKept m list room → IsKept n short room
kept_gone m n list short room k e there none listed same less kept =
    let at = count_at m k e there in
    let counts = same ∙ counts-remove m k in
    let sums = total_gone (counts_of m) k e.count at none in
    let now = ap (total unheld_one) counts in
    let long = len-removed (counts_of m) k e.count at in
    let shorter = ap (λ (c : FinMap nat_cmp ℕ). len c) counts in
    record {
      listed = listed;
      counted = omega (arith, now, sums, less, kept.counted);
      roomy = omega (arith, long, shorter, kept.roomy);
    }

-- a held open goes
pub kept_without : (m : FinMap nat_cmp Entry) (list : List ℕ) (room k : ℕ) (e : Entry) → get m k ≡ Some e → 0 < e.count
    → IsKept m list room → IsKept (remove m k) list room
kept_without m list room k e there some kept =
    let at = count_at m k e there in
    let counts = counts-remove m k in
    let sums = ap (total unheld_one) counts ∙ total_gone_held (counts_of m) k e.count at some in
    let long = len-removed (counts_of m) k e.count at in
    let shorter = ap (λ (c : FinMap nat_cmp ℕ). len c) counts in
    record {
      listed = listed_without m list k (ap place_of there ∙ place_held e some) kept.listed;
      counted = sums ∙ kept.counted;
      roomy = omega (arith, long, shorter, kept.roomy);
    }

-- the last open of the list goes
pub kept_popped : (m : FinMap nat_cmp Entry) (list : List ℕ) (room o : ℕ) → IsKept m (list ++ o ∷ []) room → IsKept (remove m o) list room
kept_popped m list room o kept =
    let one = length-append list (o ∷ []) in
    let entry = listed_last m list o kept.listed in
    kept_gone m (remove m o) (list ++ o ∷ []) list room o entry.0 entry.1 entry.2 (listed_popped m list o kept.listed) refl (omega (arith, one)) kept

pub popped_unheld : (m : FinMap nat_cmp Entry) (list : List ℕ) (room o : ℕ) → IsKept m (list ++ o ∷ []) room → get (counts_of m) o ≡ Some 0
popped_unheld m list room o kept =
    let entry = listed_last m list o kept.listed in
    count_at m o entry.0 entry.1 ∙ ap Some entry.2
