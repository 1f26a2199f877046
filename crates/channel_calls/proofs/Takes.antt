-- What a read takes from a channel.
--     some_there      what there is has a value
--     same_read      a read of as many bytes as another takes takes the same
--     never_waits      a read that takes all its bytes doesn't wait
--     coming_few      no more descriptors come with a byte than may wait
--     first_part, kept_same, kept_part, all_come, kept_length      what fills a buffer, and parts of it
--     count_parts, part_of      how often parts of a list name an open
--     carriers_changed, carriers_drawn, carriers_within      the descriptors that come waited before
use Rattle.std.proofs.Common.{◌≡◌, ℕ, zero, suc, ◌+◌, ◌<◌, ◌≤◌, ◌==◌, ◌&&◌, not, Bool, true, false, min, List, [], ◌∷◌, ◌++◌, length, take, drop, Option, None, Some, IsSome, refl, sym, ap, subst, inl, inr, ◌∙◌, arith}
use Rattle.std.proofs.lemmas.Bool.Decides.{leb_tells}
use Rattle.std.proofs.lemmas.List.{append-nil, length-append, length-take, take-append-drop, take-append-le, take_all}
use Rattle.std.proofs.Math.Nat.{min-eq_left, min-le_left, min-le_right, min_comm}
use Rattle.std.proofs.Math.Seq.{drop-length, take-append_seam}
use Rattle.std.specs.FinMap.{get, insert}
use Rattle.abi_types.specs.declared.descriptor.Descriptor.{Descriptor}
use Rattle.channel_calls.specs.Calls.{Channels, carriers_in}
use Rattle.maps.specs.Maps.{total-insert, weight}
use Rattle.kernel_model.specs.Channels.{Channel, Send, IsChannel, bytes_of, carried_of, coming, is_empty, is_hung, most_carried, must_wait, pull, reach, taken}
use Rattle.kernel_model.specs.Release.{carried_in, count_carried}
use Rattle.kernel_model.proofs.ChannelLaws.{reads_lose_nothing}
use Rattle.kernel_model.proofs.Channels.{count_all}
use Rattle.kernel_model.proofs.Tests.{not_true}

pub some_there : {X : Type 0} (o : Option X) → IsSome o → (x : X) × (o ≡ Some x)
some_there None h = absurd (not_true h)
some_there (Some x) h = (x, refl)

-- ---- bytes

pub same_read : (n m : ℕ) (channel : Channel) → m ≡ min n (reach channel.waiting) → pull m channel ≡ pull n channel
same_read n m channel is =
    let less : m ≤ reach channel.waiting = subst (λ k. k ≤ reach channel.waiting) (sym is) (min-le_right n (reach channel.waiting)) in
    ap (λ k. taken k channel) (min-eq_left less ∙ is)

both_hold : (a b : Bool) → (a && b) ≡ true → (a ≡ true) × (b ≡ true)
both_hold true b h = (refl, h)
both_hold false b h = absurd (not_true h)

empty_reach : (waiting : List Send) → is_empty waiting ≡ true → reach waiting ≡ 0
empty_reach [] h = refl
empty_reach (send ∷ rest) h = absurd (not_true h)

is_other : (n : ℕ) → not (n == 0) ≡ true → 0 < n
is_other zero h = absurd (not_true h)
is_other (suc n) h = omega arith

pub never_waits : (n : ℕ) (channel : Channel) → length (pull n channel).bytes ≡ n → must_wait n channel ≡ true → ⊥
never_waits n channel full waits =
    let both = both_hold (not (n == 0)) (is_empty channel.waiting && not (is_hung channel)) waits in
    let none = empty_reach channel.waiting (both_hold (is_empty channel.waiting) (not (is_hung channel)) both.1).0 in
    let some = is_other n both.0 in
    let count = length-take (min n (reach channel.waiting)) (bytes_of channel.waiting) in
    let most = min-le_left (min n (reach channel.waiting)) (length (bytes_of channel.waiting)) in
    let least = min-le_right n (reach channel.waiting) in
    omega (arith, none, some, count, most, least, full)

-- ---- descriptors

pub coming_few : (channel : Channel) → IsChannel channel → length (coming 1 channel.waiting) ≤ most_carried
coming_few channel is = few channel.waiting is.carried where
  few : (sends : List Send) → length (carried_of sends) ≤ most_carried → length (coming 1 sends) ≤ most_carried
  few [] h = omega arith
  few (send ∷ rest) h = let both = length-append send.carried (carried_of rest) in omega (arith, both, h)

-- the items that fill a buffer, and the first of them
pub first_part : {X : Type 0} (n : ℕ) (xs old new : List X) → new ≡ xs ++ drop (length xs) old → n ≡ length xs → take n new ≡ xs
first_part n xs old new is count =
    ap (λ k. take k new) count ∙ ap (take (length xs)) is ∙ take-append_seam xs (drop (length xs) old)

pub kept_same : {X : Type 0} (room k n : ℕ) (xs : List X) → n ≡ length xs → k ≡ min n room → take k xs ≡ take room xs
kept_same room k n xs count least =
    elim (leb_tells room (length xs)) [
      | inl few ↦ (let same : k ≡ room = omega (arith, least, count, few.1) in ap (λ j. take j xs) same)
      | inr many ↦ (let same : k ≡ length xs = omega (arith, least, count, many.1) in
          take_all k xs (omega (arith, same)) ∙ sym (take_all room xs (omega (arith, many.1))))
    ]

pub kept_part : {X : Type 0} (room k n : ℕ) (xs old new : List X) → new ≡ xs ++ drop (length xs) old → n ≡ length xs → k ≡ min n room
    → take k new ≡ take room xs
kept_part room k n xs old new is count least =
    let less : k ≤ length xs = let most = min-le_left n room in omega (arith, least, count, most) in
    ap (take k) is ∙ take-append-le k xs (drop (length xs) old) less ∙ kept_same room k n xs count least

count_both : (o : ℕ) (xs ys : List Descriptor) → count_carried o (xs ++ ys) ≡ count_carried o xs + count_carried o ys
count_both o [] ys = omega arith
count_both o (x ∷ xs) ys = let rest = count_both o xs ys in omega arith

pub count_parts : (o k : ℕ) (ds : List Descriptor) → count_carried o (take k ds) + count_carried o (drop k ds) ≡ count_carried o ds
count_parts o k ds = sym (count_both o (take k ds) (drop k ds)) ∙ ap (count_carried o) (take-append-drop k ds)

pub part_of : (o j k : ℕ) (ds : List Descriptor) → count_carried o (take j (drop k ds)) ≤ count_carried o ds
part_of o j k ds = let one = count_parts o k ds in let other = count_parts o j (drop k ds) in omega (arith, one, other)

comes_out : (o n : ℕ) (channel : Channel) → count_carried o (pull n channel).carried + carried_in o (pull n channel).rest ≡ carried_in o channel
comes_out o n channel =
    let whole = count_all o channel.waiting in
    let rest = count_all o (pull n channel).rest.waiting in
    let both = count_both o (pull n channel).carried (carried_of (pull n channel).rest.waiting) in
    let split = ap (count_carried o) (reads_lose_nothing n channel).1 in
    omega (arith, whole, rest, both, split)

-- a channel changes, and the carriers with it
pub carriers_changed : (o : ℕ) (channels : Channels) (c : ℕ) (old new : Channel) → get channels c ≡ Some old
    → carriers_in o (insert channels c new) + carried_in o old ≡ carriers_in o channels + carried_in o new
carriers_changed o channels c old new there =
    ap (λ x. carriers_in o (insert channels c new) + weight (carried_in o) x) (sym there) ∙ total-insert (carried_in o) channels c new

pub carriers_drawn : (o : ℕ) (channels : Channels) (c n : ℕ) (channel : Channel) → get channels c ≡ Some channel
    → carriers_in o (insert channels c (pull n channel).rest) + count_carried o (pull n channel).carried ≡ carriers_in o channels
carriers_drawn o channels c n channel there =
    let out = comes_out o n channel in
    let change = carriers_changed o channels c channel (pull n channel).rest there in
    omega (arith, out, change)

pub carriers_within : (o : ℕ) (channels : Channels) (c n : ℕ) (channel : Channel) → get channels c ≡ Some channel
    → count_carried o (pull n channel).carried ≤ carriers_in o channels
carriers_within o channels c n channel there = let drawn = carriers_drawn o channels c n channel there in omega (arith, drawn)

-- ---- the bytes and the descriptors that come

-- a buffer that is filled whole
pub all_come : (xs old new : List ℕ) → length xs ≡ length old → new ≡ xs ++ drop (length xs) old → new ≡ xs
all_come xs old new count is =
    is ∙ ap (λ k. xs ++ drop k old) count ∙ ap (λ (ys : List ℕ). xs ++ ys) (drop-length old) ∙ append-nil xs

pub kept_length : (room k n : ℕ) (xs : List Descriptor) → n ≡ length xs → k ≡ min n room → length (take room xs) ≡ k
kept_length room k n xs count least = length-take room xs ∙ min_comm room (length xs) ∙ ap (λ m. min m room) (sym count) ∙ sym least
