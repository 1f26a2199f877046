-- Where reads and receives must wait and where there is room for a send, by the tests of the definitions.
--     read_goes, receive_waits, receive_goes      reads and receives
--     side_tests, room_tests      sends
--     flag_set, flag_clear      a flag
use Rattle.std.proofs.Common.{◌≡◌, ◌≢◌, ◌⊎◌, inl, inr, ℕ, ◌+◌, ◌<◌, ◌==◌, ◌&&◌, ◌||◌, not, Bool, true, false, List, [], ◌∷◌, length, refl, sym, ap, ◌∙◌, arith}
use Rattle.std.proofs.lemmas.Bool.{eq-eqb, ltb-true}
use Rattle.std.proofs.lemmas.Bool.Decides.{eqb_tells, leb_tells}
use Rattle.std.specs.Prelude.{bit_and, nat_le, nat_lt}
use Rattle.std.specs.List.{AllByRecursion}
use Rattle.abi_types.specs.declared.descriptor.Descriptor.{Descriptor}
use Rattle.kernel_model.specs.Channels.{Channel, Send, Open, SideState, Gone, Shut, bytes_of, carried_of, has_room, is_bounded, is_hung, is_none, is_open, must_wait, must_wait_for_all, room, some_carries}
use Rattle.kernel_model.specs.Families.ChannelCalls.{must_wait_by, waits_for_all}
use Rattle.kernel_model.proofs.ChannelChanges.{by_less}
use Rattle.kernel_model.proofs.ChannelLaws.{reads_wait}
use Rattle.kernel_model.proofs.Tests.{not_true}
use Rattle.transfer_laws.specs.TransferLaws.{FindsNothing, HasRoom, MustWait, NoneBounds}

-- ---- tests

both_hold : (a b : Bool) → (a && b) ≡ true → (a ≡ true) × (b ≡ true)
both_hold true b h = (refl, h)
both_hold false b h = absurd (not_true h)

one_holds : (a b : Bool) → (a || b) ≡ true → (a ≡ true) ⊎ (b ≡ true)
one_holds true b h = inl refl
one_holds false b h = inr h

neither_holds : (a b : Bool) → (a || b) ≡ false → (a ≡ false) × (b ≡ false)
neither_holds true b h = absurd (not_true (sym h))
neither_holds false b h = (refl, h)

true_or : (a b : Bool) → a ≡ true → (a || b) ≡ true
true_or true b h = refl
true_or false b h = absurd (not_true h)

or_true : (a b : Bool) → b ≡ true → (a || b) ≡ true
or_true true b h = refl
or_true false b h = h

not_is : (b : Bool) → not b ≡ true → b ≡ false
not_is true h = absurd (not_true h)
not_is false h = refl

not_not : (b : Bool) → not b ≡ false → b ≡ true
not_not true h = refl
not_not false h = sym h

other_is_false : (n : ℕ) → n ≢ 0 → (n == 0) ≡ false
other_is_false n h = elim (eqb_tells n 0) [ inl is ↦ absurd (h is.1) | inr other ↦ other.0 ]

is_other : (n : ℕ) → (n == 0) ≡ false → n ≢ 0
is_other n h e = not_true (sym h ∙ eq-eqb n 0 e)

-- whether a flag is set
pub flag_set : (n : ℕ) → n ≢ 0 → not (n == 0) ≡ true
flag_set n h = ap not (other_is_false n h)

pub flag_clear : (n : ℕ) → n ≡ 0 → not (n == 0) ≡ false
flag_clear n h = ap not (eq-eqb n 0 h)

-- ---- sides

pub side_tests : (channel : Channel) → channel.reader ≡ Open → channel.writer ≡ Open → is_hung channel ≡ false
side_tests channel reader writer = λ i. not (is_open (reader i) && is_open (writer i))

open_is : (side : SideState) → is_open side ≡ true → side ≡ Open
open_is Open h = refl
open_is Shut h = absurd (not_true h)
open_is Gone h = absurd (not_true h)

sides_open : (channel : Channel) → is_hung channel ≡ false → (channel.reader ≡ Open) × (channel.writer ≡ Open)
sides_open channel h =
    let both = both_hold (is_open channel.reader) (is_open channel.writer) (not_not _ h) in
    (open_is channel.reader both.0, open_is channel.writer both.1)

-- ---- reads

pub read_goes : (n : ℕ) (channel : Channel) → ¬ FindsNothing n channel → must_wait n channel ≡ false
read_goes n channel goes =
    elim (must_wait n channel) as (λ b. must_wait n channel ≡ b → b ≡ false) [
      | true ↦ λ waits. (
          let is = (reads_wait n channel).0 waits in
          absurd (goes (record { asks = is.0; empty = is.1; reader = is.2; writer = is.3 })))
      | false ↦ λ e. refl
    ] refl

-- ---- receives

none_is : (ds : List Descriptor) → is_none ds ≡ true → ds ≡ []
none_is [] h = refl
none_is (d ∷ ds) h = absurd (not_true h)

none_carries : (sends : List Send) → AllByRecursion (λ (send : Send). send.carried ≡ []) sends → some_carries sends ≡ false
none_carries [] all = refl
none_carries (send ∷ rest) all = λ i. not (is_none (all.0 i)) || none_carries rest all.1 i

all_bare : (sends : List Send) → some_carries sends ≡ false → AllByRecursion (λ (send : Send). send.carried ≡ []) sends
all_bare [] h = tt
all_bare (send ∷ rest) h =
    let both = neither_holds (not (is_none send.carried)) (some_carries rest) h in
    (none_is send.carried (not_not _ both.0), all_bare rest both.1)

unbounded : (waiting : List Send) → NoneBounds waiting → is_bounded waiting ≡ false
unbounded [] h = refl
unbounded (send ∷ rest) h = none_carries rest h

none_bounds : (waiting : List Send) → is_bounded waiting ≡ false → NoneBounds waiting
none_bounds [] h = tt
none_bounds (send ∷ rest) h = all_bare rest h

less_is : (m n : ℕ) → m < n → nat_lt m n ≡ true
less_is m n less = by_less (λ b. b ≡ true) m n (λ _. refl) (λ more. absurd (omega (arith, less, more)))

module _ (n flags : ℕ) (channel : Channel) where
  waits_all : bit_and flags 16 ≢ 0 → length (bytes_of channel.waiting) < n → NoneBounds channel.waiting → is_hung channel ≡ false
      → (waits_for_all flags && must_wait_for_all n channel) ≡ true
  waits_all asked fewer bare sides =
      λ i. flag_set (bit_and flags 16) asked i && (less_is (length (bytes_of channel.waiting)) n fewer i
      && (not (unbounded channel.waiting bare i) && not (sides i)))

  pub receive_waits : MustWait n flags channel → must_wait_by flags n channel ≡ true
  receive_waits must =
      elim must.lacks [
        | inl none ↦ true_or (must_wait n channel) (waits_for_all flags && must_wait_for_all n channel)
            ((reads_wait n channel).1 (none.0, none.1, must.reader, must.writer))
        | inr few ↦ or_true (must_wait n channel) (waits_for_all flags && must_wait_for_all n channel)
            (waits_all few.0 few.1 few.2 (side_tests channel must.reader must.writer))
      ]

  first_waits : must_wait n channel ≡ true → MustWait n flags channel
  first_waits h = let is = (reads_wait n channel).0 h in record { lacks = inl (is.0, is.1); reader = is.2; writer = is.3 }

  all_waits : (waits_for_all flags && must_wait_for_all n channel) ≡ true → MustWait n flags channel
  all_waits h =
      let first = both_hold (waits_for_all flags) (must_wait_for_all n channel) h in
      let second = both_hold (nat_lt (length (bytes_of channel.waiting)) n) (not (is_bounded channel.waiting) && not (is_hung channel)) first.1 in
      let third = both_hold (not (is_bounded channel.waiting)) (not (is_hung channel)) second.1 in
      let sides = sides_open channel (not_is _ third.1) in
      record {
        lacks = inr (
          is_other (bit_and flags 16) (not_is _ first.0),
          ltb-true (length (bytes_of channel.waiting)) n second.0,
          none_bounds channel.waiting (not_is _ third.0),
        );
        reader = sides.0;
        writer = sides.1;
      }

  pub receive_goes : ¬ MustWait n flags channel → must_wait_by flags n channel ≡ false
  receive_goes goes =
      elim (must_wait_by flags n channel) as (λ b. must_wait_by flags n channel ≡ b → b ≡ false) [
        | true ↦ λ waits. absurd (goes (elim (one_holds (must_wait n channel) (waits_for_all flags && must_wait_for_all n channel) waits) [
          | inl some ↦ first_waits some
          | inr all ↦ all_waits all
        ]))
        | false ↦ λ e. refl
      ] refl

-- ---- sends

pub room_tests : (count : ℕ) (channel : Channel) → HasRoom count channel → has_room count channel ≡ true
room_tests count channel has =
    let less : length (bytes_of channel.waiting) < 65536 = has.byte in
    let some : room channel ≢ 0 = λ e. omega (arith, less, e) in
    let fits : nat_le (length (carried_of channel.waiting) + count) 64 ≡ true =
    elim (leb_tells (length (carried_of channel.waiting) + count) 64) [
      | inl within ↦ within.0
      | inr past ↦ (let more = past.1 in let few = has.descriptors in absurd (omega (arith, more, few)))
    ] in
    λ i. flag_set (room channel) some i && fits i
