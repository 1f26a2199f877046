-- What sends and reads do to a channel.
--     reads_lose_nothing, reads_stop_at_sends, reads_wait, sends_stand_last, installs_as_sent, reads_answer, receives_answer,
--     writes_answer, sends_answer      the laws
use Rattle.std.proofs.Common.{◌≡◌, ◌≢◌, inl, inr, ℕ, zero, suc, ◌+◌, ◌-◌, ◌<◌, ◌≤◌, ◌==◌, ◌&&◌, ◌||◌, not, Bool, true, false, cond, min, List, [], ◌∷◌, ◌++◌, length, take, drop, Option, None, Some, refl, sym, ap, subst, ◌∙◌, arith}
use Rattle.std.proofs.lemmas.Bool.{eq-eqb, leb-true}
use Rattle.std.proofs.lemmas.Bool.Decides.{eqb_tells, leb_tells}
use Rattle.std.proofs.lemmas.List.{drop-append-le, length-append, length-take, take-append-drop, take-append-le, take_all}
use Rattle.std.proofs.Math.Nat.{min-le_right}
use Rattle.std.proofs.Math.Seq.{drop-append-add}
use Rattle.std.specs.Prelude.{nat_le, bit_and}
use Rattle.std.specs.FinMap.{get, insert}
use Rattle.std.specs.List.{AllByRecursion}
use Rattle.abi_types.specs.declared.call.Call.TheVariants.{FdRead, FdWrite, SockRecv, SockSend}
use Rattle.abi_types.specs.declared.constants.Constants.{Constants}
use Rattle.abi_types.specs.declared.descriptor.Descriptor.{Descriptor}
use Rattle.abi_types.specs.declared.reply.Answer.{Answer}
use Rattle.abi_types.specs.declared.reply.Reply.{Reply}
use Rattle.abi_types.specs.declared.who.Who.{Who}
use Rattle.maps.specs.Maps.{get-insert-same, get-insert-other}
use Rattle.kernel_model.specs.Calls.{meaning_of}
use Rattle.kernel_model.specs.ChannelLaws.{AnswersSend, HasEnd, InstallsAsSent, IsInstalled, ReadsAnswer, ReadsLoseNothing, ReadsStopAtSends, ReadsWait, ReceivesAnswer, SendsAnswer, SendsStandLast, StandsLast, StartsCarrying, WritesAnswer, installs_none, installs_one}
use Rattle.kernel_model.specs.Channels.{Channel, Pulled, Push, hung, full, sends, Send, SideState, Gone, Open, Shut, IsChannel, bytes_of, carried_of, coming, has_room, is_empty, is_hung, is_none, is_open, must_wait, must_wait_for_all, plain_reach, pull, push_if, pushed, reach, room, sends_after}
use Rattle.kernel_model.specs.Families.ChannelCalls.{Installed, install, is_nonblocking, must_wait_by, peeks, picked, read_from, read_if, receive_from, receive_open, received_if, received_with, send_open, send_to, sent_by, sent_reply, truncated, waits_for_all, written_reply}
use Rattle.kernel_model.specs.Families.ClockCalls.{real_time}
use Rattle.kernel_model.specs.Families.DescriptorCalls.{lowest_free}
use Rattle.kernel_model.specs.Families.OpenMeaning.{at_descriptor}
use Rattle.kernel_model.specs.Families.StreamCalls.{read_open, write_open}
use Rattle.kernel_model.specs.Outcome.{Outcome, is_parked}
use Rattle.kernel_model.specs.State.{State}
use Rattle.kernel_model.specs.Step.{step_answer, tick, unless}
use Rattle.kernel_model.specs.View.{whole}
use Rattle.kernel_model.proofs.ChannelChanges.{by_less, carried_both}
use Rattle.kernel_model.proofs.DescriptorCalls.{free_is_absent}
use Rattle.kernel_model.proofs.Outcomes.{outcome_of_table}
use Rattle.kernel_model.proofs.SocketCalls.{installed_from}
use Rattle.kernel_model.proofs.Tests.{not_true, same_some}

-- ---- bytes

append_all : {X : Type 0} (xs ys zs : List X) → (xs ++ ys) ++ zs ≡ xs ++ (ys ++ zs)
append_all [] ys zs = refl
append_all (x ∷ xs) ys zs = ap (λ rest. x ∷ rest) (append_all xs ys zs)

bytes_split : (xs ys : List Send) → bytes_of (xs ++ ys) ≡ bytes_of xs ++ bytes_of ys
bytes_split [] ys = refl
bytes_split (x ∷ xs) ys = ap (λ rest. x.bytes ++ rest) (bytes_split xs ys) ∙ sym (append_all x.bytes (bytes_of xs) (bytes_of ys))

-- the sends that are left after m bytes, where the first of them lost some
abbrev after_by : ℕ → Send → List Send → Bool → List Send
after_by m send rest less = cond less ((record { bytes = drop m send.bytes; carried = [] }) ∷ rest) (sends_after (m - length send.bytes) rest)

after_is_drop : (waiting : List Send) (m : ℕ) → bytes_of (sends_after m waiting) ≡ drop m (bytes_of waiting)
after_is_drop waiting zero = refl
after_is_drop [] (suc m) = refl
after_is_drop (send ∷ rest) (suc m) =
    by_less (λ less. bytes_of (after_by (suc m) send rest less) ≡ drop (suc m) (send.bytes ++ bytes_of rest)) (suc m) (length send.bytes)
    (λ less. sym (drop-append-le (suc m) send.bytes (bytes_of rest) (omega (arith, less))))
    (λ more.
    let place : length send.bytes + (suc m - length send.bytes) ≡ suc m = omega (arith, more) in
    after_is_drop rest (suc m - length send.bytes)
    ∙ sym (ap (λ k. drop k (send.bytes ++ bytes_of rest)) (sym place) ∙ drop-append-add send.bytes (bytes_of rest) (suc m - length send.bytes)))

-- ---- what is carried

none_is : (ds : List Descriptor) → is_none ds ≡ true → ds ≡ []
none_is [] h = refl
none_is (d ∷ ds) h = absurd (not_true h)

-- sends that carry nothing take nothing along
plain_after : (waiting : List Send) (m : ℕ) → m ≤ plain_reach waiting → carried_of (sends_after m waiting) ≡ carried_of waiting
plain_after waiting zero h = refl
plain_after [] (suc m) h = refl
plain_after (send ∷ rest) (suc m) h =
    elim (is_none send.carried) as (λ b. is_none send.carried ≡ b → suc m ≤ cond b (length send.bytes + plain_reach rest) 0
    → carried_of (sends_after (suc m) (send ∷ rest)) ≡ send.carried ++ carried_of rest) [
      | true ↦ λ none within. (
          let bare : [] ≡ send.carried = sym (none_is send.carried none) in
          by_less (λ less. carried_of (after_by (suc m) send rest less) ≡ send.carried ++ carried_of rest) (suc m) (length send.bytes)
          (λ less. ap (λ ds. ds ++ carried_of rest) bare)
          (λ more. plain_after rest (suc m - length send.bytes) (omega (arith, within, more)) ∙ ap (λ ds. ds ++ carried_of rest) bare))
      | false ↦ λ some within. absurd (omega (arith, within))
    ] refl h

carried_after : (waiting : List Send) (m : ℕ) → m ≤ reach waiting → coming m waiting ++ carried_of (sends_after m waiting) ≡ carried_of waiting
carried_after waiting zero h = refl
carried_after [] (suc m) h = refl
carried_after (send ∷ rest) (suc m) h =
    by_less (λ less. send.carried ++ carried_of (after_by (suc m) send rest less) ≡ send.carried ++ carried_of rest) (suc m) (length send.bytes)
    (λ less. refl)
    (λ more. ap (λ ds. send.carried ++ ds) (plain_after rest (suc m - length send.bytes) (omega (arith, h, more))))

pub reads_lose_nothing : ReadsLoseNothing
reads_lose_nothing n channel =
    let m : ℕ = min n (reach channel.waiting) in (
      sym (take-append-drop m (bytes_of channel.waiting)) ∙ ap (λ bytes. take m (bytes_of channel.waiting) ++ bytes) (sym (after_is_drop channel.waiting m)),
      sym (carried_after channel.waiting m (min-le_right n (reach channel.waiting))),
    )

-- ---- where a read stops

some_is_false : (ds : List Descriptor) → ds ≢ [] → is_none ds ≡ false
some_is_false [] h = absurd (h refl)
some_is_false (d ∷ ds) h = refl

starts_none : (rest : List Send) → StartsCarrying rest → plain_reach rest ≡ 0
starts_none [] h = refl
starts_none (send ∷ rest) h = ap (λ b. cond b (length send.bytes + plain_reach rest) 0) (some_is_false send.carried h)

plain_is : (plain rest : List Send) → AllByRecursion (λ (send : Send). send.carried ≡ []) plain → StartsCarrying rest
    → plain_reach (plain ++ rest) ≡ length (bytes_of plain)
plain_is [] rest all next = starts_none rest next
plain_is (send ∷ plain) rest all next =
    let here : plain_reach (send ∷ (plain ++ rest)) ≡ length send.bytes + plain_reach (plain ++ rest) =
    ap (λ ds. cond (is_none ds) (length send.bytes + plain_reach (plain ++ rest)) 0) all.0 in
    let later : plain_reach (plain ++ rest) ≡ length (bytes_of plain) = plain_is plain rest all.1 next in
    let both = length-append send.bytes (bytes_of plain) in
    omega (arith, here, later, both)

take_within : (n : ℕ) (xs ys : List ℕ) → take (min n (length xs)) (xs ++ ys) ≡ take n xs
take_within n xs ys =
    take-append-le (min n (length xs)) xs ys (min-le_right n (length xs)) ∙ elim (leb_tells n (length xs)) [
      | inl within ↦ (let few : n ≤ length xs = within.1 in let is : min n (length xs) ≡ n = omega (arith, few) in ap (λ k. take k xs) is)
      | inr past ↦ (
          let many : length xs < n = past.1 in
          let is : min n (length xs) ≡ length xs = omega (arith, many) in
          ap (λ k. take k xs) is ∙ take_all (length xs) xs (omega arith) ∙ sym (take_all n xs (omega (arith, many))))
    ]

some_comes : (n : ℕ) (first : Send) (rest : List Send) → 0 < n → 0 < length first.bytes → coming (min n (reach (first ∷ rest))) (first ∷ rest) ≡ first.carried
some_comes n first rest some byte = comes (min n (reach (first ∷ rest))) (omega (arith, some, byte)) where
  comes : (m : ℕ) → 0 < m → coming m (first ∷ rest) ≡ first.carried
  comes zero h = absurd (omega (arith, h))
  comes (suc m) h = refl

pub reads_stop_at_sends : ReadsStopAtSends
reads_stop_at_sends n channel first plain rest split =
    let own : List ℕ = first.bytes ++ bytes_of plain in
    let plainly : plain_reach (plain ++ rest) ≡ length (bytes_of plain) = plain_is plain rest split.plainly split.next in
    let both = length-append first.bytes (bytes_of plain) in
    let most : reach (first ∷ (plain ++ rest)) ≡ length own = omega (arith, plainly, both) in
    let all : bytes_of (first ∷ (plain ++ rest)) ≡ own ++ bytes_of rest =
    ap (λ bytes. first.bytes ++ bytes) (bytes_split plain rest) ∙ sym (append_all first.bytes (bytes_of plain) (bytes_of rest)) in (
      ap (λ w. take (min n (reach w)) (bytes_of w)) split.splits
          ∙ (λ i. take (min n (most i)) (all i)) ∙ take_within n own (bytes_of rest),
      λ some byte. ap (λ w. coming (min n (reach w)) w) split.splits ∙ some_comes n first (plain ++ rest) some byte,
    )

-- ---- where a read waits

both_hold : (a b : Bool) → (a && b) ≡ true → (a ≡ true) × (b ≡ true)
both_hold true b h = (refl, h)
both_hold false b h = absurd (not_true h)

not_false_is : (b : Bool) → not b ≡ true → b ≡ false
not_false_is true h = absurd (not_true h)
not_false_is false h = refl

not_not : (b : Bool) → not b ≡ false → b ≡ true
not_not true h = refl
not_not false h = sym h

empty_is : (waiting : List Send) → is_empty waiting ≡ true → waiting ≡ []
empty_is [] h = refl
empty_is (send ∷ rest) h = absurd (not_true h)

open_is : (side : SideState) → is_open side ≡ true → side ≡ Open
open_is Open h = refl
open_is Shut h = absurd (not_true h)
open_is Gone h = absurd (not_true h)

other_is_false : (n : ℕ) → n ≢ 0 → (n == 0) ≡ false
other_is_false n h = elim (eqb_tells n 0) [ inl is ↦ absurd (h is.1) | inr other ↦ other.0 ]

is_other : (n : ℕ) → (n == 0) ≡ false → n ≢ 0
is_other n h e = not_true (sym h ∙ eq-eqb n 0 e)

sides_open : (channel : Channel) → is_hung channel ≡ false → (channel.reader ≡ Open) × (channel.writer ≡ Open)
sides_open channel h =
    let both = both_hold (is_open channel.reader) (is_open channel.writer) (not_not _ h) in
    (open_is channel.reader both.0, open_is channel.writer both.1)

pub reads_wait : ReadsWait
reads_wait n channel = (
  λ waits.
      let first = both_hold (not (n == 0)) (is_empty channel.waiting && not (is_hung channel)) waits in
      let second = both_hold (is_empty channel.waiting) (not (is_hung channel)) first.1 in
      let sides = sides_open channel (not_false_is (is_hung channel) second.1) in
      (is_other n (not_false_is (n == 0) first.0), empty_is channel.waiting second.0, sides.0, sides.1),
  λ is. λ i. not (other_is_false n is.0 i) && (is_empty (is.1 i) && not (not (is_open (is.2 i) && is_open (is.3 i)))),
)

-- ---- what is sent

count_is : (count other : ℕ) (after channel : Channel) → sends count after ≡ sends other channel → (count ≡ other) × (after ≡ channel)
count_is count other after channel e = (ap count_in e, ap after_in e) where
  count_in : Push → ℕ
  count_in hung = 0
  count_in full = 0
  count_in (sends n x) = n

  after_in : Push → Channel
  after_in hung = channel
  after_in full = channel
  after_in (sends n x) = x

never_sends : {X : Type 0} (p : Push) (count : ℕ) (after : Channel) → p ≡ sends count after → (p ≡ hung) → X
never_sends p count after is e = absurd (other (sym e ∙ is)) where
  other : hung ≡ sends count after → ⊥
  other h = cc

never_sends_full : {X : Type 0} (count : ℕ) (after : Channel) → full ≡ sends count after → X
never_sends_full count after h = absurd (other h) where
  other : full ≡ sends count after → ⊥
  other h = cc

take_min : (n : ℕ) (xs : List ℕ) → take n xs ≡ take (min (length xs) n) xs
take_min n xs =
    elim (leb_tells n (length xs)) [
      | inl within ↦ (let few : n ≤ length xs = within.1 in let is : n ≡ min (length xs) n = omega (arith, few) in ap (λ k. take k xs) is)
      | inr past ↦ (
          let many : length xs < n = past.1 in
          let is : length xs ≡ min (length xs) n = omega (arith, many) in
          take_all n xs (omega (arith, many)) ∙ sym (take_all (length xs) xs (omega arith)) ∙ ap (λ k. take k xs) is)
    ]

module _ (bytes : List ℕ) (carried : List Descriptor) (channel : Channel) (is : IsChannel channel) where
  stands_last : (count : ℕ) (after : Channel) (hangs fits : Bool) → is_hung channel ≡ hangs → has_room (length carried) channel ≡ fits
      → push_if hangs fits bytes carried channel ≡ sends count after → StandsLast bytes carried channel count after
  stands_last count after true fits h r e = never_sends hung count after e refl
  stands_last count after false false h r e = never_sends_full count after e
  stands_last count after false true h r e =
      let own = count_is (min (length bytes) (room channel)) count (pushed (take (room channel) bytes) carried channel) after e in
      let rooms = both_hold (not (room channel == 0)) (nat_le (length (carried_of channel.waiting) + length carried) 64) r in
      let most : length (carried_of channel.waiting) + length carried ≤ 64 = leb-true _ _ rooms.1 in
      let send : Send = record { bytes = take (room channel) bytes; carried = carried } in
      let sent : bytes_of (channel.waiting ++ send ∷ []) ≡ bytes_of channel.waiting ++ take (room channel) bytes =
      bytes_split channel.waiting (send ∷ []) ∙ ap (λ more. bytes_of channel.waiting ++ more) (none_behind (take (room channel) bytes)) in
      let sent_ds : carried_of (channel.waiting ++ send ∷ []) ≡ carried_of channel.waiting ++ carried =
      carried_both channel.waiting (send ∷ []) ∙ ap (λ more. carried_of channel.waiting ++ more) (none_behind carried) in
      let all = length-append (bytes_of channel.waiting) (take (room channel) bytes) in
      let part = length-take (room channel) bytes in
      let few = is.bytes in
      let whole = ap (length {A = ℕ}) sent in
      let all_ds = length-append (carried_of channel.waiting) carried in
      let whole_ds = ap (length {A = Descriptor}) sent_ds in
      subst (λ n. StandsLast bytes carried channel n after) own.0
      (subst (StandsLast bytes carried channel (min (length bytes) (room channel))) own.1
      (record {
        bytes_last = sent ∙ ap (λ more. bytes_of channel.waiting ++ more) (take_min (room channel) bytes);
        carried_last = sent_ds;
        few_bytes = omega (arith, all, part, few, whole);
        few_carried = omega (arith, all_ds, whole_ds, most);
        open_sides = sides_open channel h;
      })) where
        none_behind : {X : Type 0} (xs : List X) → xs ++ [] ≡ xs
        none_behind [] = refl
        none_behind (x ∷ xs) = ap (λ rest. x ∷ rest) (none_behind xs)

pub sends_stand_last : SendsStandLast
sends_stand_last bytes carried channel count after is e =
    stands_last bytes carried channel is count after (is_hung channel) (has_room (length carried) channel) refl refl e

-- ---- what is installed

pub installs_as_sent : InstallsAsSent
installs_as_sent table [] installed e =
    subst (λ (x : Installed). IsInstalled table [] x.fds x.table) (same_some (record { fds = []; table = table }) installed e) (installs_none table)
installs_as_sent table (d ∷ ds) installed e =
    let from = installed_from (lowest_free table) (λ number. install (insert table number d) ds) installed e in
    subst (λ (x : Installed). IsInstalled table (d ∷ ds) x.fds x.table) from.4
    (installs_one table (insert table from.0 d) from.1.table d ds from.0 from.1.fds (free_is_absent table 1024 0 from.0 from.2)
    (get-insert-same table from.0 d) (λ m other. get-insert-other table from.0 d m other) (installs_as_sent (insert table from.0 d) ds from.1 from.3))

-- ---- what a read answers

module _ (constants : Constants) (S : State) (who : Who) (fd n c flags : ℕ) (writes : Option ℕ) (channel : Channel)
    (has : HasEnd S who (FdRead fd n) fd (Some c) writes flags)
    (there : get S.chans c ≡ Some channel) where
  read_answer : step_answer constants S who (FdRead fd n) ≡ (read_if (must_wait n channel) (is_nonblocking flags) c (pull n channel)).answer
  read_answer =
      ap (λ (o : Outcome). o.answer) (outcome_of_table constants S who (FdRead fd n) has.table has.own)
      ∙ ap (λ r. (unless r ((meaning_of (FdRead fd n)).effect constants (whole (tick S)) who has.table)).answer) has.allowed
      ∙ ap (λ d. (at_descriptor (λ o. read_open (whole (tick S)) n o) (whole (tick S)) d).answer) has.there
      ∙ ap (λ kind. (read_open (whole (tick S)) n has.d.id kind).answer) has.opened
      ∙ ap (λ x. (read_from n (is_nonblocking flags) c x).answer) there

  nonblocking_is : (bit_and flags 4 ≡ 0 → is_nonblocking flags ≡ false) × (bit_and flags 4 ≢ 0 → is_nonblocking flags ≡ true)
  nonblocking_is = (λ e. ap not (eq-eqb (bit_and flags 4) 0 e), λ e. ap not (other_is_false (bit_and flags 4) e))

pub reads_answer : ReadsAnswer
reads_answer constants S who fd n c flags writes channel has there =
    let is = read_answer constants S who fd n c flags writes channel has there in
    let mode = nonblocking_is constants S who fd n c flags writes channel has there in (
      λ waits blocking. is ∙ (λ i. (read_if (waits i) (mode.0 blocking i) c (pull n channel)).answer),
      λ waits quick. is ∙ (λ i. (read_if (waits i) (mode.1 quick i) c (pull n channel)).answer),
      λ goes. is ∙ ap (λ b. (read_if b (is_nonblocking flags) c (pull n channel)).answer) goes,
    )

-- ---- what a receive answers

true_or : (a b : Bool) → a ≡ true → (a || b) ≡ true
true_or true b h = refl
true_or false b h = absurd (not_true h)

or_both : (a b c : Bool) → b ≡ true → c ≡ true → (a || (b && c)) ≡ true
or_both true b c h k = refl
or_both false b c h k = λ i. h i && k i

module _ (constants : Constants) (S : State) (who : Who) (fd n room flags c w mode : ℕ) (channel : Channel)
    (has : HasEnd S who (SockRecv fd n room flags) fd (Some c) (Some w) mode) (there : get S.chans c ≡ Some channel) where
  abbrev receives_by : Bool → Bool → Outcome
  receives_by must nonblocking = received_if must nonblocking (peeks flags) who.pid has.table room c (pull n channel)

  receive_answer : step_answer constants S who (SockRecv fd n room flags) ≡ (receives_by (must_wait_by flags n channel) (is_nonblocking mode)).answer
  receive_answer =
      ap (λ (o : Outcome). o.answer) (outcome_of_table constants S who (SockRecv fd n room flags) has.table has.own)
      ∙ ap (λ r. (unless r ((meaning_of (SockRecv fd n room flags)).effect constants (whole (tick S)) who has.table)).answer) has.allowed
      ∙ ap (λ d. (at_descriptor (λ o. receive_open who.pid has.table (whole (tick S)) n room flags) (whole (tick S)) d).answer) has.there
      ∙ ap (λ kind. (receive_open who.pid has.table (whole (tick S)) n room flags kind).answer) has.opened
      ∙ ap (λ x. (receive_from who.pid has.table n room flags (is_nonblocking mode) c x).answer) there

  answers_by : (must nonblocking : Bool) → must_wait_by flags n channel ≡ must → is_nonblocking mode ≡ nonblocking
      → step_answer constants S who (SockRecv fd n room flags) ≡ (receives_by must nonblocking).answer
  answers_by must nonblocking waits quick = receive_answer ∙ (λ i. (receives_by (waits i) (quick i)).answer)

  blocking_mode : bit_and mode 4 ≡ 0 → is_nonblocking mode ≡ false
  blocking_mode e = ap not (eq-eqb (bit_and mode 4) 0 e)

  quick_mode : bit_and mode 4 ≢ 0 → is_nonblocking mode ≡ true
  quick_mode e = ap not (other_is_false (bit_and mode 4) e)

  some_wait : must_wait n channel ≡ true → must_wait_by flags n channel ≡ true
  some_wait waits = true_or (must_wait n channel) (waits_for_all flags && must_wait_for_all n channel) waits

  all_wait : must_wait_for_all n channel ≡ true → bit_and flags 16 ≢ 0 → must_wait_by flags n channel ≡ true
  all_wait waits asked =
      or_both (must_wait n channel) (waits_for_all flags) (must_wait_for_all n channel) (ap not (other_is_false (bit_and flags 16) asked)) waits

  none_wait : must_wait n channel ≡ false → bit_and flags 16 ≡ 0 → must_wait_by flags n channel ≡ false
  none_wait goes asked = λ i. goes i || (not (eq-eqb (bit_and flags 16) 0 asked i) && must_wait_for_all n channel)

  installed_replies : (o : Option Installed) (pulled : Pulled)
      → is_parked (received_with who.pid c pulled.bytes (truncated room pulled.carried) pulled.rest o).answer ≡ false
  installed_replies None pulled = refl
  installed_replies (Some installed) pulled = refl

  -- where a receive doesn't wait it replies
  replied : (looks nonblocking : Bool) → is_parked (received_if false nonblocking looks who.pid has.table room c (pull n channel)).answer ≡ false
  replied true nonblocking = refl
  replied false nonblocking = installed_replies (install has.table (take room (pull n channel).carried)) (pull n channel)

pub receives_answer : ReceivesAnswer
receives_answer constants S who fd n room flags c w mode channel has there = (
  λ waits blocking.
      answers_by constants S who fd n room flags c w mode channel has there true false (some_wait constants S who fd n room flags c w mode channel has there waits)
      (blocking_mode constants S who fd n room flags c w mode channel has there blocking),
  λ waits quick.
      answers_by constants S who fd n room flags c w mode channel has there true true (some_wait constants S who fd n room flags c w mode channel has there waits)
      (quick_mode constants S who fd n room flags c w mode channel has there quick),
  λ waits asked blocking.
      answers_by constants S who fd n room flags c w mode channel has there true false
      (all_wait constants S who fd n room flags c w mode channel has there waits asked)
      (blocking_mode constants S who fd n room flags c w mode channel has there blocking),
  λ goes asked.
      ap is_parked (answers_by constants S who fd n room flags c w mode channel has there false (is_nonblocking mode)
      (none_wait constants S who fd n room flags c w mode channel has there goes asked) refl)
      ∙ replied constants S who fd n room flags c w mode channel has there (peeks flags) (is_nonblocking mode),
)

-- ---- what a send answers

module _ (reply : ℕ → Reply) (c b : ℕ) (bytes : List ℕ) (carried : List Descriptor) (mode : ℕ) (channel : Channel) where
  -- what it comes to, by the two tests
  abbrev sent_as : Bool → Bool → Bool → Outcome
  sent_as quick hangs fits = sent_by reply quick c (push_if hangs fits (b ∷ bytes) carried channel)

  tests_answer : (given : Answer) → given ≡ (sent_as (is_nonblocking mode) (is_hung channel) (has_room (length carried) channel)).answer
      → AnswersSend reply (length (b ∷ bytes)) (length carried) mode channel given
  tests_answer given is = (
    λ hangs. is ∙ (λ i. (sent_as (is_nonblocking mode) (hangs i) (has_room (length carried) channel)).answer),
    λ sides full blocking. is ∙ (λ i. (sent_as (not (eq-eqb (bit_and mode 4) 0 blocking i)) (sides i) (full i)).answer),
    λ sides full quick. is ∙ (λ i. (sent_as (not (other_is_false (bit_and mode 4) quick i)) (sides i) (full i)).answer),
    λ sides fits. is ∙ (λ i. (sent_as (is_nonblocking mode) (sides i) (fits i)).answer),
  )

pub writes_answer : WritesAnswer
writes_answer constants S who fd b bytes reads c mode channel has there =
    tests_answer written_reply c b bytes [] mode channel (step_answer constants S who (FdWrite fd (b ∷ bytes)))
    (ap (λ (o : Outcome). o.answer) (outcome_of_table constants S who (FdWrite fd (b ∷ bytes)) has.table has.own)
    ∙ ap (λ r. (unless r ((meaning_of (FdWrite fd (b ∷ bytes))).effect constants (whole (tick S)) who has.table)).answer) has.allowed
    ∙ ap (λ d. (at_descriptor (write_open (real_time constants (tick S).clock) (whole (tick S)) (b ∷ bytes)) (whole (tick S)) d).answer) has.there
    ∙ ap (λ kind. (write_open (real_time constants (tick S).clock) (whole (tick S)) (b ∷ bytes) has.d.id kind).answer) has.opened
    ∙ ap (λ x. (send_to written_reply (is_nonblocking mode) (b ∷ bytes) [] c x).answer) there)

pub sends_answer : SendsAnswer
sends_answer constants S who fd b bytes fds flags r c mode channel has there =
    let carried : List Descriptor = picked has.table fds in
    tests_answer sent_reply c b bytes carried mode channel (step_answer constants S who (SockSend fd (b ∷ bytes) fds flags))
    (ap (λ (o : Outcome). o.answer) (outcome_of_table constants S who (SockSend fd (b ∷ bytes) fds flags) has.table has.own)
    ∙ ap (λ r. (unless r ((meaning_of (SockSend fd (b ∷ bytes) fds flags)).effect constants (whole (tick S)) who has.table)).answer) has.allowed
    ∙ ap (λ d. (at_descriptor (λ o. send_open (whole (tick S)) (b ∷ bytes) carried) (whole (tick S)) d).answer) has.there
    ∙ ap (λ kind. (send_open (whole (tick S)) (b ∷ bytes) carried kind).answer) has.opened
    ∙ ap (λ x. (send_to sent_reply (is_nonblocking mode) (b ∷ bytes) carried c x).answer) there)
