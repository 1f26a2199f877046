-- The laws of channels.
use Rattle.std.proofs.Common.{◌≡◌, ℕ, zero, suc, ◌+◌, ◌-◌, ◌<◌, ◌≤◌, ◌≢◌, min, Bool, true, false, cond, List, [], ◌∷◌, ◌++◌, length, take, drop, inl, inr, refl, sym, ap, ◌∙◌, subst, arith, append_assoc, append-nil, true≢false}
use Rattle.std.specs.List.{AllByRecursion}
use Rattle.std.proofs.lemmas.List.{length-append, length_push, length-drop, length-take, take-append-drop, take_min, drop-append-le, drop-drop, drop_at}
use Rattle.abi_types.specs.declared.descriptor.Descriptor.{Descriptor}
use Rattle.channels.specs.declared.side.Side.TheVariants.{Reader, Writer}
use Rattle.channels.specs.Channels.{Send, Channel, IsChannel, HasByte, bytes_of, carried_of, coming, drawn_by, has_room, is_hung, is_none, plain_reach, push_if, pushed, reach, room, sends_after}
use Rattle.channels.specs.ChannelLaws.{StopsBeforeCarried, TakesAllPlain, ReadsLeaveRest, IsPart, rest_of, begun_at, SendsAddOne, Deed, writes, reads, left_by, bytes_by, carried_by, after, all_after, bytes_in, carried_in, bytes_out, carried_out, along, BytesComeOnce, CarriedComeOnce, NewIsChannel, StaysChannel, ShutIsChannel, ReadsKeepCount, ShutKeepsCount}
use Rattle.channels.proofs.Afters.{gone_after}
use Rattle.channels.proofs.Takes.{IsTaken, may_take, ltb_cases, bool_cases}

-- ---- lists

drop_past : {X : Type 0} (n : ℕ) (xs ys : List X) → length xs ≤ n → drop n (xs ++ ys) ≡ drop (n - length xs) ys
drop_past n xs ys past =
    let sum : length xs + (n - length xs) ≡ n = omega arith in
    ap (λ (k : ℕ). drop k (xs ++ ys)) (sym sum)
    ∙ sym (drop-drop (n - length xs) (length xs) (xs ++ ys))
    ∙ ap (drop (n - length xs)) (drop_at xs ys (length xs) refl)

bytes_of-append : (front back : List Send) → bytes_of (front ++ back) ≡ bytes_of front ++ bytes_of back
bytes_of-append [] back = refl
bytes_of-append (send ∷ front) back =
    ap (λ (rest : List ℕ). send.bytes ++ rest) (bytes_of-append front back) ∙ sym (append_assoc send.bytes (bytes_of front) (bytes_of back))

carried_of-append : (front back : List Send) → carried_of (front ++ back) ≡ carried_of front ++ carried_of back
carried_of-append [] back = refl
carried_of-append (send ∷ front) back =
    ap (λ (rest : List Descriptor). send.carried ++ rest) (carried_of-append front back) ∙ sym (append_assoc send.carried (carried_of front) (carried_of back))

nil_front : {X : Type 0} (xs ys : List X) → xs ++ ys ≡ [] → xs ≡ []
nil_front [] ys none = refl
nil_front (x ∷ xs) ys none = cc

is_none-nil : (ds : List Descriptor) → is_none ds ≡ true → ds ≡ []
is_none-nil [] none = refl
is_none-nil (d ∷ ds) none = cc

not_none : (ds : List Descriptor) → ds ≢ [] → is_none ds ≡ false
not_none [] some = absurd (some refl)
not_none (d ∷ ds) some = refl

-- ---- sends after a read

bytes_after : (n : ℕ) (sends : List Send) → bytes_of (sends_after n sends) ≡ drop n (bytes_of sends)
bytes_after zero sends = refl
bytes_after (suc n) [] = refl
bytes_after (suc n) (send ∷ rest) =
    elim (ltb_cases (suc n) (length send.bytes)) [
      | inl inside ↦ rw inside.0 (sym (drop-append-le (suc n) send.bytes (bytes_of rest) (omega (arith, inside.1))))
      | inr past ↦ rw past.0 (bytes_after (suc n - length send.bytes) rest ∙ sym (drop_past (suc n) send.bytes (bytes_of rest) past.1))
    ]

-- a read of sends that carry nothing
plain_after : (n : ℕ) (sends : List Send) → n ≤ plain_reach sends → carried_of (sends_after n sends) ≡ carried_of sends
plain_after zero sends within = refl
plain_after (suc n) [] within = refl
plain_after (suc n) (send ∷ rest) within =
    elim (bool_cases (is_none send.carried)) [
      | inl none ↦
          let bare : send.carried ≡ [] = is_none-nil send.carried none in
          let here : suc n ≤ length send.bytes + plain_reach rest =
          subst (λ (b : Bool). suc n ≤ cond b (length send.bytes + plain_reach rest) 0) none within in
          elim (ltb_cases (suc n) (length send.bytes)) [
            | inl inside ↦ rw inside.0 (ap (λ (f : List Descriptor). f ++ carried_of rest) (sym bare))
            | inr past ↦
                rw past.0
                (plain_after (suc n - length send.bytes) rest (omega (arith, here, past.1))
                ∙ ap (λ (f : List Descriptor). f ++ carried_of rest) (sym bare))
          ]
      | inr some ↦
          let bounded : suc n ≤ 0 = subst (λ (b : Bool). suc n ≤ cond b (length send.bytes + plain_reach rest) 0) some within in
          absurd (omega (arith, bounded))
    ]

carried_after : (n : ℕ) (sends : List Send) → n ≤ reach sends → coming n sends ++ carried_of (sends_after n sends) ≡ carried_of sends
carried_after zero sends within = refl
carried_after (suc n) [] within = refl
carried_after (suc n) (send ∷ rest) within =
    elim (ltb_cases (suc n) (length send.bytes)) [
      | inl inside ↦ rw inside.0 refl
      | inr past ↦
          rw past.0
          (ap (λ (f : List Descriptor). send.carried ++ f) (plain_after (suc n - length send.bytes) rest (omega (arith, within, past.1))))
    ]

whole_after : (n : ℕ) (sends : List Send) → AllByRecursion HasByte sends → AllByRecursion HasByte (sends_after n sends)
whole_after zero sends whole = whole
whole_after (suc n) [] whole = whole
whole_after (suc n) (send ∷ rest) whole =
    elim (ltb_cases (suc n) (length send.bytes)) [
      | inl inside ↦
          let byte : HasByte (rest_of (suc n) send) = omega (arith, length-drop (suc n) send.bytes, inside.1) in
          rw inside.0 (byte, whole.1)
      | inr past ↦ rw past.0 (whole_after (suc n - length send.bytes) rest whole.1)
    ]

none_after : (n : ℕ) (sends : List Send) → sends ≡ [] → sends_after n sends ≡ []
none_after zero sends none = none
none_after (suc n) [] none = refl
none_after (suc n) (send ∷ rest) none = cc

-- ---- how far a read goes

plain_stops : (front : List Send) (send : Send) (back : List Send) → send.carried ≢ [] → plain_reach (front ++ send ∷ back) ≤ length (bytes_of front)
plain_stops [] send back carries = rw (not_none send.carried carries) (omega arith)
plain_stops (first ∷ front) send back carries =
    elim (is_none first.carried) as (λ (bare : Bool). cond bare (length first.bytes + plain_reach (front ++ send ∷ back)) 0 ≤ length (first.bytes ++ bytes_of front)) [
      | true ↦ omega (arith, plain_stops front send back carries, length-append first.bytes (bytes_of front))
      | false ↦ omega arith
    ]

pub stops_before_carried : StopsBeforeCarried
stops_before_carried channel first front back send is carries =
    let stops = plain_stops front send back carries in
    let reaches : reach channel.waiting ≡ length first.bytes + plain_reach (front ++ send ∷ back) = ap reach is in
    omega (arith, stops, reaches, length-append first.bytes (bytes_of front))

plain_all : (front : List Send) → carried_of front ≡ [] → plain_reach front ≡ length (bytes_of front)
plain_all [] none = refl
plain_all (send ∷ front) none =
    let bare : send.carried ≡ [] = nil_front send.carried (carried_of front) none in
    let behind : carried_of front ≡ [] = ap (λ (f : List Descriptor). f ++ carried_of front) (sym bare) ∙ none in
    ap (λ (f : List Descriptor). cond (is_none f) (length send.bytes + plain_reach front) 0) bare
    ∙ ap (λ (m : ℕ). length send.bytes + m) (plain_all front behind)
    ∙ sym (length-append send.bytes (bytes_of front))

pub takes_all_plain : TakesAllPlain
takes_all_plain channel first front is none =
    ap reach is
    ∙ ap (λ (m : ℕ). length first.bytes + m) (plain_all front none)
    ∙ sym (length-append first.bytes (bytes_of front))
    ∙ ap (λ (sends : List Send). length (bytes_of sends)) (sym is)

-- ---- what a read leaves

-- the same of sends alone
record LeavesSends (n : ℕ) (before after : List Send) : Type 0 where
  pub gone : List Send
  pub stay : List Send
  pub part : ℕ
  pub was : before ≡ gone ++ stay
  pub bytes : n ≡ length (bytes_of gone) + part
  pub less : IsPart part stay
  pub is : after ≡ begun_at part stay

none_begun : (sends : List Send) → begun_at zero sends ≡ sends
none_begun [] = refl
none_begun (send ∷ rest) = refl

none_is_part : (sends : List Send) → AllByRecursion HasByte sends → IsPart zero sends
none_is_part [] whole = refl
none_is_part (send ∷ rest) whole = whole.0

leaves_sends : (n : ℕ) (sends : List Send) → AllByRecursion HasByte sends → n ≤ length (bytes_of sends)
    → LeavesSends n sends (sends_after n sends)
leaves_sends zero sends whole within = record {
  gone = [];
  stay = sends;
  part = 0;
  was = refl;
  bytes = omega arith;
  less = none_is_part sends whole;
  is = sym (none_begun sends);
}
leaves_sends (suc n) [] whole within = absurd (omega arith)
leaves_sends (suc n) (send ∷ rest) whole within =
    elim (ltb_cases (suc n) (length send.bytes)) [
      | inl inside ↦
          rw inside.0 (record {
            gone = [];
            stay = send ∷ rest;
            part = suc n;
            was = refl;
            bytes = omega arith;
            less = inside.1;
            is = refl;
          })
      | inr past ↦
          let size = length-append send.bytes (bytes_of rest) in
          let more : ℕ = suc n - length send.bytes in
          let behind = leaves_sends more rest whole.1 (omega (arith, size)) in
          rw past.0 (record {
            gone = send ∷ behind.gone;
            stay = behind.stay;
            part = behind.part;
            was = ap (λ (s : List Send). send ∷ s) behind.was;
            bytes = omega (arith, past.1, behind.bytes, length-append send.bytes (bytes_of behind.gone));
            less = behind.less;
            is = behind.is;
          })
    ]

length-begun_at : (part : ℕ) (sends : List Send) → length (begun_at part sends) ≡ length sends
length-begun_at part [] = refl
length-begun_at part (send ∷ rest) = refl

pub reads_leave_rest : ReadsLeaveRest
reads_leave_rest n channel is within =
    let leaves = leaves_sends n channel.waiting is.whole within in
    let before : length channel.waiting ≡ length leaves.gone + length leaves.stay =
    ap (λ (s : List Send). length s) leaves.was ∙ length-append leaves.gone leaves.stay in
    let after_it : length (sends_after n channel.waiting) ≡ length leaves.stay =
    ap (λ (s : List Send). length s) leaves.is ∙ length-begun_at leaves.part leaves.stay in
    record {
      gone = leaves.gone;
      stay = leaves.stay;
      part = leaves.part;
      was = leaves.was;
      bytes = leaves.bytes;
      less = leaves.less;
      is = leaves.is;
      left = omega (arith, before, after_it, gone_after n channel.waiting);
      sides = (refl, refl);
    }

-- ---- what always holds

whole_push : (sends : List Send) (send : Send) → AllByRecursion HasByte sends → HasByte send → AllByRecursion HasByte (sends ++ send ∷ [])
whole_push [] send whole byte = (byte, tt)
whole_push (first ∷ rest) send whole byte = (whole.0, whole_push rest send whole.1 byte)

sent_is_channel : (bytes : List ℕ) (carried : List Descriptor) (channel : Channel) → 0 < length bytes → IsTaken carried channel → IsChannel channel
    → IsChannel (pushed (take (room channel) bytes) carried channel)
sent_is_channel bytes carried channel some takes is =
    let more : List ℕ = take (room channel) bytes in
    let last : Send = record { bytes = more; carried = carried } in
    let size : length (bytes_of (channel.waiting ++ last ∷ [])) ≡ length (bytes_of channel.waiting) + length more =
    ap (λ (b : List ℕ). length b) (bytes_of-append channel.waiting (last ∷ []) ∙ ap (λ (b : List ℕ). bytes_of channel.waiting ++ b) (append-nil more))
    ∙ length-append (bytes_of channel.waiting) more in
    let count : length (carried_of (channel.waiting ++ last ∷ [])) ≡ length (carried_of channel.waiting) + length carried =
    ap (λ (f : List Descriptor). length f)
    (carried_of-append channel.waiting (last ∷ []) ∙ ap (λ (f : List Descriptor). carried_of channel.waiting ++ f) (append-nil carried))
    ∙ length-append (carried_of channel.waiting) carried in
    let byte : HasByte last = omega (arith, length-take (room channel) bytes, some, takes.room_left) in
    record {
      whole = whole_push channel.waiting last is.whole byte;
      bytes = omega (arith, size, length-take (room channel) bytes, is.bytes);
      carried = omega (arith, count, takes.fit);
      read = λ closed. absurd (true≢false (sym takes.reader_there ∙ closed));
    }

drawn_is_channel : (n : ℕ) (channel : Channel) → n ≤ reach channel.waiting → IsChannel channel → IsChannel (drawn_by n channel)
drawn_is_channel n channel within is =
    let bytes : length (bytes_of (sends_after n channel.waiting)) ≡ length (bytes_of channel.waiting) - n =
    ap (λ (b : List ℕ). length b) (bytes_after n channel.waiting) ∙ length-drop n (bytes_of channel.waiting) in
    let carried : length (coming n channel.waiting) + length (carried_of (sends_after n channel.waiting)) ≡ length (carried_of channel.waiting) =
    sym (length-append (coming n channel.waiting) (carried_of (sends_after n channel.waiting)))
    ∙ ap (λ (f : List Descriptor). length f) (carried_after n channel.waiting within) in
    record {
      whole = whole_after n channel.waiting is.whole;
      bytes = omega (arith, bytes, is.bytes);
      carried = omega (arith, carried, is.carried);
      read = λ closed. none_after n channel.waiting (is.read closed);
    }

-- a write of bytes, by whether it is taken
module _ (bytes : List ℕ) (carried : List Descriptor) (channel : Channel) where
  write_keeps : (hangs fits : Bool) → is_hung channel ≡ hangs → has_room (length carried) channel ≡ fits → 0 < length bytes → IsChannel channel
      → IsChannel (left_by (push_if hangs fits bytes carried channel) channel)
  write_keeps true fits hung_is fits_is some is = is
  write_keeps false false hung_is fits_is some is = is
  write_keeps false true hung_is fits_is some is = sent_is_channel bytes carried channel some (may_take carried channel hung_is fits_is) is

  write_bytes : (hangs fits : Bool)
      → bytes_of channel.waiting ++ bytes_by (push_if hangs fits bytes carried channel) bytes ≡ bytes_of (left_by (push_if hangs fits bytes carried channel) channel).waiting
  write_bytes true fits = append-nil (bytes_of channel.waiting)
  write_bytes false false = append-nil (bytes_of channel.waiting)
  write_bytes false true =
      let more : List ℕ = take (room channel) bytes in
      let last : Send = record { bytes = more; carried = carried } in
      let count : min (length bytes) (room channel) ≡ min (room channel) (length bytes) = omega arith in
      ap (λ (n : ℕ). bytes_of channel.waiting ++ take n bytes) count
      ∙ ap (λ (b : List ℕ). bytes_of channel.waiting ++ b) (take_min (room channel) bytes ∙ sym (append-nil more))
      ∙ sym (bytes_of-append channel.waiting (last ∷ []))

  write_carried : (hangs fits : Bool)
      → carried_of channel.waiting ++ carried_by (push_if hangs fits bytes carried channel) carried
      ≡ carried_of (left_by (push_if hangs fits bytes carried channel) channel).waiting
  write_carried true fits = append-nil (carried_of channel.waiting)
  write_carried false false = append-nil (carried_of channel.waiting)
  write_carried false true =
      let last : Send = record { bytes = take (room channel) bytes; carried = carried } in
      ap (λ (f : List Descriptor). carried_of channel.waiting ++ f) (sym (append-nil carried)) ∙ sym (carried_of-append channel.waiting (last ∷ []))

step_keeps : (deed : Deed) (channel : Channel) → IsChannel channel → IsChannel (after deed channel)
step_keeps (writes first behind carried) channel is =
    write_keeps (first ∷ behind) carried channel (is_hung channel) (has_room (length carried) channel) refl refl (omega arith) is
step_keeps (reads asked) channel is = drawn_is_channel (min asked (reach channel.waiting)) channel (omega arith) is

pub stays_channel : StaysChannel
stays_channel [] channel is = is
stays_channel (deed ∷ deeds) channel is = stays_channel deeds (after deed channel) (step_keeps deed channel is)

pub new_is_channel : NewIsChannel
new_is_channel = record { whole = tt; bytes = omega arith; carried = omega arith; read = λ closed. refl }

pub shut_is_channel : ShutIsChannel
shut_is_channel Reader channel is = (
  record { whole = tt; bytes = omega arith; carried = omega arith; read = λ closed. refl },
  record { whole = tt; bytes = omega arith; carried = omega arith; read = λ closed. refl },
)
shut_is_channel Writer channel is = (
  record { whole = is.whole; bytes = is.bytes; carried = is.carried; read = is.read },
  record { whole = is.whole; bytes = is.bytes; carried = is.carried; read = is.read },
)

pub sends_add_one : SendsAddOne
sends_add_one bytes carried channel =
    let last : Send = record { bytes = bytes; carried = carried } in
    omega (arith, length_push channel.waiting last)

pub reads_keep_count : ReadsKeepCount
reads_keep_count n channel = omega (arith, gone_after n channel.waiting)

pub shut_keeps_count : ShutKeepsCount
shut_keeps_count Reader channel = (omega arith, omega arith)
shut_keeps_count Writer channel = (refl, refl)

-- ---- all comes once

-- one write or read
step_bytes : (deed : Deed) (channel : Channel)
    → bytes_of channel.waiting ++ bytes_in deed channel ≡ bytes_out deed channel ++ bytes_of (after deed channel).waiting
step_bytes (writes first behind carried) channel =
    write_bytes (first ∷ behind) carried channel (is_hung channel) (has_room (length carried) channel)
step_bytes (reads asked) channel =
    let n : ℕ = min asked (reach channel.waiting) in
    append-nil (bytes_of channel.waiting)
    ∙ sym (take-append-drop n (bytes_of channel.waiting))
    ∙ ap (λ (b : List ℕ). take n (bytes_of channel.waiting) ++ b) (sym (bytes_after n channel.waiting))

step_carried : (deed : Deed) (channel : Channel)
    → carried_of channel.waiting ++ carried_in deed channel ≡ carried_out deed channel ++ carried_of (after deed channel).waiting
step_carried (writes first behind carried) channel =
    write_carried (first ∷ behind) carried channel (is_hung channel) (has_room (length carried) channel)
step_carried (reads asked) channel =
    append-nil (carried_of channel.waiting) ∙ sym (carried_after (min asked (reach channel.waiting)) channel.waiting (omega arith))

-- what one puts in and takes out before the others do
joined : {X : Type 0} (waits first_in first_out waits_then all_in all_out waits_last : List X)
    → waits ++ first_in ≡ first_out ++ waits_then → waits_then ++ all_in ≡ all_out ++ waits_last
    → waits ++ (first_in ++ all_in) ≡ (first_out ++ all_out) ++ waits_last
joined {X = X} waits first_in first_out waits_then all_in all_out waits_last first rest =
    sym (append_assoc waits first_in all_in)
    ∙ ap (λ (xs : List X). xs ++ all_in) first
    ∙ append_assoc first_out waits_then all_in
    ∙ ap (λ (xs : List X). first_out ++ xs) rest
    ∙ sym (append_assoc first_out all_out waits_last)

pub bytes_come_once : BytesComeOnce
bytes_come_once [] channel = append-nil (bytes_of channel.waiting)
bytes_come_once (deed ∷ deeds) channel =
    joined (bytes_of channel.waiting) (bytes_in deed channel) (bytes_out deed channel) (bytes_of (after deed channel).waiting)
    (along bytes_in deeds (after deed channel)) (along bytes_out deeds (after deed channel)) (bytes_of (all_after deeds (after deed channel)).waiting) (step_bytes deed channel)
    (bytes_come_once deeds (after deed channel))

pub carried_come_once : CarriedComeOnce
carried_come_once [] channel = append-nil (carried_of channel.waiting)
carried_come_once (deed ∷ deeds) channel =
    joined (carried_of channel.waiting) (carried_in deed channel) (carried_out deed channel) (carried_of (after deed channel).waiting)
    (along carried_in deeds (after deed channel)) (along carried_out deeds (after deed channel)) (carried_of (all_after deeds (after deed channel)).waiting)
    (step_carried deed channel) (carried_come_once deeds (after deed channel))
