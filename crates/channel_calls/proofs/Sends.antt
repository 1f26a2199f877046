-- What sends do to counts, and what they come to.
use Rattle.std.proofs.Common.{◌≡◌, ℕ, suc, ◌+◌, ◌<◌, ◌≤◌, ◌==◌, ◌⊎◌, inl, inr, Bool, true, false, cond, if◌then◌else◌, List, [], ◌∷◌, ◌++◌, length, append_assoc, length-append, get_or, take, drop, drop-cons, drop_of_length-le, set, min, Option, None, Some, IsSome, refl, sym, ap, subst, ◌∙◌, add-one, arith}
use Rattle.std.proofs.lemmas.Bool.Decides.{eqb_tells}
use Rattle.std.proofs.Math.Seq.{set-append_seam, take-append_seam}
use Rattle.std.specs.Ordering.{nat_cmp}
use Rattle.std.specs.FinMap.{FinMap, get, insert}
use Rattle.abi_types.specs.declared.descriptor.Descriptor.{Descriptor}
use Rattle.abi_types.specs.declared.reply.Reply.{Reply}
use Rattle.maps.specs.Maps.{number, weight, total-insert, total_at_least, get-insert-same, get-insert-other}
use Rattle.kernel_model.specs.Channels.{Send, Channel, Push, hung, full, sends, has_room, is_hung, push, push_if, pushed, room, most_carried}
use Rattle.kernel_model.specs.Families.ChannelCalls.{picked, added, send_on, send_to, sent_by, is_nonblocking}
use Rattle.kernel_model.specs.Outcome.{Outcome, IsSuccess}
use Rattle.kernel_model.specs.Release.{carried_in, count_carried, count_in, count_sent, names_open}
use Rattle.kernel_model.specs.State.{Table}
use Rattle.channels.specs.Channels.{IsFilled}
use Rattle.channel_calls.specs.Calls.{AreFew, Channels, carriers_in, channels_after, most_carriers, seen_in}
use Rattle.channel_calls.specs.Sends.{AreCarriable, AreHeld, CanSend, IsSent, Succeeds, outcome_of}
use Rattle.channel_calls.specs.declared.sending.Outgoing.{Outgoing}
use Rattle.channel_calls.specs.declared.sending.Sending.TheVariants.{Sent}

-- ---- counts of descriptors

pub some_of_number : (o : Option ℕ) → 0 < number o → IsSome o
some_of_number None h = absurd (omega (arith, h))
some_of_number (Some n) h = refl

-- 1 where it is so
abbrev pub one_if : Bool → ℕ
one_if b = if b then 1 else 0

names_itself : (n : ℕ) → one_if (n == n) ≡ 1
names_itself n = elim (eqb_tells n n) [ inl h ↦ ap one_if h.0 | inr h ↦ absurd (h.1 refl) ]

names_few : (b : Bool) → one_if b ≤ 1
names_few true = omega arith
names_few false = omega arith

-- no more of them name an open than there are
pub count_carried_few : (o : ℕ) (ds : List Descriptor) → count_carried o ds ≤ length ds
count_carried_few o [] = omega arith
count_carried_few o (d ∷ ds) = omega (arith, names_few (d.id == o), count_carried_few o ds)

-- none of them names the open, or its count leaves room
pub carriable_or_none : (o : ℕ) (counts : FinMap nat_cmp ℕ) (ds : List Descriptor) → AreCarriable counts ds
    → (count_carried o ds ≡ 0) ⊎ (number (get counts o) + most_carried ≤ most_carriers)
carriable_or_none o counts [] h = inl refl
carriable_or_none o counts (d ∷ ds) h =
    elim (eqb_tells d.id o) [
      | inl same ↦ inr (subst (λ x. number (get counts x) + most_carried ≤ most_carriers) same.1 h.0)
      | inr other ↦ elim (carriable_or_none o counts ds h.1) [
        | inl none ↦ inl (ap (λ b. one_if b + count_carried o ds) other.0 ∙ omega (arith, none))
        | inr room ↦ inr room
      ]
    ]

held_more : (counts : FinMap nat_cmp ℕ) (table : Table) (o : Option Descriptor) (ds : List Descriptor)
    → ((d : Descriptor) → o ≡ Some d → 0 < number (get counts d.id)) → AreHeld counts ds → AreHeld counts (added o ds)
held_more counts table None ds here rest = rest
held_more counts table (Some d) ds here rest = (here d refl, rest)

-- what stands in a table is held, where the counts cover the table
pub picked_held : (counts : FinMap nat_cmp ℕ) (table : Table) (fds : List ℕ) → ((o : ℕ) → count_in o table ≤ number (get counts o))
    → AreHeld counts (picked table fds)
picked_held counts table [] covered = tt
picked_held counts table (fd ∷ fds) covered =
    held_more counts table (get table fd) (picked table fds)
    (λ d e. omega (arith, names_itself d.id, total_at_least (names_open d.id) table fd d e, covered d.id))
    (picked_held counts table fds covered)

-- the first that is left
pub drop_at : (ds : List Descriptor) (i : ℕ) (d : Descriptor) → i < length ds → d ≡ get_or ds i d → drop i ds ≡ d ∷ drop (i + 1) ds
drop_at ds i d within is =
    drop-cons ds i d within ∙ ap (λ x. x ∷ drop (suc i) ds) (sym is) ∙ ap (λ k. d ∷ drop k ds) (sym (add-one i))

-- one holder more
pub held_once : (counts : FinMap nat_cmp ℕ) (k o : ℕ)
    → number (get (insert counts k (number (get counts k) + 1)) o) ≡ number (get counts o) + one_if (k == o)
held_once counts k o =
    elim (eqb_tells k o) [
      | inl same ↦ subst (λ x. number (get (insert counts k (number (get counts k) + 1)) x) ≡ number (get counts x) + one_if (k == x)) same.1
          (omega (arith, ap number (get-insert-same counts k (number (get counts k) + 1)), names_itself k))
      | inr other ↦
          ap number (get-insert-other counts k _ o (λ e. other.1 (sym e)))
          ∙ omega (arith, ap one_if other.0)
    ]

-- a channel that has room for so many has it for no more than may wait in it
pub room_few : (count : ℕ) (channel : Channel) → has_room count channel ≡ true → count ≤ most_carried
room_few count channel h = grind arith

-- ---- what a send carries

count_sent_more : (o : ℕ) (before : List Send) (send : Send) → count_sent o (before ++ send ∷ []) ≡ count_sent o before + count_carried o send.carried
count_sent_more o [] send = omega arith
count_sent_more o (first ∷ before) send = omega (arith, count_sent_more o before send)

channel_of : Channel → Push → Channel
channel_of default hung = default
channel_of default full = default
channel_of default (sends count channel) = channel

is_sends : Push → Bool
is_sends hung = false
is_sends full = false
is_sends (sends count channel) = true

-- a send that sends leaves the channel with one send more
pushed_if : (hangs fits : Bool) (bytes : List ℕ) (carried : List Descriptor) (channel : Channel) (count : ℕ) (new : Channel)
    → push_if hangs fits bytes carried channel ≡ sends count new → new ≡ pushed (take (room channel) bytes) carried channel
unfolding channel_of is_sends
pushed_if true fits bytes carried channel count new e = absurd (subst (λ b. cond b ⊥ (Unit {0})) (ap is_sends e) tt)
pushed_if false false bytes carried channel count new e = absurd (subst (λ b. cond b ⊥ (Unit {0})) (ap is_sends e) tt)
pushed_if false true bytes carried channel count new e = sym (ap (channel_of channel) e)

pub push_carries : (o : ℕ) (bytes : List ℕ) (carried : List Descriptor) (channel : Channel) (count : ℕ) (new : Channel)
    → push bytes carried channel ≡ sends count new → carried_in o new ≡ carried_in o channel + count_carried o carried
push_carries o bytes carried channel count new e =
    ap (carried_in o) (pushed_if (is_hung channel) (has_room (length carried) channel) bytes carried channel count new e)
    ∙ count_sent_more o channel.waiting (record { bytes = take (room channel) bytes; carried = carried })

-- the carriers once this channel is so
pub carriers_with : (o : ℕ) (channels : Channels) (c : ℕ) (old new : Channel) → get channels c ≡ Some old
    → carriers_in o (insert channels c new) + carried_in o old ≡ carriers_in o channels + carried_in o new
carriers_with o channels c old new e =
    ap (λ x. carriers_in o (insert channels c new) + weight (carried_in o) x) (sym e) ∙ total-insert (carried_in o) channels c new

pub carriers_sent : (o : ℕ) (channels : Channels) (c : ℕ) (old new : Channel) (bytes : List ℕ) (carried : List Descriptor) (count : ℕ)
    → get channels c ≡ Some old → push bytes carried old ≡ sends count new
    → carriers_in o (insert channels c new) ≡ carriers_in o channels + count_carried o carried
carriers_sent o channels c old new bytes carried count there e =
    omega (arith, carriers_with o channels c old new there, push_carries o bytes carried old count new e)

-- so many carriers are few, where the descriptors may be carried
pub few_sent : (channels new : Channels) (counts : FinMap nat_cmp ℕ) (carried : List Descriptor)
    → ((o : ℕ) → carriers_in o channels ≤ number (get counts o)) → AreCarriable counts carried → length carried ≤ most_carried
    → ((o : ℕ) → carriers_in o new ≡ carriers_in o channels + count_carried o carried) → AreFew channels → AreFew new
few_sent channels new counts carried covered carriable short more few o =
    elim (carriable_or_none o counts carried carriable) [
      | inl none ↦ omega (arith, more o, none, few o)
      | inr room ↦ omega (arith, more o, room, covered o, count_carried_few o carried, short)
    ]

-- ---- what a send comes to

outcome_to : (reply : ℕ → Reply) (channels : Channels) (end : Outgoing) (bytes : List ℕ) (carried : List Descriptor) (c : ℕ)
    → 0 < length bytes → end.writes ≡ Some c
    → outcome_of reply channels end bytes carried ≡ send_to reply (is_nonblocking end.flags) bytes carried c (get channels c)
outcome_to reply channels end [] carried c some to = absurd (omega (arith, some))
outcome_to reply channels end (b ∷ bytes) carried c some to =
    ap (λ w. send_on reply (seen_in channels) end.flags (b ∷ bytes) carried w) to

outcome_at : (reply : ℕ → Reply) (channels : Channels) (end : Outgoing) (bytes : List ℕ) (carried : List Descriptor) (c : ℕ)
    → (can : CanSend channels end bytes (length carried) c)
    → outcome_of reply channels end bytes carried ≡ sent_by reply (is_nonblocking end.flags) c (push bytes carried can.channel)
outcome_at reply channels end bytes carried c can =
    outcome_to reply channels end bytes carried c can.some can.to
    ∙ ap (send_to reply (is_nonblocking end.flags) bytes carried c) can.there

-- the send succeeds
pub can_succeed : (channels : Channels) (end : Outgoing) (bytes : List ℕ) (carried : List Descriptor) (c : ℕ)
    → CanSend channels end bytes (length carried) c → Succeeds channels end bytes carried
can_succeed channels end bytes carried c can reply good =
    let goes : push bytes carried can.channel ≡ push_if false true bytes carried can.channel =
    λ i. push_if (can.unhung i) (can.room i) bytes carried can.channel in
    subst (λ (outcome : Outcome). IsSuccess outcome.answer)
    (sym (outcome_at reply channels end bytes carried c can ∙ ap (sent_by reply (is_nonblocking end.flags) c) goes))
    (good (min (length bytes) (room can.channel)))

-- the answer is how many bytes were sent, and the channel is left so
pub is_sent : (channels : Channels) (end : Outgoing) (bytes : List ℕ) (carried : List Descriptor) (c : ℕ)
    → (can : CanSend channels end bytes (length carried) c) (count : ℕ) (new : Channel)
    → push bytes carried can.channel ≡ sends count new → IsSent channels (insert channels c new) end bytes carried (Sent count)
is_sent channels end bytes carried c can count new e reply =
    let comes : outcome_of reply channels end bytes carried ≡ sent_by reply (is_nonblocking end.flags) c (sends count new) =
    outcome_at reply channels end bytes carried c can ∙ ap (sent_by reply (is_nonblocking end.flags) c) e in (
      ap (λ (outcome : Outcome). outcome.answer) (sym comes),
      ap (λ (outcome : Outcome). channels_after outcome.updates channels) (sym comes),
    )

-- ---- descriptors that are copied to a buffer

-- the buffer with these at its place k and behind it, as far as it has places
abbrev pub put_all : ℕ → List Descriptor → List Descriptor → List Descriptor
put_all k [] out = out
put_all k (d ∷ ds) out = put_all (k + 1) ds (set out k d)

put_behind : (before ds rest : List Descriptor) → length ds ≤ length rest
    → put_all (length before) ds (before ++ rest) ≡ before ++ (ds ++ drop (length ds) rest)
put_behind before [] rest fits = refl
put_behind before (d ∷ ds) [] fits = absurd (omega (arith, fits))
put_behind before (d ∷ ds) (r ∷ rest) fits =
    ap (put_all (length before + 1) ds) (set-append_seam before r rest d ∙ sym (append_assoc before (d ∷ []) rest))
    ∙ ap (λ k. put_all k ds ((before ++ d ∷ []) ++ rest)) (sym (length-append before (d ∷ [])))
    ∙ put_behind (before ++ d ∷ []) ds rest (omega (arith, fits))
    ∙ append_assoc before (d ∷ []) (ds ++ drop (length ds) rest)

-- they stand at its beginning
pub put_at_start : (ds out : List Descriptor) → length ds ≤ length out → IsFilled ds out (put_all 0 ds out)
put_at_start ds out fits = put_behind [] ds out fits

-- a buffer's beginning, where these stand
pub take_filled : (n : ℕ) (ds out new : List Descriptor) → n ≡ length ds → IsFilled ds out new → take n new ≡ ds
take_filled n ds out new count filled = ap (λ k. take k new) count ∙ ap (take (length ds)) filled ∙ take-append_seam ds (drop (length ds) out)

-- none of the numbers is left
pub none_left : (table : Table) (fds : List ℕ) (i : ℕ) → length fds ≤ i → picked table (drop i fds) ≡ []
none_left table fds i past = ap (picked table) (drop_of_length-le fds past)
