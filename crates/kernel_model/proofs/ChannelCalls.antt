-- What calls do on ends of channels.
--     Ends      what is shown of each outcome on an end
--     send_ends, read_ends      sends and reads are so
--     send_reads, read_end_reads      they see no more than stands behind the end
--     send_parks, read_parks      where they wait they wait at each other moment
use Rattle.std.proofs.Common.{◌≡◌, ◌≢◌, inl, inr, ℕ, suc, ◌<◌, ◌≤◌, ◌==◌, ◌&&◌, ◌||◌, not, Bool, true, false, min, List, [], ◌∷◌, ◌++◌, length, take, Option, Some, None, refl, ap, ◌∙◌, arith}
use Rattle.std.proofs.lemmas.Bool.{eq-eqb}
use Rattle.std.proofs.lemmas.Bool.Decides.{eqb_tells}
use Rattle.std.proofs.lemmas.List.{length-take}
use Rattle.std.proofs.Math.Nat.{min-le_left}
use Rattle.std.specs.Prelude.{⊤}
use Rattle.std.specs.FinMap.{get}
use Rattle.std.specs.List.{AllByRecursion}
use Rattle.abi_base.specs.declared.errno.Errno.{Errno}
use Rattle.abi_base.specs.declared.errno.Errno.TheVariants.{Again, Badf, Pipe, Success}
use Rattle.abi_types.specs.declared.chan_kind.ChanKind.{ChanKind}
use Rattle.abi_types.specs.declared.descriptor.Descriptor.{Descriptor}
use Rattle.abi_types.specs.declared.open_kind.OpenKind.{OpenKind}
use Rattle.abi_types.specs.declared.open_kind.OpenKind.TheVariants.{End}
use Rattle.abi_types.specs.declared.reply.Reply.{Reply}
use Rattle.kernel_model.specs.Channels.{Channel, has_room, is_hung, must_wait, pull, push_if, reach, room}
use Rattle.kernel_model.specs.Families.ChannelCalls.{is_nonblocking, read_end, read_from, read_if, send_on, send_to, sent_by, waits_unless}
use Rattle.kernel_model.specs.Outcome.{Outcome, is_parked, replies}
use Rattle.kernel_model.specs.Proper.{AllCarryOn, IsIn, IsPlain, IsSentBy, IsUnset, OrWaits, Sender, nothing_set}
use Rattle.kernel_model.specs.Reply.{refused}
use Rattle.kernel_model.specs.Sight.{process_parts, behind, channel_part}
use Rattle.kernel_model.specs.State.{ProcessState, State, Part, at_chan, at_open, has_part, put_all}
use Rattle.kernel_model.specs.Valid.{IsNamed, IsNearlyValid}
use Rattle.kernel_model.specs.View.{View, only, restrict, whole}
use Rattle.kernel_model.proofs.Branches.{seen_parts}
use Rattle.kernel_model.proofs.ChannelChanges.{drawn_carries, drawn_joined, pushed_carries, pushed_joined, set_chan_nearly_valid}
use Rattle.kernel_model.proofs.OpenMeanings.{AreOfNoProcess}
use Rattle.kernel_model.proofs.Parts.{has_left, has_right}

-- ---- what is shown

-- of an outcome for the open of number o: of a state that is seen so, with that open, where Q holds, and of a sender of which R does
pub record Ends (Q : State → Type 0) (R : Sender → Type 0) (errors : List Errno) (touched : List Part) (v : View) (o : ℕ) (kind : Option OpenKind)
    (outcome : Outcome) : Type 0 where
  pub apart : AreOfNoProcess outcome.updates
  pub sets : (q : Part) → has_part touched q ≡ false → IsUnset outcome q
  pub plain : (p : ℕ) (own : Option ProcessState) → OrWaits true p own outcome (IsPlain errors outcome)
  pub carries : (S : State) → whole S ≡ v → (sender : Sender) → R sender → AllCarryOn S sender outcome
  pub valid : (S : State) → whole S ≡ v → get S.opens o ≡ kind → IsNearlyValid S → Q S → IsNearlyValid (put_all outcome.updates S)

-- whatever is counted, the reply is that the call is done
abbrev pub RepliesWell : (ℕ → Reply) → Type 0
RepliesWell reply = (count : ℕ) → ((reply count).denial ≡ None) × ((reply count).errno ≡ Success)

module _ (Q : State → Type 0) (R : Sender → Type 0) (errors : List Errno) (touched : List Part) (v : View) (o : ℕ) (kind : Option OpenKind) where
  pub ends_refused : (errno : Errno) → IsIn errno errors → Ends Q R errors touched v o kind (replies (refused errno))
  ends_refused errno here =
      record { apart = tt; sets = λ q h. refl; plain = λ p own. inr (refl, inr (refl, here)); carries = λ S seen sender holds. tt; valid = λ S seen there nearly fits. nearly }

  pub ends_reply : (reply : Reply) → reply.denial ≡ None → reply.errno ≡ Success → Ends Q R errors touched v o kind (replies reply)
  ends_reply reply plain success =
      record { apart = tt; sets = λ q h. refl; plain = λ p own. inr (plain, inl success); carries = λ S seen sender holds. tt; valid = λ S seen there nearly fits. nearly }

  pub ends_waiting : IsIn Again errors → (nonblocking : Bool) → Ends Q R errors touched v o kind (waits_unless nonblocking)
  ends_waiting again true = ends_refused Again again
  ends_waiting again false =
      record { apart = tt; sets = λ q h. refl; plain = λ p own. inl (refl, nothing_set refl refl); carries = λ S seen sender holds. tt; valid = λ S seen there nearly fits. nearly }

-- ---- sending

-- the descriptors are named in the state
abbrev pub AreNamed : List Descriptor → State → Type 0
AreNamed carried S = AllByRecursion (λ (d : Descriptor). IsNamed (get S.opens d.id) d) carried

-- the descriptors are sent, by a call that sends
abbrev pub AreIn : List Descriptor → Sender → Type 0
AreIn carried sender = IsSentBy sender carried × (sender.2 ≡ true)

-- where there is room for a byte, a byte at least is sent
some_sent : (b : ℕ) (bytes : List ℕ) (space : ℕ) → (not (space == 0)) ≡ true → 0 < length (take space (b ∷ bytes))
some_sent b bytes space some =
    elim (eqb_tells space 0) [
      | inl is ↦ absurd (not_itself (space == 0) is.0 some)
      | inr other ↦ (
          let all = length-take space (b ∷ bytes) in
          let least = least_one space (length bytes) other.1 in
          omega (arith, all, least))
    ] where
      not_itself : (b : Bool) → b ≡ true → not b ≡ true → ⊥
      not_itself true h k = cc
      not_itself false h k = cc

      least_one : (space n : ℕ) → space ≢ 0 → 0 < min space (suc n)
      least_one space n other = omega (arith, other)

within_room : (space : ℕ) (bytes : List ℕ) → length (take space bytes) ≤ space
within_room space bytes =
    let all = length-take space bytes in
    let most = min-le_left space (length bytes) in
    omega (arith, all, most)

first_true : (a b : Bool) → (a && b) ≡ true → a ≡ true
first_true true b h = refl
first_true false b h = cc

module _ (reply : ℕ → Reply) (well : RepliesWell reply) (errors : List Errno) (badf : IsIn Badf errors) (again : IsIn Again errors) (pipe : IsIn Pipe errors)
    (v : View) (o : ℕ) (kind : Option OpenKind) (c b : ℕ) (bytes : List ℕ) (carried : List Descriptor) (nonblocking : Bool) where
  push_ends : (channel : Channel) → v.channel c ≡ Some channel → (hangs fits : Bool) → is_hung channel ≡ hangs → has_room (length carried) channel ≡ fits
      → Ends (AreNamed carried) (AreIn carried) errors (at_chan c ∷ []) v o kind (sent_by reply nonblocking c (push_if hangs fits (b ∷ bytes) carried channel))
  push_ends channel is true fits hangs room_is = ends_refused _ _ _ _ _ _ _ Pipe pipe
  push_ends channel is false false hangs room_is = ends_waiting _ _ _ _ _ _ _ again nonblocking
  push_ends channel is false true hangs room_is = record {
    apart = (tt, tt);
    sets = λ q h. h;
    plain = λ p own. inr ((well (min (length (b ∷ bytes)) (room channel))).0, inl (well (min (length (b ∷ bytes)) (room channel))).1);
    carries = λ S seen sender held.
        let at : get S.chans c ≡ Some channel = ap (λ (x : View). x.channel c) seen ∙ is in
        (pushed_carries S sender c channel at (take (room channel) (b ∷ bytes)) carried held, tt);
    valid = λ S seen there nearly named.
        let at : get S.chans c ≡ Some channel = ap (λ (x : View). x.channel c) seen ∙ is in
        set_chan_nearly_valid S c channel _ at (λ h. h) (λ h. h)
        (pushed_joined S.opens c channel (take (room channel) (b ∷ bytes)) carried hangs room_is
        (some_sent b bytes (room channel) (first_true _ _ room_is)) (within_room (room channel) (b ∷ bytes)) named (nearly.channels c channel at))
        nearly;
  }

  to_ends : (channel : Option Channel) → v.channel c ≡ channel
      → Ends (AreNamed carried) (AreIn carried) errors (at_chan c ∷ []) v o kind (send_to reply nonblocking (b ∷ bytes) carried c channel)
  to_ends None is = ends_refused _ _ _ _ _ _ _ Badf badf
  to_ends (Some channel) is = push_ends channel is (is_hung channel) (has_room (length carried) channel) refl refl

pub send_ends : (reply : ℕ → Reply) → RepliesWell reply → (errors : List Errno) → IsIn Badf errors → IsIn Again errors → IsIn Pipe errors → (v : View) (o : ℕ)
    (bytes : List ℕ) (carried : List Descriptor) (reads writes : Option ℕ) (flags : ℕ) (form : ChanKind)
    → Ends (AreNamed carried) (AreIn carried) errors (channel_part writes) v o (Some (End reads writes flags form)) (send_on reply v flags bytes carried writes)
send_ends reply well errors badf again pipe v o [] carried reads writes flags form = ends_reply _ _ _ _ _ _ _ (reply 0) (well 0).0 (well 0).1
send_ends reply well errors badf again pipe v o (b ∷ bytes) carried reads None flags form = ends_refused _ _ _ _ _ _ _ Badf badf
send_ends reply well errors badf again pipe v o (b ∷ bytes) carried reads (Some c) flags form =
    to_ends reply well errors badf again pipe v o (Some (End reads (Some c) flags form)) c b bytes carried (is_nonblocking flags) (v.channel c) refl

-- ---- what is seen of an end

seen_where : {X : Type 0} (b : Bool) (x : Option X) → b ≡ true → only b x ≡ x
seen_where b x h = ap (λ t. only t x) h

here : (c : ℕ) → has_part (channel_part (Some c)) (at_chan c) ≡ true
here c = ap (λ b. b || false) (eq-eqb c c refl)

module _ (S : State) (p o : ℕ) where
  behind_seen : (kind : Option OpenKind) (q : Part) → has_part (behind S kind) q ≡ true → has_part (seen_parts S p o kind) q ≡ true
  behind_seen kind q h =
      has_right (process_parts p) (at_open o ∷ (behind S kind ++ [])) q
      (has_right (at_open o ∷ []) (behind S kind ++ []) q (has_left (behind S kind) [] q h))

  -- the channel that an end reads, and the one that it writes, are seen
  pub reader_seen : (c : ℕ) (writes : Option ℕ) (flags : ℕ) (form : ChanKind)
      → (restrict S (seen_parts S p o (Some (End (Some c) writes flags form)))).channel c ≡ get S.chans c
  reader_seen c writes flags form =
      seen_where _ (get S.chans c) (behind_seen (Some (End (Some c) writes flags form)) (at_chan c)
      (has_left (channel_part (Some c)) (channel_part writes) (at_chan c) (here c)))

  pub writer_seen : (reads : Option ℕ) (c flags : ℕ) (form : ChanKind)
      → (restrict S (seen_parts S p o (Some (End reads (Some c) flags form)))).channel c ≡ get S.chans c
  writer_seen reads c flags form =
      seen_where _ (get S.chans c) (behind_seen (Some (End reads (Some c) flags form)) (at_chan c)
      (has_right (channel_part reads) (channel_part (Some c)) (at_chan c) (here c)))

pub send_reads : (reply : ℕ → Reply) (S : State) (p o : ℕ) (bytes : List ℕ) (carried : List Descriptor) (reads writes : Option ℕ) (flags : ℕ) (form : ChanKind)
    → send_on reply (restrict S (seen_parts S p o (Some (End reads writes flags form)))) flags bytes carried writes
    ≡ send_on reply (whole S) flags bytes carried writes
send_reads reply S p o [] carried reads writes flags form = refl
send_reads reply S p o (b ∷ bytes) carried reads None flags form = refl
send_reads reply S p o (b ∷ bytes) carried reads (Some c) flags form =
    ap (send_to reply (is_nonblocking flags) (b ∷ bytes) carried c) (writer_seen S p o reads c flags form)

pub send_parks : (reply : ℕ → Reply) (v : View) (clock flags : ℕ) (bytes : List ℕ) (carried : List Descriptor) (writes : Option ℕ)
    → is_parked (send_on reply v flags bytes carried writes).answer ≡ true
    → is_parked (send_on reply (record v { clock = clock }) flags bytes carried writes).answer ≡ true
send_parks reply v clock flags [] carried writes h = h
send_parks reply v clock flags (b ∷ bytes) carried None h = h
send_parks reply v clock flags (b ∷ bytes) carried (Some c) h = h

pub written_end_seen : (S : State) (reads writes : Option ℕ) (flags : ℕ) (form : ChanKind) (q : Part) → has_part (channel_part writes) q ≡ true
    → has_part (behind S (Some (End reads writes flags form))) q ≡ true
written_end_seen S reads writes flags form q h = has_right (channel_part reads) (channel_part writes) q h

pub read_end_seen : (S : State) (reads writes : Option ℕ) (flags : ℕ) (form : ChanKind) (q : Part) → has_part (channel_part reads) q ≡ true
    → has_part (behind S (Some (End reads writes flags form))) q ≡ true
read_end_seen S reads writes flags form q h = has_left (channel_part reads) (channel_part writes) q h

-- ---- reading

module _ (errors : List Errno) (badf : IsIn Badf errors) (again : IsIn Again errors) (v : View) (o n : ℕ) where
  pull_ends : (kind : Option OpenKind) (c : ℕ) (nonblocking : Bool) (channel : Channel) → v.channel c ≡ Some channel → (waits : Bool)
      → Ends (λ S. ⊤) (λ sender. ⊤) errors (at_chan c ∷ []) v o kind (read_if waits nonblocking c (pull n channel))
  pull_ends kind c nonblocking channel is true = ends_waiting _ _ _ _ _ _ _ again nonblocking
  pull_ends kind c nonblocking channel is false = record {
    apart = (tt, tt);
    sets = λ q h. h;
    plain = λ p own. inr (refl, inl refl);
    carries = λ S seen sender _.
        let at : get S.chans c ≡ Some channel = ap (λ (x : View). x.channel c) seen ∙ is in
        (drawn_carries S sender c channel at (min n (reach channel.waiting)), tt);
    valid = λ S seen there nearly _.
        let at : get S.chans c ≡ Some channel = ap (λ (x : View). x.channel c) seen ∙ is in
        set_chan_nearly_valid S c channel _ at (λ h. h) (λ h. h)
        (drawn_joined S.opens c channel (min n (reach channel.waiting)) (nearly.channels c channel at)) nearly;
  }

  from_ends : (kind : Option OpenKind) (c : ℕ) (nonblocking : Bool) (channel : Option Channel) → v.channel c ≡ channel
      → Ends (λ S. ⊤) (λ sender. ⊤) errors (at_chan c ∷ []) v o kind (read_from n nonblocking c channel)
  from_ends kind c nonblocking None is = ends_refused _ _ _ _ _ _ _ Badf badf
  from_ends kind c nonblocking (Some channel) is = pull_ends kind c nonblocking channel is (must_wait n channel)

  pub read_ends : (reads writes : Option ℕ) (flags : ℕ) (form : ChanKind)
      → Ends (λ S. ⊤) (λ sender. ⊤) errors (channel_part reads) v o (Some (End reads writes flags form)) (read_end v n flags reads)
  read_ends None writes flags form = ends_refused _ _ _ _ _ _ _ Badf badf
  read_ends (Some c) writes flags form = from_ends (Some (End (Some c) writes flags form)) c (is_nonblocking flags) (v.channel c) refl

pub read_end_reads : (S : State) (p o n : ℕ) (reads writes : Option ℕ) (flags : ℕ) (form : ChanKind)
    → read_end (restrict S (seen_parts S p o (Some (End reads writes flags form)))) n flags reads ≡ read_end (whole S) n flags reads
read_end_reads S p o n None writes flags form = refl
read_end_reads S p o n (Some c) writes flags form = ap (read_from n (is_nonblocking flags) c) (reader_seen S p o c writes flags form)

pub read_parks : (v : View) (clock n flags : ℕ) (reads : Option ℕ) → is_parked (read_end v n flags reads).answer ≡ true
    → is_parked (read_end (record v { clock = clock }) n flags reads).answer ≡ true
read_parks v clock n flags None h = h
read_parks v clock n flags (Some c) h = h
