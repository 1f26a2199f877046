-- What sends leave in a channel, and reads, and that a state stays nearly valid with it.
--     pushed_joined, drawn_joined, shut_reader_joined, shut_writer_joined      the channel is still one that there may be, with what is there
--     set_chan_nearly_valid      a nearly valid state stays so with another value of a channel
use Rattle.std.proofs.Common.{◌≡◌, ◌≢◌, inl, inr, ℕ, zero, suc, ◌+◌, ◌-◌, ◌<◌, ◌≤◌, ◌==◌, ◌&&◌, not, Bool, true, false, cond, List, [], ◌∷◌, ◌++◌, length, drop, Option, Some, None, refl, sym, ap, subst, ◌∙◌, arith}
use Rattle.std.proofs.lemmas.Bool.{leb-true, ltb-false, ltb-true}
use Rattle.std.proofs.lemmas.Bool.Decides.{eqb_tells}
use Rattle.std.proofs.lemmas.List.{length-append, length-drop}
use Rattle.std.specs.Prelude.{nat_le, nat_lt}
use Rattle.std.specs.Ordering.{nat_cmp}
use Rattle.std.specs.FinMap.{FinMap, get, insert}
use Rattle.std.specs.List.{AllByRecursion}
use Rattle.abi_types.specs.declared.descriptor.Descriptor.{Descriptor}
use Rattle.abi_types.specs.declared.open_kind.OpenKind.{OpenKind}
use Rattle.abi_types.specs.declared.open_kind.OpenKind.TheVariants.{File, Directory, End, Terminal, Process}
use Rattle.maps.specs.Maps.{get-insert-same, get-insert-other}
use Rattle.kernel_model.specs.Proper.{CarriesOn, IsCounted, IsSentBy, Sender, adds, sends_had, draws, empties}
use Rattle.kernel_model.specs.Channels.{Channel, Send, SideState, Gone, Open, Shut, HasByte, bytes_of, carried_of, coming, drawn_by, has_room, new_channel, sends_gone, is_hung, is_open, pushed, room, sends_after, shut_side, with_reader_shut, with_writer_shut}
use Rattle.kernel_model.specs.State.{State, put_one, set_chan}
use Rattle.kernel_model.specs.Valid.{HasBehind, HasReader, HasWriter, IsJoined, IsNamed, IsNearlyValid}
use Rattle.kernel_model.proofs.Channels.{all_both, all_first, all_last}
use Rattle.kernel_model.proofs.Tests.{none_is_no, not_true}
use Rattle.kernel_model.proofs.Valids.{same_value}

-- ---- one send more

bytes_both : (xs ys : List Send) → length (bytes_of (xs ++ ys)) ≡ length (bytes_of xs) + length (bytes_of ys)
bytes_both [] ys = omega arith
bytes_both (x ∷ xs) ys =
    let rest = bytes_both xs ys in
    let first = length-append x.bytes (bytes_of (xs ++ ys)) in
    let all = length-append x.bytes (bytes_of xs) in
    omega arith

pub append_all : {X : Type 0} (xs ys zs : List X) → (xs ++ ys) ++ zs ≡ xs ++ (ys ++ zs)
append_all [] ys zs = refl
append_all (x ∷ xs) ys zs = ap (λ rest. x ∷ rest) (append_all xs ys zs)

pub carried_both : (xs ys : List Send) → carried_of (xs ++ ys) ≡ carried_of xs ++ carried_of ys
carried_both [] ys = refl
carried_both (x ∷ xs) ys = ap (λ rest. x.carried ++ rest) (carried_both xs ys) ∙ sym (append_all x.carried (carried_of xs) (carried_of ys))

both_hold : (a b : Bool) → (a && b) ≡ true → (a ≡ true) × (b ≡ true)
both_hold true b h = (refl, h)
both_hold false b h = absurd (not_true h)

not_false_is : (b : Bool) → not b ≡ false → b ≡ true
not_false_is true h = refl
not_false_is false h = sym h

one_bytes : (bytes : List ℕ) (carried : List Descriptor) → length (bytes_of ((record { bytes = bytes; carried = carried }) ∷ [])) ≡ length bytes
one_bytes bytes carried = let both = length-append bytes [] in omega arith

all_none : (ds : List Descriptor) → length (ds ++ []) ≡ length ds
all_none ds = let both = length-append ds [] in omega arith

pub pushed_joined : (opens : FinMap nat_cmp OpenKind) (c : ℕ) (channel : Channel) (bytes : List ℕ) (carried : List Descriptor)
    → is_hung channel ≡ false → has_room (length carried) channel ≡ true → 0 < length bytes → length bytes ≤ room channel
    → AllByRecursion (λ (d : Descriptor). IsNamed (get opens d.id) d) carried → IsJoined opens c channel → IsJoined opens c (pushed bytes carried channel)
pushed_joined opens c channel bytes carried hung fits some within named is =
    let sides = both_hold (is_open channel.reader) (is_open channel.writer) (not_false_is _ hung) in
    let rooms = both_hold (not (room channel == 0)) (nat_le (length (carried_of channel.waiting) + length carried) 64) fits in
    let most : length (carried_of channel.waiting) + length carried ≤ 64 = leb-true _ _ rooms.1 in
    let send : Send = record { bytes = bytes; carried = carried } in
    let all_bytes = bytes_both channel.waiting (send ∷ []) in
    let own_bytes = one_bytes bytes carried in
    let sound = is.sound.bytes in
    let all_carried = ap (length {A = Descriptor}) (carried_both channel.waiting (send ∷ [])) in
    let parts = length-append (carried_of channel.waiting) (carried ++ []) in
    let own_carried = all_none carried in
    record {
      sound = record {
        whole = all_both HasByte channel.waiting (send ∷ []) is.sound.whole (some, tt);
        bytes = omega arith;
        carried = omega arith;
        read = λ shut. absurd (not_true (sym shut ∙ sides.0));
      };
      carried = subst (AllByRecursion (λ (d : Descriptor). IsNamed (get opens d.id) d)) (sym (carried_both channel.waiting (send ∷ [])))
          (all_both (λ (d : Descriptor). IsNamed (get opens d.id) d) (carried_of channel.waiting) (carried ++ []) is.carried
          (all_both (λ (d : Descriptor). IsNamed (get opens d.id) d) carried [] named tt));
      read = is.read;
      written = is.written;
    }

-- ---- bytes drawn

-- what holds of both cases of a test, each with what the test says
pub by_less : (P : Bool → Type 0) (m n : ℕ) → (m < n → P true) → (n ≤ m → P false) → P (nat_lt m n)
by_less P m n less more =
    elim (nat_lt m n) as (λ b. nat_lt m n ≡ b → P b) [ true ↦ λ e. less (ltb-true m n e) | false ↦ λ e. more (ltb-false m n e) ] refl

module _ where
  -- the sends that are left after m bytes, where the first of them lost some
  abbrev after_by : ℕ → Send → List Send → Bool → List Send
  after_by m send rest less = cond less ((record { bytes = drop m send.bytes; carried = [] }) ∷ rest) (sends_after (m - length send.bytes) rest)

  after_whole : (sends : List Send) (m : ℕ) → AllByRecursion HasByte sends → AllByRecursion HasByte (sends_after m sends)
  after_whole sends zero h = h
  after_whole [] (suc m) h = tt
  after_whole (send ∷ rest) (suc m) h =
      by_less (λ less. AllByRecursion HasByte (after_by (suc m) send rest less)) (suc m) (length send.bytes)
      (λ less. (let left = length-drop (suc m) send.bytes in omega (arith, left, less), h.1))
      (λ _. after_whole rest (suc m - length send.bytes) h.1)

  after_bytes : (sends : List Send) (m : ℕ) → length (bytes_of (sends_after m sends)) ≤ length (bytes_of sends)
  after_bytes sends zero = omega arith
  after_bytes [] (suc m) = omega arith
  after_bytes (send ∷ rest) (suc m) =
      let all = length-append send.bytes (bytes_of rest) in
      by_less (λ less. length (bytes_of (after_by (suc m) send rest less)) ≤ length (bytes_of (send ∷ rest))) (suc m) (length send.bytes)
      (λ less. let left = length-drop (suc m) send.bytes in let both = length-append (drop (suc m) send.bytes) (bytes_of rest) in omega arith)
      (λ _. let below = after_bytes rest (suc m - length send.bytes) in omega arith)

  after_carried : (sends : List Send) (m : ℕ) → length (carried_of (sends_after m sends)) ≤ length (carried_of sends)
  after_carried sends zero = omega arith
  after_carried [] (suc m) = omega arith
  after_carried (send ∷ rest) (suc m) =
      let all = length-append send.carried (carried_of rest) in
      by_less (λ less. length (carried_of (after_by (suc m) send rest less)) ≤ length (carried_of (send ∷ rest))) (suc m) (length send.bytes)
      (λ _. omega arith)
      (λ _. let below = after_carried rest (suc m - length send.bytes) in omega arith)

  -- what was carried by one of the sends that are left
  pub after_all : (P : Descriptor → Type 0) (sends : List Send) (m : ℕ) → AllByRecursion P (carried_of sends) → AllByRecursion P (carried_of (sends_after m sends))
  after_all P sends zero h = h
  after_all P [] (suc m) h = tt
  after_all P (send ∷ rest) (suc m) h =
      by_less (λ less. AllByRecursion P (carried_of (after_by (suc m) send rest less))) (suc m) (length send.bytes)
      (λ _. all_last P send.carried (carried_of rest) h) (λ _. after_all P rest (suc m - length send.bytes) (all_last P send.carried (carried_of rest) h))

  -- and what comes with the first byte
  pub coming_all : (P : Descriptor → Type 0) (sends : List Send) (m : ℕ) → AllByRecursion P (carried_of sends) → AllByRecursion P (coming m sends)
  coming_all P sends zero h = tt
  coming_all P [] (suc m) h = tt
  coming_all P (send ∷ rest) (suc m) h = all_first P send.carried (carried_of rest) h

  after_none : (sends : List Send) (m : ℕ) → sends ≡ [] → sends_after m sends ≡ []
  after_none sends zero h = h
  after_none [] (suc m) h = refl
  after_none (send ∷ rest) (suc m) h = absurd (some_is_none send rest h) where
    some_is_none : (send : Send) (rest : List Send) → send ∷ rest ≡ [] → ⊥
    some_is_none send rest e = cc

pub drawn_joined : (opens : FinMap nat_cmp OpenKind) (c : ℕ) (channel : Channel) (m : ℕ) → IsJoined opens c channel → IsJoined opens c (drawn_by m channel)
drawn_joined opens c channel m is =
    let bytes = is.sound.bytes in
    let carried = is.sound.carried in
    let fewer = after_bytes channel.waiting m in
    let less = after_carried channel.waiting m in
    record {
      sound = record {
        whole = after_whole channel.waiting m is.sound.whole;
        bytes = omega arith;
        carried = omega arith;
        read = λ shut. after_none channel.waiting m (is.sound.read shut);
      };
      carried = after_all (λ (d : Descriptor). IsNamed (get opens d.id) d) channel.waiting m is.carried;
      read = is.read;
      written = is.written;
    }

-- ---- sides shut

pub shut_stays : (side : SideState) → side ≢ Gone → shut_side side ≢ Gone
shut_stays Open h e = cc
shut_stays Shut h e = cc
shut_stays Gone h e = h refl

pub shut_gone : (side : SideState) → side ≡ Gone → shut_side side ≡ Gone
shut_gone side is = ap shut_side is

shut_was : (side : SideState) → shut_side side ≢ Gone → side ≢ Gone
shut_was Open h e = cc
shut_was Shut h e = cc
shut_was Gone h e = h refl

pub shut_reader_joined : (opens : FinMap nat_cmp OpenKind) (c : ℕ) (channel : Channel) → IsJoined opens c channel → IsJoined opens c (with_reader_shut channel)
shut_reader_joined opens c channel is = record {
  sound = record { whole = tt; bytes = omega arith; carried = omega arith; read = λ _. refl };
  carried = tt;
  read = λ still. is.read (shut_was channel.reader still);
  written = is.written;
}

pub shut_writer_joined : (opens : FinMap nat_cmp OpenKind) (c : ℕ) (channel : Channel) → IsJoined opens c channel → IsJoined opens c (with_writer_shut channel)
shut_writer_joined opens c channel is = record {
  sound = record { whole = is.sound.whole; bytes = is.sound.bytes; carried = is.sound.carried; read = is.sound.read };
  carried = is.carried;
  read = is.read;
  written = λ still. is.written (shut_was channel.writer still);
}

-- ---- another value of a channel

module _ (S : State) (c : ℕ) (old new : Channel) (there : get S.chans c ≡ Some old) where
  here_is : (e : ℕ) (channel : Channel) → e ≡ c → get S.chans e ≡ Some channel → channel ≡ old
  here_is e channel is at = same_value channel old (get S.chans c) (subst (λ k. get S.chans k ≡ Some channel) is at) there

  put_reader : (old.reader ≢ Gone → new.reader ≢ Gone) → (reads : Option ℕ) → HasReader S.chans reads → HasReader (insert S.chans c new) reads
  put_reader stays None h = h
  put_reader stays (Some e) h =
      elim (eqb_tells e c) [
        | inl is ↦ (
          new,
          ap (get (insert S.chans c new)) is.1 ∙ get-insert-same S.chans c new,
          stays (subst (λ (x : Channel). x.reader ≢ Gone) (here_is e h.0 is.1 h.1) h.2),
        )
        | inr other ↦ (h.0, get-insert-other S.chans c new e other.1 ∙ h.1, h.2)
      ]

  put_writer : (old.writer ≢ Gone → new.writer ≢ Gone) → (writes : Option ℕ) → HasWriter S.chans writes → HasWriter (insert S.chans c new) writes
  put_writer stays None h = h
  put_writer stays (Some e) h =
      elim (eqb_tells e c) [
        | inl is ↦ (
          new,
          ap (get (insert S.chans c new)) is.1 ∙ get-insert-same S.chans c new,
          stays (subst (λ (x : Channel). x.writer ≢ Gone) (here_is e h.0 is.1 h.1) h.2),
        )
        | inr other ↦ (h.0, get-insert-other S.chans c new e other.1 ∙ h.1, h.2)
      ]

  put_behind : (old.reader ≢ Gone → new.reader ≢ Gone) → (old.writer ≢ Gone → new.writer ≢ Gone) → (kind : OpenKind) → HasBehind S kind
      → HasBehind (put_one (set_chan c new) S) kind
  put_behind reader writer (File q offset flags) h = h
  put_behind reader writer (Directory q flags) h = h
  put_behind reader writer (End reads writes flags form) h = (h.0, put_reader reader reads h.1, put_writer writer writes h.2)
  put_behind reader writer (Terminal which flags) h = h
  put_behind reader writer (Process q object) h = h

  put_joined : IsJoined S.opens c new → IsNearlyValid S → (e : ℕ) (channel : Channel) → get (insert S.chans c new) e ≡ Some channel → IsJoined S.opens e channel
  put_joined joined v e channel at =
      elim (eqb_tells e c) [
        | inl is ↦ (
            let now : get (insert S.chans c new) c ≡ Some channel = subst (λ k. get (insert S.chans c new) k ≡ Some channel) is.1 at in
            let same : new ≡ channel = same_value new channel (get (insert S.chans c new) c) (get-insert-same S.chans c new) now in
            subst (λ k. IsJoined S.opens k channel) (sym is.1) (subst (IsJoined S.opens c) same joined))
        | inr other ↦ v.channels e channel (sym (get-insert-other S.chans c new e other.1) ∙ at)
      ]

  pub set_chan_nearly_valid : (old.reader ≢ Gone → new.reader ≢ Gone) → (old.writer ≢ Gone → new.writer ≢ Gone)
      → IsJoined S.opens c new → IsNearlyValid S → IsNearlyValid (put_one (set_chan c new) S)
  set_chan_nearly_valid reader writer joined v = record {
    named = v.named;
    behind = λ o kind at. put_behind reader writer kind (v.behind o kind at);
    sole = v.sole;
    tables = v.tables;
    owns = v.owns;
    numbered = v.numbered;
    made = v.made;
    made_nodes = v.made_nodes;
    made_channels = λ p k small beyond fits.
        let none = v.made_channels p k small beyond fits in
        get-insert-other S.chans c new _ (λ is. none_is_no old (sym none ∙ ap (get S.chans) is ∙ there)) ∙ none;
    born = v.born;
    tree = v.tree;
    waits = v.waits;
    channels = put_joined joined v;
  }

-- ---- how a channel goes on

pub none_more : (n : ℕ) → n ≡ n + 0
none_more n = omega arith

-- the sends that have left and those that are left are all
gone_and_left : (sends : List Send) (m : ℕ) → sends_gone m sends + length (sends_after m sends) ≡ length sends
gone_and_left sends zero = omega arith
gone_and_left [] (suc m) = omega arith
gone_and_left (send ∷ rest) (suc m) =
    by_less (λ less. cond less 0 (1 + sends_gone (suc m - length send.bytes) rest) + length (after_by (suc m) send rest less) ≡ suc (length rest))
    (suc m) (length send.bytes) (λ less. omega arith)
    (λ more. let all = gone_and_left rest (suc m - length send.bytes) in omega (arith, all))

module _ (S : State) (sender : Sender) (c : ℕ) (channel : Channel) (there : get S.chans c ≡ Some channel) where
  -- a channel that has had as many sends as before
  as_many : (new : Channel) → sends_had new ≡ sends_had channel → IsCounted sender.2 (get S.chans c) new
  as_many new same = subst (λ old. IsCounted sender.2 old new) (sym there) (inl same)

  pub same_carries : (new : Channel) → new.waiting ≡ channel.waiting → new.left ≡ channel.left → CarriesOn S sender (set_chan c new)
  same_carries new waiting left =
      (draws channel 0 there waiting (left ∙ none_more channel.left), as_many new (λ i. left i + length (waiting i)))

  pub drawn_carries : (m : ℕ) → CarriesOn S sender (set_chan c (drawn_by m channel))
  drawn_carries m = (
    draws channel m there refl refl,
    as_many (drawn_by m channel) (let all = gone_and_left channel.waiting m in omega (arith, all)),
  )

  pub pushed_carries : (bytes : List ℕ) (carried : List Descriptor) → IsSentBy sender carried × (sender.2 ≡ true)
      → CarriesOn S sender (set_chan c (pushed bytes carried channel))
  pushed_carries bytes carried sent =
      let send : Send = record { bytes = bytes; carried = carried } in
      let more = length-append channel.waiting (send ∷ []) in
      let one : sends_had (pushed bytes carried channel) ≡ suc (sends_had channel) = omega (arith, more) in (
        adds channel send there refl refl sent.0,
        subst (λ old. IsCounted sender.2 old (pushed bytes carried channel)) (sym there) (inr (sent.1, one)),
      )

  pub emptied_carries : CarriesOn S sender (set_chan c (with_reader_shut channel))
  emptied_carries = (empties refl, as_many (with_reader_shut channel) (sym (none_more (sends_had channel))))

pub new_carries : (S : State) (sender : Sender) (c : ℕ) → get S.chans c ≡ None → CarriesOn S sender (set_chan c new_channel)
new_carries S sender c none = (empties refl, subst (λ old. IsCounted sender.2 old new_channel) (sym none) (omega arith))
