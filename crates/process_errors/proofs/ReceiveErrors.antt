-- What a sock_recv comes to.
use Rattle.std.proofs.Common.{◌≡◌, ◌≢◌, ◌⊎◌, inl, inr, ℕ, zero, suc, ◌+◌, ◌<◌, ◌≤◌, ◌==◌, ◌&&◌, ◌||◌, not, min, Bool, true, false, List, [], ◌∷◌, length, take, Option, Some, None, refl, sym, ap, subst, ◌∙◌, arith}
use Rattle.std.proofs.lemmas.Bool.{eq-eqb, lt-ltb, ltb-true}
use Rattle.std.proofs.lemmas.Bool.Decides.{eqb_tells}
use Rattle.std.proofs.lemmas.List.{length-take}
use Rattle.std.specs.Prelude.{bit_and, nat_lt}
use Rattle.std.specs.FinMap.{get}
use Rattle.std.specs.List.{AllByRecursion}
use Rattle.abi_base.specs.declared.errno.Errno.TheVariants.{Notsock}
use Rattle.abi_types.specs.declared.call.Call.TheVariants.{SockRecv}
use Rattle.abi_types.specs.declared.constants.Constants.{Constants}
use Rattle.abi_types.specs.declared.descriptor.Descriptor.{Descriptor}
use Rattle.abi_types.specs.declared.open_kind.OpenKind.{OpenKind}
use Rattle.abi_types.specs.declared.open_kind.OpenKind.TheVariants.{File, Directory, End, Terminal, Process}
use Rattle.abi_types.specs.declared.who.Who.{Who}
use Rattle.kernel_model.specs.Channels.{Channel, HasByte, IsChannel, Send, bytes_of, coming, is_bounded, is_hung, is_none, must_wait, must_wait_for_all, plain_reach, pull, reach, some_carries}
use Rattle.kernel_model.specs.Families.ChannelCalls.{Installed, install, is_nonblocking, must_wait_by, peeks, receive_from, receive_open, received_if, received_with, truncated, waits_for_all}
use Rattle.kernel_model.specs.Families.OpenMeaning.{at_descriptor}
use Rattle.kernel_model.specs.State.{ProcessState, State, Table}
use Rattle.kernel_model.specs.Step.{step_answer, tick}
use Rattle.kernel_model.specs.View.{View, whole}
use Rattle.kernel_model.proofs.Reaches.{all_met}
use Rattle.kernel_model.proofs.Tests.{either_true, not_true}
use Rattle.process_errors.specs.ChannelErrors.{AreOpen, FindsTooFew, IsSocket, IsUnbounded, Looks, MustWait, ReceiveComesTo, ReceiveIsListed, awaits_bytes, brought, looked, no_bytes, no_numbers, no_socket, received}
use Rattle.process_errors.specs.FreeNumbers.{free_within}
use Rattle.process_errors.specs.Verdicts.{Verdict, fails, verdict_of, IsOpenOn, IsUnrefused}
use Rattle.process_errors.proofs.ChannelErrors.{nothing_is, something_is}
use Rattle.process_errors.proofs.Ends.{IsOther, open_is, opened_on, reader_there, hung_is, sides_or, socket_or, sound_channel, waits_or}
use Rattle.process_errors.proofs.FreeNumbers.{install_none, install_some}
use Rattle.process_errors.proofs.Tables.{answer_is, below, listed, same_or}

-- ---- whether it can go on

both_hold : (a b : Bool) → (a && b) ≡ true → (a ≡ true) × (b ≡ true)
both_hold true b h = (refl, h)
both_hold false b h = absurd (not_true h)

not_is : (b : Bool) → not b ≡ true → b ≡ false
not_is true h = absurd (not_true h)
not_is false h = refl

none_is : (ds : List Descriptor) → is_none ds ≡ true → ds ≡ []
none_is [] h = refl
none_is (d ∷ ds) h = absurd (not_true h)

none_carry : (sends : List Send) → AllByRecursion (λ (send : Send). send.carried ≡ []) sends → some_carries sends ≡ false
none_carry [] all = refl
none_carry (send ∷ rest) all = λ i. not (is_none (all.0 i)) || none_carry rest all.1 i

all_plain : (sends : List Send) → some_carries sends ≡ false → AllByRecursion (λ (send : Send). send.carried ≡ []) sends
all_plain [] none = tt
all_plain (send ∷ rest) none = by (is_none send.carried) refl none (all_plain rest) where
  by : (b : Bool) → is_none send.carried ≡ b → (not b || some_carries rest) ≡ false
      → (some_carries rest ≡ false → AllByRecursion (λ (send : Send). send.carried ≡ []) rest)
      → AllByRecursion (λ (send : Send). send.carried ≡ []) (send ∷ rest)
  by true is none more = (none_is send.carried is, more none)
  by false isnt none more = absurd (not_true (sym none))

unbounded_is : (waiting : List Send) → IsUnbounded waiting → is_bounded waiting ≡ false
unbounded_is [] is = refl
unbounded_is (first ∷ rest) is = none_carry rest is

is_unbounded : (waiting : List Send) → is_bounded waiting ≡ false → IsUnbounded waiting
is_unbounded [] isnt = tt
is_unbounded (first ∷ rest) isnt = all_plain rest isnt

set_is : (flags bit : ℕ) → bit_and flags bit ≢ 0 → not (bit_and flags bit == 0) ≡ true
set_is flags bit some = elim (eqb_tells (bit_and flags bit) 0) [ inl none ↦ absurd (some none.1) | inr other ↦ ap not other.0 ]

is_set : (flags bit : ℕ) → not (bit_and flags bit == 0) ≡ true → bit_and flags bit ≢ 0
is_set flags bit is none = not_true (sym (ap not (eq-eqb (bit_and flags bit) 0 none)) ∙ is)

unset_is : (flags bit : ℕ) → ¬ (bit_and flags bit ≢ 0) → not (bit_and flags bit == 0) ≡ false
unset_is flags bit isnt = elim (same_or (bit_and flags bit) 0) [ inl none ↦ ap not (eq-eqb (bit_and flags bit) 0 none) | inr some ↦ absurd (isnt some) ]

true_or : (a b : Bool) → (a ≡ true) ⊎ (b ≡ true) → (a || b) ≡ true
true_or true b some = refl
true_or false b (inl is) = absurd (not_true is)
true_or false b (inr is) = is

module _ (n flags : ℕ) (channel : Channel) (sound : IsChannel channel) where
  few_is : FindsTooFew n channel → must_wait_for_all n channel ≡ true
  few_is finds =
      λ i. lt-ltb (length (bytes_of channel.waiting)) n finds.0 i
      && (not (unbounded_is channel.waiting finds.2 i) && not (open_is channel finds.1 i))

  is_few : must_wait_for_all n channel ≡ true → FindsTooFew n channel
  is_few must =
      let first = both_hold (nat_lt (length (bytes_of channel.waiting)) n) (not (is_bounded channel.waiting) && not (is_hung channel)) must in
      let second = both_hold (not (is_bounded channel.waiting)) (not (is_hung channel)) first.1 in (
        ltb-true (length (bytes_of channel.waiting)) n first.0,
        still_open,
        is_unbounded channel.waiting (not_is (is_bounded channel.waiting) second.0),
      ) where
        still_open : AreOpen channel
        still_open = elim (sides_or channel) [
          | inl is ↦ is
          | inr isnt ↦ absurd (not_true (sym (ap not (hung_is channel isnt)) ∙ (both_hold (not (is_bounded channel.waiting)) (not (is_hung channel))
              (both_hold (nat_lt (length (bytes_of channel.waiting)) n) (not (is_bounded channel.waiting) && not (is_hung channel)) must).1).1))
        ]

  must_is : MustWait n flags channel → must_wait_by flags n channel ≡ true
  must_is must =
      true_or (must_wait n channel) (waits_for_all flags && must_wait_for_all n channel) (elim must [
        | inl finds ↦ inl (nothing_is n channel sound finds)
        | inr all ↦ inr (λ i. set_is flags 16 all.0 i && few_is all.1 i)
      ])

  is_must : must_wait_by flags n channel ≡ true → MustWait n flags channel
  is_must must =
      elim (either_true (must_wait n channel) (waits_for_all flags && must_wait_for_all n channel) must) [
        | inl finds ↦ inl (something_is n channel sound finds)
        | inr all ↦ (
            let both = both_hold (waits_for_all flags) (must_wait_for_all n channel) all in
            inr (is_set flags 16 both.0, is_few both.1))
      ]

  must_or : MustWait n flags channel ⊎ (¬ MustWait n flags channel)
  must_or =
      elim (must_wait_by flags n channel) as (λ b. must_wait_by flags n channel ≡ b → MustWait n flags channel ⊎ (¬ MustWait n flags channel)) [
        | true ↦ λ is. inl (is_must is)
        | false ↦ λ isnt. inr (λ must. not_true (sym isnt ∙ must_is must))
      ] refl

  goes_on : ¬ MustWait n flags channel → must_wait_by flags n channel ≡ false
  goes_on isnt =
      elim (must_wait_by flags n channel) as (λ b. must_wait_by flags n channel ≡ b → b ≡ false) [
        | true ↦ λ is. absurd (isnt (is_must is))
        | false ↦ λ _. refl
      ] refl

-- ---- how many descriptors come

some_come : (m : ℕ) (first : Send) (rest : List Send) → 0 < m → coming m (first ∷ rest) ≡ first.carried
some_come zero first rest some = absurd (omega (arith, some))
some_come (suc m) first rest some = refl

none_come : (m : ℕ) → coming m [] ≡ []
none_come zero = refl
none_come (suc m) = refl

brought_is : (n room : ℕ) (waiting : List Send) → AllByRecursion HasByte waiting
    → brought n room waiting ≡ length (take room (coming (min n (reach waiting)) waiting))
brought_is zero room waiting whole =
    let none : min 0 (reach waiting) ≡ 0 = omega arith in
    sym (ap (λ m. length (take room (coming m waiting))) none ∙ length-take room [] ∙ zero_min) where
      zero_min : min room (length {A = Descriptor} []) ≡ 0
      zero_min = omega arith
brought_is (suc n) room [] whole =
    sym (ap (λ ds. length (take room ds)) (none_come (min (suc n) 0)) ∙ length-take room [] ∙ zero_min) where
      zero_min : min room (length {A = Descriptor} []) ≡ 0
      zero_min = omega arith
brought_is (suc n) room (first ∷ rest) whole =
    let byte : 0 < length first.bytes = whole.0 in
    sym (ap (λ ds. length (take room ds)) (some_come (min (suc n) (length first.bytes + plain_reach rest)) first rest (omega (arith, byte)))
    ∙ length-take room first.carried)

-- ---- what it comes to

receive_other : (p : ℕ) (table : Table) (v : View) (n room flags : ℕ) (kind : OpenKind) → IsOther kind
    → fails Notsock ≡ verdict_of (receive_open p table v n room flags (Some kind)).answer
receive_other p table v n room flags (File node offset mode) other = refl
receive_other p table v n room flags (Directory node mode) other = refl
receive_other p table v n room flags (End None writes mode form) other = refl
receive_other p table v n room flags (End (Some r) None mode form) other = refl
receive_other p table v n room flags (End (Some r) (Some w) mode form) other = absurd (other r w mode form refl)
receive_other p table v n room flags (Terminal which mode) other = refl
receive_other p table v n room flags (Process q object) other = refl

module _ (constants : Constants) (S : State) (who : Who) (fd n room flags : ℕ) (table : Table) (own : ProcessState)
    (unrefused : IsUnrefused S who (SockRecv fd n room flags) table own) where
  received_as : (kind : OpenKind) → IsOpenOn S table fd kind
      → (receive_open who.pid table (whole (tick S)) n room flags (Some kind)).answer ≡ step_answer constants S who (SockRecv fd n room flags)
  received_as kind opened =
      sym (answer_is constants S who (SockRecv fd n room flags) table own unrefused
      ∙ ap (λ d. (at_descriptor (λ o. receive_open who.pid table (whole (tick S)) n room flags) (whole (tick S)) d).answer) opened.1
      ∙ ap (λ kind. (receive_open who.pid table (whole (tick S)) n room flags kind).answer) opened.2)

  -- of a socket, by the tests
  by_tests : (r w mode : ℕ) (channel : Channel) → IsSocket S table fd r w mode → get S.chans r ≡ Some channel → (must quick looks : Bool)
      → must_wait_by flags n channel ≡ must → is_nonblocking mode ≡ quick → peeks flags ≡ looks
      → verdict_of (received_if must quick looks who.pid table room r (pull n channel)).answer
      ≡ verdict_of (step_answer constants S who (SockRecv fd n room flags))
  by_tests r w mode channel socket there must quick looks is_must_wait is_quick is_looking =
      ap verdict_of (sym (λ i. (received_if (is_must_wait i) (is_quick i) (is_looking i) who.pid table room r (pull n channel)).answer)
      ∙ ap (λ x. (receive_from who.pid table n room flags (is_nonblocking mode) r x).answer) (sym there)
      ∙ received_as (End (Some r) (Some w) mode socket.0) socket.1)

  -- the descriptors that come are installed, or not
  by_install : (r : ℕ) (channel : Channel) (o : Option Installed) → install table (take room (pull n channel).carried) ≡ o
      → verdict_of (received_with who.pid r (pull n channel).bytes (truncated room (pull n channel).carried) (pull n channel).rest o).answer
      ≡ verdict_of (received_if false false false who.pid table room r (pull n channel)).answer
  by_install r channel o is =
      ap (λ x. verdict_of (received_with who.pid r (pull n channel).bytes (truncated room (pull n channel).carried) (pull n channel).rest x).answer) (sym is)

  quick_or : (r w mode : ℕ) (channel : Channel) → IsSocket S table fd r w mode → get S.chans r ≡ Some channel → ¬ MustWait n flags channel → ¬ Looks flags
      → verdict_of (received_if false false false who.pid table room r (pull n channel)).answer
      ≡ verdict_of (step_answer constants S who (SockRecv fd n room flags))
  quick_or r w mode channel socket there isnt blind =
      by_tests r w mode channel socket there false (is_nonblocking mode) false
      (goes_on n flags channel (sound_channel S unrefused.valid r channel there) isnt) refl (unset_is flags 4 blind)

  receive_sound : (verdict : Verdict) → ReceiveComesTo S table fd n room flags verdict
      → verdict ≡ verdict_of (step_answer constants S who (SockRecv fd n room flags))
  receive_sound verdict (no_socket other) =
      receive_other who.pid table (whole (tick S)) n room flags other.0 other.2 ∙ ap verdict_of (received_as other.0 other.1)
  receive_sound verdict (no_bytes r w mode channel socket there must quick) =
      by_tests r w mode channel socket there true true (peeks flags)
      (must_is n flags channel (sound_channel S unrefused.valid r channel there) must) (set_is mode 4 quick) refl
  receive_sound verdict (awaits_bytes r w mode channel socket there must patient) =
      by_tests r w mode channel socket there true false (peeks flags)
      (must_is n flags channel (sound_channel S unrefused.valid r channel there) must) (unset_is mode 4 patient) refl
  receive_sound verdict (looked r w mode channel socket there isnt looks) =
      by_tests r w mode channel socket there false (is_nonblocking mode) true
      (goes_on n flags channel (sound_channel S unrefused.valid r channel there) isnt) refl (set_is flags 4 looks)
  receive_sound verdict (no_numbers r w mode channel socket there isnt blind few) =
      by_install r channel None
      (install_none table (take room (pull n channel).carried)
      (subst (λ k. free_within table 1024 0 < k) (brought_is n room channel.waiting (sound_channel S unrefused.valid r channel there).whole) few))
      ∙ quick_or r w mode channel socket there isnt blind
  receive_sound verdict (received r w mode channel socket there isnt blind many) =
      let installed =
      install_some table (take room (pull n channel).carried)
      (subst (λ k. k ≤ free_within table 1024 0) (brought_is n room channel.waiting (sound_channel S unrefused.valid r channel there).whole) many) in
      by_install r channel (Some installed.0) installed.1 ∙ quick_or r w mode channel socket there isnt blind

  -- ---- a line for each case

  socket_line : (r w mode : ℕ) (channel : Channel) → IsSocket S table fd r w mode → get S.chans r ≡ Some channel
      → (verdict : Verdict) × ReceiveComesTo S table fd n room flags verdict
  socket_line r w mode channel socket there =
      elim (must_or n flags channel (sound_channel S unrefused.valid r channel there)) [
        | inl must ↦ elim (waits_or mode) [
          | inl quick ↦ (_, no_bytes r w mode channel socket there must quick)
          | inr patient ↦ (_, awaits_bytes r w mode channel socket there must (λ quick. quick patient))
        ]
        | inr isnt ↦ elim (same_or (bit_and flags 4) 0) [
          | inr looks ↦ (_, looked r w mode channel socket there isnt looks)
          | inl blind ↦ elim (below (free_within table 1024 0) (brought n room channel.waiting)) [
            | inl few ↦ (_, no_numbers r w mode channel socket there isnt (λ looks. looks blind) few)
            | inr many ↦ (_, received r w mode channel socket there isnt (λ looks. looks blind) many)
          ]
        ]
      ]

  receive_line : (verdict : Verdict) × ReceiveComesTo S table fd n room flags verdict
  receive_line =
      let met = (all_met (SockRecv fd n room flags) table unrefused.allowed).0 in
      let found = opened_on S unrefused.valid who.pid fd table met.0 unrefused.had met.1 in
      elim (socket_or found.0) [
        | inr other ↦ (_, no_socket (found.0, found.1, other))
        | inl is ↦ (
            let socket : IsSocket S table fd is.0 is.1 is.2 = (is.3, subst (IsOpenOn S table fd) is.4 found.1) in
            let channel = reader_there S unrefused.valid table fd is.0 (Some is.1) is.2 is.3 socket.1 in
            socket_line is.0 is.1 is.2 channel.0 socket channel.1)
      ]

pub receive_is_listed : ReceiveIsListed
receive_is_listed constants S who fd n room flags table own verdict unrefused =
    listed (ReceiveComesTo S table fd n room flags) (verdict_of (step_answer constants S who (SockRecv fd n room flags)))
    (receive_sound constants S who fd n room flags table own unrefused) (receive_line constants S who fd n room flags table own unrefused) verdict
