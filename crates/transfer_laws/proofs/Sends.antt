-- What an fd_write to an end and a sock_send put into a channel.
use Rattle.std.proofs.Common.{◌≡◌, ℕ, Bool, true, false, min, List, [], ◌∷◌, length, map, take, drop, Option, Some, refl, sym, ap, ◌∙◌}
use Rattle.std.proofs.lemmas.List.{length-take, take-append-drop}
use Rattle.std.proofs.Math.Nat.{min_comm}
use Rattle.std.specs.FinMap.{get}
use Rattle.abi_types.specs.declared.call.Call.{Call}
use Rattle.abi_types.specs.declared.call.Call.TheVariants.{FdWrite, SockSend}
use Rattle.abi_types.specs.declared.constants.Constants.{Constants}
use Rattle.abi_types.specs.declared.descriptor.Descriptor.{Descriptor}
use Rattle.abi_types.specs.declared.reply.Answer.TheVariants as answer
use Rattle.abi_types.specs.declared.reply.Reply.{Reply}
use Rattle.abi_types.specs.declared.who.Who.{Who}
use Rattle.kernel_model.specs.ChannelLaws.{HasEnd}
use Rattle.kernel_model.specs.Channels.{Channel, push, push_if, room}
use Rattle.kernel_model.specs.Families.ChannelCalls.{added, is_nonblocking, picked, send_open, send_to, sent_by, sent_reply, written_reply}
use Rattle.kernel_model.specs.Families.ClockCalls.{real_time}
use Rattle.kernel_model.specs.Families.OpenMeaning.{at_descriptor}
use Rattle.kernel_model.specs.Families.StreamCalls.{write_open}
use Rattle.kernel_model.specs.Outcome.{replies}
use Rattle.kernel_model.specs.State.{State, Table}
use Rattle.kernel_model.specs.Step.{outcome, step_answer, tick, unreleased}
use Rattle.kernel_model.specs.View.{whole}
use Rattle.transfer_laws.specs.TransferLaws.{HasRoom, Puts, SendsPut}
use Rattle.transfer_laws.proofs.Outcomes.{answer_by, outcome_allowed, state_by}
use Rattle.transfer_laws.proofs.Waits.{room_tests, side_tests}

-- ---- what is listed

no_item : {X Y : Type 0} {x : X} {xs : List X} → x ∷ xs ≡ [] → Y
no_item e = absurd (other e) where
  other : {X : Type 0} {x : X} {xs : List X} → x ∷ xs ≡ [] → ⊥
  other e = cc

first_same : {X : Type 0} (x y : X) (xs ys : List X) → x ∷ xs ≡ y ∷ ys → (x ≡ y) × (xs ≡ ys)
first_same {X} x y xs ys e = (ap first_in e, ap rest_in e) where
  first_in : List X → X
  first_in [] = x
  first_in (z ∷ zs) = z

  rest_in : List X → List X
  rest_in [] = []
  rest_in (z ∷ zs) = zs

listed_is : (table : Table) (fds : List ℕ) (carried : List Descriptor)
    → map (λ number. get table number) fds ≡ map (λ (d : Descriptor). Some d) carried → picked table fds ≡ carried
listed_is table [] [] e = refl
listed_is table [] (d ∷ ds) e = no_item (sym e)
listed_is table (fd ∷ fds) [] e = no_item e
listed_is table (fd ∷ fds) (d ∷ ds) e =
    let both = first_same (get table fd) (Some d) (map (λ number. get table number) fds) (map (λ (d : Descriptor). Some d) ds) e in
    λ i. added (both.0 i) (listed_is table fds ds both.1 i)

-- ---- what is put

module _ (constants : Constants) (S : State) (who : Who) (call : Call) (reply : ℕ → Reply) (quick : Bool) (bytes : List ℕ) (carried : List Descriptor)
    (c : ℕ) (channel : Channel) (fits : HasRoom (length carried) channel)
    (is : outcome constants S who call ≡ sent_by reply quick c (push bytes carried channel)) where
  sent_outcome : outcome constants S who call ≡ sent_by reply quick c (push_if false true bytes carried channel)
  sent_outcome =
      is
      ∙ (λ i. sent_by reply quick c
      (push_if (side_tests channel fits.reader fits.writer i) (room_tests (length carried) channel fits i) bytes carried channel))

  sent_count : length (take (room channel) bytes) ≡ min (length bytes) (room channel)
  sent_count = length-take (room channel) bytes ∙ min_comm (room channel) (length bytes)

  puts : Puts S reply bytes carried c channel (step_answer constants S who call) (unreleased constants S who call)
  puts = record {
    sent = take (room channel) bytes;
    unsent = drop (room channel) bytes;
    first = sym (take-append-drop (room channel) bytes);
    count = sent_count;
    tells = answer_by constants S who call _ sent_outcome ∙ ap (λ count. answer.Reply (reply count)) (sym sent_count);
    leaves = state_by constants S who call _ sent_outcome;
  }

write_outcome : (constants : Constants) (S : State) (who : Who) (fd b : ℕ) (bytes : List ℕ) (reads : Option ℕ) (c mode : ℕ) (channel : Channel)
    → HasEnd S who (FdWrite fd (b ∷ bytes)) fd reads (Some c) mode → get S.chans c ≡ Some channel
    → outcome constants S who (FdWrite fd (b ∷ bytes)) ≡ sent_by written_reply (is_nonblocking mode) c (push (b ∷ bytes) [] channel)
write_outcome constants S who fd b bytes reads c mode channel has there =
    outcome_allowed constants S who (FdWrite fd (b ∷ bytes)) has.table has.own has.allowed
    ∙ ap (λ d. at_descriptor (write_open (real_time constants (tick S).clock) (whole (tick S)) (b ∷ bytes)) (whole (tick S)) d) has.there
    ∙ ap (λ kind. write_open (real_time constants (tick S).clock) (whole (tick S)) (b ∷ bytes) has.d.id kind) has.opened
    ∙ ap (λ x. send_to written_reply (is_nonblocking mode) (b ∷ bytes) [] c x) there

send_outcome : (constants : Constants) (S : State) (who : Who) (fd b : ℕ) (bytes fds : List ℕ) (flags r c mode : ℕ) (channel : Channel)
    → (has : HasEnd S who (SockSend fd (b ∷ bytes) fds flags) fd (Some r) (Some c) mode) → get S.chans c ≡ Some channel
    → outcome constants S who (SockSend fd (b ∷ bytes) fds flags)
    ≡ sent_by sent_reply (is_nonblocking mode) c (push (b ∷ bytes) (picked has.table fds) channel)
send_outcome constants S who fd b bytes fds flags r c mode channel has there =
    let carried : List Descriptor = picked has.table fds in
    outcome_allowed constants S who (SockSend fd (b ∷ bytes) fds flags) has.table has.own has.allowed
    ∙ ap (λ d. at_descriptor (λ o. send_open (whole (tick S)) (b ∷ bytes) carried) (whole (tick S)) d) has.there
    ∙ ap (λ kind. send_open (whole (tick S)) (b ∷ bytes) carried kind) has.opened
    ∙ ap (λ x. send_to sent_reply (is_nonblocking mode) (b ∷ bytes) carried c x) there

-- ---- of no byte

write_none : (constants : Constants) (S : State) (who : Who) (fd : ℕ) (reads writes : Option ℕ) (mode : ℕ)
    → HasEnd S who (FdWrite fd []) fd reads writes mode → outcome constants S who (FdWrite fd []) ≡ replies (written_reply 0)
write_none constants S who fd reads writes mode has =
    outcome_allowed constants S who (FdWrite fd []) has.table has.own has.allowed
    ∙ ap (λ d. at_descriptor (write_open (real_time constants (tick S).clock) (whole (tick S)) []) (whole (tick S)) d) has.there
    ∙ ap (λ kind. write_open (real_time constants (tick S).clock) (whole (tick S)) [] has.d.id kind) has.opened

send_none : (constants : Constants) (S : State) (who : Who) (fd : ℕ) (fds : List ℕ) (flags r c mode : ℕ)
    → HasEnd S who (SockSend fd [] fds flags) fd (Some r) (Some c) mode → outcome constants S who (SockSend fd [] fds flags) ≡ replies (sent_reply 0)
send_none constants S who fd fds flags r c mode has =
    outcome_allowed constants S who (SockSend fd [] fds flags) has.table has.own has.allowed
    ∙ ap (λ d. at_descriptor (λ o. send_open (whole (tick S)) [] (picked has.table fds)) (whole (tick S)) d) has.there
    ∙ ap (λ kind. send_open (whole (tick S)) [] (picked has.table fds) kind) has.opened

pub sends_put : SendsPut
sends_put = record {
  writes = λ constants S who fd b bytes reads c mode channel has there fits.
      puts constants S who (FdWrite fd (b ∷ bytes)) written_reply (is_nonblocking mode) (b ∷ bytes) [] c channel fits
      (write_outcome constants S who fd b bytes reads c mode channel has there);
  sends = λ constants S who fd b bytes fds flags r c mode channel carried has there listed fits.
      puts constants S who (SockSend fd (b ∷ bytes) fds flags) sent_reply (is_nonblocking mode) (b ∷ bytes) carried c channel fits
      (send_outcome constants S who fd b bytes fds flags r c mode channel has there
      ∙ ap (λ ds. sent_by sent_reply (is_nonblocking mode) c (push (b ∷ bytes) ds channel)) (listed_is has.table fds carried listed));
  writes_none = λ constants S who fd reads writes mode has.
      let is = write_none constants S who fd reads writes mode has in
      (answer_by constants S who (FdWrite fd []) _ is, state_by constants S who (FdWrite fd []) _ is);
  sends_none = λ constants S who fd fds flags r c mode has.
      let is = send_none constants S who fd fds flags r c mode has in
      (answer_by constants S who (SockSend fd [] fds flags) _ is, state_by constants S who (SockSend fd [] fds flags) _ is);
}
