-- What a sock_shutdown shuts.
use Rattle.std.proofs.Common.{◌≡◌, ℕ, ◌==◌, not, Bool, true, false, ◌++◌, Option, Some, refl, ap, ◌∙◌}
use Rattle.std.specs.Prelude.{bit_and}
use Rattle.std.specs.FinMap.{get}
use Rattle.abi_types.specs.declared.call.Call.TheVariants.{SockShutdown}
use Rattle.abi_types.specs.declared.constants.Constants.{Constants}
use Rattle.abi_types.specs.declared.reply.Answer.TheVariants as answer
use Rattle.abi_types.specs.declared.who.Who.{Who}
use Rattle.kernel_model.specs.ChannelLaws.{HasEnd}
use Rattle.kernel_model.specs.Channels.{Channel, Gone, Open, Shut, SideState, shut_side, with_reader_shut, with_writer_shut}
use Rattle.kernel_model.specs.Families.ChannelCalls.{shut_if, shut_open}
use Rattle.kernel_model.specs.Families.OpenMeaning.{at_descriptor}
use Rattle.kernel_model.specs.Outcome.{Outcome}
use Rattle.kernel_model.specs.Reply.{success}
use Rattle.kernel_model.specs.State.{State}
use Rattle.kernel_model.specs.Step.{outcome, tick}
use Rattle.kernel_model.specs.View.{whole}
use Rattle.transfer_laws.specs.ShutLaws.{IsReaderShut, IsShut, IsWriterShut, ShutsAsAsked}
use Rattle.transfer_laws.proofs.Outcomes.{answer_by, outcome_allowed, state_by}
use Rattle.transfer_laws.proofs.Waits.{flag_clear, flag_set}

is_shut : (side : SideState) → IsShut side (shut_side side)
is_shut Open = record { shut = λ _. refl; gone = λ e. absurd (other e) } where
  other : Open ≡ Gone → ⊥
  other e = cc
is_shut Shut = record { shut = λ _. refl; gone = λ e. absurd (other e) } where
  other : Shut ≡ Gone → ⊥
  other e = cc
is_shut Gone = record { shut = λ h. absurd (h refl); gone = λ _. refl }

reader_shut : (channel : Channel) → IsReaderShut channel (with_reader_shut channel)
reader_shut channel = record { kind = refl; empty = refl; left = refl; reader = is_shut channel.reader; writer = refl }

writer_shut : (channel : Channel) → IsWriterShut channel (with_writer_shut channel)
writer_shut channel = record { kind = refl; waits = refl; left = refl; reader = refl; writer = is_shut channel.writer }

module _ (constants : Constants) (S : State) (who : Who) (fd how c w mode : ℕ)
    (has : HasEnd S who (SockShutdown fd how) fd (Some c) (Some w) mode) where
  abbrev shuts : Bool → Bool → Option Channel → Option Channel → Outcome
  shuts reads writes read written =
      record { answer = answer.Reply (success 0 0); updates = shut_if reads with_reader_shut c read ++ shut_if writes with_writer_shut w written }

  shut_outcome : outcome constants S who (SockShutdown fd how)
      ≡ shuts (not (bit_and how 1 == 0)) (not (bit_and how 2 == 0)) (get S.chans c) (get S.chans w)
  shut_outcome =
      outcome_allowed constants S who (SockShutdown fd how) has.table has.own has.allowed
      ∙ ap (λ d. at_descriptor (λ o. shut_open (whole (tick S)) how) (whole (tick S)) d) has.there
      ∙ ap (λ kind. shut_open (whole (tick S)) how kind) has.opened

  shut_by : (reads writes : Bool) (read written : Option Channel) → not (bit_and how 1 == 0) ≡ reads → not (bit_and how 2 == 0) ≡ writes
      → get S.chans c ≡ read → get S.chans w ≡ written → outcome constants S who (SockShutdown fd how) ≡ shuts reads writes read written
  shut_by reads writes read written reads_is writes_is read_is written_is =
      shut_outcome ∙ (λ i. shuts (reads_is i) (writes_is i) (read_is i) (written_is i))

pub shuts_as_asked : ShutsAsAsked
shuts_as_asked = record {
  reads = λ constants S who fd how c w mode channel has there asked other.
      let is = shut_by constants S who fd how c w mode has true false (Some channel) (get S.chans w) (flag_set (bit_and how 1) asked)
      (flag_clear (bit_and how 2) other) there refl in (
        answer_by constants S who (SockShutdown fd how) _ is,
        (with_reader_shut channel, reader_shut channel, state_by constants S who (SockShutdown fd how) _ is),
      );
  writes = λ constants S who fd how c w mode channel has there other asked.
      let is = shut_by constants S who fd how c w mode has false true (get S.chans c) (Some channel) (flag_clear (bit_and how 1) other)
      (flag_set (bit_and how 2) asked) refl there in (
        answer_by constants S who (SockShutdown fd how) _ is,
        (with_writer_shut channel, writer_shut channel, state_by constants S who (SockShutdown fd how) _ is),
      );
  both = λ constants S who fd how c w mode read written has read_there written_there first second.
      let is = shut_by constants S who fd how c w mode has true true (Some read) (Some written) (flag_set (bit_and how 1) first)
      (flag_set (bit_and how 2) second) read_there written_there in (
        answer_by constants S who (SockShutdown fd how) _ is,
        (
          with_reader_shut read,
          with_writer_shut written,
          reader_shut read,
          writer_shut written,
          state_by constants S who (SockShutdown fd how) _ is,
        ),
      );
}
