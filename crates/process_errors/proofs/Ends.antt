-- Ends of channels: what they are of, and tests of a channel.
--     socket_or      an open is a socket or something else
--     opened_on, reader_there, writer_there, sound_channel      what there is in a valid state
--     hung_is, open_is, sides_or      whether something may still be sent
--     waits_or, patient_is      whether an end waits
use Rattle.std.proofs.Common.{◌≡◌, ◌≢◌, ◌⊎◌, inl, inr, ℕ, ◌&&◌, not, Bool, true, false, Option, Some, None, refl, sym, ap, ◌∙◌}
use Rattle.std.specs.Prelude.{bit_and}
use Rattle.std.specs.FinMap.{get}
use Rattle.abi_base.specs.declared.flags.TheConstants.{FDFLAG_NONBLOCK}
use Rattle.abi_types.specs.declared.chan_kind.ChanKind.{ChanKind}
use Rattle.abi_types.specs.declared.descriptor.Descriptor.{Descriptor}
use Rattle.abi_types.specs.declared.open_kind.OpenKind.{OpenKind}
use Rattle.abi_types.specs.declared.open_kind.OpenKind.TheVariants.{File, Directory, End, Terminal, Process}
use Rattle.kernel_model.specs.Channels.{Channel, Gone, IsChannel, Open, Shut, SideState, is_hung, is_open}
use Rattle.kernel_model.specs.State.{State, Table}
use Rattle.kernel_model.specs.Valid.{IsValid}
use Rattle.kernel_model.proofs.FoundOpens.{open_there}
use Rattle.kernel_model.proofs.Tests.{not_true}
use Rattle.process_errors.specs.ChannelErrors.{AreOpen, IsNonblocking}
use Rattle.process_errors.specs.Verdicts.{IsOpenOn}
use Rattle.process_errors.proofs.Tables.{same_or}

-- ---- sockets

abbrev is_socket : OpenKind → Bool
is_socket (End (Some r) (Some w) mode form) = true
is_socket kind = false

abbrev pub IsOther : OpenKind → Type 0
IsOther kind = (r w mode : ℕ) (form : ChanKind) → kind ≢ End (Some r) (Some w) mode form

other_is : (kind : OpenKind) → is_socket kind ≡ false → IsOther kind
other_is kind isnt r w mode form is = not_true (sym isnt ∙ ap is_socket is)

pub socket_or : (kind : OpenKind) → ((r : ℕ) × (w : ℕ) × (mode : ℕ) × (form : ChanKind) × (kind ≡ End (Some r) (Some w) mode form)) ⊎ IsOther kind
socket_or (File node offset flags) = inr (other_is (File node offset flags) refl)
socket_or (Directory node flags) = inr (other_is (Directory node flags) refl)
socket_or (End None writes mode form) = inr (other_is (End None writes mode form) refl)
socket_or (End (Some r) None mode form) = inr (other_is (End (Some r) None mode form) refl)
socket_or (End (Some r) (Some w) mode form) = inl (r, w, mode, form, refl)
socket_or (Terminal which flags) = inr (other_is (Terminal which flags) refl)
socket_or (Process p object) = inr (other_is (Process p object) refl)

-- ---- what there is in a valid state

module _ (S : State) (valid : IsValid S) where
  pub opened_on : (p fd : ℕ) (table : Table) (d : Descriptor) → get S.tables p ≡ Some table → get table fd ≡ Some d
      → (kind : OpenKind) × IsOpenOn S table fd kind
  opened_on p fd table d had there = let found = open_there S valid.nearly p fd table d had there in (found.0, (d, there, found.1))

  pub reader_there : (table : Table) (fd r : ℕ) (writes : Option ℕ) (mode : ℕ) (form : ChanKind) → IsOpenOn S table fd (End (Some r) writes mode form)
      → (channel : Channel) × (get S.chans r ≡ Some channel)
  reader_there table fd r writes mode form opened =
      let behind = valid.nearly.behind opened.0.id (End (Some r) writes mode form) opened.2 in (behind.1.0, behind.1.1)

  pub writer_there : (table : Table) (fd : ℕ) (reads : Option ℕ) (w mode : ℕ) (form : ChanKind) → IsOpenOn S table fd (End reads (Some w) mode form)
      → (channel : Channel) × (get S.chans w ≡ Some channel)
  writer_there table fd reads w mode form opened =
      let behind = valid.nearly.behind opened.0.id (End reads (Some w) mode form) opened.2 in (behind.2.0, behind.2.1)

  pub sound_channel : (c : ℕ) (channel : Channel) → get S.chans c ≡ Some channel → IsChannel channel
  sound_channel c channel there = (valid.nearly.channels c channel there).sound

-- ---- sides

sides_hung : (r w : SideState) → ¬ ((r ≡ Open) × (w ≡ Open)) → not (is_open r && is_open w) ≡ true
sides_hung Open Open isnt = absurd (isnt (refl, refl))
sides_hung Open Shut isnt = refl
sides_hung Open Gone isnt = refl
sides_hung Shut w isnt = refl
sides_hung Gone w isnt = refl

pub hung_is : (channel : Channel) → ¬ AreOpen channel → is_hung channel ≡ true
hung_is channel isnt = sides_hung channel.reader channel.writer isnt

pub open_is : (channel : Channel) → AreOpen channel → is_hung channel ≡ false
open_is channel is = λ i. not (is_open (is.0 i) && is_open (is.1 i))

sides_open : (r w : SideState) → ((r ≡ Open) × (w ≡ Open)) ⊎ (¬ ((r ≡ Open) × (w ≡ Open)))
sides_open Open Open = inl (refl, refl)
sides_open Open Shut = inr (λ both. not_true (ap is_open both.1))
sides_open Open Gone = inr (λ both. not_true (ap is_open both.1))
sides_open Shut w = inr (λ both. not_true (ap is_open both.0))
sides_open Gone w = inr (λ both. not_true (ap is_open both.0))

pub sides_or : (channel : Channel) → AreOpen channel ⊎ (¬ AreOpen channel)
sides_or channel = sides_open channel.reader channel.writer

-- ---- whether an end waits

pub waits_or : (mode : ℕ) → IsNonblocking mode ⊎ (bit_and mode FDFLAG_NONBLOCK ≡ 0)
waits_or mode = elim (same_or (bit_and mode FDFLAG_NONBLOCK) 0) [ inl none ↦ inr none | inr some ↦ inl some ]

pub patient_is : (mode : ℕ) → ¬ IsNonblocking mode → bit_and mode FDFLAG_NONBLOCK ≡ 0
patient_is mode isnt = elim (waits_or mode) [ inl some ↦ absurd (isnt some) | inr none ↦ none ]
