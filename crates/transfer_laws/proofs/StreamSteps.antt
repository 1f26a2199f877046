-- Each standard stream goes on at each step.
use Rattle.std.proofs.Common.{◌≡◌, ◌⊎◌, inl, inr, ℕ, ◌||◌, false, List, [], ◌∷◌, ◌++◌, Option, Some, None, refl, sym, ap, subst, ◌∙◌}
use Rattle.std.proofs.lemmas.Bool.Decides.{eqb_tells}
use Rattle.std.specs.FinMap.{get}
use Rattle.abi_types.specs.declared.call.Call.{Call}
use Rattle.abi_types.specs.declared.call.Call.TheVariants.{FdRead, FdWrite}
use Rattle.abi_types.specs.declared.constants.Constants.{Constants}
use Rattle.abi_types.specs.declared.descriptor.Descriptor.{Descriptor}
use Rattle.abi_types.specs.declared.open_kind.OpenKind.{OpenKind}
use Rattle.abi_types.specs.declared.open_kind.OpenKind.TheVariants.{File, Directory, End, Terminal, Process}
use Rattle.abi_types.specs.declared.reply.Answer.{Answer}
use Rattle.abi_types.specs.declared.reply.Reply.{Reply}
use Rattle.abi_types.specs.declared.stream.Stream.{Stream}
use Rattle.abi_types.specs.declared.wake.WakeIn.TheVariants as wake
use Rattle.abi_types.specs.declared.who.Who.{Who}
use Rattle.maps.specs.Maps.{get-insert-same}
use Rattle.kernel_model.specs.Calls.{meaning_of, refusal}
use Rattle.kernel_model.specs.Families.OpenMeaning.{OpenMeaning, moved_part, touched_at}
use Rattle.kernel_model.specs.Families.StreamCalls.{has_offset, reading, stream_part, writing, written_part}
use Rattle.kernel_model.specs.Families.Locks.{with_word}
use Rattle.kernel_model.specs.State.{State, Table, at_term}
use Rattle.kernel_model.specs.Step.{IsStep, touch, unreleased}
use Rattle.kernel_model.specs.Waits.{resumed}
use Rattle.kernel_model.proofs.Tests.{none_is_no}
use Rattle.kernel_model.proofs.Touches.{end_keeps, others_stay}
use Rattle.kernel_model.proofs.Valids.{same_value}
use Rattle.transfer_laws.specs.StreamLaws.{EndsKeepStreams, GoesOnAs, HasStream, StreamsGoOn, WakesGoOn, with_stream}
use Rattle.transfer_laws.proofs.StreamParts.{NoStream, other_touches_none, touch_none}
use Rattle.transfer_laws.proofs.Streams.{reads_take_first, writes_append}

none_behind : (xs : List ℕ) → xs ≡ xs ++ []
none_behind [] = refl
none_behind (x ∷ xs) = ap (λ rest. x ∷ rest) (none_behind xs)

-- ---- one step

module _ (constants : Constants) (S : State) (who : Who) (c : Call) (given : Answer) (T : State) (k : ℕ) (was : Stream)
    (step : IsStep constants S who c given T) (there : get S.terms k ≡ Some was) where
  abbrev Goes : Type 0
  Goes = (now : Stream) × GoesOnAs was now × (get T.terms k ≡ Some now)

  -- it is as it was
  as_was : get T.terms k ≡ Some was → Goes
  as_was is = (was, record { more = []; read = []; keeps = none_behind was.written; takes = refl }, is)

  untouched : NoStream k (touch S who c) → Goes
  untouched none = as_was (others_stay constants S who c given T (at_term k) step (none, refl) ∙ there)

  -- the call leaves it so, unless memory runs out
  becomes : (new : Stream) → GoesOnAs was new → unreleased constants S who c ≡ with_stream S k new → Goes
  becomes new goes is =
      elim step [
        | inl done ↦ (new, goes, ap (λ (U : State). get U.terms k) done.1 ∙ ap (λ (U : State). get U.terms k) is ∙ get-insert-same S.terms k new)
        | inr lacking ↦ as_was (ap (λ (U : State). get U.terms k) lacking.2 ∙ there)
      ]

-- ---- fd_read and fd_write

-- of what is read from, and of what is written to: the open is of stream k, or that isn't touched
kind_reads : (k o : ℕ) (kind : Option OpenKind)
    → ((flags : ℕ) × (kind ≡ Some (Terminal k flags))) ⊎ NoStream k (moved_part (has_offset kind) o ++ stream_part kind)
kind_reads k o None = inr refl
kind_reads k o (Some (File node offset flags)) = inr refl
kind_reads k o (Some (Directory node flags)) = inr refl
kind_reads k o (Some (End None writes flags form)) = inr refl
kind_reads k o (Some (End (Some c) writes flags form)) = inr refl
kind_reads k o (Some (Terminal which flags)) =
    elim (eqb_tells which k) [ inl is ↦ inl (flags, ap (λ w. Some (Terminal w flags)) is.1) | inr other ↦ inr (ap (λ b. b || false) other.0) ]
kind_reads k o (Some (Process p object)) = inr refl

kind_writes : (k o : ℕ) (kind : Option OpenKind)
    → ((flags : ℕ) × (kind ≡ Some (Terminal k flags))) ⊎ NoStream k (moved_part (has_offset kind) o ++ written_part kind)
kind_writes k o None = inr refl
kind_writes k o (Some (File node offset flags)) = inr refl
kind_writes k o (Some (Directory node flags)) = inr refl
kind_writes k o (Some (End reads None flags form)) = inr refl
kind_writes k o (Some (End reads (Some c) flags form)) = inr refl
kind_writes k o (Some (Terminal which flags)) =
    elim (eqb_tells which k) [ inl is ↦ inl (flags, ap (λ w. Some (Terminal w flags)) is.1) | inr other ↦ inr (ap (λ b. b || false) other.0) ]
kind_writes k o (Some (Process p object)) = inr refl

-- the descriptor's open is of stream k
abbrev NamesStream : State → ℕ → Option Descriptor → Type 0
NamesStream S k o = (d : Descriptor) × (flags : ℕ) × (o ≡ Some d) × (get S.opens d.id ≡ Some (Terminal k flags))

of_descriptor : (S : State) (k : ℕ) (m : OpenMeaning)
    → ((o : ℕ) (kind : Option OpenKind)
    → ((flags : ℕ) × (kind ≡ Some (Terminal k flags))) ⊎ NoStream k (moved_part (m.moves kind) o ++ m.touched kind))
    → (o : Option Descriptor) → NamesStream S k o ⊎ NoStream k (touched_at m S o)
of_descriptor S k m each None = inr refl
of_descriptor S k m each (Some d) = elim (each d.id (get S.opens d.id)) [ inl is ↦ inl (d, is.0, refl, is.1) | inr none ↦ inr none ]

-- what goes on where a call isn't refused goes on in any case
module _ (constants : Constants) (S : State) (who : Who) (c : Call) (given : Answer) (T : State) (k : ℕ) (was : Stream)
    (step : IsStep constants S who c given T) (there : get S.terms k ≡ Some was)
    (each : (table : Table) → get S.tables who.pid ≡ Some table → refusal table c ≡ None
    → Goes constants S who c given T k was step there ⊎ NoStream k ((meaning_of c).touched S table)) where
  stays : ((table : Table) → get S.tables who.pid ≡ Some table → refusal table c ≡ None → NoStream k ((meaning_of c).touched S table))
      → Goes constants S who c given T k was step there
  stays none = untouched constants S who c given T k was step there (touch_none S who c k none)

  by_refusal : (table : Table) → get S.tables who.pid ≡ Some table → (r : Option Reply) → refusal table c ≡ r
      → Goes constants S who c given T k was step there
  by_refusal table own (Some reply) is =
      stays (λ other here allowed.
      absurd (none_is_no reply (sym allowed ∙ ap (λ x. refusal x c) (same_value other table (get S.tables who.pid) here own) ∙ is)))
  by_refusal table own None is =
      elim (each table own is) [
        | inl goes ↦ goes
        | inr none ↦ stays (λ other here allowed.
            subst (λ x. NoStream k ((meaning_of c).touched S x)) (same_value table other (get S.tables who.pid) own here) none)
      ]

  by_table : (t : Option Table) → get S.tables who.pid ≡ t → Goes constants S who c given T k was step there
  by_table None own = stays (λ table here allowed. absurd (none_is_no table (sym own ∙ here)))
  by_table (Some table) own = by_refusal table own (refusal table c) refl

pub streams_go_on : StreamsGoOn
streams_go_on constants S who (FdRead fd n) given T k was step there =
    by_table constants S who (FdRead fd n) given T k was step there
    (λ table own allowed.
    elim (of_descriptor S k (reading n) (kind_reads k) (get table fd)) [
      | inl is ↦ (
          let has : HasStream S who (FdRead fd n) fd k was =
          record { table = table; own = own; allowed = allowed; d = is.0; there = is.2; flags = is.1; opened = is.3; stream_there = there } in
          let taken = reads_take_first constants S who fd k n was has in
          inl (becomes constants S who (FdRead fd n) given T k was step there (record { left = taken.1; written = was.written })
          (record { more = []; read = taken.0; keeps = none_behind was.written; takes = taken.2.first }) taken.4))
      | inr none ↦ inr none
    ])
    (get S.tables who.pid) refl
streams_go_on constants S who (FdWrite fd bytes) given T k was step there =
    by_table constants S who (FdWrite fd bytes) given T k was step there
    (λ table own allowed.
    elim (of_descriptor S k (writing bytes) (kind_writes k) (get table fd)) [
      | inl is ↦ (
          let has : HasStream S who (FdWrite fd bytes) fd k was =
          record { table = table; own = own; allowed = allowed; d = is.0; there = is.2; flags = is.1; opened = is.3; stream_there = there } in
          let put = writes_append constants S who fd k bytes was has in
          inl (becomes constants S who (FdWrite fd bytes) given T k was step there (record { left = was.left; written = was.written ++ bytes })
          (record { more = bytes; read = []; keeps = refl; takes = refl }) put.1))
      | inr none ↦ inr none
    ])
    (get S.tables who.pid) refl
streams_go_on constants S who c given T k was step there =
    untouched constants S who c given T k was step there (other_touches_none S who c k (λ is. is))

-- ---- wakes, and ends from outside

pub wakes_go_on : WakesGoOn
wakes_go_on constants S who call wake.Fault answered T k was is there =
    (was, record { more = []; read = []; keeps = none_behind was.written; takes = refl }, ap (λ (U : State). get U.terms k) is.1 ∙ there)
wakes_go_on constants S who call (wake.Plain word) answered T k was is there =
    streams_go_on constants (resumed S who) who (with_word word call) answered T k was is.0 there

pub ends_keep_streams : EndsKeepStreams
ends_keep_streams S p status which = end_keeps S p status (at_term which) refl refl
