-- Spots of which some are the same.
--     same_call      what a call looks at is the same, as far as its thread isn't left to be tested
--     stay_call      it is left such that the call looks at the same
use Rattle.std.proofs.Common.{◌≡◌, ℕ, ◌||◌, Bool, true, false, List, [], ◌∷◌, Option, None, Some, refl, sym, ap, ◌∙◌}
use Rattle.std.proofs.lemmas.Bool.{eq-eqb}
use Rattle.std.specs.FinMap.{get}
use Rattle.std.specs.List.{AllByRecursion}
use Rattle.abi_types.specs.declared.call.Call.{Call}
use Rattle.abi_types.specs.declared.descriptor.Descriptor.{Descriptor}
use Rattle.abi_types.specs.declared.open_kind.OpenKind.{OpenKind}
use Rattle.abi_types.specs.declared.open_kind.OpenKind.TheVariants.{File, Directory, End, Terminal, Process}
use Rattle.kernel_model.specs.Release.{is_of_process, is_reader, is_writer}
use Rattle.kernel_model.specs.State.{State, Table}
use Rattle.kernel_model.proofs.Tests.{or_true, same_some}
use Rattle.wait_set.specs.declared.spot.Spot.TheVariants.{Channel, Ended}
use Rattle.wait_set.specs.declared.waiting.Waiting.{Waiting}
use Rattle.wait_set.specs.Waits.{stands}
use Rattle.readiness_laws.specs.LocalityLaws.{LeavesPlaces}
use Rattle.readiness_laws.specs.Spots.{Look, Purpose, Spot, IsSame, bare, behind_spots, call_spots, channel_spot, descriptor_spots, look_spots, looks_of, never_waits, on_channel, on_end, table_spots, to_await, to_read, to_write, with_flags}
use Rattle.readiness_laws.specs.Watched.{StandsAt}
use Rattle.readiness_laws.proofs.Standing.{all_first, all_joined, all_second}

-- ---- from what holds of what stands behind the rows of a table to what holds of all that a call looks at there

module _ (S : State) (p : ℕ) (N : ℕ → Type 0) (P Q : Spot → Type 0)
    (row : (n : ℕ) (table : Table) (d : Descriptor) → N n → get S.tables p ≡ Some table → get table n ≡ Some d
    → (look : Look) → AllByRecursion P (descriptor_spots S.opens look (Some d)) → AllByRecursion Q (descriptor_spots S.opens look (Some d))) where
  each_row : (table : Table) (look : Look) (o : Option Descriptor) → N look.fd → get S.tables p ≡ Some table → get table look.fd ≡ o
      → AllByRecursion P (descriptor_spots S.opens look o) → AllByRecursion Q (descriptor_spots S.opens look o)
  each_row table look None among own there all = tt
  each_row table look (Some d) among own there all = row look.fd table d among own there look all

  each_look : (table : Table) (looks : List Look) → AllByRecursion (λ (look : Look). N look.fd) looks → get S.tables p ≡ Some table → AllByRecursion P (look_spots S.opens table looks)
      → AllByRecursion Q (look_spots S.opens table looks)
  each_look table [] among own all = tt
  each_look table (look ∷ looks) among own all =
      let one = descriptor_spots S.opens look (get table look.fd) in
      let others = look_spots S.opens table looks in
      all_joined Q one others (each_row table look (get table look.fd) among.0 own refl (all_first P one others all))
      (each_look table looks among.1 own (all_second P one others all))

  pub each_of_table : (o : Option Table) (looks : List Look) → AllByRecursion (λ (look : Look). N look.fd) looks → get S.tables p ≡ o → AllByRecursion P (table_spots S.opens o looks)
      → AllByRecursion Q (table_spots S.opens o looks)
  each_of_table None looks among own all = tt
  each_of_table (Some table) looks among own all = each_look table looks among own all

-- ---- what holds of a list of spots where each of another holds

module _ (P Q : Spot → Type 0) (leads : (spot : Spot) → P spot → Q spot) where
  pub all_lead : (those : List Spot) → AllByRecursion P those → AllByRecursion Q those
  all_lead [] all = tt
  all_lead (spot ∷ those) all = (leads spot all.0, all_lead those all.1)

-- ---- spots that are the same

-- an open that is of a process is no end, and none waits at it
process_flags : (kind : Option OpenKind) (q object : ℕ) → bare kind ≡ Some (Process q object) → never_waits kind ≡ false
process_flags None q object is = refl
process_flags (Some (File node offset flags)) q object is = refl
process_flags (Some (Directory node flags)) q object is = refl
process_flags (Some (End reads writes flags form)) q object is = absurd (end_is_none reads writes form (same_some _ _ is)) where
  end_is_none : (reads writes : Option ℕ) (form : _) → End reads writes 0 form ≡ Process q object → ⊥
  end_is_none reads writes form e = cc
process_flags (Some (Terminal which flags)) q object is = refl
process_flags (Some (Process r other)) q object is = refl

module _ (S T : State) (p : ℕ) (w : Waiting) (N : ℕ → Type 0)
    (channels : (c n : ℕ) (table : Table) (d : Descriptor) → N n → stands (Channel c) w ≡ true → get S.tables p ≡ Some table → get table n ≡ Some d
    → (is_reader c (get S.opens d.id) || is_writer c (get S.opens d.id)) ≡ true → get T.chans c ≡ get S.chans c)
    (ends : (q n : ℕ) (table : Table) (d : Descriptor) → N n → stands (Ended q) w ≡ true → get S.tables p ≡ Some table → get table n ≡ Some d
    → is_of_process q (get S.opens d.id) ≡ true → get T.statuses q ≡ get S.statuses q)
    (flags : (c n : ℕ) (table : Table) (d : Descriptor) → N n → stands (Channel c) w ≡ true → get S.tables p ≡ Some table → get table n ≡ Some d
    → (is_reader c (get S.opens d.id) || is_writer c (get S.opens d.id)) ≡ true → never_waits (get T.opens d.id) ≡ never_waits (get S.opens d.id))
    (table : get T.tables p ≡ get S.tables p)
    (opens : (n : ℕ) (table : Table) (d : Descriptor) → N n → get S.tables p ≡ Some table → get table n ≡ Some d
    → bare (get T.opens d.id) ≡ bare (get S.opens d.id)) where
  abbrev Same : Spot → Type 0
  Same spot = IsSame S T spot

  -- at a channel of an open, whose flags count
  at_channel : (counts : Bool) (o c : ℕ)
      → (stands (Channel c) w ≡ true → (never_waits (get T.opens o) ≡ never_waits (get S.opens o)) × (get T.chans c ≡ get S.chans c))
      → AllByRecursion (StandsAt w) (with_flags counts o (on_channel c ∷ [])) → AllByRecursion Same (with_flags counts o (on_channel c ∷ []))
  at_channel false o c as_before all = (sym (as_before all.0).1, tt)
  at_channel true o c as_before all = let same = as_before all.1.0 in (sym same.0, (sym same.1, tt))

  reads_it : (c : ℕ) (writes : Option ℕ) (bits : ℕ) (form : _) → (is_reader c (Some (End (Some c) writes bits form)) || is_writer c (Some (End (Some c) writes bits form))) ≡ true
  reads_it c writes bits form = ap (λ b. b || is_writer c (Some (End (Some c) writes bits form))) (eq-eqb c c refl)

  writes_it : (c : ℕ) (reads : Option ℕ) (bits : ℕ) (form : _) → (is_reader c (Some (End reads (Some c) bits form)) || is_writer c (Some (End reads (Some c) bits form))) ≡ true
  writes_it c reads bits form =
      ap (λ b. is_reader c (Some (End reads (Some c) bits form)) || b) (eq-eqb c c refl) ∙ or_true (is_reader c (Some (End reads (Some c) bits form)))

  at_end : (counts : Bool) (o q object : ℕ) → get S.opens o ≡ Some (Process q object) → bare (get T.opens o) ≡ bare (get S.opens o)
      → (stands (Ended q) w ≡ true → get T.statuses q ≡ get S.statuses q)
      → AllByRecursion (StandsAt w) (with_flags counts o (on_end q ∷ [])) → AllByRecursion Same (with_flags counts o (on_end q ∷ []))
  at_end false o q object is same ended all = (sym (ended all.0), tt)
  at_end true o q object is same ended all =
      (ap never_waits is ∙ sym (process_flags (get T.opens o) q object (same ∙ ap bare is)), (sym (ended all.1.0), tt))

  behind : (counts : Bool) (purpose : Purpose) (o : ℕ) (kind : Option OpenKind) → get S.opens o ≡ kind → bare (get T.opens o) ≡ bare (get S.opens o)
      → ((c : ℕ) → stands (Channel c) w ≡ true → (is_reader c kind || is_writer c kind) ≡ true
      → (never_waits (get T.opens o) ≡ never_waits (get S.opens o)) × (get T.chans c ≡ get S.chans c))
      → ((q : ℕ) → stands (Ended q) w ≡ true → is_of_process q kind ≡ true → get T.statuses q ≡ get S.statuses q)
      → AllByRecursion (StandsAt w) (with_flags counts o (behind_spots purpose kind)) → AllByRecursion Same (with_flags counts o (behind_spots purpose kind))
  behind counts to_read o (Some (End (Some c) writes bits form)) is same as_before ended all =
      at_channel counts o c (λ at. as_before c at (reads_it c writes bits form)) all
  behind counts to_write o (Some (End reads (Some c) bits form)) is same as_before ended all =
      at_channel counts o c (λ at. as_before c at (writes_it c reads bits form)) all
  behind counts to_await o (Some (Process q object)) is same as_before ended all = at_end counts o q object is same (λ at. ended q at (eq-eqb q q refl)) all
  behind counts _ o _ is same as_before ended all = tt

  same_row : (n : ℕ) (table : Table) (d : Descriptor) → N n → get S.tables p ≡ Some table → get table n ≡ Some d
      → (look : Look) → AllByRecursion (StandsAt w) (descriptor_spots S.opens look (Some d)) → AllByRecursion Same (descriptor_spots S.opens look (Some d))
  same_row n table d among own there look all =
      let same = opens n table d among own there in (
        sym same,
        behind look.flags look.purpose d.id (get S.opens d.id) refl same
            (λ c at of. (flags c n table d among at own there of, channels c n table d among at own there of))
            (λ q at of. ends q n table d among at own there of) all.1,
      )

  pub same_call : (by_stage : Bool) (call : Call) → AllByRecursion (λ (look : Look). N look.fd) (looks_of call)
      → AllByRecursion (StandsAt w) (call_spots by_stage S p call) → AllByRecursion Same (call_spots by_stage S p call)
  same_call true call among all = tt
  same_call false call among all = (sym table, each_of_table S p N (StandsAt w) Same same_row (get S.tables p) (looks_of call) among refl all.1)

-- ---- spots that are left such that nobody moves

module _ (S T : State) (p : ℕ) (w : Waiting) (N : ℕ → Type 0) (table : get T.tables p ≡ get S.tables p)
    (opens : (n : ℕ) (table : Table) (d : Descriptor) → N n → get S.tables p ≡ Some table → get table n ≡ Some d
    → bare (get T.opens d.id) ≡ bare (get S.opens d.id)) where
  abbrev Stays : Spot → Type 0
  Stays spot = LeavesPlaces S T spot

  channel_stays : (counts : Bool) (o : ℕ) (c : Option ℕ) → AllByRecursion Stays (with_flags counts o (channel_spot c))
  channel_stays counts o None = tt
  channel_stays false o (Some c) = (tt, tt)
  channel_stays true o (Some c) = (tt, (tt, tt))

  end_stays : (counts : Bool) (o q : ℕ) → AllByRecursion Stays (with_flags counts o (on_end q ∷ []))
  end_stays false o q = (tt, tt)
  end_stays true o q = (tt, (tt, tt))

  behind_stays : (counts : Bool) (purpose : Purpose) (o : ℕ) (kind : Option OpenKind) → AllByRecursion Stays (with_flags counts o (behind_spots purpose kind))
  behind_stays counts to_read o (Some (End reads writes bits form)) = channel_stays counts o reads
  behind_stays counts to_write o (Some (End reads writes bits form)) = channel_stays counts o writes
  behind_stays counts to_await o (Some (Process q object)) = end_stays counts o q
  behind_stays counts _ o _ = tt

  row_stays : (n : ℕ) (table : Table) (d : Descriptor) → N n → get S.tables p ≡ Some table → get table n ≡ Some d
      → (look : Look) → AllByRecursion (StandsAt w) (descriptor_spots S.opens look (Some d)) → AllByRecursion Stays (descriptor_spots S.opens look (Some d))
  row_stays n table d among own there look all = (sym (opens n table d among own there), behind_stays look.flags look.purpose d.id (get S.opens d.id))

  pub stay_call : (by_stage : Bool) (call : Call) → AllByRecursion (λ (look : Look). N look.fd) (looks_of call)
      → AllByRecursion (StandsAt w) (call_spots by_stage S p call) → AllByRecursion Stays (call_spots by_stage S p call)
  stay_call true call among all = tt
  stay_call false call among all = (sym table, each_of_table S p N (StandsAt w) Stays row_stays (get S.tables p) (looks_of call) among refl all.1)
