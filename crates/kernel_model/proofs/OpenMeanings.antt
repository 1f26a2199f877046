-- What a meaning on the open of one descriptor keeps to that may make another one of it, and that it is then proper.
--     IsOfNoProcess, apart_unset, apart_processes, apart_tables      updates of opens, of the tree and of streams set nothing of a
--         process, and keep what it has of its own and its descriptors
--     SeesWell m, OpensWell m      what is shown of each such meaning, beside what it sets and with it
--     by_open_is_proper      it is proper
use Rattle.std.proofs.Common.{◌≡◌, ◌≢◌, inl, inr, ℕ, ◌||◌, Bool, true, false, List, [], ◌∷◌, ◌++◌, map, Option, Some, None, refl, ap, ◌∙◌}
use Rattle.std.specs.Prelude.{⊤}
use Rattle.std.specs.FinMap.{get}
use Rattle.std.specs.List.{AllByRecursion}
use Rattle.abi_base.specs.declared.errno.Errno.TheVariants.{Badf, Nomem}
use Rattle.abi_types.specs.declared.descriptor.Descriptor.{Descriptor}
use Rattle.abi_types.specs.declared.needed.Needed.{Needed}
use Rattle.abi_types.specs.declared.open_kind.OpenKind.{OpenKind}
use Rattle.kernel_model.specs.Families.ClockCalls.{real_time}
use Rattle.kernel_model.specs.Families.OpenMeaning.{OpenMeaning, at_descriptor, by_open, moved_part, touched_at}
use Rattle.kernel_model.specs.Outcome.{Outcome, is_parked, replies}
use Rattle.kernel_model.specs.Proper.{AllCarryOn, IsIn, IsPlain, IsProper, IsUnset, OrWaits, may_send}
use Rattle.kernel_model.specs.Reply.{refused}
use Rattle.kernel_model.specs.Sight.{process_parts, behind, reached_by}
use Rattle.kernel_model.specs.State.{ProcessState, State, Table, Part, Update, at_proc, at_status, at_open, same_part, has_part, part_of, put_all, put_one, drop_own, set_table, set_process, set_status}
use Rattle.kernel_model.specs.Step.{tick}
use Rattle.kernel_model.specs.Valid.{IsNearlyValid}
use Rattle.kernel_model.specs.View.{View, restrict, whole}
use Rattle.kernel_model.proofs.Branches.{seen_parts}
use Rattle.kernel_model.proofs.Parts.{own_same, beyond_process, has_left}
use Rattle.kernel_model.proofs.Sights.{open_seen}
use Rattle.kernel_model.proofs.Tests.{either_true, not_true, or_true}

-- ---- updates of opens, of the tree and of streams

-- the update is of nothing that a process has of its own
abbrev pub IsOfNoProcess : Update → Type 0
IsOfNoProcess (set_table p table) = ⊥
IsOfNoProcess (set_process p own) = ⊥
IsOfNoProcess (drop_own p) = ⊥
IsOfNoProcess (set_status p status) = ⊥
IsOfNoProcess _ = ⊤

abbrev pub AreOfNoProcess : List Update → Type 0
AreOfNoProcess us = AllByRecursion IsOfNoProcess us

one_unset : (u : Update) (q : ℕ) → IsOfNoProcess u → (same_part (part_of u) (at_proc q) ≡ false) × (same_part (part_of u) (at_status q) ≡ false)
one_unset (set_table p table) q h = absurd h
one_unset (set_process p own) q h = absurd h
one_unset (drop_own p) q h = absurd h
one_unset (set_status p status) q h = absurd h
one_unset u q h = (refl, refl)

pub apart_unset : (us : List Update) (q : ℕ) → AreOfNoProcess us
    → (has_part (map part_of us) (at_proc q) ≡ false) × (has_part (map part_of us) (at_status q) ≡ false)
apart_unset [] q h = (refl, refl)
apart_unset (u ∷ us) q h =
    let one = one_unset u q h.0 in
    let rest = apart_unset us q h.1 in (
      ap (λ b. b || has_part (map part_of us) (at_proc q)) one.0 ∙ rest.0,
      ap (λ b. b || has_part (map part_of us) (at_status q)) one.1 ∙ rest.1,
    )

one_processes : (u : Update) (S : State) → IsOfNoProcess u → (put_one u S).processes ≡ S.processes
one_processes (set_process q own) S h = absurd h
one_processes (drop_own q) S h = absurd h
one_processes u S h = refl

pub apart_processes : (us : List Update) (S : State) → AreOfNoProcess us → (put_all us S).processes ≡ S.processes
apart_processes [] S h = refl
apart_processes (u ∷ us) S h = apart_processes us (put_one u S) h.1 ∙ one_processes u S h.0

one_tables : (u : Update) (S : State) → IsOfNoProcess u → (put_one u S).tables ≡ S.tables
one_tables (set_table p table) S h = absurd h
one_tables (drop_own p) S h = absurd h
one_tables u S h = refl

pub apart_tables : (us : List Update) (S : State) → AreOfNoProcess us → (put_all us S).tables ≡ S.tables
apart_tables [] S h = refl
apart_tables (u ∷ us) S h = apart_tables us (put_one u S) h.1 ∙ one_tables u S h.0

-- ---- meanings

-- how a thread waits in what is done with an open
pub record WaitsWell (m : OpenMeaning) : Type 0 where
  -- where it waits it waits at each other moment: it waits for what others do
  pub patient : (now before : ℕ) (v : View) (clock o : ℕ) (kind : Option OpenKind) → is_parked (m.effect now v o kind).answer ≡ true
      → is_parked (m.effect before (record v { clock = clock }) o kind).answer ≡ true
  pub keeps : m.takes_memory ≡ true

-- what is shown of each such meaning beside what it sets
pub record SeesWell (m : OpenMeaning) : Type 0 where
  -- by what it sees it does what it does by the whole state
  pub reads : (now : ℕ) (S : State) (p o : ℕ) (kind : Option OpenKind)
      → m.effect now (restrict S (seen_parts S p o kind)) o kind ≡ m.effect now (whole S) o kind
  pub seen : (S : State) (kind : Option OpenKind) (q : Part) → has_part (m.touched kind) q ≡ true → has_part (behind S kind) q ≡ true
  -- its thread waits, where it may, or it has its reply
  pub plain : (now p : ℕ) (own : Option ProcessState) (v : View) (o : ℕ) (kind : Option OpenKind) → OrWaits m.may_wait p own (m.effect now v o kind) (IsPlain m.errors (m.effect now v o kind))
  pub badf : IsIn Badf m.errors
  pub lacks : m.takes_memory ≡ true → AllByRecursion (λ errno. errno ≢ Nomem) m.errors
  pub waits : m.may_wait ≡ true → WaitsWell m

pub record OpensWell (m : OpenMeaning) : Type 0 where
  pub sees : SeesWell m
  -- it sets nothing of a process, and nothing beside the open that it doesn't say; and it sees that
  pub apart : (now : ℕ) (v : View) (o : ℕ) (kind : Option OpenKind) → AreOfNoProcess (m.effect now v o kind).updates
  pub sets : (now : ℕ) (v : View) (o : ℕ) (kind : Option OpenKind) (q : Part) → has_part (moved_part (m.moves kind) o ++ m.touched kind) q ≡ false
      → IsUnset (m.effect now v o kind) q
  -- channels go on, whatever the table is
  pub carries : (now : ℕ) (S : State) (o : ℕ) (kind : Option OpenKind) (table : Table)
      → AllCarryOn S (table, [], may_send m.errors) (m.effect now (whole S) o kind)
  -- it leaves a nearly valid state so
  pub valid : (now : ℕ) (S : State) (o : ℕ) (kind : Option OpenKind) → get S.opens o ≡ kind → IsNearlyValid S
      → IsNearlyValid (put_all (m.effect now (whole S) o kind).updates S)

-- where a thread may wait it waits, or this holds
pub or_waits : (b : Bool) (p : ℕ) (own : Option ProcessState) (o : Outcome) (P : Type 0) → P → OrWaits b p own o P
or_waits true p own o P h = inr h
or_waits false p own o P h = h

module _ (m : OpenMeaning) (well : SeesWell m) where
  pub reads_descriptor : (now : ℕ) (S : State) (p : ℕ) (d : Option Descriptor)
      → at_descriptor (m.effect now (restrict S (process_parts p ++ (reached_by S d ++ [])))) (restrict S (process_parts p ++ (reached_by S d ++ []))) d
      ≡ at_descriptor (m.effect now (whole S)) (whole S) d
  reads_descriptor now S p None = refl
  reads_descriptor now S p (Some d) =
      ap (m.effect now (restrict S (process_parts p ++ (reached_by S (Some d) ++ []))) d.id) (open_seen S p d)
      ∙ well.reads now S p d.id (get S.opens d.id)

  -- what stands behind the open is seen, and the open, whether it may move or not
  seen_behind : (S : State) (d : Descriptor) (q : Part) → has_part (m.touched (get S.opens d.id)) q ≡ true → has_part (reached_by S (Some d)) q ≡ true
  seen_behind S d q h = ap (λ b. same_part (at_open d.id) q || b) (well.seen S (get S.opens d.id) q h) ∙ or_true (same_part (at_open d.id) q)

  seen_with_open : (S : State) (d : Descriptor) (moves : Bool) (q : Part) → has_part (moved_part moves d.id ++ m.touched (get S.opens d.id)) q ≡ true
      → has_part (reached_by S (Some d)) q ≡ true
  seen_with_open S d false q h = seen_behind S d q h
  seen_with_open S d true q h =
      elim (either_true (same_part (at_open d.id) q) (has_part (m.touched (get S.opens d.id)) q) h) [
        | inl is ↦ ap (λ b. b || has_part (behind S (get S.opens d.id)) q) is
        | inr there ↦ seen_behind S d q there
      ]

  pub seen_descriptor : (S : State) (d : Option Descriptor) (q : Part) → has_part (touched_at m S d) q ≡ true
      → has_part (reached_by S d ++ []) q ≡ true
  seen_descriptor S None q h = absurd (not_true h)
  seen_descriptor S (Some d) q h = has_left (reached_by S (Some d)) [] q (seen_with_open S d (m.moves (get S.opens d.id)) q h)

  pub plain_descriptor : (now p : ℕ) (own : Option ProcessState) (v : View) (d : Option Descriptor)
      → OrWaits m.may_wait p own (at_descriptor (m.effect now v) v d) (IsPlain m.errors (at_descriptor (m.effect now v) v d))
  plain_descriptor now p own v None =
      or_waits m.may_wait p own (replies (refused Badf)) (IsPlain m.errors (replies (refused Badf))) (refl, inr (refl, well.badf))
  plain_descriptor now p own v (Some d) = well.plain now p own v d.id (v.opened d.id)

  pub patient_descriptor : (waits : WaitsWell m) (now before : ℕ) (v : View) (clock : ℕ) (d : Option Descriptor)
      → is_parked (at_descriptor (m.effect now v) v d).answer ≡ true
      → is_parked (at_descriptor (m.effect before (record v { clock = clock })) (record v { clock = clock }) d).answer ≡ true
  patient_descriptor waits now before v clock None h = absurd (not_true h)
  patient_descriptor waits now before v clock (Some d) h = waits.patient now before v clock d.id (v.opened d.id) h

module _ (m : OpenMeaning) (well : OpensWell m) where
  pub sets_descriptor : (now : ℕ) (S : State) (d : Option Descriptor) (q : Part)
      → has_part (touched_at m S d) q ≡ false
      → IsUnset (at_descriptor (m.effect now (whole (tick S))) (whole (tick S)) d) q
  sets_descriptor now S None q h = refl
  sets_descriptor now S (Some d) q h = well.sets now (whole (tick S)) d.id (get S.opens d.id) q h

  pub apart_descriptor : (now : ℕ) (v : View) (d : Option Descriptor) → AreOfNoProcess (at_descriptor (m.effect now v) v d).updates
  apart_descriptor now v None = tt
  apart_descriptor now v (Some d) = well.apart now v d.id (v.opened d.id)

  carries_descriptor : (now : ℕ) (S : State) (d : Option Descriptor) (table : Table)
      → AllCarryOn S (table, [], may_send m.errors) (at_descriptor (m.effect now (whole S)) (whole S) d)
  carries_descriptor now S None table = tt
  carries_descriptor now S (Some d) table = well.carries now S d.id (get S.opens d.id) table

  valid_descriptor : (now : ℕ) (S : State) (d : Option Descriptor) → IsNearlyValid S
      → IsNearlyValid (put_all (at_descriptor (m.effect now (whole S)) (whole S) d).updates S)
  valid_descriptor now S None nearly = nearly
  valid_descriptor now S (Some d) nearly = well.valid now S d.id (get S.opens d.id) refl nearly

  pub by_open_is_proper : (row : Needed) → IsProper (by_open row m)
  by_open_is_proper row = record {
    names = (([], [], refl), tt);
    sees = (inl (row, ([], [], refl), refl), tt);
    reads = λ constants S who table. reads_descriptor m well.sees (real_time constants S.clock) S who.pid (get table row.fd);
    walks = λ S who table. refl;
    sets = λ constants S who table part h.
        sets_descriptor (real_time constants (tick S).clock) S (get table row.fd) part
        (beyond_process who.pid (touched_at m S (get table row.fd)) part h).1;
    touched = λ S table part h. seen_descriptor m well.sees S (get table row.fd) part h;
    plain = λ constants v who table. plain_descriptor m well.sees (real_time constants v.clock) who.pid (v.process who.pid) v (get table row.fd);
    waits = λ may. record {
      patient = λ constants v who table before earlier waits.
          patient_descriptor m well.sees (well.sees.waits may) (real_time constants v.clock) (real_time constants before) v before (get table row.fd) waits;
      due = λ _ constants v who table come. absurd (not_true come);
      inside = λ v table. refl;
      keeps = (well.sees.waits may).keeps;
    };
    lacks = well.sees.lacks;
    others = λ constants v who table q other _.
        apart_unset (at_descriptor (m.effect (real_time constants v.clock) v) v (get table row.fd)).updates q
        (apart_descriptor (real_time constants v.clock) v (get table row.fd));
    own = λ constants S who table.
        inl (own_same (get S.processes who.pid) _
        (ap (λ processes. get processes who.pid)
        (apart_processes (at_descriptor (m.effect (real_time constants S.clock) (whole S)) (whole S) (get table row.fd)).updates S
        (apart_descriptor (real_time constants S.clock) (whole S) (get table row.fd)))));
    allows = λ constants S who table. tt;
    carries = λ constants S who table nearly. carries_descriptor (real_time constants S.clock) S (get table row.fd) table;
    valid = λ constants S who table there nearly. valid_descriptor (real_time constants S.clock) S (get table row.fd) nearly;
  }
