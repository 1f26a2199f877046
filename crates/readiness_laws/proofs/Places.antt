-- Where threads stand after the entries of a history.
--     places_are_kept
use Rattle.std.proofs.Common.{◌≡◌, ℕ, Bool, true, false, List, [], ◌∷◌, ◌++◌, Option, None, Some, refl, sym, ap, subst, ◌∙◌}
use Rattle.std.specs.Ordering.{nat_cmp}
use Rattle.std.specs.FinMap.{FinMap, get}
use Rattle.std.specs.List.{AllByRecursion}
use Rattle.abi_types.specs.declared.call.Call.{Call}
use Rattle.abi_types.specs.declared.constants.Constants.{Constants}
use Rattle.abi_types.specs.declared.descriptor.Descriptor.{Descriptor}
use Rattle.abi_types.specs.declared.open_kind.OpenKind.{OpenKind}
use Rattle.abi_types.specs.declared.open_kind.OpenKind.TheVariants.{File, Directory, End, Terminal, Process}
use Rattle.abi_types.specs.declared.reply.Answer.{Answer}
use Rattle.abi_types.specs.declared.thread.Thread.{Thread}
use Rattle.abi_types.specs.declared.thread.Thread.TheVariants.{Runnable, Waits}
use Rattle.abi_types.specs.declared.wake.WakeIn.{WakeIn}
use Rattle.abi_types.specs.declared.wake.WakeIn.TheVariants as wake
use Rattle.abi_types.specs.declared.who.Who.{Who}
use Rattle.kernel_model.specs.Calls.{meaning_of}
use Rattle.kernel_model.specs.Families.Locks.{with_word}
use Rattle.kernel_model.specs.OpenLaws.{IsOfSame, OpensStay}
use Rattle.kernel_model.specs.State.{State, Table, thread_of}
use Rattle.kernel_model.specs.Step.{end_state}
use Rattle.kernel_model.specs.Valid.{IsNamed, IsValid}
use Rattle.kernel_model.specs.Waits.{resumed}
use Rattle.kernel_model.specs.Wakes.{IsWake}
use Rattle.kernel_model.proofs.OpenTargets.{ends_keep_opens, opens_stay, opens_stay_here}
use Rattle.kernel_model.proofs.Steps.{end_valid, step_keeps_valid}
use Rattle.kernel_model.proofs.Tests.{none_is_no}
use Rattle.kernel_model.proofs.Waking.{resumed_valid, wake_keeps_valid}
use Rattle.readiness_laws.specs.LocalityLaws.{LeavesPlaces}
use Rattle.readiness_laws.specs.PlaceLaws.{HasStayed, PlacesAreKept, looks_in, row_in}
use Rattle.readiness_laws.specs.Spots.{Look, Purpose, Spot, to_await, bare, behind_spots, call_spots, channel_spot, descriptor_spots, with_flags, look_spots, looks_of, moment_spot, on_open, on_table, on_thread, to_read, spots, table_spots, waiting_spots, to_write}
use Rattle.readiness_laws.proofs.Standing.{behind_bare}

-- opens of the same are of it whatever their flags
bare_same : (one other : OpenKind) → IsOfSame one other → bare (Some one) ≡ bare (Some other)
bare_same (File n offset flags) (File m other_offset other_flags) same = ap (λ k. Some (File k 0 0)) same
bare_same (Directory n flags) (Directory m other_flags) same = ap (λ k. Some (Directory k 0)) same
bare_same (End reads writes flags form) (End other_reads other_writes other_flags other_form) same = λ i. Some (End (same.0 i) (same.1 i) 0 (same.2 i))
bare_same (Terminal which flags) (Terminal other other_flags) same = ap (λ k. Some (Terminal k 0)) same
bare_same (Process p object) (Process q other) same = λ i. Some (Process (same.0 i) (same.1 i))
bare_same _ _ same = absurd same

bare_named : (d : Descriptor) (one other : Option OpenKind) → IsNamed one d → IsNamed other d
    → ((before after : OpenKind) → one ≡ Some before → other ≡ Some after → IsOfSame before after) → bare one ≡ bare other
bare_named d None other named still stay = absurd named
bare_named d (Some before) None named still stay = absurd still
bare_named d (Some before) (Some after) named still stay = bare_same before after (stay before after refl refl)

module _ (S T : State) where
  abbrev pub Stay : List Spot → Type 0
  Stay those = AllByRecursion (LeavesPlaces S T) those

  pub join : (xs ys : List Spot) → Stay xs → Stay ys → Stay (xs ++ ys)
  join [] ys one other = other
  join (x ∷ xs) ys one other = (one.0, join xs ys one.1 other)

  channel_stays : (o : Option ℕ) → Stay (channel_spot o)
  channel_stays None = tt
  channel_stays (Some c) = (tt, tt)

  behind_stay : (purpose : Purpose) (kind : Option OpenKind) → Stay (behind_spots purpose kind)
  behind_stay to_read (Some (End reads writes flags form)) = channel_stays reads
  behind_stay to_write (Some (End reads writes flags form)) = channel_stays writes
  behind_stay to_await (Some (Process p object)) = (tt, tt)
  behind_stay _ _ = tt

  flags_stay : (counts : Bool) (o : ℕ) (those : List Spot) → Stay those → Stay (with_flags counts o those)
  flags_stay counts o [] stay = tt
  flags_stay false o (spot ∷ rest) stay = stay
  flags_stay true o (spot ∷ rest) stay = (tt, stay)

  pub moment_stays : (o : Option ℕ) → Stay (moment_spot o)
  moment_stays None = tt
  moment_stays (Some until) = (tt, tt)

  module _ (before : IsValid S) (after : IsValid T) (opens : OpensStay S T) (p : ℕ) (same : get S.tables p ≡ get T.tables p) where
    descriptor_stays : (table : Table) (look : Look) (o : Option Descriptor) → get S.tables p ≡ Some table → get table look.fd ≡ o
        → Stay (descriptor_spots S.opens look o)
    descriptor_stays table look None own there = tt
    descriptor_stays table look (Some d) own there = (
      bare_named d (get S.opens d.id) (get T.opens d.id) (before.nearly.named p look.fd table d own there)
          (after.nearly.named p look.fd table d (sym same ∙ own) there) (opens d.id),
      flags_stay look.flags d.id (behind_spots look.purpose (get S.opens d.id)) (behind_stay look.purpose (get S.opens d.id)),
    )

    looks_stay : (table : Table) → get S.tables p ≡ Some table → (looks : List Look) → Stay (look_spots S.opens table looks)
    looks_stay table own [] = tt
    looks_stay table own (look ∷ looks) =
        join (descriptor_spots S.opens look (get table look.fd)) (look_spots S.opens table looks) (descriptor_stays table look (get table look.fd) own refl)
        (looks_stay table own looks)

    table_stays : (o : Option Table) → get S.tables p ≡ o → (looks : List Look) → Stay (table_spots S.opens o looks)
    table_stays None own looks = tt
    table_stays (Some table) own looks = looks_stay table own looks

    pub call_stays : (by_stage : Bool) (call : Call) → Stay (call_spots by_stage S p call)
    call_stays true call = tt
    call_stays false call = (same, table_stays (get S.tables p) refl (looks_of call))

-- ---- by the numbers that a call names

abbrev rows_spots : FinMap nat_cmp OpenKind → Option Table → List Look → List Spot
rows_spots opens o [] = []
rows_spots opens o (look ∷ looks) = descriptor_spots opens look (row_in o look.fd) ++ rows_spots opens o looks

by_rows : (opens : FinMap nat_cmp OpenKind) (o : Option Table) (looks : List Look) → table_spots opens o looks ≡ rows_spots opens o looks
by_rows opens None [] = refl
by_rows opens None (look ∷ looks) = by_rows opens None looks
by_rows opens (Some table) [] = refl
by_rows opens (Some table) (look ∷ looks) = ap (λ those. descriptor_spots opens look (get table look.fd) ++ those) (by_rows opens (Some table) looks)

-- the open of a descriptor that a process has is there
row_named : (S : State) (p fd : ℕ) (d : Descriptor) → IsValid S → (o : Option Table) → get S.tables p ≡ o → row_in o fd ≡ Some d → IsNamed (get S.opens d.id) d
row_named S p fd d valid None own there = absurd (none_is_no d there)
row_named S p fd d valid (Some table) own there = valid.nearly.named p fd table d own there

module _ (S T : State) (before : IsValid S) (after : IsValid T) (opens : OpensStay S T) (p : ℕ) where
  abbrev row : State → ℕ → Option Descriptor
  row U fd = row_in (get U.tables p) fd

  row_kept : (look : Look) (o : Option Descriptor) → row S look.fd ≡ o → row T look.fd ≡ o → descriptor_spots T.opens look o ≡ descriptor_spots S.opens look o
  row_kept look None was is = refl
  row_kept look (Some d) was is =
      let same = bare_named d (get S.opens d.id) (get T.opens d.id) (row_named S p look.fd d before (get S.tables p) refl was)
      (row_named T p look.fd d after (get T.tables p) refl is) (opens d.id) in
      ap (λ those. on_open d.id ∷ with_flags look.flags d.id those)
      (behind_bare look.purpose (get T.opens d.id) ∙ ap (behind_spots look.purpose) (sym same) ∙ sym (behind_bare look.purpose (get S.opens d.id)))

  rows_kept : (looks : List Look) → AllByRecursion (λ (look : Look). row S look.fd ≡ row T look.fd) looks
      → rows_spots T.opens (get T.tables p) looks ≡ rows_spots S.opens (get S.tables p) looks
  rows_kept [] all = refl
  rows_kept (look ∷ looks) all =
      ap (λ those. descriptor_spots T.opens look (row T look.fd) ++ those) (rows_kept looks all.1)
      ∙ ap (λ those. those ++ rows_spots S.opens (get S.tables p) looks)
      (ap (descriptor_spots T.opens look) (sym all.0) ∙ row_kept look (row S look.fd) refl (sym all.0))

  call_kept : (by_stage : Bool) (call : Call) → AllByRecursion (λ (look : Look). row S look.fd ≡ row T look.fd) (looks_of call)
      → call_spots by_stage T p call ≡ call_spots by_stage S p call
  call_kept true call all = refl
  call_kept false call all =
      ap (λ those. on_table p ∷ those)
      (by_rows T.opens (get T.tables p) (looks_of call) ∙ rows_kept (looks_of call) all ∙ sym (by_rows S.opens (get S.tables p) (looks_of call)))

  waiting_kept : (o : Option Thread) → AllByRecursion (λ (look : Look). row S look.fd ≡ row T look.fd) (looks_in o)
      → waiting_spots T p o ≡ waiting_spots S p o
  waiting_kept None all = refl
  waiting_kept (Some Runnable) all = refl
  waiting_kept (Some (Waits call since until stage)) all = ap (λ those. moment_spot until ++ those) (call_kept (meaning_of call).by_stage call all)

  kept : (t : ℕ) → HasStayed S T p t → spots T p t ≡ spots S p t
  kept t stayed =
      ap (λ o. on_thread p t ∷ waiting_spots T p o) (sym stayed.thread)
      ∙ ap (λ those. on_thread p t ∷ those) (waiting_kept (thread_of S p t) stayed.rows)

pub wake_opens : (constants : Constants) (S : State) (who : Who) (call : Call) (given : WakeIn) (answered : Answer) (T : State)
    → IsWake constants S who call given answered T → IsValid S → OpensStay S T
wake_opens constants S who call wake.Fault answered T is valid = subst (OpensStay S) (sym is.1) (opens_stay_here S)
wake_opens constants S who call (wake.Plain word) answered T is valid =
    opens_stay constants (resumed S who) who (with_word word call) answered T (resumed_valid S who valid) is.0

pub places_are_kept : PlacesAreKept
places_are_kept = record {
  steps = λ constants S who call given T step valid p t stayed.
      kept S T valid (step_keeps_valid constants S who call given T step valid) (opens_stay constants S who call given T valid step) p t stayed;
  wakes = λ constants S who call given answered T wakes valid p t stayed.
      kept S T valid (wake_keeps_valid constants S who call given answered T wakes valid) (wake_opens constants S who call given answered T wakes valid) p t stayed;
  ends = λ S p status there dead valid q t stayed.
      kept S (end_state S p status) valid (end_valid S p status there dead valid) (ends_keep_opens S p status) q t stayed;
}
