-- The spots of a thread.
--     all_joined, all_first, all_second      what holds of each of two lists of spots
--     first_same, second_same      of two lists of spots that are the same each is
--     call_stays, waiting_stays, places_stay, spots_stay      a thread stands where it stood
use Rattle.std.proofs.Common.{◌≡◌, ℕ, Bool, true, false, List, [], ◌∷◌, ◌++◌, Option, None, Some, refl, sym, ap, ◌∙◌}
use Rattle.std.specs.FinMap.{get}
use Rattle.std.specs.List.{AllByRecursion}
use Rattle.abi_types.specs.declared.call.Call.{Call}
use Rattle.abi_types.specs.declared.descriptor.Descriptor.{Descriptor}
use Rattle.abi_types.specs.declared.open_kind.OpenKind.{OpenKind}
use Rattle.abi_types.specs.declared.open_kind.OpenKind.TheVariants.{File, Directory, End, Terminal, Process}
use Rattle.abi_types.specs.declared.thread.Thread.{Thread}
use Rattle.abi_types.specs.declared.thread.Thread.TheVariants.{Runnable, Waits}
use Rattle.kernel_model.specs.Calls.{meaning_of}
use Rattle.kernel_model.specs.State.{State, Table, thread_of}
use Rattle.readiness_laws.specs.LocalityLaws.{LeavesPlaces, PlacesStay}
use Rattle.readiness_laws.specs.Spots.{Look, Purpose, Spot, AreSame, IsSame, bare, behind_spots, call_spots, descriptor_spots, with_flags, look_spots, looks_of, moment_spot, on_channel, on_end, on_flags, on_moment, on_open, on_table, on_thread, to_read, to_write, to_await, spots, table_spots, waiting_spots}

module _ (P : Spot → Type 0) where
  pub all_joined : (xs ys : List Spot) → AllByRecursion P xs → AllByRecursion P ys → AllByRecursion P (xs ++ ys)
  all_joined [] ys one other = other
  all_joined (x ∷ xs) ys one other = (one.0, all_joined xs ys one.1 other)

  pub all_first : (xs ys : List Spot) → AllByRecursion P (xs ++ ys) → AllByRecursion P xs
  all_first [] ys all = tt
  all_first (x ∷ xs) ys all = (all.0, all_first xs ys all.1)

  pub all_second : (xs ys : List Spot) → AllByRecursion P (xs ++ ys) → AllByRecursion P ys
  all_second [] ys all = all
  all_second (x ∷ xs) ys all = all_second xs ys all.1

-- what stands behind an open hangs on what that is of
pub behind_bare : (purpose : Purpose) (kind : Option OpenKind) → behind_spots purpose kind ≡ behind_spots purpose (bare kind)
behind_bare to_read None = refl
behind_bare to_read (Some (File node offset flags)) = refl
behind_bare to_read (Some (Directory node flags)) = refl
behind_bare to_read (Some (End reads writes flags form)) = refl
behind_bare to_read (Some (Terminal which flags)) = refl
behind_bare to_read (Some (Process p object)) = refl
behind_bare to_write None = refl
behind_bare to_write (Some (File node offset flags)) = refl
behind_bare to_write (Some (Directory node flags)) = refl
behind_bare to_write (Some (End reads writes flags form)) = refl
behind_bare to_write (Some (Terminal which flags)) = refl
behind_bare to_write (Some (Process p object)) = refl
behind_bare to_await None = refl
behind_bare to_await (Some (File node offset flags)) = refl
behind_bare to_await (Some (Directory node flags)) = refl
behind_bare to_await (Some (End reads writes flags form)) = refl
behind_bare to_await (Some (Terminal which flags)) = refl
behind_bare to_await (Some (Process p object)) = refl

module _ (S T : State) where
  pub first_same : (xs ys : List Spot) → AreSame S T (xs ++ ys) → AreSame S T xs
  first_same xs ys all = all_first (IsSame S T) xs ys all

  pub second_same : (xs ys : List Spot) → AreSame S T (xs ++ ys) → AreSame S T ys
  second_same xs ys all = all_second (IsSame S T) xs ys all

  -- ---- places

  abbrev Stay : List Spot → Type 0
  Stay those = AllByRecursion (LeavesPlaces S T) those

  descriptor_stays : (look : Look) (d : Option Descriptor) → Stay (descriptor_spots S.opens look d)
      → descriptor_spots T.opens look d ≡ descriptor_spots S.opens look d
  descriptor_stays look None all = refl
  descriptor_stays look (Some d) all =
      ap (λ those. on_open d.id ∷ with_flags look.flags d.id those)
      (behind_bare look.purpose (get T.opens d.id) ∙ ap (behind_spots look.purpose) (sym all.0) ∙ sym (behind_bare look.purpose (get S.opens d.id)))

  looks_stay : (table : Table) (looks : List Look) → Stay (look_spots S.opens table looks) → look_spots T.opens table looks ≡ look_spots S.opens table looks
  looks_stay table [] all = refl
  looks_stay table (look ∷ looks) all =
      let one = descriptor_spots S.opens look (get table look.fd) in
      let others = look_spots S.opens table looks in
      ap (λ those. those ++ look_spots T.opens table looks) (descriptor_stays look (get table look.fd) (all_first (LeavesPlaces S T) one others all))
      ∙ ap (λ those. one ++ those) (looks_stay table looks (all_second (LeavesPlaces S T) one others all))

  table_stays : (o : Option Table) (looks : List Look) → Stay (table_spots S.opens o looks) → table_spots T.opens o looks ≡ table_spots S.opens o looks
  table_stays None looks all = refl
  table_stays (Some table) looks all = looks_stay table looks all

  pub call_stays : (by_stage : Bool) (p : ℕ) (call : Call) → Stay (call_spots by_stage S p call) → call_spots by_stage T p call ≡ call_spots by_stage S p call
  call_stays true p call all = refl
  call_stays false p call all =
      ap (λ o. on_table p ∷ table_spots T.opens o (looks_of call)) (sym all.0)
      ∙ ap (λ those. on_table p ∷ those) (table_stays (get S.tables p) (looks_of call) all.1)

  pub waiting_stays : (p : ℕ) (o : Option Thread) → Stay (waiting_spots S p o) → waiting_spots T p o ≡ waiting_spots S p o
  waiting_stays p None all = refl
  waiting_stays p (Some Runnable) all = refl
  waiting_stays p (Some (Waits call since until stage)) all =
      ap (λ those. moment_spot until ++ those)
      (call_stays (meaning_of call).by_stage p call (all_second (LeavesPlaces S T) (moment_spot until) (call_spots (meaning_of call).by_stage S p call) all))

pub places_stay : PlacesStay
places_stay S T p t all =
    ap (λ o. on_thread p t ∷ waiting_spots T p o) (sym all.0) ∙ ap (λ those. on_thread p t ∷ those) (waiting_stays S T p (thread_of S p t) all.1)

-- spots that are the same leave the places
same_place : (S T : State) (spot : Spot) → IsSame S T spot → LeavesPlaces S T spot
same_place S T (on_table p) same = same
same_place S T (on_open o) same = same
same_place S T (on_flags o) same = tt
same_place S T (on_channel c) same = tt
same_place S T (on_end p) same = tt
same_place S T (on_thread p t) same = same
same_place S T (on_moment until) same = tt

same_places : (S T : State) (those : List Spot) → AreSame S T those → AllByRecursion (LeavesPlaces S T) those
same_places S T [] all = tt
same_places S T (spot ∷ those) all = (same_place S T spot all.0, same_places S T those all.1)

pub spots_stay : (S T : State) (p t : ℕ) → AreSame S T (spots S p t) → spots T p t ≡ spots S p t
spots_stay S T p t all = places_stay S T p t (same_places S T (spots S p t) all)
