-- Where a thread stands, as the code notes it, covers its spots: they are what is noted of these, with the moment last.
--     places_cover      of a thread of a state
use Rattle.std.proofs.Common.{◌≡◌, ℕ, ◌^◌, ◌<◌, Bool, true, false, List, [], ◌∷◌, ◌++◌, Option, None, Some, refl, sym, ap, ◌∙◌}
use Rattle.std.proofs.lemmas.List.Folds.{list_any-append}
use Rattle.std.specs.Prelude.{◌||◌, if◌then◌else◌}
use Rattle.std.specs.Ordering.{nat_cmp}
use Rattle.std.specs.FinMap.{FinMap, get}
use Rattle.abi_structures.specs.declared.events.Subscription.{Subscription}
use Rattle.abi_structures.specs.declared.events.What.{What}
use Rattle.abi_structures.specs.declared.events.What.TheVariants as what
use Rattle.abi_types.specs.declared.call.Call.{Call}
use Rattle.abi_types.specs.declared.call.Call.TheVariants as call
use Rattle.abi_types.specs.declared.descriptor.Descriptor.{Descriptor}
use Rattle.abi_types.specs.declared.open_kind.OpenKind.{OpenKind}
use Rattle.abi_types.specs.declared.open_kind.OpenKind.TheVariants.{File, Directory, End, Terminal, Process}
use Rattle.abi_types.specs.declared.thread.Thread.{Thread}
use Rattle.abi_types.specs.declared.thread.Thread.TheVariants.{Runnable, Waits}
use Rattle.kernel_model.specs.Calls.{meaning_of}
use Rattle.kernel_model.specs.State.{State, Table, thread_of}
use Rattle.kernel_parts.specs.Entries.{kind_with, open_in}
use Rattle.kernel_parts.specs.Keys.{key}
use Rattle.kernel_parts.specs.Noted.{awaited_place, call_places, channel_place, end_place, moment_place, only, polled_places, read_place, write_place}
use Rattle.wait_set.specs.declared.spot.Spot as wait
use Rattle.wait_set.specs.declared.spot.Spot.TheVariants.{Moment}
use Rattle.readiness_laws.specs.Spots.{Look, Purpose, Spot, behind_spots, call_spots, channel_spot, descriptor_spots, look_spots, looks_of, moment_spot, on_channel, on_end, on_flags, on_moment, on_open, on_table, on_thread, polled, polled_by, spots, table_spots, to_await, to_read, to_write, waiting_spots, with_flags}
use Rattle.wait_set.specs.Spots.{listed, same_spot}
use Rattle.readiness_laws.specs.Watched.{Covers, noted, noted_before}
use Rattle.readiness_laws.proofs.Keys.{key_parts}
use Rattle.kernel_invariant.specs.Readiness.{places_by_key, places_of}

before_joined : (spot : Spot) (xs ys : List wait.Spot) → noted_before spot (xs ++ ys) ≡ noted_before spot xs ++ ys
before_joined (on_channel c) xs ys = refl
before_joined (on_end q) xs ys = refl
before_joined (on_moment m) xs ys = refl
before_joined (on_table p) xs ys = refl
before_joined (on_open o) xs ys = refl
before_joined (on_flags o) xs ys = refl
before_joined (on_thread p t) xs ys = refl

noted_joined : (xs ys : List Spot) → noted (xs ++ ys) ≡ noted xs ++ noted ys
noted_joined [] ys = refl
noted_joined (spot ∷ xs) ys = ap (noted_before spot) (noted_joined xs ys) ∙ before_joined spot (noted xs) (noted ys)

without_more : (xs : List wait.Spot) → xs ++ [] ≡ xs
without_more [] = refl
without_more (x ∷ xs) = ap (λ rest. x ∷ rest) (without_more xs)

-- ---- behind an open

-- what a look finds there
abbrev place_for : Purpose → Option OpenKind → Option wait.Spot
place_for to_read kind = read_place kind
place_for to_write kind = write_place kind
place_for to_await kind = end_place kind

channel_noted : (o : Option ℕ) → noted (channel_spot o) ≡ only (channel_place o)
channel_noted None = refl
channel_noted (Some c) = refl

behind_noted : (purpose : Purpose) (kind : Option OpenKind) → noted (behind_spots purpose kind) ≡ only (place_for purpose kind)
behind_noted to_read None = refl
behind_noted to_read (Some (File node offset flags)) = refl
behind_noted to_read (Some (Directory node flags)) = refl
behind_noted to_read (Some (End reads writes flags form)) = channel_noted reads
behind_noted to_read (Some (Terminal which flags)) = refl
behind_noted to_read (Some (Process p object)) = refl
behind_noted to_write None = refl
behind_noted to_write (Some (File node offset flags)) = refl
behind_noted to_write (Some (Directory node flags)) = refl
behind_noted to_write (Some (End reads writes flags form)) = channel_noted writes
behind_noted to_write (Some (Terminal which flags)) = refl
behind_noted to_write (Some (Process p object)) = refl
behind_noted to_await None = refl
behind_noted to_await (Some (File node offset flags)) = refl
behind_noted to_await (Some (Directory node flags)) = refl
behind_noted to_await (Some (End reads writes flags form)) = refl
behind_noted to_await (Some (Terminal which flags)) = refl
behind_noted to_await (Some (Process p object)) = refl

-- flags aren't noted
flags_noted : (counts : Bool) (o : ℕ) (those : List Spot) → noted (with_flags counts o those) ≡ noted those
flags_noted counts o [] = refl
flags_noted false o (spot ∷ rest) = refl
flags_noted true o (spot ∷ rest) = refl

no_place : (purpose : Purpose) → [] ≡ only (place_for purpose None)
no_place to_read = refl
no_place to_write = refl
no_place to_await = refl

module _ (opens : FinMap nat_cmp OpenKind) where
  descriptor_noted : (look : Look) (o : Option Descriptor) → noted (descriptor_spots opens look o) ≡ only (place_for look.purpose (open_in opens o))
  descriptor_noted look None = no_place look.purpose
  descriptor_noted look (Some d) =
      flags_noted look.flags d.id (behind_spots look.purpose (get opens d.id)) ∙ behind_noted look.purpose (get opens d.id)

  -- ---- what a call looks at

  abbrev looked : Option Table → List Look → List wait.Spot
  looked table [] = []
  looked table (look ∷ looks) = only (place_for look.purpose (kind_with opens table (Some look.fd))) ++ looked table looks

  looks_noted : (table : Table) (looks : List Look) → noted (look_spots opens table looks) ≡ looked (Some table) looks
  looks_noted table [] = refl
  looks_noted table (look ∷ looks) =
      noted_joined (descriptor_spots opens look (get table look.fd)) (look_spots opens table looks)
      ∙ ap (λ those. those ++ noted (look_spots opens table looks)) (descriptor_noted look (get table look.fd))
      ∙ ap (λ those. only (place_for look.purpose (open_in opens (get table look.fd))) ++ those) (looks_noted table looks)

  none_looked : (looks : List Look) → [] ≡ looked None looks
  none_looked [] = refl
  none_looked (look ∷ looks) = none_looked looks ∙ ap (λ those. those ++ looked None looks) (no_place look.purpose)

  table_noted : (table : Option Table) (looks : List Look) → noted (table_spots opens table looks) ≡ looked table looks
  table_noted None looks = none_looked looks
  table_noted (Some table) looks = looks_noted table looks

  polled_here : (table : Option Table) (s : What) (rest : List Look)
      → looked table (polled_by s rest) ≡ only (awaited_place opens table s) ++ looked table rest
  polled_here table (what.FdRead fd) rest = refl
  polled_here table (what.FdWrite fd) rest = refl
  polled_here table (what.ProcTerminate fd) rest = refl
  polled_here table _ rest = refl

  polled_looked : (table : Option Table) (subscriptions : List Subscription) → looked table (polled subscriptions) ≡ polled_places opens table subscriptions
  polled_looked table [] = refl
  polled_looked table (s ∷ rest) =
      polled_here table s.what (polled rest)
      ∙ ap (λ those. only (awaited_place opens table s.what) ++ those) (polled_looked table rest)

  call_looked : (table : Option Table) (called : Call) → looked table (looks_of called) ≡ call_places opens table called
  call_looked table (call.FdRead fd n) = without_more (only (read_place (kind_with opens table (Some fd))))
  call_looked table (call.FdWrite fd bytes) = without_more (only (write_place (kind_with opens table (Some fd))))
  call_looked table (call.SockRecv fd n room flags) = without_more (only (read_place (kind_with opens table (Some fd))))
  call_looked table (call.SockSend fd bytes fds flags) = without_more (only (write_place (kind_with opens table (Some fd))))
  call_looked table (call.Poll subscriptions) = polled_looked table subscriptions
  call_looked table _ = refl

-- ---- a thread

or_comm : (a b : Bool) → (a || b) ≡ (b || a)
or_comm true true = refl
or_comm true false = refl
or_comm false true = refl
or_comm false false = refl

moment_noted : (until : Option ℕ) → noted (moment_spot until) ≡ only (moment_place until)
moment_noted None = refl
moment_noted (Some until) = refl

call_noted : (by_stage : Bool) (S : State) (p : ℕ) (called : Call)
    → noted (call_spots by_stage S p called) ≡ (if by_stage then [] else call_places S.opens (get S.tables p) called)
call_noted true S p called = refl
call_noted false S p called = table_noted S.opens (get S.tables p) (looks_of called) ∙ call_looked S.opens (get S.tables p) called

-- a spot is in both or in neither, whichever list comes first
listed_swapped : (x : wait.Spot) (xs ys : List wait.Spot) → listed x (xs ++ ys) ≡ listed x (ys ++ xs)
listed_swapped x xs ys = list_any-append (same_spot x) xs ys ∙ or_comm (listed x xs) (listed x ys) ∙ sym (list_any-append (same_spot x) ys xs)

places_listed : (S : State) (p : ℕ) (o : Option Thread) (x : wait.Spot) → listed x (places_of S.opens (get S.tables p) o) ≡ listed x (noted (waiting_spots S p o))
places_listed S p None x = refl
places_listed S p (Some Runnable) x = refl
places_listed S p (Some (Waits called since until stage)) x =
    listed_swapped x (if (meaning_of called).by_stage then [] else call_places S.opens (get S.tables p) called) (only (moment_place until))
    ∙ ap (listed x)
    (sym (noted_joined (moment_spot until) (call_spots (meaning_of called).by_stage S p called)
    ∙ ap (λ those. those ++ noted (call_spots (meaning_of called).by_stage S p called)) (moment_noted until)
    ∙ ap (λ those. only (moment_place until) ++ those) (call_noted (meaning_of called).by_stage S p called)))

places_by_parts : (S : State) (p t : ℕ) → t < 2 ^ 32 → places_by_key S.opens S.tables S.processes (key p t) ≡ places_of S.opens (get S.tables p) (thread_of S p t)
places_by_parts S p t small =
    let parts = key_parts p t small in
    λ i. places_of S.opens (get S.tables (parts.0 i)) (thread_of S (parts.0 i) (parts.1 i))

-- where the thread stands with this number
pub places_cover : (S : State) (p t : ℕ) → t < 2 ^ 32 → Covers S p t (places_by_key S.opens S.tables S.processes (key p t))
places_cover S p t small = record { all = λ x at. same x ∙ at; moments = λ m. same (Moment m) } where
  same : (x : wait.Spot) → listed x (places_by_key S.opens S.tables S.processes (key p t)) ≡ listed x (noted (spots S p t))
  same x = ap (listed x) (places_by_parts S p t small) ∙ places_listed S p (thread_of S p t) x
