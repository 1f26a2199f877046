-- States that are alike in what a thread looks at.
--     any_call, any_waiting      what holds of all that isn't what a thread does holds of all that a call looks at, and that a thread waits for
--     same_by_parts      all that one waits for is the same, where all but the threads is
--     ready_by_any      constants by which a thread waits until its call's deadline say the same of whether it is ready
--     spots_by_parts, ready_by_parts      where it stands, and whether it is ready, is seen in what waiting threads look at
use Rattle.std.proofs.Common.{◌≡◌, ℕ, Bool, true, false, List, [], ◌∷◌, Option, None, Some, refl}
use Rattle.std.specs.Ordering.{nat_cmp}
use Rattle.std.specs.FinMap.{FinMap, get}
use Rattle.std.specs.List.{AllByRecursion}
use Rattle.abi_types.specs.declared.call.Call.{Call}
use Rattle.abi_types.specs.declared.constants.Constants.{Constants}
use Rattle.abi_types.specs.declared.descriptor.Descriptor.{Descriptor}
use Rattle.abi_types.specs.declared.open_kind.OpenKind.{OpenKind}
use Rattle.abi_types.specs.declared.open_kind.OpenKind.TheVariants.{End, Process}
use Rattle.abi_types.specs.declared.thread.Thread.{Thread}
use Rattle.abi_types.specs.declared.thread.Thread.TheVariants.{Runnable, Waits}
use Rattle.kernel_model.specs.Calls.{meaning_of}
use Rattle.kernel_model.specs.State.{State, ProcessState, Table, thread_of}
use Rattle.kernel_model.specs.Waits.{HasDeadline, MayWait}
use Rattle.kernel_model.specs.Wakes.{is_ready}
use Rattle.readiness_laws.specs.Spots.{Look, Purpose, Spot, AreSame, IsSame, behind_spots, call_spots, channel_spot, descriptor_spots, look_spots, looks_of, moment_spot, on_channel, on_end, on_flags, on_moment, on_open, on_table, spots, table_spots, to_await, to_read, to_write, waiting_spots, with_flags}
use Rattle.readiness_laws.specs.Watched.{looked_at}
use Rattle.readiness_laws.proofs.Locality.{ready_alike}
use Rattle.readiness_laws.proofs.Standing.{all_joined, spots_stay}

module _ (P : Spot → Type 0) (tables : (p : ℕ) → P (on_table p)) (opens : (o : ℕ) → P (on_open o)) (flags : (o : ℕ) → P (on_flags o))
    (channels : (c : ℕ) → P (on_channel c)) (ends : (q : ℕ) → P (on_end q)) where
  any_channel : (counts : Bool) (o : ℕ) (c : Option ℕ) → AllByRecursion P (with_flags counts o (channel_spot c))
  any_channel counts o None = tt
  any_channel false o (Some c) = (channels c, tt)
  any_channel true o (Some c) = (flags o, (channels c, tt))

  any_end : (counts : Bool) (o q : ℕ) → AllByRecursion P (with_flags counts o (on_end q ∷ []))
  any_end false o q = (ends q, tt)
  any_end true o q = (flags o, (ends q, tt))

  any_behind : (counts : Bool) (purpose : Purpose) (o : ℕ) (kind : Option OpenKind) → AllByRecursion P (with_flags counts o (behind_spots purpose kind))
  any_behind counts to_read o (Some (End reads writes bits form)) = any_channel counts o reads
  any_behind counts to_write o (Some (End reads writes bits form)) = any_channel counts o writes
  any_behind counts to_await o (Some (Process q object)) = any_end counts o q
  any_behind counts _ o _ = tt

  any_descriptor : (kinds : FinMap nat_cmp OpenKind) (look : Look) (d : Option Descriptor) → AllByRecursion P (descriptor_spots kinds look d)
  any_descriptor kinds look None = tt
  any_descriptor kinds look (Some d) = (opens d.id, any_behind look.flags look.purpose d.id (get kinds d.id))

  any_look : (kinds : FinMap nat_cmp OpenKind) (table : Table) (looks : List Look) → AllByRecursion P (look_spots kinds table looks)
  any_look kinds table [] = tt
  any_look kinds table (look ∷ looks) =
      all_joined P (descriptor_spots kinds look (get table look.fd)) (look_spots kinds table looks) (any_descriptor kinds look (get table look.fd))
      (any_look kinds table looks)

  any_table : (kinds : FinMap nat_cmp OpenKind) (o : Option Table) (looks : List Look) → AllByRecursion P (table_spots kinds o looks)
  any_table kinds None looks = tt
  any_table kinds (Some table) looks = any_look kinds table looks

  pub any_call : (by_stage : Bool) (S : State) (p : ℕ) (call : Call) → AllByRecursion P (call_spots by_stage S p call)
  any_call true S p call = tt
  any_call false S p call = (tables p, any_table S.opens (get S.tables p) (looks_of call))

  module _ (moments : (m : ℕ) → P (on_moment m)) where
    any_moment : (until : Option ℕ) → AllByRecursion P (moment_spot until)
    any_moment None = tt
    any_moment (Some until) = (moments until, tt)

    pub any_waiting : (S : State) (p : ℕ) (o : Option Thread) → AllByRecursion P (waiting_spots S p o)
    any_waiting S p None = tt
    any_waiting S p (Some Runnable) = tt
    any_waiting S p (Some (Waits call since until stage)) =
        all_joined P (moment_spot until) (call_spots (meaning_of call).by_stage S p call) (any_moment until) (any_call (meaning_of call).by_stage S p call)

-- ---- where nothing but what threads do is another

pub same_by_parts : (S : State) (processes : FinMap nat_cmp ProcessState) (p : ℕ) (o : Option Thread)
    → AreSame S (record S { processes = processes }) (waiting_spots S p o)
same_by_parts S processes p o =
    any_waiting (IsSame S (record S { processes = processes })) (λ q. refl) (λ q. refl) (λ q. refl) (λ q. refl) (λ q. refl) (λ q. refl) S p o

-- ---- constants, and what is looked at

pub ready_by_any : (first second : Constants) (S : State) (p t : ℕ) → MayWait (thread_of S p t) → HasDeadline first (thread_of S p t)
    → HasDeadline second (thread_of S p t) → is_ready first S p t ≡ is_ready second S p t
ready_by_any first second S p t may until other =
    ready_alike first second S S p t may until other (refl, same_by_parts S S.processes p (thread_of S p t))

pub spots_by_parts : (S : State) (p t : ℕ) → spots (looked_at S) p t ≡ spots S p t
spots_by_parts S p t =
    spots_stay S (looked_at S) p t (
      refl,
      any_waiting (IsSame S (looked_at S)) (λ q. refl) (λ q. refl) (λ q. refl) (λ q. refl) (λ q. refl) (λ q. refl) S p (thread_of S p t),
    )

pub ready_by_parts : (constants : Constants) (S : State) (p t : ℕ) → MayWait (thread_of S p t) → HasDeadline constants (thread_of S p t)
    → is_ready constants (looked_at S) p t ≡ is_ready constants S p t
ready_by_parts constants S p t may until =
    ready_alike constants constants (looked_at S) S p t may until until (
      refl,
      any_waiting (IsSame (looked_at S) S) (λ q. refl) (λ q. refl) (λ q. refl) (λ q. refl) (λ q. refl) (λ q. refl) (looked_at S) p (thread_of S p t),
    )
