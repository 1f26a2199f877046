-- What a poll reads of a state: the moment, the opens, the channels, and how processes stand.
--     poll_reads      so it comes to what these come to
--     poll_takes_memory      memory may run out in one
--     poll_until      until when it waits
--     poll_by_stage      whether it waits for a lock or at a condition variable
use Rattle.std.proofs.Common.{◌≡◌, ℕ, Bool, true, false, List, [], ◌∷◌, Option, Some, None, refl, sym, ap, ◌∙◌}
use Rattle.std.specs.FinMap.{get}
use Rattle.abi_structures.specs.declared.events.Subscription.{Subscription}
use Rattle.abi_structures.specs.declared.events.What.{What}
use Rattle.abi_structures.specs.declared.events.What.TheVariants.{Clock, Condvar, FdRead, FdWrite, LockRdlock, LockWrlock, ProcTerminate}
use Rattle.abi_types.specs.declared.constants.Constants.{Constants}
use Rattle.abi_types.specs.declared.descriptor.Descriptor.{Descriptor}
use Rattle.abi_types.specs.declared.open_kind.OpenKind.{OpenKind}
use Rattle.abi_types.specs.declared.open_kind.OpenKind.TheVariants.{File, Directory, End, Terminal, Process}
use Rattle.abi_types.specs.declared.who.Who.{Who}
use Rattle.kernel_model.specs.Families.FileMeaning.{open_of}
use Rattle.kernel_model.specs.Families.Polls.{and_event, begins_with_lock, event_now, events_now, poll, poll_by, read_event, soonest, terminate_event, told_or_waits, write_event}
use Rattle.kernel_model.specs.State.{State, Table}
use Rattle.kernel_model.specs.View.{View, whole}
use Rattle.kernel_model.proofs.Tests.{not_true}
use Rattle.poll_set.specs.Polls.{poll_outcome, sight}

module _ (S : State) where
  abbrev seen : View
  seen = sight S.opens S.chans S.statuses S.clock

  open_seen : (d : Option Descriptor) → open_of (whole S) d ≡ open_of seen d
  open_seen None = refl
  open_seen (Some d) = refl

  read_seen : (userdata : ℕ) (kind : Option OpenKind) → read_event userdata (whole S) kind ≡ read_event userdata seen kind
  read_seen userdata None = refl
  read_seen userdata (Some (File node offset flags)) = refl
  read_seen userdata (Some (Directory node flags)) = refl
  read_seen userdata (Some (End None None flags form)) = refl
  read_seen userdata (Some (End None (Some c) flags form)) = refl
  read_seen userdata (Some (End (Some c) writes flags form)) = refl
  read_seen userdata (Some (Terminal which flags)) = refl
  read_seen userdata (Some (Process p object)) = refl

  write_seen : (userdata : ℕ) (kind : Option OpenKind) → write_event userdata (whole S) kind ≡ write_event userdata seen kind
  write_seen userdata None = refl
  write_seen userdata (Some (File node offset flags)) = refl
  write_seen userdata (Some (Directory node flags)) = refl
  write_seen userdata (Some (End None None flags form)) = refl
  write_seen userdata (Some (End (Some c) None flags form)) = refl
  write_seen userdata (Some (End None (Some c) flags form)) = refl
  write_seen userdata (Some (End (Some r) (Some c) flags form)) = refl
  write_seen userdata (Some (Terminal which flags)) = refl
  write_seen userdata (Some (Process p object)) = refl

  end_seen : (userdata : ℕ) (kind : Option OpenKind) → terminate_event userdata (whole S) kind ≡ terminate_event userdata seen kind
  end_seen userdata None = refl
  end_seen userdata (Some (File node offset flags)) = refl
  end_seen userdata (Some (Directory node flags)) = refl
  end_seen userdata (Some (End reads writes flags form)) = refl
  end_seen userdata (Some (Terminal which flags)) = refl
  end_seen userdata (Some (Process p object)) = refl

  module _ (constants : Constants) (since : ℕ) (table : Table) where
    event_seen : (userdata : ℕ) (what : What) → event_now constants (whole S) since table userdata what ≡ event_now constants seen since table userdata what
    event_seen userdata (Clock clock timeout precision flags) = refl
    event_seen userdata (Condvar condvar condvar_word lock lock_word condvar_scope lock_scope) = refl
    event_seen userdata (FdRead fd) = read_seen userdata (open_of (whole S) (get table fd)) ∙ ap (read_event userdata seen) (open_seen (get table fd))
    event_seen userdata (FdWrite fd) = write_seen userdata (open_of (whole S) (get table fd)) ∙ ap (write_event userdata seen) (open_seen (get table fd))
    event_seen userdata (LockRdlock lock word scope) = refl
    event_seen userdata (LockWrlock lock word scope) = refl
    event_seen userdata (ProcTerminate fd) =
        end_seen userdata (open_of (whole S) (get table fd)) ∙ ap (terminate_event userdata seen) (open_seen (get table fd))

    events_seen : (subscriptions : List Subscription)
        → events_now constants (whole S) since table subscriptions ≡ events_now constants seen since table subscriptions
    events_seen [] = refl
    events_seen (s ∷ rest) = λ i. and_event (event_seen s.userdata s.what i) (events_seen rest i)

  by_first : (constants : Constants) (who : Who) (table : Table) (subscriptions : List Subscription) (lock : Bool) → lock ≡ false
      → (poll_by lock subscriptions).effect constants (whole S) who table
      ≡ poll_outcome constants S.opens S.chans S.statuses S.clock table who.since subscriptions
  by_first constants who table subscriptions true is = absurd (not_true (sym is))
  by_first constants who table subscriptions false is = ap told_or_waits (events_seen constants who.since table subscriptions)

  -- one that doesn't begin with a lock or a condition variable
  pub poll_reads : (constants : Constants) (who : Who) (table : Table) (subscriptions : List Subscription) → begins_with_lock subscriptions ≡ false
      → (poll subscriptions).effect constants (whole S) who table
      ≡ poll_outcome constants S.opens S.chans S.statuses S.clock table who.since subscriptions
  poll_reads constants who table subscriptions is = by_first constants who table subscriptions (begins_with_lock subscriptions) is

-- ---- memory, and until when

takes_by : (lock : Bool) (subscriptions : List Subscription) → (poll_by lock subscriptions).takes_memory ≡ true
takes_by true [] = refl
takes_by true (first ∷ rest) = refl
takes_by false subscriptions = refl

pub poll_takes_memory : (subscriptions : List Subscription) → (poll subscriptions).takes_memory ≡ true
poll_takes_memory subscriptions = takes_by (begins_with_lock subscriptions) subscriptions

until_by : (constants : Constants) (since : ℕ) (lock : Bool) (subscriptions : List Subscription)
    → (poll_by lock subscriptions).deadline constants since ≡ soonest constants since subscriptions
until_by constants since true [] = refl
until_by constants since true (first ∷ rest) = refl
until_by constants since false subscriptions = refl

pub poll_until : (constants : Constants) (since : ℕ) (subscriptions : List Subscription)
    → (poll subscriptions).deadline constants since ≡ soonest constants since subscriptions
poll_until constants since subscriptions = until_by constants since (begins_with_lock subscriptions) subscriptions

-- ---- whether it waits for a lock or at a condition variable

stage_by : (lock : Bool) (first : Subscription) (rest : List Subscription) → (poll_by lock (first ∷ rest)).by_stage ≡ lock
stage_by true first rest = refl
stage_by false first rest = refl

pub poll_by_stage : (subscriptions : List Subscription) → (poll subscriptions).by_stage ≡ begins_with_lock subscriptions
poll_by_stage [] = refl
poll_by_stage (first ∷ rest) = stage_by (begins_with_lock (first ∷ rest)) first rest
