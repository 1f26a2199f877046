-- Which spots a change leaves to be looked at.
use Rattle.std.specs.Prelude.{◌≡◌, ℕ, ◌+◌, ◌==◌, ◌&&◌, ◌||◌, nat_lt, not, Bool, false, List, [], ◌∷◌}
use Rattle.abi_types.specs.declared.call.Call.{Call}
use Rattle.abi_types.specs.declared.constants.Constants.{Constants}
use Rattle.abi_types.specs.declared.reply.Answer.{Answer}
use Rattle.abi_types.specs.declared.status.Status.{Status}
use Rattle.abi_types.specs.declared.wake.WakeIn.{WakeIn}
use Rattle.abi_types.specs.declared.wake.WakeIn.TheVariants as wake
use Rattle.abi_types.specs.declared.who.Who.{Who}
use Rattle.kernel_model.specs.Families.Locks.{with_word}
use Rattle.kernel_model.specs.Families.ProcessCalls.{end_updates}
use Rattle.kernel_model.specs.Outcome.{is_parked}
use Rattle.kernel_model.specs.Release.{is_released}
use Rattle.kernel_model.specs.State.{State, Part, Update, at_chan, at_clock, at_open, at_proc, at_status, drop_own, set_chan, set_open, set_process, set_status, set_table}
use Rattle.kernel_model.specs.Step.{end_unreleased, outcome, unreleased}
use Rattle.kernel_model.specs.Waits.{resumed}
use Rattle.readiness_laws.specs.Spots.{Spot, IsSame, on_channel, on_end, on_flags, on_moment, on_open, on_table, on_thread}

-- Each spot is the same in both states but for these.
abbrev pub ChangesOnly : (Spot → Bool) → State → State → Type 0
ChangesOnly changes S T = (spot : Spot) → changes spot ≡ false → IsSame S T spot

-- the spots of either kind
abbrev pub either : (Spot → Bool) → (Spot → Bool) → Spot → Bool
either first second spot = first spot || second spot

-- the moments that come after the one and no later than the other
abbrev pub moments : ℕ → ℕ → Spot → Bool
moments before after (on_moment until) = nat_lt before until && not (nat_lt after until)
moments before after spot = false

-- what this thread does
abbrev pub of_thread : ℕ → ℕ → Spot → Bool
of_thread p t (on_thread q u) = (q == p) && (u == t)
of_thread p t spot = false

-- ---- updates

-- A table that is set concerns those that wait on descriptors of its process, and what a process has of its own its threads; a process that has
-- nothing of its own any more both. Of the file tree and the
-- standard streams nobody waits for anything.
abbrev pub set_by : Update → Spot → Bool
set_by (set_table p table) (on_table q) = p == q
set_by (set_process p own) (on_thread q t) = p == q
set_by (drop_own p) (on_table q) = p == q
set_by (drop_own p) (on_thread q t) = p == q
set_by (set_status p status) (on_end q) = p == q
set_by (set_open o kind) (on_open r) = o == r
set_by (set_open o kind) (on_flags r) = o == r
set_by (set_chan c channel) (on_channel e) = c == e
set_by update spot = false

abbrev pub all_set_by : List Update → Spot → Bool
all_set_by [] spot = false
all_set_by (update ∷ updates) spot = set_by update spot || all_set_by updates spot

-- ---- the release

-- the part of a state that the spot is of
abbrev pub part_at : Spot → Part
part_at (on_table p) = at_proc p
part_at (on_open o) = at_open o
part_at (on_flags o) = at_open o
part_at (on_channel c) = at_chan c
part_at (on_end p) = at_status p
part_at (on_thread p t) = at_proc p
part_at (on_moment until) = at_clock

-- The release of a state concerns the opens that end, the channels that lose a side or are over, and the processes that are killed with their
-- descriptors and threads.
abbrev pub ended_by : State → Spot → Bool
ended_by S spot = is_released S (part_at spot)

-- ---- entries

-- the thread, where it waits from now on
abbrev pub where_parked : Answer → Who → Spot → Bool
where_parked given who spot = is_parked given && of_thread who.pid who.tid spot

-- a step: what its call sets, its thread if that waits, what the release ends, and the moments that come
abbrev pub step_changes : Constants → State → Who → Call → Spot → Bool
step_changes constants S who call =
    either (moments S.clock (S.clock + 1000))
    (either (all_set_by (outcome constants S who call).updates)
    (either (where_parked (outcome constants S who call).answer who) (ended_by (unreleased constants S who call))))

-- a wake: its thread, and what the step of its call does from the state in which that runs
abbrev pub wake_changes : Constants → State → Who → Call → WakeIn → Spot → Bool
wake_changes constants S who call wake.Fault = either (of_thread who.pid who.tid) (moments S.clock (S.clock + 1000))
wake_changes constants S who call (wake.Plain word) = either (of_thread who.pid who.tid) (step_changes constants (resumed S who) who (with_word word call))

-- the end of a process from outside
abbrev pub end_changes : State → ℕ → Status → Spot → Bool
end_changes S p status =
    either (moments S.clock (S.clock + 1000)) (either (all_set_by (end_updates p status)) (ended_by (end_unreleased S p status)))

-- the same change, where of the threads these alone are told
abbrev pub telling : (ℕ → ℕ → Bool) → (Spot → Bool) → Spot → Bool
telling told changes (on_thread p t) = told p t
telling told changes spot = changes spot
