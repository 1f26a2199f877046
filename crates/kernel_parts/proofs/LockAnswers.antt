-- What polls of locks and condition variables set.
--     lock_sets, wake_sets      nothing, where a thread asks for a lock, and where it was woken
use Rattle.std.proofs.Common.{◌≡◌, ℕ, Bool, [], Option, Some, None, refl}
use Rattle.abi_base.specs.declared.errno.Errno.{Errno}
use Rattle.abi_base.specs.declared.errno.Errno.TheVariants.{Success, TimedOut}
use Rattle.abi_structures.specs.declared.events.What.{What}
use Rattle.abi_types.specs.declared.thread.Stage.{Stage}
use Rattle.abi_types.specs.declared.thread.Stage.TheVariants.{Begun, Signalled, Queued, Granted}
use Rattle.kernel_model.specs.Families.LockCalls.{condition_outcome, error_if, lock_outcome, others_wait, taken_as}
use Rattle.kernel_model.specs.Families.Locks.{Taking, deadlock, queues, retaking, takes, taking, too_many}
use Rattle.kernel_model.specs.State.{ProcessState}

taken_sets : (userdata : ℕ) (what : What) (errno : Errno) (lock word : ℕ) (it : Taking) → (taken_as userdata what errno lock word it).updates ≡ []
taken_sets userdata what errno lock word deadlock = refl
taken_sets userdata what errno lock word too_many = refl
taken_sets userdata what errno lock word (takes new) = refl
taken_sets userdata what errno lock word queues = refl

pub lock_sets : (userdata : ℕ) (what : What) (reads : Bool) (t lock word : ℕ) (stage : Option Stage) (own : Option ProcessState)
    → (lock_outcome userdata what reads t lock word stage own).updates ≡ []
lock_sets userdata what reads t lock word None own = taken_sets userdata what Success lock word (taking reads t word (others_wait lock own))
lock_sets userdata what reads t lock word (Some Begun) own = refl
lock_sets userdata what reads t lock word (Some Signalled) own = refl
lock_sets userdata what reads t lock word (Some (Queued at late)) own = refl
lock_sets userdata what reads t lock word (Some (Granted late)) own = refl

pub wake_sets : (userdata : ℕ) (what : What) (p t condvar lock word : ℕ) (stage : Stage) (own : Option ProcessState)
    → (condition_outcome userdata what p t condvar lock word (Some stage) own).updates ≡ []
wake_sets userdata what p t condvar lock word Begun own = taken_sets userdata what TimedOut lock word (retaking t word (others_wait lock own))
wake_sets userdata what p t condvar lock word Signalled own = taken_sets userdata what Success lock word (retaking t word (others_wait lock own))
wake_sets userdata what p t condvar lock word (Queued at late) own = taken_sets userdata what (error_if late) lock word (retaking t word (others_wait lock own))
wake_sets userdata what p t condvar lock word (Granted late) own = refl
