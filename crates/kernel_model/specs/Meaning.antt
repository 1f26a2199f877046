-- What a call means. Each call has one value of this record (`Calls.antt`), and all that is said of calls is read from it.
use Rattle.std.specs.Prelude.{ℕ, Bool, false, List, [], ◌∷◌, Option, None}
use Rattle.abi_base.specs.declared.errno.Errno.{Errno}
use Rattle.abi_base.specs.declared.errno.Errno.TheVariants.{Nosys}
use Rattle.abi_types.specs.declared.reply.Reply.{Reply}
use Rattle.abi_types.specs.declared.constants.Constants.{Constants}
use Rattle.abi_types.specs.declared.needed.Needed.{Needed}
use Rattle.abi_types.specs.declared.who.Who.{Who}
use Rattle.kernel_model.specs.Outcome.{Outcome, replies}
use Rattle.kernel_model.specs.OwnChanges.{OwnChange, keeps_own}
use Rattle.kernel_model.specs.Reply.{refused}
use Rattle.kernel_model.specs.State.{State, Table, Part}
use Rattle.kernel_model.specs.View.{View}

pub record Meaning : Type 0 where
  -- the descriptors that must be there, in the order of the call's arguments
  pub named : List ℕ
  -- the rights that it needs of its descriptors, in the same order: base rights, and rights asked of the inheriting ones
  pub need : List Needed
  -- the descriptors whose opens it sees, with what stands behind these
  pub seen : List ℕ
  -- what it does once no descriptor and no right is missing, by what it sees, and by its process's table. It is total: where
  -- a valid state has a part, it answers BADF for lack of it.
  pub effect : Constants → View → Who → Table → Outcome
  -- The component at which a path of the call leads outside the directory where it begins, if it does, by the same. The path
  -- says it alone: the call is then denied for it, whatever it does else.
  pub outside : View → Table → Option ℕ
  -- what it may change beside the clock, what is the process's own, and the process's status
  pub touched : State → Table → List Part
  -- how many objects it makes at most
  pub numbers : ℕ
  -- what else it does to what its process has of its own beside its descriptors, where it succeeds
  pub own : OwnChange
  -- the errors that it answers of its own, with nothing changed
  pub errors : List Errno
  -- whether memory may run out
  pub takes_memory : Bool
  -- whether its thread may wait in it
  pub may_wait : Bool
  -- whether a thread that waits in it goes on because it was given a lock or signalled, and else because the call would be done
  pub by_stage : Bool
  -- the moment by which the wait is over, by the moment at which the call was made: none where it may wait for ever
  pub deadline : Constants → ℕ → Option ℕ
  -- the numbers of the descriptors that it sends
  pub sends : List ℕ

-- a call that needs nothing, and that answers this
abbrev pub answering : List Errno → Reply → Meaning
answering errors reply = record {
  named = [];
  need = [];
  seen = [];
  effect = λ constants v who table. replies reply;
  outside = λ v table. None;
  touched = λ S table. [];
  numbers = 0;
  own = keeps_own;
  errors = errors;
  takes_memory = false;
  may_wait = false;
  by_stage = false;
  deadline = λ constants since. None;
  sends = [];
}

-- ---- a call that isn't offered, as fd_create1: where no descriptor and no right is missing it answers NOSYS, and nothing changes

-- one that names, needs and sees this
abbrev pub unbuilt : List ℕ → List Needed → List ℕ → Meaning
unbuilt named need seen = record (answering (Nosys ∷ []) (refused Nosys)) { named = named; need = need; seen = seen }

-- one that names these descriptors, and needs no right
abbrev pub unbuilt_naming : List ℕ → Meaning
unbuilt_naming fds = unbuilt fds [] []
