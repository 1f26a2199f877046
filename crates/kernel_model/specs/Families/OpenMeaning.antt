-- What a call means that works on the open of one descriptor, and may make another one of it: all of it hangs on the time, on that
-- open, and on what stands behind it.
use Rattle.std.specs.Prelude.{ℕ, Bool, true, false, List, [], ◌∷◌, ◌++◌, Option, None, Some}
use Rattle.std.specs.FinMap.{get}
use Rattle.abi_base.specs.declared.errno.Errno.{Errno}
use Rattle.abi_base.specs.declared.errno.Errno.TheVariants.{Badf}
use Rattle.abi_types.specs.declared.descriptor.Descriptor.{Descriptor}
use Rattle.abi_types.specs.declared.needed.Needed.{Needed}
use Rattle.abi_types.specs.declared.open_kind.OpenKind.{OpenKind}
use Rattle.kernel_model.specs.Families.ClockCalls.{real_time}
use Rattle.kernel_model.specs.Meaning.{Meaning}
use Rattle.kernel_model.specs.Outcome.{Outcome, replies}
use Rattle.kernel_model.specs.OwnChanges.{keeps_own}
use Rattle.kernel_model.specs.Reply.{refused}
use Rattle.kernel_model.specs.State.{State, Part, at_open}
use Rattle.kernel_model.specs.View.{View}

pub record OpenMeaning : Type 0 where
  -- what it does with the open of this number, by the time in nanoseconds since 1970
  pub effect : ℕ → View → ℕ → Option OpenKind → Outcome
  -- whether it may move the open, as that is: a file's offset
  pub moves : Option OpenKind → Bool
  -- what it may change beside the open
  pub touched : Option OpenKind → List Part
  pub errors : List Errno
  pub takes_memory : Bool
  -- whether its thread may wait in it, for what others do to what stands behind the open
  pub may_wait : Bool

-- what is done with the open of a descriptor
abbrev pub at_descriptor : (ℕ → Option OpenKind → Outcome) → View → Option Descriptor → Outcome
at_descriptor effect v None = replies (refused Badf)
at_descriptor effect v (Some d) = effect d.id (v.opened d.id)

-- the open of this number, where it may move
abbrev pub moved_part : Bool → ℕ → List Part
moved_part false o = []
moved_part true o = at_open o ∷ []

-- what it may change where it works on the open of a descriptor
abbrev pub touched_at : OpenMeaning → State → Option Descriptor → List Part
touched_at m S None = []
touched_at m S (Some d) = moved_part (m.moves (get S.opens d.id)) d.id ++ m.touched (get S.opens d.id)

-- the meaning of a call that needs this of the descriptor
abbrev pub by_open : Needed → OpenMeaning → Meaning
by_open row m = record {
  named = row.fd ∷ [];
  need = row ∷ [];
  seen = row.fd ∷ [];
  effect = λ constants v who table. at_descriptor (m.effect (real_time constants v.clock) v) v (get table row.fd);
  outside = λ v table. None;
  touched = λ S table. touched_at m S (get table row.fd);
  numbers = 0;
  own = keeps_own;
  errors = m.errors;
  takes_memory = m.takes_memory;
  may_wait = m.may_wait;
  by_stage = false;
  deadline = λ constants since. None;
  sends = [];
}
