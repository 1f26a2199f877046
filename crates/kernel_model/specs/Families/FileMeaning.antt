-- What a call means that works on the open of one descriptor, a file's or a directory's: all of it hangs on the time, on that open,
-- and on the part of the file tree that is seen.
use Rattle.std.specs.Prelude.{ℕ, Bool, false, List, [], ◌∷◌, Option, None, Some}
use Rattle.std.specs.FinMap.{get}
use Rattle.abi_base.specs.declared.errno.Errno.{Errno}
use Rattle.abi_types.specs.declared.descriptor.Descriptor.{Descriptor}
use Rattle.abi_types.specs.declared.needed.Needed.{Needed}
use Rattle.abi_types.specs.declared.open_kind.OpenKind.{OpenKind}
use Rattle.kernel_model.specs.Families.ClockCalls.{real_time}
use Rattle.kernel_model.specs.Meaning.{Meaning}
use Rattle.kernel_model.specs.Outcome.{Outcome}
use Rattle.kernel_model.specs.OwnChanges.{keeps_own}
use Rattle.kernel_model.specs.State.{Part, Tree, tree_of}
use Rattle.kernel_model.specs.View.{View, whole}

pub record FileMeaning : Type 0 where
  -- what it does, by the time in nanoseconds since 1970
  pub effect : ℕ → Tree → Option OpenKind → Outcome
  -- the component at which its path leads outside, if it does
  pub outside : Tree → Option OpenKind → Option ℕ
  -- what it may change of the tree
  pub touched : Tree → Option OpenKind → List Part
  pub errors : List Errno
  pub takes_memory : Bool

-- the open of a descriptor
abbrev pub open_of : View → Option Descriptor → Option OpenKind
open_of v None = None
open_of v (Some d) = v.opened d.id

-- the meaning of a call that needs this of the descriptor
abbrev pub on_open : Needed → FileMeaning → Meaning
on_open row m = record {
  named = row.fd ∷ [];
  need = row ∷ [];
  seen = row.fd ∷ [];
  effect = λ constants v who table. m.effect (real_time constants v.clock) v.branch (open_of v (get table row.fd));
  outside = λ v table. m.outside v.branch (open_of v (get table row.fd));
  touched = λ S table. m.touched (tree_of S) (open_of (whole S) (get table row.fd));
  numbers = 0;
  own = keeps_own;
  errors = m.errors;
  takes_memory = m.takes_memory;
  may_wait = false;
  by_stage = false;
  deadline = λ constants since. None;
  sends = [];
}
