-- What a call means that makes names of files, moves them or takes them away, by the paths of one descriptor or of two.
use Rattle.std.specs.Prelude.{ℕ, true, false, ◌++◌, List, [], ◌∷◌, Option, None, Some, if◌then◌else◌}
use Rattle.std.specs.FinMap.{get}
use Rattle.abi_base.specs.declared.errno.Errno.{Errno}
use Rattle.abi_base.specs.declared.errno.Errno.TheVariants.{Again}
use Rattle.abi_types.specs.declared.descriptor.Denial.TheVariants.{Outside}
use Rattle.abi_types.specs.declared.needed.Needed.{Needed}
use Rattle.abi_types.specs.declared.open_kind.OpenKind.{OpenKind}
use Rattle.abi_types.specs.declared.reply.Answer.TheVariants as answer
use Rattle.tree_model.specs.declared.fault.TreeFault.{TreeFault}
use Rattle.kernel_model.specs.Families.ClockCalls.{real_time}
use Rattle.kernel_model.specs.Families.FileMeaning.{open_of}
use Rattle.kernel_model.specs.Families.LastNames.{LastName, StandsIn, IsNone, IsOutside}
use Rattle.kernel_model.specs.Meaning.{Meaning}
use Rattle.kernel_model.specs.Families.Numbers.{can_number, next_object, process_updates}
use Rattle.kernel_model.specs.Outcome.{Outcome, replies}
use Rattle.kernel_model.specs.OwnChanges.{keeps_own}
use Rattle.kernel_model.specs.Reply.{denied, refused, success}
use Rattle.kernel_model.specs.State.{ProcessState, Part, Tree, tree_of}
use Rattle.kernel_model.specs.Families.TreeUpdates.{Change, change_updates}
use Rattle.kernel_model.specs.View.{whole}

-- what such a call comes to: it is refused, its path leads outside, or it changes the tree
pub data NameOutcome : Type 0 where
  Refuses : Errno → NameOutcome
  LeadsOut : ℕ → NameOutcome
  Changes : Change → NameOutcome

pub record NameMeaning : Type 0 where
  -- what it comes to, by the time in nanoseconds since 1970, the number of the node that it may make, and the opens
  pub effect : ℕ → ℕ → Tree → Option OpenKind → Option OpenKind → NameOutcome
  -- the component at which one of its paths leads outside, if one does
  pub outside : Tree → Option OpenKind → Option OpenKind → Option ℕ
  -- what it may change of the tree beside the node that it makes
  pub touched : Tree → Option OpenKind → Option OpenKind → List Part
  -- how many nodes it makes
  pub new_nodes : ℕ
  pub errors : List Errno

-- what it does, by what its process has of its own
abbrev pub outcome_of : ℕ → Option ProcessState → ℕ → NameOutcome → Outcome
outcome_of p own new_nodes (Refuses errno) = replies (refused errno)
outcome_of p own new_nodes (LeadsOut component) = replies (denied (Outside component))
outcome_of p own new_nodes (Changes change) =
    if can_number p new_nodes own then record { answer = answer.Reply (success 0 0); updates = process_updates p new_nodes own ++ change_updates change }
    else replies (refused Again)

-- the meaning of a call by the path of one descriptor, of which it needs this
abbrev pub by_name : Needed → NameMeaning → Meaning
by_name row m = record {
  named = row.fd ∷ [];
  need = row ∷ [];
  seen = row.fd ∷ [];
  effect = λ constants v who table.
      outcome_of who.pid (v.process who.pid) m.new_nodes
      (m.effect (real_time constants v.clock) (next_object who.pid (v.process who.pid) 1) v.branch (open_of v (get table row.fd)) None);
  outside = λ v table. m.outside v.branch (open_of v (get table row.fd)) None;
  touched = λ S table. m.touched (tree_of S) (open_of (whole S) (get table row.fd)) None;
  numbers = m.new_nodes;
  own = keeps_own;
  errors = m.errors;
  takes_memory = true;
  may_wait = false;
  by_stage = false;
  deadline = λ constants since. None;
  sends = [];
}

-- and by the paths of two
abbrev pub by_names : Needed → Needed → NameMeaning → Meaning
by_names first second m = record {
  named = first.fd ∷ second.fd ∷ [];
  need = first ∷ second ∷ [];
  seen = first.fd ∷ second.fd ∷ [];
  effect = λ constants v who table.
      outcome_of who.pid (v.process who.pid) m.new_nodes
      (m.effect (real_time constants v.clock) (next_object who.pid (v.process who.pid) 1) v.branch
      (open_of v (get table first.fd)) (open_of v (get table second.fd)));
  outside = λ v table. m.outside v.branch (open_of v (get table first.fd)) (open_of v (get table second.fd));
  touched = λ S table. m.touched (tree_of S) (open_of (whole S) (get table first.fd)) (open_of (whole S) (get table second.fd));
  numbers = m.new_nodes;
  own = keeps_own;
  errors = m.errors;
  takes_memory = true;
  may_wait = false;
  by_stage = false;
  deadline = λ constants since. None;
  sends = [];
}

-- ---- parts of what such calls do

-- it goes on with the last name of a path
abbrev pub at_name : (ℕ → List ℕ → NameOutcome) → LastName → NameOutcome
at_name goes (StandsIn dir name) = goes dir name
at_name goes (IsNone errno) = Refuses errno
at_name goes (IsOutside component) = LeadsOut component

-- it is refused where the tree has a fault for it
abbrev pub unless_fault : (TreeFault → Errno) → Option TreeFault → NameOutcome → NameOutcome
unless_fault errno_of None comes = comes
unless_fault errno_of (Some fault) comes = Refuses (errno_of fault)
