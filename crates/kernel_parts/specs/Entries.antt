-- What calls on names leave of the tree, and of what their process has of its own.
use Rattle.std.specs.Prelude.{◌≡◌, ℕ, Option, None, Some, if◌then◌else◌}
use Rattle.std.specs.Ordering.{nat_cmp}
use Rattle.std.specs.FinMap.{FinMap, get}
use Rattle.std.specs.Option.{option_map}
use Rattle.abi_types.specs.declared.descriptor.Descriptor.{Descriptor}
use Rattle.abi_types.specs.declared.open_kind.OpenKind.{OpenKind}
use Rattle.abi_types.specs.declared.reply.Answer.TheVariants as answer
use Rattle.abi_types.specs.declared.reply.Reply.{Reply}
use Rattle.kernel_model.specs.Families.NameMeaning.{NameOutcome, Refuses, LeadsOut, Changes, outcome_of}
use Rattle.kernel_model.specs.Families.Numbers.{can_number, made_more, next_object}
use Rattle.kernel_model.specs.State.{ProcessState, Table, Tree}

-- the number of the last of so many objects that a process makes next, where it can make so many
abbrev pub number_of : ℕ → ℕ → Option ProcessState → Option ℕ
number_of p count own = if can_number p count own then Some (next_object p own count) else None

-- the open of a descriptor
abbrev pub open_in : FinMap nat_cmp OpenKind → Option Descriptor → Option OpenKind
open_in opens None = None
open_in opens (Some d) = get opens d.id

-- the open of the descriptor with this number in a table, where a number is named
abbrev pub open_at : FinMap nat_cmp OpenKind → Table → Option ℕ → Option OpenKind
open_at opens table None = None
open_at opens table (Some fd) = open_in opens (get table fd)

-- a descriptor with its open
abbrev pub open_by : FinMap nat_cmp OpenKind → Option Descriptor → Option (Descriptor × OpenKind)
open_by opens None = None
open_by opens (Some d) = option_map (λ kind. (d, kind)) (get opens d.id)

-- the descriptor with this number in a process's table, with its open
abbrev pub open_with : FinMap nat_cmp OpenKind → Option Table → ℕ → Option (Descriptor × OpenKind)
open_with opens None fd = None
open_with opens (Some table) fd = open_by opens (get table fd)

-- the open of the descriptor with this number in a process's table, where a number is given
abbrev pub kind_with : FinMap nat_cmp OpenKind → Option Table → Option ℕ → Option OpenKind
kind_with opens None fd = None
kind_with opens (Some table) fd = open_at opens table fd

-- what the process has of its own once that is done, where it makes so many nodes
abbrev pub process_left : ℕ → ℕ → ProcessState → NameOutcome → ProcessState
process_left p new_nodes own (Refuses errno) = own
process_left p new_nodes own (LeadsOut component) = own
process_left p new_nodes own (Changes change) = if can_number p new_nodes (Some own) then made_more new_nodes own else own

-- and the tree
abbrev pub tree_left : ℕ → ℕ → ProcessState → Tree → NameOutcome → Tree
tree_left p new_nodes own t (Refuses errno) = t
tree_left p new_nodes own t (LeadsOut component) = t
tree_left p new_nodes own t (Changes change) = if can_number p new_nodes (Some own) then change.tree else t

-- a call that comes to this is done: its reply, and what the process has of its own and the tree after it
pub record IsLeftBy (p new_nodes : ℕ) (own new : ProcessState) (t u : Tree) (comes : NameOutcome) (reply : Reply) : Type 0 where
  pub answered : answer.Reply reply ≡ (outcome_of p (Some own) new_nodes comes).answer
  pub numbered : new ≡ process_left p new_nodes own comes
  pub changed : u ≡ tree_left p new_nodes own t comes
