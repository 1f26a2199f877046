-- Which entries make the opens that no grant is of: the statement that is the contract of a function of src/laws.rt.
use Rattle.std.specs.Prelude.{◌≡◌, ◌⊎◌, ⊤, ℕ, List, [], ◌∷◌, ◌++◌, None, Some}
use Rattle.std.specs.FinMap.{get}
use Rattle.abi_types.specs.declared.call.Call.TheVariants.{FdCreate2, ProcFork}
use Rattle.abi_types.specs.declared.descriptor.Descriptor.{Descriptor}
use Rattle.abi_types.specs.declared.open_kind.OpenKind.{OpenKind}
use Rattle.abi_types.specs.declared.open_kind.OpenKind.TheVariants.{End, Process}
use Rattle.abi_types.specs.declared.reply.Reply.{Reply}
use Rattle.run_types.specs.declared.history.Entry.{Entry}
use Rattle.run_types.specs.declared.launch.Launch.{Launch}
use Rattle.run_model.specs.World.{world}
use Rattle.authority_laws.specs.Recorded.{Succeeds}
use Rattle.authority_laws.specs.Traces.{Traced, of_entry, root}

-- the entry is an fd_create2 or a proc_fork that has succeeded
abbrev pub IsMaker : Entry → Type 0
IsMaker e =
    ((kind : ℕ) × (reply : Reply) × Succeeds e (FdCreate2 kind) reply) ⊎ ((left : ℕ) × (reply : Reply) × Succeeds e (ProcFork left) reply)

-- the open is of an end of channels, or of a process
abbrev pub IsMadeOfNothing : OpenKind → Type 0
IsMadeOfNothing (End reads writes flags form) = ⊤
IsMadeOfNothing (Process p object) = ⊤
IsMadeOfNothing _ = ⊥

-- one of these entries is an fd_create2 or a proc_fork that has made such an open, which wasn't there before it and was there after it
pub record HasMaker (launch : Launch) (history : List Entry) : Type 0 where
  pub front : List Entry
  pub e : Entry
  pub rest : List Entry
  pub is : history ≡ front ++ e ∷ rest
  pub maker : IsMaker e
  pub number : ℕ
  pub kind : OpenKind
  pub absent : get (world launch front).state.opens number ≡ None
  pub opened : get (world launch (front ++ e ∷ [])).state.opens number ≡ Some kind
  pub of : IsMadeOfNothing kind

-- Where a trace begins with no grant it begins with such an entry: no other call makes an open that is of nothing in the launch.
abbrev pub TracesBeginSo : Type 0
TracesBeginSo =
    (launch : Launch) (history : List Entry) (p n : ℕ) (d : Descriptor) (trace : Traced launch history p n d) → root launch history p n d trace ≡ of_entry
    → HasMaker launch history
