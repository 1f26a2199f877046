-- The call that lets another program begin in a process.
--     listed_small, picked_listed      what is listed is a table, and what is picked is listed
--     listed_opens      its opens are there
--     exec_absent, exec_at      what the call comes to, by the open of its descriptor
--     exec_faulty, exec_undrawn, exec_drawn, exec_begins      and by the program
--     exec_succeeds      no error where the program may begin
use Rattle.std.proofs.Common.{◌≡◌, ℕ, zero, suc, ◌<◌, ◌≤◌, true, false, List, [], ◌∷◌, length, slice_get, Option, None, Some, IsSome, option_and_then, is_some, refl, sym, ap, subst, ◌∙◌, arith}
use Rattle.std.specs.Ordering.{nat_cmp}
use Rattle.std.specs.Option.{option_map}
use Rattle.std.specs.FinMap.{FinMap, get}
use Rattle.elf_image.specs.Checks.{fault_of}
use Rattle.elf_image.specs.declared.fault.ElfFault.{ElfFault}
use Rattle.abi_base.specs.declared.errno.Errno.TheVariants.{Again, Badf, Noexec}
use Rattle.abi_base.specs.declared.limits.TheConstants.{MOST_DESCRIPTORS}
use Rattle.abi_types.specs.declared.descriptor.Descriptor.{Descriptor}
use Rattle.abi_types.specs.declared.open_kind.OpenKind.{OpenKind}
use Rattle.abi_types.specs.declared.open_kind.OpenKind.TheVariants.{File, Directory, End, Terminal, Process}
use Rattle.fd_table.specs.Table.{IsPicked, IsTable}
use Rattle.maps.specs.Maps.{same_numbers}
use Rattle.tree_model.specs.Changes.{bytes_of}
use Rattle.kernel_model.specs.Families.ClockCalls.{can_draw}
use Rattle.kernel_model.specs.Families.ForkCalls.{exec_checked, exec_if, exec_open, listed}
use Rattle.kernel_model.specs.Families.OpenMeaning.{at_descriptor}
use Rattle.kernel_model.specs.ForkLaws.{nth_held}
use Rattle.kernel_model.specs.Outcome.{IsSuccess, Outcome, replies}
use Rattle.kernel_model.specs.Reply.{refused}
use Rattle.kernel_model.specs.Start.{canary_words}
use Rattle.kernel_model.specs.State.{ProcessState, State, Table, tree_of}
use Rattle.kernel_model.specs.Valid.{IsNamed, IsNearlyValid}
use Rattle.kernel_model.specs.View.{whole}
use Rattle.kernel_model.proofs.ExecCalls.{listed_all, listed_at}
use Rattle.kernel_model.proofs.Tests.{not_true}
use Rattle.kernel_parts.specs.Entries.{open_in}
use Rattle.process_calls.specs.Forks.{IsOpenOf}
use Rattle.process_calls.specs.Programs.{node_of_file}
use Rattle.process_calls.specs.NewPrograms.{IsProgram, begun, exec_bytes, exec_outcome}
use Rattle.process_calls.specs.declared.programs.NewProgram.{NewProgram}

-- ---- the descriptors that are listed

nth_is : (table : Table) (fds : List ℕ) (n : ℕ) → option_and_then (get table) (slice_get fds n) ≡ nth_held (get table) fds n
nth_is table [] n = refl
nth_is table (fd ∷ fds) zero = refl
nth_is table (fd ∷ fds) (suc n) = nth_is table fds n

nth_within : (row : ℕ → Option Descriptor) (fds : List ℕ) (n : ℕ) → IsSome (nth_held row fds n) → n < length fds
nth_within row [] n some = absurd (not_true some)
nth_within row (fd ∷ fds) zero some = omega arith
nth_within row (fd ∷ fds) (suc n) some = (let less = nth_within row fds n some in omega (arith, less))

pub picked_listed : (table : Table) (fds : List ℕ) (made : Table) → IsPicked table fds made → made ≡ listed table fds
picked_listed table fds made picked = same_numbers made (listed table fds) (λ n. picked n ∙ nth_is table fds n ∙ sym (listed_at table fds n))

pub listed_small : (table : Table) (fds : List ℕ) → length fds ≤ MOST_DESCRIPTORS → IsTable (listed table fds)
listed_small table fds few n some =
    let less = nth_within (get table) fds n (ap is_some (sym (listed_at table fds n)) ∙ some) in omega (arith, less, few)

some_named : (kind : Option OpenKind) (d : Descriptor) → IsNamed kind d → IsSome kind
some_named None d h = absurd h
some_named (Some kind) d h = refl

open_there : (kinds : FinMap nat_cmp OpenKind) (o : Option Descriptor) → ((d : Descriptor) → o ≡ Some d → IsSome (get kinds d.id)) → IsOpenOf kinds o
open_there kinds None some = tt
open_there kinds (Some d) some = some d refl

pub listed_opens : (S : State) (p : ℕ) (table : Table) (fds : List ℕ) → get S.tables p ≡ Some table → IsNearlyValid S
    → (n : ℕ) → IsOpenOf S.opens (get (listed table fds) n)
listed_opens S p table fds there v n =
    open_there S.opens (get (listed table fds) n)
    (listed_all (λ d. IsSome (get S.opens d.id)) table (λ k d at. some_named (get S.opens d.id) d (v.named p k table d there at)) 0 fds n)

-- ---- what the call comes to

module _ (key : List ℕ) (S : State) (p t : ℕ) (table : Table) (fd : ℕ) (fds : List ℕ) where
  opened_absent : (o : Option OpenKind) → o ≡ None → exec_open key p t (listed table fds) (whole S) o ≡ replies (refused Badf)
  opened_absent o none = ap (exec_open key p t (listed table fds) (whole S)) none

  held_absent : (o : Option Descriptor) → open_in S.opens o ≡ None
      → at_descriptor (λ i. exec_open key p t (listed table fds) (whole S)) (whole S) o ≡ replies (refused Badf)
  held_absent None none = refl
  held_absent (Some d) none = opened_absent (get S.opens d.id) none

  pub exec_absent : open_in S.opens (get table fd) ≡ None → exec_outcome key S p t table fd fds ≡ replies (refused Badf)
  exec_absent none = held_absent (get table fd) none

  by_bytes : (kind : OpenKind) → exec_open key p t (listed table fds) (whole S) (Some kind)
      ≡ exec_bytes key p t (listed table fds) (get S.processes p) (option_map (bytes_of (tree_of S)) (node_of_file kind))
  by_bytes (File node offset flags) = refl
  by_bytes (Directory node flags) = refl
  by_bytes (End reads writes flags form) = refl
  by_bytes (Terminal which flags) = refl
  by_bytes (Process q object) = refl

  held_at : (o : Option Descriptor) (kind : OpenKind) → open_in S.opens o ≡ Some kind
      → at_descriptor (λ i. exec_open key p t (listed table fds) (whole S)) (whole S) o ≡ exec_open key p t (listed table fds) (whole S) (Some kind)
  held_at None kind is = absurd (not_true (ap is_some is))
  held_at (Some d) kind is = ap (exec_open key p t (listed table fds) (whole S)) is

  pub exec_at : (kind : OpenKind) (own : ProcessState) (elf : Option (List ℕ)) → open_in S.opens (get table fd) ≡ Some kind → get S.processes p ≡ Some own
      → elf ≡ option_map (bytes_of (tree_of S)) (node_of_file kind)
      → exec_outcome key S p t table fd fds ≡ exec_bytes key p t (listed table fds) (Some own) elf
  exec_at kind own elf here there bytes =
      held_at (get table fd) kind here ∙ by_bytes kind ∙ (λ i. exec_bytes key p t (listed table fds) (there i) (sym bytes i))

module _ (key : List ℕ) (p t : ℕ) (table : Table) (own : ProcessState) (elf : List ℕ) where
  abbrev comes : Outcome
  comes = exec_checked key p t table elf (Some own) (fault_of elf)

  faulty_by : (fault : Option ElfFault) → (fault ≡ None → ⊥) → exec_checked key p t table elf (Some own) fault ≡ replies (refused Noexec)
  faulty_by None some = absurd (some refl)
  faulty_by (Some fault) some = refl

  pub exec_faulty : (fault_of elf ≡ None → ⊥) → comes ≡ replies (refused Noexec)
  exec_faulty some = faulty_by (fault_of elf) some

  pub exec_undrawn : fault_of elf ≡ None → can_draw canary_words own ≡ false → comes ≡ replies (refused Again)
  exec_undrawn sound cannot = ap (exec_checked key p t table elf (Some own)) sound ∙ ap (λ b. exec_if b key p t own table elf) cannot

  pub exec_drawn : fault_of elf ≡ None → can_draw canary_words own ≡ true → comes ≡ exec_if true key p t own table elf
  exec_drawn sound can = ap (exec_checked key p t table elf (Some own)) sound ∙ ap (λ b. exec_if b key p t own table elf) can

  pub exec_succeeds : fault_of elf ≡ None → can_draw canary_words own ≡ true → IsSuccess comes.answer
  exec_succeeds sound can = subst (λ (o : Outcome). IsSuccess o.answer) (sym (exec_drawn sound can)) refl

pub exec_begins : (key : List ℕ) (p t : ℕ) (own : ProcessState) (table : Table) (elf fds : List ℕ) (new : NewProgram) → IsProgram key p own table elf fds new
    → exec_bytes key p t (listed table fds) (Some own) (Some elf) ≡ begun p t own new
exec_begins key p t own table elf fds new is =
    exec_drawn key p t (listed table fds) own elf is.sound is.can
    ∙ sym (λ i. begun p t own (record { elf = is.elf_is i; canary = is.canary_is i; table = is.table_is i }))
