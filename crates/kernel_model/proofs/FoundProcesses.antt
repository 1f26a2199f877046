-- The calls on processes answer BADF only where a descriptor is absent.
use Rattle.std.proofs.Common.{ℕ, true, false, List, Option, Some, None, refl, sym, subst, arith}
use Rattle.std.specs.FinMap.{get}
use Rattle.elf_image.specs.Checks.{fault_of}
use Rattle.elf_image.specs.declared.fault.ElfFault.{ElfFault}
use Rattle.tree_model.specs.Changes.{bytes_of}
use Rattle.abi_base.specs.declared.rights.TheConstants.Rights.{PROC_EXEC}
use Rattle.kernel_model.specs.Families.ClockCalls.{can_draw}
use Rattle.kernel_model.specs.Families.ForkCalls.{exec_checked, exec_if, exec_open, listed, proc_exec}
use Rattle.kernel_model.specs.Families.OpenMeaning.{at_descriptor}
use Rattle.kernel_model.specs.Rows.{base_row}
use Rattle.kernel_model.specs.Start.{canary_words}
use Rattle.kernel_model.specs.State.{ProcessState, State, Table, tree_of}
use Rattle.kernel_model.specs.Step.{tick}
use Rattle.kernel_model.specs.Valid.{IsNearlyValid}
use Rattle.kernel_model.specs.View.{whole}
use Rattle.kernel_model.proofs.FoundOpens.{NeverBadf, OnlyWhere, at_file, open_there}

module _ (key : List ℕ) (p t : ℕ) (table : Table) (elf : List ℕ) where
  exec_found : (own : Option ProcessState) (fault : Option ElfFault) → OnlyWhere ⊥ (exec_checked key p t table elf own fault)
  exec_found own (Some fault) = λ e. cc
  exec_found None None = λ e. cc
  exec_found (Some own) None =
      elim (can_draw canary_words own) as (λ b. OnlyWhere ⊥ (exec_if b key p t own table elf)) [ true ↦ λ e. cc | false ↦ λ e. cc ]

-- a right to run a program is one of files alone
pub proc_exec_found : (S : State) → IsNearlyValid S → (fd : ℕ) (fds : List ℕ) → NeverBadf ⊥ S (proc_exec fd fds)
proc_exec_found S nearly fd fds constants who table own all met =
    let d = met.0.0 in
    let found = open_there S nearly who.pid fd table d own met.0.1 in
    let effect = exec_open constants.key who.pid who.tid (listed table fds) (whole (tick S)) in
    subst (λ o. OnlyWhere ⊥ (at_descriptor (λ _. effect) (whole (tick S)) o)) (sym met.0.1)
    (subst (λ o. OnlyWhere ⊥ (effect o)) (sym found.1)
    (at_file S (λ kind. OnlyWhere ⊥ (effect (Some kind))) 32 (base_row fd PROC_EXEC) refl refl ((omega arith, refl, refl, refl, refl), refl)
    (λ node offset flags file.
    exec_found constants.key who.pid who.tid (listed table fds) (bytes_of (tree_of S) node) (get S.processes who.pid) (fault_of (bytes_of (tree_of S) node)))
    found.0
    (record { d = d; rights = found.2; has = met.0.2; behind = nearly.behind d.id found.0 found.1 })))
