use Rattle.elf_image.proofs.FaultOrder.{first_fault_is_found, has_no_fault, is_first_fault, no_fault_is_found}
use Rattle.elf_image.proofs.laws.checks_find_first.Goals as goal

pub returns-clause-first : goal.returns-clause-first
returns-clause-first c = λ bytes found. (is_first_fault bytes found, first_fault_is_found bytes found)

pub returns-clause-none : goal.returns-clause-none
returns-clause-none c = λ bytes. (has_no_fault bytes, no_fault_is_found bytes)
