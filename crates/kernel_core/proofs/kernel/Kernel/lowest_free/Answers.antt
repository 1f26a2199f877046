use Rattle.std.proofs.Common.{◌≡◌, ℕ, Option, None, Some, refl, sym, ap, ◌∙◌}
use Rattle.std.specs.Prelude.{IfSome, IsNone}
use Rattle.std.specs.FinMap.{get}
use Rattle.fd_table.specs.Table.{IsFull, IsLowestFree, IsTable}
use Rattle.kernel_model.specs.Families.DescriptorCalls.{lowest_free}
use Rattle.kernel_model.specs.State.{State, Table}
use Rattle.kernel_parts.proofs.Lowest.{full_is_none, lowest_is}
use Rattle.kernel_invariant.specs.Readiness.{number_given}
use Rattle.kernel_core.proofs.kernel.Kernel.lowest_free.Goals as goal

lowest_found : (table : Table) (o : Option ℕ) → IsTable table → IfSome o (IsLowestFree table) → (IsNone o → IsFull table) → o ≡ lowest_free table
lowest_found table None small free full = sym (full_is_none table small (full refl))
lowest_found table (Some number) small free full = sym (lowest_is table number free)

pub returns : goal.returns
returns c =
    let table = c.in_ok-get.field-0.now in
    let there : get c.self.inside.tables c.args.pid ≡ Some table =
    ap (get c.self.inside.tables) (sym (c.from.ensures ∙ c.pid.view_is)) ∙ sym c.in_ok-get.ensures.value in
    lowest_found table c.lowest.result (c.self.invariant.kept.small c.args.pid table there) c.lowest.ensures.free c.lowest.ensures.full.0
    ∙ ap number_given (sym there ∙ ap (λ (S : State). get S.tables c.args.pid) c.self.view_is)
