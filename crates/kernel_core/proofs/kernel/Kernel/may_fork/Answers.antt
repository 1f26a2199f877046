use Rattle.std.proofs.Common.{◌≡◌, ℕ, true, false, Option, None, Some, is_some, refl, sym, ap, ◌∙◌}
use Rattle.std.proofs.lemmas.Bool.{true_from_ne_false}
use Rattle.std.specs.Prelude.{IfSome, IsFalse, IsNone}
use Rattle.std.specs.FinMap.{get}
use Rattle.fd_table.specs.Table.{IsLowestFree}
use Rattle.kernel_model.specs.Families.DescriptorCalls.{lowest_free}
use Rattle.kernel_model.specs.Families.ForkCalls.{can_fork}
use Rattle.kernel_model.specs.State.{State, Table}
use Rattle.kernel_model.proofs.Tests.{none_is_no, not_true}
use Rattle.kernel_model.proofs.Valids.{same_value}
use Rattle.kernel_parts.proofs.Lowest.{full_is_none, lowest_is}
use Rattle.kernel_core.specs.Waiting.{caller}
use Rattle.kernel_invariant.proofs.ForkCalls.{MakesNone, fork_fails, fork_none, fork_succeeds}
use Rattle.kernel_core.proofs.kernel.Kernel.may_fork.Goals as goal
use Rattle.kernel_core.proofs.kernel.Kernel.may_fork.Goals.{In-Some-Some}

-- the process has no descriptors, or nothing of its own
pub returns-in_default-2 : goal.returns-in_default-2
returns-in_default-2 c =
    let S = c.args.self.now in
    let who = caller S c.args.pid c.args.tid in
    let cannot : MakesNone S who c.args.left = λ table own here _ _ _. none_is_no table
    (c.in_default.ensures.value ∙ ap (get c.self.inside.tables) (c.from-p.ensures ∙ c.pid.view_is) ∙ ap (λ (X : State). get X.tables c.args.pid) c.self.view_is ∙ here) in
    record {
      child = λ constants. (λ can. absurd (not_true can), λ done. absurd (fork_fails constants S who c.args.left cannot done));
      none = λ _ constants given after step. fork_none constants S who c.args.left given after cannot step;
    }

-- what the process has
there : (c : In-Some-Some) → get c.self.inside.tables c.args.pid ≡ Some c.in-Some-Some.table.now
there c = ap (get c.self.inside.tables) (sym (c.from-p.ensures ∙ c.pid.view_is)) ∙ sym c.in-Some-Some.ensures.value

seen : (c : In-Some-Some) → get c.args.self.now.tables c.args.pid ≡ Some c.in-Some-Some.table.now
seen c = ap (λ (S : State). get S.tables c.args.pid) (sym c.self.view_is) ∙ there c

owned : (c : In-Some-Some) → get c.args.self.now.processes c.args.pid ≡ Some c.in-Some-Some.own.now
owned c =
    ap (λ (S : State). get S.processes c.args.pid) (sym c.self.view_is) ∙ ap (get c.self.inside.processes) (sym (c.from-p.ensures ∙ c.pid.view_is))
    ∙ sym c.in-Some-Some.ensures'.value

-- the number that is free
number_of : (table : Table) (o : Option ℕ) → IfSome o (IsLowestFree table) → is_some o ≡ true → (fd : ℕ) × (lowest_free table ≡ Some fd)
number_of table None free some = absurd (not_true some)
number_of table (Some fd) free some = (fd, lowest_is table fd free)

pub returns-then-is_some : goal.returns-then-is_some
returns-then-is_some d =
    let c = (goal.at.returns-then-is_some d).In-Some-Some in
    let S = d.args.self.now in
    let who = caller S d.args.pid d.args.tid in
    let had = d.in-Some-Some.table.now in
    let mine = d.in-Some-Some.own.now in
    let free = number_of had d.lowest.result d.lowest.ensures.free (sym d.is_some.ensures ∙ d.if-is_some.true) in
    let cannot : IsFalse d.can_fork.result → MakesNone S who d.args.left = λ isnt table own _ there _ can.
    not_true (sym isnt ∙ d.can_fork.ensures ∙ ap (can_fork d.args.left d.args.pid d.args.tid) (same_value _ _ _ (owned c) there) ∙ can) in
    record {
      child = λ constants. (
        λ can. fork_succeeds constants S who d.args.left had mine free.0 (seen c) (owned c) free.1 (sym d.can_fork.ensures ∙ can),
        λ done. true_from_ne_false d.can_fork.result (λ isnt. fork_fails constants S who d.args.left (cannot isnt) done),
      );
      none = λ isnt constants given after step. fork_none constants S who d.args.left given after (cannot isnt) step;
    }

none_of : {X : Type 0} (o : Option X) → is_some o ≡ false → IsNone o
none_of None none = refl
none_of (Some x) none = absurd (not_true (sym none))

pub returns-else-is_some : goal.returns-else-is_some
returns-else-is_some d =
    let c = (goal.at.returns-else-is_some d).In-Some-Some in
    let S = d.args.self.now in
    let who = caller S d.args.pid d.args.tid in
    let had = d.in-Some-Some.table.now in
    let none : lowest_free had ≡ None =
    full_is_none had (d.self.invariant.kept.small d.args.pid had (there c)) (d.lowest.ensures.full.0 (none_of d.lowest.result (sym d.is_some.ensures ∙ d.if-is_some.false))) in
    let cannot : MakesNone S who d.args.left = λ table own here _ free _.
    not_true (sym (ap is_some (ap lowest_free (same_value _ _ _ here (seen c)) ∙ none)) ∙ free) in
    record {
      child = λ constants.
          (λ can. absurd (not_true (sym d.if-is_some.false ∙ can)), λ done. absurd (fork_fails constants S who d.args.left cannot done));
      none = λ _ constants given after step. fork_none constants S who d.args.left given after cannot step;
    }
