use Rattle.std.proofs.Common.{◌≡◌, true, Some, refl, sym, ap, ◌∙◌}
use Rattle.kernel_model.specs.Families.ForkCalls.{can_fork, child_open}
use Rattle.kernel_model.specs.Outcome.{replies}
use Rattle.kernel_model.proofs.Tests.{not_true}
use Rattle.kernel_parts.proofs.Naming.{numbered_is, unnumbered}
use Rattle.process_calls.proofs.Births.{bears_if, before_last, forks_full, forks_not, numbers_if}
use Rattle.process_calls.proofs.forks.plan_child.Goals as goal

pub returns-then-len-eq-MOST_DESCRIPTORS-clause-refused : goal.returns-then-len-eq-MOST_DESCRIPTORS-clause-refused
returns-then-len-eq-MOST_DESCRIPTORS-clause-refused c =
    forks_full c.args.left c.args.pid c.args.tid c.args.own.now c.args.table.now c.len.ensures.below (sym c.len.ensures.len ∙ c.if-len-eq-MOST_DESCRIPTORS.true)
    ∙ ap replies (sym c.refused.ensures)

pub returns-then-not-can_fork-clause-refused : goal.returns-then-not-can_fork-clause-refused
returns-then-not-can_fork-clause-refused c =
    forks_not c.args.left c.args.pid c.args.tid c.args.own.now c.args.table.now c.in-Some.fd c.in-Some.ensures.free
    (sym c.can_fork.ensures ∙ c.if-not-can_fork.true)
    ∙ ap replies (sym c.refused-then-not-can_fork.ensures)

pub returns-in_default-numbered-clause-refused : goal.returns-in_default-numbered-clause-refused
returns-in_default-numbered-clause-refused c =
    let can : can_fork c.args.left c.args.pid c.args.tid c.args.own.now ≡ true = sym c.can_fork.ensures ∙ c.if-not-can_fork.false in
    absurd (not_true (sym (unnumbered c.args.pid 2 (Some c.args.own.now) (sym c.in_default-numbered.ensures.number)) ∙ numbers_if c.args.left c.args.pid c.args.tid c.args.own.now can))

pub next_child-requires-clause-bears : goal.next_child-requires-clause-bears
next_child-requires-clause-bears c =
    bears_if c.args.left c.args.pid c.args.tid c.args.own.now (sym c.can_fork.ensures ∙ c.if-not-can_fork.false)

pub next_child-requires-clause-fits : goal.next_child-requires-clause-fits
next_child-requires-clause-fits c =
    c.requires.fits (bears_if c.args.left c.args.pid c.args.tid c.args.own.now (sym c.can_fork.ensures ∙ c.if-not-can_fork.false))

pub returns-clause-ok : goal.returns-clause-ok
returns-clause-ok c =
    let last : c.in-Some-numbered.last ≡ child_open c.args.pid c.args.own.now =
    (numbered_is c.args.pid 2 _ (Some c.args.own.now) (sym c.in-Some-numbered.ensures.number)).1 in
    record {
      can = sym c.can_fork.ensures ∙ c.if-not-can_fork.false;
      parent_is = refl;
      tid_is = refl;
      child_is = c.next_child.ensures;
      object_is = before_last c.args.pid c.args.own.now _ (c.last.view_is ∙ last);
      open_is = last;
      free = c.in-Some.ensures.free;
    }
