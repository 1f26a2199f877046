use Rattle.std.proofs.Common.{◌≤◌, ◌+◌, ◌/◌, ◌%◌, ap, sym, subst, ◌∙◌, arith}
use Rattle.guest_memory.specs.Page.{Pages}
use Rattle.guest_memory.specs.Words.{store_of}
use Rattle.guest_memory.specs.Written.{KeepsUnwritable}
use Rattle.guest_memory.proofs.Stores.{stored_limits, stored_ok, stored_unwritable}
use Rattle.guest_memory.proofs.memory.GuestMemory.store_by_hint.Goals as goal

pub invariant_of-self : goal.invariant_of-self
invariant_of-self c =
    stored_limits c.self.inside.pages c.store_hinted.new.self (c.args.at / 4096) (c.args.at % 4096) c.args.n c.args.v c.store_hinted.result c.self.invariant (omega arith)
    c.store_hinted.ensures.stored c.store_hinted.ensures.same

pub returns-clause-ok : goal.returns-clause-ok
returns-clause-ok c = λ stored.
    let fits : c.args.at % 4096 + c.args.n ≤ 4096 = omega arith in
    ap (λ (m : Pages). store_of m c.args.at c.args.n c.args.v) (sym c.self.view_is)
    ∙ stored_ok c.self.inside.pages c.store_hinted.new.self c.args.at c.args.n c.args.v c.self.invariant c.ranges.at.fits fits (c.store_hinted.ensures.stored stored)

pub returns-clause-unwritable : goal.returns-clause-unwritable
returns-clause-unwritable c =
    subst (λ (m : Pages). KeepsUnwritable m c.store_hinted.new.self) c.self.view_is
    (stored_unwritable c.self.inside.pages c.store_hinted.new.self (c.args.at / 4096) (c.args.at % 4096) c.args.n c.args.v c.store_hinted.result
    c.store_hinted.ensures.stored c.store_hinted.ensures.same)
