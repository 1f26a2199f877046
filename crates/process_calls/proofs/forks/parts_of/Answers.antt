use Rattle.std.proofs.Common.{IsSome, sym, ap, subst, rules}
use Rattle.std.specs.FinMap.{get}
use Rattle.process_calls.specs.declared.forks.NewChild.{NewChild}
use Rattle.process_calls.proofs.forks.parts_of.Goals as goal

pub child-requires-clause-there : goal.child-requires-clause-there
child-requires-clause-there c =
    subst (λ t. IsSome (get c.in-Some-Some.own.now.threads t)) (sym (ap (λ (x : NewChild). x.tid) c.plan.view_is))
    (c.requires.there c.in-Some-Some.own.now (search rules))
