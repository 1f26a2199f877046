use Rattle.std.proofs.Common.{ℕ, Option, None, Some, nat_le, nat_lt, refl, sym, subst, arith}
use Rattle.std.specs.FinMap as map
use Rattle.std.proofs.lemmas.Bool.{le-leb}
use Rattle.wait_set.specs.Next.{IsNext}
use Rattle.wait_set.proofs.Queueing.{least_next}
use Rattle.wait_set.proofs.queues.next_key.Goals as goal

pub returns-in-None : goal.returns-in-None
returns-in-None g c =
    subst (λ (a : Option ℕ). IsNext (λ q. map.contains_key c.args.entries.now q) a c.first_from.result) (sym c.in-None.is)
    (subst (λ (r : Option ℕ). IsNext (λ q. map.contains_key c.args.entries.now q) None r) (sym c.first_from.ensures)
    (least_next (nat_le 0) None c.args.entries.now (λ q. sym (le-leb 0 q (omega arith)))))

pub returns-in-Some : goal.returns-in-Some
returns-in-Some g c =
    subst (λ (a : Option ℕ). IsNext (λ q. map.contains_key c.args.entries.now q) a c.first_after.result) (sym c.in-Some.is)
    (subst (λ (r : Option ℕ). IsNext (λ q. map.contains_key c.args.entries.now q) (Some c.in-Some.key) r) (sym c.first_after.ensures)
    (least_next (nat_lt c.in-Some.key) (Some c.in-Some.key) c.args.entries.now (λ q. refl)))
