use Rattle.std.proofs.Common.{◌&&◌, ◌||◌, refl, sym, ap, subst, ◌∙◌}
use Rattle.std.specs.Bool.{nat_eq}
use Rattle.std.specs.FinMap.{empty, insert, len}
use Rattle.maps.specs.Maps.{insert_self}
use Rattle.wait_set.specs.Queued.{has_at, NoneEmpty}
use Rattle.wait_set.proofs.Queueing.{Queue, put_some, inserted_some, stood, at_queue, at_none, on_err}
use Rattle.wait_set.proofs.queues.Queues.stand.Goals as goal

pub invariant_of-self : goal.invariant_of-self
invariant_of-self c =
    let same = ap (λ (q : Queue). insert c.self.inside.by_number c.args.number q) c.in_err-stand.ensures.err ∙ insert_self c.self.inside.by_number c.args.number c.get_mut.result.now (sym c.get_mut.ensures.value) in
    subst NoneEmpty (sym same) c.self.invariant

pub returns-in_err-stand-clause-err : goal.returns-in_err-stand-clause-err
returns-in_err-stand-clause-err c =
    let same = ap (λ (q : Queue). insert c.self.inside.by_number c.args.number q) c.in_err-stand.ensures.err ∙ insert_self c.self.inside.by_number c.args.number c.get_mut.result.now (sym c.get_mut.ensures.value) in
    on_err c.from_residual.result _ (same ∙ c.self.view_is)

pub invariant_of-self-then-contains : goal.invariant_of-self-then-contains
invariant_of-self-then-contains c =
    put_some c.self.inside.by_number c.args.number c.stand.new.self c.self.invariant
    (λ none. inserted_some c.get_mut.result.now c.args.thread (sym (ap (λ (q : Queue). len q) c.in_ok-stand.ensures.ok) ∙ none))

pub returns-then-contains-clause-ok : goal.returns-then-contains-clause-ok
returns-then-contains-clause-ok c = λ n t.
    stood c.self.inside.by_number (insert c.self.inside.by_number c.args.number c.stand.new.self) c.args.number c.args.thread c.get_mut.result.now
    (ap (λ (q : Queue). insert c.self.inside.by_number c.args.number q) c.in_ok-stand.ensures.ok)
    (at_queue c.self.inside.by_number c.args.number c.get_mut.result.now c.get_mut.ensures.value) n t
    ∙ ap (λ m. has_at m n t || (nat_eq n c.args.number && nat_eq t c.args.thread)) c.self.view_is

pub invariant_of-self-2 : goal.invariant_of-self-2
invariant_of-self-2 c =
    subst NoneEmpty (sym c.in_ok-insert.ensures.ok)
    (put_some c.self.inside.by_number c.args.number c.new-queue.result c.self.invariant
    (λ none. inserted_some empty c.args.thread (sym (ap (λ (q : Queue). len q) c.new-queue.ensures) ∙ none)))

pub returns-clause-ok : goal.returns-clause-ok
returns-clause-ok c = λ n t.
    stood c.self.inside.by_number c.insert.new.self c.args.number c.args.thread empty
    (c.in_ok-insert.ensures.ok ∙ ap (λ (q : Queue). insert c.self.inside.by_number c.args.number q) c.new-queue.ensures)
    (at_none c.self.inside.by_number c.args.number empty refl (sym c.if-contains.ensures)) n t
    ∙ ap (λ m. has_at m n t || (nat_eq n c.args.number && nat_eq t c.args.thread)) c.self.view_is
