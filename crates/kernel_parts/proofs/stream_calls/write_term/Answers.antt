use Rattle.std.proofs.Common.{ℕ, Option, refl, sym, ap, subst, ◌∙◌}
use Rattle.std.specs.FinMap.{get, insert}
use Rattle.abi_types.specs.declared.stream.Stream.{Stream}
use Rattle.maps.specs.Maps.{insert_self}
use Rattle.kernel_model.specs.Families.StreamCalls.{write_term}
use Rattle.kernel_model.specs.Outcome.{IsSuccess}
use Rattle.kernel_model.proofs.Valids.{some_inserted}
use Rattle.kernel_parts.proofs.stream_calls.write_term.Goals as goal

pub returns-in-Err-clause-done : goal.returns-in-Err-clause-done
returns-in-Err-clause-done c = (
  refl,
  subst (λ (k : ℕ). IsSuccess (write_term c.args.bytes.now c.args.which (get c.args.terms.now k)).answer) c.from-2.ensures
      (subst (λ (stream : Option Stream). IsSuccess (write_term c.args.bytes.now c.args.which stream).answer) c.get_mut-stream.ensures.value refl),
  ap (λ (stream : Stream). insert c.args.terms.now c.from-2.result stream) c.in-Err.ensures.err ∙ insert_self _ _ _ (sym c.get_mut-stream.ensures.value),
)

pub returns-in-Ok-clause-there : goal.returns-in-Ok-clause-there
returns-in-Ok-clause-there c = λ k there. some_inserted c.args.terms.now c.from-2.result _ k there

pub returns-in-Err-clause-there : goal.returns-in-Err-clause-there
returns-in-Err-clause-there c = λ k there. some_inserted c.args.terms.now c.from-2.result _ k there
