-- What is read is encoded so, and what is encoded so is read.
use Rattle.std.proofs.Common.{arith, sym, subst, ◌∙◌}
use Rattle.lists.specs.declared.stop.Stop.{Stop}
use Rattle.lists.specs.Options.{IsStopOf}
use Rattle.argdata_codec.specs.declared.fault.Malformed.{Malformed}
use Rattle.argdata_codec.specs.Reading.{value_at}
use Rattle.argdata_codec.specs.Views.{shape_of}
use Rattle.lists.proofs.Chosen.{some_is, none_some}
use Rattle.argdata_codec.proofs.Sound.{value_sound}
use Rattle.argdata_codec.proofs.Again.{value_again}
use Rattle.argdata_codec.proofs.Longest.{from_each}
use Rattle.argdata_codec.proofs.decoding.decode.Goals as goal

pub returns-in-Ok-clause-found : goal.returns-in-Ok-clause-found
returns-in-Ok-clause-found c =
    let all = from_each c.args.bytes.now (λ i. omega (arith, c.type_inv.bytes i)) in
    let r = value_sound 64 c.args.bytes.now (shape_of c.in-Ok.value) all c.in-Ok.ensures in
    (r.1, r.0)

pub returns-in-Ok-clause-only : goal.returns-in-Ok-clause-only
returns-in-Ok-clause-only c x h = some_is (shape_of c.in-Ok.value) x (sym c.in-Ok.ensures ∙ value_again 64 x h.0 c.args.bytes.now h.1)

pub returns-in_ok-fault-in-Err-At-clause-only : goal.returns-in_ok-fault-in-Err-At-clause-only
returns-in_ok-fault-in-Err-At-clause-only c x h =
    let none = subst (λ (e : Stop Malformed). IsStopOf e (value_at 64 c.args.bytes.now)) c.in-Err-At.field-0-is c.in-Err-At.ensures in
    absurd (none_some x (sym none ∙ value_again 64 x h.0 c.args.bytes.now h.1))
