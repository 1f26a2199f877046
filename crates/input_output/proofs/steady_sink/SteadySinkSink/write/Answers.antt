use Rattle.std.proofs.Common.{◌≡◌, ◌++◌, take, arith, subst, ◌∙◌}
use Rattle.input_output.specs.Memory.{RoomState}
use Rattle.input_output.proofs.OutputParts.{held_within}
use Rattle.input_output.proofs.steady_sink.SteadySinkSink.write.Goals as goal

pub returns-clause-held : goal.returns-clause-held
returns-clause-held c =
    let P : RoomState → Type 0 = λ v. c.extend_from_slice.new.self.items ≡ take v.room (v.bytes ++ c.args.bytes.now) in
    let appended = rw c.unwrap.ensures at c.extend_from_slice.ensures.items in
    subst P c.self.view_is
    (held_within c.self.inside.bytes.items c.args.bytes.now c.extend_from_slice.new.self.items c.self.inside.room
    c.len.result c.min-count.result appended c.min-count.ensures (c.len.ensures ∙ c.self.inside.bytes.ok.0) (omega arith))
