-- The steps of the loop over the fields.
use Rattle.std.proofs.Common.{ℕ, suc, ◌-◌, ◌+◌, ◌≡◌, ◌<◌, length, sym, ap, subst, ◌∙◌, arith}
use Rattle.argdata_codec.specs.Reading.{value_at}
use Rattle.argdata_codec.specs.Places.{value_place}
use Rattle.argdata_codec.proofs.Steps.{stops_here, group_here, ends_here, field_here}
use Rattle.argdata_codec.proofs.place.+place.Goals as goal
use Rattle.argdata_codec.proofs.place.+place.Goals.{fields-in-Goes, fields-in-Ends+in_ok-whole_field-in-Ends+in-Some}
use Rattle.std.proofs.lemmas.List.{length-drop}
use Rattle.std.specs.Prelude.{Option, IfSome, ◌≤◌}

pub fields-returns-in-Stops-clause-value : goal.fields-returns-in-Stops-clause-value
fields-returns-in-Stops-clause-value t c =
    let body = c.args.body.now in
    let enough : length body - c.loop.counter ≡ suc (length body - (c.loop.counter + 1)) = omega (arith, c.loop-test.true) in
    let here : c.loop.at < length body = omega (arith, c.if-at-body.false, c.loop.invariant.1) in
    stops_here (value_at c.args.depth) (value_place c.args.depth) _ _ c.loop.at c.loop.turn c.loop.groups c.loop.left c.room_after-left.result body c.split_at.result.1.now _
    enough here c.room_after-left.ensures c.split_at.ensures.back c.loop.invariant.0 (sym c.in-Stops.ensures)

pub fields-returns-in-None-clause-value : goal.fields-returns-in-None-clause-value
fields-returns-in-None-clause-value t c =
    let body = c.args.body.now in
    let enough : length body - c.loop.counter ≡ suc (length body - (c.loop.counter + 1)) = omega (arith, c.loop-test.true) in
    let here : c.loop.at < length body = omega (arith, c.if-at-body.false, c.loop.invariant.1) in
    ap (λ (n : ℕ). (c.loop.at + 1) + n) c.in_ok-unfinished-in-None.ensures.value
    ∙ ends_here (value_at c.args.depth) (value_place c.args.depth) _ _ c.loop.at c.loop.turn c.loop.groups c.loop.left c.room_after-left.result body c.split_at.result.1.now _
    enough here c.room_after-left.ensures c.split_at.ensures.back c.loop.invariant.0 c.in-Ends.size (sym c.in-Ends.ensures) (sym c.in_ok-whole_field-in-Ends.ensures.value ∙ c.in-None.is)

pub fields-loop-preserved : goal.fields-loop-preserved
fields-loop-preserved t c =
    let body = c.args.body.now in
    let enough : length body - c.loop.counter ≡ suc (length body - (c.loop.counter + 1)) = omega (arith, c.loop-test.true) in
    let here : c.loop.at < length body = omega (arith, c.if-at-body.false, c.loop.invariant.1) in
    elim c.match-length_step.branch [
      | fields-in-Goes w ↦ rw (w.turn-is, w.groups-is, w.left-is, w.at-is) (
        group_here (value_at c.args.depth) (value_place c.args.depth) _ _ c.loop.at c.loop.turn c.loop.groups c.loop.left c.room_after-left.result body c.split_at.result.1.now _
            enough here c.room_after-left.ensures c.split_at.ensures.back c.loop.invariant.0 _ (sym w.in-Goes.ensures),
        omega (arith, here),
        omega (arith, c.loop.invariant.2),
      )
      | fields-in-Ends+in_ok-whole_field-in-Ends+in-Some w ↦
          let fits = (subst (λ (whole : Option ℕ). IfSome whole (λ taken. taken ≤ length c.split_at.result.1.now)) w.in-Some.is w.in_ok-whole_field-in-Ends.ensures.small) in
          let back = ap length c.split_at.ensures.back in
          rw (w.turn-is, w.groups-is, w.left-is, w.at-is, w.next-turn.ensures, w.room_after-left-in-Some.ensures) (
            field_here (value_at c.args.depth) (value_place c.args.depth) _ _ c.loop.at c.loop.turn c.loop.groups c.loop.left c.room_after-left.result body c.split_at.result.1.now _
                enough here c.room_after-left.ensures c.split_at.ensures.back c.loop.invariant.0 w.in-Ends.size w.in-Some.taken (sym w.in-Ends.ensures) (sym w.in_ok-whole_field-in-Ends.ensures.value ∙ w.in-Some.is),
            omega (arith, here, fits, back, length-drop (c.loop.at + 1) body),
            omega (arith, c.loop.invariant.2),
          )
    ]
