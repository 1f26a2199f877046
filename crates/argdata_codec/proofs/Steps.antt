-- The steps of the loop over the fields of a container: what was passed, and what the rest goes on for, are all.
use Rattle.std.proofs.Common.{◌≡◌, ℕ, zero, suc, ◌+◌, ◌<◌, List, [], ◌∷◌, length, get_or, take, drop, Option, Some, None, refl, sym, ap, ◌∙◌, arith}
use Rattle.std.proofs.lemmas.List.{drop-drop}
use Rattle.argdata_codec.specs.declared.turn.Turn.{Turn}
use Rattle.argdata_codec.specs.declared.turn.LengthStep.TheVariants.{Stops, Goes, Ends}
use Rattle.argdata_codec.specs.Shape.{Shape}
use Rattle.argdata_codec.specs.Places.{next_turn, room_after, length_step, after_step, field_size, field_place, fields_place}

drop_here : (at : ℕ) (body : List ℕ) → at < length body → drop at body ≡ get_or body at 0 ∷ drop (at + 1) body
drop_here at [] lt = absurd (omega arith)
drop_here zero (b ∷ bs) lt = refl
drop_here (suc at) (b ∷ bs) lt =
    let one : suc at + 1 ≡ suc (at + 1) = omega arith in
    drop_here at bs (omega arith) ∙ ap (λ (n : ℕ). get_or bs at 0 ∷ drop n (b ∷ bs)) (sym one)

module _ (value : List ℕ → Option Shape) (inside : Option ℕ → List ℕ → ℕ) (fuel f at : ℕ) (turn : Turn) (groups : ℕ) (room left : Option ℕ) (body after : List ℕ) (total : ℕ)
    (enough : fuel ≡ suc f) (here : at < length body) (behind : left ≡ room_after room 1) (rest : after ≡ drop (at + 1) body)
    (so_far : at + fields_place value inside fuel turn groups room (drop at body) ≡ total) where
  step : fields_place value inside fuel turn groups room (drop at body) ≡ after_step
      (λ sum. fields_place value inside f turn sum left after)
      (λ size. field_place (λ taken. fields_place value inside f (next_turn turn) 0 (room_after left taken) (drop taken after)) (inside (Some size) (take size after)) (field_size value size after))
      (length_step turn groups left (get_or body at 0))
  step =
      ap (λ (n : ℕ). fields_place value inside n turn groups room (drop at body)) enough
      ∙ ap (fields_place value inside (suc f) turn groups room) (drop_here at body here)
      ∙ rw (← behind, ← rest) refl

  pub stops_here : length_step turn groups left (get_or body at 0) ≡ Stops → at ≡ total
  stops_here is =
      let none : fields_place value inside fuel turn groups room (drop at body) ≡ 0 = step ∙ rw is refl in
      omega (arith, so_far, none)

  pub group_here : (sum : ℕ) → length_step turn groups left (get_or body at 0) ≡ Goes sum → (at + 1) + fields_place value inside f turn sum left (drop (at + 1) body) ≡ total
  group_here sum is =
      let one : fields_place value inside fuel turn groups room (drop at body) ≡ suc (fields_place value inside f turn sum left after) = step ∙ rw is refl in
      rw (← rest) (omega (arith, so_far, one))

  pub ends_here : (size : ℕ) → length_step turn groups left (get_or body at 0) ≡ Ends size → field_size value size after ≡ None → (at + 1) + inside (Some size) (take size after) ≡ total
  ends_here size is none =
      let one : fields_place value inside fuel turn groups room (drop at body) ≡ suc (inside (Some size) (take size after)) = step ∙ rw (is, none) refl in
      omega (arith, so_far, one)

  pub field_here : (size taken : ℕ) → length_step turn groups left (get_or body at 0) ≡ Ends size → field_size value size after ≡ Some taken
      → (at + (1 + taken)) + fields_place value inside f (next_turn turn) 0 (room_after left taken) (drop (at + (1 + taken)) body) ≡ total
  field_here size taken is whole =
      let one : fields_place value inside fuel turn groups room (drop at body) ≡ suc (taken + fields_place value inside f (next_turn turn) 0 (room_after left taken) (drop taken after)) = step ∙ rw (is, whole) refl in
      let place : (at + 1) + taken ≡ at + (1 + taken) = omega arith in
      let beyond : drop taken after ≡ drop (at + (1 + taken)) body = ap (drop taken) rest ∙ drop-drop taken (at + 1) body ∙ ap (λ (n : ℕ). drop n body) place in
      rw (← beyond) (omega (arith, so_far, one))
