-- What one byte of a field's length does to the fields that may still come.
use Rattle.std.proofs.Common.{◌≡◌, ℕ, suc, ◌+◌, ◌-◌, ◌*◌, ◌<◌, ◌≤◌, ◌⊎◌, inl, inr, Bool, true, false, not, cond, eqb, ltb, ◌||◌, List, [], ◌∷◌, ◌++◌, length, take, drop, Option, Some, None, refl, sym, ap, subst, ◌∙◌, arith, length-append, length-drop, take_at, drop_at}
use Rattle.std.proofs.lemmas.Bool.{cases_lt, cases_eq, and_parts, lt-ltb, le-ltb, ltb-true, ltb-false, eqb-true, eq-eqb, true≢false, not-true, or_parts, ne_eqb}
use Rattle.argdata_codec.specs.declared.turn.Turn.{Turn}
use Rattle.argdata_codec.specs.declared.turn.Turn.TheVariants as turns
use Rattle.argdata_codec.specs.declared.turn.LengthStep.TheVariants.{Stops, Goes, Ends}
use Rattle.argdata_codec.specs.Shape.{Shape}
use Rattle.argdata_codec.specs.Reading.{field_at}
use Rattle.argdata_codec.specs.Places.{next_turn, may_leave, has_place, may_grow, length_step}
use Rattle.lists.proofs.Chosen.{chosen, none_some, some_is}
use Rattle.argdata_codec.proofs.Fields.{AreBytes}
use Rattle.argdata_codec.proofs.Begins.{Begins, HasLength, Sized, IsRead, bytes_append}
use Rattle.argdata_codec.proofs.Outcomes.{nonzero, positive, cons_nil}
use Rattle.argdata_codec.proofs.FieldSets.{Fields, Field, Rest, Starts, Blanks, Filled, blank, length_blank, bytes_blank, apart, field_needs, fields_start, fills, one_field}

-- ---- what is behind a length

-- a value of so many bytes, and the fields behind it
abbrev pub Whole : (List ℕ → Option Shape) → Turn → ℕ → List ℕ → Type 0
Whole value turn size bytes = (size ≤ length bytes) × IsRead (value (take size bytes)) × Fields value (next_turn turn) (drop size bytes)

pub whole_of : (value : List ℕ → Option Shape) (turn : Turn) (size : ℕ) (body rest : List ℕ) → length body ≡ size → IsRead (value body) → Fields value (next_turn turn) rest → Whole value turn size (body ++ rest)
whole_of value turn size body rest len read fields = (
  omega (arith, len, length-append body rest),
  subst (λ (p : List ℕ). IsRead (value p)) (sym (take_at body rest size len)) read,
  subst (Fields value (next_turn turn)) (sym (drop_at body rest size len)) fields,
)

-- a room that has so many bytes, and fields behind them
abbrev pub HasRoom : Turn → ℕ → Option ℕ → Type 0
HasRoom turn size None = Unit {0}
HasRoom turn size (Some room) = (size ≤ room) × Starts (next_turn turn) (room - size)

may_start : (turn : Turn) (left : ℕ) → may_leave turn left ≡ true → Starts (next_turn turn) left
may_start turns.Item left e = tt
may_start turns.Value left e = λ one. true≢false (sym e ∙ ap not (eq-eqb left 1 one))
may_start turns.Key left e = ltb-true 0 left e

start_may : (turn : Turn) (left : ℕ) → Starts (next_turn turn) left → may_leave turn left ≡ true
start_may turns.Item left h = refl
start_may turns.Value left h = ap not (ne_eqb left 1 h)
start_may turns.Key left h = lt-ltb 0 left h

pub room_has : (turn : Turn) (size : ℕ) (room : Option ℕ) → has_place turn size room ≡ true → HasRoom turn size room
room_has turn size None e = tt
room_has turn size (Some room) e =
    let parts = and_parts (not (ltb room size)) (may_leave turn (room - size)) e in
    (ltb-false room size (not-true (ltb room size) parts.0), may_start turn (room - size) parts.1)

pub has_room : (turn : Turn) (size : ℕ) (room : Option ℕ) → HasRoom turn size room → has_place turn size room ≡ true
has_room turn size None h = refl
has_room turn size (Some room) h = rw (le-ltb room size h.0) (start_may turn (room - size) h.1)

whole_room : (value : List ℕ → Option Shape) (turn : Turn) (size : ℕ) (room : Option ℕ) (bytes : List ℕ) → Sized (Whole value turn size) room bytes → HasRoom turn size room
whole_room value turn size None bytes h = tt
whole_room value turn size (Some room) bytes h =
    let left : length (drop size bytes) ≡ room - size = omega (arith, length-drop size bytes, h.1) in
    (omega (arith, h.0.0, h.1), subst (Starts (next_turn turn)) left (fields_start value (next_turn turn) (drop size bytes) h.0.2))

-- ---- a byte of a length

pub group_there : (groups b : ℕ) (bs body rest : List ℕ) → b < 128 → field_at groups (b ∷ bs) ≡ Some (body, rest) → (0 < 128 * groups + b) × (field_at (128 * groups + b) bs ≡ Some (body, rest))
group_there groups b bs body rest small e =
    let n = 128 * groups + b in
    let one : cond (eqb n 0 || ltb (length bs) n) None (field_at n bs) ≡ Some (body, rest) = sym (rw (lt-ltb b 128 small) refl) ∙ e in
    elim (chosen (eqb n 0 || ltb (length bs) n) _ _ _ one) [
      | inl q ↦ absurd (none_some (body, rest) q.1)
      | inr q ↦ (positive n (or_parts (eqb n 0) (ltb (length bs) n) q.0).0, q.1)
    ]

group_back : (groups b : ℕ) (bs body rest : List ℕ) → b < 128 → 0 < 128 * groups + b → field_at (128 * groups + b) bs ≡ Some (body, rest) → field_at groups (b ∷ bs) ≡ Some (body, rest)
group_back groups b bs body rest small some e =
    let n = 128 * groups + b in
    rw (lt-ltb b 128 small, le-ltb (length bs) n (omega (arith, field_needs n bs body rest e)), nonzero n some) e

last_there : (groups b : ℕ) (bs body rest : List ℕ) → 128 ≤ b → field_at groups (b ∷ bs) ≡ Some (body, rest)
    → (128 * groups + b - 128 ≤ length bs) × (take (128 * groups + b - 128) bs ≡ body) × (drop (128 * groups + b - 128) bs ≡ rest)
last_there groups b bs body rest large e =
    let n = 128 * groups + b - 128 in
    let one : cond (ltb (length bs) n) None (Some (take n bs, drop n bs)) ≡ Some (body, rest) = sym (rw (le-ltb b 128 large) refl) ∙ e in
    elim (chosen (ltb (length bs) n) _ _ _ one) [
      | inl q ↦ absurd (none_some (body, rest) q.1)
      | inr q ↦
          let same = some_is (take n bs, drop n bs) (body, rest) q.1 in
          (ltb-false (length bs) n q.0, ap (λ (x : List ℕ × List ℕ). x.0) same, ap (λ (x : List ℕ × List ℕ). x.1) same)
    ]

last_back : (groups b : ℕ) (bs : List ℕ) → 128 ≤ b → 128 * groups + b - 128 ≤ length bs
    → field_at groups (b ∷ bs) ≡ Some (take (128 * groups + b - 128) bs, drop (128 * groups + b - 128) bs)
last_back groups b bs large enough = rw (le-ltb b 128 large, le-ltb (length bs) (128 * groups + b - 128) enough) refl

module _ (value : List ℕ → Option Shape) (turn : Turn) (groups b : ℕ) where
  pub rest_field : (bs : List ℕ) → Rest value turn groups (b ∷ bs) → Field value turn groups (b ∷ bs)
  rest_field bs (inl c) = absurd (cons_nil b bs c.1)
  rest_field bs (inr f) = f

  pub goes_there : (bs : List ℕ) → b < 128 → Rest value turn groups (b ∷ bs) → Field value turn (128 * groups + b) bs
  goes_there bs small h =
      let f = rest_field bs h in
      (f.0, f.1, (group_there groups b bs f.0 f.1 small f.2).1, f.3, f.4)

  pub goes_back : (bs : List ℕ) → b < 128 → 0 < 128 * groups + b → Rest value turn (128 * groups + b) bs → Rest value turn groups (b ∷ bs)
  goes_back bs small some (inl c) = absurd (omega (arith, some, c.0))
  goes_back bs small some (inr f) = inr (f.0, f.1, group_back groups b bs f.0 f.1 small some f.2, f.3, f.4)

  pub ends_there : (bs : List ℕ) → 128 ≤ b → Rest value turn groups (b ∷ bs) → Whole value turn (128 * groups + b - 128) bs
  ends_there bs large h =
      let f = rest_field bs h in
      let p = last_there groups b bs f.0 f.1 large f.2 in
      (p.0, subst (λ (body : List ℕ). IsRead (value body)) (sym p.1) f.3, subst (Fields value (next_turn turn)) (sym p.2) f.4)

  pub ends_back : (bs : List ℕ) → 128 ≤ b → Whole value turn (128 * groups + b - 128) bs → Rest value turn groups (b ∷ bs)
  ends_back bs large h =
      let n = 128 * groups + b - 128 in
      inr (take n bs, drop n bs, last_back groups b bs large h.0, h.1, h.2)

-- ---- whether a length can go on

field_grows : (value : List ℕ → Option Shape) (turn : Turn) (groups : ℕ) (room : Option ℕ) (bytes : List ℕ) → Field value turn groups bytes → HasLength room bytes → may_grow turn groups room ≡ true
field_grows value turns.Item groups None bytes f h = refl
field_grows value turns.Key groups None bytes f h = refl
field_grows value turns.Value groups None bytes f h = refl
field_grows value turns.Item groups (Some room) bytes f h = lt-ltb (128 * groups) room (omega (arith, h, field_needs groups bytes f.0 f.1 f.2))
field_grows value turns.Value groups (Some room) bytes f h = lt-ltb (128 * groups) room (omega (arith, h, field_needs groups bytes f.0 f.1 f.2))
field_grows value turns.Key groups (Some room) bytes f h =
    lt-ltb (128 * groups + 1) room (omega (arith, h, field_needs groups bytes f.0 f.1 f.2, fields_start value turns.Value f.1 f.4))

begun : (value : List ℕ → Option Shape) → Blanks value → (turn : Turn) (groups low size : ℕ) (room : Option ℕ) → low < 128 → Filled (Fields value (next_turn turn)) size
    → ((bytes : List ℕ) → length bytes ≡ suc (128 * groups + low + size) → HasLength room bytes) → Begins (Sized (Rest value turn groups) room) []
begun value reads turn groups low size room lt rest fits =
    let n = 128 * groups + low in
    let bytes = (128 + low) ∷ (blank n ++ rest.bytes) in (
      bytes,
      (omega (arith, lt), bytes_append (blank n) rest.bytes (bytes_blank n) rest.fits),
      (inr (one_field value reads turn groups low rest.bytes lt rest.are), fits bytes (omega (arith, length-append (blank n) rest.bytes, length_blank n, rest.length))),
    )

pub grown : (value : List ℕ → Option Shape) → Blanks value → (turn : Turn) (groups : ℕ) (room : Option ℕ) → may_grow turn groups room ≡ true → Begins (Sized (Rest value turn groups) room) []
grown value reads turns.Item groups None e = begun value reads turns.Item groups 0 0 None (omega arith) (fills value reads turns.Item 0 tt) (λ _ _. tt)
grown value reads turns.Key groups None e = begun value reads turns.Key groups 0 1 None (omega arith) (fills value reads turns.Value 1 (omega arith)) (λ _ _. tt)
grown value reads turns.Value groups None e = begun value reads turns.Value groups 0 0 None (omega arith) (fills value reads turns.Key 0 (λ h. omega (arith, h))) (λ _ _. tt)
grown value reads turns.Item groups (Some room) e =
    let lt : 128 * groups < room = ltb-true (128 * groups) room e in
    begun value reads turns.Item groups 0 (room - suc (128 * groups)) (Some room) (omega arith) (fills value reads turns.Item (room - suc (128 * groups)) tt) (λ bytes h. omega (arith, h, lt))
grown value reads turns.Key groups (Some room) e =
    let lt : 128 * groups + 1 < room = ltb-true (128 * groups + 1) room e in
    begun value reads turns.Key groups 0 (room - suc (128 * groups)) (Some room) (omega arith) (fills value reads turns.Value (room - suc (128 * groups)) (omega (arith, lt))) (λ bytes h. omega (arith, h, lt))
grown value reads turns.Value groups (Some room) e =
    let lt : 128 * groups < room = ltb-true (128 * groups) room e in
    elim (cases_eq (room - suc (128 * groups)) 1) [
      | inl one ↦ begun value reads turns.Value groups 1 0 (Some room) (omega arith) (fills value reads turns.Key 0 (λ h. omega (arith, h))) (λ bytes h. omega (arith, h, lt, one))
      | inr other ↦ begun value reads turns.Value groups 0 (room - suc (128 * groups)) (Some room) (omega arith) (fills value reads turns.Key (room - suc (128 * groups)) other) (λ bytes h. omega (arith, h, lt))
    ]

-- a room in which fields from a turn on can stand
abbrev pub StartsIn : Turn → Option ℕ → Type 0
StartsIn turn None = Unit {0}
StartsIn turn (Some room) = Starts turn room

-- the least room
abbrev least : Turn → ℕ
least turns.Item = 0
least turns.Key = 0
least turns.Value = 1

least_starts : (turn : Turn) → Starts turn (least turn)
least_starts turns.Item = tt
least_starts turns.Key = λ h. omega (arith, h)
least_starts turns.Value = omega arith

pub filled_room : (value : List ℕ → Option Shape) → Blanks value → (turn : Turn) (room : Option ℕ) → StartsIn turn room → (bytes : List ℕ) × AreBytes bytes × Fields value turn bytes × HasLength room bytes
filled_room value reads turn None h = let p = fills value reads turn (least turn) (least_starts turn) in (p.bytes, p.fits, p.are, tt)
filled_room value reads turn (Some room) h = let p = fills value reads turn room h in (p.bytes, p.fits, p.are, p.length)

pub fresh : (value : List ℕ → Option Shape) → Blanks value → (turn : Turn) (room : Option ℕ) → StartsIn turn room → Begins (Sized (Rest value turn 0) room) []
fresh value reads turn room h = let p = filled_room value reads turn room h in (p.0, p.1, (apart value turn p.0 p.2, p.3))

-- ---- the steps

-- what a step says, in each of its ways
pub record StepGoes (value : List ℕ → Option Shape) (turn : Turn) (groups : ℕ) (left : Option ℕ) (b : ℕ) : Type 0 where
  pub is : length_step turn groups left b ≡ Goes (128 * groups + b)
  pub small : b < 128
  pub some : 0 < 128 * groups + b
  pub begins : Begins (Sized (Rest value turn (128 * groups + b)) left) []

pub record StepEnds (turn : Turn) (groups : ℕ) (left : Option ℕ) (b : ℕ) : Type 0 where
  pub is : length_step turn groups left b ≡ Ends (128 * groups + b - 128)
  pub large : 128 ≤ b
  pub room : HasRoom turn (128 * groups + b - 128) left

pub record StepStops (value : List ℕ → Option Shape) (turn : Turn) (groups : ℕ) (left : Option ℕ) (b : ℕ) : Type 0 where
  pub is : length_step turn groups left b ≡ Stops
  pub none : (bs : List ℕ) → Rest value turn groups (b ∷ bs) → HasLength left bs → ⊥

step_small : (value : List ℕ → Option Shape) → Blanks value → (turn : Turn) (groups : ℕ) (left : Option ℕ) (b : ℕ) → b < 128
    → (t g : Bool) → eqb (128 * groups + b) 0 ≡ t → may_grow turn (128 * groups + b) left ≡ g → StepStops value turn groups left b ⊎ (StepGoes value turn groups left b ⊎ StepEnds turn groups left b)
step_small value reads turn groups left b small true g is_zero is_grown = inl (record {
  is = rw (lt-ltb b 128 small, is_zero) refl;
  none = λ bs h len.
      let f = rest_field value turn groups b bs h in
      omega (arith, eqb-true (128 * groups + b) 0 is_zero, (group_there groups b bs f.0 f.1 small f.2).0);
})
step_small value reads turn groups left b small false false is_zero is_grown = inl (record {
  is = rw (lt-ltb b 128 small, is_zero, is_grown) refl;
  none = λ bs h len.
      true≢false (sym (field_grows value turn (128 * groups + b) left bs (goes_there value turn groups b bs small h) len) ∙ is_grown);
})
step_small value reads turn groups left b small false true is_zero is_grown = inr (inl (record {
  is = rw (lt-ltb b 128 small, is_zero, is_grown) refl;
  small = small;
  some = positive (128 * groups + b) is_zero;
  begins = grown value reads turn (128 * groups + b) left is_grown;
}))

step_large : (value : List ℕ → Option Shape) (turn : Turn) (groups : ℕ) (left : Option ℕ) (b : ℕ) → 128 ≤ b
    → (t : Bool) → has_place turn (128 * groups + b - 128) left ≡ t → StepStops value turn groups left b ⊎ (StepGoes value turn groups left b ⊎ StepEnds turn groups left b)
step_large value turn groups left b large true is = inr (inr (record {
  is = rw (le-ltb b 128 large, is) refl;
  large = large;
  room = room_has turn (128 * groups + b - 128) left is;
}))
step_large value turn groups left b large false is = inl (record {
  is = rw (le-ltb b 128 large, is) refl;
  none = λ bs h len.
      let n = 128 * groups + b - 128 in
      true≢false (sym (has_room turn n left (whole_room value turn n left bs (ends_there value turn groups b bs large h, len))) ∙ is);
})

pub step_cases : (value : List ℕ → Option Shape) → Blanks value → (turn : Turn) (groups : ℕ) (left : Option ℕ) (b : ℕ) → StepStops value turn groups left b ⊎ (StepGoes value turn groups left b ⊎ StepEnds turn groups left b)
step_cases value reads turn groups left b =
    elim (cases_lt b 128) [
      | inl small ↦ step_small value reads turn groups left b small (eqb (128 * groups + b) 0) (may_grow turn (128 * groups + b) left) refl refl
      | inr large ↦ step_large value turn groups left b large (has_place turn (128 * groups + b - 128) left) refl
    ]
