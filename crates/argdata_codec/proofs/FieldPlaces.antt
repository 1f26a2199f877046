-- How far the fields of a container go on, if it is known how far one value does.
use Rattle.std.proofs.Common.{◌≡◌, ℕ, zero, suc, ◌+◌, ◌-◌, ◌*◌, ◌<◌, ◌≤◌, ◌⊎◌, inl, inr, List, [], ◌∷◌, ◌++◌, length, take, drop, Option, Some, None, refl, sym, ap, subst, ◌∙◌, arith, append_assoc, length-append, length-drop, length-take, drop_at, take-take, take-add}
use Rattle.std.proofs.Math.Seq.{take-append-add}
use Rattle.std.proofs.lemmas.Bool.{cases_lt, lt-ltb, le-ltb}
use Rattle.std.proofs.lemmas.List.{take-append-le}
use Rattle.argdata_codec.specs.declared.turn.Turn.{Turn}
use Rattle.argdata_codec.specs.Shape.{Shape}
use Rattle.argdata_codec.specs.Places.{next_turn, room_after, field_size, field_place, fields_place}
use Rattle.lists.proofs.Chosen.{none_some}
use Rattle.argdata_codec.proofs.Fields.{AreBytes}
use Rattle.argdata_codec.proofs.Begins.{Begins, Longest, HasLength, FitsIn, Sized, IsRead, bytes_append, bytes_take, bytes_drop, rest_fits, rest_length, space_for, whole_length, at_end, stops, goes_on}
use Rattle.argdata_codec.proofs.FieldSets.{Fields, Rest, Blanks, apart, together}
use Rattle.argdata_codec.proofs.FieldSteps.{Whole, whole_of, HasRoom, StartsIn, filled_room, fresh, step_cases, goes_there, goes_back, ends_there, ends_back}

-- what a reader of values reads
abbrev pub Values : (List ℕ → Option Shape) → List ℕ → Type 0
Values value bytes = IsRead (value bytes)

-- how far a value of a known length goes on
abbrev pub Inside : (List ℕ → Option Shape) → (Option ℕ → List ℕ → ℕ) → Type 0
Inside value inside = (size : ℕ) (bytes : List ℕ) → AreBytes bytes → length bytes ≤ size → Longest (Sized (Values value) (Some size)) bytes (inside (Some size) bytes)

starts_in : (turn : Turn) (size : ℕ) (room : Option ℕ) → HasRoom turn size room → StartsIn (next_turn turn) (room_after room size)
starts_in turn size None h = tt
starts_in turn size (Some room) h = h.1

length_on : (turn : Turn) (size : ℕ) (room : Option ℕ) (body rest : List ℕ) → HasRoom turn size room → length body ≡ size → HasLength (room_after room size) rest → HasLength room (body ++ rest)
length_on turn size None body rest has len h = tt
length_on turn size (Some room) body rest has len h = omega (arith, length-append body rest, len, h, has.0)

length_behind : (size : ℕ) (room : Option ℕ) (body rest : List ℕ) → length body ≡ size → HasLength room (body ++ rest) → HasLength (room_after room size) rest
length_behind size None body rest len h = tt
length_behind size (Some room) body rest len h = omega (arith, length-append body rest, len, h)

fits_behind : (size : ℕ) (room : Option ℕ) (bytes : List ℕ) → FitsIn room bytes → FitsIn (room_after room size) (drop size bytes)
fits_behind size None bytes h = tt
fits_behind size (Some room) bytes h = omega (arith, length-drop size bytes, h)

module _ (value : List ℕ → Option Shape) (reads : Blanks value) (turn : Turn) (size : ℕ) (left : Option ℕ) (bytes : List ℕ) (all : AreBytes bytes) (has : HasRoom turn size left) where
  -- what begins a value of the size begins one with fields behind it
  value_on : (at : ℕ) → at ≤ size → Begins (Sized (Values value) (Some size)) (take at (take size bytes)) → Begins (Sized (Whole value turn size) left) (take at bytes)
  value_on at le h =
      let more = filled_room value reads (next_turn turn) (room_after left size) (starts_in turn size left has) in
      let body = take at (take size bytes) ++ h.0 in
      let whole : body ++ more.0 ≡ take at bytes ++ (h.0 ++ more.0) =
      append_assoc (take at (take size bytes)) h.0 more.0 ∙ ap (λ (p : List ℕ). p ++ (h.0 ++ more.0)) (take-take at size bytes le) in (
        h.0 ++ more.0,
        bytes_append h.0 more.0 h.1 more.1,
        subst (Sized (Whole value turn size) left) whole (whole_of value turn size body more.0 h.2.1 h.2.0 more.2, length_on turn size left body more.0 has h.2.1 more.3),
      )

  -- and what begins one with fields behind it begins a value
  value_off : (m : ℕ) → m ≤ length bytes → m ≤ size → Begins (Sized (Whole value turn size) left) (take m bytes) → Begins (Sized (Values value) (Some size)) (take m (take size bytes))
  value_off m le small k =
      let len : length (take m bytes) ≡ m = omega (arith, length-take m bytes, le) in
      let rest = take (size - m) k.0 in
      let sum : length (take m bytes) + (size - m) ≡ size = omega (arith, len, small) in
      let whole : take size (take m bytes ++ k.0) ≡ take m (take size bytes) ++ rest =
      ap (λ (n : ℕ). take n (take m bytes ++ k.0)) (sym sum) ∙ take-append-add (take m bytes) k.0 (size - m)
      ∙ ap (λ (p : List ℕ). p ++ rest) (sym (take-take m size bytes small)) in
      let long : length (take size (take m bytes ++ k.0)) ≡ size = omega (arith, length-take size (take m bytes ++ k.0), k.2.0.0) in
      (rest, bytes_take (size - m) k.0 k.1, (subst (Values value) whole k.2.0.1, subst (λ (p : List ℕ). length p ≡ size) whole long))

  -- a value that isn't whole goes on as far as it does by itself
  pub partial : (at : ℕ) → Longest (Sized (Values value) (Some size)) (take size bytes) at → (size ≤ length bytes → IsRead (value (take size bytes)) → ⊥) → Longest (Sized (Whole value turn size) left) bytes at
  partial at h none = record {
    inside = omega (arith, h.inside, length-take size bytes);
    begins = value_on at (omega (arith, h.inside, length-take size bytes)) h.begins;
    longest = λ m le k. elim (cases_lt size m) [
      | inl large ↦ absurd (none (omega (arith, large, le)) (subst (Values value) (too_far m le large k) k.2.0.1))
      | inr small ↦ h.longest m (omega (arith, le, small, length-take size bytes)) (value_off m le small k)
    ];
  }
    where
      too_far : (m : ℕ) → m ≤ length bytes → size < m → (k : Begins (Sized (Whole value turn size) left) (take m bytes)) → take size (take m bytes ++ k.0) ≡ take size bytes
      too_far m le large k =
          take-append-le size (take m bytes) k.0 (omega (arith, length-take m bytes, le, large)) ∙ take-take size m bytes (omega (arith, large))

  -- behind a whole value, the fields go on
  pub passed : (at : ℕ) → size ≤ length bytes → IsRead (value (take size bytes)) → Longest (Sized (Rest value (next_turn turn) 0) (room_after left size)) (drop size bytes) at
      → Longest (Sized (Whole value turn size) left) bytes (size + at)
  passed at enough read h = record {
    inside = omega (arith, h.inside, length-drop size bytes, enough);
    begins = begins;
    longest = λ m le k. elim (cases_lt size m) [
      | inr small ↦ omega (arith, small)
      | inl large ↦ omega (arith, large, h.longest (m - size) (omega (arith, le, length-drop size bytes)) (behind m le large k))
    ];
  }
    where
      len : length (take size bytes) ≡ size
      len = omega (arith, length-take size bytes, enough)

      begins : Begins (Sized (Whole value turn size) left) (take (size + at) bytes)
      begins =
          let rest = take at (drop size bytes) ++ h.begins.0 in
          let whole : take size bytes ++ rest ≡ take (size + at) bytes ++ h.begins.0 =
          sym (append_assoc (take size bytes) (take at (drop size bytes)) h.begins.0) ∙ ap (λ (p : List ℕ). p ++ h.begins.0) (sym (take-add size at bytes)) in (
            h.begins.0,
            h.begins.1,
            subst (Sized (Whole value turn size) left) whole
                (whole_of value turn size (take size bytes) rest len read (together value (next_turn turn) rest h.begins.2.0), length_on turn size left (take size bytes) rest has len h.begins.2.1),
          )

      behind : (m : ℕ) → m ≤ length bytes → size < m → Begins (Sized (Whole value turn size) left) (take m bytes) → Begins (Sized (Rest value (next_turn turn) 0) (room_after left size)) (take (m - size) (drop size bytes))
      behind m le large k =
          let rest = take (m - size) (drop size bytes) ++ k.0 in
          let sum : m ≡ size + (m - size) = omega (arith, large) in
          let whole : take m bytes ++ k.0 ≡ take size bytes ++ rest =
          ap (λ (n : ℕ). take n bytes ++ k.0) sum ∙ ap (λ (p : List ℕ). p ++ k.0) (take-add size (m - size) bytes) ∙ append_assoc (take size bytes) (take (m - size) (drop size bytes)) k.0 in
          let last : drop size (take m bytes ++ k.0) ≡ rest = ap (drop size) whole ∙ drop_at (take size bytes) rest size len in (
            k.0,
            k.1,
            (
              apart value (next_turn turn) rest (subst (Fields value (next_turn turn)) last k.2.0.2),
              length_behind size left (take size bytes) rest len (subst (HasLength left) whole k.2.1),
            ),
          )

-- whether a value is read
read_cases : {A : Type 0} (read : Option A) → IsRead read ⊎ (read ≡ None)
read_cases None = inr refl
read_cases (Some x) = inl (x, refl)

module _ (value : List ℕ → Option Shape) (inside : Option ℕ → List ℕ → ℕ) (reads : Blanks value) (inner : Inside value inside) where
  -- the field behind its length
  whole_longest : (turn : Turn) (size : ℕ) (left : Option ℕ) (bytes : List ℕ) (further : ℕ → ℕ) → AreBytes bytes → HasRoom turn size left
      → Longest (Sized (Rest value (next_turn turn) 0) (room_after left size)) (drop size bytes) (further size)
      → Longest (Sized (Whole value turn size) left) bytes (field_place further (inside (Some size) (take size bytes)) (field_size value size bytes))
  whole_longest turn size left bytes further all has h =
      let inner_at = inner size (take size bytes) (bytes_take size bytes all) (omega (arith, length-take size bytes)) in
      elim (cases_lt (length bytes) size) [
        | inl short ↦ rw (lt-ltb (length bytes) size short) (partial value reads turn size left bytes all has (inside (Some size) (take size bytes)) inner_at (λ enough read. omega (arith, enough, short)))
        | inr enough ↦ elim (read_cases (value (take size bytes))) [
          | inl read ↦ rw (le-ltb (length bytes) size enough, read.1) (passed value reads turn size left bytes all has (further size) enough (read.0, read.1) h)
          | inr none ↦
              rw (le-ltb (length bytes) size enough, none)
              (partial value reads turn size left bytes all has (inside (Some size) (take size bytes)) inner_at (λ here read. none_some read.0 (sym none ∙ read.1)))
        ]
      ]

  pub fields_longest : (fuel : ℕ) (turn : Turn) (groups : ℕ) (room : Option ℕ) (bytes : List ℕ) → AreBytes bytes → length bytes ≤ fuel → FitsIn room bytes
      → Begins (Sized (Rest value turn groups) room) [] → Longest (Sized (Rest value turn groups) room) bytes (fields_place value inside fuel turn groups room bytes)
  fields_longest fuel turn groups room [] all enough fits begins = at_end (Sized (Rest value turn groups) room) begins
  fields_longest zero turn groups room (b ∷ bs) all enough fits begins = absurd (omega (arith, enough))
  fields_longest (suc fuel) turn groups room (b ∷ bs) all enough fits begins =
      let left = room_after room 1 in
      let some = space_for room b bs fits in
      let L = Sized (Rest value turn groups) room in
      elim (step_cases value reads turn groups left b) [
        | inl s ↦ rw s.is (stops L b bs begins all.1 (λ rest r h. s.none rest h.0 (rest_length room b rest h.1)))
        | inr (inl s) ↦
            rw s.is
            (goes_on L (Sized (Rest value turn (128 * groups + b)) left) b bs (fields_place value inside fuel turn (128 * groups + b) left bs) all.1
            (λ rest r h. (inr (goes_there value turn groups b rest s.small h.0), rest_length room b rest h.1))
            (λ rest r h. (goes_back value turn groups b rest s.small s.some h.0, whole_length room b rest some h.1))
            (fields_longest fuel turn (128 * groups + b) left bs all.1 (omega (arith, enough)) (rest_fits room b bs fits) s.begins))
        | inr (inr s) ↦
            let size = 128 * groups + b - 128 in
            let further : ℕ → ℕ = λ taken. fields_place value inside fuel (next_turn turn) 0 (room_after left taken) (drop taken bs) in
            rw s.is
            (goes_on L (Sized (Whole value turn size) left) b bs (field_place further (inside (Some size) (take size bs)) (field_size value size bs)) all.1
            (λ rest r h. (ends_there value turn groups b rest s.large h.0, rest_length room b rest h.1))
            (λ rest r h. (ends_back value turn groups b rest s.large h.0, whole_length room b rest some h.1))
            (whole_longest turn size left bs further all.1 s.room
            (fields_longest fuel (next_turn turn) 0 (room_after left size) (drop size bs) (bytes_drop size bs all.1) (omega (arith, enough, length-drop size bs))
            (fits_behind size left bs (rest_fits room b bs fits)) (fresh value reads (next_turn turn) (room_after left size) (starts_in turn size left s.room)))))
      ]
