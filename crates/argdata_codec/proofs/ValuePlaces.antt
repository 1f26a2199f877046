-- How far values go on.
use Rattle.std.proofs.Common.{◌≡◌, ℕ, zero, suc, ◌-◌, inl, inr, min, true, false, List, [], ◌∷◌, length, Option, Some, None, option_map, refl, sym, subst, ◌∙◌, arith, length-append}
use Rattle.std.proofs.lemmas.Bool.{cases_eq, cases_Bool, ne_eqb, true≢false}
use Rattle.argdata_codec.specs.declared.turn.Turn.{Turn}
use Rattle.argdata_codec.specs.declared.turn.Turn.TheVariants as turns
use Rattle.argdata_codec.specs.Shape.{Shape, null, binary, boolean, descriptor, integer, mapping, sequence, text, of_list, of_pairs}
use Rattle.argdata_codec.specs.Reading.{boolean_at, descriptor_at, integer_at, text_at, items_of, items_at, pairs_of, value_at}
use Rattle.argdata_codec.specs.Places.{room_after, has_place, at_most, exactly, more_than, boolean_place, integer_place, text_place, fields_place, container_place, value_place}
use Rattle.lists.proofs.Chosen.{none_some}
use Rattle.argdata_codec.proofs.Fields.{AreBytes}
use Rattle.argdata_codec.proofs.Sound.{mapped_some}
use Rattle.argdata_codec.proofs.Begins.{Begins, Longest, HasLength, FitsIn, HasSpace, Sized, IsRead, map_read, zeros, length_zeros, bytes_zeros, rest_fits, rest_length, space_for, whole_length, at_end, stops, goes_on, all_of}
use Rattle.argdata_codec.proofs.SmallPlaces.{boolean_longest, boolean_short, descriptor_longest, descriptor_exact}
use Rattle.argdata_codec.proofs.IntegerPlaces.{integer_longest, integer_short}
use Rattle.argdata_codec.proofs.TextPlaces.{text_longest, text_short}
use Rattle.argdata_codec.proofs.FieldSets.{Fields, Rest, Blanks, blank, length_blank, bytes_blank, apart, together, fields_start}
use Rattle.argdata_codec.proofs.FieldSteps.{HasRoom, StartsIn, room_has, has_room, fresh}
use Rattle.argdata_codec.proofs.FieldPlaces.{Values, Inside, fields_longest}

-- a value with its tag goes on as the place says
abbrev GoesTo : ℕ → Option ℕ → ℕ → List ℕ → ℕ → Type 0
GoesTo d room tag body at = Longest (Sized (Values (value_at d)) room) (tag ∷ body) at

blanks : (d : ℕ) → Blanks (value_at d)
blanks d zero = (null, refl)
blanks d (suc n) = (binary (zeros n), refl)

value_begins : (d : ℕ) (room : Option ℕ) → Begins (Sized (Values (value_at d)) room) []
value_begins d None = ([], tt, (blanks d 0, tt))
value_begins d (Some room) = (blank room, bytes_blank room, (blanks d room, length_blank room))

module _ (d : ℕ) (room : Option ℕ) (tag : ℕ) (body : List ℕ) (some : HasSpace room) (all : AreBytes body) where
  -- a body that has to be of a set
  tagged : (B : List ℕ → Type 0) (at : ℕ) → ((p : List ℕ) → Values (value_at d) (tag ∷ p) → B p) → ((p : List ℕ) → B p → Values (value_at d) (tag ∷ p))
      → Longest (Sized B (room_after room 1)) body at → GoesTo d room tag body (suc at)
  tagged B at there back h =
      goes_on (Sized (Values (value_at d)) room) (Sized B (room_after room 1)) tag body at all
      (λ p q k. (there p k.0, rest_length room tag p k.1)) (λ p q k. (back p k.0, whole_length room tag p some k.1)) h

  -- a set that has no body of the length
  untagged : (B : List ℕ → Type 0) → ((p : List ℕ) → Values (value_at d) (tag ∷ p) → B p) → ((p : List ℕ) → AreBytes p → Sized B (room_after room 1) p → ⊥) → GoesTo d room tag body 0
  untagged B there none =
      stops (Sized (Values (value_at d)) room) tag body (value_begins d room) all (λ p q k. none p q (there p k.0, rest_length room tag p k.1))

unmapped : {A B : Type 0} (f : A → B) (read : Option A) → IsRead (option_map f read) → IsRead read
unmapped f read h = let m = mapped_some f read h.0 h.1 in (m.0, m.1)

-- ---- values that hold no others

abbrev Any : List ℕ → Type 0
Any bytes = Unit {0}

any_longest : (room : Option ℕ) (body : List ℕ) → FitsIn room body → Longest (Sized Any room) body (length body)
any_longest None body fits = all_of (Sized Any None) body ([], tt, (tt, tt))
any_longest (Some room) body fits =
    let more = room - length body in
    all_of (Sized Any (Some room)) body (zeros more, bytes_zeros more, (tt, omega (arith, length-append body (zeros more), length_zeros more, fits)))

module _ (d : ℕ) (room : Option ℕ) (body : List ℕ) (some : HasSpace room) (all : AreBytes body) (fits : FitsIn (room_after room 1) body) where
  binary_case : GoesTo d room 1 body (value_place d room (1 ∷ body))
  binary_case = tagged d room 1 body some all Any (length body) (λ p h. tt) (λ p h. (binary p, refl)) (any_longest (room_after room 1) body fits)

  boolean_case : GoesTo d room 2 body (value_place d room (2 ∷ body))
  boolean_case =
      let B : List ℕ → Type 0 = λ p. IsRead (boolean_at p) in
      elim (cases_Bool (at_most 1 (room_after room 1))) [
        | inl small ↦
            rw small
            (tagged d room 2 body some all B (boolean_place body) (λ p. unmapped boolean (boolean_at p)) (λ p. map_read boolean (boolean_at p)) (boolean_longest (room_after room 1) body all fits small))
        | inr large ↦ rw large (untagged d room 2 body some all B (λ p. unmapped boolean (boolean_at p)) (λ p q. boolean_short (room_after room 1) p large))
      ]

  descriptor_case : GoesTo d room 3 body (value_place d room (3 ∷ body))
  descriptor_case =
      let B : List ℕ → Type 0 = λ p. IsRead (descriptor_at p) in
      elim (cases_Bool (exactly 4 (room_after room 1))) [
        | inl small ↦
            rw small
            (tagged d room 3 body some all B (min 4 (length body)) (λ p. unmapped descriptor (descriptor_at p)) (λ p. map_read descriptor (descriptor_at p))
            (descriptor_longest (room_after room 1) body all small))
        | inr large ↦ rw large (untagged d room 3 body some all B (λ p. unmapped descriptor (descriptor_at p)) (λ p q. descriptor_exact (room_after room 1) p large))
      ]

  integer_case : GoesTo d room 5 body (value_place d room (5 ∷ body))
  integer_case =
      let B : List ℕ → Type 0 = λ p. IsRead (integer_at p) in
      elim (cases_Bool (at_most 9 (room_after room 1))) [
        | inl small ↦
            rw small
            (tagged d room 5 body some all B (integer_place (room_after room 1) body) (λ p. unmapped integer (integer_at p)) (λ p. map_read integer (integer_at p))
            (integer_longest (room_after room 1) body all fits small))
        | inr large ↦ rw large (untagged d room 5 body some all B (λ p. unmapped integer (integer_at p)) (λ p q. integer_short (room_after room 1) p q large))
      ]

  text_case : GoesTo d room 8 body (value_place d room (8 ∷ body))
  text_case =
      let B : List ℕ → Type 0 = λ p. IsRead (text_at p) in
      elim (cases_Bool (more_than 0 (room_after room 1))) [
        | inl enough ↦
            rw enough
            (tagged d room 8 body some all B (text_place (0, (0, 0)) (room_after room 1) body) (λ p. unmapped text (text_at p)) (λ p. map_read text (text_at p))
            (text_longest (room_after room 1) body all fits enough))
        | inr less ↦ rw less (untagged d room 8 body some all B (λ p. unmapped text (text_at p)) (λ p q. text_short (room_after room 1) p less))
      ]

-- ---- maps and sequences

-- a map has no fields of one byte
pairs_short : (value : List ℕ → Option Shape) (room : Option ℕ) (p : List ℕ) → has_place turns.Value 0 room ≡ false → Sized (Fields value turns.Key) room p → ⊥
pairs_short value room p e h = true≢false (sym (has_room turns.Value 0 room (has room h.1)) ∙ e)
  where
    has : (room : Option ℕ) → HasLength room p → HasRoom turns.Value 0 room
    has None size = tt
    has (Some room) size = (omega arith, λ one. fields_start value turns.Key p h.0 (omega (arith, one, size)))

pairs_start : (room : Option ℕ) → has_place turns.Value 0 room ≡ true → StartsIn turns.Key room
pairs_start None e = tt
pairs_start (Some room) e = λ one. (room_has turns.Value 0 (Some room) e).1 (omega (arith, one))

items_start : (room : Option ℕ) → StartsIn turns.Item room
items_start None = tt
items_start (Some room) = tt

-- of maps and sequences of at most some depth
record Containers (d : ℕ) : Type 0 where
  sequences : (room : Option ℕ) (body : List ℕ) → HasSpace room → AreBytes body → FitsIn (room_after room 1) body → GoesTo d room 7 body (value_place d room (7 ∷ body))
  maps : (room : Option ℕ) (body : List ℕ) → HasSpace room → AreBytes body → FitsIn (room_after room 1) body → GoesTo d room 6 body (value_place d room (6 ∷ body))

-- a tag that there is not
no_tag : (d : ℕ) (room : Option ℕ) (tag : ℕ) (body : List ℕ) → AreBytes body → (tag ≡ 1 → ⊥) → (tag ≡ 2 → ⊥) → (tag ≡ 3 → ⊥) → (tag ≡ 5 → ⊥) → (tag ≡ 6 → ⊥) → (tag ≡ 7 → ⊥) → (tag ≡ 8 → ⊥)
    → GoesTo d room tag body (value_place d room (tag ∷ body))
no_tag d room tag body all one two three five six seven eight =
    rw (ne_eqb tag 1 one, ne_eqb tag 2 two, ne_eqb tag 3 three, ne_eqb tag 5 five, ne_eqb tag 6 six, ne_eqb tag 7 seven, ne_eqb tag 8 eight)
    (stops (Sized (Values (value_at d)) room) tag body (value_begins d room) all (λ p q h. none p h.0))
  where
    none : (p : List ℕ) → Values (value_at d) (tag ∷ p) → ⊥
    none p h =
        none_some h.0
        (sym (rw (ne_eqb tag 1 one, ne_eqb tag 2 two, ne_eqb tag 3 three, ne_eqb tag 5 five, ne_eqb tag 6 six, ne_eqb tag 7 seven, ne_eqb tag 8 eight) refl)
        ∙ h.1)

value_cases : (d : ℕ) → Containers d → (room : Option ℕ) (tag : ℕ) (body : List ℕ) → HasSpace room → AreBytes body → FitsIn (room_after room 1) body → GoesTo d room tag body (value_place d room (tag ∷ body))
value_cases d containers room tag body some all fits =
    let Goal : ℕ → Type 0 = λ t. GoesTo d room t body (value_place d room (t ∷ body)) in
    elim (cases_eq tag 1) [
      | inl e ↦ subst Goal (sym e) (binary_case d room body some all fits)
      | inr one ↦ elim (cases_eq tag 2) [
        | inl e ↦ subst Goal (sym e) (boolean_case d room body some all fits)
        | inr two ↦ elim (cases_eq tag 3) [
          | inl e ↦ subst Goal (sym e) (descriptor_case d room body some all fits)
          | inr three ↦ elim (cases_eq tag 5) [
            | inl e ↦ subst Goal (sym e) (integer_case d room body some all fits)
            | inr five ↦ elim (cases_eq tag 6) [
              | inl e ↦ subst Goal (sym e) (containers.maps room body some all fits)
              | inr six ↦ elim (cases_eq tag 7) [
                | inl e ↦ subst Goal (sym e) (containers.sequences room body some all fits)
                | inr seven ↦ elim (cases_eq tag 8) [
                  | inl e ↦ subst Goal (sym e) (text_case d room body some all fits)
                  | inr eight ↦ no_tag d room tag body all one two three five six seven eight
                ]
              ]
            ]
          ]
        ]
      ]
    ]

value_in : (d : ℕ) → Containers d → (room : Option ℕ) (bytes : List ℕ) → AreBytes bytes → FitsIn room bytes → Longest (Sized (Values (value_at d)) room) bytes (value_place d room bytes)
value_in d containers room [] all fits = at_end (Sized (Values (value_at d)) room) (value_begins d room)
value_in d containers room (tag ∷ body) all fits = value_cases d containers room tag body (space_for room tag body fits) all.1 (rest_fits room tag body fits)

-- where the depth is used up
no_sequences : (p : List ℕ) → Values (value_at 0) (7 ∷ p) → ⊥
unfolding items_at
no_sequences p h = none_some h.0 h.1

no_maps : (p : List ℕ) → Values (value_at 0) (6 ∷ p) → ⊥
unfolding items_at
no_maps p h = none_some h.0 h.1

no_place : (turn : Turn) (room : Option ℕ) (body : List ℕ) → container_place 0 turn room body ≡ 0
unfolding container_place
no_place turn room body = refl

some_place : (d : ℕ) (turn : Turn) (room : Option ℕ) (body : List ℕ) → container_place (suc d) turn room body ≡ suc (fields_place (value_at d) (value_place d) (length body) turn 0 room body)
unfolding container_place
some_place d turn room body = refl

-- the fields of a sequence and of a map
sequence_fields : (d : ℕ) (p : List ℕ) → Values (value_at (suc d)) (7 ∷ p) → Fields (value_at d) turns.Item p
unfolding items_at
sequence_fields d p h = unmapped (λ xs. sequence (of_list xs)) (items_of (value_at d) p) h

fields_sequence : (d : ℕ) (p : List ℕ) → Fields (value_at d) turns.Item p → Values (value_at (suc d)) (7 ∷ p)
unfolding items_at
fields_sequence d p h = map_read (λ xs. sequence (of_list xs)) (items_of (value_at d) p) h

map_fields : (d : ℕ) (p : List ℕ) → Values (value_at (suc d)) (6 ∷ p) → Fields (value_at d) turns.Key p
unfolding items_at
map_fields d p h = unmapped (λ ps. mapping (of_pairs ps)) (pairs_of (value_at d) p) h

fields_map : (d : ℕ) (p : List ℕ) → Fields (value_at d) turns.Key p → Values (value_at (suc d)) (6 ∷ p)
unfolding items_at
fields_map d p h = map_read (λ ps. mapping (of_pairs ps)) (pairs_of (value_at d) p) h

no_containers : Containers 0
no_containers = record {
  sequences = λ room body some all fits.
      rw (no_place turns.Item (room_after room 1) body) (stops (Sized (Values (value_at 0)) room) 7 body (value_begins 0 room) all (λ p q h. no_sequences p h.0));
  maps = λ room body some all fits.
      let none : GoesTo 0 room 6 body 0 = stops (Sized (Values (value_at 0)) room) 6 body (value_begins 0 room) all (λ p q h. no_maps p h.0) in
      elim (cases_Bool (has_place turns.Value 0 (room_after room 1))) [
        | inl has ↦ rw (has, no_place turns.Key (room_after room 1) body) none
        | inr full ↦ rw full none
      ];
}

module _ (d : ℕ) (inner : Inside (value_at d) (value_place d)) (room : Option ℕ) (body : List ℕ) (some : HasSpace room) (all : AreBytes body) (fits : FitsIn (room_after room 1) body) where
  places : (turn : Turn) → StartsIn turn (room_after room 1)
      → Longest (Sized (Rest (value_at d) turn 0) (room_after room 1)) body (fields_place (value_at d) (value_place d) (length body) turn 0 (room_after room 1) body)
  places turn starts =
      fields_longest (value_at d) (value_place d) (blanks d) inner (length body) turn 0 (room_after room 1) body all (omega arith) fits
      (fresh (value_at d) (blanks d) turn (room_after room 1) starts)

  sequence_case : GoesTo (suc d) room 7 body (value_place (suc d) room (7 ∷ body))
  sequence_case =
      rw (some_place d turns.Item (room_after room 1) body)
      (tagged (suc d) room 7 body some all (Rest (value_at d) turns.Item 0) (fields_place (value_at d) (value_place d) (length body) turns.Item 0 (room_after room 1) body)
      (λ p h. apart (value_at d) turns.Item p (sequence_fields d p h)) (λ p h. fields_sequence d p (together (value_at d) turns.Item p h))
      (places turns.Item (items_start (room_after room 1))))

  map_case : GoesTo (suc d) room 6 body (value_place (suc d) room (6 ∷ body))
  map_case =
      elim (cases_Bool (has_place turns.Value 0 (room_after room 1))) [
        | inl has ↦
            rw (has, some_place d turns.Key (room_after room 1) body)
            (tagged (suc d) room 6 body some all (Rest (value_at d) turns.Key 0) (fields_place (value_at d) (value_place d) (length body) turns.Key 0 (room_after room 1) body)
            (λ p h. apart (value_at d) turns.Key p (map_fields d p h)) (λ p h. fields_map d p (together (value_at d) turns.Key p h))
            (places turns.Key (pairs_start (room_after room 1) has)))
        | inr full ↦ rw full (untagged (suc d) room 6 body some all (Fields (value_at d) turns.Key) (map_fields d) (λ p q h. pairs_short (value_at d) (room_after room 1) p full h))
      ]

containers_of : (d : ℕ) → Containers d
containers_of zero = no_containers
containers_of (suc d) =
    let inner : Inside (value_at d) (value_place d) = λ size bytes all le. value_in d (containers_of d) (Some size) bytes all le in
    record { sequences = sequence_case d inner; maps = map_case d inner }

pub value_longest : (d : ℕ) (room : Option ℕ) (bytes : List ℕ) → AreBytes bytes → FitsIn room bytes → Longest (Sized (Values (value_at d)) room) bytes (value_place d room bytes)
value_longest d = value_in d (containers_of d)
