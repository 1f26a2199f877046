-- How far bytes go on as some encoding begins: the length of the longest such beginning. The room is the length of what is
-- to be encoded; none is known at the top.
use Rattle.std.specs.Prelude.{ℕ, zero, suc, ◌+◌, ◌-◌, ◌*◌, ◌==◌, ◌&&◌, ◌||◌, not, if◌then◌else◌, nat_lt, min, Bool, true, List, [], ◌∷◌, length, take, drop, Option, Some, None, is_some}
use Rattle.argdata_codec.specs.declared.turn.Turn.{Turn}
use Rattle.argdata_codec.specs.declared.turn.Turn.TheVariants as turns
use Rattle.argdata_codec.specs.declared.turn.LengthStep.{LengthStep}
use Rattle.argdata_codec.specs.declared.turn.LengthStep.TheVariants as steps
use Rattle.argdata_codec.specs.Shape.{Shape}
use Rattle.argdata_codec.specs.Reading.{value_at}

abbrev pub next_turn : Turn → Turn
next_turn turns.Item = turns.Item
next_turn turns.Key = turns.Value
next_turn turns.Value = turns.Key

-- a container may end so many bytes behind a field: a value has to follow a key, and a pair takes two bytes at least
abbrev pub may_leave : Turn → ℕ → Bool
may_leave turns.Item left = true
may_leave turns.Key left = nat_lt 0 left
may_leave turns.Value left = not (left == 1)

-- the room behind so many bytes
abbrev pub room_after : Option ℕ → ℕ → Option ℕ
room_after None taken = None
room_after (Some room) taken = Some (room - taken)

-- a field of so many bytes may stand at the front of the room
abbrev pub has_place : Turn → ℕ → Option ℕ → Bool
has_place turn size None = true
has_place turn size (Some room) = not (nat_lt room size) && may_leave turn (room - size)

-- a length with these groups may go on: at least 128 times as many bytes follow its next byte
abbrev pub may_grow : Turn → ℕ → Option ℕ → Bool
may_grow turn groups None = true
may_grow turns.Key groups (Some room) = nat_lt (128 * groups + 1) room
may_grow turn groups (Some room) = nat_lt (128 * groups) room

-- bytes may be the body of a value that has one of at most so many bytes
abbrev pub at_most : ℕ → Option ℕ → Bool
at_most most None = true
at_most most (Some room) = not (nat_lt most room)

abbrev pub exactly : ℕ → Option ℕ → Bool
exactly size None = true
exactly size (Some room) = room == size

-- ---- the bodies of values that hold no others

abbrev pub boolean_place : List ℕ → ℕ
boolean_place [] = 0
boolean_place (b ∷ bs) = if b == 1 then 1 else 0

-- the second byte of an integer: the first isn't for nothing
abbrev pub second_place : ℕ → List ℕ → ℕ
second_place first [] = 0
second_place first (b ∷ bs) =
    if ((first == 0) && nat_lt b 128) || ((first == 255) && not (nat_lt b 128)) then 0
    else suc (min (if first == 0 then 7 else 6) (length bs))

-- only one byte of 0 would hold what no byte holds, and only a first byte of 0 makes room for a ninth
abbrev pub integer_place : Option ℕ → List ℕ → ℕ
integer_place room [] = 0
integer_place None (b ∷ bs) = suc (second_place b bs)
integer_place (Some room) (b ∷ bs) =
    if ((room == 1) && (b == 0)) || ((room == 9) && not (b == 0)) then 0 else suc (second_place b bs)

-- how many bytes are still to come in a character, and from where to where the next of them goes
abbrev pub Tail : Type 0
Tail = ℕ × (ℕ × ℕ)

-- what is to come after the first byte of a character; other bytes begin none
abbrev pub tail_of : ℕ → Option Tail
tail_of b =
    if nat_lt b 0x80 then Some (0, (0, 0))
    else if nat_lt b 0xc2 then None
    else if nat_lt b 0xe0 then Some (1, (0x80, 0xbf))
    else if b == 0xe0 then Some (2, (0xa0, 0xbf))
    else if b == 0xed then Some (2, (0x80, 0x9f))
    else if nat_lt b 0xf0 then Some (2, (0x80, 0xbf))
    else if b == 0xf0 then Some (3, (0x90, 0xbf))
    else if nat_lt b 0xf4 then Some (3, (0x80, 0xbf))
    else if b == 0xf4 then Some (3, (0x80, 0x8f))
    else None

-- more than so many bytes have room
abbrev pub more_than : ℕ → Option ℕ → Bool
more_than size None = true
more_than size (Some room) = nat_lt size room

-- of a character's first byte: what is to come has room, and so has the zero byte behind the text
abbrev pub begins_in : Option ℕ → Option Tail → Option Tail
begins_in room None = None
begins_in room (Some tail) = if more_than (tail.0 + 1) room then Some tail else None

-- one byte more, where there is a tail to go on with
abbrev pub one_more : (Tail → ℕ) → Option Tail → ℕ
one_more further None = 0
one_more further (Some tail) = suc (further tail)

-- what is to come after the next byte of a text; none, if that byte goes on no text
abbrev pub text_step : Tail → Option ℕ → ℕ → Option Tail
text_step (zero, bounds) room b = begins_in room (tail_of b)
text_step (suc more, bounds) room b = if nat_lt b bounds.0 || nat_lt bounds.1 b then None else Some (more, (0x80, 0xbf))

-- the zero byte that ends a text
abbrev pub is_end : Tail → ℕ → Bool
is_end tail b = (tail.0 == 0) && (b == 0)

-- a text and its zero byte
abbrev pub text_place : Tail → Option ℕ → List ℕ → ℕ
text_place tail room [] = 0
text_place tail room (b ∷ bs) =
    if is_end tail b then (if exactly 1 room then 1 else 0)
    else one_more (λ next. text_place next (room_after room 1) bs) (text_step tail room b)

-- ---- maps and sequences

-- the size of the field behind its length, where the bytes have all of it and encode a value
abbrev pub field_size : (List ℕ → Option Shape) → ℕ → List ℕ → Option ℕ
field_size value size bytes = if nat_lt (length bytes) size then None else (if is_some (value (take size bytes)) then Some size else None)

-- behind a whole field comes the next; in another one the value goes on as far as it does
abbrev pub field_place : (ℕ → ℕ) → ℕ → Option ℕ → ℕ
field_place further within None = within
field_place further within (Some size) = size + further size

-- what the next byte of a field's length does, where the room behind it is given: it stops what begins an encoding, goes on
-- with more groups, or ends the length
abbrev pub length_step : Turn → ℕ → Option ℕ → ℕ → LengthStep
length_step turn groups left b =
    if nat_lt b 128
    then (if (128 * groups + b == 0) || not (may_grow turn (128 * groups + b) left) then steps.Stops else steps.Goes (128 * groups + b))
    else (if has_place turn (128 * groups + b - 128) left then steps.Ends (128 * groups + b - 128) else steps.Stops)

-- one byte more, unless it stops what begins an encoding
abbrev pub after_step : (ℕ → ℕ) → (ℕ → ℕ) → LengthStep → ℕ
after_step goes ends steps.Stops = 0
after_step goes ends (steps.Goes groups) = suc (goes groups)
after_step goes ends (steps.Ends size) = suc (ends size)

-- fields, of whose first the groups were read; each step takes a byte at least, so the fuel is enough if it is the length
abbrev pub fields_place : (List ℕ → Option Shape) → (Option ℕ → List ℕ → ℕ) → ℕ → Turn → ℕ → Option ℕ → List ℕ → ℕ
fields_place value inside fuel turn groups room [] = 0
fields_place value inside zero turn groups room (b ∷ bs) = 0
fields_place value inside (suc fuel) turn groups room (b ∷ bs) =
    after_step
    (λ sum. fields_place value inside fuel turn sum (room_after room 1) bs)
    (λ size. field_place
    (λ taken. fields_place value inside fuel (next_turn turn) 0 (room_after (room_after room 1) taken) (drop taken bs))
    (inside (Some size) (take size bs))
    (field_size value size bs))
    (length_step turn groups (room_after room 1) b)

-- a value's tag and its body, where a map's and a sequence's are read as given
abbrev pub value_place_with : (Turn → Option ℕ → List ℕ → ℕ) → Option ℕ → List ℕ → ℕ
value_place_with container room [] = 0
value_place_with container room (tag ∷ body) =
    if tag == 1 then suc (length body)
    else if tag == 2 then (if at_most 1 (room_after room 1) then suc (boolean_place body) else 0)
    else if tag == 3 then (if exactly 4 (room_after room 1) then suc (min 4 (length body)) else 0)
    else if tag == 5 then (if at_most 9 (room_after room 1) then suc (integer_place (room_after room 1) body) else 0)
    else if tag == 6 then (if has_place turns.Value 0 (room_after room 1) then container turns.Key (room_after room 1) body else 0)
    else if tag == 7 then container turns.Item (room_after room 1) body
    else if tag == 8 then (if more_than 0 (room_after room 1) then suc (text_place (0, (0, 0)) (room_after room 1) body) else 0)
    else 0

-- a map's or a sequence's tag and its body; where the depth is used up there is none
unfoldable pub container_place : ℕ → Turn → Option ℕ → List ℕ → ℕ
container_place zero turn room body = 0
container_place (suc depth) turn room body =
    suc (fields_place (value_at depth) (λ space bytes. value_place_with (container_place depth) space bytes) (length body) turn 0 room body)

abbrev pub value_place : ℕ → Option ℕ → List ℕ → ℕ
value_place depth = value_place_with (container_place depth)
