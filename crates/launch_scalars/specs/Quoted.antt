-- Quoted scalars.
use Rattle.std.specs.Prelude.{ℕ, zero, suc, ◌+◌, ◌-◌, ◌*◌, ◌==◌, ◌&&◌, ◌||◌, not, if◌then◌else◌, nat_lt, Bool, List, [], ◌∷◌, ◌++◌, length, Option, Some, None, option_map, Result, Ok}
use Rattle.std.specs.Char.{encode_utf8}
use Rattle.launch_scalars.specs.declared.kind.YamlKind.TheVariants as kinds
use Rattle.launch_scalars.specs.declared.fault.LineFault.{LineFault}
use Rattle.launch_scalars.specs.Results.{fault}

-- What stands behind an opening quote: what the scalar says, what stands behind its closing quote, if it has one, and the
-- place of its first wrong escape, if it has one.
pub record Quoted : Type 0 where
  pub content : List ℕ
  pub rest : Option (List ℕ)
  pub wrong : Option ℕ

abbrev pub closed : List ℕ → Quoted
closed rest = record { content = []; rest = Some rest; wrong = None }

abbrev pub unclosed : Quoted
unclosed = record { content = []; rest = None; wrong = None }

-- bytes before what a scalar says
abbrev pub put : List ℕ → Quoted → Quoted
put front q = record { content = front ++ q.content; rest = q.rest; wrong = q.wrong }

-- a wrong escape before what a scalar says
abbrev pub spoiled : ℕ → Quoted → Quoted
spoiled place q = record { content = q.content; rest = q.rest; wrong = Some place }

-- in single quotes two quotes stand for one
abbrev pub in_single : List ℕ → Quoted
in_single [] = unclosed
in_single (b ∷ []) = if b == 39 then closed [] else put (b ∷ []) unclosed
in_single (b ∷ c ∷ bs) =
    if not (b == 39) then put (b ∷ []) (in_single (c ∷ bs))
    else if c == 39 then put (39 ∷ []) (in_single bs)
    else closed (c ∷ bs)

-- ---- escapes

abbrev pub digit_of : ℕ → Option ℕ
digit_of b =
    if not (nat_lt b 48) && nat_lt b 58 then Some (b - 48)
    else if not (nat_lt b 97) && nat_lt b 103 then Some (b - 87)
    else if not (nat_lt b 65) && nat_lt b 71 then Some (b - 55)
    else None

-- the number that a hexadecimal digit makes behind a number
abbrev pub with_digit : Option ℕ → Option ℕ → Option ℕ
with_digit None digit = None
with_digit (Some n) None = None
with_digit (Some n) (Some d) = Some (16 * n + d)

-- the number of so many hexadecimal digits at the front, behind a number
abbrev pub hexadecimal : ℕ → Option ℕ → List ℕ → Option ℕ
hexadecimal zero n bytes = n
hexadecimal (suc count) n [] = None
hexadecimal (suc count) n (b ∷ bs) = hexadecimal count (with_digit n (digit_of b)) bs

-- a character that an escape of a number may stand for: not U+0000, and no surrogate
abbrev pub is_escapable : ℕ → Bool
is_escapable n = nat_lt 0 n && (nat_lt n 0xd800 || not (nat_lt n 0xe000))

abbrev pub character_of : Option ℕ → Option (List ℕ)
character_of None = None
character_of (Some n) = if is_escapable n then Some (encode_utf8 n) else None

-- what an escape of one letter stands for
abbrev pub letter_of : ℕ → Option ℕ
letter_of b =
    if (b == 34) || (b == 92) || (b == 47) then Some b
    else if b == 110 then Some 10
    else if b == 116 then Some 9
    else if b == 114 then Some 13
    else None

-- what the escape of a backslash stands for that stands before these bytes, and how many of them it takes
abbrev pub escape : List ℕ → Option (List ℕ × ℕ)
escape [] = None
escape (b ∷ bs) =
    if b == 120 then option_map (λ c. (c, 3)) (character_of (hexadecimal 2 (Some 0) bs))
    else if b == 117 then option_map (λ c. (c, 5)) (character_of (hexadecimal 4 (Some 0) bs))
    else option_map (λ c. (c ∷ [], 1)) (letter_of b)

-- ---- double quotes

-- what an escape and what stands behind it say; a wrong one takes a byte behind the backslash
abbrev pub escaped : ℕ → Option (List ℕ × ℕ) → (ℕ → Quoted) → Quoted
escaped place None behind = spoiled place (behind 1)
escaped place (Some e) behind = put e.0 (behind e.1)

-- in double quotes, where an escape takes the first bytes, so many of them
abbrev pub in_double : ℕ → List ℕ → Quoted
in_double taken [] = unclosed
in_double (suc taken) (b ∷ bs) = in_double taken bs
in_double zero (b ∷ bs) =
    if b == 34 then closed bs
    else if b == 92 then escaped (suc (length bs)) (escape bs) (λ n. in_double n bs)
    else put (b ∷ []) (in_double zero bs)

unfoldable pub quoted : ℕ → List ℕ → Quoted
quoted quote bytes = if quote == 39 then in_single bytes else in_double 0 bytes

-- ---- what is reported of it

abbrev pub if_closed : List ℕ → Option (List ℕ) → Result (List ℕ × List ℕ) LineFault
if_closed content None = fault 0 kinds.Quote
if_closed content (Some rest) = Ok (content, rest)

abbrev pub if_right : Option ℕ → Result (List ℕ × List ℕ) LineFault → Result (List ℕ × List ℕ) LineFault
if_right None further = further
if_right (Some place) further = fault place kinds.Escape

-- what it says and what stands behind it, or its first wrong escape, or that it isn't closed
abbrev pub reported : Quoted → Result (List ℕ × List ℕ) LineFault
reported q = if_right q.wrong (if_closed q.content q.rest)

-- how many of the bytes behind the opening quote it takes
abbrev pub taken_of : ℕ → Option (List ℕ) → ℕ
taken_of whole None = whole
taken_of whole (Some rest) = whole - length rest
