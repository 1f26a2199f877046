-- The sends that pieces cut out of the rings.
--     bytes_of-cut, carried_of-cut, length-cut      all that the rings have, in as many sends as there are pieces
--     plain-cut, reach-cut, coming-cut      what a read takes of them
--     cut-push      one piece more
use Rattle.std.proofs.Common.{◌≡◌, ℕ, zero, suc, ◌+◌, ◌-◌, ◌<◌, ◌≤◌, Bool, true, false, cond, eqb, List, [], ◌∷◌, ◌++◌, length, take, drop, refl, sym, ap, ◌∙◌, arith}
use lib.Dec.{eqb-suc-zero}
use Rattle.std.specs.List.{All, AllByRecursion}
use Rattle.std.proofs.lemmas.List.{nil_from_length, length-drop, length-take-le, take-append-drop, take-append-le, drop-append-le, take_all}
use Rattle.abi_types.specs.declared.descriptor.Descriptor.{Descriptor}
use Rattle.channels.specs.declared.pieces.Piece.{Piece}
use Rattle.channels.specs.Channels.{Send, bytes_of, carried_of, coming, is_none, most_bytes, plain_reach, reach, HasByte}
use Rattle.channels.specs.Rings.{IsPiece, IsInFirst, cut, fds_of, piece_left, pieces_left, plain_pieces, reach_pieces, size_of}

-- ---- what pieces cover

pub bytes_of-cut : (pieces : List Piece) (bytes : List ℕ) (fds : List Descriptor) → size_of pieces ≡ length bytes → bytes_of (cut pieces bytes fds) ≡ bytes
bytes_of-cut [] bytes fds size = sym (nil_from_length bytes (sym size))
bytes_of-cut (piece ∷ pieces) bytes fds size =
    let behind : size_of pieces ≡ length (drop piece.bytes bytes) = omega (arith, length-drop piece.bytes bytes) in
    ap (λ (rest : List ℕ). take piece.bytes bytes ++ rest) (bytes_of-cut pieces (drop piece.bytes bytes) (drop piece.fds fds) behind)
    ∙ take-append-drop piece.bytes bytes

pub carried_of-cut : (pieces : List Piece) (bytes : List ℕ) (fds : List Descriptor) → fds_of pieces ≡ length fds → carried_of (cut pieces bytes fds) ≡ fds
carried_of-cut [] bytes fds size = sym (nil_from_length fds (sym size))
carried_of-cut (piece ∷ pieces) bytes fds size =
    let behind : fds_of pieces ≡ length (drop piece.fds fds) = omega (arith, length-drop piece.fds fds) in
    ap (λ (rest : List Descriptor). take piece.fds fds ++ rest) (carried_of-cut pieces (drop piece.bytes bytes) (drop piece.fds fds) behind)
    ∙ take-append-drop piece.fds fds

pub length-cut : (pieces : List Piece) (bytes : List ℕ) (fds : List Descriptor) → length (cut pieces bytes fds) ≡ length pieces
length-cut [] bytes fds = refl
length-cut (piece ∷ pieces) bytes fds = ap suc (length-cut pieces (drop piece.bytes bytes) (drop piece.fds fds))

pub length-left : (drawn : ℕ) (pieces : List Piece) → length (pieces_left drawn pieces) ≡ length pieces
length-left drawn [] = refl
length-left drawn (piece ∷ pieces) = refl

-- ---- what a read takes

is_none-take : (n : ℕ) (ds : List Descriptor) → n ≤ length ds → is_none (take n ds) ≡ eqb n 0
is_none-take zero ds fits = refl
is_none-take (suc n) [] fits = absurd (omega arith)
is_none-take (suc n) (d ∷ ds) fits = sym (eqb-suc-zero n)

pub plain-cut : (pieces : List Piece) (bytes : List ℕ) (fds : List Descriptor) → size_of pieces ≡ length bytes → fds_of pieces ≡ length fds
    → plain_reach (cut pieces bytes fds) ≡ plain_pieces pieces
plain-cut [] bytes fds size carried = refl
plain-cut (piece ∷ pieces) bytes fds size carried =
    let behind : size_of pieces ≡ length (drop piece.bytes bytes) = omega (arith, length-drop piece.bytes bytes) in
    let carried_behind : fds_of pieces ≡ length (drop piece.fds fds) = omega (arith, length-drop piece.fds fds) in
    let more = plain-cut pieces (drop piece.bytes bytes) (drop piece.fds fds) behind carried_behind in
    let all : length (take piece.bytes bytes) ≡ piece.bytes = length-take-le piece.bytes bytes (omega arith) in
    let sum : length (take piece.bytes bytes) + plain_reach (cut pieces (drop piece.bytes bytes) (drop piece.fds fds)) ≡ piece.bytes + plain_pieces pieces =
    omega (arith, more, all) in
    ap (λ (bare : Bool). cond bare (length (take piece.bytes bytes) + plain_reach (cut pieces (drop piece.bytes bytes) (drop piece.fds fds))) 0)
    (is_none-take piece.fds fds (omega arith))
    ∙ ap (λ (n : ℕ). cond (eqb piece.fds 0) n 0) sum

pub reach-cut : (pieces : List Piece) (bytes : List ℕ) (fds : List Descriptor) → size_of pieces ≡ length bytes → fds_of pieces ≡ length fds
    → reach (cut pieces bytes fds) ≡ reach_pieces pieces
reach-cut [] bytes fds size carried = refl
reach-cut (piece ∷ pieces) bytes fds size carried =
    let behind : size_of pieces ≡ length (drop piece.bytes bytes) = omega (arith, length-drop piece.bytes bytes) in
    let carried_behind : fds_of pieces ≡ length (drop piece.fds fds) = omega (arith, length-drop piece.fds fds) in
    let more = plain-cut pieces (drop piece.bytes bytes) (drop piece.fds fds) behind carried_behind in
    let all : length (take piece.bytes bytes) ≡ piece.bytes = length-take-le piece.bytes bytes (omega arith) in
    omega (arith, more, all)

-- how many descriptors come with the next byte
abbrev pub coming_pieces : List Piece → ℕ
coming_pieces [] = 0
coming_pieces (piece ∷ pieces) = piece.fds

-- they are the first of all
pub coming-cut : (n : ℕ) (pieces : List Piece) (bytes : List ℕ) (fds : List Descriptor)
    → coming (suc n) (cut pieces bytes fds) ≡ take (coming_pieces pieces) fds
coming-cut n [] bytes fds = refl
coming-cut n (piece ∷ pieces) bytes fds = refl

pub coming_fits : (pieces : List Piece) → coming_pieces pieces ≤ fds_of pieces
coming_fits [] = omega arith
coming_fits (piece ∷ pieces) = omega arith

pub plain_fits : (pieces : List Piece) → plain_pieces pieces ≤ size_of pieces
plain_fits [] = omega arith
plain_fits (piece ∷ pieces) =
    elim (eqb piece.fds 0) as (λ (bare : Bool). cond bare (piece.bytes + plain_pieces pieces) 0 ≤ piece.bytes + size_of pieces) [
      | true ↦ omega (arith, plain_fits pieces)
      | false ↦ omega arith
    ]

pub reach_fits : (pieces : List Piece) → reach_pieces pieces ≤ size_of pieces
reach_fits [] = omega arith
reach_fits (piece ∷ pieces) = omega (arith, plain_fits pieces)

-- ---- what a channel may be

pub each-cut : (pieces : List Piece) (bytes : List ℕ) (fds : List Descriptor) → size_of pieces ≡ length bytes → All IsPiece pieces
    → AllByRecursion HasByte (cut pieces bytes fds)
each-cut [] bytes fds size each = tt
each-cut (piece ∷ pieces) bytes fds size each =
    let first : IsPiece piece = each zero piece (omega arith) in
    let behind : size_of pieces ≡ length (drop piece.bytes bytes) = omega (arith, length-drop piece.bytes bytes) in (
      omega (arith, first.some, length-take-le piece.bytes bytes (omega arith)),
      each-cut pieces (drop piece.bytes bytes) (drop piece.fds fds) behind (λ k d below. each (suc k) d (omega arith)),
    )

pub each-left : (drawn : ℕ) (pieces : List Piece) → IsInFirst drawn pieces → All IsPiece pieces → All IsPiece (pieces_left drawn pieces)
each-left drawn [] first each k d below = each k d below
each-left drawn (piece ∷ pieces) first each zero d below =
    let whole : IsPiece piece = each zero piece (omega arith) in
    record { some = omega arith; most = omega (arith, whole.most) }
each-left drawn (piece ∷ pieces) first each (suc k) d below = each (suc k) d below

-- no more bytes of the first were drawn than a piece may have
pub drawn_fits : (drawn : ℕ) (pieces : List Piece) → IsInFirst drawn pieces → All IsPiece pieces → drawn ≤ most_bytes
drawn_fits drawn [] first each = omega arith
drawn_fits drawn (piece ∷ pieces) first each =
    let whole : IsPiece piece = each zero piece (omega arith) in
    omega (arith, whole.most)

-- ---- one piece more

none_left : (piece : Piece) → piece_left zero piece ≡ piece
none_left piece = let whole : piece.bytes - zero ≡ piece.bytes = omega arith in ap (λ (n : ℕ). let p : Piece = record { bytes = n; fds = piece.fds } in p) whole

-- where nothing of the first is drawn, all of each is left
pub pieces_left-none : (pieces : List Piece) → pieces_left zero pieces ≡ pieces
pieces_left-none [] = refl
pieces_left-none (piece ∷ pieces) = ap (λ (p : Piece). p ∷ pieces) (none_left piece)

pub pieces_left-push : (drawn : ℕ) (pieces : List Piece) (piece : Piece) → IsInFirst drawn pieces
    → pieces_left drawn (pieces ++ piece ∷ []) ≡ pieces_left drawn pieces ++ piece ∷ []
pieces_left-push drawn [] piece first = ap (λ (d : ℕ). piece_left d piece ∷ []) first ∙ ap (λ (p : Piece). p ∷ []) (none_left piece)
pieces_left-push drawn (other ∷ pieces) piece first = refl

pub in_first_push : (drawn : ℕ) (pieces : List Piece) (piece : Piece) → IsInFirst drawn pieces → 0 < piece.bytes → IsInFirst drawn (pieces ++ piece ∷ [])
in_first_push drawn [] piece first some = omega arith
in_first_push drawn (other ∷ pieces) piece first some = first

pub size_of-push : (pieces : List Piece) (piece : Piece) → size_of (pieces ++ piece ∷ []) ≡ size_of pieces + piece.bytes
size_of-push [] piece = omega arith
size_of-push (other ∷ pieces) piece = omega (arith, size_of-push pieces piece)

pub fds_of-push : (pieces : List Piece) (piece : Piece) → fds_of (pieces ++ piece ∷ []) ≡ fds_of pieces + piece.fds
fds_of-push [] piece = omega arith
fds_of-push (other ∷ pieces) piece = omega (arith, fds_of-push pieces piece)

-- one send more, of these bytes and descriptors
abbrev pub piece_of : List ℕ → List Descriptor → Piece
piece_of bytes fds = record { bytes = length bytes; fds = length fds }

abbrev pub send_of : List ℕ → List Descriptor → Send
send_of bytes fds = record { bytes = bytes; carried = fds }

pub cut-push : (pieces : List Piece) (bytes more : List ℕ) (fds mores : List Descriptor) → size_of pieces ≡ length bytes → fds_of pieces ≡ length fds
    → cut (pieces ++ piece_of more mores ∷ []) (bytes ++ more) (fds ++ mores) ≡ cut pieces bytes fds ++ send_of more mores ∷ []
cut-push [] [] more [] mores size carried =
    ap (λ (b : List ℕ). send_of b (take (length mores) mores) ∷ []) (take_all (length more) more (omega arith))
    ∙ ap (λ (f : List Descriptor). send_of more f ∷ []) (take_all (length mores) mores (omega arith))
cut-push [] (byte ∷ bytes) more fds mores size carried = absurd (omega arith)
cut-push [] [] more (fd ∷ fds) mores size carried = absurd (omega arith)
cut-push (piece ∷ pieces) bytes more fds mores size carried =
    let behind : size_of pieces ≡ length (drop piece.bytes bytes) = omega (arith, length-drop piece.bytes bytes) in
    let carried_behind : fds_of pieces ≡ length (drop piece.fds fds) = omega (arith, length-drop piece.fds fds) in
    let fits : piece.bytes ≤ length bytes = omega arith in
    let carried_fits : piece.fds ≤ length fds = omega arith in
    let rest : List ℕ → List Descriptor → List Send = λ b f. cut (pieces ++ piece_of more mores ∷ []) b f in
    ap (λ (b : List ℕ). send_of b (take piece.fds (fds ++ mores)) ∷ rest (drop piece.bytes (bytes ++ more)) (drop piece.fds (fds ++ mores)))
    (take-append-le piece.bytes bytes more fits)
    ∙ ap (λ (f : List Descriptor). send_of (take piece.bytes bytes) f ∷ rest (drop piece.bytes (bytes ++ more)) (drop piece.fds (fds ++ mores)))
    (take-append-le piece.fds fds mores carried_fits)
    ∙ ap (λ (b : List ℕ). send_of (take piece.bytes bytes) (take piece.fds fds) ∷ rest b (drop piece.fds (fds ++ mores)))
    (drop-append-le piece.bytes bytes more fits)
    ∙ ap (λ (f : List Descriptor). send_of (take piece.bytes bytes) (take piece.fds fds) ∷ rest (drop piece.bytes bytes ++ more) f)
    (drop-append-le piece.fds fds mores carried_fits)
    ∙ ap (λ (sends : List Send). send_of (take piece.bytes bytes) (take piece.fds fds) ∷ sends)
    (cut-push pieces (drop piece.bytes bytes) more (drop piece.fds fds) mores behind carried_behind)
