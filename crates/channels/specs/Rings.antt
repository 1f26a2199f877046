-- How the sends of a channel lie in its rings: the bytes of all in one, the descriptors of all in the other, and beside them a piece for
-- each send, which has its lengths as it was sent. Of the first send some bytes were drawn; a ring has no longer what was drawn.
use Rattle.std.specs.Prelude.{◌≡◌, ℕ, zero, suc, ◌+◌, ◌-◌, ◌^◌, ◌<◌, ◌≤◌, false, if◌then◌else◌, nat_lt, eqb, List, [], ◌∷◌, length, take, drop, All}
use Rattle.abi_types.specs.declared.chan_kind.ChanKind.{ChanKind}
use Rattle.abi_types.specs.declared.descriptor.Descriptor.{Descriptor}
use Rattle.channels.specs.declared.pieces.Piece.{Piece}
use Rattle.channels.specs.declared.side.SideState.{SideState}
use Rattle.channels.specs.Channels.{Send, Channel, most_bytes, most_carried, is_open}

-- what waits of a piece once so many bytes of it are drawn, and of pieces, the first of which is
abbrev pub fds_left : ℕ → Piece → ℕ
fds_left zero piece = piece.fds
fds_left (suc drawn) piece = 0

abbrev pub piece_left : ℕ → Piece → Piece
piece_left drawn piece = record { bytes = piece.bytes - drawn; fds = fds_left drawn piece }

abbrev pub pieces_left : ℕ → List Piece → List Piece
pieces_left drawn [] = []
pieces_left drawn (piece ∷ pieces) = piece_left drawn piece ∷ pieces

-- the bytes and the descriptors cut into sends of these lengths
abbrev pub cut : List Piece → List ℕ → List Descriptor → List Send
cut [] bytes fds = []
cut (piece ∷ pieces) bytes fds =
    (record { bytes = take piece.bytes bytes; carried = take piece.fds fds }) ∷ cut pieces (drop piece.bytes bytes) (drop piece.fds fds)

-- what contracts see
abbrev pub seen : ChanKind → ℕ → ℕ → List Piece → List ℕ → List Descriptor → SideState → SideState → Channel
seen kind left drawn pieces bytes fds reader writer = record {
  kind = kind;
  left = left;
  waiting = cut (pieces_left drawn pieces) bytes fds;
  reader = reader;
  writer = writer;
}

-- the channel where nothing waits any more and its reader stands so
abbrev pub emptied : SideState → Channel → Channel
emptied to channel = record channel { left = channel.left + length channel.waiting; waiting = []; reader = to }

-- how many bytes and descriptors pieces have
abbrev pub size_of : List Piece → ℕ
size_of [] = 0
size_of (piece ∷ pieces) = piece.bytes + size_of pieces

abbrev pub fds_of : List Piece → ℕ
fds_of [] = 0
fds_of (piece ∷ pieces) = piece.fds + fds_of pieces

-- fewer bytes of the first were drawn than it has
abbrev pub IsInFirst : ℕ → List Piece → Type 0
IsInFirst drawn [] = drawn ≡ 0
IsInFirst drawn (piece ∷ pieces) = drawn < piece.bytes

pub record IsPiece (piece : Piece) : Type 0 where
  pub some : 0 < piece.bytes
  pub most : piece.bytes ≤ most_bytes

-- the pieces cover the bytes and the descriptors
pub record IsLaid (drawn : ℕ) (pieces : List Piece) (bytes : List ℕ) (fds : List Descriptor) : Type 0 where
  pub first : IsInFirst drawn pieces
  pub each : All IsPiece pieces
  pub bytes_are : size_of (pieces_left drawn pieces) ≡ length bytes
  pub fds_are : fds_of (pieces_left drawn pieces) ≡ length fds

-- What holds of a channel's fields: the pieces cover what the rings have, of which it is not more than their fixed room. Without a reader
-- nothing waits.
pub record IsKept (left drawn : ℕ) (pieces : List Piece) (bytes : List ℕ) (bytes_room : ℕ) (fds : List Descriptor) (fds_room : ℕ)
    (reader : SideState) : Type 0 where
  pub laid : IsLaid drawn pieces bytes fds
  pub rooms : (bytes_room ≡ most_bytes) × (fds_room ≡ most_carried)
  pub most : (length bytes ≤ most_bytes) × (length fds ≤ most_carried)
  pub unread : is_open reader ≡ false → pieces ≡ []
  pub count : left + length pieces ≤ 2 ^ 63

-- ---- the pieces' own way of reading

-- how many bytes the first of these pieces have that are without descriptors; and how many bytes one read can take
abbrev pub plain_pieces : List Piece → ℕ
plain_pieces [] = 0
plain_pieces (piece ∷ pieces) = if eqb piece.fds 0 then piece.bytes + plain_pieces pieces else 0

abbrev pub reach_pieces : List Piece → ℕ
reach_pieces [] = 0
reach_pieces (piece ∷ pieces) = piece.bytes + plain_pieces pieces

-- the piece at this place has n bytes and no descriptors, so they and those behind it come without
pub record IsPlainAt (n at : ℕ) (pieces : List Piece) : Type 0 where
  pub inside : at < length pieces
  pub comes : plain_pieces (drop at pieces) ≡ n + plain_pieces (drop (at + 1) pieces)
  pub covers : size_of (drop at pieces) ≡ n + size_of (drop (at + 1) pieces)

-- the pieces that are left where a read ends as many bytes behind the beginning of the first; and how many bytes of the first of those it drew
abbrev pub pieces_from : ℕ → List Piece → List Piece
pieces_from end [] = []
pieces_from end (piece ∷ pieces) = if nat_lt end piece.bytes then piece ∷ pieces else pieces_from (end - piece.bytes) pieces

abbrev pub drawn_in : ℕ → List Piece → ℕ
drawn_in end [] = end
drawn_in end (piece ∷ pieces) = if nat_lt end piece.bytes then end else drawn_in (end - piece.bytes) pieces
