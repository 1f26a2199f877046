-- A read of n bytes, over the pieces.
--     read_laid      what it leaves in the rings, cut by the pieces that are left, are the sends that wait after it
use Rattle.std.proofs.Common.{◌≡◌, ℕ, zero, suc, ◌+◌, ◌-◌, ◌<◌, ◌≤◌, Bool, true, false, cond, eqb, List, [], ◌∷◌, length, take, drop, inl, inr, refl, sym, ap, ◌∙◌, subst, arith, add-suc}
use Rattle.std.specs.List.{All}
use Rattle.std.proofs.lemmas.Bool.Decides.{eqb_tells}
use Rattle.std.proofs.lemmas.List.{length-drop, length-take-le, drop-drop, drop-take}
use Rattle.abi_types.specs.declared.descriptor.Descriptor.{Descriptor}
use Rattle.channels.specs.declared.pieces.Piece.{Piece}
use Rattle.channels.specs.Channels.{Send, coming, sends_after}
use Rattle.channels.specs.ChannelLaws.{rest_of}
use Rattle.channels.specs.Rings.{IsPiece, IsInFirst, cut, fds_of, fds_left, piece_left, pieces_left, plain_pieces, reach_pieces, size_of, pieces_from, drawn_in}
use Rattle.channels.proofs.Afters.{after_inside, after_past}
use Rattle.channels.proofs.Cuts.{coming_pieces, coming-cut, coming_fits, pieces_left-none, send_of}
use Rattle.channels.proofs.Takes.{ltb_cases}

-- how many descriptors come with the next n bytes
abbrev pub come_pieces : ℕ → List Piece → ℕ
come_pieces zero pieces = 0
come_pieces (suc n) pieces = coming_pieces pieces

come_some : (n : ℕ) (pieces : List Piece) → 0 < n → come_pieces n pieces ≡ coming_pieces pieces
come_some zero pieces some = absurd (omega arith)
come_some (suc n) pieces some = refl

-- none where the read goes over bytes that come without
come_plain : (n : ℕ) (pieces : List Piece) → n ≤ plain_pieces pieces → come_pieces n pieces ≡ 0
come_plain zero pieces plain = refl
come_plain (suc n) [] plain = absurd (omega arith)
come_plain (suc n) (piece ∷ pieces) plain =
    elim (eqb_tells piece.fds 0) [
      | inl none ↦ none.1
      | inr some ↦
          let no : suc n ≤ 0 = subst (λ (bare : Bool). suc n ≤ cond bare (piece.bytes + plain_pieces pieces) 0) some.0 plain in
          absurd (omega (arith, no))
    ]

-- they are the descriptors that come
pub come-cut : (n : ℕ) (pieces : List Piece) (bytes : List ℕ) (fds : List Descriptor) → fds_of pieces ≡ length fds
    → length (coming n (cut pieces bytes fds)) ≡ come_pieces n pieces
come-cut zero pieces bytes fds carried = refl
come-cut (suc n) pieces bytes fds carried =
    ap (λ (f : List Descriptor). length f) (coming-cut n pieces bytes fds)
    ∙ length-take-le (coming_pieces pieces) fds (omega (arith, coming_fits pieces))

pub come_front : (n : ℕ) (pieces : List Piece) (bytes : List ℕ) (fds : List Descriptor) → coming n (cut pieces bytes fds) ≡ take (come_pieces n pieces) fds
come_front zero pieces bytes fds = refl
come_front (suc n) pieces bytes fds = coming-cut n pieces bytes fds

plain_reach : (pieces : List Piece) → plain_pieces pieces ≤ reach_pieces pieces
plain_reach [] = omega arith
plain_reach (piece ∷ pieces) =
    elim (eqb piece.fds 0) as (λ (bare : Bool). cond bare (piece.bytes + plain_pieces pieces) 0 ≤ piece.bytes + plain_pieces pieces) [
      | true ↦ omega arith
      | false ↦ omega arith
    ]

-- What holds after a read of n bytes, with which `come` descriptors came, where `to` bytes of the first of the `rest` are drawn.
pub record IsRead (pieces : List Piece) (drawn n come : ℕ) (bytes : List ℕ) (fds : List Descriptor) (to : ℕ) (rest : List Piece) : Type 0 where
  pub waits : cut (pieces_left to rest) (drop n bytes) (drop come fds) ≡ sends_after n (cut (pieces_left drawn pieces) bytes fds)
  pub first : IsInFirst to rest
  pub each : All IsPiece rest
  pub bytes_are : size_of (pieces_left to rest) ≡ length (drop n bytes)
  pub fds_are : fds_of (pieces_left to rest) ≡ length (drop come fds)
  pub fewer : length rest ≤ length pieces

-- ---- a read that ends in the first piece

-- its send, and those behind it
module _ (piece : Piece) (pieces : List Piece) (drawn : ℕ) (bytes : List ℕ) (fds : List Descriptor)
    (size : piece.bytes - drawn + size_of pieces ≡ length bytes) (carried : fds_left drawn piece + fds_of pieces ≡ length fds) where
  abbrev send : Send
  send = send_of (take (piece.bytes - drawn) bytes) (take (fds_left drawn piece) fds)

  abbrev behind : List Send
  behind = cut pieces (drop (piece.bytes - drawn) bytes) (drop (fds_left drawn piece) fds)

  length_send : length (take (piece.bytes - drawn) bytes) ≡ piece.bytes - drawn
  length_send = length-take-le (piece.bytes - drawn) bytes (omega arith)

  -- the send's own part
  begun_cut : (n : ℕ) → drawn + n < piece.bytes
      → cut (piece_left (drawn + n) piece ∷ pieces) (drop n bytes) (drop (come_pieces n (piece_left drawn piece ∷ pieces)) fds) ≡ rest_of n send ∷ behind
  begun_cut zero inside =
      let same : drawn + zero ≡ drawn = omega arith in
      ap (λ (d : ℕ). cut (piece_left d piece ∷ pieces) bytes fds) same
  begun_cut (suc n) inside =
      let more : drawn + suc n ≡ suc (drawn + n) = add-suc drawn n in
      let left : ℕ = piece.bytes - (drawn + suc n) in
      let all : suc n + left ≡ piece.bytes - drawn = omega arith in
      let front : take left (drop (suc n) bytes) ≡ drop (suc n) (take (piece.bytes - drawn) bytes) =
      sym (drop-take (suc n) left bytes) ∙ ap (λ (k : ℕ). drop (suc n) (take k bytes)) all in
      let back : drop left (drop (suc n) bytes) ≡ drop (piece.bytes - drawn) bytes =
      drop-drop left (suc n) bytes ∙ ap (λ (k : ℕ). drop k bytes) all in
      let rest : List Descriptor = drop (fds_left drawn piece) fds in
      ap
      (λ (d : ℕ).
      send_of (take left (drop (suc n) bytes)) (take (fds_left d piece) rest) ∷ cut pieces (drop left (drop (suc n) bytes)) (drop (fds_left d piece) rest))
      more
      ∙ ap (λ (b : List ℕ). send_of b [] ∷ cut pieces (drop left (drop (suc n) bytes)) rest) front
      ∙ ap (λ (b : List ℕ). send_of (drop (suc n) (take (piece.bytes - drawn) bytes)) [] ∷ cut pieces b rest) back

  -- how many descriptors are left with what is left of it
  begun_fds : (n : ℕ) → drawn + n < piece.bytes
      → fds_left (drawn + n) piece + come_pieces n (piece_left drawn piece ∷ pieces) ≡ fds_left drawn piece
  begun_fds zero inside =
      let same : drawn + zero ≡ drawn = omega arith in
      let equal : fds_left (drawn + zero) piece ≡ fds_left drawn piece = ap (λ (d : ℕ). fds_left d piece) same in
      omega (arith, equal)
  begun_fds (suc n) inside =
      let more : drawn + suc n ≡ suc (drawn + n) = add-suc drawn n in
      let none : fds_left (drawn + suc n) piece ≡ 0 = ap (λ (d : ℕ). fds_left d piece) more in
      omega (arith, none)

  read_inside : (n : ℕ) → drawn + n < piece.bytes → All IsPiece (piece ∷ pieces)
      → IsRead (piece ∷ pieces) drawn n (come_pieces n (piece_left drawn piece ∷ pieces)) bytes fds (drawn + n) (piece ∷ pieces)
  read_inside n inside each =
      let less : n < length send.bytes = omega (arith, length_send) in
      let left = begun_fds n inside in
      record {
        waits = begun_cut n inside ∙ sym (after_inside n send behind less);
        first = inside;
        each = each;
        bytes_are = omega (arith, length-drop n bytes);
        fds_are = omega (arith, left, length-drop (come_pieces n (piece_left drawn piece ∷ pieces)) fds);
        fewer = omega arith;
      }

  -- ---- a read that goes on behind it

  read_past : (n more to : ℕ) (rest : List Piece) → drawn < piece.bytes → n ≡ piece.bytes - drawn + more
      → IsRead pieces 0 more 0 (drop (piece.bytes - drawn) bytes) (drop (fds_left drawn piece) fds) to rest
      → IsRead (piece ∷ pieces) drawn n (fds_left drawn piece) bytes fds to rest
  read_past n more to rest some sum read =
      let past : length send.bytes ≤ n = omega (arith, length_send) in
      let byte : 0 < length send.bytes = omega (arith, length_send, some) in
      let over : n - length send.bytes ≡ more = omega (arith, length_send) in
      let after : sends_after n (send ∷ behind) ≡ sends_after more behind =
      after_past n send behind byte past ∙ ap (λ (m : ℕ). sends_after m behind) over in
      let all : pieces_left zero pieces ≡ pieces = pieces_left-none pieces in
      let gone : drop more (drop (piece.bytes - drawn) bytes) ≡ drop n bytes =
      drop-drop more (piece.bytes - drawn) bytes ∙ ap (λ (k : ℕ). drop k bytes) (sym sum) in
      let cut_behind : List Piece → List Send = λ ps. cut ps (drop (piece.bytes - drawn) bytes) (drop (fds_left drawn piece) fds) in
      record {
        waits =
            ap (λ (b : List ℕ). cut (pieces_left to rest) b (drop (fds_left drawn piece) fds)) (sym gone)
            ∙ read.waits
            ∙ ap (λ (ps : List Piece). sends_after more (cut_behind ps)) all
            ∙ sym after;
        first = read.first;
        each = read.each;
        bytes_are = read.bytes_are ∙ ap (λ (b : List ℕ). length b) gone;
        fds_are = read.fds_are;
        fewer = omega (arith, read.fewer);
      }

-- ---- all reads

in_first : (pieces : List Piece) → All IsPiece pieces → IsInFirst zero pieces
in_first [] each = refl
in_first (piece ∷ pieces) each = let whole : IsPiece piece = each zero piece (omega arith) in whole.some

pub read_laid : (pieces : List Piece) (drawn n : ℕ) (bytes : List ℕ) (fds : List Descriptor) → IsInFirst drawn pieces → All IsPiece pieces
    → size_of (pieces_left drawn pieces) ≡ length bytes → fds_of (pieces_left drawn pieces) ≡ length fds → n ≤ reach_pieces (pieces_left drawn pieces)
    → IsRead pieces drawn n (come_pieces n (pieces_left drawn pieces)) bytes fds (drawn_in (drawn + n) pieces) (pieces_from (drawn + n) pieces)
read_laid [] drawn zero bytes fds first each size carried within = record {
  waits = refl;
  first = omega arith;
  each = each;
  bytes_are = size;
  fds_are = carried;
  fewer = omega arith;
}
read_laid [] drawn (suc n) bytes fds first each size carried within = absurd (omega arith)
read_laid (piece ∷ pieces) drawn n bytes fds first each size carried within =
    elim (ltb_cases (drawn + n) piece.bytes) [
      | inl inside ↦ rw inside.0 (read_inside piece pieces drawn bytes fds size carried n inside.1 each)
      | inr past ↦
          let more : ℕ = n - (piece.bytes - drawn) in
          let rest_each : All IsPiece pieces = λ k d below. each (suc k) d (omega arith) in
          let all = pieces_left-none pieces in
          let bytes_behind : List ℕ = drop (piece.bytes - drawn) bytes in
          let fds_behind : List Descriptor = drop (fds_left drawn piece) fds in
          let size_behind : size_of (pieces_left zero pieces) ≡ length bytes_behind =
          ap size_of all ∙ omega (arith, length-drop (piece.bytes - drawn) bytes) in
          let carried_behind : fds_of (pieces_left zero pieces) ≡ length fds_behind =
          ap fds_of all ∙ omega (arith, length-drop (fds_left drawn piece) fds) in
          let plain : more ≤ plain_pieces pieces = omega (arith, past.1) in
          let reaches : more ≤ reach_pieces (pieces_left zero pieces) =
          subst (λ (ps : List Piece). more ≤ reach_pieces ps) (sym all) (omega (arith, plain_reach pieces)) in
          let come : come_pieces more (pieces_left zero pieces) ≡ 0 = ap (come_pieces more) all ∙ come_plain more pieces plain in
          let ends : zero + more ≡ drawn + n - piece.bytes = omega (arith, past.1) in
          let read = read_laid pieces zero more bytes_behind fds_behind (in_first pieces rest_each) rest_each size_behind carried_behind reaches in
          let to : ℕ = drawn_in (drawn + n - piece.bytes) pieces in
          let rest : List Piece = pieces_from (drawn + n - piece.bytes) pieces in
          let here : IsRead pieces zero more 0 bytes_behind fds_behind to rest =
          subst (λ (e : ℕ). IsRead pieces zero more 0 bytes_behind fds_behind (drawn_in e pieces) (pieces_from e pieces)) ends
          (subst (λ (c : ℕ). IsRead pieces zero more c bytes_behind fds_behind (drawn_in (zero + more) pieces) (pieces_from (zero + more) pieces)) come read) in
          let sum : n ≡ piece.bytes - drawn + more = omega (arith, past.1) in
          let came : come_pieces n (piece_left drawn piece ∷ pieces) ≡ fds_left drawn piece =
          come_some n (piece_left drawn piece ∷ pieces) (omega (arith, past.1)) in
          rw past.0
          (subst (λ (c : ℕ). IsRead (piece ∷ pieces) drawn n c bytes fds to rest) (sym came)
          (read_past piece pieces drawn bytes fds size carried n more to rest first sum here))
    ]
