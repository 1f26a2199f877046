-- The fields of a channel before and after each call. `old` is what contracts see of them before it.
--     bytes_count, carried_count, sends_count, reach_was, reach_most, bytes_read, IsChannel-old      what the readers give
--     peeked, copied_fds      what they copy
--     kept_pushed, is_pushed      a write
--     kept_pulled, is_pulled      a read
--     seen_shut, all_released      the end of the reader
use Rattle.std.proofs.Common.{◌≡◌, ℕ, ◌+◌, ◌-◌, ◌^◌, ◌<◌, ◌≤◌, min, true, false, List, [], ◌∷◌, ◌++◌, length, take, drop, sym, ap, ◌∙◌, subst, arith, true≢false}
use Rattle.std.proofs.lemmas.List.{length-append, length-drop, length-take, length-take-le, length_push, take_all, take_min}
use Rattle.std.proofs.lemmas.List.Elements.{All-push}
use Rattle.circular_buffer.specs.Buffer.{Buffer, buffer}
use Rattle.abi_types.specs.declared.chan_kind.ChanKind.{ChanKind}
use Rattle.abi_types.specs.declared.descriptor.Descriptor.{Descriptor}
use Rattle.channels.specs.declared.pieces.Piece.{Piece}
use Rattle.channels.specs.declared.side.SideState.{SideState}
use Rattle.channels.specs.Channels.{Send, Channel, IsChannel, IsFilled, IsPulled, sends, most_bytes, most_carried, bytes_of, carried_of, coming, drawn_by, has_room, is_hung, is_open, push, pushed, pull, reach, room, sends_after, sends_gone, taken}
use Rattle.channels.specs.Rings.{IsKept, IsPiece, cut, seen, emptied, fds_of, pieces_left, reach_pieces, size_of, pieces_from, drawn_in}
use Rattle.channels.proofs.Afters.{coming_within, first_few, gone_after}
use Rattle.channels.proofs.Cuts.{bytes_of-cut, carried_of-cut, length-cut, length-left, reach-cut, reach_fits, each-cut, each-left, drawn_fits, in_first_push, cut-push, pieces_left-push, piece_of, size_of-push, fds_of-push}
use Rattle.channels.proofs.Pulls.{IsRead, read_laid, come_pieces, come-cut, come_front}
use Rattle.channels.proofs.Takes.{IsTaken, may_take, pushes}

module _ (kind : ChanKind) (left drawn : ℕ) (pieces : List Piece) (bytes : List ℕ) (fds : List Descriptor) (reader writer : SideState) (bytes_room fds_room : ℕ)
    (kept : IsKept left drawn pieces bytes bytes_room fds fds_room reader) where
  abbrev now : Channel
  now = seen kind left drawn pieces bytes fds reader writer

  all_bytes : bytes_of now.waiting ≡ bytes
  all_bytes = bytes_of-cut (pieces_left drawn pieces) bytes fds kept.laid.bytes_are

  all_fds : carried_of now.waiting ≡ fds
  all_fds = carried_of-cut (pieces_left drawn pieces) bytes fds kept.laid.fds_are

  all_sends : length now.waiting ≡ length pieces
  all_sends = length-cut (pieces_left drawn pieces) bytes fds ∙ length-left drawn pieces

  IsChannel-now : IsChannel now
  IsChannel-now = record {
    whole = each-cut (pieces_left drawn pieces) bytes fds kept.laid.bytes_are (each-left drawn pieces kept.laid.first kept.laid.each);
    bytes = omega (arith, ap (λ (b : List ℕ). length b) all_bytes, kept.most.0);
    carried = omega (arith, ap (λ (f : List Descriptor). length f) all_fds, kept.most.1);
    read = λ closed. ap (λ (ps : List Piece). cut (pieces_left drawn ps) bytes fds) (kept.unread closed);
  }

  pub drawn_small : drawn ≤ most_bytes
  drawn_small = drawn_fits drawn pieces kept.laid.first kept.laid.each

  module _ (old : Channel) (is : now ≡ old) where
    -- ---- what the readers give

    pub bytes_were : bytes ≡ bytes_of old.waiting
    bytes_were = sym all_bytes ∙ ap (λ (c : Channel). bytes_of c.waiting) is

    pub carried_were : fds ≡ carried_of old.waiting
    carried_were = sym all_fds ∙ ap (λ (c : Channel). carried_of c.waiting) is

    pub bytes_count : length bytes ≡ length (bytes_of old.waiting)
    bytes_count = ap (λ (b : List ℕ). length b) bytes_were

    pub carried_count : length fds ≡ length (carried_of old.waiting)
    carried_count = ap (λ (f : List Descriptor). length f) carried_were

    pub sends_count : length pieces ≡ length old.waiting
    sends_count = sym all_sends ∙ ap (λ (c : Channel). length c.waiting) is

    pub reach_was : reach_pieces (pieces_left drawn pieces) ≡ reach old.waiting
    reach_was =
        sym (reach-cut (pieces_left drawn pieces) bytes fds kept.laid.bytes_are kept.laid.fds_are) ∙ ap (λ (c : Channel). reach c.waiting) is

    pub reach_most : reach old.waiting ≤ length bytes
    reach_most = omega (arith, reach_was, reach_fits (pieces_left drawn pieces), kept.laid.bytes_are)

    pub IsChannel-old : IsChannel old
    IsChannel-old = subst (λ (c : Channel). IsChannel c) is IsChannel-now

    -- the bytes of a read, and the descriptors
    pub bytes_read : (asked : ℕ) → length (pull asked old).bytes ≡ min asked (reach old.waiting)
    bytes_read asked = length-take-le (min asked (reach old.waiting)) (bytes_of old.waiting) (omega (arith, reach_most, bytes_count))

    pub peeked : (asked n : ℕ) (out out_new : List ℕ) → n ≡ min asked (reach old.waiting) → IsFilled (take n bytes) out out_new
        → IsFilled (pull asked old).bytes out out_new
    peeked asked n out out_new n_is filled = subst (λ (b : List ℕ). IsFilled b out out_new) ((λ i. take (n_is i) (bytes_were i))) filled

    pub carried_read : (asked : ℕ) → (pull asked old).carried ≡ coming asked old.waiting
    carried_read asked = coming_within asked old.waiting IsChannel-old.whole

    pub first_fds : (asked m : ℕ) → m ≡ length (coming asked old.waiting) → take m fds ≡ (pull asked old).carried
    first_fds asked m m_is =
        ap (λ (k : ℕ). take k fds)
        (m_is ∙ ap (λ (c : Channel). length (coming asked c.waiting)) (sym is) ∙ come-cut asked (pieces_left drawn pieces) bytes fds kept.laid.fds_are)
        ∙ sym (come_front asked (pieces_left drawn pieces) bytes fds)
        ∙ ap (λ (c : Channel). coming asked c.waiting) is
        ∙ sym (carried_read asked)

    pub few_first : (asked m : ℕ) → m ≡ length (coming asked old.waiting) → m ≤ length fds
    few_first asked m m_is = omega (arith, m_is, first_few asked old.waiting, carried_count)

    pub copied_fds : (asked m : ℕ) (out out_new : List Descriptor) → m ≡ length (coming asked old.waiting) → IsFilled (take m fds) out out_new
        → IsFilled (pull asked old).carried out out_new
    copied_fds asked m out out_new m_is filled = subst (λ (f : List Descriptor). IsFilled f out out_new) (first_fds asked m m_is) filled

    -- ---- one send more

    module _ (more : List ℕ) (mores : List Descriptor) where
      abbrev pieces_more : List Piece
      pieces_more = pieces ++ piece_of more mores ∷ []

      pieces_more_left : pieces_left drawn pieces_more ≡ pieces_left drawn pieces ++ piece_of more mores ∷ []
      pieces_more_left = pieces_left-push drawn pieces (piece_of more mores) kept.laid.first

      bytes_more : size_of (pieces_left drawn pieces_more) ≡ length (bytes ++ more)
      bytes_more =
          ap size_of pieces_more_left
          ∙ omega (arith, size_of-push (pieces_left drawn pieces) (piece_of more mores), kept.laid.bytes_are, length-append bytes more)

      fds_more : fds_of (pieces_left drawn pieces_more) ≡ length (fds ++ mores)
      fds_more =
          ap fds_of pieces_more_left
          ∙ omega (arith, fds_of-push (pieces_left drawn pieces) (piece_of more mores), kept.laid.fds_are, length-append fds mores)

      seen_push : seen kind left drawn pieces_more (bytes ++ more) (fds ++ mores) reader writer ≡ pushed more mores old
      seen_push =
          ap (λ (sends : List Send). let channel : Channel = record now { waiting = sends } in channel)
          (ap (λ (ps : List Piece). cut ps (bytes ++ more) (fds ++ mores)) pieces_more_left
          ∙ cut-push (pieces_left drawn pieces) bytes more fds mores kept.laid.bytes_are kept.laid.fds_are)
          ∙ ap (pushed more mores) is

      kept_push : 0 < length more → length bytes + length more ≤ most_bytes → length fds + length mores ≤ most_carried → is_open reader ≡ true
          → left + length pieces < 2 ^ 63 → IsKept left drawn pieces_more (bytes ++ more) bytes_room (fds ++ mores) fds_room reader
      kept_push some fits carried_fits there few = record {
        laid = record {
          first = in_first_push drawn pieces (piece_of more mores) kept.laid.first some;
          each = All-push IsPiece pieces (piece_of more mores) kept.laid.each (record { some = some; most = omega arith });
          bytes_are = bytes_more;
          fds_are = fds_more;
        };
        rooms = kept.rooms;
        most = (omega (arith, length-append bytes more), omega (arith, length-append fds mores));
        unread = λ closed. absurd (true≢false (sym there ∙ closed));
        count = omega (arith, length_push pieces (piece_of more mores));
      }

    -- what a write leaves, of whose bytes the ring took `count`
    module _ (given : List ℕ) (carried : List Descriptor) (count fds_count : ℕ) (reserved pieces_new : List Piece)
        (bytes_new : Buffer ℕ) (fds_new : Buffer Descriptor) (took : count ≡ min (length given) (bytes_room - length bytes)) (bytes_is : bytes_new ≡ buffer (bytes ++ take count given) bytes_room)
        (took_fds : fds_count ≡ min (length carried) (fds_room - length fds)) (fds_is : fds_new ≡ buffer (fds ++ take fds_count carried) fds_room)
        (reserved_is : reserved ≡ pieces) (pieces_is : pieces_new ≡ reserved ++ (record { bytes = count; fds = length carried }) ∷ [])
        (some : 0 < length given) (lives : is_hung old ≡ false) (fits : has_room (length carried) old ≡ true) where
      takes : IsTaken carried old
      takes = may_take carried old lives fits

      abbrev more : List ℕ
      more = take (room old) given

      count_most : count ≡ min (room old) (length given)
      count_most = omega (arith, took, bytes_count, kept.rooms.0)

      more_is : take count given ≡ more
      more_is = ap (λ (k : ℕ). take k given) count_most ∙ take_min (room old) given

      count_is : count ≡ length more
      count_is = count_most ∙ sym (length-take (room old) given)

      carried_is : take fds_count carried ≡ carried
      carried_is = take_all fds_count carried (omega (arith, took_fds, takes.fit, carried_count, kept.rooms.1))

      bytes_new_is : bytes_new ≡ buffer (bytes ++ more) bytes_room
      bytes_new_is = bytes_is ∙ ap (λ (b : List ℕ). buffer (bytes ++ b) bytes_room) more_is

      fds_new_is : fds_new ≡ buffer (fds ++ carried) fds_room
      fds_new_is = fds_is ∙ ap (λ (f : List Descriptor). buffer (fds ++ f) fds_room) carried_is

      pieces_new_is : pieces_new ≡ pieces ++ piece_of more carried ∷ []
      pieces_new_is =
          pieces_is
          ∙ ap (λ (ps : List Piece). ps ++ (record { bytes = count; fds = length carried }) ∷ []) reserved_is
          ∙ ap (λ (n : ℕ). pieces ++ (record { bytes = n; fds = length carried }) ∷ []) count_is

      pub kept_pushed : left + length pieces < 2 ^ 63
          → IsKept left drawn pieces_new bytes_new.items bytes_new.capacity fds_new.items fds_new.capacity reader
      kept_pushed few =
          let there : is_open reader ≡ true = ap (λ (c : Channel). is_open c.reader) is ∙ takes.reader_there in
          let byte : 0 < length more = omega (arith, length-take (room old) given, some, takes.room_left) in
          let bytes_fit : length bytes + length more ≤ most_bytes = omega (arith, length-take (room old) given, bytes_count, takes.room_left) in
          let carried_fit : length fds + length carried ≤ most_carried = omega (arith, takes.fit, carried_count) in
          rw (pieces_new_is, bytes_new_is, fds_new_is) (kept_push more carried byte bytes_fit carried_fit there few)

      pub is_pushed : push given carried old ≡ sends count (seen kind left drawn pieces_new bytes_new.items fds_new.items reader writer)
      is_pushed =
          let all : min (length given) (room old) ≡ count = omega (arith, count_most) in
          let new_is : seen kind left drawn pieces_new bytes_new.items fds_new.items reader writer ≡ pushed more carried old =
          ap (λ (ps : List Piece). seen kind left drawn ps bytes_new.items fds_new.items reader writer) pieces_new_is
          ∙ ap (λ (b : Buffer ℕ). seen kind left drawn (pieces_more more carried) b.items fds_new.items reader writer) bytes_new_is
          ∙ ap (λ (f : Buffer Descriptor). seen kind left drawn (pieces_more more carried) (bytes ++ more) f.items reader writer) fds_new_is
          ∙ seen_push more carried in
          pushes given carried old lives fits ∙ (λ i. sends (all i) (sym new_is i))

    -- ---- a read of n bytes, with which m descriptors come

    module _ (asked n m : ℕ) (n_is : n ≡ min asked (reach old.waiting)) (m_is : m ≡ length (coming n old.waiting)) where
      pub n_fits : n ≤ length bytes
      n_fits = omega (arith, n_is, reach_most)

      come_is : m ≡ come_pieces n (pieces_left drawn pieces)
      come_is =
          m_is
          ∙ ap (λ (c : Channel). length (coming n c.waiting)) (sym is)
          ∙ come-cut n (pieces_left drawn pieces) bytes fds kept.laid.fds_are

      read : IsRead pieces drawn n m bytes fds (drawn_in (drawn + n) pieces) (pieces_from (drawn + n) pieces)
      read =
          subst (λ (k : ℕ). IsRead pieces drawn n k bytes fds (drawn_in (drawn + n) pieces) (pieces_from (drawn + n) pieces)) (sym come_is)
          (read_laid pieces drawn n bytes fds kept.laid.first kept.laid.each kept.laid.bytes_are kept.laid.fds_are (omega (arith, n_is, reach_was)))

      pub fewer : length (pieces_from (drawn + n) pieces) ≤ length pieces
      fewer = read.fewer

      module _ (before behind drawn_new : ℕ) (pieces_new : List Piece) (bytes_new : Buffer ℕ) (fds_new : Buffer Descriptor)
          (before_is : before ≡ length pieces) (behind_is : behind ≡ length pieces_new)
          (drawn_is : drawn_new ≡ drawn_in (drawn + n) pieces) (pieces_is : pieces_new ≡ pieces_from (drawn + n) pieces)
          (bytes_is : bytes_new ≡ buffer (drop n bytes) bytes_room) (fds_is : fds_new ≡ buffer (drop m fds) fds_room) where
        pub kept_pulled : IsKept (left + (before - behind)) drawn_new pieces_new bytes_new.items bytes_new.capacity fds_new.items fds_new.capacity reader
        kept_pulled =
            let size : length pieces_new ≡ length (pieces_from (drawn + n) pieces) = ap (λ (ps : List Piece). length ps) pieces_is in
            let sum : left + (before - behind) + length (pieces_from (drawn + n) pieces) ≤ 2 ^ 63 = omega (arith, size, read.fewer, kept.count) in
            rw (drawn_is, pieces_is, bytes_is, fds_is) (record {
              laid = record { first = read.first; each = read.each; bytes_are = read.bytes_are; fds_are = read.fds_are };
              rooms = kept.rooms;
              most = (omega (arith, kept.most.0, length-drop n bytes), omega (arith, kept.most.1, length-drop m fds));
              unread = λ closed. ap (pieces_from (drawn + n)) (kept.unread closed);
              count = sum;
            })

        seen_pulled : seen kind (left + (before - behind)) drawn_new pieces_new bytes_new.items fds_new.items reader writer ≡ drawn_by n now
        seen_pulled =
            let waits : cut (pieces_left drawn_new pieces_new) bytes_new.items fds_new.items ≡ sends_after n now.waiting =
            rw (drawn_is, pieces_is, bytes_is, fds_is) read.waits in
            let size : length pieces_new ≡ length (sends_after n now.waiting) =
            sym (length-cut (pieces_left drawn_new pieces_new) bytes_new.items fds_new.items ∙ length-left drawn_new pieces_new)
            ∙ ap (λ (rest : List Send). length rest) waits in
            let gone : left + (before - behind) ≡ left + sends_gone n now.waiting =
            omega (arith, before_is, behind_is, size, all_sends, gone_after n now.waiting) in
            λ i. record { kind = kind; left = gone i; waiting = waits i; reader = reader; writer = writer }

        came : take m fds ≡ coming n old.waiting
        came =
            ap (λ (k : ℕ). take k fds) come_is
            ∙ sym (come_front n (pieces_left drawn pieces) bytes fds)
            ∙ ap (λ (c : Channel). coming n c.waiting) is

        pub is_pulled : (out out_new : List ℕ) (buffer_old buffer_new : List Descriptor) → asked ≡ length out
            → IsFilled (take n bytes) out out_new → IsFilled (take m fds) buffer_old buffer_new
            → IsPulled n m out out_new buffer_old buffer_new (pull (length out) old)
            (seen kind (left + (before - behind)) drawn_new pieces_new bytes_new.items fds_new.items reader writer)
        is_pulled out out_new buffer_old buffer_new asked_is filled filled_fds =
            let new : Channel = seen kind (left + (before - behind)) drawn_new pieces_new bytes_new.items fds_new.items reader writer in
            let all : n ≡ min (length out) (reach old.waiting) = n_is ∙ ap (λ (k : ℕ). min k (reach old.waiting)) asked_is in
            subst (λ (k : ℕ). IsPulled n m out out_new buffer_old buffer_new (taken k old) new) all
            (record {
              count = sym (length-take-le n (bytes_of old.waiting) (omega (arith, n_fits, bytes_count)));
              bytes = subst (λ (b : List ℕ). IsFilled (take n b) out out_new) bytes_were filled;
              count_carried = m_is;
              carried = subst (λ (f : List Descriptor). IsFilled f buffer_old buffer_new) came filled_fds;
              new_is = seen_pulled ∙ ap (drawn_by n) is;
            })

    -- ---- the end of the reader

    pub seen_shut : (to : SideState) (gone : ℕ) (pieces_new : List Piece) (bytes_new : List ℕ) (fds_new : List Descriptor)
        → gone ≡ length pieces → pieces_new ≡ [] → seen kind (left + gone) 0 pieces_new bytes_new fds_new to writer ≡ emptied to old
    seen_shut to gone pieces_new bytes_new fds_new gone_is pieces_is =
        let waits : cut (pieces_left 0 pieces_new) bytes_new fds_new ≡ [] = ap (λ (ps : List Piece). cut (pieces_left 0 ps) bytes_new fds_new) pieces_is in
        let all : left + gone ≡ left + length now.waiting = ap (λ (k : ℕ). left + k) (gone_is ∙ sym all_sends) in
        (λ i. record { kind = kind; left = all i; waiting = waits i; reader = to; writer = writer }) ∙ ap (emptied to) is

    pub all_released : (count : ℕ) (out out_new : List Descriptor) → count ≡ length fds → IsFilled (take count fds) out out_new
        → IsFilled (carried_of old.waiting) out out_new
    all_released count out out_new count_is filled =
        subst (λ (f : List Descriptor). IsFilled f out out_new) (take_all count fds (omega (arith, count_is)) ∙ carried_were) filled
