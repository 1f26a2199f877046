-- One line more.
use Rattle.std.proofs.Common.{◌≡◌, ℕ, ◌+◌, ◌<◌, ◌≤◌, cond, List, [], ◌∷◌, ◌++◌, length, drop, take, get_or, map, unwrap_or, Option, Some, None, refl, sym, ap, subst, ◌∙◌, append_assoc, add-one, drop-cons}
use Rattle.std.proofs.lemmas.List.{drop_all, append-nil, take-map}
use Rattle.std.specs.Borrow.{Bor}
use Rattle.std.specs.Option.{is_none}
use Rattle.rv_asm.specs.declared.piece.Piece.{Piece}
use Rattle.rv_asm.specs.Items.{Item, AreBytesOf}
use Rattle.rv_asm.specs.Lines.{line_item, label_of, labels_of, labels_up_to, unplaced, size_of, with_label, fault_from, AreBytesFrom}
use Rattle.rv_asm.specs.Pieces.{piece_bytes, PieceIs}

-- what a line stands for, where it has a piece
item_is : (piece : Piece) (o : Option Item) → PieceIs (Some piece) o → (item : Item) × (o ≡ Some item) × AreBytesOf item (piece_bytes piece)
item_is piece None h = absurd h
item_is piece (Some item) h = (item, refl, h)

module _ (labels before after : List (List ℕ × Option ℕ)) (here next : ℕ) (line : List ℕ) (lines : List (List ℕ)) (piece : Piece)
    (is : PieceIs (Some piece) (line_item labels before here line)) (size : length (piece_bytes piece) ≡ size_of line)
    (names : after ≡ with_label before here (label_of line)) (place : next ≡ here + size_of line) where
  -- bytes of a line, and then of the lines behind it
  bytes_step : (tail : List ℕ) → AreBytesFrom labels after next lines tail → AreBytesFrom labels before here (line ∷ lines) (piece_bytes piece ++ tail)
  bytes_step tail h =
      let item = item_is piece (line_item labels before here line) is in (
        item.0,
        piece_bytes piece,
        tail,
        item.1,
        item.2,
        size,
        refl,
        subst (λ n. AreBytesFrom labels (with_label before here (label_of line)) n lines tail) place (subst (λ b. AreBytesFrom labels b next lines tail) names h),
      )

  -- a line inside the grammar is not the first fault
  fault_step : (n : ℕ) → fault_from labels before here n (line ∷ lines) ≡ fault_from labels after next (n + 1) lines
  fault_step n =
      let item = item_is piece (line_item labels before here line) is in
      ap (λ o. cond (is_none o) (Some n) (fault_from labels (with_label before here (label_of line)) (here + size_of line) (n + 1) lines)) item.1
      ∙ ap (λ b. fault_from labels b (here + size_of line) (n + 1) lines) (sym names)
      ∙ ap (λ m. fault_from labels after m (n + 1) lines) (sym place)

-- before the line of an index: the first fault is in the lines from there on
abbrev pub IsLeft : List (List ℕ × Option ℕ) → List (List ℕ × Option ℕ) → ℕ → List (Bor (List ℕ)) → ℕ → Type 0
IsLeft labels before here lines i =
    fault_from labels before here i (map (λ line. line.now) (drop i lines)) ≡ fault_from labels [] 0 0 (map (λ line. line.now) lines)

-- the lines from one on
one_more : (lines : List (Bor (List ℕ))) (i : ℕ) (d : Bor (List ℕ)) → i < length lines → map (λ line. line.now) (drop i lines) ≡ (get_or lines i d).now ∷ map (λ line. line.now) (drop (i + 1) lines)
one_more lines i d h = ap (map (λ line. line.now)) (drop-cons lines i d h) ∙ ap (λ n. (get_or lines i d).now ∷ map (λ line. line.now) (drop n lines)) (sym (add-one i))

-- Before the line of an index: bytes of the lines from there on complete the bytes so far, and the first fault is in the
-- lines from there on.
pub record Reached (labels before : List (List ℕ × Option ℕ)) (here : ℕ) (lines : List (Bor (List ℕ))) (i : ℕ) (out : List ℕ) : Type 0 where
  pub bytes : (tail : List ℕ) → AreBytesFrom labels before here (map (λ line. line.now) (drop i lines)) tail → AreBytesFrom labels [] 0 (map (λ line. line.now) lines) (out ++ tail)
  pub fault : fault_from labels before here (i + 1) (map (λ line. line.now) (drop i lines)) ≡ fault_from labels [] 0 1 (map (λ line. line.now) lines)

-- the next line, whose text is read twice
pub reached_more : {labels before after : List (List ℕ × Option ℕ)} {here next : ℕ} {lines : List (Bor (List ℕ))} {i : ℕ} {out made text again : List ℕ} (piece : Piece) (shown : List (List ℕ × Option ℕ)) (d : Bor (List ℕ))
    → Reached labels before here lines i out → i < length lines → text ≡ (get_or lines i d).now → again ≡ (get_or lines i d).now → shown ≡ before
    → PieceIs (Some piece) (line_item labels shown here text) → length (piece_bytes piece) ≡ size_of text → after ≡ with_label before here (label_of again) → next ≡ here + size_of again → made ≡ out ++ piece_bytes piece
    → Reached labels after next lines (i + 1) made
reached_more {labels} {before} {after} {here} {next} {lines} {i} {out} {made} {text} {again} piece shown d reached inside text_is again_is shown_is is size names place made_is =
    let line = (get_or lines i d).now in
    let rest = map (λ line. line.now) (drop (i + 1) lines) in
    let lines_are : map (λ line. line.now) (drop i lines) ≡ line ∷ rest = one_more lines i d inside in
    let is' : PieceIs (Some piece) (line_item labels before here line) =
    subst (λ b. PieceIs (Some piece) (line_item labels b here line)) shown_is (subst (λ t. PieceIs (Some piece) (line_item labels shown here t)) text_is is) in
    let size' : length (piece_bytes piece) ≡ size_of line = size ∙ ap (λ t. size_of t) text_is in
    let names' : after ≡ with_label before here (label_of line) = names ∙ ap (λ t. with_label before here (label_of t)) again_is in
    let place' : next ≡ here + size_of line = place ∙ ap (λ t. here + size_of t) again_is in
    record {
      bytes = λ tail h.
          let first : AreBytesFrom labels before here (map (λ line. line.now) (drop i lines)) (piece_bytes piece ++ tail) =
          subst (λ ls. AreBytesFrom labels before here ls (piece_bytes piece ++ tail)) (sym lines_are) (bytes_step labels before after here next line rest piece is' size' names' place' tail h) in
          subst (AreBytesFrom labels [] 0 (map (λ line. line.now) lines)) (sym (append_assoc out (piece_bytes piece) tail) ∙ ap (λ o. o ++ tail) (sym made_is)) (reached.bytes (piece_bytes piece ++ tail) first);
      fault =
          sym (fault_step labels before after here next line rest piece is' size' names' place' (i + 1))
          ∙ ap (fault_from labels before here (i + 1)) (sym lines_are) ∙ reached.fault;
    }

-- where no line is left, the bytes so far are the lines' bytes
pub reached_end : {labels before : List (List ℕ × Option ℕ)} {here : ℕ} {lines : List (Bor (List ℕ))} {i : ℕ} {out : List ℕ} → Reached labels before here lines i out → length lines ≤ i
    → AreBytesFrom labels [] 0 (map (λ line. line.now) lines) out
reached_end {labels} {before} {here} {lines} {i} {out} reached past =
    let none : map (λ line. line.now) (drop i lines) ≡ [] = ap (map (λ line. line.now)) (drop_all i lines past) in
    subst (AreBytesFrom labels [] 0 (map (λ line. line.now) lines)) (append-nil out) (reached.bytes [] (subst (λ ls. AreBytesFrom labels before here ls []) (sym none) refl))

-- bytes of lines, of which none is outside the grammar
no_fault : (labels before : List (List ℕ × Option ℕ)) (here n : ℕ) (lines : List (List ℕ)) (out : List ℕ) → AreBytesFrom labels before here lines out → fault_from labels before here n lines ≡ None
no_fault labels before here n [] out h = refl
no_fault labels before here n (line ∷ lines) out h =
    ap (λ o. cond (is_none o) (Some n) (fault_from labels (with_label before here (label_of line)) (here + size_of line) (n + 1) lines)) h.3
    ∙ no_fault labels (with_label before here (label_of line)) (here + size_of line) (n + 1) lines h.2 h.7

pub reached_taken : {labels before : List (List ℕ × Option ℕ)} {here : ℕ} {lines : List (Bor (List ℕ))} {i : ℕ} {out : List ℕ} → Reached labels before here lines i out → length lines ≤ i
    → fault_from labels [] 0 1 (map (λ line. line.now) lines) ≡ None
reached_taken {labels} {before} {here} {lines} {i} {out} reached past = no_fault labels [] 0 1 (map (λ line. line.now) lines) out (reached_end reached past)

-- the first fault of the lines before one, by the labels up to it
pub first_up_to : (lines : List (Bor (List ℕ))) (index : ℕ) (shown made known all : List (List ℕ × Option ℕ)) (first : Option ℕ)
    → shown ≡ made → made ≡ known ++ unplaced all → known ≡ labels_of (map (λ line. line.now) (take (index + 1) lines)) → all ≡ labels_of (map (λ line. line.now) lines)
    → first ≡ fault_from shown [] 0 0 (map (λ line. line.now) (take index lines))
    → unwrap_or first index ≡ unwrap_or (fault_from (labels_up_to (map (λ line. line.now) lines) index) [] 0 0 (take index (map (λ line. line.now) lines))) index
first_up_to lines index shown made known all first shown_is made_is known_is all_is first_is =
    let labels : shown ≡ labels_up_to (map (λ line. line.now) lines) index =
    shown_is ∙ made_is
    ∙ ap (λ ls. ls ++ unplaced all) known_is
    ∙ ap (λ ls. labels_of (map (λ line. line.now) (take (index + 1) lines)) ++ unplaced ls) all_is
    ∙ ap (λ ls. labels_of ls ++ unplaced (labels_of (map (λ line. line.now) lines))) (sym (take-map (λ line. line.now) (index + 1) lines)) in
    ap (λ o. unwrap_or o index) (first_is
    ∙ ap (λ ls. fault_from ls [] 0 0 (map (λ line. line.now) (take index lines))) labels
    ∙ ap (fault_from (labels_up_to (map (λ line. line.now) lines) index) [] 0 0) (sym (take-map (λ line. line.now) index lines)))
