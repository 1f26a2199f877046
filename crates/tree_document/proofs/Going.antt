-- Going through the directories of a tree.
use Rattle.std.proofs.Common.{◌≡◌, ℕ, ◌+◌, ◌<◌, ◌≤◌, List, [], ◌∷◌, ◌++◌, length, sym, ap, ◌∙◌, append_assoc, length-append, arith}
use Rattle.tree_model.specs.declared.limits.TheConstants.{ROOT}
use Rattle.tree_model.specs.Tree.{IsTree, Tree}
use Rattle.tree_document.specs.declared.printing.Frame.{Frame}
use Rattle.tree_document.specs.Left.{Entries, Firsts, IsGoing, IsPrinted, reach, rows_left, rows_of, steps_left}
use Rattle.tree_document.specs.Printing.{Row, below_path, listed, listing, printed, rows_text}
use Rattle.std.proofs.lemmas.List.{append-nil}
use Rattle.tree_document.proofs.Nodes.{HasNode, row_there}
use Rattle.tree_document.proofs.Rows.{listing_rows, reach_rows, rows_left_push}

-- nothing is printed, and all is left
pub going_start : (t : Tree) (bytes : List ℕ) (number : ℕ) (known : Firsts) (path : List ℕ) (none frames : List Frame) → IsTree t → IsPrinted t bytes number known []
    → path ≡ [] → none ≡ [] → rows_left t frames ≡ listed (reach t ROOT) t path ROOT ++ rows_left t none → IsGoing t bytes number known frames
going_start t bytes number known path none frames tree done here first rows = record {
  rows = [];
  printed = done;
  left = listing_rows t tree ∙ sym (reach_rows t tree [] ROOT) ∙ ap (λ (p : List ℕ). listed (reach t ROOT) t p ROOT) (sym here)
      ∙ sym (append-nil (listed (reach t ROOT) t path ROOT)) ∙ ap (λ (fs : List Frame). listed (reach t ROOT) t path ROOT ++ rows_left t fs) (sym first) ∙ sym rows;
}

-- all is printed
module _ (t : Tree) (bytes : List ℕ) (number : ℕ) (known : Firsts) (frames : List Frame) (h : IsGoing t bytes number known frames) (none : frames ≡ []) where
  all_met : listing t ≡ h.rows
  all_met = h.left ∙ ap (λ (fs : List Frame). h.rows ++ rows_left t fs) none ∙ append-nil h.rows

  pub going_end : bytes ≡ printed t
  going_end = h.printed.text ∙ ap (rows_text t []) (sym all_met)

  pub counted_end : number ≡ length (listing t)
  counted_end = h.printed.counted ∙ ap length (sym all_met)

module _ (t : Tree) (frames : List Frame) (frame : Frame) where
  -- no names are left in the last directory
  pub none_left : frame.names ≡ [] → rows_left t (frames ++ frame ∷ []) ≡ rows_left t frames
  none_left none = rows_left_push t frames frame ∙ ap (λ (es : Entries). rows_of t frame.path.items es ++ rows_left t frames) none

  pub none_fewer : frame.names ≡ [] → steps_left t frames < steps_left t (frames ++ frame ∷ [])
  none_fewer none =
      let same = ap length (none_left none) in
      let size = length-append frames (frame ∷ []) in
      omega arith

  pub none_going : (bytes : List ℕ) (number : ℕ) (known : Firsts) → frame.names ≡ [] → IsGoing t bytes number known (frames ++ frame ∷ [])
      → IsGoing t bytes number known frames
  none_going bytes number known none h = record {
    rows = h.rows;
    printed = h.printed;
    left = h.left ∙ ap (λ (rows : List Row). h.rows ++ rows) (none_left none);
  }

  -- the next name of the last directory, and then those below it
  module _ (name : List ℕ) (n : ℕ) (rest : Entries) (next : frame.names ≡ (name, n) ∷ rest) (below : List ℕ) (at : below ≡ below_path frame.path.items name)
      (last : List Frame) (then : rows_left t last ≡ listed (reach t n) t below n ++ rows_left t (frames ++ record frame { names = rest } ∷ [])) where
    next_left : rows_left t (frames ++ frame ∷ []) ≡ (below, n) ∷ rows_left t last
    next_left =
        rows_left_push t frames frame
        ∙ ap (λ (es : Entries). rows_of t frame.path.items es ++ rows_left t frames) next
        ∙ ap (λ (path : List ℕ). (path, n) ∷ ((listed (reach t n) t path n ++ rows_of t frame.path.items rest) ++ rows_left t frames)) (sym at)
        ∙ ap (λ (rows : List Row). (below, n) ∷ rows)
        (append_assoc (listed (reach t n) t below n) (rows_of t frame.path.items rest) (rows_left t frames)
        ∙ ap (λ (rows : List Row). listed (reach t n) t below n ++ rows) (sym (rows_left_push t frames (record frame { names = rest })))
        ∙ sym then)

    pub next_fewer : length last ≤ length (frames ++ record frame { names = rest } ∷ []) + 1 → steps_left t last < steps_left t (frames ++ frame ∷ [])
    next_fewer few =
        let one = ap length next_left in
        let size = length-append frames (frame ∷ []) in
        let same = length-append frames (record frame { names = rest } ∷ []) in
        omega arith

    pub next_going : (bytes new : List ℕ) (number plus : ℕ) (known more : Firsts) → IsTree t
        → ((rows : List Row) → HasNode t (below, n) → IsPrinted t bytes number known rows → IsPrinted t new plus more (rows ++ (below, n) ∷ []))
        → IsGoing t bytes number known (frames ++ frame ∷ []) → IsGoing t new plus more last
    next_going bytes new number plus known more tree prints h =
        let left_now = h.left ∙ ap (λ (rows : List Row). h.rows ++ rows) next_left in
        record {
          rows = h.rows ++ (below, n) ∷ [];
          printed = prints h.rows (row_there t tree h.rows (below, n) (rows_left t last) left_now) h.printed;
          left = left_now ∙ sym (append_assoc h.rows ((below, n) ∷ []) (rows_left t last));
        }
