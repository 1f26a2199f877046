-- A map or a sequence of a depth, by its parts.
use Rattle.std.proofs.Common.{◌≡◌, ℕ, suc, ◌-◌, ◌≤◌, List, Bool, true, false, Result, Ok, ap, sym, ◌∙◌, arith}
use Rattle.std.specs.Prelude.{if◌then◌else◌}
use Rattle.launch_values.specs.Shape.{Shape, Content, sequence, mapping, of_list, of_pairs}
use Rattle.launch_lines.specs.declared.fault.Fault.{Fault}
use Rattle.lists.specs.Results.{◌>>=◌}
use Rattle.launch_lines.specs.Rows.{Row, is_dash}
use Rattle.launch_yaml.specs.Blocks.{items_at, pairs_at, block_at}

pub sequence_is : (depth inside : ℕ) (is_root : Bool) (r : Row) (rs : List Row) (read whole : List Shape) → (1 ≤ depth) × (inside ≡ depth - 1) → is_dash r.content ≡ true
    → items_at (block_at inside) inside is_root r rs ≡ Ok read → whole ≡ read → block_at depth is_root r rs ≡ Ok (sequence (of_list whole))
unfolding block_at
sequence_is depth inside is_root r rs read whole deep dash items same =
    let one : depth ≡ suc inside = omega (arith, deep.0, deep.1) in
    let result : List Shape → Result Content Fault = λ xs. Ok (sequence (of_list xs)) in
    ap (λ d. block_at d is_root r rs) one
    ∙ ap (λ (b : Bool). if b then (items_at (block_at inside) inside is_root r rs >>= result) else (pairs_at (block_at inside) inside is_root r rs >>= λ pairs. Ok (mapping (of_pairs pairs)))) dash
    ∙ ap (λ (xs : Result (List Shape) Fault). xs >>= result) items
    ∙ ap result (sym same)

pub mapping_is : (depth inside : ℕ) (is_root : Bool) (r : Row) (rs : List Row) (read whole : List (Shape × Shape)) → (1 ≤ depth) × (inside ≡ depth - 1) → is_dash r.content ≡ false
    → pairs_at (block_at inside) inside is_root r rs ≡ Ok read → whole ≡ read → block_at depth is_root r rs ≡ Ok (mapping (of_pairs whole))
unfolding block_at
mapping_is depth inside is_root r rs read whole deep dash pairs same =
    let one : depth ≡ suc inside = omega (arith, deep.0, deep.1) in
    let result : List (Shape × Shape) → Result Content Fault = λ ps. Ok (mapping (of_pairs ps)) in
    ap (λ d. block_at d is_root r rs) one
    ∙ ap (λ (b : Bool). if b then (items_at (block_at inside) inside is_root r rs >>= λ items. Ok (sequence (of_list items))) else (pairs_at (block_at inside) inside is_root r rs >>= result)) dash
    ∙ ap (λ (ps : Result (List (Shape × Shape)) Fault). ps >>= result) pairs
    ∙ ap result (sym same)
