-- The lines of an entry and those behind it, as rows.
use Rattle.std.proofs.Common.{◌≡◌, ℕ, List, take, drop, Bool, ap, sym, ◌∙◌}
use Rattle.std.specs.Prelude.{◌&&◌}
use Rattle.std.specs.List.{take_while, prefix_len}
use Rattle.std.proofs.lemmas.List.{take-map, drop-map}
use Rattle.launch_lines.specs.declared.line.Line.{Line}
use Rattle.launch_lines.specs.Views.{row, rows}
use Rattle.launch_yaml.specs.Entries.{begins_with_item_at, belongs_there, belongs, after_while}

pub mine_is : (text : List ℕ) (column : ℕ) (awaits items : Bool) (n : ℕ) (ls mine : List Line) → mine ≡ take n ls → n ≡ prefix_len (belongs_there column items) (rows text ls)
    → items ≡ (awaits && begins_with_item_at column (rows text ls))
    → rows text mine ≡ take_while (belongs column awaits (rows text ls)) (rows text ls)
mine_is text column awaits items n ls mine front count is =
    ap (rows text) front
    ∙ sym (take-map (row text) n ls)
    ∙ ap (λ k. take k (rows text ls)) count
    ∙ ap (λ (b : Bool). take (prefix_len (belongs_there column b) (rows text ls)) (rows text ls)) is

pub after_is : (text : List ℕ) (column : ℕ) (awaits items : Bool) (n : ℕ) (ls after : List Line) → after ≡ drop n ls → n ≡ prefix_len (belongs_there column items) (rows text ls)
    → items ≡ (awaits && begins_with_item_at column (rows text ls))
    → rows text after ≡ after_while (belongs column awaits (rows text ls)) (rows text ls)
after_is text column awaits items n ls after back count is =
    ap (rows text) back
    ∙ sym (drop-map (row text) n ls)
    ∙ ap (λ k. drop k (rows text ls)) count
    ∙ ap (λ (b : Bool). drop (prefix_len (belongs_there column b) (rows text ls)) (rows text ls)) is
