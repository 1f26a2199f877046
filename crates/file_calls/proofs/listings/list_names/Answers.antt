use Rattle.std.proofs.Common.{◌≡◌, ◌+◌, ◌<◌, ◌≤◌, ℕ, List, [], length, drop, take, Option, Some, None, ap, sym, ◌∙◌, arith, length-drop}
use Rattle.std.proofs.lemmas.List.{drop_all}
use Rattle.std.proofs.Math.Seq.{take-nil}
use Rattle.std.specs.FinMap.{entries, get, len, len-entries}
use Rattle.std.specs.Option.{option_map}
use Rattle.tree_model.specs.Tree.{Names, Tree, names_in}
use Rattle.kernel_model.specs.Families.FileLooks.{entries_bytes, list_names, room_of}
use Rattle.kernel_model.specs.Outcome.{replies}
use Rattle.kernel_model.specs.Reply.{content}
use Rattle.file_calls.proofs.listings.list_names.Goals as goal

-- the entries from a position before the last are as many as are left
left_from : (position count : ℕ) (o : Option Names) (es : List (List ℕ × ℕ)) → Some es ≡ option_map (λ (names : Names). drop position (entries names)) o
    → count ≡ len (names_in o) → position < count → position + length es ≡ count
left_from position count None es is counts low = cc
left_from position count (Some names) es is counts low =
    let same : es ≡ drop position (entries names) = cc in
    let all : count ≡ length (entries names) = counts ∙ len-entries names in
    ap (λ (left : List (List ℕ × ℕ)). position + length left) same ∙ omega (arith, length-drop position (entries names))

-- and from a position behind the last there is none
none_from : (t : Tree) (most position count : ℕ) (o : Option Names) (es : List (List ℕ × ℕ))
    → Some es ≡ option_map (λ (names : Names). drop position (entries names)) o → count ≡ len (names_in o) → count ≤ position
    → replies (content []) ≡ list_names t most position o
none_from t most position count None es is counts high = cc
none_from t most position count (Some names) es is counts high =
    let all : count ≡ length (entries names) = counts ∙ len-entries names in
    ap (λ bytes. replies (content bytes)) (sym (take-nil (room_of most)))
    ∙ ap (λ left. replies (content (take (room_of most) (entries_bytes t position left)))) (sym (drop_all position (entries names) (omega arith)))

pub some_bytes-requires : goal.some_bytes-requires
some_bytes-requires c =
    let same : c.args.position + length c.in-Some.entries ≡ c.names_len.result =
    left_from c.args.position c.names_len.result (get c.args.tree.now.names c.args.dir) c.in-Some.entries c.in-Some.ensures c.names_len.ensures.names
    c.if-position-names_len.false in
    let small : c.names_len.result < 9223372036854775808 = c.names_len.ensures.small in
    omega arith

pub returns-then-position-names_len : goal.returns-then-position-names_len
returns-then-position-names_len c =
    ap replies (c.content.ensures ∙ ap content c.new.ensures)
    ∙ none_from c.args.tree.now c.args.most c.args.position c.names_len.result (get c.args.tree.now.names c.args.dir) c.in-Some.entries c.in-Some.ensures
    c.names_len.ensures.names c.if-position-names_len.true
