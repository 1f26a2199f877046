-- The steps of the two loops, and what a block of a depth is.
use Rattle.std.proofs.Common.{ℕ, List, ◌++◌, map, drop, Result, Ok, ap, sym, subst, ◌∙◌}
use Rattle.std.proofs.lemmas.Result.{err_from_is_err_and}
use Rattle.launch_values.specs.Shape.{Shape, Content, content_of}
use Rattle.launch_values.specs.Views.{shape_of, content_of_value, pair_of as pair_view}
use Rattle.launch_lines.specs.declared.fault.Fault.{Fault}
use Rattle.launch_lines.specs.declared.line.Line.{Line}
use Rattle.launch_yaml.specs.Entries.{Entry, sequence_entries, map_entries}
use Rattle.launch_scalars.specs.Spaces.{after_gap}
use Rattle.launch_lines.specs.Rows.{is_dash, behind_key, awaits_value, from}
use Rattle.launch_lines.specs.Views.{row, rows, AllWithin}
use Rattle.launch_yaml.specs.Blocks.{item_of, items_of, pair_of, pairs_of, block_at}
use Rattle.launch_lines.proofs.Ends.{dash_end}
use Rattle.launch_yaml.proofs.Depths.{sequence_is, mapping_is}
use Rattle.lists.proofs.Steps.{stopped, map_push}
use Rattle.launch_yaml.proofs.Loops.{behind_first, item_is, fewer_lines, OneMore, with_front, items_go_on, items_fail, items_done, pairs_go_on, pairs_fail, pairs_done, pair_goes_by_keys, pair_is, key_fails, value_fails}
use Rattle.launch_yaml.proofs.blocks.+blocks.Goals as goal

pub block-returns-in_ok-items : goal.block-returns-in_ok-items
block-returns-in_ok-items t c =
    sequence_is _ c.in-Some.inside c.args.is_root _ _ _ _ c.in-Some.ensures
    (ap is_dash (sym c.content.ensures) ∙ sym c.is_dash.ensures ∙ c.if-is_dash.true) c.in_ok-items.ensures c.from_vec.ensures

pub block-returns-in_ok-pairs : goal.block-returns-in_ok-pairs
block-returns-in_ok-pairs t c =
    mapping_is _ c.in-Some.inside c.args.is_root _ _ _ _ c.in-Some.ensures
    (ap is_dash (sym c.content.ensures) ∙ sym c.is_dash.ensures ∙ c.if-is_dash.false) c.in_ok-pairs.ensures c.from_vec-else-is_dash.ensures

pub item-from-behind-requires-clause-rest : goal.item-from-behind-requires-clause-rest
item-from-behind-requires-clause-rest t c =
    let e = dash_end c.content.result.now c.in-len1-up.len_at_least in
    (e.0, sym c.content.ensures ∙ e.1 ∙ ap (λ (l : List ℕ). e.0 ++ l) (sym c.after_gap-rest.ensures.value))

pub item-returns-in-len1-up : goal.item-returns-in-len1-up
item-returns-in-len1-up t c =
    let text = c.args.text.now in
    let e : Entry = record { first = row text c.args.line; others = rows text c.args.others.now } in
    item_is c.args.depth c.args.column c.args.is_root e (row text c.from-behind.result) c.content-in-len1-up.result.now c.value.result c.if-line-column.true
    (ap is_dash (sym c.content.ensures) ∙ sym c.is_dash.ensures ∙ c.if-is_dash.true)
    (c.from-behind.ensures.row ∙ ap (from e.first) (c.after_gap-rest.ensures.value ∙ ap after_gap (behind_first c.content.result.now c.in-len1-up.len_at_least) ∙ ap (λ (bytes : List ℕ). after_gap (drop 1 bytes)) c.content.ensures))
    c.content-in-len1-up.ensures c.value.ensures

pub items-returns-in_err-item : goal.items-returns-in_err-item
items-returns-in_err-item t c =
    let p = err_from_is_err_and c.from_residual.result c.from_residual.ensures.1 in
    rw (p.1, p.2)
    (stopped c.in_err-item.field-0.0 _ _
    (λ f read. items_fail (item_of (block_at c.args.depth) c.args.depth c.args.line.column c.args.is_root) c.args.text.now c.args.line.column c.loop-next.next c.in-Some.first c.loop-next.rest.now c.split.result.0.now c.split.result.1.now _ f _
    c.in-Some.is c.split.ensures.mine c.split.ensures.after read c.loop-next.invariant.all)
    c.in_err-item.ensures)

pub items-loop-next-preserved : goal.items-loop-next-preserved
items-loop-next-preserved t c =
    let text = c.args.text.now in
    let column = c.args.line.column in
    let item = item_of (block_at c.args.depth) c.args.depth column c.args.is_root in
    record {
      all =
          ap (λ (ls : List Line). with_front (map shape_of c.push.new.self.items) (items_of item (sequence_entries column (rows text ls)))) c.split_first.ensures
          ∙ ap (λ (front : List Shape). with_front front (items_of item (sequence_entries column (rows text c.split.result.1.now)))) (map_push shape_of _ _ _ c.in_ok-push.ensures.items)
          ∙ items_go_on item text column c.loop-next.next c.in-Some.first c.loop-next.rest.now c.split.result.0.now c.split.result.1.now _ (shape_of c.in_ok-item.field-0) _
          c.in-Some.is c.split.ensures.mine c.split.ensures.after c.in_ok-item.ensures c.loop-next.invariant.all;
      within = subst (AllWithin text) (sym c.split_first.ensures) c.split.ensures.after_within;
      fewer = fewer_lines _ _ _ _ _ _ _ c.in-Some.is c.split_first.ensures c.split.ensures.shorter c.loop-next.invariant.fewer;
    }

pub items-returns : goal.items-returns
items-returns t c =
    items_done (item_of (block_at c.args.depth) c.args.depth c.args.line.column c.args.is_root) c.args.text.now c.args.line.column c.loop-next.next c.loop-next.rest.now _ _ c.in_default.is c.loop-next.invariant.all

pub pairs-returns-in_err-key : goal.pairs-returns-in_err-key
pairs-returns-in_err-key t c =
    let block = block_at c.args.depth in
    let column = c.args.line.column in
    let e : Entry = record { first = row c.args.text.now c.in-Some.first; others = rows c.args.text.now c.split.result.0.now } in
    let waits = c.awaits_value-awaits.ensures ∙ ap (λ (bytes : List ℕ). awaits_value (behind_key bytes)) c.content.ensures in
    let p = err_from_is_err_and c.from_residual.result c.from_residual.ensures.1 in
    rw (p.1, p.2)
    (stopped c.in_err-key.field-0.0 _ _
    (λ f read. pairs_fail (pair_of block c.args.depth column c.args.is_root) c.args.text.now column c.awaits_value-awaits.result c.loop-next.next c.in-Some.first c.loop-next.rest.now c.split.result.0.now c.split.result.1.now c.loop-next.keys _ f _
    c.in-Some.is waits c.split.ensures.mine c.split.ensures.after (key_fails block c.args.depth column c.args.is_root c.loop-next.keys e f read) c.loop-next.invariant.all)
    c.in_err-key.ensures.reads)

pub pairs-returns-in_err-value : goal.pairs-returns-in_err-value
pairs-returns-in_err-value t c =
    let block = block_at c.args.depth in
    let column = c.args.line.column in
    let e : Entry = record { first = row c.args.text.now c.in-Some.first; others = rows c.args.text.now c.split.result.0.now } in
    let waits = c.awaits_value-awaits.ensures ∙ ap (λ (bytes : List ℕ). awaits_value (behind_key bytes)) c.content.ensures in
    let p = err_from_is_err_and c.from_residual-in_err-value.result c.from_residual-in_err-value.ensures.1 in
    rw (p.1, p.2)
    (stopped c.in_err-value.field-0.0 _ _
    (λ f read. pairs_fail (pair_of block c.args.depth column c.args.is_root) c.args.text.now column c.awaits_value-awaits.result c.loop-next.next c.in-Some.first c.loop-next.rest.now c.split.result.0.now c.split.result.1.now c.loop-next.keys _ f _
    c.in-Some.is waits c.split.ensures.mine c.split.ensures.after (value_fails block c.args.depth column c.args.is_root c.loop-next.keys e (content_of_value c.in_ok-key.key) f c.in_ok-key.ensures.reads read) c.loop-next.invariant.all)
    c.in_err-value.ensures)

pub pairs-loop-next-preserved : goal.pairs-loop-next-preserved
pairs-loop-next-preserved t c =
    let text = c.args.text.now in
    let column = c.args.line.column in
    let block = block_at c.args.depth in
    let pair = pair_of block c.args.depth column c.args.is_root in
    let keys = c.key_at.new.keys in
    let key = content_of_value c.in_ok-key.key in
    let value = shape_of c.in_ok-value.value in
    let found : Shape → Result (Shape × Shape) Fault = λ k. Ok (k, value) in
    let e : Entry = record { first = row c.args.text.now c.in-Some.first; others = rows c.args.text.now c.split.result.0.now } in
    let waits = c.awaits_value-awaits.ensures ∙ ap (λ (bytes : List ℕ). awaits_value (behind_key bytes)) c.content.ensures in
    record {
      all =
          ap (λ (ls : List Line). with_front (map pair_view c.push.new.self.items) (pairs_of pair keys (map_entries column (rows text ls)))) c.split_first.ensures
          ∙ ap (λ (front : List (Shape × Shape)). with_front front (pairs_of pair keys (map_entries column (rows text c.split.result.1.now)))) (map_push pair_view _ _ _ c.in_ok-push.ensures.items)
          ∙ pairs_go_on pair (pair_goes_by_keys block c.args.depth column c.args.is_root) text column c.awaits_value-awaits.result c.loop-next.next c.in-Some.first c.loop-next.rest.now c.split.result.0.now c.split.result.1.now
          c.loop-next.keys keys _ (shape_of c.untagged.result, value) _
          c.in-Some.is waits c.split.ensures.mine c.split.ensures.after
          (subst (λ (k : Content). OneMore keys k c.loop-next.keys) (sym (ap content_of c.untagged.ensures)) c.in_ok-key.ensures.keys)
          (pair_is block c.args.depth column c.args.is_root c.loop-next.keys e key value c.in_ok-key.ensures.reads c.in_ok-value.ensures ∙ ap found (sym c.untagged.ensures))
          c.loop-next.invariant.all;
      within = subst (AllWithin text) (sym c.split_first.ensures) c.split.ensures.after_within;
      fewer = fewer_lines _ _ _ _ _ _ _ c.in-Some.is c.split_first.ensures c.split.ensures.shorter c.loop-next.invariant.fewer;
    }

pub pairs-returns : goal.pairs-returns
pairs-returns t c =
    pairs_done (pair_of (block_at c.args.depth) c.args.depth c.args.line.column c.args.is_root) c.args.text.now c.args.line.column c.loop-next.next c.loop-next.rest.now c.loop-next.keys _ _ c.in_default.is c.loop-next.invariant.all
