use Rattle.std.proofs.Common.{◌≡◌, ℕ, List, ◌∙◌, length, min, take, drop, ap, ◌+◌, ◌-◌, ◌/◌, ◌%◌, ◌*◌}
use Rattle.std.proofs.lemmas.Result.{on_ok_weaker}
use Rattle.std.specs.FinMap.{insert}
use Rattle.call_codec.specs.Image.{page_with}
use Rattle.call_codec.proofs.Images.{first_page_is, later_page_is}
use Rattle.call_codec.proofs.image.map_segment_page.Goals as goal

pub returns-then-index-eq0-clause-ok : goal.returns-then-index-eq0-clause-ok
returns-then-index-eq0-clause-ok c =
    let s = c.args.segment.now in
    let bytes = c.as_slice-bytes.ensures in
    let at : ℕ = s.at - s.at % 4096 + c.args.index * 4096 in
    on_ok_weaker c.map_page.result
    (λ (mapped : c.map_page.new.memory ≡ insert c.args.memory.now (at / 4096) (page_with (s.at % 4096) (take c.min-end.result c.as_slice-bytes.result.now) s.prot)). mapped
    ∙ ap (λ (xs : List ℕ). insert c.args.memory.now (at / 4096) (page_with (s.at % 4096) (take c.min-end.result xs) s.prot)) bytes
    ∙ first_page_is c.args.memory.now s c.args.index c.min-end.result c.if-index-eq0.true (c.min-end.ensures ∙ ap (λ (xs : List ℕ). min (length xs) (4096 - s.at % 4096)) bytes))
    c.map_page.ensures.ok

pub returns-else-index-eq0-clause-ok : goal.returns-else-index-eq0-clause-ok
returns-else-index-eq0-clause-ok c =
    let s = c.args.segment.now in
    let bytes = c.as_slice-bytes.ensures in
    let at : ℕ = s.at - s.at % 4096 + c.args.index * 4096 in
    let start = c.min-start.result in
    let end = c.min-end-else-index-eq0.result in
    on_ok_weaker c.map_page-else-index-eq0.result
    (λ (mapped : c.map_page-else-index-eq0.new.memory ≡ insert c.args.memory.now (at / 4096) (page_with 0 (take (end - start) (drop start c.as_slice-bytes.result.now)) s.prot)). mapped
    ∙ ap (λ (xs : List ℕ). insert c.args.memory.now (at / 4096) (page_with 0 (take (end - start) (drop start xs)) s.prot)) bytes
    ∙ later_page_is c.args.memory.now s c.args.index start end c.if-index-eq0.false (c.min-start.ensures ∙ ap (λ (xs : List ℕ). min (length xs) (c.args.index * 4096 - s.at % 4096)) bytes)
    (c.min-end-else-index-eq0.ensures ∙ ap (λ (xs : List ℕ). min (length xs) (start + 4096)) bytes))
    c.map_page-else-index-eq0.ensures.ok
