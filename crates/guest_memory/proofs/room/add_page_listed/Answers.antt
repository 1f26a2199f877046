use Rattle.std.proofs.Common.{◌≡◌, [], ◌∷◌, ◌++◌, Option, Some, None, sym, ap, ◌∙◌}
use Rattle.std.specs.FinMap.{get}
use Rattle.maps.specs.Maps.{get-insert-same, get-insert-other}
use Rattle.guest_memory.specs.Page.{Page, Pages}
use Rattle.guest_memory.specs.Room.{without_each, or_added}
use Rattle.guest_memory.proofs.PageRanges.{is_none}
use Rattle.guest_memory.proofs.ListedPages.{listed_page, listed_absent}
use Rattle.guest_memory.proofs.room.add_page_listed.Goals as goal

pub returns-in_err-insert-clause-added : goal.returns-in_err-insert-clause-added
returns-in_err-insert-clause-added c =
    ap (λ qs. without_each qs c.insert.new.self) c.in_ok-push.ensures.items
    ∙ ap (without_each (c.args.added.now.items ++ c.args.number ∷ [])) c.in_err-insert.ensures.err
    ∙ listed_absent c.args.added.now.items c.args.number c.args.pages.now (is_none _ c.if-contains.ensures)

pub returns-clause-page : goal.returns-clause-page
returns-clause-page c =
    ap (λ (m : Pages). get m c.args.number) c.in_ok-insert.ensures.ok
    ∙ get-insert-same c.args.pages.now c.args.number c.new-page.result
    ∙ ap Some c.new-page.ensures
    ∙ sym (ap (λ (o : Option Page). Some (or_added o)) (is_none _ c.if-contains.ensures))

pub returns-clause-others : goal.returns-clause-others
returns-clause-others c q apart =
    ap (λ (m : Pages). get m q) c.in_ok-insert.ensures.ok
    ∙ get-insert-other c.args.pages.now c.args.number c.new-page.result q apart

pub returns-clause-added : goal.returns-clause-added
returns-clause-added c =
    let absent : get c.args.pages.now c.args.number ≡ None = is_none _ c.if-contains.ensures in
    ap (λ qs. without_each qs c.insert.new.self) c.in_ok-push.ensures.items
    ∙ ap (without_each (c.args.added.now.items ++ c.args.number ∷ [])) c.in_ok-insert.ensures.ok
    ∙ listed_page c.args.added.now.items c.args.number c.args.pages.now _ absent
