use Rattle.std.proofs.Common.{◌≤◌, ◌+◌, ℕ, List, [], ◌∷◌, ◌++◌, length, ap, subst, ◌∙◌}
use Rattle.tree_document.specs.declared.printing.Frame.{Frame}
use Rattle.tree_document.specs.Left.{IsPrinted, reach, rows_left}
use Rattle.tree_document.specs.Printing.{below_path, listed}
use Rattle.tree_document.proofs.Going.{next_fewer, next_going, none_fewer, none_going}
use Rattle.tree_document.proofs.Texts.{on_ok, on_ok_both}
use Rattle.tree_document.proofs.printing.print_next.Goals as goal

pub returns-in_default-clause-going : goal.returns-in_default-clause-going
returns-in_default-clause-going c =
    none_going c.args.tree.now c.args.frames.now.items c.args.frame c.args.printed.now.text.items c.args.printed.now.records c.args.printed.now.firsts c.in_default.ensures.steps.0

pub returns-in_default-clause-fewer : goal.returns-in_default-clause-fewer
returns-in_default-clause-fewer c = none_fewer c.args.tree.now c.args.frames.now.items c.args.frame c.in_default.ensures.steps.0

pub returns-clause-going : goal.returns-clause-going
returns-clause-going c h =
    let t = c.args.tree.now in
    let below = c.in_ok-path.path.items in
    let id = c.in-Some.id.now in
    on_ok c.push_names.result (λ rows.
    next_going t c.args.frames.now.items c.args.frame c.in-Some.name.now id c.next.new.self c.in-Some.ensures.steps below
    (c.in_ok-path.ensures ∙ ap (λ (path : List ℕ). below_path path c.in-Some.name.now) c.deref.ensures.value)
    c.push_names.new.frames.items (rows ∙ ap (λ (frames : List Frame). listed (reach t id) t below id ++ rows_left t frames) c.in_ok-push-2.ensures.items)
    c.args.printed.now.text.items c.push.new.self.text.items c.args.printed.now.records c.push.new.self.records c.args.printed.now.firsts c.push.new.self.firsts c.push_names.ensures.tree
    (λ done there k. subst (λ (path : List ℕ). IsPrinted t c.push.new.self.text.items c.push.new.self.records c.push.new.self.firsts (done ++ (path, id) ∷ [])) c.deref-2.ensures.value (c.in_ok-push.ensures done there k))
    h)
    c.push_names.ensures.rows

pub returns-clause-fewer : goal.returns-clause-fewer
returns-clause-fewer c =
    let t = c.args.tree.now in
    let below = c.in_ok-path.path.items in
    let id = c.in-Some.id.now in
    on_ok_both c.push_names.result (λ rows few.
    next_fewer t c.args.frames.now.items c.args.frame c.in-Some.name.now id c.next.new.self c.in-Some.ensures.steps below
    (c.in_ok-path.ensures ∙ ap (λ (path : List ℕ). below_path path c.in-Some.name.now) c.deref.ensures.value)
    c.push_names.new.frames.items (rows ∙ ap (λ (frames : List Frame). listed (reach t id) t below id ++ rows_left t frames) c.in_ok-push-2.ensures.items)
    (subst (λ (frames : List Frame). length c.push_names.new.frames.items ≤ length frames + 1) c.in_ok-push-2.ensures.items few))
    c.push_names.ensures.rows c.push_names.ensures.few
