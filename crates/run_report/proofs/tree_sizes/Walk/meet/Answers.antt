use Rattle.std.proofs.Common.{◌+◌, ℕ, refl, ap, sym, ◌∙◌, arith}
use Rattle.std.specs.Prelude.{is_some}
use Rattle.std.specs.FinMap.{get, insert}
use Rattle.run_report.specs.TreeSizes.{one_of_kind, size_of_kind}
use Rattle.tree_model.specs.Tree.{is_directory_kind}
use Rattle.run_report.proofs.Walks.{grows_directory, grows_leaf, met_here}
use Rattle.run_report.proofs.tree_sizes.Walk.meet.Goals as goal

pub returns-in_ok-count-in-File-clause-met : goal.returns-in_ok-count-in-File-clause-met
returns-in_ok-count-in-File-clause-met c named =
    met_here c.args.tree.now c.args.self.now c.count.new.self c.args.id c.in-Some.node.now (sym c.in-Some.ensures.value)
    (ap (λ (k : ℕ). is_some (get c.args.self.now.met k)) (sym c.id.view_is) ∙ sym c.contains.ensures ∙ c.if-contains.false)
    (c.count.ensures.met ∙ c.in_ok-insert.ensures.ok ∙ ap (λ (k : ℕ). insert c.args.self.now.met k tt) c.id.view_is)

pub returns-in_ok-count-in-File-clause-grows : goal.returns-in_ok-count-in-File-clause-grows
returns-in_ok-count-in-File-clause-grows c named =
    let kind = c.in-File.is in
    grows_leaf c.args.tree.now c.args.self.now c.count.new.self c.args.id c.in-Some.node.now (sym c.in-Some.ensures.value)
    (ap (λ (k : ℕ). is_some (get c.args.self.now.met k)) (sym c.id.view_is) ∙ sym c.contains.ensures ∙ c.if-contains.false)
    (c.count.ensures.met ∙ c.in_ok-insert.ensures.ok ∙ ap (λ (k : ℕ). insert c.args.self.now.met k tt) c.id.view_is) named
    (c.in_ok-count-in-File.ensures.files ∙ ap (λ n. c.args.self.now.files + n) (sym (ap one_of_kind kind)))
    (c.in_ok-count-in-File.ensures.bytes ∙ ap (λ n. c.args.self.now.bytes + n) (c.len.ensures ∙ sym (ap size_of_kind kind)))
    c.in-Some.ensures.tree (ap is_directory_kind kind) c.count.ensures.left

pub returns-in_ok-push-in-Directory-clause-met : goal.returns-in_ok-push-in-Directory-clause-met
returns-in_ok-push-in-Directory-clause-met c named =
    met_here c.args.tree.now c.args.self.now (record { met = c.insert.new.self; left = c.push.new.self; files = c.args.self.now.files; bytes = c.args.self.now.bytes })
    c.args.id c.in-Some.node.now (sym c.in-Some.ensures.value)
    (ap (λ (k : ℕ). is_some (get c.args.self.now.met k)) (sym c.id.view_is) ∙ sym c.contains.ensures ∙ c.if-contains.false)
    (c.in_ok-insert.ensures.ok ∙ ap (λ (k : ℕ). insert c.args.self.now.met k tt) c.id.view_is)

pub returns-in_ok-push-in-Directory-clause-grows : goal.returns-in_ok-push-in-Directory-clause-grows
returns-in_ok-push-in-Directory-clause-grows c named =
    let kind = c.in-Directory.is in
    let one = ap one_of_kind kind in
    let size = ap size_of_kind kind in
    grows_directory c.args.tree.now c.args.self.now (record { met = c.insert.new.self; left = c.push.new.self; files = c.args.self.now.files; bytes = c.args.self.now.bytes })
    c.args.id c.in-Some.node.now (sym c.in-Some.ensures.value)
    (ap (λ (k : ℕ). is_some (get c.args.self.now.met k)) (sym c.id.view_is) ∙ sym c.contains.ensures ∙ c.if-contains.false)
    (c.in_ok-insert.ensures.ok ∙ ap (λ (k : ℕ). insert c.args.self.now.met k tt) c.id.view_is) named (omega (arith, one)) (omega (arith, size))
    c.in_ok-push-in-Directory.ensures.items

pub returns-in-Link-clause-met : goal.returns-in-Link-clause-met
returns-in-Link-clause-met c named =
    met_here c.args.tree.now c.args.self.now (record { met = c.insert.new.self; left = c.args.self.now.left; files = c.args.self.now.files; bytes = c.args.self.now.bytes })
    c.args.id c.in-Some.node.now (sym c.in-Some.ensures.value)
    (ap (λ (k : ℕ). is_some (get c.args.self.now.met k)) (sym c.id.view_is) ∙ sym c.contains.ensures ∙ c.if-contains.false)
    (c.in_ok-insert.ensures.ok ∙ ap (λ (k : ℕ). insert c.args.self.now.met k tt) c.id.view_is)

pub returns-in-Link-clause-grows : goal.returns-in-Link-clause-grows
returns-in-Link-clause-grows c named =
    let kind = c.in-Link.is in
    let one = ap one_of_kind kind in
    let size = ap size_of_kind kind in
    grows_leaf c.args.tree.now c.args.self.now (record { met = c.insert.new.self; left = c.args.self.now.left; files = c.args.self.now.files; bytes = c.args.self.now.bytes })
    c.args.id c.in-Some.node.now (sym c.in-Some.ensures.value)
    (ap (λ (k : ℕ). is_some (get c.args.self.now.met k)) (sym c.id.view_is) ∙ sym c.contains.ensures ∙ c.if-contains.false)
    (c.in_ok-insert.ensures.ok ∙ ap (λ (k : ℕ). insert c.args.self.now.met k tt) c.id.view_is) named (omega (arith, one)) (omega (arith, size))
    c.in-Some.ensures.tree (ap is_directory_kind kind) refl
