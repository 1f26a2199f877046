-- The plan, case by case.
use Rattle.std.proofs.Common.{rules, ◌≡◌, List, [], Ok, ap, sym, ◌∙◌, arith}
use Rattle.std.proofs.lemmas.Result.{err_from_is_err_and}
use Rattle.abi_base.specs.declared.grant.Grant.{Grant}
use Rattle.tree_model.specs.Tree.{Tree}
use Rattle.launch_values.specs.Shape.{Shape}
use Rattle.launch_values.specs.Views.{shape_of}
use Rattle.launch_plan.specs.Tagged.{tagged, grants_of, grants_behind}
use Rattle.launch_plan.specs.Sizes.{values_in}
use Rattle.lists.proofs.Steps.{stopped}
use Rattle.launch_plan.proofs.Grants.{behind_none, all_there}
use Rattle.launch_plan.proofs.Plans.{faulty, too_many, too_many_values, none_left, too_large, planned}
use Rattle.launch_plan.proofs.Asked.{asked_are}
use Rattle.launch_plan.proofs.planning.plan.Goals as goal

-- what was asked for behind no descriptors was asked for
asked : (tree : Tree) (none : List Grant) (x : Shape) (grants : List Grant) → none ≡ [] → grants_behind tree none (tagged x) ≡ Ok grants → grants_of tree (tagged x) ≡ Ok grants
asked tree none x grants empty h = sym (behind_none tree (tagged x)) ∙ sym (ap (λ before. grants_behind tree before (tagged x)) empty) ∙ h

pub returns-in_err-push_grants-clause-plan : goal.returns-in_err-push_grants-clause-plan
returns-in_err-push_grants-clause-plan c =
    let p = err_from_is_err_and c.from_residual.result c.from_residual.ensures.1 in
    let x = shape_of c.args.doc.now.root in
    let tree = c.args.tree.now in
    rw (p.1, p.2) (stopped c.in_err-push_grants.field-0.0 (grants_behind tree _ (tagged x)) _
    (λ f e. faulty tree x f (sym (behind_none tree (tagged x)) ∙ sym (ap (λ none. grants_behind tree none (tagged x)) c.new-grants.ensures) ∙ e)) c.in_err-push_grants.ensures)

pub returns-then-len-gt-MOST_DESCRIPTORS-clause-plan : goal.returns-then-len-gt-MOST_DESCRIPTORS-clause-plan
returns-then-len-gt-MOST_DESCRIPTORS-clause-plan c =
    let x = shape_of c.args.doc.now.root in
    let tree = c.args.tree.now in
    too_many tree x c.push_grants.new.grants (asked tree _ x _ c.new-grants.ensures c.in_ok-push_grants.ensures) (omega (arith, c.len.ensures, c.if-len-gt-MOST_DESCRIPTORS.true))

pub argdata-requires-clause-few : goal.argdata-requires-clause-few
argdata-requires-clause-few c =
    let x = shape_of c.args.doc.now.root in
    let tree = c.args.tree.now in
    omega (arith, c.len.ensures, c.if-len-gt-MOST_DESCRIPTORS.false, all_there tree (tagged x) c.push_grants.new.grants (asked tree _ x _ c.new-grants.ensures c.in_ok-push_grants.ensures))

pub returns-then-is_none-clause-plan : goal.returns-then-is_none-clause-plan
returns-then-is_none-clause-plan c =
    let x = shape_of c.args.doc.now.root in
    let tree = c.args.tree.now in
    too_many_values tree x c.push_grants.new.grants (asked tree _ x _ c.new-grants.ensures c.in_ok-push_grants.ensures) (omega (arith, c.len.ensures, c.if-len-gt-MOST_DESCRIPTORS.false))
    (none_left 65536 (values_in x) c.room_behind.result (search (rules, c.is_none.ensures, c.if-is_none.true)) c.room_behind.ensures)

pub returns-then-len-gt-MOST_ARGDATA-clause-plan : goal.returns-then-len-gt-MOST_ARGDATA-clause-plan
returns-then-len-gt-MOST_ARGDATA-clause-plan c =
    let x = shape_of c.args.doc.now.root in
    let tree = c.args.tree.now in
    too_large tree x c.push_grants.new.grants c.in_ok-argdata.argdata (asked tree _ x _ c.new-grants.ensures c.in_ok-push_grants.ensures) (omega (arith, c.len.ensures, c.if-len-gt-MOST_DESCRIPTORS.false))
    c.in_ok-argdata.ensures (omega (arith, c.len-2.ensures, c.if-len-gt-MOST_ARGDATA.true))

pub returns-clause-plan : goal.returns-clause-plan
returns-clause-plan c =
    let x = shape_of c.args.doc.now.root in
    let tree = c.args.tree.now in
    planned tree x c.push_grants.new.grants c.in_ok-argdata.argdata (asked tree _ x _ c.new-grants.ensures c.in_ok-push_grants.ensures) (omega (arith, c.len.ensures, c.if-len-gt-MOST_DESCRIPTORS.false))
    c.in_ok-argdata.ensures (omega (arith, c.len-2.ensures, c.if-len-gt-MOST_ARGDATA.false))

pub returns-clause-grants : goal.returns-clause-grants
returns-clause-grants c =
    let x = shape_of c.args.doc.now.root in
    let tree = c.args.tree.now in (
      omega (arith, c.len.ensures, c.if-len-gt-MOST_DESCRIPTORS.false),
      asked_are tree (tagged x) c.push_grants.new.grants (asked tree _ x _ c.new-grants.ensures c.in_ok-push_grants.ensures),
    )
