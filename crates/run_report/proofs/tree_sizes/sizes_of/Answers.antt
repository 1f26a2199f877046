use Rattle.std.proofs.Common.{◌≡◌, ◌≢◌, ℕ, List, [], ◌∷◌, ◌++◌, length, refl, subst, arith}
use Rattle.tree_model.specs.declared.limits.TheConstants.{ROOT}
use Rattle.tree_model.specs.Facts.{links_of_root}
use Rattle.tree_model.specs.Tree.{links_of}
use Rattle.run_report.specs.Walks.{IsClosed}
use Rattle.run_report.proofs.Walks.{all_counted, closed_turned, start_closed, start_counted}
use Rattle.run_report.proofs.tree_sizes.sizes_of.Goals as goal

nothing_in : (numbers : List ℕ) → length numbers ≡ 0 → numbers ≡ []
nothing_in [] none = refl
nothing_in (n ∷ numbers) none = absurd (omega arith)

pub loop-dir-init : goal.loop-dir-init
loop-dir-init c =
    let tree = c.meet.ensures.tree in
    let one = links_of_root c.args.tree.now tree in
    let named : links_of c.args.tree.now ROOT ≢ 0 = λ bare. omega (arith, one, bare) in
    let grows = c.in_ok-meet.ensures.grows named in
    record {
      tree = tree;
      root = c.in_ok-meet.ensures.met named;
      counted = grows.counted (start_counted c.args.tree.now c.new-walk.result c.new-walk.ensures.met c.new-walk.ensures.files c.new-walk.ensures.bytes);
      closed = grows.closed [] (start_closed c.args.tree.now c.new-walk.result c.new-walk.ensures.met c.new-walk.result.left.items);
    }

pub loop-dir-preserved : goal.loop-dir-preserved
loop-dir-preserved c =
    let known = c.loop-dir.invariant in
    let left : c.loop-dir.walk.left.items ≡ c.pop.new.self.items ++ c.in-Some.dir ∷ [] = c.in-Some.ensures.items in
    record {
      tree = known.tree;
      root = c.in_ok-meet_names.ensures.met ROOT known.root;
      counted = c.in_ok-meet_names.ensures.counted (record { files = known.counted.files; bytes = known.counted.bytes });
      closed = c.in_ok-meet_names.ensures.closed
          (closed_turned c.args.tree.now c.loop-dir.walk.met c.loop-dir.walk.left.items c.pop.new.self.items c.in-Some.dir left known.closed);
    }

pub returns-clause-files : goal.returns-clause-files
returns-clause-files c =
    let known = c.loop-dir.invariant in
    let none : c.loop-dir.walk.left.items ≡ [] = nothing_in c.loop-dir.walk.left.items (omega (arith, c.in_default.ensures.cases)) in
    (all_counted c.args.tree.now known.tree c.loop-dir.walk known.root (subst (IsClosed c.args.tree.now c.loop-dir.walk.met) none known.closed) known.counted).0

pub returns-clause-bytes : goal.returns-clause-bytes
returns-clause-bytes c =
    let known = c.loop-dir.invariant in
    let none : c.loop-dir.walk.left.items ≡ [] = nothing_in c.loop-dir.walk.left.items (omega (arith, c.in_default.ensures.cases)) in
    (all_counted c.args.tree.now known.tree c.loop-dir.walk known.root (subst (IsClosed c.args.tree.now c.loop-dir.walk.met) none known.closed) known.counted).1
