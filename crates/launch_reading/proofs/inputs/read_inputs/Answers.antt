use Rattle.std.proofs.Common.{◌∙◌, ◌≡◌, ◌≤◌, ℕ, List, arith}
use Rattle.std.specs.Prelude.{Some}
use Rattle.std.proofs.lemmas.List.Elements.{All-weaker}
use Rattle.std.proofs.lemmas.Result.{err_from_is_err_and}
use Rattle.input_output.proofs.OutsideLaws.{rose_since}
use Rattle.command_line.specs.Settings.{view}
use Rattle.launch_reading.specs.Launch.{standard_input}
use Rattle.launch_reading.proofs.Asked.{each_may_read}
use Rattle.launch_reading.proofs.LaunchParts.{optional_unread_known, read_as_known, text_unread, tree_unread, stdin_unread}
use Rattle.launch_reading.proofs.inputs.read_inputs.Goals as goal

pub read_input-requires : goal.read_input-requires
read_input-requires g c = (each_may_read (g.S.Source.may_read c.args.source.now) (view c.args.settings.now) c.requires).program

pub read_input-requires-2 : goal.read_input-requires-2
read_input-requires-2 g c =
    c.in_ok-program.ensures.may_read_stays _ (each_may_read (g.S.Source.may_read c.args.source.now) (view c.args.settings.now) c.requires).text

pub read_optional-requires : goal.read_optional-requires
read_optional-requires g c =
    All-weaker _ _ (λ n h. c.in_ok-text.ensures.may_read_stays n (c.in_ok-program.ensures.may_read_stays n h)) _
    (each_may_read (g.S.Source.may_read c.args.source.now) (view c.args.settings.now) c.requires).tree

pub read_optional-requires-2 : goal.read_optional-requires-2
read_optional-requires-2 g c =
    All-weaker _ _ (λ n h. c.in_ok-tree.ensures.may_read_stays n (c.in_ok-text.ensures.may_read_stays n (c.in_ok-program.ensures.may_read_stays n h))) _
    (each_may_read (g.S.Source.may_read c.args.source.now) (view c.args.settings.now) c.requires).stdin

pub returns-in_err-text-clause-err : goal.returns-in_err-text-clause-err
returns-in_err-text-clause-err g c =
    let p = err_from_is_err_and c.from_residual-in_err-text.result c.from_residual-in_err-text.ensures.1 in
    rw (p.1, p.2)
    (text_unread (view c.args.settings.now) (g.S.Source.content c.args.source.now) _ _ c.in_ok-program.program (c.in_ok-program.ensures.ok, c.in_ok-program.ensures.within_limit)
    (optional_unread_known (Some standard_input) (g.S.Source.content c.args.source.now) _ _ _ _ c.in_ok-program.ensures.content_stays (rose_since _ _ _ c.in_ok-program.ensures.faults_never_fall) c.in_err-text.ensures.err))

pub returns-in_err-tree-clause-err : goal.returns-in_err-tree-clause-err
returns-in_err-tree-clause-err g c =
    let s = view c.args.settings.now in
    let content = g.S.Source.content c.args.source.now in
    let p = err_from_is_err_and c.from_residual-in_err-tree.result c.from_residual-in_err-tree.ensures.1 in
    let stays : (n : List ℕ) → g.S.Source.content c.read_input-2.new.source n ≡ content n = λ n. c.in_ok-text.ensures.content_stays n ∙ c.in_ok-program.ensures.content_stays n in
    let falls : g.S.Source.faults c.args.source.now ≤ g.S.Source.faults c.read_input-2.new.source = omega (arith, c.in_ok-program.ensures.faults_never_fall, c.in_ok-text.ensures.faults_never_fall) in
    rw (p.1, p.2)
    (tree_unread s content _ _ c.in_ok-program.program (c.in_ok-program.ensures.ok, c.in_ok-program.ensures.within_limit)
    c.in_ok-text.text (read_as_known (Some standard_input) content _ _ c.in_ok-program.ensures.content_stays (c.in_ok-text.ensures.ok, c.in_ok-text.ensures.within_limit))
    (optional_unread_known s.tree content _ _ _ _ stays (rose_since _ _ _ falls) c.in_err-tree.ensures.err))

pub returns-in_err-stdin-clause-err : goal.returns-in_err-stdin-clause-err
returns-in_err-stdin-clause-err g c =
    let s = view c.args.settings.now in
    let content = g.S.Source.content c.args.source.now in
    let p = err_from_is_err_and c.from_residual-in_err-stdin.result c.from_residual-in_err-stdin.ensures.1 in
    let stays : (n : List ℕ) → g.S.Source.content c.read_input-2.new.source n ≡ content n = λ n. c.in_ok-text.ensures.content_stays n ∙ c.in_ok-program.ensures.content_stays n in
    let all_stay : (n : List ℕ) → g.S.Source.content c.read_optional.new.source n ≡ content n = λ n. c.in_ok-tree.ensures.content_stays n ∙ stays n in
    let falls : g.S.Source.faults c.args.source.now ≤ g.S.Source.faults c.read_optional.new.source = omega (arith, c.in_ok-program.ensures.faults_never_fall, c.in_ok-text.ensures.faults_never_fall, c.in_ok-tree.ensures.faults_never_fall) in
    rw (p.1, p.2)
    (stdin_unread s content _ _ c.in_ok-program.program (c.in_ok-program.ensures.ok, c.in_ok-program.ensures.within_limit)
    c.in_ok-text.text (read_as_known (Some standard_input) content _ _ c.in_ok-program.ensures.content_stays (c.in_ok-text.ensures.ok, c.in_ok-text.ensures.within_limit))
    c.in_ok-tree.tree (read_as_known s.tree content _ _ stays c.in_ok-tree.ensures.ok)
    (optional_unread_known s.stdin content _ _ _ _ all_stay (rose_since _ _ _ falls) c.in_err-stdin.ensures.err))
