use Rattle.std.proofs.Common.{◌++◌, ◌∷◌, ◌+◌, [], length, ap, sym, ◌∙◌}
use Rattle.std.proofs.lemmas.List.{length_push}
use Rattle.run_types.specs.Turns.{turns_in}
use Rattle.run_types.proofs.Turns.{row_more}
use Rattle.run_types.proofs.turn_list.TurnList.push.Goals as goal

pub invariant_of-self-2 : goal.invariant_of-self-2
invariant_of-self-2 c =
    let more = ap turns_in c.in_ok-push.ensures.items ∙ row_more c.self.inside.earlier.items _ in
    let inv = c.self.invariant in
    ap (λ n. n + 1) (inv ∙ sym (ap length more)) ∙ sym (length_push _ c.args.tid)

pub returns-clause-ok : goal.returns-clause-ok
returns-clause-ok c =
    let more = ap turns_in c.in_ok-push.ensures.items ∙ row_more c.self.inside.earlier.items _ in
    ap (λ l. l ++ c.args.tid ∷ []) more ∙ ap (λ l. l ++ c.args.tid ∷ []) c.self.view_is
