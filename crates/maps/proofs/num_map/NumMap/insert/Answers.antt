use Rattle.std.proofs.Common.{sym, ◌∙◌}
use Rattle.std.proofs.lemmas.Result.{IfOk-weaker, IfErr-weaker}
use Rattle.maps.proofs.NumberEntries.{get_of, inserted_of}
use Rattle.maps.proofs.num_map.NumMap.insert.Goals as goal

pub returns-clause-old : goal.returns-clause-old
returns-clause-old g c = IfOk-weaker c.insert.result _ _ (λ _ old. old ∙ get_of _ _ c.self.view_is c.args.key) c.insert.ensures.old

pub returns-clause-ok : goal.returns-clause-ok
returns-clause-ok g c = IfOk-weaker c.insert.result _ _ (λ _ updates. inserted_of _ _ _ c.args.key c.args.value c.self.view_is updates.0) c.insert.ensures.updates

pub returns-clause-absent : goal.returns-clause-absent
returns-clause-absent g c = IfErr-weaker c.insert.result _ _ (λ _ absent. sym (get_of _ _ c.self.view_is c.args.key) ∙ absent) c.insert.ensures.absent
