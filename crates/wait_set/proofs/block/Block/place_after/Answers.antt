use Rattle.std.proofs.Common.{◌≡◌, ℕ, ◌<◌, length, get_or, nat_lt, true, false, sym, subst, ◌∙◌, Ok, Err, List}
use Rattle.std.proofs.lemmas.List.Sorted.{searched}
use Rattle.wait_set.specs.Numbers.{IsAscending}
use Rattle.wait_set.proofs.Ascending.{rising, before_ok, before_err, behind_err}
use Rattle.wait_set.proofs.block.Block.place_after.Goals as goal

pub returns-in-Ok-clause-before : goal.returns-in-Ok-clause-before
returns-in-Ok-clause-before c = λ k below.
    let same = c.deref.ensures.value ∙ c.self.view_is in
    let up = subst IsAscending (sym same) c.requires in
    let at = searched c.deref.result.now c.args.number (Ok c.in-Ok.place) c.in-Ok.ensures.position (rising c.deref.result.now up) in
    subst (λ (ys : List ℕ). nat_lt c.args.number (get_or ys k 0) ≡ false) same (before_ok c.deref.result.now c.args.number c.in-Ok.place up at.0 at.1 k below)

pub returns-in-Err-clause-before : goal.returns-in-Err-clause-before
returns-in-Err-clause-before c = λ k below.
    let same = c.deref.ensures.value ∙ c.self.view_is in
    let up = subst IsAscending (sym same) c.requires in
    let at = searched c.deref.result.now c.args.number (Err c.in-Err.place) c.in-Err.ensures.position (rising c.deref.result.now up) in
    subst (λ (ys : List ℕ). nat_lt c.args.number (get_or ys k 0) ≡ false) same (before_err c.deref.result.now c.args.number k (at.1 k below))

pub returns-in-Err-clause-behind : goal.returns-in-Err-clause-behind
returns-in-Err-clause-behind c = λ k from within.
    let same = c.deref.ensures.value ∙ c.self.view_is in
    let up = subst IsAscending (sym same) c.requires in
    let at = searched c.deref.result.now c.args.number (Err c.in-Err.place) c.in-Err.ensures.position (rising c.deref.result.now up) in
    subst (λ (ys : List ℕ). nat_lt c.args.number (get_or ys k 0) ≡ true) same
    (behind_err c.deref.result.now c.args.number k (at.2 k from (subst (λ (ys : List ℕ). k < length ys) (sym same) within)))
