use Rattle.std.proofs.Common.{ℕ, sym, ap, ◌∙◌}
use Rattle.std.specs.FinMap.{empty, insert, remove}
use Rattle.maps.specs.Halves.{not_true}
use Rattle.wait_set.specs.Queued.{QueueSet}
use Rattle.wait_set.proofs.Least.{only_one, other_stays}
use Rattle.wait_set.proofs.queue.Queue.is_only.Goals as goal

pub returns-then-self-thread-clause-more : goal.returns-then-self-thread-clause-more
returns-then-self-thread-clause-more c = λ _ none.
    other_stays c.self.inside.first c.args.thread c.self.inside.rest c.if-self-thread.true (ap (λ (q : QueueSet). remove q c.args.thread) c.self.view_is ∙ none)

pub returns : goal.returns
returns c =
    record {
      only = λ is.
          sym c.self.view_is
          ∙ ap (λ (r : QueueSet). insert r c.self.inside.first tt) (c.is_empty.ensures.empty.0 is)
          ∙ ap (λ (k : ℕ). let none : QueueSet = empty in insert none k tt) c.if-self-thread.false;
      more = λ isnt none.
          only_one c.self.inside.first c.args.thread c.self.inside.rest c.self.invariant (sym c.if-self-thread.false)
          (λ e. not_true (sym isnt ∙ c.is_empty.ensures.empty.1 e)) (ap (λ (q : QueueSet). remove q c.args.thread) c.self.view_is ∙ none);
    }
