use Rattle.std.proofs.Common.{◌≡◌, None, Some, sym, ap, subst, ◌∙◌}
use Rattle.std.specs.FinMap.{get}
use Rattle.maps.specs.Maps.{get-insert-same}
use Rattle.abi_types.specs.declared.reply.Answer.TheVariants as answer
use Rattle.abi_types.specs.declared.reply.Reply.{Reply}
use Rattle.kernel_model.specs.Families.LockCalls.{writes_word}
use Rattle.kernel_model.specs.Families.Locks.{release_of, released_word, unlocked_own, with_threads}
use Rattle.kernel_model.specs.Families.ProcessCalls.{left_in, left_updates, left_with}
use Rattle.kernel_model.specs.Outcome.{replies}
use Rattle.kernel_model.specs.Release.{lives, release}
use Rattle.kernel_model.specs.State.{State, ProcessState, put_all}
use Rattle.kernel_model.specs.Done.{IsAnswered}
use Rattle.kernel_core.proofs.Done.{answered_as, replied}
use Rattle.kernel_invariant.proofs.Leaving.{process_again, with_process}
use Rattle.kernel_core.proofs.OwnCalls.{left_again, made, refused_same}
use Rattle.kernel_core.proofs.kernel.Kernel.thread_exit.Goals as goal
use Rattle.kernel_core.proofs.kernel.Kernel.thread_exit.Goals.{After-release_lock}

-- what the process has of its own
owned : (c : After-release_lock) → (own : ProcessState) × (get c.args.self.now.processes c.args.who.now.pid ≡ Some own)
owned c = made (get c.args.self.now.processes c.args.who.now.pid) (c.requires.valid.nearly.owns c.args.who.now.pid ∙ c.requires.there)

pub returns-in_default : goal.returns-in_default
returns-in_default d =
    let c = (goal.at.returns-in_default d).After-release_lock in
    let S : State = c.args.self.now in
    let pid = c.args.who.now.pid in
    let tid = c.args.who.now.tid in
    let lock = c.args.lock in
    let word = c.args.word in
    let own = owned c in
    let left = c.release_lock.ensures own.0 own.1 in
    let none : released_word (release_of tid word) lock own.0.threads ≡ None = sym left.0 ∙ d.in_default.is in
    let same : c.release_lock.new.self ≡ S =
    left.1 ∙ ap (λ threads. with_process S pid (with_threads own.0 threads)) (refused_same (release_of tid word) lock own.0.threads none)
    ∙ process_again S pid own.0 own.1 in
    let is : left_in pid tid lock word (get S.processes pid) ≡ replies d.refused.result =
    ap (left_in pid tid lock word) own.1 ∙ ap (left_with pid tid (Some (unlocked_own lock word tid own.0)) lock) none ∙ ap replies (sym d.refused.ensures) in
    subst (λ T. IsAnswered (left_in pid tid lock word (get S.processes pid)) S T (answer.Reply d.refused.result)) (sym same)
    (replied (left_in pid tid lock word (get S.processes pid)) S d.refused.result c.requires.valid is)

pub end_thread-requires : goal.end_thread-requires
end_thread-requires d =
    let c = (goal.at.end_thread-requires d).After-release_lock in
    let own = owned c in
    ap (λ (X : State). lives (get X.statuses c.args.who.now.pid)) (c.release_lock.ensures own.0 own.1).1 ∙ c.requires.there

pub returns : goal.returns
returns d =
    let c = (goal.at.returns d).After-release_lock in
    let S : State = c.args.self.now in
    let pid = c.args.who.now.pid in
    let tid = c.args.who.now.tid in
    let lock = c.args.lock in
    let word = c.args.word in
    let own = owned c in
    let left = c.release_lock.ensures own.0 own.1 in
    let unlocked = unlocked_own lock word tid own.0 in
    let some : released_word (release_of tid word) lock own.0.threads ≡ Some d.in-Some.left = sym left.0 ∙ d.in-Some.is in
    let is : left_in pid tid lock word (get S.processes pid) ≡ left_with pid tid (Some unlocked) lock (Some d.in-Some.left) =
    ap (left_in pid tid lock word) own.1 ∙ ap (left_with pid tid (Some unlocked) lock) some in
    answered_as _ _ S d.end_thread.new.self _ (sym is) (
      ap (λ (r : Reply). answer.Reply (record r { writes = writes_word lock d.in-Some.left })) d.success.ensures,
      d.end_thread.ensures
          ∙ ap (λ (X : State). release (put_all (left_updates pid tid (get X.processes pid)) X)) left.1
          ∙ ap (λ o. release (put_all (left_updates pid tid o) (with_process S pid unlocked))) (get-insert-same S.processes pid unlocked)
          ∙ ap release (left_again S pid tid unlocked),
    )
