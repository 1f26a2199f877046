-- What a poll of no lock and no condition variable comes to.
use Rattle.std.proofs.Common.{◌≡◌, false, ◌+◌, ◌^◌, ◌<◌, List, [], ◌∷◌, ◌++◌, length, refl, sym, ap, ◌∙◌, arith}
use Rattle.abi_structures.specs.declared.events.Event.{Event}
use Rattle.abi_structures.specs.declared.events.Subscription.{Subscription}
use Rattle.abi_structures.specs.declared.events.What.{What}
use Rattle.abi_structures.specs.declared.events.What.TheVariants.{Clock, Condvar, FdRead, FdWrite, LockRdlock, LockWrlock, ProcTerminate}
use Rattle.abi_types.specs.declared.call.Call.TheVariants.{Poll}
use Rattle.abi_types.specs.declared.constants.Constants.{Constants}
use Rattle.abi_types.specs.declared.reply.Answer.{Answer}
use Rattle.abi_types.specs.declared.who.Who.{Who}
use Rattle.kernel_model.specs.Families.Polls.{begins_with_lock, is_of_lock}
use Rattle.kernel_model.specs.PollLaws.{AnswersEvents, AreTold, IsEventOf, IsPoll}
use Rattle.kernel_model.specs.Proper.{IsIn}
use Rattle.kernel_model.specs.State.{State, Table}
use Rattle.kernel_model.specs.Step.{step_answer}
use Rattle.kernel_model.proofs.PollEvents.{none_is_lost, none_is_more}
use Rattle.kernel_model.proofs.PollLaws.{poll_tells_ready, poll_waits}
use Rattle.process_errors.specs.PollErrors.{BeginsPlain, IsPlain, PollComesTo, PollIsListed, none_ready, some_ready}
use Rattle.process_errors.specs.Verdicts.{Verdict, by_errno, done, verdict_of}
use Rattle.process_errors.proofs.Tables.{listed}

no_lock : (what : What) → IsPlain what → is_of_lock what ≡ false
no_lock (Clock clock timeout precision flags) plain = refl
no_lock (FdRead fd) plain = refl
no_lock (FdWrite fd) plain = refl
no_lock (ProcTerminate fd) plain = refl
no_lock (LockRdlock lock word scope) plain = absurd plain
no_lock (LockWrlock lock word scope) plain = absurd plain
no_lock (Condvar condvar condvar_word lock lock_word condvar_scope lock_scope) plain = absurd plain

begins_plain : (subscriptions : List Subscription) → BeginsPlain subscriptions → begins_with_lock subscriptions ≡ false
begins_plain [] plain = refl
begins_plain (first ∷ rest) plain = no_lock first.what plain

-- an answer with an event is a success
told_done : (event : Event) (events : List Event) (given : Answer) → AnswersEvents (event ∷ events) given → done ≡ verdict_of given
told_done event events given has = sym (ap verdict_of has.1 ∙ ap (λ errno. by_errno errno has.0) has.2.errno)

-- no item is in no items
none_in : (event : Event) → ¬ IsIn event []
none_in event here = by here.0 here.2 where
  by : (before : List Event) → [] ≡ before ++ event ∷ here.1 → ⊥
  by [] is = (let none = ap (length {A = Event}) is in omega (arith, none))
  by (first ∷ before) is = (let none = ap (length {A = Event}) is in omega (arith, none))

module _ (constants : Constants) (S : State) (who : Who) (table : Table) (subscriptions : List Subscription)
    (is : IsPoll S who table subscriptions) (early : S.clock + 1000 < 2 ^ 62) where
  abbrev Comes : Verdict → Type 0
  Comes = PollComesTo constants S table who.since (S.clock + 1000) subscriptions

  poll_sound : (verdict : Verdict) → Comes verdict → verdict ≡ verdict_of (step_answer constants S who (Poll subscriptions))
  poll_sound verdict (none_ready none) = sym (ap verdict_of ((poll_waits constants S who table subscriptions is early).1 none))
  poll_sound verdict (some_ready s here ready) =
      let told = poll_tells_ready constants S who table subscriptions is early in
      by told.0 (none_is_lost constants S table who.since (S.clock + 1000) subscriptions told.0 s told.1 here ready) told.2 where
        by : (events : List Event) → (event : Event) × IsIn event events × IsEventOf S table s event
            → AnswersEvents events (step_answer constants S who (Poll subscriptions)) → done ≡ verdict_of (step_answer constants S who (Poll subscriptions))
        by [] one answers = absurd (none_in one.0 one.1)
        by (event ∷ events) one answers = told_done event events (step_answer constants S who (Poll subscriptions)) answers

  poll_some : (verdict : Verdict) × Comes verdict
  poll_some =
      let told = poll_tells_ready constants S who table subscriptions is early in
      by told.0 told.1 told.2 where
        by : (events : List Event) → AreTold constants S table who.since (S.clock + 1000) subscriptions events
            → AnswersEvents events (step_answer constants S who (Poll subscriptions)) → (verdict : Verdict) × Comes verdict
        by [] told answers = (_, none_ready ((poll_waits constants S who table subscriptions is early).0 answers))
        by (event ∷ events) told answers =
            let one = none_is_more constants S table who.since (S.clock + 1000) subscriptions (event ∷ events) event told ([], events, refl) in
            (_, some_ready one.0 one.1 one.2)

pub poll_is_listed : PollIsListed
poll_is_listed constants S who subscriptions table own verdict unrefused plain early =
    let is : IsPoll S who table subscriptions =
    record { valid = unrefused.valid; own = unrefused.had; allowed = unrefused.allowed; plain = begins_plain subscriptions plain } in
    listed (PollComesTo constants S table who.since (S.clock + 1000) subscriptions) (verdict_of (step_answer constants S who (Poll subscriptions)))
    (poll_sound constants S who table subscriptions is early) (poll_some constants S who table subscriptions is early) verdict
