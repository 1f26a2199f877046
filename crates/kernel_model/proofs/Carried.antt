-- What waits in channels after a step waited there before, or the call sent it.
--     released_waits      what the release leaves waiting waited before it
--     waiting_was_held, end_carries_nothing      the laws
use Rattle.std.proofs.Common.{◌≡◌, ◌≢◌, ◌⊎◌, inl, inr, ℕ, ◌+◌, Bool, true, false, List, [], ◌∷◌, ◌++◌, Option, None, Some, refl, sym, ap, subst, ◌∙◌}
use Rattle.std.proofs.lemmas.Bool.Decides.{eqb_tells}
use Rattle.std.proofs.lemmas.List.{append_assoc}
use Rattle.std.specs.FinMap.{get, insert}
use Rattle.std.specs.List.{AllByRecursion}
use Rattle.abi_base.specs.declared.errno.Errno.{Errno}
use Rattle.abi_base.specs.declared.errno.Errno.TheVariants.{Success}
use Rattle.abi_types.specs.declared.reply.Reply.{Reply}
use Rattle.abi_types.specs.declared.reply.Answer.{Answer}
use Rattle.abi_types.specs.declared.reply.Answer.TheVariants as answer
use Rattle.abi_types.specs.declared.call.Call.{Call}
use Rattle.abi_types.specs.declared.constants.Constants.{Constants}
use Rattle.abi_types.specs.declared.descriptor.Descriptor.{Descriptor}
use Rattle.abi_types.specs.declared.thread.Thread.{Thread}
use Rattle.abi_types.specs.declared.who.Who.{Who}
use Rattle.maps.specs.Maps.{get-insert-same, get-insert-other}
use Rattle.kernel_model.specs.Calls.{meaning_of}
use Rattle.kernel_model.specs.Channels.{Channel, carried_of, channel_left, sends_after}
use Rattle.kernel_model.specs.Families.ChannelCalls.{added, picked}
use Rattle.kernel_model.specs.Laws.{EndCarriesNothing, IsSent, WaitingWasHeld}
use Rattle.kernel_model.specs.Outcome.{Outcome}
use Rattle.kernel_model.specs.Proper.{CarriesOn, GoesOn, IsIn, IsSentBy, Sender, Waits, adds, draws, empties, may_send}
use Rattle.kernel_model.specs.Release.{ends, loses_reader, loses_writer, release}
use Rattle.kernel_model.specs.State.{State, Table, Update, put_all, put_one, set_chan}
use Rattle.kernel_model.specs.Step.{end_unreleased, outcome, step_answer, tick, unreleased, IsStep}
use Rattle.kernel_model.specs.Valid.{IsNearlyValid, IsValid}
use Rattle.kernel_model.specs.View.{whole}
use Rattle.kernel_model.specs.Waits.{waiting, waits_if}
use Rattle.kernel_model.proofs.Calls.{proper}
use Rattle.kernel_model.proofs.ChannelChanges.{after_all, append_all, carried_both}
use Rattle.kernel_model.proofs.Channels.{all_both, channel_released, was_channel}
use Rattle.kernel_model.proofs.Lists.{all_weaker, in_all}
use Rattle.kernel_model.proofs.Outcomes.{outcome_holds}
use Rattle.kernel_model.proofs.Readiness.{parking_changes}
use Rattle.kernel_model.proofs.Refusals.{error_keeps}
use Rattle.kernel_model.proofs.Touches.{end_is}
use Rattle.kernel_model.proofs.Valids.{same_value, tick_nearly_valid}

-- ---- what a channel carries as it goes on

-- the descriptor stands in the table under one of the numbers
abbrev Stands : Table → List ℕ → Descriptor → Type 0
Stands table fds d = (n : ℕ) × IsIn n fds × (get table n ≡ Some d)

added_stand : (table : Table) (all : List ℕ) (fd : ℕ) (o : Option Descriptor) (ds : List Descriptor) → get table fd ≡ o → IsIn fd all
    → AllByRecursion (Stands table all) ds → AllByRecursion (Stands table all) (added o ds)
added_stand table all fd None ds here is rest = rest
added_stand table all fd (Some d) ds here is rest = ((fd, is, here), rest)

-- what is picked stands under the numbers
picked_stand : (table : Table) (all before fds : List ℕ) → all ≡ before ++ fds → AllByRecursion (Stands table all) (picked table fds)
picked_stand table all before [] is = tt
picked_stand table all before (fd ∷ fds) is =
    added_stand table all fd (get table fd) (picked table fds) refl (before, fds, is)
    (picked_stand table all (before ++ fd ∷ []) fds (is ∙ sym (append_assoc before (fd ∷ []) fds)))

are_sent : (sender : Sender) (carried : List Descriptor) → IsSentBy sender carried → AllByRecursion (Stands sender.0 sender.1) carried
are_sent sender carried (inl none) = subst (AllByRecursion (Stands sender.0 sender.1)) (sym none) tt
are_sent sender carried (inr is) = subst (AllByRecursion (Stands sender.0 sender.1)) (sym is) (picked_stand sender.0 sender.1 [] sender.1 refl)

-- each item of a list is in it
each_in : {X : Type 0} (before xs : List X) → AllByRecursion (λ x. IsIn x (before ++ xs)) xs
each_in before [] = tt
each_in before (x ∷ xs) = (
  (before, xs, refl),
  subst (λ all. AllByRecursion (λ y. IsIn y all) xs) (append_all before (x ∷ []) xs) (each_in (before ++ x ∷ []) xs),
)

none : (d : Descriptor) (before after : List Descriptor) → [] ≡ before ++ d ∷ after → ⊥
none d [] after e = cc
none d (x ∷ before) after e = cc

module _ (S : State) (sender : Sender) (c : ℕ) where
  -- each descriptor that waits in the channel does
  abbrev Holds : Descriptor → Type 0
  Holds d = Waits S c d ⊎ Stands sender.0 sender.1 d

  waiting_hold : (channel : Channel) → get S.chans c ≡ Some channel → AllByRecursion Holds (carried_of channel.waiting)
  waiting_hold channel there =
      all_weaker (λ d. IsIn d (carried_of channel.waiting)) Holds (λ d is. inl (channel, there, is)) (carried_of channel.waiting)
      (each_in [] (carried_of channel.waiting))

  goes_from : (new : Channel) (d : Descriptor) → GoesOn (IsSentBy sender) (get S.chans c) new → IsIn d (carried_of new.waiting) → Holds d
  goes_from new d (empties bare) is = absurd (none d is.0 is.1 (sym (ap carried_of bare) ∙ is.2))
  goes_from new d (draws was m there waiting left) is =
      in_all Holds d (carried_of (sends_after m was.waiting)) (after_all Holds was.waiting m (waiting_hold was there))
      (subst (λ sends. IsIn d (carried_of sends)) waiting is)
  goes_from new d (adds was send there waiting left sent) is =
      in_all Holds d (carried_of (was.waiting ++ send ∷ []))
      (subst (AllByRecursion Holds) (sym (carried_both was.waiting (send ∷ [])))
      (all_both Holds (carried_of was.waiting) (send.carried ++ []) (waiting_hold was there)
      (all_both Holds send.carried [] (all_weaker (Stands sender.0 sender.1) Holds (λ x h. inr h) send.carried (are_sent sender send.carried sent)) tt)))
      (subst (λ sends. IsIn d (carried_of sends)) waiting is)

-- ---- updates

module _ (S : State) (sender : Sender) where
  -- what waits in this state waited in the first, or is sent
  abbrev FromBefore : State → Type 0
  FromBefore T = (c : ℕ) (d : Descriptor) → Waits T c d → Waits S c d ⊎ Stands sender.0 sender.1 d

  one_from : (u : Update) (T : State) → FromBefore T → CarriesOn S sender u → FromBefore (put_one u T)
  one_from (set_chan e channel) T from carries c d waits =
      elim (eqb_tells c e) [
        | inl is ↦ (
            let now : get (insert T.chans e channel) e ≡ Some waits.0 = subst (λ k. get (insert T.chans e channel) k ≡ Some waits.0) is.1 waits.1 in
            let same : waits.0 ≡ channel = same_value waits.0 channel (get (insert T.chans e channel) e) now (get-insert-same T.chans e channel) in
            subst (λ k. Waits S k d ⊎ Stands sender.0 sender.1 d) (sym is.1)
            (goes_from S sender e channel d carries.0 (subst (λ (x : Channel). IsIn d (carried_of x.waiting)) same waits.2)))
        | inr other ↦ from c d (waits.0, sym (get-insert-other T.chans e channel c other.1) ∙ waits.1, waits.2)
      ]
  one_from u T from carries c d waits = from c d waits

  all_from : (us : List Update) (T : State) → FromBefore T → AllByRecursion (CarriesOn S sender) us → FromBefore (put_all us T)
  all_from [] T from carries = from
  all_from (u ∷ us) T from carries = all_from us (put_one u T) (one_from u T from carries.0) carries.1

-- ---- the release

left_is_in : (reader writer : Bool) (channel : Channel) (d : Descriptor) → IsIn d (carried_of (channel_left reader writer channel).waiting)
    → IsIn d (carried_of channel.waiting)
left_is_in true true channel d is = absurd (none d is.0 is.1 is.2)
left_is_in true false channel d is = absurd (none d is.0 is.1 is.2)
left_is_in false true channel d is = is
left_is_in false false channel d is = is

pub released_waits : (S : State) (c : ℕ) (d : Descriptor) → Waits (release S) c d → Waits S c d
released_waits S c d waits =
    let was = was_channel (loses_reader S (ends S) c) (loses_writer S (ends S) c) (get S.chans c) waits.0 (sym (channel_released S c) ∙ waits.1) in (
      was.0,
      was.1,
      left_is_in (loses_reader S (ends S) c) (loses_writer S (ends S) c) was.0 d
          (subst (λ (x : Channel). IsIn d (carried_of x.waiting)) (sym was.2) waits.2),
    )

-- ---- steps

parked_waits : (a : Answer) (who : Who) (thread : Thread) (V : State) (c : ℕ) (d : Descriptor) → Waits (waits_if a who thread V) c d → Waits V c d
parked_waits (answer.Parked writes) who thread V c d waits = waits
parked_waits (answer.Reply reply) who thread V c d waits = waits

-- the descriptor stands in the process's table under one of these numbers
abbrev StandsFor : State → ℕ → List ℕ → Descriptor → Type 0
StandsFor S p fds d = (table : Table) × (get S.tables p ≡ Some table) × Stands table fds d

outcome_from : (constants : Constants) (S : State) (who : Who) (call : Call) (c : ℕ) (d : Descriptor) → IsNearlyValid (tick S)
    → Waits (put_all (outcome constants S who call).updates (tick S)) c d → Waits S c d ⊎ StandsFor S who.pid (meaning_of call).sends d
outcome_from constants S who call c d nearly =
    outcome_holds (λ (o : Outcome). Waits (put_all o.updates (tick S)) c d → Waits S c d ⊎ StandsFor S who.pid (meaning_of call).sends d) constants S who call
    (λ reply is waits. inl waits)
    (λ table own waits.
    elim (all_from (tick S) (table, (meaning_of call).sends, may_send (meaning_of call).errors) ((meaning_of call).effect constants (whole (tick S)) who table).updates
    (tick S) (λ e x h. inl h)
    ((proper call).carries constants (tick S) who table nearly) c d waits) [
      | inl before ↦ inl before
      | inr stands ↦ inr (table, own, stands)
    ])

step_from : (constants : Constants) (S : State) (who : Who) (call : Call) (given : Answer) (T : State) (c : ℕ) (d : Descriptor) → IsNearlyValid (tick S)
    → IsStep constants S who call given T → Waits T c d → Waits S c d ⊎ StandsFor S who.pid (meaning_of call).sends d
step_from constants S who call given T c d nearly (inl done) waits =
    let U = unreleased constants S who call in
    let after : Waits (release U) c d = subst (λ (V : State). Waits V c d) done.1 waits in
    outcome_from constants S who call c d nearly
    (parked_waits (step_answer constants S who call) who (waiting constants call who (S.clock + 1000)) (put_all (outcome constants S who call).updates (tick S)) c d
    (released_waits U c d after))
step_from constants S who call given T c d nearly (inr lacking) waits = inl (subst (λ (V : State). Waits V c d) lacking.2 waits)

succeeds_or : (errno : Errno) → (errno ≡ Success) ⊎ (errno ≢ Success)
succeeds_or Success = inl refl
succeeds_or errno = inr (λ e. cc)

replied_from : (constants : Constants) (S : State) (who : Who) (call : Call) (reply : Reply) (T : State) (c : ℕ) (d : Descriptor) → IsValid S
    → IsStep constants S who call (answer.Reply reply) T → Waits T c d → (reply.errno ≡ Success) ⊎ (reply.errno ≢ Success)
    → Waits S c d ⊎ IsSent S who call (answer.Reply reply) d
replied_from constants S who call reply T c d valid step waits (inr error) =
    inl (subst (λ (V : State). Waits V c d) (error_keeps constants S who call reply T step valid error) waits)
replied_from constants S who call reply T c d valid step waits (inl success) =
    elim (step_from constants S who call (answer.Reply reply) T c d (tick_nearly_valid S valid.nearly) step waits) [
      | inl was ↦ inl was
      | inr held ↦ (
          let at : Stands held.0 (meaning_of call).sends d = held.2 in
          inr (record { reply = reply; is = refl; success = success; table = held.0; own = held.1; n = at.0; listed = at.1; here = at.2 }))
    ]

pub waiting_was_held : WaitingWasHeld
waiting_was_held constants S who call (answer.Parked writes) T c d valid step waits =
    inl (subst (λ (V : State). Waits V c d) (parking_changes constants S who call writes T step valid).1 waits)
waiting_was_held constants S who call (answer.Reply reply) T c d valid step waits =
    replied_from constants S who call reply T c d valid step waits (succeeds_or reply.errno)

pub end_carries_nothing : EndCarriesNothing
end_carries_nothing S p status c d waits = released_waits (end_unreleased S p status) c d (subst (λ (V : State). Waits V c d) (end_is S p status) waits)
