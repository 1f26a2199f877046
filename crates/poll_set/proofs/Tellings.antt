-- The events of what is ready, one subscription after another.
--     silent_here, told_here      from one place on, by what the first subscription there is told
--     appended, some_told      one event more, and some event among more
--     on_err_any      what holds anyway holds where there is an error
use Rattle.std.proofs.Common.{◌≡◌, ℕ, suc, ◌+◌, ◌<◌, true, List, [], ◌∷◌, ◌++◌, drop, get_or, length, Option, Some, None, is_some, Result, Ok, Err, OnErr, refl, sym, ap, ◌∙◌, arith}
use Rattle.std.proofs.Math.Seq.{drop-cons}
use Rattle.abi_structures.specs.declared.events.Event.{Event}
use Rattle.abi_structures.specs.declared.events.Subscription.{Subscription}
use Rattle.abi_types.specs.declared.constants.Constants.{Constants}
use Rattle.kernel_model.specs.Families.Polls.{and_event, event_now, events_now}
use Rattle.kernel_model.specs.State.{Table}
use Rattle.kernel_model.specs.View.{View}
use Rattle.kernel_model.proofs.Tests.{not_true}
use Rattle.poll_set.specs.Polls.{is_told}

told_with : (o : Option Event) (events : List Event) → is_some o ≡ true → is_told (and_event o events) ≡ true
told_with None events some = absurd (not_true some)
told_with (Some event) events some = refl

pub some_told : (before after : List Event) (event : Event) → is_told (before ++ event ∷ after) ≡ true
some_told [] after event = refl
some_told (first ∷ before) after event = refl

-- one more event comes before what is left
pub appended : (before rest : List Event) (event : Event) → (before ++ event ∷ []) ++ rest ≡ before ++ event ∷ rest
appended [] rest event = refl
appended (first ∷ before) rest event = ap (λ events. first ∷ events) (appended before rest event)

pub on_err_any : {X E A : Type 0} (r : Result X E) → A → OnErr r A
on_err_any (Ok x) a = tt
on_err_any (Err e) a = a

module _ (constants : Constants) (v : View) (since : ℕ) (table : Table) (subs : List Subscription) (i : ℕ) (d : Subscription) (o : Option Event)
    (within : i < length subs) (is : o ≡ event_now constants v since table (get_or subs i d).userdata (get_or subs i d).what) where
  from : events_now constants v since table (drop i subs) ≡ and_event o (events_now constants v since table (drop (i + 1) subs))
  from =
      let next : suc i ≡ i + 1 = omega arith in
      ap (events_now constants v since table) (drop-cons subs i d within ∙ ap (λ j. get_or subs i d ∷ drop j subs) next)
      ∙ ap (λ e. and_event e (events_now constants v since table (drop (i + 1) subs))) (sym is)

  -- one that isn't ready is passed over
  pub silent_here : o ≡ None → events_now constants v since table (drop (i + 1) subs) ≡ events_now constants v since table (drop i subs)
  silent_here none = sym (from ∙ ap (λ e. and_event e (events_now constants v since table (drop (i + 1) subs))) none)

  pub told_here : (event : Event) → o ≡ Some event → events_now constants v since table (drop i subs) ≡ event ∷ events_now constants v since table (drop (i + 1) subs)
  told_here event some = from ∙ ap (λ e. and_event e (events_now constants v since table (drop (i + 1) subs))) some

  pub is_told_here : is_some o ≡ true → is_told (events_now constants v since table (drop i subs)) ≡ true
  is_told_here some = ap is_told from ∙ told_with o (events_now constants v since table (drop (i + 1) subs)) some
