-- The entries of waiting threads where nothing changes at which they look.
--     moved_open_held      an open has another offset
--     drawn_left, named_threads      what draws random words, and what makes names, leaves threads the same
use Rattle.std.proofs.Common.{◌≡◌, ℕ, Bool, true, false, Option, Some, Result, Ok, Err, inl, inr, refl, sym, ap, subst, ◌∙◌}
use Rattle.std.proofs.lemmas.Bool.Decides.{eqb_tells}
use Rattle.std.specs.Prelude.{if◌then◌else◌}
use Rattle.std.specs.FinMap.{get, insert}
use Rattle.std.specs.declared.alloc.AllocError.{AllocError}
use Rattle.abi_types.specs.declared.constants.Constants.{Constants}
use Rattle.abi_types.specs.declared.reply.Answer.{Answer}
use Rattle.abi_types.specs.declared.open_kind.OpenKind.{OpenKind}
use Rattle.kernel_model.specs.Families.ClockCalls.{drawn_by}
use Rattle.kernel_model.specs.Families.NameMeaning.{NameOutcome, Changes, LeadsOut, Refuses}
use Rattle.kernel_model.specs.Families.Numbers.{can_number, made_more}
use Rattle.kernel_model.specs.State.{ProcessState, State}
use Rattle.kernel_model.proofs.ClockCalls.{drawn_holds}
use Rattle.kernel_model.proofs.Tests.{same_some}
use Rattle.kernel_parts.specs.Entries.{process_left}
use Rattle.kernel_parts.specs.OwnCalls.{own_after, IsOwnDone}
use Rattle.maps.specs.Maps.{get-insert-other, get-insert-same}
use Rattle.wait_set.specs.Waits.{WaitMap}
use Rattle.readiness_laws.specs.Spots.{bare, never_waits}
use Rattle.readiness_laws.specs.Watched.{looked_at}
use Rattle.readiness_laws.proofs.WatchedSets.{kept_self}
use Rattle.readiness_laws.proofs.WatchedTables.{opens_are_watched}
use Rattle.kernel_invariant.specs.Held.{AreHeld}

-- ---- a process

drawn_threads : (constants : Constants) (p : ℕ) (own : ProcessState) (length : ℕ) → (own_after (drawn_by constants p (Some own) length).updates own).threads ≡ own.threads
drawn_threads constants p own length =
    drawn_holds (λ o. (own_after o.updates own).threads ≡ own.threads) constants p (Some own) length refl
    (λ had there. ap (λ (x : ProcessState). x.threads) (sym (same_some own had there)))

pub drawn_left : (constants : Constants) (p : ℕ) (own new : ProcessState) (length : ℕ) (r : Result Answer AllocError)
    → IsOwnDone (drawn_by constants p (Some own) length) own new r → new.threads ≡ own.threads
drawn_left constants p own new length (Ok given) done = ap (λ (x : ProcessState). x.threads) done.1 ∙ drawn_threads constants p own length
drawn_left constants p own new length (Err error) done = ap (λ (x : ProcessState). x.threads) done.1

pub named_threads : (p new_nodes : ℕ) (own : ProcessState) (comes : NameOutcome) → (process_left p new_nodes own comes).threads ≡ own.threads
named_threads p new_nodes own (Refuses errno) = refl
named_threads p new_nodes own (LeadsOut component) = refl
named_threads p new_nodes own (Changes change) = by_room (can_number p new_nodes (Some own)) where
  by_room : (b : Bool) → (if b then made_more new_nodes own else own).threads ≡ own.threads
  by_room true = refl
  by_room false = refl

-- ---- an open

pub moved_open_held : (S : State) (o : ℕ) (kind new : OpenKind) (V : WaitMap) → get S.opens o ≡ Some kind
    → (bare (Some new) ≡ bare (Some kind)) × (never_waits (Some new) ≡ never_waits (Some kind)) → AreHeld (looked_at S) V
    → AreHeld (looked_at (record S { opens = insert S.opens o new })) V
moved_open_held S o kind new V there same held = record {
  watched = opens_are_watched S (insert S.opens o new) V V held.watched (kept_self V) (λ p n d row. still bare same.0 d.id) (λ p n c d row of. inl (still never_waits same.1 d.id));
  last = held.last;
} where
  still : {A : Type 0} (f : Option OpenKind → A) → f (Some new) ≡ f (Some kind) → (x : ℕ) → f (get (insert S.opens o new) x) ≡ f (get S.opens x)
  still f alike x =
      elim (eqb_tells x o) [
        | inl is ↦ subst (λ k. f (get (insert S.opens o new) k) ≡ f (get S.opens k)) (sym is.1)
            (ap f (get-insert-same S.opens o new) ∙ alike ∙ ap f (sym there))
        | inr other ↦ ap f (get-insert-other S.opens o new x other.1)
      ]
