-- What a release leaves.
--     released_to      the whole state, with the clock and the streams, at which it doesn't look
--     kept_released      what the code keeps of it
--     released_is_held      whomever it concerns that something has ended is left
use Rattle.std.proofs.Common.{◌≡◌, ℕ, ◌^◌, sym, ap, subst, ◌∙◌}
use Rattle.std.specs.Ordering.{nat_cmp}
use Rattle.std.specs.FinMap.{FinMap}
use Rattle.channel_calls.specs.Calls.{AreFew}
use Rattle.fd_table.specs.Sizes.{KeysBelow}
use Rattle.kernel_model.specs.Release.{release}
use Rattle.kernel_model.specs.State.{State, tree_of}
use Rattle.kernel_model.specs.Valid.{IsNearlyValid, IsValid}
use Rattle.kernel_model.proofs.Valids.{release_restores}
use Rattle.kernel_parts.specs.Released.{state_by}
use Rattle.kernel_parts.specs.Touched.{IsTouched}
use Rattle.kernel_parts.specs.Touching.{HasNoLast}
use Rattle.kernel_parts.proofs.LeftEntries.{no_last_kept}
use Rattle.kernel_parts.proofs.Releases.{release_besides}
use Rattle.wait_set.specs.Waits.{WaitMap}
use Rattle.readiness_laws.specs.Watched.{looked_at}
use Rattle.readiness_laws.proofs.Watched.{touched_is_watched}
use Rattle.kernel_invariant.specs.Held.{AreHeld, IsKept}
use Rattle.kernel_invariant.proofs.Channels.{AreCounted}
use Rattle.kernel_invariant.proofs.Kept.{AreSmall, below_released, small_released}

-- what the release is given of a state
abbrev pub parts : State → State
parts U = state_by U.tables U.processes U.statuses U.opens U.chans (tree_of U)

pub released_to : (U given left : State) → given ≡ parts U → left ≡ release given → record left { clock = U.clock; terms = U.terms } ≡ release U
released_to U given left is done =
    ap (λ (S : State). record S { clock = U.clock; terms = U.terms }) (done ∙ ap release is) ∙ sym (release_besides (parts U) U.clock U.terms)

pub kept_released : (U T : State) (counts : FinMap nat_cmp ℕ) → T ≡ release U → IsNearlyValid U → AreCounted counts T.tables T.chans → AreFew T.chans
    → AreSmall U.tables → KeysBelow (2 ^ 32) U.tables → IsKept T counts
kept_released U T counts is nearly counted few small below =
    let tables = ap (λ (S : State). S.tables) is in
    record {
      valid = subst IsValid (sym is) (release_restores U nearly);
      counted = counted;
      few = few;
      small = subst AreSmall (sym tables) (small_released U small);
      processes = subst (KeysBelow (2 ^ 32)) (sym tables) (below_released U (2 ^ 32) below);
    }

pub released_is_held : (U T given : State) (V W : WaitMap) → given ≡ parts U → AreHeld (looked_at U) V → (HasNoLast V → IsTouched given (parts T) V W)
    → T.clock ≡ U.clock → AreHeld (looked_at T) W
released_is_held U T given V W is held ended clock =
    let by : IsTouched (parts U) (parts T) V W = subst (λ (X : State). IsTouched X (parts T) V W) is (ended held.last) in
    record {
      watched = touched_is_watched U T V W held.watched (record {
        kept = by.kept;
        gone = by.gone;
        stay = λ p t w small there. let same = by.stay p t w small there in record { thread = same.thread; table = same.table };
        channels = by.channels;
        ends = by.ends;
        rows = by.rows;
        threads = by.threads;
        clock = clock;
      });
      last = no_last_kept (parts U) (parts T) V W by held.last;
    }
