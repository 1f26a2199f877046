-- What shutting sides does to channels and to counts.
use Rattle.std.proofs.Common.{◌≡◌, ◌≢◌, ℕ, ◌+◌, ◌==◌, ◌&&◌, not, inl, inr, Bool, true, false, List, [], ◌∷◌, ◌++◌, Option, None, Some, IsSome, refl, sym, ap, subst, ◌∙◌, arith}
use Rattle.std.proofs.lemmas.Bool.Decides.{eqb_tells}
use Rattle.std.specs.FinMap.{get, insert}
use Rattle.abi_types.specs.declared.descriptor.Descriptor.{Descriptor}
use Rattle.maps.specs.Halves.{not_true}
use Rattle.maps.specs.Maps.{get-insert-other, insert-again}
use Rattle.channels.specs.declared.side.Side.{Side}
use Rattle.channels.specs.declared.side.Side.TheVariants.{Reader, Writer}
use Rattle.channels.specs.Channels.{Send, Channel, carried_of, released_at, shut_at}
use Rattle.kernel_model.specs.Families.ChannelCalls.{shut_if}
use Rattle.kernel_model.specs.Release.{carried_in, count_carried, count_sent}
use Rattle.channel_calls.specs.Calls.{Channels, carriers_in, channels_after}
use Rattle.channel_calls.proofs.Sends.{carriers_with}

-- ---- counts

count_append : (o : ℕ) (ds es : List Descriptor) → count_carried o (ds ++ es) ≡ count_carried o ds + count_carried o es
count_append o [] es = omega arith
count_append o (d ∷ ds) es = omega (arith, count_append o ds es)

count_all : (o : ℕ) (waiting : List Send) → count_carried o (carried_of waiting) ≡ count_sent o waiting
count_all o [] = refl
count_all o (send ∷ waiting) = omega (arith, count_append o send.carried (carried_of waiting), count_all o waiting)

-- what waited before waits still or is released
shut_counts : (o : ℕ) (side : Side) (channel : Channel) → carried_in o channel ≡ carried_in o (shut_at side channel) + count_carried o (released_at side channel)
shut_counts o Reader channel = omega (arith, count_all o channel.waiting)
shut_counts o Writer channel = omega arith

pub carriers_shut : (o : ℕ) (channels : Channels) (c : ℕ) (side : Side) (channel : Channel) → get channels c ≡ Some channel
    → carriers_in o (insert channels c (shut_at side channel)) + count_carried o (released_at side channel) ≡ carriers_in o channels
carriers_shut o channels c side channel there =
    omega (arith, carriers_with o channels c channel (shut_at side channel) there, shut_counts o side channel)

pub some_of : (o : Option Channel) → IsSome o → (channel : Channel) × (o ≡ Some channel)
some_of None h = absurd (not_true h)
some_of (Some channel) h = (channel, refl)

-- ---- both sides

module _ (f g : Channel → Channel) (channels : Channels) (r w : ℕ) where
  one_then : (o : Option Channel) → channels_after (shut_if true f r o) channels ≡ channels_after (shut_if true f r o ++ []) channels
  one_then None = refl
  one_then (Some channel) = refl

  apart : r ≢ w → (o : Option Channel)
      → channels_after (shut_if true g w (get (channels_after (shut_if true f r o) channels) w)) (channels_after (shut_if true f r o) channels)
      ≡ channels_after (shut_if true f r o ++ shut_if true g w (get channels w)) channels
  apart n None = refl
  apart n (Some channel) =
      ap (λ x. channels_after (shut_if true g w x) (insert channels r (f channel))) (get-insert-other channels r (f channel) w (λ e. n (sym e)))

  again : (o : Option Channel) → channels_after (shut_if true g w o) channels ≡ channels_after (shut_if true f w o ++ shut_if true g w o) channels
  again None = refl
  again (Some channel) = sym (insert-again channels w (f channel) (g channel))

  -- the one after the other, where the first isn't shut that the second would be as well
  shut_each : (first second same : Bool) → (same ≡ true → r ≡ w) → (same ≡ false → r ≢ w)
      → channels_after (shut_if second g w (get (channels_after (shut_if (first && not (second && same)) f r (get channels r)) channels) w))
      (channels_after (shut_if (first && not (second && same)) f r (get channels r)) channels)
      ≡ channels_after (shut_if first f r (get channels r) ++ shut_if second g w (get channels w)) channels
  shut_each false second same alike differ = refl
  shut_each true false same alike differ = one_then (get channels r)
  shut_each true true false alike differ = apart (differ refl) (get channels r)
  shut_each true true true alike differ =
      subst (λ x. channels_after (shut_if true g w (get channels w)) channels ≡ channels_after (shut_if true f x (get channels x) ++ shut_if true g w (get channels w)) channels)
      (sym (alike refl)) (again (get channels w))

  pub shut_in_turn : (first second : Bool)
      → channels_after (shut_if second g w (get (channels_after (shut_if (first && not (second && r == w)) f r (get channels r)) channels) w))
      (channels_after (shut_if (first && not (second && r == w)) f r (get channels r)) channels)
      ≡ channels_after (shut_if first f r (get channels r) ++ shut_if second g w (get channels w)) channels
  shut_in_turn first second =
      elim (eqb_tells r w) [
        | inl same ↦ shut_each first second (r == w) (λ _. same.1) (λ e. absurd (not_true (sym e ∙ same.0)))
        | inr other ↦ shut_each first second (r == w) (λ e. absurd (not_true (sym other.0 ∙ e))) (λ _. other.1)
      ]
