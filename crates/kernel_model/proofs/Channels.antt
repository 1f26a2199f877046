-- Channels of valid states, as opens come and go.
--     all_more      what holds of each item of a list, where more holds of each
--     no_readers_over, carriers_kept      a channel that is over carries nothing, so its end takes no carrier away
--     channel_released, was_channel      what becomes of a channel with a release, and what it was before
--     opens_joined      the channels of a state with other opens, where none is missing
--     left_joined      the channels that a release leaves
use Rattle.std.proofs.Common.{◌≡◌, ◌≢◌, ℕ, ◌+◌, ◌<◌, ◌&&◌, not, Bool, true, false, cond, List, [], ◌∷◌, ◌++◌, Option, Some, None, refl, sym, ap, subst, ◌∙◌, arith}
use Rattle.std.proofs.lemmas.Bool.{eq-eqb}
use Rattle.std.specs.Ordering.{nat_cmp}
use Rattle.std.specs.FinMap.{FinMap, get}
use Rattle.std.specs.List.{AllByRecursion}
use Rattle.std.specs.Option.{option_map}
use Rattle.abi_types.specs.declared.descriptor.Descriptor.{Descriptor}
use Rattle.abi_types.specs.declared.open_kind.OpenKind.{OpenKind}
use Rattle.maps.specs.Maps.{get-retain, total_same, weight}
use Rattle.kernel_model.specs.Channels.{Channel, Send, Gone, IsChannel, carried_of, channel_left, is_empty, is_gone, is_over}
use Rattle.kernel_model.specs.Release.{carried_in, carriers, count_carried, count_sent, ends, is_channel_kept, is_reader, is_writer, kept_channel, loses_reader, loses_writer, names_open, release, without_ended}
use Rattle.kernel_model.specs.State.{State}
use Rattle.kernel_model.specs.Valid.{AreJoined, IsJoined, IsNamed}
use Rattle.kernel_model.proofs.Ends.{channel_after}
use Rattle.kernel_model.proofs.Tests.{none_is_no, not_true, same_some}

-- ---- lists

pub all_more : {X : Type 0} (P Q : X → Type 0) → ((x : X) → P x → Q x) → (xs : List X) → AllByRecursion P xs → AllByRecursion Q xs
all_more P Q more [] h = tt
all_more P Q more (x ∷ xs) h = (more x h.0, all_more P Q more xs h.1)

pub all_both : {X : Type 0} (P : X → Type 0) (xs ys : List X) → AllByRecursion P xs → AllByRecursion P ys → AllByRecursion P (xs ++ ys)
all_both P [] ys h k = k
all_both P (x ∷ xs) ys h k = (h.0, all_both P xs ys h.1 k)

pub all_first : {X : Type 0} (P : X → Type 0) (xs ys : List X) → AllByRecursion P (xs ++ ys) → AllByRecursion P xs
all_first P [] ys h = tt
all_first P (x ∷ xs) ys h = (h.0, all_first P xs ys h.1)

pub all_last : {X : Type 0} (P : X → Type 0) (xs ys : List X) → AllByRecursion P (xs ++ ys) → AllByRecursion P ys
all_last P [] ys h = h
all_last P (x ∷ xs) ys h = all_last P xs ys h.1

-- ---- what a channel carries

count_both : (o : ℕ) (xs ys : List Descriptor) → count_carried o (xs ++ ys) ≡ count_carried o xs + count_carried o ys
count_both o [] ys = omega arith
count_both o (x ∷ xs) ys = let rest = count_both o xs ys in omega arith

pub count_all : (o : ℕ) (sends : List Send) → count_carried o (carried_of sends) ≡ count_sent o sends
count_all o [] = refl
count_all o (send ∷ sends) =
    let both = count_both o send.carried (carried_of sends) in
    let rest = count_all o sends in
    omega arith

both_true : (a b : Bool) → (a && b) ≡ true → (a ≡ true) × (b ≡ true)
both_true true b h = (refl, h)
both_true false b h = absurd (not_true h)

empty_weighs_none : (o : ℕ) (sends : List Send) → is_empty sends ≡ true → count_sent o sends ≡ 0
empty_weighs_none o [] h = refl
empty_weighs_none o (send ∷ sends) h = absurd (not_true h)

over_weighs_none : (o : ℕ) (x : Option Channel) → weight (carried_in o) (kept_channel x) ≡ weight (carried_in o) x
over_weighs_none o None = refl
over_weighs_none o (Some channel) =
    elim (is_over channel) as (λ b. is_over channel ≡ b → weight (carried_in o) (cond (not b) (Some channel) None) ≡ carried_in o channel) [
      | true ↦ λ e. sym (empty_weighs_none o channel.waiting
          (both_true (is_gone channel.writer) (is_empty channel.waiting)
          (both_true (is_gone channel.reader) (is_gone channel.writer && is_empty channel.waiting) e).1).1)
      | false ↦ λ e. refl
    ] refl

-- a channel after the release
pub channel_released : (S : State) (c : ℕ)
    → get (release S).chans c ≡ kept_channel (option_map (channel_left (loses_reader S (ends S) c) (loses_writer S (ends S) c)) (get S.chans c))
channel_released S c =
    get-retain (without_ended S).chans (λ e. is_channel_kept (get (without_ended S).chans e)) c
    ∙ ap kept_channel (channel_after S (ends S) c)

-- the channels that go with the release carried nothing
pub carriers_kept : (S : State) (o : ℕ) → carriers (release S) o ≡ carriers (without_ended S) o
carriers_kept S o =
    total_same (carried_in o) (carried_in o) (release S).chans (without_ended S).chans (λ c.
    ap (weight (carried_in o)) (get-retain (without_ended S).chans (λ e. is_channel_kept (get (without_ended S).chans e)) c)
    ∙ over_weighs_none o (get (without_ended S).chans c))

-- a channel that is there after a release was there before
pub was_channel : (reader writer : Bool) (o : Option Channel) (channel : Channel) → kept_channel (option_map (channel_left reader writer) o) ≡ Some channel
    → (before : Channel) × (o ≡ Some before) × (channel_left reader writer before ≡ channel)
was_channel reader writer None channel e = absurd (none_is_no channel e)
was_channel reader writer (Some before) channel e =
    elim (is_over (channel_left reader writer before)) as (λ b.
    cond (not b) (Some (channel_left reader writer before)) None ≡ Some channel
    → (was : Channel) × (Some before ≡ Some was) × (channel_left reader writer was ≡ channel)) [
      | true ↦ λ h. absurd (none_is_no channel h)
      | false ↦ λ h. (before, refl, same_some (channel_left reader writer before) channel h)
    ] e

-- ---- the channels of a state with other opens

-- what is an end of a channel is one still
abbrev pub KeepsEnds : FinMap nat_cmp OpenKind → FinMap nat_cmp OpenKind → ℕ → Type 0
KeepsEnds before after c =
    ((o : ℕ) → is_reader c (get before o) ≡ true → is_reader c (get after o) ≡ true)
    × ((o : ℕ) → is_writer c (get before o) ≡ true → is_writer c (get after o) ≡ true)

pub opens_joined : (before after : FinMap nat_cmp OpenKind) (chans : FinMap nat_cmp Channel)
    → ((d : Descriptor) → IsNamed (get before d.id) d → IsNamed (get after d.id) d) → ((c : ℕ) → KeepsEnds before after c) → AreJoined before chans
    → AreJoined after chans
opens_joined before after chans names ends joined c channel there =
    let is = joined c channel there in record {
      sound = is.sound;
      carried = all_more (λ d. IsNamed (get before d.id) d) (λ d. IsNamed (get after d.id) d) names (carried_of channel.waiting) is.carried;
      read = λ still. let one = is.read still in (one.0, (ends c).0 one.0 one.1);
      written = λ still. let one = is.written still in (one.0, (ends c).1 one.0 one.1);
    }

-- ---- the channels that a release leaves

pub left_sound : (reader writer : Bool) (channel : Channel) → IsChannel channel → IsChannel (channel_left reader writer channel)
left_sound true true channel h = record { whole = tt; bytes = omega arith; carried = omega arith; read = λ _. refl }
left_sound true false channel h = record { whole = tt; bytes = omega arith; carried = omega arith; read = λ _. refl }
left_sound false true channel h = record { whole = h.whole; bytes = h.bytes; carried = h.carried; read = h.read }
left_sound false false channel h = h

-- the first descriptor of a list is counted there
first_counts : (d : Descriptor) (ds : List Descriptor) → 0 < count_carried d.id (d ∷ ds)
first_counts d ds =
    let one : names_open d.id d ≡ 1 = ap (λ b. cond b 1 0) (eq-eqb d.id d.id refl) in
    omega arith

module _ (before after : FinMap nat_cmp OpenKind) where
  still_named : (ds : List Descriptor) → ((o : ℕ) → 0 < count_carried o ds → get after o ≡ get before o)
      → AllByRecursion (λ d. IsNamed (get before d.id) d) ds → AllByRecursion (λ d. IsNamed (get after d.id) d) ds
  still_named [] keeps h = tt
  still_named (d ∷ ds) keeps h = (
    subst (λ o. IsNamed o d) (sym (keeps d.id (first_counts d ds))) h.0,
    still_named ds (λ o some. keeps o (let all : count_carried o (d ∷ ds) ≡ names_open o d + count_carried o ds = refl in omega (arith, some, all))) h.1,
  )

  -- where what waits keeps its open, and an end that was not lost does
  pub left_joined : (reader writer : Bool) (c : ℕ) (channel : Channel) → IsJoined before c channel
      → ((o : ℕ) → 0 < carried_in o (channel_left reader writer channel) → get after o ≡ get before o)
      → (reader ≡ false → (o : ℕ) → is_reader c (get before o) ≡ true → is_reader c (get after o) ≡ true)
      → (writer ≡ false → (o : ℕ) → is_writer c (get before o) ≡ true → is_writer c (get after o) ≡ true)
      → IsJoined after c (channel_left reader writer channel)
  left_joined reader writer c channel is keeps reads writes = record {
    sound = left_sound reader writer channel is.sound;
    carried = still_named (carried_of (channel_left reader writer channel).waiting)
        (λ o some. keeps o (subst (λ n. 0 < n) (count_all o (channel_left reader writer channel).waiting) some)) (left_named reader writer);
    read = read_left reader writer reads;
    written = written_left reader writer writes;
  } where
    left_named : (reader writer : Bool) → AllByRecursion (λ d. IsNamed (get before d.id) d) (carried_of (channel_left reader writer channel).waiting)
    left_named true true = tt
    left_named true false = tt
    left_named false true = is.carried
    left_named false false = is.carried

    read_left : (reader writer : Bool) → (reader ≡ false → (o : ℕ) → is_reader c (get before o) ≡ true → is_reader c (get after o) ≡ true)
        → (channel_left reader writer channel).reader ≢ Gone → (o : ℕ) × (is_reader c (get after o) ≡ true)
    read_left true true reads still = absurd (still refl)
    read_left true false reads still = absurd (still refl)
    read_left false true reads still = let one = is.read still in (one.0, reads refl one.0 one.1)
    read_left false false reads still = let one = is.read still in (one.0, reads refl one.0 one.1)

    written_left : (reader writer : Bool) → (writer ≡ false → (o : ℕ) → is_writer c (get before o) ≡ true → is_writer c (get after o) ≡ true)
        → (channel_left reader writer channel).writer ≢ Gone → (o : ℕ) × (is_writer c (get after o) ≡ true)
    written_left true true writes still = absurd (still refl)
    written_left false true writes still = absurd (still refl)
    written_left true false writes still = let one = is.written still in (one.0, writes refl one.0 one.1)
    written_left false false writes still = let one = is.written still in (one.0, writes refl one.0 one.1)
