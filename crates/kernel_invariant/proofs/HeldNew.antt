-- The entries of waiting threads as something is made: nobody stands at a channel or an open that wasn't there, since what is valid names none.
--     StaysIn old new, stays_beside      what a map has stays in it
--     opens_beside, new_channels_are_held, new_statuses_are_held      opens, channels and processes are made
--     same_threads_are_held      what a process has of its own has changed, but not its threads
--     pair_is_held      two ends are made, at two numbers of a process
--     opening_is_held      an open is made, at a number of a process
use Rattle.std.proofs.Common.{◌≡◌, ◌≢◌, ℕ, ◌+◌, ◌^◌, ◌<◌, ◌||◌, true, inl, inr, Option, None, Some, IsSome, is_some, refl, sym, ap, subst, ◌∙◌, arith}
use Rattle.std.proofs.lemmas.Bool.Decides.{eqb_tells}
use Rattle.std.specs.Ordering.{nat_cmp}
use Rattle.std.specs.Option.{option_map}
use Rattle.std.specs.FinMap.{FinMap, get, insert}
use Rattle.abi_types.specs.declared.descriptor.Descriptor.{Descriptor}
use Rattle.abi_types.specs.declared.open_kind.OpenKind.{OpenKind}
use Rattle.abi_types.specs.declared.open_kind.OpenKind.TheVariants.{End, Process}
use Rattle.abi_types.specs.declared.status.Status.{Status}
use Rattle.channel_calls.specs.Calls.{Channels}
use Rattle.channel_calls.specs.Pairs.{AreNew, channels_with, end_one, end_two, model_of, number_one, number_two, opens_with}
use Rattle.channel_calls.specs.declared.pairs.Pair.{Pair}
use Rattle.channel_calls.specs.declared.pairs.PairKind.{PairKind}
use Rattle.channel_calls.specs.declared.pairs.PairKind.TheVariants.{Fifo, Stream}
use Rattle.maps.specs.Maps.{get-insert-other, get-insert-same, insert-again}
use Rattle.kernel_model.specs.Channels.{new_channel}
use Rattle.kernel_model.specs.Families.Numbers.{made_more}
use Rattle.kernel_model.specs.Families.SocketCalls as model
use Rattle.kernel_model.specs.Release.{is_of_process, is_reader, is_writer}
use Rattle.kernel_model.specs.State.{ProcessState, State, Table, thread_in, thread_of}
use Rattle.kernel_model.specs.Valid.{IsNamed, IsNearlyValid}
use Rattle.kernel_model.specs.Waits.{MayWait}
use Rattle.kernel_model.proofs.Tests.{either_true, none_is_no, not_true}
use Rattle.kernel_parts.specs.Touching.{HasEach, spread_if}
use Rattle.wait_set.specs.Waits.{WaitMap}
use Rattle.readiness_laws.specs.PlaceLaws.{row_in}
use Rattle.readiness_laws.specs.Spots.{bare, never_waits}
use Rattle.readiness_laws.specs.Watched.{looked_at}
use Rattle.readiness_laws.specs.WatchedChanges.{stays}
use Rattle.readiness_laws.proofs.WatchedSets.{kept_self}
use Rattle.readiness_laws.proofs.WatchedTables.{opens_are_watched, threads_are_watched}
use Rattle.readiness_laws.proofs.WatchedTimes.{channels_are_watched, statuses_are_watched}
use Rattle.kernel_invariant.specs.Held.{AreHeld}
use Rattle.kernel_invariant.specs.Readiness.{is_concerned_in}
use Rattle.kernel_invariant.proofs.Channels.{reader_by, writer_by}
use Rattle.kernel_invariant.proofs.EndCalls.{with_pair}
use Rattle.kernel_invariant.proofs.HeldTables.{number_is_held}
use Rattle.kernel_invariant.proofs.Leaving.{with_process}

-- what a map has stays in it
abbrev pub StaysIn : {X : Type 0} → FinMap nat_cmp X → FinMap nat_cmp X → Type 0
StaysIn old new = (k : ℕ) → IsSome (get old k) → get new k ≡ get old k

pub stays_beside : {X : Type 0} (old : FinMap nat_cmp X) (k : ℕ) (x : X) → get old k ≡ None → StaysIn old (insert old k x)
stays_beside old k x none q some = get-insert-other old k x q (λ same. not_true (sym (ap is_some none) ∙ sym (ap (λ r. is_some (get old r)) same) ∙ some))

-- ---- what is valid names

named_some : (o : Option OpenKind) (d : Descriptor) → IsNamed o d → IsSome o
named_some None d named = absurd named
named_some (Some kind) d named = refl

-- each number that a process has is of an open that there is
abbrev pub NamesOpens : State → Type 0
NamesOpens S = (p n : ℕ) (d : Descriptor) → row_in (get S.tables p) n ≡ Some d → IsSome (get S.opens d.id)

pub opens_beside : (S : State) → NamesOpens S → (opens : FinMap nat_cmp OpenKind) (V : WaitMap) → StaysIn S.opens opens → AreHeld (looked_at S) V
    → AreHeld (looked_at (record S { opens = opens })) V
opens_beside S named opens V stay held = record {
  watched = opens_are_watched S opens V V held.watched (kept_self V) (λ p n d row. ap bare (stay d.id (named p n d row)))
      (λ p n c d row of. inl (ap never_waits (stay d.id (named p n d row))));
  last = held.last;
}

module _ (S : State) (valid : IsNearlyValid S) where
  pub named_row : NamesOpens S
  named_row p n d row = by_table (get S.tables p) refl row where
    by_table : (o : Option Table) → get S.tables p ≡ o → row_in o n ≡ Some d → IsSome (get S.opens d.id)
    by_table None own there = absurd (none_is_no d there)
    by_table (Some table) own there = named_some (get S.opens d.id) d (valid.named p n table d own there)

  has_channel : (c o : ℕ) → (is_reader c (get S.opens o) || is_writer c (get S.opens o)) ≡ true → IsSome (get S.chans c)
  has_channel c o of =
      elim (either_true (is_reader c (get S.opens o)) (is_writer c (get S.opens o)) of) [
        | inl reads ↦
            let end = reader_by c (get S.opens o) reads in
            ap is_some (valid.behind o (End (Some c) end.0 end.1 end.2) end.3).1.1
        | inr writes ↦
            let end = writer_by c (get S.opens o) writes in
            ap is_some (valid.behind o (End end.0 (Some c) end.1 end.2) end.3).2.1
      ]

  made_by : (q o : ℕ) (kind : Option OpenKind) → get S.opens o ≡ kind → is_of_process q kind ≡ true → IsSome (get S.statuses q)
  made_by q o (Some (Process r object)) there of =
      elim (eqb_tells r q) [
        | inl same ↦ subst (λ k. IsSome (get S.statuses k)) same.1 (valid.behind o (Process r object) there).0
        | inr other ↦ absurd (not_true (sym other.0 ∙ of))
      ]
  made_by q o kind there of = absurd (not_true of)

  pub new_channels_are_held : (chans : Channels) (V : WaitMap) → StaysIn S.chans chans → AreHeld (looked_at S) V → AreHeld (looked_at (record S { chans = chans })) V
  new_channels_are_held chans V stay held = record {
    watched = channels_are_watched S chans V V held.watched (kept_self V) (λ c p n d row of. inl (stay c (has_channel c d.id of)));
    last = held.last;
  }

  pub new_statuses_are_held : (statuses : FinMap nat_cmp Status) (V : WaitMap) → StaysIn S.statuses statuses → AreHeld (looked_at S) V
      → AreHeld (looked_at (record S { statuses = statuses })) V
  new_statuses_are_held statuses V stay held = record {
    watched = statuses_are_watched S statuses V V held.watched (kept_self V) (λ q p n d row of. inl (stay q (made_by q d.id (get S.opens d.id) refl of)));
    last = held.last;
  }

-- ---- a process whose threads do what they did

same_threads : (S : State) (p : ℕ) (own new : ProcessState) → get S.processes p ≡ Some own → new.threads ≡ own.threads
    → (q t : ℕ) → thread_of (with_process S p new) q t ≡ thread_of S q t
same_threads S p own new there same q t =
    ap (λ o. thread_in o t) (elim (eqb_tells q p) [
      | inl is ↦
          ap (λ k. option_map (λ (o : ProcessState). o.threads) (get (insert S.processes p new) k)) is.1
          ∙ ap (option_map (λ (o : ProcessState). o.threads)) (get-insert-same S.processes p new) ∙ ap Some same
          ∙ sym (ap (option_map (λ (o : ProcessState). o.threads)) there) ∙ sym (ap (λ k. option_map (λ (o : ProcessState). o.threads) (get S.processes k)) is.1)
      | inr other ↦ ap (option_map (λ (o : ProcessState). o.threads)) (get-insert-other S.processes p new q other.1)
    ])

pub same_threads_are_held : (S : State) (p : ℕ) (own new : ProcessState) (V : WaitMap) → get S.processes p ≡ Some own → new.threads ≡ own.threads
    → AreHeld (looked_at S) V → AreHeld (looked_at (with_process S p new)) V
same_threads_are_held S p own new V there same held =
    let stay = same_threads S p own new there same in
    record {
      watched = threads_are_watched S (insert S.processes p new) V V held.watched (kept_self V) (λ q t. subst MayWait (sym (stay q t)) (held.watched.may q t))
          (λ q t some. held.watched.small q t (subst IsSome (stay q t) some)) (λ q t small. stays (stay q t));
      last = held.last;
    }

-- ---- a number of a process gets a descriptor

inserted_apart : (table : Table) (fd n : ℕ) (d : Descriptor) → (Some fd ≡ Some n → ⊥) → get (insert table fd d) n ≡ get table n
inserted_apart table fd n d apart = get-insert-other table fd d n (λ same. apart (ap Some (sym same)))

pub inserted_is_held : (S : State) (p fd : ℕ) (table : Table) (d : Descriptor) (V W : WaitMap) → get S.tables p ≡ Some table → p < 2 ^ 32
    → HasEach (λ k. spread_if (is_concerned_in p fd (get S.processes p) k)) V W → AreHeld (looked_at S) V
    → AreHeld (looked_at (record S { tables = insert S.tables p (insert table fd d) })) W
inserted_is_held S p fd table d V W there few each held =
    number_is_held S p table (insert table fd d) (Some fd) V W there few (λ n apart. inserted_apart table fd n d apart) each held

-- ---- two ends

pair_opens_stay : (pair : Pair) (chans : Channels) (opens : FinMap nat_cmp OpenKind) (counts : FinMap nat_cmp ℕ) → AreNew pair chans opens counts
    → StaysIn opens (opens_with pair opens)
pair_opens_stay pair chans opens counts new k some =
    let one = stays_beside opens (number_one pair) (end_one pair) new.one k some in
    let apart : number_two pair ≢ number_one pair = λ same. omega (arith, same) in
    let two : get (insert opens (number_one pair) (end_one pair)) (number_two pair) ≡ None = get-insert-other opens (number_one pair) (end_one pair) (number_two pair) apart ∙ new.two in
    stays_beside (insert opens (number_one pair) (end_one pair)) (number_two pair) (end_two pair) two k (ap is_some one ∙ some) ∙ one

pair_channels_stay : (k : PairKind) (pair : Pair) (chans : Channels) (opens : FinMap nat_cmp OpenKind) (counts : FinMap nat_cmp ℕ) → pair.kind ≡ k → AreNew pair chans opens counts
    → StaysIn chans (channels_with (record pair { kind = k }) chans)
pair_channels_stay Fifo pair chans opens counts is new k some = stays_beside chans pair.first new_channel new.first_channel k some
pair_channels_stay Stream pair chans opens counts is new k some =
    let one = stays_beside chans pair.first new_channel new.first_channel k some in
    let apart : pair.first + 1 ≢ pair.first = λ same. omega (arith, same) in
    let two : get (insert chans pair.first new_channel) (pair.first + 1) ≡ None = get-insert-other chans pair.first new_channel (pair.first + 1) apart ∙ new.second_channel is in
    stays_beside (insert chans pair.first new_channel) (pair.first + 1) new_channel two k (ap is_some one ∙ some) ∙ one

-- opens and channels are made, of a process that counts them
made_is_held : (S : State) (p : ℕ) (own more : ProcessState) (opens : FinMap nat_cmp OpenKind) (chans : Channels) (V : WaitMap) → IsNearlyValid S
    → get S.processes p ≡ Some own → more.threads ≡ own.threads → StaysIn S.opens opens → StaysIn S.chans chans → AreHeld (looked_at S) V
    → AreHeld (looked_at (record S { processes = insert S.processes p more; opens = opens; chans = chans })) V
made_is_held S p own more opens chans V valid there same opens_stay chans_stay held =
    let channels : AreHeld (looked_at (record S { chans = chans })) V = new_channels_are_held S valid chans V chans_stay held in
    let opened : AreHeld (looked_at (record S { opens = opens; chans = chans })) V =
    opens_beside (record S { chans = chans }) (named_row S valid) opens V opens_stay channels in
    same_threads_are_held (record S { opens = opens; chans = chans }) p own more V there same opened

pub pair_is_held : (S : State) (p : ℕ) (own : ProcessState) (table : Table) (pair : Pair) (counts : FinMap nat_cmp ℕ) (V X W : WaitMap) → IsNearlyValid S → p < 2 ^ 32
    → get S.processes p ≡ Some own → get S.tables p ≡ Some table → AreNew pair S.chans S.opens counts
    → HasEach (λ k. spread_if (is_concerned_in p pair.one (get (with_pair S p own table pair).processes p) k)) V X
    → HasEach (λ k. spread_if (is_concerned_in p pair.two (get (with_pair S p own table pair).processes p) k)) X W
    → AreHeld (looked_at S) V → AreHeld (looked_at (with_pair S p own table pair)) W
pair_is_held S p own table pair counts V X W valid few there had new one two held =
    let T = with_pair S p own table pair in
    let first = model.end_descriptor (number_one pair) (end_one pair) in
    let second = model.end_descriptor (number_two pair) (end_two pair) in
    let between : Table = insert table pair.one first in
    let made : AreHeld (looked_at (record T { tables = S.tables })) V =
    made_is_held S p own (made_more (model.count_of (model_of pair.kind)) own) T.opens T.chans V valid there refl
    (pair_opens_stay pair S.chans S.opens counts new) (pair_channels_stay pair.kind pair S.chans S.opens counts refl new) held in
    let half : AreHeld (looked_at (record T { tables = insert S.tables p between })) X =
    inserted_is_held (record T { tables = S.tables }) p pair.one table first V X had few one made in
    subst (λ tables. AreHeld (looked_at (record T { tables = tables })) W) (insert-again S.tables p between (insert between pair.two second))
    (inserted_is_held (record T { tables = insert S.tables p between }) p pair.two between second X W (get-insert-same S.tables p between) few two half)

-- ---- an open

pub opening_is_held : (S : State) (p fd o : ℕ) (own more : ProcessState) (table : Table) (d : Descriptor) (kind : OpenKind) (V W : WaitMap) → IsNearlyValid S → p < 2 ^ 32
    → get S.processes p ≡ Some own → more.threads ≡ own.threads → get S.tables p ≡ Some table → get S.opens o ≡ None
    → HasEach (λ k. spread_if (is_concerned_in p fd (get (insert S.processes p more) p) k)) V W → AreHeld (looked_at S) V
    → AreHeld (looked_at (record S {
      processes = insert S.processes p more;
      opens = insert S.opens o kind;
      tables = insert S.tables p (insert table fd d);
    })) W
opening_is_held S p fd o own more table d kind V W valid few there same had new each held =
    let opens = insert S.opens o kind in
    let opened : AreHeld (looked_at (record S { opens = opens })) V = opens_beside S (named_row S valid) opens V (stays_beside S.opens o kind new) held in
    let counted : AreHeld (looked_at (record S { opens = opens; processes = insert S.processes p more })) V =
    same_threads_are_held (record S { opens = opens }) p own more V there same opened in
    inserted_is_held (record S { opens = opens; processes = insert S.processes p more }) p fd table d V W had few each counted
