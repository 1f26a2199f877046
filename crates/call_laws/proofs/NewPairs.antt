-- What fd_create2 makes.
--     new_held      two opens more, each with a descriptor more, are held
--     pipes_are_joined, pairs_are_joined      a pipe, and a pair of streams
use Rattle.std.proofs.Common.{◌≡◌, ◌≢◌, inl, inr, ℕ, ◌+◌, ◌<◌, ◌≤◌, true, cond, Option, Some, None, IsSome, refl, sym, ap, subst, ◌∙◌, arith}
use Rattle.std.proofs.lemmas.Bool.{eq-eqb}
use Rattle.std.proofs.lemmas.Bool.Decides.{eqb_tells}
use Rattle.std.specs.FinMap.{get, insert}
use Rattle.abi_base.specs.declared.errno.Errno.TheVariants.{Success}
use Rattle.abi_types.specs.declared.call.Call.TheVariants.{FdCreate2}
use Rattle.abi_types.specs.declared.constants.Constants.{Constants}
use Rattle.abi_types.specs.declared.descriptor.Descriptor.{Descriptor}
use Rattle.abi_types.specs.declared.open_kind.OpenKind.{OpenKind}
use Rattle.abi_types.specs.declared.reply.Answer.TheVariants as answer
use Rattle.abi_types.specs.declared.reply.Reply.{Reply}
use Rattle.abi_types.specs.declared.who.Who.{Who}
use Rattle.maps.specs.Maps.{get-insert-same, get-insert-other, get-retain, total, total-insert, total-insert_new, weight}
use Rattle.kernel_model.specs.Channels.{new_channel}
use Rattle.kernel_model.specs.Families.DescriptorCalls.{lowest_free}
use Rattle.kernel_model.specs.Families.Numbers.{can_number, next_object}
use Rattle.kernel_model.specs.Families.SocketCalls.{Pair, pipe, pair, count_of, create, create_updates, end_descriptor, first_end, first_number, made_of, second_end, second_number, with_both, with_first}
use Rattle.kernel_model.specs.Release.{AllAreHeld, carried_in, carriers, count_in, holders, is_channel_kept, names_open, release, without_ended, without_nodes}
use Rattle.kernel_model.specs.Reply.{success}
use Rattle.kernel_model.specs.State.{ProcessState, State, Table, put_all}
use Rattle.kernel_model.specs.Step.{tick, IsStep}
use Rattle.kernel_model.specs.Valid.{IsValid}
use Rattle.kernel_model.proofs.PairCalls.{absent, create_errors, create_holds, creates}
use Rattle.kernel_model.proofs.Refusals.{same_reply}
use Rattle.kernel_model.proofs.Tests.{none_is_no, same_some}
use Rattle.kernel_model.proofs.ThreadLaws.{Comes, fails}
use Rattle.kernel_model.proofs.Valids.{ended_held}
use Rattle.call_laws.specs.PairLaws.{GivesTwo, IsNewChannel, IsPipe, IsStreamPair, PairsAreJoined, PipesAreJoined}
use Rattle.call_laws.proofs.GivenNumbers.{one_fails}
use Rattle.call_laws.proofs.Numbers.{lowest_is_lowest}
use Rattle.call_laws.proofs.Replies.{comes_by}

-- ---- two descriptors more

module _ (table : Table) (first second : ℕ) (d e : Descriptor) (one : get table first ≡ None) (two : get (insert table first d) second ≡ None) where
  abbrev table_after : Table
  table_after = insert (insert table first d) second e

  apart : first ≢ second
  apart is = none_is_no d (sym two ∙ ap (get (insert table first d)) (sym is) ∙ get-insert-same table first d)

  second_free : get table second ≡ None
  second_free = sym (get-insert-other table first d second (λ is. apart (sym is))) ∙ two

  first_at : get table_after first ≡ Some d
  first_at = get-insert-other (insert table first d) second e first apart ∙ get-insert-same table first d

  second_at : get table_after second ≡ Some e
  second_at = get-insert-same (insert table first d) second e

  others_at : (n : ℕ) → n ≢ first → n ≢ second → get table_after n ≡ get table n
  others_at n not_first not_second = get-insert-other (insert table first d) second e n not_second ∙ get-insert-other table first d n not_first

  names_more : (o : ℕ) → count_in o table_after ≡ count_in o table + names_open o d + names_open o e
  names_more o =
      let once : count_in o (insert table first d) ≡ count_in o table + names_open o d = total-insert_new (names_open o) table first d one in
      let twice : count_in o table_after ≡ count_in o (insert table first d) + names_open o e = total-insert_new (names_open o) (insert table first d) second e two in
      omega (arith, once, twice)

names_itself : (o : ℕ) (d : Descriptor) → o ≡ d.id → names_open o d ≡ 1
names_itself o d is = ap (λ k. names_open k d) is ∙ ap (λ b. cond b 1 0) (eq-eqb d.id d.id refl)

-- ---- two opens more, that these name

module _ (S V : State) (p : ℕ) (table : Table) (had : get S.tables p ≡ Some table) (first second : ℕ) (d e : Descriptor) (one : get table first ≡ None)
    (two : get (insert table first d) second ≡ None) (tables : V.tables ≡ insert S.tables p (table_after table first second d e one two)) (k j : OpenKind)
    (opens : V.opens ≡ insert (insert S.opens d.id k) e.id j) (carried : (o : ℕ) → carriers S o ≤ carriers V o) where
  held_more : (o : ℕ) → holders V o ≡ holders S o + names_open o d + names_open o e
  held_more o =
      let new : Table = table_after table first second d e one two in
      let all : holders V o ≡ total (count_in o) (insert S.tables p new) = ap (total (count_in o)) tables in
      let sums : total (count_in o) (insert S.tables p new) + weight (count_in o) (get S.tables p) ≡ holders S o + count_in o new =
      total-insert (count_in o) S.tables p new in
      let was : weight (count_in o) (get S.tables p) ≡ count_in o table = ap (weight (count_in o)) had in
      let more : count_in o new ≡ count_in o table + names_open o d + names_open o e = names_more table first second d e one two o in
      omega (arith, all, sums, was, more)

  new_held : AllAreHeld S → AllAreHeld V
  new_held before o some =
      let more = held_more o in
      let waits = carried o in
      elim (eqb_tells o e.id) [
        | inl is ↦ (let once : names_open o e ≡ 1 = names_itself o e is.1 in omega (arith, more, once))
        | inr not_second ↦ elim (eqb_tells o d.id) [
          | inl is ↦ (let once : names_open o d ≡ 1 = names_itself o d is.1 in omega (arith, more, once))
          | inr not_first ↦ (
              let was : IsSome (get S.opens o) =
              subst IsSome (ap (λ m. get m o) opens ∙ get-insert-other (insert S.opens d.id k) e.id j o not_second.1
              ∙ get-insert-other S.opens d.id k o not_first.1) some in
              let held : 0 < holders S o + carriers S o = before o was in
              omega (arith, more, waits, held))
        ]
      ]

-- nothing waits in a channel that is new
carried_with : (o : ℕ) (S : State) (c : ℕ) → get S.chans c ≡ None → total (carried_in o) (insert S.chans c new_channel) ≡ carriers S o
carried_with o S c none =
    let sums : total (carried_in o) (insert S.chans c new_channel) ≡ carriers S o + carried_in o new_channel =
    total-insert_new (carried_in o) S.chans c new_channel none in
    omega (arith, sums)

-- a new channel stays where no open ends
channel_stays : (V : State) (c : ℕ) → without_ended V ≡ V → get V.chans c ≡ Some new_channel → get (release V).chans c ≡ Some new_channel
channel_stays V c same there =
    let W : State = without_nodes (without_ended V) in
    let here : get W.chans c ≡ Some new_channel = ap (λ (U : State). get U.chans c) same ∙ there in
    get-retain W.chans (λ k. is_channel_kept (get W.chans k)) c ∙ ap (λ x. cond (is_channel_kept x) x None) here

-- ---- what is made

module _ (S : State) (who : Who) (valid : IsValid S) (table : Table) (had : get S.tables who.pid ≡ Some table) (own : ProcessState)
    (there : get S.processes who.pid ≡ Some own) (first second : ℕ) (one : lowest_free table ≡ Some first) where
  module _ (made : Pair) (two : lowest_free (with_first made who.pid (Some own) table first) ≡ Some second) (V : State)
      (tables : V.tables ≡ insert S.tables who.pid (with_both made who.pid (Some own) table first second))
      (opens : V.opens ≡ insert (insert S.opens (first_number made who.pid (Some own)) (first_end made who.pid (Some own)))
      (second_number made who.pid (Some own)) (second_end made who.pid (Some own))) (carried : (o : ℕ) → carriers S o ≤ carriers V o) where
    abbrev d : Descriptor
    d = end_descriptor (first_number made who.pid (Some own)) (first_end made who.pid (Some own))

    abbrev e : Descriptor
    e = end_descriptor (second_number made who.pid (Some own)) (second_end made who.pid (Some own))

    first_free : get table first ≡ None
    first_free = lowest_is_lowest.free table first one

    then_free : get (insert table first d) second ≡ None
    then_free = lowest_is_lowest.free (insert table first d) second two

    nothing_ends : without_ended V ≡ V
    nothing_ends =
        ended_held V (new_held S V who.pid table had first second d e first_free then_free tables (first_end made who.pid (Some own))
        (second_end made who.pid (Some own)) opens carried valid.held)

    gives_two : GivesTwo S who (success first second) (release V)
    gives_two = record {
      before = table;
      after = with_both made who.pid (Some own) table first second;
      had = had;
      has = ap (λ (U : State). get U.tables who.pid) nothing_ends ∙ ap (λ m. get m who.pid) tables
          ∙ get-insert-same S.tables who.pid (with_both made who.pid (Some own) table first second);
      answers = refl;
      apart = apart table first second d e first_free then_free;
      free = (first_free, second_free table first second d e first_free then_free);
      others = others_at table first second d e first_free then_free;
    }

    first_opened : first_number made who.pid (Some own) ≢ second_number made who.pid (Some own)
        → get (release V).opens (first_number made who.pid (Some own)) ≡ Some (first_end made who.pid (Some own))
    first_opened other =
        ap (λ (U : State). get U.opens d.id) nothing_ends ∙ ap (λ m. get m d.id) opens
        ∙ get-insert-other (insert S.opens d.id (first_end made who.pid (Some own))) e.id (second_end made who.pid (Some own)) d.id other
        ∙ get-insert-same S.opens d.id (first_end made who.pid (Some own))

    second_opened : get (release V).opens (second_number made who.pid (Some own)) ≡ Some (second_end made who.pid (Some own))
    second_opened =
        ap (λ (U : State). get U.opens e.id) nothing_ends ∙ ap (λ m. get m e.id) opens
        ∙ get-insert-same (insert S.opens d.id (first_end made who.pid (Some own))) e.id (second_end made who.pid (Some own))

    new_channel_is : (c : ℕ) → get S.chans c ≡ None → get V.chans c ≡ Some new_channel → IsNewChannel S (release V) c
    new_channel_is c none here = record {
      absent = none;
      channel = new_channel;
      there = channel_stays V c nothing_ends here;
      form = refl;
      empty = refl;
      sides = (refl, refl);
    }

  -- objects that are numbered differently are different
  numbers_apart : (k l : ℕ) → k < l → next_object who.pid (Some own) k ≢ next_object who.pid (Some own) l
  numbers_apart k l less is = omega (arith, less, is)

  module _ (two : lowest_free (with_first pipe who.pid (Some own) table first) ≡ Some second) (can : can_number who.pid 3 (Some own) ≡ true) where
    abbrev piped : State
    piped = put_all (create_updates pipe who.pid (Some own) table first second) (tick S)

    none_yet : (k : ℕ) → 1 ≤ k → k ≤ 3 → (get S.opens (next_object who.pid (Some own) k) ≡ None) × (get S.chans (next_object who.pid (Some own) k) ≡ None)
    none_yet k some within = absent S who.pid own there valid.nearly 2 can k some within

    pipe_carries : (o : ℕ) → carriers S o ≤ carriers piped o
    pipe_carries o =
        let same : carriers piped o ≡ carriers S o = carried_with o S (next_object who.pid (Some own) 1) (none_yet 1 (omega arith) (omega arith)).1 in
        omega (arith, same)

    is_pipe : IsPipe S who (success first second) (release piped)
    unfolding gives_two
    is_pipe = record {
      two = gives_two pipe two piped refl refl pipe_carries;
      c = next_object who.pid (Some own) 1;
      channel = new_channel_is pipe two piped refl refl pipe_carries (next_object who.pid (Some own) 1) (none_yet 1 (omega arith) (omega arith)).1
          (get-insert-same S.chans (next_object who.pid (Some own) 1) new_channel);
      reads = record {
        id = next_object who.pid (Some own) 2;
        held = first_at table first second (d pipe two piped refl refl pipe_carries) (e pipe two piped refl refl pipe_carries)
            (first_free pipe two piped refl refl pipe_carries) (then_free pipe two piped refl refl pipe_carries);
        absent = (none_yet 2 (omega arith) (omega arith)).0;
        opened = first_opened pipe two piped refl refl pipe_carries (numbers_apart 2 3 (omega arith));
      };
      writes = record {
        id = next_object who.pid (Some own) 3;
        held = second_at table first second (d pipe two piped refl refl pipe_carries) (e pipe two piped refl refl pipe_carries)
            (first_free pipe two piped refl refl pipe_carries) (then_free pipe two piped refl refl pipe_carries);
        absent = (none_yet 3 (omega arith) (omega arith)).0;
        opened = second_opened pipe two piped refl refl pipe_carries;
      };
    }

  module _ (two : lowest_free (with_first pair who.pid (Some own) table first) ≡ Some second) (can : can_number who.pid 4 (Some own) ≡ true) where
    abbrev paired : State
    paired = put_all (create_updates pair who.pid (Some own) table first second) (tick S)

    -- the first of the two channels is there before the other one
    abbrev halved : State
    halved = record S { chans = insert S.chans (next_object who.pid (Some own) 1) new_channel }

    not_yet : (k : ℕ) → 1 ≤ k → k ≤ 4 → (get S.opens (next_object who.pid (Some own) k) ≡ None) × (get S.chans (next_object who.pid (Some own) k) ≡ None)
    not_yet k some within = absent S who.pid own there valid.nearly 3 can k some within

    other_channel : get halved.chans (next_object who.pid (Some own) 2) ≡ None
    other_channel =
        get-insert-other S.chans (next_object who.pid (Some own) 1) new_channel (next_object who.pid (Some own) 2)
        (λ is. numbers_apart 1 2 (omega arith) (sym is)) ∙ (not_yet 2 (omega arith) (omega arith)).1

    pair_carries : (o : ℕ) → carriers S o ≤ carriers paired o
    pair_carries o =
        let half : carriers halved o ≡ carriers S o = carried_with o S (next_object who.pid (Some own) 1) (not_yet 1 (omega arith) (omega arith)).1 in
        let same : carriers paired o ≡ carriers halved o = carried_with o halved (next_object who.pid (Some own) 2) other_channel in
        omega (arith, half, same)

    is_pair : IsStreamPair S who (success first second) (release paired)
    unfolding gives_two
    is_pair = record {
      two = gives_two pair two paired refl refl pair_carries;
      c = next_object who.pid (Some own) 1;
      e = next_object who.pid (Some own) 2;
      distinct = numbers_apart 1 2 (omega arith);
      channels = (
        new_channel_is pair two paired refl refl pair_carries (next_object who.pid (Some own) 1) (not_yet 1 (omega arith) (omega arith)).1
            (get-insert-other halved.chans (next_object who.pid (Some own) 2) new_channel (next_object who.pid (Some own) 1) (numbers_apart 1 2 (omega arith))
            ∙ get-insert-same S.chans (next_object who.pid (Some own) 1) new_channel),
        new_channel_is pair two paired refl refl pair_carries (next_object who.pid (Some own) 2) (not_yet 2 (omega arith) (omega arith)).1
            (get-insert-same halved.chans (next_object who.pid (Some own) 2) new_channel),
      );
      first = record {
        id = next_object who.pid (Some own) 3;
        held = first_at table first second (d pair two paired refl refl pair_carries) (e pair two paired refl refl pair_carries)
            (first_free pair two paired refl refl pair_carries) (then_free pair two paired refl refl pair_carries);
        absent = (not_yet 3 (omega arith) (omega arith)).0;
        opened = first_opened pair two paired refl refl pair_carries (numbers_apart 3 4 (omega arith));
      };
      second = record {
        id = next_object who.pid (Some own) 4;
        held = second_at table first second (d pair two paired refl refl pair_carries) (e pair two paired refl refl pair_carries)
            (first_free pair two paired refl refl pair_carries) (then_free pair two paired refl refl pair_carries);
        absent = (not_yet 4 (omega arith) (omega arith)).0;
        opened = second_opened pair two paired refl refl pair_carries;
      };
    }

-- ---- fd_create2

-- what it comes to of a kind that makes this pair
abbrev Makes : (Reply → State → Type 0) → Constants → State → Who → ℕ → Pair → Type 0
Makes P constants S who kind made =
    (table : Table) (o : Option ProcessState) (own : ProcessState) (first second : ℕ) → get S.tables who.pid ≡ Some table → get S.processes who.pid ≡ Some own
    → o ≡ Some own → lowest_free table ≡ Some first → lowest_free (with_first made who.pid o table first) ≡ Some second
    → can_number who.pid (count_of made) (Some own) ≡ true → Comes P constants S who (FdCreate2 kind) (creates made who.pid o table first second)

module _ (P : Reply → State → Type 0) (constants : Constants) (S : State) (who : Who) (kind : ℕ) (made : Pair) (is : made_of kind ≡ Some made)
    (makes : Makes P constants S who kind made) (reply : Reply) (T : State) where
  create_comes : (table : Table) → get S.tables who.pid ≡ Some table
      → Comes P constants S who (FdCreate2 kind) (create (made_of kind) who.pid who.tid (get S.processes who.pid) table)
  create_comes table had =
      create_holds who.pid who.tid (get S.processes who.pid) table (Comes P constants S who (FdCreate2 kind))
      (λ errno here given e success. fails errno given (one_fails errno create_errors refl here) e success) (made_of kind)
      (λ m same first second own one two there some can.
      let this : made ≡ m = same_some made m (sym is ∙ same) in
      subst (λ x. Comes P constants S who (FdCreate2 kind) (creates x who.pid (get S.processes who.pid) table first second)) this
      (makes table (get S.processes who.pid) own first second had there there one
      (subst (λ x. lowest_free (with_first x who.pid (get S.processes who.pid) table first) ≡ Some second) (sym this) two)
      (subst (λ x. can_number who.pid (count_of x) (Some own) ≡ true) (sym this) can)))

  create_step : IsStep constants S who (FdCreate2 kind) (answer.Reply reply) T → reply.errno ≡ Success → P reply T
  create_step = comes_by P constants S who (FdCreate2 kind) reply T create_comes

pub pipes_are_joined : PipesAreJoined
pipes_are_joined constants S who reply T valid = create_step (IsPipe S who) constants S who 48 pipe refl makes reply T where
  makes : Makes (IsPipe S who) constants S who 48 pipe
  makes table o own first second had there is one =
      subst (λ x. lowest_free (with_first pipe who.pid x table first) ≡ Some second → can_number who.pid 3 (Some own) ≡ true
      → Comes (IsPipe S who) constants S who (FdCreate2 48) (creates pipe who.pid x table first second)) (sym is)
      (λ two can given e _. subst (λ r. IsPipe S who r (release (piped S who valid table had own there first second one two can)))
      (sym (same_reply given (success first second) e)) (is_pipe S who valid table had own there first second one two can))

pub pairs_are_joined : PairsAreJoined
pairs_are_joined constants S who reply T valid = create_step (IsStreamPair S who) constants S who 130 pair refl makes reply T where
  makes : Makes (IsStreamPair S who) constants S who 130 pair
  makes table o own first second had there is one =
      subst (λ x. lowest_free (with_first pair who.pid x table first) ≡ Some second → can_number who.pid 4 (Some own) ≡ true
      → Comes (IsStreamPair S who) constants S who (FdCreate2 130) (creates pair who.pid x table first second)) (sym is)
      (λ two can given e _. subst (λ r. IsStreamPair S who r (release (paired S who valid table had own there first second one two can)))
      (sym (same_reply given (success first second) e)) (is_pair S who valid table had own there first second one two can))
