-- The meaning of fd_create2 is proper.
--     create_holds      what holds of each outcome of it
use Rattle.std.proofs.Common.{◌≡◌, ◌≢◌, ◌⊎◌, inl, inr, ℕ, suc, ◌+◌, ◌<◌, ◌≤◌, ◌^◌, ◌==◌, ◌&&◌, ◌||◌, Bool, true, false, List, [], ◌∷◌, ◌++◌, map, Option, Some, None, is_some, refl, sym, ap, subst, ◌∙◌, arith}
use Rattle.std.proofs.lemmas.Bool.{eq-eqb, eqb-true}
use Rattle.std.proofs.lemmas.Bool.Decides.{eqb_tells}
use Rattle.std.specs.Ordering.{nat_cmp}
use Rattle.std.specs.FinMap.{FinMap, get, insert}
use Rattle.std.specs.Option.{option_map}
use Rattle.abi_base.specs.declared.errno.Errno.{Errno}
use Rattle.abi_base.specs.declared.errno.Errno.TheVariants.{Again, Mfile, Notsup}
use Rattle.abi_types.specs.declared.chan_kind.ChanKind.TheVariants as chan_kind
use Rattle.abi_types.specs.declared.descriptor.Descriptor.{Descriptor}
use Rattle.abi_types.specs.declared.open_kind.OpenKind.{OpenKind}
use Rattle.abi_types.specs.declared.open_kind.OpenKind.TheVariants.{End}
use Rattle.abi_types.specs.declared.reply.Answer.TheVariants as answer
use Rattle.maps.specs.Maps.{get-insert-same, get-insert-other}
use Rattle.std.specs.List.{AllByRecursion}
use Rattle.kernel_model.proofs.ChannelChanges.{new_carries}
use Rattle.kernel_model.specs.Channels.{Channel, IsChannel, new_channel, Gone, Open}
use Rattle.kernel_model.specs.Families.DescriptorCalls.{lowest_free}
use Rattle.kernel_model.specs.Families.Numbers.{can_number, made_more, new_parts, next_object, object_of, object_parts, process_updates}
use Rattle.kernel_model.specs.Families.SocketCalls.{Pair, pipe, pair, can_create, count_of, create, create_first, create_if, create_second, create_updates, end_descriptor, fd_create2, made_of, numbers_of, with_first}
use Rattle.kernel_model.specs.Fits.{fits}
use Rattle.kernel_model.specs.Outcome.{Outcome, replies}
use Rattle.kernel_model.specs.OwnChanges.{IsChangedBy}
use Rattle.kernel_model.specs.Proper.{IsIn, IsPlain, IsProper, IsUnset, AllCarryOn, CarriesOn}
use Rattle.kernel_model.specs.Reply.{refused, success}
use Rattle.kernel_model.specs.Release.{is_reader, is_writer}
use Rattle.kernel_model.specs.Sight.{process_parts}
use Rattle.kernel_model.specs.State.{State, ProcessState, Table, Part, Update, at_chan, at_clock, at_node, at_names, at_open, at_proc, at_status, counts_in, has_part, part_of, put_all, put_one, same_part, set_process, set_table}
use Rattle.kernel_model.specs.Valid.{IsJoined, IsNamed, IsNearlyValid, IsUncounted}
use Rattle.kernel_model.proofs.ObjectNumbers.{numbers_fit}
use Rattle.kernel_model.proofs.OwnChanges.{more_grows, set_process_nearly_valid}
use Rattle.kernel_model.proofs.Pairs.{ends_nearly_valid}
use Rattle.kernel_model.proofs.Parts.{beyond_process, number_apart, of_first, of_second, outside_cons, own_stays}
use Rattle.kernel_model.proofs.Sights.{first_seen}
use Rattle.kernel_model.proofs.Tests.{none_is_no, not_true}
use Rattle.kernel_model.proofs.TreeUpdates.{one_object}
use Rattle.kernel_model.proofs.Valids.{owner_makes, same_value, table_nearly_valid}

-- ---- each outcome

abbrev pub create_errors : List Errno
create_errors = Notsup ∷ Mfile ∷ Again ∷ []

both_hold : (a b : Bool) → (a && b) ≡ true → (a ≡ true) × (b ≡ true)
both_hold true b h = (refl, h)
both_hold false b h = absurd (not_true h)

-- what it comes to where two ends are made
abbrev pub creates : Pair → ℕ → Option ProcessState → Table → ℕ → ℕ → Outcome
creates made p o table first second =
    record { answer = answer.Reply (success first second); updates = create_updates made p o table first second }

module _ (p t : ℕ) (o : Option ProcessState) (table : Table) (P : Outcome → Type 0)
    (refuses : (errno : Errno) → IsIn errno create_errors → P (replies (refused errno))) where
  -- the process has this thread and can make so many objects, and there are two free numbers
  abbrev pub Creates : Pair → Type 0
  Creates made =
      (first second : ℕ) (own : ProcessState) → lowest_free table ≡ Some first → lowest_free (with_first made p o table first) ≡ Some second → o ≡ Some own
      → is_some (get own.threads t) ≡ true → can_number p (count_of made) (Some own) ≡ true → P (creates made p o table first second)

  own_of : (x : Option ProcessState) (count : ℕ) → can_create p t count x ≡ true
      → (own : ProcessState) × (x ≡ Some own) × (is_some (get own.threads t) ≡ true) × (can_number p count (Some own) ≡ true)
  own_of None count can = absurd (not_true can)
  own_of (Some own) count can = let both = both_hold (is_some (get own.threads t)) (can_number p count (Some own)) can in (own, refl, both.0, both.1)

  second_holds : (made : Pair) (first : ℕ) (free : Option ℕ) → lowest_free table ≡ Some first → lowest_free (with_first made p o table first) ≡ free → Creates made
      → P (create_second made p t o table first free)
  second_holds made first None one two makes = refuses Mfile (Notsup ∷ [], Again ∷ [], refl)
  second_holds made first (Some second) one two makes =
      elim (can_create p t (count_of made) o) as (λ b. can_create p t (count_of made) o ≡ b → P (create_if b made p o table first second)) [
        | true ↦ λ can. (let is = own_of o (count_of made) can in makes first second is.0 one two is.1 is.2 is.3)
        | false ↦ λ can. refuses Again (Notsup ∷ Mfile ∷ [], [], refl)
      ] refl

  first_holds : (made : Pair) (free : Option ℕ) → lowest_free table ≡ free → Creates made → P (create_first made p t o table free)
  first_holds made None one makes = refuses Mfile (Notsup ∷ [], Again ∷ [], refl)
  first_holds made (Some first) one makes = second_holds made first (lowest_free (with_first made p o table first)) one refl makes

  pub create_holds : (made : Option Pair) → ((m : Pair) → made ≡ Some m → Creates m) → P (create made p t o table)
  create_holds None makes = refuses Notsup ([], Mfile ∷ Again ∷ [], refl)
  create_holds (Some made) makes = first_holds made (lowest_free table) refl (makes made refl)

-- ---- what it sets

module _ (p : ℕ) (own : Option ProcessState) (table : Table) (first second : ℕ) (q : Part) where
  open_apart : (o : ℕ) → has_part (object_parts o) q ≡ false → same_part (at_open o) q ≡ false
  open_apart o h = (outside_cons (at_open o) (at_node o ∷ at_names o ∷ at_chan o ∷ []) q h).0

  chan_apart : (o : ℕ) → has_part (object_parts o) q ≡ false → same_part (at_chan o) q ≡ false
  chan_apart o h =
      let node = outside_cons (at_open o) (at_node o ∷ at_names o ∷ at_chan o ∷ []) q h in
      let names = outside_cons (at_node o) (at_names o ∷ at_chan o ∷ []) q node.1 in
      let chan = outside_cons (at_names o) (at_chan o ∷ []) q names.1 in
      (outside_cons (at_chan o) [] q chan.1).0

  -- a part apart from those that are made
  part_apart : (count : ℕ) (rest : List Part) → has_part (object_parts (next_object p own (suc count)) ++ rest) q ≡ false
      → (has_part (object_parts (next_object p own (suc count))) q ≡ false) × (has_part rest q ≡ false)
  part_apart count rest h = (of_first (object_parts (next_object p own (suc count))) rest q h, of_second (object_parts (next_object p own (suc count))) rest q h)

  process_unset : (count : ℕ) (o : Option ProcessState) (rest : List Update) → same_part (at_proc p) q ≡ false → has_part (map part_of rest) q ≡ false
      → has_part (map part_of (process_updates p (suc count) o ++ rest)) q ≡ false
  process_unset count None rest apart later = later
  process_unset count (Some x) rest apart later = ap (λ b. b || has_part (map part_of rest) q) apart ∙ later

  none_of_three : (a b c d : Bool) → a ≡ false → b ≡ false → c ≡ false → d ≡ false → (a || (b || (c || (d || false)))) ≡ false
  none_of_three false false false false one two three four = refl
  none_of_three true b c d one two three four = absurd (not_true (sym one))
  none_of_three false true c d one two three four = absurd (not_true (sym two))
  none_of_three false false true d one two three four = absurd (not_true (sym three))
  none_of_three false false false true one two three four = absurd (not_true (sym four))

  none_of_four : (a b c d e : Bool) → a ≡ false → b ≡ false → c ≡ false → d ≡ false → e ≡ false → (a || (b || (c || (d || (e || false))))) ≡ false
  none_of_four false b c d e one two three four five = none_of_three b c d e two three four five
  none_of_four true b c d e one two three four five = absurd (not_true (sym one))

  creates_unset : (made : Pair) → has_part (new_parts p (count_of made) own) q ≡ false → same_part (at_proc p) q ≡ false
      → IsUnset (creates made p own table first second) q
  creates_unset pipe h proc =
      let third = part_apart 2 (new_parts p 2 own) h in
      let second_of = part_apart 1 (new_parts p 1 own) third.1 in
      let first_of = part_apart 0 (new_parts p 0 own) second_of.1 in
      process_unset 2 own _ proc
      (none_of_three (same_part (at_chan (next_object p own 1)) q) (same_part (at_open (next_object p own 2)) q) (same_part (at_open (next_object p own 3)) q)
      (same_part (at_proc p) q) (chan_apart (next_object p own 1) first_of.0) (open_apart (next_object p own 2) second_of.0)
      (open_apart (next_object p own 3) third.0) proc)
  creates_unset pair h proc =
      let fourth = part_apart 3 (new_parts p 3 own) h in
      let third = part_apart 2 (new_parts p 2 own) fourth.1 in
      let second_of = part_apart 1 (new_parts p 1 own) third.1 in
      let first_of = part_apart 0 (new_parts p 0 own) second_of.1 in
      process_unset 3 own _ proc
      (none_of_four (same_part (at_chan (next_object p own 1)) q) (same_part (at_chan (next_object p own 2)) q) (same_part (at_open (next_object p own 3)) q)
      (same_part (at_open (next_object p own 4)) q) (same_part (at_proc p) q) (chan_apart (next_object p own 1) first_of.0)
      (chan_apart (next_object p own 2) second_of.0) (open_apart (next_object p own 3) third.0) (open_apart (next_object p own 4) fourth.0) proc)

-- nothing of another process
creates_others : (made : Pair) (p : ℕ) (own : ProcessState) (table : Table) (first second q : ℕ) → q ≢ p
    → IsUnset (creates made p (Some own) table first second) (at_proc q) × IsUnset (creates made p (Some own) table first second) (at_status q)
creates_others pipe p own table first second q other = (ap (λ b. b || (b || false)) (number_apart p q other), refl)
creates_others pair p own table first second q other = (ap (λ b. b || (b || false)) (number_apart p q other), refl)

-- ---- the state after it

sound_new : IsChannel new_channel
sound_new = record { whole = tt; bytes = omega arith; carried = omega arith; read = λ _. refl }

module _ (S : State) (p : ℕ) (own : ProcessState) (there : get S.processes p ≡ Some own) (v : IsNearlyValid S) (n : ℕ)
    (can : can_number p (suc n) (Some own) ≡ true) where
  -- the state in which the process has made these objects
  abbrev counted_state : State
  counted_state = put_one (set_process p (made_more (suc n) own)) S

  counted_valid : IsNearlyValid counted_state
  counted_valid = set_process_nearly_valid S p own (made_more (suc n) own) there (more_grows (suc n) own) v

  abbrev pub number : ℕ → ℕ
  number k = object_of p (own.counts.objects + k)

  fit : (p < 0xffffffff) × (own.counts.objects + suc n < 2 ^ 32)
  fit = numbers_fit p n (Some own) can

  pub absent : (k : ℕ) → 1 ≤ k → k ≤ suc n → (get S.opens (number k) ≡ None) × (get S.chans (number k) ≡ None)
  absent k some within =
      let beyond : IsUncounted S p (own.counts.objects + k) = owner_makes S p (own.counts.objects + k) own v there (omega (arith, some)) in
      let fits = fit.1 in
      let small : own.counts.objects + k < 2 ^ 32 = omega (arith, within, fits) in
      (v.made p (own.counts.objects + k) fit.0 beyond small, v.made_channels p (own.counts.objects + k) fit.0 beyond small)

  unmade : (q k j : ℕ) → IsUncounted counted_state q k → k < 2 ^ 32 → 1 ≤ j → j ≤ suc n → object_of q k ≢ number j
  unmade q k j beyond fits some within is =
      let all = fit.1 in
      let at = one_object p q (own.counts.objects + j) k is fits (omega (arith, within, all)) in
      let total : (counts_in (get counted_state.processes p)).objects ≡ own.counts.objects + suc n =
      ap (λ o. (counts_in o).objects) (get-insert-same S.processes p (made_more (suc n) own)) in
      let past : (counts_in (get counted_state.processes p)).objects < k = subst (λ r. (counts_in (get counted_state.processes r)).objects < k) at.0 beyond.1 in
      let same : k ≡ own.counts.objects + j = at.1 in
      omega (arith, same, total, past, within)

  distinct : (j k : ℕ) → j ≢ k → number j ≢ number k
  distinct j k apart is = omega (arith, apart, is)

-- no end of a channel that isn't there is there
no_reader_yet : (S : State) (v : IsNearlyValid S) (c : ℕ) → get S.chans c ≡ None → (r : ℕ) → is_reader c (get S.opens r) ≡ true → ⊥
no_reader_yet S v c none r reads = found (get S.opens r) refl reads where
  found : (o : Option OpenKind) → get S.opens r ≡ o → is_reader c o ≡ true → ⊥
  found (Some (End (Some e) writes flags form)) at is =
      let has = (v.behind r (End (Some e) writes flags form) at).1 in
      none_is_no has.0 (sym none ∙ subst (λ k. get S.chans k ≡ Some has.0) (eqb-true e c is) has.1)
  found o at is = not_true is

no_writer_yet : (S : State) (v : IsNearlyValid S) (c : ℕ) → get S.chans c ≡ None → (r : ℕ) → is_writer c (get S.opens r) ≡ true → ⊥
no_writer_yet S v c none r writes = found (get S.opens r) refl writes where
  found : (o : Option OpenKind) → get S.opens r ≡ o → is_writer c o ≡ true → ⊥
  found (Some (End reads (Some e) flags form)) at is =
      let has = (v.behind r (End reads (Some e) flags form) at).2 in
      none_is_no has.0 (sym none ∙ subst (λ k. get S.chans k ≡ Some has.0) (eqb-true e c is) has.1)
  found o at is = not_true is

-- a test that no open passes, but perhaps one more
pub beside_first : (opens : FinMap nat_cmp OpenKind) (o : ℕ) (new : OpenKind) (test : Option OpenKind → Bool) → ((r : ℕ) → test (get opens r) ≡ true → ⊥)
    → (test (Some new) ≡ true → ⊥) → (r : ℕ) → test (get (insert opens o new) r) ≡ true → ⊥
beside_first opens o new test none fails r passes =
    elim (eqb_tells r o) [
      | inl is ↦ fails (ap test (sym (get-insert-same opens o new)) ∙ subst (λ k. test (get (insert opens o new) k) ≡ true) is.1 passes)
      | inr other ↦ none r (ap test (sym (get-insert-other opens o new r other.1)) ∙ passes)
    ]

pub false_never : {X : Type 0} → false ≡ true → X
false_never e = absurd (not_true e)

-- a new channel with an end that reads it and one that writes it is joined
new_joined : (opens : FinMap nat_cmp OpenKind) (c r w : ℕ) → is_reader c (get opens r) ≡ true → is_writer c (get opens w) ≡ true → IsJoined opens c new_channel
new_joined opens c r w reads writes = record { sound = sound_new; carried = tt; read = λ _. (r, reads); written = λ _. (w, writes) }

-- with two descriptors more of ends that are there
module _ (T : State) (valid : IsNearlyValid T) (p : ℕ) (table : Table) (has_table : get T.tables p ≡ Some table) (first second : ℕ) (d e : Descriptor)
    (d_named : IsNamed (get T.opens d.id) d) (e_named : IsNamed (get T.opens e.id) e) where
  pub inserted_named : (m : Table) (number : ℕ) (x : Descriptor) → IsNamed (get T.opens x.id) x
      → ((n : ℕ) (y : Descriptor) → get m n ≡ Some y → IsNamed (get T.opens y.id) y) → (n : ℕ) (y : Descriptor) → get (insert m number x) n ≡ Some y
      → IsNamed (get T.opens y.id) y
  inserted_named m number x named others n y at =
      elim (eqb_tells n number) [
        | inl is ↦ (
            let now : get (insert m number x) number ≡ Some y = subst (λ k. get (insert m number x) k ≡ Some y) is.1 at in
            subst (λ (z : Descriptor). IsNamed (get T.opens z.id) z) (same_value x y (get (insert m number x) number) (get-insert-same m number x) now) named)
        | inr other ↦ others n y (sym (get-insert-other m number x n other.1) ∙ at)
      ]

  two_more_valid : IsNearlyValid (put_one (set_table p (insert (insert table first d) second e)) T)
  two_more_valid =
      table_nearly_valid T p table (insert (insert table first d) second e) has_table
      (inserted_named (insert table first d) second e e_named
      (inserted_named table first d d_named (λ n y at. valid.named p n table y has_table at))) valid

open_is_not_gone : Open ≢ Gone
open_is_not_gone e = cc

module _ (S : State) (p t : ℕ) (own : ProcessState) (there : get S.processes p ≡ Some own) (some : is_some (get own.threads t) ≡ true) (table : Table)
    (has_table : get S.tables p ≡ Some table) (v : IsNearlyValid S) where
  module _ (can : can_number p 3 (Some own) ≡ true) where
    abbrev pipe_channel : ℕ
    pipe_channel = number S p own there v 2 can 1

    abbrev pipe_first : ℕ
    pipe_first = number S p own there v 2 can 2

    abbrev pipe_second : ℕ
    pipe_second = number S p own there v 2 can 3

    abbrev pipe_reader : OpenKind
    pipe_reader = End (Some pipe_channel) None 0 chan_kind.Stream

    abbrev pipe_writer : OpenKind
    pipe_writer = End None (Some pipe_channel) 0 chan_kind.Stream

    abbrev pipe_opens : FinMap nat_cmp OpenKind
    pipe_opens = insert (insert S.opens pipe_first pipe_reader) pipe_second pipe_writer

    abbrev pipe_chans : FinMap nat_cmp Channel
    pipe_chans = insert S.chans pipe_channel new_channel

    pipe_none : get S.chans pipe_channel ≡ None
    pipe_none = (absent S p own there v 2 can 1 (omega arith) (omega arith)).1

    pipe_none_at : (k : ℕ) → (pipe_channel == k) ≡ true → get S.chans k ≡ None
    pipe_none_at k is = ap (get S.chans) (sym (eqb-true pipe_channel k is)) ∙ pipe_none

    pipe_apart : pipe_second ≢ pipe_first
    pipe_apart = distinct S p own there v 2 can 3 2 (λ e. omega (arith, e))

    reader_at : get pipe_opens pipe_first ≡ Some pipe_reader
    reader_at =
        get-insert-other (insert S.opens pipe_first pipe_reader) pipe_second pipe_writer pipe_first (λ e. pipe_apart (sym e))
        ∙ get-insert-same S.opens pipe_first pipe_reader

    writer_at : get pipe_opens pipe_second ≡ Some pipe_writer
    writer_at = get-insert-same (insert S.opens pipe_first pipe_reader) pipe_second pipe_writer

    pipe_joined : (c : ℕ) (channel : Channel) → get pipe_chans c ≡ Some channel → (get S.chans c ≡ Some channel) ⊎ IsJoined pipe_opens c channel
    pipe_joined c channel at =
        elim (eqb_tells c pipe_channel) [
          | inl is ↦ inr (
              let now : get pipe_chans pipe_channel ≡ Some channel = subst (λ k. get pipe_chans k ≡ Some channel) is.1 at in
              subst (λ k. IsJoined pipe_opens k channel) (sym is.1)
              (subst (IsJoined pipe_opens pipe_channel)
              (same_value new_channel channel (get pipe_chans pipe_channel) (get-insert-same S.chans pipe_channel new_channel) now)
              (new_joined pipe_opens pipe_channel pipe_first pipe_second (ap (is_reader pipe_channel) reader_at ∙ eq-eqb pipe_channel pipe_channel refl)
              (ap (is_writer pipe_channel) writer_at ∙ eq-eqb pipe_channel pipe_channel refl))))
          | inr other ↦ inl (sym (get-insert-other S.chans pipe_channel new_channel c other.1) ∙ at)
        ]

    pipe_ends : IsNearlyValid (record (counted_state S p own there v 2 can) { opens = pipe_opens; chans = pipe_chans })
    pipe_ends =
        let M : State = counted_state S p own there v 2 can in
        ends_nearly_valid M (counted_valid S p own there v 2 can) pipe_chans pipe_first pipe_second pipe_reader pipe_writer
        (absent S p own there v 2 can 2 (omega arith) (omega arith)).0 (absent S p own there v 2 can 3 (omega arith) (omega arith)).0 pipe_apart
        (λ c channel at.
        get-insert-other S.chans pipe_channel new_channel c (λ is. none_is_no channel (sym pipe_none ∙ ap (get S.chans) (sym is) ∙ at)) ∙ at)
        (refl, (new_channel, get-insert-same S.chans pipe_channel new_channel, open_is_not_gone), tt)
        (refl, tt, (new_channel, get-insert-same S.chans pipe_channel new_channel, open_is_not_gone))
        (λ k. (false_never, (λ is. no_reader_yet S v k (pipe_none_at k is)), false_never))
        (λ k. (
          false_never,
          false_never,
          (λ is. beside_first S.opens pipe_first pipe_reader (is_writer k) (no_writer_yet S v k (pipe_none_at k is)) false_never),
        ))
        pipe_joined
        (λ q k small beyond fits. (
          unmade S p own there v 2 can q k 2 beyond fits (omega arith) (omega arith),
          unmade S p own there v 2 can q k 3 beyond fits (omega arith) (omega arith),
          get-insert-other S.chans pipe_channel new_channel (object_of q k) (unmade S p own there v 2 can q k 1 beyond fits (omega arith) (omega arith))
              ∙ (counted_valid S p own there v 2 can).made_channels q k small beyond fits,
        ))

    pipe_valid : (first second : ℕ) → IsNearlyValid (put_all (create_updates pipe p (Some own) table first second) S)
    pipe_valid first second =
        two_more_valid (record (counted_state S p own there v 2 can) { opens = pipe_opens; chans = pipe_chans }) pipe_ends p table has_table first second
        (end_descriptor pipe_first pipe_reader) (end_descriptor pipe_second pipe_writer)
        (subst (λ o. IsNamed o (end_descriptor pipe_first pipe_reader)) (sym reader_at) (refl, refl))
        (subst (λ o. IsNamed o (end_descriptor pipe_second pipe_writer)) (sym writer_at) (refl, refl))

  module _ (can : can_number p 4 (Some own) ≡ true) where
    abbrev one : ℕ
    one = number S p own there v 3 can 1

    abbrev two : ℕ
    two = number S p own there v 3 can 2

    abbrev three : ℕ
    three = number S p own there v 3 can 3

    abbrev four : ℕ
    four = number S p own there v 3 can 4

    abbrev left_end : OpenKind
    left_end = End (Some one) (Some two) 0 chan_kind.Stream

    abbrev right_end : OpenKind
    right_end = End (Some two) (Some one) 0 chan_kind.Stream

    abbrev pair_opens : FinMap nat_cmp OpenKind
    pair_opens = insert (insert S.opens three left_end) four right_end

    abbrev one_chan : FinMap nat_cmp Channel
    one_chan = insert S.chans one new_channel

    abbrev pair_chans : FinMap nat_cmp Channel
    pair_chans = insert one_chan two new_channel

    one_none : get S.chans one ≡ None
    one_none = (absent S p own there v 3 can 1 (omega arith) (omega arith)).1

    two_none : get S.chans two ≡ None
    two_none = (absent S p own there v 3 can 2 (omega arith) (omega arith)).1

    one_none_at : (k : ℕ) → (one == k) ≡ true → get S.chans k ≡ None
    one_none_at k is = ap (get S.chans) (sym (eqb-true one k is)) ∙ one_none

    two_none_at : (k : ℕ) → (two == k) ≡ true → get S.chans k ≡ None
    two_none_at k is = ap (get S.chans) (sym (eqb-true two k is)) ∙ two_none

    apart_ends : four ≢ three
    apart_ends = distinct S p own there v 3 can 4 3 (λ e. omega (arith, e))

    apart_chans : one ≢ two
    apart_chans = distinct S p own there v 3 can 1 2 (λ e. omega (arith, e))

    -- a number that is both of the channels is none
    both_chans : {X : Type 0} (k : ℕ) → (one == k) ≡ true → (two == k) ≡ true → X
    both_chans k first second = absurd (apart_chans (eqb-true one k first ∙ sym (eqb-true two k second)))

    left_at : get pair_opens three ≡ Some left_end
    left_at = get-insert-other (insert S.opens three left_end) four right_end three (λ e. apart_ends (sym e)) ∙ get-insert-same S.opens three left_end

    right_at : get pair_opens four ≡ Some right_end
    right_at = get-insert-same (insert S.opens three left_end) four right_end

    one_at : get pair_chans one ≡ Some new_channel
    one_at = get-insert-other one_chan two new_channel one apart_chans ∙ get-insert-same S.chans one new_channel

    two_at : get pair_chans two ≡ Some new_channel
    two_at = get-insert-same one_chan two new_channel

    itself : (n : ℕ) → (n == n) ≡ true
    itself n = eq-eqb n n refl

    pair_joined : (c : ℕ) (channel : Channel) → get pair_chans c ≡ Some channel → (get S.chans c ≡ Some channel) ⊎ IsJoined pair_opens c channel
    pair_joined c channel at =
        elim (eqb_tells c two) [
          | inl is ↦ inr (
              subst (λ k. IsJoined pair_opens k channel) (sym is.1)
              (subst (IsJoined pair_opens two)
              (same_value new_channel channel (get pair_chans two) two_at (subst (λ k. get pair_chans k ≡ Some channel) is.1 at))
              (new_joined pair_opens two four three (ap (is_reader two) right_at ∙ itself two) (ap (is_writer two) left_at ∙ itself two))))
          | inr other ↦ elim (eqb_tells c one) [
            | inl is ↦ inr (
                subst (λ k. IsJoined pair_opens k channel) (sym is.1)
                (subst (IsJoined pair_opens one)
                (same_value new_channel channel (get pair_chans one) one_at (subst (λ k. get pair_chans k ≡ Some channel) is.1 at))
                (new_joined pair_opens one three four (ap (is_reader one) left_at ∙ itself one) (ap (is_writer one) right_at ∙ itself one))))
            | inr none ↦ inl (sym (get-insert-other S.chans one new_channel c none.1) ∙ sym (get-insert-other one_chan two new_channel c other.1) ∙ at)
          ]
        ]

    pair_ends : IsNearlyValid (record (counted_state S p own there v 3 can) { opens = pair_opens; chans = pair_chans })
    pair_ends =
        let M : State = counted_state S p own there v 3 can in
        ends_nearly_valid M (counted_valid S p own there v 3 can) pair_chans three four left_end right_end
        (absent S p own there v 3 can 3 (omega arith) (omega arith)).0 (absent S p own there v 3 can 4 (omega arith) (omega arith)).0 apart_ends
        (λ c channel at.
        get-insert-other one_chan two new_channel c (λ is. none_is_no channel (sym two_none ∙ ap (get S.chans) (sym is) ∙ at))
        ∙ get-insert-other S.chans one new_channel c (λ is. none_is_no channel (sym one_none ∙ ap (get S.chans) (sym is) ∙ at)) ∙ at)
        (refl, (new_channel, one_at, open_is_not_gone), (new_channel, two_at, open_is_not_gone))
        (refl, (new_channel, two_at, open_is_not_gone), (new_channel, one_at, open_is_not_gone))
        (λ k. (false_never, (λ is. no_reader_yet S v k (one_none_at k is)), (λ is. no_writer_yet S v k (two_none_at k is))))
        (λ k. (
          false_never,
          (λ is. beside_first S.opens three left_end (is_reader k) (no_reader_yet S v k (two_none_at k is)) (λ other. both_chans k other is)),
          (λ is. beside_first S.opens three left_end (is_writer k) (no_writer_yet S v k (one_none_at k is)) (λ other. both_chans k is other)),
        ))
        pair_joined
        (λ q k small beyond fits. (
          unmade S p own there v 3 can q k 3 beyond fits (omega arith) (omega arith),
          unmade S p own there v 3 can q k 4 beyond fits (omega arith) (omega arith),
          get-insert-other one_chan two new_channel (object_of q k) (unmade S p own there v 3 can q k 2 beyond fits (omega arith) (omega arith))
              ∙ get-insert-other S.chans one new_channel (object_of q k) (unmade S p own there v 3 can q k 1 beyond fits (omega arith) (omega arith))
              ∙ (counted_valid S p own there v 3 can).made_channels q k small beyond fits,
        ))

    pair_valid : (first second : ℕ) → IsNearlyValid (put_all (create_updates pair p (Some own) table first second) S)
    pair_valid first second =
        two_more_valid (record (counted_state S p own there v 3 can) { opens = pair_opens; chans = pair_chans }) pair_ends p table has_table first second
        (end_descriptor three left_end) (end_descriptor four right_end) (subst (λ o. IsNamed o (end_descriptor three left_end)) (sym left_at) (refl, refl))
        (subst (λ o. IsNamed o (end_descriptor four right_end)) (sym right_at) (refl, refl))

  creates_valid : (made : Pair) (first second : ℕ) → can_number p (count_of made) (Some own) ≡ true
      → IsNearlyValid (put_all (create_updates made p (Some own) table first second) S)
  creates_valid pipe first second can = pipe_valid can first second
  creates_valid pair first second can = pair_valid can first second

-- ---- fd_create2

-- what its process has of its own after it
creates_own : (S : State) (p : ℕ) (own : ProcessState) (table : Table) (first second : ℕ) (made : Pair) → get S.processes p ≡ Some own
    → IsChangedBy (λ x. x) (get S.processes p) (get (put_all (create_updates made p (Some own) table first second) S).processes p)
creates_own S p own table first second pipe there =
    (3, get-insert-same S.processes p (made_more 3 own) ∙ sym (ap (option_map (made_more 3)) there))
creates_own S p own table first second pair there =
    (4, get-insert-same S.processes p (made_more 4 own) ∙ sym (ap (option_map (made_more 4)) there))

-- nothing waits in a new channel
creates_carry : (S : State) (table : Table) (p : ℕ) (own : ProcessState) (first second : ℕ) (made : Pair) → get S.processes p ≡ Some own
    → IsNearlyValid S → can_number p (count_of made) (Some own) ≡ true → AllByRecursion (CarriesOn S (table, [], false)) (create_updates made p (Some own) table first second)
creates_carry S table p own first second pipe there nearly can =
    (tt, (new_carries S (table, [], false) _ (absent S p own there nearly 2 can 1 (omega arith) (omega arith)).1, (tt, (tt, (tt, tt)))))
creates_carry S table p own first second pair there nearly can =
    let one = (absent S p own there nearly 3 can 1 (omega arith) (omega arith)).1 in
    let two = (absent S p own there nearly 3 can 2 (omega arith) (omega arith)).1 in
    (tt, (new_carries S (table, [], false) _ one, (new_carries S (table, [], false) _ two, (tt, (tt, (tt, tt))))))

create_unset : (made : Option Pair) (S : State) (p t : ℕ) (table : Table) (q : Part)
    → has_part (process_parts p ++ (new_parts p (numbers_of made) (get S.processes p) ++ [])) q ≡ false
    → IsUnset (create made p t (get S.processes p) table) q
create_unset made S p t table q h =
    let both = beyond_process p (new_parts p (numbers_of made) (get S.processes p) ++ []) q h in
    let proc = outside_cons (at_proc p) (at_status p ∷ []) q (outside_cons at_clock (at_proc p ∷ at_status p ∷ []) q both.0).1 in
    let news = of_first (new_parts p (numbers_of made) (get S.processes p)) [] q both.1 in
    create_holds p t (get S.processes p) table (λ x. IsUnset x q) (λ errno here. refl) made
    (λ m is first second own one two there some can.
    creates_unset p (get S.processes p) table first second q m (ap (λ o. has_part (new_parts p (numbers_of o) (get S.processes p)) q) (sym is) ∙ news) proc.0)

pub fd_create2_is_proper : (kind : ℕ) → IsProper (fd_create2 kind)
fd_create2_is_proper kind = record {
  names = tt;
  sees = tt;
  reads = λ constants S who table.
      ap (λ o. create (made_of kind) who.pid who.tid o table) (first_seen who.pid (has_part (at_status who.pid ∷ []) (at_proc who.pid)) (get S.processes who.pid));
  walks = λ S who table. refl;
  sets = λ constants S who table part h. create_unset (made_of kind) S who.pid who.tid table part h;
  touched = λ S table part h. absurd (not_true h);
  plain = λ constants v who table.
      create_holds who.pid who.tid (v.process who.pid) table (IsPlain create_errors) (λ errno here. (refl, inr (refl, here))) (made_of kind)
      (λ m is first second own one two there some can. (refl, inl refl));
  waits = λ h. absurd (not_true h);
  lacks = λ _. ((λ e. cc), ((λ e. cc), ((λ e. cc), tt)));
  others = λ constants v who table q apart _.
      create_holds who.pid who.tid (v.process who.pid) table (λ x. IsUnset x (at_proc q) × IsUnset x (at_status q)) (λ errno here. (refl, refl)) (made_of kind)
      (λ m is first second own one two there some can.
      subst (λ o. IsUnset (creates m who.pid o table first second) (at_proc q) × IsUnset (creates m who.pid o table first second) (at_status q)) (sym there)
      (creates_others m who.pid own table first second q apart));
  own = λ constants S who table.
      inl (create_holds who.pid who.tid (get S.processes who.pid) table
      (λ x. IsChangedBy (λ own. own) (get S.processes who.pid) (get (put_all x.updates S).processes who.pid)) (λ errno here. own_stays (get S.processes who.pid))
      (made_of kind)
      (λ m is first second own one two there some can.
      subst (λ o. IsChangedBy (λ own. own) (get S.processes who.pid) (get (put_all (create_updates m who.pid o table first second) S).processes who.pid))
      (sym there)
      (creates_own S who.pid own table first second m there)));
  allows = λ constants S who table. tt;
  carries = λ constants S who table nearly.
      create_holds who.pid who.tid (get S.processes who.pid) table (AllCarryOn S (table, [], false)) (λ errno here. tt) (made_of kind)
      (λ m is first second own one two there some can.
      subst (λ o. AllByRecursion (CarriesOn S (table, [], false)) (create_updates m who.pid o table first second)) (sym there)
      (creates_carry S table who.pid own first second m there nearly can));
  valid = λ constants S who table has_table nearly.
      create_holds who.pid who.tid (get S.processes who.pid) table (λ x. IsNearlyValid (put_all x.updates S)) (λ errno here. nearly) (made_of kind)
      (λ m is first second own one two there some can.
      subst (λ o. IsNearlyValid (put_all (create_updates m who.pid o table first second) S)) (sym there)
      (creates_valid S who.pid who.tid own there some table has_table nearly m first second can));
}
