-- Where a sock_recv waits, and what it gives and leaves.
use Rattle.std.proofs.Common.{◌≡◌, ◌⊎◌, inl, inr, ℕ, zero, suc, ◌+◌, ◌<◌, ◌≤◌, Bool, true, false, cond, List, [], ◌∷◌, ◌++◌, length, take, Option, Some, None, IsSome, is_some, refl, sym, ap, subst, ◌∙◌, arith}
use Rattle.std.specs.Prelude.{bit_and}
use Rattle.std.proofs.lemmas.Bool.Decides.{eqb_tells}
use Rattle.std.specs.FinMap.{get, insert}
use Rattle.abi_types.specs.declared.call.Call.TheVariants.{SockRecv}
use Rattle.abi_types.specs.declared.constants.Constants.{Constants}
use Rattle.abi_types.specs.declared.descriptor.Descriptor.{Descriptor}
use Rattle.abi_types.specs.declared.who.Who.{Who}
use Rattle.maps.specs.Maps.{get-insert-same, get-insert-other}
use Rattle.kernel_model.specs.ChannelLaws.{HasEnd}
use Rattle.kernel_model.specs.Channels.{Channel, pull}
use Rattle.kernel_model.specs.Families.ChannelCalls.{Installed, install, is_nonblocking, must_wait_by, peeks, put_first, receive_from, receive_open, received_if, received_with, truncated, where_free}
use Rattle.kernel_model.specs.Families.DescriptorCalls.{free_from, lowest_free}
use Rattle.kernel_model.specs.Families.OpenMeaning.{at_descriptor}
use Rattle.kernel_model.specs.Outcome.{Outcome}
use Rattle.kernel_model.specs.State.{State, Table}
use Rattle.kernel_model.specs.Step.{outcome, step_answer, tick, unreleased}
use Rattle.kernel_model.specs.View.{whole}
use Rattle.kernel_model.proofs.ChannelChanges.{by_less}
use Rattle.kernel_model.proofs.SocketCalls.{installed_from}
use Rattle.kernel_model.proofs.Tests.{none_is_no, same_some}
use Rattle.transfer_laws.specs.TransferLaws.{FindsNoNumber, IsLowest, ReceivesTake, StandLowest, Takes, stands_none, stands_one}
use Rattle.transfer_laws.proofs.Outcomes.{answer_by, outcome_allowed, state_by}
use Rattle.transfer_laws.proofs.Waits.{flag_clear, flag_set, receive_goes, receive_waits}

-- ---- the flag of descriptors for which there is no room

cut_is : (room : ℕ) (ds : List Descriptor) → room < length ds → truncated room ds ≡ 1
cut_is room ds more = by_less (λ b. ◌≡◌ {A = ℕ} (cond b 1 0) 1) room (length ds) (λ _. refl) (λ few. absurd (omega (arith, more, few)))

whole_is : (room : ℕ) (ds : List Descriptor) → length ds ≤ room → truncated room ds ≡ 0
whole_is room ds few = by_less (λ b. ◌≡◌ {A = ℕ} (cond b 1 0) 0) room (length ds) (λ more. absurd (omega (arith, more, few))) (λ _. refl)

-- ---- what is installed

module _ where
  -- the number that is found is the lowest that is free
  found_is : (table : Table) (n k m : ℕ) → free_from table n k ≡ Some m
      → (m < k + n) × (get table m ≡ None) × ((i : ℕ) → k ≤ i → i < m → IsSome (get table i))
  unfolding free_from
  found_is table zero k m is = absurd (none_is_no m is)
  found_is table (suc n) k m is =
      elim (get table k) as (λ o. get table k ≡ o → cond (is_some o) (free_from table n (k + 1)) (Some k) ≡ Some m
      → (m < k + suc n) × (get table m ≡ None) × ((i : ℕ) → k ≤ i → i < m → IsSome (get table i))) [
        | None ↦ λ here h. (
            let same : k ≡ m = same_some k m h in
            (omega (arith, same), ap (get table) (sym same) ∙ here, λ i least less. absurd (omega (arith, least, less, same))))
        | Some d ↦ λ here h. (
            let more = found_is table n (k + 1) m h in
            let within : m < (k + 1) + n = more.0 in (
              omega (arith, within),
              more.1,
              λ i least less. elim (eqb_tells i k) [
                | inl same ↦ ap (λ j. is_some (get table j)) same.1 ∙ ap is_some here
                | inr other ↦ (let apart = other.1 in more.2 i (omega (arith, least, apart)) less)
              ],
            ))
      ] refl is

  all_taken : (table : Table) (n k : ℕ) → free_from table n k ≡ None → (i : ℕ) → k ≤ i → i < k + n → IsSome (get table i)
  unfolding free_from
  all_taken table zero k is i least most = absurd (omega (arith, least, most))
  all_taken table (suc n) k is i least most =
      elim (get table k) as (λ o. get table k ≡ o → cond (is_some o) (free_from table n (k + 1)) (Some k) ≡ None → IsSome (get table i)) [
        | None ↦ λ here h. absurd (none_is_no k (sym h))
        | Some d ↦ λ here h. elim (eqb_tells i k) [
          | inl same ↦ ap (λ j. is_some (get table j)) same.1 ∙ ap is_some here
          | inr other ↦ (let apart = other.1 in all_taken table n (k + 1) h i (omega (arith, least, apart)) (omega (arith, most)))
        ]
      ] refl is

lowest_is : (table : Table) (number : ℕ) → lowest_free table ≡ Some number → IsLowest table number
lowest_is table number is =
    let found = found_is table 1024 0 number is in
    let within : number < 0 + 1024 = found.0 in
    record { small = omega (arith, within); free = found.1; lower = λ m less. found.2 m (omega arith) less }

one_stands : (table new : Table) (d : Descriptor) (ds : List Descriptor) (number : ℕ) (fds : List ℕ) → lowest_free table ≡ Some number
    → StandLowest (insert table number d) ds fds new → StandLowest table (d ∷ ds) (number ∷ fds) new
one_stands table new d ds number fds is rest =
    stands_one table (insert table number d) new d ds number fds (lowest_is table number is) (get-insert-same table number d)
    (λ m other. get-insert-other table number d m other) rest

installs : (table : Table) (ds : List Descriptor) (installed : Installed) → install table ds ≡ Some installed
    → StandLowest table ds installed.fds installed.table
installs table [] installed is =
    subst (λ (x : Installed). StandLowest table [] x.fds x.table) (same_some (record { fds = []; table = table }) installed is) (stands_none table)
installs table (d ∷ ds) installed is =
    let from = installed_from (lowest_free table) (λ number. install (insert table number d) ds) installed is in
    subst (λ (x : Installed). StandLowest table (d ∷ ds) x.fds x.table) from.4
    (one_stands table from.1.table d ds from.0 from.1.fds from.2 (installs (insert table from.0 d) ds from.1 from.3))

-- where not all find a number some do, and the next one doesn't
abbrev SomeStand : Table → List Descriptor → Type 0
SomeStand table ds =
    (found : List Descriptor) × (next : Descriptor) × (others : List Descriptor) × (fds : List ℕ) × (full : Table) × (ds ≡ found ++ next ∷ others)
    × StandLowest table found fds full × ((m : ℕ) → m < 1024 → IsSome (get full m))

not_put : (number : ℕ) (o : Option Installed) → put_first number o ≡ None → o ≡ None
not_put number None is = refl
not_put number (Some installed) is = absurd (none_is_no _ (sym is))

-- what is so of those behind the first, where that finds a number, is so of all
first_stands : (table : Table) (d : Descriptor) (ds : List Descriptor) (o : Option ℕ) → lowest_free table ≡ o
    → where_free o (λ number. put_first number (install (insert table number d) ds)) ≡ None
    → ((number : ℕ) → install (insert table number d) ds ≡ None → SomeStand (insert table number d) ds) → SomeStand table (d ∷ ds)
first_stands table d ds None none is rest =
    ([], d, ds, [], table, refl, stands_none table, λ m less. all_taken table 1024 0 none m (omega arith) (omega (arith, less)))
first_stands table d ds (Some number) some is rest =
    let more = rest number (not_put number (install (insert table number d) ds) is) in (
      d ∷ more.0,
      more.1,
      more.2,
      number ∷ more.3,
      more.4,
      ap (λ behind. d ∷ behind) more.5,
      one_stands table more.4 d more.0 number more.3 some more.6,
      more.7,
    )

some_stand : (table : Table) (ds : List Descriptor) → install table ds ≡ None → SomeStand table ds
some_stand table [] is = absurd (none_is_no _ (sym is))
some_stand table (d ∷ ds) is = first_stands table d ds (lowest_free table) refl is (λ number. some_stand (insert table number d) ds)

-- ---- what it comes to

module _ (constants : Constants) (S : State) (who : Who) (fd n room flags c w mode : ℕ) (channel : Channel)
    (has : HasEnd S who (SockRecv fd n room flags) fd (Some c) (Some w) mode) (there : get S.chans c ≡ Some channel) where
  abbrev receives_by : Bool → Bool → Bool → Outcome
  receives_by must quick looks = received_if must quick looks who.pid has.table room c (pull n channel)

  receive_outcome : outcome constants S who (SockRecv fd n room flags) ≡ receives_by (must_wait_by flags n channel) (is_nonblocking mode) (peeks flags)
  receive_outcome =
      outcome_allowed constants S who (SockRecv fd n room flags) has.table has.own has.allowed
      ∙ ap (λ d. at_descriptor (λ o. receive_open who.pid has.table (whole (tick S)) n room flags) (whole (tick S)) d) has.there
      ∙ ap (λ kind. receive_open who.pid has.table (whole (tick S)) n room flags kind) has.opened
      ∙ ap (λ x. receive_from who.pid has.table n room flags (is_nonblocking mode) c x) there

  outcome_by : (must quick looks : Bool) → must_wait_by flags n channel ≡ must → is_nonblocking mode ≡ quick → peeks flags ≡ looks
      → outcome constants S who (SockRecv fd n room flags) ≡ receives_by must quick looks
  outcome_by must quick looks waits mode_is flags_are = receive_outcome ∙ (λ i. receives_by (waits i) (mode_is i) (flags_are i))

  taken_by : (o : Option Installed) → install has.table (take room (pull n channel).carried) ≡ o
      → outcome constants S who (SockRecv fd n room flags)
      ≡ received_with who.pid c (pull n channel).bytes (truncated room (pull n channel).carried) (pull n channel).rest o
      → Takes S who.pid room c has.table (pull n channel) (step_answer constants S who (SockRecv fd n room flags))
      (unreleased constants S who (SockRecv fd n room flags))
      ⊎ FindsNoNumber S room has.table (pull n channel) (step_answer constants S who (SockRecv fd n room flags))
      (unreleased constants S who (SockRecv fd n room flags))
  taken_by None put is =
      let none = some_stand has.table (take room (pull n channel).carried) put in
      inr (record {
        found = none.0;
        next = none.1;
        others = none.2;
        fds = none.3;
        full = none.4;
        listed = none.5;
        installed = none.6;
        taken = none.7;
        refuses = answer_by constants S who (SockRecv fd n room flags) _ is;
        leaves = state_by constants S who (SockRecv fd n room flags) _ is;
      })
  taken_by (Some installed) put is =
      inl (record {
        fds = installed.fds;
        flag = truncated room (pull n channel).carried;
        new = installed.table;
        installed = installs has.table (take room (pull n channel).carried) installed put;
        truncated = cut_is room (pull n channel).carried;
        whole = whole_is room (pull n channel).carried;
        tells = answer_by constants S who (SockRecv fd n room flags) _ is;
        leaves = state_by constants S who (SockRecv fd n room flags) _ is;
      })

pub receives_take : ReceivesTake
receives_take = record {
  waits = λ constants S who fd n room flags c w mode channel has there must blocking.
      answer_by constants S who (SockRecv fd n room flags) _ (outcome_by constants S who fd n room flags c w mode channel has there true false (peeks flags)
      (receive_waits n flags channel must) (flag_clear (bit_and mode 4) blocking) refl);
  refuses = λ constants S who fd n room flags c w mode channel has there must quick.
      answer_by constants S who (SockRecv fd n room flags) _ (outcome_by constants S who fd n room flags c w mode channel has there true true (peeks flags)
      (receive_waits n flags channel must) (flag_set (bit_and mode 4) quick) refl);
  looks = λ constants S who fd n room flags c w mode channel has there goes peek.
      let is = outcome_by constants S who fd n room flags c w mode channel has there false (is_nonblocking mode) true
      (receive_goes n flags channel goes) refl (flag_set (bit_and flags 4) peek) in
      (answer_by constants S who (SockRecv fd n room flags) _ is, state_by constants S who (SockRecv fd n room flags) _ is);
  takes = λ constants S who fd n room flags c w mode channel has there goes no_peek.
      taken_by constants S who fd n room flags c w mode channel has there (install has.table (take room (pull n channel).carried)) refl
      (outcome_by constants S who fd n room flags c w mode channel has there false (is_nonblocking mode) false
      (receive_goes n flags channel goes) refl (flag_clear (bit_and flags 4) no_peek));
}
