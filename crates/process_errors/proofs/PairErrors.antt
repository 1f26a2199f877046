-- What fd_create1 and fd_create2 come to.
use Rattle.std.proofs.Common.{◌≡◌, ◌≢◌, ◌⊎◌, inl, inr, ℕ, ◌+◌, ◌^◌, ◌<◌, ◌==◌, ◌&&◌, Bool, true, false, Option, Some, None, IsSome, is_some, refl, sym, ap, ◌∙◌, arith}
use Rattle.std.proofs.lemmas.Bool.{le-ltb, lt-ltb}
use Rattle.std.proofs.lemmas.Bool.Decides.{eqb_tells}
use Rattle.std.specs.FinMap.{get, insert}
use Rattle.std.specs.Prelude.{if◌then◌else◌, nat_lt}
use Rattle.abi_base.specs.declared.errno.Errno.TheVariants.{Mfile}
use Rattle.abi_base.specs.declared.flags.TheConstants.{FILETYPE_FIFO, FILETYPE_SOCKET_STREAM}
use Rattle.abi_types.specs.declared.call.Call.TheVariants.{FdCreate1, FdCreate2}
use Rattle.abi_types.specs.declared.constants.Constants.{Constants}
use Rattle.abi_types.specs.declared.descriptor.Descriptor.{Descriptor}
use Rattle.abi_types.specs.declared.reply.Answer.{Answer}
use Rattle.abi_types.specs.declared.who.Who.{Who}
use Rattle.maps.specs.Maps.{get-insert-same, get-insert-other}
use Rattle.kernel_model.specs.Families.DescriptorCalls.{lowest_free}
use Rattle.kernel_model.specs.Families.Numbers.{can_number}
use Rattle.kernel_model.specs.Families.SocketCalls.{Pair, can_create, count_of, create, create_first, create_if, create_second, made_of, pair, pipe, with_first}
use Rattle.kernel_model.specs.Outcome.{replies}
use Rattle.kernel_model.specs.Reply.{refused}
use Rattle.kernel_model.specs.State.{ProcessState, State, Table}
use Rattle.kernel_model.specs.Step.{step_answer}
use Rattle.kernel_model.proofs.Tests.{not_true}
use Rattle.process_errors.specs.ChannelErrors.{AreFirstFree, AreSpent, CreateOneIsListed, PairComesTo, PairIsListed, TakesObjects, made, no_numbers, no_objects, other_type}
use Rattle.process_errors.specs.FreeNumbers.{AreAllTaken, AreTakenBut, IsFirstFree}
use Rattle.process_errors.specs.Verdicts.{IsUnrefused}
use Rattle.process_errors.proofs.FreeNumbers.{all_or_first, lowest_is, lowest_none}
use Rattle.process_errors.proofs.Tables.{answer_is, below, listed, same_or}

pub create_one_is_listed : CreateOneIsListed
create_one_is_listed constants S who kind table own unrefused = answer_is constants S who (FdCreate1 kind) table own unrefused

-- ---- what is made

made_is : (kind count : ℕ) → TakesObjects kind count → (what : Pair) × (made_of kind ≡ Some what) × (count_of what ≡ count)
made_is kind count (inl fifo) = (pipe, ap made_of fifo.0, sym fifo.1)
made_is kind count (inr stream) = (pair, ap made_of stream.0, sym stream.1)

apart : (a b : ℕ) → a ≢ b → (a == b) ≡ false
apart a b other = elim (eqb_tells a b) [ inl is ↦ absurd (other is.1) | inr isnt ↦ isnt.0 ]

made_none : (kind : ℕ) → kind ≢ FILETYPE_FIFO → kind ≢ FILETYPE_SOCKET_STREAM → made_of kind ≡ None
made_none kind fifo stream =
    ap (λ b. if b then Some pipe else if kind == FILETYPE_SOCKET_STREAM then Some pair else None) (apart kind FILETYPE_FIFO fifo)
    ∙ ap (λ b. if b then Some pair else None) (apart kind FILETYPE_SOCKET_STREAM stream)

number_is : (p : ℕ) (own : ProcessState) (what : Pair)
    → can_number p (count_of what) (Some own) ≡ (nat_lt p 0xffffffff && nat_lt (own.counts.objects + count_of what) (2 ^ 32))
number_is p own pipe = refl
number_is p own pair = refl

spent_fails : (a b : Bool) → (a ≡ false) ⊎ (b ≡ false) → (a && b) ≡ false
spent_fails true b (inl isnt) = absurd (not_true (sym isnt))
spent_fails true b (inr isnt) = isnt
spent_fails false b some = refl

module _ (p t : ℕ) (own : ProcessState) (what : Pair) (count : ℕ) (is : count_of what ≡ count) (there : IsSome (get own.threads t)) where
  tests_are : can_create p t (count_of what) (Some own) ≡ (nat_lt p 0xffffffff && nat_lt (own.counts.objects + count) (2 ^ 32))
  tests_are =
      (λ i. there i && number_is p own what i)
      ∙ ap (λ n. nat_lt p 0xffffffff && nat_lt (own.counts.objects + n) (2 ^ 32)) is

  spent : AreSpent p count own → can_create p t (count_of what) (Some own) ≡ false
  spent some =
      tests_are
      ∙ spent_fails (nat_lt p 0xffffffff) (nat_lt (own.counts.objects + count) (2 ^ 32)) (elim some [
        | inl last ↦ inl (le-ltb p 0xffffffff last)
        | inr many ↦ inr (le-ltb (own.counts.objects + count) (2 ^ 32) many)
      ])

  unspent : ¬ AreSpent p count own → can_create p t (count_of what) (Some own) ≡ true
  unspent isnt = tests_are ∙ (λ i. first i && second i) where
    first : nat_lt p 0xffffffff ≡ true
    first = elim (below p 0xffffffff) [ inl few ↦ lt-ltb p 0xffffffff few | inr last ↦ absurd (isnt (inl last)) ]

    second : nat_lt (own.counts.objects + count) (2 ^ 32) ≡ true
    second =
        elim (below (own.counts.objects + count) (2 ^ 32)) [
          | inl few ↦ lt-ltb (own.counts.objects + count) (2 ^ 32) few
          | inr many ↦ absurd (isnt (inr many))
        ]

-- ---- numbers

-- with the first number taken too
inserted_taken : (table : Table) (fd : ℕ) (d : Descriptor) → ((m : ℕ) → m < 1024 → m ≢ fd → IsSome (get table m)) → AreAllTaken (insert table fd d)
inserted_taken table fd d taken m few =
    elim (same_or m fd) [
      | inl is ↦ ap (λ o. is_some o) (ap (get (insert table fd d)) is ∙ get-insert-same table fd d)
      | inr other ↦ ap (λ o. is_some o) (get-insert-other table fd d m other) ∙ taken m few other
    ]

inserted_first : (table : Table) (first second : ℕ) (d : Descriptor) → AreFirstFree table first second → IsFirstFree (insert table first d) 0 second
inserted_first table first second d free =
    let after = free.1.behind in record {
      behind = omega arith;
      most = free.1.most;
      free = get-insert-other table first d second (λ is. omega (arith, is, after)) ∙ free.1.free;
      first = λ m _ less. elim (same_or m first) [
        | inl is ↦ ap (λ o. is_some o) (ap (get (insert table first d)) is ∙ get-insert-same table first d)
        | inr other ↦ ap (λ o. is_some o) (get-insert-other table first d m other) ∙ elim (below m first) [
          | inl low ↦ free.0.first m (omega arith) low
          | inr high ↦ free.1.first m (omega (arith, high, other)) less
        ]
      ];
    }

module _ (constants : Constants) (S : State) (who : Who) (kind : ℕ) (table : Table) (own : ProcessState)
    (unrefused : IsUnrefused S who (FdCreate2 kind) table own) where
  paired_as : (o : Option Pair) → made_of kind ≡ o → (create o who.pid who.tid (Some own) table).answer ≡ step_answer constants S who (FdCreate2 kind)
  paired_as o is =
      sym (answer_is constants S who (FdCreate2 kind) table own unrefused
      ∙ (λ i. (create (is i) who.pid who.tid (unrefused.there i) table).answer))

  -- what it comes to by the two numbers
  with_numbers : (what : Pair) (first : ℕ) (o : Option ℕ) → lowest_free table ≡ Some first → lowest_free (with_first what who.pid (Some own) table first) ≡ o
      → (create_second what who.pid who.tid (Some own) table first o).answer ≡ (create (Some what) who.pid who.tid (Some own) table).answer
  with_numbers what first o one two =
      ap (λ x. (create_second what who.pid who.tid (Some own) table first x).answer) (sym two)
      ∙ ap (λ x. (create_first what who.pid who.tid (Some own) table x).answer) (sym one)

  taken_sound : (what : Pair) → made_of kind ≡ Some what → (n : ℕ) → AreTakenBut n table
      → (replies (refused Mfile)).answer ≡ step_answer constants S who (FdCreate2 kind)
  taken_sound what is n taken =
      elim (all_or_first table 0 (omega arith)) [
        | inl all ↦ ap (λ x. (create_first what who.pid who.tid (Some own) table x).answer) (sym (lowest_none table (λ m few. all m (omega arith) few)))
        | inr one ↦ with_numbers what one.0 None (lowest_is table one.0 one.1)
            (lowest_none (with_first what who.pid (Some own) table one.0)
            (inserted_taken table one.0 _ (λ m few other. taken m few (λ same. other (same ∙ sym (only one.0 one.1))))))
      ]
      ∙ paired_as (Some what) is where
        only : (fd : ℕ) → IsFirstFree table 0 fd → fd ≡ n
        only fd free =
            elim (same_or fd n) [
              | inl same ↦ same
              | inr other ↦ absurd (not_true (sym (ap (λ o. is_some o) free.free) ∙ taken fd free.most other))
            ]

  free_sound : (what : Pair) → made_of kind ≡ Some what → (first second : ℕ) → AreFirstFree table first second → (b : Bool)
      → can_create who.pid who.tid (count_of what) (Some own) ≡ b
      → (create_if b what who.pid (Some own) table first second).answer ≡ step_answer constants S who (FdCreate2 kind)
  free_sound what is first second free b can =
      ap (λ x. (create_if x what who.pid (Some own) table first second).answer) (sym can)
      ∙ with_numbers what first (Some second) (lowest_is table first free.0)
      (lowest_is (with_first what who.pid (Some own) table first) second (inserted_first table first second _ free))
      ∙ paired_as (Some what) is

  pair_sound : (given : Answer) → PairComesTo kind who.pid table own given → given ≡ step_answer constants S who (FdCreate2 kind)
  pair_sound given (other_type fifo stream) = paired_as None (made_none kind fifo stream)
  pair_sound given (no_numbers count takes n taken) = let what = made_is kind count takes in taken_sound what.0 what.1 n taken
  pair_sound given (no_objects count first second takes free some) =
      let what = made_is kind count takes in
      free_sound what.0 what.1 first second free false (spent who.pid who.tid own what.0 count what.2 unrefused.caller some)
  pair_sound given (made count first second takes free some) =
      let what = made_is kind count takes in
      free_sound what.0 what.1 first second free true (unspent who.pid who.tid own what.0 count what.2 unrefused.caller some)

-- ---- a line for each case

module _ (kind p : ℕ) (table : Table) (own : ProcessState) where
  some_free : (count first second : ℕ) → TakesObjects kind count → AreFirstFree table first second → (given : Answer) × PairComesTo kind p table own given
  some_free count first second takes free =
      elim (below p 0xffffffff) [
        | inr last ↦ (_, no_objects count first second takes free (inl last))
        | inl few ↦ elim (below (own.counts.objects + count) (2 ^ 32)) [
          | inr many ↦ (_, no_objects count first second takes free (inr many))
          | inl less ↦ (
            _,
            made count first second takes free (λ some. elim some [
              | inl last ↦ omega (arith, few, last)
              | inr many ↦ omega (arith, less, many)
            ]),
          )
        ]
      ]

  some_made : (count : ℕ) → TakesObjects kind count → (given : Answer) × PairComesTo kind p table own given
  some_made count takes =
      elim (all_or_first table 0 (omega arith)) [
        | inl taken ↦ (_, no_numbers count takes 0 (λ m few _. taken m (omega arith) few))
        | inr one ↦ (
            let most = one.1.most in
            elim (all_or_first table (one.0 + 1) (omega (arith, most))) [
              | inl taken ↦ (
                _,
                no_numbers count takes one.0 (λ m few other. elim (below m one.0) [
                  | inl low ↦ one.1.first m (omega arith) low
                  | inr high ↦ taken m (omega (arith, high, other)) few
                ]),
              )
              | inr two ↦ some_free count one.0 two.0 takes (one.1, two.1)
            ])
      ]

  pair_some : (given : Answer) × PairComesTo kind p table own given
  pair_some =
      elim (same_or kind FILETYPE_FIFO) [
        | inl fifo ↦ some_made 3 (inl (fifo, refl))
        | inr no_fifo ↦ elim (same_or kind FILETYPE_SOCKET_STREAM) [
          | inl stream ↦ some_made 4 (inr (stream, refl))
          | inr no_stream ↦ (_, other_type no_fifo no_stream)
        ]
      ]

pub pair_is_listed : PairIsListed
pair_is_listed constants S who kind table own given unrefused =
    listed (PairComesTo kind who.pid table own) (step_answer constants S who (FdCreate2 kind)) (pair_sound constants S who kind table own unrefused)
    (pair_some kind who.pid table own) given
