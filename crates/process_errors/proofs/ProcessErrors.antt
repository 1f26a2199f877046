-- What proc_exit, proc_raise, proc_fork and proc_exec come to.
use Rattle.std.proofs.Common.{◌≡◌, ◌≢◌, ◌⊎◌, inl, inr, ℕ, ◌+◌, ◌^◌, ◌<◌, ◌≤◌, ◌==◌, ◌&&◌, Bool, true, false, cond, List, [], ◌∷◌, length, Option, Some, None, IsSome, is_some, refl, sym, ap, subst, ◌∙◌, arith}
use Rattle.std.proofs.lemmas.Bool.{eq-eqb, le-leb, le-ltb, lt-leb, lt-ltb}
use Rattle.std.proofs.lemmas.Bool.Decides.{eqb_tells}
use Rattle.std.specs.FinMap.{get}
use Rattle.std.specs.List.{find}
use Rattle.std.specs.Prelude.{⊤, nat_le, nat_lt}
use Rattle.abi_base.specs.Signal.{number_of}
use Rattle.abi_base.specs.declared.signal.Signal.{Signal}
use Rattle.abi_base.specs.declared.signal.Signal.TheVariants.{Chld, Cont, Stop, Tstp, Ttin, Ttou, Urg}
use Rattle.abi_base.specs.declared.rights.TheConstants.Rights.{PROC_EXEC}
use Rattle.abi_types.specs.declared.call.Call.TheVariants.{ProcExec, ProcExit, ProcFork, ProcRaise}
use Rattle.abi_types.specs.declared.constants.Constants.{Constants}
use Rattle.abi_types.specs.declared.open_kind.OpenKind.TheVariants.{File}
use Rattle.abi_types.specs.declared.reply.Answer.{Answer}
use Rattle.abi_types.specs.declared.reply.Answer.TheVariants as answer
use Rattle.abi_types.specs.declared.reply.Payload.TheVariants.{Child}
use Rattle.abi_types.specs.declared.who.Who.{Who}
use Rattle.elf_image.specs.Checks.{fault_of}
use Rattle.elf_image.specs.declared.fault.ElfFault.{ElfFault}
use Rattle.tree_model.specs.Changes.{bytes_of}
use Rattle.kernel_model.specs.Families.DescriptorCalls.{lowest_free}
use Rattle.kernel_model.specs.Families.ForkCalls.{can_fork, exec_checked, exec_if, exec_open, fork_at, fork_if, least_turns, listed}
use Rattle.kernel_model.specs.Families.OpenMeaning.{at_descriptor}
use Rattle.kernel_model.specs.Families.ProcessCalls.{Raised, ends, passes, raise_as, raise_of, raised_by, signal_of, signals, stops}
use Rattle.kernel_model.specs.Reply.{success}
use Rattle.kernel_model.specs.Rows.{base_row}
use Rattle.kernel_model.specs.State.{ProcessState, State, Table, tree_of}
use Rattle.kernel_model.specs.Step.{step_answer, tick}
use Rattle.kernel_model.specs.View.{whole}
use Rattle.kernel_model.proofs.ForkLaws.{forks_are_numbered}
use Rattle.kernel_model.proofs.FoundOpens.{at_file, open_there}
use Rattle.kernel_model.proofs.Reaches.{all_met}
use Rattle.kernel_model.proofs.Tests.{not_true}
use Rattle.process_errors.specs.ProcessErrors.{ExecComesTo, ExecIsListed, ExitIsListed, ForkComesTo, ForkIsListed, IsStopping, MayNotFork, RaiseComesTo, RaiseIsListed, begins, made, no_child, no_number, no_program, no_signal, no_words, raised, stopping}
use Rattle.process_errors.specs.Verdicts.{Verdict, verdict_of, IsOpenOn, IsUnrefused}
use Rattle.process_errors.proofs.FreeNumbers.{all_or_first, lowest_is, lowest_none}
use Rattle.process_errors.proofs.Tables.{answer_is, below, listed as all_listed, same_or}

-- ---- proc_exit

pub exit_is_listed : ExitIsListed
exit_is_listed constants S who code table own unrefused = answer_is constants S who (ProcExit code) table own unrefused

-- ---- proc_raise

-- the signals have numbers one after another, from k on
abbrev AreNumbered : ℕ → List Signal → Type 0
AreNumbered k [] = ⊤
AreNumbered k (signal ∷ rest) = (number_of signal ≡ k) × AreNumbered (k + 1) rest

abbrev is_at : ℕ → Signal → Bool
is_at number signal = number_of signal == number

other_number : (signal : Signal) (k number : ℕ) → number_of signal ≡ k → k ≢ number → is_at number signal ≡ false
other_number signal k number is apart =
    elim (eqb_tells (number_of signal) number) [
      | inl same ↦ absurd (apart (sym is ∙ same.1))
      | inr other ↦ other.0
    ]

found_in : (number k : ℕ) (xs : List Signal) → AreNumbered k xs → k ≤ number → number < k + length xs
    → (signal : Signal) × (find (is_at number) xs ≡ Some signal) × (number_of signal ≡ number)
found_in number k [] numbered from to = absurd (omega (arith, from, to))
found_in number k (signal ∷ rest) numbered from to =
    elim (same_or k number) [
      | inl is ↦ (
        signal,
        ap (λ b. cond b (Some signal) (find (is_at number) rest)) (eq-eqb (number_of signal) number (numbered.0 ∙ is)),
        numbered.0 ∙ is,
      )
      | inr other ↦ (
          let later = found_in number (k + 1) rest numbered.1 (omega (arith, from, other)) (omega (arith, to)) in (
            later.0,
            ap (λ b. cond b (Some signal) (find (is_at number) rest)) (other_number signal k number numbered.0 other) ∙ later.1,
            later.2,
          ))
    ]

found_none : (number k : ℕ) (xs : List Signal) → AreNumbered k xs → (number < k) ⊎ (k + length xs ≤ number) → find (is_at number) xs ≡ None
found_none number k [] numbered out = refl
found_none number k (signal ∷ rest) numbered out =
    ap (λ b. cond b (Some signal) (find (is_at number) rest)) (other_number signal k number numbered.0 (λ is. elim out [
      | inl before ↦ omega (arith, before, is)
      | inr behind ↦ omega (arith, behind, is)
    ]))
    ∙ found_none number (k + 1) rest numbered.1 (elim out [ inl before ↦ inl (omega (arith, before)) | inr behind ↦ inr (omega (arith, behind)) ])

-- which is computed
abbrev are_numbered : ℕ → List Signal → Bool
are_numbered k [] = true
are_numbered k (signal ∷ rest) = (number_of signal == k) && are_numbered (k + 1) rest

numbered_is : (k : ℕ) (xs : List Signal) → are_numbered k xs ≡ true → AreNumbered k xs
numbered_is k [] is = tt
numbered_is k (signal ∷ rest) is = by (eqb_tells (number_of signal) k) is (numbered_is (k + 1) rest) where
  by : ((number_of signal == k) ≡ true) × (number_of signal ≡ k) ⊎ ((number_of signal == k) ≡ false) × (number_of signal ≢ k)
      → ((number_of signal == k) && are_numbered (k + 1) rest) ≡ true → (are_numbered (k + 1) rest ≡ true → AreNumbered (k + 1) rest)
      → (number_of signal ≡ k) × AreNumbered (k + 1) rest
  by (inl first) both more = (first.1, more (ap (λ b. b && are_numbered (k + 1) rest) (sym first.0) ∙ both))
  by (inr other) both more = absurd (not_true (ap (λ b. b && are_numbered (k + 1) rest) (sym other.0) ∙ both))

signals_numbered : AreNumbered 1 signals
signals_numbered = numbered_is 1 signals refl

-- the signals that stop are these
stops_are : (signal : Signal) → raised_by signal ≡ stops → IsStopping (number_of signal)
stops_are Stop is = inl refl
stops_are Tstp is = inr (inl refl)
stops_are Ttin is = inr (inr (inl refl))
stops_are Ttou is = inr (inr (inr refl))
stops_are Chld is = absurd (passes_on is) where
  passes_on : passes ≡ stops → ⊥
  passes_on e = cc
stops_are Cont is = absurd (passes_on is) where
  passes_on : passes ≡ stops → ⊥
  passes_on e = cc
stops_are Urg is = absurd (passes_on is) where
  passes_on : passes ≡ stops → ⊥
  passes_on e = cc
stops_are _ is = absurd (ends_then is) where
  ends_then : ends ≡ stops → ⊥
  ends_then e = cc

raises : (p : ℕ) (signal : Signal) (kind : Raised) → (raised_by signal ≡ kind) → ¬ IsStopping (number_of signal)
    → (raise_as kind p signal).answer ≡ answer.Reply (success 0 0)
raises p signal stops is isnt = absurd (isnt (stops_are signal is))
raises p signal passes is isnt = refl
raises p signal ends is isnt = refl

module _ (constants : Constants) (S : State) (who : Who) (number : ℕ) (table : Table) (own : ProcessState)
    (unrefused : IsUnrefused S who (ProcRaise number) table own) where
  raised_as : (o : Option Signal) → signal_of number ≡ o
      → (raise_of who.pid o).answer ≡ step_answer constants S who (ProcRaise number)
  raised_as o is =
      sym (answer_is constants S who (ProcRaise number) table own unrefused ∙ ap (λ s. (raise_of who.pid s).answer) is)

  stopped : (k : ℕ) (signal : Signal) → number ≡ k → signal_of k ≡ Some signal
      → (raise_of who.pid (Some signal)).answer ≡ step_answer constants S who (ProcRaise number)
  stopped k signal is found = raised_as (Some signal) (ap signal_of is ∙ found)

  raise_sound : (given : Answer) → RaiseComesTo number given → given ≡ step_answer constants S who (ProcRaise number)
  raise_sound given (no_signal out) =
      raised_as None (found_none number 1 signals signals_numbered (elim out [
        | inl none ↦ inl (omega (arith, none))
        | inr more ↦ inr (omega (arith, more))
      ]))
  raise_sound given (stopping (inl is)) = stopped 14 Stop is refl
  raise_sound given (stopping (inr (inl is))) = stopped 18 Tstp is refl
  raise_sound given (stopping (inr (inr (inl is)))) = stopped 19 Ttin is refl
  raise_sound given (stopping (inr (inr (inr is)))) = stopped 20 Ttou is refl
  raise_sound given (raised some few isnt) =
      let found = found_in number 1 signals signals_numbered (omega (arith, some)) (omega (arith, few)) in
      sym (raises who.pid found.0 (raised_by found.0) refl (λ is. isnt (subst IsStopping found.2 is)))
      ∙ raised_as (Some found.0) found.1

stopping_or : (number : ℕ) → IsStopping number ⊎ (¬ IsStopping number)
stopping_or number =
    elim (same_or number 14) [
      | inl a ↦ inl (inl a)
      | inr na ↦ elim (same_or number 18) [
        | inl b ↦ inl (inr (inl b))
        | inr nb ↦ elim (same_or number 19) [
          | inl c ↦ inl (inr (inr (inl c)))
          | inr nc ↦ elim (same_or number 20) [
            | inl d ↦ inl (inr (inr (inr d)))
            | inr nd ↦ inr (λ is. elim is [ inl a ↦ na a | inr (inl b) ↦ nb b | inr (inr (inl c)) ↦ nc c | inr (inr (inr d)) ↦ nd d ])
          ]
        ]
      ]
    ]

raise_some : (number : ℕ) → (given : Answer) × RaiseComesTo number given
raise_some number =
    elim (below 0 number) [
      | inr none ↦ (_, no_signal (inl (omega (arith, none))))
      | inl some ↦ elim (below 26 number) [
        | inl more ↦ (_, no_signal (inr more))
        | inr few ↦ elim (stopping_or number) [ inl is ↦ (_, stopping is) | inr isnt ↦ (_, raised some few isnt) ]
      ]
    ]

pub raise_is_listed : RaiseIsListed
raise_is_listed constants S who number table own given unrefused =
    all_listed (RaiseComesTo number) (step_answer constants S who (ProcRaise number)) (raise_sound constants S who number table own unrefused)
    (raise_some number) given

-- ---- proc_fork

-- the five tests of a fork
abbrev fork_tests : Bool → Bool → Bool → Bool → Bool → Bool → Bool
fork_tests turns depth children there number objects = turns && ((depth && children) && (there && (number && objects)))

tests_fail : (turns depth children there number objects : Bool)
    → (turns ≡ false) ⊎ (depth ≡ false) ⊎ (children ≡ false) ⊎ (number ≡ false) ⊎ (objects ≡ false)
    → fork_tests turns depth children there number objects ≡ false
tests_fail false depth children there number objects some = refl
tests_fail true false children there number objects some = refl
tests_fail true true false there number objects some = refl
tests_fail true true true false number objects some = refl
tests_fail true true true true false objects some = refl
tests_fail true true true true true false some = refl
tests_fail true true true true true true (inl a) = a
tests_fail true true true true true true (inr (inl b)) = b
tests_fail true true true true true true (inr (inr (inl c))) = c
tests_fail true true true true true true (inr (inr (inr (inl d)))) = d
tests_fail true true true true true true (inr (inr (inr (inr e)))) = e

module _ (left p t : ℕ) (own : ProcessState) where
  -- the tests one by one
  can_not : MayNotFork left p own → can_fork left p t own ≡ false
  can_not some =
      tests_fail (nat_le least_turns left) (nat_lt own.depth 4) (nat_lt own.counts.forks 254) (is_some (get own.threads t)) (nat_lt p 0xffffffff)
      (nat_lt (own.counts.objects + 2) (2 ^ 32)) (elim some [
        | inl turns ↦ inl (lt-leb 16 left turns)
        | inr (inl deep) ↦ inr (inl (le-ltb own.depth 4 deep))
        | inr (inr (inl many)) ↦ inr (inr (inl (le-ltb own.counts.forks 254 many)))
        | inr (inr (inr (inl last))) ↦ inr (inr (inr (inl (le-ltb p 0xffffffff last))))
        | inr (inr (inr (inr spent))) ↦ inr (inr (inr (inr (le-ltb (own.counts.objects + 2) (2 ^ 32) spent))))
      ])

  can : IsSome (get own.threads t) → ¬ MayNotFork left p own → can_fork left p t own ≡ true
  can there may = λ i. turns i && ((depth i && children i) && (there i && (number i && objects i))) where
    turns : nat_le least_turns left ≡ true
    turns = elim (below left 16) [ inl few ↦ absurd (may (inl few)) | inr most ↦ le-leb 16 left most ]

    depth : nat_lt own.depth 4 ≡ true
    depth = elim (below own.depth 4) [ inl few ↦ lt-ltb own.depth 4 few | inr most ↦ absurd (may (inr (inl most))) ]

    children : nat_lt own.counts.forks 254 ≡ true
    children = elim (below own.counts.forks 254) [ inl few ↦ lt-ltb own.counts.forks 254 few | inr most ↦ absurd (may (inr (inr (inl most)))) ]

    number : nat_lt p 0xffffffff ≡ true
    number = elim (below p 0xffffffff) [ inl few ↦ lt-ltb p 0xffffffff few | inr most ↦ absurd (may (inr (inr (inr (inl most))))) ]

    objects : nat_lt (own.counts.objects + 2) (2 ^ 32) ≡ true
    objects =
        elim (below (own.counts.objects + 2) (2 ^ 32)) [
          | inl few ↦ lt-ltb (own.counts.objects + 2) (2 ^ 32) few
          | inr most ↦ absurd (may (inr (inr (inr (inr most)))))
        ]

  fork_or : MayNotFork left p own ⊎ (¬ MayNotFork left p own)
  fork_or =
      elim (below left 16) [
        | inl a ↦ inl (inl a)
        | inr na ↦ elim (below own.depth 4) [
          | inr b ↦ inl (inr (inl b))
          | inl nb ↦ elim (below own.counts.forks 254) [
            | inr c ↦ inl (inr (inr (inl c)))
            | inl nc ↦ elim (below p 0xffffffff) [
              | inr d ↦ inl (inr (inr (inr (inl d))))
              | inl nd ↦ elim (below (own.counts.objects + 2) (2 ^ 32)) [
                | inr e ↦ inl (inr (inr (inr (inr e))))
                | inl ne ↦ inr (λ is. elim is [
                  | inl a ↦ omega (arith, a, na)
                  | inr (inl b) ↦ omega (arith, b, nb)
                  | inr (inr (inl c)) ↦ omega (arith, c, nc)
                  | inr (inr (inr (inl d))) ↦ omega (arith, d, nd)
                  | inr (inr (inr (inr e))) ↦ omega (arith, e, ne)
                ])
              ]
            ]
          ]
        ]
      ]

module _ (constants : Constants) (S : State) (who : Who) (left : ℕ) (table : Table) (own : ProcessState)
    (unrefused : IsUnrefused S who (ProcFork left) table own) where
  forked_as : (o : Option ℕ) → lowest_free table ≡ o
      → (fork_at left who.pid who.tid (Some own) table o).answer ≡ step_answer constants S who (ProcFork left)
  forked_as o is =
      sym (answer_is constants S who (ProcFork left) table own unrefused
      ∙ (λ i. (fork_at left who.pid who.tid (unrefused.there i) table (is i)).answer))

  fork_sound : (given : Answer) → ForkComesTo left who.pid table own given → given ≡ step_answer constants S who (ProcFork left)
  fork_sound given (no_number taken) = forked_as None (lowest_none table taken)
  fork_sound given (no_child fd free may) =
      sym (ap (λ b. (fork_if b who.pid who.tid own table fd).answer) (can_not left who.pid who.tid own may))
      ∙ forked_as (Some fd) (lowest_is table fd free)
  fork_sound given (made fd free may) =
      ap answer.Reply (sym ((forks_are_numbered who.pid who.tid own few).reply fd
      ∙ ap (λ child. record (success fd 0) { payload = Child child }) (forks_are_numbered who.pid who.tid own few).number))
      ∙ sym (ap (λ b. (fork_if b who.pid who.tid own table fd).answer) (can left who.pid who.tid own unrefused.caller may))
      ∙ forked_as (Some fd) (lowest_is table fd free) where
        few : own.depth < 4
        few = elim (below own.depth 4) [ inl less ↦ less | inr deep ↦ absurd (may (inr (inl deep))) ]

fork_some : (left p : ℕ) (table : Table) (own : ProcessState) → (given : Answer) × ForkComesTo left p table own given
fork_some left p table own =
    elim (all_or_first table 0 (omega arith)) [
      | inl taken ↦ (_, no_number (λ m few. taken m (omega arith) few))
      | inr one ↦ elim (fork_or left p 0 own) [ inl may ↦ (_, no_child one.0 one.1 may) | inr may ↦ (_, made one.0 one.1 may) ]
    ]

pub fork_is_listed : ForkIsListed
fork_is_listed constants S who left table own given unrefused =
    all_listed (ForkComesTo left who.pid table own) (step_answer constants S who (ProcFork left)) (fork_sound constants S who left table own unrefused)
    (fork_some left who.pid table own) given

-- ---- proc_exec

module _ (constants : Constants) (S : State) (who : Who) (fd : ℕ) (bytes fds : List ℕ) (table : Table) (own : ProcessState)
    (unrefused : IsUnrefused S who (ProcExec fd bytes fds) table own) where
  -- what it comes to by the open of the descriptor, by the faults of the file, and by the test of its words
  abbrev by_fault : ℕ → Option ElfFault → Verdict
  by_fault node fault =
      verdict_of (exec_checked constants.key who.pid who.tid (listed table fds) (bytes_of (tree_of S) node) (Some own) fault).answer

  executed_as : (node offset flags : ℕ) → IsOpenOn S table fd (File node offset flags) → (fault : Option ElfFault)
      → fault_of (bytes_of (tree_of S) node) ≡ fault → by_fault node fault ≡ verdict_of (step_answer constants S who (ProcExec fd bytes fds))
  executed_as node offset flags opened fault is =
      let effect = exec_open constants.key who.pid who.tid (listed table fds) (whole (tick S)) in
      ap verdict_of (sym (answer_is constants S who (ProcExec fd bytes fds) table own unrefused
      ∙ ap (λ d. (at_descriptor (λ o. effect) (whole (tick S)) d).answer) opened.1
      ∙ ap (λ kind. (effect kind).answer) opened.2
      ∙ (λ i. (exec_checked constants.key who.pid who.tid (listed table fds) (bytes_of (tree_of S) node) (unrefused.there i) (is i)).answer)))

  exec_sound : (verdict : Verdict) → ExecComesTo S fd table own verdict → verdict ≡ verdict_of (step_answer constants S who (ProcExec fd bytes fds))
  exec_sound verdict (no_program node offset flags fault opened is) = executed_as node offset flags opened (Some fault) is
  exec_sound verdict (no_words node offset flags opened is spent) =
      sym (ap (λ b. verdict_of (exec_if b constants.key who.pid who.tid own (listed table fds) (bytes_of (tree_of S) node)).answer)
      (le-ltb (own.counts.words + 16) (2 ^ 63) spent))
      ∙ executed_as node offset flags opened None is
  exec_sound verdict (begins node offset flags opened is few) =
      sym (ap (λ b. verdict_of (exec_if b constants.key who.pid who.tid own (listed table fds) (bytes_of (tree_of S) node)).answer)
      (lt-ltb (own.counts.words + 16) (2 ^ 63) few))
      ∙ executed_as node offset flags opened None is

  fault_some : (node offset flags : ℕ) → IsOpenOn S table fd (File node offset flags) → (fault : Option ElfFault) → fault_of (bytes_of (tree_of S) node) ≡ fault
      → (verdict : Verdict) × ExecComesTo S fd table own verdict
  fault_some node offset flags opened (Some fault) is = (_, no_program node offset flags fault opened is)
  fault_some node offset flags opened None is =
      elim (below (own.counts.words + 16) (2 ^ 63)) [
        | inl few ↦ (_, begins node offset flags opened is few)
        | inr spent ↦ (_, no_words node offset flags opened is spent)
      ]

  -- the right to run a program is one of files alone
  exec_some : (verdict : Verdict) × ExecComesTo S fd table own verdict
  exec_some =
      let met = (all_met (ProcExec fd bytes fds) table unrefused.allowed).0 in
      let found = open_there S unrefused.valid.nearly who.pid fd table met.0 unrefused.had met.1 in
      at_file S (λ kind. get S.opens met.0.id ≡ Some kind → (verdict : Verdict) × ExecComesTo S fd table own verdict) 32 (base_row fd PROC_EXEC) refl refl
      ((omega arith, refl, refl, refl, refl), refl)
      (λ node offset flags file opened. fault_some node offset flags (met.0, met.1, opened) (fault_of (bytes_of (tree_of S) node)) refl)
      found.0 (record { d = met.0; rights = found.2; has = met.2; behind = unrefused.valid.nearly.behind met.0.id found.0 found.1 }) found.1

pub exec_is_listed : ExecIsListed
exec_is_listed constants S who fd bytes fds table own verdict unrefused =
    all_listed (ExecComesTo S fd table own) (verdict_of (step_answer constants S who (ProcExec fd bytes fds)))
    (exec_sound constants S who fd bytes fds table own unrefused) (exec_some constants S who fd bytes fds table own unrefused) verdict
