-- States in which locks were given to threads of a process that wait, or such threads were signalled.
--     moved_nearly_valid      a nearly valid state stays so
--     moved_keeps, moved_counts      what becomes of each thread, and of what each process has made
use Rattle.std.proofs.Common.{◌≡◌, ◌≢◌, ℕ, ◌≤◌, Some, refl, sym, ap, subst, ◌∙◌, arith}
use Rattle.std.specs.FinMap.{get, insert}
use Rattle.abi_types.specs.declared.counts.Counts.{Counts}
use Rattle.maps.specs.Maps.{get-insert-same, get-insert-other}
use Rattle.tree_model.specs.Entries.{here_or_other}
use Rattle.kernel_model.specs.Families.Locks.{with_threads}
use Rattle.kernel_model.specs.State.{State, ProcessState, Threads, counts_in, put_one, set_process, thread_in, thread_of}
use Rattle.kernel_model.specs.Valid.{IsNearlyValid}
use Rattle.kernel_model.proofs.Children.{one_keeps, KeepsChildren}
use Rattle.kernel_model.proofs.Locks.{keeps_same, Keeps, KeepsEach}
use Rattle.kernel_model.proofs.Valids.{processes_nearly_valid, some_again, threads_in}

module _ (S : State) (p : ℕ) (own : ProcessState) (threads : Threads) (there : get S.processes p ≡ Some own) (keeps : KeepsEach own.threads threads) where
  abbrev after : State
  after = put_one (set_process p (with_threads own threads)) S

  here : get after.processes p ≡ Some (with_threads own threads)
  here = get-insert-same S.processes p (with_threads own threads)

  other : (q : ℕ) → q ≢ p → get after.processes q ≡ get S.processes q
  other q apart = get-insert-other S.processes p (with_threads own threads) q apart

  pub moved_counts : (q : ℕ) → counts_in (get after.processes q) ≡ counts_in (get S.processes q)
  moved_counts q =
      here_or_other (λ k. counts_in (get after.processes k) ≡ counts_in (get S.processes k)) p q (ap counts_in here ∙ sym (ap counts_in there))
      (λ apart. ap counts_in (other q apart))

  pub moved_keeps : (q t : ℕ) → Keeps (thread_of S q t) (thread_of after q t)
  moved_keeps q t =
      here_or_other (λ k. Keeps (thread_of S k t) (thread_of after k t)) p q
      (subst (λ o. Keeps (thread_in (threads_in o) t) (thread_of after p t)) (sym there)
      (subst (λ o. Keeps (get own.threads t) (thread_in (threads_in o) t)) (sym here) (keeps t)))
      (λ apart. subst (λ o. Keeps (thread_of S q t) (thread_in (threads_in o) t)) (sym (other q apart)) (keeps_same (thread_of S q t)))

  same_children : KeepsChildren (Some own) (Some (with_threads own threads))
  same_children = (refl, omega arith)

  pub moved_nearly_valid : IsNearlyValid S → IsNearlyValid (put_one (set_process p (with_threads own threads)) S)
  moved_nearly_valid v =
      processes_nearly_valid S (insert S.processes p (with_threads own threads))
      (record {
        there = λ q. some_again S.processes p own (with_threads own threads) q there;
        numbered = λ q t now. subst (λ (c : Counts). t ≤ c.threads) (sym (moved_counts q)) (v.numbered q t (sym (moved_keeps q t).here ∙ now));
        waits = λ q t. (moved_keeps q t).may (v.waits q t);
        more = λ q. let same = ap (λ (c : Counts). c.objects) (moved_counts q) in omega (arith, same);
        children = one_keeps S.processes p own (with_threads own threads) there same_children;
      })
      v
