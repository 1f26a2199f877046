-- The program that begins by the answer to a call.
--     may_begin      it can begin
--     begun_is, begun_or_lost      what the guest is then
use Rattle.std.proofs.Common.{◌≡◌, ℕ, Bool, true, false, refl, sym, ap, subst, ◌∙◌}
use Rattle.std.specs.Prelude.{if◌then◌else◌, OnOk, Result, Ok, Err}
use Rattle.abi_base.specs.Registers.{Registers}
use Rattle.abi_types.specs.declared.call.Call.{Call}
use Rattle.abi_types.specs.declared.call.Call.TheVariants.{ProcExec, ProcFork}
use Rattle.abi_types.specs.declared.constants.Constants.{Constants}
use Rattle.abi_types.specs.declared.reply.Answer.{Answer}
use Rattle.abi_types.specs.declared.reply.Answer.TheVariants as answer
use Rattle.abi_types.specs.declared.reply.Payload.{Payload}
use Rattle.abi_types.specs.declared.reply.Reply.{Reply}
use Rattle.abi_types.specs.declared.who.Who.{Who}
use Rattle.clock_random.proofs.Keystream.{is_whole}
use Rattle.elf_image.proofs.FaultOrder.{has_no_fault}
use Rattle.tree_model.specs.Changes.{bytes_of}
use Rattle.guest_memory.specs.Page.{Pages}
use Rattle.kernel_model.specs.State.{State, tree_of}
use Rattle.kernel_model.specs.Step.{IsStep}
use Rattle.kernel_model.specs.Threads.{is_success}
use Rattle.kernel_model.proofs.ForkLaws.{exec_begins}
use Rattle.kernel_model.proofs.ThreadLaws.{success_is}
use Rattle.call_codec.specs.Arguments.{args_of}
use Rattle.call_codec.proofs.ProcessLaws.{exec_bounds}
use Rattle.run_model.specs.World.{Guest, answered_guest, begun_guest, called_guest}
use Rattle.guest_process.specs.Programs.{begun_by, CanBegin, MayBegin}
use Rattle.kernel_cell.specs.Asking.{HasNoChild}

-- a program that a step answers with is whole, and has a canary; and its argument data were read from the guest's memory
pub may_begin : (m : Pages) (r : Registers) (left : ℕ) (constants : Constants) (S : State) (who : Who) (call : Call) (given : Answer) (T : State)
    → call ≡ args_of m r left → IsStep constants S who call given T → MayBegin call given
may_begin m r left constants S who (ProcExec fd bytes fds) (answer.Parked writes) T encoded step = tt
may_begin m r left constants S who (ProcExec fd bytes fds) (answer.Reply reply) T encoded step = λ done.
    let begun = exec_begins constants S who fd bytes fds reply T step (success_is reply.errno done) in
    subst (CanBegin bytes) (sym (ap (λ (x : Reply). x.payload) begun.answers)) (record {
      whole = has_no_fault (bytes_of (tree_of S) begun.node) begun.sound;
      short = (exec_bounds m r left fd bytes fds (sym encoded)).0;
      random = is_whole constants.key who.pid begun.own.counts.words 64;
    })
may_begin m r left constants S who call given T encoded step = tt

same_where : (b : Bool) (x y z : Guest) → (b ≡ true → x ≡ y) → (if b then x else z) ≡ (if b then y else z)
same_where true x y z same = same refl
same_where false x y z same = refl

-- the guest that got the answer, and in which the program begins then, is the one that the answer says
pub begun_is : (constants : Constants) (S : State) (who : Who) (call : Call) (given : Answer) (T : State) (p t : ℕ) (guest : Guest) → HasNoChild call
    → IsStep constants S who call given T → begun_by p (called_guest guest t call given) t call given ≡ answered_guest p guest t call given
begun_is constants S who (ProcFork left) given T p t guest plain step = absurd plain
begun_is constants S who (ProcExec fd bytes fds) (answer.Parked writes) T p t guest plain step = refl
begun_is constants S who (ProcExec fd bytes fds) (answer.Reply reply) T p t guest plain step =
    let called = called_guest guest t (ProcExec fd bytes fds) (answer.Reply reply) in
    same_where (is_success reply.errno) (begun_guest called p t bytes reply.payload) (begun_guest guest p t bytes reply.payload) called
    (λ done.
    let begun = exec_begins constants S who fd bytes fds reply T step (success_is reply.errno done) in
    subst (λ (x : Payload). begun_guest called p t bytes x ≡ begun_guest guest p t bytes x) (sym (ap (λ (x : Reply). x.payload) begun.answers)) refl)
begun_is constants S who call given T p t guest plain step = refl

-- the same, where there was memory for the program
pub begun_or_lost : {X E : Type 0} (begun : Result X E) (constants : Constants) (S : State) (who : Who) (call : Call) (given : Answer) (T : State) (p t : ℕ)
    (guest answered after : Guest) → HasNoChild call → IsStep constants S who call given T → answered ≡ called_guest guest t call given
    → OnOk begun (after ≡ begun_by p answered t call given) → OnOk begun (after ≡ answered_guest p guest t call given)
begun_or_lost (Ok done) constants S who call given T p t guest answered after plain step is begins =
    begins ∙ ap (λ (g : Guest). begun_by p g t call given) is ∙ begun_is constants S who call given T p t guest plain step
begun_or_lost (Err lack) constants S who call given T p t guest answered after plain step is begins = tt
