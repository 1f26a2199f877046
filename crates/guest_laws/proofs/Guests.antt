-- What a child, its parent and a program that begins have.
--     child_is_copied, program_is_fresh      the laws of guests
--     forks_split, programs_start_fresh      those of entries
use Rattle.std.proofs.Common.{◌≡◌, ◌≢◌, ℕ, ◌-◌, false, Contains, None, Some, is_some, refl, sym, ap, subst, ◌∙◌, arith}
use Rattle.std.specs.Prelude.{◌/◌}
use Rattle.std.specs.Ordering.{nat_cmp}
use Rattle.std.specs.FinMap.{FinMap, empty, get, get-empty, insert}
use Rattle.abi_base.specs.Registers.{Registers}
use Rattle.abi_types.specs.declared.call.Call.{Call}
use Rattle.abi_types.specs.declared.call.Call.TheVariants.{ProcFork}
use Rattle.abi_types.specs.declared.reply.Answer.{Answer}
use Rattle.abi_types.specs.declared.reply.Payload.TheVariants.{Image}
use Rattle.abi_types.specs.declared.who.Who.{Who}
use Rattle.maps.specs.Maps.{get-insert-same, get-insert-other}
use Rattle.run_types.specs.declared.history.Act.{Act}
use Rattle.run_types.specs.declared.history.Act.TheVariants as act
use Rattle.kernel_model.specs.Threads.{child_told}
use Rattle.kernel_model.proofs.Tests.{none_is_no, same_some}
use Rattle.run_model.specs.Own.{born, is_idle, Made}
use Rattle.run_model.specs.World.{World, Guest, acted, answered_guest, apply, begun_guest, called_guest, child_guest, guest_of, less_share, turned, who_of}
use Rattle.run_model.proofs.Births.{contains_one}
use Rattle.run_model.proofs.Histories.{apply_is}
use Rattle.run_model.proofs.Own.{born_is_new}
use Rattle.run_model.proofs.Registers.{call_guest}
use Rattle.run_model.proofs.ThreadLaws.{program_begins}
use Rattle.run_model.proofs.Worlds.{born_guest}
use Rattle.guest_laws.specs.GuestLaws.{ChildIsCopied, ForksSplit, ProgramIsFresh, ProgramsStartFresh}

-- of one thread that has registers each other has none
abbrev only : ℕ → Registers → FinMap nat_cmp Registers
only t r = insert empty t r

only_one : (t : ℕ) (r : Registers) (u : ℕ) → u ≢ t → get (only t r) u ≡ None
only_one t r u apart = get-insert-other empty t r u apart ∙ get-empty nat_cmp u

pub child_is_copied : ChildIsCopied
child_is_copied = record {
  memory = λ guest t. refl;
  thread = λ guest t. get-insert-same empty t _;
  alone = λ guest t u apart. only_one t _ u apart;
  least = λ guest t. omega arith;
  most = λ guest t. omega arith;
  given = λ guest t child. omega arith;
  kept = λ guest child. refl;
  threads = λ guest child. refl;
  none = λ guest. refl;
}

pub program_is_fresh : ProgramIsFresh
program_is_fresh = record {
  memory = λ guest p t argdata elf canary. refl;
  thread = λ guest p t argdata elf canary. get-insert-same empty t _;
  alone = λ guest p t u argdata elf canary apart. only_one t _ u apart;
  turns = λ guest p t argdata elf canary. refl;
}

-- ---- entries that make a process

-- a call that makes a child leaves its process without a sixteenth of the turns
forked_left : (p : ℕ) (guest : Guest) (t : ℕ) (call : Call) (given : Answer) (q : ℕ) → child_told call given ≡ Some q
    → (answered_guest p guest t call given).left ≡ guest.left - guest.left / 16
forked_left p guest t (ProcFork left) given q told = ap (λ child. (less_share child (called_guest guest t (ProcFork left) given)).left) told
forked_left p guest t _ given q told = absurd (none_is_no q told)

parent_left : (w : World) (who : Who) (a : Act) (q : ℕ) → q ≢ who.pid → Contains (born a) q
    → (guest_of (acted w who a) who.pid).left ≡ (guest_of w who.pid).left - (guest_of w who.pid).left / 16
parent_left w who (act.Call call given) q apart there =
    let told = contains_one (child_told call given) q there in
    ap (λ (g : Guest). g.left) (call_guest w who call given (λ same. apart (same_some q who.pid (sym told ∙ same))))
    ∙ forked_left who.pid (guest_of w who.pid) who.tid call given q told
parent_left w who (act.Wake call given answered) q apart there = absurd (omega (arith, there.1))
parent_left w who (act.Trap signal) q apart there = absurd (omega (arith, there.1))
parent_left w who act.Expire q apart there = absurd (omega (arith, there.1))
parent_left w who act.Idle q apart there = absurd (omega (arith, there.1))

not_idle : (a : Act) (q : ℕ) → Contains (born a) q → is_idle a ≡ false
not_idle act.Idle q there = absurd (omega (arith, there.1))
not_idle _ q there = refl

pub forks_split : ForksSplit
forks_split w e q valid fits there =
    let g : Guest = guest_of (turned w e.pid e.turns) e.pid in
    let is : guest_of (apply w e) q ≡ child_guest g e.tid = born_guest w e q there in
    let new = (born_is_new w e q valid fits there).0 in
    let apart : q ≢ e.pid = λ same. new (subst (Made w) (sym same) (ap is_some (fits.live (not_idle e.act q there)))) in
    let child : (guest_of (apply w e) q).left ≡ g.left / 16 = ap (λ (x : Guest). x.left) is in
    let parent : (guest_of (apply w e) e.pid).left ≡ g.left - g.left / 16 =
    ap (λ (v : World). (guest_of v e.pid).left) (apply_is w e) ∙ parent_left (turned w e.pid e.turns) (who_of w.state e) e.act q apart there in
    record {
      memory = ap (λ (x : Guest). x.memory) is;
      thread = ap (λ (x : Guest). get x.regs e.tid) is ∙ child_is_copied.thread g e.tid;
      alone = λ u other. ap (λ (x : Guest). get x.regs u) is ∙ child_is_copied.alone g e.tid u other;
      least = omega (arith, child);
      most = omega (arith, child);
      others = omega (arith, child, parent);
    }

-- ---- entries by which a program begins

pub programs_start_fresh : ProgramsStartFresh
programs_start_fresh w e fd argdata fds reply elf canary fits called succeeds image live =
    let g : Guest = guest_of (turned w e.pid e.turns) e.pid in
    let begun = program_begins w e fd argdata fds reply fits (record { process = refl; act = called; done = succeeds }) live in
    let is : guest_of (apply w e) e.pid ≡ begun_guest g e.pid e.tid argdata (Image elf canary) = begun.guest ∙ ap (begun_guest g e.pid e.tid argdata) image in
    record {
      memory = ap (λ (x : Guest). x.memory) is;
      thread = ap (λ (x : Guest). get x.regs e.tid) is ∙ program_is_fresh.thread g e.pid e.tid argdata elf canary;
      alone = λ u other. ap (λ (x : Guest). get x.regs u) is ∙ program_is_fresh.alone g e.pid e.tid u argdata elf canary other;
      turns = ap (λ (x : Guest). x.left) is;
    }
