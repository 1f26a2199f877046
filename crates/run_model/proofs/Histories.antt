-- What a history's world is, which parts of a legal history are legal, and what an entry leaves.
--     world_none, world_more, world_rest      the world of no entry, of one more, and of a rest
--     world_constants      what stays the same for the whole run
--     legal_none, legal_more, legal_front, legal_next, legal_rest      legal histories
--     apply_is, guest_turned, turned_more, whole_more ..      turns and acts
--     first_guest_is, first_state, first_registers_are, first_threads, first_thread      the start
use Rattle.std.proofs.Common.{◌≡◌, ℕ, List, [], ◌∷◌, ◌++◌, Some, refl, ap, ◌∙◌}
use Rattle.std.specs.Option.{option_map}
use Rattle.std.specs.FinMap.{empty, insert}
use Rattle.abi_types.specs.declared.thread.Thread.TheVariants.{Runnable}
use Rattle.abi_base.specs.Registers.{Registers}
use Rattle.abi_types.specs.declared.who.Who.{Who}
use Rattle.run_types.specs.declared.history.Act.{Act}
use Rattle.run_types.specs.declared.history.Act.TheVariants as act
use Rattle.run_types.specs.declared.history.Entry.{Entry}
use Rattle.run_types.specs.declared.launch.Launch.{Launch}
use Rattle.kernel_model.specs.Start.{first_process, start_state}
use Rattle.kernel_model.specs.State.{State, ProcessState, threads_of, thread_in}
use Rattle.maps.specs.Maps.{get-insert-same}
use Rattle.rv_interp.specs.declared.turns.TurnEnd.TheVariants.{Quantum}
use Rattle.run_model.specs.Legal.{IsRunnable, MayTurn, AreWhole, Fits, FollowsFrom, Legal}
use Rattle.call_codec.specs.Start.{first_registers}
use Rattle.run_model.specs.World.{World, Guest, first_guest, start_world, or_no_guest, guest_of, or_no_registers, registers_of, with_registers, with_guest, turned_guest, turn_end, turned_guest_by, turned, acted, who_of, apply, apply_all, world}

-- ---- the world of a history

all_more : (w : World) (history : List Entry) (e : Entry) → apply_all w (history ++ e ∷ []) ≡ apply (apply_all w history) e
unfolding apply_all
all_more w [] e = refl
all_more w (first ∷ history) e = all_more (apply w first) history e

-- the world of no entry is the launch's
pub world_none : (launch : Launch) → world launch [] ≡ start_world launch
unfolding world apply_all
world_none launch = refl

-- one more entry is applied to the world before it
pub world_more : (launch : Launch) (history : List Entry) (e : Entry) → world launch (history ++ e ∷ []) ≡ apply (world launch history) e
unfolding world
world_more launch history e = all_more (start_world launch) history e

all_rest : (w : World) (front rest : List Entry) → apply_all w (front ++ rest) ≡ apply_all (apply_all w front) rest
unfolding apply_all
all_rest w [] rest = refl
all_rest w (first ∷ front) rest = all_rest (apply w first) front rest

-- the entries of the rest are applied to the world of the front
pub world_rest : (launch : Launch) (front rest : List Entry) → world launch (front ++ rest) ≡ apply_all (world launch front) rest
unfolding world
world_rest launch front rest = all_rest (start_world launch) front rest

acted_constants : (w : World) (who : Who) (a : Act) → (acted w who a).constants ≡ w.constants
acted_constants w who (act.Call call given) = refl
acted_constants w who (act.Wake call given answered) = refl
acted_constants w who (act.Trap signal) = refl
acted_constants w who act.Expire = refl
acted_constants w who act.Idle = refl

-- what stays the same for the whole run does
pub apply_constants : (w : World) (e : Entry) → (apply w e).constants ≡ w.constants
unfolding apply
apply_constants w e = acted_constants (turned w e.pid e.turns) (who_of w.state e) e.act

all_constants : (w : World) (history : List Entry) → (apply_all w history).constants ≡ w.constants
unfolding apply_all
all_constants w [] = refl
all_constants w (e ∷ history) = all_constants (apply w e) history ∙ apply_constants w e

pub world_constants : (launch : Launch) (history : List Entry) → (world launch history).constants ≡ launch.constants
unfolding world start_world
world_constants launch history = all_constants (start_world launch) history

-- ---- legal histories

follows_more : (w : World) (history : List Entry) (e : Entry) → FollowsFrom w history → Fits (apply_all w history) e → FollowsFrom w (history ++ e ∷ [])
unfolding FollowsFrom apply_all
follows_more w [] e before fits = (fits, tt)
follows_more w (first ∷ history) e before fits = (before.0, follows_more (apply w first) history e before.1 fits)

follows_front : (w : World) (front rest : List Entry) → FollowsFrom w (front ++ rest) → FollowsFrom w front
unfolding FollowsFrom
follows_front w [] rest all = tt
follows_front w (first ∷ front) rest all = (all.0, follows_front (apply w first) front rest all.1)

follows_next : (w : World) (front : List Entry) (e : Entry) (rest : List Entry) → FollowsFrom w (front ++ e ∷ rest) → Fits (apply_all w front) e
unfolding FollowsFrom apply_all
follows_next w [] e rest all = all.0
follows_next w (first ∷ front) e rest all = follows_next (apply w first) front e rest all.1

follows_rest : (w : World) (front rest : List Entry) → FollowsFrom w (front ++ rest) → FollowsFrom (apply_all w front) rest
unfolding FollowsFrom apply_all
follows_rest w [] rest all = all
follows_rest w (first ∷ front) rest all = follows_rest (apply w first) front rest all.1

-- no entry is legal
pub legal_none : (launch : Launch) → Legal launch []
unfolding Legal FollowsFrom
legal_none launch = tt

-- an entry that fits a legal history's world may follow it
pub legal_more : (launch : Launch) (history : List Entry) (e : Entry) → Legal launch history → Fits (world launch history) e → Legal launch (history ++ e ∷ [])
unfolding Legal world
legal_more launch history e before fits = follows_more (start_world launch) history e before fits

-- the front of a legal history is legal
pub legal_front : (launch : Launch) (front rest : List Entry) → Legal launch (front ++ rest) → Legal launch front
unfolding Legal
legal_front launch front rest all = follows_front (start_world launch) front rest all

-- each entry of a legal history fits the world of those before it
pub legal_next : (launch : Launch) (front : List Entry) (e : Entry) (rest : List Entry) → Legal launch (front ++ e ∷ rest) → Fits (world launch front) e
unfolding Legal world
legal_next launch front e rest all = follows_next (start_world launch) front e rest all

-- the rest of a legal history follows from the world of its front
pub legal_rest : (launch : Launch) (front rest : List Entry) → Legal launch (front ++ rest) → FollowsFrom (world launch front) rest
unfolding Legal world
legal_rest launch front rest all = follows_rest (start_world launch) front rest all

-- ---- what an entry leaves

-- an entry is its turns and then its act
pub apply_is : (w : World) (e : Entry) → apply w e ≡ acted (turned w e.pid e.turns) (who_of w.state e) e.act
unfolding apply
apply_is w e = refl

pub guest_set : (w : World) (p : ℕ) (guest : Guest) → guest_of (with_guest w p guest) p ≡ guest
guest_set w p guest = ap or_no_guest (get-insert-same w.guests p guest)

pub guest_turned : (w : World) (p : ℕ) (ts : List ℕ) → guest_of (turned w p ts) p ≡ turned_guest_by ts (guest_of w p)
guest_turned w p ts = guest_set w p (turned_guest_by ts (guest_of w p))

pub registers_set : (guest : Guest) (t : ℕ) (r : Registers) → registers_of (with_registers guest t r) t ≡ r
registers_set guest t r = ap or_no_registers (get-insert-same guest.regs t r)

pub turned_more : (ts : List ℕ) (t : ℕ) (guest : Guest) → turned_guest_by (ts ++ t ∷ []) guest ≡ turned_guest (turned_guest_by ts guest) t
turned_more [] t guest = refl
turned_more (first ∷ ts) t guest = turned_more ts t (turned_guest guest first)

pub whole_more : (S : State) (p : ℕ) (ts : List ℕ) (t : ℕ) (guest : Guest) → AreWhole S p guest ts → MayTurn S p (turned_guest_by ts guest) t
    → turn_end (turned_guest_by ts guest) t ≡ Quantum → AreWhole S p guest (ts ++ t ∷ [])
whole_more S p [] t guest before may end = (may, end, tt)
whole_more S p (first ∷ ts) t guest before may end = (before.0, before.1, whole_more S p ts t (turned_guest guest first) before.2 may end)

-- ---- the start

pub first_guest_is : (launch : Launch) → guest_of (start_world launch) 0 ≡ first_guest launch
unfolding start_world
first_guest_is launch = ap or_no_guest (get-insert-same empty 0 (first_guest launch))

pub first_state : (launch : Launch) → (start_world launch).state ≡ start_state launch.tree launch.grants launch.stdin
unfolding start_world
first_state launch = refl

pub first_registers_are : (launch : Launch) → registers_of (first_guest launch) 1 ≡ first_registers launch.elf.entry
first_registers_are launch = ap or_no_registers (get-insert-same empty 1 (first_registers launch.elf.entry))

-- the threads of process 0 are thread 1 alone, which is runnable
pub first_threads : (launch : Launch) → threads_of (start_world launch).state 0 ≡ Some (insert empty 1 Runnable)
unfolding start_world
first_threads launch = ap (option_map (λ (own : ProcessState). own.threads)) (get-insert-same empty 0 first_process)

pub first_thread : (launch : Launch) → IsRunnable (start_world launch).state 0 1
first_thread launch = ap (λ o. thread_in o 1) (first_threads launch) ∙ get-insert-same empty 1 Runnable
