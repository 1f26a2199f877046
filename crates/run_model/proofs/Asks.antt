-- What a process asks for by an act depends on its own guest and threads alone.
use Rattle.std.proofs.Common.{◌≡◌, ℕ, List, [], ◌∷◌, sym, ap, subst, ◌∙◌}
use Rattle.abi_types.specs.declared.who.Who.{Who}
use Rattle.run_types.specs.declared.history.Act.{Act}
use Rattle.run_types.specs.declared.history.Act.TheVariants as act
use Rattle.kernel_model.specs.State.{State, threads_of, thread_in}
use Rattle.rv_interp.specs.declared.turns.TurnEnd.{TurnEnd}
use Rattle.rv_interp.specs.declared.turns.TurnEnd.TheVariants as turn_end_is
use Rattle.run_model.specs.Legal.{IsRunnable, AreWhole, LastEnds, Asks}
use Rattle.run_model.specs.World.{World, Guest, guest_of, turned_guest}

module _ (S T : State) (p : ℕ) (same : threads_of T p ≡ threads_of S p) where
  runnable_there : (t : ℕ) → IsRunnable S p t → IsRunnable T p t
  runnable_there t runs = ap (λ o. thread_in o t) same ∙ runs

  pub whole_there : (guest : Guest) (ts : List ℕ) → AreWhole S p guest ts → AreWhole T p guest ts
  whole_there guest [] whole = tt
  whole_there guest (t ∷ ts) whole = ((runnable_there t whole.0.0, whole.0.1), whole.1, whole_there (turned_guest guest t) ts whole.2)

  last_there : (guest : Guest) (ts : List ℕ) (t : ℕ) (end : TurnEnd) → LastEnds S p guest ts t end → LastEnds T p guest ts t end
  last_there guest ts t end last = (last.0, last.1, whole_there guest last.0 last.2, (runnable_there t last.3.0, last.3.1), last.4)

asks_there : (S T : State) (who : Who) (guest : Guest) (ts : List ℕ) (a : Act) → threads_of T who.pid ≡ threads_of S who.pid → Asks S who guest ts a
    → Asks T who guest ts a
asks_there S T who guest ts (act.Call call given) same asks = (last_there S T who.pid same guest ts who.tid turn_end_is.Ecall asks.0, asks.1)
asks_there S T who guest ts (act.Wake call given answered) same asks =
    (whole_there S T who.pid same guest ts asks.0, (asks.1.0, asks.1.1, asks.1.2, ap (λ o. thread_in o who.tid) same ∙ asks.1.3), asks.2)
asks_there S T who guest ts (act.Trap signal) same asks = last_there S T who.pid same guest ts who.tid (turn_end_is.Trap signal) asks
asks_there S T who guest ts act.Expire same asks = (whole_there S T who.pid same guest ts asks.0, runnable_there S T who.pid same who.tid asks.1, asks.2)
asks_there S T who guest ts act.Idle same asks = asks

pub asks_stay : (w v : World) (who : Who) (ts : List ℕ) (a : Act) → guest_of v who.pid ≡ guest_of w who.pid
    → threads_of v.state who.pid ≡ threads_of w.state who.pid → Asks w.state who (guest_of w who.pid) ts a
    → Asks v.state who (guest_of v who.pid) ts a
asks_stay w v who ts a guest threads asks =
    asks_there w.state v.state who (guest_of v who.pid) ts a threads (subst (λ (g : Guest). Asks w.state who g ts a) (sym guest) asks)
