-- An entry leaves each open of what it is of.
use Rattle.std.proofs.Common.{◌≡◌, ℕ, List, ◌∷◌, Option, None, Some, refl, sym, subst}
use Rattle.abi_base.specs.declared.signal.Signal.TheVariants.{Xcpu}
use Rattle.abi_types.specs.declared.status.Status.TheVariants.{Killed}
use Rattle.abi_types.specs.declared.call.Call.{Call}
use Rattle.abi_types.specs.declared.constants.Constants.{Constants}
use Rattle.abi_types.specs.declared.descriptor.Descriptor.{Descriptor}
use Rattle.abi_types.specs.declared.open_kind.OpenKind.{OpenKind}
use Rattle.abi_types.specs.declared.reply.Answer.{Answer}
use Rattle.abi_types.specs.declared.wake.WakeIn.{WakeIn}
use Rattle.abi_types.specs.declared.wake.WakeIn.TheVariants as wake
use Rattle.abi_types.specs.declared.who.Who.{Who}
use Rattle.run_types.specs.declared.history.Act.{Act}
use Rattle.run_types.specs.declared.history.Act.TheVariants as act
use Rattle.run_types.specs.declared.history.Entry.{Entry}
use Rattle.kernel_model.specs.OpenLaws.{OpensStay}
use Rattle.kernel_model.specs.State.{State}
use Rattle.kernel_model.specs.Valid.{IsNamed, IsValid}
use Rattle.kernel_model.specs.Families.Locks.{with_word}
use Rattle.kernel_model.specs.Waits.{resumed}
use Rattle.kernel_model.specs.Wakes.{IsWake}
use Rattle.kernel_model.proofs.Waking.{resumed_valid}
use Rattle.kernel_model.proofs.OpenTargets as targets
use Rattle.run_model.specs.Legal.{FitsAct, Fits}
use Rattle.run_model.specs.World.{World, Guest, guest_of, called_state, woken_state, turned, acted, who_of, apply, world}
use Rattle.run_model.proofs.Histories.{apply_is, legal_front, legal_next, world_more}
use Rattle.run_model.proofs.Worlds.{world_is_valid}
use Rattle.authority_laws.specs.Laws.{OpensStayOfWhatTheyAre}

-- a named open is there
pub named_open : (d : Descriptor) (o : Option OpenKind) → IsNamed o d → (kind : OpenKind) × (o ≡ Some kind)
named_open d None named = absurd named
named_open d (Some kind) named = (kind, refl)

wake_stays : (constants : Constants) (S : State) (who : Who) (call : Call) (given : WakeIn) (answered : Answer) (T : State) → IsValid S
    → IsWake constants S who call given answered T → OpensStay S T
wake_stays constants S who call (wake.Plain word) answered T valid is =
    targets.opens_stay constants (resumed S who) who (with_word word call) answered T (resumed_valid S who valid) is.0
wake_stays constants S who call wake.Fault answered T valid is = subst (OpensStay S) (sym is.1) (targets.opens_stay_here S)

acted_stay : (w : World) (who : Who) (guest : Guest) (ts : List ℕ) (a : Act) → IsValid w.state → FitsAct w.constants w.state who guest ts a
    → OpensStay w.state (acted w who a).state
acted_stay w who guest ts (act.Call call given) valid fits =
    targets.opens_stay w.constants w.state who call given (called_state w.constants w.state who call given) valid fits.1
acted_stay w who guest ts (act.Wake call given answered) valid fits =
    wake_stays w.constants w.state who call given answered (woken_state w.constants w.state who call given answered) valid fits.1.1
acted_stay w who guest ts (act.Trap signal) valid fits = targets.ends_keep_opens w.state who.pid (Killed signal)
acted_stay w who guest ts act.Expire valid fits = targets.ends_keep_opens w.state who.pid (Killed Xcpu)
acted_stay w who guest ts act.Idle valid fits = targets.opens_stay_here w.state

-- the entry's turns change no open
applied_stay : (w : World) (e : Entry) → IsValid w.state → Fits w e → OpensStay w.state (apply w e).state
applied_stay w e valid fits =
    subst (λ (v : World). OpensStay w.state v.state) (sym (apply_is w e))
    (acted_stay (turned w e.pid e.turns) (who_of w.state e) (guest_of w e.pid) e.turns e.act valid fits.act)

pub opens_stay : OpensStayOfWhatTheyAre
opens_stay launch front e rest begins legal =
    subst (λ (v : World). OpensStay (world launch front).state v.state) (sym (world_more launch front e))
    (applied_stay (world launch front) e (world_is_valid launch front begins (legal_front launch front (e ∷ rest) legal)) (legal_next launch front e rest legal))
