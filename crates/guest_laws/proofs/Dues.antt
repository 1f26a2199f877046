-- When acts are due.
--     acts_are_due      the law
use Rattle.std.proofs.Common.{◌≡◌, ℕ, ◌+◌, ◌<◌, List, [], ◌∷◌, ◌++◌, length, Some, sym, ap, subst, ◌∙◌, arith}
use Rattle.std.proofs.lemmas.List.{length-append}
use Rattle.std.specs.List.{AllByRecursion}
use Rattle.abi_types.specs.declared.thread.Thread.TheVariants.{Runnable}
use Rattle.abi_types.specs.declared.who.Who.{Who}
use Rattle.kernel_model.specs.State.{State, thread_of}
use Rattle.run_types.specs.declared.history.Act.{Act}
use Rattle.run_types.specs.declared.history.Act.TheVariants as act
use Rattle.run_types.specs.declared.history.Entry.{Entry}
use Rattle.rv_interp.specs.declared.turns.TurnEnd.{TurnEnd}
use Rattle.rv_interp.specs.declared.turns.TurnEnd.TheVariants.{Quantum}
use Rattle.run_model.specs.Legal.{AreWhole, Asks, Fits, FitsAct, LastEnds}
use Rattle.run_model.specs.World.{World, Guest, guest_of, turn_end, turned_guest, turned_guest_by, who_of}
use Rattle.run_model.proofs.Histories.{guest_turned, turned_more}
use Rattle.guest_laws.specs.GuestLaws.{ActsAreDue}

-- no list with an item in it is empty
no_end : (front : List ℕ) (t : ℕ) (rest : List ℕ) → [] ≡ front ++ t ∷ rest → ⊥
no_end [] t rest is = cc
no_end (x ∷ front) t rest is = cc

-- ---- turns

module _ (S : State) (p : ℕ) where
  -- threads that run
  abbrev Run : List ℕ → Type 0
  Run ts = AllByRecursion (λ t. thread_of S p t ≡ Some Runnable) ts

  run_more : (front : List ℕ) (t : ℕ) → Run front → thread_of S p t ≡ Some Runnable → Run (front ++ t ∷ [])
  run_more [] t run one = (one, tt)
  run_more (u ∷ front) t run one = (run.0, run_more front t run.1 one)

  whole_run : (guest : Guest) (ts : List ℕ) → AreWhole S p guest ts → Run ts
  whole_run guest [] whole = tt
  whole_run guest (t ∷ ts) whole = (whole.0.0, whole_run (turned_guest guest t) ts whole.2)

  last_runs : (guest : Guest) (ts : List ℕ) (t : ℕ) (end : TurnEnd) → LastEnds S p guest ts t end → Run ts
  last_runs guest ts t end last = subst Run (sym last.1) (run_more last.0 t (whole_run guest last.0 last.2) last.3.0)

  -- each of the turns was left
  abbrev Owed : Guest → List ℕ → Type 0
  Owed guest ts = length ts + (turned_guest_by ts guest).left ≡ guest.left

  whole_owed : (guest : Guest) (ts : List ℕ) → AreWhole S p guest ts → Owed guest ts
  whole_owed guest [] whole = omega arith
  whole_owed guest (t ∷ ts) whole =
      let some : 0 < guest.left = whole.0.1 in
      let rest : Owed (turned_guest guest t) ts = whole_owed (turned_guest guest t) ts whole.2 in
      omega (arith, some, rest)

  last_owed : (guest : Guest) (ts : List ℕ) (t : ℕ) (end : TurnEnd) → LastEnds S p guest ts t end → Owed guest ts
  last_owed guest ts t end last =
      let front = last.0 in
      let some : 0 < (turned_guest_by front guest).left = last.3.1 in
      let rest : Owed guest front = whole_owed guest front last.2 in
      let more : length (front ++ t ∷ []) ≡ length front + 1 = length-append front (t ∷ []) in
      let left : (turned_guest_by (front ++ t ∷ []) guest).left + 1 ≡ (turned_guest_by front guest).left =
      ap (λ (g : Guest). g.left + 1) (turned_more front t guest) ∙ omega (arith, some) in
      subst (Owed guest) (sym last.1) (omega (arith, rest, more, left))

asked_run : (S : State) (who : Who) (guest : Guest) (ts : List ℕ) (a : Act) → Asks S who guest ts a → Run S who.pid ts
asked_run S who guest ts (act.Call call given) asks = last_runs S who.pid guest ts who.tid _ asks.0
asked_run S who guest ts (act.Wake call given answered) asks = whole_run S who.pid guest ts asks.0
asked_run S who guest ts (act.Trap signal) asks = last_runs S who.pid guest ts who.tid _ asks
asked_run S who guest ts act.Expire asks = whole_run S who.pid guest ts asks.0
asked_run S who guest ts act.Idle asks = subst (Run S who.pid) (sym asks.2) tt

asked_owed : (S : State) (who : Who) (guest : Guest) (ts : List ℕ) (a : Act) → Asks S who guest ts a → Owed S who.pid guest ts
asked_owed S who guest ts (act.Call call given) asks = last_owed S who.pid guest ts who.tid _ asks.0
asked_owed S who guest ts (act.Wake call given answered) asks = whole_owed S who.pid guest ts asks.0
asked_owed S who guest ts (act.Trap signal) asks = last_owed S who.pid guest ts who.tid _ asks
asked_owed S who guest ts act.Expire asks = whole_owed S who.pid guest ts asks.0
asked_owed S who guest ts act.Idle asks = subst (Owed S who.pid guest) (sym asks.2) (whole_owed S who.pid guest [] tt)

-- ---- quiet turns

-- a list with one item more is cut before its last item, or behind it
cut_front : (all : List ℕ) (last : ℕ) (front : List ℕ) (t u : ℕ) (rest : List ℕ) → all ++ last ∷ [] ≡ front ++ t ∷ u ∷ rest
    → (more : List ℕ) × (all ≡ front ++ t ∷ more)
cut_front [] last [] t u rest is = absurd (let none : ([] ≡ u ∷ rest) = cc in cc)
cut_front [] last (x ∷ front) t u rest is = absurd (no_end front t (u ∷ rest) cc)
cut_front (y ∷ all) last [] t u rest is = let same : y ≡ t = cc in (all, ap (λ x. x ∷ all) same)
cut_front (y ∷ all) last (x ∷ front) t u rest is =
    let same : y ≡ x = cc in
    let later = cut_front all last front t u rest cc in
    (later.0, λ i. same i ∷ later.1 i)

module _ (S : State) (p : ℕ) where
  whole_quiet : (guest : Guest) (front : List ℕ) (t : ℕ) (rest : List ℕ) → AreWhole S p guest (front ++ t ∷ rest)
      → turn_end (turned_guest_by front guest) t ≡ Quantum
  whole_quiet guest [] t rest whole = whole.1
  whole_quiet guest (u ∷ front) t rest whole = whole_quiet (turned_guest guest u) front t rest whole.2

  last_quiet : (guest : Guest) (ts : List ℕ) (tid : ℕ) (end : TurnEnd) (front : List ℕ) (t u : ℕ) (rest : List ℕ) → LastEnds S p guest ts tid end
      → ts ≡ front ++ t ∷ u ∷ rest → turn_end (turned_guest_by front guest) t ≡ Quantum
  last_quiet guest ts tid end front t u rest last is =
      let before = cut_front last.0 tid front t u rest (sym last.1 ∙ is) in
      whole_quiet guest front t before.0 (subst (AreWhole S p guest) before.1 last.2)

asked_quiet : (S : State) (who : Who) (guest : Guest) (ts : List ℕ) (a : Act) (front : List ℕ) (t u : ℕ) (rest : List ℕ) → Asks S who guest ts a
    → ts ≡ front ++ t ∷ u ∷ rest → turn_end (turned_guest_by front guest) t ≡ Quantum
asked_quiet S who guest ts (act.Call call given) front t u rest asks is = last_quiet S who.pid guest ts who.tid _ front t u rest asks.0 is
asked_quiet S who guest ts (act.Wake call given answered) front t u rest asks is =
    whole_quiet S who.pid guest front t (u ∷ rest) (subst (AreWhole S who.pid guest) is asks.0)
asked_quiet S who guest ts (act.Trap signal) front t u rest asks is = last_quiet S who.pid guest ts who.tid _ front t u rest asks is
asked_quiet S who guest ts act.Expire front t u rest asks is =
    whole_quiet S who.pid guest front t (u ∷ rest) (subst (AreWhole S who.pid guest) is asks.0)
asked_quiet S who guest ts act.Idle front t u rest asks is = absurd (no_end front t (u ∷ rest) (sym asks.2 ∙ is))

-- ---- one entry

-- what an entry of this act needs of the world
of_act : (w : World) (e : Entry) (a : Act) → Fits w e → e.act ≡ a → FitsAct w.constants w.state (who_of w.state e) (guest_of w e.pid) e.turns a
of_act w e a fits is = subst (FitsAct w.constants w.state (who_of w.state e) (guest_of w e.pid) e.turns) is fits.act

pub acts_are_due : ActsAreDue
acts_are_due = record {
  turns = λ w e fits. asked_run w.state (who_of w.state e) (guest_of w e.pid) e.turns e.act fits.act.0;
  left = λ w e fits.
      ap (λ (g : Guest). length e.turns + g.left) (guest_turned w e.pid e.turns)
      ∙ asked_owed w.state (who_of w.state e) (guest_of w e.pid) e.turns e.act fits.act.0;
  quiet = λ w e front t u rest fits is. asked_quiet w.state (who_of w.state e) (guest_of w e.pid) e.turns e.act front t u rest fits.act.0 is;
  call = λ w e call given fits is. let last = (of_act w e (act.Call call given) fits is).0.0 in (last.0, last.1, last.4);
  trap = λ w e signal fits is. let last = (of_act w e (act.Trap signal) fits is).0 in (last.0, last.1, last.4);
  expiry = λ w e fits is.
      let asks = (of_act w e act.Expire fits is).0 in (
        λ front t rest split. whole_quiet w.state e.pid (guest_of w e.pid) front t rest (subst (AreWhole w.state e.pid (guest_of w e.pid)) split asks.0),
        ap (λ (g : Guest). g.left) (guest_turned w e.pid e.turns) ∙ asks.2,
        asks.1,
      );
  wake = λ w e call given answered fits is.
      let both = of_act w e (act.Wake call given answered) fits is in (
        λ front t rest split. whole_quiet w.state e.pid (guest_of w e.pid) front t rest (subst (AreWhole w.state e.pid (guest_of w e.pid)) split both.0.0),
        both.1.0,
      );
  idle = λ w e fits is. let asks = (of_act w e act.Idle fits is).0 in (asks.0, asks.1, asks.2);
  waits = λ w e p t thread fits is there. let jump = (of_act w e act.Idle fits is).1 in (jump.all.1 p t thread there, jump.none p t);
}
