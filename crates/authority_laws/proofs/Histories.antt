-- The ledger of a history, beside its world.
use Rattle.std.proofs.Common.{◌≡◌, ◌≢◌, inl, inr, ℕ, ◌==◌, Bool, true, false, cond, List, [], ◌∷◌, ◌++◌, Option, None, Some, refl, sym, ap, subst, ◌∙◌}
use Rattle.std.proofs.lemmas.Bool.{eq-eqb}
use Rattle.std.proofs.lemmas.Bool.Decides.{eqb_tells}
use Rattle.abi_base.specs.declared.signal.Signal.TheVariants.{Xcpu}
use Rattle.tree_model.specs.Grants.{MayBegin}
use Rattle.abi_types.specs.declared.status.Status.TheVariants.{Killed}
use Rattle.abi_types.specs.declared.who.Who.{Who}
use Rattle.run_types.specs.declared.history.Act.{Act}
use Rattle.run_types.specs.declared.history.Act.TheVariants as act
use Rattle.run_types.specs.declared.history.Entry.{Entry}
use Rattle.run_types.specs.declared.launch.Launch.{Launch}
use Rattle.kernel_model.specs.State.{State}
use Rattle.kernel_model.specs.Valid.{IsValid}
use Rattle.run_model.specs.Legal.{FitsAct, Fits, FollowsFrom, Legal}
use Rattle.run_model.specs.World.{World, Guest, start_world, guest_of, called_state, woken_state, turned, acted, who_of, apply, apply_all, world}
use Rattle.run_model.proofs.Ends.{killed_is_not_live}
use Rattle.run_model.proofs.Histories.{legal_front, legal_more, legal_next, apply_is, first_state, world_more}
use Rattle.kernel_model.proofs.Starts.{start_valid}
use Rattle.run_model.proofs.Worlds.{apply_valid, world_is_valid}
use Rattle.authority_laws.specs.Laws.{EntryChangesOne, Reports, RightsNeverGrow, SendsAreHeld}
use Rattle.authority_laws.specs.Ledger.{Ledger, After, Row, after_of, no_row, with_row, with_child, of_live, launch_ledger}
use Rattle.authority_laws.specs.Origins.{Change, ChangeOfOther, ComesFrom, SendsComeFrom, ends, is_born, is_over, remains}
use Rattle.authority_laws.specs.Recorded.{acted_child, acted_row, ledger, after_at, after_in, noted, noted_all}
use Rattle.authority_laws.proofs.Changes.{acted_change}
use Rattle.authority_laws.proofs.Origins.{ActIsWithin, acted_sent, noted_from}
use Rattle.authority_laws.proofs.Rows.{row_in}
use Rattle.authority_laws.proofs.States.{HasRows, idle_rows, step_rows, wake_rows, end_rows, start_rows, ended_row, row_is_held}
use Rattle.authority_laws.proofs.Successes.{act_is_within}

-- ---- the ledger of one more entry

all_more : (w : World) (l : Ledger) (history : List Entry) (e : Entry)
    → noted_all w l (history ++ e ∷ []) ≡ noted (after_in (apply_all w history) (apply (apply_all w history) e) e) (noted_all w l history) e
unfolding noted_all apply_all
all_more w l [] e = refl
all_more w l (first ∷ history) e = all_more (apply w first) (noted (after_in w (apply w first) first) l first) history e

pub ledger_none : (launch : Launch) → ledger launch [] ≡ launch_ledger launch.tree launch.grants
unfolding ledger noted_all
ledger_none launch = refl

pub ledger_more : (launch : Launch) (history : List Entry) (e : Entry)
    → ledger launch (history ++ e ∷ []) ≡ noted (after_at launch history e) (ledger launch history) e
unfolding ledger world
ledger_more launch history e =
    all_more (start_world launch) (launch_ledger launch.tree launch.grants) history e
    ∙ ap (λ (v : World). noted (after_in (world launch history) v e) (ledger launch history) e) (sym (world_more launch history e))

-- ---- the tables

-- the ledger after an act
abbrev left : After → Ledger → ℕ → Act → Ledger
left after l p a = of_live after.live (with_row (with_child (acted_child after a) (l.held p) l) p (acted_row after (l.held p) a))

acted_rows : (w : World) (who : Who) (guest : Guest) (ts : List ℕ) (a : Act) (l : Ledger) → FitsAct w.constants w.state who guest ts a
    → IsValid w.state → IsValid (acted w who a).state → HasRows w.state l → HasRows (acted w who a).state (left (after_of w.state (acted w who a).state who.pid) l who.pid a)
acted_rows w who guest ts (act.Call call given) l fits start valid before =
    step_rows w.constants w.state who call given (called_state w.constants w.state who call given) l fits.1 start valid before
acted_rows w who guest ts (act.Wake call given answered) l fits start valid before =
    wake_rows w.constants w.state who call given answered (woken_state w.constants w.state who call given answered) l fits.1.1 start valid before
acted_rows w who guest ts (act.Trap signal) l fits start valid before = end_rows w.state who.pid (Killed signal) l (killed_is_not_live signal) valid before
acted_rows w who guest ts act.Expire l fits start valid before = end_rows w.state who.pid (Killed Xcpu) l (killed_is_not_live Xcpu) valid before
acted_rows w who guest ts act.Idle l fits start valid before = idle_rows w.state who.pid l valid before

apply_rows : (w : World) (e : Entry) (l : Ledger) → Fits w e → IsValid w.state → IsValid (apply w e).state → HasRows w.state l
    → HasRows (apply w e).state (noted (after_in w (apply w e) e) l e)
apply_rows w e l fits start valid before =
    subst (λ (v : World). HasRows v.state (noted (after_in w v e) l e)) (sym (apply_is w e))
    (acted_rows (turned w e.pid e.turns) (who_of w.state e) (guest_of w e.pid) e.turns e.act l fits.act start
    (subst (λ (v : World). IsValid v.state) (apply_is w e) valid) before)

follows_rows : (w : World) (history : List Entry) (l : Ledger) → FollowsFrom w history → IsValid w.state → HasRows w.state l
    → HasRows (apply_all w history).state (noted_all w l history)
unfolding FollowsFrom apply_all noted_all
follows_rows w [] l follows valid before = before
follows_rows w (e ∷ history) l follows valid before =
    let then = apply_valid w e follows.0 valid in
    follows_rows (apply w e) history (noted (after_in w (apply w e) e) l e) follows.1 then (apply_rows w e l follows.0 valid then before)

start_has_rows : (launch : Launch) → HasRows (start_world launch).state (launch_ledger launch.tree launch.grants)
start_has_rows launch =
    subst (λ (S : State). HasRows S (launch_ledger launch.tree launch.grants)) (sym (first_state launch)) (start_rows launch.tree launch.grants)

pub world_rows : (launch : Launch) (history : List Entry) → MayBegin launch.tree launch.grants → Legal launch history
    → HasRows (world launch history).state (ledger launch history)
unfolding Legal world ledger
world_rows launch history begins legal =
    let valid = subst IsValid (sym (first_state launch)) (start_valid launch.tree launch.grants launch.stdin begins) in
    follows_rows (start_world launch) history (launch_ledger launch.tree launch.grants) legal valid (start_has_rows launch)

rows_report : (S : State) (l : Ledger) → IsValid S → HasRows S l → Reports S l
rows_report S l valid rows = record {
  tables = λ p table there n. (λ i. (sym (ap row_in there) ∙ rows p) i n);
  held = λ p n d here. row_is_held S p n d valid ((λ i. rows p i n) ∙ here);
  ended = λ p ends n. (λ i. (sym (rows p) ∙ ended_row S p valid ends) i n);
}

pub ledger_reports : (launch : Launch) (history : List Entry) → MayBegin launch.tree launch.grants → Legal launch history
    → Reports (world launch history).state (ledger launch history)
ledger_reports launch history begins legal =
    rows_report (world launch history).state (ledger launch history) (world_is_valid launch history begins legal) (world_rows launch history begins legal)

-- the history up to an entry is legal
pub up_to : (launch : Launch) (front : List Entry) (e : Entry) (rest : List Entry) → Legal launch (front ++ e ∷ rest) → Legal launch (front ++ e ∷ [])
up_to launch front e rest legal = legal_more launch front e (legal_front launch front (e ∷ rest) legal) (legal_next launch front e rest legal)

-- ---- how what is held may change

module _ (launch : Launch) (front : List Entry) (e : Entry) where
  abbrev after : After
  after = after_at launch front e

  abbrev before : Ledger
  before = ledger launch front

  -- what the entry's process has by its act, and what the others have before those that aren't live lose it
  abbrev own : Row
  own = acted_row after (before.held e.pid) e.act

  abbrev others : Ledger
  others = with_child (acted_child after e.act) (before.held e.pid) before

  held_after_is : (q : ℕ) → (ledger launch (front ++ e ∷ [])).held q ≡ cond (after.live q) (cond (q == e.pid) own (others.held q)) no_row
  held_after_is q = ap (λ (l : Ledger). l.held q) (ledger_more launch front e)

  -- what the entry's process holds, if it is live
  pub own_after : (ledger launch (front ++ e ∷ [])).held e.pid ≡ cond (after.live e.pid) own no_row
  own_after = held_after_is e.pid ∙ ap (λ b. cond (after.live e.pid) (cond b own (others.held e.pid)) no_row) (eq-eqb e.pid e.pid refl)

  -- what another process holds, if it is live
  pub other_after : (q : ℕ) → q ≢ e.pid → (ledger launch (front ++ e ∷ [])).held q ≡ cond (after.live q) (others.held q) no_row
  other_after q apart =
      elim (eqb_tells q e.pid) [
        | inl is ↦ absurd (apart is.1)
        | inr other ↦ held_after_is q ∙ ap (λ b. cond (after.live q) (cond b own (others.held q)) no_row) other.0
      ]

  own_change : (live : Bool) → Change after (before.held e.pid) (cond live own no_row)
  own_change true = acted_change after (before.held e.pid) e.act
  own_change false = ends refl

  -- an abbreviation of how the others change
  abbrev IsOther : ℕ → Row → Type 0
  IsOther q then = ChangeOfOther after e q (before.held e.pid) (before.held q) then

  child_change : (child : Option ℕ) → acted_child after e.act ≡ child → (q : ℕ) → IsOther q ((with_child child (before.held e.pid) before).held q)
  child_change None is q = remains refl
  child_change (Some c) is q =
      elim (eqb_tells q c) [
        | inl same ↦ is_born (is ∙ ap (λ k. Some k) (sym same.1)) (ap (λ b. cond b (before.held e.pid) (before.held q)) same.0)
        | inr apart ↦ remains (ap (λ b. cond b (before.held e.pid) (before.held q)) apart.0)
      ]

  live_change : (q : ℕ) (live : Bool) → after.live q ≡ live → IsOther q (cond live (others.held q) no_row)
  live_change q true is = child_change (acted_child after e.act) refl q
  live_change q false is = is_over is refl

pub entry_changes_one : EntryChangesOne
entry_changes_one launch front e = (
  subst (Change (after_at launch front e) ((ledger launch front).held e.pid)) (sym (own_after launch front e))
      (own_change launch front e ((after_at launch front e).live e.pid)),
  λ q apart.
      subst (ChangeOfOther (after_at launch front e) e q ((ledger launch front).held e.pid) ((ledger launch front).held q)) (sym (other_after launch front e q apart))
      (live_change launch front e q ((after_at launch front e).live q) refl),
)

-- ---- where descriptors come from

-- what an entry that fits opens is opened through what its process held
fits_within : (w : World) (e : Entry) (after : After) (l : Ledger) → Fits w e → IsValid w.state → HasRows w.state l → ActIsWithin after l e e.act
fits_within w e after l fits valid rows = act_is_within w.constants w.state (guest_of w e.pid) e.turns after l e e.act fits.act valid rows

pub sends_are_held : SendsAreHeld
sends_are_held launch front e =
    subst (SendsComeFrom e (ledger launch front)) (sym (ledger_more launch front e))
    (acted_sent (after_at launch front e) ((ledger launch front).held e.pid) (ledger launch front).sent e.act)

pub rights_never_grow : RightsNeverGrow
rights_never_grow launch front e rest begins legal =
    let before = legal_front launch front (e ∷ rest) legal in
    let after : After = after_at launch front e in
    subst (ComesFrom after e (ledger launch front)) (sym (ledger_more launch front e))
    (noted_from after (ledger launch front) e
    (fits_within (world launch front) e after (ledger launch front) (legal_next launch front e rest legal) (world_is_valid launch front begins before)
    (world_rows launch front begins before)))
