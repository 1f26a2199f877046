-- What entries leave of the processes that did not do them.
--     others_left      an entry makes another process, ends it or leaves it as it was
--     own_or_left      each process did the entry or is left by it
--     born_is_new, born_runs, child_has_thread      a process that an entry makes
--     others_stay      an entry leaves another process as it was, if it was made before and is live afterwards
--     made_later      a process that was made stays so
--     unmade_does_nothing, child_did_nothing      one that was not made did no entry
--     left_alone      entries of others leave a process as it was
use Rattle.std.proofs.Common.{◌≡◌, ◌≢◌, ◌⊎◌, ℕ, ◌==◌, ◌&&◌, Bool, true, false, not, cond, Contains, List, [], ◌∷◌, ◌++◌, IsSome, is_some, Some, None, inl, inr, refl, sym, ap, subst, ◌∙◌, arith}
use Rattle.std.proofs.lemmas.Bool.Decides.{eqb_tells}
use Rattle.std.proofs.lemmas.List.{append-nil, append_cancel_left}
use Rattle.std.proofs.lemmas.List.Elements.{filter-append}
use Rattle.std.specs.Option.{option_map}
use Rattle.abi_base.specs.declared.signal.Signal.TheVariants.{Kill}
use Rattle.abi_types.specs.declared.status.Status.TheVariants.{Live, Killed}
use Rattle.abi_types.specs.declared.who.Who.{Who}
use Rattle.run_types.specs.declared.history.Act.{Act}
use Rattle.run_types.specs.declared.history.Act.TheVariants as act
use Rattle.run_types.specs.declared.history.Entry.{Entry}
use Rattle.run_types.specs.declared.launch.Launch.{Launch}
use Rattle.maps.specs.Maps.{get-insert-other}
use Rattle.kernel_model.specs.State.{ProcessState, thread_of, threads_of}
use Rattle.kernel_model.proofs.Tests.{not_true, same_some}
use Rattle.run_model.specs.Legal.{FitsAct, Fits, FollowsFrom, Legal}
use Rattle.run_model.specs.Own.{is_idle, is_own, own, born, Made, IsLiveIn, Same, IsLeft, is_born, is_ended, stays}
use Rattle.run_model.specs.OwnLaws.{HasOneThread}
use Rattle.run_model.specs.World.{World, Guest, acted, called_state, apply, apply_all, guest_of, or_no_guest, start_world, turned, who_of, with_guest, world}
use Rattle.run_model.proofs.Ends.{apply_process, apply_made, killed_is_not_live}
use Rattle.tree_model.specs.Grants.{MayBegin}
use Rattle.run_model.proofs.Histories.{apply_is, guest_set, world_rest, legal_front, legal_next, legal_rest}
use Rattle.kernel_model.specs.Threads.{child_told}
use Rattle.kernel_model.specs.Valid.{IsValid}
use Rattle.abi_types.specs.declared.thread.Thread.TheVariants.{Runnable}
use Rattle.kernel_model.proofs.ForkLaws.{child_alone, child_is_new, child_runs}
use Rattle.kernel_model.proofs.Waking.{same_child}
use Rattle.run_model.proofs.Births.{born_is_made, contains_one, one_contains}
use Rattle.run_model.proofs.Worlds.{apply_guest, apply_valid, world_is_valid}

-- ---- one entry

-- an entry that a process did not do, and that is no idle jump, is another's
pub other_process : (q : ℕ) (e : Entry) → is_idle e.act ≡ false → is_own q e ≡ false → q ≢ e.pid
other_process q e done other =
    let by_number : is_own q e ≡ (e.pid == q) = ap (λ b. not b && (e.pid == q)) done in
    elim (eqb_tells e.pid q) [ inl is ↦ absurd (not_true (sym other ∙ by_number ∙ is.0)) | inr apart ↦ λ same. apart.1 (sym same) ]

-- turns of no thread leave each guest
no_turns : (w : World) (p : ℕ) (ts : List ℕ) (q : ℕ) → ts ≡ [] → guest_of (turned w p ts) q ≡ guest_of w q
no_turns w p ts q none =
    ap (λ us. guest_of (turned w p us) q) none
    ∙ elim (eqb_tells q p) [
      | inl is ↦ subst (λ k. guest_of (with_guest w p (guest_of w p)) k ≡ guest_of w k) (sym is.1) (guest_set w p (guest_of w p))
      | inr other ↦ ap or_no_guest (get-insert-other w.guests p (guest_of w p) q other.1)
    ]

-- an idle jump leaves each process as it was
idle_same : (w : World) (who : Who) (ts : List ℕ) (a : Act) (q : ℕ) → is_idle a ≡ true → FitsAct w.constants w.state who (guest_of w who.pid) ts a
    → Same (acted (turned w who.pid ts) who a) w q
idle_same w who ts (act.Call call given) q idle fits = absurd (not_true idle)
idle_same w who ts (act.Wake call given answered) q idle fits = absurd (not_true idle)
idle_same w who ts (act.Trap signal) q idle fits = absurd (not_true idle)
idle_same w who ts act.Expire q idle fits = absurd (not_true idle)
idle_same w who ts act.Idle q idle fits = record { guest = no_turns w who.pid ts q fits.0.2; table = refl; rest = refl; status = refl }

pub idle_leaves : (w : World) (e : Entry) (q : ℕ) → Fits w e → is_idle e.act ≡ true → Same (apply w e) w q
idle_leaves w e q fits idle =
    subst (λ (v : World). Same v w q) (sym (apply_is w e)) (idle_same w (who_of w.state e) e.turns e.act q idle fits.act)

-- the act makes the process, or it doesn't
pub born_or_not : (a : Act) (q : ℕ) → Contains (born a) q ⊎ (¬ Contains (born a) q)
born_or_not (act.Call call given) q =
    elim (same_child q (child_told call given)) [
      | inl is ↦ inl (one_contains (child_told call given) q is)
      | inr other ↦ inr (λ there. other (contains_one (child_told call given) q there))
    ]
born_or_not (act.Wake call given answered) q = inr (λ there. omega (arith, there.1))
born_or_not (act.Trap signal) q = inr (λ there. omega (arith, there.1))
born_or_not act.Expire q = inr (λ there. omega (arith, there.1))
born_or_not act.Idle q = inr (λ there. omega (arith, there.1))

-- a process that the act doesn't make it leaves as it was, or ends
unborn_left : (w : World) (e : Entry) (q : ℕ) → IsValid w.state → Fits w e → q ≢ e.pid → ¬ Contains (born e.act) q → IsLeft w (apply w e) e.act q
unborn_left w e q valid fits apart unborn =
    elim (apply_process w e q valid fits apart unborn) [
      | inl process ↦ stays (record { guest = apply_guest w e q apart unborn; table = process.0; rest = process.1; status = process.2 })
      | inr killed ↦ is_ended killed.1.0 (λ live. killed_is_not_live Kill (same_some (Killed Kill) Live (sym killed.1.1 ∙ live)))
    ]

others_of : (w : World) (e : Entry) (q : ℕ) → IsValid w.state → Fits w e → q ≢ e.pid → IsLeft w (apply w e) e.act q
others_of w e q valid fits apart =
    elim (born_or_not e.act q) [ inl there ↦ is_born there | inr unborn ↦ unborn_left w e q valid fits apart unborn ]

pub others_left : (w : World) (e : Entry) (q : ℕ) → IsValid w.state → Fits w e → is_own q e ≡ false → IsLeft w (apply w e) e.act q
others_left w e q valid fits other =
    elim (is_idle e.act) as (λ b. is_idle e.act ≡ b → IsLeft w (apply w e) e.act q) [
      | true ↦ λ idle. stays (idle_leaves w e q fits idle)
      | false ↦ λ done. others_of w e q valid fits (other_process q e done other)
    ] refl

-- who did an entry has its number, and it is no idle jump
own_is : (idle : Bool) (p q : ℕ) → not idle && (p == q) ≡ true → (idle ≡ false) × (q ≡ p)
own_is true p q mine = absurd (not_true mine)
own_is false p q mine = elim (eqb_tells p q) [ inl is ↦ (refl, sym is.1) | inr apart ↦ absurd (not_true (sym apart.0 ∙ mine)) ]

-- each process either did the entry, which is no idle jump, or is left by it
pub own_or_left : (w : World) (e : Entry) (q : ℕ) → IsValid w.state → Fits w e → ((q ≡ e.pid) × (is_idle e.act ≡ false)) ⊎ IsLeft w (apply w e) e.act q
own_or_left w e q valid fits =
    elim (is_own q e) as (λ (b : Bool). is_own q e ≡ b → ((q ≡ e.pid) × (is_idle e.act ≡ false)) ⊎ IsLeft w (apply w e) e.act q) [
      | true ↦ λ mine. (let is = own_is (is_idle e.act) e.pid q mine in inl (is.1, is.0))
      | false ↦ λ other. inr (others_left w e q valid fits other)
    ] refl

-- an entry leaves each process but that of its number
pub left_where : (w : World) (e : Entry) (q : ℕ) → IsValid w.state → Fits w e → q ≢ e.pid → IsLeft w (apply w e) e.act q
left_where w e q valid fits apart = elim (own_or_left w e q valid fits) [ inl is ↦ absurd (apart is.0) | inr left ↦ left ]

-- ---- a process that is made

acted_new : (w : World) (who : Who) (guest : Guest) (ts : List ℕ) (a : Act) (q : ℕ) → IsValid w.state → FitsAct w.constants w.state who guest ts a
    → Contains (born a) q → (Made w q → ⊥) × Made (acted w who a) q
acted_new w who guest ts (act.Call call given) q valid fits there =
    let T = called_state w.constants w.state who call given in
    let born = born_is_made w.constants w.state who call given T q fits.1 there in
    let new = child_is_new w.constants w.state who call given T q valid fits.1 born in
    ((λ made. not_true (subst IsSome new.0 made)), subst IsSome (sym new.1) refl)
acted_new w who guest ts (act.Wake call given answered) q valid fits there = absurd (omega (arith, there.1))
acted_new w who guest ts (act.Trap signal) q valid fits there = absurd (omega (arith, there.1))
acted_new w who guest ts act.Expire q valid fits there = absurd (omega (arith, there.1))
acted_new w who guest ts act.Idle q valid fits there = absurd (omega (arith, there.1))

pub born_is_new : (w : World) (e : Entry) (q : ℕ) → IsValid w.state → Fits w e → Contains (born e.act) q → (Made w q → ⊥) × Made (apply w e) q
born_is_new w e q valid fits there =
    subst (λ (v : World). (Made w q → ⊥) × Made v q) (sym (apply_is w e))
    (acted_new (turned w e.pid e.turns) (who_of w.state e) (guest_of w e.pid) e.turns e.act q valid fits.act there)

-- it has one thread, that of the entry, which runs
acted_runs : (w : World) (who : Who) (guest : Guest) (ts : List ℕ) (a : Act) (q : ℕ) → IsValid w.state → FitsAct w.constants w.state who guest ts a
    → Contains (born a) q
    → (thread_of (acted w who a).state q who.tid ≡ Some Runnable) × ((t : ℕ) → t ≢ who.tid → thread_of (acted w who a).state q t ≡ None)
acted_runs w who guest ts (act.Call call given) q valid fits there =
    let T = called_state w.constants w.state who call given in
    let made = born_is_made w.constants w.state who call given T q fits.1 there in
    (child_runs w.constants w.state who call given T q valid fits.1 made, child_alone w.constants w.state who call given T q valid fits.1 made)
acted_runs w who guest ts (act.Wake call given answered) q valid fits there = absurd (omega (arith, there.1))
acted_runs w who guest ts (act.Trap signal) q valid fits there = absurd (omega (arith, there.1))
acted_runs w who guest ts act.Expire q valid fits there = absurd (omega (arith, there.1))
acted_runs w who guest ts act.Idle q valid fits there = absurd (omega (arith, there.1))

pub born_runs : (w : World) (e : Entry) (q : ℕ) → IsValid w.state → Fits w e → Contains (born e.act) q
    → (thread_of (apply w e).state q e.tid ≡ Some Runnable) × ((t : ℕ) → t ≢ e.tid → thread_of (apply w e).state q t ≡ None)
born_runs w e q valid fits there =
    subst (λ (v : World). (thread_of v.state q e.tid ≡ Some Runnable) × ((t : ℕ) → t ≢ e.tid → thread_of v.state q t ≡ None)) (sym (apply_is w e))
    (acted_runs (turned w e.pid e.turns) (who_of w.state e) (guest_of w e.pid) e.turns e.act q valid fits.act there)

-- it is live
acted_lives : (w : World) (who : Who) (guest : Guest) (ts : List ℕ) (a : Act) (q : ℕ) → IsValid w.state → FitsAct w.constants w.state who guest ts a
    → Contains (born a) q → IsLiveIn (acted w who a) q
acted_lives w who guest ts (act.Call call given) q valid fits there =
    let T = called_state w.constants w.state who call given in
    (child_is_new w.constants w.state who call given T q valid fits.1 (born_is_made w.constants w.state who call given T q fits.1 there)).1
acted_lives w who guest ts (act.Wake call given answered) q valid fits there = absurd (omega (arith, there.1))
acted_lives w who guest ts (act.Trap signal) q valid fits there = absurd (omega (arith, there.1))
acted_lives w who guest ts act.Expire q valid fits there = absurd (omega (arith, there.1))
acted_lives w who guest ts act.Idle q valid fits there = absurd (omega (arith, there.1))

pub child_has_thread : (w : World) (e : Entry) (q : ℕ) → IsValid w.state → Fits w e → Contains (born e.act) q → HasOneThread (apply w e) q e.tid
child_has_thread w e q valid fits there =
    let runs = born_runs w e q valid fits there in
    record {
      live = subst (λ (v : World). IsLiveIn v q) (sym (apply_is w e))
          (acted_lives (turned w e.pid e.turns) (who_of w.state e) (guest_of w e.pid) e.turns e.act q valid fits.act there);
      runs = runs.0;
      alone = runs.1;
    }

-- a process that was made and lives after an entry lived before it
lived_before : (w : World) (e : Entry) (q : ℕ) → IsValid w.state → Fits w e → Made w q → IsLiveIn (apply w e) q
    → ((q ≡ e.pid) × (is_idle e.act ≡ false)) ⊎ IsLeft w (apply w e) e.act q → IsLiveIn w q
lived_before w e q valid fits made live (inl mine) = subst (IsLiveIn w) (sym mine.0) (fits.live mine.1)
lived_before w e q valid fits made live (inr (is_born there)) = absurd ((born_is_new w e q valid fits there).0 made)
lived_before w e q valid fits made live (inr (is_ended was dead)) = was
lived_before w e q valid fits made live (inr (stays same)) = sym same.status ∙ live

pub live_before : (w : World) (e : Entry) (q : ℕ) → IsValid w.state → Fits w e → Made w q → IsLiveIn (apply w e) q → IsLiveIn w q
live_before w e q valid fits made live = lived_before w e q valid fits made live (own_or_left w e q valid fits)

pub live_through : (w : World) (rest : List Entry) (q : ℕ) → IsValid w.state → FollowsFrom w rest → Made w q → IsLiveIn (apply_all w rest) q → IsLiveIn w q
unfolding FollowsFrom apply_all
live_through w [] q valid follows made live = live
live_through w (e ∷ rest) q valid follows made live =
    live_before w e q valid follows.0 made
    (live_through (apply w e) rest q (apply_valid w e follows.0 valid) follows.1 (apply_made w e q follows.0 made) live)

left_as_it_was : (w : World) (e : Entry) (q : ℕ) → IsValid w.state → Fits w e → Made w q → IsLiveIn (apply w e) q → IsLeft w (apply w e) e.act q
    → Same (apply w e) w q
left_as_it_was w e q valid fits made live (is_born there) = absurd ((born_is_new w e q valid fits there).0 made)
left_as_it_was w e q valid fits made live (is_ended was dead) = absurd (dead live)
left_as_it_was w e q valid fits made live (stays same) = same

pub others_stay : (w : World) (e : Entry) (q : ℕ) → IsValid w.state → Fits w e → is_own q e ≡ false → Made w q → IsLiveIn (apply w e) q → Same (apply w e) w q
others_stay w e q valid fits other made live = left_as_it_was w e q valid fits made live (others_left w e q valid fits other)

-- ---- a history

made_all : (w : World) (rest : List Entry) (p : ℕ) → FollowsFrom w rest → Made w p → Made (apply_all w rest) p
unfolding FollowsFrom apply_all
made_all w [] p follows made = made
made_all w (e ∷ rest) p follows made = made_all (apply w e) rest p follows.1 (apply_made w e p follows.0 made)

pub made_later : (launch : Launch) (front rest : List Entry) (p : ℕ) → Legal launch (front ++ rest) → Made (world launch front) p
    → Made (world launch (front ++ rest)) p
made_later launch front rest p legal made =
    subst (λ (v : World). Made v p) (sym (world_rest launch front rest)) (made_all (world launch front) rest p (legal_rest launch front rest legal) made)

-- who did an entry was made before it
doer_is_made : (w : World) (e : Entry) (q : ℕ) → Fits w e → is_own q e ≡ true → Made w q
doer_is_made w e q fits mine = let is = own_is (is_idle e.act) e.pid q mine in subst (Made w) (sym is.1) (ap is_some (fits.live is.0))

skipped : (mine : Bool) (e : Entry) (rest : List Entry) → ¬ (mine ≡ true) → rest ≡ [] → cond mine (e ∷ rest) rest ≡ []
skipped true e rest other none = absurd (other refl)
skipped false e rest other none = none

-- so a process that is not made after these entries did none of them
none_done : (w : World) (rest : List Entry) (q : ℕ) → FollowsFrom w rest → ¬ Made (apply_all w rest) q → own q rest ≡ []
unfolding FollowsFrom apply_all
none_done w [] q follows unmade = refl
none_done w (e ∷ rest) q follows unmade =
    skipped (is_own q e) e (own q rest)
    (λ mine. unmade (made_all (apply w e) rest q follows.1 (apply_made w e q follows.0 (doer_is_made w e q follows.0 mine))))
    (none_done (apply w e) rest q follows.1 unmade)

pub unmade_does_nothing : (launch : Launch) (history : List Entry) (q : ℕ) → Legal launch history → ¬ Made (world launch history) q → own q history ≡ []
unfolding Legal world
unmade_does_nothing launch history q legal unmade = none_done (start_world launch) history q legal unmade

pub child_did_nothing : (launch : Launch) (history : List Entry) (e : Entry) (q : ℕ) → MayBegin launch.tree launch.grants → Legal launch (history ++ e ∷ [])
    → Contains (born e.act) q → own q (history ++ e ∷ []) ≡ []
child_did_nothing launch history e q begins legal there =
    let w = world launch history in
    let before = legal_front launch history (e ∷ []) legal in
    let fits = legal_next launch history e [] legal in
    let new = (born_is_new w e q (world_is_valid launch history begins before) fits there).0 in
    filter-append (is_own q) history (e ∷ [])
    ∙ ap (λ (es : List Entry). es ++ own q (e ∷ [])) (unmade_does_nothing launch history q before new)
    ∙ skipped (is_own q e) e [] (λ mine. new (doer_is_made w e q fits mine)) refl

-- a process that is the same has the same threads
pub same_threads : (w v : World) (p : ℕ) → Same w v p → threads_of w.state p ≡ threads_of v.state p
same_threads w v p same = ap (option_map (λ (own : ProcessState). own.threads)) same.rest

same_self : (w : World) (p : ℕ) → Same w w p
same_self w p = record { guest = refl; table = refl; rest = refl; status = refl }

pub same_through : (w v u : World) (p : ℕ) → Same w v p → Same v u p → Same w u p
same_through w v u p first second = record {
  guest = first.guest ∙ second.guest;
  table = first.table ∙ second.table;
  rest = first.rest ∙ second.rest;
  status = first.status ∙ second.status;
}

not_empty : (e : Entry) (rest : List Entry) → e ∷ rest ≡ [] → ⊥
not_empty e rest is = cc

none_of : (mine : Bool) (e : Entry) (rest : List Entry) → cond mine (e ∷ rest) rest ≡ [] → (mine ≡ false) × (rest ≡ [])
none_of true e rest none = absurd (not_empty e rest none)
none_of false e rest none = (refl, none)

left_after : (w : World) (rest : List Entry) (q : ℕ) → IsValid w.state → FollowsFrom w rest → own q rest ≡ [] → Made w q → IsLiveIn (apply_all w rest) q
    → Same (apply_all w rest) w q
unfolding FollowsFrom apply_all
left_after w [] q valid follows none made live = same_self w q
left_after w (e ∷ rest) q valid follows none made live =
    let apart = none_of (is_own q e) e (own q rest) none in
    let later = left_after (apply w e) rest q (apply_valid w e follows.0 valid) follows.1 apart.1 (apply_made w e q follows.0 made) live in
    same_through (apply_all (apply w e) rest) (apply w e) w q later (others_stay w e q valid follows.0 apart.0 made (sym later.status ∙ live))

-- entries that add none of the process's own have none
none_own : (seen rest log : List Entry) (q : ℕ) → log ≡ seen ++ rest → own q seen ≡ own q log → own q rest ≡ []
none_own seen rest log q is same =
    sym (append_cancel_left (own q seen) [] (own q rest) (append-nil (own q seen) ∙ same ∙ ap (own q) is ∙ filter-append (is_own q) seen rest))

pub left_alone : (launch : Launch) (seen rest log : List Entry) (q : ℕ) → MayBegin launch.tree launch.grants → Legal launch log
    → log ≡ seen ++ rest → own q seen ≡ own q log → Made (world launch seen) q → IsLiveIn (world launch log) q → Same (world launch log) (world launch seen) q
left_alone launch seen rest log q begins legal is same made live =
    let there : world launch log ≡ apply_all (world launch seen) rest = ap (world launch) is ∙ world_rest launch seen rest in
    let both : Legal launch (seen ++ rest) = subst (Legal launch) is legal in
    subst (λ (v : World). Same v (world launch seen) q) (sym there)
    (left_after (world launch seen) rest q (world_is_valid launch seen begins (legal_front launch seen rest both))
    (legal_rest launch seen rest both) (none_own seen rest log q is same) made
    (subst (λ (v : World). IsLiveIn v q) there live))
