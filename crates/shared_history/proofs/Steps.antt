-- Each step on the table of passes keeps its rule.
--     begins      the table at the start
--     appends, compares, takes_in, gives      the steps of the keeper
--     appends_at, ..      the same at a view that is known by an equation
use Rattle.std.proofs.Common.{◌≡◌, ◌≢◌, ◌⊎◌, ℕ, zero, suc, ◌+◌, ◌%◌, ◌^◌, ◌<◌, Bool, true, false, List, [], ◌∷◌, ◌++◌, length, set, Contains, inl, inr, refl, sym, ap, subst, ◌∙◌, ⊎_elim, arith, length-append, true≢false}
use Rattle.std.specs.Prelude.{slice_index, slice_set}
use Rattle.std.proofs.lemmas.List.Elements.{Contains-append_cases}
use mathlib.Core.List.{IsPrefix}
use mathlib.Core.Option.{some, some-ne-none, some-injective}
use lib.ListN.{get_elem?}
use Rattle.atomic_table.specs.Table.{State as TableState, Me, opening, Allows, Splits, Joins}
use Rattle.atomic_table.specs.Table.{keeps}
use Rattle.atomic_table.proofs.Lists.{at_set}
use Rattle.run_types.specs.declared.history.Entry.{Entry}
use Rattle.run_types.specs.declared.launch.Launch.{Launch}
use Rattle.kernel_model.specs.Valid.{IsValid}
use Rattle.tree_model.specs.Grants.{MayBegin}
use Rattle.run_model.specs.Legal.{Fits, Legal}
use Rattle.run_model.specs.Own.{is_idle, is_own, own, born, Made}
use Rattle.run_model.specs.World.{World, world}
use Rattle.run_model.proofs.Histories.{world_more, legal_none, legal_more}
use Rattle.shared_history.specs.declared.rule.View.{View}
use Rattle.shared_history.specs.Keeper.{IsAtRest}
use Rattle.shared_history.specs.Passes.{Later}
use Rattle.shared_history.specs.Rule.{keeper_view, pass_view, spent_view, first_view, Fit, Stands, IsKept, Covers, IsAppended, IsCompared, joined, without_first, first_pass}
use Rattle.shared_history.proofs.Beginnings.{prefix_self, prefix_more}
use Rattle.shared_history.proofs.Histories.{own_is, own_other}
use Rattle.run_model.proofs.Own.{made_later}
use Rattle.run_model.proofs.Worlds.{world_is_valid}
use Rattle.shared_history.proofs.MadeProcesses.{born_is_new, born_is_made, first_made}
use Rattle.shared_history.proofs.Owners.{contains_first, contains_later, contains_none, contains_one, owner_for, owner_same, owner_other, owner_for_all, owner_all_there, owner_all_other, owner_all_kept}

off : false ≡ true → ⊥
off e = true≢false (sym e)

-- ---- the seats of a table in which one view changes

fit_set : (launch : Launch) (log : List Entry) (owner : ℕ → ℕ) (keeper : ℕ) (views : List View) (seat : ℕ) (w : View)
    → ((j : ℕ) (u : View) → j ≢ seat → get_elem? views j ≡ some u → Fit launch log owner keeper j u) → Fit launch log owner keeper seat w
    → (j : ℕ) (u : View) → get_elem? (set views seat w) j ≡ some u → Fit launch log owner keeper j u
fit_set launch log owner keeper views seat w others mine j u e =
    ⊎_elim
    (λ (here : (j ≡ seat) × (w ≡ u)). subst (λ (y : ℕ × View). Fit launch log owner keeper y.0 y.1) (λ i. (sym here.0 i, here.1 i)) mine)
    (λ (there : (j ≢ seat) × (get_elem? views j ≡ some u)). others j u there.0 there.1)
    (at_set views seat j w u e)

-- what is found in a list with one more, and where
at_push : {A : Type 0} (l : List A) (a b : A) (j : ℕ) → get_elem? (l ++ a ∷ []) j ≡ some b
    → ((j ≡ length l) × (a ≡ b)) ⊎ ((j ≢ length l) × (get_elem? l j ≡ some b))
at_push [] a b zero e = inl (refl, some-injective a b e)
at_push [] a b (suc j) e = absurd (some-ne-none b (sym e))
at_push (x ∷ xs) a b zero e = inr ((λ same. omega arith), e)
at_push (x ∷ xs) a b (suc j) e =
    ⊎_elim (λ here. inl (ap suc here.0, here.1)) (λ there. let other = there.0 in inr ((λ same. other (omega arith)), there.1)) (at_push xs a b j e)

-- the rule at a table of which the keeper's seat and view are known
module _ (launch : Launch) (s : TableState Entry View) (id : ℕ) (log : List Entry) (held : List ℕ) (seen : List Entry) where
  stands_at : IsKept launch s → get_elem? s.views id ≡ some (keeper_view log held seen) → (owner : ℕ → ℕ) × Stands launch id log owner s
  stands_at kept at =
      let known = (kept.3.seats id (keeper_view log held seen) at).keeper_knows refl in
      (kept.2, subst (λ (x : ℕ × List Entry). Stands launch x.0 x.1 kept.2 s) (λ i. (sym known.0 i, sym known.1 i)) kept.3)

-- a seat that stands for nobody
spent_fits : (launch : Launch) (log : List Entry) (owner : ℕ → ℕ) (keeper seat : ℕ) → Fit launch log owner keeper seat spent_view
spent_fits launch log owner keeper seat = record {
  keeper_knows = λ k. absurd (off k);
  beginning = (log, refl);
  holds = λ p there. absurd (contains_none p there);
}

-- ---- the start

first_fits : (launch : Launch) → Fit launch [] (λ _. 0) 0 0 first_view
first_fits launch = record {
  keeper_knows = λ k. (refl, refl);
  beginning = prefix_self [];
  holds = λ p there. record { owned = refl; same = refl; made = subst (Made (world launch [])) (sym (contains_one 0 p there)) (first_made launch) };
}

first_seats : (launch : Launch) (seat : ℕ) (v : View) → get_elem? (first_view ∷ []) seat ≡ some v → Fit launch [] (λ _. 0) 0 seat v
first_seats launch zero v e = subst (Fit launch [] (λ _. 0) 0 0) (some-injective first_view v e) (first_fits launch)
first_seats launch (suc seat) v e = absurd (some-ne-none v (sym e))

pub begins : (launch : Launch) → MayBegin launch.tree launch.grants → IsKept launch (opening (0 ∷ []) [] first_view)
begins launch proper = (0, [], (λ _. 0), record { proper = proper; words = refl; legal = legal_none launch; seats = first_seats launch })

-- ---- the keeper appends an entry

module _ (launch : Launch) (log : List Entry) (e : Entry) (proper : MayBegin launch.tree launch.grants) (legal : Legal launch log) (fits : Fits (world launch log) e)
    (owner : ℕ → ℕ) (id : ℕ) where
  abbrev later : List Entry
  later = log ++ e ∷ []

  abbrev owner' : ℕ → ℕ
  owner' = owner_for_all owner (born e.act) id

  legal_later : Legal launch later
  legal_later = legal_more launch log e legal fits

  valid : IsValid (world launch log).state
  valid = world_is_valid launch log proper legal

  made_there : (p : ℕ) → Made (world launch log) p → Made (world launch later) p
  made_there p made = made_later launch log (e ∷ []) p legal_later made

  -- the entry is of no process that another seat stands for
  not_own : (is_idle e.act ≡ false → owner e.pid ≡ id) → (seat p : ℕ) → seat ≢ id → owner p ≡ seat → (b : Bool) → is_own p e ≡ b → b ≡ false
  not_own mine seat p other owned true is =
      let whose = own_is p e is in absurd (other (sym owned ∙ ap owner (sym whose.1) ∙ mine whose.0))
  not_own mine seat p other owned false is = refl

  -- what another seat knows stays true
  other_fits : (is_idle e.act ≡ false → owner e.pid ≡ id) → (seat : ℕ) (v : View) → seat ≢ id → Fit launch log owner id seat v → Fit launch later owner' id seat v
  other_fits mine seat v other f = record {
    keeper_knows = λ k. absurd (other (f.keeper_knows k).0);
    beginning = prefix_more v.seen log e f.beginning;
    holds = λ p there.
        let h = f.holds p there in
        record {
          owned = owner_all_other owner (born e.act) id p (λ new. born_is_new (world launch log) e p valid fits new h.made) ∙ h.owned;
          same = h.same ∙ sym (own_other p log e (not_own mine seat p other h.owned (is_own p e) refl));
          made = made_there p h.made;
        };
  }

  -- the keeper stands for the processes that it held, and for those that the entry makes
  keeper_fits : (held : List ℕ) (seen : List Entry) → Fit launch log owner id id (keeper_view log held seen)
      → Fit launch later owner' id id (keeper_view later (born e.act ++ held) later)
  keeper_fits held seen f = record {
    keeper_knows = λ k. (refl, refl);
    beginning = prefix_self later;
    holds = λ p there. ⊎_elim
        (λ new. record {
          owned = owner_all_there owner (born e.act) id p new;
          same = refl;
          made = subst (λ (w : World). Made w p) (sym (world_more launch log e)) (born_is_made (world launch log) e p valid fits new);
        })
        (λ old. record { owned = owner_all_kept owner (born e.act) id p (f.holds p old).owned; same = refl; made = made_there p (f.holds p old).made })
        (Contains-append_cases (born e.act) held p there);
  }

one_more : (log : List Entry) (e : Entry) → length log < 2 ^ 63 → (length log + 1) % 2 ^ 64 ≡ length (log ++ e ∷ [])
one_more log e room = omega (arith, length-append log (e ∷ []))

pub appends : (launch : Launch) (slots id : ℕ) (log : List Entry) (held : List ℕ) (seen : List Entry) (e : Entry) → Covers e held → Fits (world launch log) e
    → length log < 2 ^ 63
    → Allows (IsKept launch) slots id (keeper_view log held seen, []) 0 (λ n. (n + 1) % 2 ^ 64) (λ n w. IsAppended e (keeper_view log held seen, []) w)
appends launch slots id log held seen e covers fits room s kept homes at small =
    let k = stands_at launch s id log held seen kept at in
    let mine = k.1.seats id (keeper_view log held seen) at in (
      keeper_view (log ++ e ∷ []) (born e.act ++ held) (log ++ e ∷ []),
      keeps,
      tt,
      (
        id,
        log ++ e ∷ [],
        owner_for_all k.0 (born e.act) id,
        record {
          proper = k.1.proper;
          words = ap (λ ws. slice_set ws 0 ((slice_index ws 0 + 1) % 2 ^ 64)) k.1.words ∙ ap (λ n. n ∷ []) (one_more log e room);
          legal = legal_more launch log e k.1.legal fits;
          seats = fit_set launch (log ++ e ∷ []) (owner_for_all k.0 (born e.act) id) id s.views id (keeper_view (log ++ e ∷ []) (born e.act ++ held) (log ++ e ∷ []))
              (λ j u other there. other_fits launch log e k.1.proper k.1.legal fits k.0 id (λ idle. (mine.holds e.pid (covers idle)).owned) j u other (k.1.seats j u there))
              (keeper_fits launch log e k.1.proper k.1.legal fits k.0 id held seen mine);
        },
      ),
      refl,
    )

-- ---- the keeper compares what it has seen with the history

pub compares : (launch : Launch) (slots id : ℕ) (log : List Entry) (held : List ℕ) (seen : List Entry)
    → Allows (IsKept launch) slots id (keeper_view log held seen, []) 0 (λ n. n) (λ n w. IsCompared (keeper_view log held seen, []) w)
compares launch slots id log held seen s kept homes at small =
    let k = stands_at launch s id log held seen kept at in
    let mine = k.1.seats id (keeper_view log held seen) at in (
      keeper_view log held log,
      keeps,
      tt,
      (
        id,
        log,
        k.0,
        record {
          proper = k.1.proper;
          words = ap (λ ws. slice_set ws 0 (slice_index ws 0)) k.1.words;
          legal = k.1.legal;
          seats = fit_set launch log k.0 id s.views id (keeper_view log held log) (λ j u other there. k.1.seats j u there) (record {
            keeper_knows = λ _. (refl, refl);
            beginning = prefix_self log;
            holds = λ p there. record { owned = (mine.holds p there).owned; same = refl; made = (mine.holds p there).made };
          });
        },
      ),
      record { all = refl; beginning = mine.beginning; same = λ p there. (mine.holds p there).same },
    )

-- ---- one process goes to a seat

module _ (launch : Launch) (log : List Entry) (owner : ℕ → ℕ) (keeper p to : ℕ) where
  -- a seat that doesn't stand for the process
  away : (seat : ℕ) (v : View) → owner p ≢ seat → Fit launch log owner keeper seat v → Fit launch log (owner_for owner p to) keeper seat v
  away seat v apart f = record {
    keeper_knows = f.keeper_knows;
    beginning = f.beginning;
    holds = λ q there.
        let h = f.holds q there in
        record {
          owned = owner_other owner p to q (λ same. apart (ap owner (sym same) ∙ h.owned)) ∙ h.owned;
          same = h.same;
          made = h.made;
        };
  }

  -- the seat that it goes to, which stands for it alone
  arrived : (whole : Bool) (all seen : List Entry) → (whole ≡ true → (to ≡ keeper) × (all ≡ log)) → IsPrefix seen log → own p seen ≡ own p log
      → Made (world launch log) p → Fit launch log (owner_for owner p to) keeper to (record { keeps = whole; log = all; held = p ∷ []; seen = seen })
  arrived whole all seen knows beginning same made = record {
    keeper_knows = knows;
    beginning = beginning;
    holds = λ q there.
        let is = contains_one p q there in
        record {
          owned = owner_same owner p to q is;
          same = subst (λ r. own r seen ≡ own r log) (sym is) same;
          made = subst (Made (world launch log)) (sym is) made;
        };
  }

-- ---- the keeper takes a pass in

pub takes_in : (launch : Launch) (id : ℕ) (log : List Entry) (held : List ℕ) (seen : List Entry) (other p : ℕ) (told : List Entry)
    → Joins (IsKept launch) id (keeper_view log held seen) other (pass_view p told) (joined (keeper_view log held seen) (pass_view p told)) spent_view
takes_in launch id log held seen other p told s kept at apart there =
    let k = stands_at launch s id log held seen kept at in
    let both = keeper_view log (p ∷ []) told in
    let theirs = ⊎_elim
    (λ (here : (other ≡ id) × (both ≡ pass_view p told)). absurd (apart here.0))
    (λ (found : (other ≢ id) × (get_elem? s.views other ≡ some (pass_view p told))). k.1.seats other (pass_view p told) found.1)
    (at_set s.views id other both (pass_view p told) there) in
    let h = theirs.holds p (contains_first p []) in (
      id,
      log,
      owner_for k.0 p id,
      record {
        proper = k.1.proper;
        words = k.1.words;
        legal = k.1.legal;
        seats = fit_set launch log (owner_for k.0 p id) id (set s.views id both) other spent_view
            (λ j u notother e. ⊎_elim
            (λ (here : (j ≡ id) × (both ≡ u)).
            subst (λ (y : ℕ × View). Fit launch log (owner_for k.0 p id) id y.0 y.1) (λ i. (sym here.0 i, here.1 i))
            (arrived launch log k.0 id p id true log told (λ _. (refl, refl)) theirs.beginning h.same h.made))
            (λ (found : (j ≢ id) × (get_elem? s.views j ≡ some u)).
            away launch log k.0 id p id j u (λ owned. notother (sym owned ∙ h.owned)) (k.1.seats j u found.1))
            (at_set s.views id j both u e))
            (spent_fits launch log (owner_for k.0 p id) id other);
      },
    )

-- ---- the keeper hands out a pass of its first process

pub gives : (launch : Launch) (id : ℕ) (log : List Entry) (p : ℕ) (held : List ℕ) → (Contains held p → ⊥)
    → Splits (IsKept launch) id (keeper_view log (p ∷ held) log) (without_first (keeper_view log (p ∷ held) log)) (first_pass (keeper_view log (p ∷ held) log))
gives launch id log p held none s kept at =
    let k = stands_at launch s id log (p ∷ held) log kept at in
    let mine = k.1.seats id (keeper_view log (p ∷ held) log) at in
    let h = mine.holds p (contains_first p held) in
    let left = keeper_view log held log in
    let views = set s.views id left in
    let n = length views in (
      id,
      log,
      owner_for k.0 p n,
      record {
        proper = k.1.proper;
        words = k.1.words;
        legal = k.1.legal;
        seats = λ j u e. ⊎_elim
            (λ (here : (j ≡ n) × (pass_view p log ≡ u)).
            subst (λ (y : ℕ × View). Fit launch log (owner_for k.0 p n) id y.0 y.1) (λ i. (sym here.0 i, here.1 i))
            (arrived launch log k.0 id p n false [] log (λ k. absurd (off k)) (prefix_self log) refl h.made))
            (λ (found : (j ≢ n) × (get_elem? views j ≡ some u)). ⊎_elim
            (λ (mine_too : (j ≡ id) × (left ≡ u)).
            subst (λ (y : ℕ × View). Fit launch log (owner_for k.0 p n) id y.0 y.1) (λ i. (sym mine_too.0 i, mine_too.1 i)) (record {
              keeper_knows = λ _. (refl, refl);
              beginning = prefix_self log;
              holds = λ q there.
                  let o = mine.holds q (contains_later p held q there) in
                  record {
                    owned = owner_other k.0 p n q (λ same. none (subst (Contains held) same there)) ∙ o.owned;
                    same = refl;
                    made = o.made;
                  };
            }))
            (λ (other : (j ≢ id) × (get_elem? s.views j ≡ some u)).
            away launch log k.0 id p n j u (λ owned. other.0 (sym owned ∙ h.owned)) (k.1.seats j u other.1))
            (at_set s.views id j left u found.1))
            (at_push views (pass_view p log) u j e);
      },
    )

-- ---- the steps at views that equations tell, and at a table whose key one tells

-- a fact of the keeper's view at rest, and of the table's key
pub at_rest : (launch key : Launch) (me : Me Entry View) (P : Launch → Me Entry View → Type 0) → key ≡ launch → IsAtRest me
    → P launch (keeper_view me.0.log me.0.held me.0.log, []) → P key me
at_rest launch key me P same rest fact =
    subst (λ (x : Launch × Me Entry View). P x.0 x.1) (λ i. (sym same i, sym rest i)) fact

pub appends_at : (launch key : Launch) (slots id : ℕ) (me : Me Entry View) (e said : Entry) → key ≡ launch → IsAtRest me → e ≡ said → Covers e me.0.held
    → Fits (world launch me.0.log) e → length me.0.log < 2 ^ 63
    → Allows (IsKept key) slots id me 0 (λ n. (n + 1) % 2 ^ 64) (λ n w. IsAppended said me w)
appends_at launch key slots id me e said same rest is covers fits room =
    at_rest launch key me (λ l m. Allows (IsKept l) slots id m 0 (λ n. (n + 1) % 2 ^ 64) (λ n w. IsAppended said m w)) same rest
    (subst
    (λ (x : Entry). Allows (IsKept launch) slots id (keeper_view me.0.log me.0.held me.0.log, []) 0 (λ n. (n + 1) % 2 ^ 64)
    (λ n w. IsAppended x (keeper_view me.0.log me.0.held me.0.log, []) w))
    is (appends launch slots id me.0.log me.0.held me.0.log e covers fits room))

pub compares_at : (launch key : Launch) (slots id : ℕ) (me : Me Entry View) (log : List Entry) (held : List ℕ) (seen : List Entry) → key ≡ launch
    → me ≡ (keeper_view log held seen, []) → Allows (IsKept key) slots id me 0 (λ n. n) (λ n w. IsCompared me w)
compares_at launch key slots id me log held seen same is =
    subst (λ (x : Launch × Me Entry View). Allows (IsKept x.0) slots id x.1 0 (λ n. n) (λ n w. IsCompared x.1 w)) (λ i. (sym same i, sym is i))
    (compares launch slots id log held seen)

pub takes_in_at : (launch key : Launch) (id : ℕ) (me : Me Entry View) (other : ℕ) (pass : View) (p : ℕ) (seen : List Entry) → key ≡ launch → IsAtRest me
    → pass ≡ pass_view p seen → Joins (IsKept key) id me.0 other pass (joined me.0 pass) spent_view
takes_in_at launch key id me other pass p seen same rest is =
    at_rest launch key me (λ l m. Joins (IsKept l) id m.0 other pass (joined m.0 pass) spent_view) same rest
    (subst
    (λ (v : View). Joins (IsKept launch) id (keeper_view me.0.log me.0.held me.0.log) other v (joined (keeper_view me.0.log me.0.held me.0.log) v) spent_view)
    (sym is) (takes_in launch id me.0.log me.0.held me.0.log other p seen))

pub gives_at : (launch key : Launch) (id : ℕ) (me : Me Entry View) (p : ℕ) (held : List ℕ) → key ≡ launch → IsAtRest me → me.0.held ≡ p ∷ held
    → (Contains held p → ⊥) → Splits (IsKept key) id me.0 (without_first me.0) (first_pass me.0)
gives_at launch key id me p held same rest first none =
    at_rest launch key me (λ l m. Splits (IsKept l) id m.0 (without_first m.0) (first_pass m.0)) same rest
    (subst
    (λ (ps : List ℕ). Splits (IsKept launch) id (keeper_view me.0.log ps me.0.log) (without_first (keeper_view me.0.log ps me.0.log))
    (first_pass (keeper_view me.0.log ps me.0.log)))
    (sym first) (gives launch id me.0.log p held none))

-- the keeper's view after it took a pass in
pub joined_is : (me after : Me Entry View) (pass : View) (p : ℕ) (seen : List Entry) → IsAtRest me → pass ≡ pass_view p seen
    → after ≡ (joined me.0 pass, me.1) → after ≡ (keeper_view me.0.log (p ∷ []) seen, [])
joined_is me after pass p seen rest is did = did ∙ (λ i. (joined (rest i).0 (is i), (rest i).1))

-- the view of a pass's seat, whose badge had this view alone
pub pass_is : (views : List View) (p : ℕ) (seen : List Entry) (v : View) → views ≡ v ∷ [] → views ≡ pass_view p seen ∷ [] → v ≡ pass_view p seen
pass_is views p seen v one is = let both : v ∷ [] ≡ pass_view p seen ∷ [] = sym one ∙ is in cc

-- what the keeper had seen for the one process that it holds, it compared
pub compared_later : (me after : Me Entry View) (log : List Entry) (p : ℕ) (seen : List Entry) → me ≡ (keeper_view log (p ∷ []) seen, []) → IsCompared me after
    → Later p seen log
compared_later me after log p seen is compared =
    let k = subst (λ (m : Me Entry View). IsCompared m after) is compared in
    record { beginning = k.beginning; same = k.same p (contains_first p []) }
