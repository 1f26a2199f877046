-- Two launches that differ only beyond their grants begin alike.
--     Inside, Within      a node that isn't beyond the grants of a launch;  of both
--     led_or_not      whether a grant leads to a node
--     led_there, led_back      grants lead to the same nodes in both trees
--     node_inside, names_inside      what is inside is the same in both
--     starts_kept      so both runs begin in states that have the same of it
use Rattle.std.proofs.Common.{◌≡◌, ◌⊎◌, ℕ, zero, suc, ◌+◌, true, inl, inr, List, [], ◌∷◌, Option, Some, None, IsSome, refl, sym, ap, subst, ◌∙◌}
use Rattle.std.proofs.lemmas.Bool.{false≢true}
use Rattle.std.specs.Prelude.{slice_get, false}
use Rattle.std.specs.Ordering.{nat_cmp}
use Rattle.std.specs.FinMap.{get, empty, insert, from_entries}
use Rattle.abi_base.specs.declared.grant.Grant.{Grant}
use Rattle.abi_base.specs.declared.grant.GrantTarget.{GrantTarget}
use Rattle.abi_base.specs.declared.grant.GrantTarget.TheVariants as target
use Rattle.run_types.specs.declared.launch.Launch.{Launch}
use Rattle.maps.specs.Closure.{member}
use Rattle.tree_model.specs.Below.{below_self}
use Rattle.tree_model.specs.Facts.{absent_no_directory}
use Rattle.tree_model.specs.Tree.{Tree, IsTree, below}
use Rattle.kernel_model.specs.Start.{first_open, granted_open, launch_object, numbered, open_of, open_of_node, start_state, unwritten}
use Rattle.kernel_model.specs.State.{at_clock, at_proc, at_status, at_open, at_node, at_names, at_term, at_chan}
use Rattle.kernel_model.proofs.Tests.{none_is_no, same_some}
use Rattle.confinement_laws.specs.Alike.{DifferBeyondGrants, IsBeyond}
use Rattle.confinement_laws.specs.Leading.{IsLedTo, LeadsTo, any}
use Rattle.confinement_laws.proofs.AlikeSights.{below_there}
use Rattle.confinement_laws.proofs.AlikeStates.{AgreeKept}

-- the node isn't beyond the grants of the launch
abbrev pub Inside : Launch → ℕ → Type 0
Inside launch n = ¬ IsBeyond launch n

-- it isn't beyond those of either one
abbrev pub Within : Launch → Launch → ℕ → Type 0
Within one other n = Inside one n × Inside other n

-- ---- what grants lead to

-- one of these grants leads to the node
abbrev Leads : Tree → List Grant → ℕ → Type 0
Leads t grants n = (k : ℕ) × (grant : Grant) × (slice_get grants k ≡ Some grant) × LeadsTo t grant.target n

target_or_not : (t : Tree) (what : GrantTarget) (n : ℕ) → LeadsTo t what n ⊎ ¬ LeadsTo t what n
target_or_not t (target.Terminal which) n = inr (λ h. h)
target_or_not t (target.Node m) n =
    elim (member n (below t m)) as (λ b. (b ≡ true) ⊎ ¬ (b ≡ true)) [ true ↦ inl refl | false ↦ inr false≢true ]

grants_or_not : (t : Tree) (grants : List Grant) (n : ℕ) → Leads t grants n ⊎ ¬ Leads t grants n
grants_or_not t [] n = inr (λ led. none_is_no led.1 led.2)
grants_or_not t (grant ∷ grants) n =
    elim (target_or_not t grant.target n) [
      | inl first ↦ inl (0, grant, refl, first)
      | inr other ↦ elim (grants_or_not t grants n) [
        | inl later ↦ inl (suc later.0, later.1, later.2, later.3)
        | inr none ↦ inr (λ led. neither t grant grants n other none led.0 led.1 led.2 led.3)
      ]
    ] where
      neither : (t : Tree) (grant : Grant) (grants : List Grant) (n : ℕ) → ¬ LeadsTo t grant.target n → ¬ Leads t grants n
          → (k : ℕ) (found : Grant) → slice_get (grant ∷ grants) k ≡ Some found → LeadsTo t found.target n → ⊥
      neither t grant grants n other none zero found at leads = other (subst (λ (g : Grant). LeadsTo t g.target n) (sym (same_some grant found at)) leads)
      neither t grant grants n other none (suc k) found at leads = none (k, found, at, leads)

led_or_not : (launch : Launch) (n : ℕ) → IsLedTo any launch n ⊎ ¬ IsLedTo any launch n
led_or_not launch n =
    elim (grants_or_not launch.tree launch.grants n) [
      | inl led ↦ inl (record { k = led.0; grant = led.1; listed = led.2; meant = tt; leads = led.3 })
      | inr none ↦ inr (λ (led : IsLedTo any launch n). none (led.k, led.grant, led.listed, led.leads))
    ]

-- ---- the same of both launches

no_value : {X : Type 0} (o : Option X) → ¬ IsSome o → o ≡ None
no_value None h = refl
no_value (Some x) h = absurd (h refl)

-- what isn't there has no names
no_names : (t : Tree) (n : ℕ) → IsTree t → get t.nodes n ≡ None → get t.names n ≡ None
no_names t n tree none =
    no_value (get t.names n) (λ some. false≢true (sym (absent_no_directory t n none) ∙ (tree.directories n).0 some))

module _ (one other : Launch) (differ : DifferBeyondGrants one other) (first : IsTree one.tree) (second : IsTree other.tree) where
  led_by : (k : ℕ) (grant : Grant) (what : GrantTarget) (n : ℕ) → slice_get one.grants k ≡ Some grant → grant.target ≡ what → LeadsTo one.tree what n
      → IsLedTo any one n
  led_by k grant what n listed is leads =
      record { k = k; grant = grant; listed = listed; meant = tt; leads = subst (λ x. LeadsTo one.tree x n) (sym is) leads }

  leads_there : (k : ℕ) (grant : Grant) (what : GrantTarget) (n : ℕ) → slice_get one.grants k ≡ Some grant → grant.target ≡ what → LeadsTo one.tree what n
      → LeadsTo other.tree what n
  leads_there k grant (target.Terminal which) n listed is leads = leads
  leads_there k grant (target.Node m) n listed is leads =
      below_there one.tree other.tree m second (λ d under _. differ.names d (led_by k grant (target.Node m) d listed is under)) n leads

  led_there : (n : ℕ) → IsLedTo any one n → IsLedTo any other n
  led_there n led = record {
    k = led.k;
    grant = led.grant;
    listed = ap (λ grants. slice_get grants led.k) (sym differ.grants) ∙ led.listed;
    meant = tt;
    leads = leads_there led.k led.grant led.grant.target n led.listed refl led.leads;
  }

  leads_back : (k : ℕ) (grant : Grant) (what : GrantTarget) (n : ℕ) → slice_get one.grants k ≡ Some grant → grant.target ≡ what → LeadsTo other.tree what n
      → LeadsTo one.tree what n
  leads_back k grant (target.Terminal which) n listed is leads = leads
  leads_back k grant (target.Node m) n listed is leads =
      below_there other.tree one.tree m first (λ d _ under. sym (differ.names d (led_by k grant (target.Node m) d listed is under))) n leads

  led_back : (n : ℕ) → IsLedTo any other n → IsLedTo any one n
  led_back n led =
      let listed : slice_get one.grants led.k ≡ Some led.grant = ap (λ grants. slice_get grants led.k) differ.grants ∙ led.listed in
      record { k = led.k; grant = led.grant; listed = listed; meant = tt; leads = leads_back led.k led.grant led.grant.target n listed refl led.leads }

  -- where no grant leads to a node that isn't beyond the grants, it is there in neither tree
  in_neither : (n : ℕ) → Within one other n → ¬ IsLedTo any one n → (get one.tree.nodes n ≡ None) × (get other.tree.nodes n ≡ None)
  in_neither n within unled = (
    no_value (get one.tree.nodes n) (λ some. within.0 (some, unled)),
    no_value (get other.tree.nodes n) (λ some. within.1 (some, λ led. unled (led_back n led))),
  )

  node_inside : (n : ℕ) → Within one other n → get one.tree.nodes n ≡ get other.tree.nodes n
  node_inside n within =
      elim (led_or_not one n) [
        | inl led ↦ differ.nodes n led
        | inr unled ↦ (let none = in_neither n within unled in none.0 ∙ sym none.1)
      ]

  names_inside : (n : ℕ) → Within one other n → get one.tree.names n ≡ get other.tree.names n
  names_inside n within =
      elim (led_or_not one n) [
        | inl led ↦ differ.names n led
        | inr unled ↦ (let none = in_neither n within unled in no_names one.tree n first none.0 ∙ sym (no_names other.tree n second none.1))
      ]

  -- ---- the start

  opened_alike : (k : ℕ) (grant : Grant) (what : GrantTarget) → slice_get one.grants k ≡ Some grant → grant.target ≡ what
      → open_of one.tree what ≡ open_of other.tree what
  opened_alike k grant (target.Terminal which) listed is = refl
  opened_alike k grant (target.Node m) listed is =
      ap (open_of_node m) (differ.nodes m (led_by k grant (target.Node m) m listed is (below_self one.tree m)))

numbered_alike : {X Y : Type 0} (f g : ℕ → X → Y) (n : ℕ) (xs : List X) → ((k : ℕ) (x : X) (m : ℕ) → slice_get xs k ≡ Some x → f m x ≡ g m x)
    → numbered f n xs ≡ numbered g n xs
numbered_alike f g n [] alike = refl
numbered_alike f g n (x ∷ xs) alike = λ i. (n, alike zero x n refl i) ∷ numbered_alike f g (n + 1) xs (λ k y m at. alike (suc k) y m at) i

module _ (one other : Launch) (differ : DifferBeyondGrants one other) (first : IsTree one.tree) (second : IsTree other.tree) where
  -- both states have the same but for what is beyond the grants
  pub starts_kept : AgreeKept (Within one other) (start_state one.tree one.grants one.stdin) (start_state other.tree other.grants other.stdin)
  starts_kept at_clock kept = refl
  starts_kept (at_proc p) kept = (
    λ i. get (insert (empty {R = nat_cmp}) 0 (from_entries (numbered (λ n (grant : Grant).
        record { id = launch_object (4 + differ.many i) + n; base = grant.base; inheriting = grant.inheriting }) 0 (differ.grants i)))) p,
    refl,
  )
  starts_kept (at_status p) kept = refl
  starts_kept (at_open o) kept =
      ap (λ es. get (from_entries {R = nat_cmp} es) o)
      (numbered_alike (granted_open one.tree) (granted_open other.tree) (first_open one.tree) one.grants
      (λ k grant m listed. opened_alike one other differ first second k grant grant.target listed refl)
      ∙ (λ i. numbered (granted_open other.tree) (launch_object (4 + differ.many i)) (differ.grants i)))
  starts_kept (at_node n) kept = node_inside one other differ first second n kept
  starts_kept (at_names n) kept = names_inside one other differ first second n kept
  starts_kept (at_term k) kept =
      λ i. get (insert (insert (insert (empty {R = nat_cmp}) 0 (unwritten (differ.stdin i))) 1 (unwritten [])) 2 (unwritten [])) k
  starts_kept (at_chan c) kept = refl
