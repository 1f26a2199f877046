-- Nodes to which no grant leads that is meant, and trees that have kept what the launch had of them.
--     Unled scope launch n      the launch begins with the node, and no grant that is meant leads to it
--     unled_is_stable      it is one, if it can't be that it is none
--     IsInside scope launch kind      the open is of no such node
--     IsKept scope launch t      the tree has of each such node what the launch had, and from others no name leads to one
--     below_inside, behind_inside      no such node is below another node, nor behind an open that is of none
--     start_kept      the launch's own tree is so
use Rattle.std.proofs.Common.{◌≡◌, ◌⊎◌, ℕ, ◌||◌, true, false, inl, inr, List, [], ◌∷◌, ◌++◌, Option, Some, None, IsSome, is_some, refl, sym, ap, subst, ◌∙◌}
use Rattle.std.proofs.lemmas.Bool.Decides.{eqb_tells}
use Rattle.std.specs.Prelude.{⊤}
use Rattle.std.specs.FinMap.{get}
use Rattle.abi_base.specs.declared.grant.GrantTarget.{GrantTarget}
use Rattle.abi_base.specs.declared.grant.GrantTarget.TheVariants as target
use Rattle.abi_types.specs.declared.open_kind.OpenKind.{OpenKind}
use Rattle.abi_types.specs.declared.open_kind.OpenKind.TheVariants.{File, Directory, End, Terminal, Process}
use Rattle.maps.specs.Closure.{member}
use Rattle.run_types.specs.declared.launch.Launch.{Launch}
use Rattle.tree_model.specs.Below.{below_closed, below_induction}
use Rattle.tree_model.specs.Facts.{directory_of_name, directory_there}
use Rattle.tree_model.specs.Grants.{MayBegin}
use Rattle.tree_model.specs.Tree.{Tree, HasName, below}
use Rattle.kernel_model.specs.Sight.{behind, channel_part, node_parts}
use Rattle.kernel_model.specs.State.{State, Part, at_names, at_node, at_status, at_term, has_part, same_part, tree_of}
use Rattle.kernel_model.proofs.Parts.{number_apart}
use Rattle.kernel_model.proofs.Tests.{not_true}
use Rattle.confinement_laws.specs.Leading.{IsLedTo, LeadsTo, Scope}

-- ---- nodes to which no grant leads

-- the launch begins with the node, and no grant that is meant leads to it
abbrev pub Unled : Scope → Launch → ℕ → Type 0
Unled scope launch n = IsSome (get launch.tree.nodes n) × ¬ IsLedTo scope launch n

-- it is one, if it can't be that it is none
pub unled_is_stable : (scope : Scope) (launch : Launch) (n : ℕ) → ((Unled scope launch n → ⊥) → ⊥) → Unled scope launch n
unled_is_stable scope launch n h = (
  elim (is_some (get launch.tree.nodes n)) as (λ b. is_some (get launch.tree.nodes n) ≡ b → b ≡ true) [
    | true ↦ λ _. refl
    | false ↦ λ none. absurd (h (λ unled. not_true (sym none ∙ unled.0)))
  ] refl,
  λ led. h (λ unled. unled.1 led),
)

-- the open is of no such node
abbrev pub IsInside : Scope → Launch → OpenKind → Type 0
IsInside scope launch (File n offset flags) = ¬ Unled scope launch n
IsInside scope launch (Directory n flags) = ¬ Unled scope launch n
IsInside scope launch _ = ⊤

-- The tree has of each such node what the launch had, and so of the names in it; and a name in another directory is of no such node.
pub record IsKept (scope : Scope) (launch : Launch) (t : Tree) : Type 0 where
  pub nodes : (n : ℕ) → Unled scope launch n → get t.nodes n ≡ get launch.tree.nodes n
  pub names : (n : ℕ) → Unled scope launch n → get t.names n ≡ get launch.tree.names n
  pub leads : (d : ℕ) (name : List ℕ) (n : ℕ) → HasName t d name n → ¬ Unled scope launch d → ¬ Unled scope launch n

-- the part is this node, or the names in it
abbrev pub IsPartOf : ℕ → Part → Type 0
IsPartOf n part = (part ≡ at_node n) ⊎ (part ≡ at_names n)

-- ---- parts of nodes

node_among : (n : ℕ) (ms : List ℕ) → has_part (node_parts ms) (at_node n) ≡ true → member n ms ≡ true
node_among n [] h = absurd (not_true h)
node_among n (m ∷ ms) h =
    elim (eqb_tells n m) [
      | inl is ↦ ap (λ b. b || member n ms) is.0
      | inr other ↦ ap (λ b. b || member n ms) other.0
          ∙ node_among n ms (sym (ap (λ b. b || has_part (node_parts ms) (at_node n)) (number_apart m n other.1)) ∙ h)
    ]

names_among : (n : ℕ) (ms : List ℕ) → has_part (node_parts ms) (at_names n) ≡ true → member n ms ≡ true
names_among n [] h = absurd (not_true h)
names_among n (m ∷ ms) h =
    elim (eqb_tells n m) [
      | inl is ↦ ap (λ b. b || member n ms) is.0
      | inr other ↦ ap (λ b. b || member n ms) other.0
          ∙ names_among n ms (sym (ap (λ b. b || has_part (node_parts ms) (at_names n)) (number_apart m n other.1)) ∙ h)
    ]

-- the node or its names are a part of these nodes only where it is one of them
part_among : (n : ℕ) (part : Part) (ms : List ℕ) → IsPartOf n part → has_part (node_parts ms) part ≡ true → member n ms ≡ true
part_among n part ms (inl is) h = node_among n ms (subst (λ q. has_part (node_parts ms) q ≡ true) is h)
part_among n part ms (inr is) h = names_among n ms (subst (λ q. has_part (node_parts ms) q ≡ true) is h)

-- nor is another part a part of a node
no_other : (own : Part) (n : ℕ) (part : Part) → IsPartOf n part → ((m : ℕ) → same_part own (at_node m) ≡ false)
    → ((m : ℕ) → same_part own (at_names m) ≡ false) → has_part (own ∷ []) part ≡ true → ⊥
no_other own n part (inl is) nodes names h =
    not_true (sym (ap (λ b. b || false) (nodes n)) ∙ subst (λ q. has_part (own ∷ []) q ≡ true) is h)
no_other own n part (inr is) nodes names h =
    not_true (sym (ap (λ b. b || false) (names n)) ∙ subst (λ q. has_part (own ∷ []) q ≡ true) is h)

-- no channel is a part of a node
no_channel : (reads writes : Option ℕ) (n : ℕ) (part : Part) → IsPartOf n part → has_part (channel_part reads ++ channel_part writes) part ≡ true → ⊥
no_channel None None n part of h = not_true h
no_channel None (Some c) n part (inl is) h = not_true (subst (λ q. has_part (channel_part (Some c)) q ≡ true) is h)
no_channel None (Some c) n part (inr is) h = not_true (subst (λ q. has_part (channel_part (Some c)) q ≡ true) is h)
no_channel (Some c) None n part (inl is) h = not_true (subst (λ q. has_part (channel_part (Some c)) q ≡ true) is h)
no_channel (Some c) None n part (inr is) h = not_true (subst (λ q. has_part (channel_part (Some c)) q ≡ true) is h)
no_channel (Some c) (Some e) n part (inl is) h = not_true (subst (λ q. has_part (channel_part (Some c) ++ channel_part (Some e)) q ≡ true) is h)
no_channel (Some c) (Some e) n part (inr is) h = not_true (subst (λ q. has_part (channel_part (Some c) ++ channel_part (Some e)) q ≡ true) is h)

-- ---- what is below, and behind opens

module _ (scope : Scope) (launch : Launch) where
  -- no such node is below another node
  pub below_inside : (t : Tree) → IsKept scope launch t → (m : ℕ) → ¬ Unled scope launch m → (q : ℕ) → member q (below t m) ≡ true
      → ¬ Unled scope launch q
  below_inside t kept m inside =
      below_induction t m (λ q. Unled scope launch q → ⊥) inside (λ d name n _ from named _. kept.leads d name n named from)

  file_inside : (m n : ℕ) (part : Part) → IsPartOf n part → ¬ Unled scope launch m → has_part (at_node m ∷ []) part ≡ true → ¬ Unled scope launch n
  file_inside m n part (inl is) inside h =
      elim (eqb_tells n m) [
        | inl same ↦ subst (λ k. Unled scope launch k → ⊥) (sym same.1) inside
        | inr other ↦ absurd (not_true (sym (ap (λ b. b || false) (number_apart m n other.1)) ∙ subst (λ q. has_part (at_node m ∷ []) q ≡ true) is h))
      ]
  file_inside m n part (inr is) inside h = absurd (not_true (subst (λ q. has_part (at_node m ∷ []) q ≡ true) is h))

  -- nor is one behind an open that is of none
  kind_inside : (S : State) → IsKept scope launch (tree_of S) → (kind : OpenKind) → IsInside scope launch kind → (n : ℕ) (part : Part) → IsPartOf n part
      → has_part (behind S (Some kind)) part ≡ true → ¬ Unled scope launch n
  kind_inside S kept (File m offset flags) inside n part of h = file_inside m n part of inside h
  kind_inside S kept (Directory m flags) inside n part of h =
      below_inside (tree_of S) kept m inside n (part_among n part (below (tree_of S) m) of h)
  kind_inside S kept (End reads writes flags form) inside n part of h = absurd (no_channel reads writes n part of h)
  kind_inside S kept (Terminal which flags) inside n part of h = absurd (no_other (at_term which) n part of (λ q. refl) (λ q. refl) h)
  kind_inside S kept (Process p object) inside n part of h = absurd (no_other (at_status p) n part of (λ q. refl) (λ q. refl) h)

  pub behind_inside : (S : State) → IsKept scope launch (tree_of S) → (o : Option OpenKind) → ((kind : OpenKind) → o ≡ Some kind → IsInside scope launch kind)
      → (n : ℕ) (part : Part) → IsPartOf n part → has_part (behind S o) part ≡ true → ¬ Unled scope launch n
  behind_inside S kept None inside n part of h = absurd (not_true h)
  behind_inside S kept (Some kind) inside n part of h = kind_inside S kept kind (inside kind refl) n part of h

  -- ---- the start

  led_on : (t : GrantTarget) (d : ℕ) (name : List ℕ) (n : ℕ) → HasName launch.tree d name n → IsSome (get launch.tree.nodes n)
      → LeadsTo launch.tree t d → LeadsTo launch.tree t n
  led_on (target.Terminal which) d name n named there led = led
  led_on (target.Node m) d name n named there led = below_closed launch.tree m d name n led named there

  -- a grant that leads to a directory leads to what has a name in it
  start_leads : MayBegin launch.tree launch.grants → (d : ℕ) (name : List ℕ) (n : ℕ) → HasName launch.tree d name n → ¬ Unled scope launch d
      → ¬ Unled scope launch n
  start_leads begins d name n named outside unled =
      outside (
        directory_there launch.tree d (directory_of_name launch.tree begins.tree.tree d name n named),
        λ led. unled.1 (record {
          k = led.k;
          grant = led.grant;
          listed = led.listed;
          meant = led.meant;
          leads = led_on led.grant.target d name n named unled.0 led.leads;
        }),
      )

  -- the launch's own tree is so
  pub start_kept : MayBegin launch.tree launch.grants → IsKept scope launch launch.tree
  start_kept begins = record { nodes = λ n unled. refl; names = λ n unled. refl; leads = start_leads begins }
