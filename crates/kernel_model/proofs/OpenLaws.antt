-- Which file an open is of.
--     opens_lead_below      what file_open opens is below the directory where it begins, or is made there
--     grants_are_held      a launch begins with its grants
use Rattle.std.proofs.Common.{◌≡◌, ℕ, List, [], Option, None, Some, inl, inr, refl, ap, ◌∙◌}
use Rattle.std.specs.Prelude.{if◌then◌else◌}
use Rattle.std.specs.FinMap.{get, empty}
use Rattle.abi_base.specs.declared.grant.Grant.{Grant}
use Rattle.abi_base.specs.declared.grant.GrantTarget.{GrantTarget}
use Rattle.abi_base.specs.declared.grant.GrantTarget.TheVariants as target
use Rattle.abi_types.specs.declared.node.Node.{Node}
use Rattle.abi_types.specs.declared.node.NodeKind.TheVariants as node_kind
use Rattle.abi_types.specs.declared.open_kind.OpenKind.TheVariants.{File, Directory}
use Rattle.maps.specs.Closure.{member}
use Rattle.maps.specs.Maps.{get-insert-same}
use Rattle.path_lookup.specs.Laws.{IsIn}
use Rattle.tree_model.specs.Changes.{is_file_kind, is_file_node, made}
use Rattle.tree_model.specs.Grants.{HasRightsOfType, IsGrantOf, type_of_kind, type_of_node}
use Rattle.tree_model.specs.Outcomes.{made-name}
use Rattle.tree_model.specs.Tree.{HasName, below, is_directory_kind, is_directory_node, names_in}
use Rattle.kernel_model.specs.Families.FilePaths.{Walked, Ends, Fails, LeadsOutside, walked_in}
use Rattle.kernel_model.specs.Families.LastNames.{name_at}
use Rattle.kernel_model.specs.Families.FileChanges.{modified}
use Rattle.kernel_model.specs.Families.NameMaking.{node_of, with_node}
use Rattle.kernel_model.specs.Families.Opening.{open_walked}
use Rattle.kernel_model.specs.OpenLaws.{GrantsAreHeld, IsOpenOf, LeadsBelow, OpensLeadBelow}
use Rattle.kernel_model.specs.Start.{granted_descriptor, granted_table, open_of, open_of_node}
use Rattle.kernel_model.specs.State.{Tree}
use Rattle.kernel_model.proofs.FilePaths.{LeadsIn, leads_below}
use Rattle.kernel_model.proofs.Opened.{opened_holds}
use Rattle.kernel_model.proofs.Reworks.{retimed_reworks}
use Rattle.kernel_model.proofs.Starts.{granted_at}

-- ---- file_open

module _ (oflags flags : ℕ) (path : List ℕ) (now new : ℕ) (t : Tree) (start : ℕ) where
  -- the new file has its name
  made_there : (d : ℕ) (name : List ℕ) → HasName (with_node (node_kind.File []) now new t d name).tree d name new
  made_there d name =
      let after = made t d name new (node_of (node_kind.File []) now) in
      ap (λ m. get (names_in (get m d)) name) (retimed_reworks after d (modified now)).names ∙ made-name t d name new (node_of (node_kind.File []) now)

  ends_below : (w : Walked) → LeadsIn (λ n. member n (below t start)) w → LeadsBelow t start new (open_walked oflags flags path now new t w)
  ends_below (Ends end) h =
      opened_holds oflags flags path now new t (λ at o. IsIn (λ n. member n (below t start)) at → LeadsBelow t start new o)
      (λ at errno among under. tt) (λ n file under. inl under) (λ n directory under. under)
      (λ d from len creates free under.
      inr (refl, (d, name_at path from len, under, made_there d (name_at path from len))))
      end h
  ends_below (Fails errno) h = tt
  ends_below (LeadsOutside component) h = tt

pub opens_lead_below : OpensLeadBelow
opens_lead_below oflags flags path now new t mode start held =
    ends_below oflags flags path now new t start (walked_in t mode path start) (leads_below t mode path start)

-- ---- grants

node_is : (t : Tree) (n : ℕ) (grant : Grant) (o : Option Node) → get t.nodes n ≡ o → HasRightsOfType grant (type_of_node o)
    → IsOpenOf t (target.Node n) (open_of_node n o)
node_is t n grant None is has = absurd has
node_is t n grant (Some node) is has =
    elim node.kind as (λ k. node.kind ≡ k → HasRightsOfType grant (type_of_kind k)
    → IsOpenOf t (target.Node n) (if is_directory_kind k then Directory n 0 else File n 0 0)) [
      | node_kind.File bytes ↦ λ e h. inl (ap is_file_node is ∙ ap is_file_kind e, refl)
      | node_kind.Directory ↦ λ e h. inr (ap is_directory_node is ∙ ap is_directory_kind e, refl)
      | node_kind.Link text ↦ λ e h. absurd h
    ] refl has

target_is : (t : Tree) (grant : Grant) (it : GrantTarget) → IsGrantOf t grant it → IsOpenOf t it (open_of t it)
target_is t grant (target.Terminal which) has = refl
target_is t grant (target.Node n) has = node_is t n grant (get t.nodes n) refl has

pub grants_are_held : GrantsAreHeld
grants_are_held tree grants stdin k grant begins there =
    let at = granted_at tree grants k grant begins.grants there in
    record {
      table = granted_table tree grants;
      descriptor = granted_descriptor tree k grant;
      kind = open_of tree grant.target;
      there = get-insert-same empty 0 (granted_table tree grants);
      held = at.held;
      base = refl;
      inheriting = refl;
      opened = at.opened;
      of = target_is tree grant grant.target at.allowed;
    }
