-- What a node tagged `!file` asks for is a file or directory of the tree, with rights of its type.
use Rattle.std.proofs.Common.{◌≡◌, ℕ, Bool, true, false, List, [], ◌∷◌, if◌then◌else◌, Option, Some, None, Result, Ok, Err, refl, sym, ap, subst, ◌∙◌, eq-eqb}
use Rattle.std.specs.Prelude.{◌&&◌, IfOk, IfSome, option_map}
use Rattle.std.specs.Option.{option_and_then}
use Rattle.std.specs.FinMap.{get}
use Rattle.std.specs.Int.Bits.{and_self}
use Rattle.std.specs.Int.RustNames.{bit_and}
use Rattle.std.proofs.lemmas.Nat.{and_assoc}
use Rattle.abi_base.specs.declared.grant.Grant.{Grant}
use Rattle.abi_base.specs.declared.rights.Rights.{Rights}
use Rattle.abi_base.specs.Rights.{has_all}
use Rattle.abi_types.specs.declared.open_type.OpenType.{OpenType}
use Rattle.lists.specs.Results.{◌>>=◌}
use Rattle.tree_model.specs.Grants.{IsGrant, HasRightsOfType, type_of_node}
use Rattle.tree_model.specs.Tree.{Tree}
use Rattle.launch_values.specs.Shape.{Content, Pairs, null, boolean, integer, text, binary, mapping, sequence}
use Rattle.launch_plan.specs.declared.fault.PlanFault.{PlanFault}
use Rattle.launch_plan.specs.declared.fault.PlanFault.TheVariants as faults
use Rattle.launch_plan.specs.declared.files.Asked.{Asked}
use Rattle.launch_plan.specs.Files.{Part, Path, Base, Inheriting, without_slashes, node_at, whole, whole_of, target_at, listed, parts_of, are_parts, has_path, ask_target, asked_by, later, together, asked_of, met, with_rights, granted, granted_at, map_grant, file_grant}

-- rights are among themselves, and those met with others among the first
met_within : (all : Rights) (rights : Option Rights) → has_all all.0 (met all rights).0 ≡ true
met_within all None = eq-eqb _ _ (and_self all.0)
met_within all (Some rights) = eq-eqb _ _ (sym (and_assoc rights.0 all.0 all.0) ∙ ap (λ x. bit_and x rights.0) (and_self all.0))

module _ (t : Tree) where
  -- a descriptor of a file or directory of the tree, with all rights of its type
  abbrev IsWhole : Grant → Type 0
  IsWhole grant = (n : ℕ) × (type : OpenType) × (grant ≡ whole n type) × (type_of_node (get t.nodes n) ≡ Some type)

  whole_at : (n : ℕ) (o : Option OpenType) → type_of_node (get t.nodes n) ≡ o → IfSome (option_map (whole n) o) IsWhole
  whole_at n None is = tt
  whole_at n (Some type) is = (n, type, refl, is)

  target_of_node : (o : Option ℕ) → IfSome (option_and_then (whole_of t) o) IsWhole
  target_of_node None = tt
  target_of_node (Some n) = whole_at n (type_of_node (get t.nodes n)) refl

  -- ---- the target of what is asked for

  abbrev HasTarget : Asked → Type 0
  HasTarget asked = IfSome asked.target IsWhole

  of_path : (line : ℕ) (o : Option Grant) → IfSome o IsWhole → IfOk (ask_target line o) HasTarget
  of_path line None h = tt
  of_path line (Some grant) h = h

  of_base : (r : Result ℕ PlanFault) → IfOk (r >>= λ rights. Ok (record { target = None; base = Some (record { 0 = rights }); inheriting = None })) HasTarget
  of_base (Err e) = tt
  of_base (Ok rights) = tt

  of_inheriting : (r : Result ℕ PlanFault) → IfOk (r >>= λ rights. Ok (record { target = None; base = None; inheriting = Some (record { 0 = rights }) })) HasTarget
  of_inheriting (Err e) = tt
  of_inheriting (Ok rights) = tt

  of_part : (p : Part) → IfOk (asked_by t p) HasTarget
  of_part (Path line path) = of_path line (target_at t path) (target_of_node (node_at t (without_slashes path)))
  of_part (Base items) = of_base (listed items)
  of_part (Inheriting items) = of_inheriting (listed items)

  of_later : (before o : Option Grant) → IfSome before IsWhole → IfSome o IsWhole → IfSome (later before o) IsWhole
  of_later before None h k = h
  of_later before (Some grant) h k = k

  of_both : (r s : Result Asked PlanFault) → IfOk r HasTarget → IfOk s HasTarget → IfOk (r >>= λ a. s >>= λ b. Ok (together a b)) HasTarget
  of_both (Err e) s h k = tt
  of_both (Ok a) (Err e) h k = tt
  of_both (Ok a) (Ok b) h k = of_later a.target b.target h k

  of_parts : (ps : List Part) → IfOk (asked_of t ps) HasTarget
  of_parts [] = tt
  of_parts (p ∷ ps) = of_both (asked_by t p) (asked_of t ps) (of_part p) (of_parts ps)

  -- ---- the descriptor

  abbrev IsGrantWith : Option Rights → Option Rights → Grant → Type 0
  IsGrantWith base inheriting grant = IsGrant t (with_rights grant base inheriting)

  whole_is : (n : ℕ) (type : OpenType) (base inheriting : Option Rights) → type_of_node (get t.nodes n) ≡ Some type
      → IsGrant t (with_rights (whole n type) base inheriting)
  whole_is n type base inheriting is =
      subst (HasRightsOfType (with_rights (whole n type) base inheriting)) (sym is)
      (met_within (whole n type).base base, met_within (whole n type).inheriting inheriting)

  with_rights_is : (grant : Grant) (base inheriting : Option Rights) → IsWhole grant → IsGrant t (with_rights grant base inheriting)
  with_rights_is grant base inheriting w = subst (IsGrantWith base inheriting) (sym w.2) (whole_is w.0 w.1 base inheriting w.3)

  granted_is : (line : ℕ) (o : Option Grant) (base inheriting : Option Rights) → IfSome o IsWhole → IfOk (granted_at line o base inheriting) (IsGrant t)
  granted_is line None base inheriting h = tt
  granted_is line (Some grant) base inheriting h = with_rights_is grant base inheriting h

  of_asked : (line : ℕ) (r : Result Asked PlanFault) → IfOk r HasTarget → IfOk (r >>= granted line) (IsGrant t)
  of_asked line (Err e) h = tt
  of_asked line (Ok asked) h = granted_is line asked.target asked.base asked.inheriting h

  if_map : (line : ℕ) (b : Bool) (r : Result Grant PlanFault) → IfOk r (IsGrant t) → IfOk (if b then r else Err (faults.BadFile line)) (IsGrant t)
  if_map line true r h = h
  if_map line false r h = tt

  map_is : (line : ℕ) (ps : Pairs) → IfOk (map_grant t line ps) (IsGrant t)
  map_is line ps =
      if_map line (are_parts ps && has_path (parts_of ps)) (asked_of t (parts_of ps) >>= granted line) (of_asked line (asked_of t (parts_of ps)) (of_parts (parts_of ps)))

  pub file_is : (line : ℕ) (value : Content) → IfOk (file_grant t line value) (IsGrant t)
  unfolding file_grant
  file_is line null = tt
  file_is line (boolean b) = tt
  file_is line (integer i) = tt
  file_is line (text bytes) = tt
  file_is line (binary bytes) = tt
  file_is line (mapping ps) = map_is line ps
  file_is line (sequence xs) = tt
