-- What holds where a change is not refused: no condition of its table of faults does.
--     NoneHolds faults      none of the conditions holds
--     none_holds      so it is where there is no first fault
--     CanMake, CanLink, CanUnlink      what then holds, each part by its name
--     can_make, can_link, can_unlink      it does where the table has no fault
use Rattle.std.proofs.Common.{◌≡◌, ℕ, ◌<◌, Bool, true, false, not, ◌==◌, ◌&&◌, List, [], ◌∷◌, Option, None, Some, IsSome, is_some, refl, sym, ap, ◌∙◌, arith}
use Rattle.std.proofs.lemmas.Bool.{false≢true, not-false, not-true, leb-false, ltb-false, eqb-true, eq-eqb}
use Rattle.std.specs.Prelude.{if◌then◌else◌, ⊤}
use Rattle.std.specs.FinMap.{empty, get, len}
use Rattle.maps.specs.Names as name_map
use Rattle.tree_model.specs.declared.fault.TreeFault.{TreeFault}
use Rattle.tree_model.specs.declared.limits.TheConstants.{ROOT, MOST_LINKS}
use Rattle.tree_model.specs.Tree.{Tree, HasName, entry_of, is_directory, links_of, names_of}
use Rattle.tree_model.specs.Changes.{Faults, first_fault, has_names, is_full, is_removed, lacks_name, make_faults, link_faults, unlink_faults}

-- ---- tables of faults

-- none of the conditions holds
abbrev pub NoneHolds : Faults → Type 0
NoneHolds [] = ⊤
NoneHolds (f ∷ faults) = (f.0 ≡ false) × NoneHolds faults

no_first : (b : Bool) (fault : TreeFault) (rest : Option TreeFault) → (if b then Some fault else rest) ≡ None → (b ≡ false) × (rest ≡ None)
no_first true fault rest e = absurd (false≢true (sym (ap is_some e)))
no_first false fault rest e = (refl, e)

-- where there is no first one, none holds
pub none_holds : (faults : Faults) → first_fault faults ≡ None → NoneHolds faults
none_holds [] e = tt
none_holds (f ∷ faults) e = let rest = no_first f.0 f.1 (first_fault faults) e in (rest.0, none_holds faults rest.1)

-- ---- single conditions

pub none_of : {A : Type 0} (o : Option A) → is_some o ≡ false → o ≡ None
none_of None e = refl
none_of (Some x) e = absurd (false≢true (sym e))

pub some_there : {A : Type 0} (o : Option A) → IsSome o → (x : A) × (o ≡ Some x)
some_there None e = absurd (false≢true e)
some_there (Some x) e = (x, refl)

-- a directory that isn't removed has a name, or is the root
pub not_removed : (t : Tree) (d : ℕ) → is_removed t d ≡ false → links_of t d ≡ 0 → d ≡ ROOT
not_removed t d e none = eqb-true d ROOT (not-false (d == ROOT) (sym (ap (λ b. b && not (d == ROOT)) (eq-eqb (links_of t d) 0 none)) ∙ e))

-- the name isn't there
pub name_lacking : (t : Tree) (d : ℕ) (name : List ℕ) → not (lacks_name t d name) ≡ false → entry_of t d name ≡ None
name_lacking t d name e = none_of (entry_of t d name) (not-true (is_some (entry_of t d name)) (not-false (lacks_name t d name) e))

-- the name is there, and this is its node
pub name_there : (t : Tree) (d : ℕ) (name : List ℕ) → lacks_name t d name ≡ false → (n : ℕ) × HasName t d name n
name_there t d name e = some_there (entry_of t d name) (not-false (is_some (entry_of t d name)) e)

-- a directory that has no names has the empty map of names
pub no_names : (t : Tree) (d : ℕ) → has_names t d ≡ false → names_of t d ≡ empty
no_names t d e = let none = ltb-false 0 (len (names_of t d)) e in (name_map.is_empty (names_of t d)).0 (omega arith)

-- ---- whole tables

-- a new name may come into the directory
pub record CanMake (t : Tree) (d : ℕ) (name : List ℕ) : Type 0 where
  pub directory : is_directory t d ≡ true
  -- the directory has a name, or is the root
  pub held : links_of t d ≡ 0 → d ≡ ROOT
  pub new : entry_of t d name ≡ None

pub can_make : (t : Tree) (d : ℕ) (name : List ℕ) → first_fault (make_faults t d name) ≡ None → CanMake t d name
can_make t d name e =
    let none = none_holds (make_faults t d name) e in
    record {
      directory = not-false (is_directory t d) none.1.0;
      held = not_removed t d none.1.1.0;
      new = name_lacking t d name none.1.1.1.0;
    }

-- a new name of the node may come into the directory
pub record CanLink (t : Tree) (d : ℕ) (name : List ℕ) (n : ℕ) : Type 0 where
  pub directory : is_directory t d ≡ true
  -- the directory has a name, or is the root
  pub held : links_of t d ≡ 0 → d ≡ ROOT
  pub there : IsSome (get t.nodes n)
  pub kind : is_directory t n ≡ false
  pub new : entry_of t d name ≡ None
  pub room : links_of t n < MOST_LINKS

pub can_link : (t : Tree) (d : ℕ) (name : List ℕ) (n : ℕ) → first_fault (link_faults t d name n) ≡ None → CanLink t d name n
can_link t d name n e =
    let none = none_holds (link_faults t d name n) e in
    let after = none.1.1.1 in
    record {
      directory = not-false (is_directory t d) none.1.0;
      held = not_removed t d none.1.1.0;
      there = not-false (is_some (get t.nodes n)) after.0;
      kind = after.1.0;
      new = name_lacking t d name after.1.1.0;
      room = leb-false MOST_LINKS (links_of t n) after.1.1.1.0;
    }

-- the name may go from the directory
pub record CanUnlink (t : Tree) (d : ℕ) (name : List ℕ) : Type 0 where
  pub directory : is_directory t d ≡ true
  -- the node of the name
  pub node : ℕ
  pub named : HasName t d name node
  -- there are no names in it
  pub bare : names_of t node ≡ empty

pub can_unlink : (t : Tree) (d : ℕ) (name : List ℕ) → first_fault (unlink_faults t d name) ≡ None → CanUnlink t d name
can_unlink t d name e =
    let none = none_holds (unlink_faults t d name) e in
    let there = name_there t d name none.1.1.0 in
    record {
      directory = not-false (is_directory t d) none.1.0;
      node = there.0;
      named = there.1;
      bare = no_names t there.0 (sym (ap (is_full t) there.1) ∙ none.1.1.1.0);
    }
