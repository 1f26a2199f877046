-- The test whether a record may stand next says whether it may.
use Rattle.std.proofs.Common.{◌≡◌, ℕ, true, List, Option, Some, None, is_none, refl, ap}
use Rattle.std.proofs.lemmas.Bool.{and_from, and_parts, false≢true}
use Rattle.tree_model.specs.declared.limits.TheConstants.{ROOT}
use Rattle.tree_model.specs.Tree.{Tree}
use Rattle.tree_model.specs.Changes.{first_fault, link_faults, make_faults}
use Rattle.tree_records.specs.Paths.{name_of, parent}
use Rattle.tree_records.specs.Records.{Record, dir, file, link, hard}
use Rattle.tree_document.specs.Building.{IsAllowed, IsLinkPlaceIn, IsPlaceIn, Making, node_at}
use Rattle.tree_document.specs.Meaning.{has_file, is_allowed, is_link_place, is_link_place_in, is_place_in}

none_from_test : {A : Type 0} (o : Option A) → is_none o ≡ true → o ≡ None
none_from_test None e = refl
none_from_test (Some x) e = absurd (false≢true e)

module _ (t : Tree) (name : List ℕ) where
  place_from_test : (o : Option ℕ) → is_place_in t name o ≡ true → IsPlaceIn t name o
  place_from_test None e = absurd (false≢true e)
  place_from_test (Some d) e = none_from_test (first_fault (make_faults t d name)) e

  test_from_place : (o : Option ℕ) → IsPlaceIn t name o → is_place_in t name o ≡ true
  test_from_place None h = absurd h
  test_from_place (Some d) h = ap is_none h

  link_place_from_test : (o p : Option ℕ) → is_link_place_in t name o p ≡ true → IsLinkPlaceIn t name o p
  link_place_from_test None p e = absurd (false≢true e)
  link_place_from_test (Some d) None e = absurd (false≢true e)
  link_place_from_test (Some d) (Some n) e = none_from_test (first_fault (link_faults t d name n)) e

  test_from_link_place : (o p : Option ℕ) → IsLinkPlaceIn t name o p → is_link_place_in t name o p ≡ true
  test_from_link_place None p h = absurd h
  test_from_link_place (Some d) None h = absurd h
  test_from_link_place (Some d) (Some n) h = ap is_none h

module _ (m : Making) where
  pub allowed_from_test : (r : Record) → is_allowed m r ≡ true → IsAllowed m r
  allowed_from_test (dir p) e = place_from_test m.tree (name_of p) (node_at m.tree ROOT (parent p)) e
  allowed_from_test (file p bytes) e = place_from_test m.tree (name_of p) (node_at m.tree ROOT (parent p)) e
  allowed_from_test (link p text) e = place_from_test m.tree (name_of p) (node_at m.tree ROOT (parent p)) e
  allowed_from_test (hard p target) e =
      let both = and_parts (has_file m target) (is_link_place m.tree p target) e in
      (both.0, link_place_from_test m.tree (name_of p) (node_at m.tree ROOT (parent p)) (node_at m.tree ROOT target) both.1)

  pub test_from_allowed : (r : Record) → IsAllowed m r → is_allowed m r ≡ true
  test_from_allowed (dir p) h = test_from_place m.tree (name_of p) (node_at m.tree ROOT (parent p)) h
  test_from_allowed (file p bytes) h = test_from_place m.tree (name_of p) (node_at m.tree ROOT (parent p)) h
  test_from_allowed (link p text) h = test_from_place m.tree (name_of p) (node_at m.tree ROOT (parent p)) h
  test_from_allowed (hard p target) h =
      and_from (has_file m target) (is_link_place m.tree p target) h.0
      (test_from_link_place m.tree (name_of p) (node_at m.tree ROOT (parent p)) (node_at m.tree ROOT target) h.1)
