-- One more name of a node: the tree that is seen, and what is kept.
use Rattle.std.proofs.Common.{◌≡◌, ◌≢◌, ℕ, ◌+◌, ◌<◌, ◌^◌, ◌==◌, ◌&&◌, not, true, false, List, Option, Some, None, IsSome, is_some, option_map, refl, sym, ap, ◌∙◌, arith}
use Rattle.std.proofs.lemmas.Bool.{eqb-true, false≢true, false_from_ne_true}
use Rattle.std.proofs.lemmas.Option.{none-some, same_Some}
use Rattle.std.specs.FinMap.{get, insert, remove}
use Rattle.maps.specs.Maps.{get-insert-same, get-insert-other, get-remove-same, get-remove-other}
use Rattle.tree_model.specs.declared.limits.TheConstants.{ROOT}
use Rattle.tree_model.specs.Tree.{Tree, entry_of, is_directory, is_directory_kind, links_in, links_of}
use Rattle.tree_model.specs.Changes.{first_fault, link_faults, linked, one_more, one_more_in, put_name, with_count}
use Rattle.tree_model.specs.Entries.{here_or_other}
use Rattle.tree_model.specs.Facts.{two_kinds}
use Rattle.tree_model.specs.Faults.{CanLink, can_link}
use Rattle.tree_model.specs.Keeps.{linked-tree}
use Rattle.tree_model.specs.Outcomes.{linked-name, linked-other_names}
use Rattle.file_tree.specs.declared.slot.Slot.{Slot}
use Rattle.file_tree.specs.Kept.{Slots, Numbers, tree_of, is_directory_slot, parent_in, ReportsParent, IsKept, links_in_slot, links_at, changed_slot, one_more_name, with_entry}
use Rattle.file_tree.proofs.Edits.{edited_view}
use Rattle.file_tree.proofs.NewNames.{directory_slot, node_slot, entered_at, entered_other, entered_view}
use Rattle.file_tree.proofs.Stays.{same_names_but, parent_stays, listed_at, listed_all, is_nameless_slot}
use Rattle.file_tree.proofs.Views.{node_found, directory_found}

-- ---- a node counts one name more

module _ (m : Slots) (n : ℕ) (s : Slot) (there : get m n ≡ Some s) where
  abbrev counting_more : Slot
  counting_more = record s { node = with_count s.node (s.node.links + 1) }

  counted_more : one_more_name m n ≡ insert m n counting_more
  counted_more = ap (changed_slot (λ s. record s { node = with_count s.node (s.node.links + 1) }) m n) there

  counted_here : {A : Type 0} (f : Option Slot → A) → f (get (one_more_name m n) n) ≡ f (Some counting_more)
  counted_here f = ap (λ (x : Slots). f (get x n)) counted_more ∙ ap f (get-insert-same m n counting_more)

  counted_at : {A : Type 0} (f : Option Slot → A) (q : ℕ) → q ≢ n → f (get (one_more_name m n) q) ≡ f (get m q)
  counted_at f q other = ap (λ (x : Slots). f (get x q)) counted_more ∙ ap f (get-insert-other m n counting_more q other)

  counted_view : tree_of (one_more_name m n) ≡ one_more (tree_of m) n
  counted_view =
      ap tree_of counted_more ∙ edited_view m n s counting_more there refl refl
      ∙ sym (ap (one_more_in (tree_of m) n) (node_found m n ∙ ap (option_map (λ s. s.node)) there))

links_found : (o : Option Slot) → links_in (option_map (λ s. s.node) o) ≡ links_in_slot o
links_found None = refl
links_found (Some s) = refl

-- a node that counts one name more has one
some_links : (n : ℕ) (s : Slot) → is_nameless_slot n (Some (record s { node = with_count s.node (s.node.links + 1) })) ≡ false
some_links n s =
    ap (λ b. b && not (n == ROOT)) (false_from_ne_true (s.node.links + 1 == 0) (λ e. let none = eqb-true (s.node.links + 1) 0 e in omega arith))

-- in either order
one_more-put_name : (t : Tree) (d : ℕ) (name : List ℕ) (n : ℕ) → one_more (put_name t d name n) n ≡ linked t d name n
one_more-put_name t d name n =
    elim (get t.nodes n) as (λ o. one_more_in (put_name t d name n) n o ≡ put_name (one_more_in t n o) d name n) [ None ↦ refl | Some node ↦ refl ]

-- the slots with the new name
abbrev pub linked_slots : Slots → ℕ → List ℕ → ℕ → Slots
linked_slots m d name n = one_more_name (with_entry m d name n) n

-- ---- a name comes into the slot s

module _ (m : Slots) (d : ℕ) (name : List ℕ) (n : ℕ) (s : Slot) (there : get m d ≡ Some s) (own : Slot) (here : get m n ≡ Some own) (apart : n ≢ d) where
  still : get (with_entry m d name n) n ≡ Some own
  still = entered_other m d name n s there n apart ∙ here

  module _ {A : Type 0} (f : Option Slot → A) (same : f (Some (record s { names = insert s.names name n })) ≡ f (Some s)) where
    linked_at : (q : ℕ) → q ≢ n → f (get (linked_slots m d name n) q) ≡ f (get m q)
    linked_at q other = counted_at (with_entry m d name n) n own still f q other ∙ entered_at m d name n s there f same q

  linked_view : is_directory_kind s.node.kind ≡ true → tree_of (linked_slots m d name n) ≡ linked (tree_of m) d name n
  linked_view kind =
      counted_view (with_entry m d name n) n own still ∙ ap (λ t. one_more t n) (entered_view m d name n s there kind) ∙ one_more-put_name (tree_of m) d name n

  -- the list stays right: the node has a name
  linked_listed : (nameless : Numbers) → IsKept m nameless → (q : ℕ)
      → is_some (get (remove nameless n) q) ≡ is_nameless_slot q (get (linked_slots m d name n) q)
  linked_listed nameless kept q =
      here_or_other (λ x. is_some (get (remove nameless n) x) ≡ is_nameless_slot x (get (linked_slots m d name n) x)) n q
      (ap is_some (get-remove-same nameless n) ∙ sym (counted_here (with_entry m d name n) n own still (is_nameless_slot n) ∙ some_links n own))
      (λ other. ap is_some (get-remove-other nameless n q other) ∙ listed_at m nameless kept.listed q ∙ sym (linked_at (is_nameless_slot q) refl q other))

  module _ (can : CanLink (tree_of m) d name n) (view : tree_of (linked_slots m d name n) ≡ linked (tree_of m) d name n) where
    linked_parent_at : (q : ℕ) → q ≢ n → ReportsParent (parent_in (get m q)) (tree_of m) q
        → ReportsParent (parent_in (get (linked_slots m d name n) q)) (tree_of (linked_slots m d name n)) q
    linked_parent_at q other reports =
        parent_stays (tree_of m) (tree_of (linked_slots m d name n)) (parent_in (get m q)) _ q reports (linked_at parent_in refl q other)
        (same_names_but (tree_of m) (tree_of (linked_slots m d name n)) d name q
        (λ d' name' away. (λ i. entry_of (view i) d' name') ∙ linked-other_names (tree_of m) d name n d' name' away)
        (λ before. none-some q (sym can.new ∙ before))
        (λ after. other (sym (same_Some n q (sym ((λ i. entry_of (view i) d name) ∙ linked-name (tree_of m) d name n) ∙ after)))))

    -- the node is no directory, and only a directory's slot has to name one
    linked_parents : ((q : ℕ) → is_directory (tree_of m) q ≡ true → ReportsParent (parent_in (get m q)) (tree_of m) q)
        → (q : ℕ) → is_directory (tree_of (linked_slots m d name n)) q ≡ true
        → ReportsParent (parent_in (get (linked_slots m d name n) q)) (tree_of (linked_slots m d name n)) q
    linked_parents parents q =
        let no_directory : is_directory (tree_of (linked_slots m d name n)) n ≡ false =
        directory_found (linked_slots m d name n) n ∙ counted_here (with_entry m d name n) n own still is_directory_slot
        ∙ ap is_directory_slot (sym here) ∙ sym (directory_found m n) ∙ can.kind in
        here_or_other (λ x. is_directory (tree_of (linked_slots m d name n)) x ≡ true
        → ReportsParent (parent_in (get (linked_slots m d name n) x)) (tree_of (linked_slots m d name n)) x) n q
        (λ is. absurd (false≢true (sym no_directory ∙ is)))
        (λ other is.
        let was = directory_found m q ∙ sym (linked_at is_directory_slot refl q other) ∙ sym (directory_found (linked_slots m d name n) q) ∙ is in
        linked_parent_at q other (parents q was))

-- ---- where contracts see the tree as t

module _ (m : Slots) (nameless : Numbers) (kept : IsKept m nameless) (t : Tree) (view : tree_of m ≡ t) (d : ℕ) (name : List ℕ) (n : ℕ)
    (free : first_fault (link_faults t d name n) ≡ None) where
  free_here : first_fault (link_faults (tree_of m) d name n) ≡ None
  free_here = (λ i. first_fault (link_faults (view i) d name n)) ∙ free

  can : CanLink (tree_of m) d name n
  can = can_link (tree_of m) d name n free_here

  apart_here : n ≢ d
  apart_here = two_kinds (tree_of m) d n can.directory can.kind

  pub link_there : IsSome (get m d)
  link_there = ap is_some (directory_slot m d can.directory).1

  -- the node is there, and counts few names, once the directory has the new name of it
  module _ (after : Slots) (is : after ≡ with_entry m d name n) where
    named_there : get after n ≡ get m n
    named_there =
        let slot = directory_slot m d can.directory in
        ap (λ (x : Slots). get x n) is ∙ entered_other m d name n slot.0 slot.1 n apart_here

    pub named_node : IsSome (get after n)
    named_node = ap is_some (named_there ∙ (node_slot m n can.there).1)

    pub named_few : links_at after n < 2 ^ 31
    named_few =
        let same : links_at after n ≡ links_at m n = ap links_in_slot named_there in
        let seen : links_of (tree_of m) n ≡ links_at m n = ap links_in (node_found m n) ∙ links_found (get m n) in
        let room = can.room in
        omega arith

  seen_here : tree_of (linked_slots m d name n) ≡ linked (tree_of m) d name n
  seen_here =
      let slot = directory_slot m d can.directory in
      let own = node_slot m n can.there in
      linked_view m d name n slot.0 slot.1 own.0 own.1 apart_here slot.2

  kept_here : IsKept (linked_slots m d name n) (remove nameless n)
  kept_here =
      let slot = directory_slot m d can.directory in
      let own = node_slot m n can.there in
      record {
        tree = rw seen_here (linked-tree (tree_of m) d name n kept.tree free_here);
        parents = linked_parents m d name n slot.0 slot.1 own.0 own.1 apart_here can seen_here kept.parents;
        listed = listed_all (linked_slots m d name n) (remove nameless n) (linked_listed m d name n slot.0 slot.1 own.0 own.1 apart_here nameless kept);
      }

  module _ (named after : Slots) (entry : named ≡ with_entry m d name n) (count : after ≡ one_more_name named n) where
    after_is : after ≡ linked_slots m d name n
    after_is = count ∙ ap (λ (x : Slots). one_more_name x n) entry

    pub seen_linked : tree_of after ≡ linked t d name n
    seen_linked = ap tree_of after_is ∙ seen_here ∙ (λ i. linked (view i) d name n)

    pub kept_linked : (inside : ℕ) → inside ≡ n → (less : Numbers) → less ≡ remove nameless inside → IsKept after less
    kept_linked inside same less numbers = rw after_is (rw numbers (rw same kept_here))
