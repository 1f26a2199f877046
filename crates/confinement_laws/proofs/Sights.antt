-- What a call sees is decided by what it sees.
--     sight_is_decided      where another state has the same of all that a call sees, it sees the same there
--     names_have_nodes, same_sight      so it is in each valid state
use Rattle.std.proofs.Common.{◌≡◌, ◌==◌, ℕ, ◌||◌, true, inl, inr, List, [], ◌∷◌, ◌++◌, Option, Some, None, IsSome, refl, sym, ap, ◌∙◌}
use Rattle.std.proofs.lemmas.Bool.{eq-eqb}
use Rattle.std.proofs.lemmas.Bool.Decides.{eqb_tells}
use Rattle.std.specs.FinMap.{get}
use Rattle.abi_types.specs.declared.call.Call.{Call}
use Rattle.abi_types.specs.declared.descriptor.Descriptor.{Descriptor}
use Rattle.abi_types.specs.declared.open_kind.OpenKind.{OpenKind}
use Rattle.abi_types.specs.declared.open_kind.OpenKind.TheVariants.{File, Directory, End, Terminal, Process}
use Rattle.abi_types.specs.declared.reply.Reply.{Reply}
use Rattle.abi_types.specs.declared.who.Who.{Who}
use Rattle.maps.specs.Closure.{member}
use Rattle.tree_model.specs.Tree.{HasName, below}
use Rattle.kernel_model.specs.Calls.{refusal, seen}
use Rattle.kernel_model.specs.Laws.{HasSameSight}
use Rattle.kernel_model.specs.Sight.{process_parts, node_parts, behind, reached_by, reached}
use Rattle.kernel_model.specs.State.{State, Table, Part, at_clock, at_proc, at_status, at_open, at_node, at_names, at_term, at_chan, same_part, has_part, tree_of, Agree, AgreeOn}
use Rattle.kernel_model.specs.Step.{reach, sight, unless_refused}
use Rattle.kernel_model.specs.Valid.{IsValid}
use Rattle.kernel_model.proofs.Parts.{agree_at, has_left, has_right}
use Rattle.kernel_model.proofs.Tests.{not_true, or_true}
use Rattle.confinement_laws.specs.Laws.{NamesHaveNodes, SightIsDecided}
use Rattle.confinement_laws.proofs.Closures.{below_decided}

-- ---- lists of parts

same_itself : (q : Part) → same_part q q ≡ true
same_itself at_clock = refl
same_itself (at_proc p) = eq-eqb p p refl
same_itself (at_status p) = eq-eqb p p refl
same_itself (at_open o) = eq-eqb o o refl
same_itself (at_node n) = eq-eqb n n refl
same_itself (at_names n) = eq-eqb n n refl
same_itself (at_term k) = eq-eqb k k refl
same_itself (at_chan c) = eq-eqb c c refl

-- a list has its first part, and each later one
has_first : (part : Part) (parts : List Part) → has_part (part ∷ parts) part ≡ true
has_first part parts = ap (λ b. b || has_part parts part) (same_itself part)

has_later : (part : Part) (parts : List Part) (q : Part) → has_part parts q ≡ true → has_part (part ∷ parts) q ≡ true
has_later part parts q there = ap (λ b. same_part part q || b) there ∙ or_true (same_part part q)

-- states that agree on each part of a list agree on the list
pub each_agrees : (S U : State) (parts : List Part) → ((q : Part) → has_part parts q ≡ true → Agree S U q) → AgreeOn S U parts
each_agrees S U [] all = tt
each_agrees S U (part ∷ parts) all = (all part (has_first part parts), each_agrees S U parts (λ q there. all q (has_later part parts q there)))

-- the parts of nodes have each of these, and the names in it
nodes_have : (ns : List ℕ) (n : ℕ) → member n ns ≡ true → (has_part (node_parts ns) (at_node n) ≡ true) × (has_part (node_parts ns) (at_names n) ≡ true)
nodes_have [] n there = absurd (not_true there)
nodes_have (k ∷ ns) n there =
    elim (eqb_tells n k) [
      | inl same ↦
          let here : (k == n) ≡ true = eq-eqb k n (sym same.1) in
          (ap (λ b. b || has_part (node_parts ns) (at_node n)) here, ap (λ b. b || has_part (node_parts ns) (at_names n)) here)
      | inr other ↦
          let rest = nodes_have ns n (sym (ap (λ b. b || member n ns) other.0) ∙ there) in
          (ap (λ b. (k == n) || b) rest.0 ∙ or_true (k == n), ap (λ b. (k == n) || b) rest.1 ∙ or_true (k == n))
    ]

-- ---- what another state has the same

-- another state has the same of these parts, and each name among them is of a node that is there
record IsSame (S U : State) (parts : List Part) : Type 0 where
  pub agree : (q : Part) → has_part parts q ≡ true → Agree S U q
  pub named : (d : ℕ) (name : List ℕ) (n : ℕ) → has_part parts (at_names d) ≡ true → HasName (tree_of S) d name n → IsSome (get S.nodes n)

module _ (S U : State) where
  same_left : (xs ys : List Part) → IsSame S U (xs ++ ys) → IsSame S U xs
  same_left xs ys same = record {
    agree = λ q there. same.agree q (has_left xs ys q there);
    named = λ d name n there. same.named d name n (has_left xs ys (at_names d) there);
  }

  same_right : (xs ys : List Part) → IsSame S U (xs ++ ys) → IsSame S U ys
  same_right xs ys same = record {
    agree = λ q there. same.agree q (has_right xs ys q there);
    named = λ d name n there. same.named d name n (has_right xs ys (at_names d) there);
  }

  -- the same stands behind an open
  behind_decided : (o : Option OpenKind) → IsSame S U (behind S o) → behind S o ≡ behind U o
  behind_decided None same = refl
  behind_decided (Some (File node offset flags)) same = refl
  behind_decided (Some (Directory node flags)) same =
      let under = nodes_have (below (tree_of S) node) in
      ap node_parts (below_decided (tree_of S) (tree_of U) node
      (λ n found. (same.agree (at_node n) (under n found).0, same.agree (at_names n) (under n found).1))
      (λ d name n found. same.named d name n (under d found).1))
  behind_decided (Some (End reads writes flags form)) same = refl
  behind_decided (Some (Terminal which flags)) same = refl
  behind_decided (Some (Process p object)) same = refl

  reached_by_decided : (d : Option Descriptor) → IsSame S U (reached_by S d) → reached_by S d ≡ reached_by U d
  reached_by_decided None same = refl
  reached_by_decided (Some d) same =
      let kind : get S.opens d.id ≡ get U.opens d.id = same.agree (at_open d.id) (has_first (at_open d.id) (behind S (get S.opens d.id))) in
      ap (λ parts. at_open d.id ∷ parts)
      (behind_decided (get S.opens d.id) (same_right (at_open d.id ∷ []) (behind S (get S.opens d.id)) same) ∙ ap (behind U) kind)

  reached_decided : (table : Table) (fds : List ℕ) → IsSame S U (reached S table fds) → reached S table fds ≡ reached U table fds
  reached_decided table [] same = refl
  reached_decided table (fd ∷ fds) same =
      ap (λ parts. parts ++ reached S table fds) (reached_by_decided (get table fd) (same_left (reached_by S (get table fd)) (reached S table fds) same))
      ∙ ap (λ parts. reached_by U (get table fd) ++ parts) (reached_decided table fds (same_right (reached_by S (get table fd)) (reached S table fds) same))

  unless_decided : (r : Option Reply) (table : Table) (fds : List ℕ) → IsSame S U (unless_refused r (reached S table fds))
      → unless_refused r (reached S table fds) ≡ unless_refused r (reached U table fds)
  unless_decided None table fds same = reached_decided table fds same
  unless_decided (Some reply) table fds same = refl

  reach_decided : (call : Call) (t : Option Table) → IsSame S U (reach S call t) → reach S call t ≡ reach U call t
  reach_decided call None same = refl
  reach_decided call (Some table) same = unless_decided (refusal table call) table (seen call) same

  sight_decided : (who : Who) (call : Call) → IsSame S U (sight S who call) → sight S who call ≡ sight U who call
  unfolding sight
  sight_decided who call same =
      let rest = reach S call (get S.tables who.pid) in
      let own : has_part (process_parts who.pid ++ rest) (at_proc who.pid) ≡ true =
      has_later at_clock (at_proc who.pid ∷ at_status who.pid ∷ rest) (at_proc who.pid) (has_first (at_proc who.pid) (at_status who.pid ∷ rest)) in
      ap (λ parts. process_parts who.pid ++ parts)
      (reach_decided call (get S.tables who.pid) (same_right (process_parts who.pid) rest same) ∙ ap (reach U call) (same.agree (at_proc who.pid) own).0)

pub sight_is_decided : SightIsDecided
sight_is_decided S U who call named all =
    sight_decided S U who call (record { agree = λ q there. agree_at S U (sight S who call) q all there; named = named })

-- each name of a valid state is of a node that is there
pub names_have_nodes : (S : State) (who : Who) (call : Call) → IsValid S → NamesHaveNodes S who call
names_have_nodes S who call valid d name n seen named = valid.nearly.tree.led d name n named

-- so a call sees the same in each state that has the same of each part that it sees
pub same_sight : (S U : State) (who : Who) (call : Call) → IsValid S → ((q : Part) → has_part (sight S who call) q ≡ true → Agree S U q)
    → HasSameSight S U who call
same_sight S U who call valid all =
    let alike : AgreeOn S U (sight S who call) = each_agrees S U (sight S who call) all in
    (sight_is_decided S U who call (names_have_nodes S who call valid) alike, alike)
