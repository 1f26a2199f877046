-- What is in reach, by the kinds of parts.
--     nothing_else_is_in_reach      the law
use Rattle.std.proofs.Common.{◌≡◌, ◌≢◌, ◌⊎◌, inl, inr, ℕ, ◌==◌, ◌&&◌, ◌||◌, ◌<◌, not, Bool, true, false, List, [], ◌∷◌, ◌++◌, Option, Some, None, refl, sym, ap, subst, ◌∙◌}
use Rattle.std.proofs.lemmas.Bool.{eq-eqb, eqb-true}
use Rattle.std.proofs.lemmas.Bool.Decides.{eqb_tells}
use Rattle.std.proofs.lemmas.Nat.Bits.{bit_at-zero}
use Rattle.std.specs.FinMap.{get}
use Rattle.std.specs.Int.{bit_at}
use Rattle.abi_base.proofs.Bits.{has-meet}
use Rattle.abi_base.specs.Rights.{Has, has_all}
use Rattle.abi_types.specs.declared.call.Call.{Call}
use Rattle.abi_types.specs.declared.chan_kind.ChanKind.{ChanKind}
use Rattle.abi_types.specs.declared.descriptor.Descriptor.{Descriptor}
use Rattle.abi_types.specs.declared.needed.Needed.{Needed}
use Rattle.abi_types.specs.declared.open_kind.OpenKind.{OpenKind}
use Rattle.abi_types.specs.declared.open_kind.OpenKind.TheVariants.{File, Directory, End, Terminal, Process}
use Rattle.maps.specs.Closure.{member}
use Rattle.run_types.specs.declared.history.Entry.{Entry}
use Rattle.run_types.specs.declared.launch.Launch.{Launch}
use Rattle.tree_model.specs.Below.{below_induction}
use Rattle.tree_model.specs.Tree.{Tree, below}
use Rattle.kernel_model.specs.Need.{has_instead, has_needed, lack_base, lack_inheriting}
use Rattle.kernel_model.specs.Sight.{behind, channel_part, node_parts, process_parts}
use Rattle.kernel_model.specs.State.{State, Part, at_chan, at_clock, at_names, at_node, at_open, at_proc, at_status, at_term, has_part, same_part, tree_of}
use Rattle.kernel_model.proofs.FoundOpens.{zero_or_one}
use Rattle.kernel_model.proofs.Parts.{has_of_both}
use Rattle.kernel_model.proofs.Tests.{either_true, not_true, or_false, or_true}
use Rattle.run_model.specs.World.{world}
use Rattle.confinement_laws.specs.Headline.{LacksExactly}
use Rattle.confinement_laws.specs.ReachLaws.{HasAllOf, HasEach, IsEndOf, IsOfProcess, IsOfStream, IsUsable, LeadsInto, LeadsTo, MayReach, NamesLead, NothingElseIsInReach, further, here}
use Rattle.confinement_laws.proofs.HeldRights.{held_lacks_exactly}

-- ---- rights

both_true : (a b : Bool) → (a && b) ≡ true → (a ≡ true) × (b ≡ true)
both_true true b h = (refl, h)
both_true false b h = absurd (not_true h)

not_none : (n : ℕ) → not (n == 0) ≡ true → n ≢ 0
not_none n h none = not_true (sym (ap not (eq-eqb n 0 none)) ∙ h)

-- where nothing of what is asked is missing, each bit of it is held
each_held : (held asked lack : ℕ) → lack ≡ 0 → (k : ℕ) → (¬ Has held k → Has lack k) → Has held k
each_held held asked lack none k lacks =
    elim (eqb_tells (bit_at held k) 1) [
      | inl is ↦ is.1
      | inr other ↦ absurd (zero_or_one (bit_at lack k) (ap (λ n. bit_at n k) none ∙ bit_at-zero k) (lacks other.1))
    ]

stands_instead : (held instead : ℕ) → (not (instead == 0) && has_all held instead) ≡ true
    → (instead ≢ 0) × ((k : ℕ) → k < 64 → Has instead k → Has held k)
stands_instead held instead h =
    let both = both_true (not (instead == 0)) (has_all held instead) h in (
      not_none instead both.0,
      λ k _ has. ((has-meet held instead k).0 (subst (λ n. Has n k) (sym (eqb-true _ _ both.1)) has)).0,
    )

has_all_of : (d : Descriptor) (row : Needed) → LacksExactly d row → has_needed d row ≡ true → HasAllOf d row
has_all_of d row exactly has =
    let both = both_true ((lack_base d row).0 == 0) ((lack_inheriting d row).0 == 0) has in
    record {
      base = elim (has_instead d row) as (λ b. has_instead d row ≡ b
          → HasEach d.base row.base ⊎ ((row.instead.0 ≢ 0) × HasEach d.base row.instead)) [
            | true ↦ λ stands. inr (stands_instead d.base.0 row.instead.0 stands)
            | false ↦ λ none. inl (λ k below asked.
                each_held d.base.0 row.base.0 (lack_base d row).0 (eqb-true _ _ both.0) k (λ lacks. (exactly.base none k below).1 (asked, lacks)))
          ] refl;
      inheriting = λ k below asked.
          each_held d.inheriting.0 row.inheriting.0 (lack_inheriting d row).0 (eqb-true _ _ both.1) k (λ lacks. (exactly.inheriting k below).1 (asked, lacks));
    }

-- ---- what stands behind an open

-- the part is of what the open is of
abbrev StandsBehind : Tree → OpenKind → Part → Type 0
StandsBehind t kind (at_status q) = IsOfProcess kind q
StandsBehind t kind (at_node n) = LeadsTo t kind n
StandsBehind t kind (at_names n) = LeadsInto t kind n
StandsBehind t kind (at_term k) = IsOfStream kind k
StandsBehind t kind (at_chan c) = IsEndOf kind c
StandsBehind t kind _ = ⊥

only_one : (a b : ℕ) → ((a == b) || false) ≡ true → a ≡ b
only_one a b h = eqb-true a b (sym (or_false (a == b)) ∙ h)

node_of_part : (n : ℕ) (ms : List ℕ) → has_part (node_parts ms) (at_node n) ≡ true → member n ms ≡ true
node_of_part n [] h = absurd (not_true h)
node_of_part n (m ∷ ms) h =
    elim (either_true (m == n) (has_part (node_parts ms) (at_node n)) h) [
      | inl same ↦ ap (λ b. b || member n ms) (eq-eqb n m (sym (eqb-true m n same)))
      | inr later ↦ ap (λ b. (n == m) || b) (node_of_part n ms later) ∙ or_true (n == m)
    ]

names_of_part : (n : ℕ) (ms : List ℕ) → has_part (node_parts ms) (at_names n) ≡ true → member n ms ≡ true
names_of_part n [] h = absurd (not_true h)
names_of_part n (m ∷ ms) h =
    elim (either_true (m == n) (has_part (node_parts ms) (at_names n)) h) [
      | inl same ↦ ap (λ b. b || member n ms) (eq-eqb n m (sym (eqb-true m n same)))
      | inr later ↦ ap (λ b. (n == m) || b) (names_of_part n ms later) ∙ or_true (n == m)
    ]

-- no other part is among those of nodes
no_node : (q : Part) → ((m : ℕ) → same_part (at_node m) q ≡ false) → ((m : ℕ) → same_part (at_names m) q ≡ false) → (ms : List ℕ)
    → has_part (node_parts ms) q ≡ false
no_node q node names [] = refl
no_node q node names (m ∷ ms) =
    ap (λ b. b || (same_part (at_names m) q || has_part (node_parts ms) q)) (node m)
    ∙ ap (λ b. b || has_part (node_parts ms) q) (names m)
    ∙ no_node q node names ms

led_below : (t : Tree) (a n : ℕ) → member n (below t a) ≡ true → NamesLead t a n
led_below t a n under = below_induction t a (NamesLead t a) here (λ d name m _ before named _. further d name m before named) n under

channel_of : (o : Option ℕ) (c : ℕ) → has_part (channel_part o) (at_chan c) ≡ true → o ≡ Some c
channel_of None c h = absurd (not_true h)
channel_of (Some e) c h = ap Some (only_one e c h)

no_channel : (q : Part) → ((c : ℕ) → same_part (at_chan c) q ≡ false) → (o : Option ℕ) → has_part (channel_part o) q ≡ false
no_channel q other None = refl
no_channel q other (Some c) = ap (λ b. b || false) (other c)

no_end : (q : Part) → ((c : ℕ) → same_part (at_chan c) q ≡ false) → (reads writes : Option ℕ) → has_part (channel_part reads ++ channel_part writes) q ≡ false
no_end q other reads writes =
    has_of_both (channel_part reads) (channel_part writes) q
    ∙ ap (λ b. b || has_part (channel_part writes) q) (no_channel q other reads)
    ∙ no_channel q other writes

module _ (S : State) where
  file_behind : (n offset flags : ℕ) (q : Part) → has_part (behind S (Some (File n offset flags))) q ≡ true → StandsBehind (tree_of S) (File n offset flags) q
  file_behind n offset flags (at_node m) h = only_one n m h
  file_behind n offset flags _ h = absurd (not_true h)

  directory_behind : (a flags : ℕ) (q : Part) → has_part (behind S (Some (Directory a flags))) q ≡ true → StandsBehind (tree_of S) (Directory a flags) q
  directory_behind a flags (at_node n) h = led_below (tree_of S) a n (node_of_part n (below (tree_of S) a) h)
  directory_behind a flags (at_names n) h = led_below (tree_of S) a n (names_of_part n (below (tree_of S) a) h)
  directory_behind a flags at_clock h = absurd (not_true (sym (no_node at_clock (λ m. refl) (λ m. refl) (below (tree_of S) a)) ∙ h))
  directory_behind a flags (at_proc p) h = absurd (not_true (sym (no_node (at_proc p) (λ m. refl) (λ m. refl) (below (tree_of S) a)) ∙ h))
  directory_behind a flags (at_status p) h = absurd (not_true (sym (no_node (at_status p) (λ m. refl) (λ m. refl) (below (tree_of S) a)) ∙ h))
  directory_behind a flags (at_open o) h = absurd (not_true (sym (no_node (at_open o) (λ m. refl) (λ m. refl) (below (tree_of S) a)) ∙ h))
  directory_behind a flags (at_term k) h = absurd (not_true (sym (no_node (at_term k) (λ m. refl) (λ m. refl) (below (tree_of S) a)) ∙ h))
  directory_behind a flags (at_chan c) h = absurd (not_true (sym (no_node (at_chan c) (λ m. refl) (λ m. refl) (below (tree_of S) a)) ∙ h))

  end_behind : (reads writes : Option ℕ) (flags : ℕ) (form : ChanKind) (q : Part) → has_part (behind S (Some (End reads writes flags form))) q ≡ true
      → StandsBehind (tree_of S) (End reads writes flags form) q
  end_behind reads writes flags form (at_chan c) h =
      elim (either_true (has_part (channel_part reads) (at_chan c)) (has_part (channel_part writes) (at_chan c))
      (sym (has_of_both (channel_part reads) (channel_part writes) (at_chan c)) ∙ h)) [
        | inl read ↦ inl (channel_of reads c read)
        | inr written ↦ inr (channel_of writes c written)
      ]
  end_behind reads writes flags form at_clock h = absurd (not_true (sym (no_end at_clock (λ c. refl) reads writes) ∙ h))
  end_behind reads writes flags form (at_proc p) h = absurd (not_true (sym (no_end (at_proc p) (λ c. refl) reads writes) ∙ h))
  end_behind reads writes flags form (at_status p) h = absurd (not_true (sym (no_end (at_status p) (λ c. refl) reads writes) ∙ h))
  end_behind reads writes flags form (at_open o) h = absurd (not_true (sym (no_end (at_open o) (λ c. refl) reads writes) ∙ h))
  end_behind reads writes flags form (at_node n) h = absurd (not_true (sym (no_end (at_node n) (λ c. refl) reads writes) ∙ h))
  end_behind reads writes flags form (at_names n) h = absurd (not_true (sym (no_end (at_names n) (λ c. refl) reads writes) ∙ h))
  end_behind reads writes flags form (at_term k) h = absurd (not_true (sym (no_end (at_term k) (λ c. refl) reads writes) ∙ h))

  stream_behind : (which flags : ℕ) (q : Part) → has_part (behind S (Some (Terminal which flags))) q ≡ true → StandsBehind (tree_of S) (Terminal which flags) q
  stream_behind which flags (at_term k) h = only_one which k h
  stream_behind which flags _ h = absurd (not_true h)

  process_behind : (p object : ℕ) (q : Part) → has_part (behind S (Some (Process p object))) q ≡ true → StandsBehind (tree_of S) (Process p object) q
  process_behind p object (at_status r) h = only_one p r h
  process_behind p object _ h = absurd (not_true h)

  stands_behind : (kind : OpenKind) (q : Part) → has_part (behind S (Some kind)) q ≡ true → StandsBehind (tree_of S) kind q
  stands_behind (File n offset flags) q h = file_behind n offset flags q h
  stands_behind (Directory a flags) q h = directory_behind a flags q h
  stands_behind (End reads writes flags form) q h = end_behind reads writes flags form q h
  stands_behind (Terminal which flags) q h = stream_behind which flags q h
  stands_behind (Process p object) q h = process_behind p object q h

-- ---- what is in reach

module _ (launch : Launch) (history : List Entry) (p : ℕ) (call : Call) where
  abbrev S : State
  S = (world launch history).state

  -- what is the process's own
  own_reached : (q : Part) → has_part (process_parts p) q ≡ true → MayReach launch history p call q
  own_reached at_clock h = tt
  own_reached (at_proc q) h = sym (only_one p q h)
  own_reached (at_status q) h = inl (sym (only_one p q h))
  own_reached _ h = absurd (not_true h)

  -- what stands behind the open of a descriptor that the call may use
  behind_reached : (d : Descriptor) → IsUsable launch history p call d → (kind : OpenKind) → get S.opens d.id ≡ Some kind → (q : Part)
      → StandsBehind (tree_of S) kind q → MayReach launch history p call q
  behind_reached d usable kind there (at_status q) h = inr (kind, (d, usable, there), h)
  behind_reached d usable kind there (at_node n) h = (kind, (d, usable, there), h)
  behind_reached d usable kind there (at_names n) h = (kind, (d, usable, there), h)
  behind_reached d usable kind there (at_term k) h = (kind, (d, usable, there), h)
  behind_reached d usable kind there (at_chan c) h = (kind, (d, usable, there), h)
  behind_reached d usable kind there _ h = absurd h

  -- the open itself
  open_reached : (d : Descriptor) → IsUsable launch history p call d → (q : Part) → same_part (at_open d.id) q ≡ true → MayReach launch history p call q
  open_reached d usable (at_open o) h = (d, usable, eqb-true d.id o h)
  open_reached d usable _ h = absurd (not_true h)

  some_behind : (d : Descriptor) → IsUsable launch history p call d → (o : Option OpenKind) → get S.opens d.id ≡ o → (q : Part)
      → has_part (behind S o) q ≡ true → MayReach launch history p call q
  some_behind d usable None there q h = absurd (not_true h)
  some_behind d usable (Some kind) there q h = behind_reached d usable kind there q (stands_behind S kind q h)

  usable_reached : (d : Descriptor) → IsUsable launch history p call d → (q : Part) → has_part (at_open d.id ∷ behind S (get S.opens d.id)) q ≡ true
      → MayReach launch history p call q
  usable_reached d usable q h =
      elim (either_true (same_part (at_open d.id) q) (has_part (behind S (get S.opens d.id)) q) h) [
        | inl first ↦ open_reached d usable q first
        | inr later ↦ some_behind d usable (get S.opens d.id) refl q later
      ]

pub nothing_else_is_in_reach : NothingElseIsInReach
nothing_else_is_in_reach launch history p call q begins legal inside =
    elim inside [
      | inl own ↦ own_reached launch history p call q own
      | inr (inl by) ↦ usable_reached launch history p call by.d (record {
        fd = by.row.fd;
        held = by.held;
        may = inl (by.row, by.asked, refl, has_all_of by.d by.row (held_lacks_exactly launch history begins legal p by.row.fd by.d by.held by.row) by.has);
      }) q by.reached
      | inr (inr by) ↦ usable_reached launch history p call by.d (record { fd = by.fd; held = by.held; may = inr (by.none, by.asked) }) q by.reached
    ]
