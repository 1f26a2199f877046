-- What the descriptors that are held lead to: a descriptor with rights that are meant is of no node to which no grant leads.
--     AllKept scope launch history      after each of the entries, and before them, the tree has kept what no grant leads to
--     kept_early, kept_front      so it is of what stands in front
--     held_inside, table_inside      the open of each descriptor that is held, with rights that are meant
use Rattle.std.proofs.Common.{◌≡◌, ◌⊎◌, ℕ, true, inl, inr, List, [], ◌∷◌, ◌++◌, Some, is_some, refl, sym, ap, subst, ◌∙◌, append_assoc}
use Rattle.std.specs.Prelude.{slice_get}
use Rattle.std.specs.FinMap.{get}
use Rattle.abi_base.specs.Rights.{Has}
use Rattle.abi_base.specs.declared.grant.Grant.{Grant}
use Rattle.abi_base.specs.declared.grant.GrantTarget.{GrantTarget}
use Rattle.abi_base.specs.declared.grant.GrantTarget.TheVariants as target
use Rattle.abi_types.specs.declared.descriptor.Descriptor.{Descriptor}
use Rattle.abi_types.specs.declared.open_kind.OpenKind.{OpenKind}
use Rattle.abi_types.specs.declared.open_kind.OpenKind.TheVariants.{File, Directory, End, Terminal, Process}
use Rattle.run_types.specs.declared.history.Entry.{Entry}
use Rattle.run_types.specs.declared.launch.Launch.{Launch}
use Rattle.tree_model.specs.Below.{below_self}
use Rattle.tree_model.specs.Grants.{MayBegin}
use Rattle.tree_model.specs.Tree.{Tree}
use Rattle.kernel_model.specs.OpenLaws.{IsOfSame, IsOpenOf}
use Rattle.kernel_model.specs.State.{State, Table, tree_of}
use Rattle.kernel_model.proofs.Tests.{not_true, same_some}
use Rattle.run_model.specs.Legal.{Legal}
use Rattle.run_model.specs.World.{world}
use Rattle.run_model.proofs.Histories.{legal_front}
use Rattle.authority_laws.specs.Ledger.{is_new}
use Rattle.authority_laws.specs.Origins.{IsNewBelow, IsOpenedBelow}
use Rattle.authority_laws.specs.Recorded.{ledger}
use Rattle.authority_laws.specs.Traces.{Traced, first_open}
use Rattle.authority_laws.specs.Traces as way
use Rattle.authority_laws.proofs.OpenTargets.{traced_stays}
use Rattle.authority_laws.proofs.Records.{tables_are_recorded}
use Rattle.authority_laws.proofs.Traces.{held_is_traced}
use Rattle.confinement_laws.specs.Leading.{IsMeant, LeadsTo, Scope, any, writing}
use Rattle.confinement_laws.proofs.Unled.{IsInside, IsKept, Unled, below_inside}

-- ---- histories

-- after each of the entries, and before them, the tree has kept what no grant leads to
abbrev pub AllKept : Scope → Launch → List Entry → Type 0
AllKept scope launch history = (early rest : List Entry) → history ≡ early ++ rest → IsKept scope launch (tree_of (world launch early).state)

pub kept_early : (scope : Scope) (launch : Launch) (history early rest : List Entry) → history ≡ early ++ rest → AllKept scope launch history
    → AllKept scope launch early
kept_early scope launch history early rest is all first more splits =
    all first (more ++ rest) (is ∙ ap (λ h. h ++ rest) splits ∙ append_assoc first more rest)

kept_front : (scope : Scope) (launch : Launch) (front : List Entry) (e : Entry) → AllKept scope launch (front ++ e ∷ []) → AllKept scope launch front
kept_front scope launch front e = kept_early scope launch (front ++ e ∷ []) front (e ∷ []) refl

-- ---- rights that are meant

-- what has each right of what is meant is meant
meant_more : (scope : Scope) (d x : Descriptor)
    → ((k : ℕ) → Has d.base.0 k ⊎ Has d.inheriting.0 k → Has x.base.0 k ⊎ Has x.inheriting.0 k)
    → IsMeant scope d.base d.inheriting → IsMeant scope x.base x.inheriting
meant_more any d x more meant = tt
meant_more writing d x more meant = record { k = meant.k; writing = meant.writing; has = more meant.k meant.has }

-- ---- opens

-- each descriptor in a table, with rights that are meant, has an open that is of no node to which no grant leads
abbrev pub HoldsInside : Scope → Launch → State → Type 0
HoldsInside scope launch S =
    (p : ℕ) (table : Table) (n : ℕ) (d : Descriptor) (kind : OpenKind) → get S.tables p ≡ Some table → get table n ≡ Some d
    → IsMeant scope d.base d.inheriting → get S.opens d.id ≡ Some kind → IsInside scope launch kind

module _ (scope : Scope) (launch : Launch) where
  same_inside : (a b : OpenKind) → IsOfSame a b → IsInside scope launch a → IsInside scope launch b
  same_inside (File n offset flags) (File m other_offset other_flags) same inside = subst (λ k. Unled scope launch k → ⊥) same inside
  same_inside (Directory n flags) (Directory m other_flags) same inside = subst (λ k. Unled scope launch k → ⊥) same inside
  same_inside (End reads writes flags form) (End other_reads other_writes other_flags other_form) same inside = tt
  same_inside (Terminal which flags) (Terminal other other_flags) same inside = tt
  same_inside (Process p object) (Process q other) same inside = tt
  same_inside a b same inside = absurd same

  new_inside : (kind : OpenKind) → is_new kind ≡ true → IsInside scope launch kind
  new_inside (File n offset flags) new = absurd (not_true new)
  new_inside (Directory n flags) new = absurd (not_true new)
  new_inside (End reads writes flags form) new = tt
  new_inside (Terminal which flags) new = tt
  new_inside (Process p object) new = tt

  -- what is granted is led to
  granted_led : (k : ℕ) (grant : Grant) → slice_get launch.grants k ≡ Some grant → IsMeant scope grant.base grant.inheriting
      → (n : ℕ) → grant.target ≡ target.Node n → ¬ Unled scope launch n
  granted_led k grant listed meant n is unled =
      unled.1 (record {
        k = k;
        grant = grant;
        listed = listed;
        meant = meant;
        leads = subst (λ t. LeadsTo launch.tree t n) (sym is) (below_self launch.tree n);
      })

  granted_inside : (k : ℕ) (grant : Grant) → slice_get launch.grants k ≡ Some grant → IsMeant scope grant.base grant.inheriting
      → (t : GrantTarget) → grant.target ≡ t → (kind : OpenKind) → IsOpenOf launch.tree t kind → IsInside scope launch kind
  granted_inside k grant listed meant (target.Terminal which) is kind of = subst (IsInside scope launch) (sym of) tt
  granted_inside k grant listed meant (target.Node n) is kind (inl file) =
      subst (IsInside scope launch) (sym file.1) (granted_led k grant listed meant n is)
  granted_inside k grant listed meant (target.Node n) is kind (inr directory) =
      subst (IsInside scope launch) (sym directory.1) (granted_led k grant listed meant n is)

  -- what is opened is below the directory, or a new file, which no node is that the launch begins with
  new_file : (t u : Tree) (start n : ℕ) → IsKept scope launch t → IsNewBelow t u start n → ¬ Unled scope launch n
  new_file t u start n kept new unled = not_true (sym (ap is_some (sym (kept.nodes n unled) ∙ new.absent)) ∙ unled.0)

  opened_inside : (t u : Tree) (start : ℕ) (kind : OpenKind) → IsKept scope launch t → ¬ Unled scope launch start → IsOpenedBelow t u start kind
      → IsInside scope launch kind
  opened_inside t u start (File n offset flags) kept inside (inl under) = below_inside scope launch t kept start inside n under
  opened_inside t u start (File n offset flags) kept inside (inr new) = new_file t u start n kept new
  opened_inside t u start (Directory n flags) kept inside under = below_inside scope launch t kept start inside n under
  opened_inside t u start (End reads writes flags form) kept inside leads = absurd leads
  opened_inside t u start (Terminal which flags) kept inside leads = absurd leads
  opened_inside t u start (Process p object) kept inside leads = absurd leads

  module _ (begins : MayBegin launch.tree launch.grants) where
    -- the open of a traced descriptor with rights that are meant was so when it came
    first_inside : (history : List Entry) (p n : ℕ) (d : Descriptor) (trace : Traced launch history p n d) → Legal launch history
        → AllKept scope launch history → IsMeant scope d.base d.inheriting → IsInside scope launch (first_open launch history p n d trace)
    first_inside history p n d (way.granted k grant is) legal all meant = granted_inside k grant is.listed meant grant.target refl is.kind is.of
    first_inside history p n d (way.kept front e q m x before here) legal all meant =
        first_inside front q m x before (legal_front launch front (e ∷ []) legal) (kept_front scope launch front e all) meant
    first_inside history p n d (way.copied front e from to copies c before) legal all meant =
        first_inside front e.pid from c.d before (legal_front launch front (e ∷ []) legal) (kept_front scope launch front e all) meant
    first_inside history p n d (way.lowered front e m stat lowers l before) legal all meant =
        first_inside front e.pid m l.x before (legal_front launch front (e ∷ []) legal) (kept_front scope launch front e all)
        (meant_more scope l.d l.x
        (λ k has. elim has [ inl base ↦ inl ((l.base k).0 base).0 | inr inheriting ↦ inr ((l.inheriting k).0 inheriting).0 ]) meant)
    first_inside history p n d (way.opened front e fd to stat opens o before) legal all meant =
        let earlier = legal_front launch front (e ∷ []) legal in
        let kept = kept_front scope launch front e all in
        let passes : IsMeant scope o.x.base o.x.inheriting =
        meant_more scope o.d o.x
        (λ k has. elim has [ inl base ↦ inr (o.within.base k base) | inr inheriting ↦ inr (o.within.inheriting k inheriting) ]) meant in
        let first : OpenKind = first_open launch front e.pid fd o.x before in
        let still = traced_stays launch front begins earlier e.pid fd o.x before in
        let directory : OpenKind = Directory o.start o.flags in
        let same : still.0 ≡ directory = same_some still.0 directory (sym still.1 ∙ o.directory) in
        let inside : ¬ Unled scope launch o.start =
        same_inside first directory (subst (IsOfSame first) same still.2) (first_inside front e.pid fd o.x before earlier kept passes) in
        opened_inside (tree_of (world launch front).state) (tree_of (world launch (front ++ e ∷ [])).state) o.start o.kind
        (all front (e ∷ []) refl) inside o.leads
    first_inside history p n d (way.inherited front e q m x child before here) legal all meant =
        first_inside front e.pid m x before (legal_front launch front (e ∷ []) legal) (kept_front scope launch front e all) meant
    first_inside history p n d (way.listed front e k m x lists before here) legal all meant =
        first_inside front e.pid m x before (legal_front launch front (e ∷ []) legal) (kept_front scope launch front e all) meant
    first_inside history p n d (way.made front e m x makes is here) legal all meant = new_inside is.kind is.new
    first_inside history p n d (way.received front e m c x receives s before here) legal all meant =
        let earlier = legal_front launch front (e ∷ []) legal in
        first_inside s.early s.sender.pid s.m x before (legal_front launch s.early (s.sender ∷ s.between) (subst (Legal launch) s.is earlier))
        (kept_early scope launch front s.early (s.sender ∷ s.between) s.is (kept_front scope launch front e all)) meant

    -- the open of a descriptor that is held, with rights that are meant
    pub held_inside : (history : List Entry) → Legal launch history → AllKept scope launch history → (p n : ℕ) (d : Descriptor) (kind : OpenKind)
        → (ledger launch history).held p n ≡ Some d → IsMeant scope d.base d.inheriting → get (world launch history).state.opens d.id ≡ Some kind
        → IsInside scope launch kind
    held_inside history legal all p n d kind held meant there =
        let trace = held_is_traced launch history begins legal p n d held in
        let first : OpenKind = first_open launch history p n d trace in
        let still = traced_stays launch history begins legal p n d trace in
        let same : still.0 ≡ kind = same_some still.0 kind (sym still.1 ∙ there) in
        same_inside first kind (subst (IsOfSame first) same still.2) (first_inside history p n d trace legal all meant)

    -- and of one in a table
    pub table_inside : (history : List Entry) → Legal launch history → AllKept scope launch history → HoldsInside scope launch (world launch history).state
    table_inside history legal all p table n d kind own there =
        held_inside history legal all p n d kind (tables_are_recorded launch history begins legal p n table d own there).0
