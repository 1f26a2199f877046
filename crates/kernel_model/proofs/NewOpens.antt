-- A state with one open more, that a new descriptor of a process names.
--     IsBeside, put_last      an open and a table may be set after updates of the tree and of what a process has of its own beside its table
--     new_open_nearly_valid, new_descriptor_nearly_valid      a nearly valid state stays so with the open, and with the descriptor
use Rattle.std.proofs.Common.{◌≡◌, ◌≢◌, ℕ, ◌<◌, ◌^◌, Bool, true, false, List, [], ◌∷◌, Option, Some, None, inl, inr, refl, sym, ap, subst, ◌∙◌}
use Rattle.std.proofs.lemmas.Bool.Decides.{eqb_tells}
use Rattle.std.specs.Prelude.{⊤}
use Rattle.std.specs.FinMap.{get, insert}
use Rattle.std.specs.List.{AllByRecursion}
use Rattle.abi_types.specs.declared.descriptor.Descriptor.{Descriptor}
use Rattle.abi_types.specs.declared.open_kind.OpenKind.{OpenKind}
use Rattle.maps.specs.Maps.{get-insert-same, get-insert-other}
use Rattle.kernel_model.specs.Families.Numbers.{object_of}
use Rattle.kernel_model.specs.State.{State, Table, Update, put_all, put_one, set_names, set_node, set_open, set_process, set_table}
use Rattle.kernel_model.specs.Valid.{AreSole, HasBehind, IsNamed, IsNearlyValid, IsUncounted}
use Rattle.kernel_model.specs.Release.{is_reader, is_writer}
use Rattle.kernel_model.proofs.Channels.{KeepsEnds}
use Rattle.kernel_model.proofs.Tests.{not_true}
use Rattle.kernel_model.proofs.Valids.{opens_nearly_valid, same_value, table_nearly_valid}

-- ---- the order of updates

-- the update is of the tree, or of what a process has of its own beside its descriptors
abbrev pub IsBeside : Update → Type 0
IsBeside (set_process p own) = ⊤
IsBeside (set_node n node) = ⊤
IsBeside (set_names d names) = ⊤
IsBeside _ = ⊥

module _ (o : ℕ) (kind : OpenKind) (p : ℕ) (table : Table) where
  one_last : (u : Update) (S : State) → IsBeside u
      → put_one u (put_one (set_table p table) (put_one (set_open o kind) S)) ≡ put_one (set_table p table) (put_one (set_open o kind) (put_one u S))
  one_last (set_process q own) S h = refl
  one_last (set_node n node) S h = refl
  one_last (set_names d names) S h = refl
  one_last u S h = absurd h

  -- the open and the table may as well be set last
  pub put_last : (us : List Update) (S : State) → AllByRecursion IsBeside us
      → put_all (set_open o kind ∷ set_table p table ∷ us) S ≡ put_one (set_table p table) (put_one (set_open o kind) (put_all us S))
  put_last [] S h = refl
  put_last (u ∷ us) S h = ap (put_all us) (one_last u S h.0) ∙ put_last us (put_one u S) h.1

-- ---- one open more

module _ (S : State) (o : ℕ) (kind : OpenKind) (none : get S.opens o ≡ None) (v : IsNearlyValid S) where
  -- no descriptor names it yet
  still_named : (d : Descriptor) → IsNamed (get S.opens d.id) d → IsNamed (get (insert S.opens o kind) d.id) d
  still_named d named =
      elim (eqb_tells d.id o) [
        | inl is ↦ absurd (subst (λ x. IsNamed x d) (ap (get S.opens) is.1 ∙ none) named)
        | inr other ↦ subst (λ x. IsNamed x d) (sym (get-insert-other S.opens o kind d.id other.1)) named
      ]

  -- an end is no open that wasn't there
  still_passes : (test : Option OpenKind → Bool) → test None ≡ false → (r : ℕ) → test (get S.opens r) ≡ true → test (get (insert S.opens o kind) r) ≡ true
  still_passes test fails r passes =
      elim (eqb_tells r o) [
        | inl is ↦ absurd (not_true (sym fails ∙ ap test (sym (ap (get S.opens) is.1 ∙ none)) ∙ passes))
        | inr other ↦ ap test (get-insert-other S.opens o kind r other.1) ∙ passes
      ]

  still_ends : (c : ℕ) → KeepsEnds S.opens (insert S.opens o kind) c
  still_ends c = (still_passes (is_reader c) refl, still_passes (is_writer c) refl)

  still_behind : HasBehind S kind → (r : ℕ) (k : OpenKind) → get (insert S.opens o kind) r ≡ Some k → HasBehind S k
  still_behind there r k at =
      elim (eqb_tells r o) [
        | inl is ↦ (
            let there_now : get (insert S.opens o kind) o ≡ Some k = subst (λ j. get (insert S.opens o kind) j ≡ Some k) is.1 at in
            let one : kind ≡ k = same_value kind k (get (insert S.opens o kind) o) (get-insert-same S.opens o kind) there_now in
            subst (HasBehind S) one there)
        | inr other ↦ v.behind r k (sym (get-insert-other S.opens o kind r other.1) ∙ at)
      ]

  pub new_open_nearly_valid : HasBehind S kind → AreSole (insert S.opens o kind)
      → ((p k : ℕ) → p < 0xffffffff → IsUncounted S p k → k < 2 ^ 32 → object_of p k ≢ o)
      → IsNearlyValid (put_one (set_open o kind) S)
  new_open_nearly_valid there sole apart =
      opens_nearly_valid S (insert S.opens o kind) still_named (still_behind there) sole
      (λ p k small beyond fits. get-insert-other S.opens o kind (object_of p k) (apart p k small beyond fits) ∙ v.made p k small beyond fits) still_ends v

-- ---- one descriptor more

module _ (S : State) (p : ℕ) (table : Table) (there : get S.tables p ≡ Some table) (v : IsNearlyValid S) (fd : ℕ) (e : Descriptor)
    (named : IsNamed (get S.opens e.id) e) where
  more_named : (n : ℕ) (d : Descriptor) → get (insert table fd e) n ≡ Some d → IsNamed (get S.opens d.id) d
  more_named n d here =
      elim (eqb_tells n fd) [
        | inl same ↦ (
            let here_now : get (insert table fd e) fd ≡ Some d = subst (λ j. get (insert table fd e) j ≡ Some d) same.1 here in
            let is : e ≡ d = same_value e d (get (insert table fd e) fd) (get-insert-same table fd e) here_now in
            subst (λ (x : Descriptor). IsNamed (get S.opens x.id) x) is named)
        | inr apart ↦ v.named p n table d there (sym (get-insert-other table fd e n apart.1) ∙ here)
      ]

  -- a process may have one descriptor more
  pub new_descriptor_nearly_valid : IsNearlyValid (put_one (set_table p (insert table fd e)) S)
  new_descriptor_nearly_valid = table_nearly_valid S p table (insert table fd e) there more_named v
