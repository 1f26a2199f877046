-- A state with two ends more, and the channels that they read and write.
--     sole_inserted      at most one open passes a test, with one more that passes it where none did
--     named_beside, passes_beside      what is there beside an open that is new
--     ends_nearly_valid      a nearly valid state stays so with two ends and their channels
use Rattle.std.proofs.Common.{◌≡◌, ◌≢◌, ◌⊎◌, inl, inr, ℕ, ◌<◌, ◌^◌, Bool, true, false, Option, Some, None, refl, sym, ap, subst, ◌∙◌}
use Rattle.std.proofs.lemmas.Bool.Decides.{eqb_tells}
use Rattle.std.specs.Ordering.{nat_cmp}
use Rattle.std.specs.FinMap.{FinMap, get, insert}
use Rattle.abi_types.specs.declared.descriptor.Descriptor.{Descriptor}
use Rattle.abi_types.specs.declared.open_kind.OpenKind.{OpenKind}
use Rattle.abi_types.specs.declared.open_kind.OpenKind.TheVariants.{File, Directory, End, Terminal, Process}
use Rattle.maps.specs.Maps.{get-insert-same, get-insert-other}
use Rattle.kernel_model.specs.Channels.{Channel}
use Rattle.kernel_model.specs.Families.Numbers.{object_of}
use Rattle.kernel_model.specs.Release.{is_of_process, is_reader, is_writer}
use Rattle.kernel_model.specs.State.{State}
use Rattle.kernel_model.specs.Valid.{AreSole, AtMostOne, HasBehind, HasReader, HasWriter, IsJoined, IsNamed, IsNearlyValid, IsUncounted}
use Rattle.kernel_model.proofs.Channels.{KeepsEnds, opens_joined}
use Rattle.kernel_model.proofs.Tests.{not_true}
use Rattle.kernel_model.proofs.Valids.{same_value}

-- ---- an open that is new

module _ (opens : FinMap nat_cmp OpenKind) (o : ℕ) (new : OpenKind) where
  -- where it passes a test none did
  pub sole_inserted : (test : Option OpenKind → Bool) → (test (Some new) ≡ true → (r : ℕ) → test (get opens r) ≡ true → ⊥) → AtMostOne test opens
      → AtMostOne test (insert opens o new)
  sole_inserted test none sole r q h k =
      elim (eqb_tells r o) [
        | inl here ↦ elim (eqb_tells q o) [
          | inl there ↦ here.1 ∙ sym there.1
          | inr other ↦ absurd (none (passes r here.1 h) q (beside q other.1 k))
        ]
        | inr apart ↦ elim (eqb_tells q o) [
          | inl there ↦ absurd (none (passes q there.1 k) r (beside r apart.1 h))
          | inr other ↦ sole r q (beside r apart.1 h) (beside q other.1 k)
        ]
      ] where
        passes : (n : ℕ) → n ≡ o → test (get (insert opens o new) n) ≡ true → test (Some new) ≡ true
        passes n is here = ap test (sym (get-insert-same opens o new)) ∙ subst (λ k. test (get (insert opens o new) k) ≡ true) is here

        beside : (n : ℕ) → n ≢ o → test (get (insert opens o new) n) ≡ true → test (get opens n) ≡ true
        beside n apart here = ap test (sym (get-insert-other opens o new n apart)) ∙ here

  module _ (none : get opens o ≡ None) where
    pub named_beside : (d : Descriptor) → IsNamed (get opens d.id) d → IsNamed (get (insert opens o new) d.id) d
    named_beside d named =
        elim (eqb_tells d.id o) [
          | inl is ↦ absurd (subst (λ x. IsNamed x d) (ap (get opens) is.1 ∙ none) named)
          | inr other ↦ subst (λ x. IsNamed x d) (sym (get-insert-other opens o new d.id other.1)) named
        ]

    pub passes_beside : (test : Option OpenKind → Bool) → test None ≡ false → (r : ℕ) → test (get opens r) ≡ true → test (get (insert opens o new) r) ≡ true
    passes_beside test fails r passes =
        elim (eqb_tells r o) [
          | inl is ↦ absurd (not_true (sym fails ∙ ap test (sym (ap (get opens) is.1 ∙ none)) ∙ passes))
          | inr other ↦ ap test (get-insert-other opens o new r other.1) ∙ passes
        ]

-- ---- two ends

-- no open passes a test that the new one does
abbrev pub IsFirst : FinMap nat_cmp OpenKind → OpenKind → Type 0
IsFirst opens new =
    (k : ℕ)
    → (is_of_process k (Some new) ≡ true → (r : ℕ) → is_of_process k (get opens r) ≡ true → ⊥)
    × (is_reader k (Some new) ≡ true → (r : ℕ) → is_reader k (get opens r) ≡ true → ⊥)
    × (is_writer k (Some new) ≡ true → (r : ℕ) → is_writer k (get opens r) ≡ true → ⊥)

pub first_sole : (opens : FinMap nat_cmp OpenKind) (o : ℕ) (new : OpenKind) → IsFirst opens new → AreSole opens → AreSole (insert opens o new)
first_sole opens o new first sole k = (
  sole_inserted opens o new (is_of_process k) (first k).0 (sole k).0,
  sole_inserted opens o new (is_reader k) (first k).1 (sole k).1,
  sole_inserted opens o new (is_writer k) (first k).2 (sole k).2,
)

module _ (S : State) (v : IsNearlyValid S) (chans : FinMap nat_cmp Channel) (a b : ℕ) (first second : OpenKind) (none_a : get S.opens a ≡ None)
    (none_b : get S.opens b ≡ None) (apart : b ≢ a) (more : (c : ℕ) (channel : Channel) → get S.chans c ≡ Some channel → get chans c ≡ Some channel) where
  abbrev pub both_opens : FinMap nat_cmp OpenKind
  both_opens = insert (insert S.opens a first) b second

  abbrev pub with_ends : State
  with_ends = record S { opens = both_opens; chans = chans }

  second_none : get (insert S.opens a first) b ≡ None
  second_none = get-insert-other S.opens a first b apart ∙ none_b

  names_kept : (d : Descriptor) → IsNamed (get S.opens d.id) d → IsNamed (get both_opens d.id) d
  names_kept d named = named_beside (insert S.opens a first) b second second_none d (named_beside S.opens a first none_a d named)

  passes_kept : (test : Option OpenKind → Bool) → test None ≡ false → (r : ℕ) → test (get S.opens r) ≡ true → test (get both_opens r) ≡ true
  passes_kept test fails r passes =
      passes_beside (insert S.opens a first) b second second_none test fails r (passes_beside S.opens a first none_a test fails r passes)

  ends_kept : (c : ℕ) → KeepsEnds S.opens both_opens c
  ends_kept c = (passes_kept (is_reader c) refl, passes_kept (is_writer c) refl)

  reader_more : (reads : Option ℕ) → HasReader S.chans reads → HasReader chans reads
  reader_more None h = h
  reader_more (Some c) h = (h.0, more c h.0 h.1, h.2)

  writer_more : (writes : Option ℕ) → HasWriter S.chans writes → HasWriter chans writes
  writer_more None h = h
  writer_more (Some c) h = (h.0, more c h.0 h.1, h.2)

  behind_more : (kind : OpenKind) → HasBehind S kind → HasBehind with_ends kind
  behind_more (File n offset flags) h = h
  behind_more (Directory n flags) h = h
  behind_more (End reads writes flags form) h = (h.0, reader_more reads h.1, writer_more writes h.2)
  behind_more (Terminal which flags) h = h
  behind_more (Process p object) h = h

  behind_all : HasBehind with_ends first → HasBehind with_ends second → (r : ℕ) (kind : OpenKind) → get both_opens r ≡ Some kind → HasBehind with_ends kind
  behind_all one two r kind at =
      elim (eqb_tells r b) [
        | inl is ↦ subst (HasBehind with_ends)
            (same_value second kind (get both_opens b) (get-insert-same (insert S.opens a first) b second) (subst (λ k. get both_opens k ≡ Some kind) is.1 at)) two
        | inr other ↦ (
            let at_first : get (insert S.opens a first) r ≡ Some kind = sym (get-insert-other (insert S.opens a first) b second r other.1) ∙ at in
            elim (eqb_tells r a) [
              | inl is ↦ subst (HasBehind with_ends)
                  (same_value first kind (get (insert S.opens a first) a) (get-insert-same S.opens a first)
                  (subst (λ k. get (insert S.opens a first) k ≡ Some kind) is.1 at_first)) one
              | inr none ↦ behind_more kind (v.behind r kind (sym (get-insert-other S.opens a first r none.1) ∙ at_first))
            ])
      ]

  pub ends_nearly_valid : HasBehind with_ends first → HasBehind with_ends second → IsFirst S.opens first → IsFirst (insert S.opens a first) second
      → ((c : ℕ) (channel : Channel) → get chans c ≡ Some channel → (get S.chans c ≡ Some channel) ⊎ IsJoined both_opens c channel)
      → ((p k : ℕ) → p < 0xffffffff → IsUncounted S p k → k < 2 ^ 32
      → (object_of p k ≢ a) × (object_of p k ≢ b) × (get chans (object_of p k) ≡ None))
      → IsNearlyValid with_ends
  ends_nearly_valid one two first_of second_of joined unmade = record {
    named = λ q n table d at here. names_kept d (v.named q n table d at here);
    behind = behind_all one two;
    sole = first_sole (insert S.opens a first) b second second_of (first_sole S.opens a first first_of v.sole);
    tables = v.tables;
    owns = v.owns;
    numbered = v.numbered;
    made = λ p k small beyond fits.
        let none = unmade p k small beyond fits in
        get-insert-other (insert S.opens a first) b second (object_of p k) none.1 ∙ get-insert-other S.opens a first (object_of p k) none.0
        ∙ v.made p k small beyond fits;
    made_nodes = v.made_nodes;
    made_channels = λ p k small beyond fits. (unmade p k small beyond fits).2;
    born = v.born;
    tree = v.tree;
    waits = v.waits;
    channels = λ c channel at.
        elim (joined c channel at) [
          | inl before ↦ opens_joined S.opens both_opens S.chans names_kept ends_kept v.channels c channel before
          | inr new ↦ new
        ];
  }
