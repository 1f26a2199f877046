-- What stands behind a descriptor that a call needs is there, and is what the rights tell.
--     OnlyWhere Q o, NeverBadf Q S m, NamesOther c      an outcome is BADF only where Q holds; what a call does is so; and what a call on
--         names comes to is never so
--     either      what holds of both cases of a test
--     IsGranted S row kind      an open of a descriptor that has what the row needs
--     granted, granted_base      each right needed is one of the open's type
--     by_kind, file_alone, at_file, at_directory      the open is a file, a directory, a standard stream or a process; by a right of files alone it
--         is a file, and by one of directories alone a directory
--     row_granted      the open behind a row that is met
--     on_open_found, by_open_found, by_name_found, by_names_found      calls on opens
use Rattle.std.proofs.Common.{◌≡◌, ◌≢◌, ◌⊎◌, inl, inr, ℕ, ◌^◌, ◌<◌, ◌&&◌, ◌==◌, not, Bool, true, false, cond, Option, Some, None, IsSome, refl, sym, ap, subst, ◌∙◌, arith}
use Rattle.std.proofs.lemmas.Bool.{eqb-true}
use Rattle.std.proofs.lemmas.Bool.Decides.{eqb_tells}
use Rattle.std.proofs.lemmas.Nat.{and_le_l}
use Rattle.std.proofs.lemmas.Nat.Bits.{bit_at-zero}
use Rattle.std.specs.Int.{bit_at}
use Rattle.std.specs.Prelude.{⊤, bit_and}
use Rattle.std.specs.FinMap.{get}
use Rattle.std.specs.List.{AllByRecursion}
use Rattle.abi_base.proofs.Bits.{has-meet, has-minus}
use Rattle.abi_base.specs.Grants.{stream_rights}
use Rattle.abi_base.specs.Rights.{Has, has_all, minus_of}
use Rattle.abi_base.specs.declared.errno.Errno.TheVariants.{Badf}
use Rattle.abi_types.specs.declared.chan_kind.ChanKind.{ChanKind}
use Rattle.abi_types.specs.OpenTypes.{rights_of}
use Rattle.abi_types.specs.declared.constants.Constants.{Constants}
use Rattle.abi_types.specs.declared.descriptor.Descriptor.{Descriptor}
use Rattle.abi_types.specs.declared.needed.Needed.{Needed}
use Rattle.abi_types.specs.declared.open_kind.OpenKind.{OpenKind}
use Rattle.abi_types.specs.declared.open_kind.OpenKind.TheVariants.{File, Directory, End, Terminal, Process}
use Rattle.abi_types.specs.declared.open_type.OpenType.TheVariants as type
use Rattle.abi_types.specs.declared.reply.Reply.{Reply}
use Rattle.abi_types.specs.declared.who.Who.{Who}
use Rattle.tree_model.specs.Changes.{is_file}
use Rattle.tree_model.specs.Tree.{is_directory}
use Rattle.kernel_model.specs.Families.ClockCalls.{real_time}
use Rattle.kernel_model.specs.Families.FileMeaning.{FileMeaning, on_open, open_of}
use Rattle.kernel_model.specs.Families.NameMeaning.{NameOutcome, Refuses, LeadsOut, Changes, NameMeaning, by_name, by_names, outcome_of}
use Rattle.kernel_model.specs.Families.Numbers.{can_number, next_object}
use Rattle.kernel_model.specs.Families.OpenMeaning.{OpenMeaning, at_descriptor, by_open}
use Rattle.kernel_model.specs.Laws.{HasAll, IsMet}
use Rattle.kernel_model.specs.Meaning.{Meaning}
use Rattle.kernel_model.specs.Need.{has_instead, has_needed, lack_base, lack_inheriting}
use Rattle.kernel_model.specs.Outcome.{Outcome, WhereReply}
use Rattle.kernel_model.specs.State.{ProcessState, State, Table, tree_of}
use Rattle.kernel_model.specs.Step.{tick}
use Rattle.kernel_model.specs.Fits.{HasRightsOf, end_type, fits}
use Rattle.kernel_model.specs.Valid.{HasBehind, IsNamed, IsNearlyValid}
use Rattle.kernel_model.specs.View.{whole}
use Rattle.kernel_model.proofs.Tests.{not_true}

-- ---- what is shown of a call

-- where the reply is BADF this holds
abbrev pub OnlyWhere : Type 0 → Outcome → Type 0
OnlyWhere Q o = WhereReply (λ (reply : Reply). reply.errno ≡ Badf → Q) o.answer

-- where the descriptors that it names are there with the rights that it needs, what it does is BADF only where this holds
abbrev pub NeverBadf : Type 0 → State → Meaning → Type 0
NeverBadf Q S m =
    (constants : Constants) (who : Who) (table : Table) → get S.tables who.pid ≡ Some table → HasAll table m.named → AllByRecursion (IsMet table) m.need
    → OnlyWhere Q (m.effect constants (whole (tick S)) who table)

-- a call on names is not refused by BADF
abbrev pub NamesOther : NameOutcome → Type 0
NamesOther (Refuses errno) = errno ≢ Badf
NamesOther (LeadsOut component) = ⊤
NamesOther (Changes c) = ⊤

-- what holds of both cases of a test
pub either : {X : Type 0} (P : X → Type 0) (b : Bool) (x y : X) → P x → P y → P (cond b x y)
either P true x y one other = one
either P false x y one other = other

-- ---- rights

-- an open of a descriptor that has its rights among those of the open's type, and all that the row needs
pub record IsGranted (S : State) (row : Needed) (kind : OpenKind) : Type 0 where
  pub d : Descriptor
  pub rights : HasRightsOf d kind
  pub has : has_needed d row ≡ true
  pub behind : HasBehind S kind

first_holds : (a b : Bool) → (a && b) ≡ true → a ≡ true
first_holds true b h = refl
first_holds false b h = absurd (not_true h)

pub zero_or_one : (x : ℕ) → x ≡ 0 → x ≡ 1 → ⊥
zero_or_one x zero one = omega (arith, zero, one)

-- the rights that a type may have are numbered below 64
pub fits_small : (kind : OpenKind) → fits kind < 2 ^ 64
fits_small (File node offset flags) = omega arith
fits_small (Directory node flags) = omega arith
fits_small (End None None flags form) = omega arith
fits_small (End None (Some writes) flags form) = omega arith
fits_small (End (Some reads) None flags form) = omega arith
fits_small (End (Some reads) (Some writes) flags form) = omega arith
fits_small (Terminal which flags) =
    elim (which == 0) as (λ b. cond b (stream_rights 0) (stream_rights 1) < 2 ^ 64) [ true ↦ omega arith | false ↦ omega arith ]
fits_small (Process p object) = omega arith

-- a right of which nothing is lacking is held
pub lacks_none : (asked held k : ℕ) → held < 2 ^ 64 → k < 64 → minus_of asked held ≡ 0 → Has asked k → Has held k
lacks_none asked held k small below none has =
    elim (eqb_tells (bit_at held k) 1) [
      | inl is ↦ is.1
      | inr other ↦
          absurd (zero_or_one (bit_at (minus_of asked held) k) (ap (λ n. bit_at n k) none ∙ bit_at-zero k)
          ((has-minus asked held k small below).1 (has, other.1)))
    ]

module _ {S : State} {row : Needed} {kind : OpenKind} (g : IsGranted S row kind) where
  rights_same : bit_and (fits kind) g.d.base.0 ≡ g.d.base.0
  rights_same = eqb-true _ _ g.rights.0

  held_small : g.d.base.0 < 2 ^ 64
  held_small =
      let same = rights_same in
      let most = and_le_l (fits kind) g.d.base.0 in
      let small = fits_small kind in
      omega (arith, same, most, small)

  -- a right that the descriptor has is one of its open's type
  pub held_fits : (k : ℕ) → Has g.d.base.0 k → Has (fits kind) k
  held_fits k has = ((has-meet (fits kind) g.d.base.0 k).0 (subst (λ n. Has n k) (sym rights_same) has)).0

  -- a right that the row needs is one of the open's type, or the descriptor has those that stand in its place
  pub granted : (k : ℕ) → k < 64 → Has row.base.0 k → Has (fits kind) k ⊎ (has_instead g.d row ≡ true)
  granted k below needs =
      elim (has_instead g.d row) as (λ b. (cond b 0 (minus_of row.base.0 g.d.base.0) == 0) ≡ true → Has (fits kind) k ⊎ (b ≡ true)) [
        | true ↦ λ _. inr refl
        | false ↦ λ none. inl (held_fits k (lacks_none row.base.0 g.d.base.0 k held_small below (eqb-true _ _ none) needs))
      ] (first_holds ((lack_base g.d row).0 == 0) ((lack_inheriting g.d row).0 == 0) g.has)

  -- where no rights may stand in its place it is one of the open's type
  pub granted_base : (k : ℕ) → k < 64 → row.instead.0 ≡ 0 → Has row.base.0 k → Has (fits kind) k
  granted_base k below alone needs =
      elim (granted k below needs) [
        | inl fits ↦ fits
        | inr instead ↦ absurd (not_true (sym (ap (λ n. not (n == 0)) alone)
            ∙ first_holds (not (row.instead.0 == 0)) (has_all g.d.base.0 row.instead.0) instead))
      ]

-- ---- what an open may be

-- the open of a valid state is a file, a directory, an end of channels, a standard stream or a process
pub by_kind : (S : State) (P : OpenKind → Type 0) → ((node offset flags : ℕ) → is_file (tree_of S) node ≡ true → P (File node offset flags))
    → ((node flags : ℕ) → is_directory (tree_of S) node ≡ true → P (Directory node flags))
    → ((reads writes : Option ℕ) (flags : ℕ) (form : ChanKind) → HasBehind S (End reads writes flags form) → P (End reads writes flags form))
    → ((which flags : ℕ) → IsSome (get S.terms which) → P (Terminal which flags)) → ((p object : ℕ) → P (Process p object)) → (kind : OpenKind)
    → HasBehind S kind → P kind
by_kind S P file directory end stream process (File node offset flags) behind = file node offset flags behind
by_kind S P file directory end stream process (Directory node flags) behind = directory node flags behind
by_kind S P file directory end stream process (End reads writes flags form) behind = end reads writes flags form behind
by_kind S P file directory end stream process (Terminal which flags) behind = stream which flags behind.0
by_kind S P file directory end stream process (Process p object) behind = process p object

-- no standard stream has the right
pub no_stream : (which k : ℕ) → bit_at (stream_rights 0) k ≡ 0 → bit_at (stream_rights 1) k ≡ 0 → Has (stream_rights which) k → ⊥
no_stream which k read written =
    elim (which == 0) as (λ b. bit_at (cond b (stream_rights 0) (stream_rights 1)) k ≡ 1 → ⊥) [
      | true ↦ zero_or_one (bit_at (stream_rights 0) k) read
      | false ↦ zero_or_one (bit_at (stream_rights 1) k) written
    ]

-- no end of channels has the right
pub no_end : (reads writes : Option ℕ) (k : ℕ) → bit_at (rights_of type.Reading) k ≡ 0 → bit_at (rights_of type.Writing) k ≡ 0
    → bit_at (rights_of type.Stream) k ≡ 0 → Has (rights_of (end_type reads writes)) k → ⊥
no_end (Some r) (Some w) k read written both = zero_or_one (bit_at (rights_of type.Stream) k) both
no_end (Some r) None k read written both = zero_or_one (bit_at (rights_of type.Reading) k) read
no_end None writes k read written both = zero_or_one (bit_at (rights_of type.Writing) k) written

-- neither a standard stream, nor a process, nor an end of channels has the right
abbrev pub IsOfNodes : ℕ → Type 0
IsOfNodes k =
    (k < 64) × (bit_at (stream_rights 0) k ≡ 0) × (bit_at (stream_rights 1) k ≡ 0) × (bit_at (rights_of type.Process) k ≡ 0)
    × (bit_at (rights_of type.Stream) k ≡ 0)

-- a right that files alone have
abbrev pub IsOfFiles : ℕ → Type 0
IsOfFiles k = IsOfNodes k × (bit_at (rights_of type.Directory) k ≡ 0)

-- a right that directories alone have
abbrev pub IsOfDirectories : ℕ → Type 0
IsOfDirectories k = IsOfNodes k × (bit_at (rights_of type.File) k ≡ 0)

module _ (S : State) (P : OpenKind → Type 0) (k : ℕ) where
  -- an open with a right of files alone is a file
  pub file_alone : IsOfFiles k → ((node offset flags : ℕ) → is_file (tree_of S) node ≡ true → P (File node offset flags))
      → (kind : OpenKind) → HasBehind S kind → Has (fits kind) k → P kind
  file_alone of file =
      by_kind S (λ kind. Has (fits kind) k → P kind) (λ node offset flags there _. file node offset flags there)
      (λ node flags _ has. absurd (zero_or_one (bit_at (rights_of type.Directory) k) of.1 has))
      (λ reads writes flags form _ has. absurd (no_end reads writes k of.0.1 of.0.2 of.0.4 has))
      (λ which flags _ has. absurd (no_stream which k of.0.1 of.0.2 has)) (λ p object has. absurd (zero_or_one (bit_at (rights_of type.Process) k) of.0.3 has))

  -- and one with a right of directories alone is a directory
  directory_alone : IsOfDirectories k → ((node flags : ℕ) → is_directory (tree_of S) node ≡ true → P (Directory node flags))
      → (kind : OpenKind) → HasBehind S kind → Has (fits kind) k → P kind
  directory_alone of directory =
      by_kind S (λ kind. Has (fits kind) k → P kind)
      (λ node offset flags _ has. absurd (zero_or_one (bit_at (rights_of type.File) k) of.1 has))
      (λ node flags there _. directory node flags there) (λ reads writes flags form _ has. absurd (no_end reads writes k of.0.1 of.0.2 of.0.4 has))
      (λ which flags _ has. absurd (no_stream which k of.0.1 of.0.2 has))
      (λ p object has. absurd (zero_or_one (bit_at (rights_of type.Process) k) of.0.3 has))

  module _ (row : Needed) (alone : row.instead.0 ≡ 0) (needs : Has row.base.0 k) where
    -- the open of a descriptor, where a right of files alone is needed of it
    pub at_file : IsOfFiles k → ((node offset flags : ℕ) → is_file (tree_of S) node ≡ true → P (File node offset flags))
        → (kind : OpenKind) → IsGranted S row kind → P kind
    at_file of file kind g = file_alone of file kind g.behind (granted_base g k of.0.0 alone needs)

    -- and where a right of directories alone is needed of it
    pub at_directory : IsOfDirectories k → ((node flags : ℕ) → is_directory (tree_of S) node ≡ true → P (Directory node flags))
        → (kind : OpenKind) → IsGranted S row kind → P kind
    at_directory of directory kind g = directory_alone of directory kind g.behind (granted_base g k of.0.0 alone needs)

-- ---- the open behind a descriptor

named_open : (d : Descriptor) (o : Option OpenKind) → IsNamed o d → (kind : OpenKind) × (o ≡ Some kind) × HasRightsOf d kind
named_open d None named = absurd named
named_open d (Some kind) named = (kind, refl, named)

module _ (S : State) (nearly : IsNearlyValid S) where
  -- a descriptor's open is there
  pub open_there : (p n : ℕ) (table : Table) (d : Descriptor) → get S.tables p ≡ Some table → get table n ≡ Some d
      → (kind : OpenKind) × (get S.opens d.id ≡ Some kind) × HasRightsOf d kind
  open_there p n table d own there = named_open d (get S.opens d.id) (nearly.named p n table d own there)

  -- the open behind a row that is met
  pub row_granted : (p : ℕ) (table : Table) (row : Needed) → get S.tables p ≡ Some table → IsMet table row
      → (kind : OpenKind) × (open_of (whole (tick S)) (get table row.fd) ≡ Some kind) × IsGranted S row kind
  row_granted p table row own met =
      let found = open_there p row.fd table met.0 own met.1 in (
        found.0,
        ap (open_of (whole (tick S))) met.1 ∙ found.1,
        record { d = met.0; rights = found.2; has = met.2; behind = nearly.behind met.0.id found.0 found.1 },
      )

  -- ---- calls on opens

  pub on_open_found : (Q : Type 0) (row : Needed) (m : FileMeaning)
      → ((now : ℕ) (kind : OpenKind) → IsGranted S row kind → OnlyWhere Q (m.effect now (tree_of S) (Some kind))) → NeverBadf Q S (on_open row m)
  on_open_found Q row m each constants who table own all met =
      let found = row_granted who.pid table row own met.0 in
      let now = real_time constants (tick S).clock in
      subst (λ o. OnlyWhere Q (m.effect now (tree_of S) o)) (sym found.1) (each now found.0 found.2)

  pub by_open_found : (Q : Type 0) (row : Needed) (m : OpenMeaning)
      → ((now o : ℕ) (kind : OpenKind) → IsGranted S row kind → OnlyWhere Q (m.effect now (whole (tick S)) o (Some kind))) → NeverBadf Q S (by_open row m)
  by_open_found Q row m each constants who table own all met =
      let d = met.0.0 in
      let found = open_there who.pid row.fd table d own met.0.1 in
      let effect = m.effect (real_time constants (tick S).clock) (whole (tick S)) in
      subst (λ o. OnlyWhere Q (at_descriptor effect (whole (tick S)) o)) (sym met.0.1)
      (subst (λ o. OnlyWhere Q (effect d.id o)) (sym found.1)
      (each (real_time constants (tick S).clock) d.id found.0
      (record { d = d; rights = found.2; has = met.0.2; behind = nearly.behind d.id found.0 found.1 })))

  named_found : (p : ℕ) (own : Option ProcessState) (new_nodes : ℕ) (c : NameOutcome) → NamesOther c → OnlyWhere ⊥ (outcome_of p own new_nodes c)
  named_found p own new_nodes (Refuses errno) other = other
  named_found p own new_nodes (LeadsOut component) other = λ e. cc
  named_found p own new_nodes (Changes c) other =
      either (OnlyWhere ⊥) (can_number p new_nodes own) _ _ (λ e. cc) (λ e. cc)

  pub by_name_found : (row : Needed) (m : NameMeaning)
      → ((now new : ℕ) (kind : OpenKind) → IsGranted S row kind → NamesOther (m.effect now new (tree_of S) (Some kind) None)) → NeverBadf ⊥ S (by_name row m)
  by_name_found row m each constants who table own all met =
      let found = row_granted who.pid table row own met.0 in
      let now = real_time constants (tick S).clock in
      let new = next_object who.pid (get S.processes who.pid) 1 in
      named_found who.pid (get S.processes who.pid) m.new_nodes _
      (subst (λ o. NamesOther (m.effect now new (tree_of S) o None)) (sym found.1) (each now new found.0 found.2))

  pub by_names_found : (first second : Needed) (m : NameMeaning)
      → ((now new : ℕ) (here there : OpenKind) → IsGranted S first here → IsGranted S second there
      → NamesOther (m.effect now new (tree_of S) (Some here) (Some there)))
      → NeverBadf ⊥ S (by_names first second m)
  by_names_found first second m each constants who table own all met =
      let here = row_granted who.pid table first own met.0 in
      let there = row_granted who.pid table second own met.1.0 in
      let now = real_time constants (tick S).clock in
      let new = next_object who.pid (get S.processes who.pid) 1 in
      named_found who.pid (get S.processes who.pid) m.new_nodes _
      (subst (λ o. NamesOther (m.effect now new (tree_of S) o (open_of (whole (tick S)) (get table second.fd)))) (sym here.1)
      (subst (λ o. NamesOther (m.effect now new (tree_of S) (Some here.0) o)) (sym there.1) (each now new here.0 there.0 here.2 there.2)))
