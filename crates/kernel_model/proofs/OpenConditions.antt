-- What file_open comes to where its path ends, by its conditions.
--     open_is_listed      what is opened is as listed, and nothing else is listed
use Rattle.std.proofs.Common.{◌≡◌, ◌⊎◌, ℕ, ◌*◌, ◌^◌, ◌==◌, ◌&&◌, ◌||◌, not, Bool, true, false, cond, List, [], ◌∷◌, Option, Some, None, inl, inr, refl, sym, ap, subst, ◌∙◌, arith}
use Rattle.std.proofs.lemmas.Bool.Decides.{eqb_tells}
use Rattle.std.proofs.lemmas.Nat.{pow_pos}
use Rattle.std.proofs.lemmas.Nat.Bits.{and_pow, bit_at-lt}
use Rattle.std.specs.FinMap.{get}
use Rattle.std.specs.Int.{bit_at}
use Rattle.std.specs.Int.RustNames.{bit_and}
use Rattle.abi_base.specs.Rights.{Has}
use Rattle.abi_base.specs.declared.errno.Errno.TheVariants.{Exist, Isdir, Noent, Notdir}
use Rattle.abi_types.specs.declared.node.Node.{Node}
use Rattle.abi_types.specs.declared.node.NodeKind.{NodeKind}
use Rattle.abi_types.specs.declared.node.NodeKind.TheVariants as kind
use Rattle.abi_types.specs.declared.open_kind.OpenKind.TheVariants.{File, Directory}
use Rattle.path_lookup.specs.declared.ends.End.{End}
use Rattle.path_lookup.specs.declared.ends.End.TheVariants as end
use Rattle.tree_model.specs.Changes.{first_fault, make_faults}
use Rattle.tree_model.specs.declared.fault.TreeFault.{TreeFault}
use Rattle.kernel_model.specs.Families.FileChanges.{sized}
use Rattle.kernel_model.specs.Families.LastNames.{name_at}
use Rattle.kernel_model.specs.Families.Opening.{Opened, NotOpened, Opens, creates, makes_new, make_file, open_absent, open_end, open_kind, open_node, truncated, truncates, wants_directory}
use Rattle.kernel_model.specs.Families.TreeUpdates.{Change, no_change}
use Rattle.kernel_model.specs.OpenConditions.{AsksNew, ComesTo, HasCreat, HasDirectory, HasTrunc, IsOfKind, OpenIsListed, exists, symlink, directory_changed, file_for_directory, absent, not_made, directory_opened, file_opened, file_cut, file_made, missing, left}
use Rattle.kernel_model.specs.State.{Tree}

-- ---- flags

-- a test tells whether this holds
abbrev Tells : Type 0 → Bool → Type 0
Tells holds test = ((test ≡ true) × holds) ⊎ ((test ≡ false) × ¬ holds)

power_is_some : (k : ℕ) → not (1 * 2 ^ k == 0) ≡ true
power_is_some k =
    elim (eqb_tells (1 * 2 ^ k) 0) [
      | inl none ↦ absurd (omega (arith, pow_pos k, none.1))
      | inr some ↦ ap not some.0
    ]

by_bit : (flags k : ℕ) → bit_and flags (2 ^ k) ≡ bit_at flags k * 2 ^ k → (bit_at flags k ≡ 0) ⊎ (bit_at flags k ≡ 1)
    → Tells (Has flags k) (not (bit_and flags (2 ^ k) == 0))
by_bit flags k bit (inl none) =
    let product : bit_and flags (2 ^ k) ≡ 0 * 2 ^ k = bit ∙ ap (λ b. b * 2 ^ k) none in
    let zero : bit_and flags (2 ^ k) ≡ 0 = omega (arith, product) in
    inr (ap (λ b. not (b == 0)) zero, λ has. omega (arith, none, has))
by_bit flags k bit (inr one) = inl (ap (λ b. not (b == 0)) (bit ∙ ap (λ b. b * 2 ^ k) one) ∙ power_is_some k, one)

bit_is : (flags k : ℕ) → (bit_at flags k ≡ 0) ⊎ (bit_at flags k ≡ 1)
bit_is flags k =
    elim (eqb_tells (bit_at flags k) 0) [
      | inl none ↦ inl none.1
      | inr some ↦ inr (omega (arith, some.1, bit_at-lt flags k))
    ]

flag_tells : (flags k : ℕ) → Tells (Has flags k) (not (bit_and flags (2 ^ k) == 0))
flag_tells flags k = by_bit flags k (and_pow flags k) (bit_is flags k)

-- two tests that are both looked at
both_tell : {A B : Type 0} (a b : Bool) → Tells A a → Tells B b → Tells (A × B) (a && b)
both_tell a b (inl first) (inl second) = inl (ap (λ c. c && b) first.0 ∙ second.0, (first.1, second.1))
both_tell a b (inl first) (inr second) = inr (ap (λ c. c && b) first.0 ∙ second.0, λ both. second.1 both.1)
both_tell a b (inr first) other = inr (ap (λ c. c && b) first.0, λ both. first.1 both.0)

either_tells : {A B : Type 0} (a b : Bool) → Tells A a → Tells B b → Tells (A ⊎ B) (a || b)
either_tells a b (inl first) other = inl (ap (λ c. c || b) first.0, inl first.1)
either_tells a b (inr first) (inl second) = inl (ap (λ c. c || b) first.0 ∙ second.0, inr second.1)
either_tells a b (inr first) (inr second) = inr (ap (λ c. c || b) first.0 ∙ second.0, λ some. elim some [ inl x ↦ first.1 x | inr y ↦ second.1 y ])

-- what a test chooses, where it holds and where it does not
where_holds : {A : Type 0} {X : Type 0} (test : Bool) (x y : X) → Tells A test → A → x ≡ cond test x y
where_holds test x y (inl is) a = sym (ap (λ b. cond b x y) is.0)
where_holds test x y (inr isnt) a = absurd (isnt.1 a)

where_fails : {A : Type 0} {X : Type 0} (test : Bool) (x y : X) → Tells A test → (¬ A) → y ≡ cond test x y
where_fails test x y (inl is) not_a = absurd (not_a is.1)
where_fails test x y (inr isnt) not_a = sym (ap (λ b. cond b x y) isnt.0)

-- what holds of both branches, each with its condition, holds of what a test chooses
by_test : {A : Type 0} {X : Type 0} (P : X → Type 0) (test : Bool) (x y : X) → Tells A test → (A → P x) → ((¬ A) → P y) → P (cond test x y)
by_test P test x y (inl is) first second = subst (λ b. P (cond b x y)) (sym is.0) (first is.1)
by_test P test x y (inr isnt) first second = subst (λ b. P (cond b x y)) (sym isnt.0) (second isnt.1)

module _ (oflags : ℕ) where
  tells_creat : Tells (HasCreat oflags) (creates oflags)
  tells_creat = flag_tells oflags 0

  tells_directory : Tells (HasDirectory oflags) (wants_directory oflags)
  tells_directory = flag_tells oflags 1

  tells_trunc : Tells (HasTrunc oflags) (truncates oflags)
  tells_trunc = flag_tells oflags 3

  tells_new : Tells (AsksNew oflags) (makes_new oflags)
  tells_new = both_tell (creates oflags) (not (bit_and oflags 4 == 0)) tells_creat (flag_tells oflags 2)

  tells_changed : Tells (HasCreat oflags ⊎ HasTrunc oflags) (creates oflags || truncates oflags)
  tells_changed = either_tells (creates oflags) (truncates oflags) tells_creat tells_trunc

-- ---- what is opened is listed

module _ (oflags flags : ℕ) (path : List ℕ) (now new : ℕ) (t : Tree) where
  abbrev Comes : End → Opened → Type 0
  Comes end o = ComesTo oflags flags path now new t end o

  cut_comes : (n : ℕ) (bytes : List ℕ) → IsOfKind t n (kind.File bytes) → (¬ AsksNew oflags) → (¬ HasDirectory oflags)
      → Comes (end.Found n) (Opens (File n 0 flags) (truncated oflags now t n) 0)
  cut_comes n bytes is old plain =
      by_test (λ change. Comes (end.Found n) (Opens (File n 0 flags) change 0)) (truncates oflags)
      (record { tree = sized t n now 0; nodes = n ∷ []; directories = [] }) (no_change t) (tells_trunc oflags)
      (λ cut. file_cut n bytes is old plain cut) (λ whole. file_opened n bytes is old plain whole)

  kind_comes : (n : ℕ) (kind : NodeKind) → IsOfKind t n kind → (¬ AsksNew oflags) → Comes (end.Found n) (open_kind oflags flags now t n kind)
  kind_comes n (kind.File bytes) is old =
      by_test (Comes (end.Found n)) (wants_directory oflags) (NotOpened Notdir) (Opens (File n 0 flags) (truncated oflags now t n) 0)
      (tells_directory oflags) (λ asked. file_for_directory n bytes is old asked) (cut_comes n bytes is old)
  kind_comes n kind.Directory is old =
      by_test (Comes (end.Found n)) (creates oflags || truncates oflags) (NotOpened Isdir) (Opens (Directory n flags) (no_change t) 0)
      (tells_changed oflags) (λ changed. directory_changed n is old changed)
      (λ unchanged. directory_opened n is (λ creat. unchanged (inl creat)) (λ trunc. unchanged (inr trunc)))
  kind_comes n (kind.Link text) is old = symlink n text is old

  node_comes : (n : ℕ) (o : Option Node) → get t.nodes n ≡ o → Comes (end.Found n) (open_node oflags flags now t n o)
  node_comes n None there = missing n there
  node_comes n (Some node) there =
      by_test (Comes (end.Found n)) (makes_new oflags) (NotOpened Exist) (open_kind oflags flags now t n node.kind) (tells_new oflags)
      (λ asked. exists n node.kind (node, there, refl) asked) (λ old. kind_comes n node.kind (node, there, refl) old)

  made_comes : (d from len : ℕ) → HasCreat oflags → (fault : Option TreeFault) → first_fault (make_faults t d (name_at path from len)) ≡ fault
      → Comes (end.Absent d from len) (make_file flags now new t d (name_at path from len) fault)
  made_comes d from len creat None free = file_made d from len creat free
  made_comes d from len creat (Some fault) is = not_made d from len fault creat is

  end_comes : (end : End) → Comes end (open_end oflags flags path now new t end)
  end_comes (end.Found n) = node_comes n (get t.nodes n) refl
  end_comes (end.Absent d from len) =
      let fault = first_fault (make_faults t d (name_at path from len)) in
      by_test (Comes (end.Absent d from len)) (creates oflags) (make_file flags now new t d (name_at path from len) fault) (NotOpened Noent)
      (tells_creat oflags) (λ creat. made_comes d from len creat fault refl) (λ none. absent d from len none)
  end_comes (end.Last d from len) = left d from len

  -- ---- and nothing else

  is_kind : (n : ℕ) (kind : NodeKind) → IsOfKind t n kind → (¬ AsksNew oflags) → open_kind oflags flags now t n kind ≡ open_node oflags flags now t n (get t.nodes n)
  is_kind n kind is old =
      where_fails (makes_new oflags) (NotOpened Exist) (open_kind oflags flags now t n kind) (tells_new oflags) old
      ∙ ap (λ k. cond (makes_new oflags) (NotOpened Exist) (open_kind oflags flags now t n k)) (sym is.2)
      ∙ ap (open_node oflags flags now t n) (sym is.1)

  is_file : (n : ℕ) (bytes : List ℕ) (change : Change) → IsOfKind t n (kind.File bytes) → (¬ AsksNew oflags) → (¬ HasDirectory oflags)
      → change ≡ truncated oflags now t n → Opens (File n 0 flags) change 0 ≡ open_node oflags flags now t n (get t.nodes n)
  is_file n bytes change is old plain same =
      ap (λ c. Opens (File n 0 flags) c 0) same
      ∙ where_fails (wants_directory oflags) (NotOpened Notdir) (Opens (File n 0 flags) (truncated oflags now t n) 0) (tells_directory oflags) plain
      ∙ is_kind n (kind.File bytes) is old

  is_made : (d from len : ℕ) (fault : Option TreeFault) → HasCreat oflags → first_fault (make_faults t d (name_at path from len)) ≡ fault
      → make_file flags now new t d (name_at path from len) fault ≡ open_absent oflags flags now new t d (name_at path from len)
  is_made d from len fault creat is =
      ap (make_file flags now new t d (name_at path from len)) (sym is)
      ∙ where_holds (creates oflags) (make_file flags now new t d (name_at path from len) (first_fault (make_faults t d (name_at path from len)))) (NotOpened Noent)
      (tells_creat oflags) creat

  only : (end : End) (o : Opened) → Comes end o → o ≡ open_end oflags flags path now new t end
  only (end.Found n) o (exists k kind is asked) =
      where_holds (makes_new oflags) (NotOpened Exist) (open_kind oflags flags now t n is.0.kind) (tells_new oflags) asked
      ∙ ap (open_node oflags flags now t n) (sym is.1)
  only (end.Found n) o (symlink k text is old) = is_kind n (kind.Link text) is old
  only (end.Found n) o (directory_changed k is old changed) =
      where_holds (creates oflags || truncates oflags) (NotOpened Isdir) (Opens (Directory n flags) (no_change t) 0) (tells_changed oflags) changed
      ∙ is_kind n kind.Directory is old
  only (end.Found n) o (file_for_directory k bytes is old asked) =
      where_holds (wants_directory oflags) (NotOpened Notdir) (Opens (File n 0 flags) (truncated oflags now t n) 0) (tells_directory oflags) asked
      ∙ is_kind n (kind.File bytes) is old
  only (end.Absent d from len) o (absent d2 from2 len2 none) =
      where_fails (creates oflags) (make_file flags now new t d (name_at path from len) (first_fault (make_faults t d (name_at path from len)))) (NotOpened Noent)
      (tells_creat oflags) none
  only (end.Absent d from len) o (not_made d2 from2 len2 fault creat is) = is_made d from len (Some fault) creat is
  only (end.Found n) o (directory_opened k is uncreat untrunc) =
      where_fails (creates oflags || truncates oflags) (NotOpened Isdir) (Opens (Directory n flags) (no_change t) 0) (tells_changed oflags)
      (λ changed. elim changed [ inl creat ↦ uncreat creat | inr trunc ↦ untrunc trunc ])
      ∙ is_kind n kind.Directory is (λ asked. uncreat asked.0)
  only (end.Found n) o (file_opened k bytes is old plain whole) =
      is_file n bytes (no_change t) is old plain
      (where_fails (truncates oflags) (record { tree = sized t n now 0; nodes = n ∷ []; directories = [] }) (no_change t) (tells_trunc oflags) whole)
  only (end.Found n) o (file_cut k bytes is old plain cut) =
      is_file n bytes (record { tree = sized t n now 0; nodes = n ∷ []; directories = [] }) is old plain
      (where_holds (truncates oflags) (record { tree = sized t n now 0; nodes = n ∷ []; directories = [] }) (no_change t) (tells_trunc oflags) cut)
  only (end.Absent d from len) o (file_made d2 from2 len2 creat free) = is_made d from len None creat free
  only (end.Found n) o (missing k none) = ap (open_node oflags flags now t n) (sym none)
  only (end.Last d from len) o (left d2 from2 len2) = refl

pub open_is_listed : OpenIsListed
open_is_listed oflags flags path now new t end o =
    (only oflags flags path now new t end o, λ is. subst (ComesTo oflags flags path now new t end) (sym is) (end_comes oflags flags path now new t end))
