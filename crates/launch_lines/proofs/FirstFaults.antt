-- The first fault of lines: that of the first line, if it has one.
use Rattle.std.specs.Prelude.{ℕ, suc, ◌≡◌, ◌+◌, ◌<◌, ◌≤◌, true, false, List, [], ◌∷◌, Option, Some, None, refl}
use Rattle.std.proofs.Common.{sym, ◌∙◌, ap, add-one, arith}
use Rattle.std.proofs.lemmas.Bool.{le-ltb, lt-ltb, ne_eqb}
use Rattle.launch_scalars.specs.declared.kind.YamlKind.{YamlKind}
use Rattle.launch_scalars.specs.declared.kind.YamlKind.TheVariants as kinds
use Rattle.launch_scalars.specs.Characters.{bad_at}
use Rattle.launch_lines.specs.declared.fault.Fault.{Fault}
use Rattle.launch_lines.specs.Faults.{comes_before, first_of, first_fault}
use Rattle.launch_lines.specs.Lines.{tab_at, or_further, first_line, plain_fault_in, plain_faults_from}

-- of two faults the one on the earlier line
pub not_before : (a b : Fault) → a.line < b.line → comes_before b a ≡ false
not_before a b h = rw (le-ltb b.line a.line (omega (arith, h)), ne_eqb b.line a.line (λ e. omega (arith, e, h)))

pub before : (a b : Fault) → a.line < b.line → comes_before a b ≡ true
before a b h = rw (lt-ltb a.line b.line h)

pub earlier_first : (a b : Fault) → a.line < b.line → first_of a b ≡ a
earlier_first a b h = rw (not_before a b h)

pub earlier_second : (a b : Fault) → b.line < a.line → first_of a b ≡ b
earlier_second a b h = rw (before b a h)

-- a fault, if there is one, is on a line from this one on
abbrev pub IsFrom : ℕ → Option Fault → Type 0
IsFrom n None = Unit {0}
IsFrom n (Some f) = n ≤ f.line

is_from_next : (n : ℕ) (f : Option Fault) → IsFrom (suc n) f → IsFrom n f
is_from_next n None h = tt
is_from_next n (Some f) h = omega (arith, h)

pub first_line_from : (find : List ℕ → Option ℕ) (kind : YamlKind) (n : ℕ) (ls : List (List ℕ)) → IsFrom n (first_line find kind n ls)
first_line_from find kind n [] = tt
first_line_from find kind n (l ∷ ls) = at (find l) (first_line_from find kind (suc n) ls) where
  at : (place : Option ℕ) → IsFrom (suc n) (first_line find kind (suc n) ls) → IsFrom n (or_further n kind (first_line find kind (suc n) ls) place)
  at None further = is_from_next n (first_line find kind (suc n) ls) further
  at (Some column) further = omega arith

-- a fault of a line comes before those of later lines
with_later : (n : ℕ) (a f : Fault) (later : Option Fault) → a.line ≡ n → IsFrom (suc n) later → Some a ≡ Some f → first_fault (Some a) later ≡ Some f
with_later n a f None line from is = is
with_later n a f (Some b) line from is = ap (λ (x : Fault). Some x) (earlier_first a b (omega (arith, line, from))) ∙ is

later_with : (n : ℕ) (b f : Fault) (later : Option Fault) → b.line ≡ n → IsFrom (suc n) later → Some b ≡ Some f → first_fault later (Some b) ≡ Some f
later_with n b f None line from is = is
later_with n b f (Some a) line from is = ap (λ (x : Fault). Some x) (earlier_second a b (omega (arith, line, from))) ∙ is

found : (n : ℕ) (f : Fault) (kind other : YamlKind) (a b : Option Fault) (i j : Option ℕ) → IsFrom (suc n) a → IsFrom (suc n) b
    → first_fault (or_further n kind None i) (or_further n other None j) ≡ Some f
    → first_fault (or_further n kind a i) (or_further n other b j) ≡ Some f
found n f kind other a b None None from_a from_b is = absurd (cc)
found n f kind other a b (Some i) None from_a from_b is = with_later n (record { line = n; column = i; kind = kind }) f b refl from_b is
found n f kind other a b None (Some j) from_a from_b is = later_with n (record { line = n; column = j; kind = other }) f a refl from_a is
found n f kind other a b (Some i) (Some j) from_a from_b is = is

pub fault_here : (n : ℕ) (l : List ℕ) (ls : List (List ℕ)) (f : Fault) → plain_fault_in n l ≡ Some f → plain_faults_from n (l ∷ ls) ≡ Some f
fault_here n l ls f is =
    found n f kinds.Character kinds.Tab (first_line bad_at kinds.Character (suc n) ls) (first_line tab_at kinds.Tab (suc n) ls) (bad_at l) (tab_at l)
    (first_line_from bad_at kinds.Character (suc n) ls) (first_line_from tab_at kinds.Tab (suc n) ls) is

missing : (n : ℕ) (kind other : YamlKind) (a b : Option Fault) (i j : Option ℕ)
    → first_fault (or_further n kind None i) (or_further n other None j) ≡ None
    → first_fault (or_further n kind a i) (or_further n other b j) ≡ first_fault a b
missing n kind other a b None None is = refl
missing n kind other a b (Some i) None is = absurd (cc)
missing n kind other a b None (Some j) is = absurd (cc)
missing n kind other a b (Some i) (Some j) is = absurd (cc)

pub none_here : (n : ℕ) (l : List ℕ) (ls : List (List ℕ)) → plain_fault_in n l ≡ None → plain_faults_from n (l ∷ ls) ≡ plain_faults_from (n + 1) ls
none_here n l ls is =
    missing n kinds.Character kinds.Tab (first_line bad_at kinds.Character (suc n) ls) (first_line tab_at kinds.Tab (suc n) ls) (bad_at l) (tab_at l) is
    ∙ ap (λ k. plain_faults_from k ls) (sym (add-one n))

-- as the loop has them: the lines are a line and those behind it
pub answered : (n : ℕ) (l : List ℕ) (ls all more : List (List ℕ)) (f : Fault) → plain_faults_from n ls ≡ plain_faults_from 1 all → ls ≡ l ∷ more
    → Some f ≡ plain_fault_in n l → Some f ≡ plain_faults_from 1 all
answered n l ls all more f same is here = sym (sym same ∙ ap (plain_faults_from n) is ∙ fault_here n l more f (sym here))

pub goes_on : (n : ℕ) (l : List ℕ) (ls all more : List (List ℕ)) → plain_faults_from n ls ≡ plain_faults_from 1 all → ls ≡ l ∷ more
    → None ≡ plain_fault_in n l → plain_faults_from (n + 1) more ≡ plain_faults_from 1 all
goes_on n l ls all more same is here = sym (none_here n l more (sym here)) ∙ ap (plain_faults_from n) (sym is) ∙ same
