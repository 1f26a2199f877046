-- That a tree has no cycle: what follows from it, and what keeps it.
--     below_rises      what is below a directory is at least as high
--     not_below_child      no directory is below a node that it has a name of
--     no_own_name      no directory has a name of itself
--     below_each_other      two that are below each other are one
--     no_cycle-fewer      where no name is new
--     no_cycle-drop_name      where a name goes
--     no_cycle-put_name      where a name of n comes into a directory that is not below n
use Rattle.std.proofs.Common.{◌≡◌, ℕ, ◌+◌, ◌<◌, ◌≤◌, true, false, cond, inl, inr, List, IsSome, refl, ap, ◌∙◌, arith}
use Rattle.std.specs.Prelude.{if◌then◌else◌}
use Rattle.std.specs.FinMap.{get}
use Rattle.maps.specs.Closure.{member}
use Rattle.tree_model.specs.Tree.{Tree, HasName, HasNoCycle, below}
use Rattle.tree_model.specs.Changes.{put_name, drop_name}
use Rattle.tree_model.specs.Entries.{HasName-put_name, HasName-drop_name}
use Rattle.tree_model.specs.Below.{below_self, below_closed, below_cases, below_induction}

-- ---- what follows

-- what is below a directory is at least as high
pub below_rises : (t : Tree) (h : HasNoCycle t) (a q : ℕ) → member q (below t a) ≡ true → h.height a ≤ h.height q
below_rises t h a =
    below_induction t a (λ q. h.height a ≤ h.height q) (omega arith)
    (λ d name n _ low e _. let rise = h.rises d name n e in omega arith)

-- no directory is below a node that it has a name of
pub not_below_child : (t : Tree) → HasNoCycle t → (d : ℕ) (name : List ℕ) (n : ℕ) → HasName t d name n → member d (below t n) ≡ false
not_below_child t h d name n e =
    elim (member d (below t n)) as (λ b. member d (below t n) ≡ b → b ≡ false) [
      | true ↦ λ under. let up = below_rises t h n d under in let rise = h.rises d name n e in absurd (omega arith)
      | false ↦ λ _. refl
    ] refl

-- no directory has a name of itself
pub no_own_name : (t : Tree) → HasNoCycle t → (d : ℕ) (name : List ℕ) → HasName t d name d → ⊥
no_own_name t h d name e = let rise = h.rises d name d e in omega arith

-- two that are below each other are one
pub below_each_other : (t : Tree) → HasNoCycle t → (a b : ℕ) → member b (below t a) ≡ true → member a (below t b) ≡ true → b ≡ a
below_each_other t h a b under over =
    elim (below_cases t a b under) [
      | inl same ↦ same
      | inr last ↦
          let up = below_rises t h a last.0 last.2 in
          let rise = h.rises last.0 last.1 b last.3 in
          let back = below_rises t h b a over in
          absurd (omega arith)
    ]

-- ---- what keeps it

-- where no name is new
pub no_cycle-fewer : (t u : Tree) → ((d : ℕ) (name : List ℕ) (n : ℕ) → HasName u d name n → HasName t d name n) → HasNoCycle t → HasNoCycle u
no_cycle-fewer t u old h = record { height = h.height; rises = λ d name n e. h.rises d name n (old d name n e) }

-- where a name goes
pub no_cycle-drop_name : (t : Tree) (d : ℕ) (name : List ℕ) → HasNoCycle t → HasNoCycle (drop_name t d name)
no_cycle-drop_name t d name = no_cycle-fewer t (drop_name t d name) (λ q other m e. (HasName-drop_name t d name q other m e).1)

-- what is below n stands higher by more than the height of d
abbrev pub raised : Tree → (ℕ → ℕ) → ℕ → ℕ → ℕ → ℕ
raised t height d n q = if member q (below t n) then height q + (height d + 1) else height q

raised_within : (t : Tree) (height : ℕ → ℕ) (d n q : ℕ) → member q (below t n) ≡ true → raised t height d n q ≡ height q + (height d + 1)
raised_within t height d n q e = ap (λ b. cond b (height q + (height d + 1)) (height q)) e

raised_outside : (t : Tree) (height : ℕ → ℕ) (d n q : ℕ) → member q (below t n) ≡ false → raised t height d n q ≡ height q
raised_outside t height d n q e = ap (λ b. cond b (height q + (height d + 1)) (height q)) e

raised_at_least : (t : Tree) (height : ℕ → ℕ) (d n q : ℕ) → height q ≤ raised t height d n q
raised_at_least t height d n q =
    elim (member q (below t n)) as (λ b. height q ≤ cond b (height q + (height d + 1)) (height q)) [ true ↦ omega arith | false ↦ omega arith ]

-- Where a name of n comes into a directory that is not below n, whatever had the name before. The node of each name is there
pub no_cycle-put_name : (t : Tree) (d : ℕ) (name : List ℕ) (n : ℕ)
    → ((q : ℕ) (other : List ℕ) (m : ℕ) → HasName t q other m → IsSome (get t.nodes m))
    → HasNoCycle t → member d (below t n) ≡ false → HasNoCycle (put_name t d name n)
no_cycle-put_name t d name n led h apart = record {
  height = raised t h.height d n;
  rises = λ q other m e. elim (HasName-put_name t d name n q other m e) [
    | inl new ↦
        let low : raised t h.height d n q ≡ h.height d = ap (raised t h.height d n) new.0 ∙ raised_outside t h.height d n d apart in
        let high : raised t h.height d n m ≡ h.height n + (h.height d + 1) = ap (raised t h.height d n) new.2 ∙ raised_within t h.height d n n (below_self t n) in
        omega arith
    | inr before ↦
        let old = before.1 in
        let rise = h.rises q other m old in
        elim (member q (below t n)) as (λ b. member q (below t n) ≡ b → raised t h.height d n q < raised t h.height d n m) [
          | true ↦ λ under.
              let low = raised_within t h.height d n q under in
              let high = raised_within t h.height d n m (below_closed t n q other m under old (led q other m old)) in
              omega arith
          | false ↦ λ beside.
              let low = raised_outside t h.height d n q beside in
              let high = raised_at_least t h.height d n m in
              omega arith
        ] refl
  ];
}
