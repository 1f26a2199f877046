use Rattle.std.proofs.Common.{◌≡◌, ◌∷◌, ℕ, Bool, true, false, cond, eqb, List, [], length, reverse, refl, ap, sym, subst, ◌∙◌}
use Rattle.path_lookup.proofs.Below.{stays_below}
use Rattle.path_lookup.proofs.Places.{ends_at_place}
use Rattle.path_lookup.specs.Laws.{EndsIn, EndsAtPlace}
use Rattle.path_lookup.specs.Split.{Component, is_absolute, path_components}
use Rattle.path_lookup.specs.Walk.{WalkEnd, Finds, walk_of, walk_components, walk_within, most_components, most_links}
use Rattle.path_lookup.specs.Walking.{left_of}
use Rattle.path_lookup.specs.declared.ends.WalkMode.{WalkMode}
use Rattle.path_lookup.proofs.lookup.walk.Goals as goal

by_test : (t : Bool) (v w : WalkEnd) → t ≡ false → cond t v w ≡ w
by_test true v w h = cc
by_test false v w h = refl

-- the walk of a path of some bytes, the first of which is no slash
walked : (find : Finds) (mode : WalkMode) (start : ℕ) (path : List ℕ) → eqb (length path) 0 ≡ false → is_absolute path ≡ false
    → walk_components find mode start (path_components path) ≡ walk_of find mode start path
walked find mode start [] some h = cc
walked find mode start (b ∷ rest) some h = sym (by_test (is_absolute (b ∷ rest)) _ (walk_components find mode start (path_components (b ∷ rest))) h)

-- a walk that begins at its start
begun : (find : Finds) (mode : WalkMode) (start links top : ℕ) (above : List ℕ) (left components : List Component) → above ≡ [] → top ≡ start → links ≡ most_links
    → left ≡ components
    → walk_within find mode most_components links top (reverse above) left ≡ walk_components find mode start components
begun find mode start links top above left components ha ht hl hc = let e : reverse above ≡ [] = ap reverse ha in cc

-- so what such a walk gives is what the walk of its path gives
is_walk : (find : Finds) (mode : WalkMode) (start : ℕ) (path : List ℕ) (links top : ℕ) (above : List ℕ) (left : List Component) (given : WalkEnd)
    → given ≡ walk_within find mode most_components links top (reverse above) left → above ≡ [] → top ≡ start → links ≡ most_links → left ≡ path_components path
    → eqb (length path) 0 ≡ false → is_absolute path ≡ false → given ≡ walk_of find mode start path
is_walk find mode start path links top above left given hg ha ht hl hc some relative =
    hg ∙ begun find mode start links top above left (path_components path) ha ht hl hc ∙ walked find mode start path some relative

pub returns-clause-below : goal.returns-clause-below
returns-clause-below g c =
    let find = g.D.Dirs.finds c.args.dirs.now in
    let path = c.args.path.now in
    let w = c.new.result in
    let made = c.new.ensures in
    let same : c.walk_on.result ≡ walk_of find c.args.mode c.args.start path =
    is_walk find c.args.mode c.args.start path w.links w.top w.above.items (left_of w) c.walk_on.result c.walk_on.ensures made.above made.top made.links made.left
    (sym c.is_empty.ensures ∙ c.if-is_empty.false) (sym c.is_absolute.ensures ∙ c.if-is_absolute.false) in
    λ inside closed h. subst (EndsIn inside) (sym same) (stays_below find c.args.mode c.args.start path inside closed h)

pub returns-clause-place : goal.returns-clause-place
returns-clause-place g c =
    let find = g.D.Dirs.finds c.args.dirs.now in
    let path = c.args.path.now in
    let w = c.new.result in
    let made = c.new.ensures in
    let same : c.walk_on.result ≡ walk_of find c.args.mode c.args.start path =
    is_walk find c.args.mode c.args.start path w.links w.top w.above.items (left_of w) c.walk_on.result c.walk_on.ensures made.above made.top made.links made.left
    (sym c.is_empty.ensures ∙ c.if-is_empty.false) (sym c.is_absolute.ensures ∙ c.if-is_absolute.false) in
    subst (EndsAtPlace path) (sym same) (ends_at_place find c.args.mode c.args.start path)
