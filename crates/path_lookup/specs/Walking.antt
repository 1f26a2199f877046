-- What the code's values are: a walk that stands somewhere, and what comes of a component.
use Rattle.std.specs.Prelude.{◌≤◌, ℕ, ◌+◌, List, reverse}
use Rattle.arrayvec.specs.ArrayVec.{array_vec_len}
use Rattle.path_lookup.specs.Reading.{AreFrames, coming}
use Rattle.path_lookup.specs.Split.{Component}
use Rattle.path_lookup.specs.Walk.{WalkEnd, Onward}
use Rattle.path_lookup.specs.declared.walker.Turn.{Turn}
use Rattle.path_lookup.specs.declared.walker.Turn.TheVariants.{On, Done}
use Rattle.path_lookup.specs.declared.walker.Walker.{Walker}

-- the components that are left
abbrev pub left_of : Walker → List Component
left_of w = coming (reverse w.frames.items)

-- the directories above the one where the walk stands, nearest first
abbrev pub parents_of : Walker → List ℕ
parents_of w = reverse w.above.items

-- There is room for the texts of all symlinks that may still be followed.
pub record IsReady (w : Walker) : Type 0 where
  pub frames : AreFrames (reverse w.frames.items)
  pub room : array_vec_len w.frames + w.links ≤ 33

-- how the walk ends, if it goes on so
abbrev pub led : Onward → Turn → Walker → WalkEnd
led go On w = go w.links w.top (parents_of w) (left_of w)
led go (Done end) w = end
