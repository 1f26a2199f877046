-- What is known of a source's names, and what a read of one gives.
use Rattle.std.specs.Prelude.{ℕ, ◌≡◌, ◌+◌, ◌<◌, ◌≤◌, ◌^◌, ◌⊎◌, List, length, take, drop, ⊤}

-- what is known of a source's name: nothing, that the name is lacking, or its bytes
pub data InputContent : Type 0 where
  Unknown : InputContent
  Lacking : InputContent
  Content : List ℕ → InputContent

-- a count of faults rose in a call: it is greater, or it stands at 2^64 - 1, its last value
abbrev pub Rose : ℕ → ℕ → Type 0
Rose before after = (before < after) ⊎ (after + 1 ≡ 2 ^ 64)

-- the first so many bytes of a buffer may be the bytes from a place on: they are these, where the bytes are known, and a name
-- known to be lacking has none
abbrev pub IsReadAt : InputContent → ℕ → ℕ → List ℕ → Type 0
IsReadAt Unknown place count buffer = ⊤
IsReadAt Lacking place count buffer = ⊥
IsReadAt (Content bytes) place count buffer = take count buffer ≡ take count (drop place bytes)

-- no byte stands at a place or after it, where the bytes are known
abbrev pub EndsBy : InputContent → ℕ → Type 0
EndsBy Unknown place = ⊤
EndsBy Lacking place = ⊥
EndsBy (Content bytes) place = length bytes ≤ place

-- these may be all the bytes of a name: they are the known ones, and a name known to be lacking has none
abbrev pub IsWhole : InputContent → List ℕ → Type 0
IsWhole Unknown all = ⊤
IsWhole Lacking all = ⊥
IsWhole (Content bytes) all = all ≡ bytes

-- a name may have more than so many bytes: it has, where its bytes are known, and one known to be lacking has not
abbrev pub IsLongerThan : ℕ → InputContent → Type 0
IsLongerThan limit Unknown = ⊤
IsLongerThan limit Lacking = ⊥
IsLongerThan limit (Content bytes) = limit < length bytes
