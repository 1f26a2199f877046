-- Tags.
use Rattle.std.specs.Prelude.{ℕ, suc, ◌==◌, ◌&&◌, ◌||◌, not, if◌then◌else◌, nat_eq, Bool, List, [], ◌∷◌, length, take, drop, codes, Result, Ok}
use lib.Pointwise.{pointwise}
use Rattle.launch_scalars.specs.declared.kind.YamlKind.TheVariants as kinds
use Rattle.launch_scalars.specs.declared.fault.LineFault.{LineFault}
use Rattle.launch_scalars.specs.Results.{fault}
use Rattle.launch_scalars.specs.Spaces.{is_one_of}
use Rattle.launch_scalars.specs.Scalars.{unless_bad}

-- a tag: with a name, or `!!binary`
pub data Tag : Type 0 where
  named : List ℕ → Tag
  bytes_in_base64 : Tag

-- the name of a tag ends before this byte
abbrev pub ends_name : Bool → ℕ → Bool
ends_name in_flow b = (b == 32) || (in_flow && is_one_of (codes ",[]{}") b)

-- how many bytes the name of a tag has
abbrev pub name_length : Bool → List ℕ → ℕ
name_length in_flow [] = 0
name_length in_flow (b ∷ bs) = if ends_name in_flow b then 0 else suc (name_length in_flow bs)

-- a name isn't empty and has no `!`
abbrev pub is_name : List ℕ → Bool
is_name name = not (length name == 0) && not (is_one_of name 33)

abbrev pub is_binary : List ℕ → Bool
is_binary name = pointwise nat_eq name (codes "!binary")

-- the tag whose name has so many bytes, and what stands behind it
abbrev pub tag_with : ℕ → List ℕ → Result (Tag × List ℕ) LineFault
tag_with count bytes =
    if is_binary (take count bytes) then Ok (bytes_in_base64, drop count bytes)
    else if is_name (take count bytes) then unless_bad count bytes (Ok (named (take count bytes), drop count bytes))
    else fault (suc (length bytes)) kinds.Tag

-- the tag behind a `!`, and what stands behind it
unfoldable pub tag_at : Bool → List ℕ → Result (Tag × List ℕ) LineFault
tag_at in_flow bytes = tag_with (name_length in_flow bytes) bytes
