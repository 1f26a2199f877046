-- Plain scalars: where they begin and where they end. In a flow value more characters end them.
use Rattle.std.specs.Prelude.{ℕ, suc, ◌==◌, ◌&&◌, ◌||◌, not, if◌then◌else◌, Bool, true, List, [], ◌∷◌, codes}
use Rattle.launch_scalars.specs.declared.kind.YamlKind.{YamlKind}
use Rattle.launch_scalars.specs.declared.kind.YamlKind.TheVariants as kinds
use Rattle.launch_scalars.specs.Spaces.{is_one_of, begins_with, begins_with_one_of}

abbrev pub is_space_or_end : List ℕ → Bool
is_space_or_end [] = true
is_space_or_end (b ∷ bs) = b == 32

-- A colon before these bytes stands behind a key: before a space, at the line's end, in a flow value also before one of
-- its closing characters or a comma.
abbrev pub is_behind_key : Bool → List ℕ → Bool
is_behind_key in_flow rest = is_space_or_end rest || (in_flow && begins_with_one_of (codes ",]}") rest)

-- a plain scalar may begin with this byte, where those follow
abbrev pub begins_plain : Bool → ℕ → List ℕ → Bool
begins_plain in_flow b bs =
    if is_one_of (codes "-?") b then not (is_space_or_end bs)
    else if b == 58 then not (is_behind_key in_flow bs)
    else not (is_one_of (codes " ,[]{}#&*!|>'\"%@`") b)

-- what is wrong where a value begins with this byte and none may
abbrev pub wrong_beginning : ℕ → YamlKind
wrong_beginning b =
    if is_one_of (codes "&*") b then kinds.Anchor
    else if is_one_of (codes "|>") b then kinds.BlockScalar
    else kinds.Character

-- a plain scalar ends before this byte, where those follow
abbrev pub ends_plain : Bool → ℕ → List ℕ → Bool
ends_plain in_flow b bs =
    ((b == 32) && begins_with 35 bs) || ((b == 58) && is_behind_key in_flow bs) || (in_flow && is_one_of (codes ",[]{}") b)

-- how many bytes stand before the end of a plain scalar
abbrev pub plain_length : Bool → List ℕ → ℕ
plain_length in_flow [] = 0
plain_length in_flow (b ∷ bs) = if ends_plain in_flow b bs then 0 else suc (plain_length in_flow bs)
