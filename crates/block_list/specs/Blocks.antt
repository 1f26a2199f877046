-- The blocks that the values of a list stand in.
use Rattle.std.specs.Prelude.{◌≡◌, ℕ, ◌+◌, ◌-◌, ◌*◌, ◌^◌, ◌<◌, ◌++◌, All, vec_len, vec_capacity}
use Rattle.std.specs.List.{flat_map}
use Rattle.std.specs.Global.{Vec}
use Rattle.block_list.specs.Contents.{Contents}

-- how many places a block has
abbrev pub places : ℕ
places = 1024

-- the values of the full blocks and of the last one
abbrev pub contents_of : {T : Type 0} → Vec (Vec T) → Vec T → Contents T
contents_of full last = record { items = flat_map (λ block. block.items) full.items ++ last.items; room = vec_capacity last - vec_len last }

-- Each block has its places, the full ones have a value in each, and all of them can be counted.
pub record AreBlocks {T : Type 0} (full : Vec (Vec T)) (last : Vec T) : Type 0 where
  pub full_ones : All (λ block. vec_len block ≡ places) full.items
  pub last_one : 0 < vec_capacity last → vec_capacity last ≡ places
  pub few : vec_len full * places + places < 2 ^ 64
