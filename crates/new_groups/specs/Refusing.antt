-- Why a creation is refused.
use Rattle.std.specs.Prelude.{◌≡◌, ◌⊎◌, ⊤, ◌<◌, List, None, Result, Err}
use Rattle.asm_group.specs.Refusal as r
use Rattle.asm_world.specs.Settings.{Creation, with_creation_attribute}
use Rattle.asm_world.specs.Statement.{Attribute, NewFailgroup}
use Rattle.new_groups.specs.Planning.{disk_count}

-- the answer is this refusal, or there was no memory
abbrev pub IsRefusedAs : {A : Type 0} → Result A r.Refusal → r.Refusal → Type 0
IsRefusedAs answer refusal = (answer ≡ Err refusal) ⊎ (refusal ≡ r.NoMemory)

-- the creation can't have the attribute, which is named, or there was no memory
abbrev pub IsNotTaken : Creation → Attribute → r.Refusal → Type 0
IsNotTaken c a refusal = ((with_creation_attribute c a ≡ None) × (refusal ≡ r.BadAttribute a.name)) ⊎ (refusal ≡ r.NoMemory)

-- more disks are named than a group may have
abbrev pub IsTooMany : List NewFailgroup → r.Refusal → Type 0
IsTooMany groups (r.TooMany kind limit) = (kind ≡ r.Disks) × (limit ≡ 64) × (64 < disk_count groups)
IsTooMany groups r.NoMemory = ⊤
IsTooMany groups other = ⊥
