-- Worlds in which each mounted group is alone under its id.
use Rattle.std.specs.Prelude.{◌≡◌, ◌≢◌, ⊤, ℕ, ◌<◌, true, false, List, [], ◌∷◌, ◌++◌, Some}
use Rattle.std.specs.FinMap as maps
use Rattle.asm_group.specs.Group.{Group}
use Rattle.asm_group.specs.Names.{Bytes}
use Rattle.asm_formats.specs.Among.{IsAmong}
use Rattle.asm_world.specs.Below.{Below}
use Rattle.asm_world.specs.Step.{HasMountedGroup, IsNewId, last_id}
use Rattle.asm_world.specs.World.{SessionEntry, World, has_mounted, is_mounted, mounted_entry, with_group, without_entry}
use Rattle.world_steps.specs.Steps.{torn_world}

-- no two mounted entries have one id
abbrev pub AreIdsApart : List SessionEntry → Type 0
AreIdsApart [] = ⊤
AreIdsApart (e ∷ entries) = ((f : SessionEntry) → IsAmong entries f → is_mounted e ≡ true → is_mounted f ≡ true → e.id ≢ f.id) × AreIdsApart entries

-- Each mounted entry has one group under its id, and no other mounted entry has that id. This is so in each run, but where ids run out:
-- then a creation may give an id that is taken.
pub record HasGroups (w : World) : Type 0 where
  pub one : (e : SessionEntry) → IsAmong w.session e → is_mounted e ≡ true → (g : Group) × (maps.get w.groups e.id ≡ Some (g ∷ []))
  pub apart : AreIdsApart w.session

-- the new group stands alone under the id, and is mounted last
abbrev pub with_created : World → ℕ → Group → World
with_created w id g = record (with_group w id g) { session = w.session ++ mounted_entry g.name id ∷ [] }

-- the group stands alone under the id, and is mounted last, in place of an entry of the name
abbrev pub with_mounted : World → Bytes → ℕ → Group → World
with_mounted w name id g = record (with_group w id g) { session = without_entry w.session name ++ mounted_entry g.name id ∷ [] }

-- What commands do to the world keeps this, a mount where its id isn't mounted.
pub record GroupsStayAlone : Type 0 where
  pub begins : (w : World) → w.session ≡ [] → HasGroups w
  pub created : (below : Below) (w : World) (id : ℕ) (g : Group) → IsNewId below w id → id < last_id → HasGroups w → HasGroups (with_created w id g)
  pub mounted : (w : World) (name : Bytes) (id : ℕ) (g : Group) → has_mounted w id ≡ false → HasGroups w → HasGroups (with_mounted w name id g)
  pub changed : (w : World) (id : ℕ) (g : Group) → HasGroups w → HasGroups (with_group w id g)
  pub torn : (w : World) (id : ℕ) (name : Bytes) (g h : Group) (disk : Bytes) → HasMountedGroup w name id g → HasGroups w → HasGroups (torn_world w id name g h disk)
  pub left : (w : World) (name : Bytes) → HasGroups w → HasGroups (record w { session = without_entry w.session name })
