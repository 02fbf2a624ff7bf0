-- When a record may be written on the disks of a group.
use Rattle.std.specs.Prelude.{◌≡◌, ℕ, ◌+◌, ◌<◌, ◌≤◌, ◌^◌, false, List, [], ◌∷◌, Some, IsTrue}
use Rattle.bay.specs.Image.{Image}
use Rattle.bay.specs.State.{BayState}
use Rattle.bay.specs.Moments.{NowOnly}
use Rattle.asm_group.specs.Group.{Group}
use Rattle.asm_formats.specs.Content.{Content}
use Rattle.asm_formats.specs.Items.{Item}
use Rattle.asm_formats.specs.Status.{Entry, Status}
use Rattle.asm_formats.specs.Among.{IsAmong}
use Rattle.asm_images.specs.Bridge.{disks_in}
use Rattle.asm_images.specs.Describing.{DescribesGroup}
use Rattle.asm_images.specs.Directories.{directories}
use Rattle.asm_images.specs.Kept.{Kept}
use Rattle.asm_images.specs.Members.{Member, all_members, within}
use Rattle.asm_images.specs.Register.{is_enough}
use Rattle.asm_images.specs.Sound.{IsCovered}
use Rattle.rebalance.specs.catalog_tables.Items.{AreItemsOf}
use Rattle.status_register.specs.Holders.{with_next_number}
use Rattle.group_engine.specs.Mounts.{MountedGroup, Mounts}

-- these members are enough for the record, it isn't gone, and one of its copies there has a content
pub record IsThere (ms : List Member) (r : Status) : Type 0 where
  pub enough : IsTrue (is_enough r ms)
  pub alive : r.gone ≡ false
  pub content : Content
  pub found : directories r ms ≡ Some content

-- What a record has to have on an image so that it may be written after the completed one: the births of its entries are covered,
-- whatever it may be taken for Status with is one of the groups, and with the attached disks it is there.
pub record MayBeWritten (n id : ℕ) (groups : List Group) (kept : Kept) (next : Status) (image : Image) : Type 0 where
  pub births : (e : Entry) → IsAmong next.entries e → e.birth ≤ kept.completed.births
  pub own_births : (e : Entry) → IsAmong next.entries e → e.birth ≤ next.births
  pub covers : (slots : ℕ) → IsCovered id (disks_in slots image) (all_members id (disks_in slots image)) groups next
  pub there : IsThere (within kept.slots (all_members id (disks_in n image))) next

-- A mounted group may get another status record, with which it stays what it is.
pub record MayGet (n : ℕ) (m : MountedGroup) (next : Status) (s : BayState) (g : Group) (kept : Kept) : Type 0 where
  pub mounts : Mounts n m s g kept
  pub may : NowOnly s (MayBeWritten n m.register.id (g ∷ []) kept (with_next_number m.register next))
  pub describes : (items : List Item) → AreItemsOf m.catalog.tables items → DescribesGroup next items g
  -- turns don't run out
  pub turns : m.register.turn + 1 < 2 ^ 64
