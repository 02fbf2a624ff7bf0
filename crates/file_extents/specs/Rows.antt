-- Homes that are chosen for new extents of a file of a mounted group.
use Rattle.std.specs.Prelude.{◌≡◌, ⊤, ◌+◌, ◌<◌, List, length, None}
use Rattle.catalog_tables.specs.allocator.UnitMaps.{UnitMap}
use Rattle.asm_formats.specs.Items.{Homes}
use Rattle.asm_base.specs.declared.kinds.ExtentId.{ExtentId}
use Rattle.refusal_lines.specs.declared.refusal.Refusal.{Refusal}
use Rattle.refusal_lines.specs.declared.refusal.Refusal.TheVariants as cause
use Rattle.catalog_tables.specs.partnership.Rows.{Choosing, IsRow, homes_for_extent}
use Rattle.group_pieces.specs.group_engine.Mounts.{MountedGroup}
use Rattle.file_extents.specs.declared.rows.NewExtents.{NewExtents}

-- what the homes of the extents are chosen by
abbrev pub choosing : MountedGroup → NewExtents → Choosing
choosing m new = record { entries = m.register.value.entries; copies = new.copies; step = m.catalog.shape.step }

-- Those before an extent have homes by these maps, and there is no choice for that one.
pub record HasNoSpace (m : MountedGroup) (new : NewExtents) (units : List UnitMap) (x : ExtentId) : Type 0 where
  pub row : List Homes
  pub last : List UnitMap
  pub homes : IsRow (choosing m new) new.first units row last
  pub file : x.file ≡ new.file
  pub index : x.index ≡ new.first + length row
  pub wanted : x.index < new.first + new.count
  pub none : homes_for_extent (choosing m new) last x.index ≡ None

-- why the extents have no homes by these maps: there is no choice for one once those before it have theirs. Want of memory is free.
abbrev pub ChoiceCause : MountedGroup → NewExtents → List UnitMap → Refusal → Type 0
ChoiceCause m new units (cause.NoSpace x) = HasNoSpace m new units x
ChoiceCause m new units cause.NoMemory = ⊤
ChoiceCause m new units _ = ⊥

-- why they have none by the group's maps
abbrev pub SpaceCause : MountedGroup → NewExtents → Refusal → Type 0
SpaceCause m new refusal = ChoiceCause m new m.catalog.units refusal
