-- The worlds between which the images may stand while a command runs.
use Rattle.std.specs.Prelude.{◌≡◌, ℕ, Bool, true, false, List, [], ◌∷◌, ◌++◌, length, replicate, Option, Some, None, Result, Ok, Err}
use Rattle.std.specs.List.{flat_map}
use Rattle.asm_group.specs.Names.{Bytes, Path}
use Rattle.asm_group.specs.Group.{Free, Group}
use Rattle.asm_group.specs.Refusal as r
use Rattle.asm_world.specs.Command as c
use Rattle.asm_world.specs.Files.{group_after_write}
use Rattle.asm_world.specs.Paths.{target_from, is_host_path, parts_of, resolved_pattern}
use Rattle.asm_world.specs.Statement as s
use Rattle.asm_world.specs.World.{SessionEntry, World, entry_in, only_group, groups_of, with_group}

-- ---- the groups that a command names

abbrev pub group_name_of : Option (Bytes × Path) → List Bytes
group_name_of None = []
group_name_of (Some (name, path)) = name ∷ []

abbrev pub group_at : World → Bytes → List Bytes
group_at w path = group_name_of (target_from w.place path)

abbrev pub group_of_copy : World → Bytes → Bool → List Bytes
group_of_copy w path true = []
group_of_copy w path false = group_at w path

-- The groups of the session on which a command works, of a copy its source's and its target's.
abbrev pub groups_named : World → c.Command → List Bytes
groups_named w (c.Said (s.DropGroup name contents)) = name ∷ []
groups_named w (c.Said (s.Alter name clause)) = name ∷ []
groups_named w (c.Asked (c.DbCreate path size template)) = group_at w path
groups_named w (c.Asked (c.DbWrite path at bytes)) = group_at w path
groups_named w (c.Asked (c.DbFill path at size byte)) = group_at w path
groups_named w (c.Asked (c.DbRead path at size)) = group_at w path
groups_named w (c.Asked (c.DbResize path size)) = group_at w path
groups_named w (c.Asked (c.Ls long path)) = group_name_of (parts_of (resolved_pattern w.place path))
groups_named w (c.Asked (c.Cd path)) = group_at w path
groups_named w (c.Asked (c.MakeDirectory path)) = group_at w path
groups_named w (c.Asked (c.Remove path)) = group_at w path
groups_named w (c.Asked (c.CopyFile source target)) = group_of_copy w source (is_host_path source) ++ group_of_copy w target (is_host_path target)
groups_named w (c.Asked (c.Usage (Some path))) = group_at w path
groups_named w (c.Asked (c.Usage None)) = group_at w []
groups_named w (c.Asked (c.Find path pattern)) = group_at w path
groups_named w (c.Asked (c.MakeAlias path alias)) = group_at w alias
groups_named w (c.Asked (c.RemoveAlias path)) = group_at w path
groups_named w (c.Asked (c.ListDisks name)) = name ∷ []
groups_named w (c.Asked (c.ListTemplates name)) = name ∷ []
groups_named w (c.Asked (c.ListAttributes name)) = name ∷ []
groups_named w (c.Asked (c.OfflineDisk name disk)) = name ∷ []
groups_named w (c.Asked (c.OnlineDisk name disk)) = name ∷ []
groups_named w (c.Asked (c.SetPower name power)) = name ∷ []
groups_named w other = []

-- ---- a span that is free

abbrev pub changed_or_none : World → ℕ → Result Group r.Refusal → Option World
changed_or_none w id (Ok g) = Some (with_group w id g)
changed_or_none w id (Err cause) = None

abbrev pub with_free_in : World → ℕ → Option Group → Path → ℕ → ℕ → Option World
with_free_in w id None path at size = None
with_free_in w id (Some g) path at size = changed_or_none w id (group_after_write g path at (replicate size Free))

abbrev pub with_free_of : World → Option SessionEntry → Path → ℕ → ℕ → Option World
with_free_of w None path at size = None
with_free_of w (Some entry) path at size = with_free_in w entry.id (only_group (groups_of w entry.id)) path at size

abbrev pub with_free_at : World → Option (Bytes × Path) → ℕ → ℕ → Option World
with_free_at w None at size = None
with_free_at w (Some (name, path)) at size = with_free_of w (entry_in w name) path at size

-- the world with the span of a dbwrite or dbfill free, where there is such a span
abbrev pub with_span_free : World → c.Command → Option World
with_span_free w (c.Asked (c.DbWrite path at bytes)) = with_free_at w (target_from w.place path) at (length bytes)
with_span_free w (c.Asked (c.DbFill path at size byte)) = with_free_at w (target_from w.place path) at size
with_span_free w other = None

-- ---- between two worlds

abbrev pub also : Option World → List World
also None = []
also (Some w) = w ∷ []

-- the world before and the one after, and of a write the first with the span free
abbrev pub worlds_between : World → c.Command → World → List World
worlds_between w command new = w ∷ new ∷ also (with_span_free w command)

abbrev pub Between : World → c.Command → World → World → Type 0
Between w command new x = (before after : List World) × (worlds_between w command new ≡ before ++ x ∷ after)

-- the groups that an id has in the worlds between
abbrev pub groups_between : World → c.Command → World → ℕ → List Group
groups_between w command new id = flat_map (λ x. groups_of x id) (worlds_between w command new)

-- the images of the id may stand for the group
abbrev pub MayStandFor : World → ℕ → Group → Type 0
MayStandFor w id g = (before after : List Group) × (groups_of w id ≡ before ++ g ∷ after)
