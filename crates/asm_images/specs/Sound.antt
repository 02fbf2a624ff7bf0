-- What every image keeps at every moment, for every set of disks that may be left.
use Rattle.std.specs.Prelude.{◌≡◌, ℕ, ◌≤◌, Bool, false, List, Option, Some}
use Rattle.asm_group.specs.Group.{Group}
use Rattle.asm_formats.specs.Status.{Status, Entry}
use Rattle.asm_formats.specs.Content.{Content}
use Rattle.asm_formats.specs.Among.{IsAmong}
use Rattle.asm_images.specs.Members.{ImageBytes, Member, all_members, within, statuses}
use Rattle.asm_images.specs.Register.{Fits, current_records}
use Rattle.asm_images.specs.Directories.{directories, IsNamed}
use Rattle.asm_images.specs.Stands.{Describes}

-- What must hold of a record that some disks may take for Status.
pub record IsCovered (id : ℕ) (image : ImageBytes) (ms : List Member) (groups : List Group) (r : Status) : Type 0 where
  -- two of its directory copies with one commit number have one content
  pub one_content : (m n : Member) (c d : Content) → IsAmong ms m → IsAmong ms n → IsNamed r m.header → IsNamed r n.header
      → m.disk.content ≡ Some c → n.disk.content ≡ Some d → c.commit ≡ d.commit → c ≡ d
  -- its births are the greatest: of the members, and of the entries in open slots
  pub member_births : (m : Member) → IsAmong ms m → m.header.birth ≤ r.births
  pub entry_births : (s : Status) (e : Entry) → IsAmong (statuses id ms) s → IsAmong s.entries e → e.birth ≤ r.births
  -- whatever set of its copies can be read, the directories there describe one of the groups
  pub described : (P : ℕ → Bool) (c : Content) → directories r (within P ms) ≡ Some c
      → (g : Group) × IsAmong groups g × Describes image ms ms r c g

-- The image is sound by a history: the record that was last completed, and those begun after it.
pub record SoundBy (id : ℕ) (image : ImageBytes) (groups : List Group) (completed : Option Status) (begun : List Status) : Type 0 where
  pub fits : Fits id (all_members id image) completed begun
  pub covered : (r : Status) → IsAmong (current_records completed begun) r → r.gone ≡ false → IsCovered id image (all_members id image) groups r

-- Sound: under this id the image holds one of the groups, whichever disks are left, by some history.
pub record Sound (id : ℕ) (image : ImageBytes) (groups : List Group) : Type 0 where
  pub completed : Option Status
  pub begun : List Status
  pub holds : SoundBy id image groups completed begun
