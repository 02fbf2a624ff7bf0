-- Which directory copy counts.
use Rattle.std.specs.Prelude.{◌≡◌, ℕ, List, [], ◌∷◌, find, flat_map, if◌then◌else◌, nat_lt, Option, Some, None}
use Rattle.asm_formats.specs.Among.{IsAmong}
use Rattle.asm_formats.specs.Sets.{elements}
use Rattle.asm_formats.specs.Header.{Header}
use Rattle.asm_formats.specs.Status.{Status, Entry, entry_of}
use Rattle.asm_formats.specs.Content.{Content}
use Rattle.asm_images.specs.Members.{Member, is_disk}

-- the content of a member's copy, where it has one
abbrev pub to_list : Option Content → List Content
to_list None = []
to_list (Some c) = c ∷ []

abbrev pub member_contents : Option Member → List Content
member_contents None = []
member_contents (Some m) = to_list m.disk.content

-- the content of the copy on disk d, which is meant with the birth of its entry
abbrev pub copy_on : List Member → ℕ → Option Entry → List Content
copy_on ms d None = []
copy_on ms d (Some e) = member_contents (find (λ (m : Member). is_disk d e.birth m.header) ms)

-- the contents of the copies that the record names, by disk number
unfoldable pub copies : Status → List Member → List Content
copies r ms = flat_map (λ d. copy_on ms d (entry_of r.entries d)) (elements r.directories)

-- the content of the greater commit number, the first where they are equal
abbrev pub newer : Content → Option Content → Option Content
newer c None = Some c
newer c (Some d) = if nat_lt c.commit d.commit then Some d else Some c

abbrev pub newest : List Content → Option Content
newest [] = None
newest (c ∷ cs) = newer c (newest cs)

-- Directories: the content of the greatest commit number among the named copies, of the least disk where they are equal
abbrev pub directories : Status → List Member → Option Content
directories r ms = newest (copies r ms)

-- the record names the copy on the disk with this header
pub record IsNamed (r : Status) (h : Header) : Type 0 where
  pub named : IsAmong (elements r.directories) h.number
  pub entry : Entry
  pub entry_is : entry_of r.entries h.number ≡ Some entry
  pub birth : entry.birth ≡ h.birth
