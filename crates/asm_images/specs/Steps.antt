-- The kinds of step that keep an image sound. Each is said of a history: the record that was last completed, and those begun after it.
use Rattle.std.specs.Prelude.{◌≡◌, ◌⊎◌, ℕ, ◌+◌, ◌*◌, ◌<◌, ◌≤◌, Bool, false, List, [], ◌∷◌, length, Option, Some, None, IsTrue}
use Rattle.std.specs.List.{list_all}
use Rattle.std.specs.Option.{is_some}
use Rattle.asm_group.specs.Group.{Group}
use Rattle.asm_formats.specs.Header.{Header}
use Rattle.asm_formats.specs.Claim.{Claim}
use Rattle.asm_formats.specs.Status.{Status, Entry, is_status}
use Rattle.asm_formats.specs.Following.{rank, Follows}
use Rattle.asm_formats.specs.Items.{Item, Home}
use Rattle.asm_formats.specs.Content.{Content}
use Rattle.asm_formats.specs.Metadata.{Metadata, metadata}
use Rattle.asm_formats.specs.Among.{IsAmong}
use Rattle.asm_images.specs.Members.{ImageBytes, Member, byte, written, disk_of, metadata_of, all_members, within, statuses, of_group, claims_of_group, IsOutside}
use Rattle.asm_images.specs.Register.{current_records, base, is_enough, HasEpoch}
use Rattle.asm_images.specs.Directories.{directories, IsNamed}
use Rattle.asm_images.specs.Copies.{IsCurrent}
use Rattle.asm_images.specs.Describing.{extent_size}
use Rattle.asm_images.specs.Stands.{Describes}
use Rattle.asm_images.specs.Sound.{IsCovered}

-- ---- open contents

-- For some set of disks that are left, the items are the directories under one of the records that count.
pub record IsOpen (id : ℕ) (image : ImageBytes) (completed : Option Status) (begun : List Status) (r : Status) (items : List Item) : Type 0 where
  pub counts : IsAmong (current_records completed begun) r
  pub not_gone : r.gone ≡ false
  pub readable : ℕ → Bool
  pub content : Content
  pub found : directories r (within readable (all_members id image)) ≡ Some content
  pub decodes : content.items ≡ Some items

-- a byte of a copy stays
abbrev pub KeepsByte : ImageBytes → ImageBytes → Member → Home → ℕ → Type 0
KeepsByte old new m h inner = byte new m.slot (h.unit * m.header.shape.au + inner) ≡ byte old m.slot (h.unit * m.header.shape.au + inner)

-- no byte changes that a current copy has under an open content
abbrev pub KeepsCopies : (id : ℕ) (old new : ImageBytes) → Option Status → List Status → Type 0
KeepsCopies id old new completed begun =
    (r : Status) (items : List Item) (f i copy inner : ℕ) (h : Home) (m : Member) → IsOpen id old completed begun r items
    → IsAmong (all_members id old) m → IsCurrent r items f i copy h m → inner < extent_size m.header.shape i → KeepsByte old new m h inner

-- ---- Spare

-- No gate, open slot or directory content changes, nor any byte that a current copy has under an open content.
pub record IsSpare (id : ℕ) (old new : ImageBytes) (completed : Option Status) (begun : List Status) : Type 0 where
  pub metadata : metadata_of new ≡ metadata_of old
  pub bytes : KeepsCopies id old new completed begun

-- ---- Outside

-- The disk of a slot changes in any way, which is no member of the group before or after.
pub record IsElsewhere (id : ℕ) (old : ImageBytes) (slot : ℕ) (bytes : List ℕ) : Type 0 where
  pub before : IsOutside (all_members id old) slot
  pub after : IsOutside (all_members id (written old slot bytes)) slot

-- ---- Claim

-- a claim slot is closed or put: the disk has no smaller claims than before
pub record RaisesClaims (id : ℕ) (old new : Metadata) : Type 0 where
  pub others : new ≡ record old { claims = new.claims }
  pub raised : (c : Claim) → IsAmong (claims_of_group id old.claims) c → (d : Claim) × IsAmong (claims_of_group id new.claims) d × (c.epoch ≤ d.epoch)
  pub decode : IsTrue (list_all is_some old.claims) → IsTrue (list_all is_some new.claims)

-- A claim is put on one disk.
pub record IsClaimed (id : ℕ) (old : ImageBytes) (completed : Option Status) (begun : List Status) (slot : ℕ) (bytes : List ℕ) : Type 0 where
  pub inside : slot < length old
  pub claims : RaisesClaims id (disk_of old slot) (metadata bytes)
  pub copies : KeepsCopies id old (written old slot bytes) completed begun

-- ---- Record: begun, stored in one slot, complete

-- A record is begun: its number is above all that count, it follows the completed one, its claim was made for each set that could be
-- enough, and it may be taken for Status as the others may.
pub record IsBegun (id : ℕ) (image : ImageBytes) (groups : List Group) (completed : Option Status) (begun : List Status) (r : Status) : Type 0 where
  pub allowed : IsTrue (is_status r)
  pub above : (s : Status) → IsAmong (current_records completed begun) s → rank s < rank r
  pub follows : (v : Status) → base completed begun ≡ Some v → Follows v r
  pub claimed : (P : ℕ → Bool) (s : Status) → IsAmong (r ∷ current_records completed begun) s → IsTrue (is_enough s (within P (all_members id image)))
      → HasEpoch id (within P (all_members id image)) r.epoch
  pub covered : r.gone ≡ false → IsCovered id image (all_members id image) groups r

-- r is one of the records that count, and the greatest
pub record IsLast (completed : Option Status) (begun : List Status) (r : Status) : Type 0 where
  pub counts : IsAmong (current_records completed begun) r
  pub greatest : (s : Status) → IsAmong (current_records completed begun) s → (s ≡ r) ⊎ (rank s < rank r)

-- a status slot is closed or put with r: the disk has no smaller records than before
pub record RaisesRecords (id : ℕ) (old new : Metadata) (r : Status) : Type 0 where
  pub others : new ≡ record old { statuses = new.statuses }
  pub raised : (s : Status) → IsAmong (of_group id old.statuses) s → (t : Status) × IsAmong (of_group id new.statuses) t × (rank s ≤ rank t)
  pub from : (t : Status) → IsAmong (of_group id new.statuses) t → (t ≡ r) ⊎ IsAmong (of_group id old.statuses) t
  pub decode : IsTrue (list_all is_some old.statuses) → IsTrue (list_all is_some new.statuses)

-- each record that may be taken for Status covers the births of r's entries
abbrev pub CoversBirths : Option Status → List Status → Status → Type 0
CoversBirths completed begun r = (s : Status) (e : Entry) → IsAmong (current_records completed begun) s → s.gone ≡ false → IsAmong r.entries e → e.birth ≤ s.births

-- The last record is stored on one disk.
pub record IsStored (id : ℕ) (old : ImageBytes) (completed : Option Status) (begun : List Status) (r : Status) (slot : ℕ) (bytes : List ℕ) : Type 0 where
  pub last : IsLast completed begun r
  pub inside : slot < length old
  pub records : RaisesRecords id (disk_of old slot) (metadata bytes) r
  pub births : CoversBirths completed begun r
  pub copies : KeepsCopies id old (written old slot bytes) completed begun

-- The last record stands on members that are enough for it.
pub record IsComplete (id : ℕ) (image : ImageBytes) (completed : Option Status) (begun : List Status) (r : Status) : Type 0 where
  pub last : IsLast completed begun r
  pub holders : ℕ → Bool
  pub enough : IsTrue (is_enough r (within holders (all_members id image)))
  pub stored : (m : Member) → IsAmong (within holders (all_members id image)) m → IsAmong (of_group id m.disk.statuses) r

-- ---- Commit

-- the disk changes in its directory copy alone
pub record ChangesContent (old new : Metadata) : Type 0 where
  pub others : new ≡ record old { content = new.content; decodes = new.decodes }
  pub decode : IsTrue old.decodes → IsTrue new.decodes

-- Where a record that counts names the copy in the slot, every other named copy of this number has this content, and it describes one of the groups.
pub record IsKnown (id : ℕ) (old new : ImageBytes) (groups : List Group) (completed : Option Status) (begun : List Status) (slot : ℕ) (c : Content) : Type 0 where
  pub agrees : (r : Status) (m n : Member) (d : Content) → IsAmong (current_records completed begun) r → r.gone ≡ false → IsAmong (all_members id old) m → m.slot ≡ slot → IsNamed r m.header
      → IsAmong (all_members id old) n → (n.slot ≡ slot → ⊥) → IsNamed r n.header → n.disk.content ≡ Some d → d.commit ≡ c.commit → d ≡ c
  pub described : (r : Status) (m : Member) → IsAmong (current_records completed begun) r → r.gone ≡ false → IsAmong (all_members id old) m → m.slot ≡ slot → IsNamed r m.header
      → (g : Group) × IsAmong groups g × Describes new (all_members id new) (all_members id new) r c g

-- the copy keeps its content, loses it, or gets one that is known
pub data Outcome (id : ℕ) (old new : ImageBytes) (groups : List Group) (completed : Option Status) (begun : List Status) (slot : ℕ) (before after : Option Content) : Type 0 where
  keeps_old_content : after ≡ before → Outcome id old new groups completed begun slot before after
  loses_content : after ≡ None → Outcome id old new groups completed begun slot before after
  gains_content : (c : Content) → after ≡ Some c → IsKnown id old new groups completed begun slot c → Outcome id old new groups completed begun slot before after

-- The directory copy of one disk changes.
pub record IsCopyCommitted (id : ℕ) (old : ImageBytes) (groups : List Group) (completed : Option Status) (begun : List Status) (slot : ℕ) (bytes : List ℕ) : Type 0 where
  pub inside : slot < length old
  pub change : ChangesContent (disk_of old slot) (metadata bytes)
  pub outcome : Outcome id old (written old slot bytes) groups completed begun slot (disk_of old slot).content (metadata bytes).content
  pub copies : KeepsCopies id old (written old slot bytes) completed begun

-- ---- Header

-- A disk loses its open header, whatever else its image holds then.
pub record IsLeaving (id : ℕ) (old : ImageBytes) (completed : Option Status) (begun : List Status) (slot : ℕ) (bytes : List ℕ) : Type 0 where
  pub inside : slot < length old
  pub closed : (metadata bytes).header ≡ None
  pub copies : KeepsCopies id old (written old slot bytes) completed begun

-- no member and no entry of a record that counts or stands in an open slot has this birth
pub record IsFreshBirth (id : ℕ) (ms : List Member) (completed : Option Status) (begun : List Status) (birth : ℕ) : Type 0 where
  pub members : (m : Member) → IsAmong ms m → m.header.birth ≡ birth → ⊥
  pub counted : (r : Status) (e : Entry) → IsAmong (current_records completed begun) r → IsAmong r.entries e → e.birth ≡ birth → ⊥
  pub stored : (r : Status) (e : Entry) → IsAmong (statuses id ms) r → IsAmong r.entries e → e.birth ≡ birth → ⊥

-- the header is one of the group's, with a fresh birth that the records cover
pub record MayJoin (id : ℕ) (ms : List Member) (groups : List Group) (completed : Option Status) (begun : List Status) (h : Header) : Type 0 where
  pub group : h.id ≡ id
  pub attributes : (g : Group) → IsAmong groups g → (h.group ≡ g.name) × (h.shape ≡ g.shape)
  pub fresh : IsFreshBirth id ms completed begun h.birth
  pub births : (r : Status) → IsAmong (current_records completed begun) r → r.gone ≡ false → h.birth ≤ r.births

-- A disk that was no member gets such a header, with its other gates closed.
pub record IsJoining (id : ℕ) (old : ImageBytes) (groups : List Group) (completed : Option Status) (begun : List Status) (slot : ℕ) (bytes : List ℕ) (h : Header) : Type 0 where
  pub inside : slot < length old
  pub outside : IsOutside (all_members id old) slot
  pub header : (metadata bytes).header ≡ Some h
  pub claims : (metadata bytes).claims ≡ []
  pub statuses : (metadata bytes).statuses ≡ []
  pub content : (metadata bytes).content ≡ None
  pub decodes : IsTrue (metadata bytes).decodes
  pub may_join : MayJoin id (all_members id old) groups completed begun h
  pub copies : KeepsCopies id old (written old slot bytes) completed begun

-- ---- Narrow

-- Each open content describes one of the groups that are left.
pub record IsNarrower (id : ℕ) (image : ImageBytes) (fewer : List Group) (completed : Option Status) (begun : List Status) : Type 0 where
  pub left : (r : Status) (c : Content) (P : ℕ → Bool) → IsAmong (current_records completed begun) r → r.gone ≡ false
      → directories r (within P (all_members id image)) ≡ Some c
      → (g : Group) × IsAmong fewer g × Describes image (all_members id image) (all_members id image) r c g
