-- Counters on the disks of an image: ids, epochs, turns, births, commit numbers and incarnations. Where all of them are small when a
-- run begins, none comes to its last value in it.
use Rattle.std.specs.Prelude.{ℕ, ◌<◌, List, Some}
use Rattle.std.specs.Option.{ForSome}
use Rattle.asm_formats.specs.Among.{IsAmong}
use Rattle.asm_formats.specs.Claim.{Claim}
use Rattle.asm_formats.specs.Content.{Content}
use Rattle.asm_formats.specs.Header.{Header}
use Rattle.asm_formats.specs.Items.{Item, FileHead, Settings, file_item, settings_item}
use Rattle.asm_formats.specs.Metadata.{Metadata}
use Rattle.asm_formats.specs.Status.{Entry, Status}
use Rattle.asm_images.specs.Members.{ImageBytes, metadata_of}

pub record HeaderIsBelow (limit : ℕ) (h : Header) : Type 0 where
  pub id : h.id < limit
  pub birth : h.birth < limit

pub record ClaimIsBelow (limit : ℕ) (c : Claim) : Type 0 where
  pub id : c.id < limit
  pub epoch : c.epoch < limit

pub record StatusIsBelow (limit : ℕ) (r : Status) : Type 0 where
  pub id : r.id < limit
  pub epoch : r.epoch < limit
  pub turn : r.turn < limit
  pub births : r.births < limit
  pub each : (e : Entry) → IsAmong r.entries e → e.birth < limit

-- of files, and the next one
pub record IncarnationsAreBelow (limit : ℕ) (items : List Item) : Type 0 where
  pub files : (f : ℕ) (head : FileHead) → IsAmong items (file_item f head) → head.incarnation < limit
  pub next : (s : Settings) → IsAmong items (settings_item s) → s.incarnation < limit

pub record ContentIsBelow (limit : ℕ) (c : Content) : Type 0 where
  pub commit : c.commit < limit
  pub incarnations : ForSome c.items (IncarnationsAreBelow limit)

-- what a disk says in its open gates and in its directory copy
pub record DiskIsBelow (limit : ℕ) (disk : Metadata) : Type 0 where
  pub header : ForSome disk.header (HeaderIsBelow limit)
  pub claims : (c : Claim) → IsAmong disk.claims (Some c) → ClaimIsBelow limit c
  pub statuses : (r : Status) → IsAmong disk.statuses (Some r) → StatusIsBelow limit r
  pub content : ForSome disk.content (ContentIsBelow limit)

-- The counters in this image are below a limit.
abbrev pub CountersAreBelow : ℕ → ImageBytes → Type 0
CountersAreBelow limit image = (disk : Metadata) → IsAmong (metadata_of image) disk → DiskIsBelow limit disk
