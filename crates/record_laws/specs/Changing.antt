-- Changes of a record's entries, one by one, and the partners after them.
use Rattle.std.specs.Prelude.{◌≡◌, ◌<◌, true, List, map}
use Rattle.asm_formats.specs.Among.{IsAmong}
use Rattle.asm_formats.specs.Status.{Entry, Status}
use Rattle.asm_images.specs.RecordLaws.{bare}
use Rattle.asm_placement.specs.Modes.{is_forced, stays}
use Rattle.asm_placement.specs.Partners.{HasPartners, with_partners}
use Rattle.record_laws.specs.Getting.{ChangesModesAlone}

-- The entry is of the same disk, and Forced where the one before was.
pub record KeepsDisk (e f : Entry) : Type 0 where
  pub disk : bare f ≡ bare e
  pub forced : is_forced e.mode ≡ true → is_forced f.mode ≡ true

-- Where each entry is changed so, modes alone change.
abbrev pub ModesOfEach : Type 0
ModesOfEach =
    (r : Status) (change : Entry → Entry) → ((e : Entry) → IsAmong r.entries e → KeepsDisk e (change e)) → ChangesModesAlone r (record r { entries = map change r.entries })

-- Two such changes one after the other are one.
abbrev pub ModesJoin : Type 0
ModesJoin = (r s t : Status) → ChangesModesAlone r s → ChangesModesAlone s t → ChangesModesAlone r t

-- Of the same disk, failure group and partners, and in the table of partners as the one before is.
pub record KeepsPlace (e f : Entry) : Type 0 where
  pub number : f.number ≡ e.number
  pub failgroup : f.failgroup ≡ e.failgroup
  pub quorum : f.quorum ≡ e.quorum
  pub partners : f.partners ≡ e.partners
  pub stays : stays f.mode ≡ stays e.mode

-- Where each entry is changed so, the partners are still those of the table.
abbrev pub TableStays : Type 0
TableStays = (es : List Entry) (change : Entry → Entry) → ((e : Entry) → IsAmong es e → KeepsPlace e (change e)) → HasPartners es → HasPartners (map change es)

-- Partners that are made anew are those of the table.
abbrev pub TableIsMade : Type 0
TableIsMade = (es : List Entry) → ((e : Entry) → IsAmong es e → e.number < 64) → HasPartners (with_partners es)
