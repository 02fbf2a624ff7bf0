-- What a survey finds, in the words of the members of an image.
use Rattle.std.specs.Prelude.{◌≡◌, ℕ, ◌<◌, ◌==◌, Bool, List, Option, Some, None, ◌∷◌, IsTrue, ◌≤◌, ◌++◌, []}
use Rattle.std.specs.List.{list_any}
use Rattle.bay.specs.Image.{Image}
use Rattle.asm_formats.specs.Among.{IsAmong}
use Rattle.asm_formats.specs.Header.{Header}
use Rattle.asm_formats.specs.Metadata.{header_of}
use Rattle.asm_formats.specs.Claim.{Claim, is_claim, claim_spelling}
use Rattle.asm_formats.specs.Following.{Follows, rank}
use Rattle.asm_formats.specs.Regions.{least_size}
use Rattle.asm_formats.specs.Status.{Status, is_status, status_spelling}
use Rattle.asm_images.specs.Steps.{IsLast}
use Rattle.status_register.specs.Slots.{claim_gate, status_gate}
use Rattle.asm_images.specs.Bridge.{disk_bytes, disks_in}
use Rattle.asm_images.specs.Members.{all_members, within}
use Rattle.asm_images.specs.Register.{base, is_enough, HasEpoch, current_records, greatest}
use Rattle.status_register.specs.History.{FitsHistory}
use Rattle.status_register.specs.Rows.{HasClaim, HasStatus, PutsRow}
use Rattle.status_register.specs.Surveys.{records_on, missing, claims_on, greatest_epoch}
use Rattle.status_register.specs.declared.member.Member.{Member}

-- the disk in the member's slot has an open header of the group, with its number and birth
pub record IsMemberOn (slots id : ℕ) (image : Image) (m : Member) : Type 0 where
  pub inside : m.slot < slots
  pub header : Header
  pub header_is : header_of (disk_bytes image m.slot) ≡ Some header
  pub group : header.id ≡ id
  pub number : header.number ≡ m.number
  pub birth : header.birth ≡ m.birth

-- the slots of these members
abbrev pub slots_of : List Member → ℕ → Bool
slots_of ms slot = list_any (λ (m : Member). m.slot == slot) ms

-- Where an image fits a history, the greatest record on the members that were read counts, if they are a majority of each of its sets:
-- it is the record that was last completed, or one begun after it.
abbrev pub SurveyedRecordCounts : Type 0
SurveyedRecordCounts =
    (slots id : ℕ) (completed : Option Status) (begun : List Status) (image : Image) (read : List Member) (r : Status) → FitsHistory slots id completed begun image
    → ((m : Member) → IsAmong read m → IsMemberOn slots id image m)
    → greatest (records_on id image read) ≡ Some r → missing read (Some r) ≡ None → IsAmong (current_records completed begun) r

-- An epoch above all that a survey read, of claims and of its greatest record, is above that of every record that counts.
abbrev pub EpochPassesCurrentRecords : Type 0
EpochPassesCurrentRecords =
    (slots id : ℕ) (completed : Option Status) (begun : List Status) (image : Image) (read : List Member) (r : Status) (epoch : ℕ) → FitsHistory slots id completed begun image
    → ((m : Member) → IsAmong read m → IsMemberOn slots id image m)
    → greatest (records_on id image read) ≡ Some r → missing read (Some r) ≡ None → greatest_epoch (claims_on id image read) < epoch → r.epoch < epoch
    → (s : Status) → IsAmong (current_records completed begun) s → s.epoch < epoch

-- Where those that show a claim are a majority of each set of a record that counts, every set of members that is enough for a record that counts, or for
-- one of the claimed epoch that follows, sees the epoch: such a record may be begun.
abbrev pub ShownClaimIsSeen : Type 0
ShownClaimIsSeen =
    (slots id : ℕ) (completed : Option Status) (begun : List Status) (image : Image) (took : List Member) (g r : Status) → FitsHistory slots id completed begun image
    → ((m : Member) → IsAmong took m → IsMemberOn slots id image m) → IsTrue (is_claim (record { id = id; epoch = r.epoch }))
    → ((m : Member) → IsAmong took m → HasClaim (claim_spelling (record { id = id; epoch = r.epoch })) m.slot image)
    → IsAmong (current_records completed begun) g → missing took (Some g) ≡ None → ((v : Status) → base completed begun ≡ Some v → Follows v r)
    → (P : ℕ → Bool) (s : Status) → IsAmong (r ∷ current_records completed begun) s → IsTrue (is_enough s (within P (all_members id (disks_in slots image))))
    → HasEpoch id (within P (all_members id (disks_in slots image))) r.epoch

-- While the last record that was begun is put on members, the image fits the history.
abbrev pub StoredRecordsFit : Type 0
StoredRecordsFit =
    (slots id : ℕ) (completed : Option Status) (begun : List Status) (r : Status) (ms : List Member) (x y : Image) → IsLast completed begun r → IsTrue (is_status r)
    → ((m : Member) → IsAmong ms m → m.slot < slots) → ((m : Member) → IsAmong ms m → least_size ≤ x.size m.slot)
    → PutsRow (status_gate id) ms (status_spelling r) x y → FitsHistory slots id completed begun x → FitsHistory slots id completed begun y

-- While a claim is put on members, the image fits the history.
abbrev pub StoredClaimsFit : Type 0
StoredClaimsFit =
    (slots id : ℕ) (completed : Option Status) (begun : List Status) (c : Claim) (ms : List Member) (x y : Image) → IsTrue (is_claim c)
    → ((m : Member) → IsAmong ms m → m.slot < slots) → ((m : Member) → IsAmong ms m → least_size ≤ x.size m.slot)
    → PutsRow (claim_gate id) ms (claim_spelling c) x y → FitsHistory slots id completed begun x → FitsHistory slots id completed begun y

-- Disks that are members stay so while a claim, or a record, is put on some.
abbrev pub ClaimsKeepMembers : Type 0
ClaimsKeepMembers =
    (slots id : ℕ) (c : Claim) (ms : List Member) (x y : Image) → IsTrue (is_claim c)
    → ((m : Member) → IsAmong ms m → m.slot < slots) → ((m : Member) → IsAmong ms m → least_size ≤ x.size m.slot)
    → PutsRow (claim_gate id) ms (claim_spelling c) x y → (m : Member) → IsMemberOn slots id x m → IsMemberOn slots id y m

abbrev pub RecordsKeepMembers : Type 0
RecordsKeepMembers =
    (slots id : ℕ) (r : Status) (ms : List Member) (x y : Image) → IsTrue (is_status r)
    → ((m : Member) → IsAmong ms m → m.slot < slots) → ((m : Member) → IsAmong ms m → least_size ≤ x.size m.slot)
    → PutsRow (status_gate id) ms (status_spelling r) x y → (m : Member) → IsMemberOn slots id x m → IsMemberOn slots id y m

-- A record of a claimed epoch is begun: where a majority of each set of a record that counts shows its claim, it follows and its number is above all that count.
abbrev pub ClaimedRecordBegins : Type 0
ClaimedRecordBegins =
    (slots id : ℕ) (completed : Option Status) (begun : List Status) (image : Image) (took : List Member) (g r : Status) → FitsHistory slots id completed begun image
    → ((m : Member) → IsAmong took m → IsMemberOn slots id image m) → IsTrue (is_claim (record { id = id; epoch = r.epoch }))
    → ((m : Member) → IsAmong took m → HasClaim (claim_spelling (record { id = id; epoch = r.epoch })) m.slot image)
    → IsAmong (current_records completed begun) g → missing took (Some g) ≡ None → ((v : Status) → base completed begun ≡ Some v → Follows v r)
    → IsTrue (is_status r) → ((s : Status) → IsAmong (current_records completed begun) s → rank s < rank r) → FitsHistory slots id completed (begun ++ r ∷ []) image

-- Once the last record stands on members that are enough for it, it is the one that was last completed, and no other counts.
abbrev pub StoredRecordCompletes : Type 0
StoredRecordCompletes =
    (slots id : ℕ) (completed : Option Status) (begun : List Status) (image : Image) (took : List Member) (r : Status) → FitsHistory slots id completed begun image → IsLast completed begun r
    → IsTrue (is_status r) → r.id ≡ id → ((m : Member) → IsAmong took m → IsMemberOn slots id image m)
    → ((m : Member) → IsAmong took m → HasStatus (status_spelling r) m.slot image) → missing took (Some r) ≡ None → FitsHistory slots id (Some r) [] image
