-- Where all named directory copies have one content, and how a new content comes to be known.
use Rattle.std.specs.Prelude.{◌≡◌, ℕ, ◌<◌, ◌≤◌, Bool, false, List, [], ◌∷◌, ◌++◌, length, Option, Some, IsTrue}
use Rattle.std.specs.Option.{is_some}
use Rattle.asm_group.specs.Group.{Group}
use Rattle.asm_formats.specs.Header.{Header}
use Rattle.asm_formats.specs.Status.{Status, Entry}
use Rattle.asm_formats.specs.Content.{Content}
use Rattle.asm_formats.specs.Logs.{Log}
use Rattle.asm_formats.specs.Pages.{committed}
use Rattle.asm_formats.specs.Metadata.{header_of}
use Rattle.asm_formats.specs.LogSlots.{IsLogPut}
use Rattle.asm_formats.specs.Among.{IsAmong}
use Rattle.asm_images.specs.Members.{ImageBytes, Member, written, all_members, within, statuses}
use Rattle.asm_images.specs.Register.{current_records}
use Rattle.asm_images.specs.Directories.{directories, IsNamed}
use Rattle.asm_images.specs.Stands.{Describes}
use Rattle.asm_images.specs.Sound.{IsCovered, SoundBy}
use Rattle.asm_images.specs.Steps.{IsLast, IsBegun, IsNarrower}
use Rattle.asm_images.specs.PutLaws.{bytes_of}

-- ---- one content

-- What is found stands on a named copy.
abbrev pub FoundIsHeld : Type 0
FoundIsHeld =
    (r : Status) (ms : List Member) (c : Content) → directories r ms ≡ Some c
    → (m : Member) × IsAmong ms m × IsNamed r m.header × (m.disk.content ≡ Some c)

-- each copy that the record names has this content, or none
abbrev pub HaveContent : Status → List Member → Content → Type 0
HaveContent r ms c = (m : Member) (d : Content) → IsAmong ms m → IsNamed r m.header → m.disk.content ≡ Some d → d ≡ c

-- So where they have one, it is found whichever disks are left.
abbrev pub OneContentIsFound : Type 0
OneContentIsFound = (r : Status) (ms : List Member) (c d : Content) (P : ℕ → Bool) → HaveContent r ms c → directories r (within P ms) ≡ Some d → d ≡ c

-- A record whose copies have one content, which describes a listed group, may be taken for Status.
abbrev pub OneContentIsCovered : Type 0
OneContentIsCovered =
    (id : ℕ) (image : ImageBytes) (groups : List Group) (r : Status) (c : Content) (g : Group) → HaveContent r (all_members id image) c
    → ((m : Member) → IsAmong (all_members id image) m → m.header.birth ≤ r.births)
    → ((s : Status) (e : Entry) → IsAmong (statuses id (all_members id image)) s → IsAmong s.entries e → e.birth ≤ r.births)
    → IsAmong groups g → Describes image (all_members id image) (all_members id image) r c g
    → IsCovered id image (all_members id image) groups r

-- Where it is so of each record that counts, with one group, that group is left.
abbrev pub OneContentNarrows : Type 0
OneContentNarrows =
    (id : ℕ) (image : ImageBytes) (g : Group) (completed : Option Status) (begun : List Status) (c : Content)
    → ((r : Status) → IsAmong (current_records completed begun) r → r.gone ≡ false
    → HaveContent r (all_members id image) c × Describes image (all_members id image) (all_members id image) r c g)
    → IsNarrower id image (g ∷ []) completed begun

-- ---- a commit

-- Before it is put: no other named copy has the number with another content, and with it the disks as they are hold a listed group.
pub record IsContentReady (id : ℕ) (old : ImageBytes) (groups : List Group) (completed : Option Status) (begun : List Status) (slot : ℕ) (c : Content) : Type 0 where
  pub agrees : (r : Status) (m n : Member) (d : Content) → IsAmong (current_records completed begun) r → r.gone ≡ false → IsAmong (all_members id old) m → m.slot ≡ slot → IsNamed r m.header
      → IsAmong (all_members id old) n → (n.slot ≡ slot → ⊥) → IsNamed r n.header → n.disk.content ≡ Some d → d.commit ≡ c.commit → d ≡ c
  pub described : (r : Status) (m : Member) → IsAmong (current_records completed begun) r → r.gone ≡ false → IsAmong (all_members id old) m → m.slot ≡ slot → IsNamed r m.header
      → (g : Group) × IsAmong groups g × Describes old (all_members id old) (all_members id old) r c g

-- At each moment while a log is put whose content is ready, the image is sound.
abbrev pub ReadyPutKeeps : Type 0
ReadyPutKeeps =
    (id : ℕ) (old : ImageBytes) (groups : List Group) (completed : Option Status) (begun : List Status) → SoundBy id old groups completed begun
    → (h : Header) (log : Log) (slot : ℕ) (bytes : List ℕ) (k other : ℕ) → slot < length old → header_of (bytes_of old slot) ≡ Some h
    → IsLogPut h.shape.dir_blocks (bytes_of old slot) bytes k other log
    → IsTrue (is_some (committed h.shape.dir_blocks (bytes_of old slot) log).items)
    → IsContentReady id old groups completed begun slot (committed h.shape.dir_blocks (bytes_of old slot) log)
    → SoundBy id (written old slot bytes) groups completed begun

-- ---- the last record

-- A record that is begun is the last.
abbrev pub BegunIsLast : Type 0
BegunIsLast =
    (id : ℕ) (image : ImageBytes) (groups : List Group) (completed : Option Status) (begun : List Status) (r : Status) → IsBegun id image groups completed begun r
    → IsLast completed (begun ++ (r ∷ [])) r

-- Once it is complete, it is the last still.
abbrev pub CompleteIsLast : Type 0
CompleteIsLast = (r : Status) → IsLast (Some r) [] r
