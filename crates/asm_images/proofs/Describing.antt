-- From all members to those that can be read, and from one image to another with the same metadata.
use Rattle.std.proofs.Common.{◌≡◌, ℕ, ◌+◌, ◌*◌, ◌<◌, Bool, false, List, [], sym, ap, subst, ◌∙◌, Option, Some}
use Rattle.asm_formats.specs.Among.{IsAmong}
use Rattle.asm_group.specs.Shape.{Shape}
use Rattle.asm_formats.specs.Status.{Status}
use Rattle.asm_formats.specs.Content.{Content}
use Rattle.asm_images.specs.Describing.{extent_size}
use Rattle.asm_images.specs.Members.{ImageBytes, Member, metadata_of, within, members, all_members, byte}
use Rattle.asm_images.specs.Register.{Fits, current_records}
use Rattle.asm_images.specs.Directories.{directories}
use Rattle.asm_images.specs.Stands.{Describes, Standing, Stands}
use Rattle.asm_group.specs.Group.{Group}
use Rattle.asm_images.specs.Sound.{IsCovered, SoundBy, Sound}
use Rattle.asm_images.specs.Steps.{IsOpen, IsSpare}
use Rattle.asm_images.proofs.Membership.{among_within}
use Rattle.asm_images.proofs.History.{status_parts, status_counts}

-- what holds of all members holds of those that can be read
pub described_within : (image : ImageBytes) (ms : List Member) (slots : ℕ → Bool) (r : Status) (c : Content) (g : Group) → Describes image ms ms r c g → Describes image ms (within slots ms) r c g
described_within image ms slots r c g d = record {
  distinct = d.distinct;
  disks = λ m h. d.disks m (among_within slots ms m h);
  items = d.items;
  decodes = d.decodes;
  describes = d.describes;
  bytes = d.bytes;
}

pub standing_stands : (id : ℕ) (image : ImageBytes) (groups : List Group) (slots : ℕ → Bool) → Sound id image groups → (s : Standing id image slots) → (g : Group) × IsAmong groups g × Stands id image slots s g
standing_stands id image groups slots sound s =
    let ms = all_members id image in
    let counts = status_counts id ms sound.completed sound.begun slots s.record_ sound.holds.fits s.status_is in
    let not_gone = (status_parts id (within slots ms) s.record_ s.status_is).not_gone in
    let found = (sound.holds.covered s.record_ counts not_gone).described slots s.content s.directories_is in
    (found.0, found.1, described_within image ms slots s.record_ s.content found.0 found.2)

pub nothing_stands : (id : ℕ) (image : ImageBytes) (slots : ℕ → Bool) → Sound id image [] → Standing id image slots → ⊥
nothing_stands id image slots sound s = (standing_stands id image [] slots sound s).1

-- what is found in an open content of the old image is found in the new one
abbrev pub Carries : (id : ℕ) (old new : ImageBytes) (groups later : List Group) → Option Status → List Status → Type 0
Carries id old new groups later completed begun =
    (r : Status) (c : Content) (P : ℕ → Bool) (g : Group) → IsAmong (current_records completed begun) r → r.gone ≡ false → directories r (within P (all_members id old)) ≡ Some c
    → IsAmong groups g → Describes old (all_members id old) (all_members id old) r c g → (h : Group) × IsAmong later h × Describes new (all_members id old) (all_members id old) r c h

carried_cover : (id : ℕ) (old new : ImageBytes) (groups later : List Group) (completed : Option Status) (begun : List Status) (sound : SoundBy id old groups completed begun) → Carries id old new groups later completed begun
    → (r : Status) → IsAmong (current_records completed begun) r → r.gone ≡ false → IsCovered id new (all_members id old) later r
carried_cover id old new groups later completed begun sound carries r counts not_gone =
    let before = sound.covered r counts not_gone in
    record {
      one_content = before.one_content;
      member_births = before.member_births;
      entry_births = before.entry_births;
      described = λ P c is. let found = before.described P c is in carries r c P found.0 counts not_gone is found.1 found.2;
    }

-- A change that leaves the metadata keeps the history; what remains is what the contents describe.
pub carried : (id : ℕ) (old new : ImageBytes) (groups later : List Group) (completed : Option Status) (begun : List Status) (sound : SoundBy id old groups completed begun) → metadata_of new ≡ metadata_of old → Carries id old new groups later completed begun → SoundBy id new later completed begun
carried id old new groups later completed begun sound same carries =
    let members_same : all_members id new ≡ all_members id old = ap (members id) same in
    record {
      fits = subst (λ (ms : List Member). Fits id ms completed begun) (sym members_same) sound.fits;
      covered = λ r counts not_gone. subst (λ (ms : List Member). IsCovered id new ms later r) (sym members_same) (carried_cover id old new groups later completed begun sound carries r counts not_gone);
    }

-- ---- spare bytes

spare_bytes : (id : ℕ) (old new : ImageBytes) (groups : List Group) (completed : Option Status) (begun : List Status) (sound : SoundBy id old groups completed begun) → IsSpare id old new completed begun → Carries id old new groups groups completed begun
spare_bytes id old new groups completed begun sound spare r c P g counts not_gone found among d =
    let ms = all_members id old in
    let is_open : IsOpen id old completed begun r d.items = record { counts = counts; not_gone = not_gone; readable = P; content = c; found = found; decodes = d.decodes } in (
      g,
      among,
      record {
        distinct = d.distinct;
        disks = d.disks;
        items = d.items;
        decodes = d.decodes;
        describes = d.describes;
        bytes = λ f o b i inner copy file h m is_file cell lies is_member current.
            let shape = (d.disks m is_member).shape in
            let within_extent : inner < extent_size m.header.shape i = subst (λ (s : Shape). inner < extent_size s i) (sym shape) lies.inside in
            let kept : byte new m.slot (h.unit * g.shape.au + inner) ≡ byte old m.slot (h.unit * g.shape.au + inner) =
            subst (λ (s : Shape). byte new m.slot (h.unit * s.au + inner) ≡ byte old m.slot (h.unit * s.au + inner)) shape (spare.bytes r d.items f i copy inner h m is_open is_member current within_extent) in
            kept ∙ d.bytes f o b i inner copy file h m is_file cell lies is_member current;
      },
    )

pub spare_keeps : (id : ℕ) (old new : ImageBytes) (groups : List Group) (completed : Option Status) (begun : List Status) (sound : SoundBy id old groups completed begun) → IsSpare id old new completed begun → SoundBy id new groups completed begun
spare_keeps id old new groups completed begun sound spare = carried id old new groups groups completed begun sound spare.metadata (spare_bytes id old new groups completed begun sound spare)
