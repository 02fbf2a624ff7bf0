-- A mounted group may get a record with other modes.
use Rattle.std.proofs.Common.{◌≡◌, inr, ℕ, ◌≤◌, Bool, true, false, ◌&&◌, not, List, map, refl, sym, ap, subst, ◌∙◌, Option, Some, None, IsTrue}
use Rattle.std.proofs.lemmas.Bool.{and_parts, false≢true}
use Rattle.bay.specs.State.{BayState}
use Rattle.asm_formats.specs.Among.{IsAmong}
use Rattle.asm_formats.specs.Header.{Header}
use Rattle.asm_formats.specs.Regions.{units_in}
use Rattle.asm_formats.specs.Sets.{elements}
use Rattle.asm_formats.specs.Status.{Entry, Status, entry_of}
use Rattle.asm_placement.specs.Modes.{is_forced}
use Rattle.asm_placement.specs.Partners.{HasPartners}
use Rattle.asm_images.specs.Copies.{is_disk_in, is_kept}
use Rattle.asm_images.specs.Members.{Member, is_disk}
use Rattle.asm_images.specs.Stands.{HasEntryUnits}
use Rattle.asm_images.specs.RecordLaws.{ChangesModes, bare}
use Rattle.group_engine.proofs.Calls.{items}
use Rattle.group_engine.proofs.NextRecords.{same_disks_are_next}
use Rattle.record_laws.specs.Getting.{ChangesModesAlone, ModesAloneAreModes, ModesMayBeGot, MountedHasPartners, SameDisksMayBeGot, SameEntriesMayBeGot}
use Rattle.asm_images.proofs.Bare.{births_in, has_bare}
use Rattle.record_laws.proofs.Described.{modes_describe}
use Rattle.record_laws.proofs.Getting.{may_be_got}

same_units : (r s : Status) (k : Member) → ChangesModes r s → HasEntryUnits r k → HasEntryUnits s k
same_units r s k change had e is birth =
    let b = has_bare s.entries r.entries k.header.number e change.entries is in
    subst (λ (n : ℕ). n ≤ units_in k.header.shape k.disk.size) (sym (ap (λ (x : ℕ × ℕ × ℕ × Bool). x.2) b.same))
    (had b.entry b.is (sym (ap (λ (x : ℕ × ℕ × ℕ × Bool). x.1) b.same) ∙ birth))

pub modes_may_be_got : (s : BayState) → ModesMayBeGot s
modes_may_be_got s = λ n m next g kept c change.
    let r = m.register.value in
    may_be_got n m s g kept c.mounts next c.may c.turns change.births
    (λ e h. let f = births_in next.entries r.entries change.entries e h in inr (record { entry = f.0; among = f.1; same = sym f.2 }))
    (λ x left slots k among shape had. same_units r next k change had)
    (λ d h some is. change.kept d h is)
    (λ d h. (d, subst (λ (set : ℕ). IsAmong (elements set) d) (sym change.directories) h))
    (λ l are. modes_describe r next l g change (c.mounts.represents.describes l are))

-- ---- the same disks

pub still_serves : (b c : Bool) → (b ≡ true → c ≡ true) → not c ≡ true → not b ≡ true
still_serves true c forced is = absurd (false≢true (sym (ap not (forced refl)) ∙ is))
still_serves false c forced is = refl

module _ (r s : Status) (c : ChangesModesAlone r s) (d : ℕ) (h : Header) where
  was_kept : (o : Option Entry) → entry_of s.entries d ≡ o → is_disk_in (λ mode. not (is_forced mode)) d h o ≡ true → is_disk_in (λ mode. not (is_forced mode)) d h (entry_of r.entries d) ≡ true
  was_kept None at is = absurd (false≢true is)
  was_kept (Some f) at is =
      let p = and_parts (not (is_forced f.mode)) (is_disk d f.birth h) is in
      let e = has_bare s.entries r.entries d f c.disks.entries at in
      ap (is_disk_in (λ mode. not (is_forced mode)) d h) e.is
      ∙ (λ i. still_serves (is_forced e.entry.mode) (is_forced f.mode) (c.forced d e.entry f e.is at) p.0 i
      && (ap (λ (n : ℕ). is_disk d n h) (sym (ap (λ (x : ℕ × ℕ × ℕ × Bool). x.1) e.same)) ∙ p.1) i)

  kept_was : IsTrue (is_kept s d h) → IsTrue (is_kept r d h)
  unfolding is_kept
  kept_was is = was_kept (entry_of s.entries d) refl is

pub modes_alone : ModesAloneAreModes
modes_alone r s c partners = record {
  directories = c.disks.directories;
  births = c.births;
  entries = c.disks.entries;
  kept = λ d h is. kept_was r s c d h is;
  partners = partners;
}

pub same_disks_may_be_got : (s : BayState) → SameDisksMayBeGot s
same_disks_may_be_got s = λ n m next g kept mounts turns allowed change partners.
    modes_may_be_got s n m next g kept (record { mounts = mounts; may = same_disks_are_next m next mounts.whole allowed change.disks; turns = turns }) (modes_alone m.register.value next change partners)

-- ---- the same entries

pub mounted_has_partners : (s : BayState) → MountedHasPartners s
mounted_has_partners s = λ n m g kept mounts. let l = items n m s g kept mounts in (mounts.represents.describes l.0 l.1).partners

same_kept : (r s : Status) (d : ℕ) (h : Header) → s.entries ≡ r.entries → IsTrue (is_kept s d h) → IsTrue (is_kept r d h)
unfolding is_kept
same_kept r s d h same is = subst (λ (es : List Entry). IsTrue (is_disk_in (λ mode. not (is_forced mode)) d h (entry_of es d))) same is

pub same_entries_may_be_got : (s : BayState) → SameEntriesMayBeGot s
same_entries_may_be_got s = λ n m next g kept c same.
    let r = m.register.value in
    modes_may_be_got s n m next g kept c (record {
      directories = same.directories;
      births = same.births;
      entries = ap (λ (es : List Entry). map bare es) same.entries;
      kept = λ d h is. same_kept r next d h same.entries is;
      partners = subst (λ (es : List Entry). HasPartners es) (sym same.entries) (mounted_has_partners s n m g kept c.mounts);
    })
