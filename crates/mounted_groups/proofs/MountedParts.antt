-- The group of the parts of a mount takes calls.
use Rattle.std.proofs.Common.{◌≡◌, ℕ, true, List, refl, sym, ap, subst, ◌∙◌}
use Rattle.std.specs.Prelude.{IsTrue}
use Rattle.bay.specs.State.{BayState}
use Rattle.asm_group.specs.Names.{Bytes}
use Rattle.asm_group.specs.Shape.{Shape, is_shape}
use Rattle.asm_formats.specs.Among.{IsAmong}
use Rattle.group_engine.proofs.catalog_laws.ToldRecords.{records_told}
use Rattle.group_engine.specs.Mounts.{AreCopiesOf, IsReady, IsWhole}
use Rattle.group_recovery.specs.Founds.{FoundDisks}
use Rattle.group_recovery.specs.Quorum.{IsQuorate}
use Rattle.group_recovery.specs.Recovering.{ArePartsOf, name_in}
use Rattle.group_recovery.specs.declared.finding.Headed.{Headed}
use Rattle.group_recovery.specs.declared.quorum.MountOption.{MountOption}
use Rattle.group_recovery.specs.declared.quorum.Quorate.{Quorate}
use Rattle.group_recovery.specs.declared.recovering.Parts.{Parts}
use Rattle.mounted_groups.specs.Holding.{IsHeldSlot}
use Rattle.mounted_groups.specs.Mounting.{HaveDiskNumbers, IsMountedBy, free_disks, has_group_name, mounted_of}
use Rattle.mounted_groups.proofs.Held.{left_is, member_found, name_is}
use Rattle.mounted_groups.proofs.Births.{birth_of}
use Rattle.mounted_groups.proofs.Disks.{sizes_are, slots_are}

module _ (q : Quorate) (now : ℕ) (parts : Parts) (t : BayState) (are : ArePartsOf q now parts t) where
  pub parts_small : HaveDiskNumbers parts.disks.items
  parts_small = are.disks.small

  -- the copies are those that the record names
  copies_are : AreCopiesOf parts.register.value parts.register.members parts.shape parts.store.copies
  copies_are = record {
    each = λ c among.
        let is = are.copies.each c among in
        record {
          named = is.named;
          member = is.member;
          attached = is.attached;
          slot = is.slot;
          entry = is.entry;
          pages = is.pages;
          sector = is.sector;
        };
    all = are.copies.all;
  }

  pub parts_whole : IsWhole (mounted_of parts)
  parts_whole =
      let c = are.catalog.catalog in
      let placed = are.register.members in
      record {
        are_tables = c.rules.tables;
        tables = records_told parts.store.table.records parts.catalog.tables c.rules.tables c.records;
        shape = subst (λ (s : Shape). IsTrue (is_shape s)) (sym are.catalog.shape_is) are.is_shape;
        units = c.units;
        status = are.register.status;
        alive = are.register.alive;
        written = are.register.written;
        group = are.register.group;
        reached = are.register.reached;
        numbers = λ i m at. (placed i m at).number;
        births = λ i m e at is. birth_of parts.register.value.entries i m e (placed i m at).entry (placed i m at).number is;
        copies = subst (λ (s : Shape). AreCopiesOf parts.register.value parts.register.members s parts.store.copies) (sym are.catalog.shape_is) copies_are;
        disks = slots_are parts.disks.items parts.register t are.disks (λ i m at. (placed i m at).number);
      }

  pub parts_ready : IsReady (mounted_of parts) t
  parts_ready = record {
    store = are.keeps;
    register = are.register.ready;
    sizes = sizes_are parts.disks.items parts.register t are.disks (λ i m at. (are.register.members i m at).number);
  }

  -- it has the name, and none of the disks of others
  module _ (option : MountOption) (found : FoundDisks) (held : List ℕ) (m : BayState) (quorate : IsQuorate option (free_disks held found) q m) where
    pub parts_mounted : (name : Bytes) → has_group_name (free_disks held found) name ≡ true → IsMountedBy name held (mounted_of parts) t
    parts_mounted name has = record {
      mounted = refl;
      named =
          let headed = (free_disks held found).headed in
          let first = ap (λ (id : ℕ). name_in id headed) (sym quorate.id_is) ∙ (ap (λ (l : List Headed). name_in q.id l) (sym quorate.headed_are) ∙ are.name) in
          name_is (name_in found.id headed) parts.name name first has;
      own = λ slot own held_is.
          let placed = are.register.members own.0 own.1 own.2 in
          let disk = member_found q.id q.headed.items own.1 placed.among in
          left_is held found.headed disk.0 (subst (λ (l : List Headed). IsAmong l disk.0) quorate.headed_are disk.1) (subst (λ (k : ℕ). IsHeldSlot held k) (own.3 ∙ disk.2) held_is);
      whole = parts_whole;
      ready = parts_ready;
    }
