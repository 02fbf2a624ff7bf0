use Rattle.std.proofs.Common.{◌≡◌, ◌∙◌, List, true, refl, sym, ap, subst, arith}
use Rattle.asm_formats.specs.Status.{Entry, Status}
use Rattle.asm_formats.specs.Among.{IsAmong}
use Rattle.directory_store.specs.change_directory.declared.copy.DirCopy.{DirCopy}
use Rattle.status_register.specs.Holders.{is_of}
use Rattle.group_engine.specs.Copying.{IsOneMore}
use Rattle.group_engine.specs.Mounts.{MountedGroup}
use Rattle.group_engine.proofs.Copied.{first_among}
use Rattle.group_engine.proofs.Seen.{seen}
use Rattle.group_engine.proofs.mounted.Mounted.copy_on.Goals as goal

pub returns : goal.returns
returns c =
    let was = seen c.self.inside in
    let member = c.in_ok-member.member in
    let first = c.in_ok-first.first.now in
    let entry : is_of was.register.value.entries member ≡ true = subst (λ (es : List Entry). is_of es member ≡ true) (c.entries.ensures.entries ∙ ap (λ (r : Status). r.entries) c.value.ensures)
    (sym c.is_of_entry.ensures ∙ c.if-not-is_of_entry.false) in
    subst (λ (v : MountedGroup). IsOneMore v c.args.to (record { number = c.args.to; slot = member.slot; dir_blocks = first.dir_blocks; sector = first.sector })) c.self.view_is
    (record {
      small = c.requires.small;
      number = refl;
      member = member;
      attached = sym c.in_ok-member.ensures.member;
      slot = refl;
      entry = entry;
      first = first;
      stored = subst (λ (l : List DirCopy). IsAmong l first) c.copies.ensures (first_among c.copies.result.now first c.in_ok-first.ensures.value);
      pages = refl;
      sector = refl;
      image = c.in_ok-attached.attached;
      at = c.in_ok-attached.was;
      room = omega (arith, c.if-attached-end.false, c.region_bytes-end.ensures);
    })
