use Rattle.std.proofs.Common.{ap}
use Rattle.refusal_lines.specs.Refusals.{meaning_of}
use Rattle.asm_group.specs.Names.{Bytes}
use Rattle.asm_group.specs.Refusal as r
use Rattle.session.specs.Entries.{disk_name}
use Rattle.session.proofs.Spellings.{says_as_is}
use Rattle.session.proofs.spelling.spelt_refusal.Goals as goal
use Rattle.session.proofs.spelling.spelt_refusal.Goals.{in-NoDisk+in_ok-spelt_disk-in-NoDisk, in-TooSmall+in_ok-spelt_disk-in-TooSmall, in-MissingDisks+in_ok-spelt_disk-in-MissingDisks, in-ReadFault+in_ok-spelt_disk-in-ReadFault, in-WriteFault+in_ok-spelt_disk-in-WriteFault, in-Dismounted+in_ok-spelt_disk-in-Dismounted, in-DiskState+in_ok-spelt_disk-in-DiskState, in-HoldsStatus+in_ok-spelt_disk-in-HoldsStatus, in-HoldsDirectories+in_ok-spelt_disk-in-HoldsDirectories, in_default}

pub returns : goal.returns
unfolding meaning_of
returns c = elim c.match-refusal.branch [
  | in-NoDisk+in_ok-spelt_disk-in-NoDisk w ↦ rw (w.result-is, w.in-NoDisk.is) (ap (λ (n : Bytes). r.NoDisk n) w.in_ok-spelt_disk-in-NoDisk.ensures)
  | in-TooSmall+in_ok-spelt_disk-in-TooSmall w ↦ rw (w.result-is, w.in-TooSmall.is) (ap (λ (n : Bytes). r.TooSmall n w.in-TooSmall.need) w.in_ok-spelt_disk-in-TooSmall.ensures)
  | in-MissingDisks+in_ok-spelt_disk-in-MissingDisks w ↦ rw (w.result-is, w.in-MissingDisks.is) (ap (λ (n : Bytes). r.MissingDisks n) w.in_ok-spelt_disk-in-MissingDisks.ensures)
  | in-ReadFault+in_ok-spelt_disk-in-ReadFault w ↦ rw (w.result-is, w.in-ReadFault.is) (ap (λ (n : Bytes). r.ReadFault n) w.in_ok-spelt_disk-in-ReadFault.ensures)
  | in-WriteFault+in_ok-spelt_disk-in-WriteFault w ↦ rw (w.result-is, w.in-WriteFault.is) (ap (λ (n : Bytes). r.WriteFault n) w.in_ok-spelt_disk-in-WriteFault.ensures)
  | in-Dismounted+in_ok-spelt_disk-in-Dismounted w ↦ rw (w.result-is, w.in-Dismounted.is) (ap (λ (n : Bytes). r.Dismounted n) w.in_ok-spelt_disk-in-Dismounted.ensures)
  | in-DiskState+in_ok-spelt_disk-in-DiskState w ↦ rw (w.result-is, w.in-DiskState.is) (ap (λ (n : Bytes). r.DiskState n w.in-DiskState.mode) w.in_ok-spelt_disk-in-DiskState.ensures)
  | in-HoldsStatus+in_ok-spelt_disk-in-HoldsStatus w ↦ rw (w.result-is, w.in-HoldsStatus.is) (ap (λ (n : Bytes). r.HoldsStatus n) w.in_ok-spelt_disk-in-HoldsStatus.ensures)
  | in-HoldsDirectories+in_ok-spelt_disk-in-HoldsDirectories w ↦ rw (w.result-is, w.in-HoldsDirectories.is) (ap (λ (n : Bytes). r.HoldsDirectories n) w.in_ok-spelt_disk-in-HoldsDirectories.ensures)
  | in_default w ↦ rw w.result-is (says_as_is (disk_name c.args.m.now) c.args.refusal w.in_default.not-NoDisk w.in_default.not-TooSmall w.in_default.not-MissingDisks w.in_default.not-ReadFault w.in_default.not-WriteFault
      w.in_default.not-Dismounted w.in_default.not-DiskState w.in_default.not-HoldsStatus w.in_default.not-HoldsDirectories)
]
