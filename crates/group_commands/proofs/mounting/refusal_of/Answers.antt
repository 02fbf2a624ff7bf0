use Rattle.std.proofs.Common.{refl, ap}
use Rattle.refusal_lines.specs.Refusals.{meaning_of}
use Rattle.asm_group.specs.Names.{Bytes}
use Rattle.asm_group.specs.Refusal as r
use Rattle.group_commands.proofs.mounting.refusal_of.Goals as goal

pub returns-in-NoGroup : goal.returns-in-NoGroup
unfolding meaning_of
returns-in-NoGroup c = rw c.in-NoGroup.is refl

pub returns-in-TwoGroups : goal.returns-in-TwoGroups
unfolding meaning_of
returns-in-TwoGroups c = rw c.in-TwoGroups.is refl

pub returns-in-NoMajority : goal.returns-in-NoMajority
unfolding meaning_of
returns-in-NoMajority c = rw c.in-NoMajority.is refl

pub returns-in_ok-path_of-in-Damaged : goal.returns-in_ok-path_of-in-Damaged
unfolding meaning_of
returns-in_ok-path_of-in-Damaged c = rw c.in-Damaged.is (ap (λ (p : Bytes). r.Damaged p c.in-Damaged.block) c.in_ok-path_of-in-Damaged.ensures)

pub returns-in-DirectoriesLost : goal.returns-in-DirectoriesLost
unfolding meaning_of
returns-in-DirectoriesLost c = rw c.in-DirectoriesLost.is refl

pub returns-in_ok-spelt-in-MissingDisk : goal.returns-in_ok-spelt-in-MissingDisk
unfolding meaning_of
returns-in_ok-spelt-in-MissingDisk c = rw c.in-MissingDisk.is (ap (λ (n : Bytes). r.MissingDisks n) c.in_ok-spelt-in-MissingDisk.ensures)

pub returns-in_ok-spelt-in-Dead : goal.returns-in_ok-spelt-in-Dead
unfolding meaning_of
returns-in_ok-spelt-in-Dead c = rw c.in-Dead.is (ap (λ (n : Bytes). r.Dismounted n) c.in_ok-spelt-in-Dead.ensures)
