-- What a refusal says, where disks have these names by number.
use Rattle.std.specs.Prelude.{ℕ}
use Rattle.asm_group.specs.Names.{Bytes}
use Rattle.asm_group.specs.Refusal as said_by
use Rattle.refusal_lines.specs.declared.refusal.DiskRef.{DiskRef}
use Rattle.refusal_lines.specs.declared.refusal.DiskRef.TheVariants as disk
use Rattle.refusal_lines.specs.declared.refusal.Limited.{Limited}
use Rattle.refusal_lines.specs.declared.refusal.Limited.TheVariants as limited
use Rattle.refusal_lines.specs.declared.refusal.Refusal.{Refusal}
use Rattle.refusal_lines.specs.declared.refusal.Refusal.TheVariants as cause

-- the name of a disk
abbrev pub referred_disk_name : (ℕ → Bytes) → DiskRef → Bytes
referred_disk_name names (disk.Number n) = names n
referred_disk_name names (disk.Spelt text) = text

abbrev pub limited_said : Limited → said_by.Limited
limited_said limited.Disks = said_by.Disks
limited_said limited.Groups = said_by.Groups
limited_said limited.Templates = said_by.Templates

unfoldable pub meaning_of : (ℕ → Bytes) → Refusal → said_by.Refusal
meaning_of names (cause.Syntax at) = said_by.Syntax at
meaning_of names cause.NoGroup = said_by.NoGroup
meaning_of names cause.GroupExists = said_by.GroupExists
meaning_of names cause.AlreadyMounted = said_by.AlreadyMounted
meaning_of names (cause.NoDisk text) = said_by.NoDisk (referred_disk_name names text)
meaning_of names (cause.DiskTaken path) = said_by.DiskTaken path
meaning_of names (cause.TooFewGroups need have) = said_by.TooFewGroups need have
meaning_of names (cause.TooSmall disk need) = said_by.TooSmall (referred_disk_name names disk) need
meaning_of names (cause.NoMajority seen need) = said_by.NoMajority seen need
meaning_of names cause.DirectoriesLost = said_by.DirectoriesLost
meaning_of names (cause.MissingDisks disk) = said_by.MissingDisks (referred_disk_name names disk)
meaning_of names cause.TwoGroups = said_by.TwoGroups
meaning_of names (cause.Damaged path block) = said_by.Damaged path block
meaning_of names cause.NoName = said_by.NoName
meaning_of names cause.NameTaken = said_by.NameTaken
meaning_of names cause.NotDirectory = said_by.NotDirectory
meaning_of names cause.NotEmpty = said_by.NotEmpty
meaning_of names cause.HasAlias = said_by.HasAlias
meaning_of names cause.SystemName = said_by.SystemName
meaning_of names cause.NoTemplate = said_by.NoTemplate
meaning_of names cause.SystemTemplate = said_by.SystemTemplate
meaning_of names (cause.BadAttribute name) = said_by.BadAttribute name
meaning_of names (cause.BadPower n) = said_by.BadPower n
meaning_of names cause.BadRedundancy = said_by.BadRedundancy
meaning_of names (cause.NoSpace extent) = said_by.NoSpace extent.file extent.index
meaning_of names (cause.DirectoryFull need free) = said_by.DirectoryFull need free
meaning_of names cause.OutOfFile = said_by.OutOfFile
meaning_of names cause.NotSectors = said_by.NotSectors
meaning_of names (cause.Lost extent) = said_by.Lost extent.file extent.index
meaning_of names (cause.ReadFault disk) = said_by.ReadFault (referred_disk_name names disk)
meaning_of names (cause.WriteFault disk) = said_by.WriteFault (referred_disk_name names disk)
meaning_of names (cause.Dismounted disk) = said_by.Dismounted (referred_disk_name names disk)
meaning_of names (cause.WouldLose extent) = said_by.WouldLose extent.file extent.index
meaning_of names (cause.DiskState disk mode) = said_by.DiskState (referred_disk_name names disk) mode
meaning_of names (cause.HoldsStatus disk) = said_by.HoldsStatus (referred_disk_name names disk)
meaning_of names (cause.TooMany kind limit) = said_by.TooMany (limited_said kind) limit
meaning_of names (cause.HostFault path) = said_by.HostFault path
meaning_of names cause.GroupNotEmpty = said_by.GroupNotEmpty
meaning_of names cause.NoMemory = said_by.NoMemory
meaning_of names (cause.HoldsDirectories disk) = said_by.HoldsDirectories (referred_disk_name names disk)
