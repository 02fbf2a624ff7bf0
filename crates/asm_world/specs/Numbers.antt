-- The numbers of refusals.
use Rattle.std.specs.Prelude.{ℕ}
use Rattle.asm_group.specs.Refusal as r

-- the number that is printed of a refusal
abbrev pub refusal_number : r.Refusal → ℕ
refusal_number (r.Syntax at) = 1
refusal_number r.NoGroup = 2
refusal_number r.GroupExists = 3
refusal_number r.AlreadyMounted = 4
refusal_number (r.NoDisk text) = 5
refusal_number (r.DiskTaken path) = 6
refusal_number (r.TooFewGroups need have) = 7
refusal_number (r.TooSmall disk need) = 8
refusal_number (r.NoMajority seen need) = 9
refusal_number r.DirectoriesLost = 10
refusal_number (r.MissingDisks disk) = 11
refusal_number r.TwoGroups = 12
refusal_number (r.Damaged path block) = 13
refusal_number r.NoName = 14
refusal_number r.NameTaken = 15
refusal_number r.NotDirectory = 16
refusal_number r.NotEmpty = 17
refusal_number r.HasAlias = 18
refusal_number r.SystemName = 19
refusal_number r.NoTemplate = 20
refusal_number r.SystemTemplate = 21
refusal_number (r.BadAttribute name) = 22
refusal_number (r.BadPower n) = 23
refusal_number r.BadRedundancy = 24
refusal_number (r.NoSpace file index) = 25
refusal_number (r.DirectoryFull need free) = 26
refusal_number r.OutOfFile = 27
refusal_number r.NotSectors = 28
refusal_number (r.Lost file index) = 29
refusal_number (r.ReadFault disk) = 30
refusal_number (r.WriteFault disk) = 31
refusal_number (r.Dismounted disk) = 32
refusal_number (r.WouldLose file index) = 33
refusal_number (r.DiskState disk mode) = 34
refusal_number (r.HoldsStatus disk) = 35
refusal_number (r.TooMany kind limit) = 36
refusal_number (r.HostFault path) = 37
refusal_number r.GroupNotEmpty = 38
refusal_number r.NoMemory = 39
refusal_number (r.HoldsDirectories disk) = 40

-- ---- numbers by name, of refusals that may come by what lies below the world

abbrev pub no_group : ℕ
no_group = 2

abbrev pub no_disk : ℕ
no_disk = 5

abbrev pub disk_taken : ℕ
disk_taken = 6

abbrev pub too_few_groups : ℕ
too_few_groups = 7

abbrev pub too_small : ℕ
too_small = 8

abbrev pub no_majority : ℕ
no_majority = 9

abbrev pub directories_lost : ℕ
directories_lost = 10

abbrev pub missing_disks : ℕ
missing_disks = 11

abbrev pub two_groups : ℕ
two_groups = 12

abbrev pub damaged : ℕ
damaged = 13

abbrev pub no_space : ℕ
no_space = 25

abbrev pub directory_full : ℕ
directory_full = 26

abbrev pub not_sectors : ℕ
not_sectors = 28

abbrev pub lost : ℕ
lost = 29

abbrev pub read_fault : ℕ
read_fault = 30

abbrev pub write_fault : ℕ
write_fault = 31

abbrev pub dismounted : ℕ
dismounted = 32

abbrev pub would_lose : ℕ
would_lose = 33

abbrev pub host_fault : ℕ
host_fault = 37

abbrev pub holds_directories : ℕ
holds_directories = 40
