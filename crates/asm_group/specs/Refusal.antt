-- Why a command is refused, and the line that says so.
use Rattle.std.specs.Prelude.{ℕ, List, [], ◌∷◌, ◌++◌, codes}
use Rattle.std.specs.Fmt.{decimal}
use Rattle.asm_group.specs.declared.Mode.{Mode}
use Rattle.asm_group.specs.declared.Mode.TheVariants.{Online, Offline, Syncing, Dropping, Forced}
use Rattle.asm_group.specs.Names.{Bytes}

-- of what there are too many
pub data Limited : Type 0 where
  Disks : Limited
  Groups : Limited
  Templates : Limited

-- A disk is meant by its name, an extent by its file and index.
pub data Refusal : Type 0 where
  Syntax : (at : ℕ) → Refusal
  NoGroup : Refusal
  GroupExists : Refusal
  AlreadyMounted : Refusal
  NoDisk : (text : Bytes) → Refusal
  DiskTaken : (path : Bytes) → Refusal
  TooFewGroups : (need have : ℕ) → Refusal
  TooSmall : (disk : Bytes) (need : ℕ) → Refusal
  NoMajority : (seen need : ℕ) → Refusal
  DirectoriesLost : Refusal
  MissingDisks : (disk : Bytes) → Refusal
  TwoGroups : Refusal
  Damaged : (path : Bytes) (block : ℕ) → Refusal
  NoName : Refusal
  NameTaken : Refusal
  NotDirectory : Refusal
  NotEmpty : Refusal
  HasAlias : Refusal
  SystemName : Refusal
  NoTemplate : Refusal
  SystemTemplate : Refusal
  BadAttribute : (name : Bytes) → Refusal
  BadPower : (n : ℕ) → Refusal
  BadRedundancy : Refusal
  NoSpace : (file index : ℕ) → Refusal
  DirectoryFull : (need free : ℕ) → Refusal
  OutOfFile : Refusal
  NotSectors : Refusal
  Lost : (file index : ℕ) → Refusal
  ReadFault : (disk : Bytes) → Refusal
  WriteFault : (disk : Bytes) → Refusal
  Dismounted : (disk : Bytes) → Refusal
  WouldLose : (file index : ℕ) → Refusal
  DiskState : (disk : Bytes) (mode : Mode) → Refusal
  HoldsStatus : (disk : Bytes) → Refusal
  TooMany : (kind : Limited) (limit : ℕ) → Refusal
  HostFault : (path : Bytes) → Refusal
  GroupNotEmpty : Refusal
  NoMemory : Refusal
  HoldsDirectories : (disk : Bytes) → Refusal

-- ---- texts

-- words with one space between them
abbrev pub spaced : List Bytes → Bytes
spaced [] = []
spaced (word ∷ []) = word
spaced (word ∷ next ∷ words) = word ++ 32 ∷ spaced (next ∷ words)

abbrev pub mode_text : Mode → Bytes
mode_text Online = codes "Online"
mode_text Offline = codes "Offline"
mode_text Syncing = codes "Syncing"
mode_text Dropping = codes "Dropping"
mode_text Forced = codes "Forced"

abbrev pub limited_text : Limited → Bytes
limited_text Disks = codes "disks"
limited_text Groups = codes "groups"
limited_text Templates = codes "templates"

-- error, its number, its name and its arguments
abbrev pub refused : ℕ → Bytes → List Bytes → List Bytes
refused number name arguments = codes "error" ∷ decimal number ∷ name ∷ arguments

abbrev pub refusal_words : Refusal → List Bytes
refusal_words (Syntax at) = refused 1 (codes "Syntax") (decimal at ∷ [])
refusal_words NoGroup = refused 2 (codes "NoGroup") []
refusal_words GroupExists = refused 3 (codes "GroupExists") []
refusal_words AlreadyMounted = refused 4 (codes "AlreadyMounted") []
refusal_words (NoDisk text) = refused 5 (codes "NoDisk") (text ∷ [])
refusal_words (DiskTaken path) = refused 6 (codes "DiskTaken") (path ∷ [])
refusal_words (TooFewGroups need have) = refused 7 (codes "TooFewGroups") (decimal need ∷ decimal have ∷ [])
refusal_words (TooSmall disk need) = refused 8 (codes "TooSmall") (disk ∷ decimal need ∷ [])
refusal_words (NoMajority seen need) = refused 9 (codes "NoMajority") (decimal seen ∷ decimal need ∷ [])
refusal_words DirectoriesLost = refused 10 (codes "DirectoriesLost") []
refusal_words (MissingDisks disk) = refused 11 (codes "MissingDisks") (disk ∷ [])
refusal_words TwoGroups = refused 12 (codes "TwoGroups") []
refusal_words (Damaged path block) = refused 13 (codes "Damaged") (path ∷ decimal block ∷ [])
refusal_words NoName = refused 14 (codes "NoName") []
refusal_words NameTaken = refused 15 (codes "NameTaken") []
refusal_words NotDirectory = refused 16 (codes "NotDirectory") []
refusal_words NotEmpty = refused 17 (codes "NotEmpty") []
refusal_words HasAlias = refused 18 (codes "HasAlias") []
refusal_words SystemName = refused 19 (codes "SystemName") []
refusal_words NoTemplate = refused 20 (codes "NoTemplate") []
refusal_words SystemTemplate = refused 21 (codes "SystemTemplate") []
refusal_words (BadAttribute name) = refused 22 (codes "BadAttribute") (name ∷ [])
refusal_words (BadPower n) = refused 23 (codes "BadPower") (decimal n ∷ [])
refusal_words BadRedundancy = refused 24 (codes "BadRedundancy") []
refusal_words (NoSpace file index) = refused 25 (codes "NoSpace") (decimal file ∷ decimal index ∷ [])
refusal_words (DirectoryFull need free) = refused 26 (codes "DirectoryFull") (decimal need ∷ decimal free ∷ [])
refusal_words OutOfFile = refused 27 (codes "OutOfFile") []
refusal_words NotSectors = refused 28 (codes "NotSectors") []
refusal_words (Lost file index) = refused 29 (codes "Lost") (decimal file ∷ decimal index ∷ [])
refusal_words (ReadFault disk) = refused 30 (codes "ReadFault") (disk ∷ [])
refusal_words (WriteFault disk) = refused 31 (codes "WriteFault") (disk ∷ [])
refusal_words (Dismounted disk) = refused 32 (codes "Dismounted") (disk ∷ [])
refusal_words (WouldLose file index) = refused 33 (codes "WouldLose") (decimal file ∷ decimal index ∷ [])
refusal_words (DiskState disk mode) = refused 34 (codes "DiskState") (disk ∷ mode_text mode ∷ [])
refusal_words (HoldsStatus disk) = refused 35 (codes "HoldsStatus") (disk ∷ [])
refusal_words (TooMany kind limit) = refused 36 (codes "TooMany") (limited_text kind ∷ decimal limit ∷ [])
refusal_words (HostFault path) = refused 37 (codes "HostFault") (path ∷ [])
refusal_words GroupNotEmpty = refused 38 (codes "GroupNotEmpty") []
refusal_words NoMemory = refused 39 (codes "NoMemory") []
refusal_words (HoldsDirectories disk) = refused 40 (codes "HoldsDirectories") (disk ∷ [])

-- the last line of a refused reply, without its line feed
abbrev pub refusal_line : Refusal → Bytes
refusal_line cause = spaced (refusal_words cause)
