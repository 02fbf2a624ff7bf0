-- What a command asks for.
use Rattle.std.specs.Prelude.{ℕ, Bool, Option}
use Rattle.asm_group.specs.Names.{Bytes}
use Rattle.asm_world.specs.Statement.{Statement}

-- Paths are as written; they are read from the session's place.
pub data Verb : Type 0 where
  DbCreate : (path : Bytes) (size : ℕ) (template : Option Bytes) → Verb
  DbWrite : (path : Bytes) (at : ℕ) (bytes : Bytes) → Verb
  DbFill : (path : Bytes) (at size byte : ℕ) → Verb
  DbRead : (path : Bytes) (at size : ℕ) → Verb
  DbResize : (path : Bytes) (size : ℕ) → Verb
  Ls : (long : Bool) (path : Option Bytes) → Verb
  Cd : (path : Bytes) → Verb
  Pwd : Verb
  MakeDirectory : (path : Bytes) → Verb
  Remove : (path : Bytes) → Verb
  CopyFile : (source target : Bytes) → Verb
  Usage : (path : Option Bytes) → Verb
  Find : (path pattern : Bytes) → Verb
  MakeAlias : (path alias : Bytes) → Verb
  RemoveAlias : (path : Bytes) → Verb
  ListGroups : (group : Option Bytes) → Verb
  ListDisks : (group : Bytes) → Verb
  ListTemplates : (group : Bytes) → Verb
  ListAttributes : (group : Bytes) → Verb
  OfflineDisk : (group disk : Bytes) → Verb
  OnlineDisk : (group disk : Bytes) → Verb
  SetPower : (group : Bytes) (power : ℕ) → Verb

pub data Command : Type 0 where
  Said : Statement → Command
  Asked : Verb → Command
  -- a text that is no command: so many of its bytes begin one
  Unreadable : (at : ℕ) → Command
