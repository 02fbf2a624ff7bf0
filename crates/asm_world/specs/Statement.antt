-- What a statement says.
use Rattle.std.specs.Prelude.{ℕ, Bool, List, Option}
use Rattle.asm_group.specs.declared.GroupKind.{GroupKind}
use Rattle.asm_group.specs.declared.Stripe.{Stripe}
use Rattle.asm_group.specs.Names.{Bytes}

-- the kind of a failure group, where a statement says one
pub data FailgroupKind : Type 0 where
  Quorum : FailgroupKind
  Regular : FailgroupKind

pub record NewDisk : Type 0 where
  pub path : Bytes
  pub name : Option Bytes
  -- in bytes
  pub size : Option ℕ
  pub force : Bool

pub record NewFailgroup : Type 0 where
  pub quorum : Bool
  pub name : Option Bytes
  pub disks : List NewDisk

pub record Rebalance : Type 0 where
  pub power : Option ℕ
  pub wait : Bool

pub record Attribute : Type 0 where
  pub name : Bytes
  pub value : Bytes

-- the disks that a statement names
pub data NamedDisks : Type 0 where
  Named : List Bytes → NamedDisks
  InFailgroup : Option FailgroupKind → Bytes → NamedDisks
  All : NamedDisks

pub record DroppedDisk : Type 0 where
  pub name : Bytes
  pub force : Bool

-- the redundancy of a template
pub data Redundancy : Type 0 where
  Unprotected : Redundancy
  Mirror : Redundancy
  High : Redundancy

pub record TemplateWords : Type 0 where
  pub redundancy : Option Redundancy
  pub stripe : Option Stripe

-- Paths are as written.
pub data Clause : Type 0 where
  AddDisks : (groups : List NewFailgroup) (rebalance : Option Rebalance) → Clause
  AddTemplate : (name : Bytes) (words : TemplateWords) → Clause
  AddDirectory : (path : Bytes) → Clause
  AddAlias : (alias path : Bytes) → Clause
  DropDisks : (disks : List DroppedDisk) (rebalance : Option Rebalance) → Clause
  DropFailgroup : (kind : Option FailgroupKind) (name : Bytes) (force : Bool) (rebalance : Option Rebalance) → Clause
  DropTemplate : (name : Bytes) → Clause
  DropDirectory : (path : Bytes) → Clause
  DropAlias : (path : Bytes) → Clause
  DropFile : (path : Bytes) → Clause
  UndropDisks : Clause
  ResizeAll : (size : Option ℕ) (rebalance : Option Rebalance) → Clause
  ResizeDisk : (name : Bytes) (size : Option ℕ) (rebalance : Option Rebalance) → Clause
  Rebalancing : (rebalance : Rebalance) → Clause
  Check : Clause
  Mount : (force : Bool) → Clause
  Dismount : (force : Bool) → Clause
  Online : (disks : NamedDisks) (wait : Bool) → Clause
  -- after so many minutes an offline disk is dropped, where they are said
  Offline : (disks : NamedDisks) (minutes : Option ℕ) → Clause
  ModifyTemplate : (name : Bytes) (words : TemplateWords) → Clause
  RenameDirectory : (old new : Bytes) → Clause
  RenameAlias : (old new : Bytes) → Clause
  SetAttribute : (attribute : Attribute) → Clause

pub data Statement : Type 0 where
  CreateDisk : (path : Bytes) (size : ℕ) → Statement
  CreateGroup : (name : Bytes) (kind : Option GroupKind) (groups : List NewFailgroup) (attributes : List Attribute) → Statement
  DropGroup : (name : Bytes) (contents : Bool) → Statement
  Alter : (name : Bytes) (clause : Clause) → Statement
