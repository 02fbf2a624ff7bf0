-- What a group is for its users.
use Rattle.std.specs.Prelude.{ℕ, Bool, List}
use Rattle.asm_group.specs.declared.Stripe.{Stripe}
use Rattle.asm_group.specs.Names.{Bytes, ByNumber, ByName, ByPath}
use Rattle.asm_group.specs.Shape.{Shape}

-- a byte of a file: the last acknowledged value, or any, under a write that wasn't acknowledged
pub data Cell : Type 0 where
  Known : ℕ → Cell
  Free : Cell

-- what a path leads to: a directory, or a file by its system name or its alias
pub data TreeNode : Type 0 where
  Dir : TreeNode
  System : ℕ → TreeNode
  Alias : ℕ → TreeNode

pub record TreeEntry : Type 0 where
  -- the last part of the path as it was spelt
  pub name : Bytes
  pub node : TreeNode

pub record File : Type 0 where
  -- copies of each extent
  pub copies : ℕ
  pub stripe : Stripe
  pub type_name : Bytes
  pub incarnation : ℕ
  pub cells : List Cell

pub record Template : Type 0 where
  -- as it was spelt
  pub name : Bytes
  pub copies : ℕ
  pub stripe : Stripe
  pub system : Bool

-- the attributes that may be set at any time
pub record Attributes : Type 0 where
  -- seconds after which an offline disk is dropped
  pub repair : ℕ
  -- compatible.asm, compatible.rdbms and compatible.advm, each empty where it wasn't given
  pub asm : Bytes
  pub rdbms : Bytes
  pub advm : Bytes

pub record Group : Type 0 where
  pub name : Bytes
  -- its kind and creation attributes
  pub shape : Shape
  pub tree : ByPath TreeEntry
  pub files : ByNumber File
  pub templates : ByName Template
  pub attributes : Attributes
  -- the next incarnation
  pub next : ℕ
