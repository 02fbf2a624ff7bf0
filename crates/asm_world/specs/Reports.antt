-- The lines of the reports.
use Rattle.std.specs.Prelude.{ℕ, Bool, true, false, ◌==◌, List, [], ◌∷◌, ◌++◌, map, codes, if◌then◌else◌}
use Rattle.std.specs.Fmt.{decimal}
use Rattle.asm_group.specs.declared.GroupKind.{GroupKind}
use Rattle.asm_group.specs.declared.GroupKind.TheVariants.{External, Normal, High}
use Rattle.asm_group.specs.declared.Mode.{Mode}
use Rattle.asm_group.specs.declared.Stripe.{Stripe}
use Rattle.asm_group.specs.declared.Stripe.TheVariants.{Coarse, Fine}
use Rattle.asm_group.specs.Names.{Bytes}
use Rattle.asm_group.specs.Group.{Template, Attributes}
use Rattle.asm_group.specs.Shape.{Shape}
use Rattle.asm_group.specs.Refusal.{spaced, mode_text}

abbrev pub yes_or_no : Bool → Bytes
yes_or_no true = codes "Y"
yes_or_no false = codes "N"

abbrev pub copies_text : ℕ → Bytes
copies_text copies = if copies == 1 then codes "UNPROT" else (if copies == 2 then codes "MIRROR" else codes "HIGH")

abbrev pub stripe_text : Stripe → Bytes
stripe_text Coarse = codes "COARSE"
stripe_text Fine = codes "FINE"

abbrev pub kind_text : GroupKind → Bytes
kind_text External = codes "EXTERN"
kind_text Normal = codes "NORMAL"
kind_text High = codes "HIGH"

-- a row of ls
pub data Listed : Type 0 where
  Directory : (name : Bytes) → Listed
  ListedSystemName : (type_name : Bytes) (copies : ℕ) (stripe : Stripe) (name : Bytes) → Listed
  AliasName : (type_name : Bytes) (copies : ℕ) (stripe : Stripe) (name target : Bytes) → Listed

abbrev pub short_line : Listed → Bytes
short_line (Directory name) = name ++ 47 ∷ []
short_line (ListedSystemName type_name copies stripe name) = name
short_line (AliasName type_name copies stripe name target) = name

abbrev pub long_line : Listed → Bytes
long_line (Directory name) = spaced (codes "DIR" ∷ codes "-" ∷ codes "-" ∷ codes "N" ∷ (name ++ 47 ∷ []) ∷ [])
long_line (ListedSystemName type_name copies stripe name) = spaced (type_name ∷ copies_text copies ∷ stripe_text stripe ∷ codes "Y" ∷ name ∷ [])
long_line (AliasName type_name copies stripe name target) =
    spaced (type_name ∷ copies_text copies ∷ stripe_text stripe ∷ codes "N" ∷ name ∷ codes "=>" ∷ target ∷ [])

abbrev pub ls_lines : Bool → List Listed → List Bytes
ls_lines false rows = map short_line rows
ls_lines true rows = codes "Type Redund Striped Sys Name" ∷ map long_line rows

-- a row of lsdg: totals in units
pub record GroupRow : Type 0 where
  pub rebalancing : Bool
  pub total : ℕ
  pub free : ℕ
  pub offline : ℕ

abbrev pub group_head : Bytes
group_head = codes "State Type Rebal Sector Block AU Total Free Offline Name"

abbrev pub mounted_line : Bytes → Shape → GroupRow → Bytes
mounted_line name shape row = spaced (codes "MOUNTED" ∷ kind_text shape.kind ∷ yes_or_no row.rebalancing ∷ decimal shape.sector ∷ codes "4096" ∷ decimal shape.au
    ∷ decimal row.total ∷ decimal row.free ∷ decimal row.offline ∷ name ∷ [])

abbrev pub dismounted_line : Bytes → Bytes
dismounted_line name = codes "DISMOUNTED - - - - - - - - " ++ name

-- a row of lsdsk: totals in units
pub record DiskRow : Type 0 where
  pub number : ℕ
  pub mode : Mode
  pub failgroup : Bytes
  pub quorum : Bool
  pub total : ℕ
  pub free : ℕ
  pub name : Bytes

abbrev pub disk_kind : Bool → Bytes
disk_kind true = codes "QUORUM"
disk_kind false = codes "REGULAR"

abbrev pub disk_line : DiskRow → Bytes
disk_line d = spaced (decimal d.number ∷ mode_text d.mode ∷ d.failgroup ∷ disk_kind d.quorum ∷ decimal d.total ∷ decimal d.free ∷ d.name ∷ [])

abbrev pub disk_lines : List DiskRow → List Bytes
disk_lines disks = codes "Number Mode Failgroup Kind Total Free Name" ∷ map disk_line disks

abbrev pub template_line : Template → Bytes
template_line t = spaced (t.name ∷ copies_text t.copies ∷ stripe_text t.stripe ∷ yes_or_no t.system ∷ [])

abbrev pub template_lines : List Template → List Bytes
template_lines templates = codes "Name Redund Striped Sys" ∷ map template_line templates

-- 11.2 where none was given
abbrev pub version_text : Bytes → Bytes
version_text [] = codes "11.2"
version_text (b ∷ bytes) = b ∷ bytes

-- in folded order
abbrev pub attribute_lines : Shape → Attributes → List Bytes
attribute_lines shape a =
    codes "Name Value"
    ∷ spaced (codes "au_size" ∷ decimal shape.au ∷ [])
    ∷ spaced (codes "compatible.advm" ∷ version_text a.advm ∷ [])
    ∷ spaced (codes "compatible.asm" ∷ version_text a.asm ∷ [])
    ∷ spaced (codes "compatible.rdbms" ∷ version_text a.rdbms ∷ [])
    ∷ spaced (codes "dir_blocks" ∷ decimal shape.dir_blocks ∷ [])
    ∷ spaced (codes "disk_repair_time" ∷ (decimal a.repair ++ codes "s") ∷ [])
    ∷ spaced (codes "extent_step" ∷ decimal shape.step ∷ [])
    ∷ spaced (codes "sector_size" ∷ decimal shape.sector ∷ [])
    ∷ []

-- in bytes
abbrev pub du_lines : ℕ → ℕ → List Bytes
du_lines used mirrored = codes "Used Mirror_used" ∷ spaced (decimal used ∷ decimal mirrored ∷ []) ∷ []

abbrev pub check_line : ℕ → ℕ → Bytes
check_line extents not_full = spaced (codes "check" ∷ decimal extents ∷ decimal not_full ∷ [])
