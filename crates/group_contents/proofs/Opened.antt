-- Files by their paths.
use Rattle.std.proofs.Common.{◌≡◌, ℕ, Option, Some, None, sym, ap, ◌∙◌}
use Rattle.std.specs.Prelude.{IfSome}
use Rattle.std.specs.Option.{option_and_then}
use Rattle.asm_group.specs.Names.{Path}
use Rattle.asm_base.specs.declared.kinds.ExtentId.{ExtentId}
use Rattle.file_extents.specs.file_directory.Files.{head_at}
use Rattle.file_extents.specs.catalog_tables.Tables.{Tables}
use Rattle.file_extents.specs.group_engine.Mounts.{MountedGroup}
use Rattle.file_extents.specs.group_pieces.Usable.{HasNoUsableCopy}
use Rattle.group_contents.specs.Files.{LostIn, head_named, named_file_number}
use Rattle.group_contents.specs.declared.opening.OpenFile.{OpenFile}

module _ (t : Tables) (path : Path) where
  -- no file is at the path
  pub no_file : None ≡ named_file_number t path → head_named t path ≡ None
  no_file none = sym (ap (λ (o : Option ℕ). option_and_then (λ (f : ℕ). head_at t.files f) o) none)

  pub no_head : (f : ℕ) → Some f ≡ named_file_number t path → head_at t.files f ≡ None → head_named t path ≡ None
  no_head f is none = sym (ap (λ (o : Option ℕ). option_and_then (λ (n : ℕ). head_at t.files n) o) is) ∙ none

-- an extent of the file is lost
pub lost_in : (m : MountedGroup) (file : OpenFile) (r : Option ExtentId) → IfSome r (HasNoUsableCopy m) → IfSome r (λ x. x.file ≡ file.file) → IfSome r (LostIn m file)
lost_in m file None lost of = tt
lost_in m file (Some x) lost of = (lost, of)
