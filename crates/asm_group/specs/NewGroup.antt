-- A group as its creation leaves it.
use Rattle.std.specs.Prelude.{ℕ, Bool, true, List, [], ◌∷◌, ◌++◌, map, codes}
use Rattle.std.specs.FinMap as maps
use Rattle.asm_group.specs.declared.GroupKind.{GroupKind}
use Rattle.asm_group.specs.declared.GroupKind.TheVariants.{External, Normal, High}
use Rattle.asm_group.specs.declared.Stripe.{Stripe}
use Rattle.asm_group.specs.declared.Stripe.TheVariants.{Coarse, Fine}
use Rattle.asm_group.specs.Names.{Bytes, ByName, folded}
use Rattle.asm_group.specs.Shape.{Shape}
use Rattle.asm_group.specs.Group.{Template, Attributes, Group}

-- the copies that a template has where it says none: UNPROTECTED, MIRROR and HIGH
abbrev pub usual_copies : GroupKind → ℕ
usual_copies External = 1
usual_copies Normal = 2
usual_copies High = 3

-- a control file has three copies but in an EXTERNAL group
abbrev pub control_copies : GroupKind → ℕ
control_copies External = 1
control_copies _ = 3

abbrev pub system_template : ℕ → Stripe → Bytes → Template
system_template copies stripe name = record { name = name; copies = copies; stripe = stripe; system = true }

-- in folded order, as CONTROLFILE stands among them
unfoldable pub system_templates : GroupKind → List Template
system_templates kind =
    map usual (codes "ARCHIVELOG" ∷ codes "AUTOBACKUP" ∷ codes "BACKUPSET" ∷ codes "CHANGETRACKING" ∷ [])
    ++ system_template (control_copies kind) Fine (codes "CONTROLFILE")
    ∷ map usual (codes "DATAFILE" ∷ codes "DATAGUARDCONFIG" ∷ codes "DUMPSET" ∷ codes "FLASHBACK" ∷ codes "ONLINELOG" ∷ codes "PARAMETERFILE" ∷ codes "TEMPFILE" ∷ codes "XTRANSPORT" ∷ [])
  where
    usual : Bytes → Template
    usual name = system_template (usual_copies kind) Coarse name

-- templates by their folded names
abbrev pub templates_by_name : List Template → ByName Template
templates_by_name templates = maps.from_entries (map (λ (t : Template). (folded t.name, t)) templates)

-- 3.6 hours, and no compatibility given
abbrev pub usual_attributes : Attributes
usual_attributes = record { repair = 12960; asm = []; rdbms = []; advm = [] }

-- the empty group of this name and shape, with these attributes
unfoldable pub new_group : Bytes → Shape → Attributes → Group
new_group name shape attributes = record {
  name = name;
  shape = shape;
  tree = maps.empty;
  files = maps.empty;
  templates = templates_by_name (system_templates shape.kind);
  attributes = attributes;
  next = 1;
}
