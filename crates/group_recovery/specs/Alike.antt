-- Whether the members of an id are disks of one group.
use Rattle.std.specs.Prelude.{ℕ, ◌==◌, ◌&&◌, ◌||◌, not, Bool, true, false, List, [], ◌∷◌, find, if◌then◌else◌, Option, Some, None}
use Rattle.std.specs.Option.{option_map, option_or}
use Rattle.asm_group.specs.Names.{is_same_name}
use Rattle.asm_group.specs.Shape.{Shape}
use Rattle.asm_group.specs.declared.GroupKind.{GroupKind}
use Rattle.asm_group.specs.declared.GroupKind.TheVariants.{External, Normal, High}
use Rattle.asm_formats.specs.Header.{Header}
use Rattle.group_recovery.specs.declared.finding.Headed.{Headed}

abbrev pub is_same_kind : GroupKind → GroupKind → Bool
is_same_kind External External = true
is_same_kind Normal Normal = true
is_same_kind High High = true
is_same_kind kind other = false

abbrev pub is_same_shape : Shape → Shape → Bool
is_same_shape s t = is_same_kind s.kind t.kind && ((s.au == t.au) && ((s.sector == t.sector) && ((s.step == t.step) && (s.dir_blocks == t.dir_blocks))))

-- one name, without regard to case, and one shape
abbrev pub are_alike : Header → Header → Bool
are_alike h k = is_same_name h.group k.group && is_same_shape h.shape k.shape

-- the other disk has the id of this one, and another name or shape, or the same number and birth
abbrev pub clashes : Headed → Headed → Bool
clashes h k = (k.header.id == h.header.id) && (not (are_alike h.header k.header) || ((k.header.number == h.header.number) && (k.header.birth == h.header.birth)))

-- the slot of a member of the id that clashes with an earlier one
abbrev pub first_stranger : ℕ → List Headed → Option ℕ
first_stranger id [] = None
first_stranger id (h ∷ hs) =
    if h.header.id == id then option_or (option_map (λ (k : Headed). k.slot) (find (clashes h) hs)) (first_stranger id hs)
    else first_stranger id hs

-- the shape of the first member of the id
abbrev pub shape_in : ℕ → List Headed → Option Shape
shape_in id [] = None
shape_in id (h ∷ hs) = if h.header.id == id then Some h.header.shape else shape_in id hs
