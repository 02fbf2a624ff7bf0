-- The rows of lsattr and lstmpl, as the world's.
use Rattle.std.proofs.Common.{◌≡◌, List, [], ◌∷◌, length, map, refl, sym, ap, ◌∙◌, arith}
use Rattle.std.specs.FinMap as maps
use Rattle.std.specs.Ordering.{nat_cmp}
use Rattle.std.specs.Cmp.Lexicographic.{slice_cmp, nat_list_cmp_total}
use Rattle.asm_group.specs.Group.{Template}
use Rattle.asm_group.specs.Names.{Bytes, folded}
use Rattle.asm_group.specs.NewGroup.{templates_by_name}
use Rattle.asm_world.specs.Reports as world
use Rattle.asmcmd.proofs.Shown.{rows_are_lines}
use Rattle.group_of.specs.Groups.{group_of}
use Rattle.catalog_tables.proofs.template_directory.Listing.{Below, Up, ascends, up_of}
use Rattle.report_laws.specs.Rows.{AttributesAreWorlds, TemplatesAreWorlds}

pub attributes_are_worlds : AttributesAreWorlds
unfolding group_of
attributes_are_worlds name s t cells = rows_are_lines.attributes s t.templates.settings.attributes

-- ---- templates

abbrev Entry : Type 0
Entry = Bytes × Template

abbrev entry : Template → Entry
entry t = (folded t.name, t)

none_in : (es : List Entry) → length es ≡ 0 → es ≡ []
none_in [] e = refl
none_in (x ∷ es) e = absurd (omega (arith, e))

put_first : (t : Template) (ts : List Template) → Below t.name ts → maps.put (slice_cmp nat_cmp) (folded t.name) t (map entry ts) ≡ entry t ∷ map entry ts
put_first t [] below = refl
put_first t (u ∷ ts) below = rw below refl

-- those of a list that ascends are its own
entries_are : (ts : List Template) → Up ts → maps.entries (templates_by_name ts) ≡ map entry ts
entries_are [] up =
    none_in (maps.entries (templates_by_name [])) (sym (maps.len-entries (templates_by_name [])) ∙ maps.len-empty (slice_cmp nat_cmp) Template)
entries_are (t ∷ ts) up =
    maps.entries-insert nat_list_cmp_total (templates_by_name ts) (folded t.name) t
    ∙ (ap (maps.put (slice_cmp nat_cmp) (folded t.name) t) (entries_are ts up.1) ∙ put_first t ts up.0)

seconds : (ts : List Template) → map (λ (e : Entry). e.1) (map entry ts) ≡ ts
seconds [] = refl
seconds (t ∷ ts) = ap (λ (l : List Template). t ∷ l) (seconds ts)

in_order : (ts : List Template) → Up ts → maps.values (templates_by_name ts) ≡ ts
in_order ts up = ap (map (λ (e : Entry). e.1)) (entries_are ts up) ∙ seconds ts

pub templates_are_worlds : TemplatesAreWorlds
unfolding group_of
templates_are_worlds name s t cells tables =
    let ts = t.templates.templates in
    rows_are_lines.templates ts ∙ ap world.template_lines (sym (in_order ts (up_of ts (ascends ts tables.templates.templates))))
