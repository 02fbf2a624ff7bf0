-- The failure groups of new disks, disk by disk.
use Rattle.std.proofs.Common.{◌≡◌, ℕ, suc, ◌+◌, ◌-◌, ◌<◌, Bool, true, false, cond, not, ◌&&◌, ◌||◌, List, [], ◌∷◌, length, get_or, take, drop, refl, sym, ap, ◌∙◌, Option, Some, None, arith, eqb}
use Rattle.std.specs.Prelude.{◌==◌, if◌then◌else◌}
use Rattle.std.specs.List.{cons_option, filter_map, list_any}
use Rattle.std.proofs.lemmas.Bool.{ne_eqb}
use Rattle.std.proofs.lemmas.List.{take_all}
use Rattle.asm_group.specs.Names.{Bytes, is_same_name}
use Rattle.asm_world.specs.Causes.{rows_of_failgroup}
use Rattle.asm_world.specs.NewDisks.{PlannedDisk, count_names, regular_groups}
use Rattle.asm_world.specs.Reports.{DiskRow}
use Rattle.asm_world.specs.Statement.{FailgroupKind}
use Rattle.new_disks.specs.Kinds.{adds_group, is_row_in, regular_names}

-- the disks behind the first
abbrev pub behind : List PlannedDisk → List PlannedDisk
behind ds = take (length ds - 1) (drop 1 ds)

behind_is : (d : PlannedDisk) (es : List PlannedDisk) → behind (d ∷ es) ≡ es
behind_is d es = take_all (length (d ∷ es) - 1) es (omega arith)

one_more : (d : PlannedDisk) (es : List PlannedDisk) → regular_groups (d ∷ es) ≡ cond (adds_group d es) (regular_groups es + 1) (regular_groups es)
one_more d es = by d.quorum (list_any (is_same_name d.failgroup) (regular_names es)) refl
  where
    by : (q known : Bool) → list_any (is_same_name d.failgroup) (regular_names es) ≡ known
        → count_names (cons_option (if q then None else Some d.failgroup) (regular_names es)) ≡ cond (not q && not known) (regular_groups es + 1) (regular_groups es)
    by true known is = refl
    by false true is = rw is refl
    by false false is = rw is refl

pub more_here : (ds : List PlannedDisk) (e : PlannedDisk) (n : ℕ) → 0 < length ds → e ≡ get_or ds 0 e → true ≡ adds_group e (behind ds) → n ≡ regular_groups (behind ds) → n + 1 ≡ regular_groups ds
more_here [] e n some at is count = absurd (omega (arith, some))
more_here (d ∷ es) e n some at is count =
    let same : true ≡ adds_group d es = is ∙ ap (adds_group e) (behind_is d es) ∙ ap (λ (x : PlannedDisk). adds_group x es) at in
    ap (λ (k : ℕ). k + 1) (count ∙ ap regular_groups (behind_is d es)) ∙ ap (λ (b : Bool). cond b (regular_groups es + 1) (regular_groups es)) same ∙ sym (one_more d es)

pub same_here : (ds : List PlannedDisk) (e : PlannedDisk) (n : ℕ) → 0 < length ds → e ≡ get_or ds 0 e → false ≡ adds_group e (behind ds) → n ≡ regular_groups (behind ds) → n ≡ regular_groups ds
same_here [] e n some at is count = absurd (omega (arith, some))
same_here (d ∷ es) e n some at is count =
    let same : false ≡ adds_group d es = is ∙ ap (adds_group e) (behind_is d es) ∙ ap (λ (x : PlannedDisk). adds_group x es) at in
    count ∙ ap regular_groups (behind_is d es) ∙ ap (λ (b : Bool). cond b (regular_groups es + 1) (regular_groups es)) same ∙ sym (one_more d es)

-- ---- disks of a failure group

counted : (kind : Option FailgroupKind) (name : Bytes) (rows : List DiskRow) → list_any (is_row_in kind name) rows ≡ not (length (rows_of_failgroup rows kind name) == 0)
counted kind name [] = refl
counted kind name (row ∷ rows) = by (is_row_in kind name row) (counted kind name rows)
  where
    by : (b : Bool) → list_any (is_row_in kind name) rows ≡ not (length (rows_of_failgroup rows kind name) == 0)
        → (b || list_any (is_row_in kind name) rows) ≡ not (length (cons_option (if b then Some row else None) (rows_of_failgroup rows kind name)) == 0)
    by true later = sym (ap not (ne_eqb (suc (length (rows_of_failgroup rows kind name))) 0 (λ e. absurd (omega (arith, e)))))
    by false later = later

pub some_in : (b : Bool) (kind : Option FailgroupKind) (name : Bytes) (rows : List DiskRow) → b ≡ list_any (is_row_in kind name) rows → b ≡ not (length (rows_of_failgroup rows kind name) == 0)
some_in b kind name rows is = is ∙ counted kind name rows
