-- Reading lists, one item behind another.
use Rattle.std.proofs.Common.{◌≡◌, ℕ, ◌-◌, ◌<◌, min, List, [], ◌∷◌, ◌++◌, length, refl, ap, Some, None}
use Rattle.asm_grammar.specs.Word.{Mark, fit, near}
use Rattle.asm_grammar.specs.Reading.{Took, Failed, mapped, parse}
use Rattle.asm_grammar.specs.Reads.{items_from, items_of}
use Rattle.asm_grammar.proofs.Lists as lists
use Rattle.asm_world.specs.Grammar as g
use Rattle.asm_world.specs.Meaning.{dropped_of, new_disk_of, attribute_of}
use Rattle.asm_world.specs.Statement as s
use Rattle.group_sql.specs.Rows.{dropped_disk}

-- NAMES

pub no_more_names : (front : List (List ℕ)) (rest : List ℕ) (left : ℕ) → fit (Mark 44) rest ≡ None → items_from g.name (λ n. n) 44 front rest left ≡ Took front rest (min left (length rest - near (Mark 44) rest))
no_more_names = lists.no_more g.name (λ n. n) 44 (g.semicolon ∷ []) refl

pub one_more_name : (front : List (List ℕ)) (rest behind : List ℕ) (left : ℕ) (n next : List ℕ) (l : ℕ) → fit (Mark 44) rest ≡ Some (tt, behind)
    → parse g.name behind left ≡ Took n next l → items_from g.name (λ n. n) 44 front rest left ≡ items_from g.name (λ n. n) 44 (front ++ n ∷ []) next l
one_more_name front rest behind left n next l e f = lists.and_more g.name (λ n. n) 44 (g.semicolon ∷ []) refl front rest behind left n next l e (ap (λ o. mapped (λ n. n) o) f)

pub bad_name : (front : List (List ℕ)) (rest behind : List ℕ) (left l : ℕ) → fit (Mark 44) rest ≡ Some (tt, behind)
    → parse g.name behind left ≡ Failed l → items_from g.name (λ n. n) 44 front rest left ≡ Failed l
bad_name front rest behind left l e f = lists.bad_more g.name (λ n. n) 44 (g.semicolon ∷ []) refl front rest behind left l e (ap (λ o. mapped (λ n. n) o) f)

pub name_falls : (rest behind : List ℕ) (left : ℕ) (n next : List ℕ) (l : ℕ) → fit (Mark 44) rest ≡ Some (tt, behind)
    → parse g.name behind left ≡ Took n next l → length next < length rest
name_falls rest behind left n next l e f = lists.item_falls g.name (λ n. n) 44 (g.semicolon ∷ []) refl rest behind left n next l e (ap (λ o. mapped (λ n. n) o) f)

pub names_from : (rest : List ℕ) (left : ℕ) (n next : List ℕ) (l : ℕ) → parse g.name rest left ≡ Took n next l
    → mapped (λ v. items_of (λ n. n) v) (parse (g.listed g.name) rest left) ≡ items_from g.name (λ n. n) 44 (n ∷ []) next l
names_from rest left n next l f = lists.list_from g.name (λ n. n) 44 (g.semicolon ∷ []) refl rest left n next l (ap (λ o. mapped (λ n. n) o) f)

-- DROPPED DISKS

pub no_more_drops : (front : List s.DroppedDisk) (rest : List ℕ) (left : ℕ) → fit (Mark 44) rest ≡ None → items_from dropped_disk dropped_of 44 front rest left ≡ Took front rest (min left (length rest - near (Mark 44) rest))
no_more_drops = lists.no_more dropped_disk dropped_of 44 (g.semicolon ∷ []) refl

pub one_more_drop : (front : List s.DroppedDisk) (rest behind : List ℕ) (left : ℕ) (x : s.DroppedDisk) (next : List ℕ) (l : ℕ) → fit (Mark 44) rest ≡ Some (tt, behind)
    → mapped dropped_of (parse dropped_disk behind left) ≡ Took x next l → items_from dropped_disk dropped_of 44 front rest left ≡ items_from dropped_disk dropped_of 44 (front ++ x ∷ []) next l
one_more_drop = lists.and_more dropped_disk dropped_of 44 (g.semicolon ∷ []) refl

pub bad_drop : (front : List s.DroppedDisk) (rest behind : List ℕ) (left l : ℕ) → fit (Mark 44) rest ≡ Some (tt, behind)
    → mapped dropped_of (parse dropped_disk behind left) ≡ Failed l → items_from dropped_disk dropped_of 44 front rest left ≡ Failed l
bad_drop = lists.bad_more dropped_disk dropped_of 44 (g.semicolon ∷ []) refl

pub drop_falls : (rest behind : List ℕ) (left : ℕ) (x : s.DroppedDisk) (next : List ℕ) (l : ℕ) → fit (Mark 44) rest ≡ Some (tt, behind)
    → mapped dropped_of (parse dropped_disk behind left) ≡ Took x next l → length next < length rest
drop_falls = lists.item_falls dropped_disk dropped_of 44 (g.semicolon ∷ []) refl

pub drops_from : (rest : List ℕ) (left : ℕ) (x : s.DroppedDisk) (next : List ℕ) (l : ℕ) → mapped dropped_of (parse dropped_disk rest left) ≡ Took x next l
    → mapped (λ v. items_of dropped_of v) (parse (g.listed dropped_disk) rest left) ≡ items_from dropped_disk dropped_of 44 (x ∷ []) next l
drops_from = lists.list_from dropped_disk dropped_of 44 (g.semicolon ∷ []) refl

-- NEW DISKS

pub no_more_disks : (front : List s.NewDisk) (rest : List ℕ) (left : ℕ) → fit (Mark 44) rest ≡ None → items_from g.disk new_disk_of 44 front rest left ≡ Took front rest (min left (length rest - near (Mark 44) rest))
no_more_disks = lists.no_more g.disk new_disk_of 44 (g.semicolon ∷ []) refl

pub one_more_disk : (front : List s.NewDisk) (rest behind : List ℕ) (left : ℕ) (x : s.NewDisk) (next : List ℕ) (l : ℕ) → fit (Mark 44) rest ≡ Some (tt, behind)
    → mapped new_disk_of (parse g.disk behind left) ≡ Took x next l → items_from g.disk new_disk_of 44 front rest left ≡ items_from g.disk new_disk_of 44 (front ++ x ∷ []) next l
one_more_disk = lists.and_more g.disk new_disk_of 44 (g.semicolon ∷ []) refl

pub bad_disk : (front : List s.NewDisk) (rest behind : List ℕ) (left l : ℕ) → fit (Mark 44) rest ≡ Some (tt, behind)
    → mapped new_disk_of (parse g.disk behind left) ≡ Failed l → items_from g.disk new_disk_of 44 front rest left ≡ Failed l
bad_disk = lists.bad_more g.disk new_disk_of 44 (g.semicolon ∷ []) refl

pub disk_falls : (rest behind : List ℕ) (left : ℕ) (x : s.NewDisk) (next : List ℕ) (l : ℕ) → fit (Mark 44) rest ≡ Some (tt, behind)
    → mapped new_disk_of (parse g.disk behind left) ≡ Took x next l → length next < length rest
disk_falls = lists.item_falls g.disk new_disk_of 44 (g.semicolon ∷ []) refl

pub disks_from : (rest : List ℕ) (left : ℕ) (x : s.NewDisk) (next : List ℕ) (l : ℕ) → mapped new_disk_of (parse g.disk rest left) ≡ Took x next l
    → mapped (λ v. items_of new_disk_of v) (parse (g.listed g.disk) rest left) ≡ items_from g.disk new_disk_of 44 (x ∷ []) next l
disks_from = lists.list_from g.disk new_disk_of 44 (g.semicolon ∷ []) refl

-- ATTRIBUTES

pub no_more_attributes : (front : List s.Attribute) (rest : List ℕ) (left : ℕ) → fit (Mark 44) rest ≡ None → items_from g.attribute attribute_of 44 front rest left ≡ Took front rest (min left (length rest - near (Mark 44) rest))
no_more_attributes = lists.no_more g.attribute attribute_of 44 (g.semicolon ∷ []) refl

pub one_more_attribute : (front : List s.Attribute) (rest behind : List ℕ) (left : ℕ) (x : s.Attribute) (next : List ℕ) (l : ℕ) → fit (Mark 44) rest ≡ Some (tt, behind)
    → mapped attribute_of (parse g.attribute behind left) ≡ Took x next l → items_from g.attribute attribute_of 44 front rest left ≡ items_from g.attribute attribute_of 44 (front ++ x ∷ []) next l
one_more_attribute = lists.and_more g.attribute attribute_of 44 (g.semicolon ∷ []) refl

pub bad_attribute : (front : List s.Attribute) (rest behind : List ℕ) (left l : ℕ) → fit (Mark 44) rest ≡ Some (tt, behind)
    → mapped attribute_of (parse g.attribute behind left) ≡ Failed l → items_from g.attribute attribute_of 44 front rest left ≡ Failed l
bad_attribute = lists.bad_more g.attribute attribute_of 44 (g.semicolon ∷ []) refl

pub attribute_falls : (rest behind : List ℕ) (left : ℕ) (x : s.Attribute) (next : List ℕ) (l : ℕ) → fit (Mark 44) rest ≡ Some (tt, behind)
    → mapped attribute_of (parse g.attribute behind left) ≡ Took x next l → length next < length rest
attribute_falls = lists.item_falls g.attribute attribute_of 44 (g.semicolon ∷ []) refl

pub attributes_from : (rest : List ℕ) (left : ℕ) (x : s.Attribute) (next : List ℕ) (l : ℕ) → mapped attribute_of (parse g.attribute rest left) ≡ Took x next l
    → mapped (λ v. items_of attribute_of v) (parse (g.listed g.attribute) rest left) ≡ items_from g.attribute attribute_of 44 (x ∷ []) next l
attributes_from = lists.list_from g.attribute attribute_of 44 (g.semicolon ∷ []) refl
