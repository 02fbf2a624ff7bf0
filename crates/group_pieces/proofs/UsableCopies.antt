-- The place of one copy, as the code finds it.
use Rattle.std.proofs.Common.{◌≡◌, ℕ, ◌+◌, ◌-◌, ◌*◌, ◌<◌, ◌≤◌, Bool, true, false, cond, ltb, leb, get_or, refl, sym, ap, ◌∙◌, Option, Some, None, arith, mul-le-mul_right}
use Rattle.std.specs.Prelude.{◌&&◌, nat_lt}
use Rattle.std.proofs.lemmas.Bool.{and_parts, leb-true, false≢true, cond_both}
use Rattle.asm_group.specs.Shape.{Shape, is_shape, is_unit_size, unit_sizes}
use Rattle.asm_formats.specs.Sets.{has_bit}
use Rattle.asm_formats.specs.Items.{Home}
use Rattle.asm_formats.proofs.Fields.{passes_if_all}
use Rattle.asm_placement.specs.Layout.{units_of}
use Rattle.record_laws.specs.extent_copies.declared.extent.Extent.{Extent}
use Rattle.record_laws.specs.extent_copies.Extents.{can_be_read_at}
use Rattle.record_laws.specs.extent_copies.Usable.{is_usable_at, is_home_in_disk_set}
use Rattle.record_laws.specs.group_engine.Mounts.{MountedGroup, slot_at}
use Rattle.group_pieces.specs.declared.copies.Place.{Place}
use Rattle.group_pieces.specs.Usable.{FitsExtent, at_home, on_disk, place_on_copy}

if_same : {A : Type 0} (b : Bool) (x : A) → cond b x x ≡ x
if_same true x = refl
if_same false x = refl

pub no_copy : (m : MountedGroup) (x : Extent) (inner k : ℕ) → get_or x.homes k None ≡ None → place_on_copy m x inner k ≡ None
no_copy m x inner k none =
    ap (λ (o : Option Home). cond (can_be_read_at m.register.value.entries x k) (at_home m o x.units inner) None) none
    ∙ if_same (can_be_read_at m.register.value.entries x k) None

pub found_copy : (m : MountedGroup) (x : Extent) (inner k : ℕ) (h : Home) → get_or x.homes k None ≡ Some h
    → place_on_copy m x inner k ≡ cond (can_be_read_at m.register.value.entries x k) (at_home m (Some h) x.units inner) None
found_copy m x inner k h is = ap (λ (o : Option Home). cond (can_be_read_at m.register.value.entries x k) (at_home m o x.units inner) None) is

pub far_copy : (m : MountedGroup) (x : Extent) (inner k : ℕ) (h : Home) → get_or x.homes k None ≡ Some h → nat_lt h.disk 64 ≡ false → place_on_copy m x inner k ≡ None
far_copy m x inner k h is far =
    found_copy m x inner k h is
    ∙ ap (λ (o : Option Place). cond (can_be_read_at m.register.value.entries x k) o None) (cond_both (nat_lt h.disk 64) (on_disk m h x.units inner (slot_at m.disks h.disk)) None (λ o. o ≡ None) (λ yes. absurd (false≢true (sym far ∙ yes))) (λ no. refl))
    ∙ if_same (can_be_read_at m.register.value.entries x k) None

-- the disk alone is the set that the code asks with
read_as : (alone : ℕ) (m : MountedGroup) (x : Extent) (k : ℕ) (h : Home) → get_or x.homes k None ≡ Some h → has_bit alone h.disk ≡ true
    → is_usable_at alone m.register.value.entries x k ≡ can_be_read_at m.register.value.entries x k
read_as alone m x k h is bit =
    ap (λ (b : Bool). can_be_read_at m.register.value.entries x k && b) (ap (is_home_in_disk_set alone) is ∙ bit) ∙ and_true (can_be_read_at m.register.value.entries x k)
  where
    and_true : (b : Bool) → (b && true) ≡ b
    and_true true = refl
    and_true false = refl

pub unusable_copy : (alone : ℕ) (m : MountedGroup) (x : Extent) (inner k : ℕ) (h : Home) → get_or x.homes k None ≡ Some h → has_bit alone h.disk ≡ true
    → is_usable_at alone m.register.value.entries x k ≡ false → place_on_copy m x inner k ≡ None
unusable_copy alone m x inner k h is bit unread =
    ap (λ (b : Bool). cond b (at_home m (get_or x.homes k None) x.units inner) None) (sym (read_as alone m x k h is bit) ∙ unread)

pub usable_copy : (alone : ℕ) (m : MountedGroup) (x : Extent) (inner k : ℕ) (h : Home) → get_or x.homes k None ≡ Some h → has_bit alone h.disk ≡ true
    → is_usable_at alone m.register.value.entries x k ≡ true → place_on_copy m x inner k ≡ at_home m (Some h) x.units inner
usable_copy alone m x inner k h is bit read =
    ap (λ (b : Bool). cond b (at_home m (get_or x.homes k None) x.units inner) None) (sym (read_as alone m x k h is bit) ∙ read)
    ∙ ap (λ (o : Option Home). at_home m o x.units inner) is

-- ---- numbers

pub few_units : (step i : ℕ) → units_of step i ≤ 16
unfolding units_of
few_units step i = cond_both (ltb i step) 1 (cond (ltb i (2 * step)) 4 16) (λ (n : ℕ). n ≤ 16) (λ yes. omega arith)
    (λ no. cond_both (ltb i (2 * step)) 4 16 (λ (n : ℕ). n ≤ 16) (λ yes. omega arith) (λ no. omega arith))

pub unit_bound : (s : Shape) → is_shape s ≡ true → s.au ≤ 67108864
unfolding is_shape
unit_bound s ok = leb-true s.au 67108864 (passes_if_all (λ n. leb n 67108864) s.au unit_sizes (and_parts (is_unit_size s.au) _ ok).0 refl)

-- the end of a copy, in bytes, has a number of 64 bits
pub short_end : (s : Shape) (unit units : ℕ) → is_shape s ≡ true → unit < 4294967296 → units ≤ 16 → (unit + units) * s.au < 18446744073709551616
short_end s unit units ok small few =
    let most : (unit + units) * s.au ≤ (unit + units) * 67108864 = mul_le (unit + units) s.au 67108864 (unit_bound s ok) in
    omega (arith, most, small, few)
  where
    mul_le : (a b c : ℕ) → b ≤ c → a * b ≤ a * c
    mul_le a b c le = omega (arith, mul-le-mul_right a le)

pub short_byte : (s : Shape) (unit inner : ℕ) → is_shape s ≡ true → unit < 4294967296 → inner < 4294967296 → unit * s.au + inner < 18446744073709551616
short_byte s unit inner ok small few =
    let most : unit * s.au < 18446744073709551616 - 4294967296 = short_unit in
    omega (arith, most, few)
  where
    mul_le : (a b c : ℕ) → b ≤ c → a * b ≤ a * c
    mul_le a b c le = omega (arith, mul-le-mul_right a le)

    short_unit : unit * s.au < 18446744073709551616 - 4294967296
    short_unit = omega (arith, mul_le unit s.au 67108864 (unit_bound s ok), small)

-- a byte of an extent has a number of 32 bits
pub short_inner : (s : Shape) (i inner n : ℕ) → is_shape s ≡ true → FitsExtent s i inner n → inner < 4294967296
short_inner s i inner n ok piece =
    let most : units_of s.step i * s.au ≤ 16 * s.au = mul-le-mul_right s.au (few_units s.step i) in
    omega (arith, piece.inside, most, unit_bound s ok)

-- a byte of a disk, by its unit, has a number of 64 bits
pub small_byte : (unit au inner : ℕ) → unit < 4294967296 → au < 4294967296 → inner < 4294967296 → unit * au + inner < 18446744073709551616
small_byte unit au inner small few short =
    let most : au * unit ≤ 4294967295 * unit = mul-le-mul_right unit (omega arith) in
    omega (arith, most, small, short)
