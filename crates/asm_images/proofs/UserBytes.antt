-- Homes lie behind the metadata of their disk.
use Rattle.std.proofs.Common.{◌≡◌, inl, inr, ⊎_elim, ℕ, zero, suc, ◌+◌, ◌-◌, ◌*◌, ◌/◌, ◌%◌, ◌<◌, ◌≤◌, Bool, true, ◌&&◌, List, [], ◌∷◌, ◌++◌, length, get_or, slice_index, refl, sym, ap, subst, ◌∙◌, Option, Some, None, arith, ◌==◌, mul-le-mul_right, mod-lt, ltb}
use Rattle.std.specs.Prelude.{nat_le}
use Rattle.std.specs.List.{list_all}
use Rattle.std.specs.Option.{option_or, unwrap_or}
use Rattle.std.proofs.lemmas.Bool.{and_parts, leb-true, ltb-true, cond_both, cases_eq, false≢true}
use Rattle.std.proofs.lemmas.Nat.{div-add-mod'}
use Rattle.std.proofs.lemmas.Option.{same_Some, none-some}
use Rattle.std.proofs.lemmas.List.{get_or-set_same, get_or-set_other}
use Rattle.asm_formats.specs.Among.{IsAmong}
use Rattle.asm_formats.specs.Bytes.{block_size}
use Rattle.asm_group.specs.Shape.{Shape, is_shape, is_unit_size, unit_sizes}
use Rattle.asm_formats.specs.Regions.{region_end, reserved_units}
use Rattle.asm_formats.specs.Status.{Status, Entry, entry_of}
use Rattle.asm_placement.specs.Layout.{units_of}
use Rattle.asm_formats.specs.Items.{Item, file_item, chunk_item, disk_item, rebalance_item, pending_item, templates_item, node_item, settings_item, marks_item, Home, Homes, chunk_len}
use Rattle.asm_placement.specs.Tables.{homes_in, home_of}
use Rattle.asm_placement.specs.Placed.{Placed, placed_copies, placed_extents, placed, fits_entry, is_inside, all_apart, places_fit}
use Rattle.asm_formats.specs.Places.{SameElsewhere}
use Rattle.asm_images.specs.Members.{ImageBytes, Member, all_members, written}
use Rattle.asm_group.specs.Group.{Group}
use Rattle.asm_images.specs.Sound.{SoundBy}
use Rattle.asm_images.specs.Steps.{KeepsByte, KeepsCopies}
use Rattle.asm_images.proofs.Membership.{among_left, among_right}
use Rattle.asm_images.proofs.Members.{member_is, member_shape}
use Rattle.asm_formats.proofs.Fields.{passes_if_all}

-- a home is among the placed ones
abbrev IsPlaced : List Placed → Home → Type 0
IsPlaced ps h = (p : Placed) × IsAmong ps p × (p.home ≡ h)

in_copies : (f i len copy : ℕ) (hs : Homes) (h : Home) → get_or hs copy None ≡ Some h → IsPlaced (placed_copies f i len hs) h
in_copies f i len copy [] h e = absurd (none-some h e)
in_copies f i len zero (None ∷ hs) h e = absurd (none-some h e)
in_copies f i len zero (Some x ∷ hs) h e = (record { file = f; index = i; home = x; len = len }, inl refl, same_Some x h e)
in_copies f i len (suc copy) (None ∷ hs) h e = in_copies f i len copy hs h e
in_copies f i len (suc copy) (Some x ∷ hs) h e = let p = in_copies f i len copy hs h e in (p.0, inr p.1, p.2)

in_extents : (step f i k copy : ℕ) (all : List Homes) (h : Home) → get_or (get_or all k []) copy None ≡ Some h → IsPlaced (placed_extents step f i all) h
in_extents step f i k copy [] h e = absurd (none-some h e)
in_extents step f i zero copy (hs ∷ all) h e =
    let p = in_copies f i (units_of step i) copy hs h e in
    (p.0, among_left (placed_copies f i (units_of step i) hs) (placed_extents step f (suc i) all) p.0 p.1, p.2)
in_extents step f i (suc k) copy (hs ∷ all) h e =
    let p = in_extents step f (suc i) k copy all h e in
    (p.0, among_right (placed_copies f i (units_of step i) hs) (placed_extents step f (suc i) all) p.0 p.1, p.2)

-- the homes of a chunk that is there are placed
in_chunk : (step : ℕ) (items : List Item) (f c k copy : ℕ) (h : Home) → get_or (get_or (unwrap_or (homes_in items f c) []) k []) copy None ≡ Some h → IsPlaced (placed step items) h
unfolding homes_in placed
in_chunk step [] f c k copy h e = absurd (none-some h e)
in_chunk step (chunk_item g d homes ∷ items) f c k copy h e =
    let later : get_or (get_or (unwrap_or (homes_in items f c) []) k []) copy None ≡ Some h → IsPlaced (placed step items) h = in_chunk step items f c k copy h in
    cond_both ((g == f) && (d == c)) (Some homes) None
    (λ (o : Option (List Homes)). get_or (get_or (unwrap_or (option_or o (homes_in items f c)) []) k []) copy None ≡ Some h → IsPlaced (placed_extents step g (d * chunk_len) homes ++ placed step items) h)
    (λ yes is. let p = in_extents step g (d * chunk_len) k copy homes h is in (p.0, among_left (placed_extents step g (d * chunk_len) homes) (placed step items) p.0 p.1, p.2))
    (λ out is. let p = later is in (p.0, among_right (placed_extents step g (d * chunk_len) homes) (placed step items) p.0 p.1, p.2)) e
in_chunk step (file_item g head ∷ items) f c k copy h e = in_chunk step items f c k copy h e
in_chunk step (disk_item d info ∷ items) f c k copy h e = in_chunk step items f c k copy h e
in_chunk step (rebalance_item power ∷ items) f c k copy h e = in_chunk step items f c k copy h e
in_chunk step (pending_item op ∷ items) f c k copy h e = in_chunk step items f c k copy h e
in_chunk step (templates_item ts ∷ items) f c k copy h e = in_chunk step items f c k copy h e
in_chunk step (node_item n node ∷ items) f c k copy h e = in_chunk step items f c k copy h e
in_chunk step (settings_item s ∷ items) f c k copy h e = in_chunk step items f c k copy h e
in_chunk step (marks_item g d marks ∷ items) f c k copy h e = in_chunk step items f c k copy h e

pub home_is_placed : (step : ℕ) (items : List Item) (f i copy : ℕ) (h : Home) → home_of items f i copy ≡ Some h → IsPlaced (placed step items) h
unfolding home_of
home_is_placed step items f i copy h e = in_chunk step items f (i / chunk_len) (i % chunk_len) copy h e

-- ---- behind the reserved units

pub all_of_list : {A : Type 0} (t : A → Bool) (xs : List A) (x : A) → list_all t xs ≡ true → IsAmong xs x → t x ≡ true
all_of_list t [] x all h = absurd h
all_of_list t (y ∷ xs) x all (inl e) = ap t e ∙ (and_parts (t y) (list_all t xs) all).0
all_of_list t (y ∷ xs) x all (inr h) = all_of_list t xs x (and_parts (t y) (list_all t xs) all).1 h

reserved_le : (s : Shape) (entries : List Entry) (p : Placed) → is_inside s entries p ≡ true → reserved_units s ≤ p.home.unit
reserved_le s entries p h = go (entry_of entries p.home.disk) h
  where
    go : (o : Option Entry) → fits_entry s p o ≡ true → reserved_units s ≤ p.home.unit
    go None e = absurd (false≢true e)
    go (Some e) k = leb-true (reserved_units s) p.home.unit (and_parts (nat_le (reserved_units s) p.home.unit) (nat_le (p.home.unit + p.len) e.units) k).0

-- the reserved units reach to the end of the directory region
pub reserved_cover : (s : Shape) → 0 < s.au → region_end s.dir_blocks * block_size ≤ reserved_units s * s.au
unfolding reserved_units
reserved_cover s au = omega (arith, div-add-mod' (region_end s.dir_blocks * block_size + (s.au - 1)) s.au, mod-lt (region_end s.dir_blocks * block_size + (s.au - 1)) au)

home_is_behind : (s : Shape) (r : List Entry) (items : List Item) (f i copy : ℕ) (h : Home) → 0 < s.au → places_fit s r items ≡ true → home_of items f i copy ≡ Some h → region_end s.dir_blocks * block_size ≤ h.unit * s.au
home_is_behind s r items f i copy h au fit e =
    let p = home_is_placed s.step items f i copy h e in
    let inside = all_of_list (is_inside s r) (placed s.step items) p.0 (and_parts (list_all (is_inside s r) (placed s.step items)) (all_apart (placed s.step items)) fit).0 p.1 in
    let le : reserved_units s ≤ h.unit = subst (λ (x : Home). reserved_units s ≤ x.unit) p.2 (reserved_le s r p.0 inside) in
    omega (arith, reserved_cover s au, mul-le-mul_right s.au le)

pub shape_au : (s : Shape) → is_shape s ≡ true → 0 < s.au
unfolding is_shape
shape_au s ok = ltb-true 0 s.au (passes_if_all (λ n. ltb 0 n) s.au unit_sizes (and_parts (is_unit_size s.au) _ ok).0 refl)

-- a write before the end of the directory region changes no byte of a copy whose home lies in the user units
pub copy_byte_kept : (id : ℕ) (old : ImageBytes) (slot : ℕ) (bytes : List ℕ) (at n : ℕ) → slot < length old → SameElsewhere (get_or old slot []) bytes at n
    → ((m : Member) → IsAmong (all_members id old) m → m.slot ≡ slot → at + n ≤ region_end m.header.shape.dir_blocks * block_size)
    → (r : Status) (items : List Item) (f i copy inner : ℕ) (h : Home) (m : Member) → places_fit m.header.shape r.entries items ≡ true → IsAmong (all_members id old) m → home_of items f i copy ≡ Some h
    → KeepsByte old (written old slot bytes) m h inner
copy_byte_kept id old slot bytes at n inside same below r items f i copy inner h m fit is_member home = ⊎_elim
    (λ (here : m.slot ≡ slot).
    let au = shape_au m.header.shape (member_shape m.header (member_is id old m is_member).allowed) in
    let behind = home_is_behind m.header.shape r.entries items f i copy h au fit home in
    let start = h.unit * m.header.shape.au + inner in
    let new_bytes : get_or (written old slot bytes) m.slot [] ≡ bytes = ap (λ (k : ℕ). get_or (written old slot bytes) k []) here ∙ get_or-set_same old slot bytes [] inside in
    let old_bytes : get_or old m.slot [] ≡ get_or old slot [] = ap (λ (k : ℕ). get_or old k []) here in
    ap (λ (l : List ℕ). slice_index l start) new_bytes ∙ same.behind start (omega (arith, below m is_member here, behind)) ∙ ap (λ (l : List ℕ). slice_index l start) (sym old_bytes))
    (λ differ. ap (λ (l : List ℕ). slice_index l (h.unit * m.header.shape.au + inner)) (get_or-set_other old slot m.slot bytes [] differ))
    (cases_eq m.slot slot)

pub metadata_write_keeps_copies : (id : ℕ) (old : ImageBytes) (groups : List Group) (completed : Option Status) (begun : List Status) → SoundBy id old groups completed begun
    → (slot : ℕ) (bytes : List ℕ) (at n : ℕ) → slot < length old → SameElsewhere (get_or old slot []) bytes at n
    → ((m : Member) → IsAmong (all_members id old) m → m.slot ≡ slot → at + n ≤ region_end m.header.shape.dir_blocks * block_size)
    → KeepsCopies id old (written old slot bytes) completed begun
metadata_write_keeps_copies id old groups completed begun sound slot bytes at n inside same below r items f i copy inner h m is_open is_member current lt =
    let g = (sound.covered r is_open.counts is_open.not_gone).described is_open.readable is_open.content is_open.found in
    let d = g.2 in
    let items_same : d.items ≡ items = same_Some d.items items (sym d.decodes ∙ is_open.decodes) in
    let shape = (d.disks m is_member).shape in
    let fit : places_fit m.header.shape r.entries items ≡ true = subst (λ (l : List Item). places_fit m.header.shape r.entries l ≡ true) items_same (subst (λ (s : Shape). places_fit s r.entries d.items ≡ true) (sym shape) d.describes.places) in
    copy_byte_kept id old slot bytes at n inside same below r items f i copy inner h m fit is_member current.home
