-- A span of one extent whose cells are put anew.
use Rattle.std.proofs.Common.{◌≡◌, ⊎_elim, ℕ, zero, suc, ◌+◌, ◌-◌, ◌*◌, ◌<◌, ◌≤◌, Bool, true, false, cond, ◌&&◌, ◌||◌, ltb, leb, List, [], ◌∷◌, length, map, get_or, slice_index, refl, sym, ap, subst, ◌∙◌, Option, Some, None, arith, IsTrue, ◌==◌}
use Rattle.std.specs.Prelude.{find}
use Rattle.std.specs.FinMap as maps
use Rattle.std.specs.Cmp.{unsigned_tied}
use Rattle.std.proofs.lemmas.Cmp.{nat_cmp_total}
use Rattle.asm_group.specs.Names.{ByNumber}
use Rattle.asm_group.specs.declared.Stripe.{Stripe}
use Rattle.asm_images.proofs.Membership.{among_map}
use Rattle.std.specs.List.{range_with_len}
use Rattle.std.specs.Option.{option_map, is_some}
use Rattle.std.proofs.lemmas.Bool.{cond_both, cond-true, cond-false, eqb-true, eq-eqb, ne_eqb, and_parts, cases_Bool, ltb-true, leb-true, cases_eq, cases_lt, both_ways}
use Rattle.std.proofs.lemmas.Option.{same_Some}
use Rattle.asm_formats.specs.Among.{IsAmong}
use Rattle.asm_group.specs.Shape.{Shape, is_unit_size, is_step, is_shape}
use Rattle.asm_formats.specs.Status.{Status}
use Rattle.asm_formats.specs.Items.{Item, FileHead, Home}
use Rattle.asm_placement.specs.Tables.{head_of}
use Rattle.asm_images.specs.Tables.{pending_of}
use Rattle.asm_placement.specs.Naming.{is_pending}
use Rattle.asm_images.specs.Describing.{extent_size, LiesIn, DescribesGroup, SameFile}
use Rattle.asm_placement.specs.Layout.{file_byte, has_extent_by_size, IsLayout}
use Rattle.asm_placement.proofs.Places.{one_place_of}
use Rattle.asm_images.specs.Members.{ImageBytes, Member, all_members, byte}
use Rattle.asm_images.specs.Stands.{IsDiskOf, HoldsBytes}
use Rattle.asm_images.specs.Copies.{IsCurrent}
use Rattle.asm_group.specs.Group.{Cell, Known, Free, File, Group}
use Rattle.asm_images.specs.Sound.{SoundBy}
use Rattle.asm_images.specs.Steps.{IsOpen, IsNarrower}
use Rattle.asm_images.specs.Spans.{Span, is_inside_span, inner_of, cell_or, cells_with, file_with, files_with, group_with, freed, settled, FitsIn, IsPiece, IsSpanSettled}
use Rattle.asm_images.proofs.Describing.{Carries, carried}
use Rattle.asm_images.proofs.Members.{member_is, member_shape}

-- ---- the first number of a range that passes

pub record IsFound (test : ℕ → Bool) (from len k : ℕ) : Type 0 where
  pub passes : test k ≡ true
  pub low : from ≤ k
  pub high : k < from + len

pub found : (test : ℕ → Bool) (from len k : ℕ) → find test (range_with_len from len) ≡ Some k → IsFound test from len k
found test from zero k e = absurd cc
found test from (suc len) k e =
    let later : find test (range_with_len (from + 1) len) ≡ Some k → IsFound test (from + 1) len k = found test (from + 1) len k in
    cond_both (test from) (Some from) (find test (range_with_len (from + 1) len)) (λ (o : Option ℕ). o ≡ Some k → IsFound test from (suc len) k)
    (λ yes is. let same : from ≡ k = same_Some from k is in record { passes = subst (λ (n : ℕ). test n ≡ true) same yes; low = omega arith; high = omega arith })
    (λ no is. let f = later is in record { passes = f.passes; low = omega (arith, f.low); high = omega (arith, f.high) }) e

pub not_found : (test : ℕ → Bool) (from len k : ℕ) → find test (range_with_len from len) ≡ None → from ≤ k → k < from + len → test k ≡ false
not_found test from zero k e low high = absurd (omega arith)
not_found test from (suc len) k e low high =
    let later : find test (range_with_len (from + 1) len) ≡ None → from + 1 ≤ k → k < from + 1 + len → test k ≡ false = not_found test (from + 1) len k in
    cond_both (test from) (Some from) (find test (range_with_len (from + 1) len)) (λ (o : Option ℕ). o ≡ None → test k ≡ false)
    (λ yes is. absurd cc)
    (λ no is. ⊎_elim (λ (same : from ≡ k). subst (λ (n : ℕ). test n ≡ false) same no) (λ differ. later is (omega (arith, differ)) (omega arith)) (cases_eq from k)) e

-- ---- cells

pub length_with : (s : Shape) (file : File) (x : Span) (put : ℕ → Cell) (o : ℕ) (cells : List Cell) → length (cells_with s file x put o cells) ≡ length cells
length_with s file x put o [] = refl
length_with s file x put o (cell ∷ cells) = ap suc (length_with s file x put (suc o) cells)

pub cell_with : (s : Shape) (file : File) (x : Span) (put : ℕ → Cell) (o k n : ℕ) (cells : List Cell) → n ≡ o + k → k < length cells → get_or (cells_with s file x put o cells) k Free ≡ cell_or put (get_or cells k Free) (inner_of s file x n)
cell_with s file x put o k n [] is lt = absurd (omega arith)
cell_with s file x put o zero n (cell ∷ cells) is lt = let same : o ≡ n = omega arith in ap (λ (j : ℕ). cell_or put cell (inner_of s file x j)) same
cell_with s file x put o (suc k) n (cell ∷ cells) is lt = cell_with s file x put (suc o) k n cells (omega arith) (omega arith)

not_known : (b : ℕ) → Free ≡ Known b → ⊥
not_known b e = cc

pub past_end : (s : Shape) (file : File) (x : Span) (put : ℕ → Cell) (o k : ℕ) (cells : List Cell) → length cells ≤ k → get_or (cells_with s file x put o cells) k Free ≡ Free
past_end s file x put o k [] le = refl
past_end s file x put o zero (cell ∷ cells) le = absurd (omega arith)
past_end s file x put o (suc k) (cell ∷ cells) le = past_end s file x put (suc o) k cells (omega arith)

-- where a known cell of the changed file comes from
pub data Source (s : Shape) (file : File) (x : Span) (put : ℕ → Cell) (o b : ℕ) : Type 0 where
  was_put : (k : ℕ) → inner_of s file x o ≡ Some k → put k ≡ Known b → Source s file x put o b
  was_there : inner_of s file x o ≡ None → get_or file.cells o Free ≡ Known b → Source s file x put o b

source : (s : Shape) (file : File) (x : Span) (put : ℕ → Cell) (o b : ℕ) → get_or (cells_with s file x put 0 file.cells) o Free ≡ Known b → Source s file x put o b
source s file x put o b e = ⊎_elim
    (λ lt. go (inner_of s file x o) refl (sym (cell_with s file x put 0 o o file.cells (omega arith) lt) ∙ e))
    (λ le. absurd (not_known b (sym (past_end s file x put 0 o file.cells le) ∙ e)))
    (cases_lt o (length file.cells))
  where
    go : (found : Option ℕ) → inner_of s file x o ≡ found → cell_or put (get_or file.cells o Free) (inner_of s file x o) ≡ Known b → Source s file x put o b
    go None is cell = was_there is (subst (λ (p : Option ℕ). cell_or put (get_or file.cells o Free) p ≡ Known b) is cell)
    go (Some k) is cell = was_put k is (subst (λ (p : Option ℕ). cell_or put (get_or file.cells o Free) p ≡ Known b) is cell)

-- ---- files and groups

-- where a file of the changed group comes from
data FileSource (g : Group) (x : Span) (put : ℕ → Cell) (f : ℕ) (new : File) : Type 0 where
  of_span : (file : File) → f ≡ x.file → maps.get g.files f ≡ Some file → new ≡ file_with g.shape x put file → FileSource g x put f new
  of_others : (f ≡ x.file → ⊥) → maps.get g.files f ≡ Some new → FileSource g x put f new

with_file : (s : Shape) (x : Span) (put : ℕ → Cell) (files : ByNumber File) (f : ℕ) (o : Option File) → maps.get files x.file ≡ o
    → maps.get (files_with s x put files o) f ≡ cond (f == x.file) (option_map (file_with s x put) (maps.get files f)) (maps.get files f)
with_file s x put files f None none = cond_both (f == x.file) (option_map (file_with s x put) (maps.get files f)) (maps.get files f) (λ (r : Option File). maps.get files f ≡ r)
    (λ yes. let here : maps.get files f ≡ None = ap (λ (n : ℕ). maps.get files n) (eqb-true f x.file yes) ∙ none in here ∙ sym (ap (option_map (file_with s x put)) here))
    (λ no. refl)
with_file s x put files f (Some file) some =
    maps.get-insert nat_cmp_total files x.file (file_with s x put file) f ∙ ap (λ (b : Bool). cond b (Some (file_with s x put file)) (maps.get files f)) (unsigned_tied f x.file)
    ∙ cond_both (f == x.file) (option_map (file_with s x put) (maps.get files f)) (maps.get files f)
    (λ (r : Option File). cond (f == x.file) (Some (file_with s x put file)) (maps.get files f) ≡ r)
    (λ yes. let here : maps.get files f ≡ Some file = ap (λ (n : ℕ). maps.get files n) (eqb-true f x.file yes) ∙ some in
    cond-true (f == x.file) (Some (file_with s x put file)) (maps.get files f) yes ∙ sym (ap (option_map (file_with s x put)) here))
    (λ no. cond-false (f == x.file) (Some (file_with s x put file)) (maps.get files f) no)

-- the changed group's file, where a file is put
pub file_of : (g : Group) (x : Span) (put : ℕ → Cell) (f : ℕ)
    → maps.get (group_with x put g).files f ≡ cond (f == x.file) (option_map (file_with g.shape x put) (maps.get g.files f)) (maps.get g.files f)
unfolding group_with
file_of g x put f = with_file g.shape x put g.files f (maps.get g.files x.file) refl

file_source : (g : Group) (x : Span) (put : ℕ → Cell) (f : ℕ) (new : File) → maps.get (group_with x put g).files f ≡ Some new → FileSource g x put f new
file_source g x put f new e = ⊎_elim
    (λ same. go same (maps.get g.files f) refl (sym (cond-true (f == x.file) (option_map (file_with g.shape x put) (maps.get g.files f)) (maps.get g.files f) (eq-eqb f x.file same)) ∙ sym (file_of g x put f) ∙ e))
    (λ differ. of_others differ (sym (cond-false (f == x.file) (option_map (file_with g.shape x put) (maps.get g.files f)) (maps.get g.files f) (ne_eqb f x.file differ)) ∙ sym (file_of g x put f) ∙ e))
    (cases_eq f x.file)
  where
    go : f ≡ x.file → (o : Option File) → maps.get g.files f ≡ o → option_map (file_with g.shape x put) (maps.get g.files f) ≡ Some new → FileSource g x put f new
    go same None is e = absurd (let h : None ≡ Some new = subst (λ (o : Option File). option_map (file_with g.shape x put) o ≡ Some new) is e in cc)
    go same (Some file) is e = of_span file same is (sym (same_Some (file_with g.shape x put file) new (subst (λ (o : Option File). option_map (file_with g.shape x put) o ≡ Some new) is e)))

-- but for its cells a file stays
record KeepsFile (g : Group) (f : ℕ) (new : File) : Type 0 where
  file : File
  is : maps.get g.files f ≡ Some file
  stripe : file.stripe ≡ new.stripe
  copies : file.copies ≡ new.copies
  len : length file.cells ≡ length new.cells

keeps_file : (g : Group) (x : Span) (put : ℕ → Cell) (f : ℕ) (new : File) → FileSource g x put f new → KeepsFile g f new
keeps_file g x put f new (of_span file same is e) = record {
  file = file;
  is = is;
  stripe = ap (λ (n : File). n.stripe) (sym e);
  copies = ap (λ (n : File). n.copies) (sym e);
  len = sym (length_with g.shape file x put 0 file.cells) ∙ ap (λ (n : File). length n.cells) (sym e);
}
keeps_file g x put f new (of_others differ is) = record { file = new; is = is; stripe = refl; copies = refl; len = refl }

same_file_put : (s : Shape) (x : Span) (put : ℕ → Cell) (head : Option FileHead) (o : Option File) → SameFile head o → SameFile head (option_map (file_with s x put) o)
same_file_put s x put None None h = h
same_file_put s x put None (Some file) h = absurd h
same_file_put s x put (Some head) None h = h
same_file_put s x put (Some head) (Some file) h = (h.0, (h.1.0, h.1.1, h.1.2, h.1.3, h.1.4 ∙ sym (length_with s file x put 0 file.cells)))

same_file : (g : Group) (x : Span) (put : ℕ → Cell) (f : ℕ) (head : Option FileHead) → SameFile head (maps.get g.files f) → SameFile head (maps.get (group_with x put g).files f)
same_file g x put f head h = subst (λ (o : Option File). SameFile head o) (sym (file_of g x put f))
    (cond_both (f == x.file) (option_map (file_with g.shape x put) (maps.get g.files f)) (maps.get g.files f) (λ (o : Option File). SameFile head o)
    (λ yes. same_file_put g.shape x put head (maps.get g.files f) h) (λ no. h))

some_same : (s : Shape) (x : Span) (put : ℕ → Cell) (o : Option File) → is_some (option_map (file_with s x put) o) ≡ is_some o
some_same s x put None = refl
some_same s x put (Some file) = refl

still_there : (g : Group) (x : Span) (put : ℕ → Cell) (f : ℕ) → is_some (maps.get (group_with x put g).files f) ≡ is_some (maps.get g.files f)
still_there g x put f = ap (λ (o : Option File). is_some o) (file_of g x put f)
    ∙ cond_both (f == x.file) (option_map (file_with g.shape x put) (maps.get g.files f)) (maps.get g.files f) (λ (o : Option File). is_some o ≡ is_some (maps.get g.files f))
    (λ yes. some_same g.shape x put (maps.get g.files f)) (λ no. refl)

describes_with : (r : Status) (items : List Item) (g : Group) (x : Span) (put : ℕ → Cell) → DescribesGroup r items g → DescribesGroup r items (group_with x put g)
unfolding group_with
describes_with r items g x put d = record {
  tree = d.tree;
  tree_rules = d.tree_rules;
  templates = d.templates;
  attributes = d.attributes;
  next = d.next;
  files = λ f. same_file g x put f (head_of items f) (d.files f);
  extents = λ f i copy new is has lt.
      let k = keeps_file g x put f new (file_source g x put f new is) in
      d.extents f i copy k.file k.is
      (subst (λ (t : Stripe). IsTrue (has_extent_by_size t g.shape.au g.shape.step (length k.file.cells) i)) (sym k.stripe) (subst (λ (n : ℕ). IsTrue (has_extent_by_size new.stripe g.shape.au g.shape.step n i)) (sym k.len) has))
      (omega (arith, lt, k.copies));
  owned = λ f c has. subst (λ (b : Bool). IsTrue (b || is_pending f (pending_of items))) (sym (still_there g x put f)) (d.owned f c has);
  disks = d.disks;
  partners = d.partners;
  room = d.room;
  extent_rules = d.extent_rules;
  places = d.places;
  regular = d.regular;
}

disk_with : (r : Status) (g : Group) (x : Span) (put : ℕ → Cell) (m : Member) → IsDiskOf g r m → IsDiskOf (group_with x put g) r m
unfolding group_with
disk_with r g x put m d = record { claims = d.claims; statuses = d.statuses; directories = d.directories; name = d.name; shape = d.shape; units = d.units }

pub layout_of : (s : Shape) → is_shape s ≡ true → IsLayout s.au s.step
unfolding is_shape
layout_of s ok = let p = and_parts (is_unit_size s.au) _ ok in record { unit_allowed = p.0; step_allowed = (and_parts (is_step s.step) _ p.1).0 }

-- ---- what the bytes have to be

-- Under an open content, outside the span bytes stay, and in it a cell that is put known is of the byte that stands.
record PutsRight (old new : ImageBytes) (ms : List Member) (r : Status) (items : List Item) (x : Span) (put : ℕ → Cell) : Type 0 where
  outside : (f i copy inner : ℕ) (h : Home) (m : Member) → IsAmong ms m → IsCurrent r items f i copy h m → inner < extent_size m.header.shape i → is_inside_span x f i inner ≡ false
      → byte new m.slot (h.unit * m.header.shape.au + inner) ≡ byte old m.slot (h.unit * m.header.shape.au + inner)
  inside : (copy inner b : ℕ) (h : Home) (m : Member) → IsAmong ms m → IsCurrent r items x.file x.index copy h m → x.from ≤ inner → inner < x.from + x.len → put inner ≡ Known b
      → byte new m.slot (h.unit * m.header.shape.au + inner) ≡ b

-- an inner byte inside the span
record IsInside (x : Span) (f i inner : ℕ) : Type 0 where
  file : f ≡ x.file
  index : i ≡ x.index
  low : x.from ≤ inner
  high : inner < x.from + x.len

inside_parts : (x : Span) (f i inner : ℕ) → is_inside_span x f i inner ≡ true → IsInside x f i inner
inside_parts x f i inner h =
    let a = and_parts ((f == x.file) && (i == x.index) && leb x.from inner) (ltb inner (x.from + x.len)) h in
    let b = and_parts ((f == x.file) && (i == x.index)) (leb x.from inner) a.0 in
    let c = and_parts (f == x.file) (i == x.index) b.0 in
    record { file = eqb-true f x.file c.0; index = eqb-true i x.index c.1; low = leb-true x.from inner b.1; high = ltb-true inner (x.from + x.len) a.1 }

module _ (old new : ImageBytes) (ms : List Member) (r : Status) (items : List Item) (g : Group) (x : Span) (put : ℕ → Cell) (ok : is_shape g.shape ≡ true) (fits : x.from + x.len ≤ extent_size g.shape x.index)
    (shapes : (m : Member) → IsAmong ms m → m.header.shape ≡ g.shape) (puts : PutsRight old new ms r items x put) (bytes : HoldsBytes old ms r items g) where
  -- a byte outside the span
  outside_byte : (f o b i inner copy : ℕ) (file : File) (h : Home) (m : Member) → maps.get g.files f ≡ Some file → get_or file.cells o Free ≡ Known b → LiesIn g.shape file.stripe o i inner → IsAmong ms m
      → IsCurrent r items f i copy h m → is_inside_span x f i inner ≡ false → byte new m.slot (h.unit * g.shape.au + inner) ≡ b
  outside_byte f o b i inner copy file h m is_file cell lies is_member current out =
      let shape = shapes m is_member in
      let within_extent : inner < extent_size m.header.shape i = subst (λ (s : Shape). inner < extent_size s i) (sym shape) lies.inside in
      let kept : byte new m.slot (h.unit * g.shape.au + inner) ≡ byte old m.slot (h.unit * g.shape.au + inner) =
      subst (λ (s : Shape). byte new m.slot (h.unit * s.au + inner) ≡ byte old m.slot (h.unit * s.au + inner)) shape (puts.outside f i copy inner h m is_member current within_extent out) in
      kept ∙ bytes f o b i inner copy file h m is_file cell lies is_member current

  put_byte : (f o b i inner copy k : ℕ) (file : File) (h : Home) (m : Member) → f ≡ x.file → LiesIn g.shape file.stripe o i inner → IsAmong ms m → IsCurrent r items f i copy h m
      → inner_of g.shape file x o ≡ Some k → put k ≡ Known b → byte new m.slot (h.unit * g.shape.au + inner) ≡ b
  put_byte f o b i inner copy k file h m same lies is_member current is value =
      let at = found (λ n. file_byte file.stripe g.shape.au g.shape.step x.index n == o) x.from x.len k is in
      let lies_k : LiesIn g.shape file.stripe o x.index k = record { inside = omega (arith, at.high, fits); byte = sym (eqb-true (file_byte file.stripe g.shape.au g.shape.step x.index k) o at.passes) } in
      let one = one_place_of file.stripe g.shape.au g.shape.step o i inner x.index k (layout_of g.shape ok) lies lies_k in
      let current_x : IsCurrent r items x.file x.index copy h m = subst (λ (j : ℕ). IsCurrent r items x.file j copy h m) one.0 (subst (λ (n : ℕ). IsCurrent r items n i copy h m) same current) in
      let value_inner : put inner ≡ Known b = ap put one.1 ∙ value in
      subst (λ (s : Shape). byte new m.slot (h.unit * s.au + inner) ≡ b) (shapes m is_member)
      (puts.inside copy inner b h m is_member current_x (omega (arith, at.low, one.1)) (omega (arith, at.high, one.1)) value_inner)

  spared_byte : (f o b i inner copy : ℕ) (file : File) (h : Home) (m : Member) → maps.get g.files f ≡ Some file → get_or file.cells o Free ≡ Known b → LiesIn g.shape file.stripe o i inner → IsAmong ms m
      → IsCurrent r items f i copy h m → inner_of g.shape file x o ≡ None → byte new m.slot (h.unit * g.shape.au + inner) ≡ b
  spared_byte f o b i inner copy file h m is_file cell lies is_member current none = ⊎_elim
      (λ yes.
      let p = inside_parts x f i inner yes in
      let no = not_found (λ n. file_byte file.stripe g.shape.au g.shape.step x.index n == o) x.from x.len inner none p.low p.high in
      let here : file_byte file.stripe g.shape.au g.shape.step x.index inner ≡ o = ap (λ (j : ℕ). file_byte file.stripe g.shape.au g.shape.step j inner) (sym p.index) ∙ sym lies.byte in
      absurd (both_ways (file_byte file.stripe g.shape.au g.shape.step x.index inner == o) no (eq-eqb (file_byte file.stripe g.shape.au g.shape.step x.index inner) o here)))
      (λ no. outside_byte f o b i inner copy file h m is_file cell lies is_member current no)
      (cases_Bool (is_inside_span x f i inner))

  other_file : (f i inner : ℕ) → (f ≡ x.file → ⊥) → is_inside_span x f i inner ≡ false
  other_file f i inner differ = ap (λ (t : Bool). t && (i == x.index) && leb x.from inner && ltb inner (x.from + x.len)) (ne_eqb f x.file differ)

  put_file : (f o b i inner copy : ℕ) (file : File) (h : Home) (m : Member) → f ≡ x.file → maps.get g.files f ≡ Some file → Source g.shape file x put o b → LiesIn g.shape file.stripe o i inner → IsAmong ms m
      → IsCurrent r items f i copy h m → byte new m.slot (h.unit * g.shape.au + inner) ≡ b
  put_file f o b i inner copy file h m same is (was_put k at value) lies is_member current = put_byte f o b i inner copy k file h m same lies is_member current at value
  put_file f o b i inner copy file h m same is (was_there none cell) lies is_member current = spared_byte f o b i inner copy file h m is cell lies is_member current none

  each_file : (f o b i inner copy : ℕ) (new_file : File) (h : Home) (m : Member) → FileSource g x put f new_file → get_or new_file.cells o Free ≡ Known b → LiesIn g.shape new_file.stripe o i inner → IsAmong ms m
      → IsCurrent r items f i copy h m → byte new m.slot (h.unit * g.shape.au + inner) ≡ b
  each_file f o b i inner copy new_file h m (of_others differ is) cell lies is_member current = outside_byte f o b i inner copy new_file h m is cell lies is_member current (other_file f i inner differ)
  each_file f o b i inner copy new_file h m (of_span file same is e) cell lies is_member current =
      let old_cell : get_or (cells_with g.shape file x put 0 file.cells) o Free ≡ Known b = ap (λ (n : File). get_or n.cells o Free) (sym e) ∙ cell in
      let old_lies : LiesIn g.shape file.stripe o i inner = subst (λ (n : File). LiesIn g.shape n.stripe o i inner) e lies in
      put_file f o b i inner copy file h m same is (source g.shape file x put o b old_cell) old_lies is_member current

  bytes_with : HoldsBytes new ms r items (group_with x put g)
  unfolding group_with
  bytes_with f o b i inner copy new_file h m is_file cell lies is_member current = each_file f o b i inner copy new_file h m (file_source g x put f new_file is_file) cell lies is_member current

-- ---- the laws

members_shape : (id : ℕ) (image : ImageBytes) (g : Group) (r : Status) → ((m : Member) → IsAmong (all_members id image) m → IsDiskOf g r m) → (m : Member) → IsAmong (all_members id image) m → is_shape g.shape ≡ true
members_shape id image g r disks m h = subst (λ (s : Shape). is_shape s ≡ true) (disks m h).shape (member_shape m.header (member_is id image m h).allowed)

-- A span is put anew in each group.
put_carries : (id : ℕ) (old new : ImageBytes) (groups : List Group) (completed : Option Status) (begun : List Status) (sound : SoundBy id old groups completed begun) (x : Span) (put : ℕ → Cell) → FitsIn groups x
    → ((r : Status) (items : List Item) → IsOpen id old completed begun r items → PutsRight old new (all_members id old) r items x put)
    → Carries id old new groups (map (group_with x put) groups) completed begun
put_carries id old new groups completed begun sound x put fits puts r c P g counts not_gone found among d =
    let ms = all_members id old in
    let is_open : IsOpen id old completed begun r d.items = record { counts = counts; not_gone = not_gone; readable = P; content = c; found = found; decodes = d.decodes } in (
      group_with x put g,
      among_map (group_with x put) groups g among,
      record {
        distinct = d.distinct;
        disks = λ m h. disk_with r g x put m (d.disks m h);
        items = d.items;
        decodes = d.decodes;
        describes = describes_with r d.items g x put d.describes;
        bytes = λ f o b i inner copy file h m is_file cell lies is_member current.
            bytes_with old new ms r d.items g x put (members_shape id old g r d.disks m is_member) (fits g among) (λ n k. (d.disks n k).shape) (puts r d.items is_open) d.bytes
            f o b i inner copy file h m is_file cell lies is_member current;
      },
    )

pub piece_keeps : (id : ℕ) (old new : ImageBytes) (groups : List Group) (completed : Option Status) (begun : List Status) (sound : SoundBy id old groups completed begun) (x : Span) → IsPiece id old new groups completed begun x → SoundBy id new (map (freed x) groups) completed begun
piece_keeps id old new groups completed begun sound x piece =
    carried id old new groups (map (freed x) groups) completed begun sound piece.metadata
    (put_carries id old new groups completed begun sound x (λ inner. Free) piece.fits (λ r items is_open. record {
      outside = λ f i copy inner h m is_member current lt out. piece.bytes r items f i copy inner h m is_open is_member current lt out;
      inside = λ copy inner b h m is_member current low high value. absurd (not_known b value);
    }))

known_same : (a b : ℕ) → Known a ≡ Known b → a ≡ b
known_same a b e = cc

pub settle_keeps : (id : ℕ) (image : ImageBytes) (groups : List Group) (completed : Option Status) (begun : List Status) (sound : SoundBy id image groups completed begun) (x : Span) (bytes : List ℕ) → IsSpanSettled id image groups completed begun x bytes → SoundBy id image (map (settled x bytes) groups) completed begun
settle_keeps id image groups completed begun sound x bytes settle =
    carried id image image groups (map (settled x bytes) groups) completed begun sound refl
    (put_carries id image image groups completed begun sound x (λ inner. Known (slice_index bytes (inner - x.from))) settle.fits (λ r items is_open. record {
      outside = λ f i copy inner h m is_member current lt out. refl;
      inside = λ copy inner b h m is_member current low high value.
          let back : x.from + (inner - x.from) ≡ inner = omega arith in
          subst (λ (n : ℕ). byte image m.slot (h.unit * m.header.shape.au + n) ≡ b) back
          (settle.same r items copy (inner - x.from) h m is_open is_member current (omega arith) ∙ known_same (slice_index bytes (inner - x.from)) b value);
    }))

pub narrow_keeps : (id : ℕ) (image : ImageBytes) (groups fewer : List Group) (completed : Option Status) (begun : List Status) (sound : SoundBy id image groups completed begun) → IsNarrower id image fewer completed begun → SoundBy id image fewer completed begun
narrow_keeps id image groups fewer completed begun sound narrow = carried id image image groups fewer completed begun sound refl (λ r c P g counts not_gone found among d. narrow.left r c P counts not_gone found)

pub widen_keeps : (id : ℕ) (image : ImageBytes) (groups more : List Group) (completed : Option Status) (begun : List Status) (sound : SoundBy id image groups completed begun) → ((g : Group) → IsAmong groups g → IsAmong more g)
    → SoundBy id image more completed begun
widen_keeps id image groups more completed begun sound wider = carried id image image groups more completed begun sound refl (λ r c P g counts not_gone found among d. (g, wider g among, d))
