-- A client's write to an extent whose copy is on its way to another home.
use Rattle.std.proofs.Common.{◌≡◌, ◌⊎◌, inl, inr, ⊎_elim, ℕ, ◌+◌, ◌-◌, ◌*◌, ◌<◌, ◌≤◌, List, [], ◌∷◌, length, get_or, slice_index, take, refl, sym, ap, subst, ◌∙◌, Option, Some, None, arith, IsTrue, ◌==◌}
use Rattle.std.specs.Option.{option_map}
use Rattle.std.specs.FinMap as maps
use Rattle.std.proofs.lemmas.Bool.{cases_eq, cases_lt, cond-false, cond-true, eq-eqb, ne_eqb}
use Rattle.std.proofs.lemmas.List.{get_or-take, get_or_past, length-take}
use Rattle.std.proofs.lemmas.Option.{none-some, same_Some}
use Rattle.bay.specs.Image as bay
use Rattle.bay.specs.Image.{Puts, Range}
use Rattle.bay.specs.State.{BayState, IsSound}
use Rattle.bay.proofs.Images.{get_or-window}
use Rattle.asm_group.specs.declared.Stripe.{Stripe}
use Rattle.asm_group.specs.Group.{Cell, Known, Free, File, Group}
use Rattle.asm_group.specs.Shape.{Shape, is_shape}
use Rattle.asm_formats.specs.Among.{IsAmong}
use Rattle.asm_formats.specs.Header.{Header}
use Rattle.asm_formats.specs.Items.{Home}
use Rattle.asm_formats.specs.Status.{Status}
use Rattle.asm_placement.proofs.Places.{one_place_of}
use Rattle.asm_images.specs.Bridge.{disks_in}
use Rattle.asm_images.specs.Copies.{is_kept}
use Rattle.asm_images.specs.Describing.{LiesIn}
use Rattle.asm_images.specs.Kept.{Kept}
use Rattle.asm_images.specs.Members.{Member, all_members, byte}
use Rattle.asm_images.specs.Spans.{FitsIn, Span, cell_or, file_with, freed, group_with, inner_of, settled}
use Rattle.asm_images.proofs.SpanCells.{cell_is_put, cell_stays, files_are_put, length_stays}
use Rattle.asm_images.proofs.Spans.{cell_with, layout_of}
use Rattle.group_engine.specs.declared.flight.Flight.{Flight}
use Rattle.group_engine.specs.Mounts.{MountedGroup, Mounts, slot_at}
use Rattle.piece_laws.proofs.Settling.{freed_shape}
use Rattle.flight_laws.specs.Agreeing.{AgreesBelow}
use Rattle.flight_laws.specs.Elsewhere.{IsUserHome, KeepsHeaders}
use Rattle.flight_laws.specs.Filling.{KnowsByte}
use Rattle.flight_laws.specs.Flying.{CopiedAgree}
use Rattle.flight_laws.specs.Following.{FewerCellsAgree, FewerCellsHold, FollowingAgrees, TakesWrite, FreedKnowsLess, HasSpanBelow, SettledAgrees, SettledAgreesBeside, SpanAgrees}
use Rattle.flight_laws.proofs.Agreeing.{backed_hold}
use Rattle.flight_laws.proofs.Elsewhere.{agrees_elsewhere, range_headers, was_member}
use Rattle.flight_laws.proofs.Flying.{byte_listed, kept_in_slot}

-- ---- fewer cells

pub fewer_cells_hold : FewerCellsHold
fewer_cells_hold = λ id r t g h image are less holds.
    backed_hold id r t t g h image are are less.shape (λ f o b i inner copy file home is_file cell lies current. inl (current, less.cells f o b file is_file cell)) holds

pub fewer_cells_agree : FewerCellsAgree
fewer_cells_agree = λ id r g h f i home end image less agrees slots o b inner file k is_file cell lies lt among kept.
    let old = less.cells f o b file is_file cell in
    subst (λ (s : Shape). byte (disks_in slots image) k.slot (home.unit * s.au + inner) ≡ b) (sym less.shape)
    (agrees slots o b inner old.0 k old.1 old.3
    (subst (λ (s : Shape). LiesIn s old.0.stripe o i inner) less.shape (subst (λ (x : Stripe). LiesIn h.shape x o i inner) (sym old.2) lies)) lt among kept)

-- ---- the cells of a group with a span put anew

-- the inner byte of the extent is one of the span
abbrev pub IsOf : Span → (f i inner : ℕ) → Type 0
IsOf x f i inner = (f ≡ x.file) × (i ≡ x.index) × (x.from ≤ inner) × (inner < x.from + x.len)

is_of : (x : Span) (f i inner : ℕ) → IsOf x f i inner ⊎ (IsOf x f i inner → ⊥)
is_of x f i inner = elim (cases_eq f x.file) [
  | inl file ↦ elim (cases_eq i x.index) [
    | inl index ↦ elim (cases_lt inner x.from) [
      | inl before ↦ inr (λ is. omega (arith, before, is.2))
      | inr low ↦ elim (cases_lt inner (x.from + x.len)) [
        | inl high ↦ inl (file, index, low, high)
        | inr behind ↦ inr (λ is. omega (arith, behind, is.3))
      ]
    ]
    | inr differ ↦ inr (λ is. differ is.1)
  ]
  | inr differ ↦ inr (λ is. differ is.0)
]

known_inside : (cells : List Cell) (o b : ℕ) → get_or cells o Free ≡ Known b → o < length cells
known_inside cells o b known = elim (cases_lt o (length cells)) [
  | inl lt ↦ lt
  | inr past ↦ let free : get_or cells o Free ≡ Free = get_or_past cells o Free past in absurd cc
]

module _ (x : Span) (put : ℕ → Cell) (g : Group) (ok : IsTrue (is_shape g.shape)) (fits : FitsIn (g ∷ []) x) where
  -- A known cell is one of the span, and was put, or one of the group before, and none of the span.
  abbrev pub Comes : (f i inner o b : ℕ) → Stripe → Type 0
  Comes f i inner o b stripe = (IsOf x f i inner × (put inner ≡ Known b)) ⊎ (KnowsByte g f o b stripe × (IsOf x f i inner → ⊥))

  in_file : (f o b i inner : ℕ) (file : File) → f ≡ x.file → maps.get g.files f ≡ Some file → get_or (file_with g.shape x put file).cells o Free ≡ Known b → LiesIn g.shape file.stripe o i inner
      → Comes f i inner o b file.stripe
  in_file f o b i inner file same is cell lies = elim (is_of x f i inner) [
    | inl of ↦
        let lies_x : LiesIn g.shape file.stripe o x.index inner = subst (λ (j : ℕ). LiesIn g.shape file.stripe o j inner) of.1 lies in
        let inside : o < length file.cells = omega (arith, known_inside (file_with g.shape x put file).cells o b cell, length_stays g.shape x put file) in
        inl (of, sym (cell_is_put g.shape x put file o inner ok (fits g (inl refl)) inside lies_x of.2 of.3) ∙ cell)
    | inr out ↦
        let stays = cell_stays g.shape x put file o (λ q low high e.
        let lies_q : LiesIn g.shape file.stripe o x.index q = record { inside = omega (arith, high, fits g (inl refl)); byte = sym e } in
        let one = one_place_of file.stripe g.shape.au g.shape.step o i inner x.index q (layout_of g.shape ok) lies lies_q in
        out (same, one.0, omega (arith, one.1, low), omega (arith, one.1, high))) in
        inr ((file, is, refl, sym stays ∙ cell), out)
  ]

  pub cell_comes : (f o b i inner : ℕ) (new : File) → maps.get (group_with x put g).files f ≡ Some new → get_or new.cells o Free ≡ Known b → LiesIn g.shape new.stripe o i inner
      → Comes f i inner o b new.stripe
  cell_comes f o b i inner new found cell lies = elim (cases_eq f x.file) [
    | inl same ↦ by same (maps.get g.files f) refl (sym (cond-true (f == x.file) (option_map (file_with g.shape x put) (maps.get g.files f)) (maps.get g.files f) (eq-eqb f x.file same)) ∙ sym ((files_are_put x put g).1 f) ∙ found)
    | inr differ ↦
        let is : maps.get g.files f ≡ Some new = sym (cond-false (f == x.file) (option_map (file_with g.shape x put) (maps.get g.files f)) (maps.get g.files f) (ne_eqb f x.file differ)) ∙ sym ((files_are_put x put g).1 f) ∙ found in
        inr ((new, is, refl, cell), λ of. differ of.0)
  ] where
    by : f ≡ x.file → (o' : Option File) → maps.get g.files f ≡ o' → option_map (file_with g.shape x put) (maps.get g.files f) ≡ Some new → Comes f i inner o b new.stripe
    by same None is e = absurd (none-some new (sym (ap (option_map (file_with g.shape x put)) is) ∙ e))
    by same (Some file) is e =
        let its : file_with g.shape x put file ≡ new = same_Some (file_with g.shape x put file) new (sym (ap (option_map (file_with g.shape x put)) is) ∙ e) in
        subst (λ (y : File). Comes f i inner o b y.stripe) its
        (in_file f o b i inner file same is (ap (λ (y : File). get_or y.cells o Free) its ∙ cell) (subst (λ (y : File). LiesIn g.shape y.stripe o i inner) (sym its) lies))

  -- a known cell of the group before that is none of the span is one of the group after
  pub cell_goes : (f o b i inner : ℕ) (file : File) → maps.get g.files f ≡ Some file → get_or file.cells o Free ≡ Known b → LiesIn g.shape file.stripe o i inner → (IsOf x f i inner → ⊥)
      → KnowsByte (group_with x put g) f o b file.stripe
  cell_goes f o b i inner file is cell lies out = elim (cases_eq f x.file) [
    | inl same ↦ (
      file_with g.shape x put file,
      (files_are_put x put g).1 f ∙ cond-true (f == x.file) (option_map (file_with g.shape x put) (maps.get g.files f)) (maps.get g.files f) (eq-eqb f x.file same) ∙ ap (option_map (file_with g.shape x put)) is,
      refl,
      cell_stays g.shape x put file o (λ q low high e.
          let lies_q : LiesIn g.shape file.stripe o x.index q = record { inside = omega (arith, high, fits g (inl refl)); byte = sym e } in
          let one = one_place_of file.stripe g.shape.au g.shape.step o i inner x.index q (layout_of g.shape ok) lies lies_q in
          out (same, one.0, omega (arith, one.1, low), omega (arith, one.1, high))) ∙ cell,
    )
    | inr differ ↦ (
      file,
      (files_are_put x put g).1 f ∙ cond-false (f == x.file) (option_map (file_with g.shape x put) (maps.get g.files f)) (maps.get g.files f) (ne_eqb f x.file differ) ∙ is,
      refl,
      cell,
    )
  ]

-- ---- the cells of a span are Free

pub not_known : (b : ℕ) → ◌≡◌ {A = Cell} Free (Known b) → ⊥
not_known b e = absurd cc

free_cell : (s : Shape) (x : Span) (file : File) (o b : ℕ) → get_or (file_with s x (λ inner. Free) file).cells o Free ≡ Known b → get_or file.cells o Free ≡ Known b
free_cell s x file o b known = by (inner_of s file x o) refl where
  cell : get_or (file_with s x (λ inner. Free) file).cells o Free ≡ cell_or (λ inner. Free) (get_or file.cells o Free) (inner_of s file x o)
  cell = cell_with s file x (λ inner. Free) 0 o o file.cells (omega arith) (omega (arith, known_inside (file_with s x (λ inner. Free) file).cells o b known, length_stays s x (λ inner. Free) file))

  by : (i : Option ℕ) → inner_of s file x o ≡ i → get_or file.cells o Free ≡ Known b
  by None is = sym (cell ∙ ap (λ (i : Option ℕ). cell_or (λ inner. Free) (get_or file.cells o Free) i) is) ∙ known
  by (Some k) is = absurd (not_known b (sym (cell ∙ ap (λ (i : Option ℕ). cell_or (λ inner. Free) (get_or file.cells o Free) i) is) ∙ known))

pub freed_knows_less : FreedKnowsLess
freed_knows_less = λ x g. record {
  shape = freed_shape x g;
  cells = λ k o b new found cell. freed_cells x g k o b new found cell;
} where
  freed_cells : (x : Span) (g : Group) (k o b : ℕ) (new : File) → maps.get (freed x g).files k ≡ Some new → get_or new.cells o Free ≡ Known b → KnowsByte g k o b new.stripe
  freed_cells x g k o b new found cell = elim (cases_eq k x.file) [
    | inl same ↦ by (maps.get g.files k) refl (sym (cond-true (k == x.file) (option_map (file_with g.shape x (λ inner. Free)) (maps.get g.files k)) (maps.get g.files k) (eq-eqb k x.file same)) ∙ sym ((files_are_put x (λ inner. Free) g).1 k) ∙ found)
    | inr differ ↦ (new, sym (cond-false (k == x.file) (option_map (file_with g.shape x (λ inner. Free)) (maps.get g.files k)) (maps.get g.files k) (ne_eqb k x.file differ)) ∙ sym ((files_are_put x (λ inner. Free) g).1 k) ∙ found, refl, cell)
  ] where
    by : (o' : Option File) → maps.get g.files k ≡ o' → option_map (file_with g.shape x (λ inner. Free)) (maps.get g.files k) ≡ Some new → KnowsByte g k o b new.stripe
    by None is e = absurd (none-some new (sym (ap (option_map (file_with g.shape x (λ inner. Free))) is) ∙ e))
    by (Some file) is e =
        let its : file_with g.shape x (λ inner. Free) file ≡ new = same_Some (file_with g.shape x (λ inner. Free) file) new (sym (ap (option_map (file_with g.shape x (λ inner. Free))) is) ∙ e) in
        (file, is, ap (λ (y : File). y.stripe) its, free_cell g.shape x file o b (ap (λ (y : File). get_or y.cells o Free) its ∙ cell))

-- ---- a span of the extent

pub span_agrees : SpanAgrees
unfolding group_with
span_agrees = λ id r g x h end slot count old new ok fits user few changes agrees.
    agrees_elsewhere id r (freed x g) x.file x.index h end old new (range_headers slot (h.unit * g.shape.au + x.from) count old new (omega (arith, user)) changes)
    (λ slots o b inner file k is_file cell lies lt among kept.
    changes.byte k.slot (h.unit * g.shape.au + inner) (λ met. ⊎_elim
    (λ put. not_known b put.1)
    (λ kept_cell. kept_cell.1 (refl, refl, omega (arith, met.1), omega (arith, met.2, few)))
    (cell_comes x (λ inner. Free) g ok fits x.file o b x.index inner file is_file cell lies)))
    agrees

-- what agrees with the cells of the group before, but for those of the span, agrees with those of the group after
module _ (id : ℕ) (r : Status) (g : Group) (x : Span) (bytes : List ℕ) (ok : IsTrue (is_shape g.shape)) (fits : FitsIn (g ∷ []) x) (f i : ℕ) (h : Home) (end : ℕ) (image : bay.Image)
    (agrees : AgreesBelow id r (freed x g) f i h end image) where
  abbrev put : ℕ → Cell
  put inner = Known (slice_index bytes (inner - x.from))

  outside_agrees : (slots o b inner : ℕ) (stripe : Stripe) (k : Member) → KnowsByte g f o b stripe → LiesIn g.shape stripe o i inner → (IsOf x f i inner → ⊥) → inner < end
      → IsAmong (all_members id (disks_in slots image)) k → IsTrue (is_kept r h.disk k.header) → byte (disks_in slots image) k.slot (h.unit * g.shape.au + inner) ≡ b
  unfolding group_with
  outside_agrees slots o b inner stripe k known lies out lt among kept =
      let lies_old : LiesIn g.shape known.0.stripe o i inner = subst (λ (y : Stripe). LiesIn g.shape y o i inner) (sym known.2) lies in
      let old = cell_goes x (λ inner. Free) g ok fits f o b i inner known.0 known.1 known.3 lies_old out in
      agrees slots o b inner old.0 k old.1 old.3 (subst (λ (y : Stripe). LiesIn g.shape y o i inner) (sym old.2) lies_old) lt among kept

pub same_byte : (a b : ℕ) → Known a ≡ Known b → a ≡ b
same_byte a b e = ap value e where
  value : Cell → ℕ
  value (Known v) = v
  value Free = 0

pub settled_agrees : SettledAgrees
unfolding group_with
settled_agrees = λ id r g x bytes h end image ok fits agrees has slots o b inner file k is_file cell lies lt among kept. ⊎_elim
    (λ put.
    let of = put.0 in
    let step : x.from + (inner - x.from) ≡ inner = omega (arith, of.2) in
    ap (λ (z : ℕ). byte (disks_in slots image) k.slot (h.unit * g.shape.au + z)) (sym step)
    ∙ has slots (inner - x.from) k (omega (arith, of.2, of.3)) (omega (arith, step, lt)) among kept ∙ same_byte (slice_index bytes (inner - x.from)) b put.1)
    (λ old. outside_agrees id r g x bytes ok fits x.file x.index h end image agrees slots o b inner file.stripe k old.0 lies old.1 lt among kept)
    (cell_comes x (λ inner. Known (slice_index bytes (inner - x.from))) g ok fits x.file o b x.index inner file is_file cell lies)

pub settled_agrees_beside : SettledAgreesBeside
unfolding group_with
settled_agrees_beside = λ id r g x bytes f i h end image ok fits apart agrees slots o b inner file k is_file cell lies lt among kept. ⊎_elim
    (λ put. absurd (apart put.0.0 put.0.1))
    (λ old. outside_agrees id r g x bytes ok fits f i h end image agrees slots o b inner file.stripe k old.0 lies old.1 lt among kept)
    (cell_comes x (λ inner. Known (slice_index bytes (inner - x.from))) g ok fits f o b i inner file is_file cell lies)

-- ---- the move that is on its way

module _ (n : ℕ) (m : MountedGroup) (s : BayState) (g : Group) (kept : Kept) (f : Flight) (x : Span) (bytes : List ℕ) (count slot : ℕ) (mounts : Mounts n m s (freed x g) kept)
    (follows : TakesWrite g f x bytes count) (at : slot_at m.disks f.to.disk ≡ Some slot) (user : IsUserHome m.catalog.shape f.to)
    (a y : bay.Image) (left : s.leaves s.calls a) (agrees : CopiedAgree m (freed x g) f a) (puts : Puts slot (f.to.unit * m.catalog.shape.au + x.from) (take count bytes) a y)
    (past_end : (k : ℕ) → y.size slot ≤ k → y.byte slot k ≡ 0) where
  abbrev id : ℕ
  id = m.register.id

  abbrev r : Status
  r = m.register.value

  same_shape : m.catalog.shape ≡ g.shape
  same_shape = sym mounts.represents.shape ∙ freed_shape x g

  abbrev place : ℕ
  place = f.to.unit * g.shape.au + x.from

  put_here : Puts slot place (take count bytes) a y
  put_here = subst (λ (z : Shape). Puts slot (f.to.unit * z.au + x.from) (take count bytes) a y) same_shape puts

  behind : IsUserHome g.shape f.to
  behind = subst (λ (z : Shape). IsUserHome z f.to) same_shape user

  few : length (take count bytes) ≤ x.len
  few = omega (arith, length-take count bytes, follows.len)

  headers : KeepsHeaders a y
  headers = range_headers slot place (length (take count bytes)) a y (omega (arith, behind)) put_here.elsewhere

  before : AgreesBelow id r (freed x g) x.file x.index f.to f.copied a
  before = subst (λ (z : ℕ). AgreesBelow id r (freed x g) z x.index f.to f.copied a) (sym follows.file) (subst (λ (z : ℕ). AgreesBelow id r (freed x g) f.x.file z f.to f.copied a) (sym follows.index) agrees)

  still : AgreesBelow id r (freed x g) x.file x.index f.to f.copied y
  still = span_agrees id r g x f.to f.copied slot (length (take count bytes)) a y follows.shape follows.fits behind few put_here.elsewhere before

  in_taken : (inner : ℕ) → inner < x.len → x.from + inner < f.copied → (count ≡ length bytes) ⊎ (f.copied ≤ x.from + count) → inner < count
  in_taken inner lt low (inl all) = omega (arith, lt, follows.len, all)
  in_taken inner lt low (inr most) = omega (arith, low, most)

  has : HasSpanBelow id r g x bytes f.to f.copied y
  has slots inner k lt low among is_kept_ =
      let w = was_member a y headers id slots k among in
      let kept_then = subst (λ (z : Header). IsTrue (is_kept r f.to.disk z)) (sym w.header) is_kept_ in
      let in_slot : k.slot ≡ slot = sym w.slot ∙ kept_in_slot n m s (freed x g) kept mounts f.to slot at a left slots w.was w.among kept_then in
      let inside : slot < slots = subst (λ (z : ℕ). z < slots) in_slot w.inside in
      let step : f.to.unit * g.shape.au + (x.from + inner) ≡ place + inner = omega arith in
      let taken : inner < count = in_taken inner lt low follows.took in
      let long : inner < length (take count bytes) = omega (arith, length-take count bytes, taken, lt, follows.len) in
      ap (λ (z : ℕ). byte (disks_in slots y) z (f.to.unit * g.shape.au + (x.from + inner))) in_slot
      ∙ byte_listed slots slot (f.to.unit * g.shape.au + (x.from + inner)) y inside (past_end (f.to.unit * g.shape.au + (x.from + inner)))
      ∙ ap (λ (z : ℕ). y.byte slot z) step ∙ sym (get_or-window (y.byte slot) place (length (take count bytes)) inner long) ∙ ap (λ (l : List ℕ). slice_index l inner) put_here.here
      ∙ get_or-take count bytes inner 0 taken

  followed : CopiedAgree m (settled x bytes g) f y
  followed =
      subst (λ (z : ℕ). AgreesBelow id r (settled x bytes g) z f.x.index f.to f.copied y) follows.file (subst (λ (z : ℕ). AgreesBelow id r (settled x bytes g) x.file z f.to f.copied y) follows.index
      (settled_agrees id r g x bytes f.to f.copied y follows.shape follows.fits still has))

pub following_agrees : (s t : BayState) → IsSound t → FollowingAgrees s t
following_agrees = λ s t sound n m g kept f x bytes count slot mounts follows at user agrees ends. record {
  now = λ y left.
      let from = ends.now y left in
      followed n m s g kept f x bytes count slot mounts follows at user from.0 y from.1 (agrees.now from.0 from.1) from.2 (λ k le. sound.past_end slot k y left le);
}
