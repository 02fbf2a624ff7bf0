-- What a write to the copies of an extent means for any group that the disks hold.
use Rattle.std.proofs.Common.{◌≡◌, inl, ⊎_elim, ℕ, ◌+◌, ◌-◌, ◌*◌, ◌<◌, List, [], ◌∷◌, slice_index, refl, sym, ap, subst, ◌∙◌, arith, IsTrue, add-mul}
use Rattle.bay.specs.Image as bay
use Rattle.bay.specs.Image.{ChangesOnly}
use Rattle.asm_group.specs.declared.Stripe.{Stripe}
use Rattle.asm_group.specs.Group.{Known, Free, Group}
use Rattle.asm_group.specs.Shape.{Shape, is_shape}
use Rattle.asm_formats.specs.Among.{IsAmong}
use Rattle.asm_formats.specs.Items.{Home}
use Rattle.asm_formats.specs.Status.{Status}
use Rattle.asm_placement.specs.Layout.{units_of}
use Rattle.asm_images.specs.Bridge.{disks_in}
use Rattle.asm_images.specs.Describing.{LiesIn, extent_size}
use Rattle.asm_images.specs.Members.{byte}
use Rattle.asm_images.specs.Spans.{FitsIn, Span, freed, group_with}
use Rattle.asm_images.specs.WriteLaws.{AreApart}
use Rattle.asm_images.proofs.UserWrites.{homes_are_apart}
use Rattle.catalog_laws.proofs.HavingItems.{have_items}
use Rattle.catalog_laws.proofs.ItemLists.{items_say}
use Rattle.catalog_tables.specs.Tables.{AreTables, Tables}
use Rattle.group_of.specs.Describing.{HaveGroup}
use Rattle.group_of.proofs.Extents.{home_by}
use Rattle.piece_laws.specs.Targets.{RangesOf, Target, start_of}
use Rattle.piece_laws.proofs.Kept.{kept_as}
use Rattle.flight_laws.specs.Agreeing.{HasCurrent}
use Rattle.flight_laws.specs.Elsewhere.{IsUserHome, KeepsHeaders, KeepsKnown, LieInUnits}
use Rattle.flight_laws.specs.Writing.{AreCopiesIn, SettlingHolds, WritingAgrees, WritingHolds}
use Rattle.flight_laws.proofs.Elsewhere.{agrees_elsewhere, apart_bytes, described_homes_are_user, holds_elsewhere}
use Rattle.flight_laws.proofs.Following.{cell_comes, cell_goes, fewer_cells_hold, freed_knows_less, not_known, same_byte}

module _ (id : ℕ) (r : Status) (t : Tables) (g k : Group) (x : Span) (targets : List Target) (old new : bay.Image) (are : AreTables t) (ok : IsTrue (is_shape g.shape)) (have : HaveGroup r t g)
    (shape : k.shape ≡ g.shape) (fits : FitsIn (k ∷ []) x) (copies : AreCopiesIn id t x targets old) (changes : ChangesOnly (RangesOf k.shape x targets) old new) where
  ok_k : IsTrue (is_shape k.shape)
  ok_k = subst (λ (s : Shape). IsTrue (is_shape s)) (sym shape) ok

  user : (y : Target) → IsAmong targets y → IsUserHome k.shape y.home
  user y among = subst (λ (s : Shape). IsUserHome s y.home) (sym shape) (described_homes_are_user r t g are ok have x.file x.index y.copy y.home (copies y among).0)

  headers : KeepsHeaders old new
  headers = record { size = changes.size; byte = λ slot place lt. changes.byte slot place (λ met. omega (arith, lt, user met.0 met.1, met.2.1)) }

  -- the bytes of a copy lie in its units
  in_units : (y : Target) → IsAmong targets y → LieInUnits k.shape.au y.home.unit (units_of k.shape.step x.index) (start_of k.shape x y) x.len
  in_units y among = record {
    header = omega (arith, user y among);
    low = omega arith;
    high = omega (arith, add-mul y.home.unit (units_of k.shape.step x.index) k.shape.au, fits k (inl refl));
  }

  known_stays : KeepsKnown id r t (freed x k) old new
  unfolding group_with
  known_stays f i copy h has slots o b inner file m is_file cell lies lt among kept = changes.byte m.slot (h.unit * k.shape.au + inner) (λ met.
      let y = met.0 in
      let items = have_items t are in
      let disk : h.disk ≡ y.home.disk = sym (kept_as r h m.header kept).number ∙ (copies y met.1).1 slots m among met.2.0 in
      let own = homes_are_apart g.shape r.entries items.0 x y.copy y.home (have items.0 items.1).places (home_by t items.0 are items.1 x.file x.index y.copy ∙ (copies y met.1).0) in
      ⊎_elim
      (λ (same : (f ≡ x.file) × (i ≡ x.index) × (h ≡ y.home)).
      let units : h.unit * k.shape.au ≡ y.home.unit * k.shape.au = ap (λ (z : Home). z.unit * k.shape.au) same.2 in
      ⊎_elim (λ put. not_known b put.1)
      (λ old_cell. old_cell.1 (same.0, same.1, omega (arith, met.2.1, units), omega (arith, met.2.2, units)))
      (cell_comes x (λ inner. Free) k ok_k fits f o b i inner file is_file cell lies))
      (λ apart.
      apart_bytes k.shape.au y.home.unit (units_of k.shape.step x.index) h.unit (units_of k.shape.step i) (start_of k.shape x y) x.len inner (in_units y met.1)
      (subst (λ (s : Shape). AreApart y.home.unit (units_of s.step x.index) h.unit (units_of s.step i)) (sym shape) apart) lies.inside met.2.1 met.2.2)
      (own f i copy h (home_by t items.0 are items.1 f i copy ∙ has.0) disk))

pub writing_holds : WritingHolds
writing_holds = λ id r t g k x targets old new are ok have shape fits copies changes holds.
    holds_elsewhere id r t (freed x k) old new are (headers id r t g k x targets old new are ok have shape fits copies changes)
    (known_stays id r t g k x targets old new are ok have shape fits copies changes)
    (fewer_cells_hold id r t k (freed x k) old are (freed_knows_less x k) holds)

pub settling_holds : SettlingHolds
unfolding group_with
settling_holds = λ id r t k x bytes image are ok fits holds has slots items mine f o b i inner copy file h m is_file cell lies among current.
    let say = items_say t items are mine in
    ⊎_elim
    (λ put.
    let of = put.0 in
    let mark : HasCurrent t f i copy h = (sym (home_by t items are mine f i copy) ∙ current.home, sym (say.stale f i copy) ∙ current.fresh) in
    let its : HasCurrent t x.file x.index copy h = subst (λ (z : ℕ). HasCurrent t x.file z copy h) of.1 (subst (λ (z : ℕ). HasCurrent t z i copy h) of.0 mark) in
    let step : x.from + (inner - x.from) ≡ inner = omega (arith, of.2) in
    let inside : inner < extent_size k.shape x.index = subst (λ (z : ℕ). inner < extent_size k.shape z) of.1 lies.inside in
    ap (λ (z : ℕ). byte (disks_in slots image) m.slot (h.unit * k.shape.au + z)) (sym step)
    ∙ has copy h its slots (inner - x.from) m (omega (arith, of.2, of.3)) (omega (arith, step, inside)) among current.kept ∙ same_byte (slice_index bytes (inner - x.from)) b put.1)
    (λ old.
    let known = old.0 in
    let lies_old : LiesIn k.shape known.0.stripe o i inner = subst (λ (y : Stripe). LiesIn k.shape y o i inner) (sym known.2) lies in
    let free = cell_goes x (λ inner. Free) k ok fits f o b i inner known.0 known.1 known.3 lies_old old.1 in
    holds slots items mine f o b i inner copy free.0 h m free.1 free.3 (subst (λ (y : Stripe). LiesIn k.shape y o i inner) (sym free.2) lies_old) among current)
    (cell_comes x (λ inner. Known (slice_index bytes (inner - x.from))) k ok fits f o b i inner file is_file cell lies)

pub writing_agrees : WritingAgrees
writing_agrees = λ id r t k x targets f i h end old new users fits copies away changes agrees.
    let user : (y : Target) → IsAmong targets y → IsUserHome k.shape y.home = λ y among. users x.file x.index y.copy y.home (copies y among).0 in
    let headers : KeepsHeaders old new = record { size = changes.size; byte = λ slot place lt. changes.byte slot place (λ met. omega (arith, lt, user met.0 met.1, met.2.1)) } in
    agrees_elsewhere id r k f i h end old new headers
    (λ slots o b inner file m is_file cell lies lt among kept. changes.byte m.slot (h.unit * k.shape.au + inner) (λ met.
    let y = met.0 in
    let disk : y.home.disk ≡ h.disk = sym ((copies y met.1).1 slots m among met.2.0) ∙ (kept_as r h m.header kept).number in
    let run : LieInUnits k.shape.au y.home.unit (units_of k.shape.step x.index) (start_of k.shape x y) x.len = record {
      header = omega (arith, user y met.1);
      low = omega arith;
      high = omega (arith, add-mul y.home.unit (units_of k.shape.step x.index) k.shape.au, fits k (inl refl));
    } in
    apart_bytes k.shape.au y.home.unit (units_of k.shape.step x.index) h.unit (units_of k.shape.step i) (start_of k.shape x y) x.len inner run (away y met.1 disk) lies.inside met.2.1 met.2.2))
    agrees
