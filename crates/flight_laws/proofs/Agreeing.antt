-- Copies of which each image has the bytes: by tables that call them current the disks hold what they did.
use Rattle.std.proofs.Common.{◌≡◌, ℕ, ◌+◌, ◌*◌, true, get_or, Some, refl, sym, ap, subst, ◌∙◌, inl, inr, ◌⊎◌, ⊎_elim, arith}
use Rattle.std.specs.Prelude.{eqb}
use Rattle.std.specs.FinMap as maps
use Rattle.std.proofs.lemmas.Bool.{true≢false}
use Rattle.std.proofs.lemmas.Nat.Bits.{bit_at-zero}
use Rattle.bay.specs.Image.{Image}
use Rattle.asm_group.specs.declared.Stripe.{Stripe}
use Rattle.asm_group.specs.Group.{Known, Free, File, Group}
use Rattle.asm_group.specs.Shape.{Shape}
use Rattle.asm_formats.specs.Items.{Home}
use Rattle.asm_formats.specs.Sets.{has_bit}
use Rattle.asm_formats.specs.Status.{Status}
use Rattle.asm_images.specs.Bridge.{disks_in}
use Rattle.asm_images.specs.Copies.{IsCurrent}
use Rattle.asm_images.specs.Describing.{LiesIn}
use Rattle.asm_images.specs.Members.{byte}
use Rattle.catalog.specs.ExtentPlans.{home_at}
use Rattle.catalog_laws.proofs.HavingItems.{have_items}
use Rattle.catalog_laws.proofs.ItemLists.{items_say}
use Rattle.catalog_tables.specs.Tables.{AreTables, Tables}
use Rattle.group_of.proofs.Extents.{home_by}
use Rattle.group_engine.specs.Becoming.{HoldsIn}
use Rattle.flight_laws.specs.Agreeing.{AgreedCopiesHold, AgreedHold, AgreesWhole, ClearedAgree, ClearedCopiesHold, HasCurrent, MarkedCopiesHold}
use Rattle.flight_laws.specs.Filling.{KnowsByte}
use Rattle.flight_laws.proofs.Lookups.{marked_current, moved_current}

-- Each copy of a known cell of h that is current by u is so by t, and g knows the cell, or the copy has the bytes.
abbrev pub IsBacked : ℕ → Status → (t u : Tables) → (g h : Group) → Image → Type 0
IsBacked id r t u g h image =
    (f o b i inner copy : ℕ) (file : File) (home : Home) → maps.get h.files f ≡ Some file → get_or file.cells o Free ≡ Known b → LiesIn h.shape file.stripe o i inner → HasCurrent u f i copy home
    → (HasCurrent t f i copy home × KnowsByte g f o b file.stripe) ⊎ AgreesWhole id r h f i home image

pub backed_hold : (id : ℕ) (r : Status) (t u : Tables) (g h : Group) (image : Image) → AreTables t → AreTables u → h.shape ≡ g.shape → IsBacked id r t u g h image → HoldsIn id r t g image → HoldsIn id r u h image
backed_hold id r t u g h image are_t are_u shape backed holds slots later are_later f o b i inner copy file home m is_file cell lies among current =
    let items = have_items t are_t in
    let say_t = items_say t items.0 are_t items.1 in
    let say_u = items_say u later are_u are_later in
    let mine : HasCurrent u f i copy home = (sym (home_by u later are_u are_later f i copy) ∙ current.home, sym (say_u.stale f i copy) ∙ current.fresh) in
    ⊎_elim
    (λ (both : HasCurrent t f i copy home × KnowsByte g f o b file.stripe).
    let old = both.1 in
    let is_current : IsCurrent r items.0 f i copy home m = record { home = home_by t items.0 are_t items.1 f i copy ∙ both.0.0; kept = current.kept; fresh = say_t.stale f i copy ∙ both.0.1 } in
    subst (λ (s : Shape). byte (disks_in slots image) m.slot (home.unit * s.au + inner) ≡ b) (sym shape)
    (holds slots items.0 items.1 f o b i inner copy old.0 home m old.1 old.3
    (subst (λ (s : Shape). LiesIn s old.0.stripe o i inner) shape (subst (λ (x : Stripe). LiesIn h.shape x o i inner) (sym old.2) lies)) among is_current))
    (λ agrees. agrees slots o b inner file m is_file cell lies lies.inside among current.kept)
    (backed f o b i inner copy file home is_file cell lies mine)

pub agreed_hold : AgreedHold
agreed_hold = λ id r t u g image are_t are_u adds holds.
    backed_hold id r t u g g image are_t are_u refl (λ f o b i inner copy file home is_file cell lies current. ⊎_elim
    (λ same. inl (same, (file, is_file, refl, cell))) (λ agrees. inr agrees) (adds f i copy home current)) holds

pub agreed_copies_hold : AgreedCopiesHold
agreed_copies_hold = λ id r t g f i copy h image are_t are_u agrees holds.
    agreed_hold id r t _ g image are_t are_u (λ a j c home current. ⊎_elim (λ same. inl same)
    (λ (new : (a ≡ f) × (j ≡ i) × (home ≡ h)). inr (subst (λ (x : ℕ). AgreesWhole id r g x j home image) (sym new.0)
    (subst (λ (x : ℕ). AgreesWhole id r g f x home image) (sym new.1) (subst (λ (x : Home). AgreesWhole id r g f i x image) (sym new.2) agrees))))
    (moved_current t f i copy h a j c home are_t current)) holds

pub cleared_copies_hold : ClearedCopiesHold
cleared_copies_hold = λ id r t g f i set clear image are_t are_u few agrees holds.
    agreed_hold id r t _ g image are_t are_u (λ a j c home current. ⊎_elim (λ same. inl same)
    (λ (new : (a ≡ f) × (j ≡ i) × (home_at t f i c ≡ Some home) × (has_bit clear c ≡ true)). inr (subst (λ (x : ℕ). AgreesWhole id r g x j home image) (sym new.0)
    (subst (λ (x : ℕ). AgreesWhole id r g f x home image) (sym new.1) (agrees c home new.2 new.3))))
    (marked_current t f i set clear a j c home are_t few current)) holds

-- of none is a mark cleared
pub none_cleared : (id : ℕ) (r : Status) (t : Tables) (g : Group) (f i : ℕ) (image : Image) → ClearedAgree id r t g f i 0 image
unfolding has_bit
none_cleared id r t g f i image = λ copy h at gone. absurd (true≢false (sym gone ∙ ap (λ (x : ℕ). eqb x 1) (bit_at-zero copy)))

pub marked_copies_hold : MarkedCopiesHold
marked_copies_hold = λ id r t g f i set image are_t are_u holds.
    cleared_copies_hold id r t g f i set 0 image are_t are_u (omega arith) (none_cleared id r t g f i image) holds
