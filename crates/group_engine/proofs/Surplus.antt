-- Extents that no head counts: the bytes of the group stand without them, and its tables describe it.
use Rattle.std.proofs.Common.{◌≡◌, ℕ, ◌+◌, ◌<◌, true, List, length, get_or, Option, Some, None, refl, sym, ap, subst, ◌∙◌, arith, inl, inr}
use Rattle.std.specs.FinMap as maps
use Rattle.std.proofs.lemmas.Bool.{cases_lt, lt-ltb}
use Rattle.std.proofs.lemmas.List.{get_or_past}
use Rattle.bay.specs.State.{BayState}
use Rattle.asm_group.specs.declared.Stripe.{Stripe}
use Rattle.asm_group.specs.declared.Stripe.TheVariants.{Coarse, Fine}
use Rattle.asm_group.specs.Group.{Cell, Known, Free, File}
use Rattle.asm_group.specs.Shape.{Shape}
use Rattle.asm_formats.specs.Items.{FileHead, Homes, Item}
use Rattle.asm_formats.specs.Sets.{has_bit}
use Rattle.asm_formats.specs.Status as status
use Rattle.asm_placement.specs.Layout.{LiesAt, has_extent_by_size}
use Rattle.asm_placement.specs.Tables.{head_of}
use Rattle.asm_images.specs.Copies.{IsCurrent}
use Rattle.asm_images.specs.Describing.{IsHeadOf, LiesIn, SameFile}
use Rattle.rebalance.specs.file_directory.Files.{head_at}
use Rattle.rebalance.specs.catalog_tables.Rules as rules
use Rattle.rebalance.specs.catalog_tables.Rules.{head_has_extent}
use Rattle.rebalance.specs.catalog_tables.Tables.{Tables}
use Rattle.rebalance.proofs.catalog_laws.HavingItems.{have_items}
use Rattle.rebalance.proofs.catalog_laws.ItemLists.{items_say}
use Rattle.group_of.specs.Describing.{HaveGroup, StandUnder}
use Rattle.group_of.proofs.Describes.{surplus_describes}
use Rattle.group_of.proofs.Extents.{home_by}
use Rattle.group_engine.specs.Surplus.{KeepsDue, SurplusIsHeld, SurplusLeadsOn}
use Rattle.group_engine.proofs.Described.{none_irregular, none_unknown}
use Rattle.group_engine.proofs.Bytes.{mounted_holds}

-- ---- a file has the extents on which its bytes lie

first_below : (a b c o size : ℕ) → o ≡ a + b + c → o < size → a < size
first_below a b c o size e lt = omega (arith, e, lt)

lies_due : (stripe : Stripe) (au step size o i q : ℕ) → LiesAt stripe au step o i q → o < size → has_extent_by_size stripe au step size i ≡ true
lies_due Coarse au step size o i q lies lt = lt-ltb _ size (first_below _ q 0 o size (omega (arith, lies.byte)) lt)
lies_due Fine au step size o i q lies lt = lt-ltb _ size (first_below _ _ _ o size lies.byte lt)

known_inside : (cells : List Cell) (o b : ℕ) → get_or cells o Free ≡ Known b → o < length cells
known_inside cells o b known = elim (cases_lt o (length cells)) [
  | inl lt ↦ lt
  | inr past ↦ let free : get_or cells o Free ≡ Free = get_or_past cells o Free past in absurd cc
]

due_of : (s : Shape) (file : File) (head : FileHead) (o i q : ℕ) → IsHeadOf head file → LiesIn s file.stripe o i q → o < length file.cells → head_has_extent s head i ≡ true
due_of s file head o i q is lies lt =
    ap (λ (x : Stripe). has_extent_by_size x s.au s.step head.size i) is.1 ∙ ap (λ (n : ℕ). has_extent_by_size file.stripe s.au s.step n i) is.4 ∙ lies_due file.stripe s.au s.step (length file.cells) o i q lies lt

-- the head of a file of a group that the tables describe
headed : (t : Tables) (items : List Item) (f : ℕ) (file : File) (o : Option File) → head_of items f ≡ head_at t.files f → SameFile (head_of items f) o → o ≡ Some file
    → (head : FileHead) × (head_at t.files f ≡ Some head) × IsHeadOf head file
headed t items f file o say same is = by (head_at t.files f) refl (subst (λ (p : Option FileHead). SameFile p (Some file)) say (subst (λ (p : Option File). SameFile (head_of items f) p) is same)) where
  by : (p : Option FileHead) → head_at t.files f ≡ p → SameFile p (Some file) → (head : FileHead) × (head_at t.files f ≡ Some head) × IsHeadOf head file
  by None at none = absurd none
  by (Some head) at has = (head, at, has.1)

-- ---- its bytes stand

pub surplus_is_held : SurplusIsHeld
surplus_is_held = λ id r t u g image are_t are_u have keeps holds slots later are_later.
    let items = have_items t are_t in
    let say_t = items_say t items.0 are_t items.1 in
    let say_u = items_say u later are_u are_later in
    λ f o b i inner copy file home m is_file cell lies among current.
    let head = headed t items.0 f file (maps.get g.files f) (say_t.heads f) ((have items.0 items.1).files f) is_file in
    let due : head_has_extent g.shape head.0 i ≡ true = due_of g.shape file head.0 o i inner head.2 lies (known_inside file.cells o b cell) in
    let is_current : IsCurrent r items.0 f i copy home m = record {
      home = home_by t items.0 are_t items.1 f i copy ∙ ap (λ (hs : Homes). get_or hs copy None) (sym (keeps.homes f i head.0 head.1 due)) ∙ sym (home_by u later are_u are_later f i copy) ∙ current.home;
      kept = current.kept;
      fresh = say_t.stale f i copy ∙ ap (λ (marks : ℕ). has_bit marks copy) (sym (keeps.marks f i head.0 head.1 due)) ∙ sym (say_u.stale f i copy) ∙ current.fresh;
    } in
    holds slots items.0 items.1 f o b i inner copy file home m is_file cell lies among is_current

-- ---- the tables describe it

pub surplus_leads_on : (s : BayState) → SurplusLeadsOn s
surplus_leads_on = λ s n m put gone g kept u mounts is turns.
    let r = m.register.value in
    let t = m.catalog.tables in
    let a = mounts.whole.are_tables in
    let have : HaveGroup r t g = mounts.represents.describes in
    let shape : g.shape ≡ m.catalog.shape = mounts.represents.shape in
    let items = have_items t a in
    let d = have items.0 items.1 in
    let stand : StandUnder r g.shape u = subst (λ (x : Shape). StandUnder r x u) (sym shape) (record {
      rules = is.plan.rules;
      units = is.plan.units r.entries mounts.whole.units;
      infos = is.infos (none_unknown t items.0 items.1 r.entries d.disks);
      regular = is.regular (none_irregular r.entries t items.0 a items.1 d.regular);
      partners = d.partners;
    }) in
    let due : KeepsDue g.shape t u = subst (λ (x : Shape). KeepsDue x t u) (sym shape) is.due in
    record {
      mounts = mounts;
      tables = u;
      after = is.plan.after;
      leads = record { name = refl; shape = refl; describes = surplus_describes r t u g a have stand is.names };
      holds = record { now = λ image left. surplus_is_held m.register.id r t u g image a is.plan.rules.tables have due ((mounted_holds n m s g kept mounts).now image left) };
      turns = turns;
    }
