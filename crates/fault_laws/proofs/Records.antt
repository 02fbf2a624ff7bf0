-- The records of a content whose keys ascend, and its items.
use Rattle.std.proofs.Common.{◌≡◌, Bool, true, List, [], ◌∷◌, map, Option, Some, None, refl, sym, ap, subst, ◌∙◌, inl, inr}
use Rattle.std.specs.List.{AllByRecursion}
use Rattle.std.specs.List.Sorted.{IsStrictlySortedBy}
use Rattle.std.specs.Option.{is_some}
use Rattle.std.specs.Ordering.{is_lt}
use Rattle.std.proofs.lemmas.Option.{none-some}
use Rattle.asm_group.specs.Group.{Group, Template}
use Rattle.asm_group.specs.NewGroup.{templates_by_name}
use Rattle.asm_formats.specs.Among.{IsAmong}
use Rattle.asm_formats.specs.Items.{Item, Key, Settings, item_key, is_item, settings_item, templates_item}
use Rattle.asm_formats.specs.Status.{Status}
use Rattle.asm_formats.specs.Values.{decoded_item, value}
use Rattle.asm_formats.proofs.Among.{among_filter, among_map, filter_among}
use Rattle.asm_formats.proofs.ItemReading.{decoded_again}
use Rattle.asm_placement.specs.Tables.{first_said}
use Rattle.asm_images.specs.Describing.{DescribesGroup}
use Rattle.asm_images.specs.Tables.{settings_of, templates_of}
use Rattle.asm_base.specs.Records.{Ascend, DirectoryRecord, key_cmp, keys_of, of_kinds, record_at}
use Rattle.asm_base.specs.Tables.{item_record}
use Rattle.asm_base.proofs.Exact.{some_is}
use Rattle.page_map.specs.Contents.{IsItemOf}
use Rattle.catalog_tables.specs.Faults.{IsNeeded}
use Rattle.catalog_tables.specs.Items.{AreItemsIn}
use Rattle.catalog_tables.specs.Tables.{first_unreadable, is_record}
use Rattle.catalog_tables.proofs.TableItems.{among_found, each_of, found_is, from_map, key_total, keys_exact, map_among, one_of_key}
use Rattle.group_of.proofs.Says.{first_is, first_none}
use Rattle.fault_laws.proofs.Lists.{none_wrong}

up_of : (es : List DirectoryRecord) → IsStrictlySortedBy key_cmp (keys_of es) → Ascend (λ a b. is_lt (key_cmp a b)) es
unfolding IsStrictlySortedBy
up_of [] sorted = tt
up_of (x ∷ []) sorted = tt
up_of (x ∷ y ∷ es) sorted = (ap is_lt sorted.0.0, up_of (y ∷ es) sorted.1)

-- items of one record are one
same_record : (i j : Item) → is_item i ≡ true → is_item j ≡ true → item_record i ≡ item_record j → i ≡ j
same_record i j a b e = some_is i j (sym (decoded_again i a) ∙ ap (λ (r : DirectoryRecord). decoded_item r.0 r.1) e ∙ decoded_again j b)

-- what the first item says that says something, by a look-up
pub said_by : {A : Type 0} (tells : Item → Option A) (items : List Item) (o : Option A) → ((y : A) → o ≡ Some y → (i : Item) × IsAmong items i × (tells i ≡ Some y))
    → ((j : Item) (z : A) → IsAmong items j → tells j ≡ Some z → o ≡ Some z) → first_said tells items ≡ o
said_by tells items None into back = first_none tells items (λ j z h e. none-some z (back j z h e))
said_by tells items (Some y) into back =
    let i = into y refl in
    first_is tells items i.0 y i.1 i.2 (λ j z h e. some_is z y (sym (back j z h e)))

has_templates : (items : List Item) (ts : List Template) → templates_of items ≡ Some ts → IsAmong items (templates_item ts)
unfolding templates_of
has_templates [] ts e = absurd (none-some ts e)
has_templates (templates_item us ∷ items) ts e = inl (ap templates_item (sym (some_is us ts e)))
has_templates (i ∷ items) ts e = inr (has_templates items ts e)

has_settings : (items : List Item) (s : Settings) → settings_of items ≡ Some s → IsAmong items (settings_item s)
unfolding settings_of
has_settings [] s e = absurd (none-some s e)
has_settings (settings_item u ∷ items) s e = inl (ap settings_item (sym (some_is u s e)))
has_settings (i ∷ items) s e = inr (has_settings items s e)

module _ (content : List DirectoryRecord) (items : List Item) (sorted : IsStrictlySortedBy key_cmp (keys_of content)) (are : AreItemsIn content items) where
  -- each record is an item
  item_there : (e : DirectoryRecord) → IsAmong content e → (i : Item) × IsAmong items i × IsItemOf e.0 e.1 i
  item_there e h = are.from_record e.0 e.1 (among_found key_cmp key_total keys_exact content e (up_of content sorted) h)

  pub readable : first_unreadable content ≡ None
  readable = none_wrong is_record content (λ e h.
      let i = item_there e h in
      subst (λ (x : DirectoryRecord). is_some (decoded_item x.0 x.1) ≡ true) (λ j. (i.2.key j, i.2.value j)) (ap is_some (decoded_again i.0 i.2.is)))

  right : (i : Item) → IsAmong items i → is_item i ≡ true
  right i h =
      let r = are.from_record (item_key i) (value i) (are.to_record i h) in
      ap is_item (one_of_key items 0 are.in_order i r.0 h r.1 (sym r.2.key)) ∙ r.2.is

  module _ {X : Type 0} (item_of : X → Item) (p : Key → Bool) (xs : List X) (same : of_kinds p content ≡ map (λ y. item_record (item_of y)) xs) (all : AllByRecursion (λ x. is_item (item_of x) ≡ true) xs) where
    -- the entries of a table of some of the records are items, and the items of its kinds are entries
    pub into : (x : X) → IsAmong xs x → IsAmong items (item_of x)
    into x h =
        let i = item_of x in
        let kept : IsAmong (of_kinds p content) (item_record i) = subst (λ (es : List DirectoryRecord). IsAmong es (item_record i)) (sym same) (among_map (λ y. item_record (item_of y)) xs x h) in
        let r = item_there (item_record i) (among_filter (λ (e : DirectoryRecord). p e.0) content (item_record i) kept) in
        subst (λ (j : Item). IsAmong items j) (same_record r.0 i r.2.is (each_of (λ y. is_item (item_of y) ≡ true) xs x all h) (λ k. (r.2.key k, r.2.value k))) r.1

    pub back : (i : Item) → IsAmong items i → p (item_key i) ≡ true → (x : X) × IsAmong xs x × (i ≡ item_of x)
    back i h mine =
        let there = found_is key_cmp key_total keys_exact (item_key i) content (value i) (are.to_record i h) in
        let kept = subst (λ (es : List DirectoryRecord). IsAmong es (item_record i)) same (filter_among (λ (e : DirectoryRecord). p e.0) content (item_record i) mine there) in
        let m = map_among (λ y. item_record (item_of y)) xs (item_record i) kept in
        (m.0, m.1, same_record i (item_of m.0) (right i h) (each_of (λ y. is_item (item_of y) ≡ true) xs m.0 all m.1) m.2)

  -- the records that must be there are
  pub none_absent : (r : Status) (g : Group) (k : Key) → DescribesGroup r items g → record_at content k ≡ None → IsNeeded k → ⊥
  none_absent r g k d gone (inl first) =
      let t = from_map templates_by_name (templates_of items) g.templates d.templates in
      none-some _ (sym gone ∙ ap (record_at content) first ∙ are.to_record (templates_item t.0) (has_templates items t.0 t.1))
  none_absent r g k d gone (inr second) =
      let s = from_map (λ (s : Settings). s.incarnation) (settings_of items) g.next d.next in
      none-some _ (sym gone ∙ ap (record_at content) second ∙ are.to_record (settings_item s.0) (has_settings items s.0 s.1))
