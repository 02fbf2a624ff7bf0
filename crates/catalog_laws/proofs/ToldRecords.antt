-- The tables say at each key what the record of the key says.
use Rattle.std.proofs.Common.{◌≡◌, ℕ, Bool, true, false, List, [], ◌∷◌, Option, Some, None, refl, sym, ap, subst, ◌∙◌, inl, inr}
use Rattle.std.specs.Prelude.{find, not}
use Rattle.std.specs.List.{AllByRecursion}
use Rattle.std.specs.Option.{is_some, option_map}
use Rattle.std.proofs.lemmas.Option.{none-some}
use Rattle.asm_formats.specs.Among.{IsAmong}
use Rattle.asm_formats.specs.Items.{Item, Key, item_key}
use Rattle.asm_formats.specs.Values.{decoded_item, value}
use Rattle.asm_formats.proofs.ItemReading.{item_spelled}
use Rattle.catalog.specs.asm_base.Records.{DirectoryRecord, key_cmp, record_at}
use Rattle.catalog.specs.asm_base.Tables.{item_record}
use Rattle.catalog.specs.catalog_tables.Items.{RecordsAreTold}
use Rattle.catalog.specs.catalog_tables.Tables.{AreTables, HasRecords, Tables, first_unreadable, is_record, item_at, records_of}
use Rattle.catalog.proofs.MarkPlans.{some_of}
use Rattle.catalog.proofs.catalog_tables.TableItems.{found_is, is_of, key_total, keys_exact, recorded, said, says, some_found}

-- where none is unreadable, each can be read
readable : (content : List DirectoryRecord) (e : DirectoryRecord) → first_unreadable content ≡ None → IsAmong content e → is_record e ≡ true
readable [] e none among = absurd among
readable (x ∷ content) e none among = by (is_record x) refl (readable content e) where
  by : (b : Bool) → is_record x ≡ b → (first_unreadable content ≡ None → IsAmong content e → is_record e ≡ true) → is_record e ≡ true
  by false is rest = absurd (none-some x.0 (sym (rw is at none)))
  by true is rest = elim among [ inl same ↦ ap is_record same ∙ is | inr later ↦ rest (rw is at none) later ]

pub records_told : RecordsAreTold
records_told content t a has k = by (record_at content k) refl (item_at t k) refl where
  by : (r : Option (List ℕ)) → record_at content k ≡ r → (o : Option Item) → item_at t k ≡ o → option_map value o ≡ r
  by None none None nothing = refl
  by None none (Some i) there =
      let s = said t k i there in
      let found = some_found key_cmp key_total keys_exact content (item_key i) (value i) (recorded content t i has s.0) in
      absurd (none-some found.0 (sym none ∙ (ap (record_at content) (sym s.1) ∙ found.1)))
  by (Some v) some o there =
      let among = found_is key_cmp key_total keys_exact k content v some in
      let i = some_of (decoded_item k v) (readable content (k, v) has.all among) in
      let spelled = item_spelled k v i.0 i.1 in
      let own : IsAmong content (item_record i.0) = subst (λ (e : DirectoryRecord). IsAmong content e) (λ j. (sym spelled.key_is j, spelled.same j)) among in
      let at : item_at t k ≡ Some i.0 = ap (item_at t) (sym spelled.key_is) ∙ says t i.0 a (is_of content t i.0 a has spelled.allowed own) in
      ap (option_map value) (sym there ∙ at) ∙ ap (λ (w : List ℕ). Some w) (sym spelled.same)
