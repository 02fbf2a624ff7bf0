-- Templates and settings are read from their one spelling alone.
use Rattle.std.proofs.Common.{◌≡◌, ℕ, ◌^◌, ◌<◌, ◌≤◌, true, false, leb, ltb, eqb, cond, List, [], ◌∷◌, length, Option, Some, None, refl, sym, ap, subst, ◌∙◌, arith}
use Rattle.std.specs.Prelude.{◌&&◌}
use Rattle.std.specs.Int.{w64}
use Rattle.std.specs.List.{flat_map, list_all, AllByRecursion}
use Rattle.std.specs.Option.{option_and_then, option_map}
use Rattle.std.specs.Prelude.{IfSome}
use Rattle.std.proofs.lemmas.Bool.{and_parts, and_from, eqb-true, leb-true, le-leb, ltb-true, lt-ltb, true≢false}
use Rattle.asm_group.specs.Names.{is_name, is_part}
use Rattle.asm_group.specs.Group.{Template}
use Rattle.asm_formats.specs.Items.{Settings, Item, Key, file_item, chunk_item, disk_item, rebalance_item, pending_item, templates_item, node_item, settings_item, marks_item, item_key, is_same_key, is_item, is_redundancy, is_template, is_text, names_ascend}
use Rattle.asm_formats.specs.Values.{value, template_fields, settings_value, decoded_item}
use Rattle.asm_formats.proofs.Bodies.{item_codec}
use Rattle.asm_base.specs.Records.{DirectoryRecord, all_of, are_bytes}
use Rattle.asm_base.specs.Tables.{entry_of_record, item_record}
use Rattle.asm_base.proofs.Exact.{IsBytes, IsExact, bind_some, some_is, both_exact, as_exact, fits_exact}
use Rattle.asm_base.proofs.Numbers.{number_exact}
use Rattle.asm_base.proofs.FieldLaws.{byte_exact, flag_exact, counted_exact}
use Rattle.byte_codes.proofs.WordLaws.{stripe_exact}
use Rattle.asm_base.proofs.NameLaws.{name_exact, text_exact, name_is_part}
use Rattle.asm_base.proofs.Tables.{bytes_are, are_bytes_is}
use Rattle.template_directory.specs.Tables.{Table, IsTemplateTable, records_of_templates, settings_said, table_of, templates_said}
use Rattle.record_values.specs.Values.{templates_reading, settings_reading}
use Rattle.record_values.proofs.Templates.{templates_decoded}
use Rattle.record_values.proofs.Settings.{settings_decoded}

-- ---- what settings may be

-- numbers of their types pass where the texts do
by_texts : (s : Settings) → s.incarnation < 2 ^ 64 → s.attributes.repair < 2 ^ 64 → (is_text s.attributes.asm && (is_text s.attributes.rdbms && is_text s.attributes.advm)) ≡ is_item (settings_item s)
unfolding is_item
by_texts s incarnation repair = rw (lt-ltb s.incarnation (2 ^ 64) incarnation, lt-ltb s.attributes.repair (2 ^ 64) repair) refl

pub texts_are_all : {v s : Settings} → v ≡ s → v.incarnation < 2 ^ 64 → v.attributes.repair < 2 ^ 64 → (is_text s.attributes.asm && (is_text s.attributes.rdbms && is_text s.attributes.advm)) ≡ is_item (settings_item s)
texts_are_all {v} {s} same incarnation repair = by_texts s (subst (λ (t : Settings). t.incarnation < 2 ^ 64) same incarnation) (subst (λ (t : Settings). t.attributes.repair < 2 ^ 64) same repair)

-- ---- what a record says

only_key : (k : Key) (n : ℕ) → is_same_key k (record { kind = n; a = 0; b = 0 }) ≡ true → k ≡ record { kind = n; a = 0; b = 0 }
only_key k n e =
    let p = and_parts (eqb k.kind n) (eqb k.a 0 && eqb k.b 0) e in
    let q = and_parts (eqb k.a 0) (eqb k.b 0) p.1 in
    λ i. record { kind = eqb-true k.kind n p.0 i; a = eqb-true k.a 0 q.0 i; b = eqb-true k.b 0 q.1 i }

said_again : (o : Option (List Template)) → o ≡ option_and_then templates_said (option_map templates_item o)
said_again None = refl
said_again (Some ts) = refl

settings_again : (o : Option Settings) → o ≡ option_and_then settings_said (option_map settings_item o)
settings_again None = refl
settings_again (Some s) = refl

pub templates_are_said : (k : Key) (bytes : List ℕ) → is_same_key k (record { kind = 5; a = 0; b = 0 }) ≡ true → all_of templates_reading bytes ≡ entry_of_record templates_said (k, bytes)
unfolding entry_of_record
templates_are_said k bytes e =
    said_again (all_of templates_reading bytes) ∙ ap (option_and_then templates_said) (templates_decoded bytes ∙ ap (λ (j : Key). decoded_item j bytes) (sym (only_key k 5 e)))

pub settings_are_said : (k : Key) (bytes : List ℕ) → is_same_key k (record { kind = 9; a = 0; b = 0 }) ≡ true → all_of settings_reading bytes ≡ entry_of_record settings_said (k, bytes)
unfolding entry_of_record
settings_are_said k bytes e =
    settings_again (all_of settings_reading bytes) ∙ ap (option_and_then settings_said) (settings_decoded bytes ∙ ap (λ (j : Key). decoded_item j bytes) (sym (only_key k 9 e)))

-- the item that is decoded has the key
at_key : (k : Key) (bytes : List ℕ) (i : Item) → decoded_item k bytes ≡ Some i → item_key i ≡ k
at_key k bytes i e = (item_codec.decoded k bytes i e).1

pub no_templates : (k : Key) (bytes : List ℕ) → is_same_key k (record { kind = 5; a = 0; b = 0 }) ≡ false → None ≡ entry_of_record templates_said (k, bytes)
unfolding entry_of_record
no_templates k bytes other = by_item (decoded_item k bytes) (at_key k bytes) where
  by_item : (o : Option Item) → ((i : Item) → o ≡ Some i → item_key i ≡ k) → None ≡ option_and_then templates_said o
  by_item None at = refl
  by_item (Some (templates_item ts)) at = absurd (true≢false (ap (λ (j : Key). is_same_key j (record { kind = 5; a = 0; b = 0 })) (at (templates_item ts) refl) ∙ other))
  by_item (Some (file_item f h)) at = refl
  by_item (Some (chunk_item f c homes)) at = refl
  by_item (Some (disk_item d info)) at = refl
  by_item (Some (rebalance_item power)) at = refl
  by_item (Some (pending_item op)) at = refl
  by_item (Some (node_item n node)) at = refl
  by_item (Some (settings_item s)) at = refl
  by_item (Some (marks_item f c marks)) at = refl

pub no_settings : (k : Key) (bytes : List ℕ) → is_same_key k (record { kind = 9; a = 0; b = 0 }) ≡ false → None ≡ entry_of_record settings_said (k, bytes)
unfolding entry_of_record
no_settings k bytes other = by_item (decoded_item k bytes) (at_key k bytes) where
  by_item : (o : Option Item) → ((i : Item) → o ≡ Some i → item_key i ≡ k) → None ≡ option_and_then settings_said o
  by_item None at = refl
  by_item (Some (templates_item ts)) at = refl
  by_item (Some (file_item f h)) at = refl
  by_item (Some (chunk_item f c homes)) at = refl
  by_item (Some (disk_item d info)) at = refl
  by_item (Some (rebalance_item power)) at = refl
  by_item (Some (pending_item op)) at = refl
  by_item (Some (node_item n node)) at = refl
  by_item (Some (settings_item s)) at = absurd (true≢false (ap (λ (j : Key). is_same_key j (record { kind = 9; a = 0; b = 0 })) (at (settings_item s) refl) ∙ other))
  by_item (Some (marks_item f c marks)) at = refl

-- ---- the table

record SaysTemplates (e : DirectoryRecord) (ts : List Template) : Type 0 where
  allowed : is_item (templates_item ts) ≡ true
  same : e ≡ item_record (templates_item ts)

record SaysSettings (e : DirectoryRecord) (s : Settings) : Type 0 where
  allowed : is_item (settings_item s) ≡ true
  same : e ≡ item_record (settings_item s)

templates_item_of : (i : Item) (ts : List Template) → templates_said i ≡ Some ts → i ≡ templates_item ts
templates_item_of (templates_item us) ts e = ap templates_item (some_is us ts e)
templates_item_of (file_item f h) ts e = absurd cc
templates_item_of (chunk_item f c homes) ts e = absurd cc
templates_item_of (disk_item d info) ts e = absurd cc
templates_item_of (rebalance_item power) ts e = absurd cc
templates_item_of (pending_item op) ts e = absurd cc
templates_item_of (node_item n node) ts e = absurd cc
templates_item_of (settings_item s) ts e = absurd cc
templates_item_of (marks_item f c marks) ts e = absurd cc

settings_item_of : (i : Item) (s : Settings) → settings_said i ≡ Some s → i ≡ settings_item s
settings_item_of (templates_item us) s e = absurd cc
settings_item_of (file_item f h) s e = absurd cc
settings_item_of (chunk_item f c homes) s e = absurd cc
settings_item_of (disk_item d info) s e = absurd cc
settings_item_of (rebalance_item power) s e = absurd cc
settings_item_of (pending_item op) s e = absurd cc
settings_item_of (node_item n node) s e = absurd cc
settings_item_of (settings_item t) s e = ap settings_item (some_is t s e)
settings_item_of (marks_item f c marks) s e = absurd cc

says_templates : (e : DirectoryRecord) (ts : List Template) → entry_of_record templates_said e ≡ Some ts → SaysTemplates e ts
unfolding entry_of_record
says_templates e ts said =
    let b = bind_some templates_said (decoded_item e.0 e.1) ts said in
    let d = item_codec.decoded e.0 e.1 b.0 b.1 in
    let is = templates_item_of b.0 ts b.2 in
    record {
      allowed = sym (ap is_item is) ∙ d.0;
      same = ap (λ (k : Key). (k, e.1)) (sym d.1 ∙ ap item_key is) ∙ ap (λ (v : List ℕ). (item_key (templates_item ts), v)) (d.2 ∙ ap value is);
    }

says_settings : (e : DirectoryRecord) (s : Settings) → entry_of_record settings_said e ≡ Some s → SaysSettings e s
unfolding entry_of_record
says_settings e s said =
    let b = bind_some settings_said (decoded_item e.0 e.1) s said in
    let d = item_codec.decoded e.0 e.1 b.0 b.1 in
    let is = settings_item_of b.0 s b.2 in
    record {
      allowed = sym (ap is_item is) ∙ d.0;
      same = ap (λ (k : Key). (k, e.1)) (sym d.1 ∙ ap item_key is) ∙ ap (λ (v : List ℕ). (item_key (settings_item s), v)) (d.2 ∙ ap value is);
    }

-- templates and settings that records say may be held
pub said_templates_allowed : (e : DirectoryRecord) (ts : List Template) → entry_of_record templates_said e ≡ Some ts → is_item (templates_item ts) ≡ true
said_templates_allowed e ts said = (says_templates e ts said).allowed

pub said_settings_allowed : (e : DirectoryRecord) (s : Settings) → entry_of_record settings_said e ≡ Some s → is_item (settings_item s) ≡ true
said_settings_allowed e s said = (says_settings e s said).allowed

map_some : {X Y : Type 0} (f : X → Y) (o : Option X) (y : Y) → option_map f o ≡ Some y → (x : X) × (o ≡ Some x) × (f x ≡ y)
map_some f (Some x) y e = (x, refl, cc)
map_some f None y e = absurd cc

found_of : (es : List DirectoryRecord) (t : Table) → table_of es ≡ Some t → IsTemplateTable t × (es ≡ records_of_templates t)
found_of [] t read = absurd cc
found_of (e ∷ []) t read = absurd cc
found_of (e ∷ f ∷ []) t read =
    let a = bind_some (λ (ts : List Template). option_map (λ s. record { templates = ts; settings = s }) (entry_of_record settings_said f)) (entry_of_record templates_said e) t read in
    let b = map_some (λ (s : Settings). record { templates = a.0; settings = s }) (entry_of_record settings_said f) t a.2 in
    let one = says_templates e a.0 a.1 in
    let two = says_settings f b.0 b.1 in
    let whole : IsTemplateTable (record { templates = a.0; settings = b.0 }) = record { templates = one.allowed; settings = two.allowed } in
    let same : e ∷ f ∷ [] ≡ records_of_templates (record { templates = a.0; settings = b.0 }) = ap (λ (x : DirectoryRecord). x ∷ f ∷ []) one.same ∙ ap (λ (x : DirectoryRecord). item_record (templates_item a.0) ∷ x ∷ []) two.same in
    subst (λ (u : Table). IsTemplateTable u × (e ∷ f ∷ [] ≡ records_of_templates u)) b.2 (whole, same)
found_of (e ∷ f ∷ g ∷ es) t read = absurd cc

again_of : (t : Table) → IsTemplateTable t → table_of (records_of_templates t) ≡ Some t
unfolding entry_of_record
again_of t is = rw (item_codec.again (templates_item t.templates) is.templates, item_codec.again (settings_item t.settings) is.settings) refl

pub table_found : (es : List DirectoryRecord) (read : Option Table) → read ≡ table_of es → IfSome read (λ t. IsTemplateTable t × (es ≡ records_of_templates t))
table_found es None e = tt
table_found es (Some t) e = found_of es t (sym e)

pub table_again : (es : List DirectoryRecord) (read : Option Table) (t : Table) → read ≡ table_of es → IsTemplateTable t → es ≡ records_of_templates t → read ≡ Some t
table_again es read t e is same = e ∙ ap table_of same ∙ again_of t is
