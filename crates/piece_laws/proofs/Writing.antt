-- While a span is written to some copies, the group is kept with the span's cells Free.
use Rattle.std.proofs.Common.{◌≡◌, ◌≢◌, ◌⊎◌, inl, inr, ⊎_elim, ℕ, ◌+◌, ◌*◌, ◌<◌, ◌≤◌, Bool, true, false, List, [], ◌∷◌, map, slice_index, refl, sym, ap, subst, ◌∙◌, Some, arith, mul-le-mul_right, add-mul}
use Rattle.std.proofs.lemmas.Bool.{eq-eqb, cases_eq, cases_lt, false≢true, and_from, le-leb, lt-ltb}
use Rattle.std.proofs.lemmas.List.{get_or_past}
use Rattle.bay.specs.Image as bay
use Rattle.bay.specs.Image.{Range, ChangesOnly}
use Rattle.asm_group.specs.Shape.{Shape, is_shape}
use Rattle.asm_group.specs.Group.{Group}
use Rattle.asm_formats.specs.Among.{IsAmong}
use Rattle.asm_placement.specs.Layout.{units_of}
use Rattle.asm_formats.specs.Bytes.{block_size}
use Rattle.asm_formats.specs.Regions.{region_end}
use Rattle.asm_formats.specs.Header.{Header}
use Rattle.asm_formats.specs.Metadata.{Metadata, metadata}
use Rattle.asm_formats.specs.Places.{SameElsewhere}
use Rattle.asm_formats.specs.Status.{Status}
use Rattle.asm_formats.specs.Items.{Item, Home, Homes}
use Rattle.asm_formats.proofs.Framing.{user_write}
use Rattle.asm_images.specs.Members.{Member, metadata_of, all_members, members, within}
use Rattle.asm_images.specs.Register.{status}
use Rattle.asm_images.specs.Directories.{directories}
use Rattle.asm_images.specs.Copies.{IsCurrent}
use Rattle.asm_images.specs.Describing.{extent_size}
use Rattle.asm_images.specs.Stands.{Standing}
use Rattle.asm_images.specs.Sound.{SoundBy}
use Rattle.asm_images.specs.Steps.{IsOpen, KeepsByte}
use Rattle.asm_images.specs.Spans.{Span, is_inside_span, freed, FitsIn}
use Rattle.asm_images.specs.WriteLaws.{AreApart}
use Rattle.asm_images.specs.Bridge.{disk_bytes, disks_in}
use Rattle.asm_images.specs.Kept.{Kept, header_in, IsHeld}
use Rattle.asm_images.proofs.Spans.{piece_keeps}
use Rattle.asm_images.proofs.Members.{member_is, member_shape}
use Rattle.asm_images.proofs.Bridges.{listed, disks_are_listed, bytes_are_listed, same_disk}
use Rattle.asm_images.proofs.UserBytes.{shape_au}
use Rattle.asm_images.proofs.UserWrites.{homes_are_apart}
use Rattle.piece_laws.specs.Targets.{Target, start_of, RangesOf, AreTargets}
use Rattle.piece_laws.specs.PieceLaws.{WritingFrees, FreedIsHeld}
use Rattle.piece_laws.proofs.Kept.{Tells, told, HasOpen, open_of, member_header, has_member, kept_as, home_is_behind}

-- a byte outside the region stays, also in the list
pub byte_kept : (region : ℕ → ℕ → Type 0) (old new : bay.Image) → ChangesOnly region old new → (slot k : ℕ) → (region slot k → ⊥)
    → slice_index (disk_bytes new slot) k ≡ slice_index (disk_bytes old slot) k
byte_kept region old new c slot k out = ⊎_elim
    (λ lt. (bytes_are_listed new slot).1 k (omega (arith, lt, c.size slot)) ∙ c.byte slot k out ∙ sym ((bytes_are_listed old slot).1 k lt))
    (λ le. get_or_past (disk_bytes new slot) k 0 (omega (arith, (bytes_are_listed new slot).0, c.size slot, le))
    ∙ sym (get_or_past (disk_bytes old slot) k 0 (omega (arith, (bytes_are_listed old slot).0, le))))
    (cases_lt k (old.size slot))

-- where what each disk says stays, so does what all say
metadata_map : (old new : bay.Image) → ((s : ℕ) → metadata (disk_bytes new s) ≡ metadata (disk_bytes old s)) → (xs : List ℕ) → map metadata (map (disk_bytes new) xs) ≡ map metadata (map (disk_bytes old) xs)
metadata_map old new same [] = refl
metadata_map old new same (x ∷ xs) = λ i. same x i ∷ metadata_map old new same xs i

pub same_metadata : (slots : ℕ) (old new : bay.Image) → ((s : ℕ) → metadata (disk_bytes new s) ≡ metadata (disk_bytes old s)) → metadata_of (disks_in slots new) ≡ metadata_of (disks_in slots old)
unfolding disks_in
same_metadata slots old new same = metadata_map old new same _

-- a copy in a slot, if there is one
target_in : (slot : ℕ) (targets : List Target) → ((t : Target) × IsAmong targets t × (t.slot ≡ slot)) ⊎ ((t : Target) → IsAmong targets t → t.slot ≢ slot)
target_in slot [] = inr (λ t h. absurd h)
target_in slot (t ∷ ts) = ⊎_elim
    (λ (here : t.slot ≡ slot). inl (t, inl refl, here))
    (λ differ. ⊎_elim
    (λ found. inl (found.0, inr found.1, found.2))
    (λ none. inr (λ u h. ⊎_elim (λ (same : u ≡ t). λ at. differ (ap (λ (v : Target). v.slot) (sym same) ∙ at)) (λ later. none u later) h)) (target_in slot ts))
    (cases_eq t.slot slot)

-- bytes of runs of units that are apart
meets : (au u n v m inner from len : ℕ) → AreApart u n v m → from + len ≤ n * au → inner < m * au → u * au + from ≤ v * au + inner → v * au + inner < u * au + from + len → ⊥
meets au u n v m inner from len (inl le) fits lt low high = omega (arith, mul-le-mul_right au le, add-mul u n au, fits, high)
meets au u n v m inner from len (inr le) fits lt low high = omega (arith, mul-le-mul_right au le, add-mul v m au, lt, low)

-- an inner byte between the span's ends is in the span
in_span : (x : Span) (f i inner : ℕ) → f ≡ x.file → i ≡ x.index → x.from ≤ inner → inner < x.from + x.len → is_inside_span x f i inner ≡ true
in_span x f i inner file index low high =
    and_from _ _ (and_from _ _ (and_from _ _ (eq-eqb f x.file file) (eq-eqb i x.index index)) (le-leb x.from inner low)) (lt-ltb inner (x.from + x.len) high)

module _ (n id : ℕ) (g : Group) (kept : Kept) (x : Span) (homes : Homes) (marks : ℕ → Bool) (targets : List Target) (old new : bay.Image)
    (is : IsHeld n id (g ∷ []) kept old) (fits : FitsIn (g ∷ []) x) (are : AreTargets n id kept x.file x.index homes marks targets old)
    (changes : ChangesOnly (RangesOf g.shape x targets) old new) where
  -- what the attached disks say
  abbrev here : HasOpen n id kept old
  here = open_of n id g kept old is

  abbrev says : Tells id (disks_in n old) here.status here.items g
  says = told id (disks_in n old) g (Some kept.completed) kept.begun (is.sound n) here.status here.items here.is_open

  -- the header of a copy's disk has the group's shape
  shape_is : (t : Target) (among : IsAmong targets t) → (are.on t among).header.shape ≡ g.shape
  shape_is t among =
      let on = are.on t among in
      let m = has_member id n t.slot old on.header on.inside on.found on.id_is in
      ap (λ (h : Header). h.shape) (sym m.header) ∙ (says.disks m.member m.among).shape

  au_some : (t : Target) → IsAmong targets t → 0 < g.shape.au
  au_some t among =
      let on = are.on t among in
      let m = has_member id n t.slot old on.header on.inside on.found on.id_is in
      shape_au g.shape (subst (λ (s : Shape). is_shape s ≡ true) (says.disks m.member m.among).shape (member_shape m.member.header (member_is id (disks_in n old) m.member m.among).allowed))

  -- a copy lies behind the metadata of its disk
  is_behind : (t : Target) → IsAmong targets t → region_end g.shape.dir_blocks * block_size ≤ start_of g.shape x t
  is_behind t among =
      let le = home_is_behind g.shape here.status.entries here.items x.file x.index t.copy t.home (au_some t among) says.describes.places
      (are.says.home n t.copy here.status here.items here.is_open ∙ are.home t among) in
      omega (arith, le)

  metadata_stays : (s : ℕ) → metadata (disk_bytes new s) ≡ metadata (disk_bytes old s)
  metadata_stays s = ⊎_elim
      (λ found.
      let on = are.on found.0 found.1 in
      let at = region_end g.shape.dir_blocks * block_size in
      let before : (k : ℕ) → k < at → slice_index (disk_bytes new s) k ≡ slice_index (disk_bytes old s) k =
      λ k lt. byte_kept (RangesOf g.shape x targets) old new changes s k (λ r. omega (arith, lt, is_behind r.0 r.1, r.2.1)) in
      let same : SameElsewhere (disk_bytes old s) (disk_bytes new s) at (old.size s) = record {
        size = (bytes_are_listed new s).0 ∙ changes.size s ∙ sym (bytes_are_listed old s).0;
        before = before;
        behind = λ k le. get_or_past (disk_bytes new s) k 0 (omega (arith, (bytes_are_listed new s).0, changes.size s, le))
            ∙ sym (get_or_past (disk_bytes old s) k 0 (omega (arith, (bytes_are_listed old s).0, le)));
      } in
      let header : header_in old s ≡ Some on.header = ap (λ (k : ℕ). header_in old k) (sym found.2) ∙ on.found in
      let end : region_end on.header.shape.dir_blocks * block_size ≤ at = subst (λ (z : Shape). region_end on.header.shape.dir_blocks * block_size ≤ region_end z.dir_blocks * block_size) (shape_is found.0 found.1) (omega arith) in
      user_write (disk_bytes old s) (disk_bytes new s) on.header at (old.size s) same header end)
      (λ none. ap metadata (same_disk old new s (changes.size s) (λ k. changes.byte s k (λ r. none r.0 r.1 (sym r.2.0)))))
      (target_in s targets)

  stays : (slots : ℕ) → metadata_of (disks_in slots new) ≡ metadata_of (disks_in slots old)
  stays slots = same_metadata slots old new metadata_stays

  same_members : (slots : ℕ) → all_members id (disks_in slots new) ≡ all_members id (disks_in slots old)
  same_members slots = ap (λ (l : List Metadata). members id l) (stays slots)

  piece_bytes : (slots : ℕ) (r : Status) (items : List Item) (f i copy inner : ℕ) (h : Home) (m : Member) → IsOpen id (disks_in slots old) (Some kept.completed) kept.begun r items
      → IsAmong (all_members id (disks_in slots old)) m → IsCurrent r items f i copy h m → inner < extent_size m.header.shape i → is_inside_span x f i inner ≡ false
      → KeepsByte (disks_in slots old) (disks_in slots new) m h inner
  piece_bytes slots r items f i copy inner h m is_open among current lt out =
      let tells = told id (disks_in slots old) g (Some kept.completed) kept.begun (is.sound slots) r items is_open in
      let shape : m.header.shape ≡ g.shape = (tells.disks m among).shape in
      let inside : m.slot < slots = omega (arith, (member_is id (disks_in slots old) m among).slot, listed slots old) in
      let place = h.unit * m.header.shape.au + inner in
      let unmet : RangesOf g.shape x targets m.slot place → ⊥ = λ met.
      let t = met.0 in
      let on = are.on t met.1 in
      let header = member_header id slots t.slot old on.header m among met.2.0 on.found in
      let disk : h.disk ≡ t.home.disk = sym (kept_as r h m.header current.kept).number ∙ ap (λ (z : Header). z.number) header ∙ on.number in
      let own = homes_are_apart g.shape r.entries items x t.copy t.home tells.describes.places (are.says.home slots t.copy r items is_open ∙ are.home t met.1) in
      let au : place ≡ h.unit * g.shape.au + inner = ap (λ (z : Shape). h.unit * z.au + inner) shape in
      let low : t.home.unit * g.shape.au + x.from ≤ h.unit * g.shape.au + inner = omega (arith, met.2.1, au) in
      let high : h.unit * g.shape.au + inner < t.home.unit * g.shape.au + x.from + x.len = omega (arith, met.2.2, au) in
      let short : inner < units_of g.shape.step i * g.shape.au = subst (λ (z : Shape). inner < units_of z.step i * z.au) shape lt in
      let fit : x.from + x.len ≤ units_of g.shape.step x.index * g.shape.au = fits g (inl refl) in
      ⊎_elim
      (λ one.
      let same : h.unit * g.shape.au ≡ t.home.unit * g.shape.au = ap (λ (k : Home). k.unit * g.shape.au) one.2 in
      false≢true (sym out ∙ in_span x f i inner one.0 one.1 (omega (arith, low, same)) (omega (arith, high, same))))
      (λ apart. meets g.shape.au t.home.unit (units_of g.shape.step x.index) h.unit (units_of g.shape.step i) inner x.from x.len apart fit short low high)
      (own f i copy h current.home disk) in
      ap (λ (l : List ℕ). slice_index l place) (disks_are_listed slots m.slot new inside).1
      ∙ byte_kept (RangesOf g.shape x targets) old new changes m.slot place unmet
      ∙ sym (ap (λ (l : List ℕ). slice_index l place) (disks_are_listed slots m.slot old inside).1)

  sound_after : (slots : ℕ) → SoundBy id (disks_in slots new) (freed x g ∷ []) (Some kept.completed) kept.begun
  sound_after slots = piece_keeps id (disks_in slots old) (disks_in slots new) (g ∷ []) (Some kept.completed) kept.begun (is.sound slots) x
      (record { fits = fits; metadata = stays slots; bytes = λ r items f i copy inner h m is_open among current lt out. piece_bytes slots r items f i copy inner h m is_open among current lt out })

  standing_after : Standing id (disks_in n new) kept.slots
  standing_after = record {
    record_ = is.standing.record_;
    content = is.standing.content;
    status_is = ap (λ (ms : List Member). status id (within kept.slots ms)) (same_members n) ∙ is.standing.status_is;
    directories_is = ap (λ (ms : List Member). directories is.standing.record_ (within kept.slots ms)) (same_members n) ∙ is.standing.directories_is;
  }

  header_stays : (s : ℕ) → header_in new s ≡ header_in old s
  unfolding metadata
  header_stays s = ap (λ (d : Metadata). d.header) (metadata_stays s)

  kept_after : IsHeld n id (freed x g ∷ []) kept new
  kept_after = record {
    sound = sound_after;
    standing = standing_after;
    there = λ slot at. let has = is.there slot at in (has.0, header_stays slot ∙ has.1, has.2);
  }

  open_before : (slots : ℕ) (r : Status) (items : List Item) → IsOpen id (disks_in slots new) (Some kept.completed) kept.begun r items → IsOpen id (disks_in slots old) (Some kept.completed) kept.begun r items
  open_before slots r items o = record {
    counts = o.counts;
    not_gone = o.not_gone;
    readable = o.readable;
    content = o.content;
    found = ap (λ (ms : List Member). directories r (within o.readable ms)) (sym (same_members slots)) ∙ o.found;
    decodes = o.decodes;
  }

  targets_after : AreTargets n id kept x.file x.index homes marks targets new
  targets_after = record {
    says = record {
      home = λ slots copy r items o. are.says.home slots copy r items (open_before slots r items o);
      stale = λ slots copy r items o. are.says.stale slots copy r items (open_before slots r items o);
    };
    home = are.home;
    on = λ t among. let on = are.on t among in
        record { inside = on.inside; header = on.header; found = header_stays t.slot ∙ on.found; id_is = on.id_is; number = on.number; birth = on.birth };
  }

pub writing_frees : WritingFrees
writing_frees = λ n id g kept x homes marks targets old new is fits are changes.
    (kept_after n id g kept x homes marks targets old new is fits are changes, targets_after n id g kept x homes marks targets old new is fits are changes)

pub freed_is_held : FreedIsHeld
freed_is_held = λ n id g kept x image is fits. record {
  sound = λ slots. piece_keeps id (disks_in slots image) (disks_in slots image) (g ∷ []) (Some kept.completed) kept.begun (is.sound slots) x
      (record { fits = fits; metadata = refl; bytes = λ r items f i copy inner h m is_open among current lt out. refl });
  standing = is.standing;
  there = is.there;
}
