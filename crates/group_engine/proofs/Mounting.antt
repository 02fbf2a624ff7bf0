-- A mounted group stays one over its calls.
use Rattle.std.proofs.Common.{◌≡◌, inl, ℕ, ◌<◌, ◌^◌, true, false, not, ◌&&◌, List, [], get_or, sym, ap, subst, ◌∙◌, Option, Some, None, arith, IsTrue, refl}
use Rattle.std.specs.List.{list_all}
use Rattle.bay.specs.Image as bay
use Rattle.bay.specs.Image.{ChangesOnly}
use Rattle.bay.specs.State.{BayState, KeepsAttached}
use Rattle.bay.specs.Moments.{Runs}
use Rattle.asm_group.specs.Group.{Group}
use Rattle.asm_group.specs.Shape.{Shape, is_shape}
use Rattle.asm_formats.specs.Items.{Item}
use Rattle.asm_formats.specs.Sets.{has_bit, elements}
use Rattle.asm_formats.specs.Status.{Entry, Status, is_status}
use Rattle.asm_formats.specs.Among.{IsAmong}
use Rattle.asm_placement.specs.Partners.{HasPartners}
use Rattle.asm_placement.specs.Placed.{places_fit}
use Rattle.asm_placement.proofs.Membership.{among_filtered}
use Rattle.asm_images.specs.Describing.{AreRegular, DescribesGroup, has_info_in_items}
use Rattle.rebalance.specs.catalog_tables.Placing.{HasUnits}
use Rattle.rebalance.specs.catalog_tables.Tables.{Catalogued}
use Rattle.directory_store.specs.change_directory.declared.copy.DirCopy.{DirCopy}
use Rattle.directory_store.specs.Copies.{RegionsOf}
use Rattle.directory_store.specs.Stores.{Stored, others}
use Rattle.directory_store.specs.Stores as stores
use Rattle.directory_store.proofs.Storing.{left_is}
use Rattle.status_register.specs.Elsewhere.{LeavesRegister}
use Rattle.status_register.specs.Holders.{HoldSlots, SlotsDiffer, is_of, next_turn, with_next_number}
use Rattle.status_register.specs.Keeping as registers
use Rattle.status_register.specs.Reaching.{Reaches}
use Rattle.status_register.specs.Registered.{Registered}
use Rattle.status_register.specs.declared.member.Member.{Member}
use Rattle.status_register.proofs.Elsewhere as register_proofs
use Rattle.group_engine.specs.Becoming.{LeadsToGroup}
use Rattle.group_engine.specs.Dropping.{IsWithout}
use Rattle.group_engine.specs.declared.attached.Attached.{Attached}
use Rattle.group_engine.specs.Mounts.{MountedGroup, AreCopiesOf, IsCopyOf, IsReady, IsWhole, Represents}
use Rattle.group_engine.proofs.Calls.{IsTried}
use Rattle.group_engine.proofs.Sets.{bit_element, element_bit, element_small, is_less}

-- ---- over a change of directory regions

-- the front of each disk stays
front_stays : (copies : List DirCopy) (slots id : ℕ) (x y : bay.Image) → ChangesOnly (RegionsOf copies) x y → LeavesRegister slots id x y
front_stays copies slots id x y change slot lt = inl (record { size = change.size slot; byte = λ k below. change.byte slot k (λ region. omega (arith, region.2.1, below)) })

-- so the register's history does
pub register_stays : (n : ℕ) (m : MountedGroup) {s t : BayState} {on : ℕ → Type 0} → Runs on (ChangesOnly (RegionsOf m.store.copies)) s t
    → registers.FitsRegister n m.register (Some m.register.value) [] s → registers.FitsRegister n m.register (Some m.register.value) [] t
register_stays n m {s} {t} {on} run keeps = register_proofs.keeps_elsewhere n m.register (Some m.register.value) [] (front_stays m.store.copies n m.register.id) run keeps

-- what a record says of a group is by its entries
pub entries_describe : (r q : Status) (items : List Item) (h : Group) → r.entries ≡ q.entries → DescribesGroup r items h → DescribesGroup q items h
entries_describe r q items h same e = record {
  tree = e.tree;
  tree_rules = e.tree_rules;
  files = e.files;
  extents = e.extents;
  extent_rules = e.extent_rules;
  owned = e.owned;
  places = subst (λ (es : List Entry). IsTrue (places_fit h.shape es items)) same e.places;
  regular = subst (λ (es : List Entry). AreRegular es items) same e.regular;
  templates = e.templates;
  attributes = e.attributes;
  next = e.next;
  disks = subst (λ (es : List Entry). IsTrue (list_all (has_info_in_items items) es)) same e.disks;
  partners = subst (λ (es : List Entry). HasPartners es) same e.partners;
  room = e.room;
}

-- a copy of an attached disk that another record names too
pub shaped_copy : {r q : Status} {members : List (Option Member)} {a b : Shape} {c : DirCopy} → r.entries ≡ q.entries → b ≡ a → IsAmong (elements q.directories) c.number → IsCopyOf r members a c → IsCopyOf q members b c
shaped_copy {r} {q} {members} {a} {b} {c} same shape named is = record {
  named = named;
  member = is.member;
  attached = is.attached;
  slot = is.slot;
  entry = subst (λ (es : List Entry). is_of es is.member ≡ true) same is.entry;
  pages = is.pages ∙ ap (λ (x : Shape). x.dir_blocks) (sym shape);
  sector = is.sector ∙ ap (λ (x : Shape). x.sector) (sym shape);
}

-- ---- after a commit

module _ (m : MountedGroup) (whole : IsWhole m) (cat : Catalogued) (new : Stored) (tried : IsTried m new cat.tables)
    (shape : cat.shape ≡ m.catalog.shape) (units : HasUnits cat.shape m.register.value.entries cat.tables cat.units) where
  abbrev r : Status
  r = m.register.value

  -- each copy took the change
  pub whole_all : new.copies ≡ m.store.copies → IsWhole (record m { catalog = cat; store = new })
  whole_all copies = record {
    are_tables = tried.are;
    tables = tried.tables;
    shape = subst (λ (x : Shape). IsTrue (is_shape x)) (sym shape) whole.shape;
    units = units;
    status = whole.status;
    alive = whole.alive;
    written = whole.written;
    group = whole.group;
    reached = whole.reached;
    numbers = whole.numbers;
    births = whole.births;
    copies = record {
      each = λ c among. let is = whole.copies.each c (subst (λ (l : List DirCopy). IsAmong l c) copies among) in shaped_copy refl shape is.named is;
      all = λ d named. let c = whole.copies.all d named in (c.0, subst (λ (l : List DirCopy). IsAmong l c.0) (sym copies) c.1, c.2);
    };
    disks = whole.disks;
  }

  -- some copies failed, and a record without them was written
  module _ (failed fewer : ℕ) (small : fewer < 2 ^ 64) (without : IsWithout fewer r.directories failed) (copies : new.copies ≡ others failed m.store.copies) where
    abbrev pub next : Status
    next = record r { directories = fewer }

    abbrev pub later : Registered
    later = record m.register { value = with_next_number m.register next; turn = next_turn m.register.turn; is_fresh = false }

    less : (d : ℕ) → IsAmong (elements fewer) d → IsAmong (elements r.directories) d
    less d in_fewer = bit_element fewer r.directories d in_fewer (is_less fewer r.directories failed without d in_fewer).0

    -- the copies that are left are those that the record names
    pub left_copies : AreCopiesOf (with_next_number m.register next) m.register.members cat.shape new.copies
    left_copies = record {
      each = λ c among.
          let was = left_is failed m.store.copies c (subst (λ (l : List DirCopy). IsAmong l c) copies among) in
          let is = whole.copies.each c was.0 in
          let bit : has_bit fewer c.number ≡ true = without c.number (element_small r.directories c.number is.named) ∙ (λ i. element_bit r.directories c.number is.named i && not (was.1 i)) in
          shaped_copy refl shape (bit_element r.directories fewer c.number is.named bit) is;
      all = λ d in_fewer.
          let c = whole.copies.all d (less d in_fewer) in
          let out : has_bit failed c.0.number ≡ false = ap (has_bit failed) c.2 ∙ (is_less fewer r.directories failed without d in_fewer).1 in
          (c.0, subst (λ (l : List DirCopy). IsAmong l c.0) (sym copies) (among_filtered (λ (k : DirCopy). not (has_bit failed k.number)) m.store.copies c.0 c.1 (ap not out)), c.2);
    }

    -- a copy that the record names is one of those that are left
    pub left_among : (c : DirCopy) → IsAmong m.store.copies c → IsAmong (elements fewer) c.number → IsAmong new.copies c
    left_among c among in_fewer = subst (λ (l : List DirCopy). IsAmong l c) (sym copies)
        (among_filtered (λ (k : DirCopy). not (has_bit failed k.number)) m.store.copies c among (ap not (is_less fewer r.directories failed without c.number in_fewer).1))

    pub some_left : (c : DirCopy) → IsAmong new.copies c → (d : DirCopy) × IsAmong m.store.copies d × IsAmong (elements fewer) d.number
    some_left c among = (c, (left_is failed m.store.copies c (subst (λ (l : List DirCopy). IsAmong l c) copies among)).0, (left_copies.each c among).named)

    pub whole_fewer : IsTrue (is_status (with_next_number m.register next)) → Reaches later.members later.value → IsWhole (record m { catalog = cat; store = new; register = later })
    whole_fewer allowed reached = record {
      are_tables = tried.are;
      tables = tried.tables;
      shape = subst (λ (x : Shape). IsTrue (is_shape x)) (sym shape) whole.shape;
      units = units;
      status = allowed;
      alive = whole.alive;
      written = refl;
      group = whole.group;
      reached = reached;
      numbers = whole.numbers;
      births = whole.births;
      copies = left_copies;
      disks = whole.disks;
    }

-- what takes the next call still does
pub still_ready : (m new : MountedGroup) (s t : BayState) → new.register.members ≡ m.register.members → new.disks ≡ m.disks → stores.Keeps new.store t → KeepsAttached s t → IsReady m s → IsReady new t
still_ready m new s t same disks keeps attached ready =
    let register = register_proofs.ready_elsewhere m.register attached ready.register in
    record {
      store = keeps;
      register = record {
        slots = subst (λ (l : List (Option Member)). HoldSlots t l) (sym same) register.slots;
        apart = subst (λ (l : List (Option Member)). SlotsDiffer l) (sym same) register.apart;
      };
      sizes = λ d a is. attached.same a.slot ∙ ready.sizes d a (ap (λ (l : List (Option Attached)). get_or l d None) (sym disks) ∙ is);
    }

-- the tables after represent the group after
pub represents_after : {m : MountedGroup} {g h : Group} (cat : Catalogued) (new : Stored) (register : Registered) → Represents m g → LeadsToGroup m.register.value cat.tables g h → cat.shape ≡ m.catalog.shape
    → register.value.entries ≡ m.register.value.entries → Represents (record m { catalog = cat; store = new; register = register }) h
represents_after {m} {g} {h} cat new register was leads shape same = record {
  name = leads.name ∙ was.name;
  shape = leads.shape ∙ was.shape ∙ sym shape;
  describes = λ items are. entries_describe m.register.value register.value items h (sym same) (leads.describes items are);
}
