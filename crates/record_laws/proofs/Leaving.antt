-- A disk is taken out of a mounted group.
use Rattle.std.proofs.Common.{◌≡◌, ⊎_elim, inl, inr, ℕ, ◌==◌, Bool, true, false, cond, not, ◌&&◌, List, [], ◌∷◌, filter, get_or, refl, sym, ap, subst, ◌∙◌, Option, Some, None, Result, Ok, Err, arith}
use Rattle.std.specs.Option.{option_map}
use Rattle.std.specs.Prelude.{OnErr, OnOk, fold}
use Rattle.std.proofs.lemmas.Bool.{cond-false, eqb-true}
use Rattle.std.proofs.lemmas.Option.{none-some, same_Some}
use Rattle.bay.specs.Image as bay
use Rattle.bay.specs.State.{BayState, IsSound}
use Rattle.bay.proofs.Calls.{leaves_less, leaves_on}
use Rattle.asm_group.specs.Group.{Group}
use Rattle.refusal_lines.specs.declared.refusal.Refusal.{Refusal}
use Rattle.asm_formats.specs.Among.{IsAmong}
use Rattle.asm_formats.specs.Header.{Header}
use Rattle.asm_formats.specs.Metadata.{header_of}
use Rattle.asm_formats.specs.Status.{Entry, Status, entry_of}
use Rattle.asm_placement.specs.Modes.{stays}
use Rattle.asm_placement.specs.Partners.{HasPartners, Pair, are_partners, first_pass, pairs, partners, second_pass, table_disks}
use Rattle.asm_placement.proofs.Chosen.{entry_found}
use Rattle.asm_placement.proofs.Membership.{among_filter}
use Rattle.asm_images.specs.Bridge.{disk_bytes, disks_in}
use Rattle.asm_images.specs.Kept.{Kept}
use Rattle.asm_images.proofs.Bridges.{same_disk}
use Rattle.asm_images.proofs.Spans.{widen_keeps}
use Rattle.group_engine.proofs.catalog_tables.TableItems.{from_map}
use Rattle.status_register.specs.declared.member.Member.{Member as Disk}
use Rattle.group_engine.specs.Commits.{CommitsChange, LeadsTo, StandsIn}
use Rattle.group_engine.specs.Members.{without_attached_disk}
use Rattle.group_engine.specs.Mounts.{IsOwn, MountedGroup, Mounts, Takes, slot_at}
use Rattle.group_engine.specs.Recorded.{MayGet}
use Rattle.group_engine.proofs.Cuts.{disk_surplus}
use Rattle.group_engine.proofs.Endings.{kept_before}
use Rattle.group_engine.proofs.Members.{detached_takes, left_own, none_filtered, none_left, set_or_was}
use Rattle.group_engine.proofs.Records.{record_parts}
use Rattle.group_engine.proofs.Surplus.{surplus_leads_on}
use Rattle.record_laws.specs.Attaching.{has_member_in_slot, kept_of}
use Rattle.record_laws.specs.Beside.{HasNoEntry}
use Rattle.record_laws.specs.Getting.{ComesNext}
use Rattle.record_laws.specs.Leaving.{GoesOnWithSome, IsLetGo, LeavesInSteps, LeavesOut, LeavingGoesOn, LeavingLetsGo, LeftRecordMayBeGot, StandsWithSome}
use Rattle.record_laws.proofs.Attaching.{detached_mounts, mounted_is_kept, slots_are_own}
use Rattle.record_laws.proofs.Beside.{no_entry_is_no_holder}
use Rattle.record_laws.proofs.Entries.{entries_may_be_got}
use Rattle.record_laws.proofs.Modes.{mounted_has_partners}

-- ---- partners

abbrev without : ℕ → List Entry → List Entry
without d es = filter (λ (e : Entry). not (e.number == d)) es

-- a disk that isn't in the table may go
table_left : (d : ℕ) (es : List Entry) → ((e : Entry) → IsAmong es e → e.number ≡ d → (not e.quorum && stays e.mode) ≡ false) → table_disks (without d es) ≡ table_disks es
table_left d [] out = refl
table_left d (e ∷ es) out = go (e.number == d) refl (table_left d es (λ x h. out x (inr h)))
  where
    go : (b : Bool) → (e.number == d) ≡ b → table_disks (without d es) ≡ table_disks es → table_disks (cond (not b) (e ∷ without d es) (without d es)) ≡ table_disks (e ∷ es)
    go true at rest = rest ∙ sym (cond-false (not e.quorum && stays e.mode) (e ∷ table_disks es) (table_disks es) (out e (inl refl) (eqb-true e.number d at)))
    go false at rest = ap (λ (l : List Entry). cond (not e.quorum && stays e.mode) (e ∷ l) l) rest

same_partners : (d : ℕ) (es : List Entry) → ((e : Entry) → IsAmong es e → e.number ≡ d → (not e.quorum && stays e.mode) ≡ false) → partners (without d es) ≡ partners es
unfolding partners
same_partners d es out = ap (λ (ds : List Entry). fold second_pass (fold first_pass [] (pairs ds)) (pairs ds)) (table_left d es out)

partners_left : (d : ℕ) (es : List Entry) → ((e : Entry) → IsAmong es e → e.number ≡ d → (not e.quorum && stays e.mode) ≡ false) → HasPartners es → HasPartners (without d es)
partners_left d es out has e k among =
    has e k (among_filter (λ (x : Entry). not (x.number == d)) es e among) ∙ ap (λ (table : List Pair). are_partners table e.number k) (sym (same_partners d es out))

-- ---- the record

pub left_record_may_be_got : (s : BayState) → IsSound s → LeftRecordMayBeGot s
left_record_may_be_got s sound n m d next g kept c out =
    let r = m.register.value in
    entries_may_be_got s sound n m next g kept c (record {
      some = out.some;
      births = out.births;
      each = λ e h.
          let was = among_filter (λ (x : Entry). not (x.number == d)) r.entries e (subst (λ (es : List Entry). IsAmong es e) out.entries h) in
          inl (record {
            was = e;
            there = entry_found 0 r.entries e (record_parts r c.mounts.whole.status).order was;
            birth = refl;
            quorum = refl;
            forced = λ forced. forced;
            room = inl (omega arith);
          });
      rules = out.rules;
      partners = subst (λ (es : List Entry). HasPartners es) (sym out.entries) (partners_left d r.entries out.apart (mounted_has_partners s n m g kept c.mounts));
    })

-- ---- the three steps

with_some : (n id : ℕ) (groups : List Group) (kept : Kept) (x : bay.Image) → StandsIn n id groups kept x → StandsWithSome n id groups kept x
with_some n id groups kept x stands = record {
  by = stands.by;
  some = λ slot has. sym (ap (λ (slots : ℕ → Bool). slots slot) stands.slots) ∙ has;
  is = stands.is;
  beside = stands.beside;
}

-- the group is listed once where it is listed twice
listed_once : (n id : ℕ) (g : Group) (kept : Kept) (x : bay.Image) → StandsIn n id (g ∷ g ∷ []) kept x → StandsIn n id (g ∷ []) kept x
listed_once n id g kept x stands = record {
  by = stands.by;
  slots = stands.slots;
  is = record {
    sound = λ slots. widen_keeps id (disks_in slots x) (g ∷ g ∷ []) (g ∷ []) (Some stands.by.completed) stands.by.begun (stands.is.sound slots)
        (λ k among. ⊎_elim (λ e. inl e) (λ more. more) among);
    standing = stands.is.standing;
    there = stands.is.there;
  };
  beside = stands.beside;
}

with_fewer : (n id : ℕ) (groups : List Group) (kept few : Kept) (x : bay.Image) → ((slot : ℕ) → few.slots slot ≡ true → kept.slots slot ≡ true) → StandsIn n id groups few x → StandsWithSome n id groups kept x
with_fewer n id groups kept few x fewer stands = record {
  by = stands.by;
  some = λ slot has. fewer slot (sym (ap (λ (slots : ℕ → Bool). slots slot) stands.slots) ∙ has);
  is = stands.is;
  beside = λ slots more. stands.beside slots (λ slot has. more slot (fewer slot has));
}

module _ (s t u : BayState) (sound : IsSound s) (n : ℕ) (a b c : MountedGroup) (d : ℕ) (next : Status) (g : Group) (kept : Kept) (comes : ComesNext n a next s g kept) (out : LeavesOut a d next)
    (steps : LeavesInSteps a b c d next s t u) where
  got : MayGet n a next s g kept
  got = left_record_may_be_got s sound n a d next g kept comes out

  recorded : (later : Kept) × (later.slots ≡ kept.slots) × Mounts n b t g later
  recorded = steps.written.done n g kept got

  none : entry_of b.register.value.entries d ≡ None
  none = ap (λ (r : Status). entry_of r.entries d) steps.written.recorded ∙ ap (λ (es : List Entry). entry_of es d) out.entries ∙ none_filtered a.register.value.entries d

  abbrev left : MountedGroup
  left = without_attached_disk b d

  takes : Takes left t
  takes = detached_takes b d t none (λ mounted. (steps.written.keeps.whole mounted, steps.written.keeps.ready mounted))

  let_go : Mounts n left t g (kept_of left)
  let_go = detached_mounts t n b g recorded.0 d recorded.2 steps.written.mounted takes

  leads : LeadsTo n left steps.put steps.gone t g g (kept_of left)
  leads = surplus_leads_on t n left steps.put steps.gone g (kept_of left) _ let_go (disk_surplus left.register.value.entries left.catalog steps.put steps.gone d none steps.plan) steps.turns

  change : CommitsChange left steps.put steps.gone steps.answer c t u
  change = steps.commit.held steps.written.mounted

  same_id : b.register.id ≡ a.register.id
  same_id = steps.written.keeps.same.id

  fewer : (slot : ℕ) → has_member_in_slot left slot ≡ true → kept.slots slot ≡ true
  fewer slot has =
      let of = left_own b d t slot ((slots_are_own left slot).0 has) in
      (comes.mounts.own slot).1 (of.0, of.1, ap (λ (l : List (Option Disk)). get_or l of.0 None) (sym steps.written.keeps.same.members) ∙ of.2, of.3)

  after : (answer : Result (Unit {0}) Refusal) → OnOk answer ((n : ℕ) (g h : Group) (k : Kept) → LeadsTo n left steps.put steps.gone t g h k → (later : Kept) × (later.slots ≡ k.slots) × Mounts n c u h later)
      → OnErr answer ((n : ℕ) (g : Group) (k : Kept) → Mounts n left t g k → Mounts n c u g k) → (later : Kept) × Mounts n c u g later
  after (Ok done) does refused = let end = does n g g (kept_of left) leads in (end.0, end.2)
  after (Err e) does refused = (kept_of left, refused n g (kept_of left) let_go)

  pub goes_on : GoesOnWithSome n a c s u g kept
  goes_on = record {
    moments = leaves_on
        (leaves_less (λ x stands. with_some n a.register.id (g ∷ []) kept x stands) (steps.written.moments n g kept got))
        (leaves_less
        (λ x stands. with_fewer n a.register.id (g ∷ []) kept (kept_of left) x fewer
        (kept_before n a.register.id b.register.id (g ∷ []) (kept_of left) (kept_of left) x same_id refl (listed_once n b.register.id g (kept_of left) x stands)))
        (change.moments n g g (kept_of left) leads));
    mounts = λ mounted.
        let end = after steps.answer change.done (change.refused mounted) in
        subst (λ (k : Kept). Mounts n c u g k) (mounted_is_kept u n c g end.0 end.1) end.1;
  }

  -- ---- its slot

  module _ (slot : ℕ) (at : slot_at a.disks d ≡ Some slot) where
    -- the disk was attached still when the record was written
    disk : (k : Disk) × (get_or b.register.members d None ≡ Some k) × (k.slot ≡ slot)
    disk =
        let f = from_map (λ (y : Disk). y.slot) (get_or a.register.members d None) slot (sym (comes.mounts.whole.disks d) ∙ at) in
        (f.0, ap (λ (l : List (Option Disk)). get_or l d None) steps.written.keeps.same.members ∙ f.1, f.2)

    no_place : (k : Disk) → get_or left.register.members d None ≡ Some k → ⊥
    no_place k is = none-some k.slot (sym (none_left b d t) ∙ (takes steps.written.mounted).0.disks d ∙ ap (option_map (λ (y : Disk). y.slot)) is)

    not_left : IsOwn left slot → ⊥
    not_left of =
        let i = of.0 in
        let was = left_place i of.1 of.2 in
        let same : i ≡ d = recorded.2.ready.register.apart i d of.1 disk.0 was disk.1 (sym of.3 ∙ sym disk.2) in
        no_place of.1 (ap (λ (j : ℕ). get_or left.register.members j None) (sym same) ∙ of.2)
      where
        left_place : (i : ℕ) (k : Disk) → get_or left.register.members i None ≡ Some k → get_or b.register.members i None ≡ Some k
        left_place i k is = ⊎_elim (λ was. was) (λ put. absurd (none-some k put.0)) (set_or_was b.register.members d i None k is)

    no_entry : (y : bay.Image) → u.leaves u.calls y → HasNoEntry c.register.id c.register.value slot y
    no_entry y there h is group e entry birth =
        let from = change.keeps.runs.moments u.calls y change.keeps.runs.later (omega arith) there in
        let on = (recorded.2.register.now.now from.0 from.1).members d disk.0 disk.1 in
        let bytes : disk_bytes y slot ≡ disk_bytes from.0 slot = same_disk from.0 y slot (from.2.size slot) (λ j. from.2.byte slot j not_left) in
        let seen : Some h ≡ Some on.header = sym is ∙ ap header_of bytes ∙ ap (λ (j : ℕ). header_of (disk_bytes from.0 j)) (sym disk.2) ∙ on.header_is in
        let number : h.number ≡ d = ap (λ (z : Header). z.number) (same_Some h on.header seen) ∙ on.number ∙ recorded.2.whole.numbers d disk.0 disk.1 in
        none-some e (sym none ∙ ap (λ (es : List Entry). entry_of es d) (sym change.status.entries) ∙ ap (λ (j : ℕ). entry_of c.register.value.entries j) (sym number) ∙ entry)

    pub lets_go : IsLetGo c slot u
    lets_go = record {
      other = λ of. not_left (of.0, of.1, ap (λ (l : List (Option Disk)). get_or l of.0 None) (sym change.keeps.same.members) ∙ of.2, of.3);
      no_holder = record { now = λ y there. no_entry_is_no_holder c.register.id c.register.value slot y (no_entry y there) };
    }

pub leaving_goes_on : (s t u : BayState) → IsSound s → LeavingGoesOn s t u
leaving_goes_on s t u sound n a b c d next g kept comes out steps = goes_on s t u sound n a b c d next g kept comes out steps

pub leaving_lets_go : (s t u : BayState) → IsSound s → LeavingLetsGo s t u
leaving_lets_go s t u sound n a b c d slot next g kept comes out steps at = lets_go s t u sound n a b c d next g kept comes out steps slot at
