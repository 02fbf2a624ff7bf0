-- The plan by which the record of a disk without an entry goes changes nothing that the group is.
use Rattle.std.proofs.Common.{◌≡◌, ◌⊎◌, inl, inr, ◌<◌, ◌+◌, arith, ℕ, ◌==◌, Bool, true, false, not, List, [], ◌∷◌, Option, Some, None, Result, Ok, Err, refl, sym, ap, subst, ◌∙◌, ⊎_elim}
use Rattle.std.specs.Prelude.{OnErr, OnOk}
use Rattle.std.specs.Ordering.{nat_cmp}
use Rattle.std.specs.BTreeMap.{is_at}
use Rattle.std.specs.FinMap.{nat_cmp-IsAntisymmetric}
use Rattle.std.proofs.lemmas.Bool.{cases_lt, eq-eqb, eqb-true, ne_eqb, true≢false}
use Rattle.std.proofs.lemmas.Cmp.{nat_cmp_total}
use Rattle.std.proofs.lemmas.Option.{none-some}
use Rattle.bay.specs.State.{BayState}
use Rattle.asm_base.specs.Records.{DirectoryRecord}
use Rattle.refusal_lines.specs.declared.refusal.Refusal.{Refusal}
use Rattle.asm_formats.specs.Items.{DiskInfo, Key}
use Rattle.asm_formats.specs.Status as status
use Rattle.asm_formats.specs.Status.{entry_of}
use Rattle.asm_placement.specs.Naming as naming
use Rattle.group_recovery.specs.catalog.Plans.{IsDiskRefusal, IsPlan}
use Rattle.group_recovery.specs.disk_directory.Disks.{Disk, info_at, without_disk}
use Rattle.group_recovery.specs.catalog_tables.Rules.{first_unknown, has_info}
use Rattle.group_recovery.specs.catalog_tables.Changing.{IsAfter}
use Rattle.group_recovery.specs.catalog_tables.Tables.{AreTables, Catalogued, Tables}
use Rattle.group_recovery.proofs.catalog_tables.AfterLaws.{one_after}
use Rattle.group_recovery.proofs.catalog_tables.NumberedLists.{number_is}
use Rattle.group_engine.proofs.extent_map.Lookups.{gone_here, gone_other}
use Rattle.group_engine.specs.Mounts.{IsReady, IsWhole, MountedGroup}
use Rattle.group_engine.specs.Pending.{EndsOn}
use Rattle.group_engine.specs.Surplus.{IsSurplus}
use Rattle.group_engine.proofs.Endings.{ends_without}
use Rattle.mounted_groups.specs.Clearing.{HaveDropped, is_left_over, lacks_entry, without_left_over}

-- the tables without the record of a disk
abbrev pub without_record : Tables → ℕ → Tables
without_record t d = record t { disks = without_disk t.disks d }

-- ---- each entry has its disk record still

-- another disk has the record that it had
other_info : (disks : List Disk) (d q : ℕ) → (q == d) ≡ false → info_at (without_disk disks d) q ≡ info_at disks q
other_info disks d q other = by (is_at (nat_cmp q) d) refl where
  by : (b : Bool) → is_at (nat_cmp q) d ≡ b → info_at (without_disk disks d) q ≡ info_at disks q
  by true hit = absurd (true≢false (sym (eq-eqb q d (number_is q d hit)) ∙ other))
  by false miss = gone_other nat_cmp nat_cmp-IsAntisymmetric nat_cmp_total d q disks miss

known_first : (t : Tables) (e : status.Entry) (es : List status.Entry) → first_unknown t (e ∷ es) ≡ None → (has_info t e ≡ true) × (first_unknown t es ≡ None)
known_first t e es none = by (has_info t e) refl where
  by : (b : Bool) → has_info t e ≡ b → (has_info t e ≡ true) × (first_unknown t es ≡ None)
  by true is = (is, rw is at none)
  by false is = absurd (none-some e.number (sym (rw is at none)))

known_more : (t : Tables) (e : status.Entry) (es : List status.Entry) → has_info t e ≡ true → first_unknown t es ≡ None → first_unknown t (e ∷ es) ≡ None
known_more t e es is rest = rw is rest

module _ (t : Tables) (d : ℕ) (info : DiskInfo) (there : info_at t.disks d ≡ Some info) where
  -- the first entry of that number has another birth, so the record isn't its own
  not_its : (e : status.Entry) → e.number ≡ d → has_info t e ≡ true → not (e.birth == info.birth) ≡ true → ⊥
  not_its e same known lacks =
      let at : naming.is_birth e.birth (info_at t.disks d) ≡ true = subst (λ (n : ℕ). naming.is_birth e.birth (info_at t.disks n) ≡ true) same known in
      let its : (info.birth == e.birth) ≡ true = subst (λ (o : Option DiskInfo). naming.is_birth e.birth o ≡ true) there at in
      let back : (e.birth == info.birth) ≡ true = eq-eqb e.birth info.birth (sym (eqb-true info.birth e.birth its)) in
      true≢false (sym lacks ∙ ap not back)

  still_known : (es : List status.Entry) → lacks_entry es d (Some info) ≡ true → first_unknown t es ≡ None → first_unknown (without_record t d) es ≡ None
  unfolding entry_of
  still_known [] lacks none = refl
  still_known (e ∷ es) lacks none = by (e.number == d) refl (still_known es) where
    by : (b : Bool) → (e.number == d) ≡ b → (lacks_entry es d (Some info) ≡ true → first_unknown t es ≡ None → first_unknown (without_record t d) es ≡ None)
        → first_unknown (without_record t d) (e ∷ es) ≡ None
    by true same more = absurd (not_its e (eqb-true e.number d same) (known_first t e es none).0 (rw same at lacks))
    by false other more =
        let head = known_first t e es none in
        known_more (without_record t d) e es (ap (naming.is_birth e.birth) (other_info t.disks d e.number other) ∙ head.0) (more (rw other at lacks) head.1)

pub infos_stay : (entries : List status.Entry) (t : Tables) (d : ℕ) → is_left_over entries t.disks d ≡ true → first_unknown t entries ≡ None → first_unknown (without_record t d) entries ≡ None
infos_stay entries t d left none = by (info_at t.disks d) refl left where
  by : (o : Option DiskInfo) → info_at t.disks d ≡ o → lacks_entry entries d o ≡ true → first_unknown (without_record t d) entries ≡ None
  by None at lacks = absurd cc
  by (Some info) at lacks = still_known t d info at entries lacks none

pub drop_surplus : (entries : List status.Entry) (c : Catalogued) (put : List DirectoryRecord) (gone : List Key) (d : ℕ) → is_left_over entries c.tables.disks d ≡ true → IsPlan c put gone (without_record c.tables d)
    → IsSurplus entries c put gone (without_record c.tables d)
drop_surplus entries c put gone d left plan = record {
  plan = plan;
  names = record { files = refl; nodes = refl; templates = refl };
  due = record { files = refl; homes = λ f i head there due. refl; marks = λ f i head there due. refl };
  infos = infos_stay entries c.tables d left;
  regular = λ is. is;
}

-- ---- which records go

pub left_none : (es : List status.Entry) (t : Tables) (d : ℕ) → is_left_over es t.disks d ≡ false → t ≡ without_left_over es t d
left_none es t d isnt = rw isnt refl

pub left_gone : (es : List status.Entry) (t : Tables) (d : ℕ) → is_left_over es t.disks d ≡ true → without_record t d ≡ without_left_over es t d
left_gone es t d went = rw went refl

pub dropped_if : (r : Result (Unit {0}) Refusal) (t new u : Tables) (put : List DirectoryRecord) (gone : List Key) (v : Tables) → OnOk r (IsAfter t put gone new) → IsAfter t put gone u → u ≡ v → OnOk r (new ≡ v)
dropped_if (Ok done) t new u put gone v applied after is = one_after t new u put gone applied after ∙ is
dropped_if (Err e) t new u put gone v applied after is = tt

pub none_dropped : (es : List status.Entry) (t : Tables) → HaveDropped es t 0 t
none_dropped es t = record { rest = refl; dropped = λ d lt. absurd (omega (arith, lt)); kept = λ d isnt. refl }

below_or : (d n : ℕ) → d < n + 1 → (d < n) ⊎ (d ≡ n)
below_or d n lt = elim (cases_lt d n) [
  | inl below ↦ inl below
  | inr past ↦ inr (omega (arith, past, lt))
]

one_dropped : (es : List status.Entry) (t : Tables) (n : ℕ) (u : Tables) → AreTables u → HaveDropped es t n u → HaveDropped es t (n + 1) (without_left_over es u n)
one_dropped es t n u a is = by (is_left_over es u.disks n) refl where
  by : (b : Bool) → is_left_over es u.disks n ≡ b → HaveDropped es t (n + 1) (without_left_over es u n)
  by false isnt = subst (HaveDropped es t (n + 1)) (left_none es u n isnt) (record {
    rest = is.rest;
    dropped = λ d lt. ⊎_elim (λ below. is.dropped d below) (λ at. subst (λ (k : ℕ). is_left_over es u.disks k ≡ false) (sym at) isnt) (below_or d n lt);
    kept = is.kept;
  })
  by true went = subst (HaveDropped es t (n + 1)) (left_gone es u n went) (record {
    rest = ap (λ (v : Tables). record v { disks = without_disk u.disks n }) is.rest;
    dropped = λ d lt. ⊎_elim
        (λ below. ap (lacks_entry es d) (other_info u.disks n d (ne_eqb d n (λ same. absurd (omega (arith, below, same))))) ∙ is.dropped d below)
        (λ at. subst (λ (k : ℕ). is_left_over es (without_disk u.disks n) k ≡ false) (sym at) (ap (lacks_entry es n) (gone_here nat_cmp nat_cmp-IsAntisymmetric nat_cmp_total n u.disks a.disks.0)))
        (below_or d n lt);
    kept = λ d isnt. other_info u.disks n d (ne_eqb d n (λ same. true≢false (sym went ∙ (ap (λ (k : ℕ). is_left_over es u.disks k) (sym same) ∙ (ap (lacks_entry es d) (is.kept d isnt) ∙ isnt))))) ∙ is.kept d isnt;
  })

-- one disk more
pub more_dropped : (es : List status.Entry) (t : Tables) (n : ℕ) (u v : Tables) (now : List status.Entry) → AreTables u → HaveDropped es t n u → now ≡ es → v ≡ without_left_over now u n → HaveDropped es t (n + 1) v
more_dropped es t n u v now a is same to = subst (HaveDropped es t (n + 1)) (sym (to ∙ ap (λ (xs : List status.Entry). without_left_over xs u n) same)) (one_dropped es t n u a is)

-- ---- calls

-- a plan by which a record goes is refused for want of memory alone
pub ends_refused : (m : MountedGroup) (s : BayState) (c : Catalogued) (d : ℕ) (given : Refusal) → IsWhole m → IsReady m s → IsDiskRefusal c d None given → EndsOn m (Err given) m s s
ends_refused m s c d given whole ready why = ⊎_elim
    (λ e. subst (λ (x : Refusal). EndsOn m (Err x) m s s) (sym e) (ends_without m s whole ready))
    (λ full. absurd (none-some full.1.put.0 full.1.put.1)) why

-- what is kept while calls are taken, where a refusal ends them
pub stays_of : {P M : Type 0} (r : Result (Unit {0}) Refusal) → OnOk r P → OnErr r (M → ⊥) → M → P
stays_of (Ok done) is closed takes = is
stays_of (Err e) is closed takes = absurd (closed takes)
