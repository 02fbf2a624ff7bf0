-- What a stop inside several calls on a mounted group leaves.
use Rattle.std.proofs.Common.{◌≡◌, ◌+◌, ◌≤◌, ◌∙◌, ℕ, [], List, ◌∷◌, Option, None, Result, Ok, Err, refl, sym, ap, subst, arith}
use Rattle.std.specs.Prelude.{OnOk}
use Rattle.bay.specs.State.{BayState}
use Rattle.bay.proofs.Calls.{leaves_less, leaves_on}
use Rattle.asm_group.specs.Group.{Group}
use Rattle.asm_group.specs.Shape.{Shape}
use Rattle.asm_images.specs.Kept.{Kept}
use Rattle.asm_base.specs.Records as records
use Rattle.refusal_lines.specs.declared.refusal.Refusal.{Refusal}
use Rattle.asm_formats.specs.Items.{Key}
use Rattle.group_reports.specs.catalog.Plans.{IsPlan}
use Rattle.group_reports.specs.catalog_tables.Changing.{IsAfter}
use Rattle.group_reports.specs.catalog_tables.Rules.{KeepsRules}
use Rattle.group_reports.specs.catalog_tables.Tables.{Catalogued, Tables}
use Rattle.group_reports.proofs.catalog_tables.AfterLaws.{one_after}
use Rattle.record_laws.specs.group_engine.Commits.{CommitsPlan, turns_at_most}
use Rattle.record_laws.specs.group_engine.Making.{access_after_closing}
use Rattle.record_laws.specs.group_engine.Mounts.{IsMounted, MountedGroup, Mounts, Takes}
use Rattle.record_laws.specs.group_engine.Own.{IsSameGroup, KeepsGroup}
use Rattle.record_laws.specs.group_engine.Pending.{GoesOn, HasTurns}
use Rattle.record_laws.proofs.group_engine.Causes.{gives_up}
use Rattle.record_laws.proofs.group_engine.Cuts.{operation_surplus}
use Rattle.record_laws.proofs.group_engine.Endings.{closed_takes_none, ends_planned, kept_before, stands_here}
use Rattle.disk_modes.specs.Effects.{with_rebalance_power}
use Rattle.disk_modes.specs.Stops.{CommitsRebalance, HasTwoTurns, StaysHeld}

-- no call was made
pub held_here : (m : MountedGroup) (s : BayState) → StaysHeld m m s s
held_here m s = record { moments = stands_here m s; stays = λ takes n g kept mounts turns. (kept, refl, mounts); turns = omega arith }

-- one call after the other
pub held_on : {a b c : MountedGroup} {s t u : BayState} → IsSameGroup a b → IsMounted b → (HasTurns a → HasTurns b) → turns_at_most c ≤ turns_at_most a + 1 → StaysHeld a b s t → StaysHeld b c t u → StaysHeld a c s u
held_on {a} {b} {c} {s} {t} {u} same mounted turns_on fewer one two = record {
  moments = λ n g kept mounts turns.
      let mid = one.stays mounted n g kept mounts turns in
      leaves_on (one.moments n g kept mounts turns)
      (leaves_less (λ x is. kept_before n a.register.id b.register.id (g ∷ []) kept mid.0 x same.id mid.1 is) (two.moments n g mid.0 mid.2 (turns_on turns)));
  stays = λ takes n g kept mounts turns.
      let mid = one.stays mounted n g kept mounts turns in
      let end = two.stays takes n g mid.0 mid.2 (turns_on turns) in
      (end.0, end.1 ∙ mid.1, end.2);
  turns = fewer;
}

pub fewer_turns : (a b : MountedGroup) → turns_at_most b ≤ turns_at_most a → HasTurns a → HasTurns b
fewer_turns a b fewer turns = omega (arith, turns, fewer)

pub turn_more : (a b : MountedGroup) → turns_at_most b ≤ turns_at_most a + 1 → HasTwoTurns a → HasTurns b
turn_more a b more turns = omega (arith, turns, more)

-- a commit of these and a record take a turn, in either order
pub turns_behind : (a b c : MountedGroup) → turns_at_most b ≤ turns_at_most a → turns_at_most c ≤ turns_at_most b + 1 → turns_at_most c ≤ turns_at_most a + 1
turns_behind a b c one two = omega (arith, one, two)

pub turns_before : (a b c : MountedGroup) → turns_at_most b ≤ turns_at_most a + 1 → turns_at_most c ≤ turns_at_most b → turns_at_most c ≤ turns_at_most a + 1
turns_before a b c one two = omega (arith, one, two)

-- the group takes no calls afterwards
pub held_closed : {a m : MountedGroup} {s t : BayState} → StaysHeld a m s t → StaysHeld a (record m { access = access_after_closing m.access }) s t
held_closed {a} {m} one = record { moments = one.moments; stays = λ takes. absurd (closed_takes_none m takes); turns = one.turns }

-- the move that is on its way is given up
given_mounts : (n : ℕ) (m : MountedGroup) (s : BayState) (g : Group) (kept : Kept) → IsMounted m → Mounts n m s g kept → Mounts n (record m { flight = None }) s g kept
given_mounts n m s g kept mounted mounts =
    let keeps = gives_up m s (λ is. (mounts.whole, mounts.ready)) in
    record {
      whole = keeps.whole mounted;
      ready = keeps.ready mounted;
      represents = record { name = mounts.represents.name; shape = mounts.represents.shape; describes = mounts.represents.describes };
      own = mounts.own;
      completed = mounts.completed;
      begun = mounts.begun;
      register = mounts.register;
      now = mounts.now;
    }

pub held_given_up : (m new : MountedGroup) (s : BayState) → IsMounted m → new ≡ record m { flight = None } → StaysHeld m new s s
held_given_up m new s mounted is = subst (λ (v : MountedGroup). StaysHeld m v s s) (sym is)
    (record { moments = stands_here m s; stays = λ takes n g kept mounts turns. (kept, refl, given_mounts n m s g kept mounted mounts); turns = omega arith })

-- and then a call follows
pub held_behind : (m b : MountedGroup) (s t : BayState) → IsMounted m → Takes m s → (new : MountedGroup) → new ≡ record m { flight = None } → StaysHeld new b s t → StaysHeld m b s t
held_behind m b s t mounted takes new is two = held_on (keeps_it new is).same (ap (λ (v : MountedGroup). v.access) is ∙ mounted)
    (λ turns. subst (λ (v : MountedGroup). HasTurns v) (sym is) turns) (subst (λ (v : MountedGroup). turns_at_most b ≤ turns_at_most v + 1) is two.turns) (held_given_up m new s mounted is) two
  where
    keeps_it : (x : MountedGroup) → x ≡ record m { flight = None } → KeepsGroup m x s s
    keeps_it x same = subst (λ (v : MountedGroup). KeepsGroup m v s s) (sym same) (gives_up m s takes)

-- ---- the commit of a rebalance

rules_after : (power : Option ℕ) (a b : MountedGroup) (c : Catalogued) (put : List records.DirectoryRecord) (gone : List Key) (r : Result (Unit {0}) Refusal) → IsSameGroup a b → c ≡ a.catalog
    → IsPlan c put gone (with_rebalance_power c.tables power) → OnOk r (IsAfter a.catalog.tables put gone b.catalog.tables) → OnOk r (KeepsRules b.catalog.shape b.catalog.tables)
rules_after power a b c put gone (Ok done) same is plan applied =
    let planned : IsPlan a.catalog put gone (with_rebalance_power a.catalog.tables power) = subst (λ (k : Catalogued). IsPlan k put gone (with_rebalance_power k.tables power)) is plan in
    let tables : b.catalog.tables ≡ with_rebalance_power a.catalog.tables power = one_after a.catalog.tables b.catalog.tables (with_rebalance_power a.catalog.tables power) put gone applied planned.after in
    subst (λ (shape : Shape). KeepsRules shape b.catalog.tables) (sym same.shape) (subst (λ (u : Tables). KeepsRules a.catalog.shape u) (sym tables) planned.rules)
rules_after power a b c put gone (Err e) same is plan applied = tt

pub rebalance_held : (power : Option ℕ) (a b : MountedGroup) (c : Catalogued) (put : List records.DirectoryRecord) (gone : List Key) (s t : BayState) (r : Result (Unit {0}) Refusal) → IsMounted a → c ≡ a.catalog
    → IsPlan c put gone (with_rebalance_power c.tables power) → GoesOn a r b s t → CommitsPlan a put gone r b s t → CommitsRebalance a r b s t
rebalance_held power a b c put gone s t r mounted is plan goes commits =
    let planned : IsPlan a.catalog put gone (with_rebalance_power a.catalog.tables power) = subst (λ (k : Catalogued). IsPlan k put gone (with_rebalance_power k.tables power)) is plan in
    let ends = ends_planned a b put gone (with_rebalance_power a.catalog.tables power) s t
    (operation_surplus a.register.value.entries a.catalog put gone (with_rebalance_power a.catalog.tables power).operations planned) r mounted goes commits in
    record {
      held = record { moments = ends.moments; stays = ends.stays; turns = omega (arith, ends.turns) };
      turns = ends.turns;
      rules = rules_after power a b c put gone r goes.keeps.same is plan commits.applied;
    }

pub rebalance_short : (m : MountedGroup) (s : BayState) (e : Refusal) → CommitsRebalance m (Err e) m s s
rebalance_short m s e = record { held = held_here m s; turns = omega arith; rules = tt }
