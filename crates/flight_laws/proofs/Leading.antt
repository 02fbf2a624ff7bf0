-- Changes of copies lead from a mounted group to the group itself.
use Rattle.std.proofs.Common.{◌≡◌, ◌<◌, ◌^◌, ℕ, zero, suc, true, refl, sym, ap, subst, ◌∙◌, arith, inl, inr}
use Rattle.std.specs.Int.{bit_at}
use Rattle.std.proofs.lemmas.Bool.{cases_eq, eqb-true}
use Rattle.std.proofs.lemmas.Nat.Bits.{bit_at-pow_other}
use Rattle.std.proofs.lemmas.Option.{same_Some}
use Rattle.bay.specs.State.{BayState}
use Rattle.asm_group.specs.Shape.{Shape}
use Rattle.asm_formats.specs.Items.{Home}
use Rattle.asm_formats.specs.Sets.{has_bit}
use Rattle.catalog.specs.ExtentPlans.{home_at, with_marks_changed, with_move}
use Rattle.catalog_laws.proofs.HavingItems.{have_items}
use Rattle.catalog_laws.proofs.RegularHomes.{moving_keeps}
use Rattle.group_of.specs.Describing.{HaveGroup, StandUnder}
use Rattle.group_of.proofs.Describes.{surplus_describes}
use Rattle.group_engine.proofs.Bytes.{mounted_holds}
use Rattle.flight_laws.specs.Agreeing.{AgreesWhole}
use Rattle.flight_laws.specs.Leading.{ClearingLeadsOn, HeldLeadsOn, MarksLeadOn, MoveLeadsOn, RecopyLeadsOn}
use Rattle.flight_laws.proofs.Agreeing.{agreed_copies_hold, cleared_copies_hold, none_cleared}
use Rattle.flight_laws.proofs.Lookups.{copy_low}
use Rattle.group_engine.proofs.Described.{none_irregular, none_unknown}

pub held_leads_on : (s : BayState) → HeldLeadsOn s
held_leads_on = λ s n m put gone g kept u mounts is holds turns.
    let r = m.register.value in
    let t = m.catalog.tables in
    let a = mounts.whole.are_tables in
    let have : HaveGroup r t g = mounts.represents.describes in
    let items = have_items t a in
    let d = have items.0 items.1 in
    let stand : StandUnder r g.shape u = subst (λ (x : Shape). StandUnder r x u) (sym mounts.represents.shape) (record {
      rules = is.plan.rules;
      units = is.plan.units r.entries mounts.whole.units;
      infos = is.infos (none_unknown t items.0 items.1 r.entries d.disks);
      regular = is.regular (none_irregular r.entries t items.0 a items.1 d.regular);
      partners = d.partners;
    }) in
    record {
      mounts = mounts;
      tables = u;
      after = is.plan.after;
      leads = record { name = refl; shape = refl; describes = surplus_describes r t u g a have stand is.names };
      holds = holds;
      turns = turns;
    }

pub move_leads_on : (s : BayState) → MoveLeadsOn s
move_leads_on = λ s n m put gone g kept f i copy h mounts plan regular agrees turns.
    let t = m.catalog.tables in
    held_leads_on s n m put gone g kept (with_move t f i copy h) mounts
    (record {
      plan = plan;
      names = record { files = refl; nodes = refl; templates = refl };
      infos = λ none. none;
      regular = λ are. moving_keeps m.register.value.entries t f i copy h are regular;
    })
    (record {
      now = λ image left. agreed_copies_hold m.register.id m.register.value t g f i copy h image mounts.whole.are_tables plan.rules.tables
          (agrees.now image left) ((mounted_holds n m s g kept mounts).now image left);
    })
    turns

pub clearing_leads_on : (s : BayState) → ClearingLeadsOn s
clearing_leads_on = λ s n m put gone g kept f i set clear mounts plan few agrees turns.
    let t = m.catalog.tables in
    held_leads_on s n m put gone g kept (with_marks_changed t f i set clear) mounts
    (record {
      plan = plan;
      names = record { files = refl; nodes = refl; templates = refl };
      infos = λ none. none;
      regular = λ are. are;
    })
    (record {
      now = λ image left. cleared_copies_hold m.register.id m.register.value t g f i set clear image mounts.whole.are_tables plan.rules.tables few
          (agrees.now image left) ((mounted_holds n m s g kept mounts).now image left);
    })
    turns

power_few : (copy : ℕ) → copy < 3 → 2 ^ copy < 8
power_few zero lt = omega arith
power_few (suc zero) lt = omega arith
power_few (suc (suc zero)) lt = omega arith
power_few (suc (suc (suc copy))) lt = absurd (omega (arith, lt))

-- a power of two is the set of one number
one_bit : (copy c : ℕ) → has_bit (2 ^ copy) c ≡ true → c ≡ copy
unfolding has_bit
one_bit copy c is = elim (cases_eq c copy) [
  | inl same ↦ same
  | inr differ ↦ let one : bit_at (2 ^ copy) c ≡ 1 = eqb-true (bit_at (2 ^ copy) c) 1 is in absurd (omega (arith, one, bit_at-pow_other copy c differ))
]

pub recopy_leads_on : (s : BayState) → RecopyLeadsOn s
recopy_leads_on = λ s n m put gone g kept f i copy h mounts plan home agrees turns.
    let t = m.catalog.tables in
    let id = m.register.id in
    let r = m.register.value in
    clearing_leads_on s n m put gone g kept f i 0 (2 ^ copy) mounts plan (power_few copy (copy_low t f i copy h mounts.whole.are_tables home))
    (record {
      now = λ image left c k at bit.
          let same : h ≡ k = same_Some h k (sym home ∙ ap (λ (x : ℕ). home_at t f i x) (sym (one_bit copy c bit)) ∙ at) in
          subst (λ (x : Home). AgreesWhole id r g f i x image) same (agrees.now image left);
    })
    turns

pub marks_lead_on : (s : BayState) → MarksLeadOn s
marks_lead_on = λ s n m put gone g kept f i set mounts plan turns.
    clearing_leads_on s n m put gone g kept f i set 0 mounts plan (omega arith)
    (record { now = λ image left. none_cleared m.register.id m.register.value m.catalog.tables g f i image }) turns
