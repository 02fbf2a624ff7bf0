use Rattle.std.proofs.Common.{◌≡◌, ◌∙◌, List, Option, Some, None, [], false, sym, ap, subst, replicate}
use Rattle.bay.specs.Moments.{Ends}
use Rattle.asm_formats.specs.Status.{Entry, Status, status_spelling}
use Rattle.status_register.specs.Holders.{attached_to, HoldSlots, SlotsDiffer}
use Rattle.status_register.specs.Keeping.{FitsRegister}
use Rattle.status_register.specs.Reaching.{Reaches}
use Rattle.status_register.specs.Registered.{Registered, all_placed}
use Rattle.status_register.specs.Rows.{CallsInOrder, HaveStatus}
use Rattle.status_register.specs.Slots.{status_gate}
use Rattle.status_register.specs.Writes.{IsDeadOf, first_holders, first_register}
use Rattle.status_register.specs.declared.member.Member.{Member}
use Rattle.status_register.proofs.Ordering.{row_runs}
use Rattle.status_register.proofs.Placing.{places_hold, places_differ, places_ready, first_slot, holders_show}
use Rattle.status_register.proofs.Reaching.{placed_reach}
use Rattle.status_register.proofs.Written.{first_fits, first_completed}
use Rattle.status_register.proofs.register.Register.first.Given.{Over}
use Rattle.status_register.proofs.register.Register.first.Goals.{After-by_number-places}
use Rattle.status_register.proofs.register.Register.first.Goals as goal

-- the members by their numbers
places_are : (g : Over) (c : After-by_number-places g) → c.by_number-places.result ≡ all_placed c.args.value.now.entries (replicate 64 None) c.args.members.now
places_are g c = c.by_number-places.ensures.places ∙ ap (λ (es : List Entry). all_placed es (replicate 64 None) c.args.members.now) c.entries.ensures.entries

pub write_first-requires-clause-slots : goal.write_first-requires-clause-slots
write_first-requires-clause-slots g c =
    let s = g.B.Bay.state c.args.bay.now in
    let r = c.args.value.now in
    let ms = c.args.members.now in
    let places = places_are g (goal.at.write_first-requires-clause-slots g c).After-by_number-places in
    subst (λ (l : List (Option Member)). HoldSlots s l) (sym places) (places_hold r.entries ms c.requires.numbers s c.requires.slots)

pub write_first-requires-clause-apart : goal.write_first-requires-clause-apart
write_first-requires-clause-apart g c =
    let s = g.B.Bay.state c.args.bay.now in
    let r = c.args.value.now in
    let ms = c.args.members.now in
    let places = places_are g (goal.at.write_first-requires-clause-apart g c).After-by_number-places in
    subst SlotsDiffer (sym places) (places_differ r.entries ms c.requires.numbers c.requires.apart)

pub returns-in-Err : goal.returns-in-Err
returns-in-Err g c =
    let s = g.B.Bay.state c.args.bay.now in
    let t = g.B.Bay.state c.write_first.new.bay in
    let r = c.args.value.now in
    let ms = c.args.members.now in
    let places = places_are g (goal.at.returns-in-Err g c).After-by_number-places in
    let calls = subst (λ (l : List (Option Member)). CallsInOrder (status_gate r.id) (attached_to l r) (status_spelling r) s t) places c.write_first.ensures.calls in
    let run = row_runs (status_gate r.id) (first_holders r ms) (status_spelling r) s t calls.runs in
    let dead = subst (λ (l : List (Option Member)). IsDeadOf (attached_to l r) c.in-Err.dead.slot s t) places c.in-Err.ensures.cause in
    record {
      register = tt;
      ready = tt;
      reaches = tt;
      shown = tt;
      cause = (first_slot r ms c.requires.numbers c.in-Err.dead.slot dead.0, dead.1);
      calls = calls;
      history = λ slots enough before. record { moments = first_fits s t (g.met.B.Bay.sound c.args.bay.now) r c.requires.status ms c.requires.numbers c.requires.slots run slots before; after = tt };
    }

pub returns-in-Ok : goal.returns-in-Ok
returns-in-Ok g c =
    let s = g.B.Bay.state c.args.bay.now in
    let t = g.B.Bay.state c.write_first.new.bay in
    let r = c.args.value.now in
    let ms = c.args.members.now in
    let sound = g.met.B.Bay.sound c.args.bay.now in
    let places = places_are g (goal.at.returns-in-Ok g c).After-by_number-places in
    let calls = subst (λ (l : List (Option Member)). CallsInOrder (status_gate r.id) (attached_to l r) (status_spelling r) s t) places c.write_first.ensures.calls in
    let run = row_runs (status_gate r.id) (first_holders r ms) (status_spelling r) s t calls.runs in
    let done = subst (λ (l : List (Option Member)). Ends (HaveStatus (status_spelling r) (attached_to l r)) s t) places c.in-Ok.ensures.done in
    let made : Registered = record { id = c.value.inside.id; members = c.by_number-places.result; value = c.copy.result; epoch = c.value.inside.epoch; turn = c.value.inside.turn; is_fresh = false } in
    let made_is : made ≡ first_register r ms = λ i. record { id = (c.value.view_is i).id; members = places i; value = c.copy.ensures i; epoch = (c.value.view_is i).epoch; turn = (c.value.view_is i).turn; is_fresh = false } in
    record {
      register = made_is;
      ready = places_ready r.entries ms c.requires.numbers s t made places c.requires.slots c.requires.apart calls.attached;
      reaches = λ enough. subst (λ (v : Status). Reaches c.by_number-places.result v) (sym c.copy.ensures)
          (subst (λ (l : List (Option Member)). Reaches l r) (sym places) (placed_reach r ms ms c.requires.numbers (λ m h. h) enough));
      shown = holders_show r ms c.requires.numbers s t c.requires.holders done;
      cause = tt;
      calls = calls;
      history = λ slots enough before. record {
        moments = first_fits s t sound r c.requires.status ms c.requires.numbers c.requires.slots run slots before;
        after = subst (λ (register : Registered). FitsRegister slots register (Some r) [] t) (sym made_is)
            (first_completed s t sound r c.requires.status ms c.requires.numbers c.requires.slots run slots before done enough);
      };
    }
