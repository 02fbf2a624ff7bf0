use Rattle.std.proofs.Common.{◌≡◌, ◌∙◌, List, Option, None, false, refl, sym, ap, subst, replicate}
use Rattle.asm_formats.specs.Status.{Entry, Status}
use Rattle.status_register.specs.Reaching.{Reaches}
use Rattle.status_register.specs.Registered.{Registered, all_placed}
use Rattle.status_register.specs.declared.member.Member.{Member}
use Rattle.status_register.proofs.Placing.{places_ready}
use Rattle.status_register.proofs.Reaching.{placed_reach}
use Rattle.status_register.proofs.Standing.{stands}
use Rattle.status_register.proofs.register.Register.standing.Goals as goal

pub returns : goal.returns
returns g c =
    let s = g.B.Bay.state c.args.bay.now in
    let r = c.args.value.now in
    let ms = c.args.members.now in
    let view = c.value.view_is in
    let places = c.by_number.ensures.places ∙ ap (λ (es : List Entry). all_placed es (replicate 64 None) ms) c.entries.ensures.entries in
    let made : Registered = record {
      id = c.value.inside.id;
      members = c.by_number.result;
      value = c.copy.result;
      epoch = c.value.inside.epoch;
      turn = c.value.inside.turn;
      is_fresh = false;
    } in
    let same : made.value ≡ r = c.copy.ensures in
    record {
      register = λ i. record { id = (view i).id; members = places i; value = c.copy.ensures i; epoch = (view i).epoch; turn = (view i).turn; is_fresh = false };
      ready = places_ready r.entries ms c.requires.numbers s s made places c.requires.slots c.requires.apart (record { same = λ slot. refl });
      reaches = λ enough. subst (λ (v : Status). Reaches c.by_number.result v) (sym c.copy.ensures)
          (subst (λ (l : List (Option Member)). Reaches l r) (sym places) (placed_reach r ms ms c.requires.numbers (λ m h. h) enough));
      history = stands s made (ap (λ (x : Status). x.id) same ∙ sym (ap (λ (x : Status). x.id) view)) (ap (λ (x : Status). x.epoch) same ∙ sym (ap (λ (x : Status). x.epoch) view))
          (ap (λ (x : Status). x.turn) same ∙ sym (ap (λ (x : Status). x.turn) view));
    }
