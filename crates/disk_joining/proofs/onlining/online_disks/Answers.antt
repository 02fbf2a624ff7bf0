use Rattle.std.proofs.Common.{◌≤◌, ℕ, List, length, sym, ap, subst, ◌∙◌}
use Rattle.disk_images.specs.Looks.{AreLooked}
use Rattle.disk_images.specs.declared.looking.Looked.{Looked}
use Rattle.disk_joining.specs.Causes.OnlineCause.{by_missed_disks}
use Rattle.disk_joining.proofs.Onlines.{causes_later, shown_are}
use Rattle.disk_joining.proofs.Takings.{looks_taken, taken_on, takes_then}
use Rattle.disk_joining.proofs.onlining.online_disks.Goals as goal

pub check_images-requires : goal.check_images-requires
check_images-requires g c =
    let few : length c.deref.result.now ≤ 512 = subst (λ (n : ℕ). n ≤ 512) (sym (ap (λ (l : List Looked). length l) c.deref.ensures.value ∙ c.in-Ok-look_at_images.ensures.count)) c.requires.few in
    record { few = few }

pub bring_back-requires-clause-few : goal.bring_back-requires-clause-few
bring_back-requires-clause-few g c =
    subst (λ (n : ℕ). n ≤ 512) (sym (ap (λ (l : List Looked). length l) c.deref-in-Ok-check_images.ensures.value ∙ c.in-Ok-look_at_images.ensures.count)) c.requires.few

pub bring_back-requires-clause-takes : goal.bring_back-requires-clause-takes
bring_back-requires-clause-takes g c = takes_then (looks_taken c.args.held.now c.args.m.now c.requires.takes c.requires.apart c.look_at_images.ensures.looks)

pub bring_back-requires-clause-shown : goal.bring_back-requires-clause-shown
bring_back-requires-clause-shown g c =
    let s = g.B.Bay.state c.args.bay.now in
    let t = g.B.Bay.state c.look_at_images.new.bay in
    let looked : AreLooked c.deref-in-Ok-check_images.result.now s t = subst (λ (l : List Looked). AreLooked l s t) (sym c.deref-in-Ok-check_images.ensures.value) c.in-Ok-look_at_images.ensures.each in
    shown_are c.deref-in-Ok-check_images.result.now s t looked

pub returns-in-Ok-check_images-clause-taken : goal.returns-in-Ok-check_images-clause-taken
returns-in-Ok-check_images-clause-taken g c =
    taken_on c.args.held.now (looks_taken c.args.held.now c.args.m.now c.requires.takes c.requires.apart c.look_at_images.ensures.looks) c.bring_back.ensures.taken

pub returns-in-Ok-check_images-clause-cause : goal.returns-in-Ok-check_images-clause-cause
returns-in-Ok-check_images-clause-cause g c =
    causes_later (length c.args.paths.now) c.args.held.now c.args.m.now c.bring_back.new.m c.args.disks (g.B.Bay.state c.bring_back.new.bay) c.bring_back.result c.look_at_images.ensures.looks.runs c.bring_back.ensures.cause

pub returns-clause-taken : goal.returns-clause-taken
returns-clause-taken g c = looks_taken c.args.held.now c.args.m.now c.requires.takes c.requires.apart c.look_at_images.ensures.looks

-- the looks that were made stand against the disks
pub returns-clause-cause : goal.returns-clause-cause
returns-clause-cause g c =
    let s = g.B.Bay.state c.args.bay.now in
    let t = g.B.Bay.state c.look_at_images.new.bay in
    by_missed_disks (record {
      looked = c.deref.result.now;
      are_looked = subst (λ (l : List Looked). AreLooked l s t) (sym c.deref.ensures.value) c.in-Ok-look_at_images.ensures.each;
      count = ap (λ (l : List Looked). length l) c.deref.ensures.value ∙ c.in-Ok-look_at_images.ensures.count;
      cause = c.in-Err-check_images.ensures.cause;
    })

pub returns-in-Err-look_at_images-clause-taken : goal.returns-in-Err-look_at_images-clause-taken
returns-in-Err-look_at_images-clause-taken g c = looks_taken c.args.held.now c.args.m.now c.requires.takes c.requires.apart c.look_at_images.ensures.looks
