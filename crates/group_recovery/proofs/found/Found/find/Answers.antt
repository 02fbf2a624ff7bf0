use Rattle.std.proofs.Common.{◌∙◌, ◌++◌, ℕ, List, length, sym, ap, subst, arith}
use Rattle.group_recovery.specs.Verdicts.{AreAttached, ids_named}
use Rattle.group_recovery.specs.declared.finding.Headed.{Headed}
use Rattle.group_recovery.proofs.Choices.{search_cost}
use Rattle.group_recovery.proofs.Looks.{stays_keeps}
use Rattle.group_recovery.proofs.Searches.{find_cause, finds, is_found, search_runs, there_attached, there_found, there_still}
use Rattle.group_recovery.proofs.found.Found.find.Goals as goal

pub choose-requires-clause-attached : goal.choose-requires-clause-attached
choose-requires-clause-attached g c =
    let m = g.B.Bay.state c.find_headed.new.bay in
    subst (λ (l : List Headed). AreAttached l m) (sym c.deref-2.ensures.value) (there_attached (length c.args.paths.now) c.in_ok-headed.headed.items m c.in_ok-headed.ensures.there)

pub returns-in_err-choice-clause-calls : goal.returns-in_err-choice-clause-calls
returns-in_err-choice-clause-calls g c = omega (
  arith,
  c.find_headed.ensures.looks.calls,
  c.in_ok-headed.ensures.few,
  c.choose.ensures.calls,
  search_cost c.args.name.now c.in_ok-headed.headed.items c.deref-2.result.now c.deref-3.result.now c.deref-2.ensures.value (c.deref-3.ensures.value ∙ c.in_ok-ids.ensures ∙ ap (ids_named c.args.name.now) c.deref.ensures.value),
)

pub returns-in-Ok-clause-answer : goal.returns-in-Ok-clause-answer
returns-in-Ok-clause-answer g c =
    let s = g.B.Bay.state c.args.bay.now in
    let m = g.B.Bay.state c.find_headed.new.bay in
    let t = g.B.Bay.state c.choose.new.bay in
    let n = length c.args.paths.now in
    let headed = c.in_ok-headed.headed.items in
    let choice = c.in_ok-choice.choice in
    let (more, grows, chooses) = c.in_ok-choice.ensures.chosen in
    let was = finds s m t c.find_headed.ensures.looks.runs c.choose.ensures.runs c.choose.ensures.attached c.args.name.now n headed c.deref-2.result.now c.deref-3.result.now choice more
    c.deref-2.ensures.value (c.deref-3.ensures.value ∙ c.in_ok-ids.ensures ∙ ap (ids_named c.args.name.now) c.deref.ensures.value) c.in_ok-headed.ensures.there c.in_ok-headed.ensures.all chooses in
    is_found c.args.name.now n headed choice more s t c.in-Ok.id _ c.deref-in-Ok.result.now c.found_of.result was (sym c.taken.ensures ∙ c.in-Ok.is) c.found_of.ensures
    (c.deref-in-Ok.ensures.value ∙ grows ∙ ap (λ (l : List ℕ). l ++ more) c.new-unread.ensures.items)

pub returns-in-Ok-clause-there : goal.returns-in-Ok-clause-there
returns-in-Ok-clause-there g c =
    let m = g.B.Bay.state c.find_headed.new.bay in
    let t = g.B.Bay.state c.choose.new.bay in
    let n = length c.args.paths.now in
    let headed = c.in_ok-headed.headed.items in
    there_found n headed t c.in-Ok.id _ c.deref-in-Ok.result.now c.found_of.result (there_still n headed m t c.choose.ensures.runs c.choose.ensures.attached c.in_ok-headed.ensures.there) c.found_of.ensures

pub returns-in-Ok-clause-stays : goal.returns-in-Ok-clause-stays
returns-in-Ok-clause-stays g c = stays_keeps (g.B.Bay.state c.args.bay.now) (g.B.Bay.state c.find_headed.new.bay) (g.B.Bay.state c.choose.new.bay) c.find_headed.ensures.looks.stays c.choose.ensures.attached

pub returns-in-Ok-clause-calls : goal.returns-in-Ok-clause-calls
returns-in-Ok-clause-calls g c = omega (
  arith,
  c.find_headed.ensures.looks.calls,
  c.in_ok-headed.ensures.few,
  c.choose.ensures.calls,
  search_cost c.args.name.now c.in_ok-headed.headed.items c.deref-2.result.now c.deref-3.result.now c.deref-2.ensures.value (c.deref-3.ensures.value ∙ c.in_ok-ids.ensures ∙ ap (ids_named c.args.name.now) c.deref.ensures.value),
)

pub returns-in-Ok-clause-runs : goal.returns-in-Ok-clause-runs
returns-in-Ok-clause-runs g c =
    search_runs (g.B.Bay.state c.args.bay.now) (g.B.Bay.state c.find_headed.new.bay) (g.B.Bay.state c.choose.new.bay) (length c.args.paths.now) c.in_ok-headed.headed.items c.deref-2.result.now
    c.deref-2.ensures.value c.in_ok-headed.ensures.there c.find_headed.ensures.looks.runs c.choose.ensures.runs

pub returns-in-Err-clause-answer : goal.returns-in-Err-clause-answer
returns-in-Err-clause-answer g c =
    let s = g.B.Bay.state c.args.bay.now in
    let m = g.B.Bay.state c.find_headed.new.bay in
    let t = g.B.Bay.state c.choose.new.bay in
    let n = length c.args.paths.now in
    let headed = c.in_ok-headed.headed.items in
    let choice = c.in_ok-choice.choice in
    let (more, grows, chooses) = c.in_ok-choice.ensures.chosen in
    let was = finds s m t c.find_headed.ensures.looks.runs c.choose.ensures.runs c.choose.ensures.attached c.args.name.now n headed c.deref-2.result.now c.deref-3.result.now choice more
    c.deref-2.ensures.value (c.deref-3.ensures.value ∙ c.in_ok-ids.ensures ∙ ap (ids_named c.args.name.now) c.deref.ensures.value) c.in_ok-headed.ensures.there c.in_ok-headed.ensures.all chooses in
    find_cause c.args.name.now n s t c.in-Err.error (record { headed = headed; choice = choice; unread = more; finds = was; refusal = sym c.taken.ensures ∙ c.in-Err.is })

pub returns-in-Err-clause-stays : goal.returns-in-Err-clause-stays
returns-in-Err-clause-stays g c = stays_keeps (g.B.Bay.state c.args.bay.now) (g.B.Bay.state c.find_headed.new.bay) (g.B.Bay.state c.choose.new.bay) c.find_headed.ensures.looks.stays c.choose.ensures.attached

pub returns-in-Err-clause-calls : goal.returns-in-Err-clause-calls
returns-in-Err-clause-calls g c = omega (
  arith,
  c.find_headed.ensures.looks.calls,
  c.in_ok-headed.ensures.few,
  c.choose.ensures.calls,
  search_cost c.args.name.now c.in_ok-headed.headed.items c.deref-2.result.now c.deref-3.result.now c.deref-2.ensures.value (c.deref-3.ensures.value ∙ c.in_ok-ids.ensures ∙ ap (ids_named c.args.name.now) c.deref.ensures.value),
)

pub returns-in-Err-clause-runs : goal.returns-in-Err-clause-runs
returns-in-Err-clause-runs g c =
    search_runs (g.B.Bay.state c.args.bay.now) (g.B.Bay.state c.find_headed.new.bay) (g.B.Bay.state c.choose.new.bay) (length c.args.paths.now) c.in_ok-headed.headed.items c.deref-2.result.now
    c.deref-2.ensures.value c.in_ok-headed.ensures.there c.find_headed.ensures.looks.runs c.choose.ensures.runs
