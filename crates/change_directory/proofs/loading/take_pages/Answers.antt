use Rattle.std.proofs.Common.{◌≡◌, ◌+◌, ◌∷◌, [], ℕ, Some}
use Rattle.std.proofs.lemmas.Result.{err_from_is_err_and}
use Rattle.change_directory.specs.Slots.{all_slots, blocks_of, damaged_page}
use Rattle.change_directory.proofs.PageRows.{damage_next, taken_start, taken_next}
use Rattle.change_directory.proofs.Orders.{goes_nowhere, page_goes_on}
use Rattle.change_directory.proofs.LoadAnswers.{damage_of_err}
use Rattle.change_directory.proofs.loading.take_pages.Goals as goal

pub loop-i-init : goal.loop-i-init
loop-i-init c = record {
  taken = taken_start (all_slots c.args.logs.now) c.args.first c.args.bytes.now _;
  up_to = goes_nowhere (all_slots c.args.logs.now) c.args.first _;
}

pub loop-i-preserved : goal.loop-i-preserved
loop-i-preserved c =
    let slots = all_slots c.args.logs.now in
    let home = c.block_at-home.result.bytes in
    record {
      taken = taken_next slots c.args.first c.loop-i.i c.args.bytes.now home _ _ _ c.block_at-home.ensures c.loop-i.invariant.taken c.in_ok-take_page.ensures.taken;
      up_to = page_goes_on slots c.args.first c.loop-i.i home _ _ _ c.in_ok-take_page.ensures.taken c.loop-i.invariant.up_to;
    }

pub returns-in_err-take_page-clause-damage : goal.returns-in_err-take_page-clause-damage
returns-in_err-take_page-clause-damage c =
    let slots = all_slots c.args.logs.now in
    let home = c.block_at-home.result.bytes in
    let e = err_from_is_err_and c.from_residual.result c.from_residual.ensures.1 in
    rw (e.1, e.2)
    (damage_of_err c.in_err-take_page.field-0.0 (λ (block : ℕ). damaged_page slots (c.args.first + c.loop-i.i) (home ∷ []) ≡ Some block) (λ (block : ℕ). damaged_page slots c.args.first (blocks_of c.args.count c.args.bytes.now) ≡ Some block)
    (λ block damage. damage_next slots c.args.first c.loop-i.i c.args.count block c.args.bytes.now home _ _ c.loop-i-test.true c.block_at-home.ensures c.loop-i.invariant.taken damage)
    c.in_err-take_page.ensures.damage)
