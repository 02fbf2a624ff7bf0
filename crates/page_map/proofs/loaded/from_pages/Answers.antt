use Rattle.std.proofs.Common.{◌≡◌, ◌+◌, ◌∷◌, [], ◌∙◌, ℕ, take, get_or, List, sym, ap, subst}
use Rattle.std.proofs.lemmas.List.{take_more, take_all}
use Rattle.std.proofs.lemmas.Result.{err_from_is_err_and}
use Rattle.allocator.specs.asm_base.declared.block.Block.{Block}
use Rattle.page_map.specs.Loaded.{HoldsTable}
use Rattle.page_map.proofs.Loading.{holds_more, is_table_of, next_is_free, has_no_table, twin_cause}
use Rattle.page_map.proofs.loaded.from_pages.Goals as goal

pub put_page-requires-clause-free : goal.put_page-requires-clause-free
put_page-requires-clause-free c =
    next_is_free c.args.pages c.loop-page.page-index c.args.blocks.now (0, record { bytes = [] }) c.loop-page.map c.requires.filled c.loop-page-test.true c.loop-page.invariant.units c.loop-page.invariant.holds

pub returns-in_err-put_page-clause-twin : goal.returns-in_err-put_page-clause-twin
returns-in_err-put_page-clause-twin c =
    let e = err_from_is_err_and c.from_residual-in_err-put_page.result c.from_residual-in_err-put_page.ensures.1 in
    rw (e.1, e.2) (twin_cause c.args.pages c.loop-page.page-index c.args.blocks.now (0, record { bytes = [] }) c.loop-page.map c.in_err-put_page.field-0.0 c.requires.filled c.loop-page-test.true c.loop-page.invariant.holds c.in_err-put_page.ensures.twin)

pub returns-in_err-put_page-clause-none : goal.returns-in_err-put_page-clause-none
returns-in_err-put_page-clause-none c =
    let e = err_from_is_err_and c.from_residual-in_err-put_page.result c.from_residual-in_err-put_page.ensures.1 in
    let cause = twin_cause c.args.pages c.loop-page.page-index c.args.blocks.now (0, record { bytes = [] }) c.loop-page.map c.in_err-put_page.field-0.0 c.requires.filled c.loop-page-test.true c.loop-page.invariant.holds c.in_err-put_page.ensures.twin in
    rw (e.1, e.2) (has_no_table c.args.pages c.args.blocks.now c.in_err-put_page.field-0.0 c.requires.filled cause)

pub loop-page-preserved : goal.loop-page-preserved
loop-page-preserved c =
    let i = c.loop-page.page-index in
    let blocks = c.args.blocks.now in
    let d : ℕ × Block = (0, record { bytes = [] }) in
    let p : ℕ × Block = get_or blocks i d in
    let free = next_is_free c.args.pages i blocks d c.loop-page.map c.requires.filled c.loop-page-test.true c.loop-page.invariant.units c.loop-page.invariant.holds in
    let puts = c.in_ok-put_page.ensures.ok in
    record {
      holds = subst (λ (xs : List (ℕ × Block)). HoldsTable xs c.put_page.new.map) (sym (take_more blocks i d c.loop-page-test.true)) (holds_more (take i blocks) c.loop-page.map c.put_page.new.map p.0 p.1 c.loop-page.invariant.holds free puts);
      units = puts.adds.units ∙ c.loop-page.invariant.units;
    }

pub returns-clause-table : goal.returns-clause-table
returns-clause-table c =
    is_table_of c.args.pages c.args.blocks.now c.loop-page.map c.requires.filled c.loop-page.invariant.units
    (subst (λ (xs : List (ℕ × Block)). HoldsTable xs c.loop-page.map) (take_all c.loop-page.page-index c.args.blocks.now c.loop-page-test.false) c.loop-page.invariant.holds)
