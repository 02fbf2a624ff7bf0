use Rattle.std.proofs.Common.{◌∙◌, ◌++◌, ◌∷◌, [], arith}
use Rattle.std.proofs.lemmas.Result.{err_from_is_err_and}
use Rattle.bay.proofs.Known.{Appends-more}
use Rattle.serving.proofs.Printed.{next-line, cut-line, last-line}
use Rattle.serving.proofs.printing.print_lines.Goals as goal

pub returns-in_err-print_line-clause-bytes : goal.returns-in_err-print_line-clause-bytes
returns-in_err-print_line-clause-bytes g c =
    let p = err_from_is_err_and c.from_residual.result c.from_residual.ensures.1 in
    let i = c.loop-line.invariant in
    rw p.1 (cut-line _ _ _ c.args.lines.now c.loop-line.line-index c.as_slice.result.now c.line-item.result c.args.last.now i.0 c.loop-line-test.true (c.as_slice.ensures ∙ c.line-item.is) i.2 i.1 c.in_err-print_line.ensures.bytes)

pub loop-line-preserved : goal.loop-line-preserved
loop-line-preserved g c =
    let i = c.loop-line.invariant in (
      i.0 ++ (c.as_slice.result.now ++ 10 ∷ []),
      Appends-more _ _ _ i.0 (c.as_slice.result.now ++ 10 ∷ []) i.1 c.in_ok-print_line.ensures.bytes,
      next-line c.args.lines.now c.loop-line.line-index c.as_slice.result.now c.line-item.result c.args.last.now i.0 c.loop-line-test.true (c.as_slice.ensures ∙ c.line-item.is) i.2,
      omega (arith, i.3, c.print_line.ensures.later),
    )

pub returns-clause-bytes : goal.returns-clause-bytes
returns-clause-bytes g c =
    let i = c.loop-line.invariant in
    last-line _ _ _ c.write_all.result c.args.lines.now c.loop-line.line-index c.args.last.now i.0 (omega (arith, c.loop-line-test.false)) i.2 i.1 c.write_all.ensures.bytes
