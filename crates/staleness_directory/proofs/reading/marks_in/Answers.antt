use Rattle.std.proofs.Common.{ℕ, List, sym, ap, ◌∙◌, arith}
use Rattle.std.specs.Option.{option_map}
use Rattle.asm_formats.specs.Items.{Key}
use Rattle.staleness_directory.proofs.Laws.{marks_are_read}
use Rattle.staleness_directory.specs.Marks.{read_marks}
use Rattle.staleness_directory.proofs.reading.marks_in.Goals as goal

pub returns : goal.returns
returns c =
    marks_are_read c.args.key c.args.value.now (omega arith) c.requires
    ∙ ap (option_map (λ (marks : List ℕ). ((c.args.key.a, c.args.key.b), marks)))
    (ap (λ (bytes : List ℕ). read_marks c.args.key.b bytes) (sym c.as_bytes.ensures.bytes) ∙ ap (λ (k : Key). read_marks k.b c.as_bytes.result.now) (sym c.key.view_is) ∙ sym c.read_marks.ensures)
