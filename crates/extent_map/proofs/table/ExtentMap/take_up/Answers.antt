use Rattle.std.proofs.Common.{◌-◌, ap, sym, ◌∙◌, arith}
use Rattle.std.specs.Option.{option_map}
use Rattle.asm_formats.specs.Items.{chunk_item}
use Rattle.extent_map.proofs.Laws.{key_is, not_behind, not_chunk, taken_step}
use Rattle.extent_map.proofs.table.ExtentMap.take_up.Goals as goal

pub returns-in_default-clause-step : goal.returns-in_default-clause-step
returns-in_default-clause-step c =
    let at = key_is c.key.inside.kind c.key.inside.a c.key.inside.b c.args.key c.if-key-ne-FILES.false (omega (arith, c.if-key-eq0.false)) c.key.view_is in
    not_chunk c.args.self.now c.args.key c.key.inside.a (c.key.inside.b - 1) at c.args.value.now c.as_bytes.result.now c.as_bytes.ensures.bytes (ap (option_map (chunk_item c.key.inside.a (c.key.inside.b - 1))) (sym c.in_default.is) ∙ c.in_ok-chunk.ensures)

pub returns-then-not-ends_before-clause-step : goal.returns-then-not-ends_before-clause-step
returns-then-not-ends_before-clause-step c =
    let at = key_is c.key.inside.kind c.key.inside.a c.key.inside.b c.args.key c.if-key-ne-FILES.false (omega (arith, c.if-key-eq0.false)) c.key.view_is in
    not_behind c.args.self.now c.args.key c.key.inside.a (c.key.inside.b - 1) at c.args.value.now c.as_bytes.result.now c.in-Some.chunk c.as_bytes.ensures.bytes (ap (option_map (chunk_item c.key.inside.a (c.key.inside.b - 1))) (sym c.in-Some.is) ∙ c.in_ok-chunk.ensures) (sym c.ends_before.ensures ∙ c.if-not-ends_before.true)

pub returns-clause-step : goal.returns-clause-step
returns-clause-step c =
    let at = key_is c.key.inside.kind c.key.inside.a c.key.inside.b c.args.key c.if-key-ne-FILES.false (omega (arith, c.if-key-eq0.false)) c.key.view_is in
    (taken_step c.args.self.now c.insert.new.self c.args.key c.key.inside.a (c.key.inside.b - 1) at c.args.value.now c.as_bytes.result.now c.in-Some.chunk c.as_bytes.ensures.bytes c.requires (ap (option_map (chunk_item c.key.inside.a (c.key.inside.b - 1))) (sym c.in-Some.is) ∙ c.in_ok-chunk.ensures) (sym c.ends_before.ensures ∙ c.if-not-ends_before.false) c.in_ok-insert.ensures.ok).0

pub returns-clause-ascending : goal.returns-clause-ascending
returns-clause-ascending c =
    let at = key_is c.key.inside.kind c.key.inside.a c.key.inside.b c.args.key c.if-key-ne-FILES.false (omega (arith, c.if-key-eq0.false)) c.key.view_is in
    (taken_step c.args.self.now c.insert.new.self c.args.key c.key.inside.a (c.key.inside.b - 1) at c.args.value.now c.as_bytes.result.now c.in-Some.chunk c.as_bytes.ensures.bytes c.requires (ap (option_map (chunk_item c.key.inside.a (c.key.inside.b - 1))) (sym c.in-Some.is) ∙ c.in_ok-chunk.ensures) (sym c.ends_before.ensures ∙ c.if-not-ends_before.false) c.in_ok-insert.ensures.ok).1
