use Rattle.std.proofs.Common.{◌∙◌, sym, arith, rules}
use Rattle.std.proofs.lemmas.Grind.{common_steps}
use Rattle.std.proofs.lemmas.Result.{IfOk-weaker}
use Rattle.disk_images.proofs.Settling.{read_short, read_shut, read_open}
use Rattle.disk_images.proofs.looking.read_header.Goals as goal

pub returns-then-size-lt-LEAST_SIZE : goal.returns-then-size-lt-LEAST_SIZE
returns-then-size-lt-LEAST_SIZE g c = record {
  attached = first_of (search rules, grind (arith, common_steps));
  runs = first_of (search rules, grind (arith, common_steps));
  calls = first_of (search rules, grind (arith, common_steps));
  written = first_of (search rules, grind (arith, common_steps));
  header = read_short c.args.slot c.args.size (g.met.B.Bay.sound c.args.bay.now) c.requires.attached (omega arith);
  allowed = first_of (search rules, grind (arith, common_steps));
  cause = first_of (search rules, grind (arith, common_steps));
}

pub returns-in-Ok-true : goal.returns-in-Ok-true
returns-in-Ok-true g c = record {
  attached = first_of (search rules, grind (arith, common_steps));
  runs = first_of (search rules, grind (arith, common_steps));
  calls = first_of (search rules, grind (arith, common_steps));
  written = first_of (search rules, grind (arith, common_steps));
  header = IfOk-weaker c.read_body.result _ _
      (λ header read. read_open c.args.slot c.args.size (g.met.B.Bay.sound c.args.bay.now) c.requires.attached _ (omega arith) header
      (λ image was. sym c.in-Ok-true.field-0-test ∙ (rw c.header_slot.ensures at c.in-Ok-true.ensures.call.done) image was) c.is_open.ensures.call.calls.runs c.read_body.ensures.runs read)
      c.read_body.ensures.header;
  allowed = IfOk-weaker c.read_body.result _ _ (λ header all h is. record { header = all h is; long = omega arith }) c.read_body.ensures.allowed;
  cause = first_of (search rules, grind (arith, common_steps));
}

pub returns-in-Ok-false : goal.returns-in-Ok-false
returns-in-Ok-false g c = record {
  attached = first_of (search rules, grind (arith, common_steps));
  runs = first_of (search rules, grind (arith, common_steps));
  calls = first_of (search rules, grind (arith, common_steps));
  written = first_of (search rules, grind (arith, common_steps));
  header = read_shut c.args.slot c.args.size (g.met.B.Bay.sound c.args.bay.now) c.requires.attached (g.B.Bay.state c.is_open.new.bay) (omega arith)
      (λ image was. sym c.in-Ok-false.field-0-test ∙ (rw c.header_slot.ensures at c.in-Ok-false.ensures.call.done) image was) c.is_open.ensures.call.calls.runs;
  allowed = first_of (search rules, grind (arith, common_steps));
  cause = first_of (search rules, grind (arith, common_steps));
}
