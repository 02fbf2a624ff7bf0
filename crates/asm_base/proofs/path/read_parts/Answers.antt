use Rattle.std.proofs.Common.{◌≡◌, ◌∙◌, sym, take, Some}
use Rattle.asm_base.specs.Names.{name_of}
use Rattle.asm_base.specs.Paths.{parts_behind_slash}
use Rattle.asm_base.proofs.PathLaws.{stepped_to, read_is, read_more}
use Rattle.asm_base.proofs.path.read_parts.Goals as goal

pub loop-slash-preserved : goal.loop-slash-preserved
loop-slash-preserved c =
    let bytes = take c.slash_at-n.result c.in-Some.rest.now in
    let read : Some c.in-Some-2.part ≡ name_of 80 bytes = sym c.in-Some-2.is ∙ c.in_ok-part.ensures in
    record {
      parts = rw c.in_ok-push.ensures.ok (read_more c.loop-slash.parts c.in-Some-2.part bytes c.loop-slash.invariant.parts read);
      all = stepped_to c.loop-slash.parts c.push.new.self _ c.slash_at-n.result c.loop-slash.left.now c.in-Some.rest.now c.in-Some-2.part (parts_behind_slash c.args.bytes.now) c.in_ok-push.ensures.ok c.loop-slash.invariant.all c.in-Some.ensures.cases.0 c.slash_at-n.ensures.at (read_is c.in-Some-2.part bytes read);
    }
