use Rattle.std.proofs.Common.{◌≡◌, ◌∙◌, Some, ap, sym}
use Rattle.std.specs.Option.{option_copied}
use Rattle.asm_base.specs.Names.{name_of}
use Rattle.asm_base.proofs.PathLaws.{read_is, read_more}
use Rattle.verb_paths.proofs.Walking.{read_on, unread, left_falls}
use Rattle.verb_paths.proofs.places.all_parts.Goals as goal

pub returns-in-None : goal.returns-in-None
returns-in-None c =
    unread c.loop-left.parts (option_copied c.loop-left.left) c.args.path.now c.in-Some.bytes.now c.split_part.result.0.now c.in_ok-part.field-0
    c.loop-left.invariant.all (ap option_copied c.in-Some.is) c.split_part.ensures.part c.in_ok-part.ensures c.in-None.is

pub loop-left-smaller : goal.loop-left-smaller
loop-left-smaller c = left_falls (option_copied c.loop-left.left) (option_copied c.split_part.result.1) c.in-Some.bytes.now (ap option_copied c.in-Some.is) c.split_part.ensures.shorter

pub loop-left-preserved : goal.loop-left-preserved
loop-left-preserved c =
    let read : Some c.in-Some-2.part ≡ name_of 80 c.split_part.result.0.now = sym c.in-Some-2.is ∙ c.in_ok-part.ensures in
    record {
      parts = rw c.in_ok-push-in-Some-2.ensures.ok (read_more c.loop-left.parts c.in-Some-2.part c.split_part.result.0.now c.loop-left.invariant.parts read);
      all = read_on c.loop-left.parts c.push.new.self (option_copied c.loop-left.left) (option_copied c.split_part.result.1) c.args.path.now c.in-Some.bytes.now c.split_part.result.0.now c.in-Some-2.part
          c.loop-left.invariant.all (ap option_copied c.in-Some.is) c.split_part.ensures.part c.split_part.ensures.behind (read_is c.in-Some-2.part c.split_part.result.0.now read) c.in_ok-push-in-Some-2.ensures.ok;
    }
