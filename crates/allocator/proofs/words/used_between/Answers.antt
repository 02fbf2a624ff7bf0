use Rattle.std.proofs.Common.{true, false, arith}
use Rattle.allocator.proofs.Resized.{count_few, count_more, count_none}
use Rattle.allocator.proofs.words.used_between.Goals as goal

pub loop-at-init : goal.loop-at-init
loop-at-init c = record {
  low = c.next_used-at.ensures.low;
  high = c.next_used-at.ensures.high;
  there = c.next_used-at.ensures.there;
  counted = omega (arith, count_none c.args.words.now c.args.from, count_more false c.args.words.now c.args.from c.args.from c.next_used-at.result (omega arith) c.next_used-at.ensures.low c.next_used-at.ensures.before);
}

pub overflow_add-used : goal.overflow_add-used
overflow_add-used c = omega (arith, c.loop-at.invariant.counted, count_few c.args.words.now c.args.from c.loop-at.at, c.next_free-free.ensures.low, c.next_free-free.ensures.high, c.loop-at.invariant.low)

pub loop-at-preserved : goal.loop-at-preserved
loop-at-preserved c =
    let free = c.next_free-free.ensures in
    let next = c.next_used-at-in-loop-at.ensures in
    record {
      low = omega (arith, c.loop-at.invariant.low, free.low, next.low);
      high = next.high;
      there = next.there;
      counted =
          omega (
            arith,
            c.loop-at.invariant.counted,
            count_more true c.args.words.now c.args.from c.loop-at.at c.next_free-free.result c.loop-at.invariant.low free.low free.before,
            count_more false c.args.words.now c.args.from c.next_free-free.result c.next_used-at-in-loop-at.result (omega (arith, c.loop-at.invariant.low, free.low)) next.low next.before,
          );
    }
