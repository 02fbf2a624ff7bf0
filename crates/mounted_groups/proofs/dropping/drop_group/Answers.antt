use Rattle.std.proofs.Common.{arith, rules}
use Rattle.std.proofs.lemmas.Grind.{common_steps}
use Rattle.std.proofs.lemmas.Result.{err_from_is_err_and}
use Rattle.mounted_groups.proofs.Drops.{dropped, end_drops, have_headers, headers_keep, headers_same, is_marked, nothing_done, out_of_old, shut_drops}
use Rattle.mounted_groups.proofs.dropping.drop_group.Goals as goal

pub close_all-requires : goal.close_all-requires
close_all-requires g c =
    let s = g.B.Bay.state c.args.bay.now in
    let keeps = c.end_group.ensures.keeps in
    let takes = c.requires.takes c.in_ok-takes_calls.ensures.ok in
    record { headers = headers_keep c.end_group.new.self keeps.attached (headers_same c.args.m.now c.end_group.new.self keeps.same s (have_headers c.args.m.now s takes.0 takes.1)) }

pub returns : goal.returns
returns g c =
    let old = c.args.m.now in
    let new = c.end_group.new.self in
    let s = g.B.Bay.state c.args.bay.now in
    let u = g.B.Bay.state c.end_group.new.bay in
    let t = g.B.Bay.state c.close_all.new.bay in
    let keeps = c.end_group.ensures.keeps in
    record {
      keeps = dropped old new keeps.same keeps c.end_group.ensures.closed c.close_all.ensures.attached c.close_all.ensures.runs;
      cause = tt;
      empty = first_of (search rules, grind (arith, common_steps));
      marked = is_marked old new s u c.in_ok-end_group.ensures.gone;
      gone = first_of (search rules, grind (arith, common_steps));
      out = out_of_old old new keeps.same s u t keeps.runs.faults c.close_all.ensures.out;
    }

pub returns-in_err-takes_calls : goal.returns-in_err-takes_calls
returns-in_err-takes_calls g c =
    let s = g.B.Bay.state c.args.bay.now in
    let f = err_from_is_err_and c.from_residual.result c.from_residual.ensures.1 in
    rw (f.1, f.2) (record {
      keeps = nothing_done c.args.m.now s c.requires.takes;
      cause = shut_drops c.args.m.now c.args.contents s c.in_err-takes_calls.field-0.0 c.in_err-takes_calls.ensures.cause;
      empty = tt;
      marked = tt;
      gone = tt;
      out = tt;
    })

pub returns-then-has_file : goal.returns-then-has_file
returns-then-has_file g c = record {
  keeps = nothing_done c.args.m.now (g.B.Bay.state c.args.bay.now) c.requires.takes;
  cause = first_of (search rules, grind (arith, common_steps));
  empty = tt;
  marked = tt;
  gone = tt;
  out = tt;
}

pub returns-in_err-end_group : goal.returns-in_err-end_group
returns-in_err-end_group g c =
    let s = g.B.Bay.state c.args.bay.now in
    let u = g.B.Bay.state c.end_group.new.bay in
    let f = err_from_is_err_and c.from_residual-in_err-end_group.result c.from_residual-in_err-end_group.ensures.1 in
    rw (f.1, f.2) (record {
      keeps = c.end_group.ensures.keeps;
      cause = end_drops c.args.m.now c.args.contents c.end_group.new.self s u c.in_err-end_group.field-0.0 c.in_err-end_group.ensures.cause;
      empty = tt;
      marked = tt;
      gone = tt;
      out = tt;
    })
