use Rattle.std.proofs.Common.{◌≡◌, ◌+◌, ◌∙◌, ℕ, ap, subst, rules, arith}
use Rattle.std.specs.Prelude.{IfErr, not}
use Rattle.std.proofs.lemmas.Result.{err_from_is_err_and}
use Rattle.bay.specs.Told.{Told}
use Rattle.change_directory.specs.LoadCalls.{Damages, IsPieceDamage, piece_of_pages}
use Rattle.change_directory.specs.Slots.{AreUpTo, IsPageDamage, all_slots}
use Rattle.change_directory.proofs.LoadSteps.{no_pages_told, page_damage, pages_told}
use Rattle.change_directory.proofs.Orders.{none_are_up}
use Rattle.change_directory.proofs.LoadAnswers.{damage_of_err}
use Rattle.change_directory.proofs.Works.{no_reads, not_err, reads_fit}
use Rattle.change_directory.proofs.loading.load_pages.Goals as goal

pub returns-then-is_none : goal.returns-then-is_none
returns-then-is_none g c =
    let s = g.B.Bay.state c.args.bay.now in
    record {
      reads = reads_fit {m = 0} (omega arith) no_reads;
      done = record {
        are = no_pages_told c.args.copy c.args.logs.now s s _ c.number_of.ensures c.new.ensures.items c.new-2.ensures.items (c.is_none.ensures ∙ ap not c.if-is_none.true);
        up_to = none_are_up (all_slots c.args.logs.now) c.args.copy.dir_blocks _ c.new.ensures.items c.new-2.ensures.items;
      };
      refusal = tt;
      cause = not_err;
    }

pub returns : goal.returns
returns g c =
    let s = g.B.Bay.state c.args.bay.now in
    let t = g.B.Bay.state c.read_pages.new.bay in
    let all : 0 + c.args.copy.dir_blocks ≡ c.args.copy.dir_blocks = omega arith in
    record {
      reads = c.read_pages.ensures.reads;
      done = record {
        are = pages_told c.args.copy c.args.logs.now s t _ c.number_of.ensures c.new.ensures.items c.new-2.ensures.items _ (c.is_none.ensures ∙ ap not c.if-is_none.false) c.in_ok-read_pages.ensures.done.taken;
        up_to = subst (λ (n : ℕ). AreUpTo (all_slots c.args.logs.now) n c.read_pages.new.pages) all
            (c.in_ok-read_pages.ensures.done.up_to (none_are_up (all_slots c.args.logs.now) 0 _ c.new.ensures.items c.new-2.ensures.items));
      };
      refusal = tt;
      cause = not_err;
    }

pub returns-in_err-read_pages : goal.returns-in_err-read_pages
returns-in_err-read_pages g c =
    let s = g.B.Bay.state c.args.bay.now in
    let t = g.B.Bay.state c.read_pages.new.bay in
    let e = err_from_is_err_and c.from_residual.result c.from_residual.ensures.1 in
    let refusal : IfErr c.from_residual.result (λ e. Damages (IsPageDamage c.args.copy c.args.logs.now) e (g.B.Bay.state c.args.bay.now) (g.B.Bay.state c.read_pages.new.bay)) =
    rw (e.1, e.2)
    (damage_of_err c.in_err-read_pages.field-0.0 (λ (block : ℕ). Told s t (IsPieceDamage (piece_of_pages c.args.copy c.args.logs.now 0 c.args.copy.dir_blocks) block)) (λ (block : ℕ). Told s t (IsPageDamage c.args.copy c.args.logs.now block))
    (λ block damage. page_damage c.args.copy c.args.logs.now s t block (c.is_none.ensures ∙ ap not c.if-is_none.false) damage)
    c.in_err-read_pages.ensures.refusal) in search rules
