use Rattle.std.proofs.Common.{◌≡◌, ◌+◌, ◌/◌, ℕ, Some, sym, ◌∙◌, rules, arith}
use Rattle.std.proofs.lemmas.Result.{err_from_is_err_and}
use Rattle.asm_formats.specs.Damage.{directory_damage}
use Rattle.change_directory.specs.Changes.{copy_disk_bytes}
use Rattle.bay.specs.Told.{Told}
use Rattle.change_directory.specs.Slots.{IsPageDamage}
use Rattle.change_directory.proofs.LoadAnswers.{damage_of_err}
use Rattle.change_directory.proofs.Orders.{slots_are_sound, up_in_order}
use Rattle.change_directory.proofs.LoadJoins.{loaded_told, log_damage_told, page_damage_told, whole_told}
use Rattle.change_directory.proofs.Works.{not_err, reads_fit, reads_on}
use Rattle.change_directory.proofs.loading.load.Goals as goal

pub returns-in_err-first : goal.returns-in_err-first
returns-in_err-first g c =
    let d = c.args.copy.dir_blocks in
    let reads = reads_fit {m = 3} {n = d / 64 + 7} (omega arith) c.read_log.ensures.reads in search rules

pub returns-in_err-second : goal.returns-in_err-second
returns-in_err-second g c =
    let d = c.args.copy.dir_blocks in
    let reads = reads_fit {m = 6} {n = d / 64 + 7} (omega arith) (reads_on c.read_log.ensures.reads c.read_log-2.ensures.reads) in search rules

pub returns-in_err-pages : goal.returns-in_err-pages
returns-in_err-pages g c =
    let copy = c.args.copy in
    let s = g.B.Bay.state c.args.bay.now in
    let n = g.B.Bay.state c.read_log-2.new.bay in
    let t = g.B.Bay.state c.load_pages.new.bay in
    let one = c.read_log.ensures.reads in
    let two = c.read_log-2.ensures.reads in
    let three = c.load_pages.ensures.reads in
    let e = err_from_is_err_and c.from_residual-in_err-pages.result c.from_residual-in_err-pages.ensures.1 in
    rw (e.1, e.2)
    (record {
      loaded = tt;
      order = tt;
      whole = tt;
      damage = damage_of_err c.in_err-pages.field-0.0 (λ (block : ℕ). Told n t (IsPageDamage copy c.in_order-logs.result block))
          (λ (block : ℕ). Told s t (λ image. directory_damage copy.dir_blocks (copy_disk_bytes copy image) ≡ Some block))
          (λ block damage. page_damage_told copy _ _ _ _ one.calls.runs two.calls.runs three.calls.runs (g.met.B.Bay.sound c.args.bay.now) c.requires _ _ c.in_order-logs.result c.in_order-logs.ensures.slots c.in_order-logs.ensures.newest c.in_ok-first.ensures.done.is c.in_ok-second.ensures.done.is block damage)
          c.in_err-pages.ensures.refusal;
      reads = reads_fit (omega arith) (reads_on (reads_on one two) three);
      cause = λ is. omega (arith, c.in_err-pages.ensures.cause is, one.calls.runs.faults copy.slot, two.calls.runs.faults copy.slot);
    })

pub returns-in-Some : goal.returns-in-Some
returns-in-Some g c =
    let copy = c.args.copy in
    let one = c.read_log.ensures.reads in
    let two = c.read_log-2.ensures.reads in
    let three = c.load_pages.ensures.reads in
    record {
      loaded = tt;
      order = tt;
      whole = tt;
      damage = log_damage_told copy _ _ _ _ one.calls.runs two.calls.runs three.calls.runs (g.met.B.Bay.sound c.args.bay.now) c.requires _ _ c.in_order-logs.result c.in_order-logs.ensures.slots c.in_order-logs.ensures.newest c.in_ok-first.ensures.done.is c.in_ok-second.ensures.done.is _ _ (sym c.first_damage-damage.ensures ∙ c.in-Some.is) c.in_ok-pages.ensures.done.are;
      reads = reads_fit (omega arith) (reads_on (reads_on one two) three);
      cause = λ is. absurd cc;
    }

pub returns : goal.returns
returns g c =
    let copy = c.args.copy in
    let sound = g.met.B.Bay.sound c.args.bay.now in
    let one = c.read_log.ensures.reads in
    let two = c.read_log-2.ensures.reads in
    let three = c.load_pages.ensures.reads in
    let none = sym c.first_damage-damage.ensures ∙ c.in-None.is in
    record {
      loaded = loaded_told copy _ _ _ _ one.calls.runs two.calls.runs three.calls.runs sound c.requires _ _ c.in_order-logs.result c.in_order-logs.ensures.slots c.in_order-logs.ensures.newest c.in_ok-first.ensures.done.is c.in_ok-second.ensures.done.is _ c.in_ok-pages.ensures.done.are;
      order = up_in_order _ copy.dir_blocks _
          (slots_are_sound _ _ _ c.in_order-logs.ensures.slots c.in_ok-first.ensures.done.sound c.in_ok-second.ensures.done.sound none)
          c.in_ok-pages.ensures.done.up_to;
      whole = whole_told copy _ _ _ _ one.calls.runs two.calls.runs three.calls.runs sound c.requires _ _ c.in_order-logs.result c.in_order-logs.ensures.slots c.in_order-logs.ensures.newest c.in_ok-first.ensures.done.is c.in_ok-second.ensures.done.is _ none c.in_ok-pages.ensures.done.are;
      damage = tt;
      reads = reads_fit (omega arith) (reads_on (reads_on one two) three);
      cause = not_err;
    }
