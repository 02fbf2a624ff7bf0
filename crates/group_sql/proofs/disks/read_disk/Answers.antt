use Rattle.std.proofs.Common.{◌≡◌, refl}
use Rattle.std.proofs.lemmas.Result.{err_from_is_err_and}
use Rattle.asm_grammar.specs.Reading.{parse, Failed, mapped}
use Rattle.asm_grammar.proofs.Outcomes.{mapped_took}
use Rattle.asm_world.specs.Grammar as g
use Rattle.asm_world.specs.Meaning.{behind, new_disk_of, is_said}
use Rattle.group_sql.specs.Choices.{forced_at, size_at}
use Rattle.asm_grammar.specs.Reads.{reads}
use Rattle.group_sql.specs.Rows.{maybe_name, maybe_size}
use Rattle.group_sql.proofs.Steps.{refuses_by, failed_under}
use Rattle.group_sql.proofs.disks.read_disk.Goals as goal

pub returns-in_err-size : goal.returns-in_err-size
unfolding size_at
returns-in_err-size c =
    let p = c.read_text.new.place in
    let q = c.named.new.place in
    let e = err_from_is_err_and c.from_residual-in_err-size.result c.from_residual-in_err-size.ensures.1 in
    let n = mapped_took behind (parse maybe_name p.rest.now p.left) c.in_ok-name.name q.rest.now q.left c.in_ok-name.ensures in
    rw (e.1, e.2) (refuses_by c.in_err-size.field-0.0 (reads maybe_size behind q) (reads g.disk new_disk_of c.args.place.now)
    (λ l h. rw (c.in_ok-path.ensures, n.was, failed_under behind (parse maybe_size q.rest.now q.left) l h) refl) c.in_err-size.ensures)

pub returns : goal.returns
unfolding forced_at size_at
returns c =
    let p = c.read_text.new.place in
    let q = c.named.new.place in
    let r = c.sized.new.place in
    let s = c.is_forced-force.new.place in
    let n = mapped_took behind (parse maybe_name p.rest.now p.left) c.in_ok-name.name q.rest.now q.left c.in_ok-name.ensures in
    let z = mapped_took behind (parse maybe_size q.rest.now q.left) c.in_ok-size.size r.rest.now r.left c.in_ok-size.ensures in
    let f = mapped_took is_said (parse g.forced r.rest.now r.left) c.is_forced-force.result s.rest.now s.left c.is_forced-force.ensures in
    rw (c.in_ok-path.ensures, n.was, z.was, f.was, n.gives, z.gives, f.gives) refl
