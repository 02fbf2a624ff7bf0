use Rattle.std.proofs.Common.{◌≡◌, refl, sym, subst, ◌∙◌, inl, inr}
use Rattle.std.specs.Prelude.{codes}
use Rattle.std.specs.Option.{option_map}
use Rattle.asm_grammar.specs.Reads.{Gives}
use Rattle.asm_world.specs.Grammar.{◌▸◌, ◌∣◌}
use Rattle.asm_world.specs.Verbs as g
use Rattle.asm_world.specs.VerbMeaning.{of_files}
use Rattle.asmcmd.specs.Rows.{create_rest, write_rest, fill_rest, read_rest, resize_verb_rest}
use Rattle.asmcmd.specs.Verbs.{meant_verb}
use Rattle.asmcmd.proofs.Choices.{taken, taken_last, passed, passed_last}
use Rattle.asmcmd.proofs.files.file_verb.Goals as goal

pub returns-then-creates : goal.returns-then-creates
returns-then-creates c =
    let t = taken (codes "dbcreate") create_rest (g.db_write ∣ g.db_fill ∣ g.db_read ∣ g.db_resize) of_files c.args.place.rest.now c.try_exact-creates.result.1.rest.now c.args.place.left c.try_exact-creates.result.1.left (rw c.if-creates.true at c.try_exact-creates.ensures) in
    subst (λ o. Gives (λ v. option_map meant_verb v) c.present.result o) (sym (t)) (c.present.ensures _ c.create.ensures)

pub returns-then-writes : goal.returns-then-writes
returns-then-writes c =
    let p1 = passed (codes "dbcreate") g.db_create (g.db_write ∣ g.db_fill ∣ g.db_read ∣ g.db_resize) of_files c.args.place.rest.now c.try_exact-creates.result.1.rest.now c.args.place.left c.try_exact-creates.result.1.left refl (rw c.if-creates.false at c.try_exact-creates.ensures) in
    let t = taken (codes "dbwrite") write_rest (g.db_fill ∣ g.db_read ∣ g.db_resize) (λ u. of_files (inr u)) c.try_exact-creates.result.1.rest.now c.try_exact-writes.result.1.rest.now c.try_exact-creates.result.1.left c.try_exact-writes.result.1.left (rw c.if-writes.true at c.try_exact-writes.ensures) in
    subst (λ o. Gives (λ v. option_map meant_verb v) c.present-then-writes.result o) (sym (p1 ∙ t)) (c.present-then-writes.ensures _ c.write.ensures)

pub returns-then-fills : goal.returns-then-fills
returns-then-fills c =
    let p1 = passed (codes "dbcreate") g.db_create (g.db_write ∣ g.db_fill ∣ g.db_read ∣ g.db_resize) of_files c.args.place.rest.now c.try_exact-creates.result.1.rest.now c.args.place.left c.try_exact-creates.result.1.left refl (rw c.if-creates.false at c.try_exact-creates.ensures) in
    let p2 = passed (codes "dbwrite") g.db_write (g.db_fill ∣ g.db_read ∣ g.db_resize) (λ u. of_files (inr u)) c.try_exact-creates.result.1.rest.now c.try_exact-writes.result.1.rest.now c.try_exact-creates.result.1.left c.try_exact-writes.result.1.left refl (rw c.if-writes.false at c.try_exact-writes.ensures) in
    let t = taken (codes "dbfill") fill_rest (g.db_read ∣ g.db_resize) (λ u. of_files (inr (inr u))) c.try_exact-writes.result.1.rest.now c.try_exact-fills.result.1.rest.now c.try_exact-writes.result.1.left c.try_exact-fills.result.1.left (rw c.if-fills.true at c.try_exact-fills.ensures) in
    subst (λ o. Gives (λ v. option_map meant_verb v) c.present-then-fills.result o) (sym (p1 ∙ p2 ∙ t)) (c.present-then-fills.ensures _ c.fill.ensures)

pub returns-then-reads : goal.returns-then-reads
returns-then-reads c =
    let p1 = passed (codes "dbcreate") g.db_create (g.db_write ∣ g.db_fill ∣ g.db_read ∣ g.db_resize) of_files c.args.place.rest.now c.try_exact-creates.result.1.rest.now c.args.place.left c.try_exact-creates.result.1.left refl (rw c.if-creates.false at c.try_exact-creates.ensures) in
    let p2 = passed (codes "dbwrite") g.db_write (g.db_fill ∣ g.db_read ∣ g.db_resize) (λ u. of_files (inr u)) c.try_exact-creates.result.1.rest.now c.try_exact-writes.result.1.rest.now c.try_exact-creates.result.1.left c.try_exact-writes.result.1.left refl (rw c.if-writes.false at c.try_exact-writes.ensures) in
    let p3 = passed (codes "dbfill") g.db_fill (g.db_read ∣ g.db_resize) (λ u. of_files (inr (inr u))) c.try_exact-writes.result.1.rest.now c.try_exact-fills.result.1.rest.now c.try_exact-writes.result.1.left c.try_exact-fills.result.1.left refl (rw c.if-fills.false at c.try_exact-fills.ensures) in
    let t = taken (codes "dbread") read_rest (g.db_resize) (λ u. of_files (inr (inr (inr u)))) c.try_exact-fills.result.1.rest.now c.try_exact-reads.result.1.rest.now c.try_exact-fills.result.1.left c.try_exact-reads.result.1.left (rw c.if-reads.true at c.try_exact-reads.ensures) in
    subst (λ o. Gives (λ v. option_map meant_verb v) c.present-then-reads.result o) (sym (p1 ∙ p2 ∙ p3 ∙ t)) (c.present-then-reads.ensures _ c.read.ensures)

pub returns-then-resizes : goal.returns-then-resizes
returns-then-resizes c =
    let p1 = passed (codes "dbcreate") g.db_create (g.db_write ∣ g.db_fill ∣ g.db_read ∣ g.db_resize) of_files c.args.place.rest.now c.try_exact-creates.result.1.rest.now c.args.place.left c.try_exact-creates.result.1.left refl (rw c.if-creates.false at c.try_exact-creates.ensures) in
    let p2 = passed (codes "dbwrite") g.db_write (g.db_fill ∣ g.db_read ∣ g.db_resize) (λ u. of_files (inr u)) c.try_exact-creates.result.1.rest.now c.try_exact-writes.result.1.rest.now c.try_exact-creates.result.1.left c.try_exact-writes.result.1.left refl (rw c.if-writes.false at c.try_exact-writes.ensures) in
    let p3 = passed (codes "dbfill") g.db_fill (g.db_read ∣ g.db_resize) (λ u. of_files (inr (inr u))) c.try_exact-writes.result.1.rest.now c.try_exact-fills.result.1.rest.now c.try_exact-writes.result.1.left c.try_exact-fills.result.1.left refl (rw c.if-fills.false at c.try_exact-fills.ensures) in
    let p4 = passed (codes "dbread") g.db_read (g.db_resize) (λ u. of_files (inr (inr (inr u)))) c.try_exact-fills.result.1.rest.now c.try_exact-reads.result.1.rest.now c.try_exact-fills.result.1.left c.try_exact-reads.result.1.left refl (rw c.if-reads.false at c.try_exact-reads.ensures) in
    let t = taken_last (codes "dbresize") resize_verb_rest (λ u. of_files (inr (inr (inr (inr u))))) c.try_exact-reads.result.1.rest.now c.try_exact-resizes.result.1.rest.now c.try_exact-reads.result.1.left c.try_exact-resizes.result.1.left (rw c.if-resizes.true at c.try_exact-resizes.ensures) in
    subst (λ o. Gives (λ v. option_map meant_verb v) c.present-then-resizes.result o) (sym (p1 ∙ p2 ∙ p3 ∙ p4 ∙ t)) (c.present-then-resizes.ensures _ c.resize.ensures)

pub returns : goal.returns
returns c =
    let p1 = passed (codes "dbcreate") g.db_create (g.db_write ∣ g.db_fill ∣ g.db_read ∣ g.db_resize) of_files c.args.place.rest.now c.try_exact-creates.result.1.rest.now c.args.place.left c.try_exact-creates.result.1.left refl (rw c.if-creates.false at c.try_exact-creates.ensures) in
    let p2 = passed (codes "dbwrite") g.db_write (g.db_fill ∣ g.db_read ∣ g.db_resize) (λ u. of_files (inr u)) c.try_exact-creates.result.1.rest.now c.try_exact-writes.result.1.rest.now c.try_exact-creates.result.1.left c.try_exact-writes.result.1.left refl (rw c.if-writes.false at c.try_exact-writes.ensures) in
    let p3 = passed (codes "dbfill") g.db_fill (g.db_read ∣ g.db_resize) (λ u. of_files (inr (inr u))) c.try_exact-writes.result.1.rest.now c.try_exact-fills.result.1.rest.now c.try_exact-writes.result.1.left c.try_exact-fills.result.1.left refl (rw c.if-fills.false at c.try_exact-fills.ensures) in
    let p4 = passed (codes "dbread") g.db_read (g.db_resize) (λ u. of_files (inr (inr (inr u)))) c.try_exact-fills.result.1.rest.now c.try_exact-reads.result.1.rest.now c.try_exact-fills.result.1.left c.try_exact-reads.result.1.left refl (rw c.if-reads.false at c.try_exact-reads.ensures) in
    let p5 = passed_last (codes "dbresize") resize_verb_rest (λ u. of_files (inr (inr (inr (inr u))))) c.try_exact-reads.result.1.rest.now c.try_exact-resizes.result.1.rest.now c.try_exact-reads.result.1.left c.try_exact-resizes.result.1.left (rw c.if-resizes.false at c.try_exact-resizes.ensures) in
    p1 ∙ p2 ∙ p3 ∙ p4 ∙ p5
