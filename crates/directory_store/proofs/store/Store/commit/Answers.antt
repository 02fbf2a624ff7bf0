use Rattle.std.proofs.Common.{rules, ◌≡◌, ◌∙◌, ◌<◌, ◌+◌, ◌-◌, ◌^◌, List, [], length, refl, sym, ap, subst, true, vec_len, arith}
use Rattle.std.proofs.lemmas.Bool.{eqb-true}
use Rattle.asm_formats.specs.Among.{IsAmong}
use Rattle.change_directory.specs.declared.copy.DirCopy.{DirCopy}
use Rattle.directory_store.specs.Stores.{Stored, Keeps, others}
use Rattle.directory_store.proofs.Steps.{empty_list}
use Rattle.directory_store.proofs.Rows.{first_among, some_of}
use Rattle.directory_store.proofs.Storing.{kept_have_records, may_put_are, may_put_on, refused_unchanged, unchanged_keeps, unchanged_moments, whole_commit}
use Rattle.directory_store.proofs.store.Store.commit.Goals as goal

pub returns-then-is_empty : goal.returns-then-is_empty
returns-then-is_empty g c = refused_unchanged c.args.self.now c.args.change.now.put c.args.change.now.gone (g.B.Bay.state c.args.bay.now) c.requires.kept

pub returns-in_err-pages : goal.returns-in_err-pages
returns-in_err-pages g c =
    let s = g.B.Bay.state c.args.bay.now in
    let new : Stored = record { table = c.change_map.new.map; number = c.self.inside.number; copies = c.self.inside.copies.items; due = c.self.inside.due.items; read = c.self.inside.read; settled = c.self.inside.is_settled } in
    let kept : Keeps new s = unchanged_keeps _ c.change_map.new.map s (subst (λ (o : Stored). Keeps o s) (sym c.self.view_is) c.requires.kept) c.in_err-pages.ensures.same c.change_map.ensures.table in
    record {
      after = search rules;
      after_gone = search rules;
      copies = search rules;
      some = search rules;
      full = search rules;
      fits = search rules;
      refused = search rules;
      failed = search rules;
      moments = unchanged_moments c.args.self.now new s c.requires.kept;
      kept = kept;
      done = kept_have_records new s kept;
      attached = search rules;
      calls = omega arith;
      written = λ copy among. omega arith;
      runs = search rules;
    }

pub commit_all-failed-requires-clause-put : goal.commit_all-failed-requires-clause-put
commit_all-failed-requires-clause-put g c =
    let next = c.self.inside.number + 1 in
    let less : c.self.inside.number < next = omega arith in
    let small : next < 2 ^ 64 - 1 = omega (arith, c.if-self-ge-LAST_NUMBER.false) in
    may_put_are c.self.inside.copies.items c.deref.result.now next c.in_ok-pages.pages.items c.deref-3.result.now c.deref.ensures.value c.deref-3.ensures.value
    (may_put_on c.args.self.now _ c.change_map.new.map c.args.change.now.put c.args.change.now.gone c.in_ok-pages.pages.items (g.B.Bay.state c.args.bay.now) next
    c.self.view_is c.requires.kept c.in_ok-pages.ensures.applies c.change_map.ensures.table c.requires.items c.requires.few less small)

pub returns-then-is_empty-2 : goal.returns-then-is_empty-2
returns-then-is_empty-2 g c =
    let left = whole_commit c.self.view_is c.requires.kept c.in_ok-pages.ensures.applies c.change_map.ensures.table c.requires.items c.requires.few (omega (arith, c.if-self-ge-LAST_NUMBER.false))
    c.deref.ensures.value c.deref-2.ensures.value c.deref-3.ensures.value c.commit_all-failed.ensures c.keep_taken.ensures c.new.ensures.items in
    let none : c.keep_taken.new.copies.items ≡ [] = empty_list c.keep_taken.new.copies.items (omega (arith, c.keep_taken.new.copies.ok.0, eqb-true (vec_len c.keep_taken.new.copies) 0 (sym c.is_empty-2.ensures ∙ c.if-is_empty-2.true))) in
    let copies_is : c.self.inside.copies.items ≡ c.args.self.now.copies = ap (λ (o : Stored). o.copies) c.self.view_is in
    let first = c.index.result.now in
    let among : IsAmong c.self.inside.copies.items first = subst (λ (d : DirCopy). IsAmong c.self.inside.copies.items d) (sym c.index.ensures) (first_among c.self.inside.copies.items first (omega (arith, c.self.inside.copies.ok.0, some_of (vec_len c.self.inside.copies) (sym c.is_empty.ensures ∙ c.if-is_empty.false)))) in
    record {
      after = tt;
      after_gone = record { records = search rules; number = search rules };
      copies = tt;
      some = tt;
      full = tt;
      fits = tt;
      refused = ((first, subst (λ (l : List DirCopy). IsAmong l first) copies_is among, refl), left.gone (subst (λ (l : List DirCopy). others c.commit_all-failed.result l ≡ []) copies_is (sym c.keep_taken.ensures ∙ none)), none);
      failed = tt;
      moments = left.moments;
      kept = left.keeps;
      done = left.done;
      attached = left.attached;
      calls = left.calls;
      written = left.written;
      runs = left.runs;
    }

pub returns : goal.returns
returns g c =
    let left = whole_commit c.self.view_is c.requires.kept c.in_ok-pages.ensures.applies c.change_map.ensures.table c.requires.items c.requires.few (omega (arith, c.if-self-ge-LAST_NUMBER.false))
    c.deref.ensures.value c.deref-2.ensures.value c.deref-3.ensures.value c.commit_all-failed.ensures c.keep_taken.ensures c.new.ensures.items in
    record {
      after = record { records = search rules; number = search rules };
      after_gone = tt;
      copies = search rules;
      some = omega (arith, c.keep_taken.new.copies.ok.0, some_of (vec_len c.keep_taken.new.copies) (sym c.is_empty-2.ensures ∙ c.if-is_empty-2.false));
      full = tt;
      fits = search rules;
      refused = tt;
      failed = left.alone;
      moments = left.moments;
      kept = left.keeps;
      done = left.done;
      attached = left.attached;
      calls = left.calls;
      written = left.written;
      runs = left.runs;
    }
