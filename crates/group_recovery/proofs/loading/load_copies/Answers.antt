use Rattle.std.proofs.Common.{◌∙◌, [], List, inl, sym, subst}
use Rattle.bay.proofs.Calls.{on_more}
use Rattle.directory_store.specs.change_directory.declared.copy.DirCopy.{DirCopy}
use Rattle.directory_store.specs.Copies.{AreCopiesApart, AreNamedCopies, IsSlotOfCopy}
use Rattle.directory_store.specs.Loading.{AreDurable as AreSettled, LoadCause}
use Rattle.directory_store.specs.Reading.{ArePartOf}
use Rattle.directory_store.specs.Stores.{HaveOneSize}
use Rattle.group_recovery.specs.NamedCopies.{named_copies}
use Rattle.group_recovery.proofs.CopyLoads.{copies_apart, copies_in, copies_named, one_size}
use Rattle.group_recovery.proofs.loading.load_copies.Goals as goal

pub load-requires-clause-named : goal.load-requires-clause-named
load-requires-clause-named g c =
    let s = c.args.survey.now in
    let same = c.deref.ensures.value ∙ c.in_ok-copies.ensures ∙ (λ i. named_copies c.args.id (c.seen.ensures i) (c.value.ensures i) c.args.headed.now) in
    subst (λ (l : List DirCopy). AreNamedCopies l [] (g.B.Bay.state c.args.bay.now)) (sym same) (copies_named c.args.id s.read s.value c.args.slots c.args.headed.now (g.B.Bay.state c.args.bay.now) c.requires.there)

pub load-requires-clause-apart : goal.load-requires-clause-apart
load-requires-clause-apart g c =
    let s = c.args.survey.now in
    let same = c.deref.ensures.value ∙ c.in_ok-copies.ensures ∙ (λ i. named_copies c.args.id (c.seen.ensures i) (c.value.ensures i) c.args.headed.now) in
    subst (λ (l : List DirCopy). AreCopiesApart l) (sym same) (copies_apart c.args.id s.read s.value c.args.headed.now c.requires.there.apart c.requires.alike)

pub load-requires-clause-size : goal.load-requires-clause-size
load-requires-clause-size g c =
    let s = c.args.survey.now in
    let same = c.deref.ensures.value ∙ c.in_ok-copies.ensures ∙ (λ i. named_copies c.args.id (c.seen.ensures i) (c.value.ensures i) c.args.headed.now) in
    subst (λ (l : List DirCopy). HaveOneSize l) (sym same) (one_size c.args.id s.read s.value c.args.headed.now c.requires.alike)

pub returns-in-Ok-clause-copies : goal.returns-in-Ok-clause-copies
returns-in-Ok-clause-copies g c =
    let same = c.deref.ensures.value ∙ c.in_ok-copies.ensures ∙ (λ i. named_copies c.args.id (c.seen.ensures i) (c.value.ensures i) c.args.headed.now) in
    subst (λ (l : List DirCopy). ArePartOf c.in-Ok.store.copies l) same c.in-Ok.ensures.copies

pub returns-in-Ok-clause-kept : goal.returns-in-Ok-clause-kept
returns-in-Ok-clause-kept g c =
    let same = c.deref.ensures.value ∙ c.in_ok-copies.ensures ∙ (λ i. named_copies c.args.id (c.seen.ensures i) (c.value.ensures i) c.args.headed.now) in
    λ settled. c.in-Ok.ensures.kept (subst (λ (l : List DirCopy). AreSettled l (g.B.Bay.state c.args.bay.now)) (sym same) settled)

pub returns-in-Ok-clause-runs : goal.returns-in-Ok-clause-runs
returns-in-Ok-clause-runs g c =
    let s = c.args.survey.now in
    let same = c.deref.ensures.value ∙ c.in_ok-copies.ensures ∙ (λ i. named_copies c.args.id (c.seen.ensures i) (c.value.ensures i) c.args.headed.now) in
    on_more (λ slot of. copies_in c.args.id s.read s.value c.args.headed.now slot (subst (λ (l : List DirCopy). IsSlotOfCopy l slot) same of)) c.load.ensures.calls.runs

pub returns-clause-cause : goal.returns-clause-cause
returns-clause-cause g c =
    let s = g.B.Bay.state c.args.bay.now in
    let t = g.B.Bay.state c.load.new.bay in
    let same = c.deref.ensures.value ∙ c.in_ok-copies.ensures ∙ (λ i. named_copies c.args.id (c.seen.ensures i) (c.value.ensures i) c.args.headed.now) in
    inl (c.in-Err.error, c.refusal_of_load.ensures, subst (λ (l : List DirCopy). LoadCause l s t c.in-Err.error) same c.in-Err.ensures.cause)

pub returns-clause-runs : goal.returns-clause-runs
returns-clause-runs g c =
    let s = c.args.survey.now in
    let same = c.deref.ensures.value ∙ c.in_ok-copies.ensures ∙ (λ i. named_copies c.args.id (c.seen.ensures i) (c.value.ensures i) c.args.headed.now) in
    on_more (λ slot of. copies_in c.args.id s.read s.value c.args.headed.now slot (subst (λ (l : List DirCopy). IsSlotOfCopy l slot) same of)) c.load.ensures.calls.runs
