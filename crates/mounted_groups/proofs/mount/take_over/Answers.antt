use Rattle.std.proofs.Common.{rules, ◌∙◌, List, length, true, false, sym, subst, arith}
use Rattle.std.proofs.lemmas.Grind.{common_steps}
use Rattle.std.proofs.lemmas.Result.{err_from_is_err_and}
use Rattle.group_engine.specs.Mounts.{IsOwn, MountedGroup}
use Rattle.status_register.specs.Registered.{AreNumbered}
use Rattle.status_register.specs.declared.member.Member.{Member}
use Rattle.mounted_groups.specs.Bringing.{is_named_in}
use Rattle.mounted_groups.specs.Mounting.{IsMountedBy, not_found}
use Rattle.mounted_groups.proofs.Held.{there_left}
use Rattle.mounted_groups.proofs.LeftMounted.{claim_refused, looks_refused, looks_two, mounts_one, not_read, not_renewed_leaves, reads_two}
use Rattle.mounted_groups.proofs.MountedParts.{parts_mounted, parts_small, parts_whole}
use Rattle.mounted_groups.proofs.Spared.{looks_held}
use Rattle.mounted_groups.proofs.Staying.{stays_keeps, stays_trans}
use Rattle.mounted_groups.proofs.Takeovers.{found_stays, others_cause, parts_inside, quorate_left, quorum_cause, read_numbered, reads_spare, renewed_cause, taken_over, was_named, writes_spare}
use Rattle.mounted_groups.proofs.mount.take_over.Goals as goal

pub quorate-requires : goal.quorate-requires
quorate-requires g c = record {
  there = there_left c.args.held.now (length c.args.paths.now) c.in_ok-searched.searched c.without-found.result (g.B.Bay.state c.find.new.bay) c.without-found.ensures c.in_ok-searched.ensures.slots c.in_ok-searched.ensures.there;
}

pub named_disks-named-requires : goal.named_disks-named-requires
named_disks-named-requires g c =
    subst (λ (l : List Member). AreNumbered l) (sym c.seen.ensures)
    (read_numbered c.args.option c.without-found.result c.in_ok-quorate.quorate (g.B.Bay.state c.quorate.new.bay) c.in_ok-quorate.ensures.answer)

pub mounted_of-requires-clause-small : goal.mounted_of-requires-clause-small
mounted_of-requires-clause-small g c = parts_small c.in_ok-quorate.quorate c.args.now c.in_ok-parts.parts (g.B.Bay.state c.recover.new.bay) c.in_ok-parts.ensures.parts

pub mounted_of-requires-clause-whole : goal.mounted_of-requires-clause-whole
mounted_of-requires-clause-whole g c = parts_whole c.in_ok-quorate.quorate c.args.now c.in_ok-parts.parts (g.B.Bay.state c.recover.new.bay) c.in_ok-parts.ensures.parts

pub returns-in_err-searched : goal.returns-in_err-searched
returns-in_err-searched g c = record {
  attached = found_stays c.find.ensures.stays;
  spares = looks_held c.args.held.now (length c.args.paths.now) c.find.ensures.runs;
  mounted = first_of (search rules, grind (arith, common_steps));
  inside = first_of (search rules, grind (arith, common_steps));
  taken = first_of (search rules, grind (arith, common_steps));
  mounts = first_of (search rules, grind (arith, common_steps));
  cause =
      let p = err_from_is_err_and c.from_residual.result c.from_residual.ensures.1 in
      rw (p.1, p.2) (not_found c.find.ensures.runs c.in_err-searched.ensures.answer);
  leaves = first_of (search rules, grind (arith, common_steps));
  refused =
      let p = err_from_is_err_and c.from_residual.result c.from_residual.ensures.1 in
      rw p.1 (looks_refused c.args.name.now (length c.args.paths.now) c.args.held.now c.args.option g.B.Bay.state (g.B.Bay.state c.args.bay.now) (g.B.Bay.state c.find.new.bay) p.0 c.find.ensures.runs);
}

pub returns-then-not-is_named : goal.returns-then-not-is_named
returns-then-not-is_named g c = record {
  attached = found_stays c.find.ensures.stays;
  spares = looks_held c.args.held.now (length c.args.paths.now) c.find.ensures.runs;
  mounted = first_of (search rules, grind (arith, common_steps));
  inside = first_of (search rules, grind (arith, common_steps));
  taken = first_of (search rules, grind (arith, common_steps));
  mounts = first_of (search rules, grind (arith, common_steps));
  cause =
      let found = c.in_ok-searched.searched in
      let f = c.without-found.result in
      let name = c.args.name.now in
      let n = length c.args.paths.now in
      let held = c.args.held.now in
      let slots = c.in_ok-searched.ensures.slots in
      others_cause name n held c.args.option found f c.without-found.ensures slots g.B.Bay.state (g.B.Bay.state c.args.bay.now) (g.B.Bay.state c.find.new.bay) c.find.ensures.runs c.in_ok-searched.ensures.answer
      (was_named name n held c.args.option found f c.without-found.ensures slots c.is_named.result false c.is_named.ensures c.if-not-is_named.true);
  leaves = first_of (search rules, grind (arith, common_steps));
  refused = c.find.ensures.runs;
}

pub returns-in_err-quorate : goal.returns-in_err-quorate
returns-in_err-quorate g c = record {
  attached = stays_trans (found_stays c.find.ensures.stays) (stays_keeps c.quorate.ensures.attached);
  spares =
      reads_spare c.args.name.now (length c.args.paths.now) c.args.held.now c.args.option c.in_ok-searched.searched c.without-found.result c.without-found.ensures c.in_ok-searched.ensures.slots
      (g.B.Bay.state c.find.new.bay) c.in_ok-searched.ensures.there (looks_held c.args.held.now (length c.args.paths.now) c.find.ensures.runs) c.quorate.ensures.runs;
  mounted = first_of (search rules, grind (arith, common_steps));
  inside = first_of (search rules, grind (arith, common_steps));
  taken = first_of (search rules, grind (arith, common_steps));
  mounts = first_of (search rules, grind (arith, common_steps));
  cause =
      let found = c.in_ok-searched.searched in
      let p = err_from_is_err_and c.from_residual-in_err-quorate.result c.from_residual-in_err-quorate.ensures.1 in
      rw (p.1, p.2) (quorum_cause c.args.name.now (length c.args.paths.now) c.args.held.now c.args.option found c.without-found.result c.without-found.ensures c.in_ok-searched.ensures.slots
      g.B.Bay.state (g.B.Bay.state c.args.bay.now) c.find.new.bay (g.B.Bay.state c.quorate.new.bay) c.in_err-quorate.field-0.0 c.in_ok-searched.ensures.answer c.find.ensures.runs
      (reads_two c.args.name.now (length c.args.paths.now) c.args.held.now c.args.option c.in_ok-searched.searched c.without-found.result c.without-found.ensures c.in_ok-searched.ensures.slots
      g.B.Bay.state (g.B.Bay.state c.args.bay.now) c.find.new.bay c.quorate.new.bay (g.B.Bay.state c.quorate.new.bay) c.in_ok-searched.ensures.there c.find.ensures.runs c.quorate.ensures.runs)
      c.in_err-quorate.ensures.answer);
  leaves =
      let p = err_from_is_err_and c.from_residual-in_err-quorate.result c.from_residual-in_err-quorate.ensures.1 in
      rw p.1 (not_read c.args.name.now (length c.args.paths.now) c.args.held.now c.args.option c.in_ok-searched.searched c.without-found.result c.without-found.ensures c.in_ok-searched.ensures.slots
      g.B.Bay.state (g.B.Bay.state c.args.bay.now) c.find.new.bay c.quorate.new.bay (g.B.Bay.state c.quorate.new.bay) c.in_ok-searched.ensures.there c.find.ensures.runs c.quorate.ensures.runs);
  refused =
      let p = err_from_is_err_and c.from_residual-in_err-quorate.result c.from_residual-in_err-quorate.ensures.1 in
      rw p.1 (looks_refused c.args.name.now (length c.args.paths.now) c.args.held.now c.args.option g.B.Bay.state (g.B.Bay.state c.args.bay.now) (g.B.Bay.state c.quorate.new.bay) p.0
      (looks_two c.args.name.now (length c.args.paths.now) c.args.held.now c.args.option c.in_ok-searched.searched c.without-found.result c.without-found.ensures c.in_ok-searched.ensures.slots
      g.B.Bay.state (g.B.Bay.state c.args.bay.now) c.find.new.bay c.quorate.new.bay (g.B.Bay.state c.quorate.new.bay) c.in_ok-searched.ensures.there c.find.ensures.runs c.quorate.ensures.runs));
}

pub returns-in_err-parts : goal.returns-in_err-parts
returns-in_err-parts g c = record {
  attached = stays_trans (stays_trans (found_stays c.find.ensures.stays) (stays_keeps c.quorate.ensures.attached)) (stays_keeps c.recover.ensures.attached);
  spares =
      let n = length c.args.paths.now in
      let held = c.args.held.now in
      let found = c.in_ok-searched.searched in
      let f = c.without-found.result in
      let u = g.B.Bay.state c.find.new.bay in
      let reads = reads_spare c.args.name.now n held c.args.option found f c.without-found.ensures c.in_ok-searched.ensures.slots u c.in_ok-searched.ensures.there (looks_held held n c.find.ensures.runs) c.quorate.ensures.runs in
      writes_spare c.args.name.now n held c.args.option found f c.without-found.ensures c.in_ok-searched.ensures.slots u c.in_ok-searched.ensures.there c.in_ok-quorate.quorate c.in_ok-quorate.ensures.answer.headed_are
      reads c.recover.ensures.runs;
  mounted = first_of (search rules, grind (arith, common_steps));
  inside = first_of (search rules, grind (arith, common_steps));
  taken = first_of (search rules, grind (arith, common_steps));
  mounts = first_of (search rules, grind (arith, common_steps));
  cause =
      let found = c.in_ok-searched.searched in
      let p = err_from_is_err_and c.from_residual-in_err-parts.result c.from_residual-in_err-parts.ensures.1 in
      rw (p.1, p.2) (renewed_cause c.args.name.now (length c.args.paths.now) c.args.held.now c.args.option found c.without-found.result c.without-found.ensures c.in_ok-searched.ensures.slots
      g.B.Bay.state (g.B.Bay.state c.args.bay.now) c.find.new.bay c.quorate.new.bay c.in_ok-quorate.quorate (g.B.Bay.state c.recover.new.bay) c.in_err-parts.field-0.0
      c.in_ok-searched.ensures.answer c.find.ensures.runs c.in_ok-quorate.ensures.answer
      (reads_two c.args.name.now (length c.args.paths.now) c.args.held.now c.args.option c.in_ok-searched.searched c.without-found.result c.without-found.ensures c.in_ok-searched.ensures.slots
      g.B.Bay.state (g.B.Bay.state c.args.bay.now) c.find.new.bay c.quorate.new.bay (g.B.Bay.state c.recover.new.bay) c.in_ok-searched.ensures.there c.find.ensures.runs c.quorate.ensures.runs)
      c.recover.ensures.runs.faults c.in_err-parts.ensures.cause);
  leaves =
      let p = err_from_is_err_and c.from_residual-in_err-parts.result c.from_residual-in_err-parts.ensures.1 in
      rw p.1 (not_renewed_leaves c.args.name.now (length c.args.paths.now) c.args.held.now c.args.option c.in_ok-searched.searched c.without-found.result c.without-found.ensures c.in_ok-searched.ensures.slots
      g.B.Bay.state (g.B.Bay.state c.args.bay.now) c.find.new.bay c.quorate.new.bay (g.B.Bay.state c.recover.new.bay) c.in_ok-searched.ensures.there c.find.ensures.runs c.quorate.ensures.runs
      c.in_ok-quorate.quorate c.in_ok-searched.ensures.answer c.in_ok-quorate.ensures.answer c.recover.ensures.members c.recover.result c.recover.ensures.leaves);
  refused =
      let p = err_from_is_err_and c.from_residual-in_err-parts.result c.from_residual-in_err-parts.ensures.1 in
      rw (p.1, p.2) (claim_refused c.args.name.now (length c.args.paths.now) c.args.held.now c.args.option g.B.Bay.state (g.B.Bay.state c.args.bay.now) (g.B.Bay.state c.recover.new.bay)
      c.in_ok-quorate.quorate (g.B.Bay.state c.quorate.new.bay) c.in_err-parts.field-0.0 c.in_err-parts.ensures.cause
      (not_renewed_leaves c.args.name.now (length c.args.paths.now) c.args.held.now c.args.option c.in_ok-searched.searched c.without-found.result c.without-found.ensures c.in_ok-searched.ensures.slots
      g.B.Bay.state (g.B.Bay.state c.args.bay.now) c.find.new.bay c.quorate.new.bay (g.B.Bay.state c.recover.new.bay) c.in_ok-searched.ensures.there c.find.ensures.runs c.quorate.ensures.runs
      c.in_ok-quorate.quorate c.in_ok-searched.ensures.answer c.in_ok-quorate.ensures.answer c.recover.ensures.members c.recover.result c.recover.ensures.leaves));
}

pub returns : goal.returns
returns g c = record {
  attached = stays_trans (stays_trans (found_stays c.find.ensures.stays) (stays_keeps c.quorate.ensures.attached)) (stays_keeps c.recover.ensures.attached);
  spares =
      let n = length c.args.paths.now in
      let held = c.args.held.now in
      let found = c.in_ok-searched.searched in
      let f = c.without-found.result in
      let u = g.B.Bay.state c.find.new.bay in
      let reads = reads_spare c.args.name.now n held c.args.option found f c.without-found.ensures c.in_ok-searched.ensures.slots u c.in_ok-searched.ensures.there (looks_held held n c.find.ensures.runs) c.quorate.ensures.runs in
      writes_spare c.args.name.now n held c.args.option found f c.without-found.ensures c.in_ok-searched.ensures.slots u c.in_ok-searched.ensures.there c.in_ok-quorate.quorate c.in_ok-quorate.ensures.answer.headed_are
      reads c.recover.ensures.runs;
  mounted =
      let name = c.args.name.now in
      let n = length c.args.paths.now in
      let held = c.args.held.now in
      let found = c.in_ok-searched.searched in
      let f = c.without-found.result in
      let is = c.without-found.ensures in
      let slots = c.in_ok-searched.ensures.slots in
      let q = c.in_ok-quorate.quorate in
      let m = g.B.Bay.state c.quorate.new.bay in
      let t = g.B.Bay.state c.recover.new.bay in
      subst (λ (k : MountedGroup). IsMountedBy name held k t) (sym c.mounted_of.ensures)
      (parts_mounted q c.args.now c.in_ok-parts.parts t c.in_ok-parts.ensures.parts c.args.option found held m
      (quorate_left name n held c.args.option found f is slots q m c.in_ok-quorate.ensures.answer) name
      (was_named name n held c.args.option found f is slots c.is_named.result true c.is_named.ensures c.if-not-is_named.false));
  inside = λ slot own.
      parts_inside c.args.name.now (length c.args.paths.now) c.args.held.now c.args.option c.in_ok-searched.searched c.without-found.result c.without-found.ensures c.in_ok-searched.ensures.slots
      (g.B.Bay.state c.find.new.bay) c.in_ok-searched.ensures.there c.in_ok-quorate.quorate c.in_ok-quorate.ensures.answer.headed_are c.args.now c.in_ok-parts.parts
      (g.B.Bay.state c.recover.new.bay) c.in_ok-parts.ensures.parts slot (subst (λ (k : MountedGroup). IsOwn k slot) c.mounted_of.ensures own);
  taken =
      let q = c.in_ok-quorate.quorate in
      taken_over c.args.name.now (length c.args.paths.now) c.args.held.now c.args.option c.in_ok-searched.searched c.without-found.result c.without-found.ensures c.in_ok-searched.ensures.slots
      g.B.Bay.state (g.B.Bay.state c.args.bay.now) c.find.new.bay c.quorate.new.bay q c.args.now c.in_ok-parts.parts c.mounted_of.result c.named_disks-named.result (g.B.Bay.state c.recover.new.bay)
      c.in_ok-searched.ensures.answer c.find.ensures.runs c.in_ok-quorate.ensures.answer c.in_ok-parts.ensures.parts c.mounted_of.ensures
      (λ d lt. c.named_disks-named.ensures d lt ∙ (λ i. is_named_in (c.value.ensures i) (c.seen.ensures i) d));
  mounts =
      mounts_one c.args.name.now (length c.args.paths.now) c.args.held.now c.args.option c.in_ok-searched.searched c.without-found.result c.without-found.ensures c.in_ok-searched.ensures.slots
      g.B.Bay.state (g.B.Bay.state c.args.bay.now) c.find.new.bay c.quorate.new.bay (g.B.Bay.state c.recover.new.bay) c.in_ok-searched.ensures.there c.find.ensures.runs c.quorate.ensures.runs
      c.in_ok-quorate.quorate c.in_ok-searched.ensures.answer c.in_ok-quorate.ensures.answer c.args.now c.in_ok-parts.parts c.in_ok-parts.ensures.parts
      c.recover.ensures.members c.in_ok-parts.ensures.leaves (g.met.B.Bay.sound c.quorate.new.bay) (g.met.B.Bay.sound c.recover.new.bay) c.mounted_of.result c.mounted_of.ensures;
  cause = first_of (search rules, grind (arith, common_steps));
  leaves = first_of (search rules, grind (arith, common_steps));
  refused = first_of (search rules, grind (arith, common_steps));
}
