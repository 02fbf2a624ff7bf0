use Rattle.std.proofs.Common.{◌≡◌, ◌≢◌, ◌∙◌, sym, ap}
use Rattle.asm_formats.specs.Status.{Status}
use Rattle.group_engine.proofs.MayGet.{follows_both, follows_one, follows_second, moved_disks, on_true_map}
use Rattle.group_engine.proofs.next_record.follows.Goals as goal

pub returns-then-bits-eq0 : goal.returns-then-bits-eq0
returns-then-bits-eq0 c =
    let v = c.args.value.now in
    let r = c.args.next.now in
    let none : v.next_holders ≡ 0 = sym (ap (λ (x : Status). x.next_holders) c.value.view_is) ∙ sym c.bits.ensures.bits ∙ c.if-bits-eq0.true in
    on_true_map c.are_same_disks.result c.are_same_disks.ensures
    (λ same. follows_one v r none
    (moved_disks c.entries-old.ensures.entries (ap (λ (x : Status). x.holders) c.value.view_is) c.entries-new.ensures.entries (ap (λ (x : Status). x.holders) c.next.view_is) same))

pub returns-then-bits-eq0-2 : goal.returns-then-bits-eq0-2
returns-then-bits-eq0-2 c =
    let v = c.args.value.now in
    let r = c.args.next.now in
    let some : v.next_holders ≢ 0 = λ e. c.if-bits-eq0.false (c.bits.ensures.bits ∙ ap (λ (x : Status). x.next_holders) c.value.view_is ∙ e) in
    let none : r.next_holders ≡ 0 = sym (ap (λ (x : Status). x.next_holders) c.next.view_is) ∙ sym c.bits-2.ensures.bits ∙ c.if-bits-eq0-2.true in
    on_true_map c.are_same_disks-then-bits-eq0-2.result c.are_same_disks-then-bits-eq0-2.ensures
    (λ same. follows_second v r some none
    (moved_disks c.entries-old.ensures.entries (ap (λ (x : Status). x.next_holders) c.value.view_is) c.entries-new.ensures.entries (ap (λ (x : Status). x.holders) c.next.view_is) same))

pub returns-then-are_same_disks : goal.returns-then-are_same_disks
returns-then-are_same_disks c =
    let v = c.args.value.now in
    let r = c.args.next.now in
    let some : v.next_holders ≢ 0 = λ e. c.if-bits-eq0.false (c.bits.ensures.bits ∙ ap (λ (x : Status). x.next_holders) c.value.view_is ∙ e) in
    let too : r.next_holders ≢ 0 = λ e. c.if-bits-eq0-2.false (c.bits-2.ensures.bits ∙ ap (λ (x : Status). x.next_holders) c.next.view_is ∙ e) in
    let first = moved_disks c.entries-old.ensures.entries (ap (λ (x : Status). x.holders) c.value.view_is) c.entries-new.ensures.entries (ap (λ (x : Status). x.holders) c.next.view_is) c.if-are_same_disks.ensures in
    on_true_map c.are_same_disks-then-are_same_disks.result c.are_same_disks-then-are_same_disks.ensures
    (λ same. follows_both v r some too first
    (moved_disks c.entries-old.ensures.entries (ap (λ (x : Status). x.next_holders) c.value.view_is) c.entries-new.ensures.entries (ap (λ (x : Status). x.next_holders) c.next.view_is) same))
