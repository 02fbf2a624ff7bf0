-- What a usable copy has agrees with each known cell.
use Rattle.std.proofs.Common.{◌≡◌, inl, ℕ, ◌+◌, ◌-◌, ◌*◌, ◌<◌, true, false, not, refl, sym, ap, subst, ◌∙◌, Option, Some, arith, IsTrue}
use Rattle.std.proofs.lemmas.Bool.{and_from, eq-eqb}
use Rattle.bay.proofs.Images.{get_or-window}
use Rattle.asm_placement.specs.Modes.{is_forced}
use Rattle.asm_formats.specs.Header.{Header}
use Rattle.asm_formats.specs.Status.{Status, Entry, entry_of}
use Rattle.asm_images.specs.Members.{byte}
use Rattle.asm_images.specs.Copies.{IsCurrent, is_kept, is_disk_in}
use Rattle.asm_images.specs.Bridge.{disks_in}
use Rattle.piece_laws.specs.Targets.{start_of}
use Rattle.piece_laws.specs.PieceLaws.{ReadingAgrees, FewerCurrentHold}
use Rattle.piece_laws.proofs.Kept.{open_of, told, has_member}
use Rattle.piece_laws.proofs.Settling.{listed_byte}

entered_kept : (r : Status) (d : ℕ) (header : Header) (e : Entry) → entry_of r.entries d ≡ Some e → is_forced e.mode ≡ false → header.number ≡ d → header.birth ≡ e.birth → IsTrue (is_kept r d header)
unfolding is_kept
entered_kept r d header e is mode number birth =
    subst (λ (o : Option Entry). is_disk_in (λ m. not (is_forced m)) d header o ≡ true) (sym is)
    (and_from _ _ (ap not mode) (and_from _ _ (eq-eqb header.number d number) (eq-eqb header.birth e.birth birth)))

pub reading_agrees : ReadingAgrees
reading_agrees = λ n id g kept x homes marks t image is fits are fresh entered inside file o b inner is_file cell lies low high.
    let open_ = open_of n id g kept image is in
    let on = are.on t (inl refl) in
    let m = has_member id n t.slot image on.header on.inside on.found on.id_is in
    let tells = told id (disks_in n image) g (Some kept.completed) kept.begun (is.sound n) open_.status open_.items open_.is_open in
    let e = entered open_.status open_.is_open.counts in
    let current : IsCurrent open_.status open_.items x.file x.index t.copy t.home m.member = record {
      home = are.says.home n t.copy open_.status open_.items open_.is_open ∙ are.home t (inl refl);
      kept = subst (λ (h : Header). IsTrue (is_kept open_.status t.home.disk h)) (sym m.header) (entered_kept open_.status t.home.disk on.header e.0 e.1 e.3 on.number (on.birth ∙ sym e.2));
      fresh = are.says.stale n t.copy open_.status open_.items open_.is_open ∙ fresh;
    } in
    let place : t.home.unit * g.shape.au + inner ≡ start_of g.shape x t + (inner - x.from) = omega arith in
    let lt : inner - x.from < x.len = omega arith in
    get_or-window (image.byte t.slot) (start_of g.shape x t) x.len (inner - x.from) lt
    ∙ sym (listed_byte n t.slot (start_of g.shape x t + (inner - x.from)) image on.inside (omega (arith, inside, lt)))
    ∙ ap (λ (k : ℕ). byte (disks_in n image) t.slot k) (sym place)
    ∙ ap (λ (k : ℕ). byte (disks_in n image) k (t.home.unit * g.shape.au + inner)) (sym m.slot_is)
    ∙ tells.bytes x.file o b x.index inner t.copy file t.home m.member is_file cell lies m.among current

pub fewer_current_hold : FewerCurrentHold
fewer_current_hold = λ image ms r items more g homes stale holds f o b i inner copy file h m is_file cell lies is_member current.
    holds f o b i inner copy file h m is_file cell lies is_member (record { home = sym (homes f i copy) ∙ current.home; kept = current.kept; fresh = stale f i copy current.fresh })
