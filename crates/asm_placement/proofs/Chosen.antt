-- What is known of the disk that takes a copy.
use Rattle.std.proofs.Common.{◌≡◌, inl, inr, ℕ, zero, suc, ◌+◌, ◌≤◌, Bool, true, false, not, ◌&&◌, List, [], ◌∷◌, filter, get_or, refl, sym, ap, ◌∙◌, Option, Some, None, arith, ◌==◌, leb}
use Rattle.std.specs.List.{list_all}
use Rattle.std.specs.Prelude.{if◌then◌else◌}
use Rattle.std.proofs.lemmas.Bool.{cond_both, and_parts, not-true, eq-eqb, ne_eqb, eqb-true, leb-true, or_left, or_right}
use Rattle.std.proofs.lemmas.Option.{same_Some, none-some}
use Rattle.asm_formats.specs.asm_group.Shape.{Shape}
use Rattle.asm_formats.specs.Status.{Entry, entry_of, ascends_from}
use Rattle.asm_formats.specs.Items.{Item, Home, Homes}
use Rattle.asm_formats.specs.Among.{IsAmong}
use Rattle.asm_placement.specs.Modes.{is_target}
use Rattle.asm_placement.specs.DiskSets.{numbers}
use Rattle.asm_placement.specs.Space.{lowest_run, has_room, is_tried_before, earlier, tried_first}
use Rattle.asm_placement.specs.Choices.{home_on, staying_disk, kept_from, kept_disks, holds_copy, is_partner_of_first, is_eligible, replacement_on}
use Rattle.asm_placement.proofs.Membership.{among_filter, filter_out}
use Rattle.asm_placement.proofs.Counting.{mapped, followed}

pub tried_among : (s : Shape) (items : List Item) (es : List Entry) (e : Entry) → tried_first s items es ≡ Some e → IsAmong es e
unfolding tried_first
tried_among s items [] e k = absurd (none-some e k)
tried_among s items (f ∷ es) e k = by (tried_among s items es) (tried_first s items es) refl k
  where
    by : ((x : Entry) → tried_first s items es ≡ Some x → IsAmong es x) → (o : Option Entry) → tried_first s items es ≡ o → earlier s items f o ≡ Some e → IsAmong (f ∷ es) e
    by later None is k = inl (sym (same_Some f e k))
    by later (Some best) is k = cond_both (is_tried_before s items best f) (Some best) (Some f) (λ (o : Option Entry). o ≡ Some e → IsAmong (f ∷ es) e)
        (λ yes k. inr (later e (is ∙ k))) (λ no k. inl (sym (same_Some f e k))) k

pub record IsChoice (es : List Entry) (replaced : ℕ) (homes : Homes) (test : Entry → Bool) (h : Home) : Type 0 where
  pub disk : Entry
  pub among : IsAmong es disk
  pub target : is_target disk ≡ true
  pub new : holds_copy homes disk.number ≡ false
  pub apart : list_all (λ (k : Entry). not (k.failgroup == disk.failgroup)) (kept_disks es replaced homes) ≡ true
  pub passes : test disk ≡ true
  pub is : h.disk ≡ disk.number

pub choice : (test : Entry → Bool) (s : Shape) (es : List Entry) (items : List Item) (n replaced : ℕ) (homes : Homes) (h : Home) → replacement_on test s es items n replaced homes ≡ Some h → IsChoice es replaced homes test h
unfolding is_eligible
choice test s es items n replaced homes h e =
    let good = λ (e : Entry). is_eligible es replaced homes e && has_room s items n e && test e in
    let first = followed (home_on s items n) (tried_first s items (filter good es)) h e in
    let d : Entry = first.0 in
    let among : IsAmong (filter good es) d = tried_among s items (filter good es) d first.1 in
    let passed : good d ≡ true = filter_out good es d among in
    let a = and_parts (is_eligible es replaced homes d && has_room s items n d) (test d) passed in
    let b = and_parts (is_eligible es replaced homes d) (has_room s items n d) a.0 in
    let all = list_all (λ (k : Entry). not (k.failgroup == d.failgroup)) (kept_disks es replaced homes) in
    let c = and_parts (is_target d && not (holds_copy homes d.number) && all) (is_partner_of_first (kept_disks es replaced homes) d) b.0 in
    let f = and_parts (is_target d && not (holds_copy homes d.number)) all c.0 in
    let g = and_parts (is_target d) (not (holds_copy homes d.number)) f.0 in
    let home = mapped (λ (u : ℕ). record { disk = d.number; unit = u }) (lowest_run s items n d) h first.2 in
    record {
      disk = d;
      among = among_filter good es d among;
      target = g.0;
      new = not-true (holds_copy homes d.number) g.1;
      apart = f.1;
      passes = a.1;
      is = sym (ap (λ (x : Home). x.disk) home.2);
    }

-- ---- entries by number

pub number_from : (least : ℕ) (es : List Entry) (e : Entry) → ascends_from least (numbers es) ≡ true → IsAmong es e → least ≤ e.number
number_from least [] e up h = absurd h
number_from least (f ∷ es) e up (inl same) =
    let parts = and_parts (leb least f.number) (ascends_from (f.number + 1) (numbers es)) up in
    omega (arith, leb-true least f.number parts.0, ap (λ (x : Entry). x.number) same)
number_from least (f ∷ es) e up (inr h) =
    let parts = and_parts (leb least f.number) (ascends_from (f.number + 1) (numbers es)) up in
    omega (arith, leb-true least f.number parts.0, number_from (f.number + 1) es e parts.1 h)

pub entry_found : (least : ℕ) (es : List Entry) (e : Entry) → ascends_from least (numbers es) ≡ true → IsAmong es e → entry_of es e.number ≡ Some e
unfolding entry_of
entry_found least [] e up h = absurd h
entry_found least (f ∷ es) e up (inl same) = rw (eq-eqb f.number e.number (ap (λ (x : Entry). x.number) (sym same))) (ap (λ (x : Entry). Some x) (sym same))
entry_found least (f ∷ es) e up (inr h) =
    let parts = and_parts (leb least f.number) (ascends_from (f.number + 1) (numbers es)) up in
    let past = number_from (f.number + 1) es e parts.1 h in
    rw (ne_eqb f.number e.number (omega arith)) (entry_found (f.number + 1) es e parts.1 h)

pub entry_among : (es : List Entry) (d : ℕ) (e : Entry) → entry_of es d ≡ Some e → IsAmong es e × (e.number ≡ d)
unfolding entry_of
entry_among [] d e k = absurd (none-some e k)
entry_among (f ∷ es) d e k = by (entry_among es d e) (f.number == d) refl k
  where
    by : (entry_of es d ≡ Some e → IsAmong es e × (e.number ≡ d)) → (b : Bool) → (f.number == d) ≡ b → (if b then Some f else entry_of es d) ≡ Some e → IsAmong (f ∷ es) e × (e.number ≡ d)
    by later true is k = let same = same_Some f e k in (inl (sym same), ap (λ (x : Entry). x.number) (sym same) ∙ eqb-true f.number d is)
    by later false is k = let p = later k in (inr p.0, p.1)

-- ---- kept disks

pub kept_among : (es : List Entry) (replaced c j : ℕ) (hs : Homes) (e : Entry) → (c + j ≡ replaced → ⊥) → staying_disk es (get_or hs j None) ≡ Some e → IsAmong (kept_from es replaced c hs) e
kept_among es replaced c j [] e other is = absurd (none-some e is)
kept_among es replaced c zero (h ∷ hs) e other is =
    let at : (c == replaced) ≡ false = ne_eqb c replaced (λ k. other (omega arith)) in
    rw (is, at) (inl refl)
kept_among es replaced c (suc j) (h ∷ hs) e other is = by (kept_among es replaced (suc c) j hs e (λ k. other (omega arith)) is) (staying_disk es h) refl
  where
    by : IsAmong (kept_from es replaced (suc c) hs) e → (o : Option Entry) → staying_disk es h ≡ o → IsAmong (kept_from es replaced c (h ∷ hs)) e
    by later None k = rw k later
    by later (Some f) k = rw k (cond_both (c == replaced) (kept_from es replaced (suc c) hs) (f ∷ kept_from es replaced (suc c) hs) (λ (l : List Entry). IsAmong l e) (λ yes. later) (λ no. inr later))

pub holds_at : (hs : Homes) (j : ℕ) (h : Home) → get_or hs j None ≡ Some h → holds_copy hs h.disk ≡ true
holds_at [] j h e = absurd (none-some h e)
holds_at (None ∷ hs) zero h e = absurd (none-some h e)
holds_at (Some x ∷ hs) zero h e = or_left (x.disk == h.disk) _ (eq-eqb x.disk h.disk (ap (λ (y : Home). y.disk) (same_Some x h e)))
holds_at (None ∷ hs) (suc j) h e = holds_at hs j h e
holds_at (Some x ∷ hs) (suc j) h e = or_right (x.disk == h.disk) _ (holds_at hs j h e)
