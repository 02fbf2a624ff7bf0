-- An entry is changed in its place, since no two entries have one number.
use Rattle.std.proofs.Common.{◌≡◌, ℕ, ◌+◌, ◌<◌, ◌≤◌, ◌≢◌, Bool, true, cond, List, [], ◌∷◌, ◌++◌, map, length, take, drop, get_or, refl, sym, subst, ap, ◌∙◌, ◌==◌, arith}
use Rattle.std.specs.Prelude.{nat_le}
use Rattle.std.proofs.lemmas.List.{append-nil, append_assoc, drop_all, drop_more, map-append, take-append-drop, take_all, take_more}
use Rattle.std.proofs.lemmas.Bool.{and_parts, eq-eqb, ne_eqb, leb-true}
use Rattle.asm_group.specs.declared.Mode.TheVariants.{Offline}
use Rattle.asm_formats.specs.Status.{Entry, Status, ascends_from}
use Rattle.disk_modes.specs.declared.records.Becomes.{Becomes}
use Rattle.disk_modes.specs.declared.records.Becomes.TheVariants as becomes
use Rattle.disk_modes.specs.declared.records.NewModes.{NewModes}
use Rattle.record_laws.specs.group_engine.Dropping.{IsWithout}
use Rattle.record_laws.specs.group_engine.NextRecords.{KeepsDisks}
use Rattle.disk_modes.specs.Records.{HasFewer, IsUnder, change_of, entry_as, entry_after, status_as, taken_off, with_partners_for}

abbrev numbers : List Entry → List ℕ
numbers es = map (λ (e : Entry). e.number) es

-- the entry of the disk changes
abbrev at : ℕ → (Entry → Entry) → Entry → Entry
at d g x = cond (x.number == d) (g x) x

other : (d : ℕ) (g : Entry → Entry) (x : Entry) → x.number ≢ d → at d g x ≡ x
other d g x differ = ap (λ (b : Bool). cond b (g x) x) (ne_eqb x.number d differ)

own : (g : Entry → Entry) (e : Entry) → at e.number g e ≡ g e
own g e = ap (λ (b : Bool). cond b (g e) e) (eq-eqb e.number e.number refl)

-- entries of greater numbers stay
later : (d n : ℕ) (g : Entry → Entry) (xs : List Entry) → d < n → ascends_from n (numbers xs) ≡ true → map (at d g) xs ≡ xs
later d n g [] lt up = refl
later d n g (x ∷ xs) lt up =
    let p = and_parts (nat_le n x.number) (ascends_from (x.number + 1) (numbers xs)) up in
    let le : n ≤ x.number = leb-true n x.number p.0 in
    let differ : x.number ≢ d = λ same. omega (arith, le, lt, same) in
    let rest : map (at d g) xs ≡ xs = later d (x.number + 1) g xs (omega (arith, le, lt)) p.1 in
    λ i. other d g x differ i ∷ rest i

-- the entry behind others has a number that is no less
behind : (n : ℕ) (front : List Entry) (e : Entry) (back : List Entry) → ascends_from n (numbers (front ++ (e ∷ back))) ≡ true → n ≤ e.number
behind n [] e back up = leb-true n e.number (and_parts (nat_le n e.number) (ascends_from (e.number + 1) (numbers back)) up).0
behind n (x ∷ xs) e back up =
    let p = and_parts (nat_le n x.number) (ascends_from (x.number + 1) (numbers (xs ++ (e ∷ back)))) up in
    omega (arith, leb-true n x.number p.0, behind (x.number + 1) xs e back p.1)

one_changed : (f : Entry → Entry) → ((x : Entry) → (f x).number ≡ x.number) → (g : Entry → Entry) (n : ℕ) (front : List Entry) (e : Entry) (back : List Entry)
    → ascends_from n (numbers (front ++ (e ∷ back))) ≡ true → map (at e.number g) (map f front ++ (e ∷ back)) ≡ map f front ++ (g e ∷ back)
one_changed f keeps g n [] e back up =
    let p = and_parts (nat_le n e.number) (ascends_from (e.number + 1) (numbers back)) up in
    let rest : map (at e.number g) back ≡ back = later e.number (e.number + 1) g back (omega arith) p.1 in
    λ i. own g e i ∷ rest i
one_changed f keeps g n (x ∷ xs) e back up =
    let p = and_parts (nat_le n x.number) (ascends_from (x.number + 1) (numbers (xs ++ (e ∷ back)))) up in
    let le : x.number + 1 ≤ e.number = behind (x.number + 1) xs e back p.1 in
    let differ : (f x).number ≢ e.number = λ same. omega (arith, le, keeps x, same) in
    let rest : map (at e.number g) (map f xs ++ (e ∷ back)) ≡ map f xs ++ (g e ∷ back) = one_changed f keeps g (x.number + 1) xs e back p.1 in
    λ i. other e.number g (f x) differ i ∷ rest i

same_number : (b : Becomes) (e : Entry) → (entry_as b e).number ≡ e.number
same_number becomes.Same e = refl
same_number (becomes.Offline since repair) e = refl
same_number (becomes.InMode m) e = refl

one_becomes : (b : Becomes) (f : Entry → Entry) → ((x : Entry) → (f x).number ≡ x.number) → (r : Status) (front : List Entry) (e : Entry) (back : List Entry)
    → ascends_from 0 (numbers (front ++ (e ∷ back))) ≡ true
    → status_as b e (record r { entries = map f front ++ (e ∷ back) }) ≡ record r { entries = map f front ++ (entry_as b e ∷ back) }
one_becomes becomes.Same f keeps r front e back up = refl
one_becomes (becomes.Offline since repair) f keeps r front e back up =
    ap (λ (es : List Entry). record r { entries = es }) (one_changed f keeps (λ (x : Entry). record x { mode = Offline; since = since; repair = repair }) 0 front e back up)
one_becomes (becomes.InMode m) f keeps r front e back up =
    ap (λ (es : List Entry). record r { entries = es }) (one_changed f keeps (λ (x : Entry). record x { mode = m; since = e.since }) 0 front e back up)

-- ---- one entry after the other

-- the first entries are under the new modes
abbrev pub IsSoFar : NewModes → Status → ℕ → Status → Type 0
IsSoFar new r i s = s ≡ record r { entries = map (entry_after new) (take i r.entries) ++ drop i r.entries }

pub none_so_far : (new : NewModes) (r s : Status) → s ≡ r → IsSoFar new r 0 s
none_so_far new r s is = is

pub one_more : (new : NewModes) (r s t : Status) (i : ℕ) (e : Entry) → ascends_from 0 (numbers r.entries) ≡ true → i < length r.entries → e ≡ get_or r.entries i e
    → IsSoFar new r i s → t ≡ status_as (change_of new e) e s → IsSoFar new r (i + 1) t
one_more new r s t i e up lt is so_far made =
    let f = entry_after new in
    let es = r.entries in
    let front = take i es in
    let back = drop (i + 1) es in
    let split : drop i es ≡ e ∷ back = drop_more es i e lt ∙ ap (λ (x : Entry). x ∷ back) (sym is) in
    let whole : front ++ (e ∷ back) ≡ es = ap (λ (xs : List Entry). front ++ xs) (sym split) ∙ take-append-drop i es in
    let ascends : ascends_from 0 (numbers (front ++ (e ∷ back))) ≡ true = subst (λ (xs : List Entry). ascends_from 0 (numbers xs) ≡ true) (sym whole) up in
    let longer : map f (take (i + 1) es) ++ back ≡ map f front ++ (f e ∷ back) =
    ap (λ (xs : List Entry). map f xs ++ back) (take_more es i e lt ∙ ap (λ (x : Entry). front ++ (x ∷ [])) (sym is))
    ∙ ap (λ (xs : List Entry). xs ++ back) (map-append f front (e ∷ [])) ∙ append_assoc (map f front) (f e ∷ []) back in
    made ∙ ap (status_as (change_of new e) e) (so_far ∙ ap (λ (xs : List Entry). record r { entries = map f front ++ xs }) split)
    ∙ one_becomes (change_of new e) f (λ x. same_number (change_of new x) x) r front e back ascends
    ∙ ap (λ (xs : List Entry). record r { entries = xs }) (sym longer)

pub all_so_far : (new : NewModes) (r s : Status) (i : ℕ) → length r.entries ≤ i → IsSoFar new r i s → s ≡ record r { entries = map (entry_after new) r.entries }
all_so_far new r s i le so_far =
    so_far ∙ ap (λ (xs : List Entry). record r { entries = xs })
    ((λ k. map (entry_after new) (take_all i r.entries le k) ++ drop_all i r.entries le k) ∙ append-nil (map (entry_after new) r.entries))

-- ---- then partners and copies

pub under_by : (new : NewModes) (r under next s : Status) (gone : ℕ) → under ≡ record r { entries = map (entry_after new) r.entries } → next.entries ≡ with_partners_for new under.entries
    → KeepsDisks under next → gone ≡ taken_off new → HasFewer next s → IsWithout s.directories next.directories gone → IsUnder new r s
under_by new r under next s gone made partners keeps off fewer left = record {
  entries = ap (λ (x : Status). x.entries) fewer.same ∙ partners ∙ ap (λ (x : Status). with_partners_for new x.entries) made;
  copies = subst (λ (n : ℕ). IsWithout s.directories r.directories n) off
      (subst (λ (n : ℕ). IsWithout s.directories n gone) (keeps.directories ∙ ap (λ (x : Status). x.directories) made) left);
}
