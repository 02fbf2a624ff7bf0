-- How a cutter goes on, byte by byte.
use Rattle.std.proofs.Common.{◌≡◌, ◌+◌, ◌-◌, ◌<◌, ◌≤◌, ℕ, Bool, true, false, List, [], ◌∷◌, ◌++◌, length, take, drop, get_or, refl, sym, ◌∙◌, ap, subst, append_assoc, arith}
use Rattle.std.proofs.lemmas.List.{append-nil, take_rest, drop_all, take_all, drop_more, take_more, take-append-le, get_or-drop, length-drop, length-append, drop-drop, drop-append-le}
use Rattle.std.specs.Prelude.{Option, Some, None, IfSome}
use Rattle.script.specs.Script.{ScriptPlace, between, comment, line, in_statement, in_quotes, onto, unended, cut}
use Rattle.script.specs.Scanning.{place_of_state, IsGap, IsCommandOpen, onto_all, opening_place, Leads, FirstIs, Scanned, IsCutterOf, Unended, last_command, Steps, IsFirst, ComesTo}
use Rattle.script.specs.declared.cutter.Cutter.{Cutter}
use Rattle.script.specs.declared.cutter.Span.{Span}
use Rattle.script.specs.declared.cutter.Scan.TheVariants as scan
use Rattle.script.specs.declared.cutter.Step.{Step}

open-no_gap : (p : ScriptPlace) → IsCommandOpen p → IsGap p → ⊥
open-no_gap between o g = o
open-no_gap comment o g = o
open-no_gap line o g = g
open-no_gap in_statement o g = g
open-no_gap in_quotes o g = g

opening-gap : (p : ScriptPlace) → IsGap p → opening_place p ≡ p
opening-gap between g = refl
opening-gap comment g = refl
opening-gap line g = absurd g
opening-gap in_statement g = absurd g
opening-gap in_quotes g = absurd g

opening-open : (p : ScriptPlace) → IsCommandOpen p → opening_place p ≡ between
opening-open between o = absurd o
opening-open comment o = absurd o
opening-open line o = refl
opening-open in_statement o = refl
opening-open in_quotes o = refl

onto_all-push : (bs : List ℕ) (b : ℕ) (commands : List (List ℕ)) → onto_all (bs ++ b ∷ []) commands ≡ onto_all bs (onto b commands)
unfolding onto_all
onto_all-push [] b commands = refl
onto_all-push (c ∷ bs) b commands = ap (onto c) (onto_all-push bs b commands)

onto_all-first : (bs command : List ℕ) (commands : List (List ℕ)) → onto_all bs (command ∷ commands) ≡ (bs ++ command) ∷ commands
unfolding onto_all
onto_all-first [] command commands = refl
onto_all-first (b ∷ bs) command commands = ap (onto b) (onto_all-first bs command commands)

onto_all-none : (bs : List ℕ) → onto_all bs [] ≡ []
unfolding onto_all
onto_all-none [] = refl
onto_all-none (b ∷ bs) = ap (onto b) (onto_all-none bs)

-- the byte that is looked at
pub at-byte : (p : ScriptPlace) (bytes : List ℕ) (at : ℕ) (step : Step) → at < length bytes → Steps p (take (length bytes - at) (drop at bytes)) step → Steps p (get_or bytes at 0 ∷ drop (at + 1) bytes) step
at-byte p bytes at step l s = subst (λ xs. Steps p xs step) (take_rest bytes at ∙ drop_more bytes at 0 l) s

pub stands-skip : (from : ScriptPlace) (bytes : List ℕ) (start at : ℕ) (place next : ScriptPlace) → Scanned from bytes start at place → at < length bytes
    → IsGap place → IsGap next → Leads place (get_or bytes at 0 ∷ drop (at + 1) bytes) [] next (drop (at + 1) bytes) → Scanned from bytes (at + 1) (at + 1) next
unfolding onto_all
stands-skip from bytes start at place next s l g n leads =
    let none : (at + 1) - (at + 1) ≡ 0 = omega arith in
    record {
      order = omega arith;
      within = omega arith;
      gap = λ h. refl;
      some = λ h. absurd (open-no_gap next h n);
      skipped = λ closed more. s.skipped closed more
          ∙ ap (λ p. cut closed p (drop start bytes ++ more)) (opening-gap place g)
          ∙ ap (λ k. cut closed place (drop k bytes ++ more)) (s.gap g)
          ∙ ap (λ xs. cut closed place (xs ++ more)) (drop_more bytes at 0 l)
          ∙ leads closed more
          ∙ ap (λ p. cut closed p (drop (at + 1) bytes ++ more)) (sym (opening-gap next n));
      taken = λ closed more.
          ap (λ p. cut closed p (drop (at + 1) bytes ++ more)) (opening-gap next n)
          ∙ ap (λ k. onto_all (take k (drop (at + 1) bytes)) (cut closed next (drop (at + 1) bytes ++ more))) (sym none);
    }

-- with one byte more
front-more : (bytes : List ℕ) (start at : ℕ) → start ≤ at → at < length bytes
    → take (at - start) (drop start bytes) ++ get_or bytes at 0 ∷ [] ≡ take (at - start + 1) (drop start bytes)
front-more bytes start at o l =
    let n : start + (at - start) ≡ at = omega arith in
    let b : get_or (drop start bytes) (at - start) 0 ≡ get_or bytes at 0 = get_or-drop start bytes (at - start) 0 ∙ ap (λ k. get_or bytes k 0) n in
    let len = length-drop start bytes in
    sym (take_more (drop start bytes) (at - start) 0 (omega arith) ∙ ap (λ x. take (at - start) (drop start bytes) ++ x ∷ []) b)

pub stands-take : (from : ScriptPlace) (bytes : List ℕ) (start at : ℕ) (place next : ScriptPlace) → Scanned from bytes start at place → at < length bytes
    → opening_place place ≡ between → IsCommandOpen next → Leads place (get_or bytes at 0 ∷ drop (at + 1) bytes) (get_or bytes at 0 ∷ []) next (drop (at + 1) bytes) → Scanned from bytes start (at + 1) next
unfolding onto_all
stands-take from bytes start at place next s l o n leads =
    let order = s.order in
    let more_is : at - start + 1 ≡ at + 1 - start = omega arith in
    let f : List ℕ = take (at - start) (drop start bytes) in
    let same : opening_place place ≡ opening_place next = o ∙ sym (opening-open next n) in
    record {
      order = omega arith;
      within = omega arith;
      gap = λ h. absurd (open-no_gap next n h);
      some = λ h. omega arith;
      skipped = λ closed more. s.skipped closed more ∙ ap (λ p. cut closed p (drop start bytes ++ more)) same;
      taken = λ closed more.
          ap (λ p. cut closed p (drop start bytes ++ more)) (sym same)
          ∙ s.taken closed more
          ∙ ap (λ xs. onto_all f (cut closed place (xs ++ more))) (drop_more bytes at 0 l)
          ∙ ap (onto_all f) (leads closed more)
          ∙ sym (onto_all-push f (get_or bytes at 0) (cut closed next (drop (at + 1) bytes ++ more)))
          ∙ ap (λ xs. onto_all xs (cut closed next (drop (at + 1) bytes ++ more))) (front-more bytes start at s.order l)
          ∙ ap (λ k. onto_all (take k (drop start bytes)) (cut closed next (drop (at + 1) bytes ++ more))) more_is;
    }

-- where the command that stands open ends
first-by : (from : ScriptPlace) (bytes : List ℕ) (start at : ℕ) (place : ScriptPlace) (last rest : List ℕ) → Scanned from bytes start at place → IsCommandOpen place
    → FirstIs place (drop at bytes) last rest → FirstIs from bytes (take (at - start) (drop start bytes) ++ last) rest
unfolding onto_all
first-by from bytes start at place last rest s o ends closed more =
    s.skipped closed more
    ∙ s.taken closed more
    ∙ ap (onto_all (take (at - start) (drop start bytes))) (ends closed more)
    ∙ onto_all-first (take (at - start) (drop start bytes)) last (cut closed between (rest ++ more))

pub ends-before : (from : ScriptPlace) (bytes : List ℕ) (start at : ℕ) (place : ScriptPlace) → Scanned from bytes start at place → at < length bytes → IsCommandOpen place
    → FirstIs place (get_or bytes at 0 ∷ drop (at + 1) bytes) [] (get_or bytes at 0 ∷ drop (at + 1) bytes) → IsFirst from bytes record { at = start; len = at - start }
ends-before from bytes start at place s l o ends =
    let order = s.order in let some = s.some o in
    let n : start + (at - start) ≡ at = omega arith in
    let d = drop_more bytes at 0 l in
    let e : FirstIs place (drop at bytes) [] (drop at bytes) = subst (λ xs. FirstIs place xs [] xs) (sym d) ends in
    let f : FirstIs from bytes (take (at - start) (drop start bytes) ++ []) (drop at bytes) = first-by from bytes start at place [] (drop at bytes) s o e in
    record {
      within = omega arith;
      progress = omega arith;
      first = subst (λ k. FirstIs from bytes (take (at - start) (drop start bytes)) (drop k bytes)) (sym n)
          (subst (λ xs. FirstIs from bytes xs (drop at bytes)) (append-nil (take (at - start) (drop start bytes))) f);
    }

pub ends-with : (from : ScriptPlace) (bytes : List ℕ) (start at : ℕ) (place : ScriptPlace) → Scanned from bytes start at place → at < length bytes → IsCommandOpen place
    → FirstIs place (get_or bytes at 0 ∷ drop (at + 1) bytes) (get_or bytes at 0 ∷ []) (drop (at + 1) bytes) → IsFirst from bytes record { at = start; len = at - start + 1 }
ends-with from bytes start at place s l o ends =
    let order = s.order in
    let n : start + (at - start + 1) ≡ at + 1 = omega arith in
    let d = drop_more bytes at 0 l in
    let e : FirstIs place (drop at bytes) (get_or bytes at 0 ∷ []) (drop (at + 1) bytes) = subst (λ xs. FirstIs place xs (get_or bytes at 0 ∷ []) (drop (at + 1) bytes)) (sym d) ends in
    let f = first-by from bytes start at place (get_or bytes at 0 ∷ []) (drop (at + 1) bytes) s o e in
    record {
      within = omega arith;
      progress = omega arith;
      first = subst (λ k. FirstIs from bytes (take (at - start + 1) (drop start bytes)) (drop k bytes)) (sym n)
          (subst (λ xs. FirstIs from bytes xs (drop (at + 1) bytes)) (front-more bytes start at s.order l) f);
    }

pub unended-waits : (from : ScriptPlace) (bytes : List ℕ) (start at : ℕ) (place : ScriptPlace) → Scanned from bytes start at place → at < length bytes → place ≡ between
    → Unended between (get_or bytes at 0 ∷ drop (at + 1) bytes) 0 → Unended from bytes start
unfolding onto_all
unended-waits from bytes start at place s l is u =
    let g : IsGap place = subst (λ p. IsGap p) (sym is) tt in
    let at_is : start ≡ at = s.gap g in
    let d = drop_more bytes at 0 l in
    let goes : (closed : Bool) → cut closed from bytes ≡ cut closed between (get_or bytes at 0 ∷ drop (at + 1) bytes) = λ closed.
    ap (cut closed from) (sym (append-nil bytes)) ∙ s.skipped closed []
    ∙ ap (λ p. cut closed p (drop start bytes ++ [])) (opening-gap place g ∙ is)
    ∙ ap (cut closed between) (append-nil (drop start bytes))
    ∙ ap (λ k. cut closed between (drop k bytes)) at_is ∙ ap (cut closed between) d in
    (goes false ∙ u.0, goes true ∙ u.1 ∙ ap last_command (sym d) ∙ ap (λ k. last_command (drop k bytes)) (sym at_is))

nothing : (p : ScriptPlace) (closed : Bool) → IsGap p → cut closed p [] ≡ []
unfolding cut
nothing between closed g = refl
nothing comment closed g = refl
nothing line closed g = absurd g
nothing in_statement closed g = absurd g
nothing in_quotes closed g = absurd g

cut-end : (p : ScriptPlace) (closed : Bool) → IsCommandOpen p → cut closed p [] ≡ unended closed
unfolding cut
cut-end between closed o = absurd o
cut-end comment closed o = absurd o
cut-end line closed o = refl
cut-end in_statement closed o = refl
cut-end in_quotes closed o = refl

last-some : (xs : List ℕ) → 0 < length xs → last_command xs ≡ xs ∷ []
last-some [] l = absurd (omega arith)
last-some (x ∷ xs) l = refl

all-scanned : (from : ScriptPlace) (bytes : List ℕ) (start at : ℕ) (place : ScriptPlace) → Scanned from bytes start at place → length bytes ≤ at
    → (closed : Bool) → cut closed from bytes ≡ onto_all (take (at - start) (drop start bytes)) (cut closed place [])
unfolding onto_all
all-scanned from bytes start at place s l closed =
    ap (cut closed from) (sym (append-nil bytes)) ∙ s.skipped closed [] ∙ s.taken closed []
    ∙ ap (λ xs. onto_all (take (at - start) (drop start bytes)) (cut closed place xs)) (append-nil (drop at bytes) ∙ drop_all at bytes l)

unended-gap : (from : ScriptPlace) (bytes : List ℕ) (start at : ℕ) (place : ScriptPlace) → Scanned from bytes start at place → length bytes ≤ at → IsGap place → Unended from bytes start
unfolding onto_all
unended-gap from bytes start at place s l g =
    let same : start ≡ at = s.gap g in
    let none : drop start bytes ≡ [] = drop_all start bytes (omega arith) in
    let goes : (closed : Bool) → cut closed from bytes ≡ [] = λ closed. all-scanned from bytes start at place s l closed
    ∙ ap (onto_all (take (at - start) (drop start bytes))) (nothing place closed g) ∙ onto_all-none (take (at - start) (drop start bytes)) in
    (goes false, goes true ∙ ap last_command (sym none))

unended-open : (from : ScriptPlace) (bytes : List ℕ) (start at : ℕ) (place : ScriptPlace) → Scanned from bytes start at place → length bytes ≤ at → IsCommandOpen place → Unended from bytes start
unended-open from bytes start at place s l o =
    let some = s.some o in let order = s.order in let within = s.within in
    let len = length-drop start bytes in
    let f : List ℕ = take (at - start) (drop start bytes) in
    let whole : f ≡ drop start bytes = take_all (at - start) (drop start bytes) (omega arith) in (
      all-scanned from bytes start at place s l false ∙ ap (onto_all f) (cut-end place false o) ∙ onto_all-none f,
      all-scanned from bytes start at place s l true ∙ ap (onto_all f) (cut-end place true o) ∙ onto_all-first f [] []
          ∙ ap (λ xs. xs ∷ []) (append-nil f ∙ whole) ∙ sym (last-some (drop start bytes) (omega arith)),
    )

pub unended-all : (from : ScriptPlace) (bytes : List ℕ) (start at : ℕ) (place : ScriptPlace) → Scanned from bytes start at place → length bytes ≤ at → Unended from bytes start
unended-all from bytes start at between s l = unended-gap from bytes start at between s l tt
unended-all from bytes start at comment s l = unended-gap from bytes start at comment s l tt
unended-all from bytes start at line s l = unended-open from bytes start at line s l tt
unended-all from bytes start at in_statement s l = unended-open from bytes start at in_statement s l tt
unended-all from bytes start at in_quotes s l = unended-open from bytes start at in_quotes s l tt

pub more : (bytes tail : List ℕ) (from : ScriptPlace) (start at : ℕ) (place : ScriptPlace) → Scanned from bytes start at place → Scanned from (bytes ++ tail) start at place
more bytes tail from start at place s =
    let order = s.order in let within = s.within in
    let a : drop start (bytes ++ tail) ≡ drop start bytes ++ tail = drop-append-le start bytes tail (omega arith) in
    let b : drop at (bytes ++ tail) ≡ drop at bytes ++ tail = drop-append-le at bytes tail s.within in
    let len = length-drop start bytes in
    let c : take (at - start) (drop start (bytes ++ tail)) ≡ take (at - start) (drop start bytes) =
    ap (take (at - start)) a ∙ take-append-le (at - start) (drop start bytes) tail (omega arith) in
    let skip : Leads from (bytes ++ tail) [] (opening_place place) (drop start bytes ++ tail) = λ closed m.
    ap (cut closed from) (append_assoc bytes tail m) ∙ s.skipped closed (tail ++ m)
    ∙ ap (λ xs. onto_all [] (cut closed (opening_place place) xs)) (sym (append_assoc (drop start bytes) tail m)) in
    let take_ : Leads (opening_place place) (drop start bytes ++ tail) (take (at - start) (drop start bytes)) place (drop at bytes ++ tail) = λ closed m.
    ap (cut closed (opening_place place)) (append_assoc (drop start bytes) tail m) ∙ s.taken closed (tail ++ m)
    ∙ ap (λ xs. onto_all (take (at - start) (drop start bytes)) (cut closed place xs)) (sym (append_assoc (drop at bytes) tail m)) in
    record {
      order = s.order;
      within = omega (arith, length-append bytes tail);
      gap = s.gap;
      some = s.some;
      skipped = subst (λ xs. Leads from (bytes ++ tail) [] (opening_place place) xs) (sym a) skip;
      taken = subst (λ xs. Leads (opening_place place) xs (take (at - start) (drop start (bytes ++ tail))) place (drop at (bytes ++ tail))) (sym a)
          (subst (λ xs. Leads (opening_place place) (drop start bytes ++ tail) xs place (drop at (bytes ++ tail))) (sym c)
          (subst (λ xs. Leads (opening_place place) (drop start bytes ++ tail) (take (at - start) (drop start bytes)) place xs) (sym b) take_));
    }

opening-twice : (p : ScriptPlace) → opening_place (opening_place p) ≡ opening_place p
opening-twice between = refl
opening-twice comment = refl
opening-twice line = refl
opening-twice in_statement = refl
opening-twice in_quotes = refl

pub gapless : (from first : ScriptPlace) (bytes : List ℕ) (start at : ℕ) (place : ScriptPlace) → first ≡ opening_place place → Scanned from bytes start at place → Scanned first (drop start bytes) 0 (at - start) place
unfolding onto_all
gapless from first bytes start at place is s =
    let order = s.order in let within = s.within in
    let len = length-drop start bytes in
    let n : start + (at - start) ≡ at = omega arith in
    let d : drop (at - start) (drop start bytes) ≡ drop at bytes = drop-drop (at - start) start bytes ∙ ap (λ k. drop k bytes) n in
    let z : at - start ≡ at - start - 0 = omega arith in
    record {
      order = omega arith;
      within = omega arith;
      gap = λ g. (let e = s.gap g in omega arith);
      some = λ o. (let l = s.some o in omega arith);
      skipped = λ closed m. ap (λ p. cut closed p (drop start bytes ++ m)) is;
      taken = λ closed m. s.taken closed m
          ∙ ap (λ xs. onto_all (take (at - start) (drop start bytes)) (cut closed place (xs ++ m))) (sym d)
          ∙ ap (λ k. onto_all (take k (drop start bytes)) (cut closed place (drop (at - start) (drop start bytes) ++ m))) z;
    }

pub fresh : (bytes : List ℕ) → Scanned between bytes 0 0 between
unfolding onto_all
fresh bytes = record {
  order = omega arith;
  within = omega arith;
  gap = λ g. refl;
  some = λ o. absurd o;
  skipped = λ closed m. refl;
  taken = λ closed m. refl;
}

pub few : (bytes : List ℕ) (at : ℕ) → at < length bytes → length (drop (at + 1) bytes) < 6 → length bytes ≤ at + 6
few bytes at l e = omega (arith, length-drop (at + 1) bytes)

-- A cutter that has come to the end of the bytes.
pub at-end : (c now : Cutter) (bytes : List ℕ) → length bytes ≤ now.at → IsCutterOf bytes now → now.from ≡ c.from → ComesTo c bytes (scan.Open now)
at-end c now bytes l s from =
    (s, from, subst (λ f. Unended (place_of_state f) bytes now.start) from (unended-all (place_of_state now.from) bytes now.start now.at (place_of_state now.state) s l), omega arith)

pub last-found : (from : ScriptPlace) (bytes : List ℕ) (span : Span) → IsFirst from bytes span
    → cut true from bytes ≡ take span.len (drop span.at bytes) ∷ cut true between (drop (span.at + span.len) bytes)
last-found from bytes span f =
    ap (cut true from) (sym (append-nil bytes)) ∙ f.first true []
    ∙ ap (λ xs. take span.len (drop span.at bytes) ∷ cut true between xs) (append-nil (drop (span.at + span.len) bytes))

pub last-open : (from : ScriptPlace) (bytes : List ℕ) (start : ℕ) (span : Span) → Unended from bytes start → span.at + span.len ≡ length bytes
    → last_command (drop start bytes) ≡ take span.len (drop span.at bytes) ∷ []
    → cut true from bytes ≡ take span.len (drop span.at bytes) ∷ cut true between (drop (span.at + span.len) bytes)
unfolding cut
last-open from bytes start span u w f =
    u.1 ∙ f ∙ ap (λ xs. take span.len (drop span.at bytes) ∷ cut true between xs) (sym (drop_all (span.at + span.len) bytes (omega arith)))

pub open-found : (from : ScriptPlace) (bytes : List ℕ) (start : ℕ) (o : Option Span) → Unended from bytes start → IfSome o (λ span. span.at + span.len ≡ length bytes)
    → IfSome o (λ span. last_command (drop start bytes) ≡ take span.len (drop span.at bytes) ∷ [])
    → IfSome o (λ span. cut true from bytes ≡ take span.len (drop span.at bytes) ∷ cut true between (drop (span.at + span.len) bytes))
open-found from bytes start None u w f = tt
open-found from bytes start (Some span) u w f = last-open from bytes start span u w f
