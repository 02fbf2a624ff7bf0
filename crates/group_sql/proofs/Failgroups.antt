-- Reading failure groups, one behind another.
use Rattle.std.proofs.Common.{◌≡◌, ℕ, ◌<◌, Bool, true, false, List, [], ◌∷◌, ◌++◌, length, map, refl, sym, ap, ◌∙◌, Option, Some, None, append_assoc, append-nil, arith, inl, inr}
use Rattle.std.specs.Prelude.{if◌then◌else◌, codes, is_some}
use Rattle.std.specs.Option.{option_map}
use Rattle.std.proofs.lemmas.Bool.{or_parts}
use Rattle.asm_grammar.specs.Word.{Word, Keyword, fit, fits}
use Rattle.asm_grammar.specs.Syntax.{SyntaxRule, Then, Maybe, Many, Value}
use Rattle.asm_grammar.specs.Reading.{Outcome, Took, Failed, ◌>>=◌, mapped, parse, leads, miss}
use Rattle.asm_grammar.specs.Reading.{first as heads}
use Rattle.asm_grammar.proofs.Again.{many_is}
use Rattle.asm_grammar.proofs.Consumes.{shortens}
use Rattle.asm_grammar.proofs.Outcomes.{mapped_took, Under}
use Rattle.asm_grammar.proofs.Sound.{sound}
use Rattle.asm_grammar.proofs.Tests.{is_true_or_false}
use Rattle.asm_world.specs.Grammar as g
use Rattle.asm_world.specs.Meaning.{failgroup_of, failgroups_of}
use Rattle.asm_world.specs.Statement as s
use Rattle.group_sql.specs.Rows.{groups_from, maybe_failgroup_of}

many : (text : List ℕ) (left : ℕ) → parse (Many g.failgroup) text left
    ≡ (if leads g.failgroup text then (parse g.failgroup text left >>= λ v rest l. mapped (λ vs. v ∷ vs) (parse (Many g.failgroup) rest l)) else Took [] text (miss (heads g.failgroup) text left))
many text left = many_is g.failgroup (heads g.failgroup ++ g.semicolon ∷ []) refl refl refl text left

-- what reading a failure group that may be absent says of reading one
pub record IsThere (text : List ℕ) (left : ℕ) (x : s.NewFailgroup) (next : List ℕ) (l : ℕ) : Type 0 where
  pub leads : leads g.failgroup text ≡ true
  pub value : Value g.failgroup
  pub read : parse g.failgroup text left ≡ Took value next l
  pub says : failgroup_of value ≡ x

there_by : (o : Outcome (Value g.failgroup)) (x : s.NewFailgroup) (next : List ℕ) (l : ℕ) → mapped maybe_failgroup_of (mapped (λ v. Some v) o) ≡ Took (Some x) next l → Under failgroup_of o x next l
there_by (Took v r m) x next l e = record { value = v; was = cc; gives = cc }
there_by (Failed m) x next l e = cc

pub there : (text : List ℕ) (left : ℕ) (x : s.NewFailgroup) (next : List ℕ) (l : ℕ) → mapped maybe_failgroup_of (parse (Maybe g.failgroup) text left) ≡ Took (Some x) next l → IsThere text left x next l
there text left x next l e = elim (is_true_or_false (leads g.failgroup text)) [
  | inl h ↦ (let u = there_by (parse g.failgroup text left) x next l (rw h at e) in record { leads = h; value = u.value; read = u.was; says = u.gives })
  | inr h ↦ absurd (let k = rw h at e in cc)
]

pub record IsAbsent (text : List ℕ) (left : ℕ) (next : List ℕ) (l : ℕ) : Type 0 where
  pub leads : leads g.failgroup text ≡ false
  pub rest : text ≡ next
  pub left_is : miss (heads g.failgroup) text left ≡ l

absent_by : (o : Outcome (Value g.failgroup)) (next : List ℕ) (l : ℕ) → mapped maybe_failgroup_of (mapped (λ v. Some v) o) ≡ Took None next l → ⊥
absent_by (Took v r m) next l e = cc
absent_by (Failed m) next l e = cc

pub absent : (text : List ℕ) (left : ℕ) (next : List ℕ) (l : ℕ) → mapped maybe_failgroup_of (parse (Maybe g.failgroup) text left) ≡ Took None next l → IsAbsent text left next l
absent text left next l e = elim (is_true_or_false (leads g.failgroup text)) [
  | inl h ↦ absurd (absent_by (parse g.failgroup text left) next l (rw h at e))
  | inr h ↦ (let k = rw h at e in record { leads = h; rest = cc; left_is = cc })
]

pub record IsBad (text : List ℕ) (left l : ℕ) : Type 0 where
  pub leads : leads g.failgroup text ≡ true
  pub read : parse g.failgroup text left ≡ Failed l

bad_by : (o : Outcome (Value g.failgroup)) (l : ℕ) → mapped maybe_failgroup_of (mapped (λ v. Some v) o) ≡ Failed l → o ≡ Failed l
bad_by (Took v r m) l e = cc
bad_by (Failed m) l e = let q : m ≡ l = cc in ap (λ z. Failed z) q

pub bad_read : (text : List ℕ) (left l : ℕ) → mapped maybe_failgroup_of (parse (Maybe g.failgroup) text left) ≡ Failed l → IsBad text left l
bad_read text left l e = elim (is_true_or_false (leads g.failgroup text)) [
  | inl h ↦ record { leads = h; read = bad_by (parse g.failgroup text left) l (rw h at e) }
  | inr h ↦ absurd (let k = rw h at e in cc)
]

pub no_more : (front : List s.NewFailgroup) (rest : List ℕ) (left : ℕ) (next : List ℕ) (l : ℕ) → mapped maybe_failgroup_of (parse (Maybe g.failgroup) rest left) ≡ Took None next l
    → groups_from front rest left ≡ Took front next l
no_more front rest left next l e =
    let a = absent rest left next l e in
    rw (many rest left, a.leads, a.left_is, a.rest, append-nil front) refl

regroup : (front : List s.NewFailgroup) (v : Value g.failgroup) (x : s.NewFailgroup) (o : Outcome (List (Value g.failgroup))) → failgroup_of v ≡ x
    → mapped (λ vs. front ++ map failgroup_of vs) (mapped (λ vs. v ∷ vs) o) ≡ mapped (λ vs. (front ++ x ∷ []) ++ map failgroup_of vs) o
regroup front v x (Took vs rest left) e = rw (← e) (ap (λ f. Took f rest left) (sym (append_assoc front (failgroup_of v ∷ []) (map failgroup_of vs))))
regroup front v x (Failed left) e = refl

pub one_more : (front : List s.NewFailgroup) (rest : List ℕ) (left : ℕ) (x : s.NewFailgroup) (next : List ℕ) (l : ℕ) → mapped maybe_failgroup_of (parse (Maybe g.failgroup) rest left) ≡ Took (Some x) next l
    → groups_from front rest left ≡ groups_from (front ++ x ∷ []) next l
one_more front rest left x next l e =
    let a = there rest left x next l e in
    rw (many rest left, a.leads, a.read) (regroup front a.value x (parse (Many g.failgroup) next l) a.says)

pub bad : (front : List s.NewFailgroup) (rest : List ℕ) (left l : ℕ) → mapped maybe_failgroup_of (parse (Maybe g.failgroup) rest left) ≡ Failed l
    → groups_from front rest left ≡ Failed l
bad front rest left l e =
    let a = bad_read rest left l e in
    rw (many rest left, a.leads, a.read) refl

pub falls : (rest : List ℕ) (left : ℕ) (x : s.NewFailgroup) (next : List ℕ) (l : ℕ) → mapped maybe_failgroup_of (parse (Maybe g.failgroup) rest left) ≡ Took (Some x) next l
    → length next < length rest
falls rest left x next l e =
    let a = there rest left x next l e in
    shortens g.failgroup (heads g.failgroup ++ g.semicolon ∷ []) a.value rest next refl refl (sound g.failgroup rest left a.value next l a.read)

-- ALL OF THEM

headed : (v : Value g.failgroup) (x : s.NewFailgroup) (o : Outcome (List (Value g.failgroup))) → failgroup_of v ≡ x
    → mapped failgroups_of (mapped {B = Value g.failgroup × List (Value g.failgroup)} (λ w. (v, w)) o) ≡ mapped (λ vs. (x ∷ []) ++ map failgroup_of vs) o
headed v x (Took vs rest left) e = rw (← e) refl
headed v x (Failed left) e = refl

pub groups_are : (rest : List ℕ) (left : ℕ) (x : s.NewFailgroup) (next : List ℕ) (l : ℕ) → mapped maybe_failgroup_of (parse (Maybe g.failgroup) rest left) ≡ Took (Some x) next l
    → mapped failgroups_of (parse g.failgroups rest left) ≡ groups_from (x ∷ []) next l
groups_are rest left x next l e =
    let a = there rest left x next l e in
    rw a.read (headed a.value x (parse (Many g.failgroup) next l) a.says)

pub bad_group : (rest : List ℕ) (left l : ℕ) → mapped maybe_failgroup_of (parse (Maybe g.failgroup) rest left) ≡ Failed l → mapped failgroups_of (parse g.failgroups rest left) ≡ Failed l
bad_group rest left l e = rw (bad_read rest left l e).read refl

fit_none : (w : Word) (text : List ℕ) → fits w text ≡ false → fit w text ≡ None
fit_none w text e = by (fit w text) e where
  by : {A : Type 0} (o : Option A) → is_some o ≡ false → o ≡ None
  by None e = refl
  by (Some v) e = cc

pub no_group : (rest : List ℕ) (left : ℕ) (next : List ℕ) (l : ℕ) → mapped maybe_failgroup_of (parse (Maybe g.failgroup) rest left) ≡ Took None next l → mapped failgroups_of (parse g.failgroups rest left) ≡ Failed l
no_group rest left next l e =
    let a = absent rest left next l e in
    let p = or_parts (fits (Keyword (codes "QUORUM")) rest) _ a.leads in
    let q = or_parts (fits (Keyword (codes "REGULAR")) rest) _ p.1 in
    let r = or_parts (fits (Keyword (codes "FAILGROUP")) rest) _ q.1 in
    let t = or_parts (fits (Keyword (codes "DISK")) rest) _ r.1 in
    rw (fit_none (Keyword (codes "QUORUM")) rest p.0, fit_none (Keyword (codes "REGULAR")) rest q.0, fit_none (Keyword (codes "FAILGROUP")) rest r.0, fit_none (Keyword (codes "DISK")) rest t.0) (ap (λ z. Failed z) a.left_is)
