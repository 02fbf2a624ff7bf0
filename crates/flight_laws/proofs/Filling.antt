-- Extents that a file gets.
use Rattle.std.proofs.Common.{◌≡◌, ℕ, ◌+◌, ◌-◌, ◌<◌, ◌≤◌, true, false, [], length, get_or, Some, None, refl, sym, ap, subst, ◌∙◌, arith, inl, inr, ◌⊎◌, ⊎_elim}
use Rattle.std.proofs.lemmas.Bool.{cases_eq, cases_lt}
use Rattle.asm_formats.specs.Items.{FileHead, Homes}
use Rattle.asm_formats.specs.Sets.{has_bit}
use Rattle.catalog.specs.ExtentPlans.{first_new, home_at, with_appended}
use Rattle.catalog_laws.proofs.RegularHomes.{appending_keeps}
use Rattle.catalog_tables.specs.Rules.{head_has_extent, marks_of}
use Rattle.file_directory.specs.Files.{head_at}
use Rattle.flight_laws.specs.Agreeing.{AgreesWhole, HasCurrent}
use Rattle.flight_laws.specs.Filling.{AppendIsSurplus, FilledIsHeld, KnowsByte}
use Rattle.flight_laws.proofs.Agreeing.{IsBacked, backed_hold}
use Rattle.flight_laws.proofs.Lookups.{home_stays, homes_stay, marks_stay, new_homes, new_marks}

pub filled_is_held : FilledIsHeld
filled_is_held = λ id r c f n homes marks g h image are_t are_u may more holds new.
    let t = c.tables in
    let u = with_appended t f n homes marks in
    let first = first_new t f n in
    let backed : IsBacked id r t u g h image = λ k o b i inner copy file home is_file cell lies current.
    let stays : (k ≡ f → first ≤ i → i < first + length homes → ⊥) → (HasCurrent t k i copy home × KnowsByte g k o b file.stripe) ⊎ AgreesWhole id r h k i home image = λ out. ⊎_elim
    (λ known. inl (
      (
        sym (home_stays t are_t f n homes marks may.room may.marked k i out copy) ∙ current.0,
        ap (λ (x : ℕ). has_bit x copy) (sym (marks_stay t are_t f n homes marks may.room may.marked k i out)) ∙ current.1,
      ),
      known,
    ))
    (λ its. absurd (out its.0 (its.1 i inner lies).0 (its.1 i inner lies).1))
    (more.cells k o b file is_file cell) in
    elim (cases_eq k f) [
      | inl same ↦ elim (cases_lt i first) [
        | inl before ↦ stays (λ e low high. omega (arith, before, low))
        | inr past ↦ elim (cases_lt i (first + length homes)) [
          | inl lt ↦
              let p = i - first in
              let index : first + p ≡ i = omega (arith, past) in
              let inside : p < length homes = omega (arith, past, lt) in
              let home_is : get_or (get_or homes p []) copy None ≡ Some home =
              ap (λ (x : Homes). get_or x copy None) (sym (new_homes t are_t f n homes marks may.room may.marked p inside))
              ∙ ap (λ (x : ℕ). home_at u f x copy) index ∙ ap (λ (x : ℕ). home_at u x i copy) (sym same) ∙ current.0 in
              let fresh : has_bit (get_or marks p 0) copy ≡ false =
              ap (λ (x : ℕ). has_bit x copy) (sym (new_marks t are_t f n homes marks may.room may.marked p inside))
              ∙ ap (λ (x : ℕ). has_bit (marks_of u f x) copy) index ∙ ap (λ (x : ℕ). has_bit (marks_of u x i) copy) (sym same) ∙ current.1 in
              inr (subst (λ (x : ℕ). AgreesWhole id r h x i home image) (sym same) (subst (λ (x : ℕ). AgreesWhole id r h f x home image) index (new p copy home inside home_is fresh)))
          | inr behind ↦ stays (λ e low high. omega (arith, behind, high))
        ]
      ]
      | inr differ ↦ stays (λ e low high. differ e)
    ] in
    backed_hold id r t u g h image are_t are_u more.shape backed holds

pub append_is_surplus : AppendIsSurplus
append_is_surplus entries c put gone f n homes marks are may behind regular plan = record {
  plan = plan;
  names = record { files = refl; nodes = refl; templates = refl };
  due = record {
    files = refl;
    homes = λ k i head there due. homes_stay c.tables are f n homes marks may.room may.marked k i (λ same. before k i head there due same);
    marks = λ k i head there due. marks_stay c.tables are f n homes marks may.room may.marked k i (λ same low high. omega (arith, before k i head there due same, low));
  };
  infos = λ none. none;
  regular = λ is. appending_keeps entries c.tables f n homes marks is regular;
} where
  before : (k i : ℕ) (head : FileHead) → head_at c.tables.files k ≡ Some head → head_has_extent c.shape head i ≡ true → k ≡ f → i < first_new c.tables f n
  before k i head there due same = behind i head (ap (λ (x : ℕ). head_at c.tables.files x) (sym same) ∙ there) due
