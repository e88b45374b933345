-- What is printed of what a view needs of a study is what is printed of the study.
use Rattle.std.proofs.Common.{◌≡◌, ◌∙◌, Bor, ap, ap₂, refl, subst, sym, ℕ, List, [], Option, Some, None}
use Rattle.std.specs.Prelude.{◌&&◌, is_some, not, Bool, false, slice_get, true}
use Rattle.std.specs.Str.{bytes_eq}
use Rattle.tomex_compare.specs.Compare.{compare_table_of, text_of}
use Rattle.tomex_compare.specs.GroupCsv.{compare_csv_of, csv_of}
use Rattle.tomex_compare.specs.Laws.{IsSameProgram, OnlyTheTwoMatter, OnlyTheTwoMatterInCsv}
use Rattle.tomex_study.specs.Program.{Workload}
use Rattle.tomex_study.specs.Selection.{with_only}
use Rattle.tomex_study.specs.Study.{DesignSpace, IsStudy, program_named}
use Rattle.tomex_study.proofs.Selection.{found_by_first, found_by_second}
use Rattle.tomex_views.proofs.Placed.{found_at, none_found, there_with_found}
use Rattle.tomex_views.specs.StudyViews.{IsSurveyText, IsWithoutSurvey, compared, compared_at, needed}
use Rattle.tomex_views.specs.StudyViews.{place_of}
use Rattle.tomex_views.specs.declared.study_view.Form.{Form}
use Rattle.tomex_views.specs.declared.study_view.Form.TheVariants as forms
use Rattle.tomex_views.specs.declared.study_view.SurveyView.{SurveyView}
use Rattle.tomex_views.specs.declared.study_view.SurveyView.TheVariants.{Table, Compare}
use Rattle.tomex_views.specs.declared.view_error.ViewError.{ViewError}
use Rattle.tomex_views.specs.declared.view_error.ViewError.TheVariants.{Memory, NoSuchProgram}

abbrev has_name : List ℕ → Workload → Bool
has_name name p = bytes_eq p.name name

-- what is printed of two programs
printed : Form → DesignSpace → (old new : Option Workload) → List ℕ
printed forms.Table s old new = text_of s old new
printed forms.Csv s old new = csv_of s old new

-- of one build nothing is
no_new : (form : Form) (s : DesignSpace) (old : Option Workload) → printed form s old None ≡ []
unfolding printed
no_new forms.Table s (Some p) = refl
no_new forms.Table s None = refl
no_new forms.Csv s (Some p) = refl
no_new forms.Csv s None = refl

no_old : (form : Form) (s : DesignSpace) (new : Option Workload) → printed form s None new ≡ []
unfolding printed
no_old forms.Table s new = refl
no_old forms.Csv s new = refl

at_places : (form : Form) (s : DesignSpace) (i j : ℕ)
    → printed form s (slice_get s.programs i) (slice_get s.programs j) ≡ compared_at form s i j
unfolding printed compare_table_of compare_csv_of
at_places forms.Table s i j = refl
at_places forms.Csv s i j = refl

-- what is printed of two builds by their places is that of the programs that are found
module _ (form : Form) (s : DesignSpace) (old new : List ℕ) where
  of_places : (i j : Option ℕ) → place_of old s ≡ i → place_of new s ≡ j
      → compared form s i j ≡ printed form s (program_named old s.programs) (program_named new s.programs)
  of_places (Some i) (Some j) first second =
      sym (ap₂ (printed form s) (found_at (has_name old) s.programs i first)
      (found_at (has_name new) s.programs j second) ∙ at_places form s i j)
  of_places (Some i) None first second =
      sym (ap (printed form s (program_named old s.programs)) (none_found (has_name new) s.programs second)
      ∙ no_new form s (program_named old s.programs))
  of_places None j first second =
      sym (ap (λ (o : Option Workload). printed form s o (program_named new s.programs))
      (none_found (has_name old) s.programs first) ∙ no_old form s (program_named new s.programs))

  by_name : compared form s (place_of old s) (place_of new s)
      ≡ printed form s (program_named old s.programs) (program_named new s.programs)
  by_name = of_places (place_of old s) (place_of new s) refl refl

-- two studies with the same configurations and costs print the same of the same programs
same_program : (p : Workload) → IsSameProgram p p
same_program p = record { name = refl; image = refl; limit = refl }

same_printed : OnlyTheTwoMatter → OnlyTheTwoMatterInCsv → (form : Form) (s t : DesignSpace) → IsStudy s → IsStudy t
    → s.rows ≡ t.rows → s.costs ≡ t.costs → (old new : Option Workload)
    → printed form s old new ≡ printed form t old new
unfolding printed
same_printed law csv forms.Table s t study other rows costs (Some old) (Some new) =
    law s t old new old new study other rows costs (same_program old) (same_program new)
same_printed law csv forms.Csv s t study other rows costs (Some old) (Some new) =
    csv s t old new old new study other rows costs (same_program old) (same_program new)
same_printed law csv forms.Table s t study other rows costs (Some old) None = refl
same_printed law csv forms.Csv s t study other rows costs (Some old) None = refl
same_printed law csv forms.Table s t study other rows costs None new = refl
same_printed law csv forms.Csv s t study other rows costs None new = refl

module _ (s : DesignSpace) (old new : List ℕ) where
  there_in_both : (name : List ℕ) → program_named name (with_only old new s).programs ≡ program_named name s.programs
      → is_some (place_of name (with_only old new s)) ≡ is_some (place_of name s)
  there_in_both name same =
      there_with_found (has_name name) (with_only old new s).programs
      ∙ (ap is_some same ∙ sym (there_with_found (has_name name) s.programs))

  -- the first programs of the two names are the same
  old_same : program_named old (with_only old new s).programs ≡ program_named old s.programs
  old_same = found_by_first (has_name old) (has_name new) s.programs

  new_same : program_named new (with_only old new s).programs ≡ program_named new s.programs
  new_same = found_by_second (has_name old) (has_name new) s.programs

  -- and so is what is printed of them
  two_compared : OnlyTheTwoMatter → OnlyTheTwoMatterInCsv → (form : Form) → IsStudy s → IsStudy (with_only old new s)
      → compared form (with_only old new s) (place_of old (with_only old new s)) (place_of new (with_only old new s))
      ≡ compared form s (place_of old s) (place_of new s)
  two_compared law csv form study other =
      let t = with_only old new s in
      by_name form t old new
      ∙ (ap₂ (printed form t) old_same new_same
      ∙ (same_printed law csv form t s other study refl refl (program_named old s.programs)
      (program_named new s.programs)
      ∙ sym (by_name form s old new)))

  lack_same : (not (is_some (place_of old (with_only old new s)) && is_some (place_of new (with_only old new s))))
      ≡ (not (is_some (place_of old s) && is_some (place_of new s)))
  lack_same = ap₂ (λ (a b : Bool). not (a && b)) (there_in_both old old_same) (there_in_both new new_same)

-- if both are there, the first is
first_there : (a b : Bool) → not (a && b) ≡ false → a ≡ true
first_there true b both = refl
first_there false b both = absurd (cc)

pub old_there : (s : DesignSpace) (old new : List ℕ)
    → not (is_some (place_of old s) && is_some (place_of new s)) ≡ false
    → is_some (program_named old s.programs) ≡ true
old_there s old new both =
    sym (there_with_found (has_name old) s.programs)
    ∙ first_there (is_some (place_of old s)) (is_some (place_of new s)) both

-- the text of what a view needs is the study's
pub text_of_needed : OnlyTheTwoMatter → OnlyTheTwoMatterInCsv → (view : SurveyView) (s : DesignSpace) (text : List ℕ)
    → IsStudy s → IsStudy (needed view s) → IsSurveyText view (needed view s) text → IsSurveyText view s text
text_of_needed law csv (Compare old new form) s text study other is = record {
  has_text = sym (lack_same s old.now new.now) ∙ is.has_text;
  text_is = is.text_is ∙ two_compared s old.now new.now law csv form study other;
}
text_of_needed law csv view s text study other is = is

-- and so is why there is none
pub without_needed : (view : SurveyView) (s : DesignSpace) (error : ViewError)
    → IsWithoutSurvey view (needed view s) error → IsWithoutSurvey view s error
without_needed (Compare old new form) s NoSuchProgram without = sym (lack_same s old.now new.now) ∙ without
without_needed (Compare old new form) s error without = without
without_needed view s error without = without

-- a view that isn't of two builds is made of the whole study
pub needs_all : (view : SurveyView) (s : DesignSpace)
    → ((old new : Bor (List ℕ)) (form : Form) → view ≡ Compare old new form → ⊥) → s ≡ needed view s
needs_all (Compare old new form) s other = absurd (other old new form refl)
needs_all view s other = refl

-- there may be no memory for any view
no_memory : (view : SurveyView) (s : DesignSpace) → IsWithoutSurvey view s Memory
no_memory Table s = tt
no_memory view s = tt

pub without_memory : (view : SurveyView) (s : DesignSpace) (error : ViewError) → error ≡ Memory
    → IsWithoutSurvey view s error
without_memory view s error is = subst (λ (e : ViewError). IsWithoutSurvey view s e) (sym is) (no_memory view s)
