-- Six fields of a line tell as much as all of them.
use Rattle.std.proofs.Common.{◌≡◌, ℕ, Bool, true, false, List, [], ◌∷◌, take, Option, Some, None, refl, ap}
use Rattle.std.specs.Prelude.{slice_get}
use Rattle.mps_tokens.specs.declared.words.Section.{Section}
use Rattle.mps_tokens.specs.declared.words.Section.TheVariants as sections
use Rattle.mps_tokens.specs.declared.words.RowKind.{RowKind}
use Rattle.mps_tokens.specs.declared.words.BoundKind.{BoundKind}
use Rattle.mps_grammar.specs.Lines.{field}
use Rattle.mps_grammar.specs.Fields.{row_kind_in, has_number, bound_kind_in, bounded_in, bound_by_kind}
use Rattle.mps_grammar.specs.Told.{Told, first_named, bound_set_of, with_bound}
use Rattle.mps_grammar.specs.After.{told_more, told_within}
use Rattle.mps_grammar.specs.Faults.{row_tests, bound_tests, data_tests, section_tests}

-- a line of more fields has no form, and neither has one of six
module _ (told : Told) (a b c d e f g : List ℕ) (rest : List (List ℕ)) where
  abbrev six : List (List ℕ)
  six = a ∷ b ∷ c ∷ d ∷ e ∷ f ∷ []

  abbrev more : List (List ℕ)
  more = a ∷ b ∷ c ∷ d ∷ e ∷ f ∷ g ∷ rest

  rows_same : (kind : Option RowKind) → row_tests told kind six ≡ row_tests told kind more
  rows_same None = refl
  rows_same (Some kind) = refl

  no_bound : (needed : Bool) → bounded_in needed six ≡ bounded_in needed more
  no_bound true = refl
  no_bound false = refl

  bounds_same : (kind : Option BoundKind) → bound_tests told kind six ≡ bound_tests told kind more
  bounds_same None = refl
  bounds_same (Some kind) = rw (no_bound (has_number kind)) refl

  bound_same : (kind : Option BoundKind) → bound_by_kind kind six ≡ bound_by_kind kind more
  bound_same None = refl
  bound_same (Some kind) = rw (no_bound (has_number kind)) refl

  long_tests : (s : Section) → data_tests told s six ≡ data_tests told s more
  long_tests sections.Name = refl
  long_tests sections.Rows = rows_same (row_kind_in six)
  long_tests sections.Columns = refl
  long_tests sections.Rhs = refl
  long_tests sections.Ranges = refl
  long_tests sections.Bounds = bounds_same (bound_kind_in six)
  long_tests sections.QuadObj = refl
  long_tests sections.QMatrix = refl
  long_tests sections.DMatrix = refl
  long_tests sections.EndData = refl
  long_tests sections.ObjSense = refl

  long_told : (s : Section) → told_more told s six ≡ told_more told s more
  long_told sections.Name = refl
  long_told sections.Rows = refl
  long_told sections.Columns = refl
  long_told sections.Rhs = refl
  long_told sections.Ranges = refl
  long_told sections.Bounds = ap (λ o. record told { bound_set = first_named told.bound_set (bound_set_of o); bounds = with_bound told.bound_set o told.bounds }) (bound_same (bound_kind_in six))
  long_told sections.QuadObj = refl
  long_told sections.QMatrix = refl
  long_told sections.DMatrix = refl
  long_told sections.EndData = refl
  long_told sections.ObjSense = refl

tests_same : (told : Told) (s : Section) (fields : List (List ℕ)) → data_tests told s (take 6 fields) ≡ data_tests told s fields
tests_same told s [] = refl
tests_same told s (a ∷ []) = refl
tests_same told s (a ∷ b ∷ []) = refl
tests_same told s (a ∷ b ∷ c ∷ []) = refl
tests_same told s (a ∷ b ∷ c ∷ d ∷ []) = refl
tests_same told s (a ∷ b ∷ c ∷ d ∷ e ∷ []) = refl
tests_same told s (a ∷ b ∷ c ∷ d ∷ e ∷ f ∷ []) = refl
tests_same told s (a ∷ b ∷ c ∷ d ∷ e ∷ f ∷ g ∷ rest) = long_tests told a b c d e f g rest s

told_same : (told : Told) (s : Section) (fields : List (List ℕ)) → told_more told s (take 6 fields) ≡ told_more told s fields
told_same told s [] = refl
told_same told s (a ∷ []) = refl
told_same told s (a ∷ b ∷ []) = refl
told_same told s (a ∷ b ∷ c ∷ []) = refl
told_same told s (a ∷ b ∷ c ∷ d ∷ []) = refl
told_same told s (a ∷ b ∷ c ∷ d ∷ e ∷ []) = refl
told_same told s (a ∷ b ∷ c ∷ d ∷ e ∷ f ∷ []) = refl
told_same told s (a ∷ b ∷ c ∷ d ∷ e ∷ f ∷ g ∷ rest) = long_told told a b c d e f g rest s

pub section_tests-six : (told : Told) (begun : List Section) (fields : List (List ℕ)) → section_tests told begun (take 6 fields) ≡ section_tests told begun fields
section_tests-six told [] fields = refl
section_tests-six told (s ∷ ss) fields = tests_same told s fields

pub told_within-six : (told : Told) (begun : List Section) (fields : List (List ℕ)) → told_within told begun (take 6 fields) ≡ told_within told begun fields
told_within-six told [] fields = refl
told_within-six told (s ∷ ss) fields = told_same told s fields

pub first_field : (fields : List (List ℕ)) (word : List ℕ) → slice_get (take 6 fields) 0 ≡ Some word → word ≡ field fields 0
first_field [] word e = absurd cc
first_field (f ∷ fs) word e = cc
