-- What lines tell, one line after the other.
use Rattle.std.proofs.Common.{◌≡◌, ℕ, suc, ◌+◌, Bool, true, false, cond, ◌&&◌, not, List, [], ◌∷◌, ◌++◌, length, Option, None, refl, ap, ◌∙◌, arith}
use Rattle.std.specs.Prelude.{option_to_list}
use Rattle.mps_tokens.specs.FieldsOf.{fields_of}
use Rattle.mps_tokens.specs.Cases.{named}
use Rattle.mps_tokens.specs.Words.{section_names}
use Rattle.mps_tokens.specs.declared.words.Section.{Section}
use Rattle.mps_tokens.specs.declared.words.Section.TheVariants as sections
use Rattle.mps_grammar.specs.Lines.{Data, field, is_passed, is_indented, sections_by, data_after, data_by}
use Rattle.mps_grammar.specs.Told.{told_by, told_by_data}
use Rattle.mps_grammar.specs.After.{told_more, told_within, told_header, counted, told_after}

-- a data line more
more : (n : ℕ) (begun : List Section) (ds : List Data) (s : Section) (fields : List (List ℕ)) → told_by_data (n + 1) begun (record { line = n + 1; section = s; fields = fields } ∷ ds) ≡ counted (told_more (told_by_data n begun ds) s fields)
more n begun ds sections.Name fields = refl
more n begun ds sections.Rows fields = refl
more n begun ds sections.Columns fields = refl
more n begun ds sections.Rhs fields = refl
more n begun ds sections.Ranges fields = refl
more n begun ds sections.Bounds fields = refl
more n begun ds sections.QuadObj fields = refl
more n begun ds sections.QMatrix fields = refl
more n begun ds sections.DMatrix fields = refl
more n begun ds sections.EndData fields = refl
more n begun ds sections.ObjSense fields = refl

step : (n : ℕ) (begun : List Section) (ds : List Data) (passed indented : Bool) (section : Option Section) (fields : List (List ℕ))
    → told_by_data (n + 1) (option_to_list (cond (not passed && not indented) section None) ++ begun) (cond (not passed && indented) (data_after begun (n + 1) fields) [] ++ ds)
    ≡ counted (cond passed (told_by_data n begun ds) (cond indented (told_within (told_by_data n begun ds) begun fields) (told_header (told_by_data n begun ds) section)))
step n begun ds true indented section fields = refl
step n [] ds false true section fields = refl
step n (s ∷ ss) ds false true section fields = more n (s ∷ ss) ds s fields
step n begun ds false false section fields = refl

pub told_line : (earlier : List (List ℕ)) (line : List ℕ) → told_by (line ∷ earlier) ≡ told_after (told_by earlier) line
told_line earlier line =
    let n = length earlier in
    let count : suc n ≡ n + 1 = omega arith in
    ap (λ (c : ℕ). record (told_by (line ∷ earlier)) { lines = c }) count
    ∙ step n (sections_by earlier) (data_by earlier) (is_passed line) (is_indented line) (named section_names (field (fields_of line) 0)) (fields_of line)
