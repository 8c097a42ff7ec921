-- What a line does to what is kept.
use Rattle.std.specs.Prelude.{◌≡◌, ℕ, ◌&&◌, not, Bool, false, List, ◌∷◌, Some, Result}
use Rattle.mps_tokens.specs.Lines.{without_return}
use Rattle.mps_tokens.specs.Cases.{named}
use Rattle.mps_tokens.specs.Words.{section_names}
use Rattle.mps_tokens.specs.declared.words.Section.{Section}
use Rattle.mps_tokens.specs.declared.words.Section.TheVariants as sections
use Rattle.mps_grammar.specs.declared.kinds.FaultKind.TheVariants as kinds
use Rattle.mps_grammar.specs.Lines.{is_comment}
use Rattle.mps_grammar.specs.Told.{is_rows, is_columns, is_rhs, is_ranges, is_bounds, is_quadratic}
use Rattle.mps_grammar.specs.After.{told_within, told_header, told_content, told_shown, told_after}
use Rattle.mps_grammar.specs.Faults.{section_tests, header_tests, is_plain, content_tests, shown_tests, line_tests}
use Rattle.mps_grammar.specs.Verdict.{is_end, ends}
use Rattle.mps_sections.specs.declared.stop.LineStop.{LineStop}
use Rattle.mps_notes.specs.declared.notes.Notes.{Notes}
use Rattle.mps_notes.specs.Notes.{told_in, Holds}
use Rattle.mps_sections.specs.Steps.{Judged}

abbrev pub TakesIndented : Notes → List (List ℕ) → Notes → Result Unit LineStop → Type 0
TakesIndented old fields new result =
    Judged (section_tests (told_in old) old.sections.items fields) (λ done. Holds (told_within (told_in old) old.sections.items fields) new) result

-- ---- headers

abbrev pub is_end_section : Section → Bool
is_end_section section = is_end (Some section)

-- whether the other is this section, or both are quadratic ones; of NAME, ENDATA and OBJSENSE nothing asks
abbrev pub is_like : Section → Section → Bool
is_like sections.Name = λ other. false
is_like sections.Rows = is_rows
is_like sections.Columns = is_columns
is_like sections.Rhs = is_rhs
is_like sections.Ranges = is_ranges
is_like sections.Bounds = is_bounds
is_like sections.QuadObj = is_quadratic
is_like sections.QMatrix = is_quadratic
is_like sections.DMatrix = is_quadratic
is_like sections.EndData = λ other. false
is_like sections.ObjSense = λ other. false

abbrev pub TakesHeader : Notes → List ℕ → Notes → Result Bool LineStop → Type 0
TakesHeader old word new result =
    Judged (header_tests (told_in old) (named section_names word)) (λ ended. Holds (told_header (told_in old) (named section_names word)) new × (ended ≡ is_end (named section_names word))) result

-- ---- any line

abbrev pub TakesContent : Notes → List ℕ → Notes → Result Bool LineStop → Type 0
TakesContent old line new result = Judged (content_tests (told_in old) line) (λ ended. Holds (told_content (told_in old) line) new × (ended ≡ ends line)) result

abbrev pub TakesShown : Notes → List ℕ → Notes → Result Bool LineStop → Type 0
TakesShown old line new result =
    Judged ((not (is_comment line) && not (is_plain line), kinds.NotAscii) ∷ shown_tests (told_in old) line) (λ ended. Holds (told_shown (told_in old) line) new × (ended ≡ ends line)) result

-- a line that begins behind so many bytes, with its carriage return
abbrev pub TakesLine : Notes → ℕ → List ℕ → Notes → Result Bool LineStop → Type 0
TakesLine old at raw new result =
    Judged (line_tests (told_in old) at raw) (λ ended. Holds (told_after (told_in old) (without_return raw)) new × (ended ≡ ends (without_return raw))) result
