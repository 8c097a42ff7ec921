-- A header or a data line by its fields.
use Rattle.std.proofs.Common.{◌≡◌, ℕ, ◌<◌, Bool, true, false, cond, not, ◌&&◌, ◌||◌, eqb, List, [], ◌∷◌, take, length, None, Result, Ok, Err, refl, sym, ap, subst, ◌∙◌, inl, inr, arith}
use Rattle.std.specs.Prelude.{filter}
use Rattle.std.specs.List.{slice_split, onto_first}
use Rattle.std.proofs.lemmas.Bool.{cases_Bool, eqb-true}
use Rattle.std.proofs.lemmas.Bool.Decides.{nat_tests}
use Rattle.mps_tokens.specs.FieldsOf.{is_blank, is_filled, fields_of}
use Rattle.mps_tokens.specs.Cases.{named}
use Rattle.mps_tokens.specs.Words.{section_names}
use Rattle.mps_grammar.specs.Lines.{field, is_comment, is_indented}
use Rattle.mps_grammar.specs.Told.{Told}
use Rattle.mps_grammar.specs.After.{told_within, told_header, told_content}
use Rattle.mps_grammar.specs.Faults.{first_of, section_tests, header_tests, content_tests}
use Rattle.mps_grammar.specs.Verdict.{is_end, ends}
use Rattle.mps_notes.specs.declared.notes.Notes.{Notes}
use Rattle.mps_sections.specs.declared.stop.LineStop.{LineStop}
use Rattle.mps_sections.specs.declared.stop.LineStop.TheVariants as stops
use Rattle.mps_notes.specs.Notes.{told_in}
use Rattle.mps_notes.specs.Notes.{Holds}
use Rattle.mps_lines.specs.Steps.{TakesIndented, TakesHeader, TakesContent}
use Rattle.mps_lines.proofs.SixFields.{section_tests-six, told_within-six}

-- ---- a data line

module _ (n new : Notes) (line : List ℕ) (indented : is_indented line ≡ true) where
  within : content_tests (told_in n) line ≡ section_tests (told_in n) n.sections.items (take 6 (fields_of line))
  within = rw indented (sym (section_tests-six (told_in n) n.sections.items (fields_of line)))

  content : told_content (told_in n) line ≡ told_within (told_in n) n.sections.items (take 6 (fields_of line))
  content = rw indented (sym (told_within-six (told_in n) n.sections.items (fields_of line)))

  no_end : (passed : Bool) → is_end (cond (not passed && not (is_indented line)) (named section_names (field (fields_of line) 0)) None) ≡ false
  no_end true = refl
  no_end false = rw indented refl

  pub indented_ok : TakesIndented n (take 6 (fields_of line)) new (Ok tt) → TakesContent n line new (Ok false)
  indented_ok t =
      let P : Told → Type 0 = λ told. Holds told new in
      (ap first_of within ∙ t.0, (subst P (sym content) t.1, sym (no_end (is_comment line || eqb (length (fields_of line)) 0))))

  pub indented_err : (stop : LineStop) → TakesIndented n (take 6 (fields_of line)) new (Err stop) → TakesContent n line new (Err stop)
  indented_err stops.Memory t = tt
  indented_err (stops.Fault kind) t = ap first_of within ∙ t

-- ---- a header

not_none : (k : ℕ) → 0 < k → eqb k 0 ≡ false
not_none k lt = grind (arith, nat_tests)

-- the first field of a comment is no word
starred : (parts : List (List ℕ)) → named section_names (field (filter is_filled (onto_first 42 parts)) 0) ≡ None
starred [] = refl
starred (p ∷ ps) = rw (not_none (length (42 ∷ p)) (omega arith)) refl

comment_unnamed : (line : List ℕ) → is_comment line ≡ true → named section_names (field (fields_of line) 0) ≡ None
comment_unnamed [] e = absurd cc
comment_unnamed (b ∷ bs) e =
    let P : ℕ → Type 0 = λ c. named section_names (field (fields_of (c ∷ bs)) 0) ≡ None in
    subst P (sym (eqb-true b 42 e)) (starred (slice_split is_blank bs))

header_ends : (line : List ℕ) → is_indented line ≡ false → 0 < length (fields_of line) → ends line ≡ is_end (named section_names (field (fields_of line) 0))
header_ends line outside some =
    let filled = not_none (length (fields_of line)) some in
    elim (cases_Bool (is_comment line)) [
      | inl t ↦ rw (t, comment_unnamed line t) refl
      | inr t ↦ rw (t, filled, outside) refl
    ]

pub header_done : (n new : Notes) (line word : List ℕ) (r : Result Bool LineStop) → is_indented line ≡ false → 0 < length (fields_of line) → word ≡ field (fields_of line) 0 → TakesHeader n word new r → TakesContent n line new r
header_done n new line word (Ok ended) outside some e t =
    let P : Told → Type 0 = λ told. Holds told new in
    let content : told_content (told_in n) line ≡ told_header (told_in n) (named section_names word) = rw (outside, e) refl in
    let tests : content_tests (told_in n) line ≡ header_tests (told_in n) (named section_names word) = rw (outside, e) refl in
    (ap first_of tests ∙ t.0, (subst P (sym content) t.1.0, t.1.1 ∙ ap (λ w. is_end (named section_names w)) e ∙ sym (header_ends line outside some)))
header_done n new line word (Err stops.Memory) outside some e t = tt
header_done n new line word (Err (stops.Fault kind)) outside some e t =
    let tests : content_tests (told_in n) line ≡ header_tests (told_in n) (named section_names word) = rw (outside, e) refl in
    ap first_of tests ∙ t
