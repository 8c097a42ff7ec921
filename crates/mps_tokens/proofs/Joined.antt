-- What is written line by line and field by field is read again.
use Rattle.std.proofs.Common.{◌≡◌, ℕ, false, List, [], ◌∷◌, ◌++◌, map, refl, ap, ◌∙◌, append_assoc}
use Rattle.std.specs.List.{slice_split, onto_first, flat_map, filter, AllByRecursion}
use Rattle.std.proofs.lemmas.List.{append-nil}
use Rattle.std.proofs.lemmas.List.Concat.{flat_map-cons}
use Rattle.std.proofs.lemmas.List.Splits.{slice_split-cons_no, slice_split_at}
use Rattle.mps_tokens.specs.Lines.{is_line_feed, without_empty_last, without_return, raw_lines, lines_of}
use Rattle.mps_tokens.specs.FieldsOf.{is_blank, is_filled, fields_of}
use Rattle.mps_tokens.specs.Written.{ended, spaced, IsLine, IsField}
use Rattle.mps_tokens.proofs.FirstLine.{keeps_first, split_has_first}

-- ---- lines

whole : (line : List ℕ) → IsLine line → without_return line ≡ line
whole line h = rw h.no_return refl

raw_lines-ended : (line rest : List ℕ) → IsLine line → raw_lines (ended line ++ rest) ≡ line ∷ raw_lines rest
raw_lines-ended line rest h =
    let e : ended line ++ rest ≡ line ++ 10 ∷ rest = append_assoc line (10 ∷ []) rest in
    ap raw_lines e ∙ ap without_empty_last (slice_split_at is_line_feed line 10 rest h.one_line refl) ∙ keeps_first line (slice_split is_line_feed rest) (split_has_first is_line_feed rest)

pub lines_joined : (lines : List (List ℕ)) → AllByRecursion IsLine lines → lines_of (flat_map ended lines) ≡ lines
lines_joined [] h = refl
lines_joined (line ∷ lines) h =
    ap lines_of (flat_map-cons ended line lines)
    ∙ ap (map without_return) (raw_lines-ended line (flat_map ended lines) h.0)
    ∙ rw (whole line h.0) (ap (λ (ls : List (List ℕ)). line ∷ ls) (lines_joined lines h.1))

-- ---- fields

split-front : (front rest first : List ℕ) (others : List (List ℕ)) → AllByRecursion (λ b. is_blank b ≡ false) front → slice_split is_blank rest ≡ first ∷ others → slice_split is_blank (front ++ rest) ≡ (front ++ first) ∷ others
split-front [] rest first others h e = e
split-front (b ∷ bs) rest first others h e = slice_split-cons_no is_blank b (bs ++ rest) h.0 ∙ ap (onto_first b) (split-front bs rest first others h.1 e)

split_spaced : (fields : List (List ℕ)) → AllByRecursion IsField fields → slice_split is_blank (flat_map spaced fields) ≡ [] ∷ fields
split_spaced [] h = refl
split_spaced (f ∷ fs) h =
    let one : slice_split is_blank (f ++ flat_map spaced fs) ≡ (f ++ []) ∷ fs = split-front f (flat_map spaced fs) [] fs h.0.unbroken (split_spaced fs h.1) in
    ap (slice_split is_blank) (flat_map-cons spaced f fs) ∙ ap (λ (parts : List (List ℕ)). [] ∷ parts) (one ∙ ap (λ (g : List ℕ). g ∷ fs) (append-nil f))

filled_stay : (fields : List (List ℕ)) → AllByRecursion IsField fields → filter is_filled fields ≡ fields
filled_stay [] h = refl
filled_stay (f ∷ fs) h = rw h.0.filled (ap (λ (gs : List (List ℕ)). f ∷ gs) (filled_stay fs h.1))

pub fields_joined : (fields : List (List ℕ)) → AllByRecursion IsField fields → fields_of (flat_map spaced fields) ≡ fields
fields_joined fields h = ap (filter is_filled) (split_spaced fields h) ∙ filled_stay fields h
