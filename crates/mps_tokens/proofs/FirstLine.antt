-- The first of the lines of a text, and the others.
use Rattle.std.proofs.Common.{◌≡◌, ℕ, ◌+◌, ◌<◌, min, Bool, true, false, cond, List, [], ◌∷◌, length, drop, map, refl, sym, ap, ◌∙◌, inl, inr, arith}
use Rattle.std.specs.List.{slice_split, onto_first, before_first, after_first, position_or_len, All}
use Rattle.std.proofs.lemmas.Bool.{cases_lt}
use Rattle.std.proofs.lemmas.List.{take_all, drop_all, drop-drop, drop_min, length-drop}
use Rattle.std.proofs.lemmas.List.Splits.{slice_split_first, slice_split_none}
use Rattle.std.proofs.lemmas.List.Sums.{fails_before_first}
use Rattle.mps_tokens.specs.Lines.{is_line_feed, without_empty_last, without_return, raw_lines, lines_of}

-- a split has a first part
pub record HasFirst (parts : List (List ℕ)) : Type 0 where
  pub first : List ℕ
  pub others : List (List ℕ)
  pub parts_are : parts ≡ first ∷ others

onto_first_has : (b : ℕ) (parts : List (List ℕ)) → HasFirst (onto_first b parts)
onto_first_has b [] = record { first = b ∷ []; others = []; parts_are = refl }
onto_first_has b (p ∷ ps) = record { first = b ∷ p; others = ps; parts_are = refl }

cond_has : (t : Bool) (xs ys : List (List ℕ)) → HasFirst xs → HasFirst ys → HasFirst (cond t xs ys)
cond_has true xs ys p q = p
cond_has false xs ys p q = q

pub split_has_first : (p : ℕ → Bool) (xs : List ℕ) → HasFirst (slice_split p xs)
split_has_first p [] = record { first = []; others = []; parts_are = refl }
split_has_first p (x ∷ xs) = cond_has (p x) ([] ∷ slice_split p xs) (onto_first x (slice_split p xs)) (record { first = []; others = slice_split p xs; parts_are = refl }) (onto_first_has x (slice_split p xs))

pub keeps_first : (part : List ℕ) (parts : List (List ℕ)) → HasFirst parts → without_empty_last (part ∷ parts) ≡ part ∷ without_empty_last parts
keeps_first part parts h = rw h.parts_are refl

keeps_only : (part : List ℕ) → 0 < length part → without_empty_last (part ∷ []) ≡ part ∷ []
keeps_only [] h = absurd (omega arith)
keeps_only (b ∷ bs) h = refl

pub raw_lines_first : (xs : List ℕ) → 0 < length xs → raw_lines xs ≡ before_first is_line_feed xs ∷ raw_lines (drop (position_or_len is_line_feed xs + 1) xs)
raw_lines_first xs some =
    let n = position_or_len is_line_feed xs in
    elim (cases_lt n (length xs)) [
      | inl lt ↦
          ap without_empty_last (slice_split_first is_line_feed xs 0 lt)
          ∙ keeps_first (before_first is_line_feed xs) (slice_split is_line_feed (after_first is_line_feed xs)) (split_has_first is_line_feed (after_first is_line_feed xs))
      | inr le ↦
          let none : All (λ x. is_line_feed x ≡ false) xs = λ k d lt. fails_before_first is_line_feed xs k d (omega arith) in
          let whole : before_first is_line_feed xs ≡ xs = take_all n xs le in
          let rest : drop (n + 1) xs ≡ [] = drop_all (n + 1) xs (omega arith) in
          ap without_empty_last (slice_split_none is_line_feed xs none) ∙ rw (whole, rest) (keeps_only xs some)
    ]

pub lines_first : (xs : List ℕ) → 0 < length xs → lines_of xs ≡ without_return (before_first is_line_feed xs) ∷ lines_of (drop (position_or_len is_line_feed xs + 1) xs)
lines_first xs some = ap (map without_return) (raw_lines_first xs some)

-- the line at a place of a text, and the lines from the next place on
pub lines_turn : (text : List ℕ) (from next : ℕ) (line : List ℕ) → from < length text → line ≡ without_return (before_first is_line_feed (drop from text)) → next ≡ min (from + position_or_len is_line_feed (drop from text) + 1) (length text)
    → lines_of (drop from text) ≡ line ∷ lines_of (drop next text)
lines_turn text from next line lt line-is next-is =
    let n = position_or_len is_line_feed (drop from text) in
    let some : 0 < length (drop from text) = omega (arith, length-drop from text) in
    let e : from + (n + 1) ≡ from + n + 1 = omega arith in
    let rest : drop (n + 1) (drop from text) ≡ drop next text = drop-drop (n + 1) from text ∙ rw e (sym (drop_min (from + n + 1) text)) ∙ ap (λ (m : ℕ). drop m text) (sym next-is) in
    lines_first (drop from text) some ∙ rw (line-is, rest) refl
