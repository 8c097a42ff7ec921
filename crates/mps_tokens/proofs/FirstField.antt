-- The first of the fields of a line, and the others.
use Rattle.std.proofs.Common.{◌≡◌, ℕ, suc, ◌+◌, ◌<◌, ◌≤◌, ◌-◌, ◌≢◌, ◌⊎◌, min, not, true, false, List, [], ◌∷◌, ◌++◌, length, take, drop, set, map, get_or, refl, add-zero, sym, ap, ◌∙◌, inl, inr, arith}
use Rattle.std.specs.List.{slice_split, before_first, after_first, position_or_len, prefix_len, filter, All}
use Rattle.std.proofs.lemmas.Bool.{cases_lt, cases_Bool, ne_eqb}
use Rattle.std.proofs.lemmas.List.{take_all, take_at, drop_all, drop_more, drop-drop, length-take, length-drop, length-append, get_or-drop, get_or-set_same, get_or-set_other, take_more_set, map_push, append_assoc, append-nil}
use Rattle.std.proofs.lemmas.List.Splits.{slice_split_first, slice_split_none, slice_split-cons_yes}
use Rattle.std.proofs.lemmas.List.Sums.{fails_before_first, passes_at_first, prefix_len_stops, prefix_len-le-length}
use Rattle.mps_tokens.specs.FieldsOf.{is_blank, is_filled, fields_of, span_of, AreWithin}

skip_one : (b : ℕ) (bs : List ℕ) → is_blank b ≡ true → fields_of (b ∷ bs) ≡ fields_of bs
skip_one b bs e = ap (filter is_filled) (slice_split-cons_yes is_blank b bs e)

first_not : (xs : List ℕ) → 0 < length xs → is_blank (get_or xs 0 0) ≡ false → 0 < position_or_len is_blank xs
first_not [] h e = absurd (omega arith)
first_not (b ∷ bs) h e = rw e (omega arith)

pub fields_skip : (xs : List ℕ) → fields_of xs ≡ fields_of (drop (prefix_len is_blank xs) xs)
fields_skip [] = refl
fields_skip (b ∷ bs) = elim (cases_Bool (is_blank b)) [
  | inl e ↦
      let one : 1 + prefix_len is_blank bs ≡ suc (prefix_len is_blank bs) = omega arith in
      let goes_on : drop (prefix_len is_blank (b ∷ bs)) (b ∷ bs) ≡ drop (prefix_len is_blank bs) bs = rw (e, one) refl in
      skip_one b bs e ∙ fields_skip bs ∙ ap fields_of (sym goes_on)
  | inr e ↦
      let stays : drop (prefix_len is_blank (b ∷ bs)) (b ∷ bs) ≡ b ∷ bs = rw e refl in
      ap fields_of (sym stays)
]

filled : (xs : List ℕ) → 0 < length xs → is_filled xs ≡ true
filled [] h = absurd (omega arith)
filled (b ∷ bs) h = rw (ne_eqb (length (b ∷ bs)) 0 (λ e. omega arith)) refl

keep_first : (part : List ℕ) (parts : List (List ℕ)) → 0 < length part → filter is_filled (part ∷ parts) ≡ part ∷ filter is_filled parts
keep_first part parts h = rw (filled part h) refl

pub fields_first : (xs : List ℕ) → 0 < position_or_len is_blank xs → fields_of xs ≡ before_first is_blank xs ∷ fields_of (drop (position_or_len is_blank xs) xs)
fields_first xs some =
    let n = position_or_len is_blank xs in
    let within : n ≤ length xs = prefix_len-le-length (λ b. not (is_blank b)) xs in
    let front_some : 0 < length (before_first is_blank xs) = omega (arith, length-take n xs) in
    elim (cases_lt n (length xs)) [
      | inl lt ↦
          let rest : drop n xs ≡ get_or xs n 0 ∷ after_first is_blank xs = drop_more xs n 0 lt in
          let skipped : fields_of (drop n xs) ≡ fields_of (after_first is_blank xs) = ap fields_of rest ∙ skip_one (get_or xs n 0) (after_first is_blank xs) (passes_at_first is_blank xs 0 lt) in
          ap (filter is_filled) (slice_split_first is_blank xs 0 lt) ∙ keep_first (before_first is_blank xs) (slice_split is_blank (after_first is_blank xs)) front_some ∙ ap (λ (fs : List (List ℕ)). before_first is_blank xs ∷ fs) (sym skipped)
      | inr le ↦
          let none : All (λ x. is_blank x ≡ false) xs = λ k d lt. fails_before_first is_blank xs k d (omega arith) in
          let whole : before_first is_blank xs ≡ xs = take_all n xs le in
          let rest : drop n xs ≡ [] = drop_all n xs le in
          ap (filter is_filled) (slice_split_none is_blank xs none) ∙ rw (whole, rest) (keep_first xs [] (omega (arith, ap length whole)))
    ]

-- one more field of a line whose rest begins at `at`
pub fields_turn : (line : List ℕ) (at begin end : ℕ) → begin ≡ at + prefix_len is_blank (drop at line) → end ≡ begin + position_or_len is_blank (drop begin line) → begin < length line
    → fields_of (drop at line) ≡ span_of line (begin, end) ∷ fields_of (drop end line)
fields_turn line at begin end b-is e-is lt =
    let skip = prefix_len is_blank (drop at line) in
    let at_begin : drop skip (drop at line) ≡ drop begin line = drop-drop skip at line ∙ ap (λ (n : ℕ). drop n line) (sym b-is) in
    let skipped : fields_of (drop at line) ≡ fields_of (drop begin line) = fields_skip (drop at line) ∙ ap fields_of at_begin in
    let skip_short : skip < length (drop at line) = omega (arith, length-drop at line) in
    let stops : is_blank (get_or (drop begin line) 0 0) ≡ false = rw (← at_begin, get_or-drop skip (drop at line) 0 0, add-zero) (prefix_len_stops is_blank (drop at line) 0 skip_short) in
    let n = position_or_len is_blank (drop begin line) in
    let some : 0 < n = first_not (drop begin line) (omega (arith, length-drop begin line)) stops in
    let first = fields_first (drop begin line) some in
    let size : end - begin ≡ n = omega arith in
    let rest : drop n (drop begin line) ≡ drop end line = drop-drop n begin line ∙ ap (λ (m : ℕ). drop m line) (sym e-is) in
    skipped ∙ first ∙ rw (size, rest) refl

-- a list of pairs grows by what is written at the next place
pub spans_more : (line : List ℕ) (spans : List (ℕ × ℕ)) (count at begin end : ℕ) → count < length spans → begin ≡ at + prefix_len is_blank (drop at line) → end ≡ begin + position_or_len is_blank (drop begin line) → begin < length line
    → map (span_of line) (take count spans) ++ fields_of (drop at line) ≡ fields_of line
    → map (span_of line) (take (count + 1) (set spans count (begin, end))) ++ fields_of (drop end line) ≡ fields_of line
spans_more line spans count at begin end room b-is e-is lt so_far =
    let turn = fields_turn line at begin end b-is e-is lt in
    let grown : take (count + 1) (set spans count (begin, end)) ≡ take count spans ++ (begin, end) ∷ [] = take_more_set spans count (begin, end) room in
    let mapped : map (span_of line) (take count spans ++ (begin, end) ∷ []) ≡ map (span_of line) (take count spans) ++ span_of line (begin, end) ∷ [] = map_push (span_of line) (take count spans) (begin, end) in
    ap (λ (xs : List (ℕ × ℕ)). map (span_of line) xs ++ fields_of (drop end line)) grown
    ∙ ap (λ (xs : List (List ℕ)). xs ++ fields_of (drop end line)) mapped
    ∙ append_assoc (map (span_of line) (take count spans)) (span_of line (begin, end) ∷ []) (fields_of (drop end line))
    ∙ ap (λ (xs : List (List ℕ)). map (span_of line) (take count spans) ++ xs) (sym turn)
    ∙ so_far

-- all that is left of the line is blank
pub fields_end : (line : List ℕ) (at begin : ℕ) → begin ≡ at + prefix_len is_blank (drop at line) → begin ≡ length line → fields_of (drop at line) ≡ []
fields_end line at begin b-is e =
    let skip = prefix_len is_blank (drop at line) in
    let at_begin : drop skip (drop at line) ≡ [] = drop-drop skip at line ∙ ap (λ (n : ℕ). drop n line) (sym b-is) ∙ drop_all begin line (omega arith) in
    fields_skip (drop at line) ∙ ap fields_of at_begin

-- six fields were found, or all
pub spans_done : (found rest fields : List (List ℕ)) (count : ℕ) → found ++ rest ≡ fields → length found ≡ count → count ≤ 6 → (count ≡ 6) ⊎ (rest ≡ []) → (found ≡ take 6 fields) × (count ≡ min 6 (length fields))
spans_done found rest fields count e size most (inl full) =
    let front : take 6 (found ++ rest) ≡ found = take_at found rest 6 (size ∙ full) in
    (sym front ∙ ap (λ (xs : List (List ℕ)). take 6 xs) e, omega (arith, ap length e, length-append found rest))
spans_done found rest fields count e size most (inr none) =
    let all : found ≡ fields = sym (append-nil found) ∙ ap (λ (xs : List (List ℕ)). found ++ xs) (sym none) ∙ e in
    (all ∙ sym (take_all 6 fields (omega (arith, ap length all))), omega (arith, ap length all))

pub within_more : (line : List ℕ) (spans : List (ℕ × ℕ)) (count begin end : ℕ) → count < length spans → begin ≤ end → end ≤ length line → AreWithin line spans count → AreWithin line (set spans count (begin, end)) (count + 1)
within_more line spans count begin end room order inside so_far k lt =
    elim (cases_lt k count) [
      | inl below ↦
          let other : k ≢ count = omega arith in
          rw (get_or-set_other spans count k (begin, end) (0, 0) other) (so_far k below)
      | inr above ↦
          let e : k ≡ count = omega arith in
          rw (e, get_or-set_same spans count (begin, end) (0, 0) room) (order, inside)
    ]
