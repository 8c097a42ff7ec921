-- The lines of a text with another behind its last line feed.
use Rattle.std.proofs.Common.{◌≡◌, ℕ, ◌+◌, ◌-◌, ◌<◌, Bool, true, false, not, cond, List, [], ◌∷◌, ◌++◌, length, take, drop, get_or, refl, sym, ap, ◌∙◌, arith, append_assoc, take-append-drop, length-append}
use Rattle.std.specs.List.{slice_split, onto_first, before_first, position_or_len}
use Rattle.std.proofs.lemmas.List.{append-nil, drop_all, drop_more, drop-drop, length-take}
use Rattle.std.proofs.lemmas.List.Sums.{prefix_len-le-length}
use Rattle.std.proofs.lemmas.Option.{slice_get_within, get_or_from_slice_get}
use Rattle.mps_tokens.specs.Lines.{is_line_feed, without_empty_last, raw_lines}
use Rattle.mps_tokens.proofs.FirstLine.{HasFirst, split_has_first, keeps_first, raw_lines_first}
use Rattle.mps_reader.specs.Appended.{EndsInLineFeed}

-- ---- a text that ends in a line feed

pub feed_last : (text : List ℕ) → EndsInLineFeed text → take (length text - 1) text ++ 10 ∷ [] ≡ text
feed_last text h =
    let lt : length text - 1 < length text = slice_get_within text (length text - 1) 10 h in
    let last : get_or text (length text - 1) 10 ≡ 10 = get_or_from_slice_get text (length text - 1) 10 10 h in
    let none : drop (length text - 1 + 1) text ≡ [] = drop_all (length text - 1 + 1) text (omega (arith, lt)) in
    let end : drop (length text - 1) text ≡ 10 ∷ [] = drop_more text (length text - 1) 10 lt ∙ rw (last, none) refl in
    ap (λ (l : List ℕ). take (length text - 1) text ++ l) (sym end) ∙ take-append-drop (length text - 1) text

-- ---- the lines of both

onto_more : (b : ℕ) (parts more : List (List ℕ)) → HasFirst parts → onto_first b (parts ++ more) ≡ onto_first b parts ++ more
onto_more b parts more h = rw h.parts_are refl

split_one : (b : ℕ) (t : Bool) (long parts more : List (List ℕ)) → HasFirst parts → long ≡ parts ++ more → cond t ([] ∷ long) (onto_first b long) ≡ cond t ([] ∷ parts) (onto_first b parts) ++ more
split_one b true long parts more h e = ap (λ (ps : List (List ℕ)). [] ∷ ps) e
split_one b false long parts more h e = ap (onto_first b) e ∙ onto_more b parts more h

split_more : (front more : List ℕ) → slice_split is_line_feed (front ++ 10 ∷ more) ≡ slice_split is_line_feed front ++ slice_split is_line_feed more
split_more [] more = refl
split_more (b ∷ bs) more =
    split_one b (is_line_feed b) (slice_split is_line_feed (bs ++ 10 ∷ more)) (slice_split is_line_feed bs) (slice_split is_line_feed more) (split_has_first is_line_feed bs) (split_more bs more)

append_has_first : (parts more : List (List ℕ)) → HasFirst more → HasFirst (parts ++ more)
append_has_first [] more h = h
append_has_first (part ∷ parts) more h = record { first = part; others = parts ++ more; parts_are = refl }

empty_last_more : (parts more : List (List ℕ)) → HasFirst more → without_empty_last (parts ++ more) ≡ parts ++ without_empty_last more
empty_last_more [] more h = refl
empty_last_more (part ∷ parts) more h = keeps_first part (parts ++ more) (append_has_first parts more h) ∙ ap (λ (ps : List (List ℕ)). part ∷ ps) (empty_last_more parts more h)

pub raw_more : (front more : List ℕ) → raw_lines (front ++ 10 ∷ more) ≡ slice_split is_line_feed front ++ raw_lines more
raw_more front more = ap without_empty_last (split_more front more) ∙ empty_last_more (slice_split is_line_feed front) (slice_split is_line_feed more) (split_has_first is_line_feed more)

raw_ended : (front : List ℕ) → raw_lines (front ++ 10 ∷ []) ≡ slice_split is_line_feed front
raw_ended front = raw_more front [] ∙ append-nil (slice_split is_line_feed front)

pub lines_more : (text more : List ℕ) → EndsInLineFeed text → raw_lines (text ++ more) ≡ raw_lines text ++ raw_lines more
lines_more text more h =
    let front = take (length text - 1) text in
    let both : text ++ more ≡ front ++ 10 ∷ more = ap (λ (l : List ℕ). l ++ more) (sym (feed_last text h)) ∙ append_assoc front (10 ∷ []) more in
    let own : raw_lines text ≡ slice_split is_line_feed front = ap raw_lines (sym (feed_last text h)) ∙ raw_ended front in
    ap raw_lines both ∙ raw_more front more ∙ ap (λ (ls : List (List ℕ)). ls ++ raw_lines more) (sym own)

-- ---- how many bytes lines have with their line feeds

abbrev pub sizes : List (List ℕ) → ℕ
sizes [] = 0
sizes (raw ∷ raws) = length raw + 1 + sizes raws

sizes_more : (b : ℕ) (t : Bool) (parts : List (List ℕ)) → HasFirst parts → sizes (cond t ([] ∷ parts) (onto_first b parts)) ≡ sizes parts + 1
sizes_more b true parts h = omega arith
sizes_more b false parts h = rw h.parts_are (omega arith)

split_sizes : (front : List ℕ) → sizes (slice_split is_line_feed front) ≡ length front + 1
split_sizes [] = refl
split_sizes (b ∷ bs) = sizes_more b (is_line_feed b) (slice_split is_line_feed bs) (split_has_first is_line_feed bs) ∙ omega (arith, split_sizes bs)

pub sizes_ended : (text : List ℕ) → EndsInLineFeed text → sizes (raw_lines text) ≡ length text
sizes_ended text h =
    let front = take (length text - 1) text in
    let own : raw_lines text ≡ slice_split is_line_feed front = ap raw_lines (sym (feed_last text h)) ∙ raw_ended front in
    let long : length front + 1 ≡ length text = sym (length-append front (10 ∷ [])) ∙ ap length (feed_last text h) in
    ap sizes own ∙ split_sizes front ∙ long

pub sizes_append : (front after : List (List ℕ)) → sizes (front ++ after) ≡ sizes front + sizes after
sizes_append [] after = omega arith
sizes_append (raw ∷ raws) after = omega (arith, sizes_append raws after)

-- ---- the lines behind the first ones

pub lines_behind : (front after : List (List ℕ)) (text : List ℕ) → raw_lines text ≡ front ++ after → raw_lines (drop (sizes front) text) ≡ after
lines_behind [] after text e = e
lines_behind (raw ∷ raws) after [] e = absurd cc
lines_behind (raw ∷ raws) after (b ∷ bs) e =
    let text = b ∷ bs in
    let n = position_or_len is_line_feed text in
    let turn : before_first is_line_feed text ∷ raw_lines (drop (n + 1) text) ≡ raw ∷ (raws ++ after) = sym (raw_lines_first text (omega arith)) ∙ e in
    let first : before_first is_line_feed text ≡ raw = cc in
    let others : raw_lines (drop (n + 1) text) ≡ raws ++ after = cc in
    let size : length raw ≡ n = ap length (sym first) ∙ omega (arith, length-take n text, prefix_len-le-length (λ b. not (is_line_feed b)) text) in
    let place : n + 1 + sizes raws ≡ length raw + 1 + sizes raws = omega (arith, size) in
    ap raw_lines (ap (λ (k : ℕ). drop k text) (sym place) ∙ sym (drop-drop (sizes raws) (n + 1) text)) ∙ lines_behind raws after (drop (n + 1) text) others
