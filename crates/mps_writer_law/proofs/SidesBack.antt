-- The right sides and ranges of a program's text are read back.
use Rattle.std.specs.Prelude.{◌≡◌, ◌<◌, ◌≤◌, ◌+◌, ◌&&◌, ◌||◌, nat_le, ℕ, ℤ, pos, neg_ℤ, unsigned_abs, suc, Bool, true, false, List, [], ◌∷◌, ◌++◌, map, length, Option, Some, None, IfSome, is_some, unwrap_or, codes, if◌then◌else◌}
use Rattle.std.proofs.Common.{arith, refl, sym, ap, subst, append_assoc, ◌∙◌, lit≤}
use Rattle.std.proofs.lemmas.List.{append-nil}
use Rattle.rational.specs.Rational.{ℚ, Fits, fits, zero_ℚ, neg_ℚ}
use Rattle.std.proofs.lemmas.Int.{ints}
use Rattle.std.proofs.lemmas.Bool.Decides.{nat_tests}
use Rattle.rational.proofs.Wholes.{num-whole, den-whole}
use Rattle.rational.proofs.Reciprocals.{neg_num, neg_den}
use Rattle.frac_core.specs.Parts.{max_part}
use Rattle.frac_core.specs.Text.{text_of}
use Rattle.rational.specs.Tests.{is_zero}
use Rattle.program_law.specs.Program.{Program, IsProgram}
use Rattle.program_law.specs.Places.{place_of}
use Rattle.mps_tokens.specs.Numbers.{number_of}
use Rattle.mps_tokens.specs.declared.words.Section.TheVariants as sections
use Rattle.mps_grammar.specs.declared.kinds.FaultKind.TheVariants as kinds
use Rattle.named_things.specs.Named.{names_of}
use Rattle.mps_grammar.specs.Told.{Told, Telling, is_told, is_used, first_named, with_sides, value_or_zero}
use Rattle.mps_grammar.specs.Faults.{first_of, is_long, counts_row, side_tests}
use Rattle.mps_grammar.specs.Programs.{value_at, value_told, or_other}
use Rattle.mps_writer_law.specs.Lines.{each, number_line, has_lines}
use Rattle.mps_writer_law.specs.Small.{HasSmallNumbers}
use Rattle.mps_writer_law.specs.Canonical.{row_name, sides_at, right_side, side_lines, constant_lines, right_sides_lines}
use Rattle.mps_writer_law.proofs.Numerals.{number_back}
use Rattle.mps_writer_law.proofs.Erased.{bare}
use Rattle.mps_writer_law.proofs.Fields.{IsWord, number_word}
use Rattle.mps_writer_law.proofs.Lookups.{each_back, telling, none_told, value-append, value_nowhere, value_somewhere, value_elsewhere, value_here, row_differs, same_bytes, or_none, or_false, or_true}
use Rattle.mps_writer_law.proofs.Names.{row_word, objective_word, row_short, objective_short, rows_differ, objective_differs}
use Rattle.mps_writer_law.proofs.LineLemmas.{has_append}
use Rattle.mps_writer_law.proofs.Runs.{Lead, lead_on, lead_to, lead_each, takes_data, takes_header}
use Rattle.mps_writer_law.proofs.ColumnsBack.{no_text, no_past, is_known, not_twice, long_none, one_none, objective_known, row_known}
use Rattle.mps_writer_law.proofs.EntriesBack.{entries_bare, append_bare, each_bare, unless_zero_bare}
use Rattle.mps_writer_law.proofs.SectionsBack.{section_read, first_part, second_part, nothing_each, nothing_of_zero}
use Rattle.mps_writer_law.proofs.Stages.{in_columns, entries_told, with_section, set_if, side_told, constant_told, sides_told, behind_columns, first_sections}

pub five_none : (a b c d e : Bool) → a ≡ false → b ≡ false → c ≡ false → d ≡ false → e ≡ false
    → first_of ((a, kinds.NameLong) ∷ (b, kinds.NameUnknown) ∷ (c, kinds.NumberText) ∷ (d, kinds.NumberPast) ∷ (e, kinds.EntryTwice) ∷ []) ≡ None
five_none a b c d e f g h i j = rw (f, g, h, i, j) refl

pub and_false : (a b : Bool) → b ≡ false → (a && b) ≡ false
and_false true b e = e
and_false false b e = refl

-- a number of a row, which is new
pub record IsNextSide (told : Told) (ts : List Telling) (name : List ℕ) (q : ℚ) : Type 0 where
  pub name_word : IsWord name
  pub short_name : is_long name ≡ false
  pub known : is_some (place_of (names_of told.rows) name) ≡ true
  pub small : Fits max_part q
  pub new : is_told ts [] name ≡ false

pub side_none : (told : Told) (set : Option (List ℕ)) (ts : List Telling) (head name : List ℕ) (q : ℚ) → is_long head ≡ false → IsNextSide told ts name q → first_of (side_tests told set ts (Some (head, (name, text_of q) ∷ []))) ≡ None
side_none told set ts head name q short h =
    five_none _ _ _ _ _ (long_none _ _ short h.short_name) (one_none _ (is_known _ h.known)) (one_none _ (no_text _ q (number_back q h.small))) (one_none _ (no_past _ q (number_back q h.small)))
    (and_false _ _ (not_twice (counts_row told name) (is_told ts [] name) h.new))

pub used_set : (a : Bool) (w : List ℕ) → is_used (set_if a w) w ≡ true
used_set true w = same_bytes w
used_set false w = refl

pub named_set : (a : Bool) (w : List ℕ) → first_named (set_if a w) (Some w) ≡ set_if true w
named_set true w = refl
named_set false w = refl

used_sides : (u : Bool) (pairs : List Telling) (ts : List Telling) → u ≡ true → (if u then pairs else ts) ≡ pairs
used_sides u pairs ts e = rw e refl

-- what a line of a set tells: the number, with its set as the used one
pub set_told : (a : Bool) (w name : List ℕ) (q : ℚ) (ts : List Telling) → Fits max_part q → map bare ts ≡ ts → map bare (with_sides (set_if a w) (0 + 1) (Some (w, (name, text_of q) ∷ [])) ts) ≡ telling [] name q ∷ ts
set_told a w name q ts small plain =
    ap (λ (us : List Telling). map bare us) (used_sides (is_used (set_if a w) w) (record { line = 0 + 1; column = []; row = name; value = value_or_zero (number_of (text_of q)) } ∷ ts) ts (used_set a w))
    ∙ ap (λ (v : ℚ). telling [] name v ∷ map bare ts) (ap value_or_zero (number_back q small))
    ∙ ap (λ (us : List Telling). telling [] name q ∷ us) plain

module _ (p : Program) where
  rhs_stage : Bool → List Telling → Told
  rhs_stage a ts = behind_columns p (sections.Rhs ∷ first_sections) a ts false [] false [] []

  side_read : (a : Bool) (ts : List Telling) (name : List ℕ) (q : ℚ) → map bare ts ≡ ts → IsNextSide (rhs_stage a ts) ts name q
      → Lead (rhs_stage a ts) (number_line (codes "RHS" ∷ name ∷ []) q ∷ []) (rhs_stage true (telling [] name q ∷ ts))
  unfolding rhs_stage
  side_read a ts name q plain h =
      let t = takes_data (rhs_stage a ts) sections.Rhs first_sections (codes "RHS") (name ∷ text_of q ∷ []) refl (record { word = refl }, (h.name_word, (number_word q h.small, tt))) (side_none (rhs_stage a ts) (set_if a (codes "RHS")) ts (codes "RHS") name q refl h) in (
        t.0,
        t.1
            ∙ ap (λ (us : List Telling). record (rhs_stage a ts) { side_set = first_named (set_if a (codes "RHS")) (Some (codes "RHS")); sides = us; entries = map bare (entries_told p (length p.columns)) }) (set_told a (codes "RHS") name q ts h.small plain)
            ∙ ap (λ (s : Option (List ℕ)). record (rhs_stage a (telling [] name q ∷ ts)) { side_set = s; entries = map bare (entries_told p (length p.columns)) }) (named_set a (codes "RHS"))
            ∙ ap (λ (us : List Telling). record (rhs_stage true (telling [] name q ∷ ts)) { entries = us }) (entries_bare p (length p.columns)),
      )

-- ---- the numbers are small

two_tests : (a b c d : ℕ) → (nat_le a b && nat_le c d) ≡ true → (a ≤ b) × (c ≤ d)
two_tests a b c d e = grind (arith, nat_tests)

pub fits_back : (top : ℕ) (q : ℚ) → fits top q ≡ true → Fits top q
fits_back top q e = two_tests (unsigned_abs q.num) top q.den top e

pub zero_small : Fits max_part zero_ℚ
zero_small = (
  subst (λ (n : ℤ). unsigned_abs n ≤ max_part) (sym (num-whole (pos 0))) (lit≤ tt),
  subst (λ (d : ℕ). d ≤ max_part) (sym (den-whole (pos 0))) (lit≤ tt),
)

abs-neg : (n : ℤ) → unsigned_abs (neg_ℤ n) ≡ unsigned_abs n
abs-neg n = omega (arith, ints)

neg_small : (q : ℚ) → Fits max_part q → Fits max_part (neg_ℚ q)
neg_small q h = (
  subst (λ (n : ℕ). n ≤ max_part) (sym (ap unsigned_abs (neg_num q) ∙ abs-neg q.num)) h.0,
  subst (λ (d : ℕ). d ≤ max_part) (sym (neg_den q)) h.1,
)

right_small : (low high : Option ℚ) → IfSome low (λ q. Fits max_part q) → IfSome high (λ q. Fits max_part q) → Fits max_part (right_side low high)
right_small (Some low) high h k = h
right_small None (Some high) h k = k
right_small None None h k = zero_small

module _ (p : Program) (good : IsProgram p) (small : HasSmallNumbers p) where
  row_side_small : (i : ℕ) → Fits max_part (right_side (sides_at p i).low (sides_at p i).high)
  row_side_small i = right_small (sides_at p i).low (sides_at p i).high (small.sides i).low (small.sides i).high

  -- nothing of a row before its line
  before_side : (i : ℕ) → i < length p.rows → value_at (sides_told p i) [] (row_name p i) ≡ None
  before_side i lt =
      value-append (each_back i (side_told p)) (constant_told p) [] (row_name p i)
      ∙ rw (value_nowhere i (side_told p) [] (row_name p i) (λ k less. value_elsewhere [] (row_name p k) [] (row_name p i) (right_side (sides_at p k).low (sides_at p k).high)
      (row_differs [] [] (row_name p i) (row_name p k) (rows_differ p good i k lt (omega (arith, less)) (λ e. omega (arith, less))))))
      (value_elsewhere [] p.objective [] (row_name p i) (neg_ℚ p.constant) (row_differs [] [] (row_name p i) p.objective (λ e. objective_differs p good i lt (sym e))))

  -- a row's right side, and the objective's
  pub found_side : (i : ℕ) → i < length p.rows → value_told (sides_told p (length p.rows)) [] (row_name p i) ≡ right_side (sides_at p i).low (sides_at p i).high
  found_side i lt =
      let other : value_at (constant_told p) [] (row_name p i) ≡ None = value_elsewhere [] p.objective [] (row_name p i) (neg_ℚ p.constant) (row_differs [] [] (row_name p i) p.objective (λ e. objective_differs p good i lt (sym e))) in
      let own : value_at (sides_told p (length p.rows)) [] (row_name p i) ≡ value_at (side_told p i) [] (row_name p i) =
      value-append (each_back (length p.rows) (side_told p)) (constant_told p) [] (row_name p i)
      ∙ ap (λ (o : Option ℚ). or_other (value_at (each_back (length p.rows) (side_told p)) [] (row_name p i)) o) other
      ∙ or_none (value_at (each_back (length p.rows) (side_told p)) [] (row_name p i))
      ∙ value_somewhere (length p.rows) (side_told p) [] (row_name p i) i lt
      (λ k less differs. value_elsewhere [] (row_name p k) [] (row_name p i) (right_side (sides_at p k).low (sides_at p k).high) (row_differs [] [] (row_name p i) (row_name p k) (rows_differ p good i k lt less (λ e. differs (sym e))))) in
      ap (λ (o : Option ℚ). unwrap_or o zero_ℚ) own ∙ value_here [] (row_name p i) (right_side (sides_at p i).low (sides_at p i).high)

  pub found_constant : value_told (sides_told p (length p.rows)) [] p.objective ≡ neg_ℚ p.constant
  found_constant =
      let own : value_at (sides_told p (length p.rows)) [] p.objective ≡ value_at (constant_told p) [] p.objective =
      value-append (each_back (length p.rows) (side_told p)) (constant_told p) [] p.objective
      ∙ rw (value_nowhere (length p.rows) (side_told p) [] p.objective (λ k less. value_elsewhere [] (row_name p k) [] p.objective (right_side (sides_at p k).low (sides_at p k).high) (row_differs [] [] p.objective (row_name p k) (objective_differs p good k less)))) refl in
      ap (λ (o : Option ℚ). unwrap_or o zero_ℚ) own ∙ value_here [] p.objective (neg_ℚ p.constant)

  -- a line unless its number is 0
  side_chosen : (a : Bool) (ts : List Telling) (name : List ℕ) (q : ℚ) → map bare ts ≡ ts → IsNextSide (rhs_stage p a ts) ts name q → (b : Bool)
      → Lead (rhs_stage p a ts) (if b then [] else number_line (codes "RHS" ∷ name ∷ []) q ∷ [])
      (rhs_stage p (a || has_lines (if b then [] else number_line (codes "RHS" ∷ name ∷ []) q ∷ [])) ((if b then [] else telling [] name q ∷ []) ++ ts))
  side_chosen a ts name q plain h true = ap (λ (c : Bool). rhs_stage p c ts) (sym (or_false a))
  side_chosen a ts name q plain h false =
      lead_to (rhs_stage p a ts) (rhs_stage p true (telling [] name q ∷ ts)) (rhs_stage p (a || true) (telling [] name q ∷ ts)) (number_line (codes "RHS" ∷ name ∷ []) q ∷ [])
      (ap (λ (c : Bool). rhs_stage p c (telling [] name q ∷ ts)) (sym (or_true a))) (side_read p a ts name q plain h)

  pub sides_bare : (n : ℕ) → map bare (sides_told p n) ≡ sides_told p n
  sides_bare n =
      append_bare (each_back n (side_told p)) (constant_told p)
      (each_bare n (side_told p) (λ i. unless_zero_bare [] (row_name p i) (right_side (sides_at p i).low (sides_at p i).high))) (unless_zero_bare [] p.objective (neg_ℚ p.constant))

  side_lines_to : ℕ → List (List ℕ)
  side_lines_to n = constant_lines p ++ each n (side_lines p)

  begun_more : (n : ℕ) → (has_lines (side_lines_to n) || has_lines (side_lines p n)) ≡ has_lines (side_lines_to (suc n))
  unfolding side_lines_to
  begun_more n = sym (has_append (constant_lines p ++ each n (side_lines p)) (side_lines p n)) ∙ ap has_lines (append_assoc (constant_lines p) (each n (side_lines p)) (side_lines p n))

  constant_read : Lead (rhs_stage p false []) (constant_lines p) (rhs_stage p (has_lines (side_lines_to 0)) (sides_told p 0))
  unfolding side_lines_to rhs_stage
  constant_read =
      lead_to _ _ _ (constant_lines p)
      (ap (λ (a : Bool). rhs_stage p a (constant_told p ++ [])) (ap has_lines (sym (append-nil (constant_lines p)))) ∙ ap (λ (ts : List Telling). rhs_stage p (has_lines (side_lines_to 0)) ts) (append-nil (constant_told p)))
      (side_chosen false [] p.objective (neg_ℚ p.constant) refl
      (record { name_word = objective_word p good; short_name = objective_short p good; known = objective_known p good small; small = neg_small p.constant small.constant; new = refl })
      (is_zero (neg_ℚ p.constant)))

  row_side_read : (i : ℕ) → i < length p.rows → Lead (rhs_stage p (has_lines (side_lines_to i)) (sides_told p i)) (side_lines p i) (rhs_stage p (has_lines (side_lines_to (suc i))) (sides_told p (suc i)))
  unfolding rhs_stage
  row_side_read i lt =
      lead_to _ _ _ (side_lines p i)
      (ap (λ (a : Bool). rhs_stage p a (side_told p i ++ sides_told p i)) (begun_more i) ∙ ap (λ (ts : List Telling). rhs_stage p (has_lines (side_lines_to (suc i))) ts) (sym (append_assoc (side_told p i) (each_back i (side_told p)) (constant_told p))))
      (side_chosen (has_lines (side_lines_to i)) (sides_told p i) (row_name p i) (right_side (sides_at p i).low (sides_at p i).high) (sides_bare i)
      (record { name_word = row_word p good i lt; short_name = row_short p good i lt; known = row_known p good small i lt; small = row_side_small i; new = none_told (sides_told p i) [] (row_name p i) (before_side i lt) })
      (is_zero (right_side (sides_at p i).low (sides_at p i).high)))

  -- whether there are right sides
  abbrev pub has_sides : Bool
  has_sides = has_lines (constant_lines p ++ each (length p.rows) (side_lines p))

  abbrev pub sides_done : Bool → List Telling → Told
  sides_done a ts = behind_columns p (with_section a sections.Rhs first_sections) a ts false [] false [] []

  no_sides_told : constant_lines p ++ each (length p.rows) (side_lines p) ≡ [] → sides_told p (length p.rows) ≡ []
  no_sides_told e =
      let constant : constant_told p ≡ [] = nothing_of_zero (codes "RHS" ∷ p.objective ∷ []) [] p.objective (neg_ℚ p.constant) (first_part (constant_lines p) (each (length p.rows) (side_lines p)) e) in
      let rows : each_back (length p.rows) (side_told p) ≡ [] =
      nothing_each (length p.rows) (side_lines p) (side_told p) (λ i none. nothing_of_zero (codes "RHS" ∷ row_name p i ∷ []) [] (row_name p i) (right_side (sides_at p i).low (sides_at p i).high) none) (second_part (constant_lines p) (each (length p.rows) (side_lines p)) e) in
      rw (rows, constant) refl

  closed_sides : (a : Bool) (ts : List Telling) → a ≡ true → rhs_stage p a ts ≡ sides_done a ts
  unfolding rhs_stage
  closed_sides true ts e = refl
  closed_sides false ts e = absurd cc

  rhs_header : Lead (in_columns p (length p.columns) false (entries_told p (length p.columns))) (codes "RHS" ∷ []) (rhs_stage p false [])
  unfolding rhs_stage
  rhs_header =
      let t = takes_header (in_columns p (length p.columns) false (entries_told p (length p.columns))) (codes "RHS") sections.Rhs refl refl refl refl refl refl refl refl in
      (t.0, t.1 ∙ ap (λ (es : List Telling). record (rhs_stage p false []) { entries = es }) (entries_bare p (length p.columns)))

  -- the section
  pub right_sides_read : Lead (in_columns p (length p.columns) false (entries_told p (length p.columns))) (right_sides_lines p) (sides_done has_sides (sides_told p (length p.rows)))
  unfolding rhs_stage side_lines_to
  right_sides_read =
      section_read (codes "RHS") (constant_lines p ++ each (length p.rows) (side_lines p)) _ (rhs_stage p false []) (rhs_stage p (has_lines (side_lines_to (length p.rows))) (sides_told p (length p.rows))) _
      rhs_header
      (lead_on _ _ _ (constant_lines p) (each (length p.rows) (side_lines p)) constant_read (lead_each (length p.rows) (side_lines p) (λ i. rhs_stage p (has_lines (side_lines_to i)) (sides_told p i)) row_side_read))
      (λ none. ap (λ (a : Bool). sides_done a []) (sym (ap has_lines none)) ∙ ap (λ (ts : List Telling). sides_done (has_lines (constant_lines p ++ each (length p.rows) (side_lines p))) ts) (sym (no_sides_told none)))
      (λ some. closed_sides (has_lines (constant_lines p ++ each (length p.rows) (side_lines p))) (sides_told p (length p.rows)) some)
