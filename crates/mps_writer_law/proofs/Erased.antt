-- What lines tell without their numbers. Neither a line's fault nor the program depends on these.
use Rattle.std.specs.Prelude.{◌≡◌, ℕ, ◌+◌, ◌&&◌, ◌||◌, not, Bool, true, false, List, [], ◌∷◌, map, Option, Some, None, Result, if◌then◌else◌}
use Rattle.std.proofs.Common.{refl, sym, ap, ◌∙◌}
use Rattle.std.proofs.Math.Path.{fun_ext}
use Rattle.rational.specs.Rational.{ℚ}
use Rattle.mps_tokens.specs.FieldsOf.{fields_of}
use Rattle.mps_tokens.specs.Cases.{named}
use Rattle.mps_tokens.specs.Words.{section_names}
use Rattle.mps_tokens.specs.Numbers.{number_of}
use Rattle.mps_tokens.specs.Lines.{without_return}
use Rattle.mps_tokens.specs.declared.fault.NumberFault.{NumberFault}
use Rattle.mps_tokens.specs.declared.words.Section.{Section}
use Rattle.mps_tokens.specs.declared.words.Section.TheVariants as sections
use Rattle.mps_tokens.specs.declared.words.RowKind.{RowKind}
use Rattle.mps_tokens.specs.declared.words.BoundKind.{BoundKind}
use Rattle.mps_grammar.specs.declared.kinds.FaultKind.TheVariants as kinds
use Rattle.mps_grammar.specs.Lines.{field, is_comment, is_passed, is_indented}
use Rattle.mps_grammar.specs.Fields.{Pair, Entries, is_marker, entries_in, column_entries_in, sides_in, bound_kind_in, bounded_in, has_number, row_kind_in, row_name_in, Bounded}
use Rattle.mps_grammar.specs.Told.{Told, Telling, value_or_zero, is_at, is_told, is_used, with_pairs, with_entries, with_sides, quadratic_number}
use Rattle.mps_grammar.specs.Faults.{Tests, first_of, gives_twice, counts_row, entry_tests, marker_tests, header_tests, row_tests, named_row_tests, bounded_tests, bound_tests, is_beyond, is_plain, side_tests, is_given_pair, any_pair, pair_tests, data_tests, section_tests, content_tests, line_fault}
use Rattle.mps_grammar.specs.After.{told_more, told_within, told_header, told_content, told_after}

abbrev pub bare : Telling → Telling
bare t = record t { line = 0 }

abbrev pub erase : Told → Told
erase told =
    record told {
      lines = 0;
      entries = map bare told.entries;
      sides = map bare told.sides;
      ranges = map bare told.ranges;
      pairs = map bare told.pairs;
    }

-- ---- faults

pub told_bare : (ts : List Telling) (column row : List ℕ) → is_told (map bare ts) column row ≡ is_told ts column row
told_bare [] column row = refl
told_bare (t ∷ ts) column row = ap (λ (b : Bool). is_at column row t || b) (told_bare ts column row)

given_bare : (ts : List Telling) (column : List ℕ) → is_told (map bare ts) column ≡ is_told ts column
given_bare ts column = fun_ext (λ row. told_bare ts column row)

twice_bare : (counts : List ℕ → Bool) (ts : List Telling) (column : List ℕ) (ps : List Pair) → gives_twice counts (is_told (map bare ts) column) ps ≡ gives_twice counts (is_told ts column) ps
twice_bare counts ts column ps = ap (λ (given : List ℕ → Bool). gives_twice counts given ps) (given_bare ts column)

pair_given_bare : (s : Section) (ts : List Telling) (one other : List ℕ) → is_given_pair s (map bare ts) one other ≡ is_given_pair s ts one other
pair_given_bare sections.QuadObj ts one other = ap (λ (b : Bool). b || is_told (map bare ts) other one) (told_bare ts one other) ∙ ap (λ (b : Bool). is_told ts one other || b) (told_bare ts other one)
pair_given_bare s ts one other = told_bare ts one other

pair_twice_bare : (s : Section) (ts : List Telling) (one : List ℕ) (ps : List Pair) → gives_twice any_pair (is_given_pair s (map bare ts) one) ps ≡ gives_twice any_pair (is_given_pair s ts one) ps
pair_twice_bare s ts one ps = ap (λ (given : List ℕ → Bool). gives_twice any_pair given ps) (fun_ext (λ other. pair_given_bare s ts one other))

entry_bare : (told : Told) (e : Option Entries) → entry_tests (erase told) e ≡ entry_tests told e
entry_bare told None = refl
entry_bare told (Some e) = rw (twice_bare (counts_row told) told.entries e.0 e.1) refl

either_bare : (told : Told) (b : Bool) (fields : List (List ℕ)) (e : Option Entries) → (if b then marker_tests (erase told) fields else entry_tests (erase told) e) ≡ (if b then marker_tests told fields else entry_tests told e)
either_bare told true fields e = refl
either_bare told false fields e = entry_bare told e

side_bare : (told : Told) (set : Option (List ℕ)) (ts : List Telling) (e : Option Entries) → side_tests (erase told) set (map bare ts) e ≡ side_tests told set ts e
side_bare told set ts None = refl
side_bare told set ts (Some e) = rw (twice_bare (counts_row told) ts [] e.1) refl

pair_bare : (told : Told) (s : Section) (e : Option Entries) → pair_tests (erase told) s e ≡ pair_tests told s e
pair_bare told s None = refl
pair_bare told s (Some e) = rw (pair_twice_bare s told.pairs e.0 e.1) refl

named_bare : (told : Told) (kind : RowKind) (name : Option (List ℕ)) → named_row_tests (erase told) kind name ≡ named_row_tests told kind name
named_bare told kind None = refl
named_bare told kind (Some name) = refl

row_bare : (told : Told) (kind : Option RowKind) (fields : List (List ℕ)) → row_tests (erase told) kind fields ≡ row_tests told kind fields
row_bare told None fields = refl
row_bare told (Some kind) fields = named_bare told kind (row_name_in fields)

bounded_bare : (told : Told) (b : Option Bounded) → bounded_tests (erase told) b ≡ bounded_tests told b
bounded_bare told None = refl
bounded_bare told (Some b) = refl

bound_bare : (told : Told) (kind : Option BoundKind) (fields : List (List ℕ)) → bound_tests (erase told) kind fields ≡ bound_tests told kind fields
bound_bare told None fields = refl
bound_bare told (Some kind) fields = bounded_bare told (bounded_in (has_number kind) fields)

data_bare : (told : Told) (s : Section) (fields : List (List ℕ)) → data_tests (erase told) s fields ≡ data_tests told s fields
data_bare told sections.Name fields = refl
data_bare told sections.Rows fields = row_bare told (row_kind_in fields) fields
data_bare told sections.Columns fields = either_bare told (is_marker fields) fields (entries_in fields)
data_bare told sections.Rhs fields = side_bare told told.side_set told.sides (sides_in fields)
data_bare told sections.Ranges fields = side_bare told told.range_set told.ranges (sides_in fields)
data_bare told sections.Bounds fields = bound_bare told (bound_kind_in fields) fields
data_bare told sections.QuadObj fields = pair_bare told sections.QuadObj (entries_in fields)
data_bare told sections.QMatrix fields = pair_bare told sections.QMatrix (entries_in fields)
data_bare told sections.DMatrix fields = pair_bare told sections.DMatrix (entries_in fields)
data_bare told sections.EndData fields = refl
data_bare told sections.ObjSense fields = refl

section_bare : (told : Told) (ss : List Section) (fields : List (List ℕ)) → section_tests (erase told) ss fields ≡ section_tests told ss fields
section_bare told [] fields = refl
section_bare told (s ∷ ss) fields = data_bare told s fields

header_bare : (told : Told) (s : Option Section) → header_tests (erase told) s ≡ header_tests told s
header_bare told None = refl
header_bare told (Some s) = refl

content_bare : (told : Told) (b : Bool) (fields : List (List ℕ)) (s : Option Section)
    → (if b then section_tests (erase told) told.sections fields else header_tests (erase told) s) ≡ (if b then section_tests told told.sections fields else header_tests told s)
content_bare told true fields s = section_bare told told.sections fields
content_bare told false fields s = header_bare told s

shown_bare : (told : Told) (b : Bool) (line : List ℕ) → (if b then [] else content_tests (erase told) line) ≡ (if b then [] else content_tests told line)
shown_bare told true line = refl
shown_bare told false line = content_bare told (is_indented line) (fields_of line) (named section_names (field (fields_of line) 0))

-- a line's fault is that which it has where the numbers of the lines are left out
pub fault_bare : (told : Told) (at : ℕ) (raw : List ℕ) → line_fault (erase told) at raw ≡ line_fault told at raw
fault_bare told at raw =
    ap (λ (ts : Tests). first_of ((is_beyond at raw, kinds.TextLong) ∷ (not (is_comment (without_return raw)) && not (is_plain (without_return raw)), kinds.NotAscii) ∷ ts))
    (shown_bare told (is_passed (without_return raw)) (without_return raw))

-- ---- what is told

bare_twice : (ts : List Telling) → map bare (map bare ts) ≡ map bare ts
bare_twice [] = refl
bare_twice (t ∷ ts) = ap (λ (us : List Telling). bare t ∷ us) (bare_twice ts)

pairs_bare : (read : List ℕ → Result ℚ NumberFault) (n m : ℕ) (column : List ℕ) (ps : List Pair) (ts us : List Telling) → map bare ts ≡ map bare us
    → map bare (with_pairs read n column ps ts) ≡ map bare (with_pairs read m column ps us)
pairs_bare read n m column [] ts us e = e
pairs_bare read n m column (p ∷ ps) ts us e = pairs_bare read n m column ps _ _ (ap (λ (rest : List Telling). record { line = 0; column = column; row = p.0; value = value_or_zero (read p.1) } ∷ rest) e)

entries_bare : (read : List ℕ → Result ℚ NumberFault) (n m : ℕ) (e : Option Entries) (ts : List Telling) → map bare (with_entries read n e ts) ≡ map bare (with_entries read m e (map bare ts))
entries_bare read n m None ts = sym (bare_twice ts)
entries_bare read n m (Some e) ts = pairs_bare read n m e.0 e.1 ts (map bare ts) (sym (bare_twice ts))

used_bare : (b : Bool) (n m : ℕ) (ps : List Pair) (ts : List Telling) → map bare (if b then with_pairs number_of n [] ps ts else ts) ≡ map bare (if b then with_pairs number_of m [] ps (map bare ts) else map bare ts)
used_bare true n m ps ts = pairs_bare number_of n m [] ps ts (map bare ts) (sym (bare_twice ts))
used_bare false n m ps ts = sym (bare_twice ts)

sides_bare : (set : Option (List ℕ)) (n m : ℕ) (e : Option Entries) (ts : List Telling) → map bare (with_sides set n e ts) ≡ map bare (with_sides set m e (map bare ts))
sides_bare set n m None ts = sym (bare_twice ts)
sides_bare set n m (Some e) ts = used_bare (is_used set e.0) n m e.1 ts

-- with other tellings
abbrev lists : Told → List Telling → List Telling → List Telling → List Telling → Told
lists told a b c d = record told { lines = 0; entries = a; sides = b; ranges = c; pairs = d }

same_lists : (told : Told) (a b c d a' b' c' d' : List Telling) → a ≡ a' → b ≡ b' → c ≡ c' → d ≡ d' → lists told a b c d ≡ lists told a' b' c' d'
same_lists told a b c d a' b' c' d' e f g h =
    ap (λ (x : List Telling). lists told x b c d) e ∙ ap (λ (x : List Telling). lists told a' x c d) f ∙ ap (λ (x : List Telling). lists told a' b' x d) g ∙ ap (λ (x : List Telling). lists told a' b' c' x) h

erase_twice : (told : Told) → erase (erase told) ≡ erase told
erase_twice told = same_lists told _ _ _ _ _ _ _ _ (bare_twice told.entries) (bare_twice told.sides) (bare_twice told.ranges) (bare_twice told.pairs)

module _ (told : Told) where
  a : map bare (map bare told.entries) ≡ map bare told.entries
  a = bare_twice told.entries

  b : map bare (map bare told.sides) ≡ map bare told.sides
  b = bare_twice told.sides

  c : map bare (map bare told.ranges) ≡ map bare told.ranges
  c = bare_twice told.ranges

  d : map bare (map bare told.pairs) ≡ map bare told.pairs
  d = bare_twice told.pairs

  quadratic : (s : Section) (fields : List (List ℕ)) → map bare (with_entries (quadratic_number s) (0 + 1) (entries_in fields) (map bare told.pairs)) ≡ map bare (with_entries (quadratic_number s) (told.lines + 1) (entries_in fields) told.pairs)
  quadratic s fields = sym (entries_bare (quadratic_number s) (told.lines + 1) (0 + 1) (entries_in fields) told.pairs)

  more_bare : (s : Section) (fields : List (List ℕ)) → erase (told_more (erase told) s fields) ≡ erase (told_more told s fields)
  more_bare sections.Name fields = erase_twice told
  more_bare sections.Rows fields = same_lists (told_more told sections.Rows fields) _ _ _ _ _ _ _ _ a b c d
  more_bare sections.Columns fields = same_lists (told_more told sections.Columns fields) _ _ _ _ _ _ _ _ (sym (entries_bare number_of (told.lines + 1) (0 + 1) (column_entries_in fields) told.entries)) b c d
  more_bare sections.Rhs fields = same_lists (told_more told sections.Rhs fields) _ _ _ _ _ _ _ _ a (sym (sides_bare told.side_set (told.lines + 1) (0 + 1) (sides_in fields) told.sides)) c d
  more_bare sections.Ranges fields = same_lists (told_more told sections.Ranges fields) _ _ _ _ _ _ _ _ a b (sym (sides_bare told.range_set (told.lines + 1) (0 + 1) (sides_in fields) told.ranges)) d
  more_bare sections.Bounds fields = same_lists (told_more told sections.Bounds fields) _ _ _ _ _ _ _ _ a b c d
  more_bare sections.QuadObj fields = same_lists (told_more told sections.QuadObj fields) _ _ _ _ _ _ _ _ a b c (quadratic sections.QuadObj fields)
  more_bare sections.QMatrix fields = same_lists (told_more told sections.QMatrix fields) _ _ _ _ _ _ _ _ a b c (quadratic sections.QMatrix fields)
  more_bare sections.DMatrix fields = same_lists (told_more told sections.DMatrix fields) _ _ _ _ _ _ _ _ a b c (quadratic sections.DMatrix fields)
  more_bare sections.EndData fields = erase_twice told
  more_bare sections.ObjSense fields = erase_twice told

  within_bare : (ss : List Section) (fields : List (List ℕ)) → erase (told_within (erase told) ss fields) ≡ erase (told_within told ss fields)
  within_bare [] fields = erase_twice told
  within_bare (s ∷ ss) fields = more_bare s fields

  content_told : (indented : Bool) (fields : List (List ℕ)) (s : Option Section)
      → erase (if indented then told_within (erase told) told.sections fields else told_header (erase told) s) ≡ erase (if indented then told_within told told.sections fields else told_header told s)
  content_told true fields s = within_bare told.sections fields
  content_told false fields s = same_lists (told_header told s) _ _ _ _ _ _ _ _ a b c d

  shown_told : (passed : Bool) (line : List ℕ) → erase (if passed then erase told else told_content (erase told) line) ≡ erase (if passed then told else told_content told line)
  shown_told true line = erase_twice told
  shown_told false line = content_told (is_indented line) (fields_of line) (named section_names (field (fields_of line) 0))

  -- what a line more tells, where the numbers of the lines are left out
  pub after_bare : (line : List ℕ) → erase (told_after (erase told) line) ≡ erase (told_after told line)
  after_bare line = shown_told (is_passed line) line
