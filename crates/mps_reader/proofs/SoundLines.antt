-- Lines without a fault tell what a program can be made of.
use Rattle.std.proofs.Common.{◌≡◌, ℕ, zero, suc, ◌+◌, ◌<◌, ◌≤◌, Bool, true, false, ◌&&◌, ◌||◌, not, nat_le, List, [], ◌∷◌, ◌++◌, length, get_or, Option, Some, None, Result, Ok, Err, refl, sym, ap, subst, ◌∙◌, arith, if◌then◌else◌, IsSome, is_none, option_to_list}
use Rattle.std.specs.List.{list_any}
use Rattle.std.specs.Str.{bytes_eq}
use Rattle.std.proofs.lemmas.List.{length-append}
use Rattle.std.proofs.lemmas.Bool.{or_parts, and_right}
use Rattle.std.proofs.lemmas.Bool.Decides.{nat_tests}
use Rattle.rational.specs.Rational.{ℚ}
use Rattle.mps_tokens.specs.Lines.{raw_lines, without_return}
use Rattle.mps_tokens.specs.FieldsOf.{fields_of}
use Rattle.mps_tokens.specs.Cases.{named}
use Rattle.mps_tokens.specs.Words.{section_names}
use Rattle.mps_tokens.specs.declared.fault.NumberFault.{NumberFault}
use Rattle.mps_tokens.specs.declared.words.Section.{Section}
use Rattle.mps_tokens.specs.declared.words.Section.TheVariants as sections
use Rattle.mps_tokens.specs.declared.words.RowKind.{RowKind}
use Rattle.mps_grammar.specs.declared.kinds.FaultKind.{FaultKind}
use Rattle.mps_grammar.specs.declared.kinds.FaultKind.TheVariants as kinds
use Rattle.mps_grammar.specs.Lines.{field, is_comment, is_passed, is_indented}
use Rattle.mps_grammar.specs.Fields.{Pair, Entries, row_kind_in, row_name_in, entries_in}
use Rattle.mps_grammar.specs.Told.{Told, Telling, is_at, is_told, is_columns, is_quadratic, binds, program_rows, objective_in, row_told, value_or_zero, with_pairs, with_entries, quadratic_number, told_by}
use Rattle.mps_grammar.specs.Programs.{is_quadobj, gives_pairs_once}
use Rattle.mps_grammar.specs.Faults.{Tests, first_of, gives_twice, is_given_pair, any_pair, row_tests, named_row_tests, pair_tests, data_tests, may_begin, header_tests, section_tests, shown_tests, line_fault, is_beyond, is_plain}
use Rattle.mps_grammar.specs.After.{told_more, told_within, told_header, told_shown, counted, told_after}
use Rattle.mps_grammar.specs.Verdict.{Fault, is_end, ends, unless, verdict, verdict_of}
use Rattle.mps_grammar.specs.Reading.{Spot, behind, told_verdict, told_of}
use Rattle.mps_grammar.proofs.After.{told_line}
use Rattle.mps_assembly.specs.Sound.{AreToldOnce, HaveOneQuadratic, IsSound}
use Rattle.named_things.proofs.NameLemmas.{eq_from, ne_sym, ne_eq}
use Rattle.mps_assembly.proofs.Additions.{filter-push}

-- ---- tests that fail

abbrev pub passes : Bool × FaultKind
passes = (false, kinds.NoEnd)

-- where no fault is found, each test fails
pub none_holds : (ts : Tests) (k : ℕ) → first_of ts ≡ None → (get_or ts k passes).0 ≡ false
none_holds [] k e = refl
none_holds (t ∷ ts) k e = by_test t.0 k refl e (none_holds ts)
  where
    by_test : (b : Bool) (k : ℕ) → t.0 ≡ b → (if b then Some t.1 else first_of ts) ≡ None → ((k : ℕ) → first_of ts ≡ None → (get_or ts k passes).0 ≡ false) → (get_or (t ∷ ts) k passes).0 ≡ false
    by_test true k p e again = absurd cc
    by_test false zero p e again = p
    by_test false (suc k) p e again = again k e

pub none_later : (t : Bool × FaultKind) (ts : Tests) → first_of (t ∷ ts) ≡ None → first_of ts ≡ None
none_later t ts e = by_test t.0 e
  where
    by_test : (b : Bool) → (if b then Some t.1 else first_of ts) ≡ None → first_of ts ≡ None
    by_test true e = absurd cc
    by_test false e = e

-- ---- rows

objective-stays : (rows more : List (List ℕ × RowKind)) → IsSome (objective_in rows) → IsSome (objective_in (rows ++ more))
objective-stays [] more some = absurd cc
objective-stays (r ∷ rs) more some = by_kind (binds r.1) some (objective-stays rs more)
  where
    by_kind : (b : Bool) → IsSome (if b then objective_in rs else Some r.0) → (IsSome (objective_in rs) → IsSome (objective_in (rs ++ more))) → IsSome (if b then objective_in (rs ++ more) else Some r.0)
    by_kind true some again = again some
    by_kind false some again = refl

few-more : (rows : List (List ℕ × RowKind)) (name : List ℕ) (kind : RowKind) → length (program_rows rows) ≤ 128 → (binds kind && nat_le 128 (length (program_rows rows))) ≡ false → length (program_rows (rows ++ (name, kind) ∷ [])) ≤ 128
few-more rows name kind few room = rw (filter-push rows (name, kind)) (by_kind (binds kind) room)
  where
    below : (n : ℕ) → nat_le 128 n ≡ false → n < 128
    below n e = grind (arith, nat_tests)

    by_kind : (b : Bool) → (b && nat_le 128 (length (program_rows rows))) ≡ false → length (program_rows rows ++ (if b then (name, kind) ∷ [] else [])) ≤ 128
    by_kind true room = omega (arith, length-append (program_rows rows) ((name, kind) ∷ []), below (length (program_rows rows)) room)
    by_kind false room = omega (arith, length-append (program_rows rows) [], few)

-- the tests of a row, by its kind and its name
abbrev pub row_cases : Told → Option RowKind → Option (List ℕ) → Tests
row_cases told None name = row_tests told None []
row_cases told (Some kind) name = named_row_tests told kind name

rows-sound : (told : Told) (kind : Option RowKind) (name : Option (List ℕ)) → IsSound told → first_of (row_cases told kind name) ≡ None → IsSound (record told { rows = told.rows ++ option_to_list (row_told name kind) })
rows-sound told None name h e = absurd cc
rows-sound told (Some kind) None h e = absurd cc
rows-sound told (Some kind) (Some name) h e =
    let room : (binds kind && nat_le 128 (length (program_rows told.rows))) ≡ false = none_holds (named_row_tests told kind (Some name)) 3 e in
    record {
      few_rows = few-more told.rows name kind h.few_rows room;
      objective = λ begun. objective-stays told.rows ((name, kind) ∷ []) (h.objective begun);
      one_quadratic = h.one_quadratic;
      no_pairs = h.no_pairs;
      pairs = h.pairs;
    }

-- ---- pairs

or_false : (a b : Bool) → a ≡ false → b ≡ false → (a || b) ≡ false
or_false a b e f = rw (e, f) refl

not_at : (told : List Telling) (t : Telling) (column q : List ℕ) → t.column ≡ column → bytes_eq t.row q ≡ false → is_given_pair sections.QuadObj (t ∷ told) column q ≡ is_given_pair sections.QuadObj told column q
not_at told t column q is apart =
    let one : is_at column q t ≡ false = rw (and_right (bytes_eq column t.column) (bytes_eq q t.row) (ne_sym t.row q apart)) refl in
    let other : is_at q column t ≡ false = across (bytes_eq q t.column) (bytes_eq column t.row) refl refl in
    rw (one, other) refl
  where
    across : (a b : Bool) → bytes_eq q t.column ≡ a → bytes_eq column t.row ≡ b → (a && b) ≡ false
    across true true e f = absurd (ne_eq t.row q apart (sym (eq_from column t.row f) ∙ sym is ∙ sym (eq_from q t.column e)))
    across true false e f = refl
    across false b e f = refl

twice-more : (given other : List ℕ → Bool) (p : List ℕ) → ((q : List ℕ) → bytes_eq p q ≡ false → other q ≡ given q) → (ps : List Pair) → gives_twice any_pair given ps ≡ false → list_any (λ q. bytes_eq p q.0) ps ≡ false → gives_twice any_pair other ps ≡ false
twice-more given other p same [] e f = refl
twice-more given other p same (q ∷ qs) e f =
    let here = or_parts (bytes_eq p q.0) (list_any (λ q. bytes_eq p q.0) qs) f in
    let parts = or_parts (given q.0 || list_any (λ r. bytes_eq q.0 r.0) qs) (gives_twice any_pair given qs) e in
    let first : (other q.0 || list_any (λ r. bytes_eq q.0 r.0) qs) ≡ false = rw (same q.0 here.0) parts.0 in
    or_false (other q.0 || list_any (λ r. bytes_eq q.0 r.0) qs) (gives_twice any_pair other qs) first (twice-more given other p same qs parts.1 here.1)

once-more : (read : List ℕ → Result ℚ NumberFault) (line : ℕ) (column : List ℕ) (ps : List Pair) (told : List Telling) → AreToldOnce told → gives_twice any_pair (is_given_pair sections.QuadObj told column) ps ≡ false → AreToldOnce (with_pairs read line column ps told)
once-more read line column [] told once e = once
once-more read line column (p ∷ ps) told once e =
    let t : Telling = record { line = line; column = column; row = p.0; value = value_or_zero (read p.1) } in
    let parts = or_parts (is_given_pair sections.QuadObj told column p.0 || list_any (λ q. bytes_eq p.0 q.0) ps) (gives_twice any_pair (is_given_pair sections.QuadObj told column) ps) e in
    let fresh = or_parts (is_given_pair sections.QuadObj told column p.0) (list_any (λ q. bytes_eq p.0 q.0) ps) parts.0 in
    let neither = or_parts (is_told told column p.0) (is_told told p.0 column) fresh.0 in
    once-more read line column ps (t ∷ told) (neither.0, neither.1, once)
    (twice-more (is_given_pair sections.QuadObj told column) (is_given_pair sections.QuadObj (t ∷ told) column) p.0 (λ q apart. not_at told t column q refl apart) ps parts.1 fresh.1)

quadobj_quadratic : (ss : List Section) → list_any is_quadobj ss ≡ true → list_any is_quadratic ss ≡ true
quadobj_quadratic [] e = absurd cc
quadobj_quadratic (sections.QuadObj ∷ ss) e = refl
quadobj_quadratic (sections.QMatrix ∷ ss) e = refl
quadobj_quadratic (sections.DMatrix ∷ ss) e = refl
quadobj_quadratic (sections.Name ∷ ss) e = quadobj_quadratic ss e
quadobj_quadratic (sections.Rows ∷ ss) e = quadobj_quadratic ss e
quadobj_quadratic (sections.Columns ∷ ss) e = quadobj_quadratic ss e
quadobj_quadratic (sections.Rhs ∷ ss) e = quadobj_quadratic ss e
quadobj_quadratic (sections.Ranges ∷ ss) e = quadobj_quadratic ss e
quadobj_quadratic (sections.Bounds ∷ ss) e = quadobj_quadratic ss e
quadobj_quadratic (sections.EndData ∷ ss) e = quadobj_quadratic ss e
quadobj_quadratic (sections.ObjSense ∷ ss) e = quadobj_quadratic ss e

-- ---- a data line more

pairs-sound : (told : Told) (s : Section) (ss : List Section) (entries : Option Entries) → IsSound told → told.sections ≡ s ∷ ss → is_quadratic s ≡ true → first_of (pair_tests told s entries) ≡ None
    → IsSound (record told { pairs = with_entries (quadratic_number s) (told.lines + 1) entries told.pairs })
pairs-sound told s ss None h at quadratic e = absurd cc
pairs-sound told s ss (Some entries) h at quadratic e = record {
  few_rows = h.few_rows;
  objective = h.objective;
  one_quadratic = h.one_quadratic;
  no_pairs = λ none.
      let there : list_any is_quadratic told.sections ≡ true = rw (at, quadratic) refl in
      absurd (true_false (sym there ∙ none));
  pairs = λ once. by_section s at quadratic (none_holds (pair_tests told s (Some entries)) 4 e) once;
}
  where
    true_false : true ≡ false → ⊥
    true_false e = cc

    not_quadobj : (s : Section) → told.sections ≡ s ∷ ss → is_quadobj s ≡ false → is_quadratic s ≡ true → gives_pairs_once told ≡ true → ⊥
    not_quadobj s at other quadratic once =
        let earlier : list_any is_quadobj ss ≡ true = sym (rw other refl) ∙ ap (list_any is_quadobj) (sym at) ∙ once in
        let only = subst HaveOneQuadratic at h.one_quadratic in
        true_false (sym (quadobj_quadratic ss earlier) ∙ only.0 quadratic)

    by_section : (s : Section) → told.sections ≡ s ∷ ss → is_quadratic s ≡ true → gives_twice any_pair (is_given_pair s told.pairs entries.0) entries.1 ≡ false → gives_pairs_once told ≡ true
        → AreToldOnce (with_pairs (quadratic_number s) (told.lines + 1) entries.0 entries.1 told.pairs)
    by_section sections.QuadObj at quadratic fresh once = once-more (quadratic_number sections.QuadObj) (told.lines + 1) entries.0 entries.1 told.pairs (h.pairs once) fresh
    by_section sections.QMatrix at quadratic fresh once = absurd (not_quadobj sections.QMatrix at refl refl once)
    by_section sections.DMatrix at quadratic fresh once = absurd (not_quadobj sections.DMatrix at refl refl once)
    by_section sections.Name at quadratic fresh once = absurd cc
    by_section sections.Rows at quadratic fresh once = absurd cc
    by_section sections.Columns at quadratic fresh once = absurd cc
    by_section sections.Rhs at quadratic fresh once = absurd cc
    by_section sections.Ranges at quadratic fresh once = absurd cc
    by_section sections.Bounds at quadratic fresh once = absurd cc
    by_section sections.EndData at quadratic fresh once = absurd cc
    by_section sections.ObjSense at quadratic fresh once = absurd cc

pub row_same : (told : Told) (fields : List (List ℕ)) → row_tests told (row_kind_in fields) fields ≡ row_cases told (row_kind_in fields) (row_name_in fields)
row_same told fields = by_kind (row_kind_in fields)
  where
    by_kind : (kind : Option RowKind) → row_tests told kind fields ≡ row_cases told kind (row_name_in fields)
    by_kind None = refl
    by_kind (Some kind) = refl

-- what doesn't change rows, sections and pairs
same-sound : (told more : Told) → IsSound told → more.rows ≡ told.rows → more.sections ≡ told.sections → more.pairs ≡ told.pairs → IsSound more
same-sound told more h rows begun pairs = record {
  few_rows = rw rows h.few_rows;
  objective = λ e. rw rows (h.objective (ap (list_any is_columns) (sym begun) ∙ e));
  one_quadratic = rw begun h.one_quadratic;
  no_pairs = λ e. pairs ∙ h.no_pairs (ap (list_any is_quadratic) (sym begun) ∙ e);
  pairs = λ e. rw pairs (h.pairs (ap (list_any is_quadobj) (sym begun) ∙ e));
}

data-sound : (told : Told) (s : Section) (ss : List Section) (fields : List (List ℕ)) → IsSound told → told.sections ≡ s ∷ ss → first_of (data_tests told s fields) ≡ None → IsSound (told_more told s fields)
data-sound told sections.Name ss fields h at e = absurd cc
data-sound told sections.Rows ss fields h at e = rows-sound told (row_kind_in fields) (row_name_in fields) h (ap first_of (sym (row_same told fields)) ∙ e)
data-sound told sections.Columns ss fields h at e = same-sound told _ h refl refl refl
data-sound told sections.Rhs ss fields h at e = same-sound told _ h refl refl refl
data-sound told sections.Ranges ss fields h at e = same-sound told _ h refl refl refl
data-sound told sections.Bounds ss fields h at e = same-sound told _ h refl refl refl
data-sound told sections.QuadObj ss fields h at e = pairs-sound told sections.QuadObj ss (entries_in fields) h at refl e
data-sound told sections.QMatrix ss fields h at e = pairs-sound told sections.QMatrix ss (entries_in fields) h at refl e
data-sound told sections.DMatrix ss fields h at e = pairs-sound told sections.DMatrix ss (entries_in fields) h at refl e
data-sound told sections.EndData ss fields h at e = absurd cc
data-sound told sections.ObjSense ss fields h at e = absurd cc

within-sound : (told : Told) (ss : List Section) (fields : List (List ℕ)) → IsSound told → told.sections ≡ ss → first_of (section_tests told ss fields) ≡ None → IsSound (told_within told ss fields)
within-sound told [] fields h at e = absurd cc
within-sound told (s ∷ ss) fields h at e = data-sound told s ss fields h at e

-- ---- a header more

both_parts : (a b : Bool) → (a && not b) ≡ true → b ≡ false
both_parts true true e = absurd cc
both_parts true false e = refl
both_parts false b e = absurd cc

pub not_parts : (a : Bool) → not a ≡ false → a ≡ true
not_parts true e = refl
not_parts false e = absurd cc

one-more : (begun : List Section) (s : Section) → may_begin begun s ≡ true → is_quadratic s ≡ true → list_any is_quadratic begun ≡ false
one-more begun sections.QuadObj e quadratic = both_parts (list_any is_columns begun) (list_any is_quadratic begun) e
one-more begun sections.QMatrix e quadratic = both_parts (list_any is_columns begun) (list_any is_quadratic begun) e
one-more begun sections.DMatrix e quadratic = both_parts (list_any is_columns begun) (list_any is_quadratic begun) e
one-more begun sections.Name e quadratic = absurd cc
one-more begun sections.Rows e quadratic = absurd cc
one-more begun sections.Columns e quadratic = absurd cc
one-more begun sections.Rhs e quadratic = absurd cc
one-more begun sections.Ranges e quadratic = absurd cc
one-more begun sections.Bounds e quadratic = absurd cc
one-more begun sections.EndData e quadratic = absurd cc
one-more begun sections.ObjSense e quadratic = absurd cc

quadobj_is : (s : Section) → is_quadobj s ≡ true → is_quadratic s ≡ true
quadobj_is sections.QuadObj e = refl
quadobj_is sections.QMatrix e = refl
quadobj_is sections.DMatrix e = refl
quadobj_is sections.Name e = absurd cc
quadobj_is sections.Rows e = absurd cc
quadobj_is sections.Columns e = absurd cc
quadobj_is sections.Rhs e = absurd cc
quadobj_is sections.Ranges e = absurd cc
quadobj_is sections.Bounds e = absurd cc
quadobj_is sections.EndData e = absurd cc
quadobj_is sections.ObjSense e = absurd cc

header-sound : (told : Told) (section : Option Section) → IsSound told → first_of (header_tests told section) ≡ None → IsSound (told_header told section)
header-sound told None h e = absurd cc
header-sound told (Some s) h e =
    let may : may_begin told.sections s ≡ true = not_parts (may_begin told.sections s) (none_holds (header_tests told (Some s)) 1 e) in
    record {
      few_rows = h.few_rows;
      objective = begun (is_columns s) (objective_in told.rows) (none_holds (header_tests told (Some s)) 2 e) h.objective;
      one_quadratic = (one-more told.sections s may, h.one_quadratic);
      no_pairs = λ none. h.no_pairs (or_parts (is_quadratic s) (list_any is_quadratic told.sections) none).1;
      pairs = once (is_quadobj s) refl may;
    }
  where
    begun : (b : Bool) (o : Option (List ℕ)) → (b && is_none o) ≡ false → (list_any is_columns told.sections ≡ true → IsSome o) → (b || list_any is_columns told.sections) ≡ true → IsSome o
    begun true None e f g = absurd cc
    begun true (Some o) e f g = refl
    begun false o e f g = f g

    once : (b : Bool) → is_quadobj s ≡ b → may_begin told.sections s ≡ true → (b || list_any is_quadobj told.sections) ≡ true → AreToldOnce told.pairs
    once true p may e = rw (h.no_pairs (one-more told.sections s may (quadobj_is s p))) tt
    once false p may e = h.pairs e

-- ---- a line more

counted-sound : (told : Told) → IsSound told → IsSound (counted told)
counted-sound told h = same-sound told (counted told) h refl refl refl

pub shown-none : (told : Told) (at : ℕ) (raw : List ℕ) → line_fault told at raw ≡ None → first_of (shown_tests told (without_return raw)) ≡ None
shown-none told at raw e =
    let plain : Bool × FaultKind = (not (is_comment (without_return raw)) && not (is_plain (without_return raw)), kinds.NotAscii) in
    none_later plain (shown_tests told (without_return raw)) (none_later (is_beyond at raw, kinds.TextLong) (plain ∷ shown_tests told (without_return raw)) e)

line-sound : (told : Told) (at : ℕ) (raw : List ℕ) → IsSound told → line_fault told at raw ≡ None → IsSound (told_after told (without_return raw))
line-sound told at raw h e = counted-sound (told_shown told (without_return raw)) (by_kind (is_passed (without_return raw)) (is_indented (without_return raw)) (shown-none told at raw e))
  where
    by_kind : (passed indented : Bool)
        → first_of (if passed then [] else (if indented then section_tests told told.sections (fields_of (without_return raw)) else header_tests told (named section_names (field (fields_of (without_return raw)) 0)))) ≡ None
        → IsSound (if passed then told else (if indented then told_within told told.sections (fields_of (without_return raw)) else told_header told (named section_names (field (fields_of (without_return raw)) 0))))
    by_kind true indented e = h
    by_kind false true e = within-sound told told.sections (fields_of (without_return raw)) h refl e
    by_kind false false e = header-sound told (named section_names (field (fields_of (without_return raw)) 0)) h e

-- ---- all lines up to ENDATA

end-section : (section : Option Section) → is_end section ≡ true → section ≡ Some sections.EndData
end-section None e = absurd cc
end-section (Some sections.EndData) e = refl
end-section (Some sections.Name) e = absurd cc
end-section (Some sections.Rows) e = absurd cc
end-section (Some sections.Columns) e = absurd cc
end-section (Some sections.Rhs) e = absurd cc
end-section (Some sections.Ranges) e = absurd cc
end-section (Some sections.Bounds) e = absurd cc
end-section (Some sections.QuadObj) e = absurd cc
end-section (Some sections.QMatrix) e = absurd cc
end-section (Some sections.DMatrix) e = absurd cc
end-section (Some sections.ObjSense) e = absurd cc

-- a line that ends a program stands behind COLUMNS
end-columns : (told : Told) (at : ℕ) (raw : List ℕ) → line_fault told at raw ≡ None → ends (without_return raw) ≡ true → list_any is_columns (told_after told (without_return raw)).sections ≡ true
end-columns told at raw e end = by_kind (is_passed (without_return raw)) (is_indented (without_return raw)) (shown-none told at raw e) end
  where
    by_kind : (passed indented : Bool)
        → first_of (if passed then [] else (if indented then section_tests told told.sections (fields_of (without_return raw)) else header_tests told (named section_names (field (fields_of (without_return raw)) 0)))) ≡ None
        → is_end (if not passed && not indented then named section_names (field (fields_of (without_return raw)) 0) else None) ≡ true
        → list_any is_columns (if passed then told else (if indented then told_within told told.sections (fields_of (without_return raw)) else told_header told (named section_names (field (fields_of (without_return raw)) 0)))).sections ≡ true
    by_kind true indented e end = absurd cc
    by_kind false true e end = absurd cc
    by_kind false false e end =
        let is : named section_names (field (fields_of (without_return raw)) 0) ≡ Some sections.EndData = end-section (named section_names (field (fields_of (without_return raw)) 0)) end in
        let tests : first_of (header_tests told (Some sections.EndData)) ≡ None = ap (λ (o : Option Section). first_of (header_tests told o)) (sym is) ∙ e in
        rw is (not_parts (list_any is_columns told.sections) (none_holds (header_tests told (Some sections.EndData)) 1 tests))

start-sound : IsSound (told_by [])
start-sound = record {
  few_rows = omega arith;
  objective = λ e. absurd cc;
  one_quadratic = tt;
  no_pairs = λ e. refl;
  pairs = λ e. tt;
}

-- what lines up to ENDATA tell
pub record IsWhole (told : Told) : Type 0 where
  pub sound : IsSound told
  pub columns : list_any is_columns told.sections ≡ true

verdict-sound : (raws : List (List ℕ)) (at : ℕ) (earlier : List (List ℕ)) (v : List (List ℕ) × ℕ) → IsSound (told_by earlier) → verdict at earlier raws ≡ Ok v → IsWhole (told_by v.0)
verdict-sound [] at earlier v h e = absurd cc
verdict-sound (raw ∷ raws) at earlier v h e =
    by_fault (line_fault (told_by earlier) at raw) (ends (without_return raw)) refl refl e (λ next f. verdict-sound raws (at + length raw + 1) (without_return raw ∷ earlier) v next f)
  where
    lines_are : (a b : List (List ℕ) × ℕ) → (let r : Result (List (List ℕ) × ℕ) Fault = Ok a in r) ≡ Ok b → a ≡ b
    lines_are a b e = cc

    next_sound : line_fault (told_by earlier) at raw ≡ None → IsSound (told_by (without_return raw ∷ earlier))
    next_sound p = rw (told_line earlier (without_return raw)) (line-sound (told_by earlier) at raw h p)

    by_fault : (o : Option FaultKind) (b : Bool) → line_fault (told_by earlier) at raw ≡ o → ends (without_return raw) ≡ b
        → unless o (length earlier + 1) (if b then Ok (without_return raw ∷ earlier, at + length raw + 1) else verdict (at + length raw + 1) (without_return raw ∷ earlier) raws) ≡ Ok v
        → (IsSound (told_by (without_return raw ∷ earlier)) → verdict (at + length raw + 1) (without_return raw ∷ earlier) raws ≡ Ok v → IsWhole (told_by v.0)) → IsWhole (told_by v.0)
    by_fault (Some kind) b p q e again = absurd cc
    by_fault None true p q e again =
        let is : (without_return raw ∷ earlier, at + length raw + 1) ≡ v = lines_are (without_return raw ∷ earlier, at + length raw + 1) v e in
        subst (λ (v : List (List ℕ) × ℕ). IsWhole (told_by v.0)) is (record {
          sound = next_sound p;
          columns = ap (λ (t : Told). list_any is_columns t.sections) (told_line earlier (without_return raw)) ∙ end-columns (told_by earlier) at raw p q;
        })
    by_fault None false p q e again = again (next_sound p) e

abbrev answer : Told × Spot → Result (Told × Spot) Fault
answer x = Ok x

same_answer : (x y : Told × Spot) → answer x ≡ answer y → x ≡ y
same_answer x y e = cc

-- what is told of a text
pub told-whole : (text : List ℕ) (told : Told) (spot : Spot) → told_of text ≡ Ok (told, spot) → IsWhole told
told-whole text told spot e = by_verdict (verdict_of text) refl e
  where
    by_verdict : (r : Result (List (List ℕ) × ℕ) Fault) → verdict_of text ≡ r → told_verdict text r ≡ Ok (told, spot) → IsWhole told
    by_verdict (Err fault) p e = absurd cc
    by_verdict (Ok v) p e = subst IsWhole (ap (λ (x : Told × Spot). x.0) (same_answer (told_by v.0, behind text v) (told, spot) e)) (verdict-sound (raw_lines text) 0 [] v start-sound p)
