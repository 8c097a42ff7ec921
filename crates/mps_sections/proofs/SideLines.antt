-- Lines of RHS and RANGES.
use Rattle.std.proofs.Common.{◌≡◌, ℕ, ◌+◌, Bool, true, false, ◌&&◌, List, [], ◌∷◌, ◌++◌, Option, Some, None, Result, Ok, Err, refl, sym, ap, subst, ◌∙◌}
use Rattle.mps_tokens.specs.declared.words.RowKind.{RowKind}
use Rattle.mps_tokens.specs.declared.words.Section.TheVariants as sections
use Rattle.mps_tokens.specs.Numbers.{number_of}
use Rattle.mps_grammar.specs.declared.kinds.FaultKind.{FaultKind}
use Rattle.mps_grammar.specs.declared.kinds.FaultKind.TheVariants as kinds
use Rattle.mps_grammar.specs.Fields.{Pair, Entries, sides_in}
use Rattle.named_things.specs.Named.{names_of}
use Rattle.mps_grammar.specs.Told.{Told, used_names, is_told, is_used, first_named}
use Rattle.mps_grammar.specs.Faults.{Tests, first_of, gives_twice, has_long, side_tests}
use Rattle.mps_fields.specs.declared.pairs.Item.{Item}
use Rattle.mps_notes.specs.declared.sides.Sides.{Sides}
use Rattle.mps_notes.specs.declared.notes.Notes.{Notes}
use Rattle.mps_sections.specs.declared.stop.LineStop.{LineStop}
use Rattle.mps_sections.specs.declared.stop.LineStop.TheVariants as stops
use Rattle.mps_notes.specs.Twice.{is_counted, twice_at}
use Rattle.mps_fields.specs.Resolved.{pair_tests, AreItems}
use Rattle.mps_notes.specs.Placed.{row_place, second_place, items_entries}
use Rattle.mps_notes.specs.Told.{tellings_of, AreEntries, text_in}
use Rattle.mps_notes.specs.Notes.{no_column, told_in, IsSound}
use Rattle.mps_sections.specs.Steps.{Judged, SidesDone, TakesSideItems, TakesData}
use Rattle.mps_sections.proofs.TestChains.{first_front, first_rest}
use Rattle.mps_notes.proofs.Twice.{twice_same}
use Rattle.mps_notes.proofs.Puts.{put_done}
use Rattle.mps_sections.proofs.EntryLines.{second_is}
use Rattle.mps_notes.proofs.Sound.{keeps_sides, keeps_ranges}

abbrev Kinds : Type 0
Kinds = List (List ℕ × RowKind)

-- ---- the items of a line

module _ (rows : Kinds) (old : Sides) (line : ℕ) (set : List ℕ) (pairs : List Pair) (first : Item) (second : Option Item) (all : AreEntries no_column (names_of rows) (used_names rows) old.numbers) (items : AreItems (names_of rows) number_of pairs first second) where
  pub test_from : (one other : Option ℕ) (b : Bool) → one ≡ row_place rows first.place → other ≡ second_place rows second → b ≡ twice_at old.numbers (Some 0) one other
      → gives_twice (is_counted rows) (is_told (tellings_of no_column (names_of rows) old.numbers) []) pairs ≡ b
  test_from one other b f g is = twice_same no_column rows old.numbers [] (Some 0) number_of pairs first second (refl, tt) all refl items ∙ sym (is ∙ rw (f, g) refl)

  pub given_twice : is_used (text_in old.set) set ≡ true → gives_twice (is_counted rows) (is_told (tellings_of no_column (names_of rows) old.numbers) []) pairs ≡ true
      → first_of ((is_used (text_in old.set) set && gives_twice (is_counted rows) (is_told (tellings_of no_column (names_of rows) old.numbers) []) pairs, kinds.EntryTwice) ∷ []) ≡ Some kinds.EntryTwice
  given_twice e f = rw (e, f) refl

  pub sides_put : (one other : Option ℕ) (new : Sides) → is_used (text_in old.set) set ≡ true → gives_twice (is_counted rows) (is_told (tellings_of no_column (names_of rows) old.numbers) []) pairs ≡ false
      → one ≡ row_place rows first.place → other ≡ second_place rows second → text_in new.set ≡ first_named (text_in old.set) (Some set)
      → new.numbers ≡ old.numbers ++ items_entries line 0 (record { first = first; second = second }) (record { first = one; second = other }) → TakesSideItems rows old line set pairs new (Ok tt)
  sides_put one other new used e f g named is =
      let put = put_done no_column (names_of rows) (used_names rows) [] line 0 number_of refl old.numbers new.numbers pairs first second one other all items f (g ∙ second_is rows second) is in
      (rw (used, e) refl, record { set = named; entries = put.entries; numbers = put.numbers ∙ rw used refl })

-- ---- a line

module _ (rows : Kinds) (old new : Sides) (line : ℕ) (fields : List (List ℕ)) (set : List ℕ) (pairs : List Pair) (all : Told) (same : all.rows ≡ rows) (form : sides_in fields ≡ Some (set, pairs)) (short : has_long (set, pairs) ≡ false) where
  abbrev last : Tests
  last = (is_used (text_in old.set) set && gives_twice (is_counted rows) (is_told (tellings_of no_column (names_of rows) old.numbers) []) pairs, kinds.EntryTwice) ∷ []

  rests : side_tests all (text_in old.set) (tellings_of no_column (names_of rows) old.numbers) (sides_in fields)
      ≡ (false, kinds.NameLong) ∷ pair_tests (names_of rows) number_of pairs ++ last
  rests = rw (form, short, same) refl

  pub sides_fail : (kind : FaultKind) → first_of (pair_tests (names_of rows) number_of pairs) ≡ Some kind → first_of (side_tests all (text_in old.set) (tellings_of no_column (names_of rows) old.numbers) (sides_in fields)) ≡ Some kind
  sides_fail kind e = ap first_of rests ∙ first_front (pair_tests (names_of rows) number_of pairs) last kind e

  pub sides_go : (r : Result Unit LineStop) → first_of (pair_tests (names_of rows) number_of pairs) ≡ None → TakesSideItems rows old line set pairs new r
      → Judged (side_tests all (text_in old.set) (tellings_of no_column (names_of rows) old.numbers) (sides_in fields)) (λ done. SidesDone rows old new line (sides_in fields)) r
  sides_go (Ok u) e t = let P : Option Entries → Type 0 = λ o. SidesDone rows old new line o in (ap first_of rests ∙ first_rest (pair_tests (names_of rows) number_of pairs) last e ∙ t.0, subst P (sym form) t.1)
  sides_go (Err stops.Memory) e t = tt
  sides_go (Err (stops.Fault kind)) e t = ap first_of rests ∙ first_rest (pair_tests (names_of rows) number_of pairs) last e ∙ t

-- ---- right sides and ranges among what is kept

pub right_sides : (n : Notes) (new : Sides) (fields : List (List ℕ)) (r : Result Unit LineStop) → IsSound n
    → Judged (side_tests (told_in n) (text_in n.sides.set) (tellings_of no_column (names_of n.rows) n.sides.numbers) (sides_in fields)) (λ done. SidesDone n.rows n.sides new (n.lines + 1) (sides_in fields)) r
    → TakesData n sections.Rhs fields (record n { sides = new }) r
right_sides n new fields (Ok u) h t = (t.0, keeps_sides n new _ _ h t.1.entries t.1.set t.1.numbers)
right_sides n new fields (Err stops.Memory) h t = tt
right_sides n new fields (Err (stops.Fault kind)) h t = t

pub range_sides : (n : Notes) (new : Sides) (fields : List (List ℕ)) (r : Result Unit LineStop) → IsSound n
    → Judged (side_tests (told_in n) (text_in n.ranges.set) (tellings_of no_column (names_of n.rows) n.ranges.numbers) (sides_in fields)) (λ done. SidesDone n.rows n.ranges new (n.lines + 1) (sides_in fields)) r
    → TakesData n sections.Ranges fields (record n { ranges = new }) r
range_sides n new fields (Ok u) h t = (t.0, keeps_ranges n new _ _ h t.1.entries t.1.set t.1.numbers)
range_sides n new fields (Err stops.Memory) h t = tt
range_sides n new fields (Err (stops.Fault kind)) h t = t
