-- The entries of a line's items, and what they tell.
use Rattle.std.proofs.Common.{◌≡◌, ℕ, ◌<◌, List, [], ◌∷◌, ◌++◌, length, Option, Some, None, Result, refl, sym, ap, subst, ◌∙◌, append_assoc}
use Rattle.std.specs.Prelude.{IfSome}
use Rattle.rational.specs.Rational.{ℚ}
use Rattle.program_law.specs.Places.{place_of}
use Rattle.mps_tokens.specs.declared.fault.NumberFault.{NumberFault}
use Rattle.mps_grammar.specs.declared.kinds.FaultKind.{FaultKind}
use Rattle.mps_grammar.specs.Fields.{Pair}
use Rattle.named_things.specs.Named.{names_of}
use Rattle.mps_grammar.specs.Told.{Telling, value_or_zero, with_pairs}
use Rattle.mps_notes.specs.declared.numbers.Entry.{Entry}
use Rattle.mps_fields.specs.declared.pairs.Item.{Item}
use Rattle.mps_fields.specs.declared.pairs.Items.{Items}
use Rattle.named_things.specs.Names.{name_at}
use Rattle.mps_fields.specs.Resolved.{IsItem, AreItems, Resolves}
use Rattle.mps_notes.specs.Placed.{entry_at, second_entry}
use Rattle.mps_notes.specs.Told.{telling_of, tellings_of, IsEntry, AreEntries}
use Rattle.named_things.proofs.PlaceLemmas.{place_below}
use Rattle.mps_notes.proofs.RowLemmas.{all_push, names_length}
use Rattle.mps_notes.proofs.Tellings.{name_from_place, tellings_push}

-- the place of a second item's name, where there is one
abbrev pub place_for : List (List ℕ) → List (List ℕ) → Option Item → Option ℕ
place_for rows used None = None
place_for rows used (Some item) = place_of used (name_at rows item.place)

module _ (columns rows used : List (List ℕ)) (c : List ℕ) (line column : ℕ) (read : List ℕ → Result ℚ NumberFault) (at : place_of columns c ≡ Some column) where
  -- what one entry tells
  entry_tells : (p : Pair) (item : Item) (place : Option ℕ) → IsItem rows read p item → telling_of columns rows (entry_at line column item place) ≡ record { line = line; column = c; row = p.0; value = value_or_zero (read p.1) }
  entry_tells p item place h = rw (name_from_place columns c column at, name_from_place rows p.0 item.place h.place, h.value) refl

  is_entry : (p : Pair) (item : Item) (place : Option ℕ) → IsItem rows read p item → place ≡ place_of used (name_at rows item.place) → IsEntry columns rows used (entry_at line column item place)
  is_entry p item place h e = record { column = place_below columns c column at; row = place_below rows p.0 item.place h.place; place = e }

  pub record Put (old new : List Entry) (pairs : List Pair) : Type 0 where
    pub entries : AreEntries columns rows used new
    pub numbers : tellings_of columns rows new ≡ with_pairs read line c pairs (tellings_of columns rows old)

  push_tells : (old : List Entry) (p : Pair) (item : Item) (place : Option ℕ) → IsItem rows read p item → tellings_of columns rows (old ++ entry_at line column item place ∷ []) ≡ with_pairs read line c (p ∷ []) (tellings_of columns rows old)
  push_tells old p item place h = tellings_push columns rows old (entry_at line column item place) ∙ ap (λ (t : Telling). t ∷ tellings_of columns rows old) (entry_tells p item place h)

  pub put_one : (old : List Entry) (p : Pair) (item : Item) (place : Option ℕ) → AreEntries columns rows used old → IsItem rows read p item → place ≡ place_of used (name_at rows item.place) → Put old (old ++ entry_at line column item place ∷ []) (p ∷ [])
  put_one old p item place all h e = record {
    entries = all_push (IsEntry columns rows used) old (entry_at line column item place) all (is_entry p item place h e);
    numbers = push_tells old p item place h;
  }

  pub put_two : (old : List Entry) (p q : Pair) (first second : Item) (one other : Option ℕ) → AreEntries columns rows used old → IsItem rows read p first → IsItem rows read q second
      → one ≡ place_of used (name_at rows first.place) → other ≡ place_of used (name_at rows second.place) → Put old (old ++ entry_at line column first one ∷ entry_at line column second other ∷ []) (p ∷ q ∷ [])
  put_two old p q first second one other all h i e f =
      let a = entry_at line column first one in
      let b = entry_at line column second other in
      let mid = put_one old p first one all h e in
      let P : List Entry → Type 0 = λ l. AreEntries columns rows used l in
      let joined : (old ++ a ∷ []) ++ b ∷ [] ≡ old ++ a ∷ b ∷ [] = append_assoc old (a ∷ []) (b ∷ []) in
      record {
        entries = subst P joined (all_push (IsEntry columns rows used) (old ++ a ∷ []) b mid.entries (is_entry q second other i f));
        numbers = ap (tellings_of columns rows) (sym joined) ∙ push_tells (old ++ a ∷ []) q second other i ∙ ap (with_pairs read line c (q ∷ [])) mid.numbers;
      }

  -- the items of a line
  pub put_done : (old new : List Entry) (pairs : List Pair) (first : Item) (second : Option Item) (one other : Option ℕ) → AreEntries columns rows used old → AreItems rows read pairs first second
      → one ≡ place_of used (name_at rows first.place) → other ≡ place_for rows used second → new ≡ old ++ entry_at line column first one ∷ second_entry line column second other → Put old new pairs
  put_done old new [] first second one other all items e f g = absurd items
  put_done old new (p ∷ []) first None one other all items e f g = rw g (put_one old p first one all items e)
  put_done old new (p ∷ []) first (Some second) one other all items e f g = absurd items
  put_done old new (p ∷ q ∷ []) first None one other all items e f g = absurd items
  put_done old new (p ∷ q ∷ []) first (Some second) one other all items e f g = rw g (put_two old p q first second one other all items.0 items.1 e f)
  put_done old new (p ∷ q ∷ r ∷ rest) first second one other all items e f g = absurd items

-- the items of resolved pairs are among the names
pub items_within : (names : List (List ℕ)) (read : List ℕ → Result ℚ NumberFault) (pairs : List Pair) (first : Item) (second : Option Item) → AreItems names read pairs first second → (first.place < length names) × IfSome second (λ item. item.place < length names)
items_within names read [] first second items = absurd items
items_within names read (p ∷ []) first None items = (place_below names p.0 first.place items.place, tt)
items_within names read (p ∷ []) first (Some second) items = absurd items
items_within names read (p ∷ q ∷ []) first None items = absurd items
items_within names read (p ∷ q ∷ []) first (Some second) items = (place_below names p.0 first.place items.0.place, place_below names q.0 second.place items.1.place)
items_within names read (p ∷ q ∷ r ∷ rest) first second items = absurd items

-- what is resolved among names is resolved among the same names
pub resolved : (names others : List (List ℕ)) (read : List ℕ → Result ℚ NumberFault) (pairs : List Pair) (r : Result Items FaultKind) → names ≡ others → Resolves names read pairs r → Resolves others read pairs r
resolved names others read pairs r e h = let P : List (List ℕ) → Type 0 = λ l. Resolves l read pairs r in subst P e h

-- the names of things are as many as the things
pub within_length : {A : Type 0} (things : List (List ℕ × A)) (first : Item) (second : Option Item) → (first.place < length (names_of things)) × IfSome second (λ item. item.place < length (names_of things)) → (first.place < length things) × IfSome second (λ item. item.place < length things)
within_length things first second h = let P : ℕ → Type 0 = λ k. (first.place < k) × IfSome second (λ item. item.place < k) in subst P (names_length things) h
