-- Lines of ROWS.
use Rattle.std.proofs.Common.{◌≡◌, ℕ, zero, suc, ◌<◌, false, ◌&&◌, List, [], ◌∷◌, ◌++◌, length, Option, Some, None, Ok, refl, sym, subst, arith}
use Rattle.std.specs.Prelude.{is_some, nat_le}
use Rattle.std.specs.Str.{bytes_eq}
use Rattle.program_law.specs.Places.{place_of}
use Rattle.program_law.specs.Program.{marker}
use Rattle.mps_tokens.specs.declared.words.RowKind.{RowKind}
use Rattle.named_things.specs.Named.{names_of}
use Rattle.mps_grammar.specs.Told.{binds, program_rows}
use Rattle.mps_grammar.specs.Faults.{is_long}
use Rattle.mps_notes.specs.declared.notes.Notes.{Notes}
use Rattle.named_things.specs.Names.{name_at}
use Rattle.mps_notes.specs.Names.{AreNames}
use Rattle.mps_notes.specs.Notes.{told_in, IsSound}
use Rattle.mps_notes.specs.Notes.{Holds}
use Rattle.mps_sections.specs.Steps.{TakesNamed}
use Rattle.mps_notes.proofs.RowLemmas.{name_filled}
use Rattle.mps_notes.proofs.Sound.{keeps_rows}

filled_at : (names : List (List ℕ)) (k : ℕ) → AreNames names → k < length names → bytes_eq (name_at names k) [] ≡ false
filled_at [] k good lt = absurd (omega arith)
filled_at (n ∷ ns) zero good lt = name_filled n good.0
filled_at (n ∷ ns) (suc k) good lt = filled_at ns k good.1 (omega arith)

pub none_found : (o : Option ℕ) → is_some o ≡ false → o ≡ None
none_found None e = refl
none_found (Some k) e = absurd cc

pub row_put : (n : Notes) (kind : RowKind) (name : List ℕ) (rows : List (List ℕ × RowKind)) → IsSound n → AreNames (names_of n.rows) → bytes_eq name marker ≡ false → is_long name ≡ false → place_of (names_of n.rows) name ≡ None
    → (binds kind && nat_le 128 (length (program_rows n.rows))) ≡ false → rows ≡ n.rows ++ (name, kind) ∷ [] → TakesNamed n kind name (record n { rows = rows }) (Ok tt)
row_put n kind name rows h good apart short absent room is =
    let P : List (List ℕ × RowKind) → Type 0 = λ l. Holds (record (told_in n) { rows = n.rows ++ (name, kind) ∷ [] }) (record n { rows = l }) in
    (rw (apart, short, absent, room) refl, subst P (sym is) (keeps_rows n name kind (λ k lt. filled_at (names_of n.rows) k good lt) h absent))
