-- Marks before any entry.
use Rattle.std.proofs.Common.{◌≡◌, ℕ, zero, suc, ◌+◌, ◌*◌, Bool, false, List, [], get_or, length, replicate, refl, ap, ◌∙◌}
use Rattle.std.proofs.lemmas.List.{length-replicate}
use Rattle.program_law.specs.Program.{most_columns}
use Rattle.mps_notes.specs.Entries.{most_places, AreMarksOf}

never_set : (n k : ℕ) → get_or (replicate n false) k false ≡ false
never_set zero k = refl
never_set (suc n) zero = refl
never_set (suc n) (suc k) = never_set n k

pub marks_none : (marks : List Bool) → marks ≡ replicate (most_places * most_columns) false → AreMarksOf [] marks
marks_none marks e = record {
  room = ap length e ∙ length-replicate (most_places * most_columns) false;
  told = λ c p a b. ap (λ (l : List Bool). get_or l (most_places * c + p) false) e ∙ never_set (most_places * most_columns) (most_places * c + p);
}
