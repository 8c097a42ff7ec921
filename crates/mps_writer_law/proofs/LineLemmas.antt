-- Lines that are put one after another.
use Rattle.std.specs.Prelude.{◌≡◌, ℕ, suc, ◌+◌, ◌||◌, Bool, true, false, List, [], ◌∷◌, ◌++◌}
use Rattle.std.proofs.Common.{arith, refl, sym, ap, subst, ◌∙◌, append_assoc}
use Rattle.std.proofs.lemmas.List.{append-nil}
use Rattle.std.proofs.lemmas.List.Concat.{flat_map-append}
use Rattle.mps_tokens.specs.Written.{ended}
use Rattle.mps_writer_law.specs.Lines.{lines_text, section, behind, has_lines, each}

pub each_more : (n : ℕ) (f : ℕ → List (List ℕ)) → each (n + 1) f ≡ each n f ++ f n
each_more n f = let one : n + 1 ≡ suc n = omega arith in rw one refl

-- the lines of one place more
pub lines_more : (n : ℕ) (f : ℕ → List (List ℕ)) (old before new : List ℕ) → before ≡ old ++ lines_text (each n f) → new ≡ before ++ lines_text (f n) → new ≡ old ++ lines_text (each (n + 1) f)
lines_more n f old before new is e =
    rw (each_more n f, flat_map-append ended (each n f) (f n)) (e ∙ ap (λ (text : List ℕ). text ++ lines_text (f n)) is ∙ append_assoc old (lines_text (each n f)) (lines_text (f n)))

-- a line more
pub line_more : (n : ℕ) (f : ℕ → List ℕ) (old before new : List ℕ) → before ≡ old ++ lines_text (each n (λ i. f i ∷ [])) → new ≡ before ++ ended (f n) → new ≡ old ++ lines_text (each (n + 1) (λ i. f i ∷ []))
line_more n f old before new is e =
    lines_more n (λ i. f i ∷ []) old before new is (e ∙ ap (λ (text : List ℕ). before ++ text) (sym (append-nil (ended (f n)))))

section_append : (word : List ℕ) (xs ys : List (List ℕ)) → section word (xs ++ ys) ≡ section word xs ++ behind (has_lines xs) word ys
section_append word [] ys = refl
section_append word (x ∷ xs) ys = refl

pub has_append : (xs ys : List (List ℕ)) → has_lines (xs ++ ys) ≡ (has_lines xs || has_lines ys)
has_append [] ys = refl
has_append (x ∷ xs) ys = refl

-- the lines of one place more in a section, behind those that stand first in it
pub section_more : (word : List ℕ) (first : List (List ℕ)) (n : ℕ) (f : ℕ → List (List ℕ)) (old before new : List ℕ) (begun then : Bool)
    → (before ≡ old ++ lines_text (section word (first ++ each n f))) × (begun ≡ has_lines (first ++ each n f))
    → new ≡ before ++ lines_text (behind begun word (f n)) → then ≡ (begun || has_lines (f n))
    → (new ≡ old ++ lines_text (section word (first ++ each (n + 1) f))) × (then ≡ has_lines (first ++ each (n + 1) f))
section_more word first n f old before new begun then is e t =
    let split : first ++ each (n + 1) f ≡ (first ++ each n f) ++ f n = rw (each_more n f) (sym (append_assoc first (each n f) (f n))) in (
      rw (split, section_append word (first ++ each n f) (f n), flat_map-append ended (section word (first ++ each n f)) (behind (has_lines (first ++ each n f)) word (f n)), ← is.1)
          (e ∙ ap (λ (text : List ℕ). text ++ lines_text (behind begun word (f n))) is.0 ∙ append_assoc old (lines_text (section word (first ++ each n f))) (lines_text (behind begun word (f n)))),
      rw (split, has_append (first ++ each n f) (f n), ← is.1) t,
    )

-- lines behind a section's word and its other lines
pub lines_last : (word old middle new : List ℕ) (xs ys : List (List ℕ)) → middle ≡ (old ++ ended word) ++ lines_text xs → new ≡ middle ++ lines_text ys → new ≡ old ++ lines_text (word ∷ (xs ++ ys))
lines_last word old middle new xs ys is e =
    rw (flat_map-append ended xs ys) (e ∙ ap (λ (text : List ℕ). text ++ lines_text ys) is ∙ append_assoc (old ++ ended word) (lines_text xs) (lines_text ys) ∙ append_assoc old (ended word) (lines_text xs ++ lines_text ys))

behind_append : (begun : Bool) (word : List ℕ) (xs ys : List (List ℕ)) → behind begun word (xs ++ ys) ≡ behind begun word xs ++ behind (begun || has_lines xs) word ys
behind_append true word xs ys = refl
behind_append false word xs ys = section_append word xs ys

or_assoc : (a b c : Bool) → ((a || b) || c) ≡ (a || (b || c))
or_assoc true b c = refl
or_assoc false b c = refl

-- the lines of one place more in a section that was begun or not
pub behind_more : (word : List ℕ) (first : Bool) (n : ℕ) (f : ℕ → List (List ℕ)) (old before new : List ℕ) (begun then : Bool)
    → (before ≡ old ++ lines_text (behind first word (each n f))) × (begun ≡ (first || has_lines (each n f)))
    → new ≡ before ++ lines_text (behind begun word (f n)) → then ≡ (begun || has_lines (f n))
    → (new ≡ old ++ lines_text (behind first word (each (n + 1) f))) × (then ≡ (first || has_lines (each (n + 1) f)))
behind_more word first n f old before new begun then is e t = (
  rw (each_more n f, behind_append first word (each n f) (f n), flat_map-append ended (behind first word (each n f)) (behind (first || has_lines (each n f)) word (f n)), ← is.1)
      (e ∙ ap (λ (text : List ℕ). text ++ lines_text (behind begun word (f n))) is.0 ∙ append_assoc old (lines_text (behind first word (each n f))) (lines_text (behind begun word (f n)))),
  rw (each_more n f, has_append (each n f) (f n), ← or_assoc first (has_lines (each n f)) (has_lines (f n)), ← is.1) t,
)

-- all places
pub all_behind : (word : List ℕ) (first : Bool) (n m : ℕ) (f : ℕ → List (List ℕ)) (old new : List ℕ) → n ≡ m
    → new ≡ old ++ lines_text (behind first word (each n f)) → new ≡ old ++ lines_text (behind first word (each m f))
all_behind word first n m f old new same is = subst (λ (k : ℕ). new ≡ old ++ lines_text (behind first word (each k f))) same is

-- a word, six sections and a word
pub whole_text : (first last : List ℕ) (a b c d e f : List (List ℕ)) (t t0 t1 t2 t3 t4 t5 t6 t7 : List ℕ)
    → t0 ≡ t ++ ended first → t1 ≡ t0 ++ lines_text a → t2 ≡ t1 ++ lines_text b → t3 ≡ t2 ++ lines_text c → t4 ≡ t3 ++ lines_text d
    → t5 ≡ t4 ++ lines_text e → t6 ≡ t5 ++ lines_text f → t7 ≡ t6 ++ ended last
    → t7 ≡ t ++ lines_text (first ∷ (a ++ (b ++ (c ++ (d ++ (e ++ (f ++ last ∷ [])))))))
whole_text first last a b c d e f t t0 t1 t2 t3 t4 t5 t6 t7 e0 e1 e2 e3 e4 e5 e6 e7 =
    rw (e7, e6, e5, e4, e3, e2, e1, e0) (simp (flat_map-append, append_assoc, append-nil))
