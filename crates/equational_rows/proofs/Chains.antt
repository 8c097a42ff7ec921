-- Chains of calculations, and the stops that end them.
use Rattle.std.specs.Prelude.{◌≡◌, List, [], ◌∷◌, ◌++◌, Result, Ok, Err}
use Rattle.std.proofs.Common.{refl, sym, ap, ◌∙◌, append_assoc, append-nil}
use Rattle.rational.specs.Rational.{ℚ}
use Rattle.frac_core.specs.declared.fractions.Refused.{Refused}
use Rattle.exact_matrix.specs.declared.systems.Stop.{Stop}
use Rattle.exact_matrix.specs.declared.systems.Stop.TheVariants.{Memory, Past}
use Rattle.frac_core.specs.Calculated.{◌>>=◌}
use Rattle.exact_matrix.specs.Stops.{Stops}

-- a stop ends all that follows
pub stops_then : {A B : Type 0} (e : Stop) (t : Result A Refused) (f : A → Result B Refused) → Stops e t → Stops e (t >>= f)
stops_then Memory t f h = tt
stops_then (Past r) t f h = rw h refl

pub stops_as : {A : Type 0} (e : Stop) (t u : Result A Refused) → t ≡ u → Stops e t → Stops e u
stops_as e t u h s = rw (sym h) s

-- one part after another, in either order of the brackets
pub chained : {A B C : Type 0} (t : Result A Refused) (f : A → Result B Refused) (g : B → Result C Refused) → (t >>= f >>= g) ≡ (t >>= λ x. f x >>= g)
chained (Ok x) f g = refl
chained (Err r) f g = refl

-- a list of which the first item is known
pub one_more : (done : List ℚ) (q : ℚ) (rest : Result (List ℚ) Refused) → (rest >>= λ qs. Ok (q ∷ qs)) >>= (λ qs. Ok (done ++ qs)) ≡ (rest >>= λ qs. Ok ((done ++ q ∷ []) ++ qs))
one_more done q (Ok qs) = ap (λ (l : List ℚ). Ok l) (sym (append_assoc done (q ∷ []) qs))
one_more done q (Err r) = refl

-- what is left after a part that is known
pub goes_on : {A B : Type 0} (t : Result A Refused) (f : A → Result B Refused) (x : A) (left whole : Result B Refused) → left ≡ (t >>= f) → t ≡ Ok x → left ≡ whole → f x ≡ whole
goes_on {A = A} t f x left whole e h k = ap (λ (t : Result A Refused). t >>= f) (sym h) ∙ sym e ∙ k

pub breaks : {A B : Type 0} (e : Stop) (t : Result A Refused) (f : A → Result B Refused) (left whole : Result B Refused) → left ≡ (t >>= f) → Stops e t → left ≡ whole → Stops e whole
breaks e t f left whole p s k = stops_as e (t >>= f) whole (sym p ∙ k) (stops_then e t f s)

-- ---- lists item by item

pub list_on : (t : Result ℚ Refused) (q : ℚ) (left rest whole : Result (List ℚ) Refused) (done new : List ℚ) → left ≡ (t >>= λ q. rest >>= λ qs. Ok (q ∷ qs)) → t ≡ Ok q → new ≡ done ++ q ∷ []
    → (left >>= λ qs. Ok (done ++ qs)) ≡ whole → (rest >>= λ qs. Ok (new ++ qs)) ≡ whole
list_on t q left rest whole done new e h n k =
    ap (λ (l : List ℚ). rest >>= λ qs. Ok (l ++ qs)) n ∙ sym (one_more done q rest)
    ∙ ap (λ (v : Result (List ℚ) Refused). v >>= λ qs. Ok (done ++ qs)) (sym (e ∙ ap (λ (t : Result ℚ Refused). t >>= λ q. rest >>= λ qs. Ok (q ∷ qs)) h)) ∙ k

pub list_stops : (e : Stop) (t : Result ℚ Refused) (left rest whole : Result (List ℚ) Refused) (done : List ℚ) → left ≡ (t >>= λ q. rest >>= λ qs. Ok (q ∷ qs)) → Stops e t
    → (left >>= λ qs. Ok (done ++ qs)) ≡ whole → Stops e whole
list_stops e t left rest whole done p s k =
    stops_as e (left >>= λ qs. Ok (done ++ qs)) whole k
    (stops_then e left (λ qs. Ok (done ++ qs)) (stops_as e (t >>= λ q. rest >>= λ qs. Ok (q ∷ qs)) left (sym p) (stops_then e t (λ q. rest >>= λ qs. Ok (q ∷ qs)) s)))

pub list_ends : (left whole : Result (List ℚ) Refused) (done : List ℚ) → left ≡ Ok [] → (left >>= λ qs. Ok (done ++ qs)) ≡ whole → whole ≡ Ok done
list_ends left whole done e k = sym k ∙ ap (λ (v : Result (List ℚ) Refused). v >>= λ qs. Ok (done ++ qs)) e ∙ ap (λ (l : List ℚ). Ok l) (append-nil done)
