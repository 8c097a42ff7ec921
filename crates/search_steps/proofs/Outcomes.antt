-- What holds after a call that went well.
use Rattle.std.specs.Prelude.{◌≡◌, Bool, true, false, Result, Ok, Err, OnOk, is_err}
use Rattle.std.proofs.Common.{sym, ◌∙◌, true≢false}

pub done : {A E : Type 0} (r : Result A E) (b : Bool) (P : Type 0) → b ≡ is_err r → b ≡ false → OnOk r P → P
done (Ok x) b P e f p = p
done (Err x) b P e f p = absurd (true≢false (sym e ∙ f))
