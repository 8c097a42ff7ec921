-- The counts of a place, line by line.
use Rattle.std.proofs.Common.{ℕ, suc, ◌≤◌, arith}
use Rattle.std.specs.Prelude.{◌^◌}
use Rattle.cert_grammar.specs.declared.items.Item.{Item}
use Rattle.cert_grammar.specs.declared.items.Item.TheVariants as items
use Rattle.cert_grammar.specs.declared.items.Claim.{Claim}
use Rattle.cert_grammar.specs.declared.items.Claim.TheVariants.{Optimal}
use Rattle.cert_grammar.specs.declared.places.Place.{Place}
use Rattle.cert_grammar.specs.Places.{after, start, IsCounted, HasRoom}

pub counts : (lines : ℕ) (s : Place) (item : Item) → IsCounted lines s → IsCounted (suc lines) (after s item)
counts n s (items.Square v) h = record { wanted = omega arith; squares = omega arith; branches = omega arith }
counts n s (items.Branch j k) h = record { wanted = omega arith; squares = omega arith; branches = omega arith }
counts n s item h = record { wanted = omega arith; squares = omega arith; branches = omega arith }

pub has_room : (lines : ℕ) (s : Place) → lines ≤ 2 ^ 62 → IsCounted lines s → HasRoom s
has_room n s h k = record { wanted = omega (arith, k.wanted); squares = omega (arith, k.squares); branches = omega (arith, k.branches) }

pub start_counted : (claim : Claim) → IsCounted 0 (start claim)
start_counted Optimal = record { wanted = omega arith; squares = omega arith; branches = omega arith }
start_counted claim = record { wanted = omega arith; squares = omega arith; branches = omega arith }
