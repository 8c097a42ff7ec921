-- How large a certificate may be.
use Rattle.std.specs.Prelude.{ℕ}

-- how many squares there are at most
abbrev pub most_squares : ℕ
most_squares = 128

-- how many branches a tree has at most
abbrev pub most_branches : ℕ
most_branches = 20256
