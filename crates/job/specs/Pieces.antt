-- The pieces of a job.
use Rattle.std.specs.Prelude.{ℕ, ◌+◌, ◌-◌, ◌≤◌, None}
use Rattle.job.specs.declared.piece.Piece.{Piece}

abbrev pub no_piece : Piece
no_piece = record { from = 0; to = 0; part = record { first = 0; last = 0; marks = 0; at = 0; kept = record { rows = 0; fault = None } } }

-- what holds of each piece of a job for a file of `size` bytes, with `used` rows: its bytes lie in the file, its rows among the used ones;
-- it has no more marks than bytes, and its last mark has no row
abbrev pub InPlace : ℕ → ℕ → Piece → Type 0
InPlace size used p =
    (p.from ≤ p.to) × (p.to ≤ size) × (p.part.at + p.part.kept.rows ≤ used) × (p.part.kept.rows ≤ p.part.marks - 1) × (p.part.marks ≤ p.to - p.from)
