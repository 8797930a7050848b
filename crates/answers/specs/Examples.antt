-- Small files and pieces worked through.
use Rattle.std.specs.Prelude.{◌≡◌, ℕ, Bool, List, [], ◌∷◌, length, Some, None, codes, Option}
use Rattle.tags.specs.declared.tag.Cause.TheVariants.{NoName}
use Rattle.rows.specs.declared.row.RowKind.{RowKind}
use Rattle.rows.specs.declared.row.RowKind.TheVariants.{Close, Open, Done}
use Rattle.rows.specs.declared.row.PieceFault.{PieceFault}
use Rattle.rows.specs.declared.row.PieceFault.TheVariants as piece
use Rattle.rows.specs.Pieces.{Entry, Content}
use Rattle.rows.specs.Stretches.{content}
use Rattle.answers.specs.Paths.{paths}

abbrev row : RowKind → ℕ → ℕ → List (List ℕ) → Entry (List (List ℕ))
row k p n a = record { row = record { kind = k; place = p; name_len = n }; act = a }

-- what a read of all the bytes holds, the stretch from the last mark on left out
abbrev read_all : (List (List ℕ) → List Bool) → List ℕ → Content (List (List ℕ))
read_all verdict file = content file (paths verdict) 0 (length file)

abbrev holding : List (Entry (List (List ℕ))) → Option PieceFault → Content (List (List ℕ))
holding rows fault = record { rows = rows; fault = fault }

-- by the machine whose actions are paths
abbrev pub Pieces : Type 0
Pieces = (verdict : List (List ℕ) → List Bool) →
    (read_all verdict (codes "</ab><c><d/></c><") ≡ holding (row Close 0 2 [] ∷ row Done 5 1 (codes "c" ∷ []) ∷ row Done 8 1 (codes "c" ∷ codes "d" ∷ []) ∷ []) None)
    × (read_all verdict (codes "<a><b></b><c><") ≡ holding (row Open 0 1 (codes "a" ∷ []) ∷ row Done 3 1 (codes "a" ∷ codes "b" ∷ []) ∷ row Open 10 1 (codes "a" ∷ codes "c" ∷ []) ∷ []) None)
    × (read_all verdict (codes "</x><a></b><") ≡ holding (row Close 0 1 [] ∷ []) (Some (piece.Mismatch 7)))
    × (read_all verdict (codes "</x><a><1><") ≡ holding (row Close 0 1 [] ∷ []) (Some (piece.BadTag (record { mark = 7; cause = NoName; byte = 8 }))))
