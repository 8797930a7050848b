-- What the tag of a stretch makes, as code answers it.
use Rattle.std.specs.Prelude.{[], Some, Ok, Err, Result}
use Rattle.rows.specs.declared.row.Row.{Row}
use Rattle.rows.specs.declared.row.PieceFault.{PieceFault}
use Rattle.rows.specs.Pieces.{Content}
use Rattle.rows.specs.Stretches.{lone}

-- a row with its plain form, or a fault, as a content
abbrev pub content_of : {P : Type 0} → Result (Row × P) PieceFault → Content P
content_of (Ok t) = lone t.0 t.1
content_of (Err f) = record { rows = []; fault = Some f }
