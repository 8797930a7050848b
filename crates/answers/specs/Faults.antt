-- The faults of a file, with their numbers and places.
use Rattle.std.specs.Prelude.{ℕ}
use Rattle.rows.specs.declared.row.PieceFault.{PieceFault}
use Rattle.rows.specs.declared.row.PieceFault.TheVariants as piece
use Rattle.answers.specs.declared.fault.Fault.{Fault}
use Rattle.answers.specs.declared.fault.Fault.TheVariants.{BadTag, Mismatch, Stray, Unclosed}

-- the number of a fault
abbrev pub fault_number : Fault → ℕ
fault_number (BadTag e) = 101
fault_number (Mismatch p) = 102
fault_number (Stray p) = 103
fault_number (Unclosed p) = 104

-- the mark at which it stands
abbrev pub fault_place : Fault → ℕ
fault_place (BadTag e) = e.mark
fault_place (Mismatch p) = p
fault_place (Stray p) = p
fault_place (Unclosed p) = p

-- a piece's fault, as the file's
abbrev pub from_piece : PieceFault → Fault
from_piece (piece.BadTag e) = BadTag e
from_piece (piece.Mismatch p) = Mismatch p
