-- The number of a refusal, which is that of its question.
use Rattle.std.specs.Prelude.{ℕ}
use Rattle.machine.specs.declared.refusal.Refusal.{Refusal}
use Rattle.machine.specs.declared.refusal.Refusal.TheVariants.{TextTooLong, NotQueries, TooManyPositions, NamesOverLimit, TooManySets, FileTooLong, OtherLength, ListsTooShort, OutOfRange, NoSuchPiece, PiecesApart, NotWhole, RowsBroken, TooManyPieces, NoRoomForRows, NoRoomForMatches}

abbrev pub refusal_number : Refusal → ℕ
refusal_number TextTooLong = 1
refusal_number NotQueries = 2
refusal_number TooManyPositions = 3
refusal_number NamesOverLimit = 4
refusal_number TooManySets = 5
refusal_number FileTooLong = 6
refusal_number OtherLength = 7
refusal_number ListsTooShort = 8
refusal_number OutOfRange = 9
refusal_number NoSuchPiece = 10
refusal_number PiecesApart = 11
refusal_number NotWhole = 12
refusal_number RowsBroken = 13
refusal_number TooManyPieces = 14
refusal_number NoRoomForRows = 15
refusal_number NoRoomForMatches = 16
