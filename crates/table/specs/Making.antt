-- What it is to make a table machine from a text.
use Rattle.std.specs.Prelude.{◌≡◌, ℕ, ◌+◌, List, length}
use Rattle.machine.specs.declared.queries.Queries.{Queries}
use Rattle.machine.specs.declared.refusal.Refusal.{Refusal}
use Rattle.machine.specs.declared.refusal.Refusal.TheVariants.{TextTooLong, NotQueries, TooManyPositions, NamesOverLimit, TooManySets, FileTooLong, OtherLength, ListsTooShort, OutOfRange, NoSuchPiece, PiecesApart, NotWhole, RowsBroken, TooManyPieces, NoRoomForRows, NoRoomForMatches}
use Rattle.machine.specs.Asked.{listed_names, queries_of, Refused}
use Rattle.machine.specs.Masks.{mask}
use Rattle.machine.specs.Queries.{Query, positions, begins, names_used}
use Rattle.machine.specs.Views.{names_of}
use Rattle.positions.specs.Verdicts.{ByRule, LinesOf, Passes}
use Rattle.table.specs.declared.table.TableMachine.{TableMachine}
use Rattle.table.specs.Arising.{MoreArise, AllArising}
use Rattle.table.specs.Filling.{seen, leads, Made}
use Rattle.table.specs.Tables.{tabled}

-- more sets of positions than 32 arise from the set of all positions 0, on the unlisted name and the names in order of first use
abbrev pub TooMany : List (List ℕ) → List Query → Type 0
TooMany names qs = MoreArise (leads (positions names qs)) (length names + 1) (mask (begins qs)) 32

-- the machine has these queries, with these names
pub record Holds (names : List (List ℕ)) (qs : List Query) (m : TableMachine) : Type 0 where
  pub named : names_of m.names ≡ names
  -- its states are the sets that arise, at most 32, numbered as they are found
  pub made : Made (leads (positions names qs)) (length names + 1) (mask (begins qs)) m.states
  pub arising : AllArising (leads (positions names qs)) (length names + 1) (mask (begins qs)) (seen m.states.found)
  pub lines : LinesOf qs m.lines
  pub rule : ByRule qs (tabled m).verdict

abbrev pub TableOf : Queries → TableMachine → Type 0
TableOf q m = Holds (listed_names q) (queries_of q) m

-- the text's questions are answered yes, and the machine has its queries: its verdict on every path is the path rule's
pub record Tabled (text : List ℕ) (m : TableMachine) : Type 0 where
  pub queries : List Query
  pub passes : Passes text queries
  pub holds : Holds (names_used queries) queries m

-- the first four questions are answered yes, and the fifth no
pub record SetsRefused (text : List ℕ) : Type 0 where
  pub queries : List Query
  pub passes : Passes text queries
  pub many : TooMany (names_used queries) queries

-- the first question that is answered no
abbrev pub TableRefused : List ℕ → Refusal → Type 0
TableRefused text TextTooLong = Refused text TextTooLong
TableRefused text NotQueries = Refused text NotQueries
TableRefused text TooManyPositions = Refused text TooManyPositions
TableRefused text NamesOverLimit = Refused text NamesOverLimit
TableRefused text TooManySets = SetsRefused text
TableRefused text FileTooLong = ⊥
TableRefused text OtherLength = ⊥
TableRefused text ListsTooShort = ⊥
TableRefused text OutOfRange = ⊥
TableRefused text NoSuchPiece = ⊥
TableRefused text PiecesApart = ⊥
TableRefused text NotWhole = ⊥
TableRefused text RowsBroken = ⊥
TableRefused text TooManyPieces = ⊥
TableRefused text NoRoomForRows = ⊥
TableRefused text NoRoomForMatches = ⊥
