-- The queries of a text: what they are, and the questions that the text is asked.
use Rattle.std.specs.Prelude.{◌≡◌, ℕ, ◌<◌, ◌≤◌, List, length}
use Rattle.machine.specs.declared.queries.Queries.{Queries}
use Rattle.machine.specs.declared.refusal.Refusal.{Refusal}
use Rattle.machine.specs.declared.refusal.Refusal.TheVariants.{TextTooLong, NotQueries, TooManyPositions, NamesOverLimit, TooManySets, FileTooLong, OtherLength, ListsTooShort, OutOfRange, NoSuchPiece, PiecesApart, NotWhole, RowsBroken, TooManyPieces, NoRoomForRows, NoRoomForMatches}
use Rattle.machine.specs.Limits.{most_bytes, most_positions, NamesFit}
use Rattle.machine.specs.Queries.{Query, size, names_used}
use Rattle.machine.specs.Text.{Parses}
use Rattle.machine.specs.Views.{names_of, places_of, decoded}

-- the names that are listed, each with its column
abbrev pub listed_names : Queries → List (List ℕ)
listed_names q = names_of q.plan.names

-- the queries
unfoldable pub queries_of : Queries → List Query
queries_of q = decoded (names_of q.plan.names) (places_of q.plan)

-- a text stands for one list of queries at most
abbrev pub Once : List ℕ → Type 0
Once text = (qs rs : List Query) → Parses text qs → Parses text rs → qs ≡ rs

-- the first question that is answered no: each question is asked only where those before it are answered yes
abbrev pub Refused : List ℕ → Refusal → Type 0
Refused text TextTooLong = most_bytes < length text
Refused text NotQueries = (length text ≤ most_bytes) × ((qs : List Query) → Parses text qs → ⊥)
Refused text TooManyPositions = (length text ≤ most_bytes) × ((qs : List Query) × Parses text qs × (most_positions < size qs))
Refused text NamesOverLimit = (length text ≤ most_bytes) × ((qs : List Query) × Parses text qs × (size qs ≤ most_positions) × (NamesFit (names_used qs) → ⊥))
Refused text TooManySets = ⊥
Refused text FileTooLong = ⊥
Refused text OtherLength = ⊥
Refused text ListsTooShort = ⊥
Refused text OutOfRange = ⊥
Refused text NoSuchPiece = ⊥
Refused text PiecesApart = ⊥
Refused text NotWhole = ⊥
Refused text RowsBroken = ⊥
Refused text TooManyPieces = ⊥
Refused text NoRoomForRows = ⊥
Refused text NoRoomForMatches = ⊥

-- every question is answered yes, and these are the text's queries
pub record Accepted (text : List ℕ) (q : Queries) : Type 0 where
  pub short : length text ≤ most_bytes
  pub parses : Parses text (queries_of q)
  pub few : size (queries_of q) ≤ most_positions
  pub fitting : NamesFit (names_used (queries_of q))
  pub listed : listed_names q ≡ names_used (queries_of q)
