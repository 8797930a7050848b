-- How a file's rows end, as code answers it.
use Rattle.std.specs.Prelude.{◌≡◌, ℕ, ◌<◌, Bool, true, false, List, [], ◌∷◌, ◌++◌, length, Some, None, Ok, Err, Option, Result}
use Rattle.std.specs.List.{find}
use Rattle.std.specs.Option.{option_map}
use Rattle.machine.specs.Model.{Model}
use Rattle.rows.specs.declared.row.RowKind.TheVariants.{Close, Open, Done}
use Rattle.rows.specs.declared.row.Row.{Row}
use Rattle.rows.specs.Pieces.{Entry, Content, Inside}
use Rattle.rows.specs.Places.{at, entry, NoneOpen, BaseAt}
use Rattle.answers.specs.declared.fault.Fault.{Fault}
use Rattle.answers.specs.declared.fault.Fault.TheVariants.{Stray, Unclosed}
use Rattle.answers.specs.declared.matches.Match.{Match}
use Rattle.answers.specs.Finish.{row_matches}

abbrev pub is_close_row : Row → Bool
is_close_row r = elim r.kind [ Close ↦ true | Open ↦ false | Done ↦ false ]

-- the place of the first Close row
abbrev pub first_close_row : List Row → Option ℕ
first_close_row rows = option_map (λ r. r.place) (find is_close_row rows)

-- the fault of a stray end tag, where there is one
abbrev pub stray : Option ℕ → Result (Unit {0}) Fault
stray None = Ok tt
stray (Some p) = Err (Stray p)

-- none of the first n rows is still open, or a fault at the last one that is
abbrev pub AllClosed : List Row → ℕ → Result (Unit {0}) Fault → Type 0
AllClosed rows n (Ok u) = NoneOpen rows 0 n
AllClosed rows n (Err f) = (i : ℕ) × BaseAt rows n i × (f ≡ Unclosed (at rows i).place)

-- each row keeps the row rule
abbrev pub AllInside : List ℕ → List Row → Type 0
AllInside file rows = (k : ℕ) → k < length rows → Inside file (at rows k)

-- rows with no fault
abbrev pub open_content : {P : Type 0} → List (Entry P) → Content P
open_content es = record { rows = es; fault = None }

-- a row that the last stretch added, with its plain form
abbrev pub last_row : {P : Type 0} → Option (Row × P) → List (Entry P)
last_row None = []
last_row (Some x) = entry x.0 x.1 ∷ []

-- a fault, or the matches of the rows es and of the last stretch's row
abbrev pub answered : {P Q : Type 0} → Model P Q → List (Entry P) → Result (Option (Row × P)) Fault → Result (List Match) Fault
answered m es (Ok more) = Ok (row_matches m (es ++ last_row more))
answered m es (Err f) = Err f

-- an open row's fault, or else the matches of the rows es
abbrev pub open_answered : {P Q : Type 0} → Model P Q → List (Entry P) → Result (Unit {0}) Fault → Result (List Match) Fault
open_answered m es (Ok u) = Ok (row_matches m es)
open_answered m es (Err f) = Err f
