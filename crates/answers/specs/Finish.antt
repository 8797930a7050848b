-- What a content answers when the file ends with it.
use Rattle.std.specs.Prelude.{ℕ, List, [], ◌∷◌, ◌++◌, Some, None, Ok, Err, Option, Result}
use Rattle.machine.specs.Model.{Model}
use Rattle.rows.specs.declared.row.RowKind.TheVariants.{Close, Open, Done}
use Rattle.rows.specs.Pieces.{Entry, Content, base}
use Rattle.answers.specs.declared.fault.Fault.{Fault}
use Rattle.answers.specs.declared.fault.Fault.TheVariants.{Stray, Unclosed}
use Rattle.answers.specs.declared.matches.Match.{Match}
use Rattle.answers.specs.Faults.{from_piece}
use Rattle.answers.specs.Own.{matches_at}

-- the place of the first Close row
abbrev pub first_close : {A : Type 0} → List (Entry A) → Option ℕ
first_close [] = None
first_close (r ∷ rs) = elim r.row.kind [ Close ↦ Some r.row.place | Open ↦ first_close rs | Done ↦ first_close rs ]

-- the matches of rows in their order, by what each row's action marks
abbrev pub row_matches : {A P : Type 0} → Model A P → List (Entry A) → List Match
row_matches m [] = []
row_matches m (r ∷ rs) = matches_at r.row.place 0 (m.marks r.act) ++ row_matches m rs

-- the first Close row is a fault; else the content's own fault; else the last Open row; else there are matches
abbrev pub finish : {A P : Type 0} → Model A P → Content A → Result (List Match) Fault
finish m c = elim (first_close c.rows) [
  | Some p ↦ Err (Stray p)
  | None ↦ elim c.fault [
    | Some f ↦ Err (from_piece f)
    | None ↦ elim (base c.rows) [ Some b ↦ Err (Unclosed b.row.place) | None ↦ Ok (row_matches m c.rows) ]
  ]
]
