-- Rows with their actions, and how the rows of one piece are put after those of another.
use Rattle.std.specs.Prelude.{ℕ, ◌+◌, ◌≤◌, Bool, true, false, List, [], ◌∷◌, ◌++◌, length, take, drop, Some, None, filter, Option}
use Rattle.std.specs.Str.{bytes_eq}
use Rattle.machine.specs.Model.{Model}
use Rattle.rows.specs.declared.row.RowKind.{RowKind}
use Rattle.rows.specs.declared.row.RowKind.TheVariants.{Close, Open, Done}
use Rattle.rows.specs.declared.row.Row.{Row}
use Rattle.rows.specs.declared.row.PieceFault.{PieceFault}
use Rattle.rows.specs.declared.row.PieceFault.TheVariants.{BadTag, Mismatch}

-- the number of a kind
abbrev pub kind_number : RowKind → ℕ
kind_number Close = 1
kind_number Open = 2
kind_number Done = 3

-- the number of a fault
abbrev pub fault_number : PieceFault → ℕ
fault_number (BadTag e) = 101
fault_number (Mismatch p) = 102

-- how far after its mark a row's name begins: after `</` or after `<`
abbrev pub skip : RowKind → ℕ
skip Close = 2
skip Open = 1
skip Done = 1

-- a row's name, which stands in the file
abbrev pub name : List ℕ → Row → List ℕ
name file r = take r.name_len (drop (r.place + skip r.kind) file)

-- the row rule: the file has the row's name, its mark, and one byte more
abbrev pub Inside : List ℕ → Row → Type 0
Inside file r = r.place + r.name_len + 2 ≤ length file

-- a row with its action
pub record Entry (A : Type 0) : Type 0 where
  pub row : Row
  pub act : A

-- the base: the last row still Open
abbrev pub base : {A : Type 0} → List (Entry A) → Option (Entry A)
base [] = None
base (r ∷ rs) = elim (base rs) [ Some b ↦ Some b | None ↦ elim r.row.kind [ Close ↦ None | Open ↦ Some r | Done ↦ None ] ]

-- a row made Done
abbrev pub done : Row → Row
done r = record { kind = Done; place = r.place; name_len = r.name_len }

abbrev pub as_done : {A : Type 0} → Entry A → Entry A
as_done e = record { row = done e.row; act = e.act }

-- the rows, with the base made Done
abbrev pub close_last : {A : Type 0} → List (Entry A) → List (Entry A)
close_last [] = []
close_last (r ∷ rs) = elim r.row.kind [
  | Close ↦ r ∷ close_last rs
  | Open ↦ elim (base rs) [ None ↦ as_done r ∷ rs | Some b ↦ r ∷ close_last rs ]
  | Done ↦ r ∷ close_last rs
]

abbrev pub is_close : {A : Type 0} → Entry A → Bool
is_close e = elim e.row.kind [ Close ↦ true | Open ↦ false | Done ↦ false ]

-- the Close rows alone
abbrev pub closes : {A : Type 0} → List (Entry A) → List (Entry A)
closes es = filter is_close es

-- a row as it stands under the base: with the base's action, then its own
abbrev pub under : {A P : Type 0} → Model A P → Option (Entry A) → Entry A → Entry A
under m None r = r
under m (Some b) r = record { row = r.row; act = m.then b.act r.act }

-- what taking rows came to: the rows on the left, those added to them, and the place of a mismatch
pub record Taken (A : Type 0) : Type 0 where
  pub left : List (Entry A)
  pub added : List (Entry A)
  pub stop : Option ℕ

-- with a row added in front of the other added ones
abbrev pub add : {A : Type 0} → Entry A → Taken A → Taken A
add r t = record { left = t.left; added = r ∷ t.added; stop = t.stop }

-- takes rows in order, after the rows l
abbrev pub run : {A P : Type 0} → List ℕ → Model A P → List (Entry A) → List (Entry A) → Taken A
run file m l [] = record { left = l; added = []; stop = None }
run file m l (r ∷ rs) = elim r.row.kind [
  | Close ↦ elim (base l) [
    | None ↦ add r (run file m l rs)
    | Some b ↦ elim (bytes_eq (name file b.row) (name file r.row)) [
      | true ↦ run file m (close_last l) rs
      | false ↦ record { left = l; added = []; stop = Some r.row.place }
    ]
  ]
  | Open ↦ add (under m (base l) r) (run file m l rs)
  | Done ↦ add (under m (base l) r) (run file m l rs)
]

-- what a piece holds
pub record Content (A : Type 0) : Type 0 where
  pub rows : List (Entry A)
  pub fault : Option PieceFault

-- the content of rows and a fault: with a fault, only the Close rows are kept
abbrev pub seal : {A : Type 0} → List (Entry A) → Option PieceFault → Content A
seal rows None = record { rows = rows; fault = None }
seal rows (Some f) = record { rows = closes rows; fault = Some f }

-- the fault where taking rows stopped at a mismatch or reached their end, where another fault may stand
abbrev pub fault_after : Option ℕ → Option PieceFault → Option PieceFault
fault_after None f = f
fault_after (Some p) f = Some (Mismatch p)

-- the content y put after the content x
abbrev pub put : {A P : Type 0} → List ℕ → Model A P → Content A → Content A → Content A
put file m x y = elim x.fault [
  | Some f ↦ x
  | None ↦ let t = run file m x.rows y.rows in seal (t.left ++ t.added) (fault_after t.stop y.fault)
]

-- one more row, after what was taken so far
abbrev pub take_row : {A P : Type 0} → List ℕ → Model A P → Taken A → Entry A → Taken A
take_row file m t r = elim t.stop [
  | Some p ↦ t
  | None ↦ elim r.row.kind [
    | Close ↦ elim (base t.left) [
      | None ↦ record { left = t.left; added = t.added ++ (r ∷ []); stop = None }
      | Some b ↦ elim (bytes_eq (name file b.row) (name file r.row)) [
        | true ↦ record { left = close_last t.left; added = t.added; stop = None }
        | false ↦ record { left = t.left; added = t.added; stop = Some r.row.place }
      ]
    ]
    | Open ↦ record { left = t.left; added = t.added ++ (under m (base t.left) r ∷ []); stop = None }
    | Done ↦ record { left = t.left; added = t.added ++ (under m (base t.left) r ∷ []); stop = None }
  ]
]
