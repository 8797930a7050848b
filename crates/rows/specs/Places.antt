-- Rows by their places in a list, and what one row put after others comes to.
use Rattle.std.specs.Prelude.{◌≡◌, ℕ, ◌+◌, ◌<◌, ◌≤◌, List, [], ◌∷◌, take, drop, Some, None, Option, ◌≢◌, slice_index_or, slice_set}
use Rattle.machine.specs.Model.{Model}
use Rattle.rows.specs.declared.row.RowKind.TheVariants.{Close, Open}
use Rattle.rows.specs.declared.row.Row.{Row}
use Rattle.rows.specs.declared.putting.Step.{Step}
use Rattle.rows.specs.declared.putting.Step.TheVariants.{Added, Closed, Mismatch}
use Rattle.rows.specs.Pieces.{Entry, Taken, done}

-- the machine's functions on plain forms, which are what a list keeps
unfoldable pub stored : {A P : Type 0} → Model A P → Model P P
stored m = record {
  stay = m.plain m.stay;
  action = λ n. m.plain (m.action n);
  then = λ p q. m.plain (m.then (m.back p) (m.back q));
  marks = λ p. m.marks (m.back p);
  plain = λ p. p;
  back = λ p. p;
  verdict = m.verdict;
}

abbrev pub no_row : Row
no_row = record { kind = Close; place = 0; name_len = 0 }

abbrev pub at : List Row → ℕ → Row
at rows k = slice_index_or rows k no_row

-- none of the rows from lo up to hi is Open
abbrev pub NoneOpen : List Row → ℕ → ℕ → Type 0
NoneOpen rows lo hi = (k : ℕ) → lo ≤ k → k < hi → (at rows k).kind ≢ Open

-- i is the place of the base of the first n rows
pub record BaseAt (rows : List Row) (n i : ℕ) : Type 0 where
  pub below : i < n
  pub is_open : (at rows i).kind ≡ Open
  pub last : NoneOpen rows (i + 1) n

-- the place of the base of the first n rows, if they have one
abbrev pub Based : List Row → ℕ → Option ℕ → Type 0
Based rows n None = NoneOpen rows 0 n
Based rows n (Some i) = BaseAt rows n i

abbrev pub entry : {P : Type 0} → Row → P → Entry P
entry r p = record { row = r; act = p }

-- a plain form as a row adds it under the base at a place, with that one's action before its own
abbrev pub under_at : {P Q : Type 0} → Model P Q → List P → Option ℕ → P → P
under_at m ps None p = p
under_at m ps (Some i) p = m.then (slice_index_or ps i p) p

-- rows and plain forms in two lists: each row with the plain form at its place
abbrev pub paired : {P : Type 0} → List Row → List P → List (Entry P)
paired [] ps = []
paired (r ∷ rs) [] = []
paired (r ∷ rs) (p ∷ ps) = entry r p ∷ paired rs ps

-- the first n of the entries z; the first of them, as many as left says, stand on the left, and the others were added
abbrev pub state : {A : Type 0} → List (Entry A) → ℕ → ℕ → Option ℕ → Taken A
state z left n stop = record { left = take left z; added = drop left (take n z); stop = stop }

-- how many rows there are after a step
abbrev pub grown : Step → ℕ → ℕ
grown Added n = n + 1
grown Closed n = n
grown Mismatch n = n

-- where a step stopped at its row
abbrev pub stopped : Step → Row → Option ℕ
stopped Added r = None
stopped Closed r = None
stopped Mismatch r = Some r.place

abbrev pub close_row : Option ℕ → List Row → List Row
close_row None rows = rows
close_row (Some i) rows = slice_set rows i (done (at rows i))

-- what a step leaves of the rows
abbrev pub wrote : Step → Option ℕ → ℕ → Row → List Row → List Row
wrote Added base n row rows = slice_set rows n row
wrote Closed base n row rows = close_row base rows
wrote Mismatch base n row rows = rows
