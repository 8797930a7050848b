-- The stretches of a part of a file, and the content that they make.
use Rattle.std.specs.Prelude.{ℕ, ◌+◌, cond, List, [], ◌∷◌, length, Some, None, Ok, Err, Result, ◌==◌}
use Rattle.tags.specs.declared.tag.TagKind.{TagKind}
use Rattle.tags.specs.declared.tag.TagKind.TheVariants.{Start, Empty, End}
use Rattle.tags.specs.declared.tag.TagFault.{TagFault}
use Rattle.tags.specs.Marks.{marks_of}
use Rattle.tags.specs.Reads.{tag_at}
use Rattle.machine.specs.Model.{Model}
use Rattle.rows.specs.declared.row.RowKind.{RowKind}
use Rattle.rows.specs.declared.row.RowKind.TheVariants.{Close, Open, Done}
use Rattle.rows.specs.declared.row.Row.{Row}
use Rattle.rows.specs.declared.row.PieceFault.TheVariants.{BadTag}
use Rattle.rows.specs.Pieces.{Content, put}

-- each mark with the next one: a stretch begins at the first and ends before the second
abbrev pub pairs : List ℕ → List (ℕ × ℕ)
pairs [] = []
pairs (x ∷ []) = []
pairs (x ∷ y ∷ ys) = (x, y) ∷ pairs (y ∷ ys)

-- the stretches between the marks of the bytes from `from` to `to`; the one from the last mark on waits for a neighbour
abbrev pub stretches : List ℕ → ℕ → ℕ → List (ℕ × ℕ)
stretches file from to = pairs (marks_of file from to)

abbrev pub row_kind : TagKind → RowKind
row_kind Start = Open
row_kind Empty = Done
row_kind End = Close

-- the row of the tag at a mark
abbrev pub row_of : ℕ → TagKind → List ℕ → Row
row_of mark k n = record { kind = row_kind k; place = mark; name_len = length n }

-- its action: that of its name, and for an end tag `stay`
abbrev pub action_of : {A P : Type 0} → Model A P → TagKind → List ℕ → A
action_of m Start n = m.action n
action_of m Empty n = m.action n
action_of m End n = m.stay

abbrev pub lone : {A : Type 0} → Row → A → Content A
lone r a = record { rows = record { row = r; act = a } ∷ []; fault = None }

-- what the tag read at a mark makes: its row, or its fault
abbrev pub made : {A P : Type 0} → Model A P → ℕ → Result (TagKind × List ℕ) TagFault → Content A
made m mark (Ok t) = lone (row_of mark t.0 t.1) (action_of m t.0 t.1)
made m mark (Err e) = record { rows = []; fault = Some (BadTag e) }

-- what one stretch makes
abbrev pub one : {A P : Type 0} → List ℕ → Model A P → ℕ × ℕ → Content A
one file m s = made m s.0 (tag_at file s.0 s.1)

-- stretches put after a content, one by one
abbrev pub eval_from : {A P : Type 0} → List ℕ → Model A P → Content A → List (ℕ × ℕ) → Content A
eval_from file m c [] = c
eval_from file m c (s ∷ ss) = eval_from file m (put file m c (one file m s)) ss

abbrev pub nothing : {A : Type 0} → Content A
nothing = record { rows = []; fault = None }

-- stretches put together from the left
abbrev pub eval : {A P : Type 0} → List ℕ → Model A P → List (ℕ × ℕ) → Content A
eval file m ss = eval_from file m nothing ss

-- what a read of the bytes from `from` to `to` holds
abbrev pub content : {A P : Type 0} → List ℕ → Model A P → ℕ → ℕ → Content A
content file m from to = eval file m (stretches file from to)

-- Pieces know their first mark, their last and how many there are.

-- those of two neighbours together
abbrev pub joined_ends : ℕ × ℕ × ℕ → ℕ × ℕ × ℕ → ℕ × ℕ × ℕ
joined_ends l r = cond (l.2 == 0) r (cond (r.2 == 0) l (l.0, r.1, l.2 + r.2))

-- what a join of two pieces holds: the left's content x, then the stretch between, then the right's content y
abbrev pub joined_at : {A P : Type 0} → List ℕ → Model A P → ℕ × ℕ × ℕ → ℕ × ℕ × ℕ → Content A → Content A → Content A
joined_at file m l r x y = cond (l.2 == 0) y (cond (r.2 == 0) x (put file m (put file m x (one file m (l.1, r.0))) y))

-- what a finished piece holds: the stretch from its last mark to the file's end is put after its content
abbrev pub last_put : {A P : Type 0} → List ℕ → Model A P → ℕ × ℕ × ℕ → Content A → Content A
last_put file m e x = cond (e.2 == 0) x (put file m x (one file m (e.1, length file)))
