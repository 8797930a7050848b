-- What each call answers, and what it leaves.
use Rattle.std.specs.Prelude.{◌≡◌, ℕ, ◌+◌, Bool, cond, ◌&&◌, List, [], ◌∷◌, ◌++◌, length, take, drop, Some, None, Ok, Err, Option, Result, ◌==◌, nat_le, nat_lt, slice_index_or}
use Rattle.std.specs.List.{list_all}
use Rattle.tags.specs.Marks.{scanned}
use Rattle.machine.specs.declared.refusal.Refusal.{Refusal}
use Rattle.machine.specs.declared.refusal.Refusal.TheVariants.{FileTooLong, OtherLength, ListsTooShort, OutOfRange, NoSuchPiece, PiecesApart, NotWhole, RowsBroken, TooManyPieces, NoRoomForRows, NoRoomForMatches}
use Rattle.machine.specs.Model.{Model}
use Rattle.rows.specs.declared.row.Row.{Row}
use Rattle.rows.specs.declared.part.Kept.{Kept}
use Rattle.rows.specs.Pieces.{Content}
use Rattle.rows.specs.Stretches.{content, joined_ends, joined_at, last_put}
use Rattle.rows.specs.Places.{stored}
use Rattle.rows.specs.Lists.{held, ends_of, kept_of, rows_of, actions_of, splice, Written}
use Rattle.answers.specs.declared.fault.Fault.{Fault}
use Rattle.answers.specs.declared.matches.Match.{Match}
use Rattle.answers.specs.Finish.{finish}
use Rattle.job.specs.declared.piece.Piece.{Piece}
use Rattle.job.specs.declared.answer.Answer.{Answer}
use Rattle.job.specs.declared.answer.Answer.TheVariants as answer
use Rattle.job.specs.declared.job.Job.{Job}
use Rattle.job.specs.Pieces.{no_piece}

-- a job as its callers know it: the length of its file, the pieces that are made, in their order, and how many rows are used
pub record State : Type 0 where
  pub size : ℕ
  pub pieces : List Piece
  pub used : ℕ

abbrev pub seen : Job → State
seen j = record { size = j.size; pieces = take j.made j.pieces; used = j.used }

-- a job with the lists that come with each call
pub record World (P : Type 0) : Type 0 where
  pub job : State
  pub rows : List Row
  pub actions : List P

abbrev pub world : {P : Type 0} → Job → List Row → List P → World P
world j rs ps = record { job = seen j; rows = rs; actions = ps }

abbrev pub nth_piece : State → ℕ → Piece
nth_piece j k = slice_index_or j.pieces k no_piece

-- what the lists hold of a piece
abbrev pub content_at : {P : Type 0} → World P → Piece → Content P
content_at w p = held w.rows w.actions p.part

abbrev pub piece_marks : Piece → ℕ × ℕ × ℕ
piece_marks p = ends_of p.part

-- What two pieces come to, joined; the machine's functions are taken on plain forms, which are what the lists hold.

abbrev pub joined_marks : Piece → Piece → ℕ × ℕ × ℕ
joined_marks l r = joined_ends (piece_marks l) (piece_marks r)

abbrev pub joined_content : {A P : Type 0} → List ℕ → Model A P → World P → Piece → Piece → Content P
joined_content file m w l r = joined_at file (stored m) (piece_marks l) (piece_marks r) (content_at w l) (content_at w r)

-- what a piece comes to, finished: the file's matches, or what is wrong with it
abbrev pub finished : {A P : Type 0} → List ℕ → Model A P → World P → Piece → Result (List Match) Fault
finished file m w p = finish (stored m) (last_put file (stored m) (piece_marks p) (content_at w p))

-- The questions, in their order: the refusal of the first that is answered no.

abbrev pub ask : Bool → Refusal → Option Refusal → Option Refusal
ask yes? why later = cond yes? later (Some why)

abbrev pub asked_open : ℕ → Option Refusal
asked_open size = ask (nat_le size 1073741824) FileTooLong None

-- of a job and the lengths of file, row list and action list
abbrev pub asked_lists : State → ℕ → ℕ → ℕ → Option Refusal → Option Refusal
asked_lists j size rs ps later = ask (size == j.size) OtherLength (ask (nat_le j.used rs && nat_le j.used ps) ListsTooShort later)

-- one more piece, with so many marks
abbrev pub asked_room : State → ℕ → ℕ → ℕ → Option Refusal
asked_room j rs ps marks =
    ask (nat_lt (length j.pieces) 128) TooManyPieces
    (ask (nat_le (j.used + marks) rs && nat_le (j.used + marks) ps) NoRoomForRows None)

-- the row rule: the file has the row's name, its mark, and one byte more
abbrev pub inside : List ℕ → Row → Bool
inside file r = nat_le (r.place + r.name_len + 2) (length file)

abbrev pub all_inside : List ℕ → List Row → Bool
all_inside file rows = list_all (inside file) rows

-- the rows of a piece keep it
abbrev pub ruled : List ℕ → List Row → Piece → Bool
ruled file rows p = all_inside file (take p.part.kept.rows (drop p.part.at rows))

abbrev pub asked_read : {P : Type 0} → List ℕ → World P → ℕ → ℕ → Option Refusal
asked_read file w from to =
    let j = w.job in
    asked_lists j (length file) (length w.rows) (length w.actions)
    (ask (nat_le from to && nat_le to j.size) OutOfRange
    (asked_room j (length w.rows) (length w.actions) (scanned file from to).2))

abbrev pub asked_join : {P : Type 0} → List ℕ → World P → ℕ → ℕ → Option Refusal
asked_join file w left right =
    let j = w.job in
    let l = nth_piece j left in
    let r = nth_piece j right in
    asked_lists j (length file) (length w.rows) (length w.actions)
    (ask (nat_lt left (length j.pieces) && nat_lt right (length j.pieces)) NoSuchPiece
    (ask (l.to == r.from) PiecesApart
    (ask (ruled file w.rows l && ruled file w.rows r) RowsBroken
    (asked_room j (length w.rows) (length w.actions) (joined_marks l r).2))))

-- a finish of a piece, before it is known what the file answers
abbrev pub asked_whole : {P : Type 0} → List ℕ → World P → ℕ → Option Refusal → Option Refusal
asked_whole file w piece later =
    let j = w.job in
    let p = nth_piece j piece in
    asked_lists j (length file) (length w.rows) (length w.actions)
    (ask (nat_lt piece (length j.pieces)) NoSuchPiece
    (ask (p.from == 0 && p.to == j.size) NotWhole
    (ask (ruled file w.rows p) RowsBroken later)))

-- only matches want room in the match list
abbrev pub asked_matches : Result (List Match) Fault → ℕ → Option Refusal
asked_matches (Ok ms) room = ask (nat_le (length ms) room) NoRoomForMatches None
asked_matches (Err f) room = None

abbrev pub asked_finish : {A P : Type 0} → List ℕ → Model A P → World P → ℕ → ℕ → Option Refusal
asked_finish file m w piece room = asked_whole file w piece (asked_matches (finished file m w (nth_piece w.job piece)) room)

-- refused by the first question that is answered no, or accepted
abbrev pub Turns : Option Refusal → (Refusal → Type 0) → Type 0 → Type 0
Turns (Some why) refused accepted = refused why
Turns None refused accepted = accepted

-- what an accepted call may go on with
abbrev pub allowed : {X : Type 0} → Option Refusal → X → Result X Refusal
allowed (Some why) x = Err why
allowed None x = Ok x

-- a refused call changes nothing
pub record Refused {W X : Type 0} (why : Refusal) (w : W) (r : Result X Refusal) (v : W) : Type 0 where
  pub reply : r ≡ Err why
  pub same : v ≡ w

abbrev pub Unchanged : {W X : Type 0} → Result X Refusal → W → W → Type 0
Unchanged (Ok x) old new = Unit {0}
Unchanged (Err why) old new = new ≡ old

-- What an accepted call leaves.

-- a job for a file of so many bytes
abbrev pub opened : ℕ → State
opened size = record { size = size; pieces = []; used = 0 }

abbrev pub new_piece : ℕ → ℕ → ℕ → ℕ × ℕ × ℕ → Kept → Piece
new_piece used from to marks kept = record { from = from; to = to; part = record { first = marks.0; last = marks.1; marks = marks.2; at = used; kept = kept } }

-- one more piece, whose rows stand after the used ones
abbrev pub with_kept : State → ℕ → ℕ → ℕ × ℕ × ℕ → Kept → State
with_kept j from to marks kept =
    record { size = j.size; pieces = j.pieces ++ (new_piece j.used from to marks kept ∷ []); used = j.used + kept.rows }

abbrev pub with_piece : {P : Type 0} → State → ℕ → ℕ → ℕ × ℕ × ℕ → Content P → State
with_piece j from to marks c = with_kept j from to marks (kept_of c)

-- the new piece's number is answered, and its rows and actions are written. List places after its rows, up to its number of marks, hold anything; all others stay
pub record Accepted {P : Type 0} (w : World P) (from to : ℕ) (marks : ℕ × ℕ × ℕ) (c : Content P) (r : Result ℕ Refusal) (v : World P) : Type 0 where
  pub reply : r ≡ Ok (length w.job.pieces)
  pub job : v.job ≡ with_piece w.job from to marks c
  pub rows : Written w.job.used marks.2 (rows_of c) w.rows v.rows
  pub actions : Written w.job.used marks.2 (actions_of c) w.actions v.actions

-- What each call says: w is what comes in, r the reply, v what it leaves.

abbrev pub OpenSays : ℕ → State → Result (Unit {0}) Refusal → State → Type 0
OpenSays size j r v = Turns (asked_open size) (λ why. Refused why j r v) ((r ≡ Ok tt) × (v ≡ opened size))

abbrev pub ReadSays : {A P : Type 0} → List ℕ → Model A P → World P → ℕ → ℕ → Result ℕ Refusal → World P → Type 0
ReadSays file m w from to r v =
    Turns (asked_read file w from to)
    (λ why. Refused why w r v)
    (Accepted w from to (scanned file from to) (content file (stored m) from to) r v)

abbrev pub JoinSays : {A P : Type 0} → List ℕ → Model A P → World P → ℕ → ℕ → Result ℕ Refusal → World P → Type 0
JoinSays file m w left right r v =
    let l = nth_piece w.job left in
    let k = nth_piece w.job right in
    Turns (asked_join file w left right)
    (λ why. Refused why w r v)
    (Accepted w l.from k.to (joined_marks l k) (joined_content file m w l k) r v)

-- an answer, and what it leaves of the match list: a fault leaves it as it was, matches stand in order from its start
abbrev pub Ended : Result (List Match) Fault → List Match → Result Answer Refusal → List Match → Type 0
Ended (Err f) ms r ns = (r ≡ Ok (answer.Fault f)) × (ns ≡ ms)
Ended (Ok xs) ms r ns = (r ≡ Ok (answer.Matches (length xs))) × (ns ≡ splice 0 xs ms)

-- the same where only the match list may be too short
abbrev pub AnswerSays : Result (List Match) Fault → List Match → Result Answer Refusal → List Match → Type 0
AnswerSays o ms r ns = Turns (asked_matches o (length ms)) (λ why. Refused why ms r ns) (Ended o ms r ns)

abbrev pub FinishSays : {A P : Type 0} → List ℕ → Model A P → World P → ℕ → List Match → Result Answer Refusal → List Match → Type 0
FinishSays file m w piece ms r ns =
    Turns (asked_finish file m w piece (length ms))
    (λ why. Refused why ms r ns)
    (Ended (finished file m w (nth_piece w.job piece)) ms r ns)
