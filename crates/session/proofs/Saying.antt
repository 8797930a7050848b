-- What comes of a text of queries, and of an input.
use Rattle.std.proofs.Common.{◌≡◌, ℕ, List, length, Some, None, Ok, Err, Option, Result, refl, subst}
use Rattle.request.specs.Asked.{Asked, asked}
use Rattle.machine.specs.declared.refusal.Refusal.{Refusal}
use Rattle.machine.specs.declared.refusal.Refusal.TheVariants.{TextTooLong, NotQueries, TooManyPositions, NamesOverLimit, TooManySets, FileTooLong, OtherLength, ListsTooShort, OutOfRange, NoSuchPiece, PiecesApart, NotWhole, RowsBroken, TooManyPieces, NoRoomForRows, NoRoomForMatches}
use Rattle.machine.specs.Model.{Model}
use Rattle.machine.specs.Asked as text
use Rattle.table.specs.Making.{TableRefused}
use Rattle.table.specs.Tables.{tabled}
use Rattle.relation.specs.Relations.{related}
use Rattle.rows.specs.declared.row.Row.{Row}
use Rattle.answers.specs.declared.matches.Match.{Match}
use Rattle.answers.specs.Own.{own}
use Rattle.job.specs.declared.answer.Answer.{Answer}
use Rattle.runs.specs.declared.steps.Step.{Step}
use Rattle.job.specs.State.{asked_open, Turns, Ended}
use Rattle.solving.specs.Plan.{plan_of}
use Rattle.solving.specs.Solving.{Solved, SolveSays}
use Rattle.session.specs.Answering.{room, Tried, TextSays, refuses, by_table, by_relation, OwnAnswer, Said}

-- but for the sets that arise, the table machine is refused as any is
pub refused-too : (queries : List ℕ) (why : Refusal) → (why ≡ TooManySets → ⊥) → TableRefused queries why → text.Refused queries why
refused-too queries TextTooLong n h = h
refused-too queries NotQueries n h = h
refused-too queries TooManyPositions n h = h
refused-too queries NamesOverLimit n h = h
refused-too queries TooManySets n h = n refl
refused-too queries FileTooLong n h = h
refused-too queries OtherLength n h = h
refused-too queries ListsTooShort n h = h
refused-too queries OutOfRange n h = h
refused-too queries NoSuchPiece n h = h
refused-too queries PiecesApart n h = h
refused-too queries NotWhole n h = h
refused-too queries RowsBroken n h = h
refused-too queries TooManyPieces n h = h
refused-too queries NoRoomForRows n h = h
refused-too queries NoRoomForMatches n h = h

module _ {A P : Type 0} (m : Model A P) (cuts file : List ℕ) (ms : List Match) (o : Result Answer Refusal) (ns : List Match) (a : Answer) (answered : o ≡ Ok a) where
  by-turns : (q : Option Refusal) (steps : List Step) (rs : List Row) (ps : List P) (rs' : List Row) (ps' : List P) → Turns q (λ why. (o ≡ Err why) × (ns ≡ ms) × (rs' ≡ rs) × (ps' ≡ ps)) (Solved m steps file rs ps ms o rs' ps' ns) → Ended (own m.verdict file) ms (Ok a) ns
  by-turns (Some why) steps rs ps rs' ps' h = let z = h.0 in cc
  by-turns None steps rs ps rs' ps' h = h.answers a answered

  own-tried : Tried m cuts file ms o ns → Ended (own m.verdict file) ms (Ok a) ns
  own-tried t = by-turns (asked_open (length file)) (plan_of cuts (length file)) t.rows t.actions t.rows_after t.actions_after t.says

own-text : (queries cuts file : List ℕ) (ms : List Match) (o : Result Answer Refusal) (ns : List Match) (a : Answer) → o ≡ Ok a → TextSays queries cuts file ms o ns → OwnAnswer (asked cuts queries file) ms a ns
own-text queries cuts file ms o ns a e (refuses {why = why} h) = cc
own-text queries cuts file ms o ns a e (by_table m made tried) = record {
  cuts = cuts;
  text = queries;
  file = file;
  asks = refl;
  queries = made.queries;
  passes = made.passes;
  verdict = (tabled m).verdict;
  rule = made.holds.rule;
  own_answer = own-tried (tabled m) cuts file ms o ns a e tried;
}
own-text queries cuts file ms o ns a e (by_relation m many made tried) = record {
  cuts = cuts;
  text = queries;
  file = file;
  asks = refl;
  queries = made.queries;
  passes = made.passes;
  verdict = (related m).verdict;
  rule = made.holds.rule;
  own_answer = own-tried (related m) cuts file ms o ns a e tried;
}

pub said_text : (cuts queries file : List ℕ) (said : Asked) (ms : List Match) (o : Result Answer Refusal) (ns : List Match) → asked cuts queries file ≡ said → TextSays queries cuts file ms o ns → Said said ms o ns
said_text cuts queries file said ms o ns e h = subst (λ s. Said s ms o ns) e (record { says = h; answers = λ a is. own-text queries cuts file ms o ns a is h })

pub tried : {A P : Type 0} (m : Model A P) (cuts file : List ℕ) (rows : List Row) (actions : List P) (ms : List Match) (o : Result Answer Refusal) (rows' : List Row) (actions' : List P) (ns : List Match) → length rows ≡ room → length actions ≡ room → SolveSays m (plan_of cuts (length file)) file rows actions ms o rows' actions' ns → Tried m cuts file ms o ns
tried m cuts file rows actions ms o rows' actions' ns r a says = record { rows = rows; actions = actions; rows_after = rows'; actions_after = actions'; rows_room = r; actions_room = a; says = says }
