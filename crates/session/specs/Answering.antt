-- What comes of an input.
use Rattle.std.specs.Prelude.{◌≡◌, ℕ, Bool, true, List, length, take, Ok, Err, Result}
use Rattle.request.specs.declared.refusal.InputRefusal.{InputRefusal}
use Rattle.request.specs.declared.stop.Stop.{Stop}
use Rattle.request.specs.declared.stop.Stop.TheVariants.{Refused, NoMemory}
use Rattle.request.specs.Asked as input
use Rattle.request.specs.Lines.{ahead, first_line}
use Rattle.request.specs.Places.{is_place}
use Rattle.machine.specs.declared.refusal.Refusal.{Refusal}
use Rattle.machine.specs.Model.{Model}
use Rattle.machine.specs.Asked as text
use Rattle.machine.specs.Queries.{Query}
use Rattle.positions.specs.Verdicts.{ByRule, Passes}
use Rattle.table.specs.declared.table.TableMachine.{TableMachine}
use Rattle.table.specs.Tables.{tabled}
use Rattle.table.specs.Making.{Tabled, SetsRefused}
use Rattle.relation.specs.declared.relation.RelationMachine.{RelationMachine}
use Rattle.relation.specs.Relations.{related}
use Rattle.relation.specs.Making.{Related}
use Rattle.rows.specs.declared.row.Row.{Row}
use Rattle.answers.specs.declared.matches.Match.{Match}
use Rattle.job.specs.declared.answer.Answer.{Answer}
use Rattle.job.specs.State.{Ended}
use Rattle.answers.specs.Own.{own}
use Rattle.solving.specs.Plan.{plan_of}
use Rattle.solving.specs.Solving.{SolveSays}

-- the places of each list
abbrev pub room : ℕ
room = 256

-- solved by a machine, with lists of that many places, which may hold anything
pub record Tried {A P : Type 0} (m : Model A P) (cuts file : List ℕ) (ms : List Match) (o : Result Answer Refusal) (ns : List Match) : Type 0 where
  pub rows : List Row
  pub actions : List P
  pub rows_room : length rows ≡ room
  pub actions_room : length actions ≡ room
  pub rows_after : List Row
  pub actions_after : List P
  pub says : SolveSays m (plan_of cuts (length file)) file rows actions ms o rows_after actions_after ns

-- the queries are refused by one of the first four questions; or the table machine has them; or more sets arise than it has states for, and the machine of relations has them
pub data TextSays (queries cuts file : List ℕ) (ms : List Match) : Result Answer Refusal → List Match → Type 0 where
  refuses : {why : Refusal} → text.Refused queries why → TextSays queries cuts file ms (Err why) ms
  by_table : {o : Result Answer Refusal} {ns : List Match} (m : TableMachine) → Tabled queries m → Tried (tabled m) cuts file ms o ns → TextSays queries cuts file ms o ns
  by_relation : {o : Result Answer Refusal} {ns : List Match} (m : RelationMachine) → SetsRefused queries → Related queries m → Tried (related m) cuts file ms o ns → TextSays queries cuts file ms o ns

-- a refused input leaves the match list as it was
abbrev pub InputSays : input.Asked → List Match → Result Answer Refusal → List Match → Type 0
InputSays (input.refused why) ms o ns = (o ≡ Err (input.as_refusal why)) × (ns ≡ ms)
InputSays (input.asked cuts queries file) ms o ns = TextSays queries cuts file ms o ns

-- an answer is the file's own, by the path rule of the queries that the input has
pub record OwnAnswer (said : input.Asked) (ms : List Match) (a : Answer) (ns : List Match) : Type 0 where
  pub cuts : List ℕ
  pub text : List ℕ
  pub file : List ℕ
  pub asks : said ≡ input.asked cuts text file
  pub queries : List Query
  pub passes : Passes text queries
  pub verdict : List (List ℕ) → List Bool
  pub rule : ByRule queries verdict
  pub own_answer : Ended (own verdict file) ms (Ok a) ns

-- what comes of an input
pub record Said (said : input.Asked) (ms : List Match) (o : Result Answer Refusal) (ns : List Match) : Type 0 where
  pub says : InputSays said ms o ns
  pub answers : (a : Answer) → o ≡ Ok a → OwnAnswer said ms a ns

-- a refused input wants memory only for a cut place to be kept
abbrev pub Wanted : {X R : Type 0} → Result X (Stop R) → List ℕ → Type 0
Wanted (Ok o) bytes = Unit {0}
Wanted (Err (Refused why)) bytes = Unit {0}
Wanted (Err NoMemory) bytes = (why : InputRefusal) → input.request bytes ≡ input.refused why → is_place (take (ahead 32 (first_line bytes)) (first_line bytes)) ≡ true
