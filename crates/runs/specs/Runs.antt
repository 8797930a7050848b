-- Runs: one call after another, from a new job on.
use Rattle.std.specs.Prelude.{◌≡◌, ℕ, ◌+◌, ◌<◌, ◌≤◌, List, [], ◌∷◌, map, length, take, drop, None, Ok, Result}
use Rattle.tags.specs.Marks.{scanned}
use Rattle.grammar.specs.Laws.{Iff}
use Rattle.machine.specs.declared.refusal.Refusal.{Refusal}
use Rattle.machine.specs.Model.{Model}
use Rattle.rows.specs.declared.row.Row.{Row}
use Rattle.rows.specs.Stretches.{content}
use Rattle.rows.specs.Lists.{kept_of, rows_of, actions_of}
use Rattle.answers.specs.declared.fault.Fault.{Fault}
use Rattle.answers.specs.declared.matches.Match.{Match}
use Rattle.answers.specs.Own.{own}
use Rattle.answers.specs.Rule.{WellFormed}
use Rattle.answers.specs.Exact.{Told}
use Rattle.job.specs.declared.piece.Piece.{Piece}
use Rattle.job.specs.declared.answer.Answer.{Answer}
use Rattle.job.specs.declared.answer.Answer.TheVariants as answer
use Rattle.runs.specs.declared.steps.Call.{Call}
use Rattle.runs.specs.declared.steps.Call.TheVariants.{Read, Join, Finish}
use Rattle.runs.specs.declared.steps.Reply.{Reply}
use Rattle.runs.specs.declared.steps.Reply.TheVariants.{Made, Answered}
use Rattle.runs.specs.declared.steps.Step.{Step}
use Rattle.job.specs.declared.job.Job.{Job}
use Rattle.job.specs.State.{World, world, opened, nth_piece, piece_marks, asked_open, asked_whole, Turns, Refused, ReadSays, JoinSays, FinishSays, AnswerSays, Ended}

-- all that a run goes on with
pub record Stage (P : Type 0) : Type 0 where
  pub held : World P
  pub found : List Match

abbrev pub stage : {P : Type 0} → Job → List Row → List P → List Match → Stage P
stage j rs ps ms = record { held = world j rs ps; found = ms }

-- a new job for a file, with lists that hold anything
abbrev pub begun : {P : Type 0} → List ℕ → List Row → List P → List Match → Stage P
begun file rs ps ms = record { held = record { job = opened (length file); rows = rs; actions = ps }; found = ms }

abbrev pub answered : Call → Reply → Step
answered c r = record { call = c; reply = r }

-- what a step does is what its call's own definition says
pub data Does {A P : Type 0} (m : Model A P) (file : List ℕ) (w : Stage P) : Step → Stage P → Type 0 where
  reads : {from to : ℕ} {r : Result ℕ Refusal} {v : World P} → ReadSays file m w.held from to r v →
      Does m file w (answered (Read from to) (Made r)) (record { held = v; found = w.found })
  joins : {left right : ℕ} {r : Result ℕ Refusal} {v : World P} → JoinSays file m w.held left right r v →
      Does m file w (answered (Join left right) (Made r)) (record { held = v; found = w.found })
  finishes : {piece : ℕ} {r : Result Answer Refusal} {ns : List Match} → FinishSays file m w.held piece w.found r ns →
      Does m file w (answered (Finish piece) (Answered r)) (record { held = w.held; found = ns })

-- steps one after another
pub data Chain {S X : Type 0} (R : S → X → S → Type 0) : S → List X → S → Type 0 where
  none : {s : S} → Chain R s [] s
  more : {s t u : S} {x : X} {xs : List X} → R s x t → Chain R t xs u → Chain R s (x ∷ xs) u

-- the rows of a piece, and their actions
abbrev pub piece_rows : {P : Type 0} → World P → Piece → List Row
piece_rows w p = take p.part.kept.rows (drop p.part.at w.rows)

abbrev pub piece_actions : {P : Type 0} → World P → Piece → List P
piece_actions w p = take p.part.kept.rows (drop p.part.at w.actions)

-- a piece has the marks, rows, actions and fault that a read of its bytes gives
pub record AsRead {A P : Type 0} (m : Model A P) (file : List ℕ) (w : World P) (p : Piece) : Type 0 where
  pub marks : piece_marks p ≡ scanned file p.from p.to
  -- their number, and the fault
  pub kept : p.part.kept ≡ kept_of (content file m p.from p.to)
  pub rows : piece_rows w p ≡ rows_of (content file m p.from p.to)
  pub actions : piece_actions w p ≡ map m.plain (actions_of (content file m p.from p.to))

-- a step that does what its call says, and more of it than that
pub record Faithfully {A P : Type 0} (m : Model A P) (file : List ℕ) (w : Stage P) (s : Step) (v : Stage P) : Type 0 where
  pub does : Does m file w s v
  -- a finish that is not refused gives the file's own answer by the machine's verdict, with the matches in order from the match list's start
  pub answers : (a : Answer) → s.reply ≡ Answered (Ok a) → Ended (own m.verdict file) w.found (Ok a) v.found
  -- it tells matches exactly if the file follows the rule for content
  pub rule : (a : Answer) → s.reply ≡ Answered (Ok a) → Iff ((n : ℕ) × (a ≡ answer.Matches n)) (WellFormed file)
  -- and whatever it tells is told by what the bytes say: the elements of well-formed content, or where and how they first go wrong
  pub told : (a : Answer) → s.reply ≡ Answered (Ok a) → (o : Result (List Match) Fault) × Told m.verdict file o × Ended o w.found (Ok a) v.found
  -- a finish of a piece over the whole file, of which no earlier question is answered no, is refused exactly if the file's own matches are more than the match list has places
  pub room : (piece : ℕ) (r : Result Answer Refusal) → s.call ≡ Finish piece → s.reply ≡ Answered r → asked_whole file w.held piece None ≡ None → AnswerSays (own m.verdict file) w.found r v.found
  -- every piece that stands after the call has the marks, rows, actions and fault that a read of its bytes gives
  pub pieces : (k : ℕ) → k < length v.held.job.pieces → AsRead m file v.held (nth_piece v.held.job k)

-- its bytes lie in the file, and its rows among the used ones
abbrev pub Lies : {P : Type 0} → World P → Piece → Type 0
Lies w p = (p.from ≤ p.to) × (p.to ≤ w.job.size) × (p.part.at + p.part.kept.rows ≤ w.job.used)

-- two pieces are alike: their marks, the fault with all its parts or its absence, the number of rows, and every row and action in order
pub record Alike {P : Type 0} (w : World P) (p q : Piece) : Type 0 where
  pub marks : piece_marks p ≡ piece_marks q
  pub fault : p.part.kept.fault ≡ q.part.kept.fault
  pub number : p.part.kept.rows ≡ q.part.kept.rows
  pub rows : piece_rows w p ≡ piece_rows w q
  pub actions : piece_actions w p ≡ piece_actions w q

-- a run of steps from w to v: the calls are those that were asked for, and each does what it says, faithfully;
-- every piece that then stands is as one read gives it, and any two over the same bytes are alike
pub record Run {A P : Type 0} (m : Model A P) (file : List ℕ) (w : Stage P) (asked steps : List Step) (v : Stage P) : Type 0 where
  pub calls : map (λ (s : Step). s.call) steps ≡ map (λ (s : Step). s.call) asked
  pub ran : Chain (Faithfully m file) w steps v
  pub pieces : (k : ℕ) → k < length v.held.job.pieces → AsRead m file v.held (nth_piece v.held.job k)
  pub alike : (k l : ℕ) → k < length v.held.job.pieces → l < length v.held.job.pieces →
      (nth_piece v.held.job k).from ≡ (nth_piece v.held.job l).from → (nth_piece v.held.job k).to ≡ (nth_piece v.held.job l).to →
      Alike v.held (nth_piece v.held.job k) (nth_piece v.held.job l)

-- all that a run may change
pub record Lent (P : Type 0) : Type 0 where
  pub job : Job
  pub rows : List Row
  pub actions : List P
  pub matches : List Match
  pub steps : List Step

abbrev pub lent : {P : Type 0} → Job → List Row → List P → List Match → List Step → Lent P
lent j rs ps ms ss = record { job = j; rows = rs; actions = ps; matches = ms; steps = ss }

-- the whole law: a file over the limit is refused, and then nothing has changed; else the steps are run, from a new job on
abbrev pub RunSays : {A P : Type 0} → List ℕ → Model A P → Lent P → Result (Unit {0}) Refusal → Lent P → Type 0
RunSays file m a r b =
    Turns (asked_open (length file))
    (λ why. Refused why a r b)
    ((r ≡ Ok tt) × Run m file (begun file a.rows a.actions a.matches) a.steps b.steps (stage b.job b.rows b.actions b.matches))

-- a job for a file, with lists that hold of every piece what a read of its bytes gives
pub record Sound {A P : Type 0} (m : Model A P) (file : List ℕ) (w : World P) : Type 0 where
  pub same : w.job.size ≡ length file
  pub placed : (k : ℕ) → k < length w.job.pieces → Lies w (nth_piece w.job k)
  pub pieces : (k : ℕ) → k < length w.job.pieces → AsRead m file w (nth_piece w.job k)

-- For those who make the calls themselves: a new job is sound, and each call on a sound one is faithful and leaves it sound.
pub record Stepwise {A P : Type 0} (m : Model A P) : Type 0 where
  pub begins : (file : List ℕ) (rs : List Row) (ps : List P) (ms : List Match) → Sound m file (begun file rs ps ms).held
  pub goes : (file : List ℕ) (w : Stage P) (s : Step) (v : Stage P) → Sound m file w.held → Does m file w s v → Faithfully m file w s v × Sound m file v.held

-- The same of definitions alone: whatever steps do what their calls say, from a new job on, do it faithfully.
abbrev pub AlwaysFaithful : {A P : Type 0} → Model A P → Type 0
AlwaysFaithful {A} {P} m =
    (file : List ℕ) (rs : List Row) (ps : List P) (ms : List Match) (steps : List Step) (v : Stage P) →
    Chain (Does m file) (begun file rs ps ms) steps v →
    Run m file (begun file rs ps ms) steps steps v
