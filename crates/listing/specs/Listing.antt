-- What the program prints.
use Rattle.std.specs.Prelude.{ℕ, List, [], ◌∷◌, ◌++◌, take, Ok, Err, Result, codes, decimal}
use Rattle.machine.specs.Refusals.{refusal_number}
use Rattle.answers.specs.declared.matches.Match.{Match}
use Rattle.answers.specs.Faults.{fault_number, fault_place}
use Rattle.job.specs.declared.answer.Answer.{Answer}
use Rattle.job.specs.declared.answer.Answer.TheVariants.{Fault, Matches}
use Rattle.machine.specs.declared.refusal.Refusal.{Refusal}

-- a word and one or two numbers, on a line
abbrev pub line_1 : List ℕ → ℕ → List ℕ
line_1 word a = word ++ (decimal a ++ (10 ∷ []))

abbrev pub line_2 : List ℕ → ℕ → ℕ → List ℕ
line_2 word a b = word ++ (decimal a ++ (32 ∷ (decimal b ++ (10 ∷ []))))

abbrev pub match_lines : List Match → List ℕ
match_lines [] = []
match_lines (m ∷ ms) = line_2 (codes "match ") m.place m.query ++ match_lines ms

-- an answer; the matches stand at the list's start
abbrev pub told : Answer → List Match → List ℕ
told (Fault f) ms = line_2 (codes "fault ") (fault_number f) (fault_place f)
told (Matches n) ms = match_lines (take n ms) ++ line_1 (codes "end ") n

abbrev pub listing : Result Answer Refusal → List Match → List ℕ
listing (Err why) ms = line_1 (codes "refused ") (refusal_number why)
listing (Ok a) ms = told a ms
