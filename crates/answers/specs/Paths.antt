-- The plainest machine: an action is a path itself. Whatever the verdict is, it keeps the laws.
use Rattle.std.specs.Prelude.{ℕ, Bool, List, [], ◌∷◌, ◌++◌}
use Rattle.machine.specs.Model.{Model, Lawful}

abbrev pub paths : (List (List ℕ) → List Bool) → Model (List (List ℕ)) (List (List ℕ))
paths verdict = record { stay = []; action = λ n. n ∷ []; then = ◌++◌; marks = verdict; plain = λ a. a; back = λ p. p; verdict = verdict }

-- so every verdict on paths is that of some machine
abbrev pub EveryVerdict : Type 0
EveryVerdict = (verdict : List (List ℕ) → List Bool) → Lawful (paths verdict)
