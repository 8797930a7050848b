-- A machine of parities, and its verdict.
use Rattle.std.specs.Prelude.{ℕ, ◌+◌, ◌/◌, ◌%◌, Bool, false, cond, not, List, [], ◌∷◌, length, ◌==◌}
use Rattle.machine.specs.Model.{Model}
use Rattle.foreign.specs.declared.parity.Parity.{Parity}
use Rattle.foreign.specs.declared.parity.ParityMachine.{ParityMachine}

abbrev pub odd : ℕ → Bool
odd n = n % 2 == 1

abbrev pub differ : Bool → Bool → Bool
differ a b = cond a (not b) b

-- the bytes of the names of a path
abbrev pub bytes : List (List ℕ) → ℕ
bytes [] = 0
bytes (n ∷ ns) = length n + bytes ns

abbrev pub parity : ℕ → ℕ → Parity
parity names bytes = record { names = odd names; bytes = odd bytes }

-- queries 0 and 1
abbrev pub set : Bool → Bool → List Bool
set a b = a ∷ b ∷ false ∷ false ∷ false ∷ false ∷ false ∷ false ∷ []

abbrev pub verdict : List (List ℕ) → List Bool
verdict path = set (not (odd (length path))) (not (odd (bytes path)))

abbrev pub parities : ParityMachine → Model Parity ℕ
parities _ = record {
  stay = parity 0 0;
  action = λ n. parity 1 (length n);
  then = λ a b. record { names = differ a.names b.names; bytes = differ a.bytes b.bytes };
  marks = λ a. set (not a.names) (not a.bytes);
  plain = λ a. cond a.names 1 0 + cond a.bytes 2 0;
  back = λ p. parity p (p / 2);
  verdict = verdict;
}
