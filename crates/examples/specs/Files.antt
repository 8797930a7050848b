-- Small files worked through.
use Rattle.std.specs.Prelude.{◌≡◌, ℕ, Bool, List, [], ◌∷◌, length, Ok, Err, codes, Result}
use Rattle.tags.specs.declared.tag.Cause.TheVariants.{NoQuote, Misplaced}
use Rattle.answers.specs.declared.fault.Fault.{Fault}
use Rattle.answers.specs.declared.fault.Fault.TheVariants.{BadTag}
use Rattle.answers.specs.declared.matches.Match.{Match}
use Rattle.answers.specs.Faults.{fault_number, fault_place}
use Rattle.answers.specs.Own.{elements, own}
use Rattle.answers.specs.Exact.{placed_at}

-- an answer in numbers: how many matches, or the fault's number and place
abbrev pub in_numbers : Result (List Match) Fault → Result ℕ (ℕ × ℕ)
in_numbers (Ok ms) = Ok (length ms)
in_numbers (Err f) = Err (fault_number f, fault_place f)

abbrev pub FileExamples : Type 0
FileExamples = (verdict : List (List ℕ) → List Bool) →
    (in_numbers (own verdict []) ≡ Ok 0)
    × (in_numbers (own verdict (codes "abc")) ≡ Ok 0)
    × (elements (codes "<a/><b/>") ≡ Ok (placed_at 0 (codes "a" ∷ []) ∷ placed_at 4 (codes "b" ∷ []) ∷ []))
    × (elements (codes "x<a>y<b/></a >z<a/>") ≡ Ok (placed_at 1 (codes "a" ∷ []) ∷ placed_at 5 (codes "a" ∷ codes "b" ∷ []) ∷ placed_at 15 (codes "a" ∷ []) ∷ []))
    × (in_numbers (own verdict (codes "<a><b></a>")) ≡ Err (102, 6))
    × (in_numbers (own verdict (codes "</a><")) ≡ Err (103, 0))
    × (in_numbers (own verdict (codes "<a>")) ≡ Err (104, 0))
    × (in_numbers (own verdict (codes "<a><b><c/>")) ≡ Err (104, 3))
    × (own verdict (codes "ab<a b='1'c='2'>") ≡ Err (BadTag (record { mark = 2; cause = Misplaced; byte = 10 })))
    × (own verdict (codes "<a><b c='<b/>'/>") ≡ Err (BadTag (record { mark = 3; cause = NoQuote; byte = 9 })))
