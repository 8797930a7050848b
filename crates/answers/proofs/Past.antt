-- Reading a tag never goes past a mark.
use Rattle.std.proofs.Common.{◌≡◌, ℕ, ◌+◌, Bool, true, false, cond, List, [], ◌∷◌, ◌++◌, refl, ap, append-nil, arith}
use Rattle.std.proofs.lemmas.Bool.Decides.{nat_tests}
use Rattle.std.proofs.lemmas.Bool.{both_ways}
use Rattle.tags.specs.declared.reader.State.{State}
use Rattle.tags.specs.declared.reader.State.TheVariants.{Before, Opened, Name, Gap, Attribute, AttributeGap, Equals, InDouble, InSingle, AfterValue, Slashed, EndOpened, EndName, EndGap}
use Rattle.tags.specs.declared.reader.Step.{Step}
use Rattle.tags.specs.declared.reader.Step.TheVariants.{On, Done, Bad}
use Rattle.tags.specs.Steps.{next, in_name, cause_at_end}
use Rattle.tags.specs.Reads.{read_tag, reads}
use Rattle.grammar.proofs.Runs.{goes}
use Rattle.answers.specs.Rule.{at_end, Past}
use Rattle.answers.specs.Rule as rule

-- the states after a tag's mark
abbrev inside : State → Bool
inside Before = false
inside Opened = true
inside Name = true
inside Gap = true
inside Attribute = true
inside AttributeGap = true
inside Equals = true
inside InDouble = true
inside InSingle = true
inside AfterValue = true
inside Slashed = true
inside EndOpened = true
inside EndName = true
inside EndGap = true

-- a mark there is as bad as the end
at_mark : (s : State) → inside s ≡ true → next s 60 ≡ (s, Bad (cause_at_end s))
at_mark Before h = absurd (both_ways (inside Before) refl h)
at_mark Opened h = refl
at_mark Name h = refl
at_mark Gap h = refl
at_mark Attribute h = refl
at_mark AttributeGap h = refl
at_mark Equals h = refl
at_mark InDouble h = refl
at_mark InSingle h = refl
at_mark AfterValue h = refl
at_mark Slashed h = refl
at_mark EndOpened h = refl
at_mark EndName h = refl
at_mark EndGap h = refl

stays : (s : State) (b : ℕ) → inside s ≡ true → inside (next s b).0 ≡ true
stays Before b h = absurd (both_ways (inside Before) refl h)
stays Opened b h = grind (arith, nat_tests)
stays Name b h = grind (arith, nat_tests)
stays Gap b h = grind (arith, nat_tests)
stays Attribute b h = grind (arith, nat_tests)
stays AttributeGap b h = grind (arith, nat_tests)
stays Equals b h = grind (arith, nat_tests)
stays InDouble b h = grind (arith, nat_tests)
stays InSingle b h = grind (arith, nat_tests)
stays AfterValue b h = grind (arith, nat_tests)
stays Slashed b h = grind (arith, nat_tests)
stays EndOpened b h = grind (arith, nat_tests)
stays EndName b h = grind (arith, nat_tests)
stays EndGap b h = grind (arith, nat_tests)

-- the rest after one step, cut or not
after : (xs ys : List ℕ) (at : ℕ) (m : List ℕ) (b : ℕ) (w : State × Step) → inside w.0 ≡ true
    → ((s : State) (k : ℕ) (n : List ℕ) → inside s ≡ true → reads s k n (xs ++ 60 ∷ ys) ≡ reads s k n xs)
    → goes at m b (xs ++ 60 ∷ ys) w ≡ goes at m b xs w
after xs ys at m b (s, On) h later = later s (at + 1) (cond (in_name s) (m ++ b ∷ []) m) h
after xs ys at m b (s, Done k) h later = refl
after xs ys at m b (s, Bad c) h later = refl

past_from : (xs ys : List ℕ) (s : State) (at : ℕ) (m : List ℕ) → inside s ≡ true → reads s at m (xs ++ 60 ∷ ys) ≡ reads s at m xs
past_from [] ys s at m h = ap (goes at m 60 ys) (at_mark s h)
past_from (b ∷ xs) ys s at m h = after xs ys at m b (next s b) (stays s b h) (λ s' k n i. past_from xs ys s' k n i)

pub past : Past
past xs ys at_end = ap (λ l. read_tag (60 ∷ l)) (append-nil xs)
past xs ys (rule.at_mark zs) = past_from xs zs Opened 1 [] refl
