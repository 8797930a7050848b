-- Parities add up along a path.
use Rattle.std.specs.Prelude.{◌≡◌, ℕ, ◌+◌, Bool, true, false, List, [], ◌∷◌, length, refl}
use Rattle.std.proofs.Common.{◌∙◌, ap, arith}
use Rattle.std.proofs.lemmas.Bool.Decides.{nat_tests}
use Rattle.machine.specs.Model.{then_all, path_action, Lawful}
use Rattle.foreign.specs.Parities.{odd, differ, bytes, parity, verdict, parities}
use Rattle.foreign.specs.declared.parity.Parity.{Parity}
use Rattle.foreign.specs.declared.parity.ParityMachine.{ParityMachine}

pub same : (p q : Parity) → p.names ≡ q.names → p.bytes ≡ q.bytes → p ≡ q
same p q d e = λ i. record { names = d i; bytes = e i }

pub differ-assoc : (a b c : Bool) → differ (differ a b) c ≡ differ a (differ b c)
differ-assoc true true true = refl
differ-assoc true true false = refl
differ-assoc true false true = refl
differ-assoc true false false = refl
differ-assoc false b c = refl

pub differ-false : (a : Bool) → differ a false ≡ a
differ-false true = refl
differ-false false = refl

pub odd-sum : (k n : ℕ) → differ (odd k) (odd n) ≡ odd (k + n)
odd-sum k n = grind (arith, nat_tests)

pub along : (m : ParityMachine) (names all : ℕ) (ns : List (List ℕ))
    → then_all (parities m).then (parities m).action (parity names all) ns ≡ parity (names + length ns) (all + bytes ns)
along m names all [] = same _ _ (ap odd (omega arith)) (ap odd (omega arith))
along m names all (n ∷ ns) =
    ap (λ p. then_all (parities m).then (parities m).action p ns) (same _ (parity (names + 1) (all + length n)) (odd-sum names 1) (odd-sum all (length n)))
    ∙ along m (names + 1) (all + length n) ns
    ∙ same _ _ (ap odd (omega arith)) (ap odd (omega arith))

pub round : (m : ParityMachine) (a b : Bool) → (parities m).back ((parities m).plain (record { names = a; bytes = b })) ≡ record { names = a; bytes = b }
round m true true = refl
round m true false = refl
round m false true = refl
round m false false = refl

marks-path : (m : ParityMachine) (n : List ℕ) (ns : List (List ℕ)) → (parities m).marks (path_action (parities m) n ns) ≡ verdict (n ∷ ns)
marks-path m n ns = ap (parities m).marks (along m 1 (length n) ns ∙ same _ (parity (length (n ∷ ns)) (bytes (n ∷ ns))) (ap odd (omega arith)) refl)

pub keeps_laws : (m : ParityMachine) → Lawful (parities m)
keeps_laws m = record {
  assoc = λ a b c. same _ _ (differ-assoc a.names b.names c.names) (differ-assoc a.bytes b.bytes c.bytes);
  left = λ a. refl;
  right = λ a. same _ _ (differ-false a.names) (differ-false a.bytes);
  marks_path = marks-path m;
  round = λ a. round m a.names a.bytes;
}
