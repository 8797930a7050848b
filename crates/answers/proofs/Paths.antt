-- The machine of paths keeps the laws.
use Rattle.std.proofs.Common.{◌≡◌, ℕ, List, [], ◌∷◌, ◌++◌, sym, refl, ap, ◌∙◌, append_assoc, append-nil}
use Rattle.machine.specs.Model.{then_all}
use Rattle.answers.specs.Paths.{EveryVerdict}

all_appended : (a ns : List (List ℕ)) → then_all ◌++◌ (λ n. n ∷ []) a ns ≡ a ++ ns
all_appended a [] = sym (append-nil a)
all_appended a (n ∷ ns) = all_appended (a ++ (n ∷ [])) ns ∙ append_assoc a (n ∷ []) ns

pub every_verdict : EveryVerdict
every_verdict verdict = record {
  assoc = append_assoc;
  left = λ a. refl;
  right = append-nil;
  marks_path = λ n ns. ap verdict (all_appended (n ∷ []) ns);
  round = λ a. refl;
}
