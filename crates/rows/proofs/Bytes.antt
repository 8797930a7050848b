-- A test of two texts.
use Rattle.std.proofs.Common.{◌≡◌, ℕ, Bool, true, false, List, Decides, sym, ◌∙◌, arith}
use Rattle.std.specs.Str.{bytes_eq}
use Rattle.std.proofs.lemmas.Slice.Eq.{bytes_eq-Decides}

same-bools : (r s : Bool) → (r ≡ true → s ≡ true) → (s ≡ true → r ≡ true) → r ≡ s
same-bools true true f g = grind arith
same-bools true false f g = sym (f refl')
  where
    refl' : true ≡ true
    refl' = grind arith
same-bools false true f g = g (grind arith)
same-bools false false f g = grind arith

pub same_test : (a b x y : List ℕ) (r : Bool) → Decides r (a ≡ b) → a ≡ x → b ≡ y → r ≡ bytes_eq x y
same_test a b x y r d e f =
    same-bools r (bytes_eq x y)
    (λ h. let g = d.0 h in (bytes_eq-Decides x y).1 (sym e ∙ g ∙ f))
    (λ h. d.1 (e ∙ (bytes_eq-Decides x y).0 h ∙ sym f))
