-- One more line of a listing.
use Rattle.std.proofs.Common.{◌≡◌, ℕ, zero, suc, ◌+◌, ◌<◌, List, [], ◌∷◌, ◌++◌, length, take, codes, OnOk, Ok, Err, Result, sym, refl, ap, ◌∙◌, append_assoc, append-nil, arith}
use Rattle.answers.specs.declared.matches.Match.{Match}
use Rattle.listing.specs.Listing.{line_2, match_lines}

-- the first of the matches that are left, of which n are to be listed
pub listed_more : (all text more : List ℕ) (n less : ℕ) (left rest : List Match) (m : Match) → all ≡ text ++ match_lines (take n left) →
    left ≡ m ∷ rest → less + 1 ≡ n → more ≡ text ++ line_2 (codes "match ") m.place m.query → all ≡ more ++ match_lines (take less rest)
listed_more all text more n less left rest m was e f g =
    let k : n ≡ suc less = omega arith in
    was ∙ ap (λ l. text ++ match_lines (take n l)) e ∙ ap (λ i. text ++ match_lines (take i (m ∷ rest))) k
    ∙ sym (append_assoc text (line_2 (codes "match ") m.place m.query) (match_lines (take less rest))) ∙ ap (λ l. l ++ match_lines (take less rest)) (sym g)

none_left : (n : ℕ) (left : List Match) → (0 < n → length left ≡ 0) → match_lines (take n left) ≡ []
none_left zero left h = refl
none_left (suc n) [] h = refl
none_left (suc n) (m ∷ ms) h = let e = h (omega arith) in absurd (omega arith)

pub listed_all : (start all text : List ℕ) (n : ℕ) (left : List Match) → start ++ all ≡ text ++ match_lines (take n left) → (0 < n → length left ≡ 0) →
    {E : Type 0} (r : Result (Unit {0}) E) (more end : List ℕ) → OnOk r (more ≡ text ++ end) → OnOk r (more ≡ start ++ (all ++ end))
listed_all start all text n left was h (Ok x) more end e =
    let same : start ++ all ≡ text = was ∙ ap (λ l. text ++ l) (none_left n left h) ∙ append-nil text in
    e ∙ ap (λ l. l ++ end) (sym same) ∙ append_assoc start all end
listed_all start all text n left was h (Err x) more end e = tt
