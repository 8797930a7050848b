-- One turn of a search for an empty line.
use Rattle.std.proofs.Common.{◌≡◌, ℕ, suc, ◌+◌, ◌<◌, ◌≤◌, Bool, true, false, cond, ◌&&◌, eqb, List, length, get_or, drop, ap, ◌∙◌, arith}
use Rattle.std.proofs.lemmas.List.{at_drop_more, at_drop_all}
use Rattle.request.specs.Lines.{ahead_of_blank}

module _ (fresh : Bool) (xs : List ℕ) (i n : ℕ) (was : n ≡ i + ahead_of_blank fresh (drop i xs)) where
  more-blank : i < length xs → ahead_of_blank fresh (drop i xs) ≡ cond (fresh && eqb (get_or xs i 0) 10) 0 (suc (ahead_of_blank (eqb (get_or xs i 0) 10) (drop (i + 1) xs)))
  more-blank h = at_drop_more (ahead_of_blank fresh) xs i 0 h

  pub found-blank : i < length xs → (fresh && eqb (get_or xs i 0) 10) ≡ true → i ≡ n
  found-blank h e = let t = more-blank h ∙ ap (λ b. cond b 0 (suc (ahead_of_blank (eqb (get_or xs i 0) 10) (drop (i + 1) xs)))) e in omega (arith, t)

  pub passed-blank : i < length xs → (fresh && eqb (get_or xs i 0) 10) ≡ false → n ≡ (i + 1) + ahead_of_blank (eqb (get_or xs i 0) 10) (drop (i + 1) xs)
  passed-blank h e = let t = more-blank h ∙ ap (λ b. cond b 0 (suc (ahead_of_blank (eqb (get_or xs i 0) 10) (drop (i + 1) xs)))) e in omega (arith, t)

  pub ended-blank : length xs ≤ i → i ≤ length xs → length xs ≡ n
  ended-blank h k = let t : ahead_of_blank fresh (drop i xs) ≡ 0 = at_drop_all (ahead_of_blank fresh) xs i h in omega (arith, t)
