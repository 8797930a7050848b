-- The run of position sets decides `is_met`.
use Rattle.std.proofs.Common.{◌≡◌, ℕ, zero, suc, Bool, false, ◌&&◌, ◌||◌, List, [], ◌∷◌, length, get_or, replicate, sym, refl, ap, ◌∙◌, arith}
use lib.ListN.{length-replicate}
use Rattle.machine.specs.Paths.{Step, is_met, stepped, run, begin}

-- some position of the set from which the rest of the steps meets the path
abbrev some-meets : {N : Type 0} → List (Step N) → List Bool → List N → Bool
some-meets ss [] path = false
some-meets [] (b ∷ bs) path = b && is_met [] path
some-meets (s ∷ ss) (b ∷ bs) path = (b && is_met (s ∷ ss) path) || some-meets ss bs path

taut : (came b deep fits m m' rest : Bool)
    → (((came || (b && deep)) && m) || (((b && fits) && m') || rest)) ≡ ((came && m) || ((b && ((fits && m') || (deep && m))) || rest))
taut came b deep fits m m' rest = grind arith

some-step : {N : Type 0} (ss : List (Step N)) (n : N) (came : Bool) (bs : List Bool) (ns : List N) → length bs ≡ suc (length ss)
    → some-meets ss (stepped ss n came bs) ns ≡ ((came && is_met ss ns) || some-meets ss bs (n ∷ ns))
some-step ss n came [] ns e = absurd (omega arith)
some-step [] n came (b ∷ bs) ns e = grind arith
some-step (s ∷ ss) n came (b ∷ bs) ns e =
    let ih = some-step ss n (b && s.fits n) bs ns (omega arith) in
    ap (λ x. ((came || (b && s.deep)) && is_met (s ∷ ss) ns) || x) ih ∙ taut came b s.deep (s.fits n) (is_met (s ∷ ss) ns) (is_met ss ns) (some-meets ss bs (n ∷ ns))

pub length-stepped : {N : Type 0} (ss : List (Step N)) (n : N) (came : Bool) (bs : List Bool) → length bs ≡ suc (length ss) → length (stepped ss n came bs) ≡ suc (length ss)
length-stepped ss n came [] e = e
length-stepped [] n came (b ∷ bs) e = refl
length-stepped (s ∷ ss) n came (b ∷ bs) e = ap suc (length-stepped ss n (b && s.fits n) bs (omega arith))

-- at the path's end only the last position counts
at_end : {N : Type 0} (ss : List (Step N)) (bs : List Bool) → length bs ≡ suc (length ss) → some-meets ss bs [] ≡ get_or bs (length ss) false
at_end ss [] e = absurd (omega arith)
at_end [] (b ∷ bs) e = grind arith
at_end (s ∷ ss) (b ∷ bs) e = let ih = at_end ss bs (omega arith) in grind (arith, ih)

some-run : {N : Type 0} (ss : List (Step N)) (bs : List Bool) (path : List N) → length bs ≡ suc (length ss) → get_or (run ss bs path) (length ss) false ≡ some-meets ss bs path
some-run ss bs [] e = sym (at_end ss bs e)
some-run ss bs (n ∷ ns) e = some-run ss (stepped ss n false bs) ns (length-stepped ss n false bs e) ∙ some-step ss n false bs ns e

none : {N : Type 0} (ss : List (Step N)) (k : ℕ) (path : List N) → some-meets ss (replicate k false) path ≡ false
none ss zero path = refl
none [] (suc k) path = refl
none (s ∷ ss) (suc k) path = none ss k path

some-begin : {N : Type 0} (ss : List (Step N)) (path : List N) → some-meets ss (begin ss) path ≡ is_met ss path
some-begin [] path = refl
some-begin (s ∷ ss) path = let e = none ss (suc (length ss)) path in grind (arith, e)

pub run-is_met : {N : Type 0} (ss : List (Step N)) (path : List N) → get_or (run ss (begin ss) path) (length ss) false ≡ is_met ss path
run-is_met ss path = some-run ss (begin ss) path (ap suc (simp length-replicate)) ∙ some-begin ss path
