-- The table's run and the run of sets.
use Rattle.std.proofs.Common.{◌≡◌, ℕ, ◌+◌, ◌*◌, ◌<◌, ◌≤◌, List, [], ◌∷◌, length, get_or, refl, ap, ◌∙◌, arith}
use Rattle.std.specs.List.{AllByRecursion}
use Rattle.positions.specs.Sets.{run_by}
use Rattle.table.specs.Closure.{place}
use Rattle.table.specs.Filling.{Filled}
use Rattle.table.specs.Tables.{walk}
use Rattle.table.proofs.Places.{place_at}

pub walks : (f : ℕ → ℕ → ℕ) (cols : ℕ) (sets table : List ℕ) → Filled f cols (length sets * 16) sets table → cols ≤ 16 → (s : ℕ) (cs : List ℕ) → s < length sets → AllByRecursion (λ c. c < cols) cs
    → get_or sets (walk table s cs) 0 ≡ run_by f (get_or sets s 0) cs
walks f cols sets table h w s [] l a = refl
walks f cols sets table h w s (c ∷ cs) l a =
    let t = get_or table (s * 16 + c) 0 in
    let p = place (f (get_or sets s 0) c) sets in
    let u : s * 16 + c < length sets * 16 = omega (arith, a.0) in
    let at-t : t ≡ p = h.done s c a.0 u in
    let in' : p < length sets = h.found s c a.0 u in
    let to : get_or sets t 0 ≡ f (get_or sets s 0) c = ap (λ k. get_or sets k 0) at-t ∙ place_at (f (get_or sets s 0) c) sets 0 in' in
    walks f cols sets table h w t cs (omega arith) a.1 ∙ ap (λ x. run_by f x cs) to
