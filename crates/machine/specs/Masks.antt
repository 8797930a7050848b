-- Sets of positions as numbers: bit j is set if position j is in the set.
use Rattle.std.specs.Prelude.{ℕ, ◌+◌, ◌*◌, ◌/◌, ◌%◌, ◌^◌, Bool, cond, List, [], ◌∷◌, map, ◌==◌, bit_and, bit_or}
use Rattle.machine.specs.declared.position.Position.{Position}
use Rattle.machine.specs.Queries.{fits_at, deep_at}

unfoldable pub mask : List Bool → ℕ
mask [] = 0
mask (b ∷ bs) = mask bs * 2 + cond b 1 0

abbrev pub has : ℕ → ℕ → Bool
has set j = (set / 2 ^ j % 2) == 1

-- the positions whose step fits a column, and those whose step is `//`
abbrev pub fit_mask : List Position → ℕ → ℕ
fit_mask ps c = mask (map (λ p. fits_at p c) ps)

abbrev pub deep_mask : List Position → ℕ
deep_mask ps = mask (map deep_at ps)

-- the set after a name that fits after the positions of `fits`
abbrev pub moved : ℕ → ℕ → ℕ → ℕ
moved fits deep set = bit_or (bit_and set fits * 2) (bit_and set deep)
