-- How large a text of queries may be.
use Rattle.std.specs.Prelude.{ℕ, ◌≤◌, List, length}
use Rattle.std.specs.List.{AllByRecursion}

abbrev pub most_bytes : ℕ
most_bytes = 512

abbrev pub most_lines : ℕ
most_lines = 8

abbrev pub most_positions : ℕ
most_positions = 32

abbrev pub most_names : ℕ
most_names = 15

abbrev pub longest_name : ℕ
longest_name = 24

-- few enough names, and each short enough
pub record NamesFit (names : List (List ℕ)) : Type 0 where
  pub few : length names ≤ most_names
  pub short : AllByRecursion (λ n. length n ≤ longest_name) names
