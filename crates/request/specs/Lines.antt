-- Lines of an input: each ends at byte 10 or at the input's end.
use Rattle.std.specs.Prelude.{ℕ, suc, ◌+◌, ◌-◌, Bool, true, cond, ◌&&◌, List, [], ◌∷◌, take, drop, ◌==◌, nat_lt, slice_index}

-- how many bytes stand before the first byte c, or all of them
abbrev pub ahead : ℕ → List ℕ → ℕ
ahead c [] = 0
ahead c (b ∷ bs) = cond (b == c) 0 (suc (ahead c bs))

-- the first line, without its byte 10
abbrev pub first_line : List ℕ → List ℕ
first_line input = take (ahead 10 input) input

-- what follows the first line and its byte 10
abbrev pub other_lines : List ℕ → List ℕ
other_lines input = drop (ahead 10 input + 1) input

-- how many bytes stand before the first empty line, or all of them; `fresh` says that a line begins here
abbrev pub ahead_of_blank : Bool → List ℕ → ℕ
ahead_of_blank fresh [] = 0
ahead_of_blank fresh (b ∷ bs) = cond (fresh && b == 10) 0 (suc (ahead_of_blank (b == 10) bs))

abbrev pub blank_line : List ℕ → ℕ
blank_line bytes = ahead_of_blank true bytes

-- the lines ahead of the empty one, parted by byte 10: the last one's own byte 10 is no part of them
abbrev pub lines_ahead : List ℕ → List ℕ
lines_ahead bytes = take (cond (nat_lt 0 (blank_line bytes) && slice_index bytes (blank_line bytes - 1) == 10) (blank_line bytes - 1) (blank_line bytes)) bytes

-- every byte after the empty line
abbrev pub after_blank : List ℕ → List ℕ
after_blank bytes = drop (blank_line bytes + 1) bytes
