-- Where the marks of a file lie.
use Rattle.std.specs.Prelude.{◌≡◌, ℕ, ◌+◌, ◌<◌, true, false, cond, not, List, [], ◌∷◌, length, Option, MatchOption, slice_index}
use Rattle.std.specs.List.{between, prefix_len}
use Rattle.tags.specs.Bytes.{mark}

-- the places of the marks, in order, where the first byte lies at `at`
abbrev pub marks : List ℕ → ℕ → List ℕ
marks [] at = []
marks (b ∷ bs) at = cond (mark b) (at ∷ marks bs (at + 1)) (marks bs (at + 1))

-- the file's bytes from `from` up to but without `to`, as far as it has them
abbrev pub part : List ℕ → ℕ → ℕ → List ℕ
part file from to = between from to file

-- the places of the marks among them
abbrev pub marks_of : List ℕ → ℕ → ℕ → List ℕ
marks_of file from to = marks (part file from to) from

abbrev pub first_or : ℕ → List ℕ → ℕ
first_or d [] = d
first_or d (x ∷ xs) = x

abbrev pub last_or : ℕ → List ℕ → ℕ
last_or d [] = d
last_or d (x ∷ xs) = last_or x xs

-- the first mark, the last and their number; with none, both places are `to`
abbrev pub ends : ℕ → List ℕ → ℕ × ℕ × ℕ
ends to ms = (first_or to ms, last_or to ms, length ms)

abbrev pub scanned : List ℕ → ℕ → ℕ → ℕ × ℕ × ℕ
scanned file from to = ends to (marks_of file from to)

-- how many bytes stand before the first mark, all of them if there is none
abbrev pub unmarked : List ℕ → ℕ
unmarked bs = prefix_len (λ b. not (mark b)) bs

-- r is the place of the first mark of some bytes, or nothing where they have none
abbrev pub IsFirstMark : List ℕ → Option ℕ → Type 0
IsFirstMark bs r = MatchOption r (unmarked bs ≡ length bs) (λ k. (k ≡ unmarked bs) × (k < length bs))

-- r is the place of their last mark, or nothing where they have none
abbrev pub IsLastMark : List ℕ → Option ℕ → Type 0
IsLastMark bs r = MatchOption r ((k : ℕ) → k < length bs → mark (slice_index bs k) ≡ false)
    (λ k. (k < length bs) × (mark (slice_index bs k) ≡ true) × ((j : ℕ) → k < j → j < length bs → mark (slice_index bs j) ≡ false))

abbrev pub mark_count : List ℕ → ℕ
mark_count bs = length (marks bs 0)
