-- A line of cut places: decimal numbers parted by single spaces, each greater than the one before.
use Rattle.std.specs.Prelude.{ℕ, ◌+◌, ◌-◌, ◌*◌, Bool, true, false, cond, ◌&&◌, List, [], ◌∷◌, map, Some, None, Option, ◌==◌, nat_le}
use Rattle.std.specs.List.{slice_split}

-- the words of a line: one more than it has spaces, and empty where two spaces meet
abbrev pub words : List ℕ → List (List ℕ)
words line = slice_split (λ b. b == 32) line

abbrev pub digit : ℕ → Bool
digit b = nat_le 48 b && nat_le b 57

abbrev pub digits : List ℕ → Bool
digits [] = true
digits (b ∷ bs) = digit b && digits bs

abbrev pub some : List ℕ → Bool
some [] = false
some (b ∷ bs) = true

-- the number that digits write after the number n
abbrev pub value_after : ℕ → List ℕ → ℕ
value_after n [] = n
value_after n (b ∷ bs) = value_after (n * 10 + (b - 48)) bs

abbrev pub value : List ℕ → ℕ
value word = value_after 0 word

-- the greatest length of a file, and so the greatest place
abbrev pub limit : ℕ
limit = 4096

-- a word is a place: one or more digits, and not above the limit
abbrev pub is_place : List ℕ → Bool
is_place word = some word && (digits word && nat_le (value word) limit)

abbrev pub place_of : List ℕ → Option ℕ
place_of word = cond (is_place word) (Some (value word)) None

-- the same, where the place is no less than `least`
abbrev pub place_from : ℕ → List ℕ → Option ℕ
place_from least word = cond (is_place word && nat_le least (value word)) (Some (value word)) None

abbrev pub are_places : List (List ℕ) → Bool
are_places [] = true
are_places (w ∷ ws) = is_place w && are_places ws

-- each number is greater than the one before it, and the first is at least `least`
abbrev pub rising : ℕ → List ℕ → Bool
rising least [] = true
rising least (n ∷ ns) = nat_le least n && rising (n + 1) ns

-- the cut places of a line, if it has them; the empty line has none
abbrev pub cuts_of : List ℕ → Option (List ℕ)
cuts_of line = cond (some line) (cond (are_places (words line) && rising 0 (map value (words line))) (Some (map value (words line))) None) (Some [])
