-- Classes of bytes.
use Rattle.std.specs.Prelude.{ℕ, Bool, not, ◌&&◌, ◌||◌, ◌==◌, nat_le}

abbrev pub within : ℕ → ℕ → ℕ → Bool
within low high b = nat_le low b && nat_le b high

-- what a name may begin with: an ASCII letter, `_` or `:`
abbrev pub letter : ℕ → Bool
letter b = within 97 122 b || (within 65 90 b || (b == 95 || b == 58))

-- what a name may also go on with: a digit, `-` or `.`
abbrev pub digit : ℕ → Bool
digit b = within 48 57 b || (b == 45 || b == 46)

abbrev pub name_byte : ℕ → Bool
name_byte b = letter b || digit b

-- white space: a space, a tab, a line feed or a carriage return
abbrev pub white : ℕ → Bool
white b = b == 32 || (b == 9 || (b == 10 || b == 13))

-- a mark: `<`
abbrev pub mark : ℕ → Bool
mark b = b == 60

-- what a value in these quotes may go on with
abbrev pub in_value : ℕ → ℕ → Bool
in_value quote b = not (b == quote || mark b)
