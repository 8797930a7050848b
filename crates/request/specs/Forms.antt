-- How inputs are written, in the words of their rule; and that reading one gives back what was written.
use Rattle.std.specs.Prelude.{◌≡◌, ℕ, ◌<◌, ◌≤◌, List, [], ◌∷◌, ◌++◌, map, length, Some, ◌≢◌}
use Rattle.std.specs.List.{AllByRecursion}
use Rattle.request.specs.Places.{value, limit, cuts_of}
use Rattle.request.specs.Asked.{judged, request}

-- a line has no byte 10
abbrev pub Line : List ℕ → Type 0
Line l = AllByRecursion (λ b. b ≢ 10) l

-- a query line is not empty
abbrev pub QueryLine : List ℕ → Type 0
QueryLine l = (0 < length l) × Line l

-- lines, each with its byte 10
abbrev pub ended : List (List ℕ) → List ℕ
ended [] = []
ended (l ∷ ls) = l ++ (10 ∷ ended ls)

-- parts with the byte c between each two
abbrev pub parted_on : ℕ → List ℕ → List (List ℕ) → List ℕ
parted_on c l [] = l
parted_on c l (k ∷ ls) = l ++ (c ∷ parted_on c k ls)

abbrev pub parted : ℕ → List (List ℕ) → List ℕ
parted c [] = []
parted c (l ∷ ls) = parted_on c l ls

-- query lines and a file: the lines, an empty line and the file; or just the lines and no file, the last line with its byte 10 or without
pub data Body (queries : List (List ℕ)) : List ℕ → List ℕ → Type 0 where
  filed : {file : List ℕ} → Body queries file (ended queries ++ (10 ∷ file))
  unfiled : Body queries [] (ended queries)
  unended : Body queries [] (parted 10 queries)

-- an input: a first line, and then the rest, if there is any
pub data Written (first : List ℕ) : List (List ℕ) → List ℕ → List ℕ → Type 0 where
  alone : Written first [] [] first
  whole : {queries : List (List ℕ)} {file bytes : List ℕ} → Body queries file bytes → Written first queries file (first ++ (10 ∷ bytes))

-- one or more digits, which write a number that is not above the limit
pub record PlaceWord (word : List ℕ) : Type 0 where
  pub some : 0 < length word
  pub digits : AllByRecursion (λ b. (48 ≤ b) × (b ≤ 57)) word
  pub within : value word ≤ limit

-- each is greater than the one before it
abbrev pub RisingAfter : ℕ → List ℕ → Type 0
RisingAfter n [] = Unit {0}
RisingAfter n (m ∷ ns) = (n < m) × RisingAfter m ns

abbrev pub Rising : List ℕ → Type 0
Rising [] = Unit {0}
Rising (n ∷ ns) = RisingAfter n ns

-- a line of rising places, parted by single spaces; with no place it is empty
pub record CutLine (line cuts : List ℕ) : Type 0 where
  pub words : List (List ℕ)
  pub places : AllByRecursion PlaceWord words
  pub is : line ≡ parted 32 words
  pub cut : cuts ≡ map value words
  pub rise : Rising cuts

-- what an input is written from
pub record Way (input : List ℕ) : Type 0 where
  pub first : List ℕ
  pub queries : List (List ℕ)
  pub file : List ℕ
  pub line : Line first
  pub lines : AllByRecursion QueryLine queries
  pub written : Written first queries file input

-- Every input is written in some way, and is read as what it was written from.
pub record ReadsBack : Type 0 where
  pub every : (input : List ℕ) → Way input
  pub told : (first : List ℕ) (queries : List (List ℕ)) (file input : List ℕ) → Line first → AllByRecursion QueryLine queries →
      Written first queries file input → request input ≡ judged (cuts_of first) (parted 10 queries) file
  -- a first line has cuts exactly if it is a line of them
  pub cuts : (line cuts : List ℕ) → (cuts_of line ≡ Some cuts → CutLine line cuts) × (CutLine line cuts → cuts_of line ≡ Some cuts)
