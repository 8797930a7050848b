-- The text of queries: what text stands for which queries.
use Rattle.std.specs.Prelude.{◌≡◌, ℕ, ◌<◌, ◌≤◌, Bool, true, false, List, [], ◌∷◌, ◌++◌, length}
use Rattle.std.specs.List.{AllByRecursion}
use Rattle.tags.specs.Bytes.{letter, name_byte}
use Rattle.machine.specs.Queries.{Test, any, named, Query}
use Rattle.machine.specs.Limits.{most_lines}

-- a name, as in a tag
abbrev pub GoodName : List ℕ → Type 0
GoodName [] = ⊥
GoodName (b ∷ bs) = (letter b ≡ true) × AllByRecursion (λ x. name_byte x ≡ true) bs

abbrev pub GoodTest : Test → Type 0
GoodTest any = Unit {0}
GoodTest (named n) = GoodName n

abbrev pub GoodSteps : Query → Type 0
GoodSteps q = AllByRecursion (λ s. GoodTest s.test) q

-- a query has one or more steps
pub record GoodQuery (q : Query) : Type 0 where
  pub some : 0 < length q
  pub steps : GoodSteps q

-- `//` or `/`
abbrev pub axis_text : Bool → List ℕ
axis_text true = 47 ∷ 47 ∷ []
axis_text false = 47 ∷ []

-- `*` or the name
abbrev pub test_text : Test → List ℕ
test_text any = 42 ∷ []
test_text (named n) = n

abbrev pub query_text : Query → List ℕ
query_text [] = []
query_text (s ∷ q) = axis_text s.deep ++ (test_text s.test ++ query_text q)

-- the lines, parted by byte 10
abbrev pub lines_text : List Query → List ℕ
lines_text [] = []
lines_text (q ∷ []) = query_text q
lines_text (q ∷ r ∷ qs) = query_text q ++ 10 ∷ lines_text (r ∷ qs)

-- the text is these queries written out, one to eight of them
pub record Parses (text : List ℕ) (qs : List Query) : Type 0 where
  pub some : 0 < length qs
  pub few : length qs ≤ most_lines
  pub good : AllByRecursion GoodQuery qs
  pub is : text ≡ lines_text qs
