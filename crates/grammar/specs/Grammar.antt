-- The grammar of tags: XML 1.0's productions for names, attributes and tags, narrowed to ASCII names and to values without references.
use Rattle.std.specs.Prelude.{◌≡◌, ℕ, suc, ◌<◌, ◌≤◌, Bool, true, not, ◌||◌, ◌⊎◌, List, [], ◌∷◌, ◌++◌, length, take, ◌==◌}
use Rattle.tags.specs.declared.tag.TagKind.{TagKind}
use Rattle.tags.specs.declared.tag.TagKind.TheVariants.{Start, Empty, End}
use Rattle.tags.specs.declared.tag.Cause.{Cause}
use Rattle.tags.specs.declared.tag.Cause.TheVariants.{NoName, NoEquals, NoQuote, Misplaced}
use Rattle.tags.specs.Bytes.{letter, name_byte, white, mark}

-- every byte passes the test
pub data Each (p : ℕ → Bool) : List ℕ → Type 0 where
  none : Each p []
  more : {b : ℕ} {bs : List ℕ} → p b ≡ true → Each p bs → Each p (b ∷ bs)

-- S?
abbrev pub Spaces : List ℕ → Type 0
Spaces s = Each white s

-- Name ::= NameStartChar (NameChar)*
pub data Name : List ℕ → Type 0 where
  name : {b : ℕ} {bs : List ℕ} → letter b ≡ true → Each name_byte bs → Name (b ∷ bs)

-- a byte that may stand in a value between the quotes q: neither q nor `<`
abbrev pub value_byte : ℕ → ℕ → Bool
value_byte q b = not (b == q || mark b)

-- AttValue ::= '"' [^<"]* '"' | "'" [^<']* "'"
pub data Value : List ℕ → Type 0 where
  double : {v : List ℕ} → Each (value_byte 34) v → Value (34 ∷ (v ++ 34 ∷ []))
  single : {v : List ℕ} → Each (value_byte 39) v → Value (39 ∷ (v ++ 39 ∷ []))

-- S Attribute, where Attribute ::= Name Eq AttValue and Eq ::= S? '=' S?
pub data Attribute : List ℕ → Type 0 where
  attribute : {w : ℕ} {s n s₁ s₂ v : List ℕ} → white w ≡ true → Spaces s → Name n → Spaces s₁ → Spaces s₂ → Value v → Attribute (w ∷ (s ++ (n ++ (s₁ ++ 61 ∷ (s₂ ++ v)))))

-- (S Attribute)*
pub data Attributes : List ℕ → Type 0 where
  no_more : Attributes []
  and_one : {a al : List ℕ} → Attribute a → Attributes al → Attributes (a ++ al)

-- '>' of a start tag, '/>' of an empty one
pub data Closer : TagKind → List ℕ → Type 0 where
  plain : Closer Start (62 ∷ [])
  slashed : Closer Empty (47 ∷ 62 ∷ [])

-- a tag of a kind, with its name
-- STag ::= '<' Name (S Attribute)* S? '>', EmptyElemTag the same with '/>', ETag ::= '</' Name S? '>'
pub data Tag : TagKind → List ℕ → List ℕ → Type 0 where
  opens : {k : TagKind} {n al s c : List ℕ} → Name n → Attributes al → Spaces s → Closer k c → Tag k n (60 ∷ (n ++ (al ++ (s ++ c))))
  ends : {n s : List ℕ} → Name n → Spaces s → Tag End n (60 ∷ 47 ∷ (n ++ (s ++ 62 ∷ [])))

-- the bytes begin with a tag of that kind and name
abbrev pub Begins : TagKind → List ℕ → List ℕ → Type 0
Begins k n xs = (t : List ℕ) × (r : List ℕ) × (xs ≡ t ++ r) × Tag k n t

-- some tag begins with p
abbrev pub Viable : List ℕ → Type 0
Viable p = (k : TagKind) × (n : List ℕ) × (u : List ℕ) × Tag k n (p ++ u)

-- the byte at i is the first with which no tag goes on, or the end of the bytes
pub record FirstBad (xs : List ℕ) (i : ℕ) : Type 0 where
  pub within : i ≤ length xs
  pub before : Viable (take i xs)
  pub here : i < length xs → Viable (take (suc i) xs) → ⊥

-- a start or empty tag, up to the end of its name or of an attribute
pub data Head : List ℕ → Type 0 where
  head : {n al : List ℕ} → Name n → Attributes al → Head (60 ∷ (n ++ al))

-- what stands before a fault of each cause
pub data Upto : Cause → List ℕ → Type 0 where
  -- 1: an element name must begin
  at_name : Upto NoName (60 ∷ [])
  at_end_name : Upto NoName (60 ∷ 47 ∷ [])
  -- 2: after an attribute name's first byte, up to its `=`
  at_equal : {h s n s₁ : List ℕ} (w : ℕ) → Head h → white w ≡ true → Spaces s → Name n → Spaces s₁ → Upto NoEquals (h ++ w ∷ (s ++ (n ++ s₁)))
  -- 3: a quote must open, or close
  at_open : {h s n s₁ s₂ : List ℕ} (w : ℕ) → Head h → white w ≡ true → Spaces s → Name n → Spaces s₁ → Spaces s₂ → Upto NoQuote (h ++ w ∷ (s ++ (n ++ (s₁ ++ 61 ∷ s₂))))
  at_close : {h s n s₁ s₂ v : List ℕ} (w q : ℕ) → Head h → white w ≡ true → Spaces s → Name n → Spaces s₁ → Spaces s₂ → (q ≡ 34) ⊎ (q ≡ 39) → Each (value_byte q) v
      → Upto NoQuote (h ++ w ∷ (s ++ (n ++ (s₁ ++ 61 ∷ (s₂ ++ q ∷ v)))))
  -- 4: everywhere else
  at_mark : Upto Misplaced []
  at_head : {h s : List ℕ} → Head h → Spaces s → Upto Misplaced (h ++ s)
  at_slash : {h s : List ℕ} → Head h → Spaces s → Upto Misplaced (h ++ (s ++ 47 ∷ []))
  at_end : {n s : List ℕ} → Name n → Spaces s → Upto Misplaced (60 ∷ 47 ∷ (n ++ s))

-- the bytes have their first bad one at i, of the cause c
abbrev pub Refused : Cause → ℕ → List ℕ → Type 0
Refused c i xs = FirstBad xs i × Upto c (take i xs)
