-- The rule for a file's content, over its bytes.
use Rattle.std.specs.Prelude.{◌≡◌, ℕ, Bool, not, List, [], ◌∷◌, ◌++◌, Ok}
use Rattle.tags.specs.declared.tag.TagKind.TheVariants.{Start, Empty, End}
use Rattle.tags.specs.Bytes.{mark}
use Rattle.tags.specs.Reads.{read_tag}
use Rattle.grammar.specs.Grammar.{Each, Tag}
use Rattle.grammar.specs.Laws.{Iff}
use Rattle.answers.specs.declared.matches.Match.{Match}
use Rattle.answers.specs.Own.{own}

abbrev pub text_byte : ℕ → Bool
text_byte b = not (mark b)

-- bytes without `<`
abbrev pub Text : List ℕ → Type 0
Text t = Each text_byte t

-- content ::= text (element text)*, where element ::= EmptyElemTag | STag content ETag, and both tags have the same name
pub data WellFormed : List ℕ → Type 0 where
  only : {t : List ℕ} → Text t → WellFormed t
  empty : {t e r n : List ℕ} → Text t → Tag Empty n e → WellFormed r → WellFormed (t ++ (e ++ r))
  element : {t s c e r n : List ℕ} → Text t → Tag Start n s → WellFormed c → Tag End n e → WellFormed r → WellFormed (t ++ (s ++ (c ++ (e ++ r))))

-- a file is accepted, by whatever verdict, exactly if its bytes follow the rule
abbrev pub Accepted : Type 0
Accepted = (verdict : List (List ℕ) → List Bool) (file : List ℕ) → Iff ((ms : List Match) × (own verdict file ≡ Ok ms)) (WellFormed file)

-- the end of the bytes, or a mark
pub data AtMark : List ℕ → Type 0 where
  at_end : AtMark []
  at_mark : (ys : List ℕ) → AtMark (60 ∷ ys)

-- reading a tag up to the next mark gives what reading on past it gives: the same tag, or the same fault at the same byte
abbrev pub Past : Type 0
Past = (xs ys : List ℕ) → AtMark ys → read_tag (60 ∷ (xs ++ ys)) ≡ read_tag (60 ∷ xs)
