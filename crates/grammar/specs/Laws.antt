-- The reader of tags tells what the grammar says, no more and no less.
use Rattle.std.specs.Prelude.{◌≡◌, ℕ, ◌+◌, List, Ok, Err, Result}
use Rattle.tags.specs.declared.tag.TagKind.{TagKind}
use Rattle.tags.specs.declared.tag.Cause.{Cause}
use Rattle.tags.specs.declared.tag.TagFault.{TagFault}
use Rattle.tags.specs.Reads.{tag, fault, read_tag}
use Rattle.grammar.specs.Grammar.{Begins, Upto, Refused}

abbrev pub Iff : Type 0 → Type 0 → Type 0
Iff A B = (A → B) × (B → A)

-- a kind and a name are told exactly if the bytes begin with such a tag
abbrev pub TagsExact : Type 0
TagsExact = (k : TagKind) (n xs : List ℕ) → Iff (read_tag xs ≡ tag k n) (Begins k n xs)

-- a cause and a place are told exactly if there is the first bad byte, of that cause
abbrev pub FaultsExact : Type 0
FaultsExact = (c : Cause) (i : ℕ) (xs : List ℕ) → Iff (read_tag xs ≡ fault c i) (Refused c i xs)

-- no place has two causes
abbrev pub CausesApart : Type 0
CausesApart = (c d : Cause) (p : List ℕ) → Upto c p → Upto d p → c ≡ d

-- r is what the grammar says of the stretch at a mark
pub record Told (stretch : List ℕ) (mark : ℕ) (r : Result (TagKind × List ℕ) TagFault) : Type 0 where
  pub tags : (k : TagKind) (n : List ℕ) → Iff (r ≡ Ok (k, n)) (Begins k n stretch)
  pub faults : (c : Cause) (i : ℕ) → Iff (r ≡ Err (record { mark = mark; cause = c; byte = mark + i })) (Refused c i stretch)
