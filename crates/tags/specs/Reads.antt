-- What a stretch is read as: a tag with its kind and name, or a fault.
use Rattle.std.specs.Prelude.{ℕ, ◌+◌, cond, List, [], ◌∷◌, ◌++◌, Ok, Err, Result}
use Rattle.tags.specs.declared.reader.State.{State}
use Rattle.tags.specs.declared.reader.State.TheVariants.{Before}
use Rattle.tags.specs.declared.reader.Step.TheVariants.{On, Done, Bad}
use Rattle.tags.specs.declared.reader.Stop.{Stop}
use Rattle.tags.specs.declared.tag.TagKind.{TagKind}
use Rattle.tags.specs.declared.tag.TagKind.TheVariants as kind
use Rattle.tags.specs.declared.tag.Cause.{Cause}
use Rattle.tags.specs.declared.tag.Cause.TheVariants.{NoName, NoEquals, NoQuote, Misplaced}
use Rattle.tags.specs.declared.tag.Tag.{Tag}
use Rattle.tags.specs.declared.tag.Tag.TheVariants.{Start, Empty, End}
use Rattle.tags.specs.declared.tag.TagFault.{TagFault}
use Rattle.tags.specs.Marks.{part}
use Rattle.tags.specs.Steps.{next, in_name, cause_at_end}

-- a fault's place is counted from the stretch's first byte
pub data Outcome : Type 0 where
  tag : TagKind → List ℕ → Outcome
  fault : Cause → ℕ → Outcome

-- what the rest of a stretch gives, from a state, a place and the part of the name read so far
abbrev pub reads : State → ℕ → List ℕ → List ℕ → Outcome
reads s at name [] = fault (cause_at_end s) at
reads s at name (b ∷ bs) =
    elim (next s b).1 [
      | On ↦ reads (next s b).0 (at + 1) (cond (in_name (next s b).0) (name ++ b ∷ []) name) bs
      | Done k ↦ tag k name
      | Bad c ↦ fault c at
    ]

-- what a whole stretch is read as
abbrev pub read_tag : List ℕ → Outcome
read_tag bytes = reads Before 0 [] bytes

-- the number of a cause
abbrev pub cause_number : Cause → ℕ
cause_number NoName = 1
cause_number NoEquals = 2
cause_number NoQuote = 3
cause_number Misplaced = 4

abbrev pub kind_of : Tag → TagKind
kind_of (Start n) = kind.Start
kind_of (Empty n) = kind.Empty
kind_of (End n) = kind.End

abbrev pub name_of : Tag → List ℕ
name_of (Start n) = n.now
name_of (Empty n) = n.now
name_of (End n) = n.now

-- what the reader of a stretch answers
abbrev pub outcome : Result Tag Stop → Outcome
outcome (Ok t) = tag (kind_of t) (name_of t)
outcome (Err e) = fault e.cause e.at

-- kind and name of a tag, or its fault
abbrev pub shown : Result Tag TagFault → Result (TagKind × List ℕ) TagFault
shown (Ok t) = Ok (kind_of t, name_of t)
shown (Err e) = Err e

-- the same of the stretch that begins at a mark, a fault's places being counted from the file's start
abbrev pub placed : ℕ → Outcome → Result (TagKind × List ℕ) TagFault
placed mark (tag k n) = Ok (k, n)
placed mark (fault c i) = Err (record { mark = mark; cause = c; byte = mark + i })

-- what the stretch from a mark up to but without `to` is read as
abbrev pub tag_at : List ℕ → ℕ → ℕ → Result (TagKind × List ℕ) TagFault
tag_at file mark to = placed mark (read_tag (part file mark to))
