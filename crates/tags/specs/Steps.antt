-- How a tag is read, a byte at a time.
use Rattle.std.specs.Prelude.{◌≡◌, ℕ, ◌<◌, ◌≤◌, Bool, true, false, cond, List, ◌==◌, slice_index}
use Rattle.tags.specs.declared.reader.State.{State}
use Rattle.tags.specs.declared.reader.State.TheVariants.{Before, Opened, Name, Gap, Attribute, AttributeGap, Equals, InDouble, InSingle, AfterValue, Slashed, EndOpened, EndName, EndGap}
use Rattle.tags.specs.declared.reader.Step.{Step}
use Rattle.tags.specs.declared.reader.Step.TheVariants.{On, Done, Bad}
use Rattle.tags.specs.declared.tag.TagKind.TheVariants.{Start, Empty, End}
use Rattle.tags.specs.declared.tag.Cause.{Cause}
use Rattle.tags.specs.declared.tag.Cause.TheVariants.{NoName, NoEquals, NoQuote, Misplaced}
use Rattle.tags.specs.Bytes.{letter, name_byte, white, mark}

-- what a byte does in each state. No state but the first takes a mark, which begins the next stretch: it is refused as the stretch's end is
abbrev pub next : State → ℕ → State × Step
next Before b = cond (mark b) (Opened, On) (Before, Bad Misplaced)
next Opened b = cond (letter b) (Name, On) (cond (b == 47) (EndOpened, On) (Opened, Bad NoName))
next Name b = cond (name_byte b) (Name, On) (cond (white b) (Gap, On) (cond (b == 47) (Slashed, On) (cond (b == 62) (Name, Done Start) (Name, Bad Misplaced))))
next Gap b = cond (letter b) (Attribute, On) (cond (white b) (Gap, On) (cond (b == 47) (Slashed, On) (cond (b == 62) (Gap, Done Start) (Gap, Bad Misplaced))))
next Attribute b = cond (name_byte b) (Attribute, On) (cond (white b) (AttributeGap, On) (cond (b == 61) (Equals, On) (Attribute, Bad NoEquals)))
next AttributeGap b = cond (white b) (AttributeGap, On) (cond (b == 61) (Equals, On) (AttributeGap, Bad NoEquals))
next Equals b = cond (white b) (Equals, On) (cond (b == 34) (InDouble, On) (cond (b == 39) (InSingle, On) (Equals, Bad NoQuote)))
next InDouble b = cond (b == 34) (AfterValue, On) (cond (mark b) (InDouble, Bad NoQuote) (InDouble, On))
next InSingle b = cond (b == 39) (AfterValue, On) (cond (mark b) (InSingle, Bad NoQuote) (InSingle, On))
next AfterValue b = cond (white b) (Gap, On) (cond (b == 47) (Slashed, On) (cond (b == 62) (AfterValue, Done Start) (AfterValue, Bad Misplaced)))
next Slashed b = cond (b == 62) (Slashed, Done Empty) (Slashed, Bad Misplaced)
next EndOpened b = cond (letter b) (EndName, On) (EndOpened, Bad NoName)
next EndName b = cond (name_byte b) (EndName, On) (cond (white b) (EndGap, On) (cond (b == 62) (EndName, Done End) (EndName, Bad Misplaced)))
next EndGap b = cond (white b) (EndGap, On) (cond (b == 62) (EndGap, Done End) (EndGap, Bad Misplaced))

-- the bytes from one place up to another leave the reader in its state
abbrev pub Stays : State → List ℕ → ℕ → ℕ → Type 0
Stays s bytes from to = (k : ℕ) → from ≤ k → k < to → ◌≡◌ {A = State × Step} (next s (slice_index bytes k)) (s, On)

-- the byte that led here belongs to the tag's name
abbrev pub in_name : State → Bool
in_name Before = false
in_name Opened = false
in_name Name = true
in_name Gap = false
in_name Attribute = false
in_name AttributeGap = false
in_name Equals = false
in_name InDouble = false
in_name InSingle = false
in_name AfterValue = false
in_name Slashed = false
in_name EndOpened = false
in_name EndName = true
in_name EndGap = false

-- the cause where the stretch ends in a state
abbrev pub cause_at_end : State → Cause
cause_at_end Before = Misplaced
cause_at_end Opened = NoName
cause_at_end Name = Misplaced
cause_at_end Gap = Misplaced
cause_at_end Attribute = NoEquals
cause_at_end AttributeGap = NoEquals
cause_at_end Equals = NoQuote
cause_at_end InDouble = NoQuote
cause_at_end InSingle = NoQuote
cause_at_end AfterValue = Misplaced
cause_at_end Slashed = Misplaced
cause_at_end EndOpened = NoName
cause_at_end EndName = Misplaced
cause_at_end EndGap = Misplaced
