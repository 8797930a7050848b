-- What an input asks for: cut places, queries and a file, or why it is refused.
use Rattle.std.specs.Prelude.{◌≡◌, ℕ, true, cond, List, length, take, Some, None, Ok, Err, vec_items, Option, Result, Vec, nat_le}
use Rattle.std.specs.declared.alloc.Global.{Global}
use Rattle.request.specs.declared.refusal.InputRefusal.{InputRefusal}
use Rattle.request.specs.declared.refusal.InputRefusal.TheVariants.{BadCuts, LongFile}
use Rattle.request.specs.declared.stop.Stop.{Stop}
use Rattle.request.specs.declared.stop.Stop.TheVariants.{Refused, NoMemory}
use Rattle.machine.specs.declared.refusal.Refusal.{Refusal}
use Rattle.machine.specs.declared.refusal.Refusal.TheVariants.{FileTooLong, OutOfRange}
use Rattle.request.specs.Lines.{ahead, first_line, other_lines, lines_ahead, after_blank}
use Rattle.request.specs.Places.{limit, is_place, cuts_of}

abbrev pub number : InputRefusal → ℕ
number BadCuts = 9
number LongFile = 6

-- the question that an input is refused by: of a read's bytes, or of the file's length
abbrev pub as_refusal : InputRefusal → Refusal
as_refusal BadCuts = OutOfRange
as_refusal LongFile = FileTooLong

pub data Asked : Type 0 where
  refused : InputRefusal → Asked
  asked : List ℕ → List ℕ → List ℕ → Asked

-- the first line is looked at before the file's length
abbrev pub judged : Option (List ℕ) → List ℕ → List ℕ → Asked
judged None queries file = refused BadCuts
judged (Some cuts) queries file = cond (nat_le (length file) limit) (asked cuts queries file) (refused LongFile)

abbrev pub request : List ℕ → Asked
request input = judged (cuts_of (first_line input)) (lines_ahead (other_lines input)) (after_blank (other_lines input))

-- what came of reading a line of cut places; the want of memory says nothing of the line
abbrev pub LineSays : Result (Vec ℕ Global) (Stop InputRefusal) → Option (List ℕ) → Type 0
LineSays (Ok cuts) said = Some (vec_items cuts) ≡ said
LineSays (Err (Refused why)) said = (why ≡ BadCuts) × (said ≡ None)
LineSays (Err NoMemory) said = Unit {0}

-- memory is wanted only for a line whose first word is a place, which is to be kept
abbrev pub Wants : {X : Type 0} → Result X (Stop InputRefusal) → List ℕ → Type 0
Wants (Ok x) line = Unit {0}
Wants (Err (Refused why)) line = Unit {0}
Wants (Err NoMemory) line = is_place (take (ahead 32 line) line) ≡ true
