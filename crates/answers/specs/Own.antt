-- The file's own answer: its tags are taken in order, with a list of the elements that are open.
use Rattle.std.specs.Prelude.{ℕ, ◌+◌, Bool, true, false, cond, List, [], ◌∷◌, ◌++◌, map, length, Ok, Err, Result}
use Rattle.std.specs.Str.{bytes_eq}
use Rattle.tags.specs.declared.tag.TagKind.{TagKind}
use Rattle.tags.specs.declared.tag.TagKind.TheVariants.{Start, Empty, End}
use Rattle.tags.specs.declared.tag.TagFault.{TagFault}
use Rattle.tags.specs.Marks.{marks}
use Rattle.tags.specs.Reads.{tag_at}
use Rattle.rows.specs.Stretches.{pairs}
use Rattle.answers.specs.declared.fault.Fault.{Fault}
use Rattle.answers.specs.declared.fault.Fault.TheVariants.{BadTag, Mismatch, Stray, Unclosed}
use Rattle.answers.specs.declared.matches.Match.{Match}

-- the stretches of a whole file: from each mark to the next, and from the last one to the file's end
abbrev pub file_stretches : List ℕ → List (ℕ × ℕ)
file_stretches file = pairs (marks file 0 ++ length file ∷ [])

-- what stands at a mark: a tag's kind and name, or the fault of a bad tag
abbrev pub Seen : Type 0
Seen = ℕ × Result (TagKind × List ℕ) TagFault

abbrev pub seen_at : List ℕ → ℕ × ℕ → Seen
seen_at file s = (s.0, tag_at file s.0 s.1)

abbrev pub file_tags : List ℕ → List Seen
file_tags file = map (seen_at file) (file_stretches file)

-- an element that is open
pub record Opened : Type 0 where
  pub place : ℕ
  pub name : List ℕ

-- the names of the open elements from the outermost down; the last one opened stands first in the list
abbrev pub path : List Opened → List (List ℕ)
path [] = []
path (o ∷ os) = path os ++ (o.name ∷ [])

-- an element of the file: the place of its start tag or empty tag, and its path
pub record Element : Type 0 where
  pub place : ℕ
  pub path : List (List ℕ)

abbrev pub with_element : ℕ → List (List ℕ) → Result (List Element) Fault → Result (List Element) Fault
with_element p ns (Ok es) = Ok (record { place = p; path = ns } ∷ es)
with_element p ns (Err f) = Err f

-- the elements of the tags that follow where os are open, or the first fault
abbrev pub elements_from : List Opened → List Seen → Result (List Element) Fault
elements_from [] [] = Ok []
elements_from (o ∷ os) [] = Err (Unclosed o.place)
elements_from os (t ∷ ts) = elim t.1 [
  | Err e ↦ Err (BadTag e)
  | Ok x ↦ elim x.0 [
    | Start ↦ with_element t.0 (path os ++ (x.1 ∷ [])) (elements_from (record { place = t.0; name = x.1 } ∷ os) ts)
    | Empty ↦ with_element t.0 (path os ++ (x.1 ∷ [])) (elements_from os ts)
    | End ↦ elim os [
      | [] ↦ Err (Stray t.0)
      | o ∷ rest ↦ elim (bytes_eq o.name x.1) [ true ↦ elements_from rest ts | false ↦ Err (Mismatch t.0) ]
    ]
  ]
]

abbrev pub elements : List ℕ → Result (List Element) Fault
elements file = elements_from [] (file_tags file)

-- a set of queries as matches at a place, lower queries first; the set's first query is q
abbrev pub matches_at : ℕ → ℕ → List Bool → List Match
matches_at p q [] = []
matches_at p q (b ∷ bs) = cond b (record { place = p; query = q } ∷ matches_at p (q + 1) bs) (matches_at p (q + 1) bs)

-- the matches of elements in their order, by the verdict on each path
abbrev pub matches : (List (List ℕ) → List Bool) → List Element → List Match
matches verdict [] = []
matches verdict (e ∷ es) = matches_at e.place 0 (verdict e.path) ++ matches verdict es

abbrev pub judged : (List (List ℕ) → List Bool) → Result (List Element) Fault → Result (List Match) Fault
judged verdict (Ok es) = Ok (matches verdict es)
judged verdict (Err f) = Err f

-- the file's own answer, by a verdict on paths
abbrev pub own : (List (List ℕ) → List Bool) → List ℕ → Result (List Match) Fault
own verdict file = judged verdict (elements file)
