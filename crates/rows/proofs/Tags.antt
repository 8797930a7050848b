-- A tag's name fits between its mark and its end, so that its row keeps the row rule.
use Rattle.std.proofs.Common.{◌≡◌, ℕ, ◌+◌, ◌-◌, ◌≤◌, Bool, true, false, cond, List, [], ◌∷◌, ◌++◌, length, Ok, Err, Result, sym, refl, ap, ◌∙◌, subst, arith}
use Rattle.std.proofs.lemmas.List.{length-append, length-take, length-drop}
use Rattle.tags.specs.declared.reader.State.{State}
use Rattle.tags.specs.declared.reader.State.TheVariants.{Before, Opened}
use Rattle.tags.specs.declared.reader.Step.{Step}
use Rattle.tags.specs.declared.reader.Step.TheVariants.{On, Done, Bad}
use Rattle.tags.specs.declared.tag.TagKind.{TagKind}
use Rattle.tags.specs.declared.tag.TagKind.TheVariants.{Start, Empty, End}
use Rattle.tags.specs.declared.tag.TagFault.{TagFault}
use Rattle.tags.specs.declared.tag.Cause.TheVariants.{Misplaced}
use Rattle.tags.specs.Bytes.{mark}
use Rattle.tags.specs.Marks.{part}
use Rattle.tags.specs.Steps.{next, in_name}
use Rattle.machine.specs.Model.{Model}
use Rattle.rows.specs.declared.row.Row.{Row}
use Rattle.rows.specs.Pieces.{Inside}
use Rattle.rows.specs.Stretches.{row_of, action_of, lone, made, one}
use Rattle.rows.specs.Places.{stored}
use Rattle.tags.specs.Reads.{Outcome, tag, fault, reads, read_tag, placed, tag_at}

-- a name leaves at least so many of the bytes for the rest of its tag
abbrev Fits : ℕ → ℕ → Outcome → Type 0
Fits rest bytes (tag k n) = length n + rest ≤ bytes
Fits rest bytes (fault c i) = Unit {0}

abbrev goes : ℕ → List ℕ → ℕ → List ℕ → State → Step → Outcome
goes at name b bs s On = reads s (at + 1) (cond (in_name s) (name ++ b ∷ []) name) bs
goes at name b bs s (Done k) = tag k name
goes at name b bs s (Bad c) = fault c at

named : (t : Bool) (name : List ℕ) (b : ℕ) → length (cond t (name ++ b ∷ []) name) ≤ length name + 1
named true name b = simp length-append (omega arith)
named false name b = omega arith

wider : (rest a b : ℕ) (o : Outcome) → a ≤ b → Fits rest a o → Fits rest b o
wider rest a b (tag k n) h f = omega arith
wider rest a b (fault c i) h f = tt

fits-step : (at : ℕ) (name : List ℕ) (b : ℕ) (bs : List ℕ) (s : State) (w : Step) → ((name' : List ℕ) → Fits 1 (length name' + length bs) (reads s (at + 1) name' bs)) → Fits 1 (length name + length (b ∷ bs)) (goes at name b bs s w)
fits-step at name b bs s On more =
    wider 1 (length (cond (in_name s) (name ++ b ∷ []) name) + length bs) (length name + length (b ∷ bs)) (reads s (at + 1) (cond (in_name s) (name ++ b ∷ []) name) bs)
    (let h = named (in_name s) name b in omega arith)
    (more (cond (in_name s) (name ++ b ∷ []) name))
fits-step at name b bs s (Done k) more = omega arith
fits-step at name b bs s (Bad c) more = tt

fits : (s : State) (at : ℕ) (name bs : List ℕ) → Fits 1 (length name + length bs) (reads s at name bs)
fits s at name [] = tt
fits s at name (b ∷ bs) = fits-step at name b bs (next s b).0 (next s b).1 (λ name'. fits (next s b).0 (at + 1) name' bs)

longer : (a b : ℕ) (o : Outcome) → a + 1 ≤ b → Fits 1 a o → Fits 2 b o
longer a b (tag k n) h f = omega arith
longer a b (fault c i) h f = tt

-- the mark is not of the name
abbrev first : Bool → State × Step
first t = cond t (Opened, On) (Before, Bad Misplaced)

fits-first : (t : Bool) (b : ℕ) (bs : List ℕ) → Fits 2 (length (b ∷ bs)) (goes 0 [] b bs (first t).0 (first t).1)
fits-first true b bs = longer (length {A = ℕ} [] + length bs) (length (b ∷ bs)) (reads Opened (0 + 1) [] bs) (omega arith) (fits Opened (0 + 1) [] bs)
fits-first false b bs = tt

fits-tag : (bs : List ℕ) → Fits 2 (length bs) (read_tag bs)
fits-tag [] = tt
fits-tag (b ∷ bs) = fits-first (mark b) b bs

-- the same of a tag in a file
abbrev pub Within : List ℕ → ℕ → Result (TagKind × List ℕ) TagFault → Type 0
Within file mark (Ok t) = mark + length t.1 + 2 ≤ length file
Within file mark (Err e) = Unit {0}

within : (file : List ℕ) (mark bytes : ℕ) (o : Outcome) → bytes ≤ length file - mark → Fits 2 bytes o → Within file mark (placed mark o)
within file mark bytes (tag k n) h f = omega arith
within file mark bytes (fault c i) h f = tt

pub tag-within : (file : List ℕ) (mark to : ℕ) → Within file mark (tag_at file mark to)
tag-within file mark to =
    within file mark (length (part file mark to)) (read_tag (part file mark to)) (simp (length-take, length-drop) (omega arith)) (fits-tag (part file mark to))

-- the row of a good tag keeps the row rule
pub tag-inside : (file : List ℕ) (mark to : ℕ) (k : TagKind) (n : List ℕ) → ◌≡◌ {A = Result (TagKind × List ℕ) TagFault} (Ok (k, n)) (tag_at file mark to) → Inside file (row_of mark k n)
tag-inside file mark to k n h = subst (Within file mark) (sym h) (tag-within file mark to)

stored-own : {A P : Type 0} (m : Model A P) (k : TagKind) (n : List ℕ) → action_of (stored m) k n ≡ m.plain (action_of m k n)
unfolding stored
stored-own m Start n = refl
stored-own m Empty n = refl
stored-own m End n = refl

pub tag-made : {A P : Type 0} (m : Model A P) (file : List ℕ) (mark to : ℕ) (k : TagKind) (n : List ℕ) (r : Row) (p : P) → ◌≡◌ {A = Result (TagKind × List ℕ) TagFault} (Ok (k, n)) (tag_at file mark to) → r ≡ row_of mark k n → p ≡ m.plain (action_of m k n) →
    lone r p ≡ one file (stored m) (mark, to)
tag-made m file mark to k n r p h e q = ap (λ x. lone x p) e ∙ ap (lone (row_of mark k n)) (q ∙ sym (stored-own m k n)) ∙ ap (made (stored m) mark) h
