-- Why a file may be read in pieces: the laws of contents, for any machine.
use Rattle.std.specs.Prelude.{◌≡◌, ℕ, ◌≤◌, Bool, List, [], ◌∷◌, ◌++◌, map, length}
use Rattle.tags.specs.Marks.{marks_of, scanned, last_or}
use Rattle.machine.specs.Model.{Model}
use Rattle.rows.specs.Pieces.{Entry, Content}
use Rattle.rows.specs.Stretches.{pairs, content, joined_ends, joined_at, last_put}
use Rattle.rows.specs.Places.{stored}
use Rattle.answers.specs.Own.{own}
use Rattle.answers.specs.Finish.{finish}

-- the stretch between two neighbours: from the last mark of one to the first of the other
abbrev pub between_marks : List ℕ → List ℕ → List (ℕ × ℕ)
between_marks [] ls = []
between_marks (k ∷ ks) [] = []
between_marks (k ∷ ks) (l ∷ ls) = (last_or k ks, l) ∷ []

-- the stretches of a part cut in two are those of the left, the one between, and those of the right
abbrev pub Stretched : Type 0
Stretched = (file : List ℕ) (a i b : ℕ) → a ≤ i → i ≤ b → b ≤ length file →
    pairs (marks_of file a b) ≡ pairs (marks_of file a i) ++ (between_marks (marks_of file a i) (marks_of file i b) ++ pairs (marks_of file i b))

-- a part of the file cut in two at i: its marks and its content are those of the two, joined.
-- Of the marks, only the first, the last and their number are looked at
pub record Joined {A P : Type 0} (m : Model A P) (file : List ℕ) (a i b : ℕ) : Type 0 where
  pub marks : scanned file a b ≡ joined_ends (scanned file a i) (scanned file i b)
  pub contents : content file m a b ≡ joined_at file m (scanned file a i) (scanned file i b) (content file m a i) (content file m i b)

abbrev pub Join : {A P : Type 0} → Model A P → Type 0
Join m = (file : List ℕ) (a i b : ℕ) → a ≤ i → i ≤ b → b ≤ length file → Joined m file a i b

-- a way to cut the bytes from a to b into pieces, and to join these two at a time
pub data Cut : ℕ → ℕ → Type 0 where
  piece : (a b : ℕ) → a ≤ b → Cut a b
  two : (a i b : ℕ) → Cut a i → Cut i b → Cut a b

-- the marks of a piece, read or joined
abbrev pub cut_marks : List ℕ → {a b : ℕ} → Cut a b → ℕ × ℕ × ℕ
cut_marks file (piece a b h) = scanned file a b
cut_marks file (two a i b s t) = joined_ends (cut_marks file s) (cut_marks file t)

-- its content: each piece is read by itself, and then all are joined
abbrev pub cut_content : {A P : Type 0} → List ℕ → Model A P → {a b : ℕ} → Cut a b → Content A
cut_content file m (piece a b h) = content file m a b
cut_content file m (two a i b s t) = joined_at file m (cut_marks file s) (cut_marks file t) (cut_content file m s) (cut_content file m t)

-- however the bytes are cut, and in whatever order the pieces are joined, the marks and the content are those of one read
pub record Uncut {A P : Type 0} (m : Model A P) (file : List ℕ) (a b : ℕ) (t : Cut a b) : Type 0 where
  pub marks : cut_marks file t ≡ scanned file a b
  pub contents : cut_content file m t ≡ content file m a b

abbrev pub AnyCut : {A P : Type 0} → Model A P → Type 0
AnyCut m = (file : List ℕ) (a b : ℕ) (t : Cut a b) → b ≤ length file → Uncut m file a b t

-- the content of a whole file, finished, is the file's own answer by a verdict
abbrev pub WholeBy : {A P : Type 0} → Model A P → (List (List ℕ) → List Bool) → Type 0
WholeBy m verdict = (file : List ℕ) → finish m (last_put file m (scanned file 0 (length file)) (content file m 0 (length file))) ≡ own verdict file

-- and so it is with the file cut and joined anyhow
abbrev pub AnyCutWholeBy : {A P : Type 0} → Model A P → (List (List ℕ) → List Bool) → Type 0
AnyCutWholeBy m verdict = (file : List ℕ) (t : Cut 0 (length file)) → finish m (last_put file m (cut_marks file t) (cut_content file m t)) ≡ own verdict file

-- by the machine's own verdict
abbrev pub Whole : {A P : Type 0} → Model A P → Type 0
Whole m = WholeBy m m.verdict

abbrev pub AnyCutWhole : {A P : Type 0} → Model A P → Type 0
AnyCutWhole m = AnyCutWholeBy m m.verdict

-- a content with each action in its plain form
abbrev pub plain_entry : {A P : Type 0} → Model A P → Entry A → Entry P
plain_entry m e = record { row = e.row; act = m.plain e.act }

abbrev pub plain_content : {A P : Type 0} → Model A P → Content A → Content P
plain_content m c = record { rows = map (plain_entry m) c.rows; fault = c.fault }

-- all this holds as well where the machine works on plain forms, as lists keep them
pub record Stored {A P : Type 0} (m : Model A P) : Type 0 where
  pub contents : (file : List ℕ) (a b : ℕ) → content file (stored m) a b ≡ plain_content m (content file m a b)
  pub join : Join (stored m)
  pub cuts : AnyCut (stored m)
  pub whole : WholeBy (stored m) m.verdict
  pub cuts_whole : AnyCutWholeBy (stored m) m.verdict
