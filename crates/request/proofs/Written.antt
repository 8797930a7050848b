-- Reading an input gives back what it was written from.
use Rattle.std.proofs.Common.{◌≡◌, ℕ, suc, ◌+◌, ◌-◌, ◌<◌, ◌≤◌, Bool, true, false, cond, ◌&&◌, eqb, ltb, leb, ◌⊎◌, List, [], ◌∷◌, ◌++◌, map, length, get_or, take, drop, Some, None, sym, refl, ap, ◌∙◌, subst, inl, inr, ⊎_elim, append_assoc, append-nil, zero-add, add-one, arith, length-append}
use lib.Seq.{take-append_seam}
use Rattle.std.specs.List.{AllByRecursion, onto_first}
use Rattle.std.proofs.lemmas.List.{take_all, drop_all}
use Rattle.std.proofs.ByRecursion.{All-get_or}
use Rattle.std.proofs.lemmas.Bool.{eq-eqb, ne_eqb, cases_eq, le-ltb, lt-ltb, and_from, and_parts, and_left, and_right, leb-true, le-leb, false≢true}
use Rattle.request.specs.Lines.{ahead, first_line, other_lines, ahead_of_blank, blank_line, lines_ahead, after_blank}
use Rattle.request.specs.Places.{words, digit, digits, some, value, limit, is_place, are_places, rising, cuts_of}
use Rattle.request.specs.Asked.{judged, request}
use Rattle.request.proofs.Placing.{first-word}
use Rattle.request.specs.Forms.{Line, QueryLine, ended, parted_on, parted, Body, filed, unfiled, unended, Written, alone, whole, PlaceWord, Rising, RisingAfter, CutLine, Way, ReadsBack}

-- the first line

line_ahead : (l rest : List ℕ) → Line l → ahead 10 (l ++ (10 ∷ rest)) ≡ length l
line_ahead [] rest h = refl
line_ahead (b ∷ l) rest h = ap (λ t. cond t 0 (suc (ahead 10 (l ++ (10 ∷ rest))))) (ne_eqb b 10 h.0) ∙ ap suc (line_ahead l rest h.1)

all_ahead : (l : List ℕ) → Line l → ahead 10 l ≡ length l
all_ahead [] h = refl
all_ahead (b ∷ l) h = ap (λ t. cond t 0 (suc (ahead 10 l))) (ne_eqb b 10 h.0) ∙ ap suc (all_ahead l h.1)

past_front : (xs : List ℕ) (y : ℕ) (ys : List ℕ) → drop (suc (length xs)) (xs ++ (y ∷ ys)) ≡ ys
past_front [] y ys = refl
past_front (x ∷ xs) y ys = past_front xs y ys

drop-front : (xs : List ℕ) (y : ℕ) (ys : List ℕ) → drop (length xs + 1) (xs ++ (y ∷ ys)) ≡ ys
drop-front xs y ys = rw add-one (past_front xs y ys)

-- the empty line

-- inside a line, up to its byte 10
line_on : (l rest : List ℕ) → Line l → ahead_of_blank false (l ++ (10 ∷ rest)) ≡ length l + suc (blank_line rest)
line_on [] rest h = sym (zero-add (suc (blank_line rest)))
line_on (b ∷ l) rest h =
    let e = ap (λ t. suc (ahead_of_blank t (l ++ (10 ∷ rest)))) (ne_eqb b 10 h.0) ∙ ap suc (line_on l rest h.1) in
    omega (arith, e)

-- past a line that is not empty
past_line : (l rest : List ℕ) → QueryLine l → blank_line (l ++ (10 ∷ rest)) ≡ length l + suc (blank_line rest)
past_line [] rest h = absurd (omega (arith, h.0))
past_line (b ∷ l) rest h =
    let n = ne_eqb b 10 h.1.0 in
    let e : blank_line ((b ∷ l) ++ (10 ∷ rest)) ≡ suc (ahead_of_blank false (l ++ (10 ∷ rest))) = ap (λ t. cond t 0 (suc (ahead_of_blank t (l ++ (10 ∷ rest))))) n in
    let f = line_on l rest h.1.1 in
    omega (arith, e, f)

-- a last line, with no byte 10
within-last : (l : List ℕ) → Line l → ahead_of_blank false l ≡ length l
within-last [] h = refl
within-last (b ∷ l) h = ap (λ t. suc (ahead_of_blank t l)) (ne_eqb b 10 h.0) ∙ ap suc (within-last l h.1)

last_line : (l : List ℕ) → QueryLine l → blank_line l ≡ length l
last_line [] h = refl
last_line (b ∷ l) h = ap (λ t. cond t 0 (suc (ahead_of_blank t l))) (ne_eqb b 10 h.1.0) ∙ ap suc (within-last l h.1.1)

-- past lines with their bytes 10
past_ended : (ls : List (List ℕ)) (rest : List ℕ) → AllByRecursion QueryLine ls → blank_line (ended ls ++ rest) ≡ length (ended ls) + blank_line rest
past_ended [] rest h = sym (zero-add (blank_line rest))
past_ended (l ∷ ls) rest h =
    let e = ap blank_line (append_assoc l (10 ∷ ended ls) rest) ∙ past_line l (ended ls ++ rest) h.0 in
    let f = past_ended ls rest h.1 in
    let n = length-append l (10 ∷ ended ls) in
    omega (arith, e, f, n)

-- lines parted by byte 10 are all ahead
past_parted : (l : List ℕ) (ls : List (List ℕ)) → QueryLine l → AllByRecursion QueryLine ls → blank_line (parted_on 10 l ls) ≡ length (parted_on 10 l ls)
past_parted l [] h hs = last_line l h
past_parted l (k ∷ ls) h hs =
    let e = past_line l (parted_on 10 k ls) h in
    let f = past_parted k ls hs.0 hs.1 in
    let n = length-append l (10 ∷ parted_on 10 k ls) in
    omega (arith, e, f, n)

-- the last byte

ended-parted : (l : List ℕ) (ls : List (List ℕ)) → ended (l ∷ ls) ≡ parted_on 10 l ls ++ (10 ∷ [])
ended-parted l [] = refl
ended-parted l (k ∷ ls) = ap (λ r. l ++ (10 ∷ r)) (ended-parted k ls) ∙ sym (append_assoc l (10 ∷ parted_on 10 k ls) (10 ∷ []))

get_or-front : (xs : List ℕ) (y : ℕ) (ys : List ℕ) → get_or (xs ++ (y ∷ ys)) (length xs) 0 ≡ y
get_or-front [] y ys = refl
get_or-front (x ∷ xs) y ys = get_or-front xs y ys

-- the query lines

last_of : (xs ys : List ℕ) → 0 < length ys → get_or (xs ++ ys) (length (xs ++ ys) - 1) 0 ≡ get_or ys (length ys - 1) 0
last_of [] ys h = refl
last_of (x ∷ xs) ys h =
    let n = length-append xs ys in
    let e : length (x ∷ (xs ++ ys)) - 1 ≡ suc (length (xs ++ ys) - 1) = omega arith in
    ap (λ k. get_or (x ∷ (xs ++ ys)) k 0) e ∙ last_of xs ys h

last_byte : (l : List ℕ) → QueryLine l → get_or l (length l - 1) 0 ≡ 10 → ⊥
last_byte l h = All-get_or (λ b. b ≡ 10 → ⊥) l (length l - 1) 0 (let z = h.0 in omega arith) h.1

parted-some : (l : List ℕ) (ls : List (List ℕ)) → QueryLine l → 0 < length (parted_on 10 l ls)
parted-some l [] h = h.0
parted-some l (k ∷ ls) h = let n = length-append l (10 ∷ parted_on 10 k ls) in let z = h.0 in omega arith

parted-last : (l : List ℕ) (ls : List (List ℕ)) → QueryLine l → AllByRecursion QueryLine ls → get_or (parted_on 10 l ls) (length (parted_on 10 l ls) - 1) 0 ≡ 10 → ⊥
parted-last l [] h hs e = last_byte l h e
parted-last l (k ∷ ls) h hs e =
    let low = parted-some k ls hs.0 in
    let f = last_of l (10 ∷ parted_on 10 k ls) (omega arith) in
    let g = last_of (10 ∷ []) (parted_on 10 k ls) low in
    parted-last k ls hs.0 hs.1 (sym g ∙ sym f ∙ e)

text_at : (bytes p rest : List ℕ) → bytes ≡ p ++ (10 ∷ rest) → blank_line bytes ≡ length p + 1 → lines_ahead bytes ≡ p
text_at bytes p rest e n =
    let k : blank_line bytes - 1 ≡ length p = omega arith in
    let last : get_or bytes (blank_line bytes - 1) 0 ≡ 10 = ap (λ i. get_or bytes i 0) k ∙ ap (λ l. get_or l (length p) 0) e ∙ get_or-front p 10 rest in
    let t : (ltb 0 (blank_line bytes) && eqb (get_or bytes (blank_line bytes - 1) 0) 10) ≡ true = and_from (ltb 0 (blank_line bytes)) (eqb (get_or bytes (blank_line bytes - 1) 0) 10) (lt-ltb 0 (blank_line bytes) (omega arith)) (eq-eqb (get_or bytes (blank_line bytes - 1) 0) 10 last) in
    ap (λ b. take (cond b (blank_line bytes - 1) (blank_line bytes)) bytes) t ∙ ap (λ i. take i bytes) k ∙ ap (take (length p)) e ∙ take-append_seam p (10 ∷ rest)

text_whole : (bytes : List ℕ) → blank_line bytes ≡ length bytes → (get_or bytes (length bytes - 1) 0 ≡ 10 → ⊥) → lines_ahead bytes ≡ bytes
text_whole bytes n last =
    let other : get_or bytes (blank_line bytes - 1) 0 ≡ 10 → ⊥ = λ e. last (ap (λ k. get_or bytes (k - 1) 0) (sym n) ∙ e) in
    let t = and_right (ltb 0 (blank_line bytes)) (eqb (get_or bytes (blank_line bytes - 1) 0) 10) (ne_eqb (get_or bytes (blank_line bytes - 1) 0) 10 other) in
    ap (λ b. take (cond b (blank_line bytes - 1) (blank_line bytes)) bytes) t ∙ take_all (blank_line bytes) bytes (omega arith)

text_none : (bytes : List ℕ) → blank_line bytes ≡ 0 → lines_ahead bytes ≡ []
text_none bytes n =
    let t = and_left (ltb 0 (blank_line bytes)) (eqb (get_or bytes (blank_line bytes - 1) 0) 10) (le-ltb 0 (blank_line bytes) (omega arith)) in
    ap (λ b. take (cond b (blank_line bytes - 1) (blank_line bytes)) bytes) t ∙ ap (λ k. take k bytes) n

-- the lines before an empty line, or before nothing
text_ended : (ls : List (List ℕ)) (rest : List ℕ) → AllByRecursion QueryLine ls → blank_line rest ≡ 0 → lines_ahead (ended ls ++ rest) ≡ parted 10 ls
text_ended [] rest h none = text_none rest none
text_ended (l ∷ ls) rest h none =
    let e : ended (l ∷ ls) ++ rest ≡ parted_on 10 l ls ++ (10 ∷ rest) = ap (λ x. x ++ rest) (ended-parted l ls) ∙ append_assoc (parted_on 10 l ls) (10 ∷ []) rest in
    let n = past_ended (l ∷ ls) rest h in
    let k = ap length (ended-parted l ls) ∙ length-append (parted_on 10 l ls) (10 ∷ []) in
    text_at (ended (l ∷ ls) ++ rest) (parted_on 10 l ls) rest e (omega (arith, n, k))

text_parted : (ls : List (List ℕ)) → AllByRecursion QueryLine ls → lines_ahead (parted 10 ls) ≡ parted 10 ls
text_parted [] h = refl
text_parted (l ∷ ls) h = text_whole (parted_on 10 l ls) (past_parted l ls h.0 h.1) (parted-last l ls h.0 h.1)

module _ (queries : List (List ℕ)) (h : AllByRecursion QueryLine queries) where
  text_of : (file bytes : List ℕ) → Body queries file bytes → lines_ahead bytes ≡ parted 10 queries
  text_of file bytes (filed {file = f}) = text_ended queries (10 ∷ f) h refl
  text_of file bytes unfiled = ap lines_ahead (sym (append-nil (ended queries))) ∙ text_ended queries [] h refl
  text_of file bytes unended = text_parted queries h

  none_left : (bytes : List ℕ) → blank_line bytes ≡ length bytes → after_blank bytes ≡ []
  none_left bytes n = drop_all (blank_line bytes + 1) bytes (omega arith)

  parted-ahead : (ls : List (List ℕ)) → AllByRecursion QueryLine ls → blank_line (parted 10 ls) ≡ length (parted 10 ls)
  parted-ahead [] hs = refl
  parted-ahead (l ∷ ls) hs = past_parted l ls hs.0 hs.1

  file-of : (file bytes : List ℕ) → Body queries file bytes → after_blank bytes ≡ file
  file-of file bytes (filed {file = f}) =
      let n : blank_line (ended queries ++ (10 ∷ f)) ≡ length (ended queries) = let e = past_ended queries (10 ∷ f) h in omega (arith, e) in
      ap (λ k. drop (k + 1) (ended queries ++ (10 ∷ f))) n ∙ drop-front (ended queries) 10 f
  file-of file bytes unfiled =
      let e = past_ended queries [] h in
      let f : blank_line (ended queries ++ []) ≡ blank_line (ended queries) = ap blank_line (append-nil (ended queries)) in
      none_left (ended queries) (omega (arith, e, f))
  file-of file bytes unended = none_left (parted 10 queries) (parted-ahead queries h)

told-input : (first : List ℕ) (queries : List (List ℕ)) (file input : List ℕ) → Line first → AllByRecursion QueryLine queries → Written first queries file input → request input ≡ judged (cuts_of first) (parted 10 queries) file
told-input first queries file input l h alone =
    let n = all_ahead first l in
    let line : first_line first ≡ first = take_all (ahead 10 first) first (omega (arith, n)) in
    let rest : other_lines first ≡ [] = drop_all (ahead 10 first + 1) first (omega (arith, n)) in
    ap (λ x. judged (cuts_of x) (lines_ahead (other_lines first)) (after_blank (other_lines first))) line ∙ ap (λ x. judged (cuts_of first) (lines_ahead x) (after_blank x)) rest
told-input first queries file input l h (whole {bytes = bytes} body) =
    let n = line_ahead first bytes l in
    let line : first_line (first ++ (10 ∷ bytes)) ≡ first = ap (λ k. take k (first ++ (10 ∷ bytes))) n ∙ take-append_seam first (10 ∷ bytes) in
    let rest : other_lines (first ++ (10 ∷ bytes)) ≡ bytes = ap (λ k. drop (k + 1) (first ++ (10 ∷ bytes))) n ∙ drop-front first 10 bytes in
    let text = text_of queries h file bytes body in
    let left = file-of queries h file bytes body in
    ap (λ x. judged (cuts_of x) (lines_ahead (other_lines (first ++ (10 ∷ bytes)))) (after_blank (other_lines (first ++ (10 ∷ bytes))))) line
    ∙ ap (λ x. judged (cuts_of first) (lines_ahead x) (after_blank x)) rest
    ∙ ap (λ x. judged (cuts_of first) x (after_blank bytes)) text
    ∙ ap (λ x. judged (cuts_of first) (parted 10 queries) x) left

-- every input is written in some way

record BodyWay (bytes : List ℕ) : Type 0 where
  queries : List (List ℕ)
  file : List ℕ
  lines : AllByRecursion QueryLine queries
  body : Body queries file bytes

-- a line is cut off at the end, or a byte 10 and a body follow it
record LineWay (bytes : List ℕ) : Type 0 where
  line : List ℕ
  ok : Line line
  rest : (bytes ≡ line) ⊎ ((more : List ℕ) × (bytes ≡ line ++ (10 ∷ more)) × BodyWay more)

abbrev begin-line : (b : ℕ) (bs : List ℕ) → (b ≡ 10 → ⊥) → LineWay bs → LineWay (b ∷ bs)
begin-line b bs n w = record {
  line = b ∷ w.line;
  ok = (n, w.ok);
  rest = ⊎_elim (λ e. inl (ap (λ l. b ∷ l) e)) (λ p. inr (p.0, ap (λ l. b ∷ l) p.1, p.2)) w.rest;
}

more-lines : (l : List ℕ) (queries : List (List ℕ)) (file bytes : List ℕ) → Body queries file bytes → Body (l ∷ queries) file (l ++ (10 ∷ bytes))
more-lines l queries file bytes (filed {file = f}) = subst (λ x. Body (l ∷ queries) f x) (append_assoc l (10 ∷ ended queries) (10 ∷ f)) filed
more-lines l queries file bytes unfiled = unfiled
more-lines l [] file bytes unended = unfiled
more-lines l (q ∷ qs) file bytes unended = unended

whole-line : (bytes : List ℕ) (w : LineWay bytes) → 0 < length w.line → BodyWay bytes
whole-line bytes w h = ⊎_elim
    (λ (e : bytes ≡ w.line). record { queries = w.line ∷ []; file = []; lines = ((h, w.ok), tt); body = subst (λ x. Body (w.line ∷ []) [] x) (sym e) unended })
    (λ (p : (more : List ℕ) × (bytes ≡ w.line ++ (10 ∷ more)) × BodyWay more). record {
      queries = w.line ∷ p.2.queries;
      file = p.2.file;
      lines = ((h, w.ok), p.2.lines);
      body = subst (λ x. Body (w.line ∷ p.2.queries) p.2.file x) (sym p.1) (more-lines w.line p.2.queries p.2.file p.0 p.2.body);
    })
    w.rest

ways : (bytes : List ℕ) → BodyWay bytes × LineWay bytes
ways [] = (record { queries = []; file = []; lines = tt; body = unfiled }, record { line = []; ok = tt; rest = inl refl })
ways (b ∷ bs) = ⊎_elim
    (λ (e : b ≡ 10). (
      record { queries = []; file = bs; lines = tt; body = subst (λ x. Body [] bs (x ∷ bs)) (sym e) filed },
      record { line = []; ok = tt; rest = inr (bs, ap (λ x. x ∷ bs) e, (ways bs).0) },
    ))
    (λ (n : b ≡ 10 → ⊥). let w = begin-line b bs n (ways bs).1 in (whole-line (b ∷ bs) w (omega arith), w))
    (cases_eq b 10)

way_of : (input : List ℕ) → LineWay input → Way input
way_of input w = ⊎_elim
    (λ (e : input ≡ w.line). record { first = w.line; queries = []; file = []; line = w.ok; lines = tt; written = subst (λ x. Written w.line [] [] x) (sym e) alone })
    (λ (p : (more : List ℕ) × (input ≡ w.line ++ (10 ∷ more)) × BodyWay more). record {
      first = w.line;
      queries = p.2.queries;
      file = p.2.file;
      line = w.ok;
      lines = p.2.lines;
      written = subst (λ x. Written w.line p.2.queries p.2.file x) (sym p.1) (whole p.2.body);
    })
    w.rest

-- the words of a line

parted-first : (b : ℕ) (w : List ℕ) (ws : List (List ℕ)) → parted_on 32 (b ∷ w) ws ≡ b ∷ parted_on 32 w ws
parted-first b w [] = refl
parted-first b w (k ∷ ws) = refl

parted-words : (bs : List ℕ) → parted 32 (words bs) ≡ bs
parted-words [] = refl
parted-words (b ∷ bs) =
    let first = take (ahead 32 bs) bs in
    let r = first-word bs in
    let rest : parted_on 32 first r.0 ≡ bs = ap (parted 32) (sym r.1) ∙ parted-words bs in
    ⊎_elim
    (λ (e : b ≡ 32). ap (λ t. parted 32 (cond t ([] ∷ words bs) (onto_first b (words bs)))) (eq-eqb b 32 e) ∙ ap (λ l. parted 32 ([] ∷ l)) r.1 ∙ ap (λ l. 32 ∷ l) rest ∙ ap (λ x. x ∷ bs) (sym e))
    (λ (n : b ≡ 32 → ⊥). ap (λ t. parted 32 (cond t ([] ∷ words bs) (onto_first b (words bs)))) (ne_eqb b 32 n) ∙ ap (λ l. parted 32 (onto_first b l)) r.1 ∙ parted-first b first r.0 ∙ ap (λ l. b ∷ l) rest)
    (cases_eq b 32)

-- a word of digits, after which the words ws come
with_word : (w : List ℕ) (ws : List (List ℕ)) → AllByRecursion (λ b. (48 ≤ b) × (b ≤ 57)) w → words (parted_on 32 [] ws) ≡ [] ∷ ws → words (parted_on 32 w ws) ≡ w ∷ ws
with_word [] ws h e = e
with_word (b ∷ w) ws h e =
    let n : b ≡ 32 → ⊥ = λ z. let low = h.0.0 in omega arith in
    ap words (parted-first b w ws)
    ∙ ap (λ t. cond t ([] ∷ words (parted_on 32 w ws)) (onto_first b (words (parted_on 32 w ws)))) (ne_eqb b 32 n)
    ∙ ap (onto_first b) (with_word w ws h.1 e)

no_word : (ws : List (List ℕ)) → AllByRecursion PlaceWord ws → words (parted_on 32 [] ws) ≡ [] ∷ ws
no_word [] h = refl
no_word (w ∷ ws) h = ap (λ l. [] ∷ l) (with_word w ws h.0.digits (no_word ws h.1))

-- places

all_digits : (w : List ℕ) → digits w ≡ true → AllByRecursion (λ b. (48 ≤ b) × (b ≤ 57)) w
all_digits [] h = tt
all_digits (b ∷ w) h =
    let p = and_parts (digit b) (digits w) h in
    let q = and_parts (leb 48 b) (leb b 57) p.0 in
    ((leb-true 48 b q.0, leb-true b 57 q.1), all_digits w p.1)

digits-all : (w : List ℕ) → AllByRecursion (λ b. (48 ≤ b) × (b ≤ 57)) w → digits w ≡ true
digits-all [] h = refl
digits-all (b ∷ w) h = and_from (digit b) (digits w) (and_from (leb 48 b) (leb b 57) (le-leb 48 b h.0.0) (le-leb b 57 h.0.1)) (digits-all w h.1)

not-empty : (w : List ℕ) → some w ≡ true → 0 < length w
not-empty [] h = absurd (false≢true h)
not-empty (b ∷ w) h = omega arith

some-from : (w : List ℕ) → 0 < length w → some w ≡ true
some-from [] h = absurd (omega arith)
some-from (b ∷ w) h = refl

place-word : (w : List ℕ) → is_place w ≡ true → PlaceWord w
place-word w h =
    let p = and_parts (some w) (digits w && leb (value w) limit) h in
    let q = and_parts (digits w) (leb (value w) limit) p.1 in
    record { some = not-empty w p.0; digits = all_digits w q.0; within = leb-true (value w) limit q.1 }

word_place : (w : List ℕ) → PlaceWord w → is_place w ≡ true
word_place w h = and_from (some w) (digits w && leb (value w) limit) (some-from w h.some) (and_from (digits w) (leb (value w) limit) (digits-all w h.digits) (le-leb (value w) limit h.within))

place-words : (ws : List (List ℕ)) → are_places ws ≡ true → AllByRecursion PlaceWord ws
place-words [] h = tt
place-words (w ∷ ws) h = let p = and_parts (is_place w) (are_places ws) h in (place-word w p.0, place-words ws p.1)

words-places : (ws : List (List ℕ)) → AllByRecursion PlaceWord ws → are_places ws ≡ true
words-places [] h = refl
words-places (w ∷ ws) h = and_from (is_place w) (are_places ws) (word_place w h.0) (words-places ws h.1)

rises_after : (n : ℕ) (ns : List ℕ) → rising (n + 1) ns ≡ true → RisingAfter n ns
rises_after n [] h = tt
rises_after n (m ∷ ns) h =
    let p = and_parts (leb (n + 1) m) (rising (m + 1) ns) h in
    let low = leb-true (n + 1) m p.0 in
    (omega arith, rises_after m ns p.1)

after_rises : (n : ℕ) (ns : List ℕ) → RisingAfter n ns → rising (n + 1) ns ≡ true
after_rises n [] h = refl
after_rises n (m ∷ ns) h = let low = h.0 in and_from (leb (n + 1) m) (rising (m + 1) ns) (le-leb (n + 1) m (omega arith)) (after_rises m ns h.1)

rises : (ns : List ℕ) → rising 0 ns ≡ true → Rising ns
rises [] h = tt
rises (n ∷ ns) h = rises_after n ns (and_parts (leb 0 n) (rising (n + 1) ns) h).1

rise_first : (ns : List ℕ) → Rising ns → rising 0 ns ≡ true
rise_first [] h = refl
rise_first (n ∷ ns) h = and_from (leb 0 n) (rising (n + 1) ns) (le-leb 0 n (omega arith)) (after_rises n ns h)

-- lines of cuts

abbrev checked : List (List ℕ) → Bool
checked ws = are_places ws && rising 0 (map value ws)

cut_words : (line cuts : List ℕ) (t : Bool) → checked (words line) ≡ t → cond t (Some (map value (words line))) None ≡ Some cuts → CutLine line cuts
cut_words line cuts true h e =
    let p = and_parts (are_places (words line)) (rising 0 (map value (words line))) h in
    let same : cuts ≡ map value (words line) = cc in
    record { words = words line; places = place-words (words line) p.0; is = sym (parted-words line); cut = same; rise = subst Rising (sym same) (rises (map value (words line)) p.1) }
cut_words line cuts false h e = cc

cut_line : (line cuts : List ℕ) → cuts_of line ≡ Some cuts → CutLine line cuts
cut_line [] cuts e =
    let none : cuts ≡ [] = cc in
    record { words = []; places = tt; is = refl; cut = none; rise = subst Rising (sym none) tt }
cut_line (b ∷ bs) cuts e = cut_words (b ∷ bs) cuts (checked (words (b ∷ bs))) refl e

some-parted : (w : List ℕ) (ws : List (List ℕ)) → PlaceWord w → some (parted_on 32 w ws) ≡ true
some-parted w [] h = some-from w h.some
some-parted w (k ∷ ws) h = let low = h.some in let n = length-append w (32 ∷ parted_on 32 k ws) in some-from (w ++ (32 ∷ parted_on 32 k ws)) (omega arith)

line_of_words : (ws : List (List ℕ)) → AllByRecursion PlaceWord ws → Rising (map value ws) → cuts_of (parted 32 ws) ≡ Some (map value ws)
line_of_words [] h r = refl
line_of_words (w ∷ ws) h r =
    let line = parted_on 32 w ws in
    let these : words line ≡ w ∷ ws = with_word w ws h.0.digits (no_word ws h.1) in
    let good : checked (w ∷ ws) ≡ true = and_from (are_places (w ∷ ws)) (rising 0 (map value (w ∷ ws))) (words-places (w ∷ ws) h) (rise_first (map value (w ∷ ws)) r) in
    ap (λ t. cond t (cond (checked (words line)) (Some (map value (words line))) None) (Some [])) (some-parted w ws h.0)
    ∙ ap (λ l. cond (checked l) (Some (map value l)) None) these
    ∙ ap (λ t. cond t (Some (map value (w ∷ ws))) None) good

line_cuts : (line cuts : List ℕ) → CutLine line cuts → cuts_of line ≡ Some cuts
line_cuts line cuts h = ap cuts_of h.is ∙ line_of_words h.words h.places (subst Rising h.cut h.rise) ∙ ap (λ l. Some l) (sym h.cut)

pub reads-back : ReadsBack
reads-back = record { every = λ input. way_of input (ways input).1; told = told-input; cuts = λ line cuts. (cut_line line cuts, line_cuts line cuts) }
