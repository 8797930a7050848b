-- One turn of the loops that read a place and a line of places.
use Rattle.std.proofs.Common.{◌≡◌, ℕ, suc, ◌+◌, ◌-◌, ◌*◌, ◌<◌, ◌≤◌, Bool, true, false, cond, ◌&&◌, eqb, leb, ◌⊎◌, List, [], ◌∷◌, ◌++◌, map, length, get_or, take, drop, Some, None, Option, sym, refl, ap, ◌∙◌, append_assoc, append-nil, inl, inr, ⊎_elim, subst, arith}
use Rattle.std.proofs.lemmas.List.{at_drop_more, at_drop_all}
use Rattle.std.proofs.lemmas.Bool.{lt-leb, le-leb, and_right, false≢true}
use Rattle.std.proofs.lemmas.Bool.Decides.{nat_tests}
use Rattle.std.specs.Char.{is_ascii_digit}
use Rattle.std.specs.Iterator.{AlwaysYields}
use Rattle.std.specs.List.{onto_first}
use Rattle.request.specs.Lines.{ahead}
use Rattle.request.specs.Places.{words, digit, digits, value_after, value, limit, place_from, is_place, are_places, rising, cuts_of}

-- the place that the bytes ds write after the number n
abbrev pub read_on : ℕ → List ℕ → Option ℕ
read_on n ds = cond (digits ds && leb (value_after n ds) limit) (Some (value_after n ds)) None

value_grows : (n : ℕ) (ds : List ℕ) → n ≤ value_after n ds
value_grows n [] = omega arith
value_grows n (d ∷ ds) = omega (arith, value_grows (n * 10 + (d - 48)) ds)

pub read_above : (n : ℕ) (ds : List ℕ) → limit < n → read_on n ds ≡ None
read_above n ds h =
    let t : leb (value_after n ds) limit ≡ false = lt-leb (value_after n ds) limit (omega (arith, value_grows n ds)) in
    ap (λ b. cond b (Some (value_after n ds)) None) (and_right (digits ds) (leb (value_after n ds) limit) t)

module _ (n : ℕ) (word : List ℕ) (i : ℕ) (h : i < length word) where
  more : read_on n (drop i word) ≡ cond ((digit (get_or word i 0) && digits (drop (i + 1) word)) && leb (value_after (n * 10 + (get_or word i 0 - 48)) (drop (i + 1) word)) limit) (Some (value_after (n * 10 + (get_or word i 0 - 48)) (drop (i + 1) word))) None
  more = at_drop_more (read_on n) word i 0 h

  abbrev after : Bool → Option ℕ
  after t = cond ((t && digits (drop (i + 1) word)) && leb (value_after (n * 10 + (get_or word i 0 - 48)) (drop (i + 1) word)) limit) (Some (value_after (n * 10 + (get_or word i 0 - 48)) (drop (i + 1) word))) None

  pub read-digit : is_ascii_digit (get_or word i 0) ≡ true → read_on n (drop i word) ≡ read_on (n * 10 + (get_or word i 0 - 48)) (drop (i + 1) word)
  read-digit t = more ∙ ap after t

  pub read-other : is_ascii_digit (get_or word i 0) ≡ false → read_on n (drop i word) ≡ None
  read-other t = more ∙ ap after t

pub read_end : (n : ℕ) (word : List ℕ) (i : ℕ) → length word ≤ i → n ≤ limit → read_on n (drop i word) ≡ Some n
read_end n word i h low = at_drop_all (read_on n) word i h ∙ ap (λ t. cond t (Some n) None) (le-leb n limit low)

-- the words ws, after places that were read already
abbrev pub follow : List ℕ → ℕ → List (List ℕ) → Option (List ℕ)
follow done least ws = cond (are_places ws && rising least (map value ws)) (Some (done ++ map value ws)) None

pub follow_end : (done : List ℕ) (least : ℕ) → follow done least [] ≡ Some done
follow_end done least = ap (λ l. Some l) (append-nil done)

module _ (done : List ℕ) (least : ℕ) (w : List ℕ) (ws : List (List ℕ)) where
  pub follow-none : place_from least w ≡ None → follow done least (w ∷ ws) ≡ None
  follow-none e = grind (arith, nat_tests)

  pub follow-more : (p : ℕ) → place_from least w ≡ Some p → follow done least (w ∷ ws) ≡ follow (done ++ p ∷ []) (p + 1) ws
  follow-more p e = grind (arith, nat_tests, append_assoc done (p ∷ []) (map value ws))

a_place : (least : ℕ) (w : List ℕ) (p : ℕ) → place_from least w ≡ Some p → is_place w ≡ true
a_place least w p e = grind arith

-- the first word ends at the first space
pub first-word : (xs : List ℕ) → (ws : List (List ℕ)) × (words xs ≡ take (ahead 32 xs) xs ∷ ws)
first-word [] = ([], refl)
first-word (x ∷ xs) =
    let r = first-word xs in
    elim (eqb x 32) as (λ t. (ws : List (List ℕ)) × (cond t ([] ∷ words xs) (onto_first x (words xs)) ≡ take (cond t 0 (suc (ahead 32 xs))) (x ∷ xs) ∷ ws))
    [ true ↦ (words xs, refl) | false ↦ (r.0, ap (onto_first x) r.1) ]

-- the words that an iterator has left, after those whose places are kept
pub record WordsLeft {S A : Type 0} (steps : S → Option A → S → Type 0) (v : A → List ℕ) (line : List ℕ) (s : S) (done : List ℕ) (least : ℕ) : Type 0 where
  pub left : List (List ℕ)
  pub given : AlwaysYields steps v s left
  pub cuts : cuts_of line ≡ follow done least left
  pub first : (left ≡ words line) ⊎ (is_place (take (ahead 32 line) line) ≡ true)

module _ {S A : Type 0} {steps : S → Option A → S → Type 0} {v : A → List ℕ} {line : List ℕ} {s : S} {done : List ℕ} where
  pub all-left : AlwaysYields steps v s (words line) → done ≡ [] → eqb (length line) 0 ≡ false → WordsLeft steps v line s done 0
  all-left h e some = record { left = words line; given = h; cuts = begun line some; first = inl refl } where
    begun : (l : List ℕ) → eqb (length l) 0 ≡ false → cuts_of l ≡ follow done 0 (words l)
    begun [] h = absurd (false≢true (sym h))
    begun (b ∷ bs) h = ap (λ d. follow d 0 (words (b ∷ bs))) (sym e)

  module _ {least : ℕ} (w : WordsLeft steps v line s done least) (t : S) where
    pub none_left : steps s None t → Some done ≡ cuts_of line
    none_left k = ended w.left w.given w.cuts where
      ended : (ws : List (List ℕ)) → AlwaysYields steps v s ws → cuts_of line ≡ follow done least ws → Some done ≡ cuts_of line
      ended [] h e = sym (e ∙ follow_end done least)
      ended (x ∷ ws) h e = absurd (h.0 t k)

    module _ (x : A) (k : steps s (Some x) t) where
      next : (rest : List (List ℕ)) × (w.left ≡ v x ∷ rest) × AlwaysYields steps v t rest
      next = taken w.left w.given where
        taken : (ws : List (List ℕ)) → AlwaysYields steps v s ws → (rest : List (List ℕ)) × (ws ≡ v x ∷ rest) × AlwaysYields steps v t rest
        taken [] h = absurd (h x t k)
        taken (y ∷ ws) h = let m = h.1 x t k in (ws, ap (λ l. l ∷ ws) (sym m.0), m.1)

      pub no_place : place_from least (v x) ≡ None → cuts_of line ≡ None
      no_place e = w.cuts ∙ ap (follow done least) next.1 ∙ follow-none done least (v x) next.0 e

      module _ {p : ℕ} (e : Some p ≡ place_from least (v x)) where
        pub first_place : is_place (take (ahead 32 line) line) ≡ true
        first_place = ⊎_elim
            (λ (all : w.left ≡ words line). let same : v x ≡ take (ahead 32 line) line = let a = next.1 in let b = (first-word line).1 in cc in subst (λ l. is_place l ≡ true) same (a_place least (v x) p (sym e)))
            (λ known. known) w.first

        pub words_left : {now : List ℕ} → now ≡ done ++ p ∷ [] → WordsLeft steps v line t now (p + 1)
        words_left {now} same = record {
          left = next.0;
          given = next.2;
          cuts = w.cuts ∙ ap (follow done least) next.1 ∙ follow-more done least (v x) next.0 p (sym e) ∙ ap (λ d. follow d (p + 1) next.0) (sym same);
          first = inr first_place;
        }
