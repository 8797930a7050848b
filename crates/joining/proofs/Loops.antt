-- The steps of a loop that takes rows.
use Rattle.std.proofs.Common.{◌≡◌, ℕ, suc, ◌+◌, ◌≤◌, List, [], ◌∷◌, ◌++◌, length, take, drop, set, Some, None, Option, sym, refl, ap, ◌∙◌, subst, append_assoc, append-nil, arith}
use Rattle.std.proofs.lemmas.List.{drop_all, length-take-le}
use Rattle.rows.specs.declared.row.Row.{Row}
use Rattle.machine.specs.Model.{Model}
use Rattle.rows.specs.Pieces.{Entry, Inside, done, Taken, take_row, run}
use Rattle.rows.specs.Places.{paired, at, BaseAt, Based, state, entry, close_row}
use Rattle.rows.proofs.Pairs.{length-paired}
use Rattle.rows.proofs.Bases.{based_set, based_closed, names_set, names_closed}
use Rattle.joining.specs.Taking.{FirstInside}

-- what was taken so far, with more entries taken after
abbrev pub after : {P Q : Type 0} → List ℕ → Model P Q → Taken P → List (Entry P) → Taken P
after file m t es = elim t.stop [
  | Some p ↦ t
  | None ↦ let u = run file m t.left es in record { left = u.left; added = t.added ++ u.added; stop = u.stop }
]

-- a loop that takes entries: rs and ps hold n rows so far, the rows rest with the actions acts are to come, and it goes for all
pub record Running {P Q : Type 0} (file : List ℕ) (m : Model P Q) (left end : ℕ) (all : Taken P) (rs : List Row) (ps : List P) (n : ℕ) (base : Option ℕ) (rest : List Row) (acts : List P) : Type 0 where
  pub low : left ≤ n
  pub high : n + length rest ≤ end
  pub beside : length rest ≡ length acts
  pub based : Based rs left base
  pub names : FirstInside file rs left
  pub own : FirstInside file rest (length rest)
  pub so_far : after file m (state (paired rs ps) left n None) (paired rest acts) ≡ all

module _ {P Q : Type 0} (file : List ℕ) (m : Model P Q) where
  after-step : (t : Taken P) (e : Entry P) (es : List (Entry P)) → after file m (take_row file m t e) es ≡ after file m t (e ∷ es)
  after-step t e es = grind (arith, append_assoc, append-nil)

  after-stopped : (t : Taken P) (es : List (Entry P)) (p : ℕ) → t.stop ≡ Some p → after file m t es ≡ t
  after-stopped t es p h = grind arith

  after-none : (t : Taken P) → after file m t [] ≡ t
  after-none t = grind (arith, append-nil)

module _ {P Q : Type 0} {file : List ℕ} {m : Model P Q} where
  pub running_none : {left end : ℕ} {rs : List Row} {ps : List P} {base : Option ℕ} {rest : List Row} {acts : List P} → length rs ≡ length ps → left ≤ length rs → left + length rest ≤ end → length rest ≡ length acts → Based rs left base → FirstInside file rs left → FirstInside file rest (length rest) →
      Running file m left end (run file m (take left (paired rs ps)) (paired rest acts)) rs ps left base rest acts
  running_none {left} {end} {rs} {ps} {base} {rest} {acts} sizes h k beside b names own = record {
    low = omega arith;
    high = k;
    beside = beside;
    based = b;
    names = names;
    own = own;
    so_far =
        let z = paired rs ps in
        let a : drop left (take left z) ≡ [] = drop_all left (take left z) (let w = length-take-le left z (let v = length-paired rs ps sizes in omega arith) in omega arith) in
        let u = run file m (take left z) (paired rest acts) in
        ap (λ x. record { left = u.left; added = x ++ u.added; stop = u.stop }) a;
  }

  -- the rows that a loop goes over go by other names
  pub renamed : {left end : ℕ} {all : Taken P} {rs : List Row} {ps : List P} {n : ℕ} {base : Option ℕ} {rest rest' : List Row} {acts acts' : List P} → rest' ≡ rest → acts' ≡ acts → Running file m left end all rs ps n base rest acts → Running file m left end all rs ps n base rest' acts'
  renamed {left} {end} {all} {rs} {ps} {n} {base} {rest} {rest'} {acts} {acts'} e f r = subst (λ x. Running file m left end all rs ps n base x acts') (sym e) (subst (λ x. Running file m left end all rs ps n base rest x) (sym f) r)

  module _ {left end : ℕ} {all : Taken P} {rs : List Row} {ps : List P} {n : ℕ} {base : Option ℕ} {rest more : List Row} {acts acts' : List P} {row : Row} {p : P} (runs : Running file m left end all rs ps n base rest acts) (rows-are : rest ≡ row ∷ more) (acts-are : acts ≡ p ∷ acts') where
    own-next : FirstInside file more (length more)
    own-next k h = let f = subst (λ x. FirstInside file x (length x)) rows-are runs.own in f (suc k) (omega arith)

    pub own-here : Inside file row
    own-here = let f = subst (λ x. FirstInside file x (length x)) rows-are runs.own in f 0 (omega arith)

    next : (t : Taken P) → t ≡ take_row file m (state (paired rs ps) left n None) (entry row p) → after file m t (paired more acts') ≡ all
    next t e =
        ap (λ x. after file m x (paired more acts')) e
        ∙ after-step file m (state (paired rs ps) left n None) (entry row p) (paired more acts')
        ∙ sym (ap (λ x. after file m (state (paired rs ps) left n None) (paired x acts)) rows-are ∙ ap (λ x. after file m (state (paired rs ps) left n None) (paired (row ∷ more) x)) acts-are)
        ∙ runs.so_far

    sizes : length more ≡ length acts'
    sizes = let a = ap length rows-are in let b = ap length acts-are in omega (arith, runs.beside)

    pub high_next : (n' : ℕ) → n' ≤ n + 1 → n' + length more ≤ end
    high_next n' h = let a = ap length rows-are in omega (arith, runs.high)

    -- the row is put, and the lists are rs' and ps'
    module _ (rs' : List Row) (ps' : List P) where
      pub added_more : state (paired rs' ps') left (n + 1) None ≡ take_row file m (state (paired rs ps) left n None) (entry row p) → rs' ≡ set rs n row → Running file m left end all rs' ps' (n + 1) base more acts'
      added_more q w = record {
        low = omega (arith, runs.low);
        high = high_next (n + 1) (omega arith);
        beside = sizes;
        based = subst (λ x. Based x left base) (sym w) (based_set rs left n row base runs.low runs.based);
        names = subst (λ x. FirstInside file x left) (sym w) (names_set file rs left n row runs.low runs.names);
        own = own-next;
        so_far = next _ q;
      }

      pub closed-more : {i : ℕ} {next' : Option ℕ} → base ≡ Some i → left ≤ length rs → state (paired rs' ps') left n None ≡ take_row file m (state (paired rs ps) left n None) (entry row p) → rs' ≡ close_row base rs → Based rs' i next' → Running file m left end all rs' ps' n next' more acts'
      closed-more {i} {next'} is size q w b =
          let was : BaseAt rs left i = subst (Based rs left) is runs.based in
          let w' : rs' ≡ set rs i (done (at rs i)) = w ∙ ap (λ o. close_row o rs) is in
          record {
            low = runs.low;
            high = high_next n (omega arith);
            beside = sizes;
            based = subst (λ x. Based x left next') (sym w') (based_closed rs left i next' was size (subst (λ x. Based x i next') w' b));
            names = subst (λ x. FirstInside file x left) (sym w') (names_closed file rs left i (omega (arith, was.below)) runs.names);
            own = own-next;
            so_far = next _ q;
          }

      -- a step that closed nothing
      pub same_more : base ≡ None → state (paired rs' ps') left n None ≡ take_row file m (state (paired rs ps) left n None) (entry row p) → rs' ≡ close_row base rs → Running file m left end all rs' ps' n base more acts'
      same_more is q w =
          let w' : rs' ≡ rs = w ∙ ap (λ o. close_row o rs) is in
          record {
            low = runs.low;
            high = high_next n (omega arith);
            beside = sizes;
            based = subst (λ x. Based x left base) (sym w') runs.based;
            names = subst (λ x. FirstInside file x left) (sym w') runs.names;
            own = own-next;
            so_far = next _ q;
          }

      -- the loop ends with a mismatch
      pub stopped_more : {stop : ℕ} → state (paired rs' ps') left n (Some stop) ≡ take_row file m (state (paired rs ps) left n None) (entry row p) → state (paired rs' ps') left n (Some stop) ≡ all
      stopped_more {stop} q = sym (after-stopped file m (state (paired rs' ps') left n (Some stop)) (paired more acts') stop refl) ∙ next _ q

  -- the loop ends where no row is left
  pub running-all : {left end : ℕ} {all : Taken P} {rs : List Row} {ps : List P} {n : ℕ} {base : Option ℕ} (rest : List Row) {acts : List P} → Running file m left end all rs ps n base rest acts → length rest ≡ 0 → state (paired rs ps) left n None ≡ all
  running-all {left} {end} {all} {rs} {ps} {n} [] r h = sym (after-none file m (state (paired rs ps) left n None)) ∙ r.so_far
  running-all (x ∷ xs) r h = absurd (omega arith)
