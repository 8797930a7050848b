-- What a reader knows after one more row.
use Rattle.std.proofs.Common.{◌≡◌, ℕ, ◌+◌, ◌<◌, ◌≤◌, Bool, true, List, [], ◌∷◌, ◌++◌, length, take, set, Some, None, Option, Result, sym, refl, ap, ◌∙◌, subst, ⊎_elim, arith}
use Rattle.std.proofs.lemmas.List.{get_or-set_same}
use Rattle.std.proofs.lemmas.Bool.{cases_eq}
use Rattle.rows.specs.declared.row.RowKind.TheVariants.{Open}
use Rattle.rows.specs.declared.row.Row.{Row}
use Rattle.reading.specs.declared.opens.Opens.{Opens}
use Rattle.reading.specs.declared.reading.Reader.{Reader}
use Rattle.machine.specs.Model.{Model}
use Rattle.rows.specs.declared.row.PieceFault.{PieceFault}
use Rattle.rows.specs.declared.lists.Lists.{Lists}
use Rattle.rows.specs.Pieces.{Content, Inside, done, seal, put, fault_after, take_row}
use Rattle.rows.specs.Stretches.{lone}
use Rattle.rows.specs.Places.{at, no_row, Based, paired, entry, state}
use Rattle.reading.specs.Opens.{items, Chain, ChainAt}
use Rattle.reading.specs.Reading.{so_far, fault_in, sealed, Ready, Under}
use Rattle.rows.proofs.Bases.{none-open_set, based_set, based_wider, names_set}
use Rattle.rows.proofs.Puts.{put_one}

-- a chain of which the end is forgotten
chain_front : (rows : List Row) (top : ℕ) (xs ys : List ℕ) (b c : Bool) → (c ≡ true → (b ≡ true) × (ys ≡ [])) → Chain rows top (xs ++ ys) b → Chain rows top xs c
chain_front rows top [] ys b c f h = λ e. subst (λ zs. Chain rows top zs b) (f e).1 h (f e).0
chain_front rows top (x ∷ xs) ys b c f h = (h.0, chain_front rows x xs ys b c f h.1)

-- a write at n, where the chain is below
chain_set : (rs : List Row) (n top : ℕ) (r : Row) (os : List ℕ) (b : Bool) → top ≤ n → Chain rs top os b → Chain (set rs n r) top os b
chain_set rs n top r [] b h c = λ e. none-open_set rs n 0 top r h (c e)
chain_set rs n top r (i ∷ os) b h c = (based_set rs top n r (Some i) h c.0, chain_set rs n i r os b (omega (arith, c.0.below)) c.1)

-- a row that is not Open comes after the first n
based_add : (rs : List Row) (n : ℕ) (r : Row) (base : Option ℕ) → n < length rs → (r.kind ≡ Open → ⊥) → Based rs n base → Based (set rs n r) (n + 1) base
based_add rs n r base h k b =
    based_wider (set rs n r) n (n + 1) base (omega arith)
    (λ j lo hi o.
    let e : j ≡ n = omega arith in
    k (sym (ap (λ x. x.kind) (ap (at (set rs n r)) e ∙ get_or-set_same rs n r no_row h)) ∙ o))
    (based_set rs n n r base (omega arith) b)

names_add : (file : List ℕ) (rs : List Row) (n : ℕ) (r : Row) → n < length rs → Inside file r → ((k : ℕ) → k < n → Inside file (at rs k)) → (k : ℕ) → k < n + 1 → Inside file (at (set rs n r) k)
names_add file rs n r h i f k l =
    ⊎_elim
    (λ e. subst (Inside file) (sym (ap (at (set rs n r)) e ∙ get_or-set_same rs n r no_row h)) i)
    (λ ne. names_set file rs n n r (omega arith) f k (omega arith))
    (cases_eq k n)

module _ (rs : List Row) (n : ℕ) (row : Row) where
  chain_same : (o : Opens) (base : Option ℕ) → Based rs n base → ChainAt rs base o → ChainAt (set rs n row) base o
  chain_same o None b c = tt
  chain_same o (Some i) b c = chain_set rs n i row (items o) o.complete (omega (arith, b.below)) c

  chain-open : (o o' : Opens) (base : Option ℕ) → Based rs n base → ChainAt rs base o → Under o o' base → Chain (set rs n row) n (items o') o'.complete
  chain-open o o' None b c u = subst (λ os. Chain (set rs n row) n os o'.complete) (sym u.0) (λ e. none-open_set rs n 0 n row (omega arith) b)
  chain-open o o' (Some i) b c u =
      subst (λ os. Chain (set rs n row) n os o'.complete) (sym u.items_is) (
        based_set rs n n row (Some i) (omega arith) b,
        chain_front (set rs n row) i u.kept u.lost o.complete o'.complete (λ q. u.whole.0 q) (subst (λ os. Chain (set rs n row) i os o.complete) u.all (chain_set rs n i row (items o) o.complete (omega (arith, b.below)) c)),
      )

-- a row was added
module _ (file : List ℕ) (rs rs' : List Row) (was is : Reader) (row : Row) (room : was.rows < length rs) (ready : Ready file rs was) (inside : Inside file row) (rows : rs' ≡ set rs was.rows row) (grown : is.rows ≡ was.rows + 1) where
  abbrev n : ℕ
  n = was.rows

  names : (k : ℕ) → k < is.rows → Inside file (at rs' k)
  names k h = subst (λ x. Inside file (at x k)) (sym rows) (names_add file rs n row room inside ready.names k (omega arith))

  pub ready-shut : (row.kind ≡ Open → ⊥) → is.base ≡ was.base → is.opens ≡ was.opens → Ready file rs' is
  ready-shut not e f = record {
    based = rw (rows, grown, e) (based_add rs n row was.base room not ready.based);
    chain = rw (rows, e, f) (chain_same rs n row was.opens was.base ready.based ready.chain);
    names = names;
  }

  pub ready-open : row.kind ≡ Open → is.base ≡ Some was.rows → Under was.opens is.opens was.base → Ready file rs' is
  ready-open k e u = record {
    based = rw (rows, e) (record { below = omega arith; is_open = ap (λ x. x.kind) (get_or-set_same rs n row no_row room) ∙ k; last = λ k lo hi x. absurd (omega arith) });
    chain = rw (rows, e) (chain-open rs n row was.opens is.opens was.base ready.based ready.chain u);
    names = names;
  }

-- what stood below the base at i, once it is closed
pub closed-chain : (rs rs' : List Row) (was : Reader) (i : ℕ) → ChainAt rs was.base was.opens → was.base ≡ Some i → rs' ≡ set rs i (done (at rs i)) → Chain rs' i (items was.opens) was.opens.complete
closed-chain rs rs' was i chain base rows = rw rows (chain_set rs i i (done (at rs i)) (items was.opens) was.opens.complete (omega arith) (subst (λ b. ChainAt rs b was.opens) base chain))

pub ready_none : (file : List ℕ) (rs : List Row) (r : Reader) → r.rows ≡ 0 → r.base ≡ None → Ready file rs r
ready_none file rs r e f = record {
  based = subst (λ b. Based rs r.rows b) (sym f) (λ k a b o. absurd (omega arith));
  chain = subst (λ b. ChainAt rs b r.opens) (sym f) tt;
  names = λ k h. absurd (omega arith);
}

-- a row was put after those read so far
module _ {P Q : Type 0} (file : List ℕ) (m : Model P Q) (ls ls' : Lists P) (was is : Reader) (result : Result (Unit {0}) PieceFault) where
  pub put-row : (n : ℕ) (stop : Option ℕ) (row : Row) (p : P) {y : Content P} → was.rows ≤ n → is.rows ≡ n → fault_in result ≡ fault_after stop None → lone row p ≡ y → state (paired ls'.rows.now ls'.actions.now) was.rows n stop ≡ take_row file m (state (paired ls.rows.now ls.actions.now) was.rows was.rows None) (entry row p) → sealed ls' is result ≡ put file m (so_far ls was) y
  put-row n stop row p low e f g t = put_one file m _ _ was.rows n stop row p None _ _ refl low g t (ap (λ k. seal (take k (paired ls'.rows.now ls'.actions.now)) (fault_in result)) e ∙ ap (seal (take n (paired ls'.rows.now ls'.actions.now))) f)
