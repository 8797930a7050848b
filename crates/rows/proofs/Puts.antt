-- What rows put after a content come to.
use Rattle.std.proofs.Common.{◌≡◌, ℕ, ◌≤◌, List, [], ◌∷◌, ◌++◌, take, drop, Some, None, Option, sym, refl, ap, ◌∙◌, append-nil, arith}
use Rattle.std.proofs.lemmas.List.{take-take, take-append-drop, length-take, drop_all}
use Rattle.machine.specs.Model.{Model}
use Rattle.rows.specs.declared.row.Row.{Row}
use Rattle.rows.specs.declared.row.PieceFault.{PieceFault}
use Rattle.rows.specs.Pieces.{Entry, Taken, Content, closes, run, take_row, seal, fault_after, put}
use Rattle.rows.specs.Stretches.{lone, one, eval_from}
use Rattle.rows.specs.Places.{entry, state}

module _ {P : Type 0} where
  whole : (z : List (Entry P)) (left n : ℕ) → left ≤ n → take left z ++ drop left (take n z) ≡ take n z
  whole z left n h = ap (λ x. x ++ drop left (take n z)) (sym (take-take left n z h)) ∙ take-append-drop left (take n z)

  sealed : (z : List (Entry P)) (left n : ℕ) (stop : Option ℕ) (f : Option PieceFault) (t : Taken P) → left ≤ n → state z left n stop ≡ t → seal (take n z) (fault_after stop f) ≡ seal (t.left ++ t.added) (fault_after t.stop f)
  sealed z left n stop f t h e = ap (λ x. seal x (fault_after stop f)) (sym (whole z left n h)) ∙ ap (λ u. seal (u.left ++ u.added) (fault_after u.stop f)) e

  pub seal-none : (rows : List (Entry P)) (f : Option PieceFault) → f ≡ None → ◌≡◌ {A = Content P} (record { rows = rows; fault = f }) (seal rows f)
  seal-none rows f e = grind arith

  pub seal-some : (rows kept : List (Entry P)) (f : Option PieceFault) (g : PieceFault) → f ≡ Some g → kept ≡ closes rows → ◌≡◌ {A = Content P} (record { rows = kept; fault = f }) (seal rows f)
  seal-some rows kept f g e h = ap (λ x. record { rows = x; fault = f }) h ∙ grind arith

module _ {P Q : Type 0} (file : List ℕ) (m : Model P Q) where
  put-none : (x y : Content P) → x.fault ≡ None → put file m x y ≡ seal ((run file m x.rows y.rows).left ++ (run file m x.rows y.rows).added) (fault_after (run file m x.rows y.rows).stop y.fault)
  put-none x y e = grind arith

  pub put-fault : (x y : Content P) (f : PieceFault) → x.fault ≡ Some f → put file m x y ≡ x
  put-fault x y f e = grind arith

  -- no stretch is put after a fault
  pub eval-fault : (x : Content P) (ss : List (ℕ × ℕ)) (f : PieceFault) → x.fault ≡ Some f → eval_from file m x ss ≡ x
  eval-fault x [] f h = refl
  eval-fault x (s ∷ ss) f h = ap (λ y. eval_from file m y ss) (put-fault x (one file m s) f h) ∙ eval-fault x ss f h

  -- the rows of y were taken after those of x
  pub put-taken : (x y c : Content P) (z : List (Entry P)) (left n : ℕ) (stop : Option ℕ) (found : Option PieceFault) → x.fault ≡ None → left ≤ n → state z left n stop ≡ run file m x.rows y.rows → found ≡ fault_after stop y.fault → c ≡ seal (take n z) found → c ≡ put file m x y
  put-taken x y c z left n stop found none low is first e =
      e ∙ ap (seal (take n z)) first ∙ sealed z left n stop y.fault _ low is ∙ sym (put-none x y none)

  -- a bad tag after x
  pub put-bad : (x y c : Content P) (f : PieceFault) → x.fault ≡ None → record { rows = []; fault = Some f } ≡ y → c ≡ seal x.rows (Some f) → c ≡ put file m x y
  put-bad x y c f none is e =
      e ∙ ap (λ l. seal l (Some f)) (sym (append-nil x.rows)) ∙ sym (put-none x (record { rows = []; fault = Some f }) none) ∙ ap (put file m x) is

  put-lone : (l : List (Entry P)) (e : Entry P) (t : Taken P) → t ≡ take_row file m (record { left = l; added = []; stop = None }) e → seal (t.left ++ t.added) (fault_after t.stop None) ≡ put file m (record { rows = l; fault = None }) (record { rows = e ∷ []; fault = None })
  put-lone l e t h = ap (λ u. seal (u.left ++ u.added) (fault_after u.stop None)) h ∙ grind arith

  -- one row was put after the first n entries of z
  pub put_one : (z z' : List (Entry P)) (n n' : ℕ) (stop : Option ℕ) (row : Row) (p : P) (fault : Option PieceFault) (y c : Content P) → fault ≡ None → n ≤ n' → lone row p ≡ y → state z' n n' stop ≡ take_row file m (state z n n None) (entry row p) → c ≡ seal (take n' z') (fault_after stop None) → c ≡ put file m (record { rows = take n z; fault = fault }) y
  put_one z z' n n' stop row p fault y c none h is t e =
      let nil : drop n (take n z) ≡ [] = drop_all n (take n z) (simp length-take (omega arith)) in
      e
      ∙ sealed z' n n' stop None _ h t
      ∙ put-lone (take n z) (entry row p) _ (ap (λ x. take_row file m (record { left = take n z; added = x; stop = None }) (entry row p)) nil)
      ∙ ap (λ f. put file m (record { rows = take n z; fault = f }) (lone row p)) (sym none)
      ∙ ap (put file m (record { rows = take n z; fault = fault })) is
