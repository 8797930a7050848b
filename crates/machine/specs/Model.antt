-- What a machine means: its functions on actions, its verdict on paths, and the laws that it keeps.
use Rattle.std.specs.Prelude.{◌≡◌, ℕ, Bool, List, [], ◌∷◌}

-- Act is the type of actions, Plain that of their plain forms. A path is a list of names from the outermost down;
-- a set of queries says of each query whether it is in the set
pub record Model (Act Plain : Type 0) : Type 0 where
  pub stay : Act
  pub action : List ℕ → Act
  pub then : Act → Act → Act
  pub marks : Act → List Bool
  pub plain : Act → Plain
  pub back : Plain → Act
  pub verdict : List (List ℕ) → List Bool

-- the actions of names in order, after an action that was made already
abbrev pub then_all : {A : Type 0} → (A → A → A) → (List ℕ → A) → A → List (List ℕ) → A
then_all then action a [] = a
then_all then action a (n ∷ ns) = then_all then action (then a (action n)) ns

-- the action of the path n ∷ ns
abbrev pub path_action : {A P : Type 0} → Model A P → List ℕ → List (List ℕ) → A
path_action m n ns = then_all m.then m.action (m.action n) ns

pub record Lawful {A P : Type 0} (m : Model A P) : Type 0 where
  pub assoc : (a b c : A) → m.then (m.then a b) c ≡ m.then a (m.then b c)
  pub left : (a : A) → m.then m.stay a ≡ a
  pub right : (a : A) → m.then a m.stay ≡ a
  -- a path of one or more names is marked by the verdict on it
  pub marks_path : (n : List ℕ) (ns : List (List ℕ)) → m.marks (path_action m n ns) ≡ m.verdict (n ∷ ns)
  pub round : (a : A) → m.back (m.plain a) ≡ a
