-- What it is to make a machine of relations from a text.
use Rattle.std.specs.Prelude.{◌≡◌, ℕ, List}
use Rattle.machine.specs.declared.queries.Queries.{Queries}
use Rattle.machine.specs.Asked.{listed_names, queries_of}
use Rattle.machine.specs.Queries.{Query, positions, names_used}
use Rattle.machine.specs.Views.{names_of}
use Rattle.positions.specs.Sets.{fit_masks, rest_mask}
use Rattle.positions.specs.Verdicts.{ByRule, LinesOf, Passes}
use Rattle.relation.specs.declared.relation.RelationMachine.{RelationMachine}
use Rattle.relation.specs.Relations.{related}

-- the machine has these queries, with these names
pub record Holds (names : List (List ℕ)) (qs : List Query) (m : RelationMachine) : Type 0 where
  pub named : names_of m.names ≡ names
  pub fits : m.moves.fits ≡ fit_masks (positions names qs)
  pub stays : m.moves.stays ≡ rest_mask 32 (positions names qs)
  pub lines : LinesOf qs m.lines
  pub rule : ByRule qs (related m).verdict

abbrev pub RelationOf : Queries → RelationMachine → Type 0
RelationOf q m = Holds (listed_names q) (queries_of q) m

-- the text's questions are answered yes, and the machine has its queries: its verdict on every path is the path rule's
pub record Related (text : List ℕ) (m : RelationMachine) : Type 0 where
  pub queries : List Query
  pub passes : Passes text queries
  pub holds : Holds (names_used queries) queries m
