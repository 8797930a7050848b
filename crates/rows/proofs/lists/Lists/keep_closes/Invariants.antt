use Rattle.std.proofs.Common.{◌≡◌, drop}
use Rattle.std.proofs.lemmas.List.Filters.{FiltersInPlace}
use Rattle.rows.specs.Pieces.{is_close}
use Rattle.rows.specs.Places.{paired}
use Rattle.rows.specs.Same.{SameLists}
use Rattle.rows.proofs.lists.Lists.keep_closes.Given as goal

abbrev pub invariant-loop-i : goal.invariant-loop-i
invariant-loop-i g l = record {
  filters : FiltersInPlace is_close (paired l.initial.self.rows.now l.initial.self.actions.now) (paired l.self.rows.now l.self.actions.now) l.k l.i;
  rows : drop l.n l.self.rows.now ≡ drop l.n l.initial.self.rows.now;
  actions : drop l.n l.self.actions.now ≡ drop l.n l.initial.self.actions.now;
  same : SameLists l.initial.self l.self;
}
