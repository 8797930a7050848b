-- What every value of `Queries` keeps.
use Rattle.std.proofs.Common.{◌≡◌, ◌≤◌, length, sym, ap, ◌∙◌, arith}
use Rattle.std.specs.List.{AllByRecursion}
use Rattle.machine.specs.declared.queries.Queries.{Queries}
use Rattle.machine.specs.Asked.{queries_of, listed_names}
use Rattle.machine.specs.Limits.{most_names}
use Rattle.machine.specs.Queries.{positions, ends, Listed}
use Rattle.machine.specs.Views.{places_of, lasts_of}
use Rattle.machine.proofs.Decoding.{encoded, decoded-listed}
use Rattle.machine.proofs.Drawing.{length-ends}
use Rattle.machine.proofs.Viewed.{length-names, length-lasts}

module _ (q : Queries) where
  pub places-are : places_of q.plan ≡ positions (listed_names q) (queries_of q)
  unfolding queries_of
  places-are = sym (encoded (listed_names q) (places_of q.plan) q.whole q.known)

  pub lasts_are : lasts_of q.plan ≡ ends 0 (queries_of q)
  unfolding queries_of
  lasts_are = q.ending

  -- the steps' names are listed
  pub all_listed : AllByRecursion (Listed (listed_names q)) (queries_of q)
  unfolding queries_of
  all_listed = decoded-listed (listed_names q) (places_of q.plan) q.known

  pub lines_are : q.plan.lines ≡ length (queries_of q)
  lines_are = sym (length-lasts q.plan) ∙ ap length lasts_are ∙ length-ends 0 (queries_of q)

  pub few-names : length (listed_names q) ≤ most_names
  few-names = omega (arith, length-names q.plan.names, q.plan.names.within)
