use borrow.Author.Tests.{tests}
use Rattle.std.proofs.Common.{◌≡◌, sym, ap, ◌∙◌, rules}
use Rattle.std.specs.List.{find}
use Rattle.std.specs.Option.{option_map}
use Rattle.std.proofs.lemmas.Iterator.{YieldsList-from_slice}
use Rattle.std.proofs.lemmas.Iterator.Search.{find_from_yields_List}
use Rattle.finishing.specs.Ends.{is_close_row, stray}
use Rattle.finishing.proofs.closing.no_stray.Goals as goal

pub returns-in-None : goal.returns-in-None
returns-in-None c =
    let e : option_map (λ r. r.now) c.find.result ≡ find is_close_row c.args.rows.now = find_from_yields_List is_close_row _ _ c.find.result c.find.ensures.ran (YieldsList-from_slice _ c.iter.ensures.rest) (λ x b q k. search (rules, tests)) in
    ap (λ o. stray (option_map (λ r. r.place) o)) (ap (option_map (λ r. r.now)) (sym c.in-None.is) ∙ e)

pub returns-in-Some : goal.returns-in-Some
returns-in-Some c =
    let e : option_map (λ r. r.now) c.find.result ≡ find is_close_row c.args.rows.now = find_from_yields_List is_close_row _ _ c.find.result c.find.ensures.ran (YieldsList-from_slice _ c.iter.ensures.rest) (λ x b q k. search (rules, tests)) in
    ap (λ o. stray (option_map (λ r. r.place) o)) (ap (option_map (λ r. r.now)) (sym c.in-Some.is) ∙ e)
