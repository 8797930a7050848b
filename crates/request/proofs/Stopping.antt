-- What is decided where a result is told.
use Rattle.std.proofs.Common.{◌≡◌, Ok, Err, Result, sym, subst}
use Rattle.request.specs.declared.stop.Stop.{Stop}
use Rattle.request.specs.declared.stop.Stop.TheVariants.{Refused, NoMemory}
use Rattle.request.specs.Stops.{IfDecided}

module _ {X R : Type 0} where
  pub weaker : (r : Result X (Stop R)) {P Q : Result X R → Type 0} → ((o : Result X R) → P o → Q o) → IfDecided r P → IfDecided r Q
  weaker (Ok x) f h = f (Ok x) h
  weaker (Err (Refused why)) f h = f (Err why) h
  weaker (Err NoMemory) f h = tt

  pub if_refused : {r : Result X (Stop R)} {why : R} (P : Result X R → Type 0) → r ≡ Err (Refused why) → P (Err why) → IfDecided r P
  if_refused P e h = subst (λ r. IfDecided r P) (sym e) h
