-- Worked examples, by computing.
use Rattle.std.proofs.Common.{◌≡◌, ℕ, ◌<◌, ◌≤◌, true, false, List, [], ◌∷◌, map, length, codes, refl, ap, subst, arith, lit<, lit≤}
use Rattle.std.proofs.lemmas.Bool.{both_ways}
use Rattle.machine.specs.declared.refusal.Refusal.{Refusal}
use Rattle.machine.specs.declared.refusal.Refusal.TheVariants.{TextTooLong, NotQueries, TooManyPositions, NamesOverLimit, TooManySets, FileTooLong, OtherLength, ListsTooShort, OutOfRange, NoSuchPiece, PiecesApart, NotWhole, RowsBroken, TooManyPieces, NoRoomForRows, NoRoomForMatches}
use Rattle.machine.specs.Asked.{Refused}
use Rattle.machine.specs.Limits.{NamesFit}
use Rattle.machine.specs.Masks.{mask}
use Rattle.machine.specs.Paths.{is_met}
use Rattle.machine.specs.Queries.{Query, asked, size, names_used}
use Rattle.machine.proofs.Answering.{once}
use Rattle.machine.proofs.Stands.{meets_decides}
use Rattle.positions.specs.Tabs.{tab}
use Rattle.positions.specs.Sets.{moved_on}
use Rattle.positions.specs.Verdicts.{Passes}
use Rattle.table.specs.Closure.{closure}
use Rattle.examples.specs.Queries.{QueryExamples, four, five, slash, slashes, two_days, states_of_one}
use Rattle.table.proofs.Arise.{closure-finds}

four_states : length (states_of_one 32 four) ≡ 32
unfolding mask tab moved_on closure
four_states = refl

five_states : length (states_of_one 64 five) ≡ 64
unfolding mask tab moved_on closure
five_states = refl

five-many : 32 < length (states_of_one 32 five)
unfolding mask tab moved_on closure
five-many = lit< tt

four-few : length (states_of_one 32 four) ≤ 32
unfolding mask tab moved_on closure
four-few = lit≤ tt

five-few : length (states_of_one 64 five) ≤ 64
unfolding mask tab moved_on closure
five-few = lit≤ tt

four_passes : Passes (codes "//a/*/*/*/*") (four ∷ [])
four_passes = record {
  short = lit≤ tt;
  parses = record { some = lit< tt; few = lit≤ tt; good = (record { some = lit< tt; steps = ((refl, tt), (tt, (tt, (tt, (tt, tt))))) }, tt); is = refl };
  few = lit≤ tt;
  fitting = record { few = lit≤ tt; short = (lit≤ tt, tt) };
}

five_passes : Passes (codes "//a/*/*/*/*/*") (five ∷ [])
five_passes = record {
  short = lit≤ tt;
  parses = record { some = lit< tt; few = lit≤ tt; good = (record { some = lit< tt; steps = ((refl, tt), (tt, (tt, (tt, (tt, (tt, tt)))))) }, tt); is = refl };
  few = lit≤ tt;
  fitting = record { few = lit≤ tt; short = (lit≤ tt, tt) };
}

misses : is_met (map asked (slash (codes "day") ∷ [])) two_days ≡ false
misses = refl

meets : is_met (map asked (slashes (codes "day") ∷ [])) two_days ≡ true
meets = refl

-- what passes the first four questions is refused by none of them
none-refuses : (text : List ℕ) (qs : List Query) → Passes text qs → (why : Refusal) → Refused text why → ⊥
none-refuses text qs p TextTooLong h = omega (arith, h, p.short)
none-refuses text qs p NotQueries h = h.1 qs p.parses
none-refuses text qs p TooManyPositions h = let e = ap size (once text h.1.0 qs h.1.1 p.parses) in omega (arith, e, h.1.2, p.few)
none-refuses text qs p NamesOverLimit h = h.1.3 (subst (λ l. NamesFit (names_used l)) (once text qs h.1.0 p.parses h.1.1) p.fitting)
none-refuses text qs p TooManySets h = h
none-refuses text qs p FileTooLong h = h
none-refuses text qs p OtherLength h = h
none-refuses text qs p ListsTooShort h = h
none-refuses text qs p OutOfRange h = h
none-refuses text qs p NoSuchPiece h = h
none-refuses text qs p PiecesApart h = h
none-refuses text qs p NotWhole h = h
none-refuses text qs p RowsBroken h = h
none-refuses text qs p TooManyPieces h = h
none-refuses text qs p NoRoomForRows h = h
none-refuses text qs p NoRoomForMatches h = h

pub examples : QueryExamples
examples = record {
  four_passes = four_passes;
  four_states = four_states;
  four_all = (closure-finds _ _ _ 32).0 four-few;
  five_passes = five_passes;
  five_states = five_states;
  five_all = (closure-finds _ _ _ 64).0 five-few;
  five_refused = record { queries = five ∷ []; passes = five_passes; many = (closure-finds _ _ _ 32).1 five-many };
  five_taken = none-refuses (codes "//a/*/*/*/*/*") (five ∷ []) five_passes;
  day_misses = λ m. both_ways (is_met (map asked (slash (codes "day") ∷ [])) two_days) misses ((meets_decides (map asked (slash (codes "day") ∷ [])) two_days).1 m);
  day_meets = (meets_decides (map asked (slashes (codes "day") ∷ [])) two_days).0 meets;
}
