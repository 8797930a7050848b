-- What came of reading an input.
use Rattle.std.specs.Prelude.{◌≡◌, Ok, Err, vec_items, Result}
use Rattle.request.specs.declared.input.Request.{Request}
use Rattle.request.specs.declared.refusal.InputRefusal.{InputRefusal}
use Rattle.request.specs.declared.stop.Stop.{Stop}
use Rattle.request.specs.declared.stop.Stop.TheVariants.{Refused, NoMemory}
use Rattle.request.specs.Asked.{Asked, refused, asked}

-- a request is what the input asks for, and a refusal is the input's own; the want of memory says nothing of the input
abbrev pub Gives : Result Request (Stop InputRefusal) → Asked → Type 0
Gives (Ok r) a = asked (vec_items r.cuts) r.queries.now r.file.now ≡ a
Gives (Err (Refused why)) a = refused why ≡ a
Gives (Err NoMemory) a = Unit {0}
