-- What is said where nothing may have come back.
use Rattle.std.specs.Prelude.{◌≡◌, Ok, Err, Result}
use Rattle.machine.specs.declared.refusal.Refusal.{Refusal}
use Rattle.request.specs.declared.refusal.InputRefusal.{InputRefusal}
use Rattle.request.specs.declared.stop.Stop.{Stop}
use Rattle.request.specs.declared.stop.Stop.TheVariants.{Refused, NoMemory}
use Rattle.request.specs.Asked.{as_refusal}

abbrev pub as_stop : Stop InputRefusal → Stop Refusal
as_stop (Refused why) = Refused (as_refusal why)
as_stop NoMemory = NoMemory

-- a fact of what was decided, an answer or a refusal; the want of memory says nothing
abbrev pub IfDecided : {X R : Type 0} → Result X (Stop R) → (Result X R → Type 0) → Type 0
IfDecided (Ok x) P = P (Ok x)
IfDecided (Err (Refused why)) P = P (Err why)
IfDecided (Err NoMemory) P = Unit {0}

-- the want of memory leaves what may be changed as it was
abbrev pub Kept : {X R L : Type 0} → Result X (Stop R) → L → L → Type 0
Kept (Ok x) old new = Unit {0}
Kept (Err (Refused why)) old new = Unit {0}
Kept (Err NoMemory) old new = new ≡ old
