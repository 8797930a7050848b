-- What a function leaves of the lists that it is lent.
use Rattle.std.specs.Prelude.{◌≡◌, length}
use Rattle.rows.specs.declared.lists.Lists.{Lists}

-- both lists are still those that were lent, as long as they were
abbrev pub SameLists : {P : Type 0} → Lists P → Lists P → Type 0
SameLists was is = (is.rows.ghost_name ≡ was.rows.ghost_name) × (is.actions.ghost_name ≡ was.actions.ghost_name) × (length is.rows.now ≡ length was.rows.now)
