-- Beside trusted/Options.antt: what no clause of the call `djvm` reaches.
use Rattle.std.specs.Prelude.{◌≡◌, ⊤, Bool, true, false, Option, Some, None, Result, Ok, Err}

-- what reading gives where a function returned this error: nothing is said where memory ran out, and else reading gives none
abbrev pub FailsRead : {Y : Type 0} → (out_of_memory : Bool) → Option Y → Type 0
FailsRead true read = ⊤
FailsRead false read = read ≡ None

-- what a function returned, seen by view, is what reading gives; an error that says that memory ran out says nothing of reading
abbrev pub GivesRead : {X Y E : Type 0} → (is_memory : E → Bool) → (X → Y) → Result X E → Option Y → Type 0
GivesRead is_memory view (Ok x) read = read ≡ Some (view x)
GivesRead is_memory view (Err e) read = FailsRead (is_memory e) read
