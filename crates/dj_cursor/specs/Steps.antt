-- Reading in steps, each of which may fail and says how. Options has the same words where there is one fault alone, and reading answers an option.
use Rattle.std.specs.Prelude.{◌≡◌, ⊤, Bool, true, false, Result, Ok, Err}

-- a step, and what follows it
infixl 10 ◌>>=◌
abbrev pub ◌>>=◌ : {A B E : Type 0} → Result A E → (A → Result B E) → Result B E
(Ok x) >>= f = f x
(Err e) >>= f = Err e

-- an error of a part, as one of the whole
abbrev pub lifted : {A D E : Type 0} → (D → E) → Result A D → Result A E
lifted up (Ok x) = Ok x
lifted up (Err e) = Err (up e)

-- no error says that memory ran out
abbrev pub never : {E : Type 0} → E → Bool
never e = false

-- what an error says of reading: nothing where memory ran out, else that it is what reading gives
abbrev pub Fails : {Y E : Type 0} → (out_of_memory : Bool) → E → Result Y E → Type 0
Fails true e read = ⊤
Fails false e read = read ≡ Err e

-- what a function returned, seen by view, is what reading gives, unless the error is one that says that memory ran out
abbrev pub Gives : {X Y E : Type 0} → (is_memory : E → Bool) → (X → Y) → Result X E → Result Y E → Type 0
Gives is_memory view (Ok x) read = read ≡ Ok (view x)
Gives is_memory view (Err e) read = Fails (is_memory e) e read
