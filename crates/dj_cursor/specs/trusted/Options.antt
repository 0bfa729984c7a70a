-- Reading in steps, where there is one fault alone, so that an option says enough. The words are those of Steps.
use Rattle.std.specs.Prelude.{Option, Some, None}

-- a step, and what follows it
infixl 10 ◌>>=◌
abbrev pub ◌>>=◌ : {A B : Type 0} → Option A → (A → Option B) → Option B
(Some x) >>= f = f x
None >>= f = None
