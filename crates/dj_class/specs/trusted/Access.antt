-- Access flags (JVMS tables 4.1-A of classes, 4.5-A of fields, 4.6-A of methods): which bit of the flags each is. A bit may be one flag of a class or a
-- field, and another of a method.
use Rattle.std.specs.Prelude.{ℕ}

abbrev pub static : ℕ
static = 3

abbrev pub final : ℕ
final = 4

-- of a method
abbrev pub native : ℕ
native = 8

-- of a class
abbrev pub interface : ℕ
interface = 9

-- of a class or a method
abbrev pub abstract : ℕ
abstract = 10
