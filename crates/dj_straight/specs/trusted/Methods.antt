-- The signature of straight methods, and the class below which a straight class stands.
use Rattle.std.specs.Prelude.{ℕ, List, [], ◌∷◌, Some, codes}
use Rattle.dj_names.specs.declared.descriptor.Kind.TheVariants as kinds
use Rattle.dj_straight.specs.trusted.FrameKinds.{Signature}

abbrev pub straight_descriptor : List ℕ
straight_descriptor = codes "([B)[B"

-- from an array of bytes to one
abbrev pub straight_signature : Signature
straight_signature = record { parameters = kinds.Ref ∷ []; result = Some kinds.Ref }

abbrev pub object_name : List ℕ
object_name = codes "java/lang/Object"
