-- Attributes of a kind (JVMS 4.7), by the text of their names.
use Rattle.std.specs.Prelude.{ℕ, Bool, false, if◌then◌else◌, List, [], ◌∷◌, codes, nat_eq, Option, Some, None}
use Rattle.std.specs.List.{flat_map}
use Rattle.std.specs.Cmp.Lexicographic.{pointwise}
use Rattle.dj_pool.specs.trusted.Pool.{Constant, text_at}
use Rattle.dj_class.specs.trusted.ClassFile.{AttributeInfo, MemberInfo}
use Rattle.dj_class.specs.trusted.Code.{CodeInfo}

-- the text at the index of the attribute's name is this one
abbrev pub is_named : List Constant → List ℕ → AttributeInfo → Bool
is_named pool name a = is_text (text_at pool a.name) where
  is_text : Option (List ℕ) → Bool
  is_text None = false
  is_text (Some text) = pointwise nat_eq text name

-- the bodies of the attributes of this name, in order
abbrev pub bodies_of : List Constant → List ℕ → List AttributeInfo → List (List ℕ)
bodies_of pool name attributes = flat_map (λ a. if is_named pool name a then a.body ∷ [] else []) attributes

-- JVMS 4.7.3: the bodies of a method's Code attributes
abbrev pub codes_of : List Constant → MemberInfo → List (List ℕ)
codes_of pool method = bodies_of pool (codes "Code") method.attributes

-- JVMS 4.7.2: the bodies of a field's ConstantValue attributes
abbrev pub values_of : List Constant → MemberInfo → List (List ℕ)
values_of pool field = bodies_of pool (codes "ConstantValue") field.attributes

-- JVMS 4.7.4: the bodies of the StackMapTable attributes of code
abbrev pub maps_of : List Constant → CodeInfo → List (List ℕ)
maps_of pool code = bodies_of pool (codes "StackMapTable") code.attributes
