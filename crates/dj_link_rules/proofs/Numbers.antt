-- Classes by their names and by their numbers.
use Rattle.std.proofs.Common.{◌≡◌, ◌≢◌, ℕ, suc, Bool, true, false, List, [], ◌∷◌, Option, Some, None, refl, sym, ap, ◌∙◌, subst, Decides, slice_get, option_and_then, unwrap_or, if◌then◌else◌, is_none}
use Rattle.std.specs.Option.{option_map}
use Rattle.std.specs.Cmp.Lexicographic.{same_text}
use Rattle.std.proofs.lemmas.Bool.Decides.{Decides-like}
use Rattle.dj_names.specs.trusted.Types.{Name, same_name}
use Rattle.dj_model.specs.trusted.Program.{Program, Class, class_at, flags_of}
use Rattle.dj_model.specs.trusted.Linking.{chain, is_among}
use Rattle.dj_class_table.specs.Tables.{class_number, name_at}
use Rattle.dj_link_rules.specs.Known.{is_marked, flags_at, is_unmakeable, AreUnmakeable, AreAbove, is_above}
use Rattle.dj_link_rules.specs.declared.above.OwnClass.{OwnClass}

after_first : (c : Class) (program : Program) (number : Option ℕ) → option_and_then (slice_get (c ∷ program)) (option_map suc number) ≡ option_and_then (slice_get program) number
after_first c program None = refl
after_first c program (Some k) = refl

class_at_or : (c : Class) (program : Program) (name : Name) (b : Bool) → class_at program name ≡ option_and_then (slice_get program) (class_number program name)
    → (if b then Some c else class_at program name) ≡ option_and_then (slice_get (c ∷ program)) (if b then Some 0 else option_map suc (class_number program name))
class_at_or c program name true below = refl
class_at_or c program name false below = below ∙ sym (after_first c program (class_number program name))

-- the class of a name is that of its number
pub class_at_number : (program : Program) (name : Name) → class_at program name ≡ option_and_then (slice_get program) (class_number program name)
class_at_number [] name = refl
class_at_number (c ∷ program) name = class_at_or c program name (same_name c.name name) (class_at_number program name)

-- a name without a number has no class
pub no_class : (program : Program) (name : Name) → class_number program name ≡ None → class_at program name ≡ None
no_class program name e = class_at_number program name ∙ ap (option_and_then (slice_get program)) e

no_number_or : (c : Class) (class : Option Class) (number : Option ℕ) (b : Bool) → (class ≡ None → number ≡ None) → (if b then Some c else class) ≡ None → (if b then Some 0 else option_map suc number) ≡ None
no_number_or c class number true below e = absurd cc
no_number_or c class number false below e = ap (option_map suc) (below e)

-- and the reverse
pub no_number : (program : Program) (name : Name) → class_at program name ≡ None → class_number program name ≡ None
no_number [] name e = refl
no_number (c ∷ program) name e = no_number_or c (class_at program name) (class_number program name) (same_name c.name name) (no_number program name) e

-- the class of the number, if there is one, has the name
abbrev IsNamedAt : Program → Name → Option ℕ → Type 0
IsNamedAt program name None = Unit {0}
IsNamedAt program name (Some k) = name_at program k ≡ Some name

named_after : (c : Class) (program : Program) (name : Name) (number : Option ℕ) → IsNamedAt program name number → IsNamedAt (c ∷ program) name (option_map suc number)
named_after c program name None is = tt
named_after c program name (Some k) is = is

named_or : (c : Class) (program : Program) (name : Name) (number : Option ℕ) (b : Bool) → same_name c.name name ≡ b → IsNamedAt program name number → IsNamedAt (c ∷ program) name (if b then Some 0 else option_map suc number)
named_or c program name number true same below = ap Some (same_text c.name name (sym same))
named_or c program name number false same below = named_after c program name number below

named_at_number : (program : Program) (name : Name) → IsNamedAt program name (class_number program name)
named_at_number [] name = tt
named_at_number (c ∷ program) name = named_or c program name (class_number program name) (same_name c.name name) refl (named_at_number program name)

-- the number of a name is that of a class of this name
pub number_named : (program : Program) (name : Name) (k : ℕ) → class_number program name ≡ Some k → name_at program k ≡ Some name
number_named program name k e = subst (IsNamedAt program name) e (named_at_number program name)

-- ---- what is known of a class of a number

pub none_decides : {T : Type 0} (o : Option T) → Decides (is_none o) (o ≡ None)
none_decides None = (λ e. refl, λ e. refl)
none_decides (Some x) = (λ e. absurd cc, λ e. absurd cc)

pub lacking : (program : Program) (name : Name) → Decides (is_none (class_number program name)) (class_at program name ≡ None)
lacking program name = Decides-like (is_none (class_number program name)) (no_class program name) (no_number program name) (none_decides (class_number program name))

pub flags_named : (program : Program) (name : Name) → flags_at program (class_number program name) ≡ flags_of (class_at program name)
flags_named program name = ap flags_of (sym (class_at_number program name))

marked_in : (marks : List Bool) (program : Program) (number : Option ℕ) → AreUnmakeable program marks → is_marked marks number ≡ unwrap_or (option_map is_unmakeable (option_and_then (slice_get program) number)) false
marked_in marks program None are = refl
marked_in marks program (Some k) are = ap (λ (o : Option Bool). unwrap_or o false) (are k)

pub marked_named : (marks : List Bool) (program : Program) (name : Name) → AreUnmakeable program marks → is_marked marks (class_number program name) ≡ unwrap_or (option_map is_unmakeable (class_at program name)) false
marked_named marks program name are =
    marked_in marks program (class_number program name) are ∙ ap (λ (o : Option Class). unwrap_or (option_map is_unmakeable o) false) (sym (class_at_number program name))

-- of a class that is there, whether it is the own one or above it
pub above_named : (own_class : OwnClass) (program : Program) (own name : Name) → AreAbove program own own_class → class_at program name ≢ None → is_above own_class (class_number program name) ≡ is_among (chain program own) name
above_named own_class program own name are there = by (class_number program name) refl where
  by : (number : Option ℕ) → class_number program name ≡ number → is_above own_class number ≡ is_among (chain program own) name
  by None e = absurd (there (no_class program name e))
  by (Some k) e = are k name (number_named program name k e)
