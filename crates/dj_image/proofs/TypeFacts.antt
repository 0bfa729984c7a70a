-- Which types instructions use and name, and which arrays are parts of others, by plain values.
use Rattle.std.proofs.Common.{◌≡◌, ℕ, ◌≤◌, false, List, [], ◌∷◌, None, refl, sym, ap, ◌∙◌, codes, pos, arith, true}
use Rattle.std.specs.Prelude.{⊤}
use Rattle.std.proofs.lemmas.Bool.{false≢true}
use Rattle.dj_names.specs.declared.descriptor.Base.TheVariants as bases
use Rattle.dj_names.specs.declared.descriptor.Ty.{Ty}
use Rattle.dj_names.specs.declared.descriptor.Of.{Of}
use Rattle.dj_names.specs.declared.descriptor.Of.TheVariants as ofs
use Rattle.dj_names.specs.declared.descriptor.Desc.TheVariants as descs
use Rattle.dj_names.specs.trusted.Types.{Name, same_name, same_of, same_type, class_type, base_type, base_array, array_type}
use Rattle.dj_ops.specs.declared.instruction.Instr.TheVariants as instrs
use Rattle.dj_ops.specs.Mnemonics.{nop, bipush, ldc, ldc_w, ldc2_w, iload, goto, getstatic, putstatic, getfield, putfield, invokevirtual, invokespecial, invokestatic, new, anewarray, checkcast, instanceof}
use Rattle.dj_model.specs.trusted.Types.{Member}
use Rattle.dj_model.specs.trusted.Instructions.{Nothing, AnInt, ALong, AText, AClass, AField, AMethod, AnInterfaceMethod, Another, Instruction}
use Rattle.dj_model.specs.trusted.Opcodes.{instruction_of, simple}
use Rattle.dj_image.specs.Imaged.{NamesType, UsesType, IsPartOf}

-- ---- what differs

pub other_type : (a b : Ty) → same_type a b ≡ false → same_type b b ≡ true → a ≡ b → ⊥
other_type a b differ own e = false≢true (sym differ ∙ ap (λ (ty : Ty). same_type ty b) e ∙ own)

pub other_of : (a b : Of) → same_of a b ≡ false → same_of b b ≡ true → a ≡ b → ⊥
other_of a b differ own e = false≢true (sym differ ∙ ap (λ (of : Of). same_of of b) e ∙ own)

pub other_text : (a b : Name) → same_name a b ≡ false → same_name b b ≡ true → a ≡ b → ⊥
other_text a b differ own e = false≢true (sym differ ∙ ap (λ (text : Name). same_name text b) e ∙ own)

-- ---- types

abbrev pub a : Ty
a = class_type (codes "A")

abbrev pub b : Ty
b = class_type (codes "B")

abbrev pub ints : Ty
ints = base_array bases.Int

abbrev pub longs : Ty
longs = base_array bases.Long

-- arrays of A, of this many dimensions
abbrev pub a_arrays : ℕ → Ty
a_arrays dims = record { dims = dims; of = ofs.Class (codes "A") }

abbrev pub b_arrays : ℕ → Ty
b_arrays dims = record { dims = dims; of = ofs.Class (codes "B") }

abbrev x : Member
x = record { class = a; name = codes "x"; desc = descs.Field (base_type bases.Int) }

abbrev m : Member
m = record { class = a; name = codes "m"; desc = descs.Method [] None }

-- ---- the types that instructions use

abbrev EachUses : List Instruction → Ty → Type 0
EachUses [] ty = ⊤
EachUses (i ∷ rest) ty = UsesType i ty × EachUses rest ty

abbrev NoneUses : List Instruction → Ty → Type 0
NoneUses [] ty = ⊤
NoneUses (i ∷ rest) ty = (UsesType i ty → ⊥) × NoneUses rest ty

-- getstatic, putstatic, getfield and putfield, the four invokes, new, checkcast and instanceof
abbrev users : List Instruction
users =
    instruction_of (instrs.Member getstatic 1) (AField x) ∷ instruction_of (instrs.Member putstatic 1) (AField x)
    ∷ instruction_of (instrs.Member getfield 1) (AField x) ∷ instruction_of (instrs.Member putfield 1) (AField x)
    ∷ instruction_of (instrs.Member invokevirtual 1) (AMethod m) ∷ instruction_of (instrs.Member invokespecial 1) (AMethod m)
    ∷ instruction_of (instrs.Member invokestatic 1) (AMethod m) ∷ instruction_of (instrs.Interface 1 1) (AnInterfaceMethod m)
    ∷ instruction_of (instrs.Class new 1) (AClass a) ∷ instruction_of (instrs.Class checkcast 1) (AClass a)
    ∷ instruction_of (instrs.Class instanceof 1) (AClass a) ∷ []

users_use : EachUses users a
unfolding instruction_of
users_use = (refl, (refl, (refl, (refl, (refl, (refl, (refl, (refl, (refl, (refl, (refl, tt)))))))))))

-- of another class none, and no array of the class
not_b : b ≡ a → ⊥
not_b = other_type b a refl refl

not_array : a_arrays 1 ≡ a → ⊥
not_array = other_type (a_arrays 1) a refl refl

users_of_no_other : NoneUses users b
unfolding instruction_of
users_of_no_other = (not_b, (not_b, (not_b, (not_b, (not_b, (not_b, (not_b, (not_b, (not_b, (not_b, (not_b, tt)))))))))))

users_of_no_array : NoneUses users (a_arrays 1)
unfolding instruction_of
users_of_no_array = (not_array, (not_array, (not_array, (not_array, (not_array, (not_array, (not_array, (not_array, (not_array, (not_array, (not_array, tt)))))))))))

-- anewarray and newarray use the array that they make, and not what its elements are
makers_use : UsesType (instruction_of (instrs.Class anewarray 1) (AClass a)) (a_arrays 1) × UsesType (instruction_of (instrs.Class anewarray 1) (AClass ints)) (array_type ints) × UsesType (instruction_of (instrs.Array 10) Nothing) ints
unfolding instruction_of
makers_use = (refl, refl, refl)

makers_of_no_other : (UsesType (instruction_of (instrs.Class anewarray 1) (AClass a)) a → ⊥) × (UsesType (instruction_of (instrs.Class anewarray 1) (AClass ints)) ints → ⊥) × (UsesType (instruction_of (instrs.Array 10) Nothing) longs → ⊥) × (UsesType (instruction_of (instrs.Array 10) Nothing) (base_type bases.Int) → ⊥)
unfolding instruction_of
makers_of_no_other = (
  other_type a (a_arrays 1) refl refl,
  other_type ints (array_type ints) refl refl,
  other_type longs ints refl refl,
  other_type (base_type bases.Int) ints refl refl,
)

-- what isn't run uses what it names: ldc of an array's class, multianewarray, and operands that aren't taken
abbrev others : List Instruction
others =
    instruction_of (instrs.Literal ldc 1) (AClass ints) ∷ instruction_of (instrs.Literal ldc_w 1) (AClass ints) ∷ instruction_of (instrs.Multi 1 2) (AClass ints)
    ∷ instruction_of (instrs.Member invokevirtual 1) (AField (record x { class = ints })) ∷ instruction_of (instrs.Member getfield 1) (AMethod (record m { class = ints }))
    ∷ instruction_of (instrs.Member invokevirtual 1) (AnInterfaceMethod (record m { class = ints })) ∷ instruction_of (instrs.Interface 1 1) (AMethod (record m { class = ints })) ∷ []

others_use : EachUses others ints
unfolding instruction_of
others_use = (refl, (refl, (refl, (refl, (refl, (refl, (refl, tt)))))))

not_longs : longs ≡ ints → ⊥
not_longs = other_type longs ints refl refl

others_of_no_other : NoneUses others longs
unfolding instruction_of
others_of_no_other = (not_longs, (not_longs, (not_longs, (not_longs, (not_longs, (not_longs, (not_longs, tt)))))))

-- nop, a push of each kind, a local variable, a jump, newarray of floats, invokedynamic, and an operand that names no type, use none
abbrev quiet : List Instruction
quiet =
    instruction_of (instrs.Simple nop) Nothing ∷ instruction_of (instrs.Push bipush (pos 1)) Nothing ∷ instruction_of (instrs.Literal ldc 1) (AnInt (pos 1))
    ∷ instruction_of (instrs.Literal ldc 1) (AText []) ∷ instruction_of (instrs.Literal ldc2_w 1) (ALong (pos 1)) ∷ instruction_of (instrs.Local iload 0 false) Nothing
    ∷ instruction_of (instrs.Branch goto (pos 3)) Nothing ∷ instruction_of (instrs.Array 6) Nothing ∷ instruction_of (instrs.Dynamic 1) Another
    ∷ instruction_of (instrs.Class new 1) Another ∷ []

quiet_use_none : (ty : Ty) → NoneUses quiet ty
unfolding instruction_of simple
quiet_use_none ty = (λ h. h, (λ h. h, (λ h. h, (λ h. h, (λ h. h, (λ h. h, (λ h. h, (λ h. h, (λ h. h, (λ h. h, tt))))))))))

names : NamesType (AClass a) a × NamesType (AField x) a × NamesType (AMethod m) a × NamesType (AnInterfaceMethod m) a
names = (refl, refl, refl, refl)

names_no_other : (NamesType (AClass a) b → ⊥) × (NamesType (AField x) b → ⊥) × (NamesType (AMethod m) b → ⊥) × (NamesType (AnInterfaceMethod m) b → ⊥)
names_no_other = (not_b, not_b, not_b, not_b)

names_none : (ty : Ty) → (NamesType Nothing ty → ⊥) × (NamesType (AnInt (pos 1)) ty → ⊥) × (NamesType (ALong (pos 1)) ty → ⊥) × (NamesType (AText []) ty → ⊥) × (NamesType Another ty → ⊥)
names_none ty = (λ h. h, λ h. h, λ h. h, λ h. h, λ h. h)

-- ---- parts of arrays

-- the array itself, and its elements' arrays; all that a descriptor spells
parts : IsPartOf (a_arrays 3) (a_arrays 3) × IsPartOf (a_arrays 1) (a_arrays 3) × IsPartOf (a_arrays 255) (a_arrays 255) × IsPartOf ints (array_type ints)
parts = (
  record { array = omega arith; few = omega arith; within = omega arith; same = refl },
  record { array = omega arith; few = omega arith; within = omega arith; same = refl },
  record { array = omega arith; few = omega arith; within = omega arith; same = refl },
  record { array = omega arith; few = omega arith; within = omega arith; same = refl },
)

pub no_more_dimensions : IsPartOf (a_arrays 3) (a_arrays 2) → ⊥
no_more_dimensions part = let within : 3 ≤ 2 = part.within in absurd (omega (arith, within))

pub no_element : IsPartOf a (a_arrays 1) → ⊥
no_element part = let array : 1 ≤ 0 = part.array in absurd (omega (arith, array))

not_too_many : IsPartOf (a_arrays 256) (a_arrays 256) → ⊥
not_too_many part = let few : 256 ≤ 255 = part.few in absurd (omega (arith, few))

no_other_class : IsPartOf (b_arrays 1) (a_arrays 3) → ⊥
no_other_class part = other_of (ofs.Class (codes "B")) (ofs.Class (codes "A")) refl refl part.same

pub no_other_base : IsPartOf longs ints → ⊥
no_other_base part = other_of (ofs.Base bases.Long) (ofs.Base bases.Int) refl refl part.same

no_base_of_class : IsPartOf ints (a_arrays 1) → ⊥
no_base_of_class part = other_of (ofs.Base bases.Int) (ofs.Class (codes "A")) refl refl part.same
