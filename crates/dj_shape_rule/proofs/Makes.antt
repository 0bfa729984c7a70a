-- Which instructions make an object of a class: new, with a class.
use Rattle.std.proofs.Common.{◌≡◌, ℕ, Bool, true, false, ◌&&◌, List, [], ◌∷◌, map, Option, get_or, nat_eq, nat_lt, refl, sym, ap, ◌∙◌, inl, inr}
use Rattle.std.specs.Prelude.{⊤}
use Rattle.dj_names.specs.declared.descriptor.Base.{Base}
use Rattle.dj_names.specs.declared.run.Element.{Element}
use Rattle.dj_names.specs.declared.run.Value.TheVariants as values
use Rattle.dj_names.specs.trusted.Types.{base_array}
use Rattle.dj_ops.specs.declared.instruction.Instr.{Instr}
use Rattle.dj_ops.specs.declared.instruction.Instr.TheVariants as instrs
use Rattle.dj_pool.specs.trusted.Pool.{Constant}
use Rattle.dj_model.specs.trusted.Types.{Member}
use Rattle.dj_model.specs.trusted.Kinds.{Signature}
use Rattle.dj_model.specs.trusted.Instructions.{Named, Nothing, AnInt, ALong, AText, AClass, AField, AMethod, AnInterfaceMethod, Another, Instruction, Push, PushText, NewArray, Other, makes_uninitialised}
use Rattle.dj_model.specs.trusted.Opcodes.{Row, row_does, simple, constant_rows, store_rows, stack_rows, number_rows, bit_rows, last_rows, local_rows, jump_rows, literal, member, member_does, field_rows, method_rows, interface_method_rows, interface_call, class_use, new_array, array_rows, instruction_of}
use Rattle.dj_model.proofs.MappedNames.{either}
use Rattle.dj_model.proofs.Flows.{either_way}
use Rattle.dj_program.specs.trusted.Naming.{instruction_in, named_at}
use Rattle.dj_shape_rule.specs.Kept.{KeptKinds}
use Rattle.dj_shape_rule.specs.Pools.{ArePoolKinds, SaysKind}
use Rattle.dj_shape_rule.specs.Makes.{is_class, form_makes}
use Rattle.dj_shape_rule.specs.declared.pool.ConstantKind.{ConstantKind}
use Rattle.dj_shape_rule.specs.declared.pool.ConstantKind.TheVariants as constants
use Rattle.dj_shape_rule.proofs.Forms.{AllDo, row_such, operand_such}

abbrev MakesNone : Instruction → Type 0
MakesNone i = makes_uninitialised i ≡ false

none_such : (named : Named) (op : ℕ) (rows : List Row) → AllDo MakesNone rows → MakesNone (row_does rows named op)
none_such named op rows all = row_such MakesNone named op refl rows all

simple_none : (named : Named) (op : ℕ) → MakesNone (simple named op)
unfolding simple
simple_none named op =
    elim (either (nat_lt op 46)) [
      | inl a ↦ rw a (none_such named op constant_rows ((λ n. refl), ((λ n. refl), ((λ n. refl), ((λ n. refl), ((λ n. refl), ((λ n. refl), ((λ n. refl), tt))))))))
      | inr a ↦ elim (either (nat_lt op 87)) [
        | inl b ↦ rw (a, b) (none_such named op store_rows ((λ n. refl), ((λ n. refl), ((λ n. refl), ((λ n. refl), ((λ n. refl), ((λ n. refl), ((λ n. refl), ((λ n. refl), ((λ n. refl), ((λ n. refl), ((λ n. refl), ((λ n. refl), ((λ n. refl), ((λ n. refl), ((λ n. refl), tt))))))))))))))))
        | inr b ↦ elim (either (nat_lt op 96)) [
          | inl c ↦ rw (a, b, c) (none_such named op stack_rows ((λ n. refl), ((λ n. refl), ((λ n. refl), ((λ n. refl), ((λ n. refl), ((λ n. refl), ((λ n. refl), ((λ n. refl), ((λ n. refl), tt))))))))))
          | inr c ↦ elim (either (nat_lt op 120)) [
            | inl d ↦ rw (a, b, c, d) (none_such named op number_rows ((λ n. refl), ((λ n. refl), ((λ n. refl), ((λ n. refl), ((λ n. refl), ((λ n. refl), ((λ n. refl), ((λ n. refl), ((λ n. refl), ((λ n. refl), ((λ n. refl), ((λ n. refl), tt)))))))))))))
            | inr d ↦ elim (either (nat_lt op 133)) [
              | inl e ↦ rw (a, b, c, d, e) (none_such named op bit_rows ((λ n. refl), ((λ n. refl), ((λ n. refl), ((λ n. refl), ((λ n. refl), ((λ n. refl), ((λ n. refl), ((λ n. refl), ((λ n. refl), ((λ n. refl), ((λ n. refl), ((λ n. refl), tt)))))))))))))
              | inr e ↦ rw (a, b, c, d, e) (none_such named op last_rows ((λ n. refl), ((λ n. refl), ((λ n. refl), ((λ n. refl), ((λ n. refl), ((λ n. refl), ((λ n. refl), ((λ n. refl), ((λ n. refl), ((λ n. refl), ((λ n. refl), ((λ n. refl), ((λ n. refl), tt))))))))))))))
            ]
          ]
        ]
      ]
    ]

literal_none : (op : ℕ) (named : Named) → MakesNone (literal op named)
literal_none op (AnInt z) = either_way MakesNone (nat_eq op 20) (Other op (AnInt z)) (Push (values.Int z)) refl refl
literal_none op (AText units) = either_way MakesNone (nat_eq op 20) (Other op (AText units)) (PushText units) refl refl
literal_none op (ALong z) = either_way MakesNone (nat_eq op 20) (Push (values.Long z)) (Other op (ALong z)) refl refl
literal_none op named = refl

abbrev MemberNone : Member → List (ℕ × (Member → Instruction)) → Type 0
MemberNone m [] = ⊤
MemberNone m (row ∷ rows) = MakesNone (row.1 m) × MemberNone m rows

member_such : (named : Named) (op : ℕ) (m : Member) (rows : List (ℕ × (Member → Instruction))) → MemberNone m rows → MakesNone (member_does rows named op m)
member_such named op m [] all = refl
member_such named op m (row ∷ rows) all = either_way MakesNone (nat_eq op row.0) (row.1 m) (member_does rows named op m) all.0 (member_such named op m rows all.1)

member_none : (op : ℕ) (named : Named) → MakesNone (member op named)
member_none op (AField m) = member_such (AField m) op m field_rows (refl, (refl, (refl, (refl, tt))))
member_none op (AMethod m) = member_such (AMethod m) op m method_rows (refl, (refl, (refl, tt)))
member_none op (AnInterfaceMethod m) = member_such (AnInterfaceMethod m) op m interface_method_rows (refl, (refl, tt))
member_none op named = refl

interface_none : (count : ℕ) (named : Named) → MakesNone (interface_call count named)
interface_none count (AnInterfaceMethod m) = refl
interface_none count named = refl

array_none : (rows : List (ℕ × Base × Element)) (base : ℕ) → MakesNone (new_array rows base)
array_none [] base = refl
array_none (row ∷ rows) base = either_way MakesNone (nat_eq base row.0) (NewArray (base_array row.1) row.2) (new_array rows base) refl (array_none rows base)

and_false : (b : Bool) → (b && false) ≡ false
and_false true = refl
and_false false = refl

class_makes : (calls : List (Option Signature)) (op : ℕ) (named : Named) (kind : ConstantKind) → SaysKind calls named kind
    → (nat_eq op 187 && is_class kind) ≡ makes_uninitialised (class_use op named)
class_makes calls op (AClass class) constants.Class t = elim (either (nat_eq op 187)) [
  | inl a ↦ rw a refl
  | inr a ↦ elim (either (nat_eq op 189)) [
    | inl b ↦ rw (a, b) refl
    | inr b ↦ elim (either (nat_eq op 192)) [
      | inl c ↦ rw (a, b, c) refl
      | inr c ↦ elim (either (nat_eq op 193)) [ inl d ↦ rw (a, b, c, d) refl | inr d ↦ rw (a, b, c, d) refl ]
    ]
  ]
]
class_makes calls op (AnInt z) constants.Int t = and_false (nat_eq op 187)
class_makes calls op (ALong z) constants.Long t = and_false (nat_eq op 187)
class_makes calls op (AText units) constants.Text t = and_false (nat_eq op 187)
class_makes calls op (AField m) (constants.Field kind) t = and_false (nat_eq op 187)
class_makes calls op (AMethod m) (constants.Method index) t = and_false (nat_eq op 187)
class_makes calls op (AnInterfaceMethod m) (constants.InterfaceMethod index) t = and_false (nat_eq op 187)
class_makes calls op Another constants.Other t = and_false (nat_eq op 187)
class_makes calls op named kind t = absurd t

pub makes_so : (pool : List Constant) (kinds : KeptKinds) (instr : Instr) → ArePoolKinds pool kinds → form_makes kinds.constants instr ≡ makes_uninitialised (instruction_in pool instr)
unfolding instruction_of
makes_so pool kinds (instrs.Simple op) are = sym (simple_none Nothing op)
makes_so pool kinds (instrs.Push op value) are = refl
makes_so pool kinds (instrs.Literal op index) are = sym (literal_none op (named_at pool index))
makes_so pool kinds (instrs.Local op slot wide) are = sym (operand_such (λ n i. MakesNone i) Nothing op slot refl local_rows ((λ n. refl), ((λ n. refl), ((λ n. refl), ((λ n. refl), ((λ n. refl), ((λ n. refl), tt)))))))
makes_so pool kinds (instrs.Inc slot by wide) are = refl
makes_so pool kinds (instrs.Branch op target) are = sym (operand_such (λ n i. MakesNone i) Nothing op _ refl jump_rows ((λ n. refl), ((λ n. refl), ((λ n. refl), ((λ n. refl), ((λ n. refl), ((λ n. refl), ((λ n. refl), ((λ n. refl), ((λ n. refl), ((λ n. refl), ((λ n. refl), ((λ n. refl), ((λ n. refl), ((λ n. refl), ((λ n. refl), ((λ n. refl), ((λ n. refl), ((λ n. refl), tt)))))))))))))))))))
makes_so pool kinds (instrs.Table low default targets) are = refl
makes_so pool kinds (instrs.Lookup default pairs) are = refl
makes_so pool kinds (instrs.Member op index) are = sym (member_none op (named_at pool index))
makes_so pool kinds (instrs.Interface index count) are = sym (interface_none count (named_at pool index))
makes_so pool kinds (instrs.Dynamic index) are = refl
makes_so pool kinds (instrs.Class op index) are = class_makes kinds.calls op (named_at pool index) (get_or kinds.constants index constants.Other) (are.each index)
makes_so pool kinds (instrs.Array base) are = sym (array_none array_rows base)
makes_so pool kinds (instrs.Multi index dims) are = refl

pub all_make_so : (pool : List Constant) (kinds : KeptKinds) → ArePoolKinds pool kinds → (code : List Instr)
    → map (form_makes kinds.constants) code ≡ map (λ i. makes_uninitialised (instruction_in pool i)) code
all_make_so pool kinds are [] = refl
all_make_so pool kinds are (instr ∷ code) =
    ap (λ (b : Bool). b ∷ map (form_makes kinds.constants) code) (makes_so pool kinds instr are)
    ∙ ap (λ (l : List Bool). makes_uninitialised (instruction_in pool instr) ∷ l) (all_make_so pool kinds are code)
