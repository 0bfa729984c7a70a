-- What is kept of a constant says what a member's instruction does with it.
use Rattle.std.proofs.Common.{◌≡◌, ℕ, List, Option, get_or, nat_eq, refl, sym, ap, ◌∙◌, inl, inr}
use Rattle.dj_names.specs.trusted.Types.{field_kind}
use Rattle.dj_pool.specs.trusted.Pool.{Constant}
use Rattle.dj_ops.specs.declared.instruction.Instr.TheVariants as instrs
use Rattle.dj_model.specs.trusted.Types.{Member}
use Rattle.dj_model.specs.trusted.Instructions.{Named, Nothing, AnInt, ALong, AText, AClass, AField, AMethod, AnInterfaceMethod, Another}
use Rattle.dj_model.specs.trusted.Kinds.{Signature, call_signature}
use Rattle.dj_model.specs.trusted.Opcodes.{instruction_of, member}
use Rattle.dj_model.proofs.MappedNames.{either}
use Rattle.dj_program.specs.trusted.Naming.{named_at, instruction_in}
use Rattle.dj_shape_rule.specs.Kept.{KeptKinds}
use Rattle.dj_shape_rule.specs.Pools.{SaysKind, ArePoolKinds}
use Rattle.dj_shape_rule.specs.Works.{field_work, method_work, interface_method_work, member_work, work_of}
use Rattle.dj_shape_rule.specs.declared.pool.ConstantKind.{ConstantKind}
use Rattle.dj_shape_rule.specs.declared.pool.ConstantKind.TheVariants.{Int, Long, Text, Class, Field, Method, InterfaceMethod, Other}

field_done : (op : ℕ) (m : Member) → field_work op (field_kind m.desc) ≡ work_of (member op (AField m))
field_done op m = elim (either (nat_eq op 178)) [
  | inl a ↦ rw a refl
  | inr a ↦ elim (either (nat_eq op 179)) [
    | inl b ↦ rw (a, b) refl
    | inr b ↦ elim (either (nat_eq op 180)) [
      | inl d ↦ rw (a, b, d) refl
      | inr d ↦ elim (either (nat_eq op 181)) [ inl e ↦ rw (a, b, d, e) refl | inr e ↦ rw (a, b, d, e) refl ]
    ]
  ]
]

method_done : (op : ℕ) (m : Member) → method_work op (call_signature m.desc) ≡ work_of (member op (AMethod m))
method_done op m = elim (either (nat_eq op 182)) [
  | inl a ↦ rw a refl
  | inr a ↦ elim (either (nat_eq op 183)) [
    | inl b ↦ rw (a, b) refl
    | inr b ↦ elim (either (nat_eq op 184)) [ inl d ↦ rw (a, b, d) refl | inr d ↦ rw (a, b, d) refl ]
  ]
]

interface_method_done : (op : ℕ) (m : Member) → interface_method_work op (call_signature m.desc) ≡ work_of (member op (AnInterfaceMethod m))
interface_method_done op m = elim (either (nat_eq op 183)) [
  | inl a ↦ rw a refl
  | inr a ↦ elim (either (nat_eq op 184)) [ inl b ↦ rw (a, b) refl | inr b ↦ rw (a, b) refl ]
]

member_reported : (calls : List (Option Signature)) (op : ℕ) (named : Named) (kind : ConstantKind) → SaysKind calls named kind
    → member_work calls op kind ≡ work_of (member op named)
member_reported calls op Nothing Int t = absurd t
member_reported calls op Nothing Long t = absurd t
member_reported calls op Nothing Text t = absurd t
member_reported calls op Nothing Class t = absurd t
member_reported calls op Nothing (Field kind) t = absurd t
member_reported calls op Nothing (Method index) t = absurd t
member_reported calls op Nothing (InterfaceMethod index) t = absurd t
member_reported calls op Nothing Other t = absurd t
member_reported calls op (AnInt z) Int t = refl
member_reported calls op (AnInt z) Long t = absurd t
member_reported calls op (AnInt z) Text t = absurd t
member_reported calls op (AnInt z) Class t = absurd t
member_reported calls op (AnInt z) (Field kind) t = absurd t
member_reported calls op (AnInt z) (Method index) t = absurd t
member_reported calls op (AnInt z) (InterfaceMethod index) t = absurd t
member_reported calls op (AnInt z) Other t = absurd t
member_reported calls op (ALong z) Int t = absurd t
member_reported calls op (ALong z) Long t = refl
member_reported calls op (ALong z) Text t = absurd t
member_reported calls op (ALong z) Class t = absurd t
member_reported calls op (ALong z) (Field kind) t = absurd t
member_reported calls op (ALong z) (Method index) t = absurd t
member_reported calls op (ALong z) (InterfaceMethod index) t = absurd t
member_reported calls op (ALong z) Other t = absurd t
member_reported calls op (AText units) Int t = absurd t
member_reported calls op (AText units) Long t = absurd t
member_reported calls op (AText units) Text t = refl
member_reported calls op (AText units) Class t = absurd t
member_reported calls op (AText units) (Field kind) t = absurd t
member_reported calls op (AText units) (Method index) t = absurd t
member_reported calls op (AText units) (InterfaceMethod index) t = absurd t
member_reported calls op (AText units) Other t = absurd t
member_reported calls op (AClass class) Int t = absurd t
member_reported calls op (AClass class) Long t = absurd t
member_reported calls op (AClass class) Text t = absurd t
member_reported calls op (AClass class) Class t = refl
member_reported calls op (AClass class) (Field kind) t = absurd t
member_reported calls op (AClass class) (Method index) t = absurd t
member_reported calls op (AClass class) (InterfaceMethod index) t = absurd t
member_reported calls op (AClass class) Other t = absurd t
member_reported calls op (AField m) Int t = absurd t
member_reported calls op (AField m) Long t = absurd t
member_reported calls op (AField m) Text t = absurd t
member_reported calls op (AField m) Class t = absurd t
member_reported calls op (AField m) (Field kind) t = ap (field_work op) (sym t) ∙ field_done op m
member_reported calls op (AField m) (Method index) t = absurd t
member_reported calls op (AField m) (InterfaceMethod index) t = absurd t
member_reported calls op (AField m) Other t = absurd t
member_reported calls op (AMethod m) Int t = absurd t
member_reported calls op (AMethod m) Long t = absurd t
member_reported calls op (AMethod m) Text t = absurd t
member_reported calls op (AMethod m) Class t = absurd t
member_reported calls op (AMethod m) (Field kind) t = absurd t
member_reported calls op (AMethod m) (Method index) t = ap (method_work op) (sym t) ∙ method_done op m
member_reported calls op (AMethod m) (InterfaceMethod index) t = absurd t
member_reported calls op (AMethod m) Other t = absurd t
member_reported calls op (AnInterfaceMethod m) Int t = absurd t
member_reported calls op (AnInterfaceMethod m) Long t = absurd t
member_reported calls op (AnInterfaceMethod m) Text t = absurd t
member_reported calls op (AnInterfaceMethod m) Class t = absurd t
member_reported calls op (AnInterfaceMethod m) (Field kind) t = absurd t
member_reported calls op (AnInterfaceMethod m) (Method index) t = absurd t
member_reported calls op (AnInterfaceMethod m) (InterfaceMethod index) t = ap (interface_method_work op) (sym t) ∙ interface_method_done op m
member_reported calls op (AnInterfaceMethod m) Other t = absurd t
member_reported calls op Another Int t = absurd t
member_reported calls op Another Long t = absurd t
member_reported calls op Another Text t = absurd t
member_reported calls op Another Class t = absurd t
member_reported calls op Another (Field kind) t = absurd t
member_reported calls op Another (Method index) t = absurd t
member_reported calls op Another (InterfaceMethod index) t = absurd t
member_reported calls op Another Other t = refl

pub member_done : (pool : List Constant) (kinds : KeptKinds) (op index : ℕ) (kind : ConstantKind) → ArePoolKinds pool kinds → kind ≡ get_or kinds.constants index Other
    → member_work kinds.calls op kind ≡ work_of (instruction_in pool (instrs.Member op index))
unfolding instruction_of
member_done pool kinds op index kind are e =
    ap (member_work kinds.calls op) e ∙ member_reported kinds.calls op (named_at pool index) (get_or kinds.constants index Other) (are.each index)
