-- The texts that instructions push and with which fields begin are those of the classes.
use Rattle.std.proofs.Common.{◌≡◌, ◌↔◌, ℕ, Bool, true, false, List, [], ◌∷◌, Option, Some, None, option_and_then, refl, sym, ap, subst, ◌∙◌, Contains}
use Rattle.std.specs.Prelude.{nat_eq, nat_le, nat_lt, ◌&&◌, ◌-◌, if◌then◌else◌}
use Rattle.std.specs.Option.{option_map}
use Rattle.dj_names.specs.declared.descriptor.Base.{Base}
use Rattle.dj_names.specs.declared.run.Element.{Element}
use Rattle.dj_ops.specs.declared.instruction.Instr.{Instr}
use Rattle.dj_ops.specs.declared.instruction.Instr.TheVariants as instrs
use Rattle.dj_pool.specs.trusted.Pool.{Constant, Utf8, Integer, Float, Long, Double, Class, Text, Field, Method, InterfaceMethod, NameAndType, Handle, MethodType, Dynamic, Hole, constant_at, class_text_of}
use Rattle.dj_model.specs.trusted.Types.{Member}
use Rattle.dj_model.specs.trusted.Instructions.{Named, Nothing, AnInt, ALong, AText, AClass, AField, AMethod, AnInterfaceMethod, Another, Instruction, PushText, Other}
use Rattle.dj_model.specs.trusted.Opcodes.{Row, row_does, rows_of, constant_rows, store_rows, stack_rows, number_rows, bit_rows, last_rows, simple, local_rows, operand_does, jump_rows, literal, member, member_does, field_rows, method_rows, interface_method_rows, interface_call, class_use as class_instruction, new_array, array_rows, instruction_of}
use Rattle.dj_model.specs.trusted.Program.{Program}
use Rattle.dj_declarations.specs.trusted.Files.{name_in}
use Rattle.dj_program.specs.trusted.Naming.{units_in, named_by, named_at, named_or_another, member_in, instruction_in}
use Rattle.dj_image.specs.declared.parts.ClassParts.{ClassParts}
use Rattle.dj_image.specs.declared.uses.Use.{Use}
use Rattle.dj_image.specs.declared.uses.Use.TheVariants as uses
use Rattle.dj_image.specs.Sources.{program_of_sources}
use Rattle.dj_image.specs.Parts.{sources_of, FitClasses}
use Rattle.dj_image.specs.Imaged.{IsPushed}
use Rattle.dj_image.specs.Uses.{class_use, literal_use, use_in, pushed_text, code_uses, class_uses}
use Rattle.dj_image.specs.Texts.{class_texts}
use Rattle.dj_image.proofs.Members.{member_of_filter_map, member_filter_map, member_flat_map}
use Rattle.dj_image.proofs.Programs.{stands_in, in_stands, code_of_use}

abbrev text_pushed : Instruction → Option (List ℕ)
text_pushed (PushText text) = Some text
text_pushed i = None

pushes : (i : Instruction) (text : List ℕ) → text_pushed i ≡ Some text → i ≡ PushText text
pushes (PushText units) text e = let same : units ≡ text = cc in ap PushText same
pushes i text e = absurd cc

-- ---- families that push no text

abbrev Plain : List Row → Type 0
Plain [] = Unit {0}
Plain (row ∷ rows) = ((n : ℕ) → text_pushed (row.does n) ≡ None) × Plain rows

plain_row : (rows : List Row) (op : ℕ) → Plain rows → text_pushed (row_does rows Nothing op) ≡ None
plain_row [] op plain = refl
plain_row (row ∷ rows) op plain = by (nat_le row.first op && nat_le op row.last) (plain.0 (op - row.first)) (plain_row rows op plain.1) where
  by : (b : Bool) → text_pushed (row.does (op - row.first)) ≡ None → text_pushed (row_does rows Nothing op) ≡ None → text_pushed (if b then row.does (op - row.first) else row_does rows Nothing op) ≡ None
  by true here later = here
  by false here later = later

plain_if : (b : Bool) (xs ys : List Row) → Plain xs → Plain ys → Plain (if b then xs else ys)
plain_if true xs ys p q = p
plain_if false xs ys p q = q

plain_rows : (op : ℕ) → Plain (rows_of op)
plain_rows op =
    plain_if (nat_lt op 46) constant_rows _ (λ n. refl, (λ n. refl, (λ n. refl, (λ n. refl, (λ n. refl, (λ n. refl, (λ n. refl, tt)))))))
    (plain_if (nat_lt op 87) store_rows _ (λ n. refl, (λ n. refl, (λ n. refl, (λ n. refl, (λ n. refl, (λ n. refl, (λ n. refl, (λ n. refl, (λ n. refl, (λ n. refl, (λ n. refl, (λ n. refl, (λ n. refl, (λ n. refl, (λ n. refl, tt)))))))))))))))
    (plain_if (nat_lt op 96) stack_rows _ (λ n. refl, (λ n. refl, (λ n. refl, (λ n. refl, (λ n. refl, (λ n. refl, (λ n. refl, (λ n. refl, (λ n. refl, tt)))))))))
    (plain_if (nat_lt op 120) number_rows _ (λ n. refl, (λ n. refl, (λ n. refl, (λ n. refl, (λ n. refl, (λ n. refl, (λ n. refl, (λ n. refl, (λ n. refl, (λ n. refl, (λ n. refl, (λ n. refl, tt))))))))))))
    (plain_if (nat_lt op 133) bit_rows last_rows (λ n. refl, (λ n. refl, (λ n. refl, (λ n. refl, (λ n. refl, (λ n. refl, (λ n. refl, (λ n. refl, (λ n. refl, (λ n. refl, (λ n. refl, (λ n. refl, tt)))))))))))) (λ n. refl, (λ n. refl, (λ n. refl, (λ n. refl, (λ n. refl, (λ n. refl, (λ n. refl, (λ n. refl, (λ n. refl, (λ n. refl, (λ n. refl, (λ n. refl, (λ n. refl, tt)))))))))))))))))

simple_plain : (op : ℕ) → text_pushed (simple Nothing op) ≡ None
unfolding simple
simple_plain op = plain_row (rows_of op) op (plain_rows op)

abbrev PlainOperands : List (ℕ × (ℕ → Instruction)) → Type 0
PlainOperands [] = Unit {0}
PlainOperands (row ∷ rows) = ((n : ℕ) → text_pushed (row.1 n) ≡ None) × PlainOperands rows

plain_operand : (rows : List (ℕ × (ℕ → Instruction))) (op n : ℕ) → PlainOperands rows → text_pushed (operand_does rows Nothing op n) ≡ None
plain_operand [] op n plain = refl
plain_operand (row ∷ rows) op n plain = by (nat_eq op row.0) (plain.0 n) (plain_operand rows op n plain.1) where
  by : (b : Bool) → text_pushed (row.1 n) ≡ None → text_pushed (operand_does rows Nothing op n) ≡ None → text_pushed (if b then row.1 n else operand_does rows Nothing op n) ≡ None
  by true here later = here
  by false here later = later

abbrev PlainMembers : List (ℕ × (Member → Instruction)) → Type 0
PlainMembers [] = Unit {0}
PlainMembers (row ∷ rows) = ((m : Member) → text_pushed (row.1 m) ≡ None) × PlainMembers rows

plain_member : (rows : List (ℕ × (Member → Instruction))) (named : Named) (op : ℕ) (m : Member) → PlainMembers rows → text_pushed (member_does rows named op m) ≡ None
plain_member [] named op m plain = refl
plain_member (row ∷ rows) named op m plain = by (nat_eq op row.0) (plain.0 m) (plain_member rows named op m plain.1) where
  by : (b : Bool) → text_pushed (row.1 m) ≡ None → text_pushed (member_does rows named op m) ≡ None → text_pushed (if b then row.1 m else member_does rows named op m) ≡ None
  by true here later = here
  by false here later = later

member_plain : (op : ℕ) (named : Named) → text_pushed (member op named) ≡ None
member_plain op (AField m) = plain_member field_rows (AField m) op m (λ x. refl, (λ x. refl, (λ x. refl, (λ x. refl, tt))))
member_plain op (AMethod m) = plain_member method_rows (AMethod m) op m (λ x. refl, (λ x. refl, (λ x. refl, tt)))
member_plain op (AnInterfaceMethod m) = plain_member interface_method_rows (AnInterfaceMethod m) op m (λ x. refl, (λ x. refl, tt))
member_plain op Nothing = refl
member_plain op (AnInt z) = refl
member_plain op (ALong z) = refl
member_plain op (AText t) = refl
member_plain op (AClass t) = refl
member_plain op Another = refl

interface_plain : (count : ℕ) (named : Named) → text_pushed (interface_call count named) ≡ None
interface_plain count (AnInterfaceMethod m) = refl
interface_plain count Nothing = refl
interface_plain count (AnInt z) = refl
interface_plain count (ALong z) = refl
interface_plain count (AText t) = refl
interface_plain count (AClass t) = refl
interface_plain count (AField m) = refl
interface_plain count (AMethod m) = refl
interface_plain count Another = refl

either : (b : Bool) (x y : Instruction) → text_pushed x ≡ None → text_pushed y ≡ None → text_pushed (if b then x else y) ≡ None
either true x y p q = p
either false x y p q = q

class_plain : (op : ℕ) (named : Named) → text_pushed (class_instruction op named) ≡ None
class_plain op (AClass ty) = either (nat_eq op 187) _ _ refl (either (nat_eq op 189) _ _ refl (either (nat_eq op 192) _ _ refl (either (nat_eq op 193) _ _ refl refl)))
class_plain op Nothing = refl
class_plain op (AnInt z) = refl
class_plain op (ALong z) = refl
class_plain op (AText t) = refl
class_plain op (AField m) = refl
class_plain op (AMethod m) = refl
class_plain op (AnInterfaceMethod m) = refl
class_plain op Another = refl

array_plain : (rows : List (ℕ × Base × Element)) (base : ℕ) → text_pushed (new_array rows base) ≡ None
array_plain [] base = refl
array_plain (row ∷ rows) base = either (nat_eq base row.0) _ _ refl (array_plain rows base)

-- ---- uses that are no pushes

abbrev pushed : List Constant → Option Use → Option (List ℕ)
pushed pool o = option_and_then (pushed_text pool) o

itself_plain : (pool : List Constant) (o : Option ℕ) → pushed pool (option_map uses.Itself o) ≡ None
itself_plain pool None = refl
itself_plain pool (Some t) = refl

either_plain : (pool : List Constant) (b : Bool) (t : ℕ) → pushed pool (Some (if b then uses.Element t else uses.Itself t)) ≡ None
either_plain pool true t = refl
either_plain pool false t = refl

class_use_plain : (pool : List Constant) (element : Bool) (k : Constant) → pushed pool (class_use element pool k) ≡ None
class_use_plain pool element (Class t) = either_plain pool element t
class_use_plain pool element (Field class names) = itself_plain pool (option_and_then class_text_of (constant_at pool class))
class_use_plain pool element (Method class names) = itself_plain pool (option_and_then class_text_of (constant_at pool class))
class_use_plain pool element (InterfaceMethod class names) = itself_plain pool (option_and_then class_text_of (constant_at pool class))
class_use_plain pool element k = refl

index_plain : (pool : List Constant) (element : Bool) (o : Option Constant) → pushed pool (option_and_then (class_use element pool) o) ≡ None
index_plain pool element None = refl
index_plain pool element (Some k) = class_use_plain pool element k

-- ---- ldc

literal_text : (op : ℕ) (pool : List Constant) (t : ℕ) (b : Bool) → text_pushed (if b then Other op (AText (units_in (name_in pool t))) else PushText (units_in (name_in pool t))) ≡ pushed pool (if b then None else Some (uses.Pushed t))
literal_text op pool t true = refl
literal_text op pool t false = refl

literal_member : (op : ℕ) (f : Member → Named) → ((m : Member) → text_pushed (literal op (f m)) ≡ None) → (o : Option Member) → text_pushed (literal op (named_or_another (option_map f o))) ≡ None
literal_member op f each None = refl
literal_member op f each (Some m) = each m

literal_by : (op : ℕ) (pool : List Constant) (k : Constant) → text_pushed (literal op (named_by pool k)) ≡ pushed pool (literal_use op pool k)
unfolding named_by
literal_by op pool (Text t) = literal_text op pool t (nat_eq op 20)
literal_by op pool (Integer z) = either (nat_eq op 20) _ _ refl refl
literal_by op pool (Long z) = either (nat_eq op 20) _ _ refl refl
literal_by op pool (Class t) = refl
literal_by op pool (Field class names) = literal_member op AField (λ m. refl) (member_in pool class names) ∙ sym (class_use_plain pool false (Field class names))
literal_by op pool (Method class names) = literal_member op AMethod (λ m. refl) (member_in pool class names) ∙ sym (class_use_plain pool false (Method class names))
literal_by op pool (InterfaceMethod class names) = literal_member op AnInterfaceMethod (λ m. refl) (member_in pool class names) ∙ sym (class_use_plain pool false (InterfaceMethod class names))
literal_by op pool (Utf8 t) = refl
literal_by op pool (Float t) = refl
literal_by op pool (Double t) = refl
literal_by op pool (NameAndType a b) = refl
literal_by op pool (Handle a b) = refl
literal_by op pool (MethodType t) = refl
literal_by op pool (Dynamic a b) = refl
literal_by op pool Hole = refl

literal_at : (op : ℕ) (pool : List Constant) (o : Option Constant) → text_pushed (literal op (named_or_another (option_map (named_by pool) o))) ≡ pushed pool (option_and_then (literal_use op pool) o)
literal_at op pool None = refl
literal_at op pool (Some k) = literal_by op pool k

-- ---- of an instruction

pushed_by : (pool : List Constant) (instr : Instr) → text_pushed (instruction_in pool instr) ≡ pushed pool (use_in pool instr)
unfolding instruction_of
pushed_by pool (instrs.Simple op) = simple_plain op
pushed_by pool (instrs.Push op value) = refl
pushed_by pool (instrs.Literal op index) = literal_at op pool (constant_at pool index)
pushed_by pool (instrs.Local op slot wide) = plain_operand local_rows op slot (λ n. refl, (λ n. refl, (λ n. refl, (λ n. refl, (λ n. refl, (λ n. refl, tt))))))
pushed_by pool (instrs.Inc slot by wide) = refl
pushed_by pool (instrs.Branch op target) = plain_operand jump_rows op _ (λ n. refl, (λ n. refl, (λ n. refl, (λ n. refl, (λ n. refl, (λ n. refl, (λ n. refl, (λ n. refl, (λ n. refl, (λ n. refl, (λ n. refl, (λ n. refl, (λ n. refl, (λ n. refl, (λ n. refl, (λ n. refl, (λ n. refl, (λ n. refl, tt))))))))))))))))))
pushed_by pool (instrs.Table low default targets) = refl
pushed_by pool (instrs.Lookup default pairs) = refl
pushed_by pool (instrs.Member op index) = member_plain op (named_at pool index) ∙ sym (index_plain pool false (constant_at pool index))
pushed_by pool (instrs.Interface index count) = interface_plain count (named_at pool index) ∙ sym (index_plain pool false (constant_at pool index))
pushed_by pool (instrs.Dynamic index) = sym (index_plain pool false (constant_at pool index))
pushed_by pool (instrs.Class op index) = class_plain op (named_at pool index) ∙ sym (index_plain pool (nat_eq op 189) (constant_at pool index))
pushed_by pool (instrs.Array base) = array_plain array_rows base
pushed_by pool (instrs.Multi index dims) = sym (index_plain pool false (constant_at pool index))

-- ---- of all

found_push : (pool : List Constant) (o : Option Use) (text : List ℕ) → pushed pool o ≡ Some text → (one : Use) × (o ≡ Some one) × (pushed_text pool one ≡ Some text)
found_push pool None text e = absurd cc
found_push pool (Some one) text e = (one, refl, e)

-- a class pushes the text
abbrev pub PushedIn : List ClassParts → List ℕ → Type 0
PushedIn parts text = (p : ClassParts) × Contains parts p × Contains (class_texts p) text

pub pushed_are : (program : Program) (parts : List ClassParts) → FitClasses program parts → (text : List ℕ) → PushedIn parts text ↔ IsPushed (program_of_sources (sources_of program parts)) text
pushed_are program parts fit text = (to, from) where
  to : PushedIn parts text → IsPushed (program_of_sources (sources_of program parts)) text
  to (p, there, m) =
      let u = member_of_filter_map (pushed_text p.pool) (class_uses p) text m in
      let c = code_of_use p.pool p.codes.items u.0 u.1 in
      let s = in_stands program parts fit p there c.0 c.1 c.2.0 c.2.1 in
      let i = pushes (instruction_in p.pool c.2.0) text (pushed_by p.pool c.2.0 ∙ ap (λ (o : Option Use). pushed p.pool o) c.2.2 ∙ u.2) in
      record { class = s.class; there = s.there; method = s.method; own = s.own; code = s.code; runs = s.runs; stands = subst (λ (x : Instruction). Contains s.code.instructions x) i s.stands }

  from : IsPushed (program_of_sources (sources_of program parts)) text → PushedIn parts text
  from p =
      let s = stands_in program parts fit (PushText text) (record { class = p.class; there = p.there; method = p.method; own = p.own; code = p.code; runs = p.runs; stands = p.stands }) in
      let u = found_push s.class.pool (use_in s.class.pool s.instr) text (sym (pushed_by s.class.pool s.instr) ∙ ap text_pushed s.is) in (
        s.class,
        s.there,
        member_filter_map (pushed_text s.class.pool) (class_uses s.class) u.0 text
            (member_flat_map (code_uses s.class.pool) s.class.codes.items (Some s.code) u.0 s.own (member_filter_map (use_in s.class.pool) s.code.code.code s.instr u.0 s.stands u.1)) u.2,
      )
