-- What an instruction uses is what its constant names.
use Rattle.std.proofs.Common.{◌≡◌, ◌↔◌, ℕ, Bool, true, false, List, [], ◌∷◌, Option, Some, None, IsSomeAnd, option_and_then, unwrap_or, refl, sym, ap, subst, ◌∙◌, inl, inr, ◌⊎◌}
use Rattle.std.specs.Prelude.{nat_eq, nat_le, nat_lt, ◌&&◌, ◌-◌, if◌then◌else◌}
use Rattle.std.specs.Option.{option_map}
use Rattle.dj_names.specs.declared.descriptor.Base.{Base}
use Rattle.dj_names.specs.declared.descriptor.Ty.{Ty}
use Rattle.dj_names.specs.declared.run.Element.{Element}
use Rattle.dj_names.specs.declared.run.Element.TheVariants as elements
use Rattle.std.proofs.lemmas.Bool.{ne_eqb, cases_eq}
use Rattle.dj_names.specs.trusted.Types.{array_type, base_array}
use Rattle.dj_ops.specs.declared.instruction.Instr.{Instr}
use Rattle.dj_ops.specs.declared.instruction.Instr.TheVariants as instrs
use Rattle.dj_pool.specs.trusted.Pool.{Constant, Utf8, Integer, Float, Long, Double, Class, Text, Field, Method, InterfaceMethod, NameAndType, Handle, MethodType, Dynamic, Hole, constant_at, text_at, class_text_of, names_of, both, name_and_type_at, class_name_at, IsClassText, NamesAnyClass, NamesDesc, NamesText, AreNames, IsLinked, IsPool}
use Rattle.dj_model.specs.trusted.Types.{Member}
use Rattle.dj_model.specs.trusted.Instructions.{Named, Nothing, AnInt, ALong, AText, AClass, AField, AMethod, AnInterfaceMethod, Another, Instruction, GetStatic, PutStatic, GetField, PutField, Invoke, New, NewArray, CheckCast, InstanceOf, Other}
use Rattle.dj_model.specs.trusted.Opcodes.{Row, row_does, rows_of, constant_rows, store_rows, stack_rows, number_rows, bit_rows, last_rows, simple, local_rows, operand_does, jump_rows, literal, member, member_does, field_rows, method_rows, interface_method_rows, interface_call, class_use as class_instruction, new_array, array_rows, instruction_of}
use Rattle.dj_declarations.specs.trusted.Files.{type_in, name_in, desc_in}
use Rattle.dj_program.specs.trusted.Naming.{member_from, member_in, named_by, named_at, named_or_another, instruction_in}
use Rattle.dj_image.specs.declared.uses.Use.{Use}
use Rattle.dj_image.specs.declared.uses.Use.TheVariants as uses
use Rattle.dj_image.specs.Imaged.{NamesType, UsesType}
use Rattle.dj_image.specs.Uses.{class_use, literal_use, use_in, base_used, used_type}
use Rattle.dj_image.proofs.Links.{linked_index, IsNamedBy, at_class}

-- ---- as options

abbrev pub type_named : Named → Option Ty
type_named (AClass ty) = Some ty
type_named (AField m) = Some m.class
type_named (AMethod m) = Some m.class
type_named (AnInterfaceMethod m) = Some m.class
type_named named = None

abbrev pub type_used : Instruction → Option Ty
type_used (GetStatic m) = Some m.class
type_used (PutStatic m) = Some m.class
type_used (GetField m) = Some m.class
type_used (PutField m) = Some m.class
type_used (Invoke mode m) = Some m.class
type_used (New class) = Some class
type_used (NewArray class element) = Some class
type_used (CheckCast class) = Some class
type_used (InstanceOf class) = Some class
type_used (Other op named) = type_named named
type_used i = None

some_is : (a b : Ty) → (b ≡ a) ↔ (Some a ≡ Some b)
some_is a b = (λ e. ap Some (sym e), λ e. same e) where
  same : Some a ≡ Some b → b ≡ a
  same e = cc

none_is : (b : Ty) → ⊥ ↔ (None ≡ Some b)
none_is b = (λ x. absurd x, λ e. absurd cc)

names_type : (named : Named) (ty : Ty) → NamesType named ty ↔ (type_named named ≡ Some ty)
names_type (AClass class) ty = some_is class ty
names_type (AField m) ty = some_is m.class ty
names_type (AMethod m) ty = some_is m.class ty
names_type (AnInterfaceMethod m) ty = some_is m.class ty
names_type named ty = none_is ty

pub uses_type : (i : Instruction) (ty : Ty) → UsesType i ty ↔ (type_used i ≡ Some ty)
uses_type (GetStatic m) ty = some_is m.class ty
uses_type (PutStatic m) ty = some_is m.class ty
uses_type (GetField m) ty = some_is m.class ty
uses_type (PutField m) ty = some_is m.class ty
uses_type (Invoke mode m) ty = some_is m.class ty
uses_type (New class) ty = some_is class ty
uses_type (NewArray class element) ty = some_is class ty
uses_type (CheckCast class) ty = some_is class ty
uses_type (InstanceOf class) ty = some_is class ty
uses_type (Other op named) ty = names_type named ty
uses_type i ty = none_is ty

-- ---- members are there

pub record IsThere (pool : List Constant) (class names : ℕ) : Type 0 where
  pub index : ℕ
  pub own : option_and_then class_text_of (constant_at pool class) ≡ Some index
  pub text : List ℕ
  pub spelled : text_at pool index ≡ Some text
  pub pair : List ℕ × List ℕ
  pub named : name_and_type_at pool names ≡ Some pair

pub some_there : {A : Type 0} (P : A → Type 0) (o : Option A) → IsSomeAnd o P → (x : A) × (o ≡ Some x)
some_there P None is = absurd is
some_there P (Some x) is = (x, refl)

named_text : (pool : List Constant) (o : Option ℕ) (x : ℕ) → o ≡ Some x → IsNamedBy pool o → (text : List ℕ) × (text_at pool x ≡ Some text)
named_text pool None x e is = absurd cc
named_text pool (Some y) x e is = let t = some_there _ (text_at pool y) is in let same : y ≡ x = cc in (t.0, subst (λ (n : ℕ). text_at pool n ≡ Some t.0) same t.1)

abbrev Pair : Type 0
Pair = List ℕ × List ℕ

both_there : {A B : Type 0} (a : Option A) (b : Option B) (x : A) (y : B) → a ≡ Some x → b ≡ Some y → both a b ≡ Some (x, y)
both_there (Some a) (Some b) x y e f = let p : a ≡ x = cc in let q : b ≡ y = cc in λ i. Some (p i, q i)
both_there None b x y e f = absurd cc
both_there (Some a) None x y e f = absurd cc

abbrev pair_by : List Constant → Option (ℕ × ℕ) → Option Pair
pair_by pool o = option_and_then (λ (n : ℕ × ℕ). both (text_at pool n.0) (text_at pool n.1)) o

first_text : (pool : List Constant) (name desc : ℕ) → AreNames pool name desc → (text : List ℕ) × (text_at pool name ≡ Some text)
first_text pool name desc (inl field) = some_there _ (text_at pool name) field.0
first_text pool name desc (inr method) = some_there _ (text_at pool name) method.0

pair_there : (pool : List Constant) (X : List ℕ → Type 0) (o : Option Constant) → ((k : Constant) → o ≡ Some k → IsLinked pool k) → IsSomeAnd (option_and_then (λ (n : ℕ × ℕ). text_at pool n.1) (option_and_then names_of o)) X
    → (pair : Pair) × (pair_by pool (option_and_then names_of o) ≡ Some pair)
pair_there pool X None each is = absurd is
pair_there pool X (Some (NameAndType name desc)) each is =
    let n = first_text pool name desc (each (NameAndType name desc) refl) in
    let d = some_there X (text_at pool desc) is in
    ((n.0, d.0), both_there (text_at pool name) (text_at pool desc) n.0 d.0 n.1 d.1)
pair_there pool X (Some (Utf8 t)) each is = absurd is
pair_there pool X (Some (Integer t)) each is = absurd is
pair_there pool X (Some (Float t)) each is = absurd is
pair_there pool X (Some (Long t)) each is = absurd is
pair_there pool X (Some (Double t)) each is = absurd is
pair_there pool X (Some (Class t)) each is = absurd is
pair_there pool X (Some (Text t)) each is = absurd is
pair_there pool X (Some (Field a b)) each is = absurd is
pair_there pool X (Some (Method a b)) each is = absurd is
pair_there pool X (Some (InterfaceMethod a b)) each is = absurd is
pair_there pool X (Some (Handle a b)) each is = absurd is
pair_there pool X (Some (MethodType t)) each is = absurd is
pair_there pool X (Some (Dynamic a b)) each is = absurd is
pair_there pool X (Some Hole) each is = absurd is

pub there : (pool : List Constant) (X : List ℕ → Type 0) (class names : ℕ) → IsPool pool → NamesAnyClass pool class → NamesDesc X pool names → IsThere pool class names
there pool X class names valid c n =
    let index = some_there _ (option_and_then class_text_of (constant_at pool class)) c in
    let text = named_text pool (option_and_then class_text_of (constant_at pool class)) index.0 index.1 (at_class pool valid class) in
    let pair = pair_there pool X (constant_at pool names) (λ k at. linked_index pool names k valid at) n in
    record { index = index.0; own = index.1; text = text.0; spelled = text.1; pair = pair.0; named = pair.1 }

-- its class is one that a class constant may name
pub text_is : (pool : List Constant) → IsPool pool → (class names : ℕ) (t : IsThere pool class names) → IsClassText t.text
text_is pool valid class names t =
    let named : NamesText IsClassText pool t.index = subst (IsNamedBy pool) t.own (at_class pool valid class) in
    subst (λ (o : Option (List ℕ)). IsSomeAnd o IsClassText) t.spelled named

-- the member is that of these texts
abbrev pub there_member : (pool : List Constant) (class names : ℕ) → IsThere pool class names → Member
there_member pool class names t = record { class = type_in t.text; name = t.pair.0; desc = desc_in t.pair.1 }

pub member_is : (pool : List Constant) (class names : ℕ) (t : IsThere pool class names) → member_in pool class names ≡ Some (there_member pool class names t)
member_is pool class names t =
    ap (λ (o : Option (List ℕ × Pair)). option_map member_from o)
    (both_there (class_name_at pool class) (name_and_type_at pool names) t.text t.pair (ap (λ (o : Option ℕ). option_and_then (text_at pool) o) t.own ∙ t.spelled) t.named)

-- ---- what a constant names

abbrev used : List Constant → Option Use → Option Ty
used pool o = option_and_then (used_type pool) o

itself_used : (pool : List Constant) (class names : ℕ) (t : IsThere pool class names) → used pool (option_map uses.Itself (option_and_then class_text_of (constant_at pool class))) ≡ Some (type_in t.text)
itself_used pool class names t =
    ap (λ (o : Option ℕ). used pool (option_map uses.Itself o)) t.own ∙ ap (λ (o : Option (List ℕ)). Some (type_in (unwrap_or o []))) t.spelled

named_use : (pool : List Constant) → IsPool pool → (k : Constant) → IsLinked pool k → type_named (named_by pool k) ≡ used pool (class_use false pool k)
unfolding named_by
named_use pool valid (Class index) is = refl
named_use pool valid (Field class names) is =
    let t = there pool _ class names valid is.0 is.1 in
    ap (λ (o : Option Member). type_named (named_or_another (option_map AField o))) (member_is pool class names t) ∙ sym (itself_used pool class names t)
named_use pool valid (Method class names) is =
    let t = there pool _ class names valid is.0 is.1 in
    ap (λ (o : Option Member). type_named (named_or_another (option_map AMethod o))) (member_is pool class names t) ∙ sym (itself_used pool class names t)
named_use pool valid (InterfaceMethod class names) is =
    let t = there pool _ class names valid is.0 is.1 in
    ap (λ (o : Option Member). type_named (named_or_another (option_map AnInterfaceMethod o))) (member_is pool class names t) ∙ sym (itself_used pool class names t)
named_use pool valid (Utf8 t) is = refl
named_use pool valid (Integer t) is = refl
named_use pool valid (Float t) is = refl
named_use pool valid (Long t) is = refl
named_use pool valid (Double t) is = refl
named_use pool valid (Text t) is = refl
named_use pool valid (NameAndType a b) is = refl
named_use pool valid (Handle a b) is = refl
named_use pool valid (MethodType t) is = refl
named_use pool valid (Dynamic a b) is = refl
named_use pool valid Hole is = refl

-- of whatever stands at an index
at_use : (pool : List Constant) (f : Constant → Option Use) (g : Named → Option Ty) (o : Option Constant) → g Another ≡ None → ((k : Constant) → o ≡ Some k → g (named_by pool k) ≡ used pool (f k))
    → g (named_or_another (option_map (named_by pool) o)) ≡ used pool (option_and_then f o)
at_use pool f g None none each = none
at_use pool f g (Some k) none each = each k refl

index_use : (pool : List Constant) → IsPool pool → (index : ℕ) (f : Constant → Option Use) (g : Named → Option Ty) → g Another ≡ None → ((k : Constant) → IsLinked pool k → g (named_by pool k) ≡ used pool (f k))
    → g (named_at pool index) ≡ used pool (option_and_then f (constant_at pool index))
index_use pool valid index f g none each = at_use pool f g (constant_at pool index) none (λ k at. each k (linked_index pool index k valid at))

-- ---- families

-- none of the rows uses a type
abbrev Plain : List Row → Type 0
Plain [] = Unit {0}
Plain (row ∷ rows) = ((n : ℕ) → type_used (row.does n) ≡ None) × Plain rows

plain_row : (rows : List Row) (op : ℕ) → Plain rows → type_used (row_does rows Nothing op) ≡ None
plain_row [] op plain = refl
plain_row (row ∷ rows) op plain = by (nat_le row.first op && nat_le op row.last) (plain.0 (op - row.first)) (plain_row rows op plain.1) where
  by : (b : Bool) → type_used (row.does (op - row.first)) ≡ None → type_used (row_does rows Nothing op) ≡ None → type_used (if b then row.does (op - row.first) else row_does rows Nothing op) ≡ None
  by true here later = here
  by false here later = later

plain_if : (b : Bool) (xs ys : List Row) → Plain xs → Plain ys → Plain (if b then xs else ys)
plain_if true xs ys p q = p
plain_if false xs ys p q = q

plain_rows : (op : ℕ) → Plain (rows_of op)
plain_rows op =
    plain_if (nat_lt op 46) constant_rows _ (λ n. refl, (λ n. refl, (λ n. refl, (λ n. refl, (λ n. refl, (λ n. refl, (λ n. refl, tt)))))))
    (plain_if (nat_lt op 87) store_rows _ (λ n. refl, (λ n. refl, (λ n. refl, (λ n. refl, (λ n. refl, (λ n. refl, (λ n. refl, (λ n. refl, (λ n. refl, (λ n. refl, (λ n. refl, (λ n. refl, (λ n. refl, (λ n. refl, (λ n. refl, tt)))))))))))))))
    (plain_if (nat_lt op 96) stack_rows _ (λ n. refl, (λ n. refl, (λ n. refl, (λ n. refl, (λ n. refl, (λ n. refl, (λ n. refl, (λ n. refl, (λ n. refl, tt)))))))))
    (plain_if (nat_lt op 120) number_rows _ (λ n. refl, (λ n. refl, (λ n. refl, (λ n. refl, (λ n. refl, (λ n. refl, (λ n. refl, (λ n. refl, (λ n. refl, (λ n. refl, (λ n. refl, (λ n. refl, tt))))))))))))
    (plain_if (nat_lt op 133) bit_rows last_rows (λ n. refl, (λ n. refl, (λ n. refl, (λ n. refl, (λ n. refl, (λ n. refl, (λ n. refl, (λ n. refl, (λ n. refl, (λ n. refl, (λ n. refl, (λ n. refl, tt)))))))))))) (λ n. refl, (λ n. refl, (λ n. refl, (λ n. refl, (λ n. refl, (λ n. refl, (λ n. refl, (λ n. refl, (λ n. refl, (λ n. refl, (λ n. refl, (λ n. refl, (λ n. refl, tt)))))))))))))))))

simple_used : (op : ℕ) → type_used (simple Nothing op) ≡ None
unfolding simple
simple_used op = plain_row (rows_of op) op (plain_rows op)

-- none of the rows of an operand uses a type
abbrev PlainOperands : List (ℕ × (ℕ → Instruction)) → Type 0
PlainOperands [] = Unit {0}
PlainOperands (row ∷ rows) = ((n : ℕ) → type_used (row.1 n) ≡ None) × PlainOperands rows

plain_operand : (rows : List (ℕ × (ℕ → Instruction))) (op n : ℕ) → PlainOperands rows → type_used (operand_does rows Nothing op n) ≡ None
plain_operand [] op n plain = refl
plain_operand (row ∷ rows) op n plain = by (nat_eq op row.0) (plain.0 n) (plain_operand rows op n plain.1) where
  by : (b : Bool) → type_used (row.1 n) ≡ None → type_used (operand_does rows Nothing op n) ≡ None → type_used (if b then row.1 n else operand_does rows Nothing op n) ≡ None
  by true here later = here
  by false here later = later

-- each of the rows uses the class of its member
abbrev OfMember : List (ℕ × (Member → Instruction)) → Type 0
OfMember [] = Unit {0}
OfMember (row ∷ rows) = ((m : Member) → type_used (row.1 m) ≡ Some m.class) × OfMember rows

of_member : (rows : List (ℕ × (Member → Instruction))) (named : Named) (op : ℕ) (m : Member) → OfMember rows → type_named named ≡ Some m.class → type_used (member_does rows named op m) ≡ Some m.class
of_member [] named op m of own = own
of_member (row ∷ rows) named op m of own = by (nat_eq op row.0) (of.0 m) (of_member rows named op m of.1 own) where
  by : (b : Bool) → type_used (row.1 m) ≡ Some m.class → type_used (member_does rows named op m) ≡ Some m.class → type_used (if b then row.1 m else member_does rows named op m) ≡ Some m.class
  by true here later = here
  by false here later = later

member_used : (op : ℕ) (named : Named) → type_used (member op named) ≡ type_named named
member_used op (AField m) = of_member field_rows (AField m) op m (λ x. refl, (λ x. refl, (λ x. refl, (λ x. refl, tt)))) refl
member_used op (AMethod m) = of_member method_rows (AMethod m) op m (λ x. refl, (λ x. refl, (λ x. refl, tt))) refl
member_used op (AnInterfaceMethod m) = of_member interface_method_rows (AnInterfaceMethod m) op m (λ x. refl, (λ x. refl, tt)) refl
member_used op Nothing = refl
member_used op (AnInt z) = refl
member_used op (ALong z) = refl
member_used op (AText t) = refl
member_used op (AClass t) = refl
member_used op Another = refl

interface_used : (count : ℕ) (named : Named) → type_used (interface_call count named) ≡ type_named named
interface_used count (AnInterfaceMethod m) = refl
interface_used count Nothing = refl
interface_used count (AnInt z) = refl
interface_used count (ALong z) = refl
interface_used count (AText t) = refl
interface_used count (AClass t) = refl
interface_used count (AField m) = refl
interface_used count (AMethod m) = refl
interface_used count Another = refl

either_none : (b : Bool) (x y : Instruction) → type_used x ≡ None → type_used y ≡ None → type_used (if b then x else y) ≡ None
either_none true x y p q = p
either_none false x y p q = q

literal_used : (op : ℕ) (named : Named) → type_used (literal op named) ≡ type_named named
literal_used op (AnInt z) = either_none (nat_eq op 20) _ _ refl refl
literal_used op (AText t) = either_none (nat_eq op 20) _ _ refl refl
literal_used op (ALong z) = either_none (nat_eq op 20) _ _ refl refl
literal_used op Nothing = refl
literal_used op (AClass t) = refl
literal_used op (AField m) = refl
literal_used op (AMethod m) = refl
literal_used op (AnInterfaceMethod m) = refl
literal_used op Another = refl

-- of a class constant, an array of it where elements are asked
abbrev element_named : Bool → Named → Option Ty
element_named element (AClass ty) = Some (if element then array_type ty else ty)
element_named element named = type_named named

class_by : (op : ℕ) (ty : Ty) → (op ≡ 189) ⊎ (op ≡ 189 → ⊥) → type_used (class_instruction op (AClass ty)) ≡ Some (if nat_eq op 189 then array_type ty else ty)
class_by op ty (inl e) = subst (λ (n : ℕ). type_used (class_instruction n (AClass ty)) ≡ Some (if nat_eq n 189 then array_type ty else ty)) (sym e) refl
class_by op ty (inr other) = rest (nat_eq op 189) (ne_eqb op 189 other) (nat_eq op 187) (nat_eq op 192) (nat_eq op 193) where
  rest : (a : Bool) → a ≡ false → (b c d : Bool) → type_used (if b then New ty else if a then NewArray (array_type ty) elements.Ref else if c then CheckCast ty else if d then InstanceOf ty else Other op (AClass ty)) ≡ Some (if a then array_type ty else ty)
  rest true e b c d = absurd cc
  rest false e true c d = refl
  rest false e false true d = refl
  rest false e false false true = refl
  rest false e false false false = refl

class_used : (op : ℕ) (named : Named) → type_used (class_instruction op named) ≡ element_named (nat_eq op 189) named
class_used op (AClass ty) = class_by op ty (cases_eq op 189)
class_used op Nothing = refl
class_used op (AnInt z) = refl
class_used op (ALong z) = refl
class_used op (AText t) = refl
class_used op (AField m) = refl
class_used op (AMethod m) = refl
class_used op (AnInterfaceMethod m) = refl
class_used op Another = refl

array_used : (rows : List (ℕ × Base × Element)) (base : ℕ) → type_used (new_array rows base) ≡ base_used rows base
array_used [] base = refl
array_used (row ∷ rows) base = by (nat_eq base row.0) (array_used rows base) where
  by : (b : Bool) → type_used (new_array rows base) ≡ base_used rows base → type_used (if b then NewArray (base_array row.1) row.2 else new_array rows base) ≡ (if b then Some (base_array row.1) else base_used rows base)
  by true rest = refl
  by false rest = rest

-- ---- constants, by what asks for them

other_member : (element : Bool) (f : Member → Named) → ((m : Member) → element_named element (f m) ≡ type_named (f m)) → (o : Option Member) → element_named element (named_or_another (option_map f o)) ≡ type_named (named_or_another (option_map f o))
other_member element f each None = refl
other_member element f each (Some m) = each m

element_class : (pool : List Constant) (element : Bool) (index : ℕ) → Some (if element then array_type (type_in (name_in pool index)) else type_in (name_in pool index)) ≡ used pool (Some (if element then uses.Element index else uses.Itself index))
element_class pool true index = refl
element_class pool false index = refl

element_use : (pool : List Constant) → IsPool pool → (element : Bool) (k : Constant) → IsLinked pool k → element_named element (named_by pool k) ≡ used pool (class_use element pool k)
unfolding named_by
element_use pool valid element (Class index) is = element_class pool element index
element_use pool valid element (Field class names) is = other_member element AField (λ m. refl) (member_in pool class names) ∙ named_use pool valid (Field class names) is
element_use pool valid element (Method class names) is = other_member element AMethod (λ m. refl) (member_in pool class names) ∙ named_use pool valid (Method class names) is
element_use pool valid element (InterfaceMethod class names) is = other_member element AnInterfaceMethod (λ m. refl) (member_in pool class names) ∙ named_use pool valid (InterfaceMethod class names) is
element_use pool valid element (Utf8 t) is = refl
element_use pool valid element (Integer t) is = refl
element_use pool valid element (Float t) is = refl
element_use pool valid element (Long t) is = refl
element_use pool valid element (Double t) is = refl
element_use pool valid element (Text t) is = refl
element_use pool valid element (NameAndType a b) is = refl
element_use pool valid element (Handle a b) is = refl
element_use pool valid element (MethodType t) is = refl
element_use pool valid element (Dynamic a b) is = refl
element_use pool valid element Hole is = refl

literal_named : (pool : List Constant) → IsPool pool → (op : ℕ) (k : Constant) → IsLinked pool k → type_named (named_by pool k) ≡ used pool (literal_use op pool k)
unfolding named_by
literal_named pool valid op (Text t) is = by (nat_eq op 20) where
  by : (b : Bool) → None ≡ used pool (if b then None else Some (uses.Pushed t))
  by true = refl
  by false = refl
literal_named pool valid op (Class index) is = named_use pool valid (Class index) is
literal_named pool valid op (Field class names) is = named_use pool valid (Field class names) is
literal_named pool valid op (Method class names) is = named_use pool valid (Method class names) is
literal_named pool valid op (InterfaceMethod class names) is = named_use pool valid (InterfaceMethod class names) is
literal_named pool valid op (Utf8 t) is = refl
literal_named pool valid op (Integer t) is = refl
literal_named pool valid op (Float t) is = refl
literal_named pool valid op (Long t) is = refl
literal_named pool valid op (Double t) is = refl
literal_named pool valid op (NameAndType a b) is = refl
literal_named pool valid op (Handle a b) is = refl
literal_named pool valid op (MethodType t) is = refl
literal_named pool valid op (Dynamic a b) is = refl
literal_named pool valid op Hole is = refl

-- ---- of an instruction

used_by : (pool : List Constant) → IsPool pool → (instr : Instr) → type_used (instruction_in pool instr) ≡ used pool (use_in pool instr)
unfolding instruction_of
used_by pool valid (instrs.Simple op) = simple_used op
used_by pool valid (instrs.Push op value) = refl
used_by pool valid (instrs.Literal op index) = literal_used op (named_at pool index) ∙ index_use pool valid index (literal_use op pool) type_named refl (literal_named pool valid op)
used_by pool valid (instrs.Local op slot wide) = plain_operand local_rows op slot (λ n. refl, (λ n. refl, (λ n. refl, (λ n. refl, (λ n. refl, (λ n. refl, tt))))))
used_by pool valid (instrs.Inc slot by wide) = refl
used_by pool valid (instrs.Branch op target) = plain_operand jump_rows op _ (λ n. refl, (λ n. refl, (λ n. refl, (λ n. refl, (λ n. refl, (λ n. refl, (λ n. refl, (λ n. refl, (λ n. refl, (λ n. refl, (λ n. refl, (λ n. refl, (λ n. refl, (λ n. refl, (λ n. refl, (λ n. refl, (λ n. refl, (λ n. refl, tt))))))))))))))))))
used_by pool valid (instrs.Table low default targets) = refl
used_by pool valid (instrs.Lookup default pairs) = refl
used_by pool valid (instrs.Member op index) = member_used op (named_at pool index) ∙ index_use pool valid index (class_use false pool) type_named refl (named_use pool valid)
used_by pool valid (instrs.Interface index count) = interface_used count (named_at pool index) ∙ index_use pool valid index (class_use false pool) type_named refl (named_use pool valid)
used_by pool valid (instrs.Dynamic index) = index_use pool valid index (class_use false pool) type_named refl (named_use pool valid)
used_by pool valid (instrs.Class op index) = class_used op (named_at pool index) ∙ index_use pool valid index (class_use (nat_eq op 189) pool) (element_named (nat_eq op 189)) refl (element_use pool valid (nat_eq op 189))
used_by pool valid (instrs.Array base) = array_used array_rows base
used_by pool valid (instrs.Multi index dims) = index_use pool valid index (class_use false pool) type_named refl (named_use pool valid)

-- an instruction uses the types that its use names
pub uses_are : (pool : List Constant) → IsPool pool → (instr : Instr) (ty : Ty) → UsesType (instruction_in pool instr) ty ↔ (option_and_then (used_type pool) (use_in pool instr) ≡ Some ty)
uses_are pool valid instr ty =
    let is = uses_type (instruction_in pool instr) ty in
    let same = used_by pool valid instr in
    (λ u. sym same ∙ is.0 u, λ e. is.1 (same ∙ e))
