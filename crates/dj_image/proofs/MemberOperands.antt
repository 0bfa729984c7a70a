-- What constants are as operands, by what is kept of texts, is what the program says.
use Rattle.std.proofs.Common.{◌≡◌, ℕ, suc, ◌+◌, ◌<◌, ◌≤◌, Bool, true, false, cond, List, [], ◌∷◌, map, length, Option, Some, None, IsSomeAnd, IsTrue, get_or, option_and_then, unwrap_or, refl, sym, ap, subst, ◌∙◌, arith}
use Rattle.std.specs.Prelude.{nat_eq, nat_le, if◌then◌else◌}
use Rattle.std.specs.Option.{option_map}
use Rattle.std.specs.List.{list_all}
use Rattle.std.proofs.lemmas.Bool.{and_parts, both_ways}
use Rattle.std.proofs.lemmas.Bool.Decides.{nat_tests}
use Rattle.std.proofs.lemmas.List.{length-append, length-map}
use Rattle.dj_names.specs.declared.descriptor.Desc.TheVariants as descs
use Rattle.dj_names.specs.declared.descriptor.Ty.{Ty}
use Rattle.dj_names.specs.trusted.Descriptors.{type_text, Describes, IsFieldDescriptor, IsMethodDescriptor}
use Rattle.dj_names.specs.trusted.Types.{Name, same_name, class_type}
use Rattle.dj_pool.specs.trusted.Pool.{Constant, Utf8, Integer, Float, Long, Double, Class, Text, Field, Method, InterfaceMethod, NameAndType, Handle, MethodType, Dynamic, Hole, constant_at, text_at, names_of, both, name_and_type_at, class_text_of, IsClassText, IsLinked, IsPool}
use Rattle.dj_model.specs.trusted.Types.{Member, Prefix, object_name}
use Rattle.dj_model.specs.trusted.Program.{Program, Class as Declared}
use Rattle.dj_model.specs.trusted.Instructions.{AField, AMethod, AnInterfaceMethod}
use Rattle.dj_model.specs.trusted.Linking.{most_classes, interfaces_above, first_method, first_field, field_order, any_method, is_plain, method_chain, or_else, member_class, class_or_object, resolve_method, resolve_field}
use Rattle.dj_declarations.specs.trusted.Files.{desc_in, type_in}
use Rattle.dj_declarations.specs.Members.{IsDescriptor}
use Rattle.dj_class_table.specs.Tables.{class_number, name_of}
use Rattle.dj_class_table.proofs.Numbered.{name_at-number, class_number-within}
use Rattle.dj_class_table.proofs.Orders.{names_from_same}
use Rattle.dj_program.specs.trusted.Naming.{units_in, named_by, named_at, named_or_another}
use Rattle.dj_numbering.specs.Typed.{Typed, AreArrays, is_array_of, texts_of, types_of, type_at, text_number, place_of_text}
use Rattle.dj_numbering.specs.Members.{resolved_method, resolved_field, found_method_number, found_field_number}
use Rattle.dj_numbering.proofs.Homes.{no_method_resolved, no_field_resolved}
use Rattle.dj_numbering.proofs.Numbers.{number_of_class, number_of_none, place_within}
use Rattle.dj_numbering.proofs.Reported.{type_there, type_of_class}
use Rattle.dj_image.specs.Imaged.{Imaged, typed_of}
use Rattle.dj_image.specs.Operands.{class_operand, text_operand, method_operand, field_operand, resolved_method_number, resolved_field_number, named_operand, units_number}
use Rattle.dj_image.specs.Indexed.{Holds, text_class, text_place, is_array}
use Rattle.dj_image.specs.Homes.{home_by, kept_home, IsHome, AreHomes, IsDescribed, method_reported, field_reported, constant_operand, operand_if, operand_at}
use Rattle.dj_image.proofs.Bare.{bare_program, resolve_method_bare, resolve_field_bare}
use Rattle.dj_image.proofs.BareTyped.{found_method_bare, found_field_bare}
use Rattle.dj_image.proofs.ClassTexts.{desc_in_is}
use Rattle.dj_image.proofs.Links.{linked_index}
use Rattle.dj_image.proofs.Named.{ByName, ByDescriptor, written, array_begins, kept_as, class_reported}
use Rattle.dj_image.proofs.Standing.{IsLike, moved}
use Rattle.dj_image.proofs.Used.{IsThere, there, there_member, member_is, text_is}

-- ---- homes

one_at_least : (dims : ℕ) → IsTrue (nat_le 1 dims) → 1 ≤ dims
one_at_least dims le = grind (arith, nat_tests)

not_zero : (dims : ℕ) → 1 ≤ dims → nat_eq dims 0 ≡ false
not_zero dims le = grind (arith, nat_tests)

-- the descriptor of no array is a class's name
no_descriptor : (program : Program) (arrays : List Ty) (text : Name) → IsTrue (list_all (is_array_of program) arrays) → is_array text ≡ false → place_of_text (map type_text arrays) text ≡ None
no_descriptor program [] text each plain = refl
no_descriptor program (ty ∷ arrays) text each plain =
    let parts = and_parts (is_array_of program ty) _ each in
    let some = one_at_least ty.dims ((and_parts (nat_le 1 ty.dims) _ parts.0).0) in
    by (same_name (type_text ty) text) refl (array_begins ty.dims ty.of some) (no_descriptor program arrays text parts.1 plain) where
      by : (b : Bool) → same_name (type_text ty) text ≡ b → is_array (type_text ty) ≡ true → place_of_text (map type_text arrays) text ≡ None → (if b then Some 0 else option_map suc (place_of_text (map type_text arrays) text)) ≡ None
      by true same array later = absurd (both_ways (is_array text) plain (ap is_array (sym (names_from_same (type_text ty) text same)) ∙ array))
      by false same array later = ap (option_map suc) later

class_text_number : (types : Typed) (text : Name) → AreArrays types.program types.arrays → is_array text ≡ false → text_number types text ≡ class_number types.program text
class_text_number types text arrays plain = by (class_number types.program text) refl where
  by : (o : Option ℕ) → class_number types.program text ≡ o → text_number types text ≡ o
  by (Some k) e = number_of_class types.program (map type_text types.arrays) text k e
  by None e = number_of_none types.program (map type_text types.arrays) text e (no_descriptor types.program types.arrays text arrays.each plain)

-- the class in which the members of a constant's class are looked for
home_is : (types : Typed) (object : Option ℕ) (text : Name) → AreArrays types.program types.arrays → object ≡ class_number types.program (object_name types.prefix) → IsClassText text
    → (if is_array text then object else text_number types text) ≡ class_number types.program (member_class types.prefix (type_in text))
home_is types object text arrays reported is = elim (written text is) [
  | ByName named plain ↦
      ap (λ (b : Bool). cond b object (text_number types text)) plain
      ∙ (class_text_number types text arrays plain ∙ ap (λ (ty : Ty). class_number types.program (member_class types.prefix ty)) (sym named))
  | ByDescriptor ty some named spelled array ↦
      ap (λ (b : Bool). cond b object (text_number types text)) array
      ∙ (reported ∙ (ap (λ (b : Bool). class_number types.program (cond b (class_or_object types.prefix ty.of) (object_name types.prefix))) (sym (not_zero ty.dims some))
      ∙ ap (λ (x : Ty). class_number types.program (member_class types.prefix x)) (sym named)))
]

pub home_there : (types : Typed) (pool : List Constant) (classes : List (Option ℕ)) (object : Option ℕ) (class names : ℕ) → IsPool pool → AreArrays types.program types.arrays
    → object ≡ class_number types.program (object_name types.prefix) → Holds (text_class types pool) (length pool + 1) classes
    → (t : IsThere pool class names) → kept_home pool classes object class ≡ class_number types.program (member_class types.prefix (type_in t.text))
home_there types pool classes object class names valid arrays reported held t =
    let own : get_or classes t.index None ≡ text_number types t.text = kept_as pool (text_number types) classes held t.index ∙ ap (option_and_then (text_number types)) t.spelled in
    ap (λ (o : Option ℕ). option_and_then (λ (index : ℕ). home_by classes object index (text_at pool index)) o) t.own
    ∙ (ap (home_by classes object t.index) t.spelled
    ∙ (ap (λ (o : Option ℕ). cond (is_array t.text) object o) own
    ∙ home_is types object t.text arrays reported (text_is pool valid class names t)))

-- ---- members of a class, by its number

abbrev alone : Typed → Ty → Typed
alone types ty = record { program = types.program; prefix = types.prefix; arrays = ty ∷ [] }

alone_at : (types : Typed) (ty : Ty) → type_at (alone types ty) (length types.program + 0) ≡ ty
alone_at types ty = type_there (alone types ty) (length types.program + 0) 0 ty (record { number = refl; within = omega arith }) refl

home_at : (types : Typed) (ty : Ty) (k : ℕ) → Some k ≡ class_number types.program (member_class types.prefix ty) → member_class types.prefix (type_at types k) ≡ member_class types.prefix ty
home_at types ty k is =
    ap (member_class types.prefix) (type_of_class types.program types.arrays k (class_number-within types.program (member_class types.prefix ty) k (sym is)))
    ∙ ap (λ (o : Option Name). unwrap_or o []) (name_at-number types.program (member_class types.prefix ty) k (sym is))

abbrev member_of : Ty → Name → List ℕ → Member
member_of ty name desc = record { class = ty; name = name; desc = desc_in desc }

same_method : (program : Program) (prefix : Prefix) (a b : Ty) (name : Name) (desc : List ℕ) → member_class prefix a ≡ member_class prefix b
    → resolve_method program prefix (member_of a name desc) ≡ resolve_method program prefix (member_of b name desc)
unfolding resolve_method
same_method program prefix a b name desc e =
    ap (λ (home : Name). or_else (first_method program any_method name (desc_in desc) (method_chain program prefix home)) (first_method program is_plain name (desc_in desc) (interfaces_above program home))) e

same_field : (program : Program) (prefix : Prefix) (a b : Ty) (name : Name) (desc : List ℕ) → member_class prefix a ≡ member_class prefix b
    → resolve_field program prefix (member_of a name desc) ≡ resolve_field program prefix (member_of b name desc)
unfolding resolve_field
same_field program prefix a b name desc e = ap (λ (home : Name). first_field program name (desc_in desc) (field_order most_classes program home)) e

method_home : (types : Typed) (ty : Ty) (home : Option ℕ) (name : Name) (desc : List ℕ) → home ≡ class_number types.program (member_class types.prefix ty)
    → option_and_then (λ (k : ℕ). found_method_number types.program (resolved_method types k name desc)) home ≡ found_method_number types.program (resolve_method types.program types.prefix (member_of ty name desc))
method_home types ty (Some k) name desc is = ap (found_method_number types.program) (same_method types.program types.prefix (type_at types k) ty name desc (home_at types ty k is))
method_home types ty None name desc is =
    let there : None ≡ class_number types.program (member_class types.prefix (type_at (alone types ty) (length types.program + 0))) =
    is ∙ ap (λ (x : Ty). class_number types.program (member_class types.prefix x)) (sym (alone_at types ty)) in
    sym (ap (found_method_number types.program) (ap (λ (x : Ty). resolve_method types.program types.prefix (member_of x name desc)) (sym (alone_at types ty))
    ∙ no_method_resolved (alone types ty) (length types.program + 0) name desc there))

field_home : (types : Typed) (ty : Ty) (home : Option ℕ) (name : Name) (desc : List ℕ) → home ≡ class_number types.program (member_class types.prefix ty)
    → option_and_then (λ (k : ℕ). found_field_number types.program (resolved_field types k name desc)) home ≡ found_field_number types.program (resolve_field types.program types.prefix (member_of ty name desc))
field_home types ty (Some k) name desc is = ap (found_field_number types.program) (same_field types.program types.prefix (type_at types k) ty name desc (home_at types ty k is))
field_home types ty None name desc is =
    let there : None ≡ class_number types.program (member_class types.prefix (type_at (alone types ty) (length types.program + 0))) =
    is ∙ ap (λ (x : Ty). class_number types.program (member_class types.prefix x)) (sym (alone_at types ty)) in
    sym (ap (found_field_number types.program) (ap (λ (x : Ty). resolve_field types.program types.prefix (member_of x name desc)) (sym (alone_at types ty))
    ∙ no_field_resolved (alone types ty) (length types.program + 0) name desc there))

-- ---- of a program with its code

method_like : (a b : Typed) (m : Member) → IsLike a b → found_method_number a.program (resolve_method a.program a.prefix m) ≡ found_method_number b.program (resolve_method b.program b.prefix m)
method_like a b m like =
    moved (λ t. found_method_number t.program (resolve_method t.program t.prefix m))
    (λ t. ap (found_method_number (bare_program t.program)) (resolve_method_bare t.program t.prefix m) ∙ found_method_bare t.program (resolve_method t.program t.prefix m)) a b like

field_like : (a b : Typed) (m : Member) → IsLike a b → found_field_number a.program (resolve_field a.program a.prefix m) ≡ found_field_number b.program (resolve_field b.program b.prefix m)
field_like a b m like =
    moved (λ t. found_field_number t.program (resolve_field t.program t.prefix m))
    (λ t. ap (found_field_number (bare_program t.program)) (resolve_field_bare t.program t.prefix m) ∙ found_field_bare t.program (resolve_field t.program t.prefix m)) a b like

-- ---- homes are there

count_same : (types : Typed) → length (texts_of types) ≡ length (types_of types)
count_same types =
    length-append (map name_of types.program) (map type_text types.arrays)
    ∙ (counted (length (map name_of types.program)) (length (map type_text types.arrays)) (length types.program) (length types.arrays) _ (length-map types.program name_of) (length-map types.arrays type_text) (length-map types.program (λ (c : Declared). class_type (name_of c)))
    ∙ sym (length-append (map (λ (c : Declared). class_type (name_of c)) types.program) types.arrays)) where
      counted : (a b c d e : ℕ) → a ≡ c → b ≡ d → e ≡ c → a + b ≡ e + d
      counted a b c d e p q r = omega (arith, p, q, r)

text_home : (types : Typed) (text : Name) → (o : Option ℕ) → text_number types text ≡ o → IsHome types o
text_home types text None e = tt
text_home types text (Some k) e =
    let within : k < length (types_of types) = omega (arith, place_within (texts_of types) text k e, count_same types) in
    within

object_home : (types : Typed) (name : Name) (o : Option ℕ) → o ≡ class_number types.program name → IsHome types o
object_home types name None e = tt
object_home types name (Some k) e =
    let within = class_number-within types.program name k (sym e) in
    let all = length-append (map (λ (c : Declared). class_type (name_of c)) types.program) types.arrays in
    let some = length-map types.program (λ (c : Declared). class_type (name_of c)) in
    let lt : k < length (types_of types) = omega (arith, within, all, some) in
    lt

pub are_homes : (types : Typed) (pool : List Constant) (classes : List (Option ℕ)) (object : Option ℕ)
    → object ≡ class_number types.program (object_name types.prefix) → Holds (text_class types pool) (length pool + 1) classes → AreHomes types pool classes object
are_homes types pool classes object reported held class = by (option_and_then class_text_of (constant_at pool class)) where
  either : (text : Name) (b : Bool) (o : Option ℕ) → o ≡ text_number types text → IsHome types (if b then object else o)
  either text true o e = object_home types (object_name types.prefix) object reported
  either text false o e = subst (IsHome types) (sym e) (text_home types text (text_number types text) refl)

  with_text : (index : ℕ) (o : Option (List ℕ)) → text_at pool index ≡ o → IsHome types (home_by classes object index o)
  with_text index None e = tt
  with_text index (Some text) e = either text (is_array text) (get_or classes index None) (kept_as pool (text_number types) classes held index ∙ ap (option_and_then (text_number types)) e)

  by : (o : Option ℕ) → IsHome types (option_and_then (λ (index : ℕ). home_by classes object index (text_at pool index)) o)
  by None = tt
  by (Some index) = with_text index (text_at pool index) refl

-- ---- names are described

field_described : (text : List ℕ) → IsFieldDescriptor text → IsDescriptor text
field_described text is = subst (Describes text) (sym (desc_in_is text (descs.Field is.0) is.1)) is.1

method_described : (text : List ℕ) → IsMethodDescriptor text → IsDescriptor text
method_described text is = subst (Describes text) (sym (desc_in_is text (descs.Method is.0 is.1) is.2)) is.2

both_described : (name desc : Option (List ℕ)) → IsSomeAnd desc IsDescriptor → IsDescribed (both name desc)
both_described (Some name) (Some desc) is = is
both_described None desc is = tt
both_described (Some name) None is = tt

names_described : (pool : List Constant) (IsSuch : List ℕ → Type 0) → ((text : List ℕ) → IsSuch text → IsDescriptor text) → (o : Option (ℕ × ℕ)) → IsSomeAnd (option_and_then (λ (n : ℕ × ℕ). text_at pool n.1) o) IsSuch
    → IsDescribed (option_and_then (λ (n : ℕ × ℕ). both (text_at pool n.0) (text_at pool n.1)) o)
names_described pool IsSuch each None is = tt
names_described pool IsSuch each (Some n) is = both_described (text_at pool n.0) (text_at pool n.1) (such (text_at pool n.1) is) where
  such : (o : Option (List ℕ)) → IsSomeAnd o IsSuch → IsSomeAnd o IsDescriptor
  such None is = absurd is
  such (Some text) is = each text is

pub field_names : (pool : List Constant) (class names : ℕ) → IsLinked pool (Field class names) → IsDescribed (name_and_type_at pool names)
field_names pool class names is = names_described pool IsFieldDescriptor field_described (option_and_then names_of (constant_at pool names)) is.1

pub method_names : (pool : List Constant) (class names : ℕ) → IsLinked pool (Method class names) → IsDescribed (name_and_type_at pool names)
method_names pool class names is = names_described pool IsMethodDescriptor method_described (option_and_then names_of (constant_at pool names)) is.1

-- ---- operands

module _ (imaged : Imaged) (types : Typed) (like : IsLike (typed_of imaged) types) (pool : List Constant) (valid : IsPool pool) (arrays : AreArrays types.program types.arrays)
    (object : Option ℕ) (reported : object ≡ class_number types.program (object_name types.prefix))
    (classes places : List (Option ℕ)) (held : Holds (text_class types pool) (length pool + 1) classes) (placed : Holds (text_place imaged.texts pool) (length pool + 1) places) where
  field_is : (class names : ℕ) (t : IsThere pool class names) → field_reported types (kept_home pool classes object class) (name_and_type_at pool names) ≡ resolved_field_number imaged (there_member pool class names t)
  field_is class names t =
      ap (field_reported types (kept_home pool classes object class)) t.named
      ∙ (field_home types (type_in t.text) (kept_home pool classes object class) t.pair.0 t.pair.1 (home_there types pool classes object class names valid arrays reported held t)
      ∙ sym (field_like (typed_of imaged) types (there_member pool class names t) like))

  method_is : (class names : ℕ) (t : IsThere pool class names) → method_reported types (kept_home pool classes object class) (name_and_type_at pool names) ≡ resolved_method_number imaged (there_member pool class names t)
  method_is class names t =
      ap (method_reported types (kept_home pool classes object class)) t.named
      ∙ (method_home types (type_in t.text) (kept_home pool classes object class) t.pair.0 t.pair.1 (home_there types pool classes object class names valid arrays reported held t)
      ∙ sym (method_like (typed_of imaged) types (there_member pool class names t) like))

  text_by : (P : List ℕ → Type 0) (o : Option (List ℕ)) → IsSomeAnd o P → option_and_then (λ (text : List ℕ). units_number imaged.texts (units_in text)) o ≡ units_number imaged.texts (units_in (unwrap_or o []))
  text_by P None is = absurd is
  text_by P (Some text) is = refl

  operand_one : (k : Constant) → IsLinked pool k → constant_operand types pool places classes object k ≡ named_operand imaged (named_by pool k)
  unfolding named_by
  operand_one (Text index) is = ap text_operand (kept_as pool (λ (text : List ℕ). units_number imaged.texts (units_in text)) places placed index ∙ text_by _ (text_at pool index) is)
  operand_one (Class index) is = ap class_operand (kept_as pool (text_number types) classes held index ∙ sym (class_reported imaged types like pool index is))
  operand_one (Field class names) is =
      let t = there pool _ class names valid is.0 is.1 in
      ap field_operand (field_is class names t) ∙ sym (ap (λ (o : Option Member). named_operand imaged (named_or_another (option_map AField o))) (member_is pool class names t))
  operand_one (Method class names) is =
      let t = there pool _ class names valid is.0 is.1 in
      ap method_operand (method_is class names t) ∙ sym (ap (λ (o : Option Member). named_operand imaged (named_or_another (option_map AMethod o))) (member_is pool class names t))
  operand_one (InterfaceMethod class names) is =
      let t = there pool _ class names valid is.0 is.1 in
      ap method_operand (method_is class names t) ∙ sym (ap (λ (o : Option Member). named_operand imaged (named_or_another (option_map AnInterfaceMethod o))) (member_is pool class names t))
  operand_one (Integer t) is = refl
  operand_one (Long t) is = refl
  operand_one (Utf8 t) is = refl
  operand_one (Float t) is = refl
  operand_one (Double t) is = refl
  operand_one (NameAndType a b) is = refl
  operand_one (Handle a b) is = refl
  operand_one (MethodType t) is = refl
  operand_one (Dynamic a b) is = refl
  operand_one Hole is = refl

  operand_of_index : (o : Option Constant) → ((k : Constant) → o ≡ Some k → IsLinked pool k) → operand_if types pool places classes object o ≡ named_operand imaged (named_or_another (option_map (named_by pool) o))
  operand_of_index None each = refl
  operand_of_index (Some k) each = operand_one k (each k refl)

  pub operand_kept : (index : ℕ) → operand_at types pool places classes object index ≡ named_operand imaged (named_at pool index)
  operand_kept index = operand_of_index (constant_at pool index) (λ k at. linked_index pool index k valid at)
